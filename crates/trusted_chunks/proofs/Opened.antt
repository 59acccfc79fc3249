-- How an opening ends, by the length that came and the slices that were taken.
use Rattle.std.proofs.Common.{Contains, ◌≡◌, ◌≢◌, ℕ, ◌+◌, ◌<◌, ◌≤◌, List, [], ◌∷◌, ◌++◌, length, Some, refl, sym, ap, subst, ◌∙◌, arith, Result, Ok, Err}
use Rattle.std.specs.List.{concat, AllByRecursion}
use Rattle.std.proofs.lemmas.Option.{IfSome_then}
use Rattle.std.proofs.lemmas.List.FromFn.{length-map-range_with_len}
use Rattle.sha2.specs.Sha256.{sha256}
use Rattle.pf_io.specs.Host.{Name, Files, Answer, LengthWas, HostState, files_of}
use Rattle.pf_io.specs.Answered.{IsAnswerOf}
use Rattle.pf_io.proofs.Answering.{answered_then}
use Rattle.lru.proofs.Splits.{Contains-nil}
use Rattle.trusted_chunks.specs.Chunks.{chunk, chunk_count}
use Rattle.pf_io.specs.Slices.{MOST_BYTES, given_in_turn, IsTaken, IsStopped}
use Rattle.trusted_chunks.specs.State.{Kept, FileState, IsSound}
use Rattle.trusted_chunks.specs.Taking.{Takes}
use Rattle.trusted_chunks.specs.Opening.{IsStarved, OpenEnds, Opens, OpensFile, HonestOpen}
use Rattle.trusted_chunks.specs.declared.fault.TrustFault.{TrustFault}
use Rattle.trusted_chunks.specs.declared.fault.TrustFault.TheVariants as faults
use Rattle.trusted_chunks.specs.declared.slices.Taken.{Taken}
use Rattle.pf_io.proofs.Slices.{LengthCame, counts_then, length_in_turn, few_in_turn, there, not_there, taken_all}

abbrev these_of : Name → ℕ → List (List ℕ) → List Answer
these_of name size slices = LengthWas name (Some size) ∷ given_in_turn name 0 slices

-- want of memory before the first slice
pub opens_starved : (name : Name) (sum : List ℕ) (old new : HostState) → LengthCame name old new → Opens (Err faults.Memory) name sum old new
opens_starved name sum old new came = record {
  these = these_of name came.size [];
  answered = came.answered;
  counts = came.counts;
  ends = IsStarved.between (IsStopped.at_slice [] (tt, (came.size, refl)) (omega arith));
}

-- slices of which the taking failed
pub opens_failed : (fault : TrustFault) (name : Name) (sum : List ℕ) (old mid new : HostState) → LengthCame name old mid → Takes (Err fault) name mid new → Opens (Err fault) name sum old new
opens_failed faults.NotFound name sum old mid new came takes = absurd takes.ends
opens_failed faults.TooLarge name sum old mid new came takes =
    let last = takes.ends.0 in
    let is = takes.ends.1 in
    record {
      these = these_of name came.size (takes.whole ++ takes.more);
      answered = answered_then (LengthWas name (Some came.size) ∷ []) (given_in_turn name 0 (takes.whole ++ takes.more)) old mid new came.answered takes.answered;
      counts = counts_then 0 (length (takes.whole ++ takes.more) + 0) _ old mid new came.counts takes.counts (omega (arith, length_in_turn name 0 (takes.whole ++ takes.more)));
      ends = record {
        whole = takes.whole;
        last = last;
        came = (takes.are_whole, (came.size, ap (λ (m : List (List ℕ)). these_of name came.size (takes.whole ++ m)) is));
        not_before = takes.ends.2;
        too_large = subst (λ (m : List (List ℕ)). MOST_BYTES < length (concat (takes.whole ++ m))) is takes.ends.3;
      };
    }
opens_failed (faults.WrongSum found) name sum old mid new came takes = absurd takes.ends
opens_failed faults.Host name sum old mid new came takes = record {
  these = these_of name came.size (takes.whole ++ takes.more);
  answered = answered_then (LengthWas name (Some came.size) ∷ []) (given_in_turn name 0 (takes.whole ++ takes.more)) old mid new came.answered takes.answered;
  counts = counts_then 0 (length (takes.whole ++ takes.more) + 1) _ old mid new came.counts takes.counts (omega (arith, length_in_turn name 0 (takes.whole ++ takes.more)));
  ends = IsStopped.at_slice takes.whole (takes.are_whole, (came.size, ap (λ (m : List (List ℕ)). these_of name came.size (takes.whole ++ m)) takes.ends.0)) takes.ends.1;
}
opens_failed faults.Memory name sum old mid new came takes =
    let last = takes.ends.0 in
    let is = takes.ends.1 in
    record {
      these = these_of name came.size (takes.whole ++ takes.more);
      answered = answered_then (LengthWas name (Some came.size) ∷ []) (given_in_turn name 0 (takes.whole ++ takes.more)) old mid new came.answered takes.answered;
      counts = counts_then 0 (length (takes.whole ++ takes.more) + 0) _ old mid new came.counts takes.counts (omega (arith, length_in_turn name 0 (takes.whole ++ takes.more)));
      ends = IsStarved.at_last takes.whole last (takes.are_whole, (came.size, ap (λ (m : List (List ℕ)). these_of name came.size (takes.whole ++ m)) is))
          (subst (λ (m : List (List ℕ)). length (concat (takes.whole ++ m)) ≤ MOST_BYTES) is takes.ends.2);
    }

-- the file was taken whole
taken_is : (name : Name) (taken : Taken) (mid new : HostState) (size : ℕ) → (takes : Takes (Ok taken) name mid new) → IsTaken name (these_of name size (takes.whole ++ takes.more)) (concat (takes.whole ++ takes.more))
taken_is name taken mid new size takes = record {
  size = size;
  whole = takes.whole;
  last = takes.ends.0;
  are_whole = takes.are_whole;
  ended = takes.ends.2;
  asked = ap (λ (m : List (List ℕ)). these_of name size (takes.whole ++ m)) takes.ends.1;
  bytes_are = ap (λ (m : List (List ℕ)). concat (takes.whole ++ m)) takes.ends.1;
}

pub opens_wrong : (name : Name) (sum : List ℕ) (taken : Taken) (old mid new : HostState) → LengthCame name old mid → Takes (Ok taken) name mid new → taken.sum ≢ sum → Opens (Err (faults.WrongSum taken.sum)) name sum old new
opens_wrong name sum taken old mid new came takes other = record {
  these = these_of name came.size (takes.whole ++ takes.more);
  answered = answered_then (LengthWas name (Some came.size) ∷ []) (given_in_turn name 0 (takes.whole ++ takes.more)) old mid new came.answered takes.answered;
  counts = counts_then 0 (length (takes.whole ++ takes.more) + 0) _ old mid new came.counts takes.counts (omega (arith, length_in_turn name 0 (takes.whole ++ takes.more)));
  ends = record {
    bytes = concat (takes.whole ++ takes.more);
    taken = taken_is name taken mid new came.size takes;
    not_large = takes.ends.3.not_large;
    found_is = takes.ends.3.sum_is;
    other = other;
  };
}

pub opens_ok : (name : Name) (sum : List ℕ) (taken : Taken) (file : FileState) (old mid new : HostState) → LengthCame name old mid → Takes (Ok taken) name mid new → taken.sum ≡ sum → file.name ≡ name → file.size ≡ taken.len → file.hashes ≡ taken.hashes.items
    → file.kept ≡ [] → Opens (Ok file) name sum old new
opens_ok name sum taken file old mid new came takes same name_is size_is hashes_are none = record {
  these = these_of name came.size (takes.whole ++ takes.more);
  answered = answered_then (LengthWas name (Some came.size) ∷ []) (given_in_turn name 0 (takes.whole ++ takes.more)) old mid new came.answered takes.answered;
  counts = counts_then 0 (length (takes.whole ++ takes.more) + 0) _ old mid new came.counts takes.counts (omega (arith, length_in_turn name 0 (takes.whole ++ takes.more)));
  ends = record {
    bytes = concat (takes.whole ++ takes.more);
    taken = taken_is name taken mid new came.size takes;
    not_large = takes.ends.3.not_large;
    sum_is = sym takes.ends.3.sum_is ∙ same;
    holds = record {
      size_is = size_is ∙ takes.ends.3.len_is;
      hashes_are = hashes_are ∙ takes.ends.3.hashes_are;
      kept_are = λ c kept is. absurd (Contains-nil (c, kept) (subst (λ (l : Kept). Contains l (c, kept)) none is));
    };
    name_is = name_is;
    none_kept = none;
  };
}

-- what was opened is sound
pub sound_opened : (taken : Taken) (name : Name) (file : FileState) (mid new : HostState) → Takes (Ok taken) name mid new → file.size ≡ taken.len → file.hashes ≡ taken.hashes.items → file.kept ≡ [] → IsSound file
sound_opened taken name file mid new takes size_is hashes_are none =
    let summed = takes.ends.3 in
    let bytes = concat (takes.whole ++ takes.more) in
    let long : length file.hashes ≡ chunk_count (length bytes) = ap (λ (l : List (List ℕ)). length l) (hashes_are ∙ summed.hashes_are) ∙ length-map-range_with_len (λ c. sha256 (chunk bytes c)) 0 (chunk_count (length bytes)) in
    record {
      within = let a = summed.len_is in let b = summed.not_large in omega (arith, size_is, a, b);
      one_each = long ∙ ap (λ (n : ℕ). chunk_count n) (sym (size_is ∙ summed.len_is));
      few = let no_one : length file.kept ≡ 0 = ap (λ (l : Kept). length l) none in omega (arith, no_one);
    }

opens_file : (r : Result FileState TrustFault) (name : Name) (sum : List ℕ) (these : List Answer) (files : Files) → OpenEnds r name sum these → AllByRecursion (IsAnswerOf files) these → OpensFile r sum (files name)
opens_file (Ok file) name sum these files opened all = rw (taken_all files name these opened.bytes opened.taken all) (opened.holds, opened.sum_is, opened.not_large)
opens_file (Err faults.NotFound) name sum these files is all = not_there (files name) (subst (λ (l : List Answer). AllByRecursion (IsAnswerOf files) l) is all).0
opens_file (Err faults.TooLarge) name sum these files large all =
    let given = subst (λ (l : List Answer). AllByRecursion (IsAnswerOf files) l) large.came.1.1 all in
    let few = few_in_turn files name 0 (large.whole ++ large.last ∷ []) given.1 (omega arith) in
    let is = there (files name) large.came.1.0 given.0 in
    rw is (omega (arith, few, large.too_large))
opens_file (Err (faults.WrongSum found)) name sum these files wrong all = rw (taken_all files name these wrong.bytes wrong.taken all) (wrong.found_is, wrong.other, wrong.not_large)
opens_file (Err faults.Host) name sum these files stopped all = tt
opens_file (Err faults.Memory) name sum these files starved all = tt

pub honest_open : (r : Result FileState TrustFault) (name : Name) (sum : List ℕ) (old new : HostState) → Opens r name sum old new → HonestOpen r name sum old
honest_open r name sum old new opens = IfSome_then (files_of old) opens.answered.honest (λ files all. opens_file r name sum opens.these files opens.ends all)
