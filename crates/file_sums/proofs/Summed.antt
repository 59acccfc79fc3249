-- How the summing of a file ends, by the length that came and the slices that were hashed.
use Rattle.std.proofs.Common.{◌≡◌, ℕ, ◌+◌, ◌<◌, ◌≤◌, List, [], ◌∷◌, ◌++◌, length, Some, refl, sym, ap, subst, ◌∙◌, arith, Result, Ok, Err}
use Rattle.std.specs.List.{concat, AllByRecursion}
use Rattle.std.proofs.lemmas.List.{append-nil}
use Rattle.std.proofs.lemmas.Option.{IfSome_then}
use Rattle.sha2.specs.Sha256.{sha256}
use Rattle.pf_io.specs.Host.{Name, Files, Answer, LengthWas, Gave, HostState, CountsNeither, files_of}
use Rattle.pf_io.specs.Answered.{Answered, IsAnswerOf}
use Rattle.pf_io.proofs.Answering.{answered_then}
use Rattle.pf_io.specs.Slices.{SLICE, MOST_BYTES, given_in_turn, AreWhole, IsStopped}
use Rattle.file_sums.specs.Summing.{IsSumOf, SumEnds, slices_asked, IsSummed, SumsFile, IsOfFile}
use Rattle.file_sums.specs.Taking.{Takes, not_come}
use Rattle.file_sums.specs.declared.fault.SumFault.{SumFault}
use Rattle.file_sums.specs.declared.fault.SumFault.TheVariants as faults
use Rattle.pf_io.proofs.Slices.{reads_neither, reads_then, length_in_turn, few_in_turn, there, not_there, taken_all, in_turn_append, long_last}

abbrev these_of : Name → ℕ → List (List ℕ) → List Answer
these_of name size slices = LengthWas name (Some size) ∷ given_in_turn name 0 slices

-- how it ends, once the file was said to be there
sum_ends : (r : Result (List ℕ) SumFault) (name : Name) (size : ℕ) (mid new : HostState) → (takes : Takes r name mid new) → SumEnds r name (these_of name size (takes.whole ++ takes.more))
sum_ends (Ok sum) name size mid new takes =
    let last = takes.ends.0 in
    let is = takes.ends.1 in
    record {
      bytes = concat (takes.whole ++ takes.more);
      taken = record {
        size = size;
        whole = takes.whole;
        last = last;
        are_whole = takes.are_whole;
        ended = takes.ends.2;
        asked = ap (λ (m : List (List ℕ)). these_of name size (takes.whole ++ m)) is;
        bytes_are = ap (λ (m : List (List ℕ)). concat (takes.whole ++ m)) is;
      };
      not_large = takes.ends.3;
      sum_is = takes.ends.4;
    }
sum_ends (Err faults.NotFound) name size mid new takes = absurd takes.ends
sum_ends (Err faults.TooLarge) name size mid new takes =
    let is = takes.ends.1 in
    record {
      whole = takes.whole;
      last = takes.ends.0;
      came = (takes.are_whole, (size, ap (λ (m : List (List ℕ)). these_of name size (takes.whole ++ m)) is));
      not_before = takes.ends.2;
      too_large = subst (λ (m : List (List ℕ)). MOST_BYTES < length (concat (takes.whole ++ m))) is takes.ends.3;
    }
sum_ends (Err faults.Host) name size mid new takes =
    IsStopped.at_slice takes.whole (takes.are_whole, (size, ap (λ (m : List (List ℕ)). these_of name size (takes.whole ++ m)) takes.ends.0)) takes.ends.1

-- one slice is asked for each that came, and at a fault of the host one more
all_asked : (r : Result (List ℕ) SumFault) (name : Name) (size : ℕ) (slices : List (List ℕ)) (mid new : HostState) → Takes r name mid new → length slices + not_come r ≡ slices_asked r (these_of name size slices)
all_asked (Ok sum) name size slices mid new takes = omega (arith, length_in_turn name 0 slices)
all_asked (Err faults.NotFound) name size slices mid new takes = absurd takes.ends
all_asked (Err faults.TooLarge) name size slices mid new takes = omega (arith, length_in_turn name 0 slices)
all_asked (Err faults.Host) name size slices mid new takes = omega (arith, length_in_turn name 0 slices)

-- the file was said to be there, and its slices were taken
pub summed_taken : (r : Result (List ℕ) SumFault) (name : Name) (size : ℕ) (old mid new : HostState) → Answered (LengthWas name (Some size) ∷ []) old mid → CountsNeither old mid → Takes r name mid new → IsSummed r name old new
summed_taken r name size old mid new asked neither takes =
    let slices = takes.whole ++ takes.more in
    record {
      these = these_of name size slices;
      answered = answered_then (LengthWas name (Some size) ∷ []) (given_in_turn name 0 slices) old mid new asked takes.answered;
      counts = reads_then 0 (length slices + not_come r) (slices_asked r (these_of name size slices)) old mid new (reads_neither old mid neither) takes.counts (let all = all_asked r name size slices mid new takes in omega (arith, all));
      ends = sum_ends r name size mid new takes;
    }

-- what the answers of an honest host say of its file
pub sums_file : (r : Result (List ℕ) SumFault) (name : Name) (these : List Answer) (files : Files) → SumEnds r name these → AllByRecursion (IsAnswerOf files) these → SumsFile r (files name)
sums_file (Ok sum) name these files summed all = rw (taken_all files name these summed.bytes summed.taken all) (summed.sum_is, summed.not_large)
sums_file (Err faults.NotFound) name these files is all = not_there (files name) (subst (λ (l : List Answer). AllByRecursion (IsAnswerOf files) l) is all).0
sums_file (Err faults.TooLarge) name these files large all =
    let given = subst (λ (l : List Answer). AllByRecursion (IsAnswerOf files) l) large.came.1.1 all in
    let few = few_in_turn files name 0 (large.whole ++ large.last ∷ []) given.1 (omega arith) in
    let is = there (files name) large.came.1.0 given.0 in
    rw is (omega (arith, few, large.too_large))
sums_file (Err faults.Host) name these files stopped all = tt

pub honest_sum : (r : Result (List ℕ) SumFault) (name : Name) (old new : HostState) → IsSummed r name old new → IsOfFile r name old
honest_sum r name old new summed = IfSome_then (files_of old) summed.answered.honest (λ files all. sums_file r name summed.these files summed.ends all)

-- where a slice did not come, an empty one would have ended the file
pub empty_ends : (name : Name) (size : ℕ) (slices : List (List ℕ)) (last : List Answer) → AreWhole slices → last ≡ LengthWas name (Some size) ∷ given_in_turn name 0 (slices ++ []) → length (concat slices) ≤ MOST_BYTES
    → (sum : List ℕ) × IsSumOf sum name (last ++ Gave name (length (concat slices)) SLICE [] ∷ [])
empty_ends name size slices last are came small =
    let failed = Gave name (length (concat slices)) SLICE [] in
    let place : 0 + length (concat slices) ≡ length (concat slices) = omega arith in
    let turn : given_in_turn name 0 (slices ++ [] ∷ []) ≡ given_in_turn name 0 (slices ++ []) ++ failed ∷ [] =
    in_turn_append name 0 slices ([] ∷ []) ∙ ap (λ (k : ℕ). given_in_turn name 0 slices ++ Gave name k SLICE [] ∷ []) place ∙ ap (λ (l : List (List ℕ)). given_in_turn name 0 l ++ failed ∷ []) (sym (append-nil slices)) in
    let all_asked : last ++ failed ∷ [] ≡ LengthWas name (Some size) ∷ given_in_turn name 0 (slices ++ [] ∷ []) = ap (λ (l : List Answer). l ++ failed ∷ []) came ∙ ap (λ (l : List Answer). LengthWas name (Some size) ∷ l) (sym turn) in
    let bytes = concat (slices ++ [] ∷ []) in
    let long : length bytes ≡ length (concat slices) = let both = long_last slices [] in omega (arith, both) in (
      sha256 bytes,
      record {
        bytes = bytes;
        taken = record { size = size; whole = slices; last = []; are_whole = are; ended = omega arith; asked = all_asked; bytes_are = refl };
        not_large = omega (arith, long, small);
        sum_is = refl;
      },
    )
