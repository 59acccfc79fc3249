-- The sums of entries, one after the other.
use Rattle.std.proofs.Common.{◌≡◌, ℕ, suc, ◌+◌, ◌-◌, ◌≤◌, set, cond, zero-add, List, [], ◌∷◌, ◌++◌, length, take, drop, Option, Some, None, IfSome, refl, sym, ap, subst, ◌∙◌, arith, append_assoc, Result, Ok, Err, OnOk}
use Rattle.std.specs.List.{slice_get, count_by, AllByRecursion}
use Rattle.std.proofs.lemmas.List.{append-nil, take-append-drop, take_more, drop_more, length-take-le, set_at}
use Rattle.std.proofs.lemmas.List.Sums.{sum_by-append}
use Rattle.std.proofs.lemmas.Option.{IfSome_then, slice_get_within, get_or_from_slice_get}
use Rattle.pf_io.specs.Host.{Name, Files, Answer, LengthWas, Gave, HostState, files_of}
use Rattle.pf_io.specs.Answered.{Answered, IsAnswerOf}
use Rattle.pf_io.specs.Unchanged.{KeepsDisk}
use Rattle.pf_io.proofs.Answering.{all_split, answered_none, answered_then}
use Rattle.pf_io.proofs.Unchanged.{kept_none, kept_then}
use Rattle.manifest_model.specs.declared.entries.Trusted.{Trusted}
use Rattle.manifest_model.specs.Summed.{FitSums}
use Rattle.pf_io.specs.Slices.{SLICE, given_in_turn, ReadsSlices}
use Rattle.file_sums.specs.Summing.{SumEnds, slices_asked}
use Rattle.file_sums.specs.Collecting.{GivesSum, Gives, AllEnd, is_slice, all_host_part, AreSummed, IsSumIn, AreSumsIn, SumsFiles, AreOfFiles, EntryEnds}
use Rattle.file_sums.specs.declared.fault.SumFault.{SumFault}
use Rattle.file_sums.specs.declared.fault.SumFault.TheVariants as sum_faults
use Rattle.file_sums.specs.declared.fault.AllFault.{AllFault}
use Rattle.file_sums.specs.declared.fault.AllFault.TheVariants as faults
use Rattle.pf_io.proofs.Slices.{reads_none, reads_then, length_in_turn}
use Rattle.file_sums.proofs.Summed.{sums_file}

-- after some entries
pub record SummedTo (entries : List Trusted) (sums : List (List ℕ)) (old new : HostState) : Type 0 where
  pub these : List Answer
  pub answered : Answered these old new
  pub counts : ReadsSlices (count_by is_slice these) old new
  pub untouched : these ≡ [] → new ≡ old
  pub faults : new.faults ≡ old.faults
  pub disk : KeepsDisk old new
  pub gives : Gives entries these sums

pub none_summed : (state : HostState) → SummedTo [] [] state state
none_summed state = record {
  these = [];
  answered = answered_none state;
  counts = reads_none state;
  untouched = λ none. refl;
  faults = refl;
  disk = kept_none state;
  gives = (refl, refl);
}

-- one sum came
record EntryGave (sum : List ℕ) (entry : Trusted) (old new : HostState) : Type 0 where
  these : List Answer
  answered : Answered these old new
  counts : ReadsSlices (count_by is_slice these) old new
  untouched : these ≡ [] → new ≡ old
  gives : GivesSum entry.sum entry.name these sum

abbrev one_of : Answer → ℕ
one_of answer = cond (is_slice answer) 1 0

counts_in_turn : (name : Name) (at : ℕ) (slices : List (List ℕ)) → count_by is_slice (given_in_turn name at slices) ≡ length slices
counts_in_turn name at [] = refl
counts_in_turn name at (slice ∷ slices) =
    let rest = given_in_turn name (at + length slice) slices in
    let split : count_by is_slice (given_in_turn name at (slice ∷ slices)) ≡ 1 + count_by is_slice rest = sum_by-append one_of (Gave name at SLICE slice ∷ []) rest in
    let on = counts_in_turn name (at + length slice) slices in
    omega (arith, split, on)

-- of a file's answers all but the length are slices
pub slices_given : (these : List Answer) (size : Option ℕ) (name : Name) (slices : List (List ℕ)) → these ≡ LengthWas name size ∷ given_in_turn name 0 slices → length these - 1 ≡ count_by is_slice these
slices_given these size name slices is =
    let rest = given_in_turn name 0 slices in
    let split : count_by is_slice (LengthWas name size ∷ rest) ≡ count_by is_slice rest = sum_by-append one_of (LengthWas name size ∷ []) rest ∙ zero-add (count_by is_slice rest) in
    let on = counts_in_turn name 0 slices in
    let all : length (LengthWas name size ∷ rest) - 1 ≡ count_by is_slice (LengthWas name size ∷ rest) = omega (arith, split, on, length_in_turn name 0 slices) in
    subst (λ (l : List Answer). length l - 1 ≡ count_by is_slice l) (sym is) all

not_empty : (these : List Answer) (first : Answer) (rest : List Answer) → these ≡ first ∷ rest → these ≡ [] → ⊥
not_empty these first rest is none = let e : first ∷ rest ≡ [] = sym is ∙ none in absurd (cc)

entry_gave : (sum : List ℕ) (entry : Trusted) (old new : HostState) → EntryEnds (Ok sum) entry old new → EntryGave sum entry old new
entry_gave sum entry old new (EntryEnds.Listed listed is ok same) =
    let sum_is : sum ≡ listed = cc in
    record {
      these = [];
      answered = subst (λ (s : HostState). Answered [] old s) (sym same) (answered_none old);
      counts = subst (λ (s : HostState). ReadsSlices 0 old s) (sym same) (reads_none old);
      untouched = λ none. same;
      gives = subst (λ (o : Option (List ℕ)). GivesSum o entry.name [] sum) (sym is) (refl, sum_is);
    }
entry_gave sum entry old new (EntryEnds.Unlisted is summed) =
    let taken = summed.ends.taken in
    let all = slices_given summed.these (Some taken.size) entry.name (taken.whole ++ taken.last ∷ []) taken.asked in
    record {
      these = summed.these;
      answered = summed.answered;
      counts = subst (λ (n : ℕ). ReadsSlices n old new) all summed.counts;
      untouched = λ none. absurd (not_empty summed.these (LengthWas entry.name (Some taken.size)) (given_in_turn entry.name 0 (taken.whole ++ taken.last ∷ [])) taken.asked none);
      gives = subst (λ (o : Option (List ℕ)). GivesSum o entry.name summed.these sum) (sym is) summed.ends;
    }

pub gives_push : (entries : List Trusted) (entry : Trusted) (these last : List Answer) (sums : List (List ℕ)) (sum : List ℕ) → Gives entries these sums → GivesSum entry.sum entry.name last sum → Gives (entries ++ entry ∷ []) (these ++ last) (sums ++ sum ∷ [])
gives_push [] entry these last sums sum so_far gives =
    (last, [], sum, [], gives, (refl, refl), ap (λ (l : List Answer). l ++ last) so_far.0 ∙ sym (append-nil last), ap (λ (l : List (List ℕ)). l ++ sum ∷ []) so_far.1)
gives_push (e ∷ entries) entry these last sums sum so_far gives =
    let rest = gives_push entries entry so_far.1 last so_far.3 sum so_far.5 gives in
    (so_far.0, so_far.1 ++ last, so_far.2, so_far.3 ++ sum ∷ [], so_far.4, rest, ap (λ (l : List Answer). l ++ last) so_far.6 ∙ append_assoc so_far.0 so_far.1 last, ap (λ (l : List (List ℕ)). l ++ sum ∷ []) so_far.7)

both_none : (xs ys : List Answer) → xs ++ ys ≡ [] → (xs ≡ []) × (ys ≡ [])
both_none [] ys none = (refl, none)
both_none (x ∷ xs) ys none = absurd (cc)

pub count_both : (xs ys : List Answer) → count_by is_slice (xs ++ ys) ≡ count_by is_slice xs + count_by is_slice ys
count_both xs ys = sum_by-append one_of xs ys

-- one entry more
summed_more : (entries : List Trusted) (entry : Trusted) (sums : List (List ℕ)) (sum : List ℕ) (old mid new : HostState) → SummedTo entries sums old mid → EntryEnds (Ok sum) entry mid new → new.faults ≡ mid.faults → KeepsDisk mid new
    → SummedTo (entries ++ entry ∷ []) (sums ++ sum ∷ []) old new
summed_more entries entry sums sum old mid new so_far ends faults disk =
    let this = entry_gave sum entry mid new ends in
    record {
      these = so_far.these ++ this.these;
      answered = answered_then so_far.these this.these old mid new so_far.answered this.answered;
      counts = reads_then (count_by is_slice so_far.these) (count_by is_slice this.these) (count_by is_slice (so_far.these ++ this.these)) old mid new so_far.counts this.counts (sym (count_both so_far.these this.these));
      untouched = λ none. let parts = both_none so_far.these this.these none in this.untouched parts.1 ∙ so_far.untouched parts.0;
      faults = faults ∙ so_far.faults;
      disk = kept_then old mid new so_far.disk disk;
      gives = gives_push entries entry so_far.these this.these sums sum so_far.gives this.gives;
    }

-- the entries around the k-th
pub around : (entries : List Trusted) (k : ℕ) (entry : Trusted) → slice_get entries k ≡ Some entry → entries ≡ take k entries ++ entry ∷ drop (k + 1) entries
around entries k entry at =
    sym (take-append-drop k entries) ∙ ap (λ (es : List Trusted). take k entries ++ es) (drop_more entries k entry (slice_get_within entries k entry at))
    ∙ ap (λ (e : Trusted). take k entries ++ e ∷ drop (k + 1) entries) (get_or_from_slice_get entries k entry entry at)

-- the k-th came
pub summed_next : (entries : List Trusted) (k : ℕ) (entry : Trusted) (sums : List (List ℕ)) (sum : List ℕ) (old mid new : HostState) → slice_get entries k ≡ Some entry → SummedTo (take k entries) sums old mid → EntryEnds (Ok sum) entry mid new
    → new.faults ≡ mid.faults → KeepsDisk mid new → SummedTo (take (k + 1) entries) (sums ++ sum ∷ []) old new
summed_next entries k entry sums sum old mid new at so_far ends faults disk =
    let more : take k entries ++ entry ∷ [] ≡ take (k + 1) entries = sym (take_more entries k entry (slice_get_within entries k entry at) ∙ ap (λ (e : Trusted). take k entries ++ e ∷ []) (get_or_from_slice_get entries k entry entry at)) in
    subst (λ (es : List Trusted). SummedTo es (sums ++ sum ∷ []) old new) more (summed_more (take k entries) entry sums sum old mid new so_far ends faults disk)

-- all came
pub all_summed : (entries : List Trusted) (sums : List (List ℕ)) (old new : HostState) → SummedTo entries sums old new → AreSummed (Ok sums) entries old new
all_summed entries sums old new so_far = record {
  these = so_far.these;
  answered = so_far.answered;
  slices = count_by is_slice so_far.these;
  counts = so_far.counts;
  untouched = so_far.untouched;
  ends = AllEnd.Whole sums so_far.gives refl refl;
}

-- there are as many sums as entries
pub gives_length : (entries : List Trusted) (these : List Answer) (sums : List (List ℕ)) → Gives entries these sums → length sums ≡ length entries
gives_length [] these sums gives = ap (λ (l : List (List ℕ)). length l) gives.1
gives_length (entry ∷ entries) these sums gives = ap (λ (l : List (List ℕ)). length l) gives.7 ∙ ap suc (gives_length entries gives.1 gives.3 gives.5)

pub length_to : (entries : List Trusted) (k : ℕ) (sums : List (List ℕ)) (old new : HostState) → k ≤ length entries → SummedTo (take k entries) sums old new → length sums ≡ k
length_to entries k sums old new within so_far = gives_length (take k entries) so_far.these sums so_far.gives ∙ length-take-le k entries within

-- a place that was made for a sum gets it
pub placed : (sums : List (List ℕ)) (k : ℕ) (none sum : List ℕ) → length sums ≡ k → set (sums ++ none ∷ []) k sum ≡ sums ++ sum ∷ []
placed sums k none sum is = set_at sums none [] sum k is

-- memory was wanting before one that is left
pub all_starved : (entries front : List Trusted) (entry : Trusted) (others : List Trusted) (sums : List (List ℕ)) (old new : HostState) → entries ≡ front ++ entry ∷ others → SummedTo front sums old new → AreSummed (Err faults.Memory) entries old new
all_starved entries front entry others sums old new whole so_far = record {
  these = so_far.these;
  answered = so_far.answered;
  slices = count_by is_slice so_far.these;
  counts = so_far.counts;
  untouched = so_far.untouched;
  ends = AllEnd.Starved front entry others sums whole so_far.gives refl refl;
}

-- a refusal that is no fault has answers
refused_told : (why : SumFault) (name : Name) (asked last : List Answer) (old new : HostState) → SumEnds (Err why) name last → OnOk (all_host_part {T = List (List ℕ)} (Err (faults.At name why))) (asked ++ last ≡ [] → new ≡ old)
refused_told sum_faults.NotFound name asked last old new is = λ none. absurd (not_empty last (LengthWas name None) [] is (both_none asked last none).1)
refused_told sum_faults.TooLarge name asked last old new large = λ none. absurd (not_empty last (LengthWas name (Some large.came.1.0)) (given_in_turn name 0 (large.whole ++ large.last ∷ [])) large.came.1.1 (both_none asked last none).1)
refused_told sum_faults.Host name asked last old new stopped = tt

-- one was refused after some
pub all_refused : (entries front : List Trusted) (entry : Trusted) (others : List Trusted) (sums : List (List ℕ)) (why : SumFault) (old mid new : HostState) → entries ≡ front ++ entry ∷ others → SummedTo front sums old mid
    → EntryEnds (Err why) entry mid new → AreSummed (Err (faults.At entry.name why)) entries old new
all_refused entries front entry others sums why old mid new whole so_far (EntryEnds.Listed listed is ok same) = absurd (cc)
all_refused entries front entry others sums why old mid new whole so_far (EntryEnds.Unlisted is summed) =
    record {
      these = so_far.these ++ summed.these;
      answered = answered_then so_far.these summed.these old mid new so_far.answered summed.answered;
      slices = count_by is_slice so_far.these + slices_asked {T = List ℕ} (Err why) summed.these;
      counts = reads_then (count_by is_slice so_far.these) (slices_asked {T = List ℕ} (Err why) summed.these) (count_by is_slice so_far.these + slices_asked {T = List ℕ} (Err why) summed.these) old mid new so_far.counts summed.counts refl;
      untouched = refused_told why entry.name so_far.these summed.these old new summed.ends;
      ends = AllEnd.Refused front entry others so_far.these summed.these sums why whole so_far.gives is summed.ends refl refl refl;
    }

-- the sums are one for each entry, and the listed ones
gives_fit : (entries : List Trusted) (these : List Answer) (sums : List (List ℕ)) → Gives entries these sums → FitSums entries sums
gives_fit [] these sums gives = subst (λ (l : List (List ℕ)). FitSums [] l) (sym gives.1) tt
gives_fit (entry ∷ entries) these sums gives =
    subst (λ (l : List (List ℕ)). FitSums (entry ∷ entries) l) (sym gives.7) (listed entry.sum gives.4, gives_fit entries gives.1 gives.3 gives.5)
  where
    listed : (o : Option (List ℕ)) → GivesSum o entry.name gives.0 gives.2 → IfSome o (λ l. l ≡ gives.2)
    listed (Some l) given = sym given.1
    listed None given = tt

pub sums_fit : (entries : List Trusted) (sums : List (List ℕ)) (old new : HostState) → AreSummed (Ok sums) entries old new → FitSums entries sums
sums_fit entries sums old new summed = by_end summed.ends
  where
    by_end : AllEnd entries summed.these summed.slices (Ok sums) → FitSums entries sums
    by_end (AllEnd.Whole came gives slices is) = let same : came ≡ sums = cc in subst (λ (l : List (List ℕ)). FitSums entries l) same (gives_fit entries summed.these came gives)
    by_end (AllEnd.Refused front entry others asked last some why whole gives unlisted ends told slices is) = absurd (cc)
    by_end (AllEnd.Starved front entry others some whole gives slices is) = absurd (cc)

-- what the answers of an honest host give is of its files
pub gives_in : (files : Files) (entries : List Trusted) (these : List Answer) (sums : List (List ℕ)) → Gives entries these sums → AllByRecursion (IsAnswerOf files) these → AreSumsIn files entries sums
gives_in files [] these sums gives all = gives.1
gives_in files (entry ∷ entries) these sums gives all =
    let parts = all_split (IsAnswerOf files) gives.0 gives.1 (subst (λ (l : List Answer). AllByRecursion (IsAnswerOf files) l) gives.6 all) in
    (gives.2, gives.3, by_sum entry.sum gives.4 parts.0, gives_in files entries gives.1 gives.3 gives.5 parts.1, gives.7)
  where
    by_sum : (o : Option (List ℕ)) → GivesSum o entry.name gives.0 gives.2 → AllByRecursion (IsAnswerOf files) gives.0 → IsSumIn o (files entry.name) gives.2
    by_sum (Some listed) given all = given.1
    by_sum None given all = sums_file (Ok gives.2) entry.name gives.0 files given all

pub all_in : (files : Files) (entries : List Trusted) (these : List Answer) (n : ℕ) (r : Result (List (List ℕ)) AllFault) → AllEnd entries these n r → AllByRecursion (IsAnswerOf files) these → SumsFiles files entries r
all_in files entries these n r (AllEnd.Whole sums gives slices is) all = rw is (gives_in files entries these sums gives all)
all_in files entries these n r (AllEnd.Refused front entry others asked last sums why whole gives unlisted ends told slices is) all =
    let parts = all_split (IsAnswerOf files) asked last (subst (λ (l : List Answer). AllByRecursion (IsAnswerOf files) l) told all) in
    rw is (record {
      front = front;
      entry = entry;
      others = others;
      sums = sums;
      whole = whole;
      before = gives_in files front asked sums gives parts.0;
      unlisted = unlisted;
      refused = sums_file (Err why) entry.name last files ends parts.1;
      name_is = refl;
    })
all_in files entries these n r (AllEnd.Starved front entry others sums whole gives slices is) all = rw is tt

pub honest_sums : (r : Result (List (List ℕ)) AllFault) (entries : List Trusted) (old new : HostState) → AreSummed r entries old new → AreOfFiles r entries old
honest_sums r entries old new summed = IfSome_then (files_of old) summed.answered.honest (λ files all. all_in files entries summed.these summed.slices r summed.ends all)

-- a name that was copied into an empty text
pub name_copied : (made now was copy name : List ℕ) → made ≡ now → now ≡ was ++ copy → was ≡ [] → copy ≡ name → made ≡ name
name_copied made now was copy name is more none same = is ∙ more ∙ ap (λ (l : List ℕ). l ++ copy) none ∙ same
