-- A file that is taken in slices, one after the other.
use Rattle.std.proofs.Common.{◌≡◌, ℕ, zero, suc, ◌+◌, ◌-◌, ◌*◌, ◌<◌, ◌≤◌, true, List, [], ◌∷◌, ◌++◌, length, take, drop, Option, Some, None, refl, sym, ap, subst, ◌∙◌, arith, length-append, length-drop, length-take, Result}
use Rattle.std.specs.Prelude.{is_some}
use Rattle.std.specs.List.{concat, AllByRecursion}
use Rattle.std.proofs.lemmas.List.{take_all, take-append-drop, drop-drop, append-nil, length-take-le}
use Rattle.std.proofs.lemmas.List.Folds.{concat-append}
use Rattle.pf_io.specs.Counts.{HasCause, counted, counted_times}
use Rattle.pf_io.specs.Disk.{Name, Files}
use Rattle.pf_io.specs.Host.{Answer, LengthWas, Gave, HostState, Both, IsMore, KeepsFiles, KeepsRest, ReadsFrom, OnHonest, CountsRead, CountsNeither, length_of, contents}
use Rattle.pf_io.specs.Answered.{Answered, IsAnswerOf}
use Rattle.pf_io.specs.Slices.{SLICE, given_in_turn, AreWhole, IsTaken, ReadsSlices, CountsSlices, SliceCame, NoSliceCame}
use Rattle.pf_io.proofs.Answering.{answered_none, answered_bytes, answered_fault, answered_length, answered_then}

pub counts_none : (n : ℕ) (state : HostState) → CountsSlices n state state
counts_none n state = record { reads = omega arith; writes = refl; widest = omega arith }

pub counts_then : (m n most : ℕ) (old mid new : HostState) → CountsSlices m old mid → CountsSlices n mid new → m + n ≤ most → CountsSlices most old new
counts_then m n most old mid new first second le = record {
  reads = let a = first.reads in let b = second.reads in omega (arith, a, b, le);
  writes = second.writes ∙ first.writes;
  widest = let a = first.widest in let b = second.widest in omega (arith, a, b);
}

-- counts of reads, one after another
pub times_then : (m n count : ℕ) → counted_times n (counted_times m count) ≡ counted_times (m + n) count
times_then zero n count = let e : n ≡ zero + n = omega arith in ap (λ (k : ℕ). counted_times k count) e
times_then (suc m) n count = let e : suc (m + n) ≡ suc m + n = omega arith in times_then m n (counted count) ∙ ap (λ (k : ℕ). counted_times k count) e

times_few : (n count : ℕ) → counted_times n count ≤ count + n
times_few zero count = omega arith
times_few (suc n) count = let on = times_few n (counted count) in omega (arith, on)

pub reads_none : (state : HostState) → ReadsSlices 0 state state
reads_none state = record { reads = refl; writes = refl; widest = omega arith }

pub reads_neither : (old new : HostState) → CountsNeither old new → ReadsSlices 0 old new
reads_neither old new counts = record { reads = counts.reads; writes = counts.writes; widest = let e = counts.widest in omega (arith, e) }

pub reads_once : (room : ℕ) (old new : HostState) → room ≡ SLICE → CountsRead room old new → ReadsSlices 1 old new
reads_once room old new is counts = record { reads = counts.reads; writes = counts.writes; widest = let e = counts.widest in omega (arith, e, is) }

pub reads_then : (m n all : ℕ) (old mid new : HostState) → ReadsSlices m old mid → ReadsSlices n mid new → m + n ≡ all → ReadsSlices all old new
reads_then m n all old mid new first second is = record {
  reads = second.reads ∙ ap (λ (count : ℕ). counted_times n count) first.reads ∙ times_then m n old.reads ∙ ap (λ (k : ℕ). counted_times k old.reads) is;
  writes = second.writes ∙ first.writes;
  widest = let a = first.widest in let b = second.widest in omega (arith, a, b);
}

-- as many reads are at most as many
pub counts_few : (n : ℕ) (old new : HostState) → ReadsSlices n old new → CountsSlices n old new
counts_few n old new reads = record {
  reads = let e = reads.reads in let few = times_few n old.reads in omega (arith, e, few);
  writes = reads.writes;
  widest = reads.widest;
}

pub slice_came : (name : Name) (at n : ℕ) (before buffer : List ℕ) (old new : HostState) → length before ≡ SLICE → KeepsRest n before buffer → Both old.given new.given (IsMore (Gave name at (length before) (take n buffer) ∷ []))
    → KeepsFiles old new → OnHonest old (λ files. ReadsFrom at n buffer (contents (files name))) → CountsRead (length before) old new → SliceCame name at (take n buffer) old new
slice_came name at n before buffer old new long rest told files honest counts = record {
  short = let a = rest.within in omega (arith, long, a, length-take-le n buffer (omega (arith, a, rest.same_length)));
  answered = answered_bytes name at n SLICE before buffer old new rest long (subst (λ (r : ℕ). Both old.given new.given (IsMore (Gave name at r (take n buffer) ∷ []))) long told) files honest;
  counts = reads_once (length before) old new long counts;
}

pub no_slice_came : (room : ℕ) (old new : HostState) → room ≡ SLICE → new.given ≡ old.given → KeepsFiles old new → CountsRead room old new → NoSliceCame 1 old new
no_slice_came room old new is same files counts = record { answered = answered_fault old new same files; counts = reads_once room old new is counts }

pub none_asked : (state : HostState) → NoSliceCame 0 state state
none_asked state = record { answered = answered_none state; counts = reads_none state }

-- a cause after calls that were no fault
pub cause_on : (a b c : ℕ) (r : Result (Unit {0}) (Unit {0})) → b ≡ a → HasCause b c r → HasCause a c r
cause_on a b c r same cause = subst (λ (x : ℕ). HasCause x c r) same cause

pub whole_length : (slices : List (List ℕ)) → AreWhole slices → length (concat slices) ≡ SLICE * length slices
whole_length [] whole = refl
whole_length (slice ∷ slices) whole = let on = whole_length slices whole.1 in let first = whole.0 in omega (arith, on, first, length-append slice (concat slices))

-- slices that came behind others
pub in_turn_append : (name : Name) (at : ℕ) (xs ys : List (List ℕ)) → given_in_turn name at (xs ++ ys) ≡ given_in_turn name at xs ++ given_in_turn name (at + length (concat xs)) ys
in_turn_append name at [] ys = ap (λ (k : ℕ). given_in_turn name k ys) (omega arith)
in_turn_append name at (x ∷ xs) ys =
    let place : at + length x + length (concat xs) ≡ at + length (x ++ concat xs) = omega (arith, length-append x (concat xs)) in
    ap (λ (l : List Answer). Gave name at SLICE x ∷ l) (in_turn_append name (at + length x) xs ys ∙ ap (λ (k : ℕ). given_in_turn name (at + length x) xs ++ given_in_turn name k ys) place)

pub concat_last : (whole : List (List ℕ)) (last : List ℕ) → concat (whole ++ last ∷ []) ≡ concat whole ++ last
concat_last whole last = concat-append whole (last ∷ []) ∙ ap (λ (l : List ℕ). concat whole ++ l) (append-nil last)

pub length_in_turn : (name : Name) (at : ℕ) (slices : List (List ℕ)) → length (given_in_turn name at slices) ≡ length slices
length_in_turn name at [] = refl
length_in_turn name at (slice ∷ slices) = let on = length_in_turn name (at + length slice) slices in omega (arith, on)

-- one slice more came
pub more_answered : (name : Name) (len : ℕ) (whole : List (List ℕ)) (slice : List ℕ) (old mid new : HostState) → len ≡ length (concat whole) → Answered (given_in_turn name 0 whole) old mid → SliceCame name len slice mid new
    → Answered (given_in_turn name 0 (whole ++ slice ∷ [])) old new
more_answered name len whole slice old mid new is first came =
    let place : 0 + length (concat whole) ≡ len = omega (arith, is) in
    let all : given_in_turn name 0 (whole ++ slice ∷ []) ≡ given_in_turn name 0 whole ++ Gave name len SLICE slice ∷ [] =
    in_turn_append name 0 whole (slice ∷ []) ∙ ap (λ (k : ℕ). given_in_turn name 0 whole ++ Gave name k SLICE slice ∷ []) place in
    subst (λ (l : List Answer). Answered l old new) (sym all) (answered_then (given_in_turn name 0 whole) (Gave name len SLICE slice ∷ []) old mid new first came.answered)

pub more_counts : (n : ℕ) (whole : List (List ℕ)) (slice : List ℕ) (old mid new : HostState) → CountsSlices (length whole) old mid → ReadsSlices 1 mid new → n ≡ 0 → CountsSlices (length (whole ++ slice ∷ []) + n) old new
more_counts n whole slice old mid new first second is = counts_then (length whole) 1 (length (whole ++ slice ∷ []) + n) old mid new first (counts_few 1 mid new second) (omega (arith, is, length-append whole (slice ∷ [])))

pub long_last : (whole : List (List ℕ)) (slice : List ℕ) → length (concat (whole ++ slice ∷ [])) ≡ length (concat whole) + length slice
long_last whole slice = ap (λ (l : List ℕ). length l) (concat_last whole slice) ∙ length-append (concat whole) slice

-- the file was said to be there
pub record LengthCame (name : Name) (old new : HostState) : Type 0 where
  pub size : ℕ
  pub answered : Answered (LengthWas name (Some size) ∷ []) old new
  pub counts : CountsSlices 0 old new

some_of : (o : Option ℕ) → is_some o ≡ true → (size : ℕ) × (o ≡ Some size)
some_of (Some size) is = (size, refl)
some_of None is = absurd (cc)

pub length_came : (name : Name) (o : Option ℕ) (old new : HostState) → is_some o ≡ true → Both old.given new.given (IsMore (LengthWas name o ∷ [])) → KeepsFiles old new → OnHonest old (λ files. o ≡ length_of (files name)) → CountsNeither old new
    → LengthCame name old new
length_came name o old new is told files honest counts =
    let some = some_of o is in
    record {
      size = some.0;
      answered = subst (λ (x : Option ℕ). Answered (LengthWas name x ∷ []) old new) some.1 (answered_length name o old new told files honest);
      counts = record { reads = let e = counts.reads in omega (arith, e); writes = counts.writes; widest = let e = counts.widest in omega (arith, e) };
    }

-- slices that an honest host gave are its file's
pub few_in_turn : (files : Files) (name : Name) (at : ℕ) (slices : List (List ℕ)) → AllByRecursion (IsAnswerOf files) (given_in_turn name at slices) → at ≤ length (contents (files name)) → at + length (concat slices) ≤ length (contents (files name))
few_in_turn files name at [] all le = omega (arith, le)
few_in_turn files name at (slice ∷ slices) all le =
    let bytes = contents (files name) in
    let short : length slice ≤ length bytes - at = omega (arith, ap (λ (l : List ℕ). length l) all.0, length-take SLICE (drop at bytes), length-drop at bytes) in
    let on = few_in_turn files name (at + length slice) slices all.1 (omega (arith, le, short)) in
    omega (arith, on, length-append slice (concat slices))

ended_at : (last bytes : List ℕ) → last ≡ take SLICE bytes → length last < SLICE → last ++ [] ≡ bytes
ended_at last bytes is short = append-nil last ∙ is ∙ take_all SLICE bytes (omega (arith, short, ap (λ (l : List ℕ). length l) is, length-take SLICE bytes))

pub all_in_turn : (files : Files) (name : Name) (at : ℕ) (whole : List (List ℕ)) (last : List ℕ) → AreWhole whole → length last < SLICE → AllByRecursion (IsAnswerOf files) (given_in_turn name at (whole ++ last ∷ []))
    → concat (whole ++ last ∷ []) ≡ drop at (contents (files name))
all_in_turn files name at [] last are short all = ended_at last (drop at (contents (files name))) all.0 short
all_in_turn files name at (slice ∷ whole) last are short all =
    let bytes = contents (files name) in
    let place : drop (at + length slice) bytes ≡ drop SLICE (drop at bytes) = ap (λ (k : ℕ). drop (at + k) bytes) are.0 ∙ ap (λ (k : ℕ). drop k bytes) (omega arith) ∙ sym (drop-drop SLICE at bytes) in
    ap (λ (l : List ℕ). slice ++ l) (all_in_turn files name (at + length slice) whole last are.1 short all.1 ∙ place) ∙ ap (λ (l : List ℕ). l ++ drop SLICE (drop at bytes)) all.0 ∙ take-append-drop SLICE (drop at bytes)

-- a file that was said to be there is
pub there : (o : Option (List ℕ)) (size : ℕ) → Some size ≡ length_of o → o ≡ Some (contents o)
there (Some bytes) size is = refl
there None size is = absurd (cc)

pub not_there : (o : Option (List ℕ)) → None ≡ length_of o → o ≡ None
not_there (Some bytes) is = absurd (cc)
not_there None is = refl

-- over an honest host the bytes taken are those of its file
pub taken_all : (files : Files) (name : Name) (these : List Answer) (bytes : List ℕ) → IsTaken name these bytes → AllByRecursion (IsAnswerOf files) these → (files name ≡ Some bytes)
taken_all files name these bytes taken all =
    let given = subst (λ (l : List Answer). AllByRecursion (IsAnswerOf files) l) taken.asked all in
    there (files name) taken.size given.0 ∙ ap (λ (b : List ℕ). Some b) (sym (taken.bytes_are ∙ all_in_turn files name 0 taken.whole taken.last taken.are_whole taken.ended given.1))
