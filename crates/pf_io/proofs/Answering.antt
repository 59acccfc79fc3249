-- Calls of a host and what they answered.
use Rattle.std.proofs.Common.{◌≡◌, ℕ, min, List, [], ◌∷◌, ◌++◌, length, take, drop, Option, Some, None, IfSome, refl, ap, ◌∙◌, arith, subst, length-drop}
use Rattle.std.specs.List.{AllByRecursion}
use Rattle.std.proofs.lemmas.List.{take_min}
use Rattle.std.proofs.lemmas.Option.{IfSome_then}
use Rattle.pf_io.specs.Host.{Name, Files, Answer, LengthWas, Gave, HostState, Both, IsMore, KeepsFiles, OnHonest, ReadsFrom, KeepsRest, length_of, contents, files_of}
use Rattle.pf_io.proofs.Telling.{told_on, told_none}
use Rattle.pf_io.specs.Answered.{Answered, IsAnswerOf}

pub both_honest : (P Q R : Files → Type 0) (files : Option Files) → ((f : Files) → P f → Q f → R f) → IfSome files P → IfSome files Q → IfSome files R
both_honest P Q R (Some f) go one two = go f one two
both_honest P Q R None go one two = tt

pub all_append : (P : Answer → Type 0) (xs ys : List Answer) → AllByRecursion P xs → AllByRecursion P ys → AllByRecursion P (xs ++ ys)
all_append P [] ys one two = two
all_append P (x ∷ xs) ys one two = (one.0, all_append P xs ys one.1 two)

pub all_split : (P : Answer → Type 0) (xs ys : List Answer) → AllByRecursion P (xs ++ ys) → AllByRecursion P xs × AllByRecursion P ys
all_split P [] ys all = (tt, all)
all_split P (x ∷ xs) ys all = let rest = all_split P xs ys all.1 in ((all.0, rest.0), rest.1)

none_honest : (files : Option Files) → IfSome files (λ f. AllByRecursion (IsAnswerOf f) [])
none_honest (Some f) = tt
none_honest None = tt

-- no call
pub answered_none : (state : HostState) → Answered [] state state
answered_none state = record { told = told_none state state refl; files = refl; honest = none_honest (files_of state) }

-- a call that failed and changed no file
pub answered_fault : (old new : HostState) → new.given ≡ old.given → KeepsFiles old new → Answered [] old new
answered_fault old new same files = record { told = told_none old new same; files = files; honest = none_honest (files_of old) }

-- the length of a file
pub answered_length : (name : Name) (length : Option ℕ) (old new : HostState) → Both old.given new.given (IsMore (LengthWas name length ∷ [])) → KeepsFiles old new
    → OnHonest old (λ files. length ≡ length_of (files name)) → Answered (LengthWas name length ∷ []) old new
answered_length name length old new told files honest = record {
  told = told;
  files = files;
  honest = IfSome_then (files_of old) honest (λ f is. (is, tt));
}

-- what was read is what the files have, as far as there was room
pub read_whole : (at n room : ℕ) (before buffer bytes : List ℕ) → KeepsRest n before buffer → length before ≡ room → ReadsFrom at n buffer bytes → take n buffer ≡ take room (drop at bytes)
read_whole at n room before buffer bytes rest long reads =
    let count : n ≡ min room (length (drop at bytes)) = omega (arith, reads.count, rest.same_length, long, length-drop at bytes) in
    reads.filled ∙ ap (λ (k : ℕ). take k (drop at bytes)) count ∙ take_min room (drop at bytes)

-- bytes of a file
pub answered_bytes : (name : Name) (at n room : ℕ) (before buffer : List ℕ) (old new : HostState) → KeepsRest n before buffer → length before ≡ room
    → Both old.given new.given (IsMore (Gave name at room (take n buffer) ∷ [])) → KeepsFiles old new
    → OnHonest old (λ files. ReadsFrom at n buffer (contents (files name))) → Answered (Gave name at room (take n buffer) ∷ []) old new
answered_bytes name at n room before buffer old new rest long told files honest = record {
  told = told;
  files = files;
  honest = IfSome_then (files_of old) honest (λ f reads. (read_whole at n room before buffer (contents (f name)) rest long reads, tt));
}

-- answers after others
pub answered_then : (xs ys : List Answer) (old mid new : HostState) → Answered xs old mid → Answered ys mid new → Answered (xs ++ ys) old new
answered_then xs ys old mid new first second = record {
  told = told_on xs ys old mid new first.told second.told;
  files = second.files ∙ first.files;
  honest = both_honest _ _ _ (files_of old) (λ f one two. all_append (IsAnswerOf f) xs ys one two) first.honest
      (subst (λ (f : Option Files). IfSome f (λ g. AllByRecursion (IsAnswerOf g) ys)) first.files second.honest);
}
