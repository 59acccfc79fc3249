-- Checks, one after another.
use Rattle.std.proofs.Common.{ℕ, List, ◌≡◌, ◌∙◌, ◌⊎◌, inl, inr, Option, Some, None, Result, Ok, Err, IsErrAnd, MatchResult, refl, sym, ap, subst}
use Rattle.std.specs.Option.{option_or}
use Rattle.std.proofs.lemmas.Result.{err_from_is_err_and}
use Rattle.manifest_model.specs.declared.fault.ManifestFault.{ManifestFault}
use Rattle.toml.specs.Data.{Members}
use Rattle.manifest_model.specs.declared.fault.ManifestFault.TheVariants as faults
use Rattle.manifest_model.specs.Places.{Stops, Checks}
use Rattle.manifest_model.specs.Listed.{Seen, IsTextOf, ReadsAs, IsRefused, Refused, refusal}

-- what a part stops at, the whole does
pub stops_whole : (part whole : Option ManifestFault) (fault : ManifestFault) → ((f : ManifestFault) → part ≡ Some f → whole ≡ Some f) → Stops part fault → Stops whole fault
stops_whole part whole fault first (inl memory) = inl memory
stops_whole part whole fault first (inr refused) = inr (first fault refused)

-- at the exit of a `?` behind a check that is part of a whole
pub fails : {A : Type 0} (P : A → Type 0) (part whole : Option ManifestFault) (r : Result A ManifestFault) (fault : ManifestFault) → ((f : ManifestFault) → part ≡ Some f → whole ≡ Some f)
    → IsErrAnd r (λ y. y ≡ fault) → Stops part fault → Checks whole P r
fails P part whole r fault first is stops =
    let p = err_from_is_err_and r is in
    subst (Checks whole P) (sym p.1) (subst (Stops whole) (sym p.2) (stops_whole part whole fault first stops))

-- the same where the check is the whole
pub refuses : {A : Type 0} (P : A → Type 0) (whole : Option ManifestFault) (r : Result A ManifestFault) (fault : ManifestFault) → IsErrAnd r (λ y. y ≡ fault) → whole ≡ Some fault → MatchResult r P (Stops whole)
refuses P whole r fault is refused =
    let p = err_from_is_err_and r is in
    subst (λ x. MatchResult x P (Stops whole)) (sym p.1) (subst (Stops whole) (sym p.2) (inr refused))

-- the first check refuses, or what is behind it decides
pub first : (a rest : Option ManifestFault) (fault : ManifestFault) → a ≡ Some fault → option_or a rest ≡ Some fault
first a rest fault refused = rw refused refl

pub behind : (a rest o : Option ManifestFault) → a ≡ None → rest ≡ o → option_or a rest ≡ o
behind a rest o none e = rw none e

-- a whole that is one check, with what is known of it said in another way
pub checks_as : {A : Type 0} (P Q : A → Type 0) (part whole : Option ManifestFault) (r : Result A ManifestFault) → whole ≡ part → ((x : A) → P x → Q x) → Checks part P r → Checks whole Q r
checks_as P Q part whole (Ok x) same turn checked = (same ∙ checked.0, turn x checked.1)
checks_as P Q part whole (Err fault) same turn stops = subst (λ w. Stops w fault) (sym same) stops

pub or_none : (o : Option ManifestFault) → option_or o None ≡ o
or_none None = refl
or_none (Some f) = refl

-- the form of a field, and then its items
pub form_and_items : {A : Type 0} (P : A → Type 0) (form items : Option ManifestFault) (r : Result A ManifestFault) → form ≡ None → Checks items P r → Checks (option_or form (option_or items None)) P r
form_and_items P form items r none checked = subst (λ w. Checks w P r) (sym (rw none (or_none items))) checked

-- reading stops at a refusal of the table
pub stopped_read : (bytes : List ℕ) (ms : Members) (r : Result Seen ManifestFault) (fault : ManifestFault) → IsTextOf bytes ms → IsErrAnd r (λ y. y ≡ fault) → Stops (refusal ms) fault → (r ≡ Err faults.Memory) ⊎ ReadsAs bytes r
stopped_read bytes ms r fault text is (inl memory) = let p = err_from_is_err_and r is in inl (p.1 ∙ ap (λ f. Err f) (p.2 ∙ memory))
stopped_read bytes ms r fault text is (inr refused) = let p = err_from_is_err_and r is in let e : r ≡ Err fault = p.1 ∙ ap (λ f. Err f) p.2 in inr (IsRefused ms fault text (Refused fault refused refl) e)
