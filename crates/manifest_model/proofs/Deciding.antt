-- A table, and a text, has one outcome.
use Rattle.std.proofs.Common.{◌≡◌, ◌∙◌, ◌⊎◌, inl, inr, ℕ, List, Option, Some, None, Result, Ok, Err, refl, sym, ap, subst}
use Rattle.std.specs.Prelude.{IsUtf8}
use Rattle.std.specs.Str.{is_utf8}
use Rattle.std.proofs.lemmas.Bool.{cases_Bool}
use Rattle.std.proofs.lemmas.Str.{IsUtf8-from_is_utf8, is_utf8-from_IsUtf8}
use Rattle.toml.specs.Data.{Members}
use Rattle.toml.specs.Parse.{parse_document}
use Rattle.manifest_model.specs.declared.fault.ManifestFault.{ManifestFault}
use Rattle.manifest_model.specs.declared.fault.ManifestFault.TheVariants as faults
use Rattle.manifest_model.specs.Listed.{Lists, Seen, Listed, Accepted, Refused, refusal, lists_of, IsTextOf, ReadsAs, NoText, IsListed, IsRefused}

pub an_outcome : (ms : Members) → (outcome : Result Lists ManifestFault) × Listed ms outcome
an_outcome ms = by_refusal (refusal ms) refl
  where
    by_refusal : (r : Option ManifestFault) → refusal ms ≡ r → (outcome : Result Lists ManifestFault) × Listed ms outcome
    by_refusal None e = (Ok (lists_of ms), Accepted e refl)
    by_refusal (Some fault) e = (Err fault, Refused fault e refl)

pub one_outcome : (ms : Members) (outcome other : Result Lists ManifestFault) → Listed ms outcome → Listed ms other → outcome ≡ other
one_outcome ms outcome other (Accepted none is) (Accepted none' is') = is ∙ sym is'
one_outcome ms outcome other (Accepted none is) (Refused fault some is') = let e : None ≡ Some fault = sym none ∙ some in cc
one_outcome ms outcome other (Refused fault some is) (Accepted none is') = let e : None ≡ Some fault = sym none ∙ some in cc
one_outcome ms outcome other (Refused fault some is) (Refused fault' some' is') = let e : Some fault ≡ Some fault' = sym some ∙ some' in let same : fault ≡ fault' = cc in is ∙ ap (λ f. Err f) same ∙ sym is'

-- a text is read as something

found_reading : (bytes : List ℕ) (ms : Members) → IsTextOf bytes ms → (r : Result Lists ManifestFault) → Listed ms r → (outcome : Result Seen ManifestFault) × ReadsAs bytes outcome
found_reading bytes ms text (Ok lists) listed = (Ok (record { «table» = ms; lists = lists }), IsListed ms lists text listed refl)
found_reading bytes ms text (Err fault) listed = (Err fault, IsRefused ms fault text listed refl)

parsed_reading : (bytes : List ℕ) → IsUtf8 bytes → (parsed : Option Members) → parse_document bytes ≡ parsed → (outcome : Result Seen ManifestFault) × ReadsAs bytes outcome
parsed_reading bytes utf8 (Some ms) is = let listed = an_outcome ms in found_reading bytes ms (record { utf8 = utf8; toml = is }) listed.0 listed.1
parsed_reading bytes utf8 None is = (Err faults.NotToml, NoText (λ ms text. let other = text.toml in absurd (cc)) refl)

pub a_reading : (bytes : List ℕ) → (outcome : Result Seen ManifestFault) × ReadsAs bytes outcome
a_reading bytes =
    elim (cases_Bool (is_utf8 bytes)) [
      | inl is ↦ parsed_reading bytes (IsUtf8-from_is_utf8 bytes is) (parse_document bytes) refl
      | inr other ↦ (Err faults.NotToml, NoText (λ ms text. let is = is_utf8-from_IsUtf8 bytes text.utf8 in absurd (cc)) refl)
    ]

one_table : (bytes : List ℕ) (ms ms' : Members) → IsTextOf bytes ms → IsTextOf bytes ms' → ms ≡ ms'
one_table bytes ms ms' t t' = let e : Some ms ≡ Some ms' = sym t.toml ∙ t'.toml in cc

same_seen : (ms ms' : Members) (l l' : Lists) → ms ≡ ms' → l ≡ l' → ◌≡◌ {A = Seen} (record { «table» = ms; lists = l }) (record { «table» = ms'; lists = l' })
same_seen ms ms' l l' p q = λ i. record { «table» = p i; lists = q i }

pub one_reading : (bytes : List ℕ) (outcome other : Result Seen ManifestFault) → ReadsAs bytes outcome → ReadsAs bytes other → outcome ≡ other
one_reading bytes outcome other (NoText none is) (NoText none' is') = is ∙ sym is'
one_reading bytes outcome other (NoText none is) (IsListed ms lists text listed is') = absurd (none ms text)
one_reading bytes outcome other (NoText none is) (IsRefused ms fault text listed is') = absurd (none ms text)
one_reading bytes outcome other (IsListed ms lists text listed is) (NoText none is') = absurd (none ms text)
one_reading bytes outcome other (IsRefused ms fault text listed is) (NoText none is') = absurd (none ms text)
one_reading bytes outcome other (IsListed ms lists text listed is) (IsListed ms' lists' text' listed' is') =
    let tables = one_table bytes ms ms' text text' in
    let e : Ok lists ≡ Ok lists' = one_outcome ms' (Ok lists) (Ok lists') (subst (λ m. Listed m (Ok lists)) tables listed) listed' in
    let same : lists ≡ lists' = cc in
    is ∙ ap (λ s. Ok s) (same_seen ms ms' lists lists' tables same) ∙ sym is'
one_reading bytes outcome other (IsListed ms lists text listed is) (IsRefused ms' fault text' listed' is') =
    let e : Ok lists ≡ Err fault = one_outcome ms' (Ok lists) (Err fault) (subst (λ m. Listed m (Ok lists)) (one_table bytes ms ms' text text') listed) listed' in cc
one_reading bytes outcome other (IsRefused ms fault text listed is) (IsListed ms' lists text' listed' is') =
    let e : Err fault ≡ Ok lists = one_outcome ms' (Err fault) (Ok lists) (subst (λ m. Listed m (Err fault)) (one_table bytes ms ms' text text') listed) listed' in cc
one_reading bytes outcome other (IsRefused ms fault text listed is) (IsRefused ms' fault' text' listed' is') =
    let e : ◌≡◌ {A = Result Lists ManifestFault} (Err fault) (Err fault') = one_outcome ms' (Err fault) (Err fault') (subst (λ m. Listed m (Err fault)) (one_table bytes ms ms' text text') listed) listed' in
    let same : fault ≡ fault' = cc in
    is ∙ ap (λ f. Err f) same ∙ sym is'

-- reading ends with the lists of the table
pub listed_read : (bytes : List ℕ) (ms : Members) (seen : Seen) → IsTextOf bytes ms → refusal ms ≡ None → seen.«table» ≡ ms → seen.lists ≡ lists_of ms → ReadsAs bytes (Ok seen)
listed_read bytes ms seen text none whole lists = IsListed ms (lists_of ms) text (Accepted none refl) (ap (λ s. Ok s) (same_seen seen.«table» ms seen.lists (lists_of ms) whole lists))

pub no_other : (bytes : List ℕ) (r : Result Seen ManifestFault) → (r ≡ Err faults.Memory) ⊎ ReadsAs bytes r → (outcome : Result Seen ManifestFault) → ReadsAs bytes outcome → (r ≡ Err faults.Memory) ⊎ (r ≡ outcome)
no_other bytes r (inl memory) outcome reads = inl memory
no_other bytes r (inr this) outcome reads = inr (one_reading bytes r outcome this reads)
