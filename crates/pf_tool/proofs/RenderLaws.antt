-- The rendering of a template, from its steps, and what it decides.
use Rattle.std.proofs.Common.{◌≡◌, ◌⊎◌, inl, inr, ⊎_elim, ℕ, List, refl, subst, ap, ◌∙◌, sym, Result, Ok, Err}
use Rattle.std.specs.Prelude.{IsUtf8}
use Rattle.std.specs.Str.{is_utf8}
use Rattle.std.proofs.lemmas.Bool.{cases_Bool}
use Rattle.std.proofs.lemmas.Str.{IsUtf8-from_is_utf8, is_utf8-from_IsUtf8}
use Rattle.manifest_model.specs.Listed.{Seen, ReadsAs}
use Rattle.manifest_model.specs.declared.fault.ManifestFault.{ManifestFault}
use Rattle.manifest_model.specs.declared.fault.ManifestFault.TheVariants as manifests
use Rattle.manifest_model.proofs.Deciding.{a_reading, one_reading}
use Rattle.template_text.specs.Rendering.{Values, RendersTo}
use Rattle.template_text.specs.declared.fault.RenderFault.{RenderFault}
use Rattle.template_text.specs.declared.fault.RenderFault.TheVariants as renders
use Rattle.template_text.proofs.Deciding as templates
use Rattle.pf_tool.specs.Endings.{Ending, Refused, NotUtf8, BadTemplate, BadManifest, MayStarve, AtEnd}
use Rattle.pf_tool.specs.Faults.{fault_line, fault_status, refusal_of, template_fault, manifest_fault}
use Rattle.pf_tool.specs.Outcomes.{IsFaultOf}
use Rattle.pf_tool.specs.Rendering.{Renders, no_text, no_template, no_manifest, manifest_text, RenderFails, is_refused, is_starved}
use Rattle.pf_tool.specs.declared.why.Why.{Why}
use Rattle.pf_tool.specs.declared.why.Why.TheVariants as whys
use Rattle.pf_tool.specs.declared.fault.Fault.{Fault}
use Rattle.pf_tool.specs.declared.fault.Fault.TheVariants as faults

-- a refusal as a fault
pub refusal_fault : (why : Why) (turned : Fault) → turned ≡ faults.Refused why → IsFaultOf (AtEnd (Refused (refusal_of why))) turned
refusal_fault why turned is = record { says = ap fault_line is; ends = ap fault_status is }

-- what `render` and `Manifest::read` answer
abbrev pub RenderAnswers : List ℕ → Values → Result (List ℕ) RenderFault → Type 0
RenderAnswers bytes values r = (r ≡ Err renders.Memory) ⊎ RendersTo bytes values r

abbrev pub ReadAnswers : List ℕ → Result Seen ManifestFault → Type 0
ReadAnswers text r = (r ≡ Err manifests.Memory) ⊎ ReadsAs text r

-- what was rendered of the same bytes with the same values
pub rendered_as : (template bytes : List ℕ) (pairs values : Values) (r : Result (List ℕ) RenderFault) → template ≡ bytes → pairs ≡ values → RenderAnswers template pairs r → RenderAnswers bytes values r
rendered_as template bytes pairs values r same_bytes same_values renders_to =
    ⊎_elim (λ none. inl none) (λ to. inr (subst (λ (b : List ℕ). RendersTo b values r) same_bytes (subst (λ (v : Values). RendersTo template v r) same_values to))) renders_to

pub rendered_text : (bytes : List ℕ) (values : Values) (text : List ℕ) → RenderAnswers bytes values (Ok text) → RendersTo bytes values (Ok text)
rendered_text bytes values text renders_to = ⊎_elim (λ none. absurd (cc)) (λ to. to) renders_to

-- what was read of the same text
pub read_as : (copy text : List ℕ) (r : Result Seen ManifestFault) → copy ≡ text → ReadAnswers copy r → ReadAnswers text r
read_as copy text r same reads = ⊎_elim (λ none. inl none) (λ to. inr (subst (λ (b : List ℕ). ReadsAs b r) same to)) reads

module _ (values : Values) (bytes : List ℕ) (utf8 : IsUtf8 bytes) where
  template_refused : (fault : RenderFault) (turned : Fault) → turned ≡ faults.Refused (whys.BadTemplate fault) → RendersTo bytes values (Err fault) → RenderFails values bytes turned
  template_refused fault turned is refuses = is_refused (Refused (BadTemplate fault)) (refusal_fault (whys.BadTemplate fault) turned is) (no_template fault utf8 refuses refl)

  -- the template was not rendered
  pub template_fails : (fault : RenderFault) (turned : Fault) → turned ≡ template_fault fault → RenderAnswers bytes values (Err fault) → RenderFails values bytes turned
  template_fails renders.Memory turned is fails = is_starved is utf8
  template_fails (renders.Unclosed at) turned is fails = ⊎_elim (λ same. absurd (cc)) (λ refuses. template_refused (renders.Unclosed at) turned is refuses) fails
  template_fails (renders.BadName at) turned is fails = ⊎_elim (λ same. absurd (cc)) (λ refuses. template_refused (renders.BadName at) turned is refuses) fails
  template_fails (renders.Unknown at name) turned is fails = ⊎_elim (λ same. absurd (cc)) (λ refuses. template_refused (renders.Unknown at name) turned is refuses) fails
  template_fails (renders.Statement at) turned is fails = ⊎_elim (λ same. absurd (cc)) (λ refuses. template_refused (renders.Statement at) turned is refuses) fails
  template_fails (renders.TooLong at) turned is fails = ⊎_elim (λ same. absurd (cc)) (λ refuses. template_refused (renders.TooLong at) turned is refuses) fails

  module _ (text : List ℕ) (rendered : RendersTo bytes values (Ok text)) where
    manifest_refused : (fault : ManifestFault) (turned : Fault) → turned ≡ faults.Refused (whys.BadManifest fault) → ReadsAs text (Err fault) → RenderFails values bytes turned
    manifest_refused fault turned is refuses = is_refused (Refused (BadManifest fault)) (refusal_fault (whys.BadManifest fault) turned is) (no_manifest text fault utf8 rendered refuses refl)

    -- the text was no manifest
    pub manifest_fails : (fault : ManifestFault) (turned : Fault) → turned ≡ manifest_fault fault → ReadAnswers text (Err fault) → RenderFails values bytes turned
    manifest_fails manifests.Memory turned is fails = is_starved is utf8
    manifest_fails manifests.NotToml turned is fails = ⊎_elim (λ same. absurd (cc)) (λ refuses. manifest_refused manifests.NotToml turned is refuses) fails
    manifest_fails (manifests.BadField key) turned is fails = ⊎_elim (λ same. absurd (cc)) (λ refuses. manifest_refused (manifests.BadField key) turned is refuses) fails
    manifest_fails (manifests.BadUri uri) turned is fails = ⊎_elim (λ same. absurd (cc)) (λ refuses. manifest_refused (manifests.BadUri uri) turned is refuses) fails
    manifest_fails (manifests.BadSum uri) turned is fails = ⊎_elim (λ same. absurd (cc)) (λ refuses. manifest_refused (manifests.BadSum uri) turned is refuses) fails
    manifest_fails (manifests.TwoSums uri) turned is fails = ⊎_elim (λ same. absurd (cc)) (λ refuses. manifest_refused (manifests.TwoSums uri) turned is refuses) fails
    manifest_fails (manifests.BadKey name) turned is fails = ⊎_elim (λ same. absurd (cc)) (λ refuses. manifest_refused (manifests.BadKey name) turned is refuses) fails
    manifest_fails (manifests.BadPolicy policy) turned is fails = ⊎_elim (λ same. absurd (cc)) (λ refuses. manifest_refused (manifests.BadPolicy policy) turned is refuses) fails

    -- it was one
    pub manifest_taken : (seen : Seen) → ReadAnswers text (Ok seen) → Renders values bytes (Ok text)
    manifest_taken seen reads = ⊎_elim (λ same. absurd (cc)) (λ read. manifest_text text seen utf8 rendered read refl) reads

-- what lies ahead where memory was wanting: a text that goes out, or an ending that is found in a text
abbrev pub IsAheadOf : Result (List ℕ) Ending → Type 0
IsAheadOf (Ok text) = Unit {0}
IsAheadOf (Err ending) = MayStarve ending

module _ (values : Values) (bytes : List ℕ) (utf8 : IsUtf8 bytes) where
  read_ahead : (text : List ℕ) → RendersTo bytes values (Ok text) → (r : Result Seen ManifestFault) → ReadsAs text r → (outcome : Result (List ℕ) Ending) × Renders values bytes outcome × IsAheadOf outcome
  read_ahead text rendered (Ok seen) reads = (Ok text, manifest_text text seen utf8 rendered reads refl, tt)
  read_ahead text rendered (Err fault) reads = (Err (Refused (BadManifest fault)), no_manifest text fault utf8 rendered reads refl, tt)

  rendered_ahead : (r : Result (List ℕ) RenderFault) → RendersTo bytes values r → (outcome : Result (List ℕ) Ending) × Renders values bytes outcome × IsAheadOf outcome
  rendered_ahead (Ok text) rendered = let read = a_reading text in read_ahead text rendered read.0 read.1
  rendered_ahead (Err fault) refuses = (Err (Refused (BadTemplate fault)), no_template fault utf8 refuses refl, tt)

  pub render_ahead : (outcome : Result (List ℕ) Ending) × Renders values bytes outcome × IsAheadOf outcome
  render_ahead = let rendered = templates.an_outcome bytes values in rendered_ahead rendered.0 rendered.1

-- bytes come to something
pub a_render : (values : Values) (bytes : List ℕ) → (outcome : Result (List ℕ) Ending) × Renders values bytes outcome
a_render values bytes =
    elim (cases_Bool (is_utf8 bytes)) [
      | inl is ↦ let ahead = render_ahead values bytes (IsUtf8-from_is_utf8 bytes is) in (ahead.0, ahead.1)
      | inr other ↦ (Err (Refused NotUtf8), no_text (λ utf8. let is = is_utf8-from_IsUtf8 bytes utf8 in absurd (cc)) refl)
    ]

-- bytes and values come to one thing

module _ (values : Values) (bytes : List ℕ) where
  apart_renders : {X : Type 0} (text : List ℕ) (fault : RenderFault) → RendersTo bytes values (Ok text) → RendersTo bytes values (Err fault) → X
  apart_renders text fault first second = let same = templates.one_outcome bytes values (Ok text) (Err fault) first second in absurd (cc)

  same_texts : (text other : List ℕ) → RendersTo bytes values (Ok text) → RendersTo bytes values (Ok other) → text ≡ other
  same_texts text other first second = let same = templates.one_outcome bytes values (Ok text) (Ok other) first second in cc

  same_refusals : (fault other : RenderFault) → RendersTo bytes values (Err fault) → RendersTo bytes values (Err other) → fault ≡ other
  same_refusals fault other first second = let same = templates.one_outcome bytes values (Err fault) (Err other) first second in cc

  same_faults : (text other : List ℕ) (fault more : ManifestFault) → text ≡ other → ReadsAs text (Err fault) → ReadsAs other (Err more) → fault ≡ more
  same_faults text other fault more is first second = let same = one_reading other (Err fault) (Err more) (subst (λ (t : List ℕ). ReadsAs t (Err fault)) is first) second in cc

  apart_reads : {X : Type 0} (text other : List ℕ) (fault : ManifestFault) (seen : Seen) → text ≡ other → ReadsAs text (Err fault) → ReadsAs other (Ok seen) → X
  apart_reads text other fault seen is first second = let same = one_reading other (Err fault) (Ok seen) (subst (λ (t : List ℕ). ReadsAs t (Err fault)) is first) second in absurd (cc)

  pub one_render : (r s : Result (List ℕ) Ending) → Renders values bytes r → Renders values bytes s → r ≡ s
  one_render r s (no_text u is) (no_text u2 is2) = is ∙ sym is2
  one_render r s (no_text u is) (no_template fault utf8 refuses is2) = absurd (u utf8)
  one_render r s (no_text u is) (no_manifest text fault utf8 rendered refuses is2) = absurd (u utf8)
  one_render r s (no_text u is) (manifest_text text seen utf8 rendered reads is2) = absurd (u utf8)
  one_render r s (no_template fault utf8 refuses is) (no_text u is2) = absurd (u utf8)
  one_render r s (no_template fault utf8 refuses is) (no_template other utf82 refuses2 is2) = is ∙ ap (λ (f : RenderFault). Err (Refused (BadTemplate f))) (same_refusals fault other refuses refuses2) ∙ sym is2
  one_render r s (no_template fault utf8 refuses is) (no_manifest text other utf82 rendered refuses2 is2) = apart_renders text fault rendered refuses
  one_render r s (no_template fault utf8 refuses is) (manifest_text text seen utf82 rendered reads is2) = apart_renders text fault rendered refuses
  one_render r s (no_manifest text fault utf8 rendered refuses is) (no_text u is2) = absurd (u utf8)
  one_render r s (no_manifest text fault utf8 rendered refuses is) (no_template other utf82 refuses2 is2) = apart_renders text other rendered refuses2
  one_render r s (no_manifest text fault utf8 rendered refuses is) (no_manifest other more utf82 rendered2 refuses2 is2) =
      is ∙ ap (λ (f : ManifestFault). Err (Refused (BadManifest f))) (same_faults text other fault more (same_texts text other rendered rendered2) refuses refuses2) ∙ sym is2
  one_render r s (no_manifest text fault utf8 rendered refuses is) (manifest_text other seen utf82 rendered2 reads is2) = apart_reads text other fault seen (same_texts text other rendered rendered2) refuses reads
  one_render r s (manifest_text text seen utf8 rendered reads is) (no_text u is2) = absurd (u utf8)
  one_render r s (manifest_text text seen utf8 rendered reads is) (no_template fault utf82 refuses is2) = apart_renders text fault rendered refuses
  one_render r s (manifest_text text seen utf8 rendered reads is) (no_manifest other fault utf82 rendered2 refuses is2) = apart_reads other text fault seen (same_texts other text rendered2 rendered) refuses reads
  one_render r s (manifest_text text seen utf8 rendered reads is) (manifest_text other seen2 utf82 rendered2 reads2 is2) = is ∙ ap (λ (t : List ℕ). Ok t) (same_texts text other rendered rendered2) ∙ sym is2

  -- a text is not refused
  pub apart_render : {X : Type 0} (text : List ℕ) (ending : Ending) → Renders values bytes (Ok text) → Renders values bytes (Err ending) → X
  apart_render text ending first second = let same = one_render (Ok text) (Err ending) first second in absurd (cc)

  pub same_text : (text other : List ℕ) → Renders values bytes (Ok text) → Renders values bytes (Ok other) → text ≡ other
  same_text text other first second = let same = one_render (Ok text) (Ok other) first second in cc

  pub same_refusal : (ending other : Ending) → Renders values bytes (Err ending) → Renders values bytes (Err other) → ending ≡ other
  same_refusal ending other first second = let same = one_render (Err ending) (Err other) first second in cc
