-- What the bytes of a template come to: the text of a manifest, or why it is refused.
use Rattle.std.specs.Prelude.{◌≡◌, ℕ, List, Result, Ok, Err, IsUtf8}
use Rattle.manifest_model.specs.Listed.{Seen, ReadsAs}
use Rattle.manifest_model.specs.declared.fault.ManifestFault.{ManifestFault}
use Rattle.template_text.specs.Rendering.{Values, RendersTo}
use Rattle.template_text.specs.declared.fault.RenderFault.{RenderFault}
use Rattle.pf_tool.specs.Endings.{Ending, Refused, NotUtf8, BadTemplate, BadManifest, AtEnd}
use Rattle.pf_tool.specs.Outcomes.{IsFaultOf}
use Rattle.pf_tool.specs.declared.fault.Fault.{Fault}
use Rattle.pf_tool.specs.declared.fault.Fault.TheVariants as faults

-- They are UTF-8, and a template, and the text that it is rendered to with the values is a manifest; the first of these that does
-- not hold is refused.
pub data Renders (values : Values) (bytes : List ℕ) (outcome : Result (List ℕ) Ending) : Type 0 where
  no_text : ¬ (IsUtf8 bytes) → outcome ≡ Err (Refused NotUtf8) → Renders values bytes outcome
  no_template : (fault : RenderFault) → IsUtf8 bytes → RendersTo bytes values (Err fault) → outcome ≡ Err (Refused (BadTemplate fault)) → Renders values bytes outcome
  no_manifest : (text : List ℕ) (fault : ManifestFault) → IsUtf8 bytes → RendersTo bytes values (Ok text) → ReadsAs text (Err fault) → outcome ≡ Err (Refused (BadManifest fault)) → Renders values bytes outcome
  manifest_text : (text : List ℕ) (seen : Seen) → IsUtf8 bytes → RendersTo bytes values (Ok text) → ReadsAs text (Ok seen) → outcome ≡ Ok text → Renders values bytes outcome

-- Why no text came of them: they are refused, or there was no memory, which they take only where they are UTF-8.
pub data RenderFails (values : Values) (bytes : List ℕ) (fault : Fault) : Type 0 where
  is_refused : (ending : Ending) → IsFaultOf (AtEnd ending) fault → Renders values bytes (Err ending) → RenderFails values bytes fault
  is_starved : fault ≡ faults.Memory → IsUtf8 bytes → RenderFails values bytes fault
