-- `encrypt` up to the sealing: the key is read, and the input is looked for.
use Rattle.std.proofs.Common.{◌≡◌, ◌⊎◌, ℕ, List, [], ◌∷◌, ◌++◌, refl, ap, Option, Some, None, Err}
use Rattle.pf_io.specs.Disk.{Name}
use Rattle.pf_io.specs.Host.{LengthWas, KeepsFiles}
use Rattle.pf_io.specs.Names.{IsTarget}
use Rattle.pf_io.specs.Unchanged.{KeepsDisk}
use Rattle.pf_io.proofs.Unchanged.{kept_then}
use Rattle.pf_tool.specs.World.{World}
use Rattle.pf_tool.specs.Events.{Event, Answers}
use Rattle.pf_tool.specs.Endings.{Ending, Refused, BadName, NotFound, ending_line}
use Rattle.pf_tool.specs.Faults.{fault_line, fault_status}
use Rattle.pf_tool.specs.Happened.{Passed, CallFailed}
use Rattle.pf_tool.specs.Outcomes.{Falls}
use Rattle.pf_tool.specs.Keys.{IsKeyOf, KeyRefused, key_events}
use Rattle.pf_tool.specs.Encrypting.{IsInput, EncryptRefused, no_key, names_unfit, input_absent, InputFound, EncryptGoes, not_found}
use Rattle.pf_tool.specs.declared.fault.Fault.{Fault}
use Rattle.pf_tool.specs.declared.fault.Fault.TheVariants as faults
use Rattle.pf_tool.specs.declared.why.Why.TheVariants as whys
use Rattle.pf_tool.proofs.Composing.{passed_reading}
use Rattle.pf_tool.proofs.Stopping.{falls_as, refused, host_fails}

module _ (key input output : Name) where
  abbrev Leading : List Event → Ending → Type 0
  Leading events ending = EncryptRefused key input output events ending

  -- no key was read
  pub key_fails : (fault : Fault) (old new : World) → Falls (KeyRefused key) (λ _ _. KeepsDisk) fault old new → EncryptGoes key input output (Err fault) old new
  key_fails fault old new falls = not_found fault (falls_as (KeyRefused key) Leading (λ _ _. KeepsDisk) (λ _ _. KeepsDisk) fault old new (λ es ending refuses. no_key refuses) (λ tried stop kept. kept) falls) refl

  module _ (user : List ℕ) (has : IsKeyOf key user) (old mid : World) (passed : Passed (key_events key user) old mid) (files : KeepsFiles old.host mid.host) (kept : KeepsDisk old.host mid.host) where
    -- names that cannot be used
    pub names_fail : ¬ (IsTarget output) ⊎ ¬ (IsInput input output) → EncryptGoes key input output (Err (faults.Refused whys.BadName)) old mid
    names_fail unfit =
        not_found (faults.Refused whys.BadName)
        (refused Leading (λ _ _. KeepsDisk) (key_events key user) (Refused BadName) (faults.Refused whys.BadName) old mid refl refl (names_unfit user has unfit refl refl) passed kept) refl

    module _ (target : IsTarget output) (fit : IsInput input output) (new : World) (kept2 : KeepsDisk mid.host new.host) where
      all_kept : KeepsDisk old.host new.host
      all_kept = kept_then old.host mid.host new.host kept kept2

      -- the call for the length failed
      pub length_fails : CallFailed (Answers (LengthWas input None)) mid new → EncryptGoes key input output (Err faults.Host) old new
      length_fails failed =
          not_found faults.Host (host_fails Leading (λ _ _. KeepsDisk) (key_events key user) [] (Refused (NotFound input)) faults.Host old mid new (LengthWas input None) refl (input_absent user has target fit refl refl) passed failed all_kept) refl

      asked : (answer : Option ℕ) → Passed (Answers (LengthWas input answer) ∷ []) mid new → Passed (key_events key user ++ Answers (LengthWas input answer) ∷ []) old new
      asked answer next = passed_reading (key_events key user) (Answers (LengthWas input answer) ∷ []) old mid new passed files next

      pub input_fails : (fault : Fault) (answer : Option ℕ) → fault_line fault ≡ ending_line (Refused (NotFound input)) → fault_status fault ≡ 3 → answer ≡ None → Passed (Answers (LengthWas input answer) ∷ []) mid new → EncryptGoes key input output (Err fault) old new
      input_fails fault answer says ends is next =
          not_found fault
          (refused Leading (λ _ _. KeepsDisk) (key_events key user ++ Answers (LengthWas input answer) ∷ []) (Refused (NotFound input)) fault old new says ends
          (input_absent user has target fit (ap (λ (o : Option ℕ). key_events key user ++ Answers (LengthWas input o) ∷ []) is) refl) (asked answer next) all_kept) refl

      pub found : (size : ℕ) → Passed (Answers (LengthWas input (Some size)) ∷ []) mid new → InputFound key input output user old new
      found size next = record { is_key = has; is_target = target; is_input = fit; size = size; passed = asked (Some size) next; disk = all_kept }
