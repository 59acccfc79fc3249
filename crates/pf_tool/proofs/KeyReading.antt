-- The reading of a key, from its calls.
use Rattle.std.proofs.Common.{◌≡◌, ◌≢◌, ℕ, ◌<◌, List, [], ◌∷◌, length, refl, subst, ap, sym, arith, Option, Some, None}
use Rattle.pf_io.specs.Disk.{Name}
use Rattle.pf_io.specs.Host.{LengthWas, Gave, HostState, KeepsFiles}
use Rattle.pf_io.specs.Names.{IsName}
use Rattle.pf_io.specs.Unchanged.{KeepsDisk}
use Rattle.pf_io.proofs.Unchanged.{kept_none}
use Rattle.pf_tool.specs.World.{World, with_host}
use Rattle.pf_tool.specs.Events.{Event, Answers}
use Rattle.pf_tool.specs.Endings.{Stop, Refused, BadName, NotFound, KeyFile, ending_line}
use Rattle.pf_tool.specs.Faults.{fault_line, fault_status}
use Rattle.pf_tool.specs.Happened.{HostPassed, HostFailed, Passed}
use Rattle.pf_tool.specs.Keys.{KeyRefused, key_unnamed, key_absent, key_length, key_short}
use Rattle.pf_tool.specs.Outcomes.{Falls}
use Rattle.pf_tool.specs.declared.fault.Fault.{Fault}
use Rattle.pf_tool.specs.declared.fault.Fault.TheVariants as faults
use Rattle.pf_tool.specs.declared.why.Why.TheVariants as whys
use Rattle.pf_tool.proofs.Composing.{passed_none, passed_host, passed_reading, failed_host}
use Rattle.pf_tool.proofs.Stopping.{refused, host_fails}

abbrev Kept : List Event → Stop → HostState → HostState → Type 0
Kept tried stop old new = KeepsDisk old new

-- the length, and then the bytes
pub asked_twice : (name : Name) (length : Option ℕ) (room : ℕ) (bytes : List ℕ) (world : World) (s0 s1 s2 : HostState) → HostPassed (LengthWas name length ∷ []) s0 s1 → KeepsFiles s0 s1 → HostPassed (Gave name 0 room bytes ∷ []) s1 s2
    → Passed (Answers (LengthWas name length) ∷ Answers (Gave name 0 room bytes) ∷ []) (with_host world s0) (with_host world s2)
asked_twice name length room bytes world s0 s1 s2 asked kept read =
    passed_reading (Answers (LengthWas name length) ∷ []) (Answers (Gave name 0 room bytes) ∷ []) (with_host world s0) (with_host world s1) (with_host world s2)
    (passed_host (Answers (LengthWas name length) ∷ []) world s0 s1 refl refl asked) kept (passed_host (Answers (Gave name 0 room bytes) ∷ []) world s1 s2 refl refl read)

module _ (key : Name) (world : World) (s0 : HostState) where
  pub no_name : ¬ (IsName key) → Falls (KeyRefused key) (λ _ _. KeepsDisk) (faults.Refused whys.BadName) (with_host world s0) (with_host world s0)
  no_name unnamed = refused (KeyRefused key) Kept [] (Refused BadName) (faults.Refused whys.BadName) (with_host world s0) (with_host world s0) refl refl (key_unnamed unnamed refl refl) (passed_none (with_host world s0)) (kept_none s0)

  pub no_length : (fault : Fault) (s1 : HostState) → IsName key → fault ≡ faults.Host → HostFailed (LengthWas key None) s0 s1 → KeepsDisk s0 s1 → Falls (KeyRefused key) (λ _ _. KeepsDisk) fault (with_host world s0) (with_host world s1)
  no_length fault s1 named is failed kept =
      host_fails (KeyRefused key) Kept [] [] (Refused (NotFound key)) fault (with_host world s0) (with_host world s0) (with_host world s1) (LengthWas key None) is (key_absent named refl refl)
      (passed_none (with_host world s0)) (failed_host (LengthWas key None) world s0 s1 failed) kept

  pub no_file : (fault : Fault) (answer : Option ℕ) (s1 : HostState) → IsName key → fault_line fault ≡ ending_line (Refused (NotFound key)) → fault_status fault ≡ 3 → answer ≡ None → HostPassed (LengthWas key answer ∷ []) s0 s1 → KeepsDisk s0 s1
      → Falls (KeyRefused key) (λ _ _. KeepsDisk) fault (with_host world s0) (with_host world s1)
  no_file fault answer s1 named says ends is passed kept =
      refused (KeyRefused key) Kept (Answers (LengthWas key answer) ∷ []) (Refused (NotFound key)) fault (with_host world s0) (with_host world s1) says ends
      (key_absent named (ap (λ (o : Option ℕ). Answers (LengthWas key o) ∷ []) is) refl) (passed_host (Answers (LengthWas key answer) ∷ []) world s0 s1 refl refl passed) kept

  pub other_length : (n : ℕ) (answer : Option ℕ) (s1 : HostState) → IsName key → n ≢ 16 → answer ≡ Some n → HostPassed (LengthWas key answer ∷ []) s0 s1 → KeepsDisk s0 s1
      → Falls (KeyRefused key) (λ _ _. KeepsDisk) (faults.Refused (whys.KeyFile n)) (with_host world s0) (with_host world s1)
  other_length n answer s1 named other is passed kept =
      refused (KeyRefused key) Kept (Answers (LengthWas key answer) ∷ []) (Refused (KeyFile n)) (faults.Refused (whys.KeyFile n)) (with_host world s0) (with_host world s1) refl refl
      (key_length n named other (ap (λ (o : Option ℕ). Answers (LengthWas key o) ∷ []) is) refl) (passed_host (Answers (LengthWas key answer) ∷ []) world s0 s1 refl refl passed) kept

  pub no_bytes : (fault : Fault) (answer : Option ℕ) (s1 s2 : HostState) → IsName key → fault ≡ faults.Host → answer ≡ Some 16 → HostPassed (LengthWas key answer ∷ []) s0 s1 → HostFailed (Gave key 0 16 []) s1 s2 → KeepsDisk s0 s2
      → Falls (KeyRefused key) (λ _ _. KeepsDisk) fault (with_host world s0) (with_host world s2)
  no_bytes fault answer s1 s2 named is sixteen passed failed kept =
      host_fails (KeyRefused key) Kept (Answers (LengthWas key answer) ∷ []) [] (Refused (KeyFile 0)) fault (with_host world s0) (with_host world s1) (with_host world s2) (Gave key 0 16 []) is
      (key_short [] named (omega arith) (ap (λ (o : Option ℕ). Answers (LengthWas key o) ∷ Answers (Gave key 0 16 []) ∷ []) sixteen) refl)
      (passed_host (Answers (LengthWas key answer) ∷ []) world s0 s1 refl refl passed) (failed_host (Gave key 0 16 []) world s1 s2 failed) kept

  pub few_bytes : (n : ℕ) (answer : Option ℕ) (bytes : List ℕ) (s1 s2 : HostState) → IsName key → n < 16 → length bytes ≡ n → answer ≡ Some 16 → HostPassed (LengthWas key answer ∷ []) s0 s1 → KeepsFiles s0 s1
      → HostPassed (Gave key 0 16 bytes ∷ []) s1 s2 → KeepsDisk s0 s2 → Falls (KeyRefused key) (λ _ _. KeepsDisk) (faults.Refused (whys.KeyFile n)) (with_host world s0) (with_host world s2)
  few_bytes n answer bytes s1 s2 named few long sixteen asked files read kept =
      refused (KeyRefused key) Kept (Answers (LengthWas key answer) ∷ Answers (Gave key 0 16 bytes) ∷ []) (Refused (KeyFile n)) (faults.Refused (whys.KeyFile n)) (with_host world s0) (with_host world s2) refl refl
      (key_short bytes named (subst (λ (k : ℕ). k < 16) (sym long) few) (ap (λ (o : Option ℕ). Answers (LengthWas key o) ∷ Answers (Gave key 0 16 bytes) ∷ []) sixteen) (ap (λ (k : ℕ). Refused (KeyFile k)) (sym long)))
      (asked_twice key answer 16 bytes world s0 s1 s2 asked files read) kept
