-- What a call of a host in memory says of the calls that are to fault, and of what it read.
use Rattle.std.proofs.Common.{◌≡◌, ◌↔◌, ◌⊎◌, inl, inr, ℕ, ◌≤◌, Bool, true, false, List, refl, sym, ◌∙◌, ap, subst, Option, Some, None, Result, Ok, Err, IfOk, OnErr}
use Rattle.std.specs.Prelude.{Contains, IsSomeAnd, IsTrue, option_map}
use Rattle.std.proofs.lemmas.Bool.{false≢true}
use Rattle.pf_io.specs.Counts.{HasCause, counted}
use Rattle.pf_io.specs.Disk.{Name, read_of, reading}
use Rattle.pf_io.specs.Host.{ReadsFrom, length_of, contents}
use Rattle.pf_io.specs.Replay.{Traced, after_all, empty, file_of, disk_of}
use Rattle.pf_io.specs.Storage.{look, bytes_of, events_of, StoresAfter}
use Rattle.pf_io.specs.Memory.{MemState, IsToFail, IsCall}
use Rattle.pf_io.specs.declared.storage.Entry.{Entry}
use Rattle.pf_io.specs.declared.told.Told.{Told}

-- what the test of a call answers
abbrev pub Tests : Bool → List ℕ → MemState → Type 0
Tests test failing state = IsTrue test ↔ (Contains failing state.calls ⊎ IsSomeAnd state.stop (λ stop. stop ≤ state.calls))

-- a call that was to fault
pub fault_call : {T E : Type 0} (fault : E) (test : Bool) (failing : List ℕ) {old new : MemState} → Tests test failing old → failing ≡ old.failing → test ≡ true
    → new.calls ≡ counted old.calls → new.failing ≡ old.failing → new.stop ≡ old.stop → new.starved ≡ old.starved → IsCall {T = T} (Err fault) old new
fault_call fault test failing {old} {new} tests same is calls failing_is stop_is starved = record {
  calls = calls;
  failing = failing_is;
  stop = stop_is;
  fails = λ to_fail. (refl, starved);
  starves = inl (subst (λ (l : List ℕ). Contains l old.calls ⊎ IsSomeAnd old.stop (λ stop. stop ≤ old.calls)) same (tests.0 is));
  no_fault = tt;
}

pub not_to_fail : (test : Bool) (failing : List ℕ) (state : MemState) → Tests test failing state → failing ≡ state.failing → test ≡ false → IsToFail state → ⊥
not_to_fail test failing state tests same is to_fail =
    false≢true (sym is ∙ tests.1 (subst (λ (l : List ℕ). Contains l state.calls ⊎ IsSomeAnd state.stop (λ stop. stop ≤ state.calls)) (sym same) to_fail))

starved_at : {T E : Type 0} (r : Result T E) (A X : Type 0) → OnErr r X → OnErr r (A ⊎ X)
starved_at (Ok value) A X want = tt
starved_at (Err fault) A X want = inr want

-- a call that was not, and may have found no memory
pub made_call : {T E : Type 0} (r : Result T E) (test : Bool) (failing : List ℕ) {old new : MemState} → Tests test failing old → failing ≡ old.failing → test ≡ false
    → new.calls ≡ counted old.calls → new.failing ≡ old.failing → new.stop ≡ old.stop → HasCause old.starved new.starved r → IsCall r old new
made_call r test failing {old} {new} tests same is calls failing_is stop_is cause = record {
  calls = calls;
  failing = failing_is;
  stop = stop_is;
  fails = λ to_fail. absurd (not_to_fail test failing old tests same is to_fail);
  starves = starved_at r (IsToFail old) (new.starved ≡ counted old.starved) cause.once;
  no_fault = cause.still;
}

-- what holds of an outcome, once want of memory is counted as a fault
pub value_carried : {T E F : Type 0} (P Q : T → Type 0) (r : Result T E) (s : Result T F) → IfOk s P → IfOk r (λ value. s ≡ Ok value) → ((value : T) → P value → Q value) → IfOk r Q
value_carried P Q (Ok v) (Ok w) holds same go = let e : w ≡ v = cc in go v (subst P e holds)
value_carried P Q (Ok v) (Err x) holds same go = absurd (cc)
value_carried P Q (Err x) s holds same go = tt

-- files that are shown as a slice
pub stores_in : (files shown : List Entry) (told : List Told) → shown ≡ files → StoresAfter files told → StoresAfter shown told
stores_in files shown told same stores name = ap (λ (l : List Entry). look l name) same ∙ stores name

read_stored : (o : Option Traced) → bytes_of (option_map (λ file. file.stored) o) ≡ read_of (option_map file_of o)
read_stored (Some file) = refl
read_stored None = refl

-- what is stored at a name is what the disk reads there
stores_reading : (files shown : List Entry) (told : List Told) (name : Name) → shown ≡ files → StoresAfter files told → bytes_of (look shown name) ≡ reading (disk_of (after_all (events_of told) empty)) name
stores_reading files shown told name same stores = ap bytes_of (stores_in files shown told same stores name) ∙ read_stored (after_all (events_of told) empty name)

pub length_carried : {E F : Type 0} (r : Result (Option ℕ) E) (s : Result (Option ℕ) F) (files shown : List Entry) (told : List Told) (name : Name) → shown ≡ files → StoresAfter files told
    → IfOk s (λ length. length ≡ length_of (bytes_of (look shown name))) → IfOk r (λ value. s ≡ Ok value)
    → IfOk r (λ length. length ≡ length_of (reading (disk_of (after_all (events_of told) empty)) name))
length_carried r s files shown told name same stores answer value =
    value_carried (λ length. length ≡ length_of (bytes_of (look shown name))) (λ length. length ≡ length_of (reading (disk_of (after_all (events_of told) empty)) name)) r s answer value
    (λ length is. is ∙ ap length_of (stores_reading files shown told name same stores))

pub bytes_carried : {E F : Type 0} (r : Result ℕ E) (s : Result ℕ F) (files shown : List Entry) (told : List Told) (name : Name) (at : ℕ) (to : List ℕ) → shown ≡ files → StoresAfter files told
    → IfOk s (λ n. ReadsFrom at n to (contents (bytes_of (look shown name)))) → IfOk r (λ value. s ≡ Ok value)
    → IfOk r (λ n. ReadsFrom at n to (contents (reading (disk_of (after_all (events_of told) empty)) name)))
bytes_carried r s files shown told name at to same stores reads value =
    value_carried (λ n. ReadsFrom at n to (contents (bytes_of (look shown name)))) (λ n. ReadsFrom at n to (contents (reading (disk_of (after_all (events_of told) empty)) name))) r s reads value
    (λ n is. subst (λ (o : Option (List ℕ)). ReadsFrom at n to (contents o)) (stores_reading files shown told name same stores) is)
