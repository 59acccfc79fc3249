-- Where a part of a command stops, the command stops.
use Rattle.std.proofs.Common.{◌≡◌, ◌⊎◌, inl, inr, ℕ, List, [], ◌∷◌, ◌++◌, refl, subst, ap, ◌∙◌, sym, append_assoc, Result, Ok, Err}
use Rattle.std.specs.List.{AllByRecursion}
use Rattle.pf_io.specs.Host.{Answer, HostState, KeepsFiles, OnHonest}
use Rattle.pf_io.specs.Answered.{IsAnswerOf}
use Rattle.pf_io.specs.Unchanged.{KeepsDisk}
use Rattle.pf_tool.specs.World.{World}
use Rattle.pf_tool.specs.Events.{Event, Answers, Puts, answers_in}
use Rattle.pf_tool.specs.Endings.{Ending, Done, MayStarve, Stop, AtEnd, Failed, Starved, tried, ending_line, ending_status, stop_status}
use Rattle.pf_tool.specs.Happened.{Passed, CallFailed}
use Rattle.pf_tool.specs.Faults.{fault_line, fault_status}
use Rattle.pf_tool.specs.Outcomes.{IsAhead, StopsAt, Outcome, Falls, ComesOut}
use Rattle.pf_tool.specs.declared.fault.Fault.{Fault}
use Rattle.pf_tool.specs.declared.fault.Fault.TheVariants as faults
use Rattle.pf_tool.proofs.Composing.{files_kept, happened_honest, happened_then, tried_then, passed_none}

-- no fault says that the work is done
pub not_done : (fault : Fault) → fault_status fault ≡ 0 → ⊥
not_done faults.NoCommand is = absurd (cc)
not_done (faults.Refused why) is = absurd (cc)
not_done (faults.Damaged damage) is = absurd (cc)
not_done faults.Host is = absurd (cc)
not_done faults.Stream is = absurd (cc)
not_done faults.Memory is = absurd (cc)
not_done faults.Random is = absurd (cc)

-- where the part leads to an ending, the whole leads to it after what came before
pub stands_then : (xs : List Event) (Part Leads : List Event → Ending → Type 0) (es : List Event) (stop : Stop) → ((es : List Event) (ending : Ending) → Part es ending → Leads (xs ++ es) ending) → StopsAt Part es stop → StopsAt Leads (xs ++ es) stop
stands_then xs Part Leads es (AtEnd ending) go stands = go es ending stands
stands_then xs Part Leads es (Failed event) go stands =
    (stands.0, stands.1, subst (λ (l : List Event). Leads l stands.1) (sym (append_assoc xs es (event ∷ stands.0))) (go (es ++ event ∷ stands.0) stands.1 stands.2))
stands_then xs Part Leads es Starved go stands =
    (stands.0, stands.1, stands.2, subst (λ (l : List Event). Leads l stands.1) (sym (append_assoc xs es stands.0)) (go (es ++ stands.0) stands.1 stands.3))

-- some events after these lead to an ending
abbrev pub GoesOn : (List Event → Ending → Type 0) → List Event → Type 0
GoesOn Leads es = (more : List Event) × (ending : Ending) × Leads (es ++ more) ending

-- the whole ends with the part, or the part is done and the whole goes on
abbrev pub LeadsOn : (List Event → Ending → Type 0) → List Event → Ending → Type 0
LeadsOn Leads es ending = Leads es ending ⊎ ((ending ≡ Done) × GoesOn Leads es)

shifted : (xs es rest more : List Event) (event : Event) → (xs ++ (es ++ event ∷ rest)) ++ more ≡ (xs ++ es) ++ event ∷ (rest ++ more)
shifted xs es rest more event =
    ap (λ (l : List Event). l ++ more) (sym (append_assoc xs es (event ∷ rest))) ∙ append_assoc (xs ++ es) (event ∷ rest) more

module _ (xs : List Event) (Leads : List Event → Ending → Type 0) (es : List Event) where
  at_end : (ending : Ending) → (AtEnd ending ≡ AtEnd Done → ⊥) → LeadsOn Leads (xs ++ es) ending → Leads (xs ++ es) ending
  at_end ending never (inl leads) = leads
  at_end ending never (inr on) = absurd (never (ap AtEnd on.0))

  at_call : (event : Event) (rest : List Event) (ending : Ending) → LeadsOn Leads (xs ++ (es ++ event ∷ rest)) ending → StopsAt Leads (xs ++ es) (Failed event)
  at_call event rest ending (inl leads) = (rest, ending, subst (λ (l : List Event). Leads l ending) (sym (append_assoc xs es (event ∷ rest))) leads)
  at_call event rest ending (inr on) = (rest ++ on.1.0, on.1.1, subst (λ (l : List Event). Leads l on.1.1) (shifted xs es rest on.1.0 event) on.1.2)

  at_want : (rest : List Event) (ending : Ending) → IsAhead rest ending → LeadsOn Leads (xs ++ (es ++ rest)) ending → StopsAt Leads (xs ++ es) Starved
  at_want rest ending ahead (inl leads) = (rest, ending, ahead, subst (λ (l : List Event). Leads l ending) (sym (append_assoc xs es rest)) leads)
  at_want [] ending ahead (inr on) = absurd (subst MayStarve on.0 ahead)
  at_want (event ∷ rest) ending ahead (inr on) = (event ∷ (rest ++ on.1.0), on.1.1, tt, subst (λ (l : List Event). Leads l on.1.1) (shifted xs es rest on.1.0 event) on.1.2)

-- where a part that is done leads on, the whole stops where the part did
pub stands_on : (xs : List Event) (Part Leads : List Event → Ending → Type 0) (es : List Event) (stop : Stop) → ((es : List Event) (ending : Ending) → Part es ending → LeadsOn Leads (xs ++ es) ending)
    → (stop ≡ AtEnd Done → ⊥) → StopsAt Part es stop → StopsAt Leads (xs ++ es) stop
stands_on xs Part Leads es (AtEnd ending) go never stands = at_end xs Leads es ending never (go es ending stands)
stands_on xs Part Leads es (Failed event) go never stands = at_call xs Leads es event stands.0 stands.1 (go (es ++ event ∷ stands.0) stands.1 stands.2)
stands_on xs Part Leads es Starved go never stands = at_want xs Leads es stands.0 stands.1 stands.2 (go (es ++ stands.0) stands.1 stands.3)

module _ (xs : List Event) (Part Leads : List Event → Ending → Type 0) (PartLeaves Leaves : List Event → Stop → HostState → HostState → Type 0) (stop : Stop) (old mid new : World) where
  -- A part after other events. What it asked an honest host is answered so over the files before those events, too.
  pub outcome_of : (o : Outcome Part PartLeaves stop mid new) → Passed xs old mid → OnHonest old.host (λ files. AllByRecursion (IsAnswerOf files) (answers_in o.events)) → StopsAt Leads (xs ++ o.events) stop
      → (PartLeaves (tried o.events stop) stop mid.host new.host → Leaves (xs ++ tried o.events stop) stop old.host new.host) → Outcome Leads Leaves stop old new
  outcome_of o passed honest stands left = record {
    events = xs ++ o.events;
    stands = stands;
    happened = happened_then xs o.events stop old mid new passed o.happened honest;
    leaves = subst (λ (l : List Event). Leaves l stop old.host new.host) (sym (tried_then xs o.events stop)) (left o.leaves);
  }

  -- the last part of a command, after events that changed no file
  pub outcome_then : (o : Outcome Part PartLeaves stop mid new) → Passed xs old mid → KeepsFiles old.host mid.host → ((es : List Event) (ending : Ending) → Part es ending → Leads (xs ++ es) ending)
      → (PartLeaves (tried o.events stop) stop mid.host new.host → Leaves (xs ++ tried o.events stop) stop old.host new.host) → Outcome Leads Leaves stop old new
  outcome_then o passed kept go left =
      outcome_of o passed (files_kept (answers_in o.events) old.host mid.host kept (happened_honest o.events stop mid new o.happened)) (stands_then xs Part Leads o.events stop go o.stands) left

-- the last part of a command that only reads, after events that only read
pub falls_after : (xs : List Event) (Part Leads : List Event → Ending → Type 0) (fault : Fault) (old mid new : World) → Falls Part (λ _ _. KeepsDisk) fault mid new → Passed xs old mid → KeepsFiles old.host mid.host → KeepsDisk old.host new.host
    → ((es : List Event) (ending : Ending) → Part es ending → Leads (xs ++ es) ending) → Falls Leads (λ _ _. KeepsDisk) fault old new
falls_after xs Part Leads fault old mid new falls passed files kept go = record {
  stop = falls.stop;
  is_fault = falls.is_fault;
  outcome = outcome_then xs Part Leads (λ _ _. KeepsDisk) (λ _ _. KeepsDisk) falls.stop old mid new falls.outcome passed files go (λ left. kept);
}

pub ends_after : {T : Type 0} (xs : List Event) (Part Leads : List Event → Ending → Type 0) (result : Result T Fault) (old mid new : World) → ComesOut Part (λ _ _. KeepsDisk) result mid new → Passed xs old mid → KeepsFiles old.host mid.host → KeepsDisk old.host new.host
    → ((es : List Event) (ending : Ending) → Part es ending → Leads (xs ++ es) ending) → ComesOut Leads (λ _ _. KeepsDisk) result old new
ends_after xs Part Leads (Ok value) old mid new ends passed files kept go = outcome_then xs Part Leads (λ _ _. KeepsDisk) (λ _ _. KeepsDisk) (AtEnd Done) old mid new ends passed files go (λ left. kept)
ends_after xs Part Leads (Err fault) old mid new ends passed files kept go = falls_after xs Part Leads fault old mid new ends passed files kept go

-- A part that the command goes on from did not come to its end, after events that changed no file. What is left is known of a
-- command that is not done.
pub falls_undone : (xs : List Event) (Part Leads : List Event → Ending → Type 0) (PartLeaves Leaves : List Event → Stop → HostState → HostState → Type 0) (fault : Fault) (old mid new : World) → Passed xs old mid → KeepsFiles old.host mid.host
    → ((es : List Event) (ending : Ending) → Part es ending → LeadsOn Leads (xs ++ es) ending) → ((tried : List Event) (stop : Stop) → (stop ≡ AtEnd Done → ⊥) → PartLeaves tried stop mid.host new.host → Leaves (xs ++ tried) stop old.host new.host)
    → Falls Part PartLeaves fault mid new → Falls Leads Leaves fault old new
falls_undone xs Part Leads PartLeaves Leaves fault old mid new passed files go left falls =
    let o = falls.outcome in
    let never : falls.stop ≡ AtEnd Done → ⊥ = λ is. not_done fault (falls.is_fault.ends ∙ ap stop_status is) in
    record {
      stop = falls.stop;
      is_fault = falls.is_fault;
      outcome = outcome_of xs Part Leads PartLeaves Leaves falls.stop old mid new o passed (files_kept (answers_in o.events) old.host mid.host files (happened_honest o.events falls.stop mid new o.happened))
          (stands_on xs Part Leads o.events falls.stop go never o.stands) (left (tried o.events falls.stop) falls.stop never);
    }

pub falls_on : (xs : List Event) (Part Leads : List Event → Ending → Type 0) (PartLeaves Leaves : List Event → Stop → HostState → HostState → Type 0) (fault : Fault) (old mid new : World) → Passed xs old mid → KeepsFiles old.host mid.host
    → ((es : List Event) (ending : Ending) → Part es ending → LeadsOn Leads (xs ++ es) ending) → ((tried : List Event) (stop : Stop) → PartLeaves tried stop mid.host new.host → Leaves (xs ++ tried) stop old.host new.host)
    → Falls Part PartLeaves fault mid new → Falls Leads Leaves fault old new
falls_on xs Part Leads PartLeaves Leaves fault old mid new passed files go left falls = falls_undone xs Part Leads PartLeaves Leaves fault old mid new passed files go (λ tried stop never kept. left tried stop kept) falls

-- a command of one part
pub falls_as : (Part Leads : List Event → Ending → Type 0) (PartLeaves Leaves : List Event → Stop → HostState → HostState → Type 0) (fault : Fault) (old new : World) → ((es : List Event) (ending : Ending) → Part es ending → Leads es ending)
    → ((tried : List Event) (stop : Stop) → PartLeaves tried stop old.host new.host → Leaves tried stop old.host new.host) → Falls Part PartLeaves fault old new → Falls Leads Leaves fault old new
falls_as Part Leads PartLeaves Leaves fault old new go left falls = record {
  stop = falls.stop;
  is_fault = falls.is_fault;
  outcome = outcome_then [] Part Leads PartLeaves Leaves falls.stop old old new falls.outcome (passed_none old) refl go (left (tried falls.outcome.events falls.stop) falls.stop);
}

-- a refusal after these events
pub refused : (Leads : List Event → Ending → Type 0) (Leaves : List Event → Stop → HostState → HostState → Type 0) (events : List Event) (ending : Ending) (fault : Fault) (old new : World) → fault_line fault ≡ ending_line ending → fault_status fault ≡ ending_status ending
    → Leads events ending → Passed events old new → Leaves events (AtEnd ending) old.host new.host → Falls Leads Leaves fault old new
refused Leads Leaves events ending fault old new says ends leads passed left = record {
  stop = AtEnd ending;
  is_fault = record { says = says; ends = ends };
  outcome = record { events = events; stands = leads; happened = passed; leaves = left };
}

-- after these events the call for the next one failed
module _ (Leads : List Event → Ending → Type 0) (Leaves : List Event → Stop → HostState → HostState → Type 0) (events rest : List Event) (ending : Ending) (fault : Fault) (old mid new : World) where
  pub host_fails : (answer : Answer) → fault ≡ faults.Host → Leads (events ++ Answers answer ∷ rest) ending → Passed events old mid → CallFailed (Answers answer) mid new
      → Leaves (events ++ Answers answer ∷ []) (Failed (Answers answer)) old.host new.host → Falls Leads Leaves fault old new
  host_fails answer is leads passed failed left = record {
    stop = Failed (Answers answer);
    is_fault = record { says = ap fault_line is; ends = ap fault_status is };
    outcome = record { events = events; stands = (rest, ending, leads); happened = (mid, passed, failed); leaves = left };
  }

  pub out_fails : (bytes : List ℕ) → fault ≡ faults.Stream → Leads (events ++ Puts bytes ∷ rest) ending → Passed events old mid → CallFailed (Puts bytes) mid new
      → Leaves (events ++ Puts bytes ∷ []) (Failed (Puts bytes)) old.host new.host → Falls Leads Leaves fault old new
  out_fails bytes is leads passed failed left = record {
    stop = Failed (Puts bytes);
    is_fault = record { says = ap fault_line is; ends = ap fault_status is };
    outcome = record { events = events; stands = (rest, ending, leads); happened = (mid, passed, failed); leaves = left };
  }

-- there was no memory for what follows these events: an event, or an ending that is found in a text
pub starves_at : (Leads : List Event → Ending → Type 0) (Leaves : List Event → Stop → HostState → HostState → Type 0) (events rest : List Event) (ending : Ending) (fault : Fault) (old new : World) → fault ≡ faults.Memory → IsAhead rest ending
    → Leads (events ++ rest) ending → Passed events old new → Leaves events Starved old.host new.host → Falls Leads Leaves fault old new
starves_at Leads Leaves events rest ending fault old new is ahead leads passed left = record {
  stop = Starved;
  is_fault = record { says = ap fault_line is; ends = ap fault_status is };
  outcome = record { events = events; stands = (rest, ending, ahead, leads); happened = passed; leaves = left };
}

pub starves : (Leads : List Event → Ending → Type 0) (Leaves : List Event → Stop → HostState → HostState → Type 0) (events rest : List Event) (event : Event) (ending : Ending) (fault : Fault) (old new : World) → fault ≡ faults.Memory
    → Leads (events ++ event ∷ rest) ending → Passed events old new → Leaves events Starved old.host new.host → Falls Leads Leaves fault old new
starves Leads Leaves events rest event ending fault old new is leads passed left = starves_at Leads Leaves events (event ∷ rest) ending fault old new is tt leads passed left
