-- The clauses of a run, from where it stopped and what it said.
use Rattle.std.proofs.Common.{◌≡◌, ◌≢◌, ◌⊎◌, inl, inr, ⊎_elim, ℕ, ◌≤◌, List, [], ◌∷◌, ◌++◌, refl, subst, ap, ◌∙◌, sym, arith}
use Rattle.std.proofs.lemmas.List.{append-nil}
use Rattle.pf_io.specs.Counts.{counted}
use Rattle.pf_io.specs.Host.{IsMore}
use Rattle.pf_io.specs.Streams.{SinkState}
use Rattle.pf_io.proofs.Telling.{both_same}
use Rattle.pf_tool.specs.World.{World}
use Rattle.pf_tool.specs.Events.{Event, Answers, Draws, Puts, words_in, pieces_in}
use Rattle.pf_tool.specs.Endings.{Ending, Done, Damaged, Refused, Stop, AtEnd, Failed, Starved, ending_status, stop_line, stop_status}
use Rattle.pf_tool.specs.Happened.{Passed, CallFailed, Happened}
use Rattle.pf_tool.specs.Outcomes.{StopsAt}
use Rattle.pf_tool.specs.Reports.{WroteAll, Reported, line_written, log_failed, Reports}
use Rattle.pf_io.proofs.Writing.{once_after}
use Rattle.pf_tool.proofs.Composing.{words_then, pieces_then}

ending_low : (ending : Ending) → ending_status ending ≤ 3
ending_low Done = omega arith
ending_low (Damaged node kind) = omega arith
ending_low (Refused why) = omega arith

pub stop_low : (stop : Stop) → stop_status stop ≤ 7
stop_low (AtEnd ending) = omega (arith, ending_low ending)
stop_low (Failed (Answers answer)) = omega arith
stop_low (Failed (Draws word)) = omega arith
stop_low (Failed (Puts bytes)) = omega arith
stop_low Starved = omega arith

-- what was said: the line, or the log failed
abbrev pub Said : Stop → SinkState → SinkState → ℕ → Type 0
Said stop old new status = ((status ≡ stop_status stop) × WroteAll (stop_line stop) old new) ⊎ ((status ≡ 7) × (new.faults ≡ counted old.faults))

pub wrote_nothing : (old new : SinkState) → new ≡ old → WroteAll [] old new
wrote_nothing old new same = record { told = both_same (IsMore []) old.bytes new.bytes (ap (λ (s : SinkState). s.bytes) same) (λ bytes. sym (append-nil bytes)); calm = ap (λ (s : SinkState). s.faults) same }

pub reported_said : (text : List ℕ) (n : ℕ) (old new : SinkState) (status : ℕ) → Reported text n old new status → ((status ≡ n) × WroteAll text old new) ⊎ ((status ≡ 7) × (new.faults ≡ counted old.faults))
reported_said text n old new status (line_written is wrote) = inl (is, wrote)
reported_said text n old new status (log_failed is failed) = inr (is, failed.once)

pub said : (stop : Stop) (old new : SinkState) (status : ℕ) → Reports stop old new status → Said stop old new status
said (AtEnd Done) old new status reports = inl (reports.0, wrote_nothing old new reports.1)
said (AtEnd (Damaged node kind)) old new status reports = reported_said _ _ old new status reports
said (AtEnd (Refused why)) old new status reports = reported_said _ _ old new status reports
said (Failed event) old new status reports = reported_said _ _ old new status reports
said Starved old new status reports = reported_said _ _ old new status reports

-- what a fault says at a stop is what is said there
pub reports_of : (stop : Stop) (old new : SinkState) (status : ℕ) → (stop ≡ AtEnd Done → ⊥) → Reported (stop_line stop) (stop_status stop) old new status → Reports stop old new status
reports_of (AtEnd Done) old new status never reported = absurd (never refl)
reports_of (AtEnd (Damaged node kind)) old new status never reported = reported
reports_of (AtEnd (Refused why)) old new status never reported = reported
reports_of (Failed event) old new status never reported = reported
reports_of Starved old new status never reported = reported

not_two_at : (ending : Ending) → ending_status ending ≡ 2 → ⊥
not_two_at Done is = absurd (cc)
not_two_at (Damaged node kind) is = absurd (cc)
not_two_at (Refused why) is = absurd (cc)

-- no command ends with status 2
pub not_two : (stop : Stop) → stop_status stop ≡ 2 → ⊥
not_two (AtEnd ending) is = not_two_at ending is
not_two (Failed (Answers answer)) is = absurd (cc)
not_two (Failed (Draws word)) is = absurd (cc)
not_two (Failed (Puts bytes)) is = absurd (cc)
not_two Starved is = absurd (cc)

-- a status that is no stream fault is that of the stop
pub status_of : (stop : Stop) (old new : SinkState) (status : ℕ) → Said stop old new status → (status ≡ 7 → ⊥) → status ≡ stop_status stop
status_of stop old new status (inl both) other = both.0
status_of stop old new status (inr both) other = absurd (other both.0)

module _ (es : List Event) (old new : World) where
  pub host_counted : (stop : Stop) → Happened es stop old new → stop_status stop ≡ 4 → new.host.faults ≡ counted old.host.faults
  host_counted (AtEnd ending) happened is = absurd (omega (arith, is, ending_low ending))
  host_counted (Failed (Answers answer)) happened is = once_after old.host.faults happened.0.host.faults new.host.faults happened.1.host.calm happened.2.0.once
  host_counted (Failed (Draws word)) happened is = absurd (cc)
  host_counted (Failed (Puts bytes)) happened is = absurd (cc)
  host_counted Starved happened is = absurd (cc)

  pub random_counted : (stop : Stop) → Happened es stop old new → stop_status stop ≡ 6 → new.random.faults ≡ counted old.random.faults
  random_counted (AtEnd ending) happened is = absurd (omega (arith, is, ending_low ending))
  random_counted (Failed (Answers answer)) happened is = absurd (cc)
  random_counted (Failed (Draws word)) happened is = once_after old.random.faults happened.0.random.faults new.random.faults happened.1.random.calm happened.2.0.once
  random_counted (Failed (Puts bytes)) happened is = absurd (cc)
  random_counted Starved happened is = absurd (cc)

  pub out_counted : (stop : Stop) → Happened es stop old new → stop_status stop ≡ 7 → new.out.faults ≡ counted old.out.faults
  out_counted (AtEnd ending) happened is = absurd (omega (arith, is, ending_low ending))
  out_counted (Failed (Answers answer)) happened is = absurd (cc)
  out_counted (Failed (Draws word)) happened is = absurd (cc)
  out_counted (Failed (Puts bytes)) happened is = once_after old.out.faults happened.0.out.faults new.out.faults happened.1.out.calm happened.2.0.once
  out_counted Starved happened is = absurd (cc)

  -- a stop at which nothing failed
  pub all_passed : (stop : Stop) → Happened es stop old new → (stop_status stop ≤ 3) ⊎ (stop_status stop ≡ 5) → Passed es old new
  all_passed (AtEnd ending) happened calm = happened
  all_passed (Failed (Answers answer)) happened calm = ⊎_elim (λ le. absurd (omega arith)) (λ is. absurd (cc)) calm
  all_passed (Failed (Draws word)) happened calm = ⊎_elim (λ le. absurd (omega arith)) (λ is. absurd (cc)) calm
  all_passed (Failed (Puts bytes)) happened calm = ⊎_elim (λ le. absurd (omega arith)) (λ is. absurd (cc)) calm
  all_passed Starved happened calm = happened

  -- what failed is counted
  pub none_failed : (event : Event) → Happened es (Failed event) old new → new.host.faults ≢ counted old.host.faults → new.random.faults ≢ counted old.random.faults → new.out.faults ≢ counted old.out.faults → ⊥
  none_failed (Answers answer) happened host random out = host (host_counted (Failed (Answers answer)) happened refl)
  none_failed (Draws word) happened host random out = random (random_counted (Failed (Draws word)) happened refl)
  none_failed (Puts bytes) happened host random out = out (out_counted (Failed (Puts bytes)) happened refl)

  -- the input is never touched
  pub input_kept : (stop : Stop) → Happened es stop old new → new.input ≡ old.input
  input_kept (AtEnd ending) happened = happened.input
  input_kept (Failed (Answers answer)) happened = ap (λ (w : World). w.input) happened.2.1 ∙ happened.1.input
  input_kept (Failed (Draws word)) happened = ap (λ (w : World). w.input) happened.2.1 ∙ happened.1.input
  input_kept (Failed (Puts bytes)) happened = ap (λ (w : World). w.input) happened.2.1 ∙ happened.1.input
  input_kept Starved happened = happened.input

-- the words of a front
no_front : {A : Type 0} (xs ys : List A) → xs ++ ys ≡ [] → (xs ≡ []) × (ys ≡ [])
no_front [] ys none = (refl, none)
no_front (x ∷ xs) ys none = absurd (cc)

failed_undrawn : (event : Event) (mid new : World) (rest : List Event) → words_in (event ∷ rest) ≡ [] → CallFailed event mid new → new.random ≡ mid.random
failed_undrawn (Answers answer) mid new rest none failed = ap (λ (w : World). w.random) failed.1
failed_undrawn (Draws word) mid new rest none failed = absurd (cc)
failed_undrawn (Puts bytes) mid new rest none failed = ap (λ (w : World). w.random) failed.1

failed_unput : (event : Event) (mid new : World) (rest : List Event) → pieces_in (event ∷ rest) ≡ [] → CallFailed event mid new → new.out ≡ mid.out
failed_unput (Answers answer) mid new rest none failed = ap (λ (w : World). w.out) failed.1
failed_unput (Draws word) mid new rest none failed = ap (λ (w : World). w.out) failed.1
failed_unput (Puts bytes) mid new rest none failed = absurd (cc)

-- where no run draws, the random words stay
pub undrawn : (Leads : List Event → Ending → Type 0) (es : List Event) (stop : Stop) (old new : World) → ((es : List Event) (ending : Ending) → Leads es ending → words_in es ≡ []) → StopsAt Leads es stop → Happened es stop old new → new.random ≡ old.random
undrawn Leads es (AtEnd ending) old new never stands happened = happened.random.untouched (never es ending stands)
undrawn Leads es (Failed event) old new never stands happened =
    let both = no_front (words_in es) (words_in (event ∷ stands.0)) (sym (words_then es (event ∷ stands.0)) ∙ never (es ++ event ∷ stands.0) stands.1 stands.2) in
    failed_undrawn event happened.0 new stands.0 both.1 happened.2 ∙ happened.1.random.untouched both.0
undrawn Leads es Starved old new never stands happened =
    let both = no_front (words_in es) (words_in stands.0) (sym (words_then es stands.0) ∙ never (es ++ stands.0) stands.1 stands.3) in
    happened.random.untouched both.0

-- where no run puts anything out, the output stays
pub unput : (Leads : List Event → Ending → Type 0) (es : List Event) (stop : Stop) (old new : World) → ((es : List Event) (ending : Ending) → Leads es ending → pieces_in es ≡ []) → StopsAt Leads es stop → Happened es stop old new → new.out ≡ old.out
unput Leads es (AtEnd ending) old new never stands happened = happened.out.untouched (never es ending stands)
unput Leads es (Failed event) old new never stands happened =
    let both = no_front (pieces_in es) (pieces_in (event ∷ stands.0)) (sym (pieces_then es (event ∷ stands.0)) ∙ never (es ++ event ∷ stands.0) stands.1 stands.2) in
    failed_unput event happened.0 new stands.0 both.1 happened.2 ∙ happened.1.out.untouched both.0
unput Leads es Starved old new never stands happened =
    let both = no_front (pieces_in es) (pieces_in stands.0) (sym (pieces_then es stands.0) ∙ never (es ++ stands.0) stands.1 stands.3) in
    happened.out.untouched both.0

-- where the work is done the status is 0, and only there
pub reports_done : (ending : Ending) (old new : SinkState) (status : ℕ) → ending ≡ Done → Reports (AtEnd ending) old new status → status ≡ 0
reports_done ending old new status is reports = (subst (λ (e : Ending). Reports (AtEnd e) old new status) is reports).0

zero_end : (ending : Ending) → ending_status ending ≡ 0 → ending ≡ Done
zero_end Done is = refl
zero_end (Damaged node kind) is = absurd (cc)
zero_end (Refused why) is = absurd (cc)

zero_stop : (stop : Stop) → stop_status stop ≡ 0 → stop ≡ AtEnd Done
zero_stop (AtEnd ending) is = ap AtEnd (zero_end ending is)
zero_stop (Failed (Answers answer)) is = absurd (cc)
zero_stop (Failed (Draws word)) is = absurd (cc)
zero_stop (Failed (Puts bytes)) is = absurd (cc)
zero_stop Starved is = absurd (cc)

pub done_at_zero : (stop : Stop) (old new : SinkState) (status : ℕ) → Reports stop old new status → status ≡ 0 → stop ≡ AtEnd Done
done_at_zero stop old new status reports is = zero_stop stop (sym (status_of stop old new status (said stop old new status reports) (λ seven. omega (arith, seven, is))) ∙ is)
