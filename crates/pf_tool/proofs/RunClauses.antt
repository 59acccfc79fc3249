-- The clauses of a run, each from what the whole run came to.
use Rattle.std.proofs.Common.{◌≡◌, ◌≢◌, ◌⊎◌, inl, inr, ⊎_elim, ℕ, ◌≤◌, List, [], ◌∷◌, ◌++◌, subst, ap, ◌∙◌, sym, arith, Option, Some, Result, Ok, Err, IfSome}
use Rattle.std.specs.List.{AllByRecursion, concat}
use Rattle.std.proofs.lemmas.List.{append-nil}
use Rattle.pf_io.specs.Disk.{Files}
use Rattle.pf_io.specs.Host.{Answer, HostState, IsMore, files_of}
use Rattle.pf_io.specs.Answered.{IsAnswerOf, WereTold}
use Rattle.pf_io.specs.Streams.{SourceState, SinkState, TakesFront}
use Rattle.pf_io.specs.Words.{WordsState}
use Rattle.pf_io.proofs.Telling.{both_weaker}
use Rattle.pf_tool.specs.World.{World, world_of, with_log}
use Rattle.pf_tool.specs.Events.{Event, Answers, Draws, Puts, answers_in, words_in, pieces_in, bytes_in}
use Rattle.pf_tool.specs.Endings.{Ending, Done, MayStarve, Stop, AtEnd, Failed, Starved, stop_line, stop_status}
use Rattle.pf_tool.specs.declared.fault.Fault.{Fault}
use Rattle.pf_tool.proofs.Stopping.{not_done}
use Rattle.pf_tool.specs.Happened.{Passed, Happened}
use Rattle.pf_tool.specs.Faults.{fault_status}
use Rattle.pf_tool.specs.Outcomes.{IsAhead, StopsAt, ComesOut, Concludes}
use Rattle.pf_tool.specs.Reports.{Reported, Reports}
use Rattle.pf_tool.specs.Requests.{Request}
use Rattle.pf_tool.specs.Runs.{Leads, LeavesHost, RunsByEvents, CausedOnce, ByWords, DecidedByEvents, NoneCounted, Honestly, as_files_give, starved}
use Rattle.pf_tool.proofs.RunStops.{not_two, reports_of, stop_low, said, status_of, host_counted, random_counted, out_counted, all_passed, none_failed}
use Rattle.pf_tool.proofs.RunLaws.{silent, spoken, decided, none_left, over, over_front}
use Rattle.pf_tool.proofs.ContentRuns.{told_of, these_told, front_taken}

-- a command, and what was said of it
pub concluded : {T : Type 0} (request : Request) (r : Result T Fault) (h0 h1 : HostState) (input : SourceState) (o0 o1 l0 l1 : SinkState) (r0 r1 : WordsState) (status : ℕ) → ComesOut (Leads request) (LeavesHost request) r (world_of h0 input o0 l0 r0) (world_of h1 input o1 l0 r1)
    → Concludes r l0 l1 status → RunsByEvents request (world_of h0 input o0 l0 r0) (world_of h1 input o1 l1 r1) status
concluded request (Ok v) h0 h1 input o0 o1 l0 l1 r0 r1 status ends said = record { stop = AtEnd Done; outcome = ends; reports = said }
concluded request (Err fault) h0 h1 input o0 o1 l0 l1 r0 r1 status ends said = record {
  stop = ends.stop;
  outcome = ends.outcome;
  reports = reports_of ends.stop l0 l1 status (λ is. not_done fault (ends.is_fault.ends ∙ ap stop_status is))
      (subst (λ (n : ℕ). Reported (stop_line ends.stop) n l0 l1 status) ends.is_fault.ends (subst (λ (l : List ℕ). Reported l (fault_status fault) l0 l1 status) ends.is_fault.says said));
}

-- worlds of the same parts
same_world : (host host2 : HostState) (input input2 : SourceState) (out out2 log log2 : SinkState) (random random2 : WordsState) → host2 ≡ host → input2 ≡ input → out2 ≡ out → log2 ≡ log → random2 ≡ random
    → world_of host2 input2 out2 log2 random2 ≡ world_of host input out log random
same_world host host2 input input2 out out2 log log2 random random2 a b c d e =
    ap (λ (x : HostState). world_of x input2 out2 log2 random2) a ∙ ap (λ (x : SourceState). world_of host x out2 log2 random2) b ∙ ap (λ (x : SinkState). world_of host input x log2 random2) c
    ∙ ap (λ (x : SinkState). world_of host input out x random2) d ∙ ap (λ (x : WordsState). world_of host input out log x) e

-- nothing happened
nothing_passed : (es : List Event) (old new : World) → es ≡ [] → Passed es old new → new ≡ old
nothing_passed es old new none passed =
    same_world old.host new.host old.input new.input old.out new.out old.log new.log old.random new.random (passed.host.untouched (ap (λ (l : List Event). answers_in l) none)) passed.input
    (passed.out.untouched (ap (λ (l : List Event). pieces_in l) none)) passed.log (passed.random.untouched (ap (λ (l : List Event). words_in l) none))

pub all_of : (files : Files) (o : Option Files) (these : List Answer) → o ≡ Some files → IfSome o (λ f. AllByRecursion (IsAnswerOf f) these) → AllByRecursion (IsAnswerOf files) these
all_of files o these is honest = subst (λ (x : Option Files). IfSome x (λ f. AllByRecursion (IsAnswerOf f) these)) is honest

-- a list with an event in it
some_event : (es : List Event) (event : Event) (rest : List Event) → es ++ event ∷ rest ≡ [] → ⊥
some_event [] event rest none = absurd (cc)
some_event (x ∷ es) event rest none = absurd (cc)

-- a failure has a status above 3
failed_high : (event : Event) → 4 ≤ stop_status (Failed event)
failed_high (Answers answer) = omega arith
failed_high (Draws word) = omega arith
failed_high (Puts bytes) = omega arith

module _ (request : Request) (old new : World) (status : ℕ) (run : RunsByEvents request old new status) where
  abbrev Now : World
  Now = with_log new old.log

  pub events_causes : CausedOnce old new status
  events_causes =
      let what = said run.stop old.log new.log status run.reports in
      let es = run.outcome.events in
      let happened = run.outcome.happened in
      record {
        host_fault = λ is. host_counted es old Now run.stop happened (sym (status_of run.stop old.log new.log status what (λ seven. omega (arith, seven, is))) ∙ is);
        random_fault = λ is. random_counted es old Now run.stop happened (sym (status_of run.stop old.log new.log status what (λ seven. omega (arith, seven, is))) ∙ is);
        stream_fault = λ is. ⊎_elim (λ both. inl (out_counted es old Now run.stop happened (sym both.0 ∙ is))) (λ both. inr both.1) what;
        calm = λ low.
            let same = status_of run.stop old.log new.log status what (λ seven. ⊎_elim (λ le. omega (arith, le, seven)) (λ e. omega (arith, e, seven)) low) in
            let passed = all_passed es old Now run.stop happened (⊎_elim (λ le. inl (omega (arith, le, same))) (λ e. inr (sym same ∙ e)) low) in
            record {
              host = passed.host.calm;
              out = passed.out.calm;
              log = ⊎_elim (λ both. both.1.calm) (λ both. absurd (⊎_elim (λ le. omega (arith, le, both.0)) (λ e. omega (arith, e, both.0)) low)) what;
              random = passed.random.calm;
            };
        most = ⊎_elim (λ both. omega (arith, both.0, stop_low run.stop)) (λ both. omega (arith, both.0)) what;
      }

  -- where the words alone lead to an ending, nothing is ahead
  not_ahead : (es rest : List Event) (ending other : Ending) → IsAhead rest other → Leads request [] ending → (es ++ rest ≡ []) × (ending ≡ other) → ⊥
  not_ahead es [] ending other ahead leads alone = subst MayStarve (sym alone.1 ∙ spoken request ending leads) ahead
  not_ahead es (event ∷ rest) ending other ahead leads alone = some_event es event rest alone.0

  by_words_at : (stop : Stop) (es : List Event) (ending : Ending) → Leads request [] ending → StopsAt (Leads request) es stop → Happened es stop old Now → Reports stop old.log new.log status → Reports (AtEnd ending) old.log new.log status × (Now ≡ old)
  by_words_at (AtEnd other) es ending leads stands happened reports =
      let alone = silent request ending other es leads stands in
      (subst (λ (e : Ending). Reports (AtEnd e) old.log new.log status) (sym alone.1) reports, nothing_passed es old Now alone.0 happened)
  by_words_at (Failed event) es ending leads stands happened reports = absurd (some_event es event stands.0 (silent request ending stands.1 (es ++ event ∷ stands.0) leads stands.2).0)
  by_words_at Starved es ending leads stands happened reports = absurd (not_ahead es stands.0 ending stands.1 stands.2 leads (silent request ending stands.1 (es ++ stands.0) leads stands.3))

  pub events_by_words : ByWords request old new status
  events_by_words ending leads = by_words_at run.stop run.outcome.events ending leads run.outcome.stands run.outcome.happened run.reports

  -- memory is wanting behind all answers of an ending alone where it may be for this ending
  want_decided : (es events rest : List Event) (ending other : Ending) → ending ≢ Done → Leads request events ending → IsAhead rest other → Leads request (es ++ rest) other → answers_in es ≡ answers_in events → MayStarve ending
  want_decided es events [] ending other refused leads ahead stands same =
      subst MayStarve (decided request (es ++ []) events other ending stands leads (ap (λ (l : List Event). answers_in l) (append-nil es) ∙ same)) ahead
  want_decided es events (event ∷ rest) ending other refused leads ahead stands same = absurd (none_left request events es event rest ending other refused leads stands same)

  decided_at : (stop : Stop) (es events : List Event) (ending : Ending) → Leads request events ending → WereTold (answers_in events) old.host new.host → (status ≤ 3) ⊎ (ending ≢ Done) → StopsAt (Leads request) es stop → Happened es stop old Now → Reports stop old.log new.log status
      → Reports (AtEnd ending) old.log new.log status ⊎ (MayStarve ending × Reports Starved old.log new.log status)
  decided_at (AtEnd other) es events ending leads told low stands happened reports =
      let same : other ≡ ending = decided request es events other ending stands leads (these_told old.host new.host (answers_in es) (answers_in events) happened.host.told told) in
      inl (subst (λ (e : Ending). Reports (AtEnd e) old.log new.log status) same reports)
  decided_at (Failed event) es events ending leads told (inr refused) stands happened reports =
      absurd (none_left request events es event stands.0 ending stands.1 refused leads stands.2 (these_told old.host new.host (answers_in es) (answers_in events) (told_of es (Failed event) old Now happened) told))
  decided_at (Failed event) es events ending leads told (inl low) stands happened reports = absurd (⊎_elim (λ both. omega (arith, both.0, low, failed_high event)) (λ both. omega (arith, both.0, low)) (said (Failed event) old.log new.log status reports))
  decided_at Starved es events ending leads told (inr refused) stands happened reports =
      inr (want_decided es events stands.0 ending stands.1 refused leads stands.2 stands.3 (these_told old.host new.host (answers_in es) (answers_in events) (told_of es Starved old Now happened) told), reports)
  decided_at Starved es events ending leads told (inl low) stands happened reports = absurd (⊎_elim (λ both. omega (arith, both.0, low)) (λ both. omega (arith, both.0, low)) (said Starved old.log new.log status reports))

  pub events_decided : DecidedByEvents request old new status
  events_decided events ending leads told low = decided_at run.stop run.outcome.events events ending leads told low run.outcome.stands run.outcome.happened run.reports

  honest_at : (stop : Stop) (es : List Event) (files : Files) → files_of old.host ≡ Some files → NoneCounted old new → StopsAt (Leads request) es stop → Happened es stop old Now → Reports stop old.log new.log status → Honestly request files old new status
  honest_at (AtEnd ending) es files is none stands happened reports =
      ⊎_elim (λ both. as_files_give (pieces_in es) ending (over request files es ending stands (all_of files (files_of old.host) (answers_in es) is happened.host.honest)) both.0 (record { told = happened.out.told; calm = happened.out.calm }) both.1)
      (λ both. absurd (none.log both.1)) (said (AtEnd ending) old.log new.log status reports)
  honest_at (Failed event) es files is none stands happened reports = absurd (none_failed es old Now event happened none.host none.random none.out)
  honest_at Starved es files is none stands happened reports =
      ⊎_elim (λ both. starved (λ pieces ending gives.
      let front = over_front request files es stands.0 stands.1 ending pieces stands.3 (all_of files (files_of old.host) (answers_in es) is happened.host.honest) gives in
      both_weaker (IsMore (bytes_in es)) (TakesFront (concat pieces)) old.out.bytes new.out.bytes happened.out.told (λ before now more. front_taken (bytes_in es) front.0 (concat pieces) before now front.1 more)) both.0 both.1)
      (λ both. absurd (none.log both.1)) (said Starved old.log new.log status reports)

  pub events_honest : (files : Files) → files_of old.host ≡ Some files → NoneCounted old new → Honestly request files old new status
  events_honest files is none = honest_at run.stop run.outcome.events files is none run.outcome.stands run.outcome.happened run.reports

  pub events_not_two : status ≡ 2 → ⊥
  events_not_two is = ⊎_elim (λ both. not_two run.stop (sym both.0 ∙ is)) (λ both. omega (arith, both.0, is)) (said run.stop old.log new.log status run.reports)
