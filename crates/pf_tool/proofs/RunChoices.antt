-- The clauses of a run, by what its words ask for.
use Rattle.std.proofs.Common.{◌≡◌, ⊎_elim, ℕ, ◌<◌, ◌≤◌, List, [], ◌∷◌, ◌++◌, length, filter, refl, subst, ap, ◌∙◌, sym, arith, Option, Some, None, Result, Err}
use Rattle.std.specs.Prelude.{IfSome, IsSomeAnd}
use Rattle.std.specs.List.{concat}
use Rattle.std.proofs.lemmas.List.Elements.{filter-append}
use Rattle.node_layout.specs.Metadata.{MOST_SIZE}
use Rattle.pf_io.specs.Disk.{Name}
use Rattle.pf_io.specs.Host.{Answer, Both, IsMore, ReadsAsImage}
use Rattle.pf_io.specs.Answered.{WereTold}
use Rattle.pf_io.specs.Streams.{SinkState}
use Rattle.pf_io.specs.Unchanged.{KeepsDisk}
use Rattle.pf_script.specs.LineReading.{MOST_READS}
use Rattle.pf_tool.specs.World.{World, with_log}
use Rattle.pf_tool.specs.Events.{Event, Answers, Draws, Puts, answers_in, pieces_in}
use Rattle.pf_tool.specs.Endings.{Ending, Done, Stop, AtEnd, Failed, Starved, tried, ending_status, stop_status}
use Rattle.pf_tool.specs.Happened.{OutPassed, Passed, Happened}
use Rattle.pf_tool.specs.Keys.{key_unnamed, key_absent, key_length, key_short}
use Rattle.pf_tool.specs.Encrypting.{EncryptRefused, no_key, names_unfit, input_absent, EncryptGoes, not_found, input_found, IsVersion}
use Rattle.pf_tool.specs.Manifests.{out_pieces, TookText, ManifestLeads}
use Rattle.pf_tool.specs.Outcomes.{Falls, Concludes, StopsAt}
use Rattle.pf_tool.specs.Requests.{Request, Decrypt, Encrypt, Session, Manifest, Sums, Measure}
use Rattle.pf_tool.specs.Runs.{Leads, MayBeNew, RunsByEvents, Runs, CausedOnce, Causes, ByWords, Content, Decided, DecidedSealing, Honest, LeavesOutput, Stays}
use Rattle.pf_tool.specs.SealedContents.{is_piece_of, piece_answers, GavePieces}
use Rattle.pf_tool.specs.Summing.{SumsLead, WroteSums}
use Rattle.pf_tool.specs.Measuring.{MeasureLeads}
use Rattle.pf_tool.specs.declared.fault.Fault.{Fault}
use Rattle.template_text.specs.Rendering.{Values}
use Rattle.pf_tool.proofs.Composing.{answers_then}
use Rattle.pf_tool.proofs.ContentRuns.{told_of, these_told, took_content}
use Rattle.pf_tool.proofs.DecryptLaws.{decrypt_undrawn}
use Rattle.pf_tool.proofs.EncryptClauses.{refused_none, found_content, not_refused, found_large, found_honest, found_disk}
use Rattle.pf_tool.proofs.EncryptLaws.{encrypt_unput, words_alone}
use Rattle.pf_tool.proofs.PiecesStand.{kept_alone}
use Rattle.pf_tool.proofs.SealDisks.{alone_left}
use Rattle.pf_tool.proofs.EncryptRuns.{made_nothing, out_kept, found_causes, found_not_one, found_not_two}
use Rattle.pf_tool.proofs.ManifestLaws.{GivenText, manifest_given, manifest_undrawn, manifest_unput}
use Rattle.pf_tool.proofs.MeasureLaws.{measure_undrawn, measure_put}
use Rattle.pf_tool.proofs.ScriptCauses.{run_script_causes}
use Rattle.pf_tool.proofs.ScriptKey.{script_by_words, script_decided, script_refused}
use Rattle.pf_tool.proofs.ScriptOver.{script_over}
use Rattle.pf_tool.proofs.ScriptContent.{script_content}
use Rattle.pf_tool.proofs.RunClauses.{events_causes, events_by_words, events_decided, events_honest, events_not_two}
use Rattle.pf_tool.proofs.RunStops.{said, input_kept, undrawn, unput, done_at_zero}
use Rattle.pf_tool.proofs.SumsLaws.{sums_undrawn, put_lines, put_both}
use Rattle.pf_tool.proofs.TextPutting.{concat_pieces}

front_none : {A : Type 0} (xs ys : List A) → xs ++ ys ≡ [] → xs ≡ []
front_none [] ys none = refl
front_none (x ∷ xs) ys none = absurd (cc)

-- no ending of a refusal is a damage or the end of the work
refusal_status : (key input output : Name) (es : List Event) (ending : Ending) → EncryptRefused key input output es ending → ending_status ending ≡ 3
refusal_status key input output es ending (no_key (key_unnamed u is ends)) = ap ending_status ends
refusal_status key input output es ending (no_key (key_absent named is ends)) = ap ending_status ends
refusal_status key input output es ending (no_key (key_length n named other is ends)) = ap ending_status ends
refusal_status key input output es ending (no_key (key_short bytes named short is ends)) = ap ending_status ends
refusal_status key input output es ending (names_unfit user has unfit is ends) = ap ending_status ends
refusal_status key input output es ending (input_absent user has target fit is ends) = ap ending_status ends

stop_status_least : (key input output : Name) (es : List Event) (stop : Stop) → StopsAt (EncryptRefused key input output) es stop → 3 ≤ stop_status stop
stop_status_least key input output es (AtEnd ending) stands = let e = refusal_status key input output es ending stands in omega (arith, e)
stop_status_least key input output es (Failed (Answers answer)) stands = omega arith
stop_status_least key input output es (Failed (Draws word)) stands = omega arith
stop_status_least key input output es (Failed (Puts bytes)) stands = omega arith
stop_status_least key input output es Starved stands = omega arith

-- no piece is among the answers of a run that made nothing
front_pieces : (key input output : Name) (es rest : List Event) (ending : Ending) → EncryptRefused key input output (es ++ rest) ending → filter (is_piece_of input) (answers_in es) ≡ []
front_pieces key input output es rest ending refused =
    front_none (filter (is_piece_of input) (answers_in es)) (filter (is_piece_of input) (answers_in rest))
    (sym (filter-append (is_piece_of input) (answers_in es) (answers_in rest)) ∙ ap (λ (l : List Answer). filter (is_piece_of input) l) (sym (answers_then es rest)) ∙ refused_none key input output (es ++ rest) ending refused)

no_pieces : (key input output : Name) (es : List Event) (stop : Stop) → StopsAt (EncryptRefused key input output) es stop → filter (is_piece_of input) (answers_in es) ≡ []
no_pieces key input output es (AtEnd ending) stands = refused_none key input output es ending stands
no_pieces key input output es (Failed event) stands = front_pieces key input output es (event ∷ stands.0) stands.1 stands.2
no_pieces key input output es Starved stands = front_pieces key input output es stands.0 stands.1 stands.3

none_given : (input : Name) (pieces : List (List ℕ)) → piece_answers input 0 pieces ≡ [] → pieces ≡ []
none_given input [] none = refl
none_given input (piece ∷ pieces) none = absurd (cc)

-- a run of `encrypt` made nothing, or found its input
module _ (key input output : Name) (old new : World) (status : ℕ) where
  -- what holds of a run that made nothing
  module _ (run : RunsByEvents (Encrypt key input output) old new status) where
    abbrev es : List Event
    es = run.outcome.events

    not_low : status ≤ 2 → ⊥
    not_low low =
        let least = stop_status_least key input output es run.stop run.outcome.stands in
        ⊎_elim (λ both. omega (arith, both.0, least, low)) (λ both. omega (arith, both.0, low)) (said run.stop old.log new.log status run.reports)

    not_large : (these : List Answer) (pieces : List (List ℕ)) → WereTold these old.host new.host → GavePieces input these pieces → MOST_SIZE < length (concat pieces) → ⊥
    not_large these pieces were gave large =
        let same = these_told old.host new.host (answers_in es) these (told_of es run.stop old (with_log new old.log) run.outcome.happened) were in
        let none = none_given input pieces (sym gave ∙ ap (λ (l : List Answer). filter (is_piece_of input) l) (sym same) ∙ no_pieces key input output es run.stop run.outcome.stands) in
        let e = ap (λ (l : List (List ℕ)). length (concat l)) none in
        omega (arith, e, large)

    kept_disk : LeavesOutput output (IsVersion key input output) old new status
    kept_disk =
        alone_left output (λ disk file. IsVersion key input output disk file) (MayBeNew old new status) (status ≡ 0) old.host new.host (λ zero_is. not_low (omega (arith, zero_is))) (kept_alone output old.host new.host run.outcome.leaves)

  abbrev Ended : Result (Unit {0}) Fault → Type 0
  Ended ended = Concludes ended old.log new.log status

  nothing : (ended : Result (Unit {0}) Fault) (fault : Fault) → Falls (EncryptRefused key input output) (λ _ _. KeepsDisk) fault old (with_log new old.log) → ended ≡ Err fault → Ended ended → RunsByEvents (Encrypt key input output) old new status
  nothing ended fault falls is concludes = made_nothing key input output old new status fault falls (subst Ended is concludes)

  abbrev Goes : Result (Unit {0}) Fault → Type 0
  Goes ended = EncryptGoes key input output ended old (with_log new old.log)

  sealing_causes : (ended : Result (Unit {0}) Fault) → Goes ended → Ended ended → CausedOnce old new status
  sealing_causes ended (not_found fault falls is) concludes = events_causes (Encrypt key input output) old new status (nothing ended fault falls is concludes)
  sealing_causes ended (input_found user mid found seals rest) concludes = found_causes key input output old new status ended concludes user mid found seals rest

  sealing_by_words : (ended : Result (Unit {0}) Fault) → Goes ended → Ended ended → ByWords (Encrypt key input output) old new status
  sealing_by_words ended (not_found fault falls is) concludes = events_by_words (Encrypt key input output) old new status (nothing ended fault falls is concludes)
  sealing_by_words ended (input_found user mid found seals rest) concludes = λ ending refused. absurd (words_alone key input output ending refused found.is_key.is_name)

  sealing_content : (ended : Result (Unit {0}) Fault) → Goes ended → Ended ended → Content (Encrypt key input output) old new status
  sealing_content ended (not_found fault falls is) concludes = λ these told zero_is. absurd (not_low (nothing ended fault falls is concludes) (omega (arith, zero_is)))
  sealing_content ended (input_found user mid found seals rest) concludes = λ these told zero_is. found_content key input output old new status ended concludes user mid found seals rest these told zero_is

  sealing_decided : (ended : Result (Unit {0}) Fault) → Goes ended → Ended ended → DecidedSealing key input output old new status
  sealing_decided ended (not_found fault falls is) concludes =
      let run = nothing ended fault falls is concludes in
      record {
        refused = events_decided (Encrypt key input output) old new status run;
        too_large = λ these pieces were gave large. absurd (not_large run these pieces were gave large);
        undamaged = λ one. not_low run (omega (arith, one));
      }
  sealing_decided ended (input_found user mid found seals rest) concludes = record {
    refused = λ events ending refused told low. absurd (not_refused key input output old new status ended concludes user mid found seals rest events ending refused told);
    too_large = λ these pieces were gave large. found_large key input output old new status ended concludes user mid found seals rest these pieces were gave large;
    undamaged = found_not_one key input output old new status ended concludes user mid found seals rest;
  }

  sealing_honest : (ended : Result (Unit {0}) Fault) → Goes ended → Ended ended → Honest (Encrypt key input output) old new status
  sealing_honest ended (not_found fault falls is) concludes = events_honest (Encrypt key input output) old new status (nothing ended fault falls is concludes)
  sealing_honest ended (input_found user mid found seals rest) concludes = λ files is none. found_honest key input output old new status ended concludes user mid found seals rest files is none

  sealing_not_two : (ended : Result (Unit {0}) Fault) → Goes ended → Ended ended → status ≡ 2 → ⊥
  sealing_not_two ended (not_found fault falls is) concludes = events_not_two (Encrypt key input output) old new status (nothing ended fault falls is concludes)
  sealing_not_two ended (input_found user mid found seals rest) concludes = found_not_two key input output old new status ended concludes user mid found seals rest

  sealing_stays : (ended : Result (Unit {0}) Fault) → Goes ended → Ended ended → (new.out ≡ old.out) × (new.input ≡ old.input)
  sealing_stays ended (not_found fault falls is) concludes = (
    unput (EncryptRefused key input output) falls.outcome.events falls.stop old (with_log new old.log) (encrypt_unput key input output) falls.outcome.stands falls.outcome.happened,
    input_kept falls.outcome.events old (with_log new old.log) falls.stop falls.outcome.happened,
  )
  sealing_stays ended (input_found user mid found seals rest) concludes = (out_kept key input output old new status ended concludes user mid found seals rest, ap (λ (w : World). w.input) rest ∙ found.passed.input)

  pub sealing_disk : (ended : Result (Unit {0}) Fault) → Goes ended → Ended ended → LeavesOutput output (IsVersion key input output) old new status
  sealing_disk ended (not_found fault falls is) concludes = kept_disk (nothing ended fault falls is concludes)
  sealing_disk ended (input_found user mid found seals rest) concludes = found_disk key input output old new status ended concludes user mid found seals rest

pub run_causes : (request : Request) (old new : World) (status : ℕ) → Runs request old new status → Causes request old new status
run_causes (Decrypt key input) old new status run = events_causes (Decrypt key input) old new status run
run_causes (Encrypt key input output) old new status run = sealing_causes key input output old new status run.ended run.goes run.concludes
run_causes (Session key) old new status run = run_script_causes key old new status run
run_causes (Manifest values template output) old new status run = events_causes (Manifest values template output) old new status run
run_causes (Sums manifest output) old new status run = events_causes (Sums manifest output) old new status run
run_causes (Measure layout) old new status run = events_causes (Measure layout) old new status run

pub run_by_words : (request : Request) (old new : World) (status : ℕ) → Runs request old new status → ByWords request old new status
run_by_words (Decrypt key input) old new status run = events_by_words (Decrypt key input) old new status run
run_by_words (Encrypt key input output) old new status run = sealing_by_words key input output old new status run.ended run.goes run.concludes
run_by_words (Session key) old new status run = script_by_words key old new status run.ending run.goes run.says
run_by_words (Manifest values template output) old new status run = events_by_words (Manifest values template output) old new status run
run_by_words (Sums manifest output) old new status run = events_by_words (Sums manifest output) old new status run
run_by_words (Measure layout) old new status run = events_by_words (Measure layout) old new status run

pub run_decided : (request : Request) (old new : World) (status : ℕ) → Runs request old new status → Decided request old new status
run_decided (Decrypt key input) old new status run = events_decided (Decrypt key input) old new status run
run_decided (Encrypt key input output) old new status run = sealing_decided key input output old new status run.ended run.goes run.concludes
run_decided (Session key) old new status run = script_decided key old new status run.ending run.goes run.says
run_decided (Manifest values template output) old new status run = events_decided (Manifest values template output) old new status run
run_decided (Sums manifest output) old new status run = events_decided (Sums manifest output) old new status run
run_decided (Measure layout) old new status run = events_decided (Measure layout) old new status run

-- fewer bytes than the most reads, and not fewer
few_bytes : (left : Option (List ℕ)) → IsSomeAnd left (λ input. length input < MOST_READS) → IfSome left (λ input. MOST_READS ≤ length input) → ⊥
few_bytes (Some input) short long = omega (arith, short, long)
few_bytes None short long = absurd short

pub run_honest : (request : Request) (old new : World) (status : ℕ) → ReadsAsImage old.host → Runs request old new status → Honest request old new status
run_honest (Decrypt key input) old new status image run = events_honest (Decrypt key input) old new status run
run_honest (Encrypt key input output) old new status image run = sealing_honest key input output old new status run.ended run.goes run.concludes
run_honest (Session key) old new status image run = λ files is none. record {
  refused = script_refused key old new status run.ending run.goes run.says files is none;
  runs = λ user over rose. script_over key old new status image run files is user over rose;
  read = λ input short seven.
      ⊎_elim (λ out. absurd (none.out out))
      (λ other. ⊎_elim (λ log. absurd (none.log log)) (λ taken. ⊎_elim (λ once. absurd (input once)) (λ spent. few_bytes old.input.left short spent.1) taken) other)
      ((run_script_causes key old new status run).stream_fault seven);
}
run_honest (Manifest values template output) old new status image run = events_honest (Manifest values template output) old new status run
run_honest (Sums manifest output) old new status image run = events_honest (Sums manifest output) old new status run
run_honest (Measure layout) old new status image run = events_honest (Measure layout) old new status run

pub run_not_two : (request : Request) (old new : World) (status : ℕ) → Runs request old new status → status ≡ 2 → ⊥
run_not_two (Decrypt key input) old new status run = events_not_two (Decrypt key input) old new status run
run_not_two (Encrypt key input output) old new status run = sealing_not_two key input output old new status run.ended run.goes run.concludes
run_not_two (Session key) old new status run = (run_script_causes key old new status run).no_usage
run_not_two (Manifest values template output) old new status run = events_not_two (Manifest values template output) old new status run
run_not_two (Sums manifest output) old new status run = events_not_two (Sums manifest output) old new status run
run_not_two (Measure layout) old new status run = events_not_two (Measure layout) old new status run

took_text : (output : Option Name) (text : List ℕ) (pieces : List (List ℕ)) (old new : SinkState) → OutPassed pieces old new → pieces ≡ out_pieces output text → TookText output text old new
took_text None text pieces old new passed is = subst (λ (l : List ℕ). Both old.bytes new.bytes (IsMore l)) (ap (λ (l : List (List ℕ)). concat l) is ∙ concat_pieces text) passed.told
took_text (Some output) text pieces old new passed is = passed.untouched is

done_rendered : (values : Values) (template : Name) (output : Option Name) (es : List Event) (stop : Stop) → stop ≡ AtEnd Done → StopsAt (ManifestLeads values template output) es stop → GivenText values template output es
done_rendered values template output es stop is stands = manifest_given values template output es (subst (λ (s : Stop). StopsAt (ManifestLeads values template output) es s) is stands)

pub run_content : (request : Request) (old new : World) (status : ℕ) → Runs request old new status → Content request old new status
run_content (Decrypt key input) old new status run = took_content key input old new status run
run_content (Encrypt key input output) old new status run = sealing_content key input output old new status run.ended run.goes run.concludes
run_content (Session key) old new status run = script_content key old new status run
run_content (Manifest values template output) old new status run = λ these told zero_is.
    let es = run.outcome.events in
    let done = done_at_zero run.stop old.log new.log status run.reports zero_is in
    let passed : Passed es old (with_log new old.log) = subst (λ (s : Stop). Happened es s old (with_log new old.log)) done run.outcome.happened in
    let same : answers_in es ≡ these = these_told old.host new.host (answers_in es) these passed.host.told told in
    let given = done_rendered values template output es run.stop done run.outcome.stands in
    record {
      bytes = given.bytes;
      text = given.text;
      first = given.first;
      taken = given.taken;
      small = given.small;
      rendered = given.rendered;
      answered = sym same ∙ given.answered;
      took = took_text output given.text (pieces_in es) old.out new.out passed.out given.pieces;
    }
run_content (Sums manifest None) old new status run = λ these told zero_is.
    let es = run.outcome.events in
    let done = done_at_zero run.stop old.log new.log status run.reports zero_is in
    let passed : Passed es old (with_log new old.log) = subst (λ (s : Stop). Happened es s old (with_log new old.log)) done run.outcome.happened in
    let same : answers_in es ≡ these = these_told old.host new.host (answers_in es) these passed.host.told told in
    put_lines manifest es Done these old.out new.out (subst (λ (s : Stop). StopsAt (SumsLead manifest None) es s) done run.outcome.stands) refl same passed.out.told
run_content (Sums manifest (Some output)) old new status run = λ these told zero_is.
    let es = run.outcome.events in
    let done = done_at_zero run.stop old.log new.log status run.reports zero_is in
    let passed : Passed es old (with_log new old.log) = subst (λ (s : Stop). Happened es s old (with_log new old.log)) done run.outcome.happened in
    let same : answers_in es ≡ these = these_told old.host new.host (answers_in es) these passed.host.told told in
    put_both manifest output es these old.out new.out (subst (λ (s : Stop). WroteSums manifest output (tried es s)) done (run.outcome.leaves.done done)) same passed.out.told
run_content (Measure layout) old new status run = λ these told zero_is.
    let es = run.outcome.events in
    let done = done_at_zero run.stop old.log new.log status run.reports zero_is in
    let passed : Passed es old (with_log new old.log) = subst (λ (s : Stop). Happened es s old (with_log new old.log)) done run.outcome.happened in
    let same : answers_in es ≡ these = these_told old.host new.host (answers_in es) these passed.host.told told in
    measure_put layout es Done these old new (subst (λ (s : Stop). StopsAt (MeasureLeads layout) es s) done run.outcome.stands) refl same passed.out.told

pub run_stays : (request : Request) (old new : World) (status : ℕ) → Runs request old new status → Stays request old new
run_stays (Decrypt key input) old new status run = (
  undrawn (Leads (Decrypt key input)) run.outcome.events run.stop old (with_log new old.log) (decrypt_undrawn key input) run.outcome.stands run.outcome.happened,
  input_kept run.outcome.events old (with_log new old.log) run.stop run.outcome.happened,
)
run_stays (Encrypt key input output) old new status run = sealing_stays key input output old new status run.ended run.goes run.concludes
run_stays (Session key) old new status run = tt
run_stays (Manifest values template None) old new status run = (
  undrawn (Leads (Manifest values template None)) run.outcome.events run.stop old (with_log new old.log) (manifest_undrawn values template None) run.outcome.stands run.outcome.happened,
  input_kept run.outcome.events old (with_log new old.log) run.stop run.outcome.happened,
)
run_stays (Manifest values template (Some output)) old new status run = (
  undrawn (Leads (Manifest values template (Some output))) run.outcome.events run.stop old (with_log new old.log) (manifest_undrawn values template (Some output)) run.outcome.stands run.outcome.happened,
  unput (Leads (Manifest values template (Some output))) run.outcome.events run.stop old (with_log new old.log) (manifest_unput values template output) run.outcome.stands run.outcome.happened,
  input_kept run.outcome.events old (with_log new old.log) run.stop run.outcome.happened,
)
run_stays (Sums manifest output) old new status run = (
  undrawn (Leads (Sums manifest output)) run.outcome.events run.stop old (with_log new old.log) (sums_undrawn manifest output) run.outcome.stands run.outcome.happened,
  input_kept run.outcome.events old (with_log new old.log) run.stop run.outcome.happened,
)
run_stays (Measure layout) old new status run = (
  undrawn (Leads (Measure layout)) run.outcome.events run.stop old (with_log new old.log) (measure_undrawn layout) run.outcome.stands run.outcome.happened,
  input_kept run.outcome.events old (with_log new old.log) run.stop run.outcome.happened,
)
