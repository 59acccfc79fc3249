-- Which counts rose in a session, by its status.
use Rattle.std.proofs.Common.{◌≡◌, ◌⊎◌, ◌∙◌, inl, inr, ⊎_elim, ℕ, zero, suc, ◌≤◌, List, refl, sym, ap, subst, arith, Result, Ok}
use Rattle.pf_io.specs.Counts.{counted, counted_times}
use Rattle.pf_io.specs.Disk.{Name}
use Rattle.pf_io.specs.Host.{HostState}
use Rattle.pf_io.specs.Streams.{SourceState, SinkState}
use Rattle.pf_io.specs.Words.{WordsState}
use Rattle.pf_io.specs.Unchanged.{KeepsDisk}
use Rattle.pf_script.specs.declared.next_line.NextLine.TheVariants as nexts
use Rattle.pf_tool.specs.World.{World, with_log}
use Rattle.pf_tool.specs.Endings.{stop_line, stop_status}
use Rattle.pf_tool.specs.Faults.{fault_line, fault_status}
use Rattle.pf_tool.specs.Encrypting.{no_key as no_key_at_all}
use Rattle.pf_tool.specs.Keys.{KeyRefused}
use Rattle.pf_tool.specs.Outcomes.{Falls, SaysScript}
use Rattle.pf_tool.specs.Replying.{first_of}
use Rattle.pf_tool.specs.Reports.{Reported}
use Rattle.pf_tool.specs.Requests.{Session}
use Rattle.pf_tool.specs.Runs.{RunsByEvents, RunsScript, Rose, CausedInScript}
use Rattle.pf_tool.specs.Scripting.{At, begins, Lines, LineStops, not_read, not_answered, not_said, Closings, KeyRead, ScriptRead, ScriptGoes, no_key, no_reader, no_line, no_closing, no_end, done}
use Rattle.pf_tool.specs.declared.fault.Fault.{Fault}
use Rattle.pf_tool.specs.declared.fault.Fault.TheVariants as faults
use Rattle.pf_tool.proofs.EncryptLaws.{encrypt_unput}
use Rattle.pf_tool.proofs.RunClauses.{events_causes, events_not_two}
use Rattle.pf_tool.proofs.RunStops.{reports_of, reported_said, said, input_kept, unput}
use Rattle.pf_tool.proofs.Stopping.{not_done}
use Rattle.pf_tool.proofs.ScriptCounting.{Tally, TallyAt, tally_then, tally_all, tally_closings}
use Rattle.pf_tool.proofs.ScriptStreams.{Flows, flows_then, flows_lines, flows_read, flows_all, flows_closings, InputFails, input_fails, lines_sound}

-- a key that is not read ends a session as events say
pub key_run : (key : Name) (old new : World) (status : ℕ) (fault : Fault) → Falls (KeyRefused key) (λ _ _. KeepsDisk) fault old (with_log new old.log) → Reported (fault_line fault) (fault_status fault) old.log new.log status → RunsByEvents (Session key) old new status
key_run key old new status fault falls said = record {
  stop = falls.stop;
  outcome = falls.outcome;
  reports = reports_of falls.stop old.log new.log status (λ is. not_done fault (falls.is_fault.ends ∙ ap stop_status is))
      (subst (λ (n : ℕ). Reported (stop_line falls.stop) n old.log new.log status) falls.is_fault.ends (subst (λ (l : List ℕ). Reported l (fault_status fault) old.log new.log status) falls.is_fault.says said));
}

-- the counts of the host and of the random words in a whole run, whatever its status is
abbrev Tallied : World → World → Type 0
Tallied old new = (status : ℕ) × Tally status old.host.faults new.host.faults old.random.faults new.random.faults

rose_by : (n before now : ℕ) → 1 ≤ n → now ≡ counted_times n before → Rose before now
rose_by zero before now some is = absurd (omega (arith, some))
rose_by (suc n) before now some is = (n, is)

module _ (key : Name) (old new : World) (status : ℕ) where
  abbrev Now : World
  Now = with_log new old.log

  abbrev Kept : Type 0
  Kept = (new.input.faults ≡ old.input.faults) × (new.out.faults ≡ old.out.faults)

  -- a stream failed
  stream_causes : (text : List ℕ) → Reported text 7 old.log new.log status → (new.out.faults ≡ counted old.out.faults) ⊎ InputFails old new → CausedInScript old new status
  stream_causes text reported cause =
      let seven : status ≡ 7 = ⊎_elim (λ both. both.0) (λ both. both.0) (reported_said text 7 old.log new.log status reported) in
      record {
        host_fault = λ is. absurd (omega (arith, is, seven));
        random_fault = λ is. absurd (omega (arith, is, seven));
        stream_fault = λ is. ⊎_elim (λ out. inl out) (λ input. inr (inr input)) cause;
        no_stream_fault = λ other. absurd (other seven);
        done = λ is. absurd (omega (arith, is, seven));
        most = omega (arith, seven);
        no_usage = λ is. omega (arith, is, seven);
      }

  -- there was no memory
  memory_causes : (text : List ℕ) → Reported text 5 old.log new.log status → Kept → CausedInScript old new status
  memory_causes text reported kept = ⊎_elim (λ both.
      let five : status ≡ 5 = both.0 in
      record {
        host_fault = λ is. absurd (omega (arith, is, five));
        random_fault = λ is. absurd (omega (arith, is, five));
        stream_fault = λ is. absurd (omega (arith, is, five));
        no_stream_fault = λ other. (kept.0, kept.1, both.1.calm);
        done = λ is. absurd (omega (arith, is, five));
        most = omega (arith, five);
        no_usage = λ is. omega (arith, is, five);
      }) (λ both.
      let seven : status ≡ 7 = both.0 in
      record {
        host_fault = λ is. absurd (omega (arith, is, seven));
        random_fault = λ is. absurd (omega (arith, is, seven));
        stream_fault = λ is. inr (inl both.1);
        no_stream_fault = λ other. absurd (other seven);
        done = λ is. absurd (omega (arith, is, seven));
        most = omega (arith, seven);
        no_usage = λ is. omega (arith, is, seven);
      }) (reported_said text 5 old.log new.log status reported)

  -- the script was answered to its end
  done_causes : Tally status old.host.faults new.host.faults old.random.faults new.random.faults → Kept → new.log ≡ old.log → CausedInScript old new status
  done_causes tally kept log =
      let most = tally.most in
      let same : new.log.faults ≡ old.log.faults = ap (λ (s : SinkState). s.faults) log in
      record {
        host_fault = λ is. rose_by tally.hosts old.host.faults new.host.faults (tally.host_fault is) tally.host_is;
        random_fault = λ is. rose_by tally.words old.random.faults new.random.faults (tally.words_fault is) tally.words_is;
        stream_fault = λ is. absurd (omega (arith, is, most));
        no_stream_fault = λ other. (kept.0, kept.1, same);
        done = λ is.
            let none = tally.calm is in
            record { host = tally.host_is ∙ ap (λ (n : ℕ). counted_times n old.host.faults) none.0; out = kept.1; log = same; random = tally.words_is ∙ ap (λ (n : ℕ). counted_times n old.random.faults) none.1 };
        most = omega (arith, most);
        no_usage = tally.no_usage;
      }

  -- the key was not read
  key_causes : RunsByEvents (Session key) old new status → CausedInScript old new status
  key_causes run =
      let once = events_causes (Session key) old new status run in
      let input : new.input ≡ old.input = input_kept run.outcome.events old Now run.stop run.outcome.happened in
      let out : new.out ≡ old.out = unput (KeyRefused key) run.outcome.events run.stop old Now (λ es ending leads. encrypt_unput key key key es ending (no_key_at_all leads)) run.outcome.stands run.outcome.happened in
      record {
        host_fault = λ is. (0, once.host_fault is);
        random_fault = λ is. (0, once.random_fault is);
        stream_fault = λ is. ⊎_elim (λ o. inl o) (λ l. inr (inl l)) (once.stream_fault is);
        no_stream_fault = λ other. (ap (λ (s : SourceState). s.faults) input, ap (λ (s : SinkState). s.faults) out, ⊎_elim (λ both. both.1.calm) (λ both. absurd (other both.0)) (said run.stop old.log new.log status run.reports));
        done = λ is. once.calm (inl (omega (arith, is)));
        most = once.most;
        no_usage = events_not_two (Session key) old new status run;
      }

  -- what holds of a place that was come to from the start
  abbrev Comes : World → At → Type 0
  Comes begun now = (now.world.input.faults ≡ begun.input.faults) × (now.world.out.faults ≡ begun.out.faults)

  came : (user : List ℕ) (begun : World) (now : At) → KeyRead key user old begun → Flows (begins user begun) now → Comes old now
  came user begun now read flows = (flows.input ∙ ap (λ (s : SourceState). s.faults) read.passed.input, flows.out ∙ read.passed.out.calm)

  tallied : (user : List ℕ) (begun : World) (s : ℕ) (now : At) → KeyRead key user old begun → TallyAt s (begins user begun) now → Tally s old.host.faults now.world.host.faults old.random.faults now.world.random.faults
  tallied user begun s now read tally =
      subst (λ (h : ℕ). Tally s h now.world.host.faults old.random.faults now.world.random.faults) read.passed.host.calm (subst (λ (r : ℕ). Tally s begun.host.faults now.world.host.faults r now.world.random.faults) read.passed.random.calm tally)

  abbrev Ended : Result ℕ Fault → Type 0
  Ended ending = SaysScript ending old.log new.log status

  stop_causes : (user : List ℕ) (begun : World) (s : ℕ) (last now : At) (fault : Fault) → KeyRead key user old begun → Lines (begins user begun) s last → Now ≡ now.world → Reported (fault_line fault) (fault_status fault) old.log new.log status → LineStops fault last now
      → CausedInScript old new status
  stop_causes user begun s last now fault read lines is reported (not_read cause reads nothing says why) =
      let start = begins user begun in
      let flows = flows_lines start s last lines in
      let fails : InputFails start.world now.world = input_fails start last now cause refl flows (lines_sound start s last lines (λ e. absurd (cc))) reads in
      stream_causes (fault_line faults.Stream) (subst (λ (f : Fault). Reported (fault_line f) (fault_status f) old.log new.log status) why reported)
      (inr (subst (λ (i : SourceState). InputFails (record old { input = i }) Now) read.passed.input (subst (λ (w : World). InputFails begun w) (sym is) fails)))
  stop_causes user begun s last now fault read lines is reported (not_answered none reads answers says why) =
      let start = begins user begun in
      let flows = flows_then start last now (flows_lines start s last lines) (flows_read nexts.Whole last now reads (ap (λ (k : SinkState). k.faults) says.out) says.log) in
      memory_causes (fault_line faults.Memory) (subst (λ (f : Fault). Reported (fault_line f) (fault_status f) old.log new.log status) why reported)
      (subst (λ (w : World). (w.input.faults ≡ old.input.faults) × (w.out.faults ≡ old.out.faults)) (sym is) (came user begun now read flows))
  stop_causes user begun s last now fault read lines is reported (not_said reply answered some failed why) =
      let start = begins user begun in
      let flows = flows_lines start s last lines in
      let once : now.world.out.faults ≡ counted old.out.faults = failed.once ∙ ap counted (came user begun last read flows).1 in
      stream_causes (fault_line faults.Stream) (subst (λ (f : Fault). Reported (fault_line f) (fault_status f) old.log new.log status) why reported) (inl (ap (λ (w : World). w.out.faults) is ∙ once))

  read_came : (s : ℕ) (now : At) → ScriptRead key old s now → Comes old now
  read_came s now read = came read.user read.begun now read.read (flows_all (begins read.user read.begun) s now read.all)

  closed_came : (s count more : ℕ) (read last : At) → ScriptRead key old s read → Closings read count more last → Comes old last
  closed_came s count more read last begun closings =
      let flows = flows_closings read count more last closings in
      let first = read_came s read begun in
      (flows.input ∙ first.0, flows.out ∙ first.1)

  closed_tally : (s count more : ℕ) (read last : At) → ScriptRead key old s read → Closings read count more last → Tally (first_of s more) old.host.faults last.world.host.faults old.random.faults last.world.random.faults
  closed_tally s count more read last begun closings =
      tally_then s more old.host.faults read.world.host.faults last.world.host.faults old.random.faults read.world.random.faults last.world.random.faults
      (tallied begun.user begun.begun s read begun.read (tally_all (begins begun.user begun.begun) s read begun.all)) (tally_closings read count more last closings)

  pub script_causes : (ending : Result ℕ Fault) → ScriptGoes key ending old Now → Ended ending → CausedInScript old new status
  script_causes ending (no_key fault falls is) says = key_causes (key_run key old new status fault falls (subst Ended is says))
  script_causes ending (no_reader user read is) says =
      let input : new.input.faults ≡ old.input.faults = ap (λ (s : SourceState). s.faults) read.passed.input in
      memory_causes (fault_line faults.Memory) (subst Ended is says) (input, read.passed.out.calm)
  script_causes ending (no_line user begun s last now fault read lines stops same is) says = stop_causes user begun s last now fault read lines same (subst Ended is says) stops
  script_causes ending (no_closing s seat more read last now begun closings stops same is) says =
      let once : now.world.out.faults ≡ counted old.out.faults = stops.failed.once ∙ ap counted (closed_came s seat more read last begun closings).1 in
      stream_causes (fault_line faults.Stream) (subst Ended is says) (inl (ap (λ (w : World). w.out.faults) same ∙ once))
  script_causes ending (no_end s more read last begun closings failed same is) says =
      let once : new.out.faults ≡ counted old.out.faults = failed.once ∙ ap counted (closed_came s 8 more read last begun closings).1 in
      stream_causes (fault_line faults.Stream) (subst Ended is says) (inl once)
  script_causes ending (done s more read last begun closings wrote same is) says =
      let end : Ended (Ok (first_of s more)) = subst Ended is says in
      let place = closed_came s 8 more read last begun closings in
      let tally = closed_tally s 8 more read last begun closings in
      let host : new.host ≡ last.world.host = ap (λ (w : World). w.host) same in
      let random : new.random ≡ last.world.random = ap (λ (w : World). w.random) same in
      let input : new.input ≡ last.world.input = ap (λ (w : World). w.input) same in
      let whole : Tally (first_of s more) old.host.faults new.host.faults old.random.faults new.random.faults =
      subst (λ (h : HostState). Tally (first_of s more) old.host.faults h.faults old.random.faults new.random.faults) (sym host)
      (subst (λ (r : WordsState). Tally (first_of s more) old.host.faults last.world.host.faults old.random.faults r.faults) (sym random) tally) in
      done_causes (subst (λ (n : ℕ). Tally n old.host.faults new.host.faults old.random.faults new.random.faults) (sym end.0) whole) (ap (λ (s : SourceState). s.faults) input ∙ place.0, wrote.calm ∙ place.1) end.1

pub run_script_causes : (key : Name) (old new : World) (status : ℕ) → RunsScript key old new status → CausedInScript old new status
run_script_causes key old new status run = script_causes key old new status run.ending run.goes run.says
