-- The names that a whole session leaves as they were: those that no line of its input speaks of.
use Rattle.std.proofs.Common.{◌≡◌, ◌⊎◌, refl, inl, inr, ℕ, List, [], ◌∷◌, ◌++◌, sym, ◌∙◌, ap, subst, append_assoc, Option, Some, None, Result, Ok, Err}
use Rattle.std.specs.Prelude.{Contains, IfSome, IsSomeAnd}
use Rattle.std.proofs.lemmas.List.Elements.{Contains-push, Contains-append_left, Contains-append_right}
use Rattle.pf_io.specs.Disk.{Name}
use Rattle.pf_io.specs.Host.{HostState, Both, OnDisk}
use Rattle.pf_io.specs.Lines.{lines_of}
use Rattle.pf_io.specs.Moments.{Ran}
use Rattle.pf_io.specs.Streams.{SourceState}
use Rattle.pf_io.specs.declared.faults.Memory.{Memory}
use Rattle.pf_session.proofs.Placing.{ran_weaker}
use Rattle.pf_script.specs.BookDebts.{LeavesOthers, KeepsOthers}
use Rattle.pf_script.specs.Desk.{DeskState, session_at}
use Rattle.pf_script.specs.DeskSteps.{HasItsName, ApartFrom, Spares, ConcernsDesk, DeskGoes, EndGoes}
use Rattle.pf_script.specs.LineReading.{GoesOn, LinesGoOn}
use Rattle.pf_script.specs.Script.{seat_of_line, name_of_line}
use Rattle.pf_script.specs.ScriptLines.{IsScriptLine}
use Rattle.pf_script.specs.Words.{SEATS}
use Rattle.pf_script.specs.declared.line.ScriptLine.{ScriptLine}
use Rattle.pf_script.specs.declared.line.ScriptLine.TheVariants as lines
use Rattle.pf_script.specs.declared.next_line.NextLine.{NextLine}
use Rattle.pf_script.specs.declared.next_line.NextLine.TheVariants as nexts
use Rattle.pf_script.specs.declared.reply.Reply.{Reply}
use Rattle.pf_script.proofs.Sparing.{spares_kept, spares_then, spares_more}
use Rattle.pf_tool.specs.Runs.{RunsScript, IsUnnamed}
use Rattle.pf_tool.specs.Scripting.{At, begins, NothingAsked, Answers, NextAnswered, LineAnswered, Reads, Lines, none_yet, one_more, AllLines, LineStops, not_read, not_answered, not_said, SeatClosed, Closings, none_closed, one_closed, KeyRead, ScriptGoes, no_key, no_reader, no_line, no_closing, no_end, done}
use Rattle.pf_tool.specs.World.{World, with_log}
use Rattle.pf_tool.specs.declared.fault.Fault.{Fault}
use Rattle.pf_tool.proofs.ScriptContent.{same_all}
use Rattle.pf_tool.proofs.ScriptReading.{read_settled}

module _ (named : Name → Type 0) (before : HostState) where
  -- So far all names apart from these are as before, and the seats have names of these.
  pub record Spared (now : At) : Type 0 where
    pub spares : Spares named before now.world.host
    pub seats : (k : ℕ) (name : Name) → HasItsName (session_at now.desk k) name → named name

  idle_spared : (old new : At) → Spared old → NothingAsked old.desk new.desk old.world.host new.world.host old.world.random new.world.random → Spared new
  idle_spared old new so_far nothing = record {
    spares = subst (λ (h : HostState). Spares named before h) (sym nothing.same_host) so_far.spares;
    seats = subst (λ (d : DeskState). (k : ℕ) (name : Name) → HasItsName (session_at d k) name → named name) (sym nothing.same_desk) so_far.seats;
  }

  -- a line that gives a name of these
  step_spared : (line : ScriptLine) (result : Result Reply Memory) (old new : At) → Spared old → ((name : Name) → name_of_line line ≡ Some name → named name)
      → DeskGoes line result old.desk new.desk old.world.host new.world.host old.world.random new.world.random → Spared new
  step_spared line result old new so_far gives goes = record {
    spares = spares_then named before old.world.host new.world.host so_far.spares (spares_more (ConcernsDesk line old.desk) named concerned old.world.host new.world.host goes.spares);
    seats = λ k name has. by_seat k name (goes.named k name has);
  }
    where
      concerned : (name : Name) → ConcernsDesk line old.desk name → named name
      concerned name (inl given) = gives name given
      concerned name (inr seat) = so_far.seats seat.0 name seat.2

      by_seat : (k : ℕ) (name : Name) → HasItsName (session_at old.desk k) name ⊎ ((seat_of_line line ≡ Some k) × (name_of_line line ≡ Some name)) → named name
      by_seat k name (inl before) = so_far.seats k name before
      by_seat k name (inr given) = gives name given.1

  -- bytes of which a line gives a name of these
  abbrev GivesNamed : List ℕ → Type 0
  GivesNamed bytes = (line : ScriptLine) (name : Name) → IsScriptLine bytes line → name_of_line line ≡ Some name → named name

  answers_spared : (bytes : List ℕ) (reply : Result (Option Reply) Memory) (old new : At) → Spared old → GivesNamed bytes → Answers bytes reply old new → Spared new
  answers_spared bytes (Ok None) old new so_far gives answers = idle_spared old new so_far answers.1
  answers_spared bytes (Ok (Some reply)) old new so_far gives answers = step_spared answers.0 (Ok reply) old new so_far (λ name. gives answers.0 name answers.1) answers.2
  answers_spared bytes (Err none) old new so_far gives (inl nothing) = idle_spared old new so_far nothing
  answers_spared bytes (Err none) old new so_far gives (inr step) = step_spared step.0 (Err none) old new so_far (λ name. gives step.0 name step.1) step.2

  seat_spared : (seat : ℕ) (reply : Option Reply) (old new : At) → Spared old → SeatClosed seat reply old new → Spared new
  seat_spared seat reply old new so_far closed = by_reply reply closed.ends
    where
      by_reply : (reply : Option Reply) → EndGoes seat reply old.desk new.desk old.world.host new.world.host old.world.random new.world.random → Spared new
      by_reply None ends = idle_spared old new so_far (record { same_desk = ends.0; same_host = ends.1; same_random = ends.2 })
      by_reply (Some said) ends = step_spared (lines.Close seat) (Ok said) old new so_far (λ name none. absurd (cc)) ends

  closings_spared : (start : At) (count status : ℕ) (now : At) → Spared start → Closings start count status now → Spared now
  closings_spared start _ _ _ begun (none_closed count status now no_seat none same) = subst (λ (a : At). Spared a) (sym same) begun
  closings_spared start _ _ _ begun (one_closed seat count earlier status reply mid now closings closed wrote next is) = seat_spared seat reply mid now (closings_spared start seat earlier mid begun closings) closed

-- a name that a line of the input gives
abbrev pub IsNamed : List ℕ → Name → Type 0
IsNamed input name = (bytes : List ℕ) × (line : ScriptLine) × Contains (lines_of input) bytes × IsScriptLine bytes line × (name_of_line line ≡ Some name)

module _ (input : List ℕ) (before : HostState) where
  -- the lines that are left are the last of the input
  abbrev LeftOf : List ℕ → Option (List ℕ) → Type 0
  LeftOf pending left = IsSomeAnd left (λ rest. (first : List (List ℕ)) × (lines_of input ≡ first ++ lines_of (pending ++ rest)))

  pub record SparedSo (now : At) : Type 0 where
    pub spared : Spared (IsNamed input) before now
    pub left : LeftOf now.reader.pending now.world.input.left

  -- the next line is one of the input
  record IsNext (bytes pending : List ℕ) (more : Option (List ℕ)) : Type 0 where
    pub among : Contains (lines_of input) bytes
    pub left : LeftOf pending more

  next_of : (first rest : List (List ℕ)) (bytes : List ℕ) (pending : List ℕ) (left : List ℕ) → rest ≡ lines_of (pending ++ left) → lines_of input ≡ first ++ bytes ∷ rest → IsNext bytes pending (Some left)
  next_of first rest bytes pending left rest_is split = record {
    among = subst (λ (l : List (List ℕ)). Contains l bytes) (sym split) (Contains-append_right first (bytes ∷ rest) bytes (Contains-append_left (bytes ∷ []) rest bytes (Contains-push [] bytes)));
    left = (first ++ bytes ∷ [], split ∙ sym (append_assoc first (bytes ∷ []) rest) ∙ ap (λ (l : List (List ℕ)). (first ++ bytes ∷ []) ++ l) rest_is);
  }

  whole_next : (old new : At) → LeftOf old.reader.pending old.world.input.left → LinesGoOn (Ok nexts.Whole) old.reader new.reader old.world.input new.world.input → IsNext new.reader.line new.reader.pending new.world.input.left
  whole_next old new = by_left old.world.input.left new.world.input.left
    where
      by_left : (o p : Option (List ℕ)) → LeftOf old.reader.pending o → Both o p (λ b n. GoesOn (Ok nexts.Whole) (lines_of (old.reader.pending ++ b)) new.reader (lines_of (new.reader.pending ++ n))) → IsNext new.reader.line new.reader.pending p
      by_left (Some b) (Some n) left goes = next_of left.0 (lines_of (new.reader.pending ++ n)) new.reader.line new.reader.pending n refl (left.1 ∙ ap (λ (l : List (List ℕ)). left.0 ++ l) goes.1)
      by_left (Some b) None left goes = absurd goes
      by_left None p left goes = absurd left

  long_next : (old new : At) → LeftOf old.reader.pending old.world.input.left → LinesGoOn (Ok nexts.TooLong) old.reader new.reader old.world.input new.world.input → LeftOf new.reader.pending new.world.input.left
  long_next old new = by_left old.world.input.left new.world.input.left
    where
      by_left : (o p : Option (List ℕ)) → LeftOf old.reader.pending o → Both o p (λ b n. GoesOn (Ok nexts.TooLong) (lines_of (old.reader.pending ++ b)) new.reader (lines_of (new.reader.pending ++ n))) → LeftOf new.reader.pending p
      by_left (Some b) (Some n) left goes =
          let next = next_of left.0 (lines_of (new.reader.pending ++ n)) goes.0 new.reader.pending n refl (left.1 ∙ ap (λ (l : List (List ℕ)). left.0 ++ l) goes.2) in
          next.left
      by_left (Some b) None left goes = absurd goes
      by_left None p left goes = absurd left

  -- what is read of a line of the input
  whole_read : (old new : At) → SparedSo old → Reads (Ok nexts.Whole) old new → IsNext new.reader.line new.reader.pending new.world.input.left
  whole_read old new so_far reads = let read = read_settled nexts.Whole old new (λ e. absurd (cc)) reads in whole_next old new so_far.left read.1

  gives_named : (bytes : List ℕ) → Contains (lines_of input) bytes → GivesNamed (IsNamed input) before bytes
  gives_named bytes among line name is_line given = (bytes, line, among, is_line, given)

  line_spared : (reply : Option Reply) (old new : At) → SparedSo old → LineAnswered reply old new → SparedSo new
  line_spared reply old new so_far line = by_next line.next line.reads line.answers
    where
      by_next : (next : NextLine) → Reads (Ok next) old new → NextAnswered next new.reader.line reply old new → SparedSo new
      by_next nexts.Whole reads answers =
          let next = whole_read old new so_far reads in
          record { spared = answers_spared (IsNamed input) before new.reader.line (Ok reply) old new so_far.spared (gives_named new.reader.line next.among) answers; left = next.left }
      by_next nexts.TooLong reads answers =
          let read = read_settled nexts.TooLong old new (λ e. absurd (cc)) reads in
          record { spared = idle_spared (IsNamed input) before old new so_far.spared answers.1; left = long_next old new so_far.left read.1 }
      by_next nexts.End reads answers = absurd answers

  lines_spared : (start : At) (status : ℕ) (now : At) → SparedSo start → Lines start status now → SparedSo now
  lines_spared start _ _ begun (none_yet status now none same) = subst (λ (a : At). SparedSo a) (sym same) begun
  lines_spared start _ _ begun (one_more earlier status reply mid now lines goes is) = line_spared reply mid now (lines_spared start earlier mid begun lines) goes.answered

  all_spared : (start : At) (status : ℕ) (now : At) → SparedSo start → AllLines start status now → Spared (IsNamed input) before now
  all_spared start status now begun all = let last = lines_spared start status all.last begun all.lines in idle_spared (IsNamed input) before all.last now last.spared all.ends.nothing

  -- so where a script stops at a line
  stop_spared : (fault : Fault) (old new : At) → SparedSo old → LineStops fault old new → Spared (IsNamed input) before new
  stop_spared fault old new so_far (not_read cause reads nothing says is) = idle_spared (IsNamed input) before old new so_far.spared nothing
  stop_spared fault old new so_far (not_answered none reads answers says is) =
      let next = whole_read old new so_far reads in
      answers_spared (IsNamed input) before new.reader.line (Err none) old new so_far.spared (gives_named new.reader.line next.among) answers
  stop_spared fault old new so_far (not_said reply answered some failed is) = let now = line_spared reply old new so_far answered in now.spared

module _ (key : Name) (old new : World) (status : ℕ) (run : RunsScript key old new status) (input : List ℕ) (told : old.input.left ≡ Some input) where
  abbrev Named : Name → Type 0
  Named = IsNamed input

  begun_so : (user : List ℕ) (begun : World) → KeyRead key user old begun → SparedSo input old.host (begins user begun)
  begun_so user begun read = record {
    spared = record { spares = spares_kept Named old.host begun.host read.disk; seats = λ k name has. absurd (subst (λ (o : Option _). HasItsName o name) (same_all SEATS k None) has) };
    left = subst (λ (o : Option (List ℕ)). LeftOf input old.host [] o) (sym (ap (λ (s : SourceState). s.left) read.passed.input ∙ told)) ([], refl);
  }

  ends_so : (last : At) → new.host ≡ last.world.host → Spared Named old.host last → Spares Named old.host new.host
  ends_so last is spared = subst (λ (h : HostState). Spares Named old.host h) (sym is) spared.spares

  by_goes : (ending : Result ℕ Fault) → ScriptGoes key ending old (with_log new old.log) → Spares Named old.host new.host
  by_goes ending (no_key fault falls is) = spares_kept Named old.host new.host falls.outcome.leaves
  by_goes ending (no_reader user read is) = spares_kept Named old.host new.host read.disk
  by_goes ending (no_line user begun earlier last now fault read lines stopped same is) =
      ends_so now (ap (λ (w : World). w.host) same) (stop_spared input old.host fault last now (lines_spared input old.host (begins user begun) earlier last (begun_so user begun read) lines) stopped)
  by_goes ending (no_closing earlier seat more at_read last now s closings stopped same is) =
      let read = all_spared input old.host (begins s.user s.begun) earlier at_read (begun_so s.user s.begun s.read) s.all in
      ends_so now (ap (λ (w : World). w.host) same) (seat_spared Named old.host seat stopped.reply last now (closings_spared Named old.host at_read seat more last read closings) stopped.closed)
  by_goes ending (no_end earlier more at_read last s closings failed same is) =
      let read = all_spared input old.host (begins s.user s.begun) earlier at_read (begun_so s.user s.begun s.read) s.all in
      ends_so last (ap (λ (w : World). w.host) same) (closings_spared Named old.host at_read SEATS more last read closings)
  by_goes ending (done earlier more at_read last s closings wrote same is) =
      let read = all_spared input old.host (begins s.user s.begun) earlier at_read (begun_so s.user s.begun s.read) s.all in
      ends_so last (ap (λ (w : World). w.host) same) (closings_spared Named old.host at_read SEATS more last read closings)

  spares_named : OnDisk old.host new.host (Ran (LeavesOthers (IsUnnamed input)) (KeepsOthers (IsUnnamed input)))
  spares_named =
      ran_weaker (LeavesOthers (ApartFrom Named)) (LeavesOthers (IsUnnamed input)) (KeepsOthers (ApartFrom Named)) (KeepsOthers (IsUnnamed input)) old.host.honest new.host.honest
      (λ d image left other unnamed. left other (apart other unnamed)) (λ d e keeps other unnamed. keeps other (apart other unnamed)) (by_goes run.ending run.goes)
    where
      apart : (other : Name) → IsUnnamed input other → ApartFrom Named other
      apart other unnamed name is = unnamed is.0 is.1 name is.2 is.3 is.4

-- Every name apart from those that lines of the input give is as before, whatever the run came to.
pub script_spares : (key : Name) (old new : World) (status : ℕ) → RunsScript key old new status → IfSome old.input.left (λ input. OnDisk old.host new.host (Ran (LeavesOthers (IsUnnamed input)) (KeepsOthers (IsUnnamed input))))
script_spares key old new status run = by_input old.input.left refl
  where
    by_input : (o : Option (List ℕ)) → old.input.left ≡ o → IfSome o (λ input. OnDisk old.host new.host (Ran (LeavesOthers (IsUnnamed input)) (KeepsOthers (IsUnnamed input))))
    by_input None told = tt
    by_input (Some input) told = spares_named key old new status run input told
