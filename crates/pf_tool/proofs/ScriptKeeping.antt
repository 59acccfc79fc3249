-- What a whole session does under a book with which it may begin.
use Rattle.std.proofs.Common.{◌≡◌, ◌⊎◌, inl, inr, ⊎_elim, ℕ, suc, Bool, true, false, List, [], ◌∷◌, ◌++◌, length, map, refl, sym, ◌∙◌, ap, subst, append_assoc, Option, Some, Result, Ok, Err}
use Rattle.std.specs.Prelude.{IfSome}
use Rattle.std.specs.List.{flat_map}
use Rattle.std.proofs.lemmas.List.{append-nil}
use Rattle.pf_io.specs.Disk.{Name, Files, reading}
use Rattle.pf_io.specs.Host.{Answer, HostState, Both, IsMore, since as answers_since, OnDisk, ReadsAsImage}
use Rattle.pf_io.specs.Lines.{lines_of}
use Rattle.pf_io.specs.Moments.{Honest}
use Rattle.pf_io.specs.Streams.{SourceState, SinkState, TakesFront}
use Rattle.pf_io.specs.Words.{WordsState}
use Rattle.pf_io.specs.declared.faults.Memory.{Memory}
use Rattle.pf_io.proofs.Telling.{both_then, told_none}
use Rattle.pf_io.proofs.Writing.{wrote_both}
use Rattle.pf_script.specs.Book.{Book}
use Rattle.pf_script.specs.BookDebts.{Unchanged}
use Rattle.pf_script.specs.BookLaws.{StartsWith, RunKeeps}
use Rattle.pf_script.proofs.CallKeeping.{both_with}
use Rattle.pf_script.specs.Desk.{session_at}
use Rattle.pf_script.specs.DeskSteps.{DeskStillShows}
use Rattle.pf_script.specs.LineReading.{GoesOn}
use Rattle.pf_script.specs.Script.{ScriptState, seat_at}
use Rattle.pf_script.specs.ScriptLines.{IsScriptLine}
use Rattle.pf_script.specs.ScriptRuns.{Exchange, closings}
use Rattle.pf_script.specs.declared.line.ScriptLine.{ScriptLine}
use Rattle.pf_script.specs.declared.next_line.NextLine.TheVariants as nexts
use Rattle.pf_script.proofs.BookRunning.{IsUnder, under_as}
use Rattle.pf_script.proofs.FilesRunning.{IsOver, over_as}
use Rattle.pf_script.proofs.Under.{looks_like, looks_over}
use Rattle.pf_script.specs.Words.{SEATS}
use Rattle.pf_tool.specs.BookScripts.{StopsUnder, IsNextLine, StarvesAt, RunsUnder, KeepsScript, no_script, script, FilesAre}
use Rattle.pf_tool.specs.Keys.{KeyOver}
use Rattle.pf_tool.specs.Outcomes.{SaysScript}
use Rattle.pf_tool.specs.Replying.{spoken_text, closed_text, first_of, end_text}
use Rattle.pf_tool.specs.Reports.{WroteAll}
use Rattle.pf_tool.specs.Scripting.{At, begins, Reads, Answers, ScriptGoes, no_key, no_reader, no_line, no_closing, no_end, done, AllLines, LineStops, not_read, not_answered, not_said, KeyRead, Closings}
use Rattle.pf_tool.specs.Transcripts.{Item, Transcript, exchange_of, exchanges_of, item_text, item_status, text_of, status_of, AnswerEach, AnswersFirst, IsStarved, PutOut, whole, cut_off, counts_after, SeenUntil}
use Rattle.pf_tool.specs.World.{World, with_log}
use Rattle.pf_tool.specs.declared.fault.Fault.{Fault}
use Rattle.pf_tool.specs.declared.fault.Fault.TheVariants as faults
use Rattle.pf_tool.specs.Runs.{RunsScript}
use Rattle.pf_tool.proofs.ScriptSaw.{Saw, told_since, told_so, seen_until}
use Rattle.pf_tool.proofs.ScriptSeen.{host_flags, words_flags}
use Rattle.pf_tool.proofs.ScriptCalm.{AreCalm}
use Rattle.pf_tool.proofs.ScriptFiles.{RunsFiles, files_left, runs_over}
use Rattle.pf_tool.proofs.ScriptUnread.{NoneCame, read_over, key_unread, lines_unread}
use Rattle.pf_tool.proofs.SeatClosings.{lines_in, desk_closings, are_closings}
use Rattle.pf_tool.proofs.ScriptContent.{stream_says, memory_says}
use Rattle.pf_tool.proofs.ScriptBooks.{script_books}
use Rattle.pf_tool.proofs.ScriptReading.{FirstLinesAre, read_settled, input_ends, status_on, text_on}
use Rattle.pf_tool.proofs.ScriptClosing.{closing_texts, closing_statuses, closing_texts_on}
use Rattle.pf_tool.proofs.ScriptParts.{lines_only, both_first}
use Rattle.pf_tool.proofs.ScriptText.{wrote_front, failed_front, lines_text}
use Rattle.pf_tool.proofs.ScriptUnder.{Under, idle_under, then_under, LinesUnder, lines_under, line_under, lines_more, SeatsUnder, seats_under, seat_under, closings_under}
use Rattle.pf_tool.proofs.ScriptBooked.{stops_idle, stops_wanting, runs_under}

-- all lines, to the end of the input
pub record AllUnder (start : At) (status : ℕ) (now : At) : Type 0 where
  pub items : List Item
  pub under : Under (flat_map exchange_of items) start now
  pub reads : Both start.world.input.left now.world.input.left (λ before left. (AnswerEach (lines_of (start.reader.pending ++ before)) items) × (left ≡ []))
  pub said : WroteAll (flat_map item_text items) start.world.out now.world.out
  pub status_is : status ≡ status_of (map item_status items)

all_under : (user : List ℕ) (begun : World) (status : ℕ) (now : At) → AllLines (begins user begun) status now → AllUnder (begins user begun) status now
all_under user begun status now all =
    let start = begins user begun in
    let last = all.last in
    let told = lines_under start status last refl all.lines in
    let xs = flat_map exchange_of told.items in
    record {
      items = told.items;
      under = subst (λ (l : List Exchange). Under l start now) (append-nil xs) (then_under xs [] start last now told.under (idle_under last now all.ends.nothing));
      reads = both_then (λ before left. (first : List (List ℕ)) × (lines_of (start.reader.pending ++ before) ≡ first ++ lines_of (last.reader.pending ++ left)) × AnswerEach first told.items)
          (λ before left. (lines_of (last.reader.pending ++ before) ≡ []) × (left ≡ [])) (λ before left. (AnswerEach (lines_of (start.reader.pending ++ before)) told.items) × (left ≡ []))
          start.world.input.left last.world.input.left now.world.input.left told.reads (input_ends last now told.settled all.ends)
          (λ a b c one two. (subst (λ (l : List (List ℕ)). AnswerEach l told.items) (sym (one.1 ∙ ap (λ (l : List (List ℕ)). one.0 ++ l) two.0 ∙ append-nil one.0)) one.2, two.1));
      said = subst (λ (s : SinkState). WroteAll (flat_map item_text told.items) begun.out s) (sym all.ends.says.out) told.said;
      status_is = told.status_is;
    }

each_many : (first : List (List ℕ)) (items : List Item) → AnswerEach first items → length first ≡ length items
each_many [] [] each = refl
each_many (bytes ∷ first) (item ∷ items) each = ap suc (each_many first items each.1)
each_many [] (item ∷ items) each = absurd each
each_many (bytes ∷ first) [] each = absurd each

pub five_or_seven : (old new : World) (status : ℕ) → IsStarved old new status → (status ≡ 5) ⊎ (status ≡ 7)
five_or_seven old new status (inl is) = inl is
five_or_seven old new status (inr both) = inr both.0

-- A script whose key was read, under a book: the fields of KeepsScript, the counts of the whole run, and its run over the files.
pub record CameUnder (key : Name) (old new : World) (status : ℕ) (book : Book) (a b : Honest) : Type 0 where
  pub user : List ℕ
  pub transcript : Transcript
  pub over : KeyOver (reading a.now) key (Ok user)
  pub seen : SeenUntil key user (exchanges_of transcript) old new status
  pub host_counts : new.host.faults ≡ counts_after (host_flags (exchanges_of transcript)) old.host.faults
  pub words_counts : new.random.faults ≡ counts_after (words_flags (exchanges_of transcript)) old.random.faults
  pub lines : IfSome old.input.left (AnswersFirst transcript)
  pub put : PutOut transcript old new status
  pub runs : RunsUnder user transcript (StarvesAt transcript old new status) book a b
  pub over_files : AreCalm (exchanges_of transcript) → RunsFiles (IsStarved old new status) user transcript (reading a.now) new

-- what came behind the last reply
record Rest (until new : World) (starved : Type 0) : Type 0 where
  more : List Answer
  told : Both until.host.given new.host.given (IsMore more)
  ends : ((more ≡ []) × (until.host ≡ new.host) × (until.random ≡ new.random)) ⊎ starved
  host : new.host.faults ≡ until.host.faults
  random : new.random.faults ≡ until.random.faults

no_rest : (until new : World) (starved : Type 0) → new.host ≡ until.host → new.random ≡ until.random → Rest until new starved
no_rest until new starved host random = record {
  more = [];
  told = told_none until.host new.host (ap (λ (h : HostState). h.given) host);
  ends = inl (refl, sym host, sym random);
  host = ap (λ (h : HostState). h.faults) host;
  random = ap (λ (r : WordsState). r.faults) random;
}

module _ (key : Name) (old new : World) (status : ℕ) (book : Book) (a b : Honest) (at_start : old.host.honest ≡ Some a) (at_end : new.host.honest ≡ Some b) (image : ReadsAsImage old.host) (starts : StartsWith book a.now) (user : List ℕ) (begun : World) (read : KeyRead key user old begun) where
  abbrev Start : At
  Start = begins user begun

  abbrev IsWanting : Type 0
  IsWanting = IsStarved old new status

  since : (text : List ℕ) (to : SinkState) → WroteAll text begun.out to → WroteAll text old.out to
  since text to wrote = subst (λ (s : SinkState). WroteAll text s to) (read.passed.out.untouched refl) wrote

  first_lines : (items : List Item) (now : At) → FirstLinesAre items Start now → IfSome old.input.left (AnswersFirst (lines_only items))
  first_lines items now reads =
      subst (λ (s : SourceState). IfSome s.left (AnswersFirst (lines_only items))) read.passed.input
      (both_first (λ before left. (first : List (List ℕ)) × (lines_of before ≡ first ++ lines_of (now.reader.pending ++ left)) × AnswerEach first items) (AnswersFirst (lines_only items)) begun.input.left now.world.input.left reads
      (λ x y found. record { first = found.0; rest = lines_of (now.reader.pending ++ y); whole = found.1; each = found.2; all = λ more. absurd (⊎_elim (λ some. some refl) (λ is. absurd (cc)) more) }))

  came : (transcript : Transcript) (until : World) → Saw (exchanges_of transcript) begun.host until.host begun.random until.random → Rest until new IsWanting → IfSome old.input.left (AnswersFirst transcript) → PutOut transcript old new status
      → RunsUnder user transcript (StarvesAt transcript old new status) book a b → (AreCalm (exchanges_of transcript) → RunsFiles IsWanting user transcript (reading a.now) new) → CameUnder key old new status book a b
  came transcript until saw rest lines put runs files = record {
    user = user;
    transcript = transcript;
    over = read_over key old new status a at_start user begun read;
    seen = seen_until key user old begun until new status (exchanges_of transcript) rest.more read saw rest.told (sym rest.host) (sym rest.random) rest.ends;
    host_counts = rest.host ∙ saw.host_counts ∙ ap (λ (n : ℕ). counts_after (host_flags (exchanges_of transcript)) n) read.passed.host.calm;
    words_counts = rest.random ∙ saw.words_counts ∙ ap (λ (r : WordsState). counts_after (words_flags (exchanges_of transcript)) r.faults) (read.passed.random.untouched refl);
    lines = lines;
    put = put;
    runs = runs;
    over_files = files;
  }

  lines_kept : (items : List Item) (last : At) → FirstLinesAre items Start last → Under (flat_map exchange_of items) Start last → PutOut (lines_only items) old new status → Rest last.world new IsWanting
      → ((final : Book) (state : ScriptState) (d : Honest) → IsUnder last.desk last.world.host final state d → StopsUnder (StarvesAt (lines_only items) old new status) final state d b)
      → ((state : ScriptState) (files : Files) → IsOver last.desk last.world.host state files → FilesAre files new ⊎ IsWanting) → CameUnder key old new status book a b
  lines_kept items last reads under put rest stops left =
      came (lines_only items) last.world (subst (λ (l : List Exchange). Saw l begun.host last.world.host begun.random last.world.random) (sym (append-nil (flat_map exchange_of items))) under.saw) rest (first_lines items last reads) put
      (runs_under (StarvesAt (lines_only items) old new status) user (lines_only items) begun last old.host book a b at_start image starts read.disk under
      (λ later state mid is_mid. (record { rest = closings SEATS 0 state; in_order = refl; all = λ e. absurd (cc) }, stops later state mid is_mid)))
      (runs_over IsWanting user (lines_only items) begun last old.host a new at_start read.disk under
      (λ calm state mid is_mid. (record { rest = closings SEATS 0 state; in_order = refl; all = λ e. absurd (cc) }, left state mid is_mid)))

  -- so many lines, and then this one
  abbrev IsThen : List Item → At → List ℕ → List ℕ → Type 0
  IsThen items now before left = (first : List (List ℕ)) × (lines_of before ≡ first ++ now.reader.line ∷ lines_of (now.reader.pending ++ left)) × (length first ≡ length items)

  -- the line that was read behind those that the items answer
  next_line : (items : List Item) (last now : At) (line : ScriptLine) → FirstLinesAre items Start last → Reads (Ok nexts.Whole) last now → IsScriptLine now.reader.line line → IfSome old.input.left (λ input. IsNextLine input items line)
  next_line items last now line reads whole_read is_line =
      let settled = read_settled nexts.Whole last now (λ e. absurd (cc)) whole_read in
      subst (λ (s : SourceState). IfSome s.left (λ input. IsNextLine input items line)) read.passed.input
      (both_first (IsThen items now) (λ input. IsNextLine input items line) begun.input.left now.world.input.left
      (both_then (λ before left. (first : List (List ℕ)) × (lines_of before ≡ first ++ lines_of (last.reader.pending ++ left)) × AnswerEach first items)
      (λ before left. GoesOn (Ok nexts.Whole) (lines_of (last.reader.pending ++ before)) now.reader (lines_of (now.reader.pending ++ left))) (IsThen items now) begun.input.left last.world.input.left now.world.input.left reads settled.1
      (λ x y z found goes. (found.0, found.1 ∙ ap (λ (l : List (List ℕ)). found.0 ++ l) goes.1, each_many found.0 items found.2)))
      (λ x y found. record { first = found.0; bytes = now.reader.line; rest = lines_of (now.reader.pending ++ y); whole = found.1; as_many = found.2; is_line = is_line }))

  -- there was no memory for a line
  wanting_rest : (bytes : List ℕ) (none : Memory) (last now : At) → IsWanting → Answers bytes (Err none) last now → new.host ≡ now.world.host → new.random ≡ now.world.random → Rest last.world new IsWanting
  wanting_rest bytes none last now starved (inl nothing) host random = record {
    more = [];
    told = told_none last.world.host new.host (ap (λ (h : HostState). h.given) (host ∙ nothing.same_host));
    ends = inr starved;
    host = ap (λ (h : HostState). h.faults) (host ∙ nothing.same_host);
    random = ap (λ (r : WordsState). r.faults) (random ∙ nothing.same_random);
  }
  wanting_rest bytes none last now starved (inr step) host random = record {
    more = told_since last.world.host.given now.world.host.given;
    told = subst (λ (h : HostState). Both last.world.host.given h.given (IsMore (told_since last.world.host.given now.world.host.given))) (sym host) (told_so (λ before given. DeskStillShows last.desk now.desk (answers_since before given)) last.world.host.given now.world.host.given step.2.wants.shows);
    ends = inr starved;
    host = ap (λ (h : HostState). h.faults) host ∙ step.2.counts.0;
    random = ap (λ (r : WordsState). r.faults) random ∙ step.2.counts.1;
  }

  pub line_stops : (fault : Fault) (earlier : ℕ) (last now : At) → LinesUnder Start earlier last → LineStops fault last now → new.host ≡ now.world.host → new.random ≡ now.world.random → new.out ≡ now.world.out → (fault ≡ faults.Memory → IsWanting) → (fault ≡ faults.Stream → status ≡ 7)
      → CameUnder key old new status book a b
  line_stops fault earlier last now lines (not_read cause reads nothing says is) host random out starved seven =
      lines_kept lines.items last lines.reads lines.under
      (cut_off (inr (seven is)) (subst (λ (s : SinkState). Both old.out.bytes s.bytes (TakesFront (text_of (lines_only lines.items)))) (sym (out ∙ says.out)) (wrote_front (flat_map item_text lines.items) (text_of (lines_only lines.items)) old.out last.world.out (lines_text lines.items) (since _ _ lines.said))))
      (no_rest last.world new IsWanting (host ∙ nothing.same_host) (random ∙ nothing.same_random))
      (λ final state d is_last. stops_idle (StarvesAt (lines_only lines.items) old new status) last.desk last.world.host new.host final state d b is_last at_end (host ∙ nothing.same_host))
      (λ state files is_last. inl (files_left last.desk last.world.host state files new is_last (host ∙ nothing.same_host)))
  line_stops fault earlier last now lines (not_answered none reads answers says is) host random out starved seven =
      lines_kept lines.items last lines.reads lines.under
      (cut_off (five_or_seven old new status (starved is)) (subst (λ (s : SinkState). Both old.out.bytes s.bytes (TakesFront (text_of (lines_only lines.items)))) (sym (out ∙ says.out)) (wrote_front (flat_map item_text lines.items) (text_of (lines_only lines.items)) old.out last.world.out (lines_text lines.items) (since _ _ lines.said))))
      (wanting_rest now.reader.line none last now (starved is) answers host random)
      (λ final state d is_last.
      ⊎_elim (λ nothing. stops_idle (StarvesAt (lines_only lines.items) old new status) last.desk last.world.host new.host final state d b is_last at_end (host ∙ nothing.same_host))
      (λ step. stops_wanting (StarvesAt (lines_only lines.items) old new status) step.0 (λ change. record { starved = starved is; change = change; none_closed = refl; next = next_line lines.items last now step.0 lines.reads reads step.1 }) none last.desk now.desk last.world.host now.world.host new.host last.world.random now.world.random final state d b is_last step.2 at_end host) answers)
      (λ state files is_last. inr (starved is))
  line_stops fault earlier last now lines (not_said reply answered some failed is) host random out starved seven =
      let one = line_under reply last now answered in
      let items = lines.items ++ one.item ∷ [] in
      let more = lines_more lines.items Start last now reply lines.reads lines.under one in
      lines_kept items now more.0 more.1
      (cut_off (inr (seven is)) (subst (λ (s : SinkState). Both old.out.bytes s.bytes (TakesFront (text_of (lines_only items)))) (sym out)
      (failed_front (flat_map item_text lines.items) (spoken_text reply) (text_of (lines_only items)) old.out last.world.out now.world.out (lines_text items ∙ text_on lines.items one.item ∙ ap (λ (l : List ℕ). flat_map item_text lines.items ++ l) one.text_is) (since _ _ lines.said) failed)))
      (no_rest now.world new IsWanting host random)
      (λ final state d is_last. stops_idle (StarvesAt (lines_only items) old new status) now.desk now.world.host new.host final state d b is_last at_end host)
      (λ state files is_last. inl (files_left now.desk now.world.host state files new is_last host))

  -- with closings
  module _ (earlier : ℕ) (at_read : At) (lines : AllUnder Start earlier at_read) where
    abbrev with : List Exchange → Bool → Transcript
    with closed ended = record { items = lines.items; closed = closed; ended = ended }

    pub closed_kept : (count : ℕ) (closed : List Exchange) (ended : Bool) (now : At) → (ended ≡ true → count ≡ SEATS) → lines_in closed ≡ desk_closings count 0 at_read.desk → Under closed at_read now → PutOut (with closed ended) old new status
        → new.host ≡ now.world.host → new.random ≡ now.world.random → CameUnder key old new status book a b
    closed_kept count closed ended now all are under put host random =
        came (with closed ended) now.world (then_under (flat_map exchange_of lines.items) closed Start at_read now lines.under under).saw (no_rest now.world new IsWanting host random)
        (subst (λ (s : SourceState). IfSome s.left (AnswersFirst (with closed ended))) read.passed.input
        (both_first (λ before left. (AnswerEach (lines_of before) lines.items) × (left ≡ [])) (AnswersFirst (with closed ended)) begun.input.left at_read.world.input.left lines.reads
        (λ x y found. record { first = lines_of x; rest = []; whole = sym (append-nil (lines_of x)); each = found.0; all = λ more. refl }))) put
        (runs_under (StarvesAt (with closed ended) old new status) user (with closed ended) begun at_read old.host book a b at_start image starts read.disk lines.under
        (λ later state mid is_mid. (
          are_closings state at_read.desk is_mid.is_state.eight (λ k. looks_like later is_mid.seats (seat_at state k) (session_at at_read.desk k) (is_mid.is_state.shows k)) lines.items closed ended count all are,
          under_as later state closed mid (λ final after d is_last. stops_idle (StarvesAt (with closed ended) old new status) now.desk now.world.host new.host final after d b is_last at_end host) (under.follows later state mid is_mid),
        )))
        (runs_over IsWanting user (with closed ended) begun at_read old.host a new at_start read.disk lines.under
        (λ calm state mid is_mid. (
          are_closings state at_read.desk is_mid.is_state.eight (λ k. looks_over mid (seat_at state k) (session_at at_read.desk k) (is_mid.is_state.shows k)) lines.items closed ended count all are,
          over_as state closed mid (λ after files is_last. inl (files_left now.desk now.world.host after files new is_last host)) (under.over calm state mid is_mid),
        )))

-- on a host whose disk is told, whatever the run came to
module _ (key : Name) (old new : World) (status : ℕ) (book : Book) (a b : Honest) (at_start : old.host.honest ≡ Some a) (at_end : new.host.honest ≡ Some b) (image : ReadsAsImage old.host) (starts : StartsWith book a.now) where
  abbrev Now : World
  Now = with_log new old.log

  -- the lines and closings up to a moment, and what was put out then
  from_closings : (user : List ℕ) (begun : World) (read : KeyRead key user old begun) (earlier count more : ℕ) (at_read last : At) → AllLines (begins user begun) earlier at_read → Closings at_read count more last → (ended : Bool) → (ended ≡ true → count ≡ SEATS)
      → ((lines : AllUnder (begins user begun) earlier at_read) → (so_far : SeatsUnder at_read count more last) → PutOut (record { items = lines.items; closed = so_far.closed; ended = ended }) old new status) → new.host ≡ last.world.host → new.random ≡ last.world.random
      → CameUnder key old new status book a b
  from_closings user begun read earlier count more at_read last all closings ended whole_count put host random =
      let lines = all_under user begun earlier at_read all in
      let so_far = seats_under at_read count more last closings in
      closed_kept key old new status book a b at_start at_end image starts user begun read earlier at_read lines count so_far.closed ended last whole_count so_far.lines_are so_far.under (put lines so_far) host random

  said_so_far : (user : List ℕ) (begun : World) (read : KeyRead key user old begun) (earlier count more : ℕ) (at_read last : At) (lines : AllUnder (begins user begun) earlier at_read) (so_far : SeatsUnder at_read count more last)
      → WroteAll (flat_map item_text lines.items ++ closing_texts so_far.closed) old.out last.world.out
  said_so_far user begun read earlier count more at_read last lines so_far =
      subst (λ (s : SinkState). WroteAll (flat_map item_text lines.items ++ closing_texts so_far.closed) s last.world.out) (read.passed.out.untouched refl)
      (wrote_both (flat_map item_text lines.items) (closing_texts so_far.closed) begun.out at_read.world.out last.world.out lines.said so_far.said)

  pub script_came : (ending : Result ℕ Fault) → ScriptGoes key ending old Now → SaysScript ending old.log new.log status → CameUnder key old new status book a b ⊎ NoneCame key (reading a.now) old new status
  script_came ending (no_key fault falls is) says = inr (key_unread key old new status a at_start fault falls (subst (λ (r : Result ℕ Fault). SaysScript r old.log new.log status) is says))
  script_came ending (no_reader user read is) says = inr (lines_unread key old new status a at_start user read (memory_says old old new status refl (subst (λ (r : Result ℕ Fault). SaysScript r old.log new.log status) is says)))
  script_came ending (no_line user begun earlier last now fault read lines stopped same is) says =
      let says2 : SaysScript (Err fault) old.log new.log status = subst (λ (r : Result ℕ Fault). SaysScript r old.log new.log status) is says in
      inl (line_stops key old new status book a b at_start at_end image starts user begun read fault earlier last now (lines_under (begins user begun) earlier last refl lines) stopped (ap (λ (w : World). w.host) same) (ap (λ (w : World). w.random) same) (ap (λ (w : World). w.out) same)
      (λ memory. memory_says old old new status refl (subst (λ (f : Fault). SaysScript (Err f) old.log new.log status) memory says2)) (λ stream. stream_says old.log new.log status (subst (λ (f : Fault). SaysScript (Err f) old.log new.log status) stream says2)))
  script_came ending (no_closing earlier seat more at_read last now s closings stopped same is) says =
      let lines = all_under s.user s.begun earlier at_read s.all in
      let so_far = seats_under at_read seat more last closings in
      let one = seat_under seat stopped.reply last now stopped.closed in
      let closed = so_far.closed ++ one.closed in
      inl (closed_kept key old new status book a b at_start at_end image starts s.user s.begun s.read earlier at_read lines (suc seat) closed false now (λ e. absurd (cc)) (closings_under at_read last now seat more stopped.reply so_far one) (then_under so_far.closed one.closed at_read last now so_far.under one.under)
      (cut_off (inr (stream_says old.log new.log status (subst (λ (r : Result ℕ Fault). SaysScript r old.log new.log status) is says)))
      (subst (λ (x : SinkState). Both old.out.bytes x.bytes (TakesFront (text_of (record { items = lines.items; closed = closed; ended = false })))) (sym (ap (λ (w : World). w.out) same))
      (failed_front (flat_map item_text lines.items ++ closing_texts so_far.closed) (closed_text stopped.reply) (text_of (record { items = lines.items; closed = closed; ended = false })) old.out last.world.out now.world.out
      (append-nil (flat_map item_text lines.items ++ closing_texts closed) ∙ ap (λ (l : List ℕ). flat_map item_text lines.items ++ l) (closing_texts_on so_far.closed one.closed ∙ ap (λ (l : List ℕ). closing_texts so_far.closed ++ l) one.text_is)
      ∙ sym (append_assoc (flat_map item_text lines.items) (closing_texts so_far.closed) (closed_text stopped.reply)))
      (said_so_far s.user s.begun s.read earlier seat more at_read last lines so_far) stopped.failed))) (ap (λ (w : World). w.host) same) (ap (λ (w : World). w.random) same))
  script_came ending (no_end earlier more at_read last s closings failed same is) says =
      inl (from_closings s.user s.begun s.read earlier SEATS more at_read last s.all closings true (λ e. refl)
      (λ lines so_far. cut_off (inr (stream_says old.log new.log status (subst (λ (r : Result ℕ Fault). SaysScript r old.log new.log status) is says)))
      (failed_front (flat_map item_text lines.items ++ closing_texts so_far.closed) end_text (text_of (record { items = lines.items; closed = so_far.closed; ended = true })) old.out last.world.out new.out refl
      (said_so_far s.user s.begun s.read earlier SEATS more at_read last lines so_far) failed)) (ap (λ (w : World). w.host) same) (ap (λ (w : World). w.random) same))
  script_came ending (done earlier more at_read last s closings wrote same is) says =
      let says2 = subst (λ (r : Result ℕ Fault). SaysScript r old.log new.log status) is says in
      inl (from_closings s.user s.begun s.read earlier SEATS more at_read last s.all closings true (λ e. refl)
      (λ lines so_far. whole refl (wrote_both (flat_map item_text lines.items ++ closing_texts so_far.closed) end_text old.out last.world.out new.out (said_so_far s.user s.begun s.read earlier SEATS more at_read last lines so_far) wrote) says2.1
      (says2.0 ∙ ap (λ (n : ℕ). first_of n more) lines.status_is ∙ ap (λ (n : ℕ). first_of (status_of (map item_status lines.items)) n) so_far.status_is ∙ sym (status_on (map item_status lines.items) (closing_statuses so_far.closed)))) (ap (λ (w : World). w.host) same) (ap (λ (w : World). w.random) same))

  -- so of each book with which it may begin
  pub keeps_script : CameUnder key old new status book a b ⊎ NoneCame key (reading a.now) old new status → KeepsScript key old new status book a b
  keeps_script (inl came) = script came.user came.transcript came.over came.seen came.lines came.put came.runs
  keeps_script (inr none) =
      let still : Both (Some a) (Some b) Unchanged = subst (λ (o : Option Honest). Both (Some a) o Unchanged) at_end (subst (λ (o : Option Honest). Both o new.host.honest Unchanged) at_start none.disk) in
      no_script none.why none.input still

-- on a host whose disk is told
abbrev pub AtDisks : World → World → (Book → Honest → Honest → Type 0) → Type 0
AtDisks old new P = OnDisk old.host new.host (λ a b. (book : Book) → StartsWith book a.now → P book a b)

pub script_at : (key : Name) (old new : World) (status : ℕ) → ReadsAsImage old.host → RunsScript key old new status → (P : Book → Honest → Honest → Type 0)
    → ((book : Book) (a b : Honest) → old.host.honest ≡ Some a → new.host.honest ≡ Some b → StartsWith book a.now → CameUnder key old new status book a b ⊎ NoneCame key (reading a.now) old new status → P book a b) → AtDisks old new P
script_at key old new status image run P go =
    both_with (λ a b. (book : Book) → StartsWith book a.now → RunKeeps book a b) (λ a b. (book : Book) → StartsWith book a.now → P book a b) old.host.honest new.host.honest (script_books key old new status image run)
    (λ a b at_start at_end keeps book starts. go book a b at_start at_end starts (script_came key old new status book a b at_start at_end image starts run.ending run.goes run.says))

pub script_keeps : (key : Name) (old new : World) (status : ℕ) → ReadsAsImage old.host → RunsScript key old new status → AtDisks old new (KeepsScript key old new status)
script_keeps key old new status image run =
    script_at key old new status image run (KeepsScript key old new status) (λ book a b at_start at_end starts came. keeps_script key old new status book a b at_start at_end image starts came)
