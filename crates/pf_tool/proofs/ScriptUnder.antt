-- The lines and closings of a script under a book, and over files.
use Rattle.std.proofs.Common.{◌≡◌, ◌≢◌, ◌↔◌, inl, ℕ, suc, ◌≤◌, ◌<◌, List, [], ◌∷◌, ◌++◌, length, map, refl, sym, ◌∙◌, ap, subst, arith, append_assoc, Option, Some, None, Ok}
use Rattle.std.specs.List.{flat_map}
use Rattle.std.proofs.lemmas.List.{append-nil, map-append}
use Rattle.pf_io.specs.Disk.{Files}
use Rattle.pf_io.specs.Host.{HostState, ReadsAsImage}
use Rattle.pf_io.specs.Lines.{lines_of}
use Rattle.pf_io.specs.Moments.{Honest}
use Rattle.pf_io.proofs.Telling.{both_same, both_then, both_weaker}
use Rattle.pf_io.proofs.Writing.{wrote_both}
use Rattle.pf_session.specs.State.{SessionState}
use Rattle.pf_script.specs.Book.{Book}
use Rattle.pf_script.specs.BookRuns.{FollowsUnder}
use Rattle.pf_script.specs.BookTurns.{DeskAgrees, EndBooked}
use Rattle.pf_script.specs.Desk.{DeskState, session_at}
use Rattle.pf_script.specs.DeskSteps.{KeepsNames, EndGoes}
use Rattle.pf_script.specs.FileRuns.{FollowsOver}
use Rattle.pf_script.specs.LineReading.{GoesOn}
use Rattle.pf_script.specs.Script.{ScriptState}
use Rattle.pf_script.specs.ScriptLines.{IsScriptLine, LONGEST_LINE}
use Rattle.pf_script.specs.ScriptRuns.{Exchange}
use Rattle.pf_script.specs.declared.line.ScriptLine.{ScriptLine}
use Rattle.pf_script.specs.declared.line.ScriptLine.TheVariants as lines
use Rattle.pf_script.specs.declared.next_line.NextLine.{NextLine}
use Rattle.pf_script.specs.declared.next_line.NextLine.TheVariants as nexts
use Rattle.pf_script.specs.declared.reply.Reply.{Reply}
use Rattle.pf_script.specs.declared.stage.Stage.TheVariants as stages
use Rattle.pf_script.proofs.BookRunning.{IsUnder, under_as, under_on, one_under}
use Rattle.pf_script.proofs.FilesRunning.{IsOver, over_as, over_on, one_over}
use Rattle.pf_tool.specs.Replying.{spoken_text, spoken_status, closed_text, closed_status, closing_text, reply_status, first_of}
use Rattle.pf_tool.specs.Reports.{WroteAll}
use Rattle.pf_tool.specs.Scripting.{At, Reads, NothingAsked, NextAnswered, LineAnswered, Lines, none_yet, one_more, SeatClosed, Closings, none_closed, one_closed}
use Rattle.pf_tool.specs.Transcripts.{Item, NoLine, Said, exchange_of, item_text, item_status, status_of, AnswersBytes, AnswerEach}
use Rattle.pf_tool.proofs.RunStops.{wrote_nothing}
use Rattle.pf_tool.proofs.ScriptCalm.{AreCalm, calm_split}
use Rattle.pf_tool.proofs.ScriptReading.{IsSettled, NextLineIs, FirstLinesAre, read_settled, each_on, items_on, status_on, text_on}
use Rattle.pf_tool.proofs.ScriptClosing.{closing_texts, closing_statuses, closing_texts_on}
use Rattle.pf_tool.proofs.ScriptSaw.{Saw, saw_none, saw_on, saw_one}
use Rattle.pf_tool.proofs.SeatClosings.{lines_in, closing_at, desk_closings, closings_more}

-- Under each book, state and disk that are those of a desk on its host; over files that are those of its disk, where nothing failed; and what was seen.
pub record Under (exchanges : List Exchange) (old new : At) : Type 0 where
  pub follows : (book : Book) (state : ScriptState) (disk : Honest) → IsUnder old.desk old.world.host book state disk → FollowsUnder book state exchanges disk (IsUnder new.desk new.world.host)
  pub over : AreCalm exchanges → (state : ScriptState) (files : Files) → IsOver old.desk old.world.host state files → FollowsOver state exchanges files (IsOver new.desk new.world.host)
  pub saw : Saw exchanges old.world.host new.world.host old.world.random new.world.random

pub idle_under : (old new : At) → NothingAsked old.desk new.desk old.world.host new.world.host old.world.random new.world.random → Under [] old new
idle_under old new nothing = record {
  follows = λ book state disk is. subst (λ (d : DeskState). IsUnder d new.world.host book state disk) (sym nothing.same_desk) (subst (λ (h : HostState). IsUnder old.desk h book state disk) (sym nothing.same_host) is);
  over = λ calm state files is. subst (λ (d : DeskState). IsOver d new.world.host state files) (sym nothing.same_desk) (subst (λ (h : HostState). IsOver old.desk h state files) (sym nothing.same_host) is);
  saw = saw_none old.world.host new.world.host old.world.random new.world.random nothing.same_host nothing.same_random;
}

pub none_under : (place : At) → Under [] place place
none_under place = idle_under place place (record { same_desk = refl; same_host = refl; same_random = refl })

pub then_under : (xs ys : List Exchange) (old mid new : At) → Under xs old mid → Under ys mid new → Under (xs ++ ys) old new
then_under xs ys old mid new first second = record {
  follows = λ book state disk is. under_on (IsUnder new.desk new.world.host) book state xs ys disk (under_as book state xs disk (λ b s d is_mid. second.follows b s d is_mid) (first.follows book state disk is));
  over = λ calm state files is.
      let each = calm_split xs ys calm in
      over_on (IsOver new.desk new.world.host) state xs ys files (over_as state xs files (λ s f is_mid. second.over each.1 s f is_mid) (first.over each.0 state files is));
  saw = saw_on xs ys old.world.host mid.world.host new.world.host old.world.random mid.world.random new.world.random first.saw second.saw;
}

-- a line that was replied to
told_under : (line : ScriptLine) (reply : Reply) (old new : At) (agrees : DeskAgrees line reply old.desk new.desk old.world.host new.world.host old.world.random new.world.random) → KeepsNames line old.desk new.desk
    → ReadsAsImage new.world.host → Under (record { line = line; seen = agrees.seen; reply = reply } ∷ []) old new
told_under line reply old new agrees named image = record {
  follows = one_under line reply old.desk new.desk old.world.host new.world.host old.world.random new.world.random agrees named image;
  over = λ calm. one_over line reply old.desk new.desk old.world.host new.world.host old.world.random new.world.random agrees calm.0;
  saw = saw_one (record { line = line; seen = agrees.seen; reply = reply }) old.world.host new.world.host old.world.random new.world.random agrees.was_seen;
}

-- a line that was answered
pub record LineUnder (reply : Option Reply) (old new : At) : Type 0 where
  pub item : Item
  pub reads : NextLineIs item old new
  pub text_is : item_text item ≡ spoken_text reply
  pub status_is : item_status item ≡ spoken_status reply
  pub settled : IsSettled new
  pub under : Under (exchange_of item) old new

pub line_under : (reply : Option Reply) (old new : At) → LineAnswered reply old new → LineUnder reply old new
line_under reply old new answered = by_next answered.next reply answered.reads answered.answers
  where
    too_long : (bytes : List ℕ) → LONGEST_LINE < length bytes → (line : ScriptLine) → ¬ (IsScriptLine bytes line)
    too_long bytes long line is = let short = is.not_long in omega (arith, long, short)

    by_next : (next : NextLine) (reply : Option Reply) → Reads (Ok next) old new → NextAnswered next new.reader.line reply old new → LineUnder reply old new
    by_next nexts.End reply reads answers = absurd answers
    by_next nexts.TooLong reply reads answers =
        let read = read_settled nexts.TooLong old new (λ e. absurd (cc)) reads in
        subst (λ (r : Option Reply). LineUnder r old new) (sym answers.0) (record {
          item = NoLine;
          reads = both_weaker (λ b n. GoesOn (Ok nexts.TooLong) (lines_of (old.reader.pending ++ b)) new.reader (lines_of (new.reader.pending ++ n)))
              (λ b n. (bytes : List ℕ) × (lines_of (old.reader.pending ++ b) ≡ bytes ∷ lines_of (new.reader.pending ++ n)) × AnswersBytes bytes NoLine) old.world.input.left new.world.input.left read.1
              (λ b n goes. (goes.0, goes.2, too_long goes.0 goes.1));
          text_is = refl;
          status_is = refl;
          settled = read.0;
          under = idle_under old new answers.1;
        })
    by_next nexts.Whole None reads answers =
        let read = read_settled nexts.Whole old new (λ e. absurd (cc)) reads in
        record {
          item = NoLine;
          reads = both_weaker (λ b n. GoesOn (Ok nexts.Whole) (lines_of (old.reader.pending ++ b)) new.reader (lines_of (new.reader.pending ++ n)))
              (λ b n. (bytes : List ℕ) × (lines_of (old.reader.pending ++ b) ≡ bytes ∷ lines_of (new.reader.pending ++ n)) × AnswersBytes bytes NoLine) old.world.input.left new.world.input.left read.1
              (λ b n goes. (new.reader.line, goes.1, answers.0));
          text_is = refl;
          status_is = refl;
          settled = read.0;
          under = idle_under old new answers.1;
        }
    by_next nexts.Whole (Some said) reads answers =
        let read = read_settled nexts.Whole old new (λ e. absurd (cc)) reads in
        let exchange : Exchange = record { line = answers.0; seen = answers.3.seen; reply = said } in
        record {
          item = Said exchange;
          reads = both_weaker (λ b n. GoesOn (Ok nexts.Whole) (lines_of (old.reader.pending ++ b)) new.reader (lines_of (new.reader.pending ++ n)))
              (λ b n. (bytes : List ℕ) × (lines_of (old.reader.pending ++ b) ≡ bytes ∷ lines_of (new.reader.pending ++ n)) × AnswersBytes bytes (Said exchange)) old.world.input.left new.world.input.left read.1
              (λ b n goes. (new.reader.line, goes.1, answers.1));
          text_is = refl;
          status_is = refl;
          settled = read.0;
          under = told_under answers.0 said old new answers.3 answers.2.named answered.image;
        }

-- one line more
pub lines_more : (items : List Item) (start mid now : At) (reply : Option Reply) → FirstLinesAre items start mid → Under (flat_map exchange_of items) start mid → (one : LineUnder reply mid now)
    → FirstLinesAre (items ++ one.item ∷ []) start now × Under (flat_map exchange_of (items ++ one.item ∷ [])) start now
lines_more items start mid now reply reads under one = (
  both_then (λ before left. (first : List (List ℕ)) × (lines_of (start.reader.pending ++ before) ≡ first ++ lines_of (mid.reader.pending ++ left)) × AnswerEach first items)
      (λ before left. (bytes : List ℕ) × (lines_of (mid.reader.pending ++ before) ≡ bytes ∷ lines_of (now.reader.pending ++ left)) × AnswersBytes bytes one.item)
      (λ before left. (first : List (List ℕ)) × (lines_of (start.reader.pending ++ before) ≡ first ++ lines_of (now.reader.pending ++ left)) × AnswerEach first (items ++ one.item ∷ []))
      start.world.input.left mid.world.input.left now.world.input.left reads one.reads
      (λ a b c first next. (
        first.0 ++ next.0 ∷ [],
        first.1 ∙ ap (λ (l : List (List ℕ)). first.0 ++ l) next.1 ∙ sym (append_assoc first.0 (next.0 ∷ []) (lines_of (now.reader.pending ++ c))),
        each_on first.0 items next.0 one.item first.2 next.2,
      )),
  subst (λ (l : List Exchange). Under l start now) (sym (items_on items one.item)) (then_under (flat_map exchange_of items) (exchange_of one.item) start mid now under one.under),
)

-- lines that were answered, with the output and the status
pub record LinesUnder (start : At) (status : ℕ) (now : At) : Type 0 where
  pub items : List Item
  pub reads : FirstLinesAre items start now
  pub settled : IsSettled now
  pub under : Under (flat_map exchange_of items) start now
  pub said : WroteAll (flat_map item_text items) start.world.out now.world.out
  pub status_is : status ≡ status_of (map item_status items)

pub lines_under : (start : At) (status : ℕ) (now : At) → start.reader.stage ≡ stages.Open → Lines start status now → LinesUnder start status now
lines_under start status now ready (none_yet _ _ zero_is same) = subst (λ (n : At). LinesUnder start status n) (sym same) (record {
  items = [];
  reads = both_same (λ before left. (first : List (List ℕ)) × (lines_of (start.reader.pending ++ before) ≡ first ++ lines_of (start.reader.pending ++ left)) × AnswerEach first []) start.world.input.left start.world.input.left refl (λ bytes. ([], refl, tt));
  settled = inl ready;
  under = none_under start;
  said = wrote_nothing start.world.out start.world.out refl;
  status_is = zero_is;
})
lines_under start status now ready (one_more earlier _ reply mid _ so_far goes is) =
    let old = lines_under start earlier mid ready so_far in
    let one = line_under reply mid now goes.answered in
    let more = lines_more old.items start mid now reply old.reads old.under one in
    record {
      items = old.items ++ one.item ∷ [];
      reads = more.0;
      settled = one.settled;
      under = more.1;
      said = subst (λ (l : List ℕ). WroteAll l start.world.out now.world.out) (sym (text_on old.items one.item))
          (wrote_both (flat_map item_text old.items) (item_text one.item) start.world.out mid.world.out now.world.out old.said (subst (λ (l : List ℕ). WroteAll l mid.world.out now.world.out) (sym one.text_is) goes.said));
      status_is = is ∙ ap (λ (n : ℕ). first_of n (spoken_status reply)) old.status_is ∙ ap (λ (n : ℕ). first_of (status_of (map item_status old.items)) n) (sym one.status_is)
          ∙ sym (status_on (map item_status old.items) (item_status one.item ∷ [])) ∙ ap (λ (l : List ℕ). status_of l) (sym (map-append item_status old.items (one.item ∷ [])));
    }

-- a seat that was closed
pub record SeatUnder (k : ℕ) (reply : Option Reply) (old new : At) : Type 0 where
  pub closed : List Exchange
  pub under : Under closed old new
  pub lines_are : lines_in closed ≡ closing_at k (session_at old.desk k)
  pub others : (other : ℕ) → other ≢ k → session_at new.desk other ≡ session_at old.desk other
  pub text_is : closing_texts closed ≡ closed_text reply
  pub status_is : status_of (closing_statuses closed) ≡ closed_status reply

pub seat_under : (k : ℕ) (reply : Option Reply) (old new : At) → SeatClosed k reply old new → SeatUnder k reply old new
seat_under k reply old new seat = by_reply reply seat.none seat.ends seat.booked
  where
    some_closing : (k : ℕ) (said : Reply) (o : Option SessionState) → (Some said ≡ None) ↔ (o ≡ None) → lines.Close k ∷ [] ≡ closing_at k o
    some_closing k said (Some session) none = refl
    some_closing k said None none = let never : Some said ≡ None = none.1 refl in absurd (cc)

    by_reply : (reply : Option Reply) → (reply ≡ None) ↔ (session_at old.desk k ≡ None) → EndGoes k reply old.desk new.desk old.world.host new.world.host old.world.random new.world.random → EndBooked k reply old.desk new.desk old.world.host new.world.host old.world.random new.world.random
        → SeatUnder k reply old new
    by_reply None none ends booked = record {
      closed = [];
      lines_are = ap (closing_at k) (sym (none.0 refl));
      others = seat.others;
      under = idle_under old new (record { same_desk = ends.0; same_host = ends.1; same_random = ends.2 });
      text_is = refl;
      status_is = refl;
    }
    by_reply (Some said) none ends booked =
        let exchange : Exchange = record { line = lines.Close k; seen = booked.seen; reply = said } in
        record {
          closed = exchange ∷ [];
          under = told_under (lines.Close k) said old new booked ends.named seat.image;
          lines_are = some_closing k said (session_at old.desk k) none;
          others = seat.others;
          text_is = append-nil (closing_text said);
          status_is = refl;
        }

pub record SeatsUnder (start : At) (count status : ℕ) (now : At) : Type 0 where
  pub closed : List Exchange
  pub under : Under closed start now
  pub lines_are : lines_in closed ≡ desk_closings count 0 start.desk
  pub later : (other : ℕ) → count ≤ other → session_at now.desk other ≡ session_at start.desk other
  pub said : WroteAll (closing_texts closed) start.world.out now.world.out
  pub status_is : status ≡ status_of (closing_statuses closed)

-- one seat more
pub closings_under : (start mid now : At) (seat earlier : ℕ) (reply : Option Reply) (so_far : SeatsUnder start seat earlier mid) (one : SeatUnder seat reply mid now) → lines_in (so_far.closed ++ one.closed) ≡ desk_closings (suc seat) 0 start.desk
closings_under start mid now seat earlier reply so_far one =
    let e : seat ≤ seat = omega arith in
    map-append (λ (exchange : Exchange). exchange.line) so_far.closed one.closed ∙ ap (λ (l : List ScriptLine). l ++ lines_in one.closed) so_far.lines_are
    ∙ ap (λ (l : List ScriptLine). desk_closings seat 0 start.desk ++ l) (one.lines_are ∙ ap (closing_at seat) (so_far.later seat e)) ∙ sym (closings_more start.desk seat)

pub seats_under : (start : At) (count status : ℕ) (now : At) → Closings start count status now → SeatsUnder start count status now
seats_under start count status now (none_closed _ _ _ no_seat zero_is same) = subst (λ (n : At). SeatsUnder start count status n) (sym same) (record {
  closed = [];
  under = none_under start;
  lines_are = ap (λ (n : ℕ). desk_closings n 0 start.desk) (sym no_seat);
  later = λ other far. refl;
  said = wrote_nothing start.world.out start.world.out refl;
  status_is = zero_is;
})
seats_under start count status now (one_closed seat _ earlier _ reply mid _ so_far goes wrote next is) =
    let old = seats_under start seat earlier mid so_far in
    let one = seat_under seat reply mid now goes in
    record {
      closed = old.closed ++ one.closed;
      under = then_under old.closed one.closed start mid now old.under one.under;
      lines_are = closings_under start mid now seat earlier reply old one ∙ ap (λ (n : ℕ). desk_closings n 0 start.desk) (sym next);
      later = λ other far. one.others other (λ e. omega (arith, far, next, e)) ∙ old.later other (omega (arith, far, next));
      said = subst (λ (l : List ℕ). WroteAll l start.world.out now.world.out) (sym (closing_texts_on old.closed one.closed))
          (wrote_both (closing_texts old.closed) (closing_texts one.closed) start.world.out mid.world.out now.world.out old.said (subst (λ (l : List ℕ). WroteAll l mid.world.out now.world.out) (sym one.text_is) wrote));
      status_is = is ∙ ap (λ (n : ℕ). first_of n (closed_status reply)) old.status_is ∙ ap (λ (n : ℕ). first_of (status_of (closing_statuses old.closed)) n) (sym one.status_is)
          ∙ sym (status_on (closing_statuses old.closed) (closing_statuses one.closed)) ∙ ap (λ (l : List ℕ). status_of l) (sym (map-append (λ (exchange : Exchange). reply_status exchange.reply) old.closed one.closed));
    }
