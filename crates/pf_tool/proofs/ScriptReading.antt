-- The lines of a script as they were answered, one after the other.
use Rattle.std.proofs.Common.{◌≡◌, ◌≢◌, ◌⊎◌, inl, inr, ⊎_elim, ℕ, zero, suc, ◌<◌, List, [], ◌∷◌, ◌++◌, length, map, refl, sym, ◌∙◌, ap, subst, arith, append_assoc, Option, Some, None, Ok}
use Rattle.std.specs.Prelude.{IfSome}
use Rattle.std.specs.List.{flat_map, fold}
use Rattle.std.proofs.lemmas.Grind.{flat_map-append, fold-append}
use Rattle.std.proofs.lemmas.List.{append-nil, map-append}
use Rattle.pf_io.specs.Host.{Answer, Both}
use Rattle.pf_io.specs.Lines.{lines_of}
use Rattle.pf_io.specs.Streams.{SourceState}
use Rattle.pf_io.proofs.Telling.{both_same, both_then, both_weaker}
use Rattle.pf_io.proofs.Writing.{wrote_both}
use Rattle.pf_script.specs.Desk.{IsStateOf}
use Rattle.pf_script.specs.LineReading.{GoesOn, HasNoMore, BeginsWith, Fed, Last, LinesGoOn, AnswersAgain}
use Rattle.pf_script.specs.Script.{ScriptState}
use Rattle.pf_script.specs.ScriptLines.{IsScriptLine, LONGEST_LINE}
use Rattle.pf_script.specs.ScriptRuns.{Exchange, Follows}
use Rattle.pf_script.specs.declared.line.ScriptLine.{ScriptLine}
use Rattle.pf_script.specs.declared.next_line.NextLine.{NextLine}
use Rattle.pf_script.specs.declared.next_line.NextLine.TheVariants as nexts
use Rattle.pf_script.specs.declared.reply.Reply.{Reply}
use Rattle.pf_script.specs.declared.stage.Stage.{Stage}
use Rattle.pf_script.specs.declared.stage.Stage.TheVariants as stages
use Rattle.pf_tool.specs.Replying.{spoken_text, spoken_status, first_of}
use Rattle.pf_tool.specs.Reports.{WroteAll}
use Rattle.pf_tool.specs.Scripting.{At, ReadsOn, went_on, was_over, Reads, NothingAsked, LineAnswered, NextAnswered, InputEnds, Lines, none_yet, one_more}
use Rattle.pf_tool.specs.Transcripts.{Item, NoLine, Said, exchange_of, item_text, item_status, status_of, AnswersBytes, AnswerEach}
use Rattle.pf_tool.proofs.RunStops.{wrote_nothing}
use Rattle.pf_tool.proofs.ScriptTurns.{follows_as, follows_on}
use Rattle.pf_tool.proofs.ScriptSeen.{given_in, Spoke, spoke_none, spoke_on, one_told}

-- the reader may go on, or there is nothing left
abbrev pub IsSettled : At → Type 0
IsSettled now = (now.reader.stage ≡ stages.Open) ⊎ ((now.reader.pending ≡ []) × HasNoMore now.world.input)

-- the next line was read, and goes with an item
abbrev pub NextLineIs : Item → At → At → Type 0
NextLineIs item old new = Both old.world.input.left new.world.input.left (λ before now. (bytes : List ℕ) × (lines_of (old.reader.pending ++ before) ≡ bytes ∷ lines_of (new.reader.pending ++ now)) × AnswersBytes bytes item)

-- a line that was answered
pub record LineTold (reply : Option Reply) (old new : At) : Type 0 where
  pub item : Item
  pub spoke : Spoke (exchange_of item) old.world.host new.world.host old.world.random new.world.random
  pub follows : (state : ScriptState) → IsStateOf state old.desk → Follows state (exchange_of item) (λ left. IsStateOf left new.desk)
  pub reads : NextLineIs item old new
  pub text_is : item_text item ≡ spoken_text reply
  pub status_is : item_status item ≡ spoken_status reply
  pub settled : IsSettled new

settled_by : (bytes text : List ℕ) (new : At) → BeginsWith bytes text new.reader new.world.input → IsSettled new
settled_by bytes text new (Fed is stage) = inl stage
settled_by bytes text new (Last is some end) = inr (end.pending, end.no_more)

-- a line that is read leaves the reader so
pub read_settled : (next : NextLine) (old new : At) → next ≢ nexts.End → Reads (Ok next) old new → IsSettled new × LinesGoOn (Ok next) old.reader new.reader old.world.input new.world.input
read_settled nexts.End old new some reads = absurd (some refl)
read_settled nexts.Whole old new some (went_on stage advances lines) = (settled_by new.reader.line (old.reader.pending ++ advances.these) new advances.cuts.2, lines)
read_settled nexts.TooLong old new some (went_on stage advances lines) = (settled_by advances.cuts.0 (old.reader.pending ++ advances.these) new advances.cuts.3, lines)
read_settled nexts.Whole old new some (was_over stage again same still) = absurd (over old.reader.stage stage again)
  where
    over : (s : Stage) → s ≢ stages.Open → AnswersAgain (Ok nexts.Whole) s → ⊥
    over stages.Open shut again = shut refl
    over stages.Ended shut again = absurd (cc)
    over stages.Failed shut again = let is = again.1 in absurd (cc)
read_settled nexts.TooLong old new some (was_over stage again same still) = absurd (over old.reader.stage stage again)
  where
    over : (s : Stage) → s ≢ stages.Open → AnswersAgain (Ok nexts.TooLong) s → ⊥
    over stages.Open shut again = shut refl
    over stages.Ended shut again = absurd (cc)
    over stages.Failed shut again = let is = again.1 in absurd (cc)

still_state : (old new : At) → NothingAsked old.desk new.desk old.world.host new.world.host old.world.random new.world.random → (state : ScriptState) → IsStateOf state old.desk → IsStateOf state new.desk
still_state old new nothing state is = subst (IsStateOf state) (sym nothing.same_desk) is

-- bytes that are no line
no_line_told : (old new : At) (before : List Answer) → old.world.host.given ≡ Some before → NothingAsked old.desk new.desk old.world.host new.world.host old.world.random new.world.random → NextLineIs NoLine old new → IsSettled new → LineTold None old new
no_line_told old new before was nothing reads settled = record {
  item = NoLine;
  spoke = spoke_none before old.world.host new.world.host old.world.random new.world.random was nothing.same_host nothing.same_random;
  follows = still_state old new nothing;
  reads = reads;
  text_is = refl;
  status_is = refl;
  settled = settled;
}

pub line_told : (reply : Option Reply) (old new : At) (before : List Answer) → old.world.host.given ≡ Some before → LineAnswered reply old new → LineTold reply old new
line_told reply old new before was answered = by_next answered.next reply answered.reads answered.answers
  where
    too_long : (bytes : List ℕ) → LONGEST_LINE < length bytes → (line : ScriptLine) → ¬ (IsScriptLine bytes line)
    too_long bytes long line is = let short = is.not_long in omega (arith, long, short)

    by_next : (next : NextLine) (reply : Option Reply) → Reads (Ok next) old new → NextAnswered next new.reader.line reply old new → LineTold reply old new
    by_next nexts.End reply reads answers = absurd answers
    by_next nexts.TooLong reply reads answers =
        let read = read_settled nexts.TooLong old new (λ e. absurd (cc)) reads in
        subst (λ (r : Option Reply). LineTold r old new) (sym answers.0)
        (no_line_told old new before was answers.1
        (both_weaker (λ b n. GoesOn (Ok nexts.TooLong) (lines_of (old.reader.pending ++ b)) new.reader (lines_of (new.reader.pending ++ n)))
        (λ b n. (bytes : List ℕ) × (lines_of (old.reader.pending ++ b) ≡ bytes ∷ lines_of (new.reader.pending ++ n)) × AnswersBytes bytes NoLine) old.world.input.left new.world.input.left read.1
        (λ b n goes. (goes.0, goes.2, too_long goes.0 goes.1))) read.0)
    by_next nexts.Whole None reads answers =
        let read = read_settled nexts.Whole old new (λ e. absurd (cc)) reads in
        no_line_told old new before was answers.1
        (both_weaker (λ b n. GoesOn (Ok nexts.Whole) (lines_of (old.reader.pending ++ b)) new.reader (lines_of (new.reader.pending ++ n)))
        (λ b n. (bytes : List ℕ) × (lines_of (old.reader.pending ++ b) ≡ bytes ∷ lines_of (new.reader.pending ++ n)) × AnswersBytes bytes NoLine) old.world.input.left new.world.input.left read.1
        (λ b n goes. (new.reader.line, goes.1, answers.0))) read.0
    by_next nexts.Whole (Some said) reads answers =
        let read = read_settled nexts.Whole old new (λ e. absurd (cc)) reads in
        let one = one_told answers.0 said old.desk new.desk old.world.host new.world.host old.world.random new.world.random before was answers.2 in
        record {
          item = Said one.said;
          spoke = one.spoke;
          follows = one.follows;
          reads = both_weaker (λ b n. GoesOn (Ok nexts.Whole) (lines_of (old.reader.pending ++ b)) new.reader (lines_of (new.reader.pending ++ n)))
              (λ b n. (bytes : List ℕ) × (lines_of (old.reader.pending ++ b) ≡ bytes ∷ lines_of (new.reader.pending ++ n)) × AnswersBytes bytes (Said one.said)) old.world.input.left new.world.input.left read.1
              (λ b n goes. (new.reader.line, goes.1, subst (λ (l : ScriptLine). IsScriptLine new.reader.line l) (sym one.line_is) answers.1));
          text_is = ap (λ (r : Reply). spoken_text (Some r)) one.reply_is;
          status_is = ap (λ (r : Reply). spoken_status (Some r)) one.reply_is;
          settled = read.0;
        }

-- the first lines of the input go with these items
abbrev pub FirstLinesAre : List Item → At → At → Type 0
FirstLinesAre items start now =
    Both start.world.input.left now.world.input.left (λ before left. (first : List (List ℕ)) × (lines_of (start.reader.pending ++ before) ≡ first ++ lines_of (now.reader.pending ++ left)) × AnswerEach first items)

-- lines that were answered
pub record LinesTold (items : List Item) (start now : At) : Type 0 where
  pub spoke : Spoke (flat_map exchange_of items) start.world.host now.world.host start.world.random now.world.random
  pub follows : (state : ScriptState) → IsStateOf state start.desk → Follows state (flat_map exchange_of items) (λ left. IsStateOf left now.desk)
  pub reads : FirstLinesAre items start now
  pub settled : IsSettled now

pub each_on : (first : List (List ℕ)) (items : List Item) (bytes : List ℕ) (item : Item) → AnswerEach first items → AnswersBytes bytes item → AnswerEach (first ++ bytes ∷ []) (items ++ item ∷ [])
each_on [] [] bytes item each one = (one, tt)
each_on (line ∷ first) (other ∷ items) bytes item each one = (each.0, each_on first items bytes item each.1 one)
each_on [] (other ∷ items) bytes item each one = absurd each
each_on (line ∷ first) [] bytes item each one = absurd each

pub items_on : (items : List Item) (item : Item) → flat_map exchange_of (items ++ item ∷ []) ≡ flat_map exchange_of items ++ exchange_of item
items_on items item = flat_map-append exchange_of items (item ∷ []) ∙ ap (λ (l : List Exchange). flat_map exchange_of items ++ l) (append-nil (exchange_of item))

pub lines_on : (items : List Item) (start mid now : At) (reply : Option Reply) → LinesTold items start mid → (one : LineTold reply mid now) → LinesTold (items ++ one.item ∷ []) start now
lines_on items start mid now reply so_far one = record {
  spoke = subst (λ (l : List Exchange). Spoke l start.world.host now.world.host start.world.random now.world.random) (sym (items_on items one.item))
      (spoke_on (flat_map exchange_of items) (exchange_of one.item) start.world.host mid.world.host now.world.host start.world.random mid.world.random now.world.random so_far.spoke one.spoke);
  follows = λ state at_start. subst (λ (l : List Exchange). Follows state l (λ left. IsStateOf left now.desk)) (sym (items_on items one.item))
      (follows_on (λ left. IsStateOf left now.desk) state (flat_map exchange_of items) (exchange_of one.item) (follows_as state (flat_map exchange_of items) (λ left is. one.follows left is) (so_far.follows state at_start)));
  reads = both_then (λ before left. (first : List (List ℕ)) × (lines_of (start.reader.pending ++ before) ≡ first ++ lines_of (mid.reader.pending ++ left)) × AnswerEach first items)
      (λ before left. (bytes : List ℕ) × (lines_of (mid.reader.pending ++ before) ≡ bytes ∷ lines_of (now.reader.pending ++ left)) × AnswersBytes bytes one.item)
      (λ before left. (first : List (List ℕ)) × (lines_of (start.reader.pending ++ before) ≡ first ++ lines_of (now.reader.pending ++ left)) × AnswerEach first (items ++ one.item ∷ []))
      start.world.input.left mid.world.input.left now.world.input.left so_far.reads one.reads
      (λ a b c first next. (
        first.0 ++ next.0 ∷ [],
        first.1 ∙ ap (λ (l : List (List ℕ)). first.0 ++ l) next.1 ∙ sym (append_assoc first.0 (next.0 ∷ []) (lines_of (now.reader.pending ++ c))),
        each_on first.0 items next.0 one.item first.2 next.2,
      ));
  settled = one.settled;
}

-- so with the output and the status
pub record Answered (start : At) (status : ℕ) (now : At) : Type 0 where
  pub items : List Item
  pub lines : LinesTold items start now
  pub said : WroteAll (flat_map item_text items) start.world.out now.world.out
  pub status_is : status ≡ status_of (map item_status items)
  pub log : now.world.log ≡ start.world.log

first_first : (s t u : ℕ) → first_of (first_of s t) u ≡ first_of s (first_of t u)
first_first zero t u = refl
first_first (suc s) t u = refl

fold_first : (s : ℕ) (xs : List ℕ) → fold first_of s xs ≡ first_of s (status_of xs)
fold_first zero [] = refl
fold_first (suc s) [] = refl
fold_first s (x ∷ xs) = fold_first (first_of s x) xs ∙ first_first s x (status_of xs) ∙ ap (λ (n : ℕ). first_of s n) (sym (fold_first x xs))

-- the status of statuses and more of them
pub status_on : (xs ys : List ℕ) → status_of (xs ++ ys) ≡ first_of (status_of xs) (status_of ys)
status_on xs ys = fold-append first_of 0 xs ys ∙ fold_first (status_of xs) ys

pub text_on : (items : List Item) (item : Item) → flat_map item_text (items ++ item ∷ []) ≡ flat_map item_text items ++ item_text item
text_on items item = flat_map-append item_text items (item ∷ []) ∙ ap (λ (l : List ℕ). flat_map item_text items ++ l) (append-nil (item_text item))

-- what the lines came to, where the host tells its answers
pub lines_answered : (start : At) (status : ℕ) (now : At) (before : List Answer) → start.world.host.given ≡ Some before → start.reader.stage ≡ stages.Open → Lines start status now → Answered start status now
lines_answered start status now before was ready (none_yet _ _ zero_is same) = subst (λ (n : At). Answered start status n) (sym same) (record {
  items = [];
  lines = record {
    spoke = spoke_none before start.world.host start.world.host start.world.random start.world.random was refl refl;
    follows = λ state is. is;
    reads = both_same (λ before left. (first : List (List ℕ)) × (lines_of (start.reader.pending ++ before) ≡ first ++ lines_of (start.reader.pending ++ left)) × AnswerEach first []) start.world.input.left start.world.input.left refl (λ bytes. ([], refl, tt));
    settled = inl ready;
  };
  said = wrote_nothing start.world.out start.world.out refl;
  status_is = zero_is;
  log = refl;
})
lines_answered start status now before was ready (one_more earlier _ reply mid _ so_far goes is) =
    let old = lines_answered start earlier mid before was ready so_far in
    let one = line_told reply mid now (old.lines.spoke.told.before ++ given_in (flat_map exchange_of old.items)) old.lines.spoke.told.now goes.answered in
    record {
      items = old.items ++ one.item ∷ [];
      lines = lines_on old.items start mid now reply old.lines one;
      said = subst (λ (l : List ℕ). WroteAll l start.world.out now.world.out) (sym (text_on old.items one.item))
          (wrote_both (flat_map item_text old.items) (item_text one.item) start.world.out mid.world.out now.world.out old.said (subst (λ (l : List ℕ). WroteAll l mid.world.out now.world.out) (sym one.text_is) goes.said));
      status_is = is ∙ ap (λ (n : ℕ). first_of n (spoken_status reply)) old.status_is ∙ ap (λ (n : ℕ). first_of (status_of (map item_status old.items)) n) (sym one.status_is)
          ∙ sym (status_on (map item_status old.items) (item_status one.item ∷ [])) ∙ ap (λ (l : List ℕ). status_of l) (sym (map-append item_status old.items (one.item ∷ [])));
      log = goes.answered.log ∙ old.log;
    }

-- the end of the input
pub input_ends : (last now : At) → IsSettled last → InputEnds last now → Both last.world.input.left now.world.input.left (λ before left. (lines_of (last.reader.pending ++ before) ≡ []) × (left ≡ []))
input_ends last now settled ends = by_reads ends.reads
  where
    none_left : (o p : Option (List ℕ)) → Both o p (λ b n. GoesOn (Ok nexts.End) (lines_of (last.reader.pending ++ b)) now.reader (lines_of (now.reader.pending ++ n))) → IfSome p (λ left. left ≡ []) → Both o p (λ before left. (lines_of (last.reader.pending ++ before) ≡ []) × (left ≡ []))
    none_left (Some b) (Some n) goes no_more = (goes.0, no_more)
    none_left None None goes no_more = tt
    none_left (Some b) None goes no_more = absurd goes
    none_left None (Some n) goes no_more = absurd goes

    still : (o p : Option (List ℕ)) → p ≡ o → last.reader.pending ≡ [] → IfSome o (λ left. left ≡ []) → Both o p (λ before left. (lines_of (last.reader.pending ++ before) ≡ []) × (left ≡ []))
    still None p same pending no_more = subst (λ (q : Option (List ℕ)). Both None q (λ before left. (lines_of (last.reader.pending ++ before) ≡ []) × (left ≡ []))) (sym same) tt
    still (Some bytes) p same pending no_more =
        subst (λ (q : Option (List ℕ)). Both (Some bytes) q (λ before left. (lines_of (last.reader.pending ++ before) ≡ []) × (left ≡ []))) (sym same)
        (ap (λ (l : List ℕ). lines_of (l ++ bytes)) pending ∙ ap (λ (l : List ℕ). lines_of l) no_more, no_more)

    by_reads : ReadsOn (Ok nexts.End) last.reader now.reader last.world.input now.world.input → Both last.world.input.left now.world.input.left (λ before left. (lines_of (last.reader.pending ++ before) ≡ []) × (left ≡ []))
    by_reads (went_on stage advances lines) = none_left last.world.input.left now.world.input.left lines advances.cuts.1.no_more
    by_reads (was_over stage again same to) = ⊎_elim (λ ready. absurd (stage ready)) (λ over. still last.world.input.left now.world.input.left (ap (λ (s : SourceState). s.left) to) over.0 over.1) settled
