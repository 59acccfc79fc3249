-- The parts of a transcript: the lines that were answered, and the closings of some seats.
use Rattle.std.proofs.Common.{◌≡◌, ◌≢◌, ◌⊎◌, inl, inr, ℕ, Bool, true, false, List, [], ◌++◌, map, refl, sym, ◌∙◌, ap, subst, Option, Some, None}
use Rattle.std.specs.Prelude.{IfSome}
use Rattle.std.specs.List.{flat_map}
use Rattle.std.proofs.lemmas.List.{append-nil}
use Rattle.pf_io.specs.Answered.{WereTold}
use Rattle.pf_io.specs.Host.{Answer, HostState, Both}
use Rattle.pf_io.specs.Lines.{lines_of}
use Rattle.pf_io.specs.Streams.{SourceState, SinkState}
use Rattle.pf_io.specs.Words.{WordsState}
use Rattle.pf_io.proofs.Telling.{both_then}
use Rattle.pf_script.specs.Desk.{DeskState, IsStateOf}
use Rattle.pf_script.specs.Script.{ScriptState}
use Rattle.pf_script.specs.ScriptRuns.{Exchange, Follows}
use Rattle.pf_script.specs.Words.{SEATS}
use Rattle.pf_script.specs.declared.stage.Stage.TheVariants as stages
use Rattle.pf_tool.specs.World.{World}
use Rattle.pf_tool.specs.Reports.{WroteAll}
use Rattle.pf_tool.specs.Scripting.{At, begins, AllLines}
use Rattle.pf_tool.specs.Transcripts.{Item, Transcript, exchange_of, exchanges_of, item_text, item_status, status_of, FollowsScript, AnswerEach, AnswersFirst, IsStarved, PutOut}
use Rattle.pf_tool.proofs.ScriptTurns.{follows_as, closes_as}
use Rattle.pf_tool.proofs.ScriptSeen.{Spoke, spoke_on}
use Rattle.pf_tool.proofs.ScriptReading.{LinesTold, lines_answered, input_ends}
use Rattle.pf_tool.proofs.ScriptClosing.{SeatsTold}

-- all lines were answered, and the input is at its end
pub record AllTold (start : At) (status : ℕ) (now : At) : Type 0 where
  pub items : List Item
  pub spoke : Spoke (flat_map exchange_of items) start.world.host now.world.host start.world.random now.world.random
  pub follows : (state : ScriptState) → IsStateOf state start.desk → Follows state (flat_map exchange_of items) (λ left. IsStateOf left now.desk)
  pub reads : Both start.world.input.left now.world.input.left (λ before left. (AnswerEach (lines_of (start.reader.pending ++ before)) items) × (left ≡ []))
  pub said : WroteAll (flat_map item_text items) start.world.out now.world.out
  pub status_is : status ≡ status_of (map item_status items)
  pub log : now.world.log ≡ start.world.log

pub all_told : (start : At) (status : ℕ) (now : At) (before : List Answer) → start.world.host.given ≡ Some before → start.reader.stage ≡ stages.Open → AllLines start status now → AllTold start status now
all_told start status now before was ready all =
    let last = all.last in
    let told = lines_answered start status last before was ready all.lines in
    let xs = flat_map exchange_of told.items in
    record {
      items = told.items;
      spoke = subst (λ (h : HostState). Spoke xs start.world.host h start.world.random now.world.random) (sym all.ends.nothing.same_host)
          (subst (λ (r : WordsState). Spoke xs start.world.host last.world.host start.world.random r) (sym all.ends.nothing.same_random) told.lines.spoke);
      follows = λ state is. subst (λ (d : DeskState). Follows state xs (λ left. IsStateOf left d)) (sym all.ends.nothing.same_desk) (told.lines.follows state is);
      reads = both_then (λ before left. (first : List (List ℕ)) × (lines_of (start.reader.pending ++ before) ≡ first ++ lines_of (last.reader.pending ++ left)) × AnswerEach first told.items)
          (λ before left. (lines_of (last.reader.pending ++ before) ≡ []) × (left ≡ [])) (λ before left. (AnswerEach (lines_of (start.reader.pending ++ before)) told.items) × (left ≡ []))
          start.world.input.left last.world.input.left now.world.input.left told.lines.reads (input_ends last now told.lines.settled all.ends)
          (λ a b c one two. (subst (λ (l : List (List ℕ)). AnswerEach l told.items) (sym (one.1 ∙ ap (λ (l : List (List ℕ)). one.0 ++ l) two.0 ∙ append-nil one.0)) one.2, two.1));
      said = subst (λ (s : SinkState). WroteAll (flat_map item_text told.items) start.world.out s) (sym all.ends.says.out) told.said;
      status_is = told.status_is;
      log = all.ends.says.log ∙ told.log;
    }

-- What a transcript is of: the answers seen from the key to a moment, the script from empty seats, and the lines of the input.
pub record Part (user : List ℕ) (transcript : Transcript) (begun until : World) : Type 0 where
  pub spoke : Spoke (exchanges_of transcript) begun.host until.host begun.random until.random
  pub follows : (state : ScriptState) → IsStateOf state (begins user begun).desk → FollowsScript state transcript
  pub lines : IfSome begun.input.left (AnswersFirst transcript)

abbrev pub lines_only : List Item → Transcript
lines_only items = record { items = items; closed = []; ended = false }

pub both_first : {A : Type 0} (P : A → A → Type 0) (Q : A → Type 0) (o p : Option A) → Both o p P → ((a b : A) → P a b → Q a) → IfSome o Q
both_first P Q (Some a) (Some b) both go = go a b both
both_first P Q (Some a) None both go = absurd both
both_first P Q None p both go = tt

both_last : {A : Type 0} (P : A → A → Type 0) (Q : A → Type 0) (o p : Option A) → Both o p P → ((a b : A) → P a b → Q b) → IfSome p Q
both_last P Q (Some a) (Some b) both go = go a b both
both_last P Q None (Some b) both go = absurd both
both_last P Q o None both go = tt

pub never_more : (items : List Item) → ((lines_only items).closed ≢ []) ⊎ ((lines_only items).ended ≡ true) → ⊥
never_more items (inl some) = some refl
never_more items (inr is) = absurd (cc)

pub lines_part : (user : List ℕ) (begun : World) (items : List Item) (now : At) → LinesTold items (begins user begun) now → Part user (lines_only items) begun now.world
lines_part user begun items now told = record {
  spoke = subst (λ (l : List Exchange). Spoke l begun.host now.world.host begun.random now.world.random) (sym (append-nil (flat_map exchange_of items))) told.spoke;
  follows = λ state is. follows_as state (flat_map exchange_of items) (λ left is_left. record { count = 0; all = λ e. absurd (cc); closes = (refl, tt) }) (told.follows state is);
  lines = both_first (λ before left. (first : List (List ℕ)) × (lines_of before ≡ first ++ lines_of (now.reader.pending ++ left)) × AnswerEach first items) (AnswersFirst (lines_only items)) begun.input.left now.world.input.left told.reads
      (λ a b found. record { first = found.0; rest = lines_of (now.reader.pending ++ b); whole = found.1; each = found.2; all = λ more. absurd (never_more items more) });
}

-- the lines, and the closings of some seats
module _ (user : List ℕ) (begun : World) (status : ℕ) (read : At) (lines : AllTold (begins user begun) status read) where
  abbrev pub with_closings : List Exchange → Bool → Transcript
  with_closings closed ended = record { items = lines.items; closed = closed; ended = ended }

  pub closed_part : (count : ℕ) (closed : List Exchange) (ended : Bool) (now : At) → (ended ≡ true → count ≡ SEATS) → SeatsTold count 0 closed read now → Part user (with_closings closed ended) begun now.world
  closed_part count closed ended now all seats = record {
    spoke = spoke_on (flat_map exchange_of lines.items) closed begun.host read.world.host now.world.host begun.random read.world.random now.world.random lines.spoke seats.spoke;
    follows = λ state is. follows_as state (flat_map exchange_of lines.items)
        (λ left is_left. record { count = count; all = all; closes = closes_as count 0 left closed (λ last is_last. tt) (seats.follows left is_left) }) (lines.follows state is);
    lines = both_first (λ before left. (AnswerEach (lines_of before) lines.items) × (left ≡ [])) (AnswersFirst (with_closings closed ended)) begun.input.left read.world.input.left lines.reads
        (λ a b found. record { first = lines_of a; rest = []; whole = sym (append-nil (lines_of a)); each = found.0; all = λ more. refl });
  }

  pub ended_input : (closed : List Exchange) (count : ℕ) (now : At) → SeatsTold count 0 closed read now → IfSome now.world.input.left (λ left. left ≡ [])
  ended_input closed count now seats =
      subst (λ (s : SourceState). IfSome s.left (λ left. left ≡ [])) (sym seats.input)
      (both_last (λ before left. (AnswerEach (lines_of before) lines.items) × (left ≡ [])) (λ left. left ≡ []) begun.input.left read.world.input.left lines.reads (λ a b found. found.1))

-- What follows the key, to the end of a run.
pub record Behind (user : List ℕ) (transcript : Transcript) (begun new : World) (status : ℕ) : Type 0 where
  pub until : World
  pub part : Part user transcript begun until
  pub more : List Answer
  pub told : WereTold more until.host new.host
  pub to_the_end : ((more ≡ []) × (until.host ≡ new.host) × (until.random ≡ new.random)) ⊎ IsStarved begun new status
  pub input_read : transcript.ended ≡ true → IfSome new.input.left (λ left. left ≡ [])
  pub put : PutOut transcript begun new status
