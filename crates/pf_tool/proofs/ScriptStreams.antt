-- The streams along a script: none fails before it ends, and the bytes that the reader took.
use Rattle.std.proofs.Common.{◌≡◌, ◌≢◌, ◌⊎◌, ◌∙◌, inl, inr, ⊎_elim, ℕ, ◌+◌, ◌≤◌, List, ◌++◌, length, refl, sym, ap, subst, arith, Option, Some, None, Ok, Err}
use Rattle.std.specs.Prelude.{IfSome}
use Rattle.std.proofs.lemmas.List.{length-append}
use Rattle.pf_io.specs.Counts.{counted, counted_by}
use Rattle.pf_io.specs.Host.{Both}
use Rattle.pf_io.specs.Streams.{SourceState, SinkState}
use Rattle.pf_io.specs.declared.faults.StreamFault.{StreamFault}
use Rattle.pf_io.proofs.Telling.{both_same, both_then, both_weaker}
use Rattle.pf_script.specs.LineReading.{ReaderState, Took, BeginsWith, Fed, Last, AnswersAgain, MOST_READS}
use Rattle.pf_script.specs.declared.next_line.NextLine.{NextLine}
use Rattle.pf_script.specs.declared.next_line.NextLine.TheVariants as nexts
use Rattle.pf_script.specs.declared.reply.Reply.{Reply}
use Rattle.pf_script.specs.declared.stage.Stage.{Stage}
use Rattle.pf_script.specs.declared.stage.Stage.TheVariants as stages
use Rattle.pf_tool.specs.World.{World}
use Rattle.pf_tool.specs.Scripting.{At, Reads, went_on, was_over, LineGoes, Lines, none_yet, one_more, AllLines, SeatClosed, Closings, none_closed, one_closed}

-- the input has a byte less for each read
abbrev pub IsShorter : At → At → Type 0
IsShorter old new = Both old.world.input.left new.world.input.left (λ before now. new.reader.reads + length now ≤ old.reader.reads + length before)

-- nothing is read
not_shorter : (old new : At) → new.reader.reads ≡ old.reader.reads → new.world.input.left ≡ old.world.input.left → IsShorter old new
not_shorter old new reads left = both_same (λ before now. new.reader.reads + length now ≤ old.reader.reads + length before) old.world.input.left new.world.input.left left (λ bytes. omega (arith, reads))

-- no stream failed, and these many bytes were taken at least, one for each read
pub record Flows (old new : At) : Type 0 where
  pub input : new.world.input.faults ≡ old.world.input.faults
  pub out : new.world.out.faults ≡ old.world.out.faults
  pub log : new.world.log ≡ old.world.log
  pub bytes : ℕ
  pub taken : counted_by bytes old.world.input.taken ≤ new.world.input.taken
  pub each : new.reader.reads ≤ old.reader.reads + bytes
  pub shorter : IsShorter old new

pub flows_none : (place : At) → Flows place place
flows_none place = record { input = refl; out = refl; log = refl; bytes = 0; taken = omega arith; each = omega arith; shorter = not_shorter place place refl refl }

pub flows_then : (a b c : At) → Flows a b → Flows b c → Flows a c
flows_then a b c one two = record {
  input = two.input ∙ one.input;
  out = two.out ∙ one.out;
  log = two.log ∙ one.log;
  bytes = one.bytes + two.bytes;
  taken = let first = one.taken in let second = two.taken in omega (arith, first, second);
  each = let first = one.each in let second = two.each in omega (arith, first, second);
  shorter = both_then (λ x y. b.reader.reads + length y ≤ a.reader.reads + length x) (λ y z. c.reader.reads + length z ≤ b.reader.reads + length y) (λ x z. c.reader.reads + length z ≤ a.reader.reads + length x)
      a.world.input.left b.world.input.left c.world.input.left one.shorter two.shorter (λ x y z first second. omega (arith, first, second));
}

-- a read took these bytes
shorter_by : (old new : At) (these : List ℕ) → Took these old.world.input new.world.input → new.reader.reads ≤ old.reader.reads + length these → IsShorter old new
shorter_by old new these took each =
    both_weaker (λ before now. before ≡ these ++ now) (λ before now. new.reader.reads + length now ≤ old.reader.reads + length before) old.world.input.left new.world.input.left took.left
    (λ before now whole. let size : length before ≡ length these + length now = ap (λ (l : List ℕ). length l) whole ∙ length-append these now in omega (arith, each, size))

-- what a read that did not fail takes
pub flows_read : (next : NextLine) (old new : At) → Reads (Ok next) old new → new.world.out.faults ≡ old.world.out.faults → new.world.log ≡ old.world.log → Flows old new
flows_read next old new (went_on is_open advances lines) out log = record { input = advances.cause; out = out; log = log; bytes = length advances.these; taken = advances.took.at_least; each = advances.each_took; shorter = shorter_by old new advances.these advances.took advances.each_took }
flows_read next old new (was_over shut is same still) out log = record {
  input = ap (λ (s : SourceState). s.faults) still;
  out = out;
  log = log;
  bytes = 0;
  taken = let e : new.world.input.taken ≡ old.world.input.taken = ap (λ (s : SourceState). s.taken) still in omega (arith, e);
  each = let e : new.reader.reads ≡ old.reader.reads = ap (λ (r : ReaderState). r.reads) same in omega (arith, e);
  shorter = not_shorter old new (ap (λ (r : ReaderState). r.reads) same) (ap (λ (s : SourceState). s.left) still);
}

pub flows_line : (reply : Option Reply) (old new : At) → LineGoes reply old new → Flows old new
flows_line reply old new line = flows_read line.answered.next old new line.answered.reads line.said.calm line.answered.log

pub flows_lines : (start : At) (status : ℕ) (now : At) → Lines start status now → Flows start now
flows_lines start _ _ (none_yet status now none same) = subst (λ (a : At). Flows start a) (sym same) (flows_none start)
flows_lines start _ _ (one_more earlier status reply mid now lines goes is) = flows_then start mid now (flows_lines start earlier mid lines) (flows_line reply mid now goes)

pub flows_all : (start : At) (status : ℕ) (now : At) → AllLines start status now → Flows start now
flows_all start status now all =
    flows_then start all.last now (flows_lines start status all.last all.lines) (flows_read nexts.End all.last now all.ends.reads (ap (λ (s : SinkState). s.faults) all.ends.says.out) all.ends.says.log)

pub flows_closed : (seat : ℕ) (reply : Option Reply) (old new : At) → SeatClosed seat reply old new → new.world.out.faults ≡ old.world.out.faults → Flows old new
flows_closed seat reply old new closed out = record {
  input = ap (λ (s : SourceState). s.faults) closed.input;
  out = out;
  log = closed.log;
  bytes = 0;
  taken = let e : new.world.input.taken ≡ old.world.input.taken = ap (λ (s : SourceState). s.taken) closed.input in omega (arith, e);
  each = let e : new.reader.reads ≡ old.reader.reads = ap (λ (r : ReaderState). r.reads) closed.reader in omega (arith, e);
  shorter = not_shorter old new (ap (λ (r : ReaderState). r.reads) closed.reader) (ap (λ (s : SourceState). s.left) closed.input);
}

pub flows_closings : (start : At) (count status : ℕ) (now : At) → Closings start count status now → Flows start now
flows_closings start _ _ _ (none_closed count status now nil none same) = subst (λ (a : At). Flows start a) (sym same) (flows_none start)
flows_closings start _ _ _ (one_closed seat count earlier status reply mid now closings closed wrote next is) = flows_then start mid now (flows_closings start seat earlier mid closings) (flows_closed seat reply mid now closed wrote.calm)

-- a reader that was read to a line or to the end did not fail
begins_sound : (line text : List ℕ) (new : ReaderState) (to : SourceState) → BeginsWith line text new to → new.stage ≢ stages.Failed
begins_sound line text new to (Fed whole stage) = λ e. absurd (cc)
begins_sound line text new to (Last whole some ended) = λ e. let stage = ended.stage in absurd (cc)

pub read_sound : (next : NextLine) (old new : At) → Reads (Ok next) old new → old.reader.stage ≢ stages.Failed → new.reader.stage ≢ stages.Failed
read_sound nexts.Whole old new (went_on is_open advances lines) sound = begins_sound new.reader.line (old.reader.pending ++ advances.these) new.reader new.world.input advances.cuts.2
read_sound nexts.TooLong old new (went_on is_open advances lines) sound = let cuts = advances.cuts in begins_sound cuts.0 (old.reader.pending ++ advances.these) new.reader new.world.input cuts.3
read_sound nexts.End old new (went_on is_open advances lines) sound = λ e. let stage = advances.cuts.1.stage in absurd (cc)
read_sound next old new (was_over shut is same still) sound = subst (λ (r : ReaderState). r.stage ≢ stages.Failed) (sym same) sound

pub lines_sound : (start : At) (status : ℕ) (now : At) → Lines start status now → start.reader.stage ≢ stages.Failed → now.reader.stage ≢ stages.Failed
lines_sound start _ _ (none_yet status now none same) sound = subst (λ (a : At). a.reader.stage ≢ stages.Failed) (sym same) sound
lines_sound start _ _ (one_more earlier status reply mid now lines goes is) sound = read_sound goes.answered.next mid now goes.answered.reads (lines_sound start earlier mid lines sound)

-- why the input failed: a fault was counted, or the budget was spent, a byte for each read
abbrev pub InputFails : World → World → Type 0
InputFails old new = (new.input.faults ≡ counted old.input.faults) ⊎ ((counted_by MOST_READS old.input.taken ≤ new.input.taken) × IfSome old.input.left (λ input. MOST_READS ≤ length input))

failed_again : (fault : StreamFault) (stage : Stage) → stage ≢ stages.Open → AnswersAgain (Err fault) stage → stage ≡ stages.Failed
failed_again fault stages.Open shut is = absurd (shut refl)
failed_again fault stages.Ended shut is = absurd (cc)
failed_again fault stages.Failed shut is = refl

both_left : {A : Type 0} (P : A → A → Type 0) (Q : A → Type 0) (o p : Option A) → Both o p P → ((a b : A) → P a b → Q a) → IfSome o Q
both_left P Q (Some a) (Some b) holds go = go a b holds
both_left P Q (Some a) None holds go = absurd holds
both_left P Q None p holds go = tt

-- the budget is spent
input_spent : (start old new : At) → start.reader.reads ≡ 0 → Flows start old → (these : List ℕ) → Took these old.world.input new.world.input → new.reader.reads ≤ old.reader.reads + length these → new.reader.reads ≡ MOST_READS
    → (counted_by MOST_READS start.world.input.taken ≤ new.world.input.taken) × IfSome start.world.input.left (λ input. MOST_READS ≤ length input)
input_spent start old new fresh flows these took each all =
    let first = flows.taken in
    let second = took.at_least in
    let before = flows.each in (
      omega (arith, fresh, first, second, before, each, all),
      both_left (λ a c. new.reader.reads + length c ≤ start.reader.reads + length a) (λ a. MOST_READS ≤ length a) start.world.input.left new.world.input.left
          (both_then (λ a b. old.reader.reads + length b ≤ start.reader.reads + length a) (λ b c. new.reader.reads + length c ≤ old.reader.reads + length b) (λ a c. new.reader.reads + length c ≤ start.reader.reads + length a)
          start.world.input.left old.world.input.left new.world.input.left flows.shorter (shorter_by old new these took each) (λ a b c one two. omega (arith, one, two)))
          (λ a c less. omega (arith, less, fresh, all)),
    )

pub input_fails : (start old new : At) (fault : StreamFault) → start.reader.reads ≡ 0 → Flows start old → old.reader.stage ≢ stages.Failed → Reads (Err fault) old new → InputFails start.world new.world
input_fails start old new fault fresh flows sound (went_on is_open advances lines) =
    ⊎_elim (λ risen. inl (risen ∙ ap counted flows.input)) (λ spent. inr (input_spent start old new fresh flows advances.these advances.took advances.each_took spent.0)) advances.cause
input_fails start old new fault fresh flows sound (was_over shut is same still) = absurd (sound (failed_again fault old.reader.stage shut is))
