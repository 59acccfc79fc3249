-- What is left for a reader falls with each line.
use Rattle.std.proofs.Common.{◌≡◌, ◌≢◌, ℕ, ◌+◌, ◌-◌, ◌*◌, ◌^◌, ◌<◌, ◌≤◌, List, [], ◌∷◌, ◌++◌, length, refl, ap, arith, Option, Ok, Err, length-append}
use Rattle.pf_io.specs.Streams.{SourceState}
use Rattle.pf_script.specs.Lines.{LINE_FEED}
use Rattle.pf_script.specs.LineReading.{ReaderState, IsBounded, BeginsWith, Fed, Last, AnswersAgain}
use Rattle.pf_script.specs.declared.next_line.NextLine.{NextLine}
use Rattle.pf_script.specs.declared.next_line.NextLine.TheVariants as nexts
use Rattle.pf_script.specs.declared.reply.Reply.{Reply}
use Rattle.pf_script.specs.declared.stage.Stage.{Stage}
use Rattle.pf_script.specs.declared.stage.Stage.TheVariants as stages
use Rattle.pf_tool.specs.Scripting.{At, ReadsOn, went_on, was_over, LineAnswered, NextAnswered}

-- reads, and bytes that were taken
abbrev pub left_of : ReaderState → ℕ
left_of reader = (2 ^ 40 - reader.reads) * 131074 + length reader.pending

shorter : (line text : List ℕ) (new : ReaderState) (to : SourceState) → BeginsWith line text new to → length new.pending < length text
shorter line text new to (Fed whole stage) = omega (arith, ap (λ (t : List ℕ). length t) whole, length-append line (LINE_FEED ∷ new.pending))
shorter [] text new to (Last whole some ended) = absurd (some refl)
shorter (byte ∷ line) text new to (Last whole some ended) = omega (arith, ap (λ (t : List ℕ). length t) whole, ap (λ (t : List ℕ). length t) ended.pending)

falls_by : (old new : ReaderState) (these : List ℕ) → IsBounded new → old.reads ≤ new.reads → (these ≢ [] → old.reads < new.reads) → length new.pending < length (old.pending ++ these) → left_of new < left_of old
falls_by old new [] bounded later rises less =
    let most = bounded.reads in
    omega (arith, later, less, most, length-append old.pending [])
falls_by old new (byte ∷ these) bounded later rises less =
    let most = bounded.reads in
    let few = bounded.pending in
    let risen : old.reads < new.reads = rises (λ e. absurd (cc)) in
    omega (arith, most, few, risen)

-- the reader is bounded after a line too, and less is left for it
pub goes_down : (reply : Option Reply) (old new : At) → LineAnswered reply old new → IsBounded old.reader → IsBounded new.reader × (left_of new.reader < left_of old.reader)
goes_down reply old new line bounded = by_next line.next line.reads line.answers
  where
    again : (next : NextLine) (stage : Stage) → stage ≢ stages.Open → AnswersAgain (Ok next) stage → next ≡ nexts.End
    again next stages.Open shut is = absurd (shut refl)
    again next stages.Ended shut is = cc
    again next stages.Failed shut is = let e : Ok next ≡ Err is.0 = is.1 in absurd (cc)

    by_next : (next : NextLine) → ReadsOn (Ok next) old.reader new.reader old.world.input new.world.input → NextAnswered next new.reader.line reply old new → IsBounded new.reader × (left_of new.reader < left_of old.reader)
    by_next nexts.Whole (went_on is_open advances lines) answers =
        let after = advances.bounded bounded in
        (after, falls_by old.reader new.reader advances.these after advances.later advances.by_reads (shorter new.reader.line (old.reader.pending ++ advances.these) new.reader new.world.input advances.cuts.2))
    by_next nexts.TooLong (went_on is_open advances lines) answers =
        let after = advances.bounded bounded in
        let cuts = advances.cuts in
        (after, falls_by old.reader new.reader advances.these after advances.later advances.by_reads (shorter cuts.0 (old.reader.pending ++ advances.these) new.reader new.world.input cuts.3))
    by_next nexts.End reads answers = absurd answers
    by_next nexts.Whole (was_over shut is same still) answers = let e : nexts.Whole ≡ nexts.End = again nexts.Whole old.reader.stage shut is in absurd (cc)
    by_next nexts.TooLong (was_over shut is same still) answers = let e : nexts.TooLong ≡ nexts.End = again nexts.TooLong old.reader.stage shut is in absurd (cc)
