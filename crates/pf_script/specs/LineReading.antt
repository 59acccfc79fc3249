-- What a reader of lines does with a source.
use Rattle.std.specs.Prelude.{⊤, ◌≡◌, ◌≢◌, ◌⊎◌, ℕ, ◌+◌, ◌^◌, ◌<◌, ◌≤◌, Bool, true, false, List, [], ◌∷◌, ◌++◌, length, take, drop, IfSome, OnOk, Result, Ok, Err}
use Rattle.pf_io.specs.Counts.{counted, counted_by}
use Rattle.pf_io.specs.Host.{Both}
use Rattle.pf_io.specs.Streams.{SourceState}
use Rattle.pf_io.specs.declared.faults.StreamFault.{StreamFault}
use Rattle.pf_script.specs.declared.stage.Stage.{Stage}
use Rattle.pf_script.specs.declared.stage.Stage.TheVariants as stages
use Rattle.pf_script.specs.declared.next_line.NextLine.{NextLine}
use Rattle.pf_script.specs.declared.next_line.NextLine.TheVariants as nexts
use Rattle.pf_script.specs.Lines.{LINE_FEED, HasNoFeed, lines_of}
use Rattle.pf_script.specs.ScriptLines.{LONGEST_LINE}

-- the most reads of a source, each of which took a byte
abbrev pub MOST_READS : ℕ
MOST_READS = 2 ^ 40

-- The line that was given last, the bytes that were taken from the source and not given, and how many reads took a byte.
pub record ReaderState : Type 0 where
  pub line : List ℕ
  pub pending : List ℕ
  pub reads : ℕ
  pub stage : Stage

-- these bytes were taken from a source, in one read or in several
pub record Took (these : List ℕ) (from to : SourceState) : Type 0 where
  pub at_least : counted_by (length these) from.taken ≤ to.taken
  pub at_most : to.taken ≤ from.taken + length these
  pub left : Both from.left to.left (λ before now. before ≡ these ++ now)

-- the source has no bytes left, where it tells them
abbrev pub HasNoMore : SourceState → Type 0
HasNoMore source = IfSome source.left (λ left. left ≡ [])

-- a read failed, and was counted once; or the budget was spent, and no read was made
abbrev pub FailCause : ReaderState → SourceState → SourceState → Type 0
FailCause new from to = (to.faults ≡ counted from.faults) ⊎ ((new.reads ≡ MOST_READS) × (to.faults ≡ from.faults))

-- these bytes came from one read
pub record FilledWith (these : List ℕ) (old new : ReaderState) (from to : SourceState) : Type 0 where
  pub pending : new.pending ≡ old.pending ++ these
  pub fits : length new.pending ≤ LONGEST_LINE + 1
  pub took : Took these from to
  pub faults : to.faults ≡ from.faults
  pub more : these ≢ [] → (new.stage ≡ old.stage) × (new.reads ≡ old.reads + 1) × (new.reads ≤ MOST_READS)
  pub ended : these ≡ [] → (new.stage ≡ stages.Ended) × (new.reads ≡ old.reads) × HasNoMore to

-- no byte came
pub record FailedFill (old new : ReaderState) (from to : SourceState) : Type 0 where
  pub stage : new.stage ≡ stages.Failed
  pub reads : new.reads ≡ old.reads
  pub took : Took [] from to
  pub cause : FailCause new from to

-- what one read came to, that answered how many bytes it took
abbrev pub Fills : Result ℕ StreamFault → ReaderState → ReaderState → SourceState → SourceState → Type 0
Fills (Ok n) old new from to = (these : List ℕ) × (length these ≡ n) × FilledWith these old new from to
Fills (Err fault) old new from to = FailedFill old new from to

-- A read puts its bytes behind those in front of a place.
pub record ReadBehind (end n : ℕ) (old new : List ℕ) (from to : SourceState) : Type 0 where
  pub inside : end + n ≤ length new
  pub front : take end new ≡ take end old
  pub took : Took (take n (drop end new)) from to
  pub faults : to.faults ≡ from.faults
  pub ended : n ≡ 0 → HasNoMore to

-- A failed read takes nothing, and is counted once.
pub record FailedRead (from to : SourceState) : Type 0 where
  pub took : Took [] from to
  pub faults : to.faults ≡ counted from.faults

abbrev pub ReadsBehind : Result ℕ StreamFault → ℕ → List ℕ → List ℕ → SourceState → SourceState → Type 0
ReadsBehind (Ok n) end old new from to = ReadBehind end n old new from to
ReadsBehind (Err fault) end old new from to = FailedRead from to

-- a full buffer is emptied, since its line is too long
pub data MakesRoom (long : Bool) (old new : ReaderState) (result : Bool) : Type 0 where
  HadRoom : length old.pending ≤ LONGEST_LINE → new ≡ old → result ≡ long → MakesRoom long old new result
  WasFull : length old.pending ≡ LONGEST_LINE + 1 → new ≡ record old { pending = [] } → result ≡ true → MakesRoom long old new result

-- what stands before a line feed is given, where nothing in front of it was dropped
abbrev pub CutsAt : ℕ → Bool → NextLine → ReaderState → ReaderState → Type 0
CutsAt at true result old new = (result ≡ nexts.TooLong) × (new ≡ record old { pending = drop (at + 1) old.pending })
CutsAt at false result old new = (result ≡ nexts.Whole) × (new ≡ record old { line = take at old.pending; pending = drop (at + 1) old.pending })

-- what is left at the end is given, where it is anything and nothing in front of it was dropped
pub data Finishes (long : Bool) (result : NextLine) (old new : ReaderState) : Type 0 where
  Dropped : long ≡ true → result ≡ nexts.TooLong → new ≡ record old { pending = [] } → Finishes long result old new
  Nothing : long ≡ false → old.pending ≡ [] → result ≡ nexts.End → new ≡ old → Finishes long result old new
  Given : long ≡ false → old.pending ≢ [] → result ≡ nexts.Whole → new ≡ record old { line = old.pending; pending = [] } → Finishes long result old new

-- nothing is left
pub record AtEnd (new : ReaderState) (to : SourceState) : Type 0 where
  pub pending : new.pending ≡ []
  pub stage : new.stage ≡ stages.Ended
  pub no_more : HasNoMore to

-- a text begins with this line: a line feed ends it, or the end of the source
pub data BeginsWith (line text : List ℕ) (new : ReaderState) (to : SourceState) : Type 0 where
  Fed : text ≡ line ++ LINE_FEED ∷ new.pending → new.stage ≡ stages.Open → BeginsWith line text new to
  Last : text ≡ line → line ≢ [] → AtEnd new to → BeginsWith line text new to

-- the first line of a text is given, or told to be too long; or the text is empty
abbrev pub Cuts : Result NextLine StreamFault → List ℕ → ReaderState → SourceState → Type 0
Cuts (Ok nexts.Whole) text new to = HasNoFeed new.line × (length new.line ≤ LONGEST_LINE) × BeginsWith new.line text new to
Cuts (Ok nexts.TooLong) text new to = (line : List ℕ) × HasNoFeed line × (LONGEST_LINE < length line) × BeginsWith line text new to
Cuts (Ok nexts.End) text new to = (text ≡ []) × AtEnd new to
Cuts (Err fault) text new to = new.stage ≡ stages.Failed

-- at Ok no fault was counted, and none is passed over
abbrev pub HasFailCause : Result NextLine StreamFault → ReaderState → SourceState → SourceState → Type 0
HasFailCause (Ok next) new from to = to.faults ≡ from.faults
HasFailCause (Err fault) new from to = FailCause new from to

-- Before the first line feed came, each read took a byte; they are at most one more than the bytes that came before it.
pub record IsPrompt (these : List ℕ) (old new : ReaderState) : Type 0 where
  pub early : List ℕ
  pub late : List ℕ
  pub whole : these ≡ early ++ late
  pub no_feed : HasNoFeed early
  pub reads : new.reads ≤ old.reads + length early + 1

-- a reader does not go beyond its budget, nor beyond its buffer
pub record IsBounded (reader : ReaderState) : Type 0 where
  pub reads : reader.reads ≤ MOST_READS
  pub pending : length reader.pending ≤ LONGEST_LINE + 1

-- These bytes were taken; with what was pending they begin with the next line.
pub record Advances (result : Result NextLine StreamFault) (old new : ReaderState) (from to : SourceState) : Type 0 where
  pub these : List ℕ
  pub took : Took these from to
  pub later : old.reads ≤ new.reads
  pub each_took : new.reads ≤ old.reads + length these
  pub by_reads : these ≢ [] → old.reads < new.reads
  pub bounded : IsBounded old → OnOk result (IsBounded new)
  pub prompt : IsPrompt these old new
  pub cause : HasFailCause result new from to
  pub cuts : Cuts result (old.pending ++ these) new to

-- what was and what is left of a list of lines
abbrev pub GoesOn : Result NextLine StreamFault → List (List ℕ) → ReaderState → List (List ℕ) → Type 0
GoesOn (Ok nexts.Whole) lines new rest = (length new.line ≤ LONGEST_LINE) × (lines ≡ new.line ∷ rest)
GoesOn (Ok nexts.TooLong) lines new rest = (line : List ℕ) × (LONGEST_LINE < length line) × (lines ≡ line ∷ rest)
GoesOn (Ok nexts.End) lines new rest = (lines ≡ []) × (rest ≡ [])
GoesOn (Err fault) lines new rest = ⊤

-- where the source tells its bytes left: the next of the lines is given, and the others are left
abbrev pub LinesGoOn : Result NextLine StreamFault → ReaderState → ReaderState → SourceState → SourceState → Type 0
LinesGoOn result old new from to = Both from.left to.left (λ before now. GoesOn result (lines_of (old.pending ++ before)) new (lines_of (new.pending ++ now)))

-- what a reader that has ended or failed answers again
abbrev pub AnswersAgain : Result NextLine StreamFault → Stage → Type 0
AnswersAgain result stages.Open = ⊤
AnswersAgain result stages.Ended = result ≡ Ok nexts.End
AnswersAgain result stages.Failed = (fault : StreamFault) × (result ≡ Err fault)
