-- What a session does to an honest disk, under a book with which it may begin.
use Rattle.std.specs.Prelude.{◌≡◌, ◌⊎◌, ℕ, true, false, List, [], ◌∷◌, ◌++◌, length, map, Some, IfSome, IsSome, Ok, Err}
use Rattle.std.specs.List.{flat_map}
use Rattle.pf_io.specs.Counts.{counted}
use Rattle.pf_io.specs.Disk.{Name, Files, reading}
use Rattle.pf_io.specs.Host.{OnHonest}
use Rattle.pf_io.specs.Lines.{lines_of}
use Rattle.pf_io.specs.Moments.{Honest, LeavesOnly, Ran}
use Rattle.pf_script.specs.Book.{Book, Seal, Agrees}
use Rattle.pf_script.specs.BookActs.{Act, booked_all, FitsDuring}
use Rattle.pf_script.specs.BookDebts.{Unchanged, AreApart, LeavesOthers, KeepsOthers, DidAll}
use Rattle.pf_script.specs.BookRuns.{AreSeated, FollowsUnder}
use Rattle.pf_script.specs.BookSeats.{SparesSeats}
use Rattle.pf_script.specs.DeskSteps.{IsChange, AreFlushes, SealsOnly}
use Rattle.pf_script.specs.FileRuns.{FollowsOver, TakesWords}
use Rattle.pf_script.specs.Script.{OwnSeat, ScriptState, Own, seat_at, seat_of_line}
use Rattle.pf_script.specs.ScriptLines.{IsScriptLine}
use Rattle.pf_script.specs.ScriptRuns.{closings}
use Rattle.pf_script.specs.Words.{SEATS}
use Rattle.pf_script.specs.declared.line.ScriptLine.{ScriptLine}
use Rattle.pf_tool.specs.Endings.{Ending}
use Rattle.pf_tool.specs.Keys.{KeyOver}
use Rattle.pf_tool.specs.Transcripts.{Transcript, Item, exchange_of, exchanges_of, empty_seats, AnswersFirst, IsStarved, PutOut, SeenUntil}
use Rattle.pf_tool.specs.World.{World}

-- The seats that the lines leave are closed in order: the first of them, and all where `end` followed.
pub record AreClosings (transcript : Transcript) (state : ScriptState) : Type 0 where
  pub rest : List ScriptLine
  pub in_order : closings SEATS 0 state ≡ map (λ exchange. exchange.line) transcript.closed ++ rest
  pub all : transcript.ended ≡ true → rest ≡ []

-- There was no memory for this change of a seat: accepted flushes of its name were done, which sealed its content, and the seats on other names stay.
pub record StarvedUnder (line : ScriptLine) (book : Book) (state : ScriptState) (acts : List Act) (seats left : List Seal) : Type 0 where
  pub k : ℕ
  pub own : OwnSeat
  pub is_seat : seat_of_line line ≡ Some k
  pub is_own : seat_at state k ≡ Own own
  pub flushes : AreFlushes own.name acts
  pub spares : SparesSeats acts seats left
  pub whole : own.broken ≡ false
  pub seals : IsSome (book own.name) → SealsOnly line own.content acts

-- Behind the last exchange nothing is done, or there was no memory for a line.
pub record StopsUnder (starved : ScriptLine → Type 0) (book : Book) (state : ScriptState) (old new : Honest) : Type 0 where
  pub acts : List Act
  pub seats : List Seal
  pub left : List Seal
  pub began : AreSeated book state seats
  pub agreed : Agrees book seats old.now
  pub did : DidAll book seats acts left old new
  pub leaves : LeavesOnly (FitsDuring book acts) old new
  pub spares : Ran (LeavesOthers (AreApart acts)) (KeepsOthers (AreApart acts)) old new
  pub agrees : Agrees (booked_all acts book) left new.now
  pub none : ((acts ≡ []) × AreSeated book state left) ⊎ ((line : ScriptLine) × starved line × StarvedUnder line book state acts seats left)

-- The line is the next one of the input behind those that the items answer.
pub record IsNextLine (input : List ℕ) (items : List Item) (line : ScriptLine) : Type 0 where
  pub first : List (List ℕ)
  pub bytes : List ℕ
  pub rest : List (List ℕ)
  pub whole : lines_of input ≡ first ++ bytes ∷ rest
  pub as_many : length first ≡ length items
  pub is_line : IsScriptLine bytes line

-- There was no memory for this line, behind which nothing was answered.
pub record StarvesAt (transcript : Transcript) (old new : World) (status : ℕ) (line : ScriptLine) : Type 0 where
  pub starved : IsStarved old new status
  pub change : IsChange line
  pub none_closed : transcript.closed ≡ []
  pub next : IfSome old.input.left (λ input. IsNextLine input transcript.items line)

-- The key is read, by which nothing changes; then the lines follow each other, and then the closings.
pub record RunsUnder (user : List ℕ) (transcript : Transcript) (starved : ScriptLine → Type 0) (book : Book) (old new : Honest) : Type 0 where
  pub start : Honest
  pub reads : Unchanged old start
  pub agrees : Agrees book [] start.now
  pub follows : FollowsUnder book (empty_seats user []) (flat_map exchange_of transcript.items) start
      (λ later state mid. AreClosings transcript state × FollowsUnder later state transcript.closed mid (λ last after end. StopsUnder starved last after end new))

-- Why no script came: files give no key, a call for it failed, or there was no memory for its lines.
abbrev pub NoScript : Name → Files → World → World → ℕ → Type 0
NoScript key files old new status = ((ending : Ending) × KeyOver files key (Err ending)) ⊎ (new.host.faults ≡ counted old.host.faults) ⊎ IsStarved old new status

-- No script came, nothing of the input was read, and nothing changes on the disk. Or the files gave a key, and a transcript whose text the output took, whose lines are the first of the input and in
-- which was seen what was seen in this run, ran under the book.
pub data KeepsScript (key : Name) (old new : World) (status : ℕ) (book : Book) (a b : Honest) : Type 0 where
  no_script : NoScript key (reading a.now) old new status → new.input ≡ old.input → Unchanged a b → KeepsScript key old new status book a b
  script : (user : List ℕ) (transcript : Transcript) → KeyOver (reading a.now) key (Ok user) → SeenUntil key user (exchanges_of transcript) old new status → IfSome old.input.left (AnswersFirst transcript) → PutOut transcript old new status
      → RunsUnder user transcript (StarvesAt transcript old new status) book a b → KeepsScript key old new status book a b

-- what the run leaves of files
abbrev pub FilesAre : Files → World → Type 0
FilesAre files new = OnHonest new.host (λ now. (name : Name) → now name ≡ files name)

-- A run over files in which nothing fails: each line of the input is answered as the files then give, with the random words in order, and then the seats are closed, as long as each file that is
-- opened reopens under the key. Of its text the output took all, with the status of its replies; where there was no memory, a front.
pub record GivesScript (user : List ℕ) (files : Files) (old new : World) (status : ℕ) : Type 0 where
  pub transcript : Transcript
  pub lines : IfSome old.input.left (AnswersFirst transcript)
  pub words : IfSome old.random.left (TakesWords (exchanges_of transcript))
  pub put : PutOut transcript old new status
  pub runs : FollowsOver (empty_seats user []) (flat_map exchange_of transcript.items) files
      (λ state mid. AreClosings transcript state × FollowsOver state transcript.closed mid (λ after left. FilesAre left new ⊎ IsStarved old new status))
