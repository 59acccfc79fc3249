-- The script of a session: what each of its lines and closings came to, in order, and where it may stop.
use Rattle.std.specs.Prelude.{◌≡◌, ◌≢◌, ◌⊎◌, ◌↔◌, ℕ, suc, List, [], replicate, Option, Some, None, Result, Ok, Err}
use Rattle.pf_io.specs.Disk.{Name}
use Rattle.pf_io.specs.Host.{HostState, ReadsAsImage}
use Rattle.pf_io.specs.Streams.{SourceState}
use Rattle.pf_io.specs.Unchanged.{KeepsDisk}
use Rattle.pf_io.specs.Words.{WordsState}
use Rattle.pf_io.specs.declared.faults.Memory.{Memory}
use Rattle.pf_io.specs.declared.faults.StreamFault.{StreamFault}
use Rattle.pf_script.specs.BookTurns.{DeskBooked, EndBooked}
use Rattle.pf_script.specs.Desk.{DeskState, session_at}
use Rattle.pf_script.specs.DeskSteps.{DeskGoes, EndGoes}
use Rattle.pf_script.specs.LineReading.{ReaderState, Advances, LinesGoOn, AnswersAgain}
use Rattle.pf_script.specs.ScriptLines.{IsScriptLine}
use Rattle.pf_script.specs.Words.{SEATS}
use Rattle.pf_script.specs.declared.line.ScriptLine.{ScriptLine}
use Rattle.pf_script.specs.declared.next_line.NextLine.{NextLine}
use Rattle.pf_script.specs.declared.next_line.NextLine.TheVariants as nexts
use Rattle.pf_script.specs.declared.reply.Reply.{Reply}
use Rattle.pf_script.specs.declared.stage.Stage.TheVariants as stages
use Rattle.pf_tool.specs.World.{World, with_out}
use Rattle.pf_tool.specs.Happened.{Passed}
use Rattle.pf_tool.specs.Keys.{IsKeyOf, KeyRefused, key_events}
use Rattle.pf_tool.specs.Outcomes.{Falls}
use Rattle.pf_tool.specs.Replying.{spoken_text, spoken_status, first_of, closed_text, closed_status, end_text}
use Rattle.pf_tool.specs.Reports.{WroteAll, SinkFailed}
use Rattle.pf_tool.specs.declared.fault.Fault.{Fault}
use Rattle.pf_tool.specs.declared.fault.Fault.TheVariants as faults

-- where a script stands: its desk, the reader of its lines, and what is outside of it
pub record At : Type 0 where
  pub desk : DeskState
  pub reader : ReaderState
  pub world : World

-- The reader goes on in the input: to a line, to the end, or to a fault. Behind the end nothing is asked.
pub data ReadsOn (next : Result NextLine StreamFault) (old new : ReaderState) (from to : SourceState) : Type 0 where
  went_on : old.stage ≡ stages.Open → Advances next old new from to → LinesGoOn next old new from to → ReadsOn next old new from to
  was_over : old.stage ≢ stages.Open → AnswersAgain next old.stage → new ≡ old → to ≡ from → ReadsOn next old new from to

abbrev pub at : DeskState → ReaderState → World → At
at desk reader world = record { desk = desk; reader = reader; world = world }

-- nothing is done
pub record NothingAsked (old new : DeskState) (before after : HostState) (random random' : WordsState) : Type 0 where
  pub same_desk : new ≡ old
  pub same_host : after ≡ before
  pub same_random : random' ≡ random

-- What is replied to bytes: where they are a line, what the desk answers to it. Where there was no memory, the bytes were not read, or the line was not done.
abbrev pub BytesAnswered : List ℕ → Result (Option Reply) Memory → DeskState → DeskState → HostState → HostState → WordsState → WordsState → Type 0
BytesAnswered bytes (Ok None) old new before after random random' = ((line : ScriptLine) → ¬ (IsScriptLine bytes line)) × NothingAsked old new before after random random'
BytesAnswered bytes (Ok (Some reply)) old new before after random random' = (line : ScriptLine) × IsScriptLine bytes line × DeskGoes line (Ok reply) old new before after random random' × DeskBooked line (Ok reply) old new before after random random'
BytesAnswered bytes (Err none) old new before after random random' = NothingAsked old new before after random random' ⊎ ((line : ScriptLine) × IsScriptLine bytes line × DeskGoes line (Err none) old new before after random random')

abbrev pub Nothing : At → At → Type 0
Nothing old new = NothingAsked old.desk new.desk old.world.host new.world.host old.world.random new.world.random

abbrev pub Answers : List ℕ → Result (Option Reply) Memory → At → At → Type 0
Answers bytes reply old new = BytesAnswered bytes reply old.desk new.desk old.world.host new.world.host old.world.random new.world.random

-- So for what the reader came to; a line that is too long is none.
abbrev pub NextAnswered : NextLine → List ℕ → Option Reply → At → At → Type 0
NextAnswered nexts.Whole bytes reply old new = Answers bytes (Ok reply) old new
NextAnswered nexts.TooLong bytes reply old new = (reply ≡ None) × Nothing old new
NextAnswered nexts.End bytes reply old new = ⊥

-- the output and the log stay
pub record SaysNothing (old new : World) : Type 0 where
  pub out : new.out ≡ old.out
  pub log : new.log ≡ old.log

-- the reader goes on from where a script stands
abbrev pub Reads : Result NextLine StreamFault → At → At → Type 0
Reads next old new = ReadsOn next old.reader new.reader old.world.input new.world.input

-- a line is read and answered
pub record LineAnswered (reply : Option Reply) (old new : At) : Type 0 where
  pub next : NextLine
  pub reads : Reads (Ok next) old new
  pub answers : NextAnswered next new.reader.line reply old new
  pub log : new.world.log ≡ old.world.log
  pub image : ReadsAsImage new.world.host

-- and the output takes the reply
pub record LineGoes (reply : Option Reply) (old new : At) : Type 0 where
  pub answered : LineAnswered reply old new
  pub said : WroteAll (spoken_text reply) old.world.out new.world.out

-- the reader came to the end of the input
pub record InputEnds (old new : At) : Type 0 where
  pub reads : Reads (Ok nexts.End) old new
  pub nothing : Nothing old new
  pub says : SaysNothing old.world new.world

-- Some lines were answered, each before the next was read; the status is that of the first reply that is no `ok`.
pub data Lines (start : At) : ℕ → At → Type 0 where
  none_yet : (status : ℕ) (now : At) → status ≡ 0 → now ≡ start → Lines start status now
  one_more : (earlier status : ℕ) (reply : Option Reply) (mid now : At) → Lines start earlier mid → LineGoes reply mid now → status ≡ first_of earlier (spoken_status reply) → Lines start status now

-- all of them were
pub record AllLines (start : At) (status : ℕ) (now : At) : Type 0 where
  pub last : At
  pub lines : Lines start status last
  pub ends : InputEnds last now

-- Why a script stops at a line: the input failed, there was no memory, or the output failed in the reply.
pub data LineStops (fault : Fault) (old new : At) : Type 0 where
  not_read : (cause : StreamFault) → Reads (Err cause) old new → Nothing old new → SaysNothing old.world new.world → fault ≡ faults.Stream → LineStops fault old new
  not_answered : (none : Memory) → Reads (Ok nexts.Whole) old new → Answers new.reader.line (Err none) old new → SaysNothing old.world new.world → fault ≡ faults.Memory → LineStops fault old new
  not_said : (reply : Option Reply) → LineAnswered reply old new → spoken_text reply ≢ [] → SinkFailed (spoken_text reply) old.world.out new.world.out → fault ≡ faults.Stream → LineStops fault old new

-- what the next line comes to: its status, or that there is none
abbrev pub NextGoes : Result (Option ℕ) Fault → At → At → Type 0
NextGoes (Ok None) old new = InputEnds old new
NextGoes (Ok (Some status)) old new = (reply : Option Reply) × LineGoes reply old new × (status ≡ spoken_status reply)
NextGoes (Err fault) old new = LineStops fault old new

-- what the lines come to
abbrev pub LinesEnd : Result ℕ Fault → At → At → Type 0
LinesEnd (Ok status) start now = AllLines start status now
LinesEnd (Err fault) start now = (status : ℕ) × (last : At) × Lines start status last × LineStops fault last now

-- a seat is closed
pub record SeatClosed (seat : ℕ) (reply : Option Reply) (old new : At) : Type 0 where
  pub ends : EndGoes seat reply old.desk new.desk old.world.host new.world.host old.world.random new.world.random
  pub booked : EndBooked seat reply old.desk new.desk old.world.host new.world.host old.world.random new.world.random
  pub none : (reply ≡ None) ↔ (session_at old.desk seat ≡ None)
  pub others : (other : ℕ) → other ≢ seat → session_at new.desk other ≡ session_at old.desk other
  pub reader : new.reader ≡ old.reader
  pub input : new.world.input ≡ old.world.input
  pub log : new.world.log ≡ old.world.log
  pub image : ReadsAsImage new.world.host

-- The first seats were closed, in order, and the output took the replies to those that failed.
pub data Closings (start : At) : ℕ → ℕ → At → Type 0 where
  none_closed : (count status : ℕ) (now : At) → count ≡ 0 → status ≡ 0 → now ≡ start → Closings start count status now
  one_closed : (seat count earlier status : ℕ) (reply : Option Reply) (mid now : At) → Closings start seat earlier mid → SeatClosed seat reply mid now → WroteAll (closed_text reply) mid.world.out now.world.out
      → count ≡ suc seat → status ≡ first_of earlier (closed_status reply) → Closings start count status now

-- the output failed in the reply to a closing
pub record ClosingStops (seat : ℕ) (old new : At) : Type 0 where
  pub reply : Option Reply
  pub closed : SeatClosed seat reply old new
  pub some : closed_text reply ≢ []
  pub failed : SinkFailed (closed_text reply) old.world.out new.world.out

-- what a closing comes to, and what they all do
abbrev pub ClosingGoes : ℕ → Result ℕ StreamFault → At → At → Type 0
ClosingGoes seat (Ok status) old new = (reply : Option Reply) × SeatClosed seat reply old new × WroteAll (closed_text reply) old.world.out new.world.out × (status ≡ closed_status reply)
ClosingGoes seat (Err fault) old new = ClosingStops seat old new

abbrev pub ClosingsEnd : Result ℕ StreamFault → At → At → Type 0
ClosingsEnd (Ok status) start now = Closings start SEATS status now
ClosingsEnd (Err fault) start now = (seat : ℕ) × (more : ℕ) × (last : At) × Closings start seat more last × ClosingStops seat last now

-- the key was read
pub record KeyRead (key : Name) (user : List ℕ) (old new : World) : Type 0 where
  pub is_key : IsKeyOf key user
  pub passed : Passed (key_events key user) old new
  pub disk : KeepsDisk old.host new.host

-- a desk with eight empty seats, and a reader that has taken nothing
abbrev pub begins : List ℕ → World → At
begins user world = record {
  desk = record { key = user; seats = replicate SEATS None };
  reader = record { line = []; pending = []; reads = 0; stage = stages.Open };
  world = world;
}

-- the key was read, and all lines were answered
pub record ScriptRead (key : Name) (old : World) (status : ℕ) (now : At) : Type 0 where
  pub user : List ℕ
  pub begun : World
  pub read : KeyRead key user old begun
  pub all : AllLines (begins user begun) status now

-- A whole session: where it ended, with the status of its first reply that is no `ok`, or with a fault.
pub data ScriptGoes (key : Name) (ending : Result ℕ Fault) (old new : World) : Type 0 where
  no_key : (fault : Fault) → Falls (KeyRefused key) (λ _ _. KeepsDisk) fault old new → ending ≡ Err fault → ScriptGoes key ending old new
  no_reader : (user : List ℕ) → KeyRead key user old new → ending ≡ Err faults.Memory → ScriptGoes key ending old new
  no_line : (user : List ℕ) (begun : World) (status : ℕ) (last now : At) (fault : Fault) → KeyRead key user old begun → Lines (begins user begun) status last → LineStops fault last now → new ≡ now.world → ending ≡ Err fault
      → ScriptGoes key ending old new
  no_closing : (status seat more : ℕ) (read last now : At) → ScriptRead key old status read → Closings read seat more last → ClosingStops seat last now → new ≡ now.world → ending ≡ Err faults.Stream → ScriptGoes key ending old new
  no_end : (status more : ℕ) (read last : At) → ScriptRead key old status read → Closings read SEATS more last → SinkFailed end_text last.world.out new.out → new ≡ with_out last.world new.out → ending ≡ Err faults.Stream
      → ScriptGoes key ending old new
  done : (status more : ℕ) (read last : At) → ScriptRead key old status read → Closings read SEATS more last → WroteAll end_text last.world.out new.out → new ≡ with_out last.world new.out → ending ≡ Ok (first_of status more)
      → ScriptGoes key ending old new
