-- What a run of the program comes to, by what its words ask for.
use Rattle.std.specs.Prelude.{⊤, ◌≡◌, ◌≢◌, ◌⊎◌, ℕ, suc, ◌<◌, ◌≤◌, List, [], length, Contains, Option, Some, None, IfSome, IsSomeAnd, Result, Ok, Err}
use Rattle.std.specs.List.{concat}
use Rattle.node_layout.specs.Metadata.{MOST_SIZE}
use Rattle.pf_io.specs.Counts.{counted, counted_by, counted_times}
use Rattle.pf_io.specs.Disk.{Name, Files, Disk, Image, IsImageAt}
use Rattle.pf_io.specs.Host.{Answer, HostState, Both, OnDisk, files_of}
use Rattle.pf_io.specs.Lines.{lines_of}
use Rattle.pf_io.specs.Moments.{Ran}
use Rattle.pf_io.specs.Names.{side_of}
use Rattle.pf_io.specs.Streams.{TakesFront}
use Rattle.pf_io.specs.Answered.{WereTold}
use Rattle.pf_io.specs.Unchanged.{KeepsDisk}
use Rattle.pf_session.specs.Aside.{Apart}
use Rattle.pf_script.specs.Book.{Book}
use Rattle.pf_script.specs.BookDebts.{LeavesOthers, KeepsOthers}
use Rattle.pf_script.specs.BookLaws.{StartsWith}
use Rattle.pf_script.specs.LineReading.{MOST_READS}
use Rattle.pf_script.specs.Script.{name_of_line}
use Rattle.pf_script.specs.ScriptLines.{IsScriptLine}
use Rattle.pf_script.specs.declared.line.ScriptLine.{ScriptLine}
use Rattle.pf_tool.specs.World.{World, with_log}
use Rattle.pf_tool.specs.Events.{Event, answers_in}
use Rattle.pf_tool.specs.Endings.{Ending, Done, Refused, TooLarge, MayStarve, Stop, AtEnd, Starved, ending_line, ending_status, memory_line, no_command_line}
use Rattle.pf_tool.specs.Outcomes.{Outcome, Concludes, SaysScript}
use Rattle.pf_tool.specs.declared.fault.Fault.{Fault}
use Rattle.pf_tool.specs.Reports.{WroteAll, Reported, Reports}
use Rattle.pf_tool.specs.Requests.{Request, Decrypt, Encrypt, Session, Manifest, Sums, Measure}
use Rattle.pf_tool.specs.SideFiles.{IsNewFile}
use Rattle.pf_tool.specs.Decrypting.{DecryptLeads, DecryptOver}
use Rattle.pf_tool.specs.Encrypting.{EncryptRefused, EncryptGoes, EncryptOver, IsVersion}
use Rattle.pf_tool.specs.Keys.{KeyRefused, KeyOver}
use Rattle.pf_tool.specs.Scripting.{ScriptGoes}
use Rattle.pf_tool.specs.Transcripts.{TookScript}
use Rattle.pf_tool.specs.BookScripts.{KeepsScript, GivesScript}
use Rattle.pf_tool.specs.SealedContents.{GavePieces, GaveSealed}
use Rattle.pf_tool.specs.Contents.{TookContent}
use Rattle.pf_tool.specs.Manifests.{ManifestLeads, ManifestLeaves, ManifestOver, GaveRendered, IsRendered}
use Rattle.pf_tool.specs.Summing.{SumsLead, SumsLeave, SumsOver, PutSums, IsSummed}
use Rattle.pf_tool.specs.Measuring.{MeasureLeads, MeasureOver, PutMeasurement}

-- all events of a run with this ending; of `encrypt`, of one that makes nothing; of `session`, of one without a key
abbrev pub Leads : Request → List Event → Ending → Type 0
Leads (Decrypt key input) events ending = DecryptLeads key input events ending
Leads (Encrypt key input output) events ending = EncryptRefused key input output events ending
Leads (Session key) events ending = KeyRefused key events ending
Leads (Manifest values template output) events ending = ManifestLeads values template output events ending
Leads (Sums manifest output) events ending = SumsLead manifest output events ending
Leads (Measure layout) events ending = MeasureLeads layout events ending

-- what is left on the host after what was tried
abbrev pub LeavesHost : Request → List Event → Stop → HostState → HostState → Type 0
LeavesHost (Decrypt key input) tried stop old new = KeepsDisk old new
LeavesHost (Encrypt key input output) tried stop old new = KeepsDisk old new
LeavesHost (Session key) tried stop old new = KeepsDisk old new
LeavesHost (Manifest values template output) tried stop old new = ManifestLeaves values template output tried stop old new
LeavesHost (Sums manifest output) tried stop old new = SumsLeave manifest output tried stop old new
LeavesHost (Measure layout) tried stop old new = KeepsDisk old new

-- the pieces for the output, and the ending, that files give; of `session` where they give no key
abbrev pub Over : Request → Files → List (List ℕ) → Ending → Type 0
Over (Decrypt key input) files pieces ending = DecryptOver key input files pieces ending
Over (Encrypt key input output) files pieces ending = (pieces ≡ []) × EncryptOver key input output files ending
Over (Session key) files pieces ending = (pieces ≡ []) × KeyOver files key (Err ending)
Over (Manifest values template output) files pieces ending = ManifestOver values template output files pieces ending
Over (Sums manifest output) files pieces ending = SumsOver manifest output files pieces ending
Over (Measure layout) files pieces ending = MeasureOver layout files pieces ending

-- The whole of a run by its events: where it stopped, what had happened until then, and what it said.
pub record RunsByEvents (request : Request) (old new : World) (status : ℕ) : Type 0 where
  pub stop : Stop
  pub outcome : Outcome (Leads request) (LeavesHost request) stop old (with_log new old.log)
  pub reports : Reports stop old.log new.log status

-- the whole of a run of `encrypt`: the calls of its session, how they ended, and what it said
pub record RunsSealing (key input output : Name) (old new : World) (status : ℕ) : Type 0 where
  pub ended : Result (Unit {0}) Fault
  pub goes : EncryptGoes key input output ended old (with_log new old.log)
  pub concludes : Concludes ended old.log new.log status

-- the whole of a run of `session`: what its script came to, how it ended, and what it said; where its script ended, the log takes nothing
pub record RunsScript (key : Name) (old new : World) (status : ℕ) : Type 0 where
  pub ending : Result ℕ Fault
  pub goes : ScriptGoes key ending old (with_log new old.log)
  pub says : SaysScript ending old.log new.log status

abbrev pub Runs : Request → World → World → ℕ → Type 0
Runs (Decrypt key input) old new status = RunsByEvents (Decrypt key input) old new status
Runs (Encrypt key input output) old new status = RunsSealing key input output old new status
Runs (Session key) old new status = RunsScript key old new status
Runs (Manifest values template output) old new status = RunsByEvents (Manifest values template output) old new status
Runs (Sums manifest output) old new status = RunsByEvents (Sums manifest output) old new status
Runs (Measure layout) old new status = RunsByEvents (Measure layout) old new status

-- words that are no command are named so, and nothing else is done
pub record Usage (old new : World) (status : ℕ) : Type 0 where
  pub said : Reported no_command_line 2 old.log new.log status
  pub untouched : with_log new old.log ≡ old

-- no count of faults rose
pub record Calm (old new : World) : Type 0 where
  pub host : new.host.faults ≡ old.host.faults
  pub out : new.out.faults ≡ old.out.faults
  pub log : new.log.faults ≡ old.log.faults
  pub random : new.random.faults ≡ old.random.faults

-- which count rose, and by one
pub record CausedOnce (old new : World) (status : ℕ) : Type 0 where
  pub host_fault : status ≡ 4 → new.host.faults ≡ counted old.host.faults
  pub random_fault : status ≡ 6 → new.random.faults ≡ counted old.random.faults
  pub stream_fault : status ≡ 7 → (new.out.faults ≡ counted old.out.faults) ⊎ (new.log.faults ≡ counted old.log.faults)
  pub calm : (status ≤ 3) ⊎ (status ≡ 5) → Calm old new
  pub most : status ≤ 7

-- a count rose, once or more
abbrev pub Rose : ℕ → ℕ → Type 0
Rose before now = (times : ℕ) × (now ≡ counted_times (suc times) before)

-- So in a session, in which a fault of the host or of the random words is replied and the run goes on. A fault of a stream ends it; one of the input comes too where the budget of
-- reads is spent, each of which took a byte.
pub record CausedInScript (old new : World) (status : ℕ) : Type 0 where
  pub host_fault : status ≡ 4 → Rose old.host.faults new.host.faults
  pub random_fault : status ≡ 6 → Rose old.random.faults new.random.faults
  pub stream_fault : status ≡ 7 → (new.out.faults ≡ counted old.out.faults) ⊎ ((new.log.faults ≡ counted old.log.faults) ⊎ ((new.input.faults ≡ counted old.input.faults) ⊎ ((counted_by MOST_READS old.input.taken ≤ new.input.taken) × IfSome old.input.left (λ input. MOST_READS ≤ length input))))
  pub no_stream_fault : status ≢ 7 → (new.input.faults ≡ old.input.faults) × (new.out.faults ≡ old.out.faults) × (new.log.faults ≡ old.log.faults)
  pub done : status ≡ 0 → Calm old new
  pub most : status ≤ 7
  pub no_usage : status ≢ 2

abbrev pub Causes : Request → World → World → ℕ → Type 0
Causes (Decrypt key input) old new status = CausedOnce old new status
Causes (Encrypt key input output) old new status = CausedOnce old new status
Causes (Session key) old new status = CausedInScript old new status
Causes (Manifest values template output) old new status = CausedOnce old new status
Causes (Sums manifest output) old new status = CausedOnce old new status
Causes (Measure layout) old new status = CausedOnce old new status

-- where the words alone lead to an ending, it is reported, and nothing else is done
abbrev pub ByWords : Request → World → World → ℕ → Type 0
ByWords request old new status = (ending : Ending) → Leads request [] ending → Reports (AtEnd ending) old.log new.log status × (with_log new old.log ≡ old)

-- What was put out of a protected file is of one sealed version, where nothing that was given is forged. What was sealed has the
-- bytes given as content. What was put out of a script is the text of a run of it. What was put out of a layout is the measurement of the bytes given, and of a manifest the sums of its
-- files.
abbrev pub Content : Request → World → World → ℕ → Type 0
Content (Decrypt key input) old new status = TookContent key input old new status
Content (Encrypt key input output) old new status = (these : List Answer) → WereTold these old.host new.host → status ≡ 0 → GaveSealed key input output these old.random new.random
Content (Session key) old new status = TookScript key old new status
Content (Manifest values template output) old new status = (these : List Answer) → WereTold these old.host new.host → status ≡ 0 → GaveRendered values template output these old.out new.out
Content (Sums manifest output) old new status = (these : List Answer) → WereTold these old.host new.host → status ≡ 0 → PutSums manifest output these old.out new.out
Content (Measure layout) old new status = (these : List Answer) → WereTold these old.host new.host → status ≡ 0 → PutMeasurement layout these old new

-- Where the host told these answers, and they lead to an ending, it is reported: a refusal or a damage always, since no event
-- comes behind its answers, and `Done` where the status is at most 3, since a piece may come behind the last and fail. In place of
-- an ending that is found in a text, want of memory may be.
abbrev pub DecidedByEvents : Request → World → World → ℕ → Type 0
DecidedByEvents request old new status = (events : List Event) (ending : Ending) → Leads request events ending → WereTold (answers_in events) old.host new.host → (status ≤ 3) ⊎ (ending ≢ Done)
    → Reports (AtEnd ending) old.log new.log status ⊎ (MayStarve ending × Reports Starved old.log new.log status)

-- What is refused by the answers of `encrypt`: what makes nothing; and an input of which more bytes were given than a content may have. No node is damaged.
pub record DecidedSealing (key input output : Name) (old new : World) (status : ℕ) : Type 0 where
  pub refused : DecidedByEvents (Encrypt key input output) old new status
  pub too_large : (these : List Answer) (pieces : List (List ℕ)) → WereTold these old.host new.host → GavePieces input these pieces → MOST_SIZE < length (concat pieces) → Reports (AtEnd (Refused TooLarge)) old.log new.log status
  pub undamaged : status ≢ 1

abbrev pub Decided : Request → World → World → ℕ → Type 0
Decided (Decrypt key input) old new status = DecidedByEvents (Decrypt key input) old new status
Decided (Encrypt key input output) old new status = DecidedSealing key input output old new status
Decided (Session key) old new status = DecidedByEvents (Session key) old new status
Decided (Manifest values template output) old new status = DecidedByEvents (Manifest values template output) old new status
Decided (Sums manifest output) old new status = DecidedByEvents (Sums manifest output) old new status
Decided (Measure layout) old new status = DecidedByEvents (Measure layout) old new status

-- no fault was counted, and no count stands at its last value
pub record NoneCounted (old new : World) : Type 0 where
  pub host : new.host.faults ≢ counted old.host.faults
  pub out : new.out.faults ≢ counted old.out.faults
  pub log : new.log.faults ≢ counted old.log.faults
  pub random : new.random.faults ≢ counted old.random.faults

-- What files give is written and said. Or there was no memory, and whatever they give, the output took a front of it.
pub data Honestly (request : Request) (files : Files) (old new : World) (status : ℕ) : Type 0 where
  as_files_give : (pieces : List (List ℕ)) (ending : Ending) → Over request files pieces ending → status ≡ ending_status ending → WroteAll (concat pieces) old.out new.out → WroteAll (ending_line ending) old.log new.log
      → Honestly request files old new status
  starved : ((pieces : List (List ℕ)) (ending : Ending) → Over request files pieces ending → Both old.out.bytes new.out.bytes (TakesFront (concat pieces))) → status ≡ 5 → WroteAll memory_line old.log new.log
      → Honestly request files old new status

-- no count of the host's faults rose, nor of the random words'
pub record NoneRose (old new : World) : Type 0 where
  pub host : ¬ (Rose old.host.faults new.host.faults)
  pub random : ¬ (Rose old.random.faults new.random.faults)

-- So for a session: what is said where files give no key, and the run of its script where they do. Where the input did not fail and has fewer bytes than there may be reads, no stream failed.
pub record HonestScript (key : Name) (files : Files) (old new : World) (status : ℕ) : Type 0 where
  pub refused : (ending : Ending) → KeyOver files key (Err ending) → Honestly (Session key) files old new status
  pub runs : (user : List ℕ) → KeyOver files key (Ok user) → NoneRose old new → GivesScript user files old new status
  pub read : new.input.faults ≢ counted old.input.faults → IsSomeAnd old.input.left (λ input. length input < MOST_READS) → status ≢ 7

abbrev pub GivesHonestly : Request → Files → World → World → ℕ → Type 0
GivesHonestly (Decrypt key input) files old new status = Honestly (Decrypt key input) files old new status
GivesHonestly (Encrypt key input output) files old new status = Honestly (Encrypt key input output) files old new status
GivesHonestly (Session key) files old new status = HonestScript key files old new status
GivesHonestly (Manifest values template output) files old new status = Honestly (Manifest values template output) files old new status
GivesHonestly (Sums manifest output) files old new status = Honestly (Sums manifest output) files old new status
GivesHonestly (Measure layout) files old new status = Honestly (Measure layout) files old new status

abbrev pub Honest : Request → World → World → ℕ → Type 0
Honest request old new status = (files : Files) → files_of old.host ≡ Some files → NoneCounted old new → GivesHonestly request files old new status

-- files give one output and one ending
abbrev pub OneOver : Type 0
OneOver = (request : Request) (files : Files) (pieces others : List (List ℕ)) (ending other : Ending) → Over request files pieces ending → Over request files others other → (pieces ≡ others) × (ending ≡ other)

-- the output may hold a new file: the work is done, or the host failed
abbrev pub MayBeNew : World → World → ℕ → Type 0
MayBeNew old new status = (status ≡ 0) ⊎ (new.host.faults ≡ counted old.host.faults)

-- Every name but the output's and its side file's is as before. The output is as before, or where it may be new it is what a new
-- file is, by the disk before the run.
pub record OutputLeft (output : Name) (IsNew : Disk → Option (List ℕ) → Type 0) (may : Type 0) (disk : Disk) (image : Image) : Type 0 where
  pub here : IsImageAt (disk output) (image output) ⊎ (may × IsNew disk (image output))
  pub others : (other : Name) → other ≢ output → other ≢ side_of output → IsImageAt (disk other) (image other)

pub record OutputEnds (output : Name) (IsNew : Disk → Option (List ℕ) → Type 0) (may whole : Type 0) (old new : Disk) : Type 0 where
  pub done : whole → IsNewFile (IsNew old) (new output)
  pub here : (new output ≡ old output) ⊎ (may × IsNewFile (IsNew old) (new output))
  pub others : (other : Name) → other ≢ output → other ≢ side_of output → new other ≡ old other

-- one output is made, or stays as it is: at every moment of a run, and in the end
abbrev pub LeavesOutput : Name → (Disk → Option (List ℕ) → Type 0) → World → World → ℕ → Type 0
LeavesOutput output IsNew old new status = OnDisk old.host new.host (Ran (OutputLeft output IsNew (MayBeNew old new status)) (OutputEnds output IsNew (MayBeNew old new status) (status ≡ 0)))

-- a name that is apart from each that a line of the input gives
abbrev pub IsUnnamed : List ℕ → Name → Type 0
IsUnnamed input other = (bytes : List ℕ) (line : ScriptLine) (name : Name) → Contains (lines_of input) bytes → IsScriptLine bytes line → name_of_line line ≡ Some name → Apart name other

-- For each book with which a session may begin: what each of its exchanges did to names, with the images of every moment as the book says, and in the end the book after them agrees with the
-- disk. Every name apart from those of its lines is as before, whatever fails.
pub record SessionOnDisk (key : Name) (old new : World) (status : ℕ) : Type 0 where
  pub books : OnDisk old.host new.host (λ before after. (book : Book) → StartsWith book before.now → KeepsScript key old new status book before after)
  pub spares : IfSome old.input.left (λ input. OnDisk old.host new.host (Ran (LeavesOthers (IsUnnamed input)) (KeepsOthers (IsUnnamed input))))

-- a run at every moment of it, and in the end, on an honest disk
abbrev pub OnDisks : Request → World → World → ℕ → Type 0
OnDisks (Decrypt key input) old new status = KeepsDisk old.host new.host
OnDisks (Encrypt key input output) old new status = LeavesOutput output (IsVersion key input output) old new status
OnDisks (Session key) old new status = SessionOnDisk key old new status
OnDisks (Manifest values template None) old new status = KeepsDisk old.host new.host
OnDisks (Manifest values template (Some output)) old new status = LeavesOutput output (IsRendered values template) old new status
OnDisks (Sums manifest None) old new status = KeepsDisk old.host new.host
OnDisks (Sums manifest (Some output)) old new status = LeavesOutput output (IsSummed manifest) old new status
OnDisks (Measure layout) old new status = KeepsDisk old.host new.host

-- what a run leaves alone
abbrev pub Stays : Request → World → World → Type 0
Stays (Decrypt key input) old new = (new.random ≡ old.random) × (new.input ≡ old.input)
Stays (Encrypt key input output) old new = (new.out ≡ old.out) × (new.input ≡ old.input)
Stays (Session key) old new = ⊤
Stays (Manifest values template None) old new = (new.random ≡ old.random) × (new.input ≡ old.input)
Stays (Manifest values template (Some output)) old new = (new.random ≡ old.random) × (new.out ≡ old.out) × (new.input ≡ old.input)
Stays (Sums manifest output) old new = (new.random ≡ old.random) × (new.input ≡ old.input)
Stays (Measure layout) old new = (new.random ≡ old.random) × (new.input ≡ old.input)
