-- The lines of a script as they are read, and the closings.
use Rattle.std.proofs.Common.{◌≡◌, ◌≢◌, ◌↔◌, ◌∙◌, ℕ, List, [], refl, sym, ap, replicate, Option, Some, None, Result, Ok, Err}
use Rattle.std.proofs.lemmas.List.{append-nil}
use Rattle.pf_io.specs.Host.{HostState, Both, IsMore, ReadsAsImage}
use Rattle.pf_io.specs.Streams.{SourceState, SinkState}
use Rattle.pf_io.specs.Writing.{WroteAll}
use Rattle.pf_io.specs.Words.{WordsState}
use Rattle.pf_script.specs.BookTurns.{EndBooked}
use Rattle.pf_script.specs.Desk.{DeskState, session_at}
use Rattle.pf_script.specs.DeskSteps.{EndGoes}
use Rattle.pf_session.specs.State.{SessionState}
use Rattle.pf_script.specs.declared.reply.Reply.{Reply}
use Rattle.pf_io.specs.declared.faults.StreamFault.{StreamFault}
use Rattle.pf_script.specs.LineReading.{ReaderState, Advances, LinesGoOn, AnswersAgain}
use Rattle.pf_script.specs.declared.next_line.NextLine.{NextLine}
use Rattle.pf_script.specs.declared.stage.Stage.{Stage}
use Rattle.pf_script.specs.declared.stage.Stage.TheVariants as stages
use Rattle.pf_script.specs.Words.{SEATS}
use Rattle.pf_tool.specs.World.{World, world_of}
use Rattle.pf_tool.specs.Replying.{SaysClosing}
use Rattle.pf_tool.specs.Scripting.{at, begins, ReadsOn, went_on, was_over, ClosingGoes}

-- the reader as a call of it says
pub reads_on : (next : Result NextLine StreamFault) (old new : ReaderState) (from to : SourceState) → (old.stage ≡ stages.Open → Advances next old new from to) → (old.stage ≡ stages.Open → LinesGoOn next old new from to)
    → (old.stage ≢ stages.Open → AnswersAgain next old.stage × (new ≡ old) × (to ≡ from)) → ReadsOn next old new from to
reads_on next old new from to advances lines again = by_stage old.stage refl
  where
    by_stage : (stage : Stage) → old.stage ≡ stage → ReadsOn next old new from to
    by_stage stages.Open is = went_on is (advances is) (lines is)
    by_stage stages.Ended is = let shut : old.stage ≢ stages.Open = λ e. absurd (cc) in let same = again shut in was_over shut same.0 same.1 same.2
    by_stage stages.Failed is = let shut : old.stage ≢ stages.Open = λ e. absurd (cc) in let same = again shut in was_over shut same.0 same.1 same.2

both_nothing : (bytes : Option (List ℕ)) → Both bytes bytes (IsMore [])
both_nothing None = tt
both_nothing (Some bytes) = sym (append-nil bytes)

-- nothing was written
pub wrote_nothing : (sink : SinkState) → WroteAll [] sink sink
wrote_nothing sink = record { told = both_nothing sink.bytes; calm = refl }

-- a closing as its calls say
pub closing_goes : (seat : ℕ) (result : Result ℕ StreamFault) (reply : Option Reply) (d0 d1 : DeskState) (reader : ReaderState) (h0 h1 : HostState) (input : SourceState) (o0 o1 log : SinkState) (r0 r1 : WordsState) → (reply ≡ None) ↔ (session_at d0 seat ≡ None) → ((other : ℕ) → other ≢ seat → session_at d1 other ≡ session_at d0 other)
    → EndGoes seat reply d0 d1 h0 h1 r0 r1 → EndBooked seat reply d0 d1 h0 h1 r0 r1 → ReadsAsImage h1 → SaysClosing result reply o0 o1 → ClosingGoes seat result (at d0 reader (world_of h0 input o0 log r0)) (at d1 reader (world_of h1 input o1 log r1))
closing_goes seat (Ok status) reply d0 d1 reader h0 h1 input o0 o1 log r0 r1 none others ends booked image says = (reply, record { ends = ends; booked = booked; none = none; others = others; reader = refl; input = refl; log = refl; image = image }, says.0, says.1)
closing_goes seat (Err fault) reply d0 d1 reader h0 h1 input o0 o1 log r0 r1 none others ends booked image says = record { reply = reply; closed = record { ends = ends; booked = booked; none = none; others = others; reader = refl; input = refl; log = refl; image = image }; some = says.0.0; failed = says.0.1 }

-- a new desk and a new reader are where a script begins
pub begins_is : (user : List ℕ) (world : World) (desk : DeskState) (reader : ReaderState) → desk.key ≡ user → desk.seats ≡ replicate SEATS None → reader ≡ record { line = []; pending = []; reads = 0; stage = stages.Open } → at desk reader world ≡ begins user world
begins_is user world desk reader key seats fresh =
    ap (λ (k : List ℕ). at (record { key = k; seats = desk.seats }) reader world) key ∙ ap (λ (s : List (Option SessionState)). at (record { key = user; seats = s }) reader world) seats
    ∙ ap (λ (r : ReaderState). at (record { key = user; seats = replicate SEATS None }) r world) fresh
