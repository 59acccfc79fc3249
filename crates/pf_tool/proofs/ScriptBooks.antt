-- What a session keeps of each book with which it may begin.
use Rattle.std.proofs.Common.{◌≡◌, inl, inr, ℕ, List, [], refl, sym, ap, subst, Option, Some, None, Result, Ok}
use Rattle.std.specs.Prelude.{IfSome}
use Rattle.pf_io.specs.Disk.{Name, Disk, IsImage, reading}
use Rattle.pf_io.specs.Host.{HostState, Both, OnDisk, ReadsAsImage}
use Rattle.pf_io.specs.Moments.{Honest}
use Rattle.pf_io.specs.Unchanged.{KeepsDisk}
use Rattle.pf_io.proofs.Telling.{both_weaker}
use Rattle.pf_script.specs.BookDebts.{Unchanged}
use Rattle.pf_script.specs.Book.{Book}
use Rattle.pf_script.specs.BookLaws.{StartsWith, RunKeeps}
use Rattle.pf_script.specs.BookSeats.{KeepsUnder}
use Rattle.pf_script.specs.Desk.{DeskState}
use Rattle.pf_script.specs.DeskSteps.{CoversDesk, EndGoes}
use Rattle.pf_script.specs.Words.{SEATS}
use Rattle.pf_script.specs.declared.line.ScriptLine.TheVariants as lines
use Rattle.pf_script.specs.declared.next_line.NextLine.{NextLine}
use Rattle.pf_script.specs.declared.next_line.NextLine.TheVariants as nexts
use Rattle.pf_script.specs.declared.reply.Reply.{Reply}
use Rattle.pf_script.proofs.ActKeeping.{only_reads}
use Rattle.pf_script.proofs.RunKeeping.{AnyName, KeepsDesk, books_of, books_still, books_on, run_from}
use Rattle.pf_tool.specs.World.{World, with_log}
use Rattle.pf_tool.specs.Runs.{RunsScript}
use Rattle.pf_tool.specs.Scripting.{At, begins, NothingAsked, Answers, NextAnswered, LineAnswered, Lines, none_yet, one_more, AllLines, LineStops, not_read, not_answered, not_said, SeatClosed, Closings, none_closed, one_closed, KeyRead, ScriptGoes, no_key, no_reader, no_line, no_closing, no_end, done}
use Rattle.pf_tool.specs.declared.fault.Fault.{Fault}
use Rattle.pf_tool.proofs.ScriptContent.{same_all}

-- nothing was asked
idle_keeps : (old new : At) → NothingAsked old.desk new.desk old.world.host new.world.host old.world.random new.world.random → KeepsDesk old.desk new.desk old.world.host new.world.host
idle_keeps old new nothing = subst (λ (d : DeskState). KeepsDesk old.desk d old.world.host new.world.host) (sym nothing.same_desk) (books_still old.desk old.world.host new.world.host nothing.same_host)

-- So far the books were kept, from a moment with this desk, and the disk reads as one of its images.
pub record KeptSo (first : DeskState) (before : HostState) (now : At) : Type 0 where
  pub keeps : KeepsDesk first now.desk before now.world.host
  pub image : ReadsAsImage now.world.host

module _ (first : DeskState) (before : HostState) where
  kept_on : (old new : At) → KeptSo first before old → KeepsDesk old.desk new.desk old.world.host new.world.host → ReadsAsImage new.world.host → KeptSo first before new
  kept_on old new so_far step image = record { keeps = books_on first old.desk new.desk before old.world.host new.world.host so_far.keeps so_far.image step; image = image }

  answers_keep : (bytes : List ℕ) (reply : Option Reply) (old new : At) → Answers bytes (Ok reply) old new → KeepsDesk old.desk new.desk old.world.host new.world.host
  answers_keep bytes None old new answers = idle_keeps old new answers.1
  answers_keep bytes (Some reply) old new answers = books_of answers.0 old.desk new.desk old.world.host new.world.host answers.2.books

  next_keeps : (next : NextLine) (bytes : List ℕ) (reply : Option Reply) (old new : At) → NextAnswered next bytes reply old new → KeepsDesk old.desk new.desk old.world.host new.world.host
  next_keeps nexts.Whole bytes reply old new answers = answers_keep bytes reply old new answers
  next_keeps nexts.TooLong bytes reply old new answers = idle_keeps old new answers.1
  next_keeps nexts.End bytes reply old new answers = absurd answers

  line_keeps : (reply : Option Reply) (old new : At) → KeptSo first before old → LineAnswered reply old new → KeptSo first before new
  line_keeps reply old new so_far line = kept_on old new so_far (next_keeps line.next new.reader.line reply old new line.answers) line.image

  lines_keep : (start : At) (status : ℕ) (now : At) → KeptSo first before start → Lines start status now → KeptSo first before now
  lines_keep start _ _ begun (none_yet status now none same) = subst (KeptSo first before) (sym same) begun
  lines_keep start _ _ begun (one_more earlier status reply mid now lines goes is) = line_keeps reply mid now (lines_keep start earlier mid begun lines) goes.answered

  all_keep : (start : At) (status : ℕ) (now : At) → KeptSo first before start → AllLines start status now → KeptSo first before now
  all_keep start status now begun all =
      let last = lines_keep start status all.last begun all.lines in
      kept_on all.last now last (idle_keeps all.last now all.ends.nothing) (subst ReadsAsImage (sym all.ends.nothing.same_host) last.image)

  seat_keeps : (seat : ℕ) (reply : Option Reply) (old new : At) → KeptSo first before old → SeatClosed seat reply old new → KeptSo first before new
  seat_keeps seat reply old new so_far closed = kept_on old new so_far (by_reply reply closed.ends) closed.image
    where
      by_reply : (reply : Option Reply) → EndGoes seat reply old.desk new.desk old.world.host new.world.host old.world.random new.world.random → KeepsDesk old.desk new.desk old.world.host new.world.host
      by_reply None ends = subst (λ (d : DeskState). KeepsDesk old.desk d old.world.host new.world.host) (sym ends.0) (books_still old.desk old.world.host new.world.host ends.1)
      by_reply (Some said) ends = books_of (lines.Close seat) old.desk new.desk old.world.host new.world.host ends.books

  closings_keep : (start : At) (count status : ℕ) (now : At) → KeptSo first before start → Closings start count status now → KeptSo first before now
  closings_keep start _ _ _ begun (none_closed count status now no_seat none same) = subst (KeptSo first before) (sym same) begun
  closings_keep start _ _ _ begun (one_closed seat count earlier status reply mid now closings closed wrote next is) = seat_keeps seat reply mid now (closings_keep start seat earlier mid begun closings) closed

  -- so where a script stops at a line
  stop_keeps : (fault : Fault) (old new : At) → KeptSo first before old → LineStops fault old new → KeepsDesk first new.desk before new.world.host
  stop_keeps fault old new so_far (not_read cause reads nothing says is) = books_on first old.desk new.desk before old.world.host new.world.host so_far.keeps so_far.image (idle_keeps old new nothing)
  stop_keeps fault old new so_far (not_answered none reads (inl nothing) says is) = books_on first old.desk new.desk before old.world.host new.world.host so_far.keeps so_far.image (idle_keeps old new nothing)
  stop_keeps fault old new so_far (not_answered none reads (inr step) says is) = books_on first old.desk new.desk before old.world.host new.world.host so_far.keeps so_far.image (books_of step.0 old.desk new.desk old.world.host new.world.host step.2.books)
  stop_keeps fault old new so_far (not_said reply answered some failed is) = let now = line_keeps reply old new so_far answered in now.keeps

-- only reads on the disk, as those of a key
read_keeps : (desk : DeskState) (before after : HostState) → KeepsDisk before after → KeepsDesk desk desk before after
read_keeps desk before after kept = both_weaker Unchanged (KeepsUnder (CoversDesk desk) (CoversDesk desk) AnyName) before.honest after.honest kept (λ a b unchanged. only_reads (CoversDesk desk) a b AnyName unchanged)

image_on : (before after : HostState) → KeepsDisk before after → ReadsAsImage before → ReadsAsImage after
image_on before after kept image = by_case before.honest after.honest kept image
  where
    by_case : (o p : Option Honest) → Both o p Unchanged → IfSome o (λ host. IsImage host.now (reading host.now)) → IfSome p (λ host. IsImage host.now (reading host.now))
    by_case (Some a) (Some b) kept image = subst (λ (d : Disk). IsImage d (reading d)) (sym kept.ends) image
    by_case (Some a) None kept image = tt
    by_case None None kept image = tt
    by_case None (Some b) kept image = absurd kept

-- acts were done by which each book with which the run may begin was kept
abbrev pub RunsBooks : World → World → Type 0
RunsBooks old new = OnDisk old.host new.host (λ before after. (book : Book) → StartsWith book before.now → RunKeeps book before after)

pub script_books : (key : Name) (old new : World) (status : ℕ) → ReadsAsImage old.host → RunsScript key old new status → RunsBooks old new
script_books key old new status image run = by_goes run.ending run.goes
  where
    Now : World
    Now = with_log new old.log

    desk_of : List ℕ → DeskState
    desk_of user = (begins user old).desk

    begun_so : (user : List ℕ) (begun : World) → KeyRead key user old begun → KeptSo (desk_of user) old.host (begins user begun)
    begun_so user begun read = record { keeps = read_keeps (desk_of user) old.host begun.host read.disk; image = image_on old.host begun.host read.disk image }

    ends : (user : List ℕ) (last : DeskState) (host : HostState) → new.host ≡ host → KeepsDesk (desk_of user) last old.host host → RunsBooks old new
    ends user last host is keeps = run_from (desk_of user) last old.host new.host (λ k. same_all SEATS k None) (subst (λ (h : HostState). KeepsDesk (desk_of user) last old.host h) (sym is) keeps) image

    by_goes : (ending : Result ℕ Fault) → ScriptGoes key ending old (with_log new old.log) → RunsBooks old new
    by_goes ending (no_key fault falls is) = ends [] (desk_of []) new.host refl (read_keeps (desk_of []) old.host new.host falls.outcome.leaves)
    by_goes ending (no_reader user read is) = ends user (desk_of user) new.host refl (read_keeps (desk_of user) old.host new.host read.disk)
    by_goes ending (no_line user begun earlier last now fault read lines stopped same is) =
        ends user now.desk now.world.host (ap (λ (w : World). w.host) same)
        (stop_keeps (desk_of user) old.host fault last now (lines_keep (desk_of user) old.host (begins user begun) earlier last (begun_so user begun read) lines) stopped)
    by_goes ending (no_closing earlier seat more read last now script closings stopped same is) =
        let at_read = all_keep (desk_of script.user) old.host (begins script.user script.begun) earlier read (begun_so script.user script.begun script.read) script.all in
        let at_last = closings_keep (desk_of script.user) old.host read seat more last at_read closings in
        let at_end = seat_keeps (desk_of script.user) old.host seat stopped.reply last now at_last stopped.closed in
        ends script.user now.desk now.world.host (ap (λ (w : World). w.host) same) at_end.keeps
    by_goes ending (no_end earlier more read last script closings failed same is) =
        let at_read = all_keep (desk_of script.user) old.host (begins script.user script.begun) earlier read (begun_so script.user script.begun script.read) script.all in
        let at_last = closings_keep (desk_of script.user) old.host read SEATS more last at_read closings in
        ends script.user last.desk last.world.host (ap (λ (w : World). w.host) same) at_last.keeps
    by_goes ending (done earlier more read last script closings wrote same is) =
        let at_read = all_keep (desk_of script.user) old.host (begins script.user script.begun) earlier read (begun_so script.user script.begun script.read) script.all in
        let at_last = closings_keep (desk_of script.user) old.host read SEATS more last at_read closings in
        ends script.user last.desk last.world.host (ap (λ (w : World). w.host) same) at_last.keeps
