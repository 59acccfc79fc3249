-- What a run of steps keeps of the book that it began with.
use Rattle.std.proofs.Common.{◌≡◌, sym, ◌∙◌, ap, ℕ, List, Some, None}
use Rattle.pf_io.specs.Disk.{Name}
use Rattle.pf_io.specs.Host.{HostState, OnDisk, ReadsAsImage}
use Rattle.pf_io.proofs.Telling.{both_same, both_weaker}
use Rattle.pf_script.specs.Book.{Book, Seal}
use Rattle.pf_script.specs.BookLaws.{StartsWith, RunKeeps}
use Rattle.pf_script.specs.BookSeats.{CoversNone, KeepsUnder}
use Rattle.pf_script.specs.Desk.{DeskState, session_at}
use Rattle.pf_script.specs.DeskSteps.{KeepsBooks, ConcernsDesk, CoversDesk}
use Rattle.pf_script.specs.declared.line.ScriptLine.{ScriptLine}
use Rattle.pf_script.proofs.ActKeeping.{only_reads, unchanged_now}
use Rattle.pf_script.proofs.CallKeeping.{both_with, read_image}
use Rattle.pf_script.proofs.StepKeeping.{keeps_on, keeps_more, covers_less, run_keeps}

-- of a run any name may be concerned
abbrev pub AnyName : Name → Type 0
AnyName name = Unit {0}

abbrev pub KeepsDesk : DeskState → DeskState → HostState → HostState → Type 0
KeepsDesk old new before after = OnDisk before after (KeepsUnder (CoversDesk old) (CoversDesk new) AnyName)

-- one line
pub books_of : (line : ScriptLine) (old new : DeskState) (before after : HostState) → KeepsBooks line old new before after → KeepsDesk old new before after
books_of line old new before after keeps =
    both_weaker (KeepsUnder (CoversDesk old) (CoversDesk new) (ConcernsDesk line old)) (KeepsUnder (CoversDesk old) (CoversDesk new) AnyName) before.honest after.honest keeps
    (λ a b keeps_ab. keeps_more (CoversDesk old) (CoversDesk new) (ConcernsDesk line old) AnyName a b (λ name is. tt) keeps_ab)

-- before the first step
pub books_still : (desk : DeskState) (before after : HostState) → after ≡ before → KeepsDesk desk desk before after
books_still desk before after stays = both_same (KeepsUnder (CoversDesk desk) (CoversDesk desk) AnyName) before.honest after.honest (ap (λ (h : HostState). h.honest) stays) (λ a. only_reads (CoversDesk desk) a a AnyName (unchanged_now a))

-- one step more
pub books_on : (first between last : DeskState) (before mid after : HostState) → KeepsDesk first between before mid → ReadsAsImage mid → KeepsDesk between last mid after → KeepsDesk first last before after
books_on first between last before mid after one reads two = keeps_on (CoversDesk first) (CoversDesk between) (CoversDesk last) AnyName before mid after one reads two

-- a run from a desk whose seats are empty
pub run_from : (first last : DeskState) (before after : HostState) → ((k : ℕ) → session_at first k ≡ None) → KeepsDesk first last before after → ReadsAsImage before → OnDisk before after (λ old new. (book : Book) → StartsWith book old.now → RunKeeps book old new)
run_from first last before after empty keeps reads =
    both_with (KeepsUnder (CoversDesk first) (CoversDesk last) AnyName) (λ old new. (book : Book) → StartsWith book old.now → RunKeeps book old new) before.honest after.honest keeps
    (λ a b is is2 keeps_ab.
    run_keeps (CoversDesk last) AnyName a b (covers_less (CoversDesk first) CoversNone (CoversDesk last) (CoversDesk last) AnyName a b (λ book seats none. covered book seats) (λ book seats covers. covers) keeps_ab) (read_image before.honest a is reads))
  where
    covered : (book : Book) (seats : List Seal) → CoversDesk first book seats
    covered book seats k session is = let e : None ≡ Some session = sym (empty k) ∙ is in absurd (cc)
