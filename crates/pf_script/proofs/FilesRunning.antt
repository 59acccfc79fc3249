-- Exchanges over files, one after the other.
use Rattle.std.proofs.Common.{◌≡◌, false, List, [], ◌∷◌, ◌++◌, refl, sym, subst, Option, Some, None}
use Rattle.pf_io.specs.Disk.{Files, reading}
use Rattle.pf_io.specs.Host.{HostState, Both}
use Rattle.pf_io.specs.Moments.{Honest}
use Rattle.pf_io.specs.Words.{WordsState}
use Rattle.pf_script.specs.BookActs.{Act}
use Rattle.pf_script.specs.BookTurns.{DeskAgrees}
use Rattle.pf_script.specs.Desk.{DeskState}
use Rattle.pf_script.specs.FileRuns.{FollowsOver}
use Rattle.pf_script.specs.FileTurns.{IsStateOver, ReopensOpened, TurnOver, DeskOver, DeskFiles}
use Rattle.pf_script.specs.Script.{ScriptState}
use Rattle.pf_script.specs.ScriptRuns.{Exchange}
use Rattle.pf_script.specs.Turns.{Failed}
use Rattle.pf_script.specs.declared.line.ScriptLine.{ScriptLine}
use Rattle.pf_script.specs.declared.reply.Reply.{Reply}

pub over_as : {E F : ScriptState → Files → Type 0} (state : ScriptState) (xs : List Exchange) (files : Files) → ((s : ScriptState) (f : Files) → E s f → F s f) → FollowsOver state xs files E → FollowsOver state xs files F
over_as state [] files go ends = go state files ends
over_as state (x ∷ xs) files go follows = λ reopens. let on = follows reopens in (on.0, on.1, on.2, on.3, over_as on.1 xs on.2 go on.4)

-- some exchanges, and then others
pub over_on : (E : ScriptState → Files → Type 0) (state : ScriptState) (xs ys : List Exchange) (files : Files) → FollowsOver state xs files (λ s f. FollowsOver s ys f E) → FollowsOver state (xs ++ ys) files E
over_on E state [] ys files follows = follows
over_on E state (x ∷ xs) ys files follows = λ reopens. let on = follows reopens in (on.0, on.1, on.2, on.3, over_on E on.1 xs ys on.2 on.4)

-- The state is that of a desk, over files that are those of the host's disk.
pub record IsOver (desk : DeskState) (host : HostState) (state : ScriptState) (files : Files) : Type 0 where
  pub disk : Honest
  pub is_disk : host.honest ≡ Some disk
  pub files_are : files ≡ reading disk.now
  pub is_state : IsStateOver files state desk

-- a line that was replied to, and in which nothing failed
pub one_over : (line : ScriptLine) (reply : Reply) (d0 d1 : DeskState) (h0 h1 : HostState) (r0 r1 : WordsState) (agrees : DeskAgrees line reply d0 d1 h0 h1 r0 r1) → Failed agrees.seen false false → (state : ScriptState) (files : Files) → IsOver d0 h0 state files
    → FollowsOver state (record { line = line; seen = agrees.seen; reply = reply } ∷ []) files (IsOver d1 h1)
one_over line reply d0 d1 h0 h1 r0 r1 agrees calm state files is =
    subst (λ (f : Files). FollowsOver state (record { line = line; seen = agrees.seen; reply = reply } ∷ []) f (IsOver d1 h1)) (sym is.files_are) (λ reopens. from reopens (some_disk h0.honest h1.honest is.is_disk agrees.over))
  where
    some_disk : (o p : Option Honest) → o ≡ Some is.disk → Both o p (DeskFiles line agrees.seen reply d0 d1) → (b : Honest) × (p ≡ Some b) × DeskFiles line agrees.seen reply d0 d1 is.disk b
    some_disk (Some a) (Some b) same both = let e : a ≡ is.disk = cc in (b, refl, subst (λ (z : Honest). DeskFiles line agrees.seen reply d0 d1 z b) e both)
    some_disk (Some a) None same both = absurd both
    some_disk None p same both = absurd (cc)

    from : ReopensOpened state.key (reading is.disk.now) line reply → (b : Honest) × (h1.honest ≡ Some b) × DeskFiles line agrees.seen reply d0 d1 is.disk b
        → (acts : List Act) × (after : ScriptState) × (next : Files) × TurnOver state line agrees.seen.words reply acts after (reading is.disk.now) next × IsOver d1 h1 after next
    from reopens last =
        let over : DeskOver line agrees.seen reply d1 state is.disk last.0 = last.2 state calm (subst (λ (f : Files). IsStateOver f state d0) is.files_are is.is_state) reopens in
        (over.acts, over.after, reading last.0.now, over.over, record { disk = last.0; is_disk = last.1; files_are = refl; is_state = over.is_state })
