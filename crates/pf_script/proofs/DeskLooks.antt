-- The names of a state of a script that looks as a desk does.
use Rattle.std.proofs.Common.{Bool, ℕ, sym, ◌∙◌, subst, Option, Some, None}
use Rattle.std.specs.Prelude.{◌↔◌}
use Rattle.std.proofs.lemmas.Option.{IfSome_then}
use Rattle.pf_io.specs.Disk.{Name}
use Rattle.pf_session.specs.State.{SessionState}
use Rattle.pf_script.specs.Desk.{DeskState, session_at}
use Rattle.pf_script.specs.DeskSteps.{OtherHas, HasItsName}
use Rattle.pf_script.specs.Script.{Seat, ScriptState, seat_at, HasThisName, IsTaken}
use Rattle.pf_script.specs.Turns.{SaysTaken}
use Rattle.pf_script.proofs.Desking.{SaysOther}
use Rattle.pf_script.proofs.Under.{LooksLike}

-- the name of a session, and that of a seat that shows it
pub looks_named : (seat : Seat) (session : Option SessionState) (name : Name) → LooksLike session seat → HasItsName session name ↔ HasThisName name seat
looks_named seat None name is = (λ none. absurd none, λ has. absurd (subst (HasThisName name) is has))
looks_named seat (Some s) name looks = (
  λ has. subst (HasThisName name) (sym looks.seat_is) (looks.name_is ∙ sym has),
  λ has. sym (sym looks.name_is ∙ subst (HasThisName name) looks.seat_is has),
)

-- Another seat of the state has a name where another session of the desk has it.
pub looks_says : (desk : DeskState) (state : ScriptState) → ((j : ℕ) → LooksLike (session_at desk j) (seat_at state j)) → (k : ℕ) (given : Option Name) (taken : Bool) → SaysOther desk k given taken → SaysTaken state k given taken
looks_says desk state looks k given taken says =
    IfSome_then given says
    (λ name tells.
    let to : OtherHas desk k name → IsTaken state k name = λ other. (other.0, other.1, (looks_named (seat_at state other.0) (session_at desk other.0) name (looks other.0)).0 other.2) in
    let back : IsTaken state k name → OtherHas desk k name = λ other. (other.0, other.1, (looks_named (seat_at state other.0) (session_at desk other.0) name (looks other.0)).1 other.2) in
    (λ is. to (tells.0 is), λ is. tells.1 (back is)))
