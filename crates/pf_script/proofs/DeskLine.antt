-- What a function on a desk owes, from what it says of one seat.
use Rattle.std.proofs.Common.{◌≡◌, Bool, false, List, ℕ, ◌<◌, refl, sym, ◌∙◌, ap, subst, Option, Some, None, Result, get_or, set}
use Rattle.std.specs.Prelude.{IfSome}
use Rattle.std.proofs.lemmas.List.{get_or_default, set-get_or}
use Rattle.pf_io.specs.Host.{HostState}
use Rattle.pf_io.specs.Words.{WordsState}
use Rattle.pf_io.specs.declared.faults.Memory.{Memory}
use Rattle.pf_session.specs.State.{SessionState}
use Rattle.pf_script.specs.BookTurns.{SeatBooked, DeskBooked}
use Rattle.pf_script.specs.Desk.{DeskState, session_at, IsSeatOf, IsDesk}
use Rattle.pf_script.specs.DeskSteps.{SeatGoes, DeskGoes}
use Rattle.pf_script.specs.Script.{seat_of_line, name_of_line}
use Rattle.pf_script.specs.Words.{SEATS}
use Rattle.pf_script.specs.declared.line.ScriptLine.{ScriptLine}
use Rattle.pf_script.specs.declared.reply.Reply.{Reply}
use Rattle.pf_script.proofs.DeskUnder.{desk_booked}
use Rattle.pf_script.proofs.Desking.{SaysOther, desk_after, desk_goes, seat_of_desk}

pub record LineMade (line : ScriptLine) (result : Result Reply Memory) (old new : DeskState) (before after : HostState) (random random' : WordsState) : Type 0 where
  pub well : IsDesk new
  pub goes : DeskGoes line result old new before after random random'
  pub booked : DeskBooked line result old new before after random random'

-- what a function says of the seat that it was lent
pub record LentLine (key : List ℕ) (taken : Bool) (line : ScriptLine) (result : Result Reply Memory) (seat left : Option SessionState) (before after : HostState) (random random' : WordsState) : Type 0 where
  pub goes : IsSeatOf key seat → SeatGoes key taken line result seat left before after random random'
  pub booked : IsSeatOf key seat → SeatBooked key taken line result seat left before after random random'

abbrev desk_of : List ℕ → List (Option SessionState) → DeskState
desk_of key seats = record { key = key; seats = seats }

abbrev pub desk_with : DeskState → ℕ → Option SessionState → DeskState
desk_with desk k left = record { key = desk.key; seats = set desk.seats k left }

pub line_made : (inside : DeskState) → IsDesk inside → (old : DeskState) → inside ≡ old → (k : ℕ) → k < SEATS → (d : Option SessionState) (taken : Bool) (line : ScriptLine) → seat_of_line line ≡ Some k → SaysOther old k (name_of_line line) taken
    → (left : Option SessionState) (result : Result Reply Memory) (before after : HostState) (random random' : WordsState) → LentLine inside.key taken line result (get_or inside.seats k d) left before after random random'
    → LineMade line result old (desk_with inside k left) before after random random'
line_made inside desk old is k below d taken line names says left result before after random random' lent =
    subst (λ (o : DeskState). LineMade line result o (desk_with inside k left) before after random random') is (record {
      well = desk_after inside desk k below taken line names says_inside left result before after random random' goes;
      goes = desk_goes inside desk k below taken line names says_inside left result before after random random' goes;
      booked = desk_booked inside desk k below taken line names says_inside left result before after random random' goes.spares booked;
    })
  where
    says_inside : SaysOther inside k (name_of_line line) taken
    says_inside = subst (λ (o : DeskState). SaysOther o k (name_of_line line) taken) (sym is) says

    same : get_or inside.seats k d ≡ session_at inside k
    same = get_or_default inside.seats k d None (subst (λ n. k < n) (sym desk.eight) below)

    goes : SeatGoes inside.key taken line result (session_at inside k) left before after random random'
    goes = subst (λ (o : Option SessionState). IsSeatOf inside.key o → SeatGoes inside.key taken line result o left before after random random') same lent.goes (seat_of_desk inside desk k)

    booked : SeatBooked inside.key taken line result (session_at inside k) left before after random random'
    booked = subst (λ (o : Option SessionState). IsSeatOf inside.key o → SeatBooked inside.key taken line result o left before after random random') same lent.booked (seat_of_desk inside desk k)

-- each session of a desk stands at its name
pub named_at : (inside : DeskState) → IsDesk inside → (k : ℕ) → k < SEATS → (d : Option SessionState) → IfSome (get_or inside.seats k d) (λ session. session.beside ≡ false)
named_at inside desk k below d =
    subst (λ (o : Option SessionState). IfSome o (λ session. session.beside ≡ false)) (sym (get_or_default inside.seats k d None (subst (λ n. k < n) (sym desk.eight) below))) (by_session (session_at inside k) refl)
  where
    by_session : (o : Option SessionState) → session_at inside k ≡ o → IfSome o (λ session. session.beside ≡ false)
    by_session None is = tt
    by_session (Some s) is = (desk.seated k s is).of_script.named

-- a line that leaves its seat as it is
pub line_stays : (inside : DeskState) → IsDesk inside → (old : DeskState) → inside ≡ old → (k : ℕ) → k < SEATS → (d : Option SessionState) (taken : Bool) (line : ScriptLine) → seat_of_line line ≡ Some k → SaysOther old k (name_of_line line) taken
    → (result : Result Reply Memory) (before after : HostState) (random random' : WordsState) → LentLine inside.key taken line result (get_or inside.seats k d) (get_or inside.seats k d) before after random random' → LineMade line result old old before after random random'
line_stays inside desk old is k below d taken line names says result before after random random' lent =
    subst (λ (n : DeskState). LineMade line result old n before after random random') (same ∙ is) (line_made inside desk old is k below d taken line names says (get_or inside.seats k d) result before after random random' lent)
  where
    same : desk_with inside k (get_or inside.seats k d) ≡ inside
    same = ap (λ (s : List (Option SessionState)). desk_of inside.key s) (set-get_or inside.seats k d)
