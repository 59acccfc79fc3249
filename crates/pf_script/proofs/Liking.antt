-- Seats that are like sessions.
use Rattle.std.proofs.Common.{◌≡◌, true, false, List, refl, sym, ◌∙◌, subst, Option, Some, None}
use Rattle.std.specs.Prelude.{◌↔◌}
use Rattle.node_tree.specs.Sheet.{Sheet}
use Rattle.pf_io.specs.Disk.{Name}
use Rattle.pf_session.specs.State.{SessionState}
use Rattle.pf_script.specs.Desk.{DeskState, seat_on, session_at, IsLikeOwn, IsLike, IsLikeDesk, Shows, no_file, whole_file, broken_file, IsStateOf}
use Rattle.pf_script.specs.DeskSteps.{HasItsName}
use Rattle.pf_script.specs.Script.{OwnSeat, Seat, Empty, Own, ScriptState, HasThisName}
use Rattle.pf_script.proofs.Flushed.{length_now}

-- the seat of a session on a sheet is like it
pub like_on : (sheet : Sheet) (own : SessionState) → IsLikeOwn (seat_on sheet own) own
like_on sheet own = record { key_is = refl; name_is = refl; broken_is = refl; as_large = λ whole. length_now sheet own.tree; changed_is = λ whole. refl }

-- a seat that shows a session is like it
pub like_shown : (sealed : List Sheet) (seat : Seat) (session : Option SessionState) → Shows sealed seat session → IsLike seat session
like_shown sealed seat session (no_file is none) = subst (λ (s : Seat). IsLike s session) (sym is) none
like_shown sealed seat session (whole_file sheet own whole among linked kept is some) =
    subst (λ (s : Seat). IsLike s session) (sym is)
    (subst (λ (o : Option SessionState). IsLike (Own (seat_on sheet own)) o) (sym some) (like_on sheet own))
like_shown sealed seat session (broken_file shown own broken as_broken key name is some) =
    subst (λ (s : Seat). IsLike s session) (sym is)
    (subst (λ (o : Option SessionState). IsLike (Own shown) o) (sym some)
    (record { key_is = key; name_is = name; broken_is = as_broken ∙ sym broken; as_large = λ whole. let e : true ≡ false = sym broken ∙ whole in absurd (cc); changed_is = λ whole. let e : true ≡ false = sym broken ∙ whole in absurd (cc) }))

pub like_state : (state : ScriptState) (desk : DeskState) → IsStateOf state desk → IsLikeDesk state desk
like_state state desk is_state = record { key_is = is_state.key_is; like = λ k. like_shown state.sealed _ (session_at desk k) (is_state.shows k) }

-- what is like no session is empty
pub like_none : (seat : Seat) → IsLike seat None → seat ≡ Empty
like_none Empty like = refl
like_none (Own own) like = absurd like

-- a seat that is like a session
pub record LikeSome (seat : Seat) (session : SessionState) : Type 0 where
  pub own : OwnSeat
  pub seat_is : seat ≡ Own own
  pub like : IsLikeOwn own session

pub like_some : (seat : Seat) (session : SessionState) → IsLike seat (Some session) → LikeSome seat session
like_some Empty session is = absurd (cc)
like_some (Own own) session like = record { own = own; seat_is = refl; like = like }

-- the name of a session, and that of its seat
pub like_name : (seat : Seat) (session : Option SessionState) (name : Name) → IsLike seat session → HasItsName session name ↔ HasThisName name seat
like_name seat None name like = (λ none. absurd none, λ has. absurd (subst (HasThisName name) (like_none seat like) has))
like_name seat (Some s) name like =
    let at = like_some seat s like in (
      λ has. subst (HasThisName name) (sym at.seat_is) (at.like.name_is ∙ sym has),
      λ has. sym (sym at.like.name_is ∙ subst (HasThisName name) at.seat_is has),
    )
