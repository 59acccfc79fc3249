-- Which seat shows a session.
use Rattle.std.proofs.Common.{◌≡◌, inl, inr, true, false, ℕ, List, ◌++◌, refl, sym, ◌∙◌, ap, subst, Option, Some, None}
use Rattle.std.specs.Prelude.{Contains}
use Rattle.std.proofs.lemmas.List.Elements.{Contains-append_left}
use Rattle.node_tree.specs.Sheet.{Sheet, IsLinked}
use Rattle.node_tree.specs.Unforged.{Unforged}
use Rattle.pf_io.specs.Host.{Answer, HostState, WhereTold}
use Rattle.pf_io.proofs.Telling.{told_weaker}
use Rattle.pf_session.specs.Moving.{IsKeptOn}
use Rattle.pf_session.specs.State.{SessionState}
use Rattle.pf_script.specs.Desk.{seat_on, Shows, no_file, whole_file, broken_file}
use Rattle.pf_script.specs.DeskSteps.{broken_of, SeatStillShows}
use Rattle.pf_script.specs.Script.{OwnSeat, Seat, Empty, Own}
use Rattle.pf_script.specs.SeatSteps.{broken_seat}

-- a seat that shows a whole session
pub record ShowsWhole (sealed : List Sheet) (seat : Seat) (own : SessionState) : Type 0 where
  pub sheet : Sheet
  pub among : Contains sealed sheet
  pub linked : IsLinked sheet
  pub kept : IsKeptOn sheet own
  pub seat_is : seat ≡ Own (seat_on sheet own)

-- one that shows any
pub record ShowsSome (seat : Seat) (own : SessionState) : Type 0 where
  pub shown : OwnSeat
  pub key_is : shown.key ≡ own.key
  pub name_is : shown.name ≡ own.name
  pub broken_is : shown.broken ≡ own.broken
  pub seat_is : seat ≡ Own shown

pub same_session : (s t : SessionState) → Some s ≡ Some t → t ≡ s
same_session s t is = cc

pub shows_none : (sealed : List Sheet) (seat : Seat) → Shows sealed seat None → seat ≡ Empty
shows_none sealed seat (no_file is none) = is
shows_none sealed seat (whole_file sheet own whole among linked kept is some) = absurd (cc)
shows_none sealed seat (broken_file shown own broken as_broken key name is some) = absurd (cc)

pub shows_some : (sealed : List Sheet) (seat : Seat) (s : SessionState) → Shows sealed seat (Some s) → ShowsSome seat s
shows_some sealed seat s (no_file is none) = absurd (cc)
shows_some sealed seat s (whole_file sheet own whole among linked kept is some) =
    let same = same_session s own some in
    record {
      shown = seat_on sheet own;
      key_is = ap (λ (x : SessionState). x.key) same;
      name_is = ap (λ (x : SessionState). x.name) same;
      broken_is = ap (λ (x : SessionState). x.broken) same;
      seat_is = is;
    }
shows_some sealed seat s (broken_file shown own broken as_broken key name is some) =
    let same = same_session s own some in
    record {
      shown = shown;
      key_is = key ∙ ap (λ (x : SessionState). x.key) same;
      name_is = name ∙ ap (λ (x : SessionState). x.name) same;
      broken_is = as_broken ∙ sym broken ∙ ap (λ (x : SessionState). x.broken) same;
      seat_is = is;
    }

pub shows_whole : (sealed : List Sheet) (seat : Seat) (s : SessionState) → s.broken ≡ false → Shows sealed seat (Some s) → ShowsWhole sealed seat s
shows_whole sealed seat s whole (no_file is none) = absurd (cc)
shows_whole sealed seat s whole (whole_file sheet own also among linked kept is some) =
    let same = same_session s own some in
    record {
      sheet = sheet;
      among = among;
      linked = linked;
      kept = subst (λ (x : SessionState). IsKeptOn sheet x) same kept;
      seat_is = is ∙ ap (λ (x : SessionState). Own (seat_on sheet x)) same;
    }
shows_whole sealed seat s whole (broken_file shown own broken as_broken key name is some) =
    let same = same_session s own some in
    let e : true ≡ false = sym broken ∙ ap (λ (x : SessionState). x.broken) same ∙ whole in
    absurd (cc)

-- more sheets were sealed
pub shows_more : (sealed more : List Sheet) (seat : Seat) (session : Option SessionState) → Shows sealed seat session → Shows (sealed ++ more) seat session
shows_more sealed more seat session (no_file is none) = no_file is none
shows_more sealed more seat session (whole_file sheet own whole among linked kept is some) = whole_file sheet own whole (Contains-append_left sealed more sheet among) linked kept is some
shows_more sealed more seat session (broken_file shown own broken as_broken key name is some) = broken_file shown own broken as_broken key name is some

-- after want of memory a seat shows what it showed
pub shows_still : (key : List ℕ) (old new : Option SessionState) (before after : HostState) (P : List Answer → Type 0) → WhereTold before after P
    → ((given : List Answer) → P given → (sealed : List Sheet) (seat : Seat) → Shows sealed seat old → Unforged key sealed given → Shows sealed seat new) → WhereTold before after (SeatStillShows key old new)
shows_still key old new before after P told go = told_weaker P (SeatStillShows key old new) before after told (λ given holds sealed seat shows unforged. inl (go given holds sealed seat shows unforged))

-- or that broken
pub shows_broken : (key : List ℕ) (old new : SessionState) (before after : HostState) (P : List Answer → Type 0) → WhereTold before after P → new.broken ≡ true → new.key ≡ old.key → new.name ≡ old.name → WhereTold before after (SeatStillShows key (Some old) (Some new))
shows_broken key old new before after P told broken key_is name_is =
    told_weaker P (SeatStillShows key (Some old) (Some new)) before after told
    (λ given holds sealed seat shows unforged.
    let some = shows_some sealed seat old shows in
    inr (subst (λ (x : Seat). Shows sealed (broken_of x) (Some new)) (sym some.seat_is) (broken_file (broken_seat some.shown) new broken refl (some.key_is ∙ sym key_is) (some.name_is ∙ sym name_is) refl refl)))
