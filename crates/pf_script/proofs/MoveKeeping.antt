-- What a move keeps of a book, once its session was flushed.
use Rattle.std.proofs.Common.{◌≡◌, ◌⊎◌, inl, inr, Bool, true, false, List, [], ◌∷◌, ℕ, refl, sym, ◌∙◌, ap, subst, Option, Some, None}
use Rattle.std.specs.Prelude.{Contains}
use Rattle.pf_io.specs.Disk.{Name, IsImage, reading}
use Rattle.pf_io.specs.Names.{IsTarget}
use Rattle.pf_io.specs.Moments.{Honest, Ran}
use Rattle.node_tree.specs.Sheet.{Sheet, IsLinked}
use Rattle.pf_session.specs.Aside.{Apart}
use Rattle.pf_session.specs.Backing.{RestsOn}
use Rattle.pf_session.specs.Moving.{IsKeptOn}
use Rattle.pf_session.specs.State.{SessionState}
use Rattle.pf_script.specs.Book.{Entry, Seal}
use Rattle.pf_script.specs.BookActs.{Move, Act, Among, moved, freed, without_partner}
use Rattle.pf_script.specs.BookDebts.{LeavesOthers, KeepsOthers, SparesOthers, Moves, Owes, seat_of}
use Rattle.pf_script.specs.BookSeats.{Covers, Kept, KeepsUnder}
use Rattle.pf_script.proofs.NameMaps.{set_at-same}
use Rattle.pf_script.proofs.Seats.{seats_after, seat_is_left}
use Rattle.pf_script.proofs.ActKeeping.{no_sheet, one_act, one_spares}

-- the sheet as which a session on another one was moved
pub record MovesOn (done : Bool) (old new : SessionState) (to : Name) (base : Sheet) (a b : Honest) : Type 0 where
  pub next : Sheet
  pub moves : Moves done old.name base (seat_of old.key to next) a b
  pub on_next : done ≡ true → IsKeptOn next new

-- A move of a whole session, of which nothing is to be flushed. In any case the new name was absent.
pub record MovesOnce (done : Bool) (old new : SessionState) (to : Name) (a b : Honest) : Type 0 where
  pub others : Ran (LeavesOthers (λ other. Apart to other × Apart old.name other)) (KeepsOthers (λ other. Apart to other × Apart old.name other)) a b
  pub reads : IsImage b.now (reading b.now)
  pub absent : a.now to ≡ None
  pub whole : old.broken ≡ false
  pub calm : old.changed ≡ false
  pub key_is : new.key ≡ old.key
  pub name_is : done ≡ true → new.name ≡ to
  pub fails : done ≡ false → new.broken ≡ true
  pub moved : (base : Sheet) → IsLinked base → RestsOn base old → MovesOn done old new to base a b

pub moved_keeps : (done : Bool) (old new : SessionState) (to : Name) (a b : Honest) → IsTarget old.name → IsTarget to → MovesOnce done old new to a b → KeepsUnder (Covers old) (Covers new) (λ name. (name ≡ to) ⊎ (name ≡ old.name)) a b
moved_keeps done old new to a b target of_to once book seats agrees reads covers = by_entry (book old.name) refl
  where
    seal_as : Sheet → Seal
    seal_as sheet = seat_of old.key to sheet

    spares : (sheet : Sheet) → SparesOthers (Move old.name (seal_as sheet)) a b
    spares sheet = record { targets = (of_to, target); others = once.others; reads = once.reads }

    acts_of : Sheet → List Act
    acts_of sheet = record { deed = Move old.name (seal_as sheet); done = done } ∷ []

    only_these : (sheet : Sheet) (name : Name) → Among (acts_of sheet) name → (name ≡ to) ⊎ (name ≡ old.name)
    only_these sheet name (inl is) = is
    only_these sheet name (inr no_one) = absurd no_one

    -- where the book does not speak of the old name, it does not speak of the new one either
    new_is_out : (d : Bool) (entry : Entry) → book old.name ≡ None → moved old.name (seal_as no_sheet) d (book old.name) book to ≡ Some entry → ⊥
    new_is_out true entry was is =
        let e : None ≡ Some entry = sym (ap (λ (o : Option Entry). moved old.name (seal_as no_sheet) true o book to) was ∙ set_at-same to None (without_partner freed to book)) ∙ is in
        absurd (cc)
    new_is_out false entry was is =
        let e : None ≡ Some entry = sym (ap (λ (o : Option Entry). moved old.name (seal_as no_sheet) false o book to) was ∙ set_at-same to None (without_partner freed to book)) ∙ is in
        absurd (cc)

    covered_none : (d : Bool) → done ≡ d → (entry : Entry) → book old.name ≡ None → new.broken ≡ false → moved old.name (seal_as no_sheet) done (book old.name) book new.name ≡ Some entry → ⊥
    covered_none true ok entry was whole is = new_is_out done entry was (subst (λ (n : Name). moved old.name (seal_as no_sheet) done (book old.name) book n ≡ Some entry) (once.name_is ok) is)
    covered_none false failed entry was whole is = let e : true ≡ false = sym (once.fails failed) ∙ whole in absurd (cc)

    covered : (d : Bool) → done ≡ d → {base : Sheet} (on : MovesOn done old new to base a b) → new.broken ≡ false
        → (sheet : Sheet) × Contains (seats_after (Move old.name (seal_as on.next)) done seats) (seat_of new.key new.name sheet) × IsKeptOn sheet new
    covered true is on whole =
        let deed = Move old.name (seal_as on.next) in (
          on.next,
          subst (λ (e : Bool). Contains (seats_after deed e seats) (seat_of new.key new.name on.next)) (sym is)
              (subst (λ (k : List ℕ). Contains (seats_after deed true seats) (seat_of k new.name on.next)) (sym once.key_is)
              (subst (λ (n : Name). Contains (seats_after deed true seats) (seat_of old.key n on.next)) (sym (once.name_is is)) (seat_is_left deed seats))),
          on.on_next is,
        )
    covered false is on whole = let e : true ≡ false = sym (once.fails is) ∙ whole in absurd (cc)

    by_entry : (o : Option Entry) → book old.name ≡ o → Kept (Covers new) (λ name. (name ≡ to) ⊎ (name ≡ old.name)) book seats a b
    by_entry None was =
        let deed = Move old.name (seal_as no_sheet) in (
          acts_of no_sheet,
          seats_after deed done seats,
          one_act book seats deed done a b (spares no_sheet) (subst (λ (o : Option Entry). Owes seats deed done o a b) (sym was) once.absent),
          λ entry whole is. absurd (covered_none done refl entry was whole is),
          one_spares seats deed done,
          only_these no_sheet,
        )
    by_entry (Some entry) was =
        let seat = covers entry once.whole was in
        let stood = (agrees.stand (seat_of old.key old.name seat.0) entry seat.1 was).stood in
        let on = once.moved seat.0 stood.as_sheet.stands.linked (seat.2.rests once.calm) in
        let deed = Move old.name (seal_as on.next) in (
          acts_of on.next,
          seats_after deed done seats,
          one_act book seats deed done a b (spares on.next) (subst (λ (o : Option Entry). Owes seats deed done o a b) (sym was) (once.absent, (seat.0, seat.1, on.moves))),
          λ entry2 whole is. covered done refl on whole,
          one_spares seats deed done,
          only_these on.next,
        )
