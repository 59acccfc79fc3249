-- What a line did to names, of whose seat the book does not speak.
use Rattle.std.proofs.Common.{◌≡◌, inl, inr, Bool, true, false, List, [], ◌∷◌, ℕ, refl, sym, ◌∙◌, ap, subst, Option, Some, None}
use Rattle.pf_io.specs.Disk.{Name, Disk, IsImage, reading}
use Rattle.pf_io.specs.Moments.{Honest, Ran}
use Rattle.pf_io.specs.Names.{IsTarget}
use Rattle.pf_session.specs.Aside.{Apart, LeavesApart, KeepsApart, LeavesApartBoth, KeepsApartBoth}
use Rattle.pf_session.specs.State.{SessionState}
use Rattle.pf_script.specs.Book.{Book, Entry, Seal, Agrees}
use Rattle.pf_script.specs.BookActs.{Deed, Opening, Creation, Flush, Move, Act, Names, Among, booked, booked_all, flushed, moved, freed, without_partner}
use Rattle.pf_script.specs.BookDebts.{Unchanged, Owes, DidAll, IsApart, AreApart, seat_of}
use Rattle.pf_script.specs.BookSeats.{Covers, SparesSeats, KeepsUnder}
use Rattle.pf_script.specs.BookTurns.{MadeBy}
use Rattle.pf_script.specs.DeskSteps.{CoversSome, Concerns, HasItsName}
use Rattle.pf_script.specs.Script.{Seat, HasThisName}
use Rattle.pf_script.specs.declared.line.ScriptLine.{ScriptLine}
use Rattle.pf_script.specs.declared.line.ScriptLine.TheVariants as lines
use Rattle.pf_script.proofs.ActKeeping.{no_sheet, one_act, one_spares}
use Rattle.pf_script.proofs.During.{leaves_more}
use Rattle.pf_script.proofs.MadeActs.{EachIs, MayFlush, none_is, one_is, among_of}
use Rattle.pf_script.proofs.NameMaps.{set_at-same}
use Rattle.pf_script.proofs.Seats.{seats_after}
use Rattle.pf_script.proofs.SparesAll.{did_spares, others_less}

-- acts of a line, and a seat that is covered after them
pub record Deals (taken : Bool) (line : ScriptLine) (old new : Option SessionState) (book : Book) (seats : List Seal) (seat : Seat) (a b : Honest) : Type 0 where
  pub acts : List Act
  pub left : List Seal
  pub did : DidAll book seats acts left a b
  pub covers : CoversSome new (booked_all acts book) left
  pub spares : SparesSeats acts seats left
  pub concerned : (name : Name) → Among acts name → Concerns taken line old name
  pub made : EachIs (MadeBy line seat) acts

-- the disk reads as one of its images after acts
did_reads : (book : Book) (before : List Seal) (acts : List Act) (after : List Seal) (old new : Honest) → IsImage old.now (reading old.now) → DidAll book before acts after old new → IsImage new.now (reading new.now)
did_reads book before [] after old new image did = subst (λ (d : Disk). IsImage d (reading d)) (sym did.0.ends) image
did_reads book before (act ∷ acts) after old new image did = did_reads (booked act.deed act.done book) did.2 acts after did.1 new did.4.spares.reads did.5

-- a name that is apart from the one name of some acts
deed_apart : (name other : Name) → Apart name other → (deed : Deed) → ((n : Name) → Names deed n → n ≡ name) → IsApart deed other
deed_apart name other far (Opening seal) only = tt
deed_apart name other far (Creation seal) only = subst (λ (n : Name). Apart n other) (sym (only seal.name refl)) far
deed_apart name other far (Flush seal) only = subst (λ (n : Name). Apart n other) (sym (only seal.name refl)) far
deed_apart name other far (Move from seal) only = (subst (λ (n : Name). Apart n other) (sym (only seal.name (inl refl))) far, subst (λ (n : Name). Apart n other) (sym (only from (inr refl))) far)

acts_apart : (name : Name) (acts : List Act) → ((n : Name) → Among acts n → n ≡ name) → (other : Name) → Apart name other → AreApart acts other
acts_apart name acts only other far act has = deed_apart name other far act.deed (λ n is. only n (among_of acts act n has is))

-- a session whose name the book does not have
free_covers : (book : Book) (left : List Seal) (new : Option SessionState) → ((session : SessionState) → new ≡ Some session → session.broken ≡ false → book session.name ≡ None) → CoversSome new book left
free_covers book left None free = tt
free_covers book left (Some session) free = λ entry whole was. let e : None ≡ Some entry = sym (free session refl whole) ∙ was in absurd (cc)

module _ (taken : Bool) (line : ScriptLine) (old : SessionState) (new : Option SessionState) (a b : Honest) where
  -- under a book that does not have the name of the session
  abbrev pub DealsFreely : Type 0
  DealsFreely = (book : Book) (seats : List Seal) (seat : Seat) → Agrees book seats a.now → IsImage a.now (reading a.now) → HasThisName old.name seat → book old.name ≡ None → Deals taken line (Some old) new book seats seat a b

  named_free : ((n : Name) → HasItsName new n → n ≡ old.name) → (book : Book) → book old.name ≡ None → (session : SessionState) → new ≡ Some session → session.broken ≡ false → book session.name ≡ None
  named_free named book none session is whole = ap book (named session.name (subst (λ (o : Option SessionState). HasItsName o session.name) (sym is) refl)) ∙ none

  -- nothing was done
  pub idle_deals : ((n : Name) → HasItsName new n → n ≡ old.name) → Unchanged a b → DealsFreely
  idle_deals named only book seats seat agrees reads has none = record {
    acts = [];
    left = seats;
    did = (only, λ s is. is);
    covers = free_covers book seats new (named_free named book none);
    spares = λ s is apart. is;
    concerned = λ n among. absurd among;
    made = none_is (MadeBy line seat);
  }

  -- all that was done to the name of the seat, as one flush
  pub aside_deals : MayFlush line → IsTarget old.name → ((n : Name) → HasItsName new n → n ≡ old.name) → (done : Bool) → Ran (LeavesApart old.name) (KeepsApart old.name) a b → IsImage b.now (reading b.now) → DealsFreely
  aside_deals may target named done others well book seats seat agrees reads has none = record {
    acts = record { deed = deed; done = done } ∷ [];
    left = seats_after deed done seats;
    did = one_act book seats deed done a b (record { targets = target; others = others; reads = well }) (subst (λ (o : Option Entry). Owes seats deed done o a b) (sym none) tt);
    covers = free_covers (booked deed done book) (seats_after deed done seats) new (named_free named (booked deed done book) (ap (λ (o : Option Entry). flushed seal done o book old.name) none ∙ none));
    spares = one_spares seats deed done;
    concerned = only_it;
    made = one_is (MadeBy line seat) (record { deed = deed; done = done }) (may seat deed has);
  }
    where
      seal : Seal
      seal = seat_of old.key old.name no_sheet

      deed : Deed
      deed = Flush seal

      only_it : (n : Name) → Among (record { deed = deed; done = done } ∷ []) n → Concerns taken line (Some old) n
      only_it n (inl same) = inl same
      only_it n (inr no_one) = absurd no_one

  pub flush_deals : MayFlush line → IsTarget old.name → ((n : Name) → HasItsName new n → n ≡ old.name) → KeepsUnder (Covers old) (CoversSome new) (λ name. name ≡ old.name) a b → DealsFreely
  flush_deals may target named keeps book seats seat agrees reads has none =
      let kept = keeps book seats agrees reads (λ entry whole was. let e : None ≡ Some entry = sym none ∙ was in absurd (cc)) in by_acts kept.0 kept.1 kept.2 kept.3 kept.4 kept.5
    where
      by_acts : (acts : List Act) (left : List Seal) → DidAll book seats acts left a b → CoversSome new (booked_all acts book) left → SparesSeats acts seats left → ((n : Name) → Among acts n → n ≡ old.name) → Deals taken line (Some old) new book seats seat a b
      by_acts [] left did covers spares only = record { acts = []; left = left; did = did; covers = covers; spares = spares; concerned = λ n among. absurd among; made = none_is (MadeBy line seat) }
      by_acts (act ∷ acts) left did covers spares only =
          aside_deals may target named true (others_less (AreApart (act ∷ acts)) (Apart old.name) a b (acts_apart old.name (act ∷ acts) only) (did_spares book seats (act ∷ acts) left a b did))
          (did_reads book seats (act ∷ acts) left a b reads did) book seats seat agrees reads has none

-- all that was done to the two names of a move
pub move_deals : (k : ℕ) (to : Name) (done : Bool) (old : SessionState) (new : Option SessionState) (a b : Honest) → IsTarget old.name → IsTarget to → ((session : SessionState) → new ≡ Some session → session.broken ≡ false → session.name ≡ to)
    → Ran (LeavesApartBoth old.name to) (KeepsApartBoth old.name to) a b → IsImage b.now (reading b.now) → a.now to ≡ None → DealsFreely false (lines.Move k to) old new a b
move_deals k to done old new a b target of_to named others well absent book seats seat agrees reads has none = record {
  acts = record { deed = deed; done = done } ∷ [];
  left = seats_after deed done seats;
  did = one_act book seats deed done a b
      (record {
        targets = (of_to, target);
        others = record {
          leaves = leaves_more others.leaves (λ image leaves other far. leaves other (record { of_old = far.1; of_new = far.0 }));
          ends = λ other far. others.ends other (record { of_old = far.1; of_new = far.0 });
        };
        reads = well;
      })
      (subst (λ (o : Option Entry). Owes seats deed done o a b) (sym none) absent);
  covers = free_covers (booked deed done book) (seats_after deed done seats) new (λ session is whole. ap (booked deed done book) (named session is whole) ∙ gone);
  spares = one_spares seats deed done;
  concerned = only_both;
  made = one_is (MadeBy (lines.Move k to) seat) (record { deed = deed; done = done }) (has, refl);
}
  where
    seal : Seal
    seal = seat_of old.key to no_sheet

    deed : Deed
    deed = Move old.name seal

    gone : booked deed done book to ≡ None
    gone = ap (λ (o : Option Entry). moved old.name seal done o book to) none ∙ set_at-same to None (without_partner freed to book)

    only_both : (n : Name) → Among (record { deed = deed; done = done } ∷ []) n → Concerns false (lines.Move k to) (Some old) n
    only_both n (inl (inl same)) = inr (ap (λ (x : Name). Some x) (sym same), refl)
    only_both n (inl (inr same)) = inl same
    only_both n (inr no_one) = absurd no_one
