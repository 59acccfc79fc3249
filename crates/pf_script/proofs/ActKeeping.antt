-- What one call on a session keeps: it changed nothing, or it was one deed.
use Rattle.std.proofs.Common.{◌≡◌, inl, inr, Bool, true, false, List, [], ◌∷◌, ℕ, refl, sym, ◌∙◌, ap, subst, Option, Some, None, arith}
use Rattle.std.specs.Prelude.{Contains}
use Rattle.pf_io.specs.Disk.{Name, IsImage, reading}
use Rattle.pf_io.specs.Moments.{Honest, Ran, Where}
use Rattle.pf_io.specs.Names.{IsTarget}
use Rattle.pf_io.proofs.Runs.{only_now}
use Rattle.node_tree.specs.Sheet.{Sheet, IsLinked}
use Rattle.pf_session.specs.Aside.{LeavesApart, KeepsApart}
use Rattle.pf_session.specs.Backing.{IsBacked}
use Rattle.pf_session.specs.Moving.{IsKeptOn}
use Rattle.pf_session.specs.Reopening.{AsEither, Stood}
use Rattle.pf_session.specs.Sealing.{StoodIf}
use Rattle.pf_session.specs.State.{SessionState}
use Rattle.pf_script.specs.Book.{Book, Entry, Seal, Agrees}
use Rattle.pf_script.specs.BookActs.{Deed, Flush, Act, Among, booked_all, flushed}
use Rattle.pf_script.specs.BookDebts.{Unchanged, SparesOthers, Owes, DidAll, subject, seat_of}
use Rattle.pf_script.specs.BookSeats.{Covering, Covers, CoversOn, CoversNone, SparesSeats, KeepsUnder}
use Rattle.pf_script.proofs.Seats.{seats_after, seats_are, seats_stay, seat_is_left}

pub unchanged_now : (host : Honest) → Unchanged host host
unchanged_now host = record {
  leaves = record { later = omega arith; each = λ image left. only_now host image left; earlier = λ t image le left. inl left };
  ends = refl;
}

-- one deed
pub one_act : (book : Book) (seats : List Seal) (deed : Deed) (done : Bool) (old new : Honest) → SparesOthers deed old new → Owes seats deed done (book (subject deed)) old new
    → DidAll book seats (record { deed = deed; done = done } ∷ []) (seats_after deed done seats) old new
one_act book seats deed done old new spares owes =
    (old, new, seats_after deed done seats, unchanged_now old, record { spares = spares; owes = owes; seats = seats_are deed done seats }, (unchanged_now new, λ seat has. has))

pub one_spares : (seats : List Seal) (deed : Deed) (done : Bool) → SparesSeats (record { deed = deed; done = done } ∷ []) seats (seats_after deed done seats)
one_spares seats deed done seat has apart = seats_stay deed done seats seat has (λ named. apart (inl named))

-- A call that changed nothing. The session after it is whole only where it was before, and stands on the same sheet.
pub record Idles (old new : SessionState) (a b : Honest) : Type 0 where
  pub unchanged : Unchanged a b
  pub key_is : new.key ≡ old.key
  pub name_is : new.name ≡ old.name
  pub whole : new.broken ≡ false → old.broken ≡ false
  pub kept : (base : Sheet) → IsKeptOn base old → Stood old.key old.name base a.now → new.broken ≡ false → IsKeptOn base new

pub idle_covers_on : (old new : SessionState) (a b : Honest) → Idles old new a b → (book : Book) (seats : List Seal) → Agrees book seats a.now → (sheet : Sheet) → CoversOn sheet old book seats → CoversOn sheet new book seats
idle_covers_on old new a b idles book seats agrees sheet on entry whole is =
    let was : book old.name ≡ Some entry = sym (ap book idles.name_is) ∙ is in
    let seat = on entry (idles.whole whole) was in
    let stands = agrees.stand (seat_of old.key old.name sheet) entry seat.0 was in (
      subst (λ (k : List ℕ). Contains seats (seat_of k new.name sheet)) (sym idles.key_is) (subst (λ (n : Name). Contains seats (seat_of old.key n sheet)) (sym idles.name_is) seat.0),
      idles.kept sheet seat.1 stands.stood whole,
    )

pub idle_covers : (old new : SessionState) (a b : Honest) → Idles old new a b → (book : Book) (seats : List Seal) → Agrees book seats a.now → Covers old book seats → Covers new book seats
idle_covers old new a b idles book seats agrees covers entry whole is =
    let seat = covers entry (idles.whole whole) (sym (ap book idles.name_is) ∙ is) in
    let on = idle_covers_on old new a b idles book seats agrees seat.0 (λ entry2 whole2 is2. (seat.1, seat.2)) entry whole is in
    (seat.0, on.0, on.1)

pub idle_keeps : (old new : SessionState) (a b : Honest) (concerns : Name → Type 0) → Idles old new a b → KeepsUnder (Covers old) (Covers new) concerns a b
idle_keeps old new a b concerns idles book seats agrees reads covers =
    ([], seats, (idles.unchanged, λ seat has. has), idle_covers old new a b idles book seats agrees covers, λ seat has apart. has, λ name none. absurd none)

-- only reads
pub only_reads : (covering : Covering) (a b : Honest) (concerns : Name → Type 0) → Unchanged a b → KeepsUnder covering covering concerns a b
only_reads covering a b concerns unchanged book seats agrees reads covers = ([], seats, (unchanged, λ seat has. has), covers, λ seat has apart. has, λ name none. absurd none)

-- where there is no session after it
pub lets_go : (before : Covering) (a b : Honest) (concerns : Name → Type 0) → Unchanged a b → KeepsUnder before CoversNone concerns a b
lets_go before a b concerns unchanged book seats agrees reads covers = ([], seats, (unchanged, λ seat has. has), tt, λ seat has apart. has, λ name none. absurd none)

-- the sheet that was sealed on another one
pub record SealsOn (done : Bool) (old new : SessionState) (base : Sheet) (a b : Honest) : Type 0 where
  pub next : Sheet
  pub path_is : next.path ≡ old.name
  pub sealed : Where (Stood old.key old.name base) (Ran (AsEither old.key old.name base next) (StoodIf done old.key old.name next)) a b
  pub on_next : done ≡ true → new.broken ≡ false → Stood old.key old.name base a.now → IsKeptOn next new

-- A call of a whole session that flushed it, or failed in the flush. After a flush it may have read.
pub record SealsOnce (done : Bool) (old new : SessionState) (a b : Honest) : Type 0 where
  pub others : Ran (LeavesApart old.name) (KeepsApart old.name) a b
  pub reads : IsImage b.now (reading b.now)
  pub whole : old.broken ≡ false
  pub key_is : new.key ≡ old.key
  pub name_is : new.name ≡ old.name
  pub fails : done ≡ false → new.broken ≡ true
  pub seals : (base : Sheet) → IsLinked base → IsBacked base old → SealsOn done old new base a b

-- any sheet
abbrev pub no_sheet : Sheet
no_sheet = record { path = []; nonce = []; content = []; nodes = [] }

-- one flush of a name
abbrev pub one_flush : Bool → List ℕ → Name → Sheet → List Act
one_flush done key name sheet = record { deed = Flush (seat_of key name sheet); done = done } ∷ []

-- Under a book such a call is one flush, and the session after it is covered.
abbrev pub SealsAs : Bool → SessionState → SessionState → Book → List Seal → Honest → Honest → Sheet → Type 0
SealsAs done old new book seats a b sheet =
    let left = seats_after (Flush (seat_of old.key old.name sheet)) done seats in
    DidAll book seats (one_flush done old.key old.name sheet) left a b × CoversOn sheet new (booked_all (one_flush done old.key old.name sheet) book) left

-- what such a call sealed on a sheet
pub record SealedFrom (done : Bool) (old new : SessionState) (a b : Honest) (once : SealsOnce done old new a b) (base sheet : Sheet) : Type 0 where
  pub linked : IsLinked base
  pub backed : IsBacked base old
  pub stood : Stood old.key old.name base a.now
  pub is_next : sheet ≡ (once.seals base linked backed).next

pub seal_on : (done : Bool) (old new : SessionState) (a b : Honest) → IsTarget old.name → (once : SealsOnce done old new a b) → (book : Book) (seats : List Seal) → Agrees book seats a.now → (base : Sheet) → CoversOn base old book seats
    → (sheet : Sheet) × SealsAs done old new book seats a b sheet × ((entry : Entry) → book old.name ≡ Some entry → SealedFrom done old new a b once base sheet)
seal_on done old new a b target once book seats agrees base on_base = by_entry (book old.name) refl
  where
    spares : (sheet : Sheet) → SparesOthers (Flush (seat_of old.key old.name sheet)) a b
    spares sheet = record { targets = target; others = once.others; reads = once.reads }

    by_entry : (o : Option Entry) → book old.name ≡ o → (sheet : Sheet) × SealsAs done old new book seats a b sheet × ((entry : Entry) → book old.name ≡ Some entry → SealedFrom done old new a b once base sheet)
    by_entry None was =
        let seal = seat_of old.key old.name no_sheet in (
          no_sheet,
          (
            one_act book seats (Flush seal) done a b (spares no_sheet) (subst (λ (o : Option Entry). Owes seats (Flush seal) done o a b) (sym was) tt),
            λ entry whole is.
                let e : None ≡ Some entry = sym was ∙ sym (ap book once.name_is) ∙ sym (ap (λ (o : Option Entry). flushed seal done o book new.name) was) ∙ is in
                absurd (cc),
          ),
          λ entry is. let e : None ≡ Some entry = sym was ∙ is in absurd (cc),
        )
    by_entry (Some entry) was =
        let seat = on_base entry once.whole was in
        let stood = (agrees.stand (seat_of old.key old.name base) entry seat.0 was).stood in
        let on = once.seals base stood.as_sheet.stands.linked seat.1.backed in
        let seal = seat_of old.key old.name on.next in (
          on.next,
          (
            one_act book seats (Flush seal) done a b (spares on.next)
                (subst (λ (o : Option Entry). Owes seats (Flush seal) done o a b) (sym was) (base, seat.0, record { path_is = on.path_is; sealed = on.sealed })),
            λ entry2 whole is. covered done refl on stood whole,
          ),
          λ entry2 is. record { linked = stood.as_sheet.stands.linked; backed = seat.1.backed; stood = stood; is_next = refl },
        )
      where
        covered : (d : Bool) → done ≡ d → (on : SealsOn done old new base a b) → Stood old.key old.name base a.now → new.broken ≡ false
            → Contains (seats_after (Flush (seat_of old.key old.name on.next)) done seats) (seat_of new.key new.name on.next) × IsKeptOn on.next new
        covered true is on stood whole =
            let seal = seat_of old.key old.name on.next in (
              subst (λ (e : Bool). Contains (seats_after (Flush seal) e seats) (seat_of new.key new.name on.next)) (sym is)
                  (subst (λ (k : List ℕ). Contains (seats_after (Flush seal) true seats) (seat_of k new.name on.next)) (sym once.key_is)
                  (subst (λ (n : Name). Contains (seats_after (Flush seal) true seats) (seat_of old.key n on.next)) (sym once.name_is) (seat_is_left (Flush seal) seats))),
              on.on_next is whole stood,
            )
        covered false is on stood whole = let e : true ≡ false = sym (once.fails is) ∙ whole in absurd (cc)

seal_does : (done : Bool) (old new : SessionState) (a b : Honest) → IsTarget old.name → SealsOnce done old new a b → (book : Book) (seats : List Seal) → Agrees book seats a.now → Covers old book seats
    → (sheet : Sheet) × SealsAs done old new book seats a b sheet
seal_does done old new a b target once book seats agrees covers = by_entry (book old.name) refl
  where
    on_sheet : (base : Sheet) → CoversOn base old book seats → (sheet : Sheet) × SealsAs done old new book seats a b sheet
    on_sheet base on = let sealed = seal_on done old new a b target once book seats agrees base on in (sealed.0, sealed.1)

    by_entry : (o : Option Entry) → book old.name ≡ o → (sheet : Sheet) × SealsAs done old new book seats a b sheet
    by_entry None was = on_sheet no_sheet (λ entry whole is. let e : None ≡ Some entry = sym was ∙ is in absurd (cc))
    by_entry (Some entry) was = let seat = covers entry once.whole was in on_sheet seat.0 (λ entry2 whole is. (seat.1, seat.2))

pub seal_keeps : (done : Bool) (old new : SessionState) (a b : Honest) → IsTarget old.name → SealsOnce done old new a b → KeepsUnder (Covers old) (Covers new) (λ name. name ≡ old.name) a b
seal_keeps done old new a b target once book seats agrees reads covers =
    let does = seal_does done old new a b target once book seats agrees covers in
    let deed : Deed = Flush (seat_of old.key old.name does.0) in
    (one_flush done old.key old.name does.0, seats_after deed done seats, does.1.0, λ entry whole is. let on = does.1.1 entry whole is in (does.0, on.0, on.1), one_spares seats deed done, only_it does.0)
  where
    only_it : (sheet : Sheet) (name : Name) → Among (one_flush done old.key old.name sheet) name → name ≡ old.name
    only_it sheet name (inl is) = is
    only_it sheet name (inr none) = absurd none

-- a session that is let go at the end
pub letting_go : (before after : Covering) (a b : Honest) (concerns : Name → Type 0) → KeepsUnder before after concerns a b → KeepsUnder before CoversNone concerns a b
letting_go before after a b concerns keeps book seats agrees reads covers = let kept = keeps book seats agrees reads covers in (kept.0, kept.1, kept.2, tt, kept.4, kept.5)
