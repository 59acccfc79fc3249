-- Exchanges under a book, one after the other.
use Rattle.std.proofs.Common.{◌≡◌, inl, inr, ⊎_elim, true, false, ℕ, List, [], ◌∷◌, ◌++◌, refl, sym, ◌∙◌, ap, subst, Option, Some, None}
use Rattle.std.specs.Prelude.{Contains, IsSome}
use Rattle.pf_io.specs.Disk.{IsImage, reading}
use Rattle.pf_io.specs.Host.{HostState, Both, ReadsAsImage}
use Rattle.pf_io.specs.Moments.{Honest}
use Rattle.pf_io.specs.Words.{WordsState}
use Rattle.pf_session.specs.State.{SessionState}
use Rattle.pf_script.specs.Book.{Book, Entry, Seal, Agrees}
use Rattle.pf_script.specs.BookActs.{booked_all}
use Rattle.pf_script.specs.BookDebts.{seat_of}
use Rattle.pf_script.specs.BookRuns.{NamesStay, FollowsUnder}
use Rattle.pf_script.specs.BookTurns.{ShowsUnder, no_file, of_book, other_file, IsStateUnder, DeskUnder, DeskAgrees}
use Rattle.pf_script.specs.Desk.{DeskState, session_at, seat_on}
use Rattle.pf_script.specs.DeskSteps.{KeepsNames}
use Rattle.pf_script.specs.Script.{OwnSeat, Seat, Own, ScriptState, seat_at}
use Rattle.pf_script.specs.ScriptRuns.{Exchange}
use Rattle.pf_script.specs.declared.line.ScriptLine.{ScriptLine}
use Rattle.pf_script.specs.declared.reply.Reply.{Reply}
use Rattle.pf_script.proofs.CallKeeping.{read_image}
use Rattle.pf_script.proofs.Composing.{all_agrees, all_leaves}
use Rattle.pf_script.proofs.DeskLooks.{looks_named}
use Rattle.pf_script.proofs.SparesAll.{did_spares}
use Rattle.pf_script.proofs.Under.{LooksLike, looks_like}

pub under_as : {E F : Book → ScriptState → Honest → Type 0} (book : Book) (state : ScriptState) (xs : List Exchange) (disk : Honest) → ((b : Book) (s : ScriptState) (d : Honest) → E b s d → F b s d) → FollowsUnder book state xs disk E → FollowsUnder book state xs disk F
under_as book state [] disk go ends = go book state disk ends
under_as book state (x ∷ xs) disk go follows = (follows.0, follows.1, follows.2, follows.3, follows.4, under_as (booked_all follows.0 book) follows.2 xs follows.3 go follows.5)

-- some exchanges, and then others
pub under_on : (E : Book → ScriptState → Honest → Type 0) (book : Book) (state : ScriptState) (xs ys : List Exchange) (disk : Honest) → FollowsUnder book state xs disk (λ b s d. FollowsUnder b s ys d E) → FollowsUnder book state (xs ++ ys) disk E
under_on E book state [] ys disk follows = follows
under_on E book state (x ∷ xs) ys disk follows = (follows.0, follows.1, follows.2, follows.3, follows.4, under_on E (booked_all follows.0 book) follows.2 xs ys follows.3 follows.5)

-- The book, the state and the disk are those of a desk on a host.
pub record IsUnder (desk : DeskState) (host : HostState) (book : Book) (state : ScriptState) (disk : Honest) : Type 0 where
  pub seats : List Seal
  pub agrees : Agrees book seats disk.now
  pub image : IsImage disk.now (reading disk.now)
  pub is_state : IsStateUnder book seats state desk
  pub is_disk : host.honest ≡ Some disk

pub own_same : (shown own : OwnSeat) → Own shown ≡ Own own → shown ≡ own
own_same shown own same = cc

pub none_some : (o : Option Entry) → o ≡ None → IsSome o → ⊥
none_some o none has = absurd (cc)

-- the names of the seats that show a desk's
names_stay : (line : ScriptLine) (d0 d1 : DeskState) (state after : ScriptState) → ((k : ℕ) → LooksLike (session_at d0 k) (seat_at state k)) → ((k : ℕ) → LooksLike (session_at d1 k) (seat_at after k)) → KeepsNames line d0 d1 → NamesStay line state after
names_stay line d0 d1 state after was is keeps k name has =
    ⊎_elim (λ before. inl ((looks_named (seat_at state k) (session_at d0 k) name (was k)).0 before)) (λ given. inr given) (keeps k name ((looks_named (seat_at after k) (session_at d1 k) name (is k)).1 has))

-- a whole seat on a name of the book is one of its seats
pub one_seated : (book : Book) (seats : List Seal) (seat : Seat) (session : Option SessionState) (own : OwnSeat) → ShowsUnder book seats seat session → seat ≡ Own own → own.broken ≡ false → IsSome (book own.name) → Contains seats (seat_of own.key own.name own.sheet)
one_seated book seats seat session own (no_file is none) same whole has = absurd (cc)
one_seated book seats seat session own (of_book sheet s is_whole seated kept is some) same whole has = subst (λ (o : OwnSeat). Contains seats (seat_of o.key o.name o.sheet)) (own_same (seat_on sheet s) own (sym is ∙ same)) seated
one_seated book seats seat session own (other_file shown s (inl broken) key_is name_is broken_is is some) same whole has =
    let one = own_same shown own (sym is ∙ same) in
    let e : true ≡ false = sym broken ∙ sym broken_is ∙ ap (λ (o : OwnSeat). o.broken) one ∙ whole in
    absurd (cc)
one_seated book seats seat session own (other_file shown s (inr none) key_is name_is broken_is is some) same whole has =
    let one = own_same shown own (sym is ∙ same) in
    absurd (none_some (book own.name) (ap book (sym (ap (λ (o : OwnSeat). o.name) one) ∙ name_is) ∙ none) has)

-- a line that was replied to
pub one_under : (line : ScriptLine) (reply : Reply) (d0 d1 : DeskState) (h0 h1 : HostState) (r0 r1 : WordsState) (agrees : DeskAgrees line reply d0 d1 h0 h1 r0 r1) → KeepsNames line d0 d1 → ReadsAsImage h1 → (book : Book) (state : ScriptState) (disk : Honest) → IsUnder d0 h0 book state disk
    → FollowsUnder book state (record { line = line; seen = agrees.seen; reply = reply } ∷ []) disk (IsUnder d1 h1)
one_under line reply d0 d1 h0 h1 r0 r1 agrees keeps image book state disk is =
    let last = some_disk h0.honest h1.honest is.is_disk agrees.under in
    let under : DeskUnder line agrees.seen reply d0 d1 disk last.0 = last.2 in
    let turn = under book is.seats state is.agrees is.image is.is_state in (
      turn.acts,
      turn.left,
      turn.after,
      last.0,
      record {
        seats = is.seats;
        began = λ k own. one_seated book is.seats (seat_at state k) (session_at d0 k) own (is.is_state.shows k);
        agreed = is.agrees;
        did = turn.did;
        leaves = all_leaves book is.seats turn.acts turn.left disk last.0 is.agrees is.image turn.did;
        spares = did_spares book is.seats turn.acts turn.left disk last.0 turn.did;
        agrees = all_agrees book is.seats turn.acts turn.left disk last.0 is.agrees is.image turn.did;
        seated = λ k own. one_seated (booked_all turn.acts book) turn.left (seat_at turn.after k) (session_at d1 k) own (turn.is_state.shows k);
        on_seat = turn.on_seat;
        named = names_stay line d0 d1 state turn.after (λ k. looks_like book is.seats (seat_at state k) (session_at d0 k) (is.is_state.shows k))
            (λ k. looks_like (booked_all turn.acts book) turn.left (seat_at turn.after k) (session_at d1 k) (turn.is_state.shows k)) keeps;
        turn = turn.turn;
      },
      record {
        seats = turn.left;
        agrees = all_agrees book is.seats turn.acts turn.left disk last.0 is.agrees is.image turn.did;
        image = read_image h1.honest last.0 last.1 image;
        is_state = turn.is_state;
        is_disk = last.1;
      },
    )
  where
    some_disk : (o p : Option Honest) → o ≡ Some disk → Both o p (DeskUnder line agrees.seen reply d0 d1) → (b : Honest) × (p ≡ Some b) × DeskUnder line agrees.seen reply d0 d1 disk b
    some_disk (Some a) (Some b) same both = let e : a ≡ disk = cc in (b, refl, subst (λ (z : Honest). DeskUnder line agrees.seen reply d0 d1 z b) e both)
    some_disk (Some a) None same both = absurd both
    some_disk None p same both = absurd (cc)
