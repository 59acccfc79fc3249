-- What a session does under a book with which it may begin.
use Rattle.std.proofs.Common.{◌≡◌, inl, inr, ⊎_elim, ℕ, true, false, List, [], refl, sym, ◌∙◌, ap, subst, Option, Some, None, Err}
use Rattle.std.specs.Prelude.{IfSome, IsSome, IsSomeAnd}
use Rattle.std.specs.List.{flat_map}
use Rattle.pf_io.specs.Disk.{Name, Disk, IsImage, reading}
use Rattle.pf_io.specs.Host.{HostState, Both, ReadsAsImage}
use Rattle.pf_io.specs.Moments.{Honest}
use Rattle.pf_io.specs.Unchanged.{KeepsDisk}
use Rattle.pf_io.specs.Words.{WordsState}
use Rattle.pf_io.specs.declared.faults.Memory.{Memory}
use Rattle.node_tree.specs.Backing.{now}
use Rattle.node_tree.specs.Sheet.{Sheet}
use Rattle.pf_session.specs.State.{SessionState}
use Rattle.pf_script.specs.Book.{Book, Entry, Seal, Agrees}
use Rattle.pf_script.specs.BookActs.{Act}
use Rattle.pf_script.specs.BookDebts.{Unchanged}
use Rattle.pf_script.specs.BookLaws.{StartsWith}
use Rattle.pf_script.specs.BookRuns.{AreSeated, FollowsUnder}
use Rattle.pf_script.specs.BookSeats.{CoversOn}
use Rattle.pf_script.specs.BookTurns.{ShowsUnder, no_file, of_book, other_file}
use Rattle.pf_script.specs.Desk.{DeskState, session_at, seat_on}
use Rattle.pf_script.specs.DeskSteps.{IsChange, BreaksSeat, AreFlushes, Admits, SealsOnly, FlushesUnder, DeskGoes}
use Rattle.pf_script.specs.Script.{OwnSeat, Seat, Empty, Own, ScriptState, seat_at}
use Rattle.pf_script.specs.Words.{SEATS}
use Rattle.pf_script.specs.declared.line.ScriptLine.{ScriptLine}
use Rattle.pf_script.proofs.ActKeeping.{unchanged_now}
use Rattle.pf_script.proofs.BookRunning.{IsUnder, own_same, none_some, under_as, one_seated}
use Rattle.pf_script.proofs.CallKeeping.{at_both}
use Rattle.pf_script.proofs.Composing.{all_agrees, all_leaves}
use Rattle.pf_script.proofs.SparesAll.{did_spares}
use Rattle.pf_script.proofs.Starting.{starts}
use Rattle.pf_script.proofs.Under.{LooksLike, looks_like}
use Rattle.pf_tool.specs.BookScripts.{AreClosings, StopsUnder, RunsUnder}
use Rattle.pf_tool.specs.Scripting.{At, begins}
use Rattle.pf_tool.specs.Transcripts.{Transcript, exchange_of, empty_seats}
use Rattle.pf_tool.specs.World.{World}
use Rattle.pf_tool.proofs.ScriptContent.{same_all}
use Rattle.pf_tool.proofs.ScriptUnder.{Under}

-- the seats of a state are those of its desk
began_seated : (desk : DeskState) (host : HostState) (book : Book) (state : ScriptState) (d : Honest) → (is : IsUnder desk host book state d) → AreSeated book state is.seats
began_seated desk host book state d is k own = one_seated book is.seats (seat_at state k) (session_at desk k) own (is.is_state.shows k)

-- The disk stayed behind the last exchange.
stops_still : (starved : ScriptLine → Type 0) (desk : DeskState) (host : HostState) (book : Book) (state : ScriptState) (d b : Honest) → IsUnder desk host book state d → Unchanged d b → StopsUnder starved book state d b
stops_still starved desk host book state d b is unchanged = record {
  acts = [];
  seats = is.seats;
  left = is.seats;
  began = began_seated desk host book state d is;
  agreed = is.agrees;
  did = (unchanged, λ seat has. has);
  leaves = all_leaves book is.seats [] is.seats d b is.agrees is.image (unchanged, λ seat has. has);
  spares = did_spares book is.seats [] is.seats d b (unchanged, λ seat has. has);
  agrees = all_agrees book is.seats [] is.seats d b is.agrees is.image (unchanged, λ seat has. has);
  none = inl (refl, began_seated desk host book state d is);
}

-- nothing was done
pub stops_idle : (starved : ScriptLine → Type 0) (desk : DeskState) (host after : HostState) (book : Book) (state : ScriptState) (d b : Honest) → IsUnder desk host book state d → after.honest ≡ Some b → after ≡ host → StopsUnder starved book state d b
stops_idle starved desk host after book state d b is at_end same =
    let e : Some d ≡ Some b = sym is.is_disk ∙ ap (λ (h : HostState). h.honest) (sym same) ∙ at_end in
    let one : d ≡ b = cc in
    stops_still starved desk host book state d b is (subst (λ (z : Honest). Unchanged d z) one (unchanged_now d))

held_same : (one other : SessionState) → ◌≡◌ {A = Option SessionState} (Some one) (Some other) → one ≡ other
held_same one other same = cc

-- a seat that shows a session on which no rule refuses a line
record Admitted (line : ScriptLine) (seat : Seat) (session : Option SessionState) : Type 0 where
  own : OwnSeat
  is_own : seat ≡ Own own
  held : SessionState
  is_held : session ≡ Some held
  name_is : own.name ≡ held.name
  whole : own.broken ≡ false

admitted_own : (line : ScriptLine) (seat : Seat) (session : Option SessionState) → LooksLike session seat → IsSomeAnd session (Admits line) → Admitted line seat session
admitted_own line seat None looks admits = absurd admits
admitted_own line seat (Some s) looks admits = record { own = looks.shown; is_own = looks.seat_is; held = s; is_held = refl; name_is = looks.name_is; whole = looks.broken_is ∙ admits.whole }

-- The sheet on which the session of a seat stands, where the book speaks of it: the content that the seat shows is that of the session.
record OnSheet (book : Book) (seats : List Seal) (own : OwnSeat) (held : SessionState) : Type 0 where
  sheet : Sheet
  covers : CoversOn sheet held book seats
  shows : IsSome (book own.name) → own.broken ≡ false → (held.broken ≡ false) × (own.content ≡ now sheet held.tree)

on_sheet : (book : Book) (seats : List Seal) (seat : Seat) (session : Option SessionState) (own : OwnSeat) (held : SessionState) → ShowsUnder book seats seat session → seat ≡ Own own → session ≡ Some held → OnSheet book seats own held
on_sheet book seats seat session own held (no_file empty none) is_own is_held = let e : Empty ≡ Own own = sym empty ∙ is_own in absurd (cc)
on_sheet book seats seat session own held (of_book sheet s whole contains kept seat_is own_is) is_own is_held =
    let one = own_same (seat_on sheet s) own (sym seat_is ∙ is_own) in
    let same = held_same s held (sym own_is ∙ is_held) in
    subst (λ (h : SessionState). OnSheet book seats own h) same
    (subst (λ (o : OwnSeat). OnSheet book seats o s) one
    (record { sheet = sheet; covers = λ entry whole2 is. (contains, kept); shows = λ some whole2. (whole, refl) }))
on_sheet book seats seat session own held (other_file shown s why key_is name_is broken_is seat_is own_is) is_own is_held =
    let one = own_same shown own (sym seat_is ∙ is_own) in
    let same = held_same s held (sym own_is ∙ is_held) in
    subst (λ (h : SessionState). OnSheet book seats own h) same
    (subst (λ (o : OwnSeat). OnSheet book seats o s) one
    (record {
      sheet = shown.sheet;
      covers = λ entry whole is. ⊎_elim (λ broken. off broken whole) (λ none. let e : None ≡ Some entry = sym none ∙ is in absurd (cc)) why;
      shows = λ some whole. ⊎_elim (λ broken. off broken (sym broken_is ∙ whole)) (λ none. absurd (none_some (book shown.name) (ap book name_is ∙ none) some)) why;
    }))
  where
    off : {X : Type 0} → s.broken ≡ true → s.broken ≡ false → X
    off broken whole = let e : true ≡ false = sym broken ∙ whole in absurd (cc)

some_entry : (o : Option Entry) → IsSome o → (entry : Entry) × (o ≡ Some entry)
some_entry (Some entry) has = (entry, refl)
some_entry None has = absurd (none_some None refl has)

-- there was no memory for a line
pub stops_wanting : (starved : ScriptLine → Type 0) (line : ScriptLine) → (IsChange line → starved line) → (none : Memory) (d0 d1 : DeskState) (h0 h1 after : HostState) (r0 r1 : WordsState) (book : Book) (state : ScriptState) (d b : Honest) → IsUnder d0 h0 book state d
    → DeskGoes line (Err none) d0 d1 h0 h1 r0 r1 → after.honest ≡ Some b → after ≡ h1 → StopsUnder starved book state d b
stops_wanting starved line is_starved none d0 d1 h0 h1 after r0 r1 book state d b is goes at_end same =
    ⊎_elim (λ nothing. stops_still starved d0 h0 book state d b is (at_both Unchanged h0.honest h1.honest d b is.is_disk at_last nothing.disk)) (λ breaks. changed breaks) goes.wants.ends
  where
    at_last : h1.honest ≡ Some b
    at_last = ap (λ (h : HostState). h.honest) (sym same) ∙ at_end

    changed : BreaksSeat line d0 d1 → StopsUnder starved book state d b
    changed breaks =
        let k = breaks.seat in
        let seat = admitted_own line (seat_at state k) (session_at d0 k) (looks_like book is.seats (seat_at state k) (session_at d0 k) (is.is_state.shows k)) breaks.admitted in
        let flushes : FlushesUnder line seat.held d b =
        at_both (FlushesUnder line seat.held) h0.honest h1.honest d b is.is_disk at_last (goes.wants.flushes k seat.held breaks.is_seat seat.is_held) in
        let on = on_sheet book is.seats (seat_at state k) (session_at d0 k) seat.own seat.held (is.is_state.shows k) seat.is_own seat.is_held in
        let did = flushes book is.seats is.agrees is.image on.sheet on.covers in
        record {
          acts = did.0;
          seats = is.seats;
          left = did.1;
          began = began_seated d0 h0 book state d is;
          agreed = is.agrees;
          did = did.2;
          leaves = all_leaves book is.seats did.0 did.1 d b is.agrees is.image did.2;
          spares = did_spares book is.seats did.0 did.1 d b did.2;
          agrees = all_agrees book is.seats did.0 did.1 d b is.agrees is.image did.2;
          none = inr (
            line,
            is_starved breaks.change,
            record {
              k = k;
              own = seat.own;
              is_seat = breaks.is_seat;
              is_own = seat.is_own;
              flushes = subst (λ (n : Name). AreFlushes n did.0) (sym seat.name_is) did.3;
              spares = did.4;
              whole = seat.whole;
              seals = sealed seat on did.0 did.5;
            },
          );
        }
      where
        sealed : {s : Seat} {o : Option SessionState} (seat : Admitted line s o) (on : OnSheet book is.seats seat.own seat.held) (acts : List Act)
            → ((entry : Entry) → seat.held.broken ≡ false → book seat.held.name ≡ Some entry → SealsOnly line (now on.sheet seat.held.tree) acts) → IsSome (book seat.own.name) → SealsOnly line seat.own.content acts
        sealed seat on acts seals has =
            let entry = some_entry (book seat.own.name) has in
            let shows = on.shows has seat.whole in
            subst (λ (c : List ℕ). SealsOnly line c acts) (sym shows.1) (seals entry.0 shows.0 (ap book (sym seat.name_is) ∙ entry.1))

-- from empty seats
begun_under : (user : List ℕ) (begun : World) (book : Book) (s : Honest) → Agrees book [] s.now → IsImage s.now (reading s.now) → begun.host.honest ≡ Some s → IsUnder (begins user begun).desk begun.host book (empty_seats user []) s
begun_under user begun book s agrees image is = record {
  seats = [];
  agrees = agrees;
  image = image;
  is_state = record { key_is = refl; eight = refl; shows = λ k. no_file (same_all SEATS k Empty) (same_all SEATS k None) };
  is_disk = is;
}

-- the exchanges of the lines, then those of the closings, and how they stop
pub runs_under : (starved : ScriptLine → Type 0) (user : List ℕ) (transcript : Transcript) (begun : World) (read : At) (before : HostState) (book : Book) (a b : Honest) → before.honest ≡ Some a → ReadsAsImage before → StartsWith book a.now → KeepsDisk before begun.host
    → Under (flat_map exchange_of transcript.items) (begins user begun) read
    → ((later : Book) (state : ScriptState) (mid : Honest) → IsUnder read.desk read.world.host later state mid → AreClosings transcript state × FollowsUnder later state transcript.closed mid (λ last after end. StopsUnder starved last after end b))
    → RunsUnder user transcript starved book a b
runs_under starved user transcript begun read before book a b is reads start kept under closes = by_disk before.honest begun.host.honest is refl kept reads
  where
    by_disk : (o p : Option Honest) → o ≡ Some a → begun.host.honest ≡ p → Both o p Unchanged → IfSome o (λ host. IsImage host.now (reading host.now)) → RunsUnder user transcript starved book a b
    by_disk (Some c) (Some s) same at both image =
        let one : c ≡ a = cc in
        let unchanged : Unchanged a s = subst (λ (z : Honest). Unchanged z s) one both in
        let well : IsImage a.now (reading a.now) = subst (λ (z : Honest). IsImage z.now (reading z.now)) one image in
        let agrees = starts book a.now start in
        let agrees_s = all_agrees book [] [] [] a s agrees well (unchanged, λ seat has. has) in
        record {
          start = s;
          reads = unchanged;
          agrees = agrees_s;
          follows = under_as book (empty_seats user []) (flat_map exchange_of transcript.items) s (λ later state mid is_mid. closes later state mid is_mid)
              (under.follows book (empty_seats user []) s (begun_under user begun book s agrees_s (subst (λ (x : Disk). IsImage x (reading x)) (sym unchanged.ends) well) at));
        }
    by_disk (Some c) None same at both image = absurd both
    by_disk None p same at both image = absurd (cc)
