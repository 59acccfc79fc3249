-- A line on one seat of a desk, as one on the desk.
use Rattle.std.proofs.Common.{◌≡◌, ◌≢◌, ◌⊎◌, inl, inr, ⊎_elim, Bool, true, false, List, [], ◌++◌, ℕ, ◌<◌, refl, sym, ◌∙◌, ap, subst, Option, Some, None, Result, Ok, Err, set, length}
use Rattle.std.specs.Prelude.{IsTrue, ◌↔◌, IfSome, IsSomeAnd}
use Rattle.std.proofs.lemmas.Bool.Decides.{eqb_tells}
use Rattle.std.proofs.lemmas.List.{get_or-set_same, get_or-set_other, length-set}
use Rattle.std.proofs.lemmas.Option.{IfSome_then}
use Rattle.node_tree.specs.Sheet.{Sheet}
use Rattle.pf_io.specs.Disk.{Name}
use Rattle.pf_io.specs.Host.{Answer, HostState, WhereTold, OnDisk}
use Rattle.pf_io.specs.Moments.{Honest}
use Rattle.pf_io.specs.Words.{WordsState}
use Rattle.pf_io.specs.declared.faults.Memory.{Memory}
use Rattle.pf_io.proofs.Telling.{told_weaker, both_weaker}
use Rattle.pf_session.specs.State.{SessionState}
use Rattle.pf_script.specs.Book.{Book, Seal}
use Rattle.pf_script.specs.BookActs.{Act}
use Rattle.pf_script.specs.BookSeats.{Covers, CoversEach, CoversBoth, KeepsUnder}
use Rattle.pf_script.specs.Desk.{DeskState, session_at, IsSeated, IsSeatOf, IsLikeDesk, IsDesk, Shows, IsStateOf}
use Rattle.pf_script.specs.DeskSteps.{MaySeal, Unfolds, in_the_end, then_more, SomeSeatTurn, SomeTurn, TurnsTo, SeatAsks, SeatCaused, DeskCaused, LeavesSeat, AsksFew, Asks, IsChange, Admits, HasItsName, OtherHas, Concerns, ConcernsDesk, CoversSome, CoversDesk, KeepsNames, KeepsSession, NothingDone, IsBrokenSession, BreaksSeat, StillShows, SeatStillShows, DeskStillShows, SeatIdle, FlushesUnder, SeatWants, Wants, WhereWanting, WhereReplied, SeatGoes, DeskGoes}
use Rattle.pf_script.specs.Script.{Seat, Empty, ScriptState, seat_at, IsTaken, state_with, seat_of_line, name_of_line}
use Rattle.pf_script.specs.Turns.{Seen, SeatTurn, Caused, Turn, on_seat, on_carried, SaysTaken}
use Rattle.pf_script.specs.Words.{SEATS}
use Rattle.pf_script.specs.declared.line.ScriptLine.{ScriptLine}
use Rattle.pf_script.specs.declared.reply.Reply.{Reply}
use Rattle.pf_script.specs.declared.reply.Reply.TheVariants as replies
use Rattle.pf_script.proofs.Liking.{like_state, like_name}
use Rattle.pf_script.proofs.Refusing.{keeps_same}
use Rattle.pf_script.proofs.Showing.{shows_more}
use Rattle.pf_script.proofs.Sparing.{spares_more}
use Rattle.pf_script.proofs.StepKeeping.{keeps_more, others_too, covers_less}

-- a seat is the k-th, or another one
pub same_or_not : (j k : ℕ) → (j ≡ k) ⊎ (j ≢ k)
same_or_not j k = ⊎_elim (λ e. inl e.1) (λ e. inr e.1) (eqb_tells j k)

-- what follows from what holds in the end
pub unfolds_as : {key : List ℕ} {sealed : List Sheet} {May P Q : List Act → Type 0} {given : List Answer} (acts : List Act) → Unfolds key sealed May P given acts → ((acts : List Act) → P acts → Q acts) → Unfolds key sealed May Q given acts
unfolds_as {key} {sealed} {May} {P} {Q} {given} _ (in_the_end acts ends) go = in_the_end acts (λ unforged. go acts (ends unforged))
unfolds_as {key} {sealed} {May} {P} {Q} {given} _ (then_more acts more these rest split may on) go = then_more acts more these rest split may (λ unforged. unfolds_as (acts ++ more) (on unforged) go)

-- what may be sealed may be by another account
unfolds_where : {key : List ℕ} {sealed : List Sheet} {May Also P : List Act → Type 0} {given : List Answer} (acts : List Act) → Unfolds key sealed May P given acts → ((acts : List Act) → May acts → Also acts) → Unfolds key sealed Also P given acts
unfolds_where {key} {sealed} {May} {Also} {P} {given} _ (in_the_end acts ends) also = in_the_end acts ends
unfolds_where {key} {sealed} {May} {Also} {P} {given} _ (then_more acts more these rest split may on) also =
    then_more acts more these rest split (⊎_elim (λ none. inl none) (λ some. inr (also (acts ++ more) some)) may) (λ unforged. unfolds_where (acts ++ more) (on unforged) also)

no_true : ¬ (IsTrue false)
no_true is = absurd (cc)

covers_at : (o : Option SessionState) (book : Book) (seats : List Seal) → ((s : SessionState) → o ≡ Some s → Covers s book seats) → CoversSome o book seats
covers_at None book seats each = tt
covers_at (Some s) book seats each = each s refl

covers_of : (o : Option SessionState) (s : SessionState) (book : Book) (seats : List Seal) → o ≡ Some s → CoversSome o book seats → Covers s book seats
covers_of o s book seats is covers = subst (λ (x : Option SessionState). CoversSome x book seats) is covers

seated_of : (key : List ℕ) (o : Option SessionState) (s : SessionState) → o ≡ Some s → IsSeatOf key o → IsSeated key s
seated_of key o s is seated = subst (λ (x : Option SessionState). IsSeatOf key x) is seated

pub has_name_of : (o : Option SessionState) (s : SessionState) → o ≡ Some s → HasItsName o s.name
has_name_of o s is = subst (λ (x : Option SessionState). HasItsName x s.name) (sym is) refl

-- the name that a line gives is taken where another seat has it
abbrev pub SaysOther : DeskState → ℕ → Option Name → Bool → Type 0
SaysOther old k given taken = IfSome given (λ name. IsTrue taken ↔ OtherHas old k name)

module _ (old : DeskState) (desk : IsDesk old) (k : ℕ) (below : k < SEATS) (taken : Bool) (line : ScriptLine) (names : seat_of_line line ≡ Some k) (says : SaysOther old k (name_of_line line) taken) (left : Option SessionState) where
  abbrev pub new : DeskState
  new = record { key = old.key; seats = set old.seats k left }

  within : k < length old.seats
  within = subst (λ n. k < n) (sym desk.eight) below

  pub here : session_at new k ≡ left
  here = get_or-set_same old.seats k left None within

  pub there : (j : ℕ) → j ≢ k → session_at new j ≡ session_at old j
  there j apart = get_or-set_other old.seats k j left None apart

  -- another seat's name is not concerned
  pub others_apart : (j : ℕ) (s : SessionState) → j ≢ k → session_at old j ≡ Some s → ¬ (Concerns taken line (session_at old k) s.name)
  others_apart j s apart is (inl has) = apart (by_old (session_at old k) refl has)
    where
      by_old : (o : Option SessionState) → session_at old k ≡ o → HasItsName o s.name → j ≡ k
      by_old None was none = absurd none
      by_old (Some t) was same = desk.apart j k s t is was same
  others_apart j s apart is (inr gives) =
      let tells : IsTrue taken ↔ OtherHas old k s.name = subst (λ (o : Option Name). IfSome o (λ name. IsTrue taken ↔ OtherHas old k name)) gives.0 says in
      let was : IsTrue taken = tells.1 (j, apart, has_name_of (session_at old j) s is) in
      absurd (no_true (subst IsTrue gives.1 was))

  module _ (result : Result Reply Memory) (before after : HostState) (random random' : WordsState) (goes : SeatGoes old.key taken line result (session_at old k) left before after random random') where
    pub desk_after : IsDesk new
    desk_after = record {
      eight = length-set old.seats k left ∙ desk.eight;
      seated = λ j s is. ⊎_elim
          (λ e. seated_of old.key left s (sym here ∙ ap (session_at new) (sym e) ∙ is) goes.seated)
          (λ apart. desk.seated j s (sym (there j apart) ∙ is)) (same_or_not j k);
      apart = λ i j s t is is2 same. both i j s t is is2 same (same_or_not i k) (same_or_not j k);
    }
      where
        -- the seat k has no name of another
        not_here : (i j : ℕ) (s t : SessionState) → session_at new i ≡ Some s → session_at new j ≡ Some t → s.name ≡ t.name → i ≡ k → j ≢ k → ⊥
        not_here i j s t is is2 same e apart =
            others_apart j t apart (sym (there j apart) ∙ is2)
            (subst (λ n. Concerns taken line (session_at old k) n) same (goes.named s.name (has_name_of left s (sym here ∙ ap (session_at new) (sym e) ∙ is))))

        both : (i j : ℕ) (s t : SessionState) → session_at new i ≡ Some s → session_at new j ≡ Some t → s.name ≡ t.name → (i ≡ k) ⊎ (i ≢ k) → (j ≡ k) ⊎ (j ≢ k) → i ≡ j
        both i j s t is is2 same (inl e) (inl e2) = e ∙ sym e2
        both i j s t is is2 same (inl e) (inr apart) = absurd (not_here i j s t is is2 same e apart)
        both i j s t is is2 same (inr apart) (inl e) = absurd (not_here j i t s is2 is (sym same) e apart)
        both i j s t is is2 same (inr apart) (inr apart2) = desk.apart i j s t (sym (there i apart) ∙ is) (sym (there j apart2) ∙ is2) same

    -- the other seats
    abbrev Of : SessionState → Type 0
    Of s = (j : ℕ) × (j ≢ k) × (session_at old j ≡ Some s)

    -- the names that the line is concerned with
    concern_desk : (name : Name) → Concerns taken line (session_at old k) name → ConcernsDesk line old name
    concern_desk name (inl has) = inr (k, names, has)
    concern_desk name (inr gives) = inl gives.0

    books_on : (a b : Honest) → KeepsUnder (CoversSome (session_at old k)) (CoversSome left) (Concerns taken line (session_at old k)) a b → KeepsUnder (CoversDesk old) (CoversDesk new) (ConcernsDesk line old) a b
    books_on a b keeps =
        keeps_more (CoversDesk old) (CoversDesk new) (Concerns taken line (session_at old k)) (ConcernsDesk line old) a b concern_desk
        (covers_less (CoversBoth (CoversSome (session_at old k)) (CoversEach Of)) (CoversDesk old) (CoversBoth (CoversSome left) (CoversEach Of)) (CoversDesk new) (Concerns taken line (session_at old k)) a b
        (λ book seats covers. (covers_at (session_at old k) book seats (λ s is. covers k s is), λ s of. covers of.0 s of.2))
        (λ book seats covers j s is. ⊎_elim
        (λ e. covers_of left s book seats (sym here ∙ ap (session_at new) (sym e) ∙ is) covers.0)
        (λ apart. covers.1 s (j, apart, sym (there j apart) ∙ is)) (same_or_not j k))
        (others_too (CoversSome (session_at old k)) (CoversSome left) (Concerns taken line (session_at old k)) Of a b (λ s of. others_apart of.0 s of.1 of.2) keeps))

    -- the state of a script after it
    taken_by : (state : ScriptState) → IsLikeDesk state old → (name : Name) → OtherHas old k name ↔ IsTaken state k name
    taken_by state like name = (
      λ other. (other.0, other.1, (like_name (seat_at state other.0) (session_at old other.0) name (like.like other.0)).0 other.2),
      λ other. (other.0, other.1, (like_name (seat_at state other.0) (session_at old other.0) name (like.like other.0)).1 other.2),
    )

    state_says : (state : ScriptState) → IsLikeDesk state old → SaysTaken state k (name_of_line line) taken
    state_says state like = IfSome_then (name_of_line line) says (λ name tells. let by = taken_by state like name in (λ is. by.0 (tells.0 is), λ is. tells.1 (by.1 is)))

    state_after : (state : ScriptState) → IsStateOf state old → (seat : Seat) (acts : List _) → Shows (state_with state k seat acts).sealed seat left → IsStateOf (state_with state k seat acts) new
    state_after state is_state seat acts shows = record {
      key_is = is_state.key_is;
      eight = length-set state.seats k seat ∙ is_state.eight;
      shows = λ j. ⊎_elim (λ e. on_it j e) (λ apart. off_it j apart) (same_or_not j k);
    }
      where
        room : k < length state.seats
        room = subst (λ n. k < n) (sym is_state.eight) below

        on_it : (j : ℕ) → j ≡ k → Shows (state_with state k seat acts).sealed (seat_at (state_with state k seat acts) j) (session_at new j)
        on_it j e =
            subst (λ i. Shows (state_with state k seat acts).sealed (seat_at (state_with state k seat acts) i) (session_at new i)) (sym e)
            (subst (λ (x : Seat). Shows (state_with state k seat acts).sealed x (session_at new k)) (sym (get_or-set_same state.seats k seat Empty room))
            (subst (λ (o : Option SessionState). Shows (state_with state k seat acts).sealed seat o) (sym here) shows))

        off_it : (j : ℕ) → j ≢ k → Shows (state_with state k seat acts).sealed (seat_at (state_with state k seat acts) j) (session_at new j)
        off_it j apart =
            subst (λ (x : Seat). Shows (state_with state k seat acts).sealed x (session_at new j)) (sym (get_or-set_other state.seats k j seat Empty apart))
            (subst (λ (o : Option SessionState). Shows (state_with state k seat acts).sealed (seat_at state j) o) (sym (there j apart)) (shows_more state.sealed _ (seat_at state j) (session_at old j) (is_state.shows j)))

    -- a turn of the seat is one of the script
    turn_on : (state : ScriptState) → IsStateOf state old → (seen : Seen) (reply : Reply) (acts : List Act) (seat : Seat) → SeatTurn (on_carried old.key state.sealed) old.key taken (seat_at state k) line seen reply acts seat
        → Turn (on_carried state.key state.sealed) state line seen reply acts (state_with state k seat acts)
    turn_on state is_state seen reply acts seat turn =
        on_seat k taken seat names (state_says state (like_state state old is_state))
        (subst (λ (x : List ℕ). SeatTurn (on_carried x state.sealed) x taken (seat_at state k) line seen reply acts seat) (sym is_state.key_is) turn) refl

    may_on : (state : ScriptState) → IsStateOf state old → (seen : Seen) (acts : List Act) → MaySeal (SomeSeatTurn old.key state.sealed taken (seat_at state k) line) seen acts → MaySeal (SomeTurn state line) seen acts
    may_on state is_state seen acts may = record {
      front = may.front;
      back = may.back;
      failed = may.failed;
      in_order = may.in_order;
      goes = (
        state_with state k may.goes.0 may.failed,
        turn_on state is_state (record { given = seen.given; words = may.front; host_failed = true; words_failed = false }) replies.HostFault may.failed may.goes.0 may.goes.1,
      );
      sheets = may.sheets;
    }

    asks_on : (reply : Reply) (given : List Answer) → SeatAsks old.key taken line reply (session_at old k) left given before after random random' → Asks line reply old new given before after random random'
    asks_on reply given asks = record {
      seen = asks.seen;
      was_seen = asks.was_seen;
      turns = λ state is_state.
          subst (λ (x : List ℕ). Unfolds x state.sealed (MaySeal (SomeTurn state line) asks.seen) (TurnsTo state new line asks.seen reply) given []) (sym is_state.key_is)
          (unfolds_as [] (unfolds_where [] (asks.turns state.sealed (seat_at state k) (is_state.shows k)) (may_on state is_state asks.seen))
          (λ acts ends. (state_with state k ends.0 acts, turn_on state is_state asks.seen reply acts ends.0 ends.1, state_after state is_state ends.0 acts ends.2)));
    }

    caused_on : (reply : Reply) → SeatCaused old.key taken line reply (session_at old k) before after → DeskCaused line reply old before after
    caused_on reply caused = record {
      given = caused.given;
      told = caused.told;
      caused = λ state like.
          inr (k, taken, names, state_says state like, subst (λ (x : List ℕ). Caused x taken (seat_at state k) line caused.given reply) (sym like.key_is) (caused.caused (seat_at state k) (like.like k)));
    }

    same_seat : (i j : ℕ) → ◌≡◌ {A = Option ℕ} (Some i) (Some j) → i ≡ j
    same_seat i j same = cc

    leaves_on : (reply : Reply) → LeavesSeat line reply (session_at old k) left random random' → (j : ℕ) → seat_of_line line ≡ Some j → LeavesSeat line reply (session_at old j) (session_at new j) random random'
    leaves_on reply leaves j is =
        subst (λ i. LeavesSeat line reply (session_at old i) (session_at new i) random random') (same_seat k j (sym names ∙ is)) (subst (λ (o : Option SessionState). LeavesSeat line reply (session_at old k) o random random') (sym here) leaves)

    all_leaves : (r : Result Reply Memory) → WhereReplied r (λ reply. LeavesSeat line reply (session_at old k) left random random') → WhereReplied r (λ reply. (j : ℕ) → seat_of_line line ≡ Some j → LeavesSeat line reply (session_at old j) (session_at new j) random random')
    all_leaves (Ok reply) leaves = leaves_on reply leaves
    all_leaves (Err fault) leaves = tt

    few_on : (j : ℕ) → seat_of_line line ≡ Some j → AsksFew line (session_at old j) before after
    few_on j is = subst (λ i. AsksFew line (session_at old i) before after) (same_seat k j (sym names ∙ is)) goes.few

    all_caused : (r : Result Reply Memory) → WhereReplied r (λ reply. SeatCaused old.key taken line reply (session_at old k) before after) → WhereReplied r (λ reply. DeskCaused line reply old before after)
    all_caused (Ok reply) caused = caused_on reply caused
    all_caused (Err fault) caused = tt

    all_asks : (r : Result Reply Memory) → WhereReplied r (λ reply. WhereTold before after (λ given. SeatAsks old.key taken line reply (session_at old k) left given before after random random'))
        → WhereReplied r (λ reply. WhereTold before after (λ given. Asks line reply old new given before after random random'))
    all_asks (Ok reply) told =
        told_weaker (λ given. SeatAsks old.key taken line reply (session_at old k) left given before after random random') (λ given. Asks line reply old new given before after random random') before after told (asks_on reply)
    all_asks (Err fault) told = tt

    wants_on : SeatWants old.key line (session_at old k) left before after random random' → Wants line old new before after random random'
    wants_on wants = record {
      takes = wants.takes;
      early = wants.early;
      shows = told_weaker (SeatStillShows old.key (session_at old k) left) (DeskStillShows old new) before after wants.shows (λ given still state is_state unforged j. shown state is_state j (still state.sealed (seat_at state k) (is_state.shows k) unforged));
      ends = ⊎_elim (λ idle. inl (nothing idle)) (λ breaks. inr (broken breaks.0 breaks.1 breaks.2)) wants.ends;
      flushes = λ j session is_seat is. flushed j session (same_seat j k (sym is_seat ∙ names)) is;
    }
      where
        shown : (state : ScriptState) → IsStateOf state old → (j : ℕ) → StillShows state.sealed (seat_at state k) left → StillShows state.sealed (seat_at state j) (session_at new j)
        shown state is_state j still = ⊎_elim
            (λ e. subst (λ i. StillShows state.sealed (seat_at state i) (session_at new i)) (sym e) (subst (λ (o : Option SessionState). StillShows state.sealed (seat_at state k) o) (sym here) still))
            (λ apart. inl (subst (λ (o : Option SessionState). Shows state.sealed (seat_at state j) o) (sym (there j apart)) (is_state.shows j))) (same_or_not j k)

        off : (j : ℕ) → j ≢ k → KeepsSession (session_at old j) (session_at new j)
        off j apart = subst (λ (o : Option SessionState). KeepsSession (session_at old j) o) (sym (there j apart)) (keeps_same (session_at old j))

        nothing : SeatIdle (session_at old k) left before after random random' → NothingDone old new before after random random'
        nothing idle = record {
          key_is = refl;
          seats = λ j. ⊎_elim
              (λ e. subst (λ i. KeepsSession (session_at old i) (session_at new i)) (sym e) (subst (λ (o : Option SessionState). KeepsSession (session_at old k) o) (sym here) idle.seat))
              (off j) (same_or_not j k);
          disk = idle.disk;
          words = idle.words;
        }

        flushed : (j : ℕ) (session : SessionState) → j ≡ k → session_at old j ≡ Some session → OnDisk before after (FlushesUnder line session)
        flushed j session same is =
            wants.flushes session (subst (λ i. session_at old i ≡ Some session) same is)

        broken : IsChange line → IsBrokenSession left → IsSomeAnd (session_at old k) (Admits line) → BreaksSeat line old new
        broken change is admitted = record { change = change; seat = k; is_seat = names; broken = subst (λ (o : Option SessionState). IsBrokenSession o) (sym here) is; admitted = admitted }

    all_wants : (r : Result Reply Memory) → WhereWanting r (SeatWants old.key line (session_at old k) left before after random random') → WhereWanting r (Wants line old new before after random random')
    all_wants (Ok reply) wants = tt
    all_wants (Err fault) wants = wants_on wants

    -- the names of the seats after it
    named_on : KeepsNames line old new
    named_on j name has = ⊎_elim
        (λ e. on_it e (goes.named name (subst (λ (o : Option SessionState). HasItsName o name) (ap (λ (i : ℕ). session_at new i) e ∙ here) has)))
        (λ apart. inl (subst (λ (o : Option SessionState). HasItsName o name) (there j apart) has)) (same_or_not j k)
      where
        on_it : j ≡ k → Concerns taken line (session_at old k) name → HasItsName (session_at old j) name ⊎ ((seat_of_line line ≡ Some j) × (name_of_line line ≡ Some name))
        on_it e (inl was) = inl (subst (λ i. HasItsName (session_at old i) name) (sym e) was)
        on_it e (inr gives) = inr (names ∙ ap (λ (i : ℕ). Some i) (sym e), gives.0)

    pub desk_goes : DeskGoes line result old new before after random random'
    desk_goes = record {
      key_is = refl;
      asks = all_asks result goes.asks;
      caused = all_caused result goes.caused;
      leaves = all_leaves result goes.leaves;
      others = λ j other. there j (λ e. other (names ∙ ap (λ (i : ℕ). Some i) (sym e)));
      books = both_weaker (KeepsUnder (CoversSome (session_at old k)) (CoversSome left) (Concerns taken line (session_at old k))) (KeepsUnder (CoversDesk old) (CoversDesk new) (ConcernsDesk line old)) before.honest after.honest goes.books books_on;
      named = named_on;
      spares = spares_more (Concerns taken line (session_at old k)) (ConcernsDesk line old) concern_desk before after goes.spares;
      counts = goes.counts;
      wordless = goes.wordless;
      few = few_on;
      silent = λ blank. let e : ◌≡◌ {A = Option ℕ} (Some k) None = sym names ∙ ap seat_of_line blank in absurd (cc);
      wants = all_wants result goes.wants;
    }

-- the session of a seat of a desk
pub seat_of_desk : (old : DeskState) → IsDesk old → (k : ℕ) → IsSeatOf old.key (session_at old k)
seat_of_desk old desk k = by_session (session_at old k) refl
  where
    by_session : (o : Option SessionState) → session_at old k ≡ o → IsSeatOf old.key o
    by_session None is = tt
    by_session (Some s) is = desk.seated k s is
