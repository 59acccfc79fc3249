-- A line on one seat of a desk under a book, as one on the desk.
use Rattle.std.proofs.Common.{◌≡◌, ◌≢◌, inl, inr, ⊎_elim, Bool, List, [], ℕ, ◌<◌, refl, sym, ◌∙◌, ap, subst, Option, Some, Result, Ok, Err, length}
use Rattle.std.specs.Prelude.{IfSome}
use Rattle.std.proofs.lemmas.List.{get_or-set_same, get_or-set_other, length-set}
use Rattle.pf_io.specs.Disk.{reading}
use Rattle.pf_io.specs.Host.{HostState}
use Rattle.pf_io.specs.Moments.{Honest}
use Rattle.pf_io.specs.Words.{WordsState}
use Rattle.pf_io.specs.declared.faults.Memory.{Memory}
use Rattle.pf_io.proofs.Telling.{both_same, both_weaker, told_none}
use Rattle.pf_session.specs.State.{SessionState}
use Rattle.pf_script.specs.Book.{Book, Seal}
use Rattle.pf_script.specs.BookActs.{Act, Among, booked_all}
use Rattle.pf_script.specs.BookDebts.{seat_of}
use Rattle.pf_script.specs.BookSeats.{SparesSeats}
use Rattle.pf_script.specs.BookTurns.{ShowsUnder, IsUndrawn, no_file, of_book, other_file, Knows, LineUnder, SeatUnder, SeatAgrees, SeatBooked, IsStateUnder, KnowsLine, MadeBy, TurnUnder, DeskUnder, DeskAgrees, DeskBooked}
use Rattle.pf_script.specs.FileTurns.{stands_on, DeskFiles}
use Rattle.pf_script.specs.Desk.{DeskState, session_at, IsDesk}
use Rattle.pf_script.specs.DeskSteps.{Concerns, Spares}
use Rattle.pf_script.specs.Script.{Seat, Empty, ScriptState, seat_at, state_with, seat_of_line, name_of_line}
use Rattle.pf_script.specs.Turns.{Seen, SeatTurn, silent, on_seat, SaysTaken}
use Rattle.pf_script.specs.Words.{SEATS}
use Rattle.pf_script.specs.declared.line.ScriptLine.{ScriptLine}
use Rattle.pf_script.specs.declared.reply.Reply.{Reply}
use Rattle.pf_script.specs.declared.line.ScriptLine.TheVariants as lines
use Rattle.pf_script.specs.declared.reply.Reply.TheVariants as replies
use Rattle.pf_script.proofs.ActKeeping.{unchanged_now}
use Rattle.pf_script.proofs.MadeActs.{none_is}
use Rattle.pf_script.proofs.Refusing.{idle_seen, none_taken}
use Rattle.pf_script.proofs.DeskLooks.{looks_says}
use Rattle.pf_script.proofs.DeskOver.{desk_files}
use Rattle.pf_script.proofs.Desking.{SaysOther, same_or_not, others_apart}
use Rattle.pf_script.proofs.Desking as desking
use Rattle.pf_script.proofs.Seats.{booked_all_none}
use Rattle.pf_script.proofs.Under.{LooksLike, looks_like}

-- a seat on whose name nothing was done
other_shows : (acts : List Act) (left : List Seal) (book : Book) (seats : List Seal) (seat : Seat) (session : Option SessionState) → ((own : SessionState) → session ≡ Some own → ¬ (Among acts own.name)) → SparesSeats acts seats left
    → ShowsUnder book seats seat session → ShowsUnder (booked_all acts book) left seat session
other_shows acts left book seats seat session apart spares (no_file is none) = no_file is none
other_shows acts left book seats seat session apart spares (of_book sheet own whole seated kept is some) = of_book sheet own whole (spares (seat_of own.key own.name sheet) seated (apart own some)) kept is some
other_shows acts left book seats seat session apart spares (other_file shown own (inl broken) key_is name_is broken_is is some) = other_file shown own (inl broken) key_is name_is broken_is is some
other_shows acts left book seats seat session apart spares (other_file shown own (inr none) key_is name_is broken_is is some) =
    other_file shown own (inr (booked_all_none acts book own.name (apart own some) none)) key_is name_is broken_is is some

module _ (old : DeskState) (desk : IsDesk old) (k : ℕ) (below : k < SEATS) (taken : Bool) (line : ScriptLine) (names : seat_of_line line ≡ Some k) (says : SaysOther old k (name_of_line line) taken) (left : Option SessionState) where
  abbrev new : DeskState
  new = desking.new old desk k below taken line names says left

  module _ (book : Book) (seats : List Seal) (state : ScriptState) (is_state : IsStateUnder book seats state old) where
    looks : (j : ℕ) → LooksLike (session_at old j) (seat_at state j)
    looks j = looks_like book seats (seat_at state j) (session_at old j) (is_state.shows j)

    state_says : SaysTaken state k (name_of_line line) taken
    state_says = looks_says old state looks k (name_of_line line) taken says

    module _ (seen : Seen) (reply : Reply) (a b : Honest) (under : LineUnder old.key taken line seen reply (session_at old k) left book seats (seat_at state k) a b) where
      abbrev then_state : ScriptState
      then_state = state_with state k under.after under.acts

      room : k < length state.seats
      room = subst (λ n. k < n) (sym is_state.eight) below

      on_it : (j : ℕ) → j ≡ k → ShowsUnder (booked_all under.acts book) under.left (seat_at then_state j) (session_at new j)
      on_it j same =
          subst (λ i. ShowsUnder (booked_all under.acts book) under.left (seat_at then_state i) (session_at new i)) (sym same)
          (subst (λ (x : Seat). ShowsUnder (booked_all under.acts book) under.left x (session_at new k)) (sym (get_or-set_same state.seats k under.after Empty room))
          (subst (λ (o : Option SessionState). ShowsUnder (booked_all under.acts book) under.left under.after o) (sym (desking.here old desk k below taken line names says left)) under.shows))

      off_it : (j : ℕ) → j ≢ k → ShowsUnder (booked_all under.acts book) under.left (seat_at then_state j) (session_at new j)
      off_it j apart =
          subst (λ (x : Seat). ShowsUnder (booked_all under.acts book) under.left x (session_at new j)) (sym (get_or-set_other state.seats k j under.after Empty apart))
          (subst (λ (o : Option SessionState). ShowsUnder (booked_all under.acts book) under.left (seat_at state j) o) (sym (desking.there old desk k below taken line names says left j apart))
          (other_shows under.acts under.left book seats (seat_at state j) (session_at old j)
          (λ own is among. others_apart old desk k below taken line names says left j own apart is (under.concerned own.name among)) under.spares (is_state.shows j)))

      turn_of : Knows book state.key (seat_at state k) line reply → SeatTurn (stands_on state.key (reading a.now)) state.key taken (seat_at state k) line seen reply under.acts under.after
      turn_of knows =
          subst (λ (x : List ℕ). Knows book x (seat_at state k) line reply → SeatTurn (stands_on x (reading a.now)) x taken (seat_at state k) line seen reply under.acts under.after) (sym is_state.key_is) under.turn knows

      knows_seat : KnowsLine book state line reply → Knows book state.key (seat_at state k) line reply
      knows_seat knows = subst (λ (o : Option ℕ). IfSome o (λ i. Knows book state.key (seat_at state i) line reply)) names knows

      others : (j : ℕ) → seat_of_line line ≢ Some j → seat_at then_state j ≡ seat_at state j
      others j apart = get_or-set_other state.seats k j under.after Empty (λ same. apart (names ∙ ap (λ (i : ℕ). Some i) (sym same)))

      turn_under : TurnUnder line seen reply new book seats state a b
      turn_under = record {
        acts = under.acts;
        left = under.left;
        after = then_state;
        did = under.did;
        is_state = record {
          key_is = is_state.key_is;
          eight = length-set state.seats k under.after ∙ is_state.eight;
          shows = λ j. ⊎_elim (λ same. on_it j same) (λ apart. off_it j apart) (same_or_not j k);
        };
        on_seat = record { key_is = refl; made = λ act has. (k, names, under.made act has); idle = under.idle; others = others };
        turn = λ knows. on_seat k taken under.after names state_says (turn_of (knows_seat knows)) refl;
      }

  same_seat : (j : ℕ) → seat_of_line line ≡ Some j → j ≡ k
  same_seat j is = let e : Some j ≡ Some k = sym is ∙ names in cc

  desk_agrees : (reply : Reply) (before after : HostState) (random random' : WordsState) → Spares (Concerns taken line (session_at old k)) before after → SeatAgrees old.key taken line reply (session_at old k) left before after random random' → DeskAgrees line reply old new before after random random'
  desk_agrees reply before after random random' spares agrees = record {
    seen = agrees.seen;
    was_seen = agrees.was_seen;
    wordless = λ change j is undrawn none. agrees.wordless change (subst (λ (i : ℕ). IsUndrawn (session_at old i)) (same_seat j is) undrawn) none;
    under = both_weaker (SeatUnder old.key taken line agrees.seen reply (session_at old k) left) (DeskUnder line agrees.seen reply old new) before.honest after.honest agrees.under
        (λ a b under book seats state agree reads is_state. turn_under book seats state is_state agrees.seen reply a b (under book seats (seat_at state k) agree reads (is_state.shows k)));
    over = desk_files old desk k below taken line names says left agrees.seen reply before after spares agrees.over;
  }

  pub desk_booked : (result : Result Reply Memory) (before after : HostState) (random random' : WordsState) → Spares (Concerns taken line (session_at old k)) before after → SeatBooked old.key taken line result (session_at old k) left before after random random' → DeskBooked line result old new before after random random'
  desk_booked (Ok reply) before after random random' spares booked = desk_agrees reply before after random random' spares booked
  desk_booked (Err fault) before after random random' spares booked = tt

-- a blank line
pub blank_booked : (desk : DeskState) (host : HostState) (words : WordsState) → DeskBooked lines.Blank (Ok replies.None) desk desk host host words words
blank_booked desk host words = record {
  seen = idle_seen;
  was_seen = record { answers = told_none host host refl; words = none_taken words; of_host = refl; of_words = refl };
  wordless = λ change. absurd change;
  under = both_same (DeskUnder lines.Blank idle_seen replies.None desk desk) host.honest host.honest refl
      (λ a book seats state agrees reads is_state. record {
        acts = [];
        left = seats;
        after = state;
        did = (unchanged_now a, λ s has. has);
        is_state = is_state;
        on_seat = record { key_is = refl; made = none_is (λ deed. (k : ℕ) × (seat_of_line lines.Blank ≡ Some k) × MadeBy lines.Blank (seat_at state k) deed); idle = tt; others = λ j apart. refl };
        turn = λ _. silent refl refl refl refl refl;
      });
  over = both_same (DeskFiles lines.Blank idle_seen replies.None desk desk) host.honest host.honest refl
      (λ a state calm is_state reopens. record { acts = []; after = state; over = record { turn = silent refl refl refl refl refl; files = λ name. refl }; is_state = is_state });
}
