-- A line that puts a file on an empty seat.
use Rattle.std.proofs.Common.{◌≡◌, ◌≢◌, ◌⊎◌, ⊎_elim, inl, inr, Bool, true, false, List, [], ◌∷◌, ◌++◌, ℕ, refl, sym, ◌∙◌, ap, subst, Option, Some, None, Result, Ok, Err, arith}
use Rattle.std.specs.Prelude.{Contains}
use Rattle.std.specs.Option.{is_some}
use Rattle.std.proofs.lemmas.List.Elements.{Contains-push_cases, Contains-append_cases}
use Rattle.node_tree.specs.Sheet.{Sheet}
use Rattle.pf_io.specs.Disk.{Name, Files, IsImage, reading}
use Rattle.pf_io.specs.Host.{Answer, HostState, OnDisk}
use Rattle.pf_io.specs.Moments.{Honest}
use Rattle.pf_io.specs.Words.{WordsState}
use Rattle.pf_io.specs.declared.faults.Memory.{Memory}
use Rattle.pf_io.proofs.Telling.{told_by, told_none, both_same, both_weaker}
use Rattle.pf_session.specs.Aside.{Aside}
use Rattle.pf_session.specs.State.{SessionState}
use Rattle.pf_script.specs.Book.{Book, Seal, Agrees}
use Rattle.pf_script.specs.BookActs.{Act}
use Rattle.pf_script.specs.BookDebts.{Unchanged}
use Rattle.pf_script.specs.BookSeats.{CoversNone, KeepsUnder}
use Rattle.pf_script.specs.BookTurns.{no_file, LineUnder, SeatUnder, SeatBooked, MadeBy}
use Rattle.pf_script.specs.FileTurns.{stands_on, seen_over, no_file as no_file_over, ReopensOpened, LineOver, SeatFiles}
use Rattle.pf_script.specs.Desk.{IsSeatOf, IsLike, Shows, no_file as no_file_now}
use Rattle.pf_script.specs.DeskSteps.{MaySeal, Unfolds, SomeSeatTurn, SeatTurns, SeatAsks, CountsFault, CoversSome, Concerns, Spares, HasItsName, SeatGoes, TakesNone, is_host_fault, is_words_fault, LeavesSeat}
use Rattle.pf_script.specs.Rules.{Rule, IsFirst, NoneRefuses, seating_rules}
use Rattle.pf_script.specs.Script.{Seat, Empty, name_of_line, sheets_of}
use Rattle.pf_script.specs.Turns.{Seen, Failed, Standing, SeatTurn, Caused, on_carried}
use Rattle.pf_script.specs.declared.line.ScriptLine.{ScriptLine}
use Rattle.pf_script.specs.declared.reply.Reply.{Reply}
use Rattle.pf_script.specs.declared.reply.Why.{Why}
use Rattle.pf_script.specs.declared.reply.Why.TheVariants as whys
use Rattle.pf_script.proofs.ActKeeping.{only_reads, unchanged_now}
use Rattle.pf_script.proofs.CallKeeping.{both_with}
use Rattle.pf_script.proofs.FewAsked.{TakesFew, none_taken_at}
use Rattle.pf_script.proofs.FlushUnder.{seen_in}
use Rattle.pf_script.proofs.Flushed.{SeenOf}
use Rattle.pf_script.proofs.Liking.{like_none, like_some}
use Rattle.pf_script.proofs.MadeActs.{none_is}
use Rattle.pf_script.proofs.OverGiven.{over_idle}
use Rattle.pf_script.proofs.Refusing.{at_last, not_empty}
use Rattle.pf_script.proofs.SeatCalls.{seen_by}
use Rattle.pf_script.proofs.Showing.{shows_none, shows_still}
use Rattle.pf_script.proofs.Sparing.{spares_none, spares_kept, spares_aside}
use Rattle.pf_script.proofs.StepKeeping.{keeps_more}
use Rattle.pf_script.proofs.Under.{LooksLike, looks_like, looks_over, idle_none}

-- the rules of a new file on a free seat, where no other seat has the name
pub seat_first : (rest : List Rule) (why : Why) → IsFirst rest why → IsFirst (seating_rules false Empty ++ rest) why
seat_first rest why first = inr ((λ other refuses. refuses.1 refl), inr ((λ other refuses. let e : false ≡ true = refuses.1 in absurd (cc)), first))

pub seat_none : (rest : List Rule) → NoneRefuses rest → NoneRefuses (seating_rules false Empty ++ rest)
seat_none rest none = ((λ other refuses. refuses.1 refl), ((λ other refuses. let e : false ≡ true = refuses.1 in absurd (cc)), none))

-- an answer that is another one than the first
pub not_of : (answer other : Answer) (rest : List Answer) → answer ≢ other → ¬ (Contains rest other) → ¬ (Contains (answer ∷ rest) other)
not_of answer other rest apart not_in is =
    ⊎_elim (λ here. apart (⊎_elim (λ none. absurd (omega (arith, none.1))) (λ same. same) (Contains-push_cases [] answer other here))) (λ there. not_in there) (Contains-append_cases (answer ∷ []) rest other is)

-- the seat after a call that was to open or to make a session
abbrev pub made_seat : {E : Type 0} → Result SessionState E → Option SessionState
made_seat (Ok session) = Some session
made_seat (Err fault) = None

-- a line on an empty seat, as any host sees it and under a book
pub record BothHalves (key : List ℕ) (line : ScriptLine) (result : Result Reply Memory) (new : Option SessionState) (before after : HostState) (random random' : WordsState) : Type 0 where
  pub goes : SeatGoes key false line result None new before after random random'
  pub booked : SeatBooked key false line result None new before after random random'

-- a seat that is not free, and a name that another seat has
pub busy_first : (rest : List Rule) (taken : Bool) (seat : Seat) → seat ≢ Empty → IsFirst (seating_rules taken seat ++ rest) whys.SeatBusy
busy_first rest taken seat busy = inl (refl, busy)

pub taken_first : (rest : List Rule) (taken : Bool) (seat : Seat) → seat ≡ Empty → taken ≡ true → IsFirst (seating_rules taken seat ++ rest) whys.NameBusy
taken_first rest taken seat is of_another = inr ((λ why refuses. refuses.1 is), inl (refl, of_another))

pub looks_busy : (o : Option SessionState) → o ≢ None → (seat : Seat) → LooksLike o seat → seat ≢ Empty
looks_busy None some seat looks is = some refl
looks_busy (Some s) some seat looks is = not_empty seat looks.shown looks.seat_is is

pub like_busy : (o : Option SessionState) → o ≢ None → (seat : Seat) → IsLike seat o → seat ≢ Empty
like_busy None some seat like is = some refl
like_busy (Some s) some seat like is = let at = like_some seat s like in not_empty seat at.own at.seat_is is

-- what a test of the seat says
pub some_there : (o : Option SessionState) → is_some o ≡ true → o ≢ None
some_there o is none = let e : false ≡ true = sym (ap (λ (x : Option SessionState). is_some x) none) ∙ is in absurd (cc)

pub none_there : (o : Option SessionState) → is_some o ≡ false → o ≡ None
none_there None is = refl
none_there (Some s) is = absurd (cc)

-- on a seat that was found to be free
pub goes_at : (key : List ℕ) (taken : Bool) (line : ScriptLine) (result : Result Reply Memory) (old new : Option SessionState) (before after : HostState) (random random' : WordsState) → old ≡ None → taken ≡ false
    → SeatGoes key false line result None new before after random random' → SeatGoes key taken line result old new before after random random'
goes_at key taken line result old new before after random random' none free goes =
    subst (λ (o : Option SessionState). SeatGoes key taken line result o new before after random random') (sym none) (subst (λ (b : Bool). SeatGoes key b line result None new before after random random') (sym free) goes)

pub booked_at : (key : List ℕ) (taken : Bool) (line : ScriptLine) (result : Result Reply Memory) (old new : Option SessionState) (before after : HostState) (random random' : WordsState) → old ≡ None → taken ≡ false
    → SeatBooked key false line result None new before after random random' → SeatBooked key taken line result old new before after random random'
booked_at key taken line result old new before after random random' none free booked =
    subst (λ (o : Option SessionState). SeatBooked key taken line result o new before after random random') (sym none) (subst (λ (b : Bool). SeatBooked key b line result None new before after random random') (sym free) booked)

module _ (key : List ℕ) (line : ScriptLine) (name : Name) (names : name_of_line line ≡ Some name) where
  -- the name that the line gives is concerned
  pub concerns : (n : Name) → n ≡ name → Concerns false line None n
  concerns n same = inr (names ∙ ap (λ (x : Name). Some x) (sym same), refl)

  module _ (new : Option SessionState) (before after : HostState) (random random' : WordsState) (keeps : OnDisk before after (KeepsUnder CoversNone (CoversSome new) (λ n. n ≡ name))) (spares : Spares (Concerns false line None) before after) (seated : IsSeatOf key new) (named : (n : Name) → HasItsName new n → n ≡ name)
      (takes_few : TakesFew line None before after random random') where
    books : OnDisk before after (KeepsUnder CoversNone (CoversSome new) (Concerns false line None))
    books = both_weaker (KeepsUnder CoversNone (CoversSome new) (λ n. n ≡ name)) (KeepsUnder CoversNone (CoversSome new) (Concerns false line None)) before.honest after.honest keeps
        (λ a b keeps. keeps_more CoversNone (CoversSome new) (λ n. n ≡ name) (Concerns false line None) a b concerns keeps)

    pub empty_goes : (reply : Reply) (these : List Answer) (words : List (List ℕ)) (of_host of_words : Bool) → SeenOf these words of_host of_words before after random random' → is_host_fault reply ≡ of_host → is_words_fault reply ≡ of_words
        → SeatTurns key false line (seen_by these words of_host of_words) reply None new these → Caused key false Empty line these reply → LeavesSeat line reply None new random random' → SeatGoes key false line (Ok reply) None new before after random random'
    empty_goes reply these words of_host of_words seen host_is words_is turns caused leaves = record {
      asks = told_by (λ given. SeatAsks key false line reply None new given before after random random') these before after seen.told
          (record { seen = seen_by these words of_host of_words; was_seen = record { answers = refl; words = seen.taken; of_host = seen.on_host; of_words = seen.on_words }; turns = turns });
      caused = record { given = these; told = seen.told; caused = λ seat like. subst (λ (x : Seat). Caused key false x line these reply) (sym (like_none seat like)) caused };
      leaves = leaves;
      books = books;
      counts = (subst (λ b. CountsFault b before.faults after.faults) (sym host_is) seen.on_host, subst (λ b. CountsFault b random.faults random'.faults) (sym words_is) seen.on_words);
      wordless = takes_few.0;
      few = takes_few.1;
      wants = tt;
      seated = seated;
      named = λ n has. concerns n (named n has);
      spares = spares;
    }

    -- want of memory
    pub empty_wants : ¬ (TakesNone line) → new ≡ None → after ≡ before → random' ≡ random → SeatGoes key false line (Err (record {})) None new before after random random'
    empty_wants takes none stays same = record {
      asks = tt;
      caused = tt;
      leaves = tt;
      books = books;
      counts = (ap (λ (h : HostState). h.faults) stays, ap (λ (w : WordsState). w.faults) same);
      wordless = takes_few.0;
      few = takes_few.1;
      wants = record {
        takes = takes;
        early = λ first. stays;
        shows = shows_still key None new before after (λ given. Unit {0}) (told_by (λ given. Unit {0}) [] before after (told_none before after (ap (λ (h : HostState). h.given) stays)) tt) (λ given holds sealed seat shows unforged. subst (λ (o : Option SessionState). Shows sealed seat o) (sym none) shows);
        ends = inl (record { seat = none; disk = both_same Unchanged before.honest after.honest (ap (λ (h : HostState). h.honest) stays) (λ a. unchanged_now a); words = same });
        flushes = λ session is. absurd (cc);
      };
      seated = seated;
      named = λ n has. concerns n (named n has);
      spares = spares;
    }

  -- all other names are left alone
  pub spares_given : (before after : HostState) → Aside name before after → Spares (Concerns false line None) before after
  spares_given = spares_aside (Concerns false line None) name (concerns name refl)

  -- want of memory before anything was asked
  pub empty_unasked : (state : HostState) (random : WordsState) → ¬ (TakesNone line) → SeatGoes key false line (Err (record {})) None None state state random random
  empty_unasked state random takes =
      empty_wants None state state random random
      (both_same (KeepsUnder CoversNone CoversNone (λ n. n ≡ name)) state.honest state.honest refl (λ a. only_reads CoversNone a a (λ n. n ≡ name) (unchanged_now a))) (spares_none (Concerns false line None) state) tt (λ n none. absurd none) (none_taken_at line None state random) takes refl refl refl

  -- under a book the seat is empty
  pub empty_under : (seen : Seen) (reply : Reply) (new : Option SessionState) (a b : Honest) → ((book : Book) (seats : List Seal) → Agrees book seats a.now → IsImage a.now (reading a.now) → LineUnder key false line seen reply None new book seats Empty a b)
      → SeatUnder key false line seen reply None new a b
  empty_under seen reply new a b under book seats seat agrees reads shows =
      subst (λ (x : Seat). LineUnder key false line seen reply None new book seats x a b) (sym (looks_like book seats seat None shows)) (under book seats agrees reads)

  -- over files the seat is empty
  pub empty_over : (seen : Seen) (reply : Reply) (new : Option SessionState) (a b : Honest) → (Failed seen false false → ReopensOpened key (reading a.now) line reply → LineOver key false line seen reply new Empty a b) → SeatFiles key false line seen reply None new a b
  empty_over seen reply new a b over seat calm shows opened =
      subst (λ (x : Seat). LineOver key false line seen reply new x a b) (sym (looks_over (reading a.now) seat None shows)) (over calm opened)

  -- the turn of the line by the answers of the files, by which the seat stays empty
  abbrev pub TurnsOver : Files → List (List ℕ) → Reply → Type 0
  TurnsOver files words reply = SeatTurn (stands_on key files) key false Empty line (seen_over files line words) reply [] Empty

  -- nothing was changed, and the seat stays empty
  pub not_there : (seen : Seen) (reply : Reply) (a b : Honest) → Unchanged a b → SeatTurn (stands_on key (reading a.now)) key false Empty line seen reply [] Empty → SeatUnder key false line seen reply None None a b
  not_there seen reply a b only turn =
      empty_under seen reply None a b
      (λ book seats agrees reads. record {
        acts = [];
        left = seats;
        after = Empty;
        did = (only, λ s has. has);
        shows = no_file refl refl;
        spares = λ s has apart. has;
        concerned = λ n none. absurd none;
        made = none_is (MadeBy line Empty);
        idle = idle_none reply;
        turn = λ _. turn;
      })

  pub not_there_over : (seen : Seen) (reply : Reply) (a b : Honest) → Unchanged a b → (Failed seen false false → TurnsOver (reading a.now) seen.words reply) → SeatFiles key false line seen reply None None a b
  not_there_over seen reply a b only turn =
      empty_over seen reply None a b
      (λ calm opened. record {
        acts = [];
        after = Empty;
        over = over_idle key false Empty line seen.words reply Empty a b only (turn calm);
        shows = no_file_over refl refl;
      })

  -- on any host, acts that do not depend on what was sealed
  pub empty_turns : (seen : Seen) (reply : Reply) (new : Option SessionState) (given : List Answer) (acts : List Act) (left : Seat) → ((sealed : List Sheet) → (sheets_of acts ≡ []) ⊎ MaySeal (SomeSeatTurn key sealed false Empty line) seen acts)
      → ((standing : Standing) → SeatTurn standing key false Empty line seen reply acts left) → ((sealed : List Sheet) → Shows (sealed ++ sheets_of acts) left new) → SeatTurns key false line seen reply None new given
  empty_turns seen reply new given acts left may turn shows_new sealed seat shows =
      subst (λ (x : Seat). Unfolds key sealed (MaySeal (SomeSeatTurn key sealed false x line) seen) (λ acts. (left : Seat) × SeatTurn (on_carried key sealed) key false x line seen reply acts left × Shows (sealed ++ sheets_of acts) left new) given []) (sym (shows_none sealed seat shows))
      (at_last acts (may sealed) (λ unforged. (left, turn (on_carried key sealed), shows_new sealed)))

  still_shows : (sealed : List Sheet) → Shows (sealed ++ []) Empty None
  still_shows sealed = no_file_now refl refl

  -- nothing was done
  pub empty_idle : (before after : HostState) (random random' : WordsState) → TakesFew line None before after random random' → (reply : Reply) (these : List Answer) (words : List (List ℕ)) (of_host of_words : Bool) → OnDisk before after Unchanged → SeenOf these words of_host of_words before after random random'
      → is_host_fault reply ≡ of_host → is_words_fault reply ≡ of_words → ((standing : Standing) → SeatTurn standing key false Empty line (seen_by these words of_host of_words) reply [] Empty) → Caused key false Empty line these reply → LeavesSeat line reply None None random random'
      → ((a : Honest) → before.honest ≡ Some a → Failed (seen_by these words of_host of_words) false false → TurnsOver (reading a.now) words reply) → BothHalves key line (Ok reply) None before after random random'
  empty_idle before after random random' takes_few reply these words of_host of_words only seen host_is words_is turn caused leaves over = record {
    goes = empty_goes None before after random random'
        (both_weaker Unchanged (KeepsUnder CoversNone CoversNone (λ n. n ≡ name)) before.honest after.honest only (λ a b only_ab. only_reads CoversNone a b (λ n. n ≡ name) only_ab)) (spares_kept (Concerns false line None) before after only) tt (λ n none. absurd none) takes_few
        reply these words of_host of_words seen host_is words_is (empty_turns (seen_by these words of_host of_words) reply None these [] Empty (λ sealed. inl refl) turn still_shows) caused leaves;
    booked = record {
      seen = seen_by these words of_host of_words;
      was_seen = seen_in these words of_host of_words before after random random' seen;
      wordless = λ change undrawn none. only;
      under = both_with Unchanged (SeatUnder key false line (seen_by these words of_host of_words) reply None None) before.honest after.honest only
          (λ a b is is2 only_ab. not_there (seen_by these words of_host of_words) reply a b only_ab (turn _));
      over = both_with Unchanged (SeatFiles key false line (seen_by these words of_host of_words) reply None None) before.honest after.honest only
          (λ a b is is2 only_ab. not_there_over (seen_by these words of_host of_words) reply a b only_ab (over a is));
    };
  }
