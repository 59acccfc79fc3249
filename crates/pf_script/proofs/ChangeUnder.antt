-- A change of a session's content under a book, after some steps of its line.
use Rattle.std.proofs.Common.{◌≡◌, ◌⊎◌, inl, inr, Bool, true, false, List, [], ◌∷◌, ◌++◌, ℕ, refl, sym, ◌∙◌, ap, subst, Option, Some, None, Result, Ok, Err, length}
use Rattle.std.proofs.lemmas.List.{append-nil}
use Rattle.std.specs.Prelude.{Contains, IfSome, option_map}
use Rattle.node_tree.specs.Applying.{Step}
use Rattle.node_tree.specs.Sheet.{Sheet, Stands}
use Rattle.node_tree.specs.State.{TreeState}
use Rattle.node_tree.specs.Stepping.{StandingStep}
use Rattle.node_tree.specs.declared.fault.TreeFault.{TreeFault}
use Rattle.node_tree.specs.declared.fault.TreeFault.TheVariants as trees
use Rattle.pf_io.specs.Disk.{Name, Disk, IsImage, reading}
use Rattle.pf_io.specs.Host.{Answer, HostState, contents}
use Rattle.pf_io.specs.Moments.{Honest, Ran, Where}
use Rattle.pf_io.specs.Names.{IsTarget}
use Rattle.pf_io.specs.Steps.{Stays}
use Rattle.pf_session.specs.Aside.{LeavesApart, KeepsApart}
use Rattle.pf_session.specs.Backing.{IsBacked, StandsOn}
use Rattle.pf_session.specs.Changing.{IsFlushedFirst, IsRoomy, StepGoes}
use Rattle.pf_session.specs.Flushing.{UndamagedFlush, IsUndamaged}
use Rattle.pf_session.specs.Reopening.{AsEither, Stood}
use Rattle.pf_session.specs.Sealing.{StoodIf, Replaces, StandsNext}
use Rattle.pf_session.specs.State.{SessionState, file_of}
use Rattle.pf_session.specs.declared.fault.FlushFault.{FlushFault}
use Rattle.pf_script.specs.Book.{Book, Entry, Seal, Agrees}
use Rattle.pf_script.specs.BookActs.{Flush, Act, Among, booked_all, flushed, sealed_entry}
use Rattle.pf_script.specs.BookDebts.{Unchanged, DidAll, seat_of}
use Rattle.pf_script.specs.BookSeats.{IsOfScript, SparesSeats}
use Rattle.pf_script.specs.BookTurns.{ShowsUnder, of_book, other_file, IsFlushOf}
use Rattle.pf_script.specs.Desk.{seat_on}
use Rattle.pf_script.specs.Rules.{NoneRefuses, rules}
use Rattle.pf_script.specs.Script.{OwnSeat, Seat, Own}
use Rattle.pf_script.specs.SeatReplies.{flush_reply}
use Rattle.pf_script.specs.SeatSteps.{AsksFor, MadeSome, Seals, broken_seat, resealed}
use Rattle.pf_script.specs.Turns.{Standing, Blame, ByHost, ByDamage, SeatTurn, host_failed, words_failed, not_fetched, not_fetched_after, not_flushed_before, no_flush_before, flushes}
use Rattle.pf_script.specs.declared.line.ScriptLine.{ScriptLine}
use Rattle.pf_script.specs.declared.reply.Reply.{Reply}
use Rattle.pf_script.specs.declared.reply.Reply.TheVariants as replies
use Rattle.pf_script.proofs.ActKeeping.{one_spares}
use Rattle.pf_script.proofs.CallKeeping.{at_both, back_to, reads_after, same_disk, stands_there}
use Rattle.pf_script.proofs.ChangeLeft.{ChangeLeft, left_once, left_lacked, left_unflushed, left_after}
use Rattle.pf_script.proofs.ChangeTold.{Outcome, Went, Broke, Lacked, Wanted, outcome_of, Grew}
use Rattle.pf_script.proofs.Composing.{all_agrees, did_on, booked_on}
use Rattle.pf_script.proofs.Flushed.{SealsWith, TooFewToFlush, host_blamed, fault_of}
use Rattle.pf_script.proofs.MadeActs.{EachIs, one_is, is_on, are_flushes}
use Rattle.pf_script.proofs.NameMaps.{set_at-same}
use Rattle.pf_script.proofs.SeatCalls.{seen_by}
use Rattle.pf_script.proofs.Seats.{seats_after, seat_is_left, among_on, among_back}
use Rattle.pf_script.proofs.StepFacts.{flushes_first, fits_at, stepped_is}
use Rattle.pf_script.proofs.StepTurns.{flushes_on, Made, made_more, made_after}
use Rattle.pf_script.proofs.Under.{flush_did}

-- acts on one name alone
abbrev pub OnlyOf : Name → List Act → Type 0
OnlyOf name acts = (n : Name) → Among acts n → n ≡ name

only_on : (name : Name) (acts more : List Act) → OnlyOf name acts → OnlyOf name more → OnlyOf name (acts ++ more)
only_on name acts more one two n among = by_case (among_on acts more n among)
  where
    by_case : Among acts n ⊎ Among more n → n ≡ name
    by_case (inl is) = one n is
    by_case (inr is) = two n is

-- acts after which the seats on other names stay
spares_on : (acts more : List Act) (seats left last : List Seal) → SparesSeats acts seats left → SparesSeats more left last → SparesSeats (acts ++ more) seats last
spares_on acts more seats left last one two seat has apart =
    two seat (one seat has (λ among. apart (among_back acts more seat.name (inl among)))) (λ among. apart (among_back acts more seat.name (inr among)))

module _ (key : List ℕ) (own : OwnSeat) (line : ScriptLine) (book : Book) (seats : List Seal) (a : Honest) (agrees : Agrees book seats a.now) (reads : IsImage a.now (reading a.now)) (first : Sheet) (target : IsTarget own.name) (standing : Standing) where
  -- Some steps of the line were made: what was flushed was done, and the file stands for the sheet on which the session stands.
  pub record Progress (m : Honest) (old : SessionState) (made : List Step) (words : List (List ℕ)) (sheets : List Sheet) (base : Sheet) : Type 0 where
    pub was : Made (first ∷ []) own old made words sheets base
    pub left : List Seal
    pub did : DidAll book seats (flushes own sheets) left a m
    pub spares : SparesSeats (flushes own sheets) seats left
    pub only : OnlyOf own.name (flushes own sheets)
    pub entry : Entry
    pub in_book : booked_all (flushes own sheets) book own.name ≡ Some entry
    pub seated : Contains left (seat_of own.key own.name base)
    pub stood : Stood own.key own.name base m.now

  -- how the line ends with a fault
  pub record Fell (b : Honest) (new : SessionState) (words : List (List ℕ)) (of_host of_words : Bool) (reply : Reply) : Type 0 where
    pub acts : List Act
    pub left : List Seal
    pub after : Seat
    pub did : DidAll book seats acts left a b
    pub spares : SparesSeats acts seats left
    pub only : OnlyOf own.name acts
    pub made : EachIs (IsFlushOf (Own own)) acts
    pub shows : ShowsUnder (booked_all acts book) left after (Some new)
    pub turn : (given : List Answer) → SeatTurn standing key false (Own own) line (seen_by given words of_host of_words) reply acts after

  module _ (m b : Honest) (old new : SessionState) (made : List Step) (words more : List (List ℕ)) (sheets : List Sheet) (base : Sheet) (step : Step) (steps : List Step) (asks : AsksFor line (length own.content) (made ++ step ∷ steps))
      (passes : (these : List Answer) → NoneRefuses (rules key false (Own own) line these))
      (mine : IsOfScript old) (progress : Progress m old made words sheets base) (before after : HostState) (is_m : before.honest ≡ Some m) (is_b : after.honest ≡ Some b)
      (others : Ran (LeavesApart old.name) (KeepsApart old.name) m b) (well : IsImage b.now (reading b.now)) where
    -- the line goes on
    pub record WentOn (flushed : Bool) : Type 0 where
      pub sheets_now : List Sheet
      pub base_now : Sheet
      pub grew : Grew flushed sheets sheets_now
      pub progress_now : Progress b new (made ++ step ∷ []) (words ++ more) sheets_now base_now

    -- how the change ends
    abbrev pub ChangeKnown : Outcome → Type 0
    ChangeKnown (Went flushed) = WentOn flushed
    ChangeKnown (Broke blame) = Fell b new (words ++ more) (host_blamed blame) false (flush_reply (fault_of blame))
    ChangeKnown Lacked = Fell b new (words ++ more) false true replies.WordsFault
    ChangeKnown Wanted = Unit {0}

    was : Made (first ∷ []) own old made words sheets base
    was = progress.was

    abbrev mid_book : Book
    mid_book = booked_all (flushes own sheets) book

    -- the book and the disk in between
    agrees_now : Agrees mid_book progress.left m.now
    agrees_now = all_agrees book seats (flushes own sheets) progress.left a m agrees reads progress.did

    stood_old : Stood old.key old.name base m.now
    stood_old = subst (λ (k : List ℕ). Stood k old.name base m.now) (sym was.key_is) (subst (λ (n : Name). Stood own.key n base m.now) (sym was.name_is) progress.stood)

    -- reads after what was done
    did_reads : Unchanged m b → DidAll book seats (flushes own sheets) progress.left a b
    did_reads only =
        subst (λ (l : List Act). DidAll book seats l progress.left a b) (append-nil (flushes own sheets))
        (did_on book seats progress.left progress.left (flushes own sheets) [] a m b progress.did (only, λ s has. has))

    stood_reads : Unchanged m b → Stood own.key own.name base b.now
    stood_reads only = subst (λ (d : Disk). Stood own.key own.name base d) (sym only.ends) progress.stood

    -- one flush more
    abbrev act : Sheet → Bool → Act
    act next done = record { deed = Flush (seat_of own.key own.name next); done = done }

    abbrev left_now : Sheet → Bool → List Seal
    left_now next done = seats_after (Flush (seat_of own.key own.name next)) done progress.left

    did_flush : (done : Bool) (next : Sheet) → next.path ≡ own.name → Where (Stood own.key own.name base) (Ran (AsEither own.key own.name base next) (StoodIf done own.key own.name next)) m b
        → DidAll book seats (flushes own sheets ++ act next done ∷ []) (left_now next done) a b
    did_flush done next path_is sealed =
        did_on book seats progress.left (left_now next done) (flushes own sheets) (act next done ∷ []) a m b progress.did
        (flush_did mid_book progress.left done own.key own.name base next m b progress.entry target (subst (λ (n : Name). Ran (LeavesApart n) (KeepsApart n) m b) was.name_is others) well progress.in_book progress.seated
        (record { path_is = path_is; sealed = sealed }))

    spares_flush : (done : Bool) (next : Sheet) → SparesSeats (flushes own sheets ++ act next done ∷ []) seats (left_now next done)
    spares_flush done next = spares_on (flushes own sheets) (act next done ∷ []) seats progress.left (left_now next done) progress.spares (one_spares progress.left (Flush (seat_of own.key own.name next)) done)

    only_flush : (done : Bool) (next : Sheet) → OnlyOf own.name (flushes own sheets ++ act next done ∷ [])
    only_flush done next = only_on own.name (flushes own sheets) (act next done ∷ []) progress.only one_name
      where
        one_name : OnlyOf own.name (act next done ∷ [])
        one_name n (inl is) = is
        one_name n (inr none) = absurd none

    -- the sheet that the session stands on is the seat's own
    replaced : (done : Bool) (next : Sheet) (c : Honest) → Ran (AsEither old.key old.name base next) (StoodIf done old.key old.name next) m c → Ran (AsEither own.key own.name base next) (StoodIf done own.key own.name next) m c
    replaced done next c ran =
        subst (λ (k : List ℕ). Ran (AsEither k own.name base next) (StoodIf done k own.name next) m c) was.key_is (subst (λ (n : Name). Ran (AsEither old.key n base next) (StoodIf done old.key n next) m c) was.name_is ran)

    -- a session that failed
    broken_under : (acts : List Act) (left : List Seal) (shown : OwnSeat) → shown.key ≡ new.key → shown.name ≡ new.name → new.broken ≡ true → ShowsUnder (booked_all acts book) left (Own (broken_seat shown)) (Some new)
    broken_under acts left shown key_is name_is broken = other_file (broken_seat shown) new (inl broken) key_is name_is (sym broken) refl refl

    some : MadeSome line own step words sheets (seat_on base old)
    some = record { made = made; rest = steps; of_line = asks; were_made = was.makes }

    -- a step at once
    module _ (roomy : IsRoomy step old.tree) (none : more ≡ []) where
      words_are : words ++ more ≡ words
      words_are = ap (λ (w : List (List ℕ)). words ++ w) none ∙ append-nil words

      once : (one : Result (Unit {0}) TreeFault) → StepGoes one step old new before after → StandingStep one step base old.tree new.tree → Unchanged m b → ChangeKnown (outcome_of false one)
      once (Ok ok) goes stands only =
          record {
            sheets_now = sheets;
            base_now = base;
            grew = refl;
            progress_now = record {
              was = subst (λ (w : List (List ℕ)). Made (first ∷ []) own new (made ++ step ∷ []) w sheets base) (sym words_are)
                  (made_more key (first ∷ []) own line [] old made words sheets base was step new (ap (λ (s : SessionState). s.changed) goes.state) (ap (λ (s : SessionState). s.key) goes.state) (ap (λ (s : SessionState). s.name) goes.state)
                  (ap (λ (s : SessionState). s.broken) goes.state ∙ was.whole) (fits_at base old step roomy)
                  (record { path_is = ap (λ (s : SessionState). s.path) goes.state ∙ was.kept.backed.path_is; nonce_is = ap (λ (s : SessionState). s.nonce) goes.state ∙ was.kept.backed.nonce_is; backs = stands.backs })
                  (stepped_is old mine new (Ok ok) step before after goes base goes.steps.mid goes.steps.rest goes.steps.ends stands.content_is goes.state));
              left = progress.left;
              did = did_reads only;
              spares = progress.spares;
              only = progress.only;
              entry = progress.entry;
              in_book = progress.in_book;
              seated = progress.seated;
              stood = stood_reads only;
            };
          }
      once (Err (trees.Damaged damage)) goes stands only = absurd stands
      once (Err trees.Host) goes stands only =
          record {
            acts = flushes own sheets;
            left = progress.left;
            after = Own (broken_seat (seat_on base old));
            did = did_reads only;
            spares = progress.spares;
            only = progress.only;
            made = are_flushes own sheets;
            shows = broken_under (flushes own sheets) progress.left (seat_on base old) (sym (ap (λ (s : SessionState). s.key) goes.state)) (sym (ap (λ (s : SessionState). s.name) goes.state)) (ap (λ (s : SessionState). s.broken) goes.state);
            turn = λ given.
                subst (λ (w : List (List ℕ)). SeatTurn standing key false (Own own) line (seen_by given w true false) replies.HostFault (flushes own sheets) (Own (broken_seat (seat_on base old)))) (sym words_are)
                (host_failed (passes given) (record { host = refl; random = refl }) (not_fetched own (seat_on base old) line step sheets ByHost some (fits_at base old step roomy) tt) refl);
          }
      once (Err trees.Memory) goes stands only = tt

    pub change_once : (one : Result (Unit {0}) TreeFault) → IsRoomy step old.tree → more ≡ [] → StepGoes one step old new before after → ChangeKnown (outcome_of false one)
    change_once one roomy none goes =
        once roomy none one goes
        (subst (λ (o : Option Honest). IfSome (option_map (λ host. reading host.now) o) (λ files. (sheet : Sheet) → Stands (contents (files (file_of old))) old.key sheet → IsBacked sheet old → StandingStep one step sheet old.tree new.tree)) is_m
        goes.standing base (stands_there old mine m base stood_old) was.kept.backed)
        (at_both (Ran IsImage Stays) before.honest after.honest m b is_m is_b goes.disk)

    -- no word came for the flush before
    pub change_lacked : IsFlushedFirst step old.tree → TooFewToFlush old more → new ≡ old → after ≡ before → ChangeKnown Lacked
    change_lacked is_first fewer same stays =
        record {
          acts = flushes own sheets;
          left = progress.left;
          after = Own (seat_on base old);
          did = did_reads (same_disk before after m b is_m is_b stays);
          spares = progress.spares;
          only = progress.only;
          made = are_flushes own sheets;
          shows = subst (λ (s : SessionState). ShowsUnder mid_book progress.left (Own (seat_on base old)) (Some s)) (sym same)
              (of_book base old was.whole
              (subst (λ (k : List ℕ). Contains progress.left (seat_of k old.name base)) (sym was.key_is) (subst (λ (n : Name). Contains progress.left (seat_of own.key n base)) (sym was.name_is) progress.seated)) was.kept refl refl);
          turn = λ given. words_failed (passes given) (record { host = refl; random = refl }) (no_flush_before own (seat_on base old) line step words more sheets some (flushes_first base old step is_first) refl fewer) refl;
        }

    -- the flush before failed; it met no damage
    undamaged_now : (fault : FlushFault) → UndamagedFlush (Err fault) old before → IsUndamaged (Err fault)
    undamaged_now fault undamaged =
        subst (λ (o : Option Honest). IfSome (option_map (λ host. reading host.now) o) (λ files. (sheet : Sheet) → IsBacked sheet old → Stands (contents (files (file_of old))) old.key sheet → IsUndamaged (Err fault))) is_m
        undamaged base was.kept.backed (stands_there old mine m base stood_old)

    pub change_unflushed : (blame : Blame) → IsFlushedFirst step old.tree → UndamagedFlush (Err (fault_of blame)) old before → SealsWith old more (λ base next. Replaces false old.key old.name base next before after)
        → new.key ≡ old.key → new.name ≡ old.name → new.broken ≡ true → ChangeKnown (Broke blame)
    change_unflushed (ByDamage damage) is_first undamaged seals key_is name_is broken = absurd (undamaged_now (fault_of (ByDamage damage)) undamaged)
    change_unflushed ByHost is_first undamaged seals key_is name_is broken =
        let next = seals base was.linked was.kept.backed in
        record {
          acts = flushes own sheets ++ act next.0 false ∷ [];
          left = left_now next.0 false;
          after = Own (broken_seat (seat_on base old));
          did = did_flush false next.0 (next.1.next.path_is ∙ was.name_is)
              (λ stood. replaced false next.0 b
              (at_both (Where (Stood old.key old.name base) (Ran (AsEither old.key old.name base next.0) (StoodIf false old.key old.name next.0))) before.honest after.honest m b is_m is_b next.2 stood_old));
          spares = spares_flush false next.0;
          only = only_flush false next.0;
          made = is_on (IsFlushOf (Own own)) (flushes own sheets) (act next.0 false ∷ []) (are_flushes own sheets) (one_is (IsFlushOf (Own own)) (act next.0 false) refl);
          shows = broken_under (flushes own sheets ++ act next.0 false ∷ []) (left_now next.0 false) (seat_on base old) (sym key_is) (sym name_is) broken;
          turn = λ given. host_failed (passes given) (record { host = refl; random = refl }) (not_flushed_before own (seat_on base old) line step words more sheets next.0 ByHost some (flushes_first base old step is_first) next.1 refl tt) refl;
        }

    -- a step after the flush
    module _ (mid : SessionState) (between : HostState) (of_mid : IsOfScript mid) (is_first : IsFlushedFirst step old.tree) (seals : SealsWith old more (λ base next. StandsOn next mid × Replaces true old.key old.name base next before between × StandsNext old.key old.name base next before between))
        {nonce : List ℕ} {tree : TreeState} (same : mid ≡ record old { nonce = nonce; drawn = None; tree = tree; changed = false }) (dirty : mid.tree.dirty ≡ []) (t : Honest) (is_t : between.honest ≡ Some t) (only_after : Unchanged t b) where
      abbrev next : Sheet
      next = (seals base was.linked was.kept.backed).0

      abbrev own_seals : Seals (seat_on base old) more next
      own_seals = (seals base was.linked was.kept.backed).1

      ran : Ran (AsEither own.key own.name base next) (StoodIf true own.key own.name next) m t
      ran =
          replaced true next t
          (at_both (Where (Stood old.key old.name base) (Ran (AsEither old.key old.name base next) (StoodIf true old.key old.name next))) before.honest between.honest m t is_m is_t (seals base was.linked was.kept.backed).2.1 stood_old)

      did_all : DidAll book seats (flushes own sheets ++ act next true ∷ []) (left_now next true) a b
      did_all =
          did_flush true next (own_seals.next.path_is ∙ was.name_is)
          (λ stood. reads_after (AsEither own.key own.name base next) (StoodIf true own.key own.name next) m t b ran only_after)

      stood_next : Stood own.key own.name next b.now
      stood_next = subst (λ (d : Disk). Stood own.key own.name next d) (sym only_after.ends) ran.ends

      stood_mid : Stood mid.key mid.name next t.now
      stood_mid =
          subst (λ (k : List ℕ). Stood k mid.name next t.now) (sym (ap (λ (s : SessionState). s.key) same ∙ was.key_is)) (subst (λ (n : Name). Stood own.key n next t.now) (sym (ap (λ (s : SessionState). s.name) same ∙ was.name_is)) ran.ends)

      abbrev entry_now : Entry
      entry_now = sealed_entry own.key next.content (Some base.content) true

      in_book_now : booked_all (flushes own (sheets ++ next ∷ [])) book own.name ≡ Some entry_now
      in_book_now =
          let entry_is = (agrees_now.stand (seat_of own.key own.name base) progress.entry progress.seated progress.in_book).entry_is in
          ap (λ (l : List Act). booked_all l book own.name) (flushes_on own sheets (next ∷ []))
          ∙ ap (λ (k : Book). k own.name) (booked_on (flushes own sheets) (act next true ∷ []) book)
          ∙ ap (λ (o : Option Entry). flushed (seat_of own.key own.name next) true o mid_book own.name) (progress.in_book ∙ ap (λ (e : Entry). Some e) entry_is)
          ∙ set_at-same own.name (Some entry_now) mid_book

      as_flushes : flushes own sheets ++ act next true ∷ [] ≡ flushes own (sheets ++ next ∷ [])
      as_flushes = sym (flushes_on own sheets (next ∷ []))

      after_step : (one : Result (Unit {0}) TreeFault) → StepGoes one step mid new between after → StandingStep one step next mid.tree new.tree → ChangeKnown (outcome_of true one)
      after_step (Ok ok) goes stands =
          record {
            sheets_now = sheets ++ next ∷ [];
            base_now = next;
            grew = (next, refl);
            progress_now = record {
              was = made_after key (first ∷ []) own line [] old made words sheets base was step mid new more next (flushes_first base old step is_first) own_seals (seals base was.linked was.kept.backed).2.0 same dirty
                  (ap (λ (s : SessionState). s.changed) goes.state) (ap (λ (s : SessionState). s.key) goes.state) (ap (λ (s : SessionState). s.name) goes.state)
                  (ap (λ (s : SessionState). s.broken) goes.state ∙ ap (λ (s : SessionState). s.broken) same ∙ was.whole)
                  (record {
                    path_is = ap (λ (s : SessionState). s.path) goes.state ∙ (seals base was.linked was.kept.backed).2.0.backed.path_is;
                    nonce_is = ap (λ (s : SessionState). s.nonce) goes.state ∙ (seals base was.linked was.kept.backed).2.0.backed.nonce_is;
                    backs = stands.backs;
                  })
                  (stepped_is mid of_mid new (Ok ok) step between after goes next goes.steps.mid goes.steps.rest goes.steps.ends stands.content_is goes.state);
              left = left_now next true;
              did = subst (λ (l : List Act). DidAll book seats l (left_now next true) a b) as_flushes did_all;
              spares = subst (λ (l : List Act). SparesSeats l seats (left_now next true)) as_flushes (spares_flush true next);
              only = subst (λ (l : List Act). OnlyOf own.name l) as_flushes (only_flush true next);
              entry = entry_now;
              in_book = in_book_now;
              seated = seat_is_left (Flush (seat_of own.key own.name next)) progress.left;
              stood = stood_next;
            };
          }
      after_step (Err (trees.Damaged damage)) goes stands = absurd stands
      after_step (Err trees.Host) goes stands =
          record {
            acts = flushes own (sheets ++ next ∷ []);
            left = left_now next true;
            after = Own (broken_seat (resealed (seat_on base old) next));
            did = subst (λ (l : List Act). DidAll book seats l (left_now next true) a b) as_flushes did_all;
            spares = subst (λ (l : List Act). SparesSeats l seats (left_now next true)) as_flushes (spares_flush true next);
            only = subst (λ (l : List Act). OnlyOf own.name l) as_flushes (only_flush true next);
            made = are_flushes own (sheets ++ next ∷ []);
            shows = broken_under (flushes own (sheets ++ next ∷ [])) (left_now next true) (resealed (seat_on base old) next)
                (sym (ap (λ (s : SessionState). s.key) goes.state ∙ ap (λ (s : SessionState). s.key) same)) (sym (ap (λ (s : SessionState). s.name) goes.state ∙ ap (λ (s : SessionState). s.name) same)) (ap (λ (s : SessionState). s.broken) goes.state);
            turn = λ given.
                host_failed (passes given) (record { host = refl; random = refl }) (not_fetched_after own (seat_on base old) line step words more sheets next ByHost some (flushes_first base old step is_first) own_seals refl tt) refl;
          }
      after_step (Err trees.Memory) goes stands = tt

      standing_step : (one : Result (Unit {0}) TreeFault) → StepGoes one step mid new between after → StandingStep one step next mid.tree new.tree
      standing_step one goes =
          subst (λ (o : Option Honest). IfSome (option_map (λ host. reading host.now) o) (λ files. (sheet : Sheet) → Stands (contents (files (file_of mid))) mid.key sheet → IsBacked sheet mid → StandingStep one step sheet mid.tree new.tree)) is_t
          goes.standing next (stands_there mid of_mid t next stood_mid) (seals base was.linked was.kept.backed).2.0.backed

    pub change_known : (outcome : Outcome) → ChangeLeft step old new before after more outcome → ChangeKnown outcome
    change_known _ (left_once one roomy none goes) = change_once one roomy none goes
    change_known _ (left_lacked is_first fewer same stays) = change_lacked is_first fewer same stays
    change_known _ (left_unflushed blame counted is_first undamaged seals key_is name_is broken) = change_unflushed blame is_first undamaged seals key_is name_is broken
    change_known _ (left_after mid between one of_mid counted is_first seals same dirty goes) =
        let t = back_to (Ran IsImage Stays) between.honest after.honest b is_b goes.disk in
        after_step mid between of_mid is_first seals same dirty t.0 t.1 t.2 one goes (standing_step mid between of_mid is_first seals same dirty t.0 t.1 t.2 one goes)
