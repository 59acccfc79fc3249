-- Lines under a book: what they have in common.
use Rattle.std.proofs.Common.{◌≡◌, ◌⊎◌, inl, inr, Bool, true, false, List, [], ◌∷◌, ℕ, refl, sym, ◌∙◌, ap, subst, Option, Some, None, Result}
use Rattle.std.specs.Prelude.{Contains, IsSome}
use Rattle.node_tree.specs.Sheet.{Sheet}
use Rattle.pf_io.specs.Disk.{Name, Files, IsImage, reading}
use Rattle.pf_io.specs.Host.{HostState, OnDisk}
use Rattle.pf_io.specs.Moments.{Honest, Ran}
use Rattle.pf_io.specs.Names.{IsTarget}
use Rattle.pf_io.specs.Words.{WordsState}
use Rattle.pf_io.specs.declared.faults.Memory.{Memory}
use Rattle.pf_io.proofs.Telling.{both_same, told_none}
use Rattle.pf_session.specs.Aside.{Aside, LeavesApart, KeepsApart}
use Rattle.pf_session.specs.Moving.{IsKeptOn}
use Rattle.pf_session.specs.Reopening.{Stood}
use Rattle.pf_session.specs.State.{SessionState}
use Rattle.pf_script.specs.Book.{Book, Entry, Seal, Agrees}
use Rattle.pf_script.specs.BookActs.{Deed, Flush, Act, Among, booked_all}
use Rattle.pf_script.specs.BookDebts.{Unchanged, Flushes, DidAll, Owes, seat_of, seal_of}
use Rattle.pf_script.specs.BookSeats.{Covers, KeepsUnder}
use Rattle.pf_script.specs.BookTurns.{ShowsUnder, no_file, of_book, other_file, Knows, IdleIfRefused, LineUnder, SeatUnder, SeatAgrees, SeatBooked, MadeBy}
use Rattle.pf_script.specs.FileTurns.{stands_on, answers_of, ShowsOver, no_file as no_file_over, whole_file, broken_file, SeatFiles}
use Rattle.pf_script.specs.Desk.{seat_on}
use Rattle.pf_script.specs.DeskSteps.{CoversSome, Concerns, HasItsName}
use Rattle.pf_script.specs.Rules.{IsFirst, rules}
use Rattle.pf_script.specs.Script.{Seat, Empty, Own, HasThisName}
use Rattle.pf_script.specs.SeatReplies.{flush_reply}
use Rattle.pf_script.specs.Turns.{Seen, Blame, ByHost, ByDamage, SeatTurn, refused}
use Rattle.pf_script.specs.declared.line.ScriptLine.{ScriptLine}
use Rattle.pf_script.specs.declared.reply.Reply.{Reply}
use Rattle.pf_script.specs.declared.reply.Reply.TheVariants as replies
use Rattle.pf_script.specs.declared.reply.Why.{Why}
use Rattle.pf_script.proofs.ActKeeping.{no_sheet, one_act, unchanged_now}
use Rattle.pf_script.proofs.CallKeeping.{at_both, both_with}
use Rattle.pf_script.proofs.Dealing.{Deals, DealsFreely, idle_deals, flush_deals}
use Rattle.pf_script.proofs.FlushLine.{flush_act}
use Rattle.pf_script.proofs.Flushed.{fault_of}
use Rattle.pf_script.proofs.MadeActs.{MayFlush, none_is}
use Rattle.pf_script.proofs.OverGiven.{first_unasked, over_idle}
use Rattle.pf_script.proofs.Refusing.{idle_seen, none_taken}
use Rattle.pf_script.proofs.Seats.{seats_after, seat_is_left}
use Rattle.pf_script.proofs.Showing.{ShowsSome, same_session}

-- how a seat looks that shows a session
abbrev pub LooksLike : Option SessionState → Seat → Type 0
LooksLike None seat = seat ≡ Empty
LooksLike (Some own) seat = ShowsSome seat own

pub looks_like : (book : Book) (seats : List Seal) (seat : Seat) (session : Option SessionState) → ShowsUnder book seats seat session → LooksLike session seat
looks_like book seats seat None (no_file is none) = is
looks_like book seats seat None (of_book sheet own whole seated kept is some) = absurd (cc)
looks_like book seats seat None (other_file shown own free key name broken is some) = absurd (cc)
looks_like book seats seat (Some s) (no_file is none) = absurd (cc)
looks_like book seats seat (Some s) (of_book sheet own whole seated kept is some) =
    let same = same_session s own some in
    record { shown = seat_on sheet own; key_is = ap (λ (x : SessionState). x.key) same; name_is = ap (λ (x : SessionState). x.name) same; broken_is = ap (λ (x : SessionState). x.broken) same; seat_is = is }
looks_like book seats seat (Some s) (other_file shown own free key name broken is some) =
    let same = same_session s own some in
    record { shown = shown; key_is = key ∙ ap (λ (x : SessionState). x.key) same; name_is = name ∙ ap (λ (x : SessionState). x.name) same; broken_is = broken ∙ ap (λ (x : SessionState). x.broken) same; seat_is = is }

-- so over files
pub looks_over : (files : Files) (seat : Seat) (session : Option SessionState) → ShowsOver files seat session → LooksLike session seat
looks_over files seat None (no_file_over is none) = is
looks_over files seat None (whole_file sheet own whole path reopens kept is some) = absurd (cc)
looks_over files seat None (broken_file shown own is_broken broken key name is some) = absurd (cc)
looks_over files seat (Some s) (no_file_over is none) = absurd (cc)
looks_over files seat (Some s) (whole_file sheet own whole path reopens kept is some) =
    let same = same_session s own some in
    record { shown = seat_on sheet own; key_is = ap (λ (x : SessionState). x.key) same; name_is = ap (λ (x : SessionState). x.name) same; broken_is = ap (λ (x : SessionState). x.broken) same; seat_is = is }
looks_over files seat (Some s) (broken_file shown own is_broken broken key name is some) =
    let same = same_session s own some in
    record {
      shown = shown;
      key_is = key ∙ ap (λ (x : SessionState). x.key) same;
      name_is = name ∙ ap (λ (x : SessionState). x.name) same;
      broken_is = broken ∙ sym is_broken ∙ ap (λ (x : SessionState). x.broken) same;
      seat_is = is;
    }

-- a reply that is no refusal
abbrev pub IsAnswered : Reply → Type 0
IsAnswered (replies.Refused why) = ⊥
IsAnswered other = Unit {0}

-- a seat for a session that is covered
record SeatAfter (book : Book) (seats : List Seal) (new : Option SessionState) : Type 0 where
  after : Seat
  shows : ShowsUnder book seats after new

seat_after : (book : Book) (seats : List Seal) (new : Option SessionState) → CoversSome new book seats → SeatAfter book seats new
seat_after book seats None covers = record { after = Empty; shows = no_file refl refl }
seat_after book seats (Some s) covers = by_broken s.broken refl
  where
    free : (s.broken ≡ true) ⊎ (book s.name ≡ None) → SeatAfter book seats (Some s)
    free is = record { after = Own (seat_on no_sheet s); shows = other_file (seat_on no_sheet s) s is refl refl refl refl refl }

    by_entry : s.broken ≡ false → (o : Option Entry) → book s.name ≡ o → SeatAfter book seats (Some s)
    by_entry whole None was = free (inr was)
    by_entry whole (Some entry) was = let on = covers entry whole was in record { after = Own (seat_on on.0 s); shows = of_book on.0 s whole on.1 on.2 refl refl }

    by_broken : (b : Bool) → s.broken ≡ b → SeatAfter book seats (Some s)
    by_broken true is = free (inl is)
    by_broken false is = by_entry is (book s.name) refl

pub idle_answered : (reply : Reply) → IsAnswered reply → (acts : List Act) → IdleIfRefused reply acts
idle_answered replies.None answered acts = tt
idle_answered replies.Created answered acts = tt
idle_answered (replies.Opened size) answered acts = tt
idle_answered (replies.Viewed size logged) answered acts = tt
idle_answered (replies.Given bytes) answered acts = tt
idle_answered (replies.Written count flushed) answered acts = tt
idle_answered (replies.Sized size) answered acts = tt
idle_answered replies.Flushed answered acts = tt
idle_answered replies.Moved answered acts = tt
idle_answered (replies.Drawn nonce) answered acts = tt
idle_answered (replies.Closed lost) answered acts = tt
idle_answered (replies.Refused why) answered acts = absurd answered
idle_answered (replies.DamagedNode damage) answered acts = tt
idle_answered (replies.DamagedChunk chunk) answered acts = tt
idle_answered replies.HostFault answered acts = tt
idle_answered replies.WordsFault answered acts = tt

-- a flush that failed after its words
pub blame_answered : (blame : Blame) → IsAnswered (flush_reply (fault_of blame))
blame_answered ByHost = tt
blame_answered (ByDamage damage) = tt

-- without acts
pub idle_none : (reply : Reply) → IdleIfRefused reply []
idle_none replies.None = tt
idle_none replies.Created = tt
idle_none (replies.Opened size) = tt
idle_none (replies.Viewed size logged) = tt
idle_none (replies.Given bytes) = tt
idle_none (replies.Written count flushed) = tt
idle_none (replies.Sized size) = tt
idle_none replies.Flushed = tt
idle_none replies.Moved = tt
idle_none (replies.Drawn nonce) = tt
idle_none (replies.Closed lost) = tt
idle_none (replies.Refused why) = refl
idle_none (replies.DamagedNode damage) = tt
idle_none (replies.DamagedChunk chunk) = tt
idle_none replies.HostFault = tt
idle_none replies.WordsFault = tt

module _ (key : List ℕ) (taken : Bool) (line : ScriptLine) (seen : Seen) (reply : Reply) where
  -- where the book does not tell what the line comes to, it is kept
  pub unknown_under : IsAnswered reply → (old new : Option SessionState) (a b : Honest) (book : Book) (seats : List Seal) (seat : Seat) → Deals taken line old new book seats seat a b → ¬ (Knows book key seat line reply)
      → LineUnder key taken line seen reply old new book seats seat a b
  unknown_under answered old new a b book seats seat deals unknown =
      let then = seat_after (booked_all deals.acts book) deals.left new deals.covers in
      record {
        acts = deals.acts;
        left = deals.left;
        after = then.after;
        did = deals.did;
        shows = then.shows;
        spares = deals.spares;
        concerned = deals.concerned;
        made = deals.made;
        idle = idle_answered reply answered deals.acts;
        turn = λ knows. absurd (unknown knows);
      }

  -- a line on a whole session
  module _ (old : SessionState) (whole : old.broken ≡ false) (new : Option SessionState) (a b : Honest) where
    -- the session is of the book, and on a sheet that its file stands for
    pub record OnBase (book : Book) (seats : List Seal) (base : Sheet) : Type 0 where
      pub entry : Entry
      pub was : book old.name ≡ Some entry
      pub seated : Contains seats (seat_of old.key old.name base)
      pub kept : IsKeptOn base old
      pub stood : Stood old.key old.name base a.now
      pub image : IsImage a.now (reading a.now)

    abbrev pub KnownUnder : Type 0
    KnownUnder = (book : Book) (seats : List Seal) → Agrees book seats a.now → (base : Sheet) → OnBase book seats base → LineUnder key taken line seen reply (Some old) new book seats (Own (seat_on base old)) a b

    not_broken : old.broken ≡ true → ⊥
    not_broken broken = let e : true ≡ false = sym broken ∙ whole in absurd (cc)

    unknown_own : (book : Book) (seat : Seat) → LooksLike (Some old) seat → book old.name ≡ None → ¬ (Knows book key seat line reply)
    unknown_own book seat looks none knows = by_case (subst (λ (x : Seat). Knows book key x line reply) looks.seat_is knows)
      where
        by_case : (looks.shown.broken ≡ true) ⊎ IsSome (book looks.shown.name) → ⊥
        by_case (inl broken) = not_broken (sym looks.broken_is ∙ broken)
        by_case (inr has) = let e : false ≡ true = subst (λ (o : Option Entry). IsSome o) (ap book looks.name_is ∙ none) has in absurd (cc)

    by_known : ((book : Book) (seats : List Seal) (seat : Seat) → Agrees book seats a.now → IsImage a.now (reading a.now) → ShowsUnder book seats seat (Some old) → book old.name ≡ None → ¬ (Knows book key seat line reply)
        → LineUnder key taken line seen reply (Some old) new book seats seat a b)
        → KnownUnder → SeatUnder key taken line seen reply (Some old) new a b
    by_known free known book seats seat agrees reads shows = by_shows shows
      where
        unknown : book old.name ≡ None → LineUnder key taken line seen reply (Some old) new book seats seat a b
        unknown none = free book seats seat agrees reads shows none (unknown_own book seat (looks_like book seats seat (Some old) shows) none)

        by_entry : (sheet : Sheet) → Contains seats (seat_of old.key old.name sheet) → IsKeptOn sheet old → seat ≡ Own (seat_on sheet old) → (o : Option Entry) → book old.name ≡ o → LineUnder key taken line seen reply (Some old) new book seats seat a b
        by_entry sheet seated kept is None was = unknown was
        by_entry sheet seated kept is (Some entry) was =
            subst (λ (x : Seat). LineUnder key taken line seen reply (Some old) new book seats x a b) (sym is)
            (known book seats agrees sheet (record { entry = entry; was = was; seated = seated; kept = kept; stood = (agrees.stand (seat_of old.key old.name sheet) entry seated was).stood; image = reads }))

        by_shows : ShowsUnder book seats seat (Some old) → LineUnder key taken line seen reply (Some old) new book seats seat a b
        by_shows (no_file is none) = absurd (cc)
        by_shows (of_book sheet own is_whole seated kept is some) =
            let same = same_session old own some in
            by_entry sheet (subst (λ (s : SessionState). Contains seats (seat_of s.key s.name sheet)) same seated) (subst (λ (s : SessionState). IsKeptOn sheet s) same kept) (is ∙ ap (λ (s : SessionState). Own (seat_on sheet s)) same) (book old.name) refl
        by_shows (other_file shown own (inl broken) key_is name_is broken_is is some) = let same = same_session old own some in absurd (not_broken (sym (ap (λ (s : SessionState). s.broken) same) ∙ broken))
        by_shows (other_file shown own (inr none) key_is name_is broken_is is some) = unknown (subst (λ (s : SessionState). book s.name ≡ None) (same_session old own some) none)

    -- a line that is no refusal
    pub own_under : IsAnswered reply → DealsFreely taken line old new a b → KnownUnder → SeatUnder key taken line seen reply (Some old) new a b
    own_under answered deals known =
        by_known
        (λ book seats seat agrees reads shows none unknown.
        let looks = looks_like book seats seat (Some old) shows in
        unknown_under answered (Some old) new a b book seats seat (deals book seats seat agrees reads (subst (λ (x : Seat). HasThisName old.name x) (sym looks.seat_is) looks.name_is) none) unknown)
        known

  -- a line that does nothing, on a whole session: it has this turn on the sheet of the seat
  pub own_idle : (old : SessionState) → old.broken ≡ false → (new : Option SessionState) → new ≡ Some old → (a b : Honest) → Unchanged a b
      → ((base : Sheet) → SeatTurn (stands_on key (reading a.now)) key taken (Own (seat_on base old)) line seen reply [] (Own (seat_on base old))) → SeatUnder key taken line seen reply (Some old) new a b
  own_idle old whole new same a b only turn =
      subst (λ (o : Option SessionState). SeatUnder key taken line seen reply (Some old) o a b) (sym same)
      (by_known old whole (Some old) a b
      (λ book seats seat agrees reads shows none unknown. record {
        acts = [];
        left = seats;
        after = seat;
        did = (only, λ s has. has);
        shows = shows;
        spares = λ s has apart. has;
        concerned = λ n among. absurd among;
        made = none_is (MadeBy line _);
        idle = idle_none reply;
        turn = λ knows. absurd (unknown knows);
      })
      (λ book seats agrees base on. record {
        acts = [];
        left = seats;
        after = Own (seat_on base old);
        did = (only, λ s has. has);
        shows = of_book base old whole on.seated on.kept refl refl;
        spares = λ s has apart. has;
        concerned = λ n among. absurd among;
        made = none_is (MadeBy line _);
        idle = idle_none reply;
        turn = λ _. turn base;
      }))

-- so of a call on a host that may flush the session
pub on_disk_by : (P : Honest → Honest → Type 0) (key : List ℕ) (taken : Bool) (line : ScriptLine) (seen : Seen) (reply : Reply) (old : SessionState) (whole : old.broken ≡ false) (new : Option SessionState) (before after : HostState)
    → IsAnswered reply → MayFlush line → IsTarget old.name → ((n : Name) → HasItsName new n → n ≡ old.name) → OnDisk before after (KeepsUnder (Covers old) (CoversSome new) (λ name. name ≡ old.name)) → OnDisk before after P
    → ((a b : Honest) → before.honest ≡ Some a → after.honest ≡ Some b → P a b → KnownUnder key taken line seen reply old whole new a b) → OnDisk before after (SeatUnder key taken line seen reply (Some old) new)
on_disk_by P key taken line seen reply old whole new before after answered may target named keeps holds known =
    both_with P (SeatUnder key taken line seen reply (Some old) new) before.honest after.honest holds
    (λ a b is is2 p.
    own_under key taken line seen reply old whole new a b answered
    (flush_deals taken line old new a b may target named (at_both (KeepsUnder (Covers old) (CoversSome new) (λ name. name ≡ old.name)) before.honest after.honest a b is is2 keeps))
    (known a b is is2 p))

-- of one that changes the session's name alone
pub on_disk : (key : List ℕ) (taken : Bool) (line : ScriptLine) (seen : Seen) (reply : Reply) (old : SessionState) (whole : old.broken ≡ false) (new : Option SessionState) (before after : HostState)
    → IsAnswered reply → MayFlush line → IsTarget old.name → ((n : Name) → HasItsName new n → n ≡ old.name) → OnDisk before after (KeepsUnder (Covers old) (CoversSome new) (λ name. name ≡ old.name)) → Aside old.name before after
    → ((a b : Honest) → before.honest ≡ Some a → after.honest ≡ Some b → Ran (LeavesApart old.name) (KeepsApart old.name) a b → KnownUnder key taken line seen reply old whole new a b)
    → OnDisk before after (SeatUnder key taken line seen reply (Some old) new)
on_disk key taken line seen reply old whole new before after answered may target named keeps aside known =
    on_disk_by (Ran (LeavesApart old.name) (KeepsApart old.name)) key taken line seen reply old whole new before after answered may target named keeps aside known

-- so of one that only reads
pub on_disk_reads : (key : List ℕ) (taken : Bool) (line : ScriptLine) (seen : Seen) (reply : Reply) (old : SessionState) (whole : old.broken ≡ false) (new : Option SessionState) (before after : HostState)
    → IsAnswered reply → ((n : Name) → HasItsName new n → n ≡ old.name) → OnDisk before after Unchanged → ((a b : Honest) → before.honest ≡ Some a → after.honest ≡ Some b → Unchanged a b → KnownUnder key taken line seen reply old whole new a b)
    → OnDisk before after (SeatUnder key taken line seen reply (Some old) new)
on_disk_reads key taken line seen reply old whole new before after answered named holds known =
    both_with Unchanged (SeatUnder key taken line seen reply (Some old) new) before.honest after.honest holds
    (λ a b is is2 only. own_under key taken line seen reply old whole new a b answered (idle_deals taken line old new a b named only) (known a b is is2 only))

-- no act is of any name, and one flush is of the session's
pub none_concerned : (taken : Bool) (line : ScriptLine) (old : Option SessionState) (name : Name) → Among [] name → Concerns taken line old name
none_concerned taken line old name none = absurd none

pub one_concerned : (taken : Bool) (line : ScriptLine) (old : SessionState) (done : Bool) (next : Sheet) (name : Name) → Among (flush_act old next done ∷ []) name → Concerns taken line (Some old) name
one_concerned taken line old done next name (inl same) = inl same
one_concerned taken line old done next name (inr none) = absurd none

-- a flush that was done or failed, as one act
pub flush_did : (book : Book) (seats : List Seal) (done : Bool) (key : List ℕ) (name : Name) (base next : Sheet) (a b : Honest) (entry : Entry) → IsTarget name → Ran (LeavesApart name) (KeepsApart name) a b → IsImage b.now (reading b.now)
    → book name ≡ Some entry → Contains seats (seat_of key name base) → Flushes done base (seat_of key name next) a b
    → DidAll book seats (record { deed = Flush (seat_of key name next); done = done } ∷ []) (seats_after (Flush (seat_of key name next)) done seats) a b
flush_did book seats done key name base next a b entry target others reads was seated flushes =
    let deed = Flush (seat_of key name next) in
    one_act book seats deed done a b (record { targets = target; others = others; reads = reads }) (subst (λ (o : Option Entry). Owes seats deed done o a b) (sym was) (base, seated, flushes))

-- the seat that a deed leaves, of a session of its key and name
pub left_seat : (deed : Deed) (seats : List Seal) (new : SessionState) → new.key ≡ (seal_of deed).key → new.name ≡ (seal_of deed).name → Contains (seats_after deed true seats) (seat_of new.key new.name (seal_of deed).sheet)
left_seat deed seats new key_is name_is =
    let sheet = (seal_of deed).sheet in
    subst (λ (k : List ℕ). Contains (seats_after deed true seats) (seat_of k new.name sheet)) (sym key_is)
    (subst (λ (n : Name). Contains (seats_after deed true seats) (seat_of (seal_of deed).key n sheet)) (sym name_is) (seat_is_left deed seats))

-- a line that is refused by a rule: nothing is done
pub refused_agrees : (key : List ℕ) (taken : Bool) (line : ScriptLine) (why : Why) (old : Option SessionState) (host : HostState) (words : WordsState) → ((seat : Seat) → LooksLike old seat → IsFirst (rules key taken seat line []) why)
    → SeatAgrees key taken line (replies.Refused why) old old host host words words
refused_agrees key taken line why old host words first = record {
  seen = idle_seen;
  was_seen = record { answers = told_none host host refl; words = none_taken words; of_host = refl; of_words = refl };
  wordless = λ change undrawn none. both_same Unchanged host.honest host.honest refl (λ a. unchanged_now a);
  under = both_same (SeatUnder key taken line idle_seen (replies.Refused why) old old) host.honest host.honest refl
      (λ a book seats seat agrees reads shows. record {
        acts = [];
        left = seats;
        after = seat;
        did = (unchanged_now a, λ s has. has);
        shows = shows;
        spares = λ s has apart. has;
        concerned = λ name none. absurd none;
        made = none_is (MadeBy line seat);
        idle = refl;
        turn = λ _. refused why (first seat (looks_like book seats seat old shows)) (record { host = refl; random = refl }) refl refl refl refl;
      });
  over = both_same (SeatFiles key taken line idle_seen (replies.Refused why) old old) host.honest host.honest refl
      (λ a seat calm shows opened. record {
        acts = [];
        after = seat;
        over = over_idle key taken seat line [] (replies.Refused why) seat a a (unchanged_now a)
            (refused why (first_unasked key taken seat line (answers_of (reading a.now) line) why (first seat (looks_over (reading a.now) seat old shows))) (record { host = refl; random = refl }) refl refl refl refl);
        shows = shows;
      });
}

-- a seat that has a session
pub some_booked : (key : List ℕ) (taken : Bool) (line : ScriptLine) (result : Result Reply Memory) (old : Option SessionState) (own : SessionState) (new : Option SessionState) (before after : HostState) (random random' : WordsState)
    → old ≡ Some own → SeatBooked key taken line result (Some own) new before after random random' → SeatBooked key taken line result old new before after random random'
some_booked key taken line result old own new before after random random' is go = subst (λ (o : Option SessionState). SeatBooked key taken line result o new before after random random') (sym is) go
