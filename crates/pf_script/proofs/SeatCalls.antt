-- A line on a seat, from what was seen of a call on its session.
use Rattle.std.proofs.Common.{◌≡◌, inl, Bool, true, false, List, [], ◌∷◌, ◌++◌, ℕ, refl, sym, ◌∙◌, ap, subst, Option, Some, None, Ok, Err}
use Rattle.std.proofs.lemmas.List.{append-nil}
use Rattle.std.specs.Prelude.{Contains}
use Rattle.node_tree.specs.Sheet.{Sheet, IsLinked}
use Rattle.pf_session.specs.Moving.{IsKeptOn}
use Rattle.pf_io.specs.Disk.{Name}
use Rattle.pf_io.specs.Host.{Answer, LengthWas, HostState, WhereTold, OnDisk}
use Rattle.pf_io.specs.Words.{WordsState}
use Rattle.pf_io.specs.declared.faults.Memory.{Memory}
use Rattle.pf_io.proofs.Telling.{told_by, both_weaker}
use Rattle.pf_session.specs.Aside.{Aside}
use Rattle.pf_session.specs.State.{SessionState}
use Rattle.pf_script.specs.BookSeats.{Covering, Covers, CoversNone, KeepsUnder}
use Rattle.pf_script.specs.Desk.{IsSeated, IsLike, Shows, seat_on}
use Rattle.pf_script.specs.DeskSteps.{MaySeal, Unfolds, SomeSeatTurn, CountsFault, SeatTurns, SeatCaused, LeavesSeat, SeatAsks, Concerns, CountsReply, Spares, SeatWants, SeatGoes, is_host_fault, is_words_fault}
use Rattle.pf_script.specs.Script.{OwnSeat, Seat, Own, sheets_of}
use Rattle.pf_script.specs.SeatReplies.{flush_reply}
use Rattle.pf_script.specs.Turns.{WasAbsent, Seen, SeatTurn, Caused, on_carried, Blame, ByHost, ByDamage}
use Rattle.pf_script.specs.declared.line.ScriptLine.{ScriptLine}
use Rattle.pf_script.specs.declared.reply.Reply.{Reply}
use Rattle.pf_script.proofs.FewAsked.{TakesFew}
use Rattle.pf_script.proofs.Flushed.{SeenOf, host_blamed, fault_of}
use Rattle.pf_script.proofs.Showing.{shows_whole}
use Rattle.pf_script.proofs.Sparing.{spares_aside}
use Rattle.pf_script.proofs.StepKeeping.{keeps_more}

abbrev pub seen_by : List Answer → List (List ℕ) → Bool → Bool → Seen
seen_by these words of_host of_words = record { given = these; words = words; host_failed = of_host; words_failed = of_words }

-- a name that was looked for first, and was absent
pub told_absent : (name : Name) (rest : List Answer) → WasAbsent name (LengthWas name None ∷ rest)
told_absent name rest = (rest, refl)

-- a seat by its fields
abbrev pub own_with : List ℕ → Name → Sheet → List ℕ → List ℕ → Bool → Option (List ℕ) → Bool → OwnSeat
own_with key name sheet content dirty changed drawn broken = record { key = key; name = name; sheet = sheet; content = content; dirty = dirty; changed = changed; drawn = drawn; broken = broken }

pub own_same : (sheet : Sheet) (key key' name name' content content' dirty dirty' : List ℕ) (changed changed' : Bool) (drawn drawn' : Option (List ℕ)) (broken broken' : Bool)
    → key ≡ key' → name ≡ name' → content ≡ content' → dirty ≡ dirty' → changed ≡ changed' → drawn ≡ drawn' → broken ≡ broken'
    → own_with key name sheet content dirty changed drawn broken ≡ own_with key' name' sheet content' dirty' changed' drawn' broken'
own_same sheet key key' name name' content content' dirty dirty' changed changed' drawn drawn' broken broken' e1 e2 e3 e4 e5 e6 e7 =
    ap (λ (x : List ℕ). own_with x name sheet content dirty changed drawn broken) e1
    ∙ ap (λ (x : List ℕ). own_with key' x sheet content dirty changed drawn broken) e2
    ∙ ap (λ (x : List ℕ). own_with key' name' sheet x dirty changed drawn broken) e3
    ∙ ap (λ (x : List ℕ). own_with key' name' sheet content' x changed drawn broken) e4
    ∙ ap (λ (x : Bool). own_with key' name' sheet content' dirty' x drawn broken) e5
    ∙ ap (λ (x : Option (List ℕ)). own_with key' name' sheet content' dirty' changed' x broken) e6
    ∙ ap (λ (x : Bool). own_with key' name' sheet content' dirty' changed' drawn' x) e7

-- the turns of a whole session, by the sheet that it stands on
abbrev pub SheetTurns : List ℕ → Bool → ScriptLine → Seen → Reply → SessionState → Option SessionState → List Answer → Type 0
SheetTurns key taken line seen reply old new given =
    (sealed : List Sheet) (base : Sheet) → Contains sealed base → IsLinked base → IsKeptOn base old
    → Unfolds key sealed (MaySeal (SomeSeatTurn key sealed taken (Own (seat_on base old)) line) seen) (λ acts. (left : Seat) × SeatTurn (on_carried key sealed) key taken (Own (seat_on base old)) line seen reply acts left × Shows (sealed ++ sheets_of acts) left new) given []

pub whole_turns : (key : List ℕ) (taken : Bool) (line : ScriptLine) (seen : Seen) (reply : Reply) (old : SessionState) (new : Option SessionState) (given : List Answer) → old.broken ≡ false
    → SheetTurns key taken line seen reply old new given → SeatTurns key taken line seen reply (Some old) new given
whole_turns key taken line seen reply old new given whole turns sealed seat shows =
    let on = shows_whole sealed seat old whole shows in
    subst (λ (x : Seat). Unfolds key sealed (MaySeal (SomeSeatTurn key sealed taken x line) seen) (λ acts. (left : Seat) × SeatTurn (on_carried key sealed) key taken x line seen reply acts left × Shows (sealed ++ sheets_of acts) left new) given []) (sym on.seat_is)
    (turns sealed on.sheet on.among on.linked on.kept)

-- the counts that rose where a flush failed
pub host_reply : (blame : Blame) → is_host_fault (flush_reply (fault_of blame)) ≡ host_blamed blame
host_reply ByHost = refl
host_reply (ByDamage damage) = refl

pub words_reply : (blame : Blame) → is_words_fault (flush_reply (fault_of blame)) ≡ false
words_reply ByHost = refl
words_reply (ByDamage damage) = refl

pub false_true : (b : Bool) → b ≡ true → b ≡ false → ⊥
false_true b is_true is_false = let e : true ≡ false = sym is_true ∙ is_false in absurd (cc)

-- no sheet was sealed
pub shows_same : (sealed : List Sheet) (seat : Seat) (session : Option SessionState) → Shows sealed seat session → Shows (sealed ++ []) seat session
shows_same sealed seat session shows = subst (λ (l : List Sheet). Shows l seat session) (sym (append-nil sealed)) shows

module _ (key : List ℕ) (taken : Bool) (line : ScriptLine) (old : SessionState) (before after : HostState) (random random' : WordsState) (aside : Aside old.name before after) (takes : TakesFew line (Some old) before after random random') where
  spares_on : Spares (Concerns taken line (Some old)) before after
  spares_on = spares_aside (Concerns taken line (Some old)) old.name (inl refl) before after aside

  books_on : (last : Covering) → OnDisk before after (KeepsUnder (Covers old) last (λ name. name ≡ old.name)) → OnDisk before after (KeepsUnder (Covers old) last (Concerns taken line (Some old)))
  books_on last books =
      both_weaker (KeepsUnder (Covers old) last (λ name. name ≡ old.name)) (KeepsUnder (Covers old) last (Concerns taken line (Some old))) before.honest after.honest books
      (λ a b keeps. keeps_more (Covers old) last (λ name. name ≡ old.name) (Concerns taken line (Some old)) a b (λ name is. inl is) keeps)

  -- memory was wanting
  pub goes_wanting : (fault : Memory) (new : SessionState) → SeatWants key line (Some old) (Some new) before after random random' → OnDisk before after (KeepsUnder (Covers old) (Covers new) (λ name. name ≡ old.name)) → IsSeated key new → new.name ≡ old.name
      → after.faults ≡ before.faults → random'.faults ≡ random.faults → SeatGoes key taken line (Err fault) (Some old) (Some new) before after random random'
  goes_wanting fault new wants books seated name_is on_host on_words = record {
    asks = tt;
    caused = tt;
    leaves = tt;
    books = books_on (Covers new) books;
    counts = (on_host, on_words);
    wordless = takes.0;
    few = takes.1;
    wants = wants;
    seated = seated;
    named = λ name has. inl (has ∙ name_is);
    spares = spares_on;
  }

  module _ (reply : Reply) (counts : CountsReply (Ok reply) before after random random') where
    -- the session goes on
    pub goes_told : (new : SessionState) → WhereTold before after (λ given. SeatAsks key taken line reply (Some old) (Some new) given before after random random')
        → SeatCaused key taken line reply (Some old) before after → LeavesSeat line reply (Some old) (Some new) random random' → OnDisk before after (KeepsUnder (Covers old) (Covers new) (λ name. name ≡ old.name)) → IsSeated key new → new.name ≡ old.name
        → SeatGoes key taken line (Ok reply) (Some old) (Some new) before after random random'
    goes_told new asks caused leaves books seated name_is = record { asks = asks; caused = caused; leaves = leaves; books = books_on (Covers new) books; counts = counts; wordless = takes.0; few = takes.1; wants = tt; seated = seated; named = λ name has. inl (has ∙ name_is); spares = spares_on }

    -- it is let go
    pub out_told : WhereTold before after (λ given. SeatAsks key taken line reply (Some old) None given before after random random')
        → SeatCaused key taken line reply (Some old) before after → LeavesSeat line reply (Some old) None random random' → OnDisk before after (KeepsUnder (Covers old) CoversNone (λ name. name ≡ old.name)) → SeatGoes key taken line (Ok reply) (Some old) None before after random random'
    out_told asks caused leaves books = record { asks = asks; caused = caused; leaves = leaves; books = books_on CoversNone books; counts = counts; wordless = takes.0; few = takes.1; wants = tt; seated = tt; named = λ name none. absurd none; spares = spares_on }

module _ (key : List ℕ) (taken : Bool) (line : ScriptLine) (reply : Reply) (old : SessionState) (before after : HostState) (random random' : WordsState) (aside : Aside old.name before after) (takes : TakesFew line (Some old) before after random random') (these : List Answer) (words : List (List ℕ)) (of_host of_words : Bool)
    (seen : SeenOf these words of_host of_words before after random random') (host_is : is_host_fault reply ≡ of_host) (words_is : is_words_fault reply ≡ of_words) where
  asks_by : (new : Option SessionState) → SeatTurns key taken line (seen_by these words of_host of_words) reply (Some old) new these → SeatAsks key taken line reply (Some old) new these before after random random'
  asks_by new turns = record {
    seen = seen_by these words of_host of_words;
    was_seen = record { answers = refl; words = seen.taken; of_host = seen.on_host; of_words = seen.on_words };
    turns = turns;
  }

  counts_by : CountsReply (Ok reply) before after random random'
  counts_by = (subst (λ b. CountsFault b before.faults after.faults) (sym host_is) seen.on_host, subst (λ b. CountsFault b random.faults random'.faults) (sym words_is) seen.on_words)

  caused_by : ((seat : Seat) → IsLike seat (Some old) → Caused key taken seat line these reply) → SeatCaused key taken line reply (Some old) before after
  caused_by caused = record { given = these; told = seen.told; caused = caused }

  pub goes_on : (new : SessionState) → SeatTurns key taken line (seen_by these words of_host of_words) reply (Some old) (Some new) these → ((seat : Seat) → IsLike seat (Some old) → Caused key taken seat line these reply) → LeavesSeat line reply (Some old) (Some new) random random' → OnDisk before after (KeepsUnder (Covers old) (Covers new) (λ name. name ≡ old.name))
      → IsSeated key new → new.name ≡ old.name → SeatGoes key taken line (Ok reply) (Some old) (Some new) before after random random'
  goes_on new turns caused leaves =
      goes_told key taken line old before after random random' aside takes reply counts_by new
      (told_by (λ given. SeatAsks key taken line reply (Some old) (Some new) given before after random random') these before after seen.told (asks_by (Some new) turns)) (caused_by caused) leaves

  pub goes_out : SeatTurns key taken line (seen_by these words of_host of_words) reply (Some old) None these → ((seat : Seat) → IsLike seat (Some old) → Caused key taken seat line these reply) → LeavesSeat line reply (Some old) None random random' → OnDisk before after (KeepsUnder (Covers old) CoversNone (λ name. name ≡ old.name))
      → SeatGoes key taken line (Ok reply) (Some old) None before after random random'
  goes_out turns caused leaves =
      out_told key taken line old before after random random' aside takes reply counts_by
      (told_by (λ given. SeatAsks key taken line reply (Some old) None given before after random random') these before after seen.told (asks_by None turns)) (caused_by caused) leaves
