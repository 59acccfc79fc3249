-- The line `move`, from the contract of a move.
use Rattle.std.proofs.Common.{◌≡◌, ◌⊎◌, inl, inr, Bool, true, false, cond, List, [], ◌∷◌, ◌++◌, length, ℕ, ◌+◌, ◌*◌, ◌<◌, refl, sym, ◌∙◌, ap, subst, Option, Some, None, Result, Ok, Err}
use Rattle.std.specs.Prelude.{Contains}
use Rattle.std.proofs.lemmas.List.{append-nil, append_assoc}
use Rattle.std.proofs.lemmas.List.Elements.{Contains-push, Contains-append_right}
use Rattle.node_layout.specs.Places.{node_count}
use Rattle.node_layout.specs.declared.damage.Damage.{Damage}
use Rattle.node_tree.specs.Sheet.{Sheet, IsLinked}
use Rattle.pf_io.specs.Disk.{Name}
use Rattle.pf_io.specs.Host.{Answer, LengthWas, Gave, Made, HostState, Both, IsMore, OnDisk, ReadsAsImage}
use Rattle.pf_io.specs.Names.{side_of}
use Rattle.pf_io.specs.Words.{WordsState}
use Rattle.pf_io.specs.declared.faults.Memory.{Memory}
use Rattle.pf_io.proofs.Telling.{told_by, told_on, told_none, both_then, both_weaker}
use Rattle.pf_session.specs.Aside.{AsideBoth}
use Rattle.pf_session.specs.Asking.{IsTaken as AreTaken}
use Rattle.pf_session.specs.Backing.{RestsOn}
use Rattle.pf_session.specs.Copying.{clean_below, copied}
use Rattle.pf_session.specs.Drawing.{IsDrawn}
use Rattle.pf_session.specs.Flushing.{SealGoes}
use Rattle.pf_session.specs.Making.{ReplaceShort}
use Rattle.pf_session.specs.Moving.{IsKeptOn, FlushesFirst, as_it_is, flushed, FlushFails, IsFree, flush_words, CarryGoes, Moves, MovesOn, MoveGoes, misnamed, no_memory, look_up_failed, was_there, no_words, not_flushed, not_moved, moved, renamed as renamed_session}
use Rattle.pf_session.specs.State.{SessionState}
use Rattle.pf_session.specs.declared.fault.FlushFault.{FlushFault}
use Rattle.pf_session.specs.declared.fault.FlushFault.TheVariants as faults
use Rattle.pf_script.specs.BookActs.{Move, Flush, Act}
use Rattle.pf_script.specs.BookDebts.{seat_of}
use Rattle.pf_script.specs.BookSeats.{IsOfScript, Covers, KeepsUnder}
use Rattle.pf_script.specs.Desk.{IsSeated, IsLike, Shows, whole_file, broken_file, seat_on}
use Rattle.pf_script.specs.DeskSteps.{MaySeal, SomeSeatTurn, CountsFault, SeatAsks, LeavesSeat, to_move, SeatGoes, Concerns, Spares, is_host_fault, is_words_fault}
use Rattle.pf_script.specs.Rules.{Rule, IsFirst, NoneRefuses, rules, refuses}
use Rattle.pf_script.specs.SeatReplies.{flush_reply, move_reply}
use Rattle.pf_script.specs.declared.line.ScriptLine.{ScriptLine}
use Rattle.pf_script.specs.declared.line.ScriptLine.TheVariants as lines
use Rattle.pf_script.specs.declared.reply.Reply.{Reply}
use Rattle.pf_script.specs.declared.reply.Reply.TheVariants as replies
use Rattle.pf_script.specs.declared.reply.Why.{Why}
use Rattle.pf_script.specs.declared.reply.Why.TheVariants as whys
use Rattle.pf_session.specs.Faults.{move_of_flush}
use Rattle.pf_session.specs.Flushing.{node_short, call_failed, flushed as sealed_all}
use Rattle.pf_session.specs.declared.fault.MoveFault.{MoveFault}
use Rattle.pf_session.specs.declared.fault.MoveFault.TheVariants as moves
use Rattle.pf_io.specs.Names.{IsTarget}
use Rattle.pf_script.proofs.Liking.{like_some}
use Rattle.pf_script.proofs.MoveCallKeeping.{move_keeps}
use Rattle.pf_script.proofs.MoveUnder.{seals_moved}
use Rattle.pf_script.proofs.OfScript.{of_moved}
use Rattle.pf_script.proofs.StepKeeping.{keeps_more}
use Rattle.pf_script.proofs.Refusing.{none_taken, at_last, refused_goes, nothing_wanting, first_then, none_then}
use Rattle.pf_script.proofs.SeatCalls.{told_absent, seen_by, own_with, SheetTurns, whole_turns, host_reply, words_reply, shows_same, false_true}
use Rattle.pf_script.proofs.Sparing.{spares_both}
use Rattle.pf_script.proofs.Unfolding.{sheets_then}
use Rattle.pf_script.proofs.WriteLine.{nothing_goes}
use Rattle.pf_script.specs.Script.{OwnSeat, Own, Seat, sheets_of}
use Rattle.pf_script.specs.SeatSteps.{SealsMoved, renamed, broken_seat, words_of_flush, words_of_move}
use Rattle.pf_script.specs.Turns.{FlushedToMove, as_it_was, was_changed, IsShort, Blame, ByHost, ByDamage, BlamesFlush, FlushDamage, Caused, SeatTurn, Fails, refused, accepted, host_failed, was_damaged, words_failed, moved as moved_on, not_looked_up, not_flushed_to_move, not_moved as not_carried, no_move, flushes, on_carried}
use Rattle.pf_script.proofs.FlushLine.{resealed_own}
use Rattle.pf_script.proofs.Flushed.{sealed_size, SeenOf, counted_kind, host_blamed, fault_of, seal_ends, FlushEnds, not_begun, not_ended, was_ended}

-- words that were taken one after the other
pub taken_then : (words more : List (List ℕ)) (a b c : WordsState) → Both a.left b.left (AreTaken words) → Both b.left c.left (AreTaken more) → Both a.left c.left (AreTaken (words ++ more))
taken_then words more a b c one two =
    both_then (AreTaken words) (AreTaken more) (AreTaken (words ++ more)) a.left b.left c.left one two (λ x y z p q. p ∙ ap (λ (l : List (List ℕ)). words ++ l) q ∙ sym (append_assoc words more z))

-- What the flush of a move came to, with the words of the move.
pub record FlushedFirst (old mid : SessionState) (nonce : List ℕ) (start between : HostState) (random random' : WordsState) : Type 0 where
  pub these : List Answer
  pub told : Both start.given between.given (IsMore these)
  pub on_host : between.faults ≡ start.faults
  pub words : List (List ℕ)
  pub first : List ℕ
  pub second : List ℕ
  pub is_nonce : nonce ≡ first ++ second
  pub taken : Both random.left random'.left (AreTaken (words ++ first ∷ second ∷ []))
  pub on_words : random'.faults ≡ random.faults
  pub key_is : mid.key ≡ old.key
  pub name_is : mid.name ≡ old.name
  pub whole : mid.broken ≡ false
  pub clean : mid.changed ≡ false
  pub dirty : mid.tree.dirty ≡ []
  pub size_is : mid.tree.size ≡ old.tree.size
  pub each : (base : Sheet) → IsLinked base → IsKeptOn base old → (sheets : List Sheet) × (base' : Sheet) × FlushedToMove (seat_on base old) words sheets (seat_on base' mid) × RestsOn base' mid × IsLinked base'

module _ (old : SessionState) (mine : IsOfScript old) (whole : old.broken ≡ false) (undirty : old.changed ≡ false → old.tree.dirty ≡ []) (mid : SessionState) (nonce : List ℕ) (start between : HostState) (random random' : WordsState) where
  ended_first : (keys : List (List ℕ)) (middle : WordsState) → old.changed ≡ true → mid.tree.size ≡ old.tree.size → IsDrawn nonce middle random' → FlushEnds (Ok tt) old mid start between random middle → FlushedFirst old mid nonce start between random random'
  ended_first keys middle was size_is drawn (not_begun words fewer seen same stays said) = absurd (cc)
  ended_first keys middle was size_is drawn (not_ended blame these words counted seen blames seals key_is name_is broken said) = absurd (cc)
  ended_first keys middle was size_is drawn (was_ended these words counted seen swapped seals same dirty said) = record {
    these = these;
    told = seen.told;
    on_host = seen.on_host;
    words = words;
    first = drawn.first;
    second = drawn.second;
    is_nonce = drawn.is;
    taken = taken_then words (drawn.first ∷ drawn.second ∷ []) random middle random' seen.taken drawn.took.told;
    on_words = drawn.took.calm ∙ seen.on_words;
    key_is = ap (λ (s : SessionState). s.key) same;
    name_is = ap (λ (s : SessionState). s.name) same;
    whole = ap (λ (s : SessionState). s.broken) same ∙ whole;
    clean = ap (λ (s : SessionState). s.changed) same;
    dirty = dirty;
    size_is = size_is;
    each = λ base linked kept.
        let next = seals base linked kept.backed in (
          next.0 ∷ [],
          next.0,
          subst (λ (own : OwnSeat). FlushedToMove (seat_on base old) words (next.0 ∷ []) own) (resealed_own base old mid words next.0 next.1 next.2.0 same dirty) (was_changed words next.0 was next.1),
          record { stands = next.2.0; clean = dirty },
          next.1.next.linked,
        );
  }

  pub first_flushed : FlushesFirst old mid nonce start between random random' → FlushedFirst old mid nonce start between random random'
  first_flushed (as_it_is unchanged same stays drawn) = record {
    these = [];
    told = told_none start between (ap (λ (h : HostState). h.given) stays);
    on_host = ap (λ (h : HostState). h.faults) stays;
    words = [];
    first = drawn.first;
    second = drawn.second;
    is_nonce = drawn.is;
    taken = drawn.took.told;
    on_words = drawn.took.calm;
    key_is = ap (λ (s : SessionState). s.key) same;
    name_is = ap (λ (s : SessionState). s.name) same;
    whole = ap (λ (s : SessionState). s.broken) same ∙ whole;
    clean = ap (λ (s : SessionState). s.changed) same ∙ unchanged;
    dirty = ap (λ (s : SessionState). s.tree.dirty) same ∙ undirty unchanged;
    size_is = ap (λ (s : SessionState). s.tree.size) same;
    each = λ base linked kept. (
      [],
      base,
      subst (λ (s : SessionState). FlushedToMove (seat_on base old) [] [] (seat_on base s)) (sym same) (as_it_was unchanged),
      subst (λ (s : SessionState). RestsOn base s) (sym same) (kept.rests unchanged),
      linked,
    );
  }
  first_flushed (flushed sealed keys middle was came drawn goes aside reads) = ended_first keys middle was (sealed_size sealed keys old mid start between goes) drawn (seal_ends old mine mid start between random middle (Ok tt) sealed keys came goes)

-- the block of a node that a copy was given short
short_in : (name side : Name) (clean : List ℕ) (damage : Damage) (before after : HostState) (short : ReplaceShort name side clean damage before after)
    → IsShort name (Made side ∷ copied name side short.done short.blocks ++ Gave name (4096 * damage.node) 4096 short.block ∷ []) damage
short_in name side clean damage before after short = record {
  block = short.block;
  gave = Contains-push (Made side ∷ copied name side short.done short.blocks) (Gave name (4096 * damage.node) 4096 short.block);
  short = short.short;
  kind_is = short.kind_is;
}

-- so after other answers
pub short_more : (more these : List Answer) (name : Name) (blame : Blame) → BlamesFlush name these blame → BlamesFlush name (more ++ these) blame
short_more more these name ByHost blames = tt
short_more more these name (ByDamage damage) short = record {
  block = short.block;
  gave = Contains-append_right more these (Gave name (4096 * damage.node) 4096 short.block) short.gave;
  short = short.short;
  kind_is = short.kind_is;
}

-- what the calls of a move failed by
pub record CarryBlamed (fault : FlushFault) (name : Name) (between after : HostState) : Type 0 where
  pub blame : Blame
  pub these : List Answer
  pub told : Both between.given after.given (IsMore these)
  pub on_host : CountsFault (host_blamed blame) between.faults after.faults
  pub blames : BlamesFlush name these blame
  pub fault_is : fault ≡ fault_of blame

pub carry_blamed : (fault : FlushFault) (to : Name) (nonce : List ℕ) (mid : SessionState) (between after : HostState) → CarryGoes (Err fault) to nonce mid between after → CarryBlamed fault mid.name between after
carry_blamed faults.Words to nonce mid between after carry = absurd carry
carry_blamed (faults.Damaged damage) to nonce mid between after short = record {
  blame = ByDamage damage;
  these = Made (side_of to) ∷ copied mid.name (side_of to) short.done short.blocks ++ Gave mid.name (4096 * damage.node) 4096 short.block ∷ [];
  told = short.asked.told;
  on_host = short.asked.faults;
  blames = short_in mid.name (side_of to) (clean_below [] (node_count mid.tree.size)) damage between after short;
  fault_is = refl;
}
carry_blamed faults.Host to nonce mid between after stopped = record {
  blame = ByHost;
  these = stopped.stopped.answered;
  told = stopped.stopped.asked.told;
  on_host = counted_kind stopped.stopped.failed between.faults after.faults stopped.stopped.asked.faults;
  blames = tt;
  fault_is = refl;
}

-- the reply to a fault of a flush
pub blamed_reply : (blame : Blame) → Ok (flush_reply (fault_of blame)) ≡ move_reply (Err (move_of_flush (fault_of blame)))
blamed_reply ByHost = refl
blamed_reply (ByDamage damage) = refl

abbrev pub fault_result : FlushFault → Result (Unit {0}) FlushFault
fault_result fault = Err fault

-- the words of a move, as its seat counts them
pub too_few_to_move : (base : Sheet) (old : SessionState) (words : List (List ℕ)) → length words < flush_words old.changed old + 2 → length words < words_of_move (seat_on base old)
too_few_to_move base old words fewer = subst (λ (n : ℕ). length words < n + 2) (by_change old.changed) fewer
  where
    by_change : (b : Bool) → flush_words b old ≡ cond b (words_of_flush (seat_on base old)) 0
    by_change true = refl
    by_change false = refl

-- a flush that had its words did not want any
pub never_lacks : (fault : FlushFault) (sealed : List ℕ) (keys : List (List ℕ)) (old new : SessionState) (before after : HostState) → SealGoes (Err fault) sealed keys old new before after → fault_result fault ≡ fault_result faults.Words → ⊥
never_lacks fault sealed keys old new before after (node_short damage named short seals same said) is = absurd (cc)
never_lacks fault sealed keys old new before after (call_failed stopped beside seals shape same said) is = absurd (cc)
never_lacks fault sealed keys old new before after (sealed_all mid is_done beside settled seals same said) is = absurd (cc)

module _ (key : List ℕ) (k : ℕ) (to : Name) (old : SessionState) (seated : IsSeated key old) (whole : old.broken ≡ false) where
  abbrev line : ScriptLine
  line = lines.Move k to

  abbrev looked : Option ℕ → Answer
  looked size = LengthWas to size

  pub not_busy : (other : Why) → ¬ (refuses whys.NameBusy (false ≡ true) other)
  not_busy other busy = let e : false ≡ true = busy.1 in absurd (cc)

  abbrev pub move_rules : List Answer → List Rule
  move_rules given = refuses whys.NameBusy (false ≡ true) ∷ refuses whys.BadName (¬ (IsTarget to)) ∷ refuses whys.TargetExists ((size : ℕ) × (others : List Answer) × (given ≡ LengthWas to (Some size) ∷ others)) ∷ []

  -- no rule refuses a new name that was not found, on a whole seat
  passes_where : IsTarget to → (seat : Seat) (own : OwnSeat) → seat ≡ Own own → own.broken ≡ false → (given : List Answer) → ((size : ℕ) (others : List Answer) → given ≡ looked (Some size) ∷ others → ⊥) → NoneRefuses (rules key false seat line given)
  passes_where good seat own is well given not_there =
      none_then (move_rules given) seat own is well (not_busy, ((λ other bad. bad.1 good), ((λ other there. not_there there.1.0 there.1.1 there.1.2), tt)))

  none_found : (rest : List Answer) (size : ℕ) (others : List Answer) → looked None ∷ rest ≡ looked (Some size) ∷ others → ⊥
  none_found rest size others is = absurd (cc)

  none_asked : (size : ℕ) (others : List Answer) → [] ≡ looked (Some size) ∷ others → ⊥
  none_asked size others is = absurd (cc)

  pub move_passes : IsTarget to → (base : Sheet) (rest : List Answer) → NoneRefuses (rules key false (Own (seat_on base old)) line (looked None ∷ rest))
  move_passes good base rest = passes_where good (Own (seat_on base old)) (seat_on base old) refl whole (looked None ∷ rest) (none_found rest)

  -- before anything was asked
  pub move_unasked : IsTarget to → (base : Sheet) → NoneRefuses (rules key false (Own (seat_on base old)) line [])
  move_unasked good base = passes_where good (Own (seat_on base old)) (seat_on base old) refl whole [] none_asked

  -- a new name that was found is refused
  pub move_found : (size : ℕ) → IsTarget to → (seat : Seat) (own : OwnSeat) → seat ≡ Own own → own.broken ≡ false → IsFirst (rules key false seat line (looked (Some size) ∷ [])) whys.TargetExists
  move_found size good seat own is well =
      first_then (move_rules (looked (Some size) ∷ [])) whys.TargetExists seat own is well (inr (not_busy, inr ((λ other bad. bad.1 good), inl (refl, (size, [], refl)))))

  -- on seats that are like the session
  on_like : (P : Seat → Type 0) → ((seat : Seat) (own : OwnSeat) → seat ≡ Own own → own.broken ≡ false → P seat) → (seat : Seat) → IsLike seat (Some old) → P seat
  on_like P holds seat like = let at = like_some seat old like in holds seat at.own at.seat_is (at.like.broken_is ∙ whole)

  like_passes : IsTarget to → (given : List Answer) → ((size : ℕ) (others : List Answer) → given ≡ looked (Some size) ∷ others → ⊥) → (seat : Seat) → IsLike seat (Some old) → NoneRefuses (rules key false seat line given)
  like_passes good given not_there = on_like (λ seat. NoneRefuses (rules key false seat line given)) (λ seat own is well. passes_where good seat own is well given not_there)

  -- the cause of a fault
  fault_cause : IsTarget to → (rest : List Answer) (blame : Blame) → BlamesFlush old.name (looked None ∷ rest) blame → (seat : Seat) → IsLike seat (Some old) → Caused key false seat line (looked None ∷ rest) (flush_reply (fault_of blame))
  fault_cause good rest ByHost blames seat like = like_passes good (looked None ∷ rest) (none_found rest) seat like
  fault_cause good rest (ByDamage damage) short seat like =
      let at = like_some seat old like in (
        like_passes good (looked None ∷ rest) (none_found rest) seat like,
        subst (λ (s : Seat). FlushDamage s (looked None ∷ rest) damage) (sym at.seat_is) (subst (λ (n : Name). IsShort n (looked None ∷ rest) damage) (sym at.like.name_is) short),
      )

  -- acts whose sheets the line may have sealed: it fails at the host in acts with the same sheets
  may_fail : (sealed : List Sheet) (seat left : Seat) (these : List Answer) (words : List (List ℕ)) (of_host of_words : Bool) (acts failed : List Act) → NoneRefuses (rules key false seat line these) → Fails key (seen_by these words true false) ByHost seat line failed left
      → sheets_of acts ≡ sheets_of failed → MaySeal (SomeSeatTurn key sealed false seat line) (seen_by these words of_host of_words) acts
  may_fail sealed seat left these words of_host of_words acts failed none fails same = record {
    front = words;
    back = [];
    failed = failed;
    in_order = sym (append-nil words);
    goes = (left, host_failed none (record { host = refl; random = refl }) fails refl);
    sheets = same;
  }

  module _ (new : SessionState) (before after : HostState) (random random' : WordsState) (books : OnDisk before after (KeepsUnder (Covers old) (Covers new) (Concerns false line (Some old)))) (spares : Spares (Concerns false line (Some old)) before after) (mine : IsOfScript new) where
    move_on : (reply : Reply) (these : List Answer) (words : List (List ℕ)) (of_host of_words : Bool) → SeenOf these words of_host of_words before after random random' → is_host_fault reply ≡ of_host → is_words_fault reply ≡ of_words
        → SheetTurns key false line (seen_by these words of_host of_words) reply old (Some new) these → ((seat : Seat) → IsLike seat (Some old) → Caused key false seat line these reply) → LeavesSeat line reply (Some old) (Some new) random random' → new.key ≡ old.key → ((name : Name) → name ≡ new.name → Concerns false line (Some old) name)
        → (new.broken ≡ false → new.changed ≡ false → new.tree.dirty ≡ []) → SeatGoes key false line (Ok reply) (Some old) (Some new) before after random random'
    move_on reply these words of_host of_words seen host_is words_is turns caused leaves key_is names clean = record {
      asks = told_by (λ given. SeatAsks key false line reply (Some old) (Some new) given before after random random') these before after seen.told
          (record {
            seen = seen_by these words of_host of_words;
            was_seen = record { answers = refl; words = seen.taken; of_host = seen.on_host; of_words = seen.on_words };
            turns = whole_turns key false line (seen_by these words of_host of_words) reply old (Some new) these whole turns;
          });
      caused = record { given = these; told = seen.told; caused = caused };
      leaves = leaves;
      books = books;
      counts = (subst (λ b. CountsFault b before.faults after.faults) (sym host_is) seen.on_host, subst (λ b. CountsFault b random.faults random'.faults) (sym words_is) seen.on_words);
      wordless = λ none. absurd none;
      few = tt;
      wants = tt;
      seated = record { of_script = mine; key_is = key_is ∙ seated.key_is; clean = clean };
      named = names;
      spares = spares;
    }

    -- the session is as it was
    as_before : (reply : Reply) (these : List Answer) (words : List (List ℕ)) (of_host of_words : Bool) → SeenOf these words of_host of_words before after random random' → is_host_fault reply ≡ of_host → is_words_fault reply ≡ of_words → new ≡ old
        → ((sealed : List Sheet) (base : Sheet) → SeatTurn (on_carried key sealed) key false (Own (seat_on base old)) line (seen_by these words of_host of_words) reply [] (Own (seat_on base old)))
        → ((seat : Seat) → IsLike seat (Some old) → Caused key false seat line these reply) → LeavesSeat line reply (Some old) (Some new) random random' → SeatGoes key false line (Ok reply) (Some old) (Some new) before after random random'
    as_before reply these words of_host of_words seen host_is words_is same turns caused leaves =
        move_on reply these words of_host of_words seen host_is words_is
        (λ sealed base among linked kept. at_last [] (inl refl) (λ unforged. (
          Own (seat_on base old),
          turns sealed base,
          shows_same sealed (Own (seat_on base old)) (Some new) (subst (λ (s : SessionState). Shows sealed (Own (seat_on base old)) (Some s)) (sym same) (whole_file base old whole among linked kept refl refl)),
        )))
        caused leaves (ap (λ (s : SessionState). s.key) same) (λ name is. inl (is ∙ ap (λ (s : SessionState). s.name) same))
        (subst (λ (s : SessionState). s.broken ≡ false → s.changed ≡ false → s.tree.dirty ≡ []) (sym same) seated.clean)

    -- a call failed: the seat is broken
    broken_on : (blame : Blame) (rest : List Answer) (words : List (List ℕ)) → SeenOf (looked None ∷ rest) words (host_blamed blame) false before after random random' → new.key ≡ old.key → new.name ≡ old.name → new.broken ≡ true
        → IsTarget to → BlamesFlush old.name (looked None ∷ rest) blame
        → ((base : Sheet) → IsLinked base → IsKeptOn base old
        → (acts : List Act) × (left : OwnSeat) × ((other : Blame) → BlamesFlush old.name (looked None ∷ rest) other → Fails key (seen_by (looked None ∷ rest) words (host_blamed other) false) other (Own (seat_on base old)) line acts (Own left)) × (left.broken ≡ true) × (left.key ≡ old.key) × (left.name ≡ old.name))
        → SeatGoes key false line (Ok (flush_reply (fault_of blame))) (Some old) (Some new) before after random random'
    broken_on blame rest words seen key_is name_is broken good blames fails =
        let these = looked None ∷ rest in
        move_on (flush_reply (fault_of blame)) these words (host_blamed blame) false seen (host_reply blame) (words_reply blame)
        (λ sealed base among linked kept.
        let on = fails base linked kept in
        let seat = Own (seat_on base old) in
        at_last on.0 (inr (may_fail sealed seat (Own on.1) these words (host_blamed blame) false on.0 on.0 (move_passes good base rest) (on.2 ByHost tt) refl))
        (λ unforged. (Own on.1, fault_turn sealed seat these blame on.0 (Own on.1) (move_passes good base rest) (on.2 blame blames), broken_file on.1 new broken on.3 (on.4 ∙ sym key_is) (on.5 ∙ sym name_is) refl refl)))
        (fault_cause good rest blame blames) (left_broken blame) key_is (λ name is. inl (is ∙ name_is)) (λ also. absurd (false_true new.broken broken also))
      where
        left_broken : (blame : Blame) → LeavesSeat line (flush_reply (fault_of blame)) (Some old) (Some new) random random'
        left_broken ByHost = inr broken
        left_broken (ByDamage damage) = broken

        fault_turn : (sealed : List Sheet) (seat : Seat) (these : List Answer) (blame : Blame) (acts : List Act) (left : Seat) → NoneRefuses (rules key false seat line these) → Fails key (seen_by these words (host_blamed blame) false) blame seat line acts left
            → SeatTurn (on_carried key sealed) key false seat line (seen_by these words (host_blamed blame) false) (flush_reply (fault_of blame)) acts left
        fault_turn sealed seat these ByHost acts left none fails = host_failed none (record { host = refl; random = refl }) fails refl
        fault_turn sealed seat these (ByDamage damage) acts left none fails = was_damaged damage none (record { host = refl; random = refl }) fails refl

    -- it was not flushed
    unflushed : (start : HostState) (fault : FlushFault) → IsFree to before start → (fails : FlushFails fault old new start after random random') → FlushEnds (Err fault) old new start after random fails.between
        → SeatGoes key false line (move_reply (Err (move_of_flush fault))) (Some old) (Some new) before after random random'
    unflushed start fault free fails (not_begun words fewer seen same stays said) = absurd (never_lacks fault fails.sealed fails.keys old new start after fails.goes said)
    unflushed start fault free fails (was_ended these words counted seen swapped seals same dirty said) = absurd (cc)
    unflushed start fault free fails (not_ended blame these words counted seen blames seals key_is name_is broken said) =
        let first = fails.drawn.first in
        let second = fails.drawn.second in
        let all = words ++ first ∷ second ∷ [] in
        let fault_is : fault ≡ fault_of blame = cc in
        subst (λ (f : FlushFault). SeatGoes key false line (move_reply (Err (move_of_flush f))) (Some old) (Some new) before after random random') (sym fault_is)
        (subst (λ (r : Result Reply Memory). SeatGoes key false line r (Some old) (Some new) before after random random') (blamed_reply blame)
        (broken_on blame these all
        (record {
          told = told_on (looked None ∷ []) these before start after free.looks.asked.asked.told seen.told;
          taken = taken_then words (first ∷ second ∷ []) random fails.between random' seen.taken fails.drawn.took.told;
          on_host = subst (λ n. CountsFault (host_blamed blame) n after.faults) free.looks.asked.asked.faults seen.on_host;
          on_words = fails.drawn.took.calm ∙ seen.on_words;
        }) key_is name_is broken free.is_target (short_more (looked None ∷ []) these old.name blame blames)
        (λ base linked kept.
        let on = seals base linked kept.backed in (
          record { deed = Flush (seat_of old.key old.name on.0); done = false } ∷ [],
          broken_seat (seat_on base old),
          λ other. not_flushed_to_move k to (seat_on base old) words on.0 first second other (told_absent to these) fails.is_changed on.1 refl,
          refl,
          refl,
          refl,
        ))))

    module _ (start between : HostState) (mid : SessionState) (nonce : List ℕ) (free : IsFree to before start) (first : FlushesFirst old mid nonce start between random random') where
      f : FlushedFirst old mid nonce start between random random'
      f = first_flushed old seated.of_script whole (seated.clean whole) mid nonce start between random random' first

      abbrev all_words : List (List ℕ)
      all_words = f.words ++ f.first ∷ f.second ∷ []

      abbrev all_given : List Answer → List Answer
      all_given more = (looked None ∷ []) ++ (f.these ++ more)

      all_told : (more : List Answer) → Both between.given after.given (IsMore more) → Both before.given after.given (IsMore (all_given more))
      all_told more told = told_on (looked None ∷ []) (f.these ++ more) before start after free.looks.asked.asked.told (told_on f.these more start between after f.told told)

      up_to : between.faults ≡ before.faults
      up_to = f.on_host ∙ free.looks.asked.asked.faults

      -- the sheet of a move
      sealed_by : (ended : Bool) (base' : Sheet) → RestsOn base' mid → (on : MovesOn ended to nonce base' mid between after) → SealsMoved (seat_on base' mid) to (f.first ∷ f.second ∷ []) on.next
      sealed_by ended base' rests on = seals_moved ended to nonce base' mid between after rests on f.first f.second f.is_nonce

      uncarried : (fault : FlushFault) → CarryBlamed fault mid.name between after → Moves false to nonce mid between after → new ≡ record mid { broken = true } → SeatGoes key false line (move_reply (Err (move_of_flush fault))) (Some old) (Some new) before after random random'
      uncarried fault by carries same =
          subst (λ (x : FlushFault). SeatGoes key false line (move_reply (Err (move_of_flush x))) (Some old) (Some new) before after random random') (sym by.fault_is)
          (subst (λ (r : Result Reply Memory). SeatGoes key false line r (Some old) (Some new) before after random random') (blamed_reply by.blame)
          (broken_on by.blame (f.these ++ by.these) all_words
          (record { told = all_told by.these by.told; taken = f.taken; on_host = subst (λ n. CountsFault (host_blamed by.blame) n after.faults) up_to by.on_host; on_words = f.on_words })
          (ap (λ (s : SessionState). s.key) same ∙ f.key_is) (ap (λ (s : SessionState). s.name) same ∙ f.name_is) (ap (λ (s : SessionState). s.broken) same) free.is_target
          (short_more (looked None ∷ []) (f.these ++ by.these) old.name by.blame (short_more f.these by.these old.name by.blame (subst (λ (n : Name). BlamesFlush n by.these by.blame) f.name_is by.blames)))
          (λ base linked kept.
          let each = f.each base linked kept in
          let base' = each.1 in
          let on = carries.carries.each base' each.4 each.3 in (
            flushes (seat_on base old) each.0 ++ record { deed = Move old.name (seat_of old.key to on.next); done = false } ∷ [],
            broken_seat (seat_on base' mid),
            λ other. not_carried k to (seat_on base old) (seat_on base' mid) f.words (f.first ∷ f.second ∷ []) each.0 on.next other (told_absent to (f.these ++ by.these)) each.2 (sealed_by false base' each.3 on) refl,
            refl,
            f.key_is,
            f.name_is,
          ))))

      -- the seat under its new name
      shows_moved : (sealed : List Sheet) (base' : Sheet) (acts : List Act) → RestsOn base' mid → (on : MovesOn true to nonce base' mid between after) → Contains (sealed ++ sheets_of acts) on.next → new ≡ renamed_session to nonce mid
          → Shows (sealed ++ sheets_of acts) (Own (renamed (seat_on base' mid) to on.next)) (Some new)
      shows_moved sealed base' acts rests on among same =
          subst (λ (s : SessionState). Shows (sealed ++ sheets_of acts) (Own (renamed (seat_on base' mid) to on.next)) (Some s)) (sym same)
          (whole_file on.next (renamed_session to nonce mid) f.whole among on.is_next.linked (record { backed = on.on_next.stands.backed; rests = λ unchanged. on.on_next })
          (ap (λ (content : List ℕ). Own (own_with mid.key to on.next content mid.tree.dirty mid.changed mid.drawn mid.broken)) (rests.stands.now_is ∙ sym on.same_content ∙ sym on.on_next.stands.now_is)) refl)

      carried_on : (more : List Answer) → Both between.given after.given (IsMore more) → after.faults ≡ between.faults → Moves true to nonce mid between after → new ≡ renamed_session to nonce mid
          → SeatGoes key false line (Ok replies.Moved) (Some old) (Some new) before after random random'
      carried_on more told on_host carries same =
          move_on replies.Moved (all_given more) all_words false false (record { told = all_told more told; taken = f.taken; on_host = on_host ∙ up_to; on_words = f.on_words }) refl refl
          (λ sealed base among linked kept.
          let each = f.each base linked kept in
          let base' = each.1 in
          let on = carries.carries.each base' each.4 each.3 in
          let act : Act = record { deed = Move old.name (seat_of old.key to on.next); done = true } in
          let stopped : Act = record { deed = Move old.name (seat_of old.key to on.next); done = false } in
          let before_it = flushes (seat_on base old) each.0 in
          let acts = before_it ++ act ∷ [] in
          let none = move_passes free.is_target base (f.these ++ more) in
          at_last acts
          (inr (may_fail sealed (Own (seat_on base old)) (Own (broken_seat (seat_on base' mid))) (all_given more) all_words false false acts (before_it ++ stopped ∷ []) none
          (not_carried k to (seat_on base old) (seat_on base' mid) f.words (f.first ∷ f.second ∷ []) each.0 on.next ByHost (told_absent to (f.these ++ more)) each.2 (sealed_by true base' each.3 on) refl tt)
          (sheets_then before_it (act ∷ []) ∙ sym (sheets_then before_it (stopped ∷ [])))))
          (λ unforged. (
            Own (renamed (seat_on base' mid) to on.next),
            accepted none (record { host = refl; random = refl }) (moved_on k to (seat_on base old) (seat_on base' mid) f.words (f.first ∷ f.second ∷ []) each.0 on.next (told_absent to (f.these ++ more)) each.2 (sealed_by true base' each.3 on) refl),
            shows_moved sealed base' acts each.3 on
                (Contains-append_right sealed (sheets_of acts) on.next (subst (λ (l : List Sheet). Contains l on.next) (sym (sheets_then before_it (act ∷ []))) (Contains-push (sheets_of before_it) on.next))) same,
          )))
          (λ seat like. (like_passes free.is_target (all_given more) (none_found (f.these ++ more)) seat like, (to, refl, told_absent to (f.these ++ more)))) (to_move k to old new (ap (λ (s : SessionState). s.name) same) (ap (λ (s : SessionState). s.broken) same ∙ f.whole)
          (ap (λ (s : SessionState). s.changed) same ∙ f.clean) (ap (λ (s : SessionState). s.tree.size) same ∙ f.size_is)) (ap (λ (s : SessionState). s.key) same ∙ f.key_is) (λ name is. inr (ap Some (sym (is ∙ ap (λ (s : SessionState). s.name) same)), refl))
          (λ also unchanged. ap (λ (s : SessionState). s.tree.dirty) same ∙ f.dirty)

    move_cases : (result : Result (Unit {0}) MoveFault) → MoveGoes result to old new before after random random' → SeatGoes key false line (move_reply result) (Some old) (Some new) before after random random'
    move_cases result (misnamed bad same stays words said) =
        by_result (Err moves.BadName) said
        (nothing_goes key line (Ok (replies.Refused whys.BadName)) old new before after random random' same stays words
        (refused_goes key false line whys.BadName (Some old) before random
        (on_like (λ seat. IsFirst (rules key false seat line []) whys.BadName) (λ seat own is well. first_then (move_rules []) whys.BadName seat own is well (inr (not_busy, inl (refl, bad))))) seated))
      where
        by_result : (r : Result (Unit {0}) MoveFault) → result ≡ r → SeatGoes key false line (move_reply r) (Some old) (Some new) before after random random' → SeatGoes key false line (move_reply result) (Some old) (Some new) before after random random'
        by_result r said = subst (λ (x : Result (Unit {0}) MoveFault). SeatGoes key false line (move_reply x) (Some old) (Some new) before after random random') (sym said)
    move_cases result (no_memory good same stays words said) =
        subst (λ (x : Result (Unit {0}) MoveFault). SeatGoes key false line (move_reply x) (Some old) (Some new) before after random random') (sym said)
        (nothing_goes key line (Err (record {})) old new before after random random' same stays words (nothing_wanting key false line (record {}) (Some old) before random (λ none. none) seated))
    move_cases result (look_up_failed good fails same words said) =
        subst (λ (x : Result (Unit {0}) MoveFault). SeatGoes key false line (move_reply x) (Some old) (Some new) before after random random') (sym said)
        (as_before replies.HostFault [] [] true false
        (record { told = fails.asked.asked.told; taken = subst (λ (w : WordsState). Both random.left w.left (AreTaken [])) (sym words) (none_taken random); on_host = fails.asked.asked.faults; on_words = ap (λ (w : WordsState). w.faults) words })
        refl refl same (λ sealed base. host_failed (move_unasked good base) (record { host = refl; random = refl }) (not_looked_up k to (seat_on base old) refl refl) refl) (like_passes good [] none_asked) (inl (ap Some same, words)))
    move_cases result (was_there size good looks same words said) =
        subst (λ (x : Result (Unit {0}) MoveFault). SeatGoes key false line (move_reply x) (Some old) (Some new) before after random random') (sym said)
        (as_before (replies.Refused whys.TargetExists) (looked (Some size) ∷ []) [] false false
        (record { told = looks.asked.asked.told; taken = subst (λ (w : WordsState). Both random.left w.left (AreTaken [])) (sym words) (none_taken random); on_host = looks.asked.asked.faults; on_words = ap (λ (w : WordsState). w.faults) words })
        refl refl same
        (λ sealed base. refused whys.TargetExists (move_found size good (Own (seat_on base old)) (seat_on base old) refl whole) (record { host = refl; random = refl }) refl refl refl refl)
        (on_like (λ seat. IsFirst (rules key false seat line (looked (Some size) ∷ [])) whys.TargetExists) (move_found size good)) (ap Some same, words))
    move_cases result (no_words free fewer same said) =
        subst (λ (x : Result (Unit {0}) MoveFault). SeatGoes key false line (move_reply x) (Some old) (Some new) before after random random') (sym said)
        (as_before replies.WordsFault (looked None ∷ []) fewer.words false true
        (record { told = free.looks.asked.asked.told; taken = fewer.told; on_host = free.looks.asked.asked.faults; on_words = fewer.once })
        refl refl same (λ sealed base. words_failed (move_passes free.is_target base []) (record { host = refl; random = refl }) (no_move k to (seat_on base old) (told_absent to []) (too_few_to_move base old fewer.words fewer.fewer)) refl)
        (like_passes free.is_target (looked None ∷ []) (none_found [])) (ap Some same))
    move_cases result (not_flushed start fault free fails said) =
        subst (λ (x : Result (Unit {0}) MoveFault). SeatGoes key false line (move_reply x) (Some old) (Some new) before after random random') (sym said)
        (unflushed start fault free fails (seal_ends old seated.of_script new start after random fails.between (Err fault) fails.sealed fails.keys fails.came fails.goes))
    move_cases result (not_moved start between mid nonce fault free first carry carries same said) =
        subst (λ (x : Result (Unit {0}) MoveFault). SeatGoes key false line (move_reply x) (Some old) (Some new) before after random random') (sym said)
        (uncarried start between mid nonce free first fault (carry_blamed fault to nonce mid between after carry) carries same)
    move_cases result (moved start between mid nonce free first carry carries same said) =
        subst (λ (x : Result (Unit {0}) MoveFault). SeatGoes key false line (move_reply x) (Some old) (Some new) before after random random') (sym said)
        (carried_on start between mid nonce free first _ carry.asked.told carry.asked.faults carries same)

pub move_goes : (key : List ℕ) (k : ℕ) (to : Name) (old new : SessionState) (result : Result (Unit {0}) MoveFault) (before after : HostState) (random random' : WordsState) → IsSeated key old → old.broken ≡ false
    → MoveGoes result to old new before after random random' → AsideBoth old.name to before after → ReadsAsImage after → SeatGoes key false (lines.Move k to) (move_reply result) (Some old) (Some new) before after random random'
move_goes key k to old new result before after random random' seated whole goes aside reads =
    move_cases key k to old seated whole new before after random random'
    (both_weaker (KeepsUnder (Covers old) (Covers new) (λ name. (name ≡ to) ⊎ (name ≡ old.name))) (KeepsUnder (Covers old) (Covers new) (Concerns false (lines.Move k to) (Some old))) before.honest after.honest
    (move_keeps old seated.of_script whole to result new before after random random' goes aside reads)
    (λ a b keeps. keeps_more (Covers old) (Covers new) (λ name. (name ≡ to) ⊎ (name ≡ old.name)) (Concerns false (lines.Move k to) (Some old)) a b concerned keeps))
    (spares_both (Concerns false (lines.Move k to) (Some old)) old.name to (inl refl) (inr (refl, refl)) before after aside)
    (of_moved old new seated.of_script result to before after random random' goes) result goes
  where
    concerned : (name : Name) → (name ≡ to) ⊎ (name ≡ old.name) → Concerns false (lines.Move k to) (Some old) name
    concerned name (inl is) = inr (ap Some (sym is), refl)
    concerned name (inr is) = inl is
