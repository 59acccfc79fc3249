-- The line `flush`, from the contract of a flush.
use Rattle.std.proofs.Common.{◌≡◌, inl, inr, Bool, true, false, List, [], ◌∷◌, ◌++◌, ℕ, refl, sym, ◌∙◌, ap, subst, Some, None, Result, Ok, Err}
use Rattle.std.proofs.lemmas.List.{append-nil}
use Rattle.std.proofs.lemmas.List.Elements.{Contains-push}
use Rattle.node_layout.specs.declared.damage.Damage.{Damage}
use Rattle.node_tree.specs.Backing.{now}
use Rattle.node_tree.specs.Sheet.{Sheet}
use Rattle.node_tree.specs.State.{TreeState}
use Rattle.pf_io.specs.Disk.{Name}
use Rattle.pf_io.specs.Host.{Answer, HostState, OnDisk, ReadsAsImage}
use Rattle.pf_io.specs.Words.{WordsState}
use Rattle.pf_session.specs.Aside.{Aside}
use Rattle.pf_session.specs.Backing.{StandsOn}
use Rattle.pf_session.specs.Flushing.{FlushGoes}
use Rattle.pf_session.specs.State.{SessionState}
use Rattle.pf_session.specs.declared.fault.FlushFault.{FlushFault}
use Rattle.pf_script.specs.BookActs.{Flush, Act}
use Rattle.pf_script.specs.BookDebts.{seat_of}
use Rattle.pf_script.specs.BookSeats.{IsOfScript, Covers, KeepsUnder}
use Rattle.pf_script.specs.Desk.{IsSeated, IsLike, Shows, whole_file, broken_file, seat_on}
use Rattle.pf_script.specs.DeskSteps.{MaySeal, SomeSeatTurn, LeavesSeat, to_flush, SeatGoes}
use Rattle.pf_script.specs.Rules.{NoneRefuses, rules}
use Rattle.pf_script.specs.Script.{Seat, Own}
use Rattle.pf_script.specs.SeatReplies.{flush_reply}
use Rattle.pf_script.specs.SeatSteps.{Seals, resealed, broken_seat}
use Rattle.pf_script.specs.Turns.{Blame, ByHost, ByDamage, SeatTurn, accepted, host_failed, was_damaged, words_failed, flushed, not_sealed, of_flush, no_flush, on_carried, IsShort, BlamesFlush, FlushDamage, Caused}
use Rattle.pf_script.specs.declared.line.ScriptLine.TheVariants as lines
use Rattle.pf_script.specs.declared.reply.Reply.{Reply}
use Rattle.pf_script.specs.declared.reply.Reply.TheVariants as replies
use Rattle.pf_script.proofs.CallKeeping.{flush_keeps}
use Rattle.pf_script.proofs.Flushed.{flushed_size, SealsOwn, TooFewToFlush, FlushCase, lacked, failed, done, flush_case, host_blamed, fault_of}
use Rattle.pf_script.proofs.Liking.{like_some}
use Rattle.pf_script.proofs.OfScript.{of_flushed}
use Rattle.pf_script.proofs.Refusing.{at_last, none_then}
use Rattle.pf_script.proofs.SeatCalls.{seen_by, own_same, SheetTurns, whole_turns, shows_same, goes_on, host_reply, words_reply, false_true}

-- the reply to a flush
abbrev pub flush_result : Result (Unit {0}) FlushFault → Reply
flush_result (Ok ok) = replies.Flushed
flush_result (Err fault) = flush_reply fault

-- a session that was flushed, on the sheet that it sealed
pub resealed_own : (base : Sheet) (old new : SessionState) (words : List (List ℕ)) (next : Sheet) → Seals (seat_on base old) words next → StandsOn next new → {nonce : List ℕ} {tree : TreeState}
    → new ≡ record old { nonce = nonce; drawn = None; tree = tree; changed = false } → new.tree.dirty ≡ [] → resealed (seat_on base old) next ≡ seat_on next new
resealed_own base old new words next seals on same dirty =
    own_same next old.key new.key old.name new.name (now base old.tree) (now next new.tree) [] new.tree.dirty false new.changed None new.drawn old.broken new.broken
    (sym (ap (λ (s : SessionState). s.key) same)) (sym (ap (λ (s : SessionState). s.name) same)) (sym seals.next.content_is ∙ sym on.now_is) (sym dirty)
    (sym (ap (λ (s : SessionState). s.changed) same)) (sym (ap (λ (s : SessionState). s.drawn) same)) (sym (ap (λ (s : SessionState). s.broken) same))

-- the sheet that a call sealed is among those that were sealed
pub shows_next : (sealed : List Sheet) (base : Sheet) (old new : SessionState) (words : List (List ℕ)) (next : Sheet) → old.broken ≡ false → Seals (seat_on base old) words next → StandsOn next new → {nonce : List ℕ} {tree : TreeState}
    → new ≡ record old { nonce = nonce; drawn = None; tree = tree; changed = false } → new.tree.dirty ≡ [] → Shows (sealed ++ next ∷ []) (Own (resealed (seat_on base old) next)) (Some new)
shows_next sealed base old new words next whole seals on same dirty =
    whole_file next new (ap (λ (s : SessionState). s.broken) same ∙ whole) (Contains-push sealed next) seals.next.linked (record { backed = on.backed; rests = λ unchanged. record { stands = on; clean = dirty } }) (ap Own (resealed_own base old new words next seals on same dirty)) refl

-- the act of a flush
abbrev pub flush_act : SessionState → Sheet → Bool → Act
flush_act old sheet is_done = record { deed = Flush (seat_of old.key old.name sheet); done = is_done }

-- a node of which a flush was given too few bytes
pub like_short : (seat : Seat) (old : SessionState) (these : List Answer) (damage : Damage) → IsLike seat (Some old) → IsShort old.name these damage → FlushDamage seat these damage
like_short seat old these damage like short =
    let on = like_some seat old like in
    subst (λ (s : Seat). FlushDamage s these damage) (sym on.seat_is) (subst (λ (n : Name). IsShort n these damage) (sym on.like.name_is) short)

module _ (key : List ℕ) (k : ℕ) (old : SessionState) (seated : IsSeated key old) (whole : old.broken ≡ false) (new : SessionState) (before after : HostState) (random random' : WordsState)
    (aside : Aside old.name before after) (books : OnDisk before after (KeepsUnder (Covers old) (Covers new) (λ name. name ≡ old.name))) (goes : IsOfScript new) where
  -- no word came
  lacked_turns : (words : List (List ℕ)) → TooFewToFlush old words → new ≡ old → SheetTurns key false (lines.Flush k) (seen_by [] words false true) replies.WordsFault old (Some new) []
  lacked_turns words fewer same sealed base among linked kept =
      at_last [] (inl refl) (λ unforged. (
        Own (seat_on base old),
        words_failed (none_then [] (Own (seat_on base old)) (seat_on base old) refl whole tt) (record { host = refl; random = refl }) (no_flush k (seat_on base old) fewer) refl,
        shows_same sealed (Own (seat_on base old)) (Some new) (subst (λ (s : SessionState). Shows sealed (Own (seat_on base old)) (Some s)) (sym same) (whole_file base old whole among linked kept refl refl)),
      ))

  -- it failed after its words
  failed_turn : (sealed : List Sheet) (base next : Sheet) (these : List Answer) (words : List (List ℕ)) (blame : Blame) → Seals (seat_on base old) words next → BlamesFlush old.name these blame
      → SeatTurn (on_carried key sealed) key false (Own (seat_on base old)) (lines.Flush k) (seen_by these words (host_blamed blame) false) (flush_reply (fault_of blame)) (flush_act old next false ∷ []) (Own (broken_seat (seat_on base old)))
  failed_turn sealed base next these words ByHost seals blames =
      host_failed (none_then [] (Own (seat_on base old)) (seat_on base old) refl whole tt) (record { host = refl; random = refl }) (not_sealed (seat_on base old) (lines.Flush k) next ByHost (Own (broken_seat (seat_on base old))) seals blames (of_flush k)) refl
  failed_turn sealed base next these words (ByDamage damage) seals blames =
      was_damaged damage (none_then [] (Own (seat_on base old)) (seat_on base old) refl whole tt) (record { host = refl; random = refl }) (not_sealed (seat_on base old) (lines.Flush k) next (ByDamage damage) (Own (broken_seat (seat_on base old))) seals blames (of_flush k)) refl

  -- it may have sealed the sheet
  may_seal : (sealed : List Sheet) (base next : Sheet) (these : List Answer) (words : List (List ℕ)) (of_host is_done : Bool) → Seals (seat_on base old) words next
      → MaySeal (SomeSeatTurn key sealed false (Own (seat_on base old)) (lines.Flush k)) (seen_by these words of_host false) (flush_act old next is_done ∷ [])
  may_seal sealed base next these words of_host is_done seals = record {
    front = words;
    back = [];
    failed = flush_act old next false ∷ [];
    in_order = sym (append-nil words);
    goes = (Own (broken_seat (seat_on base old)), failed_turn sealed base next these words ByHost seals tt);
    sheets = refl;
  }

  -- no rule refuses on a seat that is like the session
  passes_like : (seat : Seat) → IsLike seat (Some old) → NoneRefuses (rules key false seat (lines.Flush k) [])
  passes_like seat like = let on = like_some seat old like in none_then [] seat on.own on.seat_is (on.like.broken_is ∙ whole) tt

  failed_caused : (these : List Answer) (blame : Blame) → BlamesFlush old.name these blame → (seat : Seat) → IsLike seat (Some old) → Caused key false seat (lines.Flush k) these (flush_reply (fault_of blame))
  failed_caused these ByHost blames seat like = passes_like seat like
  failed_caused these (ByDamage damage) blames seat like = (passes_like seat like, like_short seat old these damage like blames)

  failed_leaves : (blame : Blame) → new.broken ≡ true → LeavesSeat (lines.Flush k) (flush_reply (fault_of blame)) (Some old) (Some new) random random'
  failed_leaves ByHost broken = broken
  failed_leaves (ByDamage damage) broken = broken

  failed_turns : (these : List Answer) (words : List (List ℕ)) (blame : Blame) → SealsOwn old words (λ next. Unit {0}) → BlamesFlush old.name these blame → new.key ≡ old.key → new.name ≡ old.name → new.broken ≡ true
      → SheetTurns key false (lines.Flush k) (seen_by these words (host_blamed blame) false) (flush_reply (fault_of blame)) old (Some new) these
  failed_turns these words blame seals blames key_is name_is broken sealed base among linked kept =
      let next = seals base linked kept.backed in
      at_last (flush_act old next.0 false ∷ []) (inr (may_seal sealed base next.0 these words (host_blamed blame) false next.1)) (λ unforged. (
        Own (broken_seat (seat_on base old)),
        failed_turn sealed base next.0 these words blame next.1 blames,
        broken_file (broken_seat (seat_on base old)) new broken refl (sym key_is) (sym name_is) refl refl,
      ))

  -- it was done
  done_turns : (these : List Answer) (words : List (List ℕ)) → SealsOwn old words (λ next. StandsOn next new) → {nonce : List ℕ} {tree : TreeState} → new ≡ record old { nonce = nonce; drawn = None; tree = tree; changed = false }
      → new.tree.dirty ≡ [] → SheetTurns key false (lines.Flush k) (seen_by these words false false) replies.Flushed old (Some new) these
  done_turns these words seals same dirty sealed base among linked kept =
      let next = seals base linked kept.backed in
      let own = seat_on base old in
      at_last (flush_act old next.0 true ∷ []) (inr (may_seal sealed base next.0 these words false true next.1)) (λ unforged. (
        Own (resealed own next.0),
        accepted (none_then [] (Own own) own refl whole tt) (record { host = refl; random = refl }) (flushed k own next.0 next.1),
        shows_next sealed base old new words next.0 whole next.1 next.2 same dirty,
      ))

  by_case : (result : Result (Unit {0}) FlushFault) → (result ≡ Ok tt → new.tree.size ≡ old.tree.size) → FlushCase result old new before after random random' → SeatGoes key false (lines.Flush k) (Ok (flush_result result)) (Some old) (Some new) before after random random'
  by_case result sized (lacked words fewer seen same stays said) =
      subst (λ (r : Result (Unit {0}) FlushFault). SeatGoes key false (lines.Flush k) (Ok (flush_result r)) (Some old) (Some new) before after random random') (sym said)
      (goes_on key false (lines.Flush k) replies.WordsFault old before after random random' aside (λ none. absurd none, tt) [] words false true seen refl refl new
      (whole_turns key false (lines.Flush k) (seen_by [] words false true) replies.WordsFault old (Some new) [] whole (lacked_turns words fewer same)) passes_like (ap (λ (s : SessionState). Some s) same) books
      (subst (λ (s : SessionState). IsSeated key s) (sym same) seated) (ap (λ (s : SessionState). s.name) same))
  by_case result sized (failed blame these words seen blames seals key_is name_is broken said) =
      subst (λ (r : Result (Unit {0}) FlushFault). SeatGoes key false (lines.Flush k) (Ok (flush_result r)) (Some old) (Some new) before after random random') (sym said)
      (goes_on key false (lines.Flush k) (flush_reply (fault_of blame)) old before after random random' aside (λ none. absurd none, tt) these words (host_blamed blame) false seen (host_reply blame) (words_reply blame) new
      (whole_turns key false (lines.Flush k) (seen_by these words (host_blamed blame) false) (flush_reply (fault_of blame)) old (Some new) these whole (failed_turns these words blame seals blames key_is name_is broken)) (failed_caused these blame blames) (failed_leaves blame broken) books
      (record { of_script = goes; key_is = key_is ∙ seated.key_is; clean = λ also. absurd (false_true new.broken broken also) }) name_is)
  by_case result sized (done these words seen swapped seals same dirty said) =
      subst (λ (r : Result (Unit {0}) FlushFault). SeatGoes key false (lines.Flush k) (Ok (flush_result r)) (Some old) (Some new) before after random random') (sym said)
      (goes_on key false (lines.Flush k) replies.Flushed old before after random random' aside (λ none. absurd none, tt) these words false false seen refl refl new
      (whole_turns key false (lines.Flush k) (seen_by these words false false) replies.Flushed old (Some new) these whole (done_turns these words seals same dirty)) passes_like
      (to_flush k old new (ap (λ (s : SessionState). s.broken) same ∙ whole) (ap (λ (s : SessionState). s.changed) same) (ap (λ (s : SessionState). s.drawn) same) (sized said)) books
      (record { of_script = goes; key_is = ap (λ (s : SessionState). s.key) same ∙ seated.key_is; clean = λ also unchanged. dirty }) (ap (λ (s : SessionState). s.name) same))

pub flush_goes : (key : List ℕ) (k : ℕ) (old new : SessionState) (result : Result (Unit {0}) FlushFault) (before after : HostState) (random random' : WordsState) → IsSeated key old → old.broken ≡ false
    → FlushGoes result old new before after random random' → Aside old.name before after → ReadsAsImage after → SeatGoes key false (lines.Flush k) (Ok (flush_result result)) (Some old) (Some new) before after random random'
flush_goes key k old new result before after random random' seated whole goes aside reads =
    by_case key k old seated whole new before after random random' aside (flush_keeps old seated.of_script result new before after random random' whole goes aside reads)
    (of_flushed old new seated.of_script result before after random random' goes) result
    (λ is. flushed_size old new before after random random' (subst (λ (r : Result (Unit {0}) FlushFault). FlushGoes r old new before after random random') is goes)) (flush_case old seated.of_script new before after random random' result goes)
