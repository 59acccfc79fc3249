-- What unfolds in a step holds in the end.
use Rattle.std.proofs.Common.{◌≡◌, ◌⊎◌, inl, inr, ⊎_elim, Bool, List, [], ◌∷◌, ◌++◌, ℕ, length, refl, sym, ◌∙◌, ap, subst, append_assoc, Option}
use Rattle.std.proofs.lemmas.List.{append-nil}
use Rattle.std.proofs.lemmas.List.Elements.{Contains-append_left}
use Rattle.node_tree.specs.Applying.{Step}
use Rattle.node_tree.specs.Sheet.{Sheet}
use Rattle.node_tree.specs.Unforged.{WasGiven, Unforged}
use Rattle.pf_io.specs.Host.{Answer, Gave}
use Rattle.pf_session.specs.State.{SessionState}
use Rattle.pf_script.specs.BookActs.{Act}
use Rattle.pf_script.specs.Desk.{DeskState}
use Rattle.pf_script.specs.DeskSteps.{MaySeal, Unfolds, in_the_end, then_more, SomeSeatTurn, SeatTurnsTo, SomeTurn, TurnsTo}
use Rattle.pf_script.specs.Script.{Seat, ScriptState, seat_at, sheet_of, sheets_of}
use Rattle.pf_script.specs.SeatSteps.{AsksFor}
use Rattle.pf_script.specs.TurnLaws.{SealsNothing, ComesTrue, HoldsInTheEnd, UnforgedWithAll}
use Rattle.pf_script.specs.Turns.{Seen, Standing, Accepts, created, opened, read, changed, flushed, moved, drawn_again, drawn_now, let_go, flushed_last, Blame, of_flush, of_close, Fails, not_asked, not_created, not_opened, not_read, not_fetched, not_fetched_after, not_flushed_before, not_sealed, not_looked_up, not_flushed_to_move, not_moved, Loses, no_creation, no_flush, no_move, no_nonce, no_last_flush, no_flush_before, SeatTurn, refused, accepted, host_failed, was_damaged, words_failed, Turn, silent, on_seat, on_carried}
use Rattle.pf_script.specs.declared.line.ScriptLine.{ScriptLine}
use Rattle.pf_script.specs.declared.line.ScriptLine.TheVariants as lines
use Rattle.pf_script.specs.declared.reply.Reply.{Reply}

-- the sheets of acts one after the other
pub sheets_then : (acts more : List Act) → sheets_of (acts ++ more) ≡ sheets_of acts ++ sheets_of more
sheets_then [] more = refl
sheets_then (act ∷ acts) more = ap (λ (l : List Sheet). sheet_of act.deed ++ l) (sheets_then acts more) ∙ sym (append_assoc (sheet_of act.deed) (sheets_of acts) (sheets_of more))

-- what came first of answers of which none is forged
unforged_front : (key : List ℕ) (sheets : List Sheet) (these rest : List Answer) → Unforged key sheets (these ++ rest) → Unforged key sheets these
unforged_front key sheets these rest unforged = record {
  linked = unforged.linked;
  metadata = λ block text gave opened. unforged.metadata block text (among block gave) opened;
  seals = λ block plain sheet k node gave has is opened. unforged.seals block plain sheet k node (among block gave) has is opened;
  one_text = unforged.one_text;
}
  where
    among : (block : List ℕ) → WasGiven these block → WasGiven (these ++ rest) block
    among block gave = record { name = gave.name; place = gave.place; room = gave.room; there = Contains-append_left these rest (Gave gave.name gave.place gave.room block) gave.there; whole = gave.whole }

-- where nothing is forged of all that may be sealed
module _ (key : List ℕ) (sealed : List Sheet) (May : List Act → Type 0) (given : List Answer) (all : (acts : List Act) → May acts → Unforged key (sealed ++ sheets_of acts) given) where
  unforged_then : (acts more : List Act) → (sheets_of more ≡ []) ⊎ May (acts ++ more) → Unforged key (sealed ++ sheets_of acts) given → Unforged key (sealed ++ sheets_of (acts ++ more)) given
  unforged_then acts more (inl none) unforged =
      let same : sheets_of (acts ++ more) ≡ sheets_of acts = sheets_then acts more ∙ ap (λ (l : List Sheet). sheets_of acts ++ l) none ∙ append-nil (sheets_of acts) in
      subst (λ (l : List Sheet). Unforged key (sealed ++ l) given) (sym same) unforged
  unforged_then acts more (inr some) unforged = all (acts ++ more) some

  some_acts : (P : List Act → Type 0) (acts : List Act) → Unforged key (sealed ++ sheets_of acts) given → Unfolds key sealed May P given acts → (done : List Act) × P done
  some_acts P _ unforged (in_the_end acts ends) = (acts, ends unforged)
  some_acts P _ unforged (then_more acts more these rest split may on) =
      some_acts P (acts ++ more) (unforged_then acts more may unforged)
      (on (unforged_front key (sealed ++ sheets_of acts) these rest (subst (λ (l : List Answer). Unforged key (sealed ++ sheets_of acts) l) split unforged)))

unforged_nil : (key : List ℕ) (sealed sheets : List Sheet) (given : List Answer) → sheets ≡ [] → Unforged key sealed given → Unforged key (sealed ++ sheets) given
unforged_nil key sealed sheets given none unforged = subst (λ (l : List Sheet). Unforged key l given) (sym (ap (λ (l : List Sheet). sealed ++ l) none ∙ append-nil sealed)) unforged

comes_true : (key : List ℕ) (sealed : List Sheet) (Goes : Seen → Reply → List Act → Type 0) (seen : Seen) → Unforged key sealed seen.given → UnforgedWithAll key sealed Goes seen → (P : List Act → Type 0) → ComesTrue key sealed Goes seen P
comes_true key sealed Goes seen unforged all P unfolds = some_acts key sealed (MaySeal Goes seen) seen.given all P [] (unforged_nil key sealed [] seen.given refl unforged) unfolds

pub holds_with_all : (key : List ℕ) (sealed : List Sheet) (Goes : Seen → Reply → List Act → Type 0) (seen : Seen) → Unforged key sealed seen.given → UnforgedWithAll key sealed Goes seen → HoldsInTheEnd key sealed Goes seen
holds_with_all key sealed Goes seen unforged all = record {
  turns = λ reply. comes_true key sealed Goes seen unforged all (Goes seen reply);
  never = λ empty. (comes_true key sealed Goes seen unforged all (λ acts. ⊥) empty).1;
}

-- turns that seal nothing
all_where_none : (key : List ℕ) (sealed : List Sheet) (Goes : Seen → Reply → List Act → Type 0) (seen : Seen) → ((saw : Seen) (reply : Reply) (acts : List Act) → Goes saw reply acts → sheets_of acts ≡ []) → Unforged key sealed seen.given → UnforgedWithAll key sealed Goes seen
all_where_none key sealed Goes seen none unforged acts may = unforged_nil key sealed (sheets_of acts) seen.given (may.sheets ∙ none _ _ may.failed may.goes) unforged

-- a line that seals nothing asks for no steps
no_steps : (line : ScriptLine) (size : ℕ) (steps : List Step) → SealsNothing line → AsksFor line size steps → ⊥
no_steps lines.Blank size steps nothing asks = asks
no_steps (lines.Create seat name) size steps nothing asks = asks
no_steps (lines.Open seat name) size steps nothing asks = asks
no_steps (lines.View seat path) size steps nothing asks = asks
no_steps (lines.Read seat at count) size steps nothing asks = asks
no_steps (lines.Write seat at bytes) size steps nothing asks = nothing
no_steps (lines.Fill seat at count byte) size steps nothing asks = nothing
no_steps (lines.Size seat n) size steps nothing asks = nothing
no_steps (lines.Flush seat) size steps nothing asks = asks
no_steps (lines.Move seat name) size steps nothing asks = asks
no_steps (lines.Draw seat) size steps nothing asks = asks
no_steps (lines.Close seat) size steps nothing asks = asks

module _ (key : List ℕ) (seen : Seen) where
  accepts_none : (standing : Standing) (seat after : Seat) (line : ScriptLine) (reply : Reply) (acts : List Act) → SealsNothing line → Accepts standing key seen seat line reply acts after → sheets_of acts ≡ []
  accepts_none standing seat after line reply acts nothing (created k name sheet absent seals) = absurd nothing
  accepts_none standing seat after line reply acts nothing (opened k name sheet stands same none) = refl
  accepts_none standing seat after line reply acts nothing (read k at count own none) = refl
  accepts_none standing seat after line reply acts nothing (changed own other l r steps sheets asks makes replied) = absurd (no_steps line (length own.content) steps nothing asks)
  accepts_none standing seat after line reply acts nothing (flushed k own sheet seals) = absurd nothing
  accepts_none standing seat after line reply acts nothing (moved k name own mid words more sheets sheet absent first seals all) = absurd nothing
  accepts_none standing seat after line reply acts nothing (drawn_again k own nonce is none) = refl
  accepts_none standing seat after line reply acts nothing (drawn_now k own first second is two) = refl
  accepts_none standing seat after line reply acts nothing (let_go k own idle none) = absurd nothing
  accepts_none standing seat after line reply acts nothing (flushed_last k own sheet was whole seals) = absurd nothing

  fails_none : (blame : Blame) (seat after : Seat) (line : ScriptLine) (acts : List Act) → SealsNothing line → Fails key seen blame seat line acts after → sheets_of acts ≡ []
  fails_none blame seat after line acts nothing (not_asked k name idle none) = absurd nothing
  fails_none blame seat after line acts nothing (not_created k name sheet absent seals) = absurd nothing
  fails_none blame seat after line acts nothing (not_opened k name b none blames) = refl
  fails_none blame seat after line acts nothing (not_read k at count own b none blames) = refl
  fails_none blame seat after line acts nothing (not_fetched own mid l next sheets b some fits blames) = absurd (no_steps line (length own.content) (some.made ++ next ∷ some.rest) nothing some.of_line)
  fails_none blame seat after line acts nothing (not_fetched_after own mid l next words more sheets sheet b some first seals all blames) =
      absurd (no_steps line (length own.content) (some.made ++ next ∷ some.rest) nothing some.of_line)
  fails_none blame seat after line acts nothing (not_flushed_before own mid l next words more sheets sheet b some first seals all blames) =
      absurd (no_steps line (length own.content) (some.made ++ next ∷ some.rest) nothing some.of_line)
  fails_none blame seat after line acts nothing (not_sealed own l sheet b left seals blames (of_flush k)) = absurd nothing
  fails_none blame seat after line acts nothing (not_sealed own l sheet b left seals blames (of_close k was whole)) = absurd nothing
  fails_none blame seat after line acts nothing (not_looked_up k name own idle none) = absurd nothing
  fails_none blame seat after line acts nothing (not_flushed_to_move k name own words sheet one two b absent was seals all blames) = absurd nothing
  fails_none blame seat after line acts nothing (not_moved k name own mid words more sheets sheet b absent first seals all blames) = absurd nothing

  loses_none : (seat after : Seat) (line : ScriptLine) (acts : List Act) → SealsNothing line → Loses key seen seat line acts after → sheets_of acts ≡ []
  loses_none seat after line acts nothing (no_creation k name absent fewer) = absurd nothing
  loses_none seat after line acts nothing (no_flush k own fewer) = absurd nothing
  loses_none seat after line acts nothing (no_move k name own absent fewer) = absurd nothing
  loses_none seat after line acts nothing (no_nonce k own none fewer) = refl
  loses_none seat after line acts nothing (no_last_flush k own was whole fewer) = absurd nothing
  loses_none seat after line acts nothing (no_flush_before own mid l next words lost sheets some first all fewer) = absurd (no_steps line (length own.content) (some.made ++ next ∷ some.rest) nothing some.of_line)

seat_seals_none : (standing : Standing) (key : List ℕ) (taken : Bool) (seat after : Seat) (line : ScriptLine) (seen : Seen) (reply : Reply) (acts : List Act) → SealsNothing line → SeatTurn standing key taken seat line seen reply acts after → sheets_of acts ≡ []
seat_seals_none standing key taken seat after line seen reply acts nothing (refused why first calm none said no_act same) = ap (λ (l : List Act). sheets_of l) no_act
seat_seals_none standing key taken seat after line seen reply acts nothing (accepted none calm accepts) = accepts_none key seen standing seat after line reply acts nothing accepts
seat_seals_none standing key taken seat after line seen reply acts nothing (host_failed none failed fails said) = fails_none key seen _ seat after line acts nothing fails
seat_seals_none standing key taken seat after line seen reply acts nothing (was_damaged damage none calm fails said) = fails_none key seen _ seat after line acts nothing fails
seat_seals_none standing key taken seat after line seen reply acts nothing (words_failed none failed loses said) = loses_none key seen seat after line acts nothing loses

turn_seals_none : (standing : Standing) (state after : ScriptState) (line : ScriptLine) (seen : Seen) (reply : Reply) (acts : List Act) → SealsNothing line → Turn standing state line seen reply acts after → sheets_of acts ≡ []
turn_seals_none standing state after line seen reply acts nothing (silent blank idle said no_act same) = ap (λ (l : List Act). sheets_of l) no_act
turn_seals_none standing state after line seen reply acts nothing (on_seat k taken seat names says turn same) = seat_seals_none standing state.key taken (seat_at state k) seat line seen reply acts nothing turn

-- so nothing is forged for a line that seals nothing
module _ (key : List ℕ) (sealed : List Sheet) (taken : Bool) (seat : Seat) (line : ScriptLine) (seen : Seen) (unforged : Unforged key sealed seen.given) where
  seat_all : SealsNothing line → UnforgedWithAll key sealed (SomeSeatTurn key sealed taken seat line) seen
  seat_all nothing =
      all_where_none key sealed (SomeSeatTurn key sealed taken seat line) seen (λ saw reply acts goes. seat_seals_none (on_carried key sealed) key taken seat goes.0 line saw reply acts nothing goes.1) unforged

  pub seat_holds : SealsNothing line → HoldsInTheEnd key sealed (SomeSeatTurn key sealed taken seat line) seen
  seat_holds nothing = holds_with_all key sealed (SomeSeatTurn key sealed taken seat line) seen unforged (seat_all nothing)

  pub seat_steps : SealsNothing line ⊎ UnforgedWithAll key sealed (SomeSeatTurn key sealed taken seat line) seen → (new : Option SessionState) (reply : Reply)
      → ComesTrue key sealed (SomeSeatTurn key sealed taken seat line) seen (SeatTurnsTo key sealed taken seat new line seen reply)
  seat_steps all new reply = comes_true key sealed (SomeSeatTurn key sealed taken seat line) seen unforged (⊎_elim seat_all (λ with_all. with_all) all) (SeatTurnsTo key sealed taken seat new line seen reply)

module _ (state : ScriptState) (line : ScriptLine) (seen : Seen) (unforged : Unforged state.key state.sealed seen.given) where
  state_all : SealsNothing line → UnforgedWithAll state.key state.sealed (SomeTurn state line) seen
  state_all nothing =
      all_where_none state.key state.sealed (SomeTurn state line) seen (λ saw reply acts goes. turn_seals_none (on_carried state.key state.sealed) state goes.0 line saw reply acts nothing goes.1) unforged

  pub state_holds : SealsNothing line → HoldsInTheEnd state.key state.sealed (SomeTurn state line) seen
  state_holds nothing = holds_with_all state.key state.sealed (SomeTurn state line) seen unforged (state_all nothing)

  pub state_steps : SealsNothing line ⊎ UnforgedWithAll state.key state.sealed (SomeTurn state line) seen → (new : DeskState) (reply : Reply) → ComesTrue state.key state.sealed (SomeTurn state line) seen (TurnsTo state new line seen reply)
  state_steps all new reply = comes_true state.key state.sealed (SomeTurn state line) seen unforged (⊎_elim state_all (λ with_all. with_all) all) (TurnsTo state new line seen reply)
