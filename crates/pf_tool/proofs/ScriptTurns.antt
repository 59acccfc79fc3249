-- Turns of a script, one after the other, and the closings of its seats.
use Rattle.std.proofs.Common.{◌≡◌, inl, inr, ℕ, zero, suc, ◌+◌, List, [], ◌∷◌, ◌++◌, sym, ap, subst, arith}
use Rattle.pf_io.specs.Host.{Answer, HostState}
use Rattle.pf_io.specs.Words.{WordsState}
use Rattle.pf_script.specs.Desk.{DeskState, IsStateOf}
use Rattle.pf_script.specs.DeskSteps.{MaySeal, Unfolds, SomeTurn, TurnsTo, Asks}
use Rattle.pf_script.specs.Script.{ScriptState}
use Rattle.pf_script.specs.ScriptRuns.{Exchange, Follows}
use Rattle.pf_script.specs.declared.line.ScriptLine.{ScriptLine}
use Rattle.pf_script.specs.declared.reply.Reply.{Reply}
use Rattle.pf_script.proofs.Desking.{unfolds_as}
use Rattle.pf_tool.specs.Transcripts.{ClosesSeats}

-- what follows from what holds in the end
pub follows_as : {E F : ScriptState → Type 0} (state : ScriptState) (xs : List Exchange) → ((last : ScriptState) → E last → F last) → Follows state xs E → Follows state xs F
follows_as state [] go ends = go state ends
follows_as state (x ∷ xs) go follows = unfolds_as [] follows (λ acts turn. (turn.0, turn.1, follows_as turn.0 xs go turn.2))

-- a run, and then another from the state that it left
pub follows_on : (E : ScriptState → Type 0) (state : ScriptState) (xs ys : List Exchange) → Follows state xs (λ mid. Follows mid ys E) → Follows state (xs ++ ys) E
follows_on E state [] ys follows = follows
follows_on E state (x ∷ xs) ys follows = unfolds_as [] follows (λ acts turn. (turn.0, turn.1, follows_on E turn.0 xs ys turn.2))

pub closes_as : {E F : ScriptState → Type 0} (count k : ℕ) (state : ScriptState) (xs : List Exchange) → ((last : ScriptState) → E last → F last) → ClosesSeats count k state xs E → ClosesSeats count k state xs F
closes_as zero k state xs go closes = (closes.0, go state closes.1)
closes_as (suc more) k state xs go (inl free) = inl (free.0, closes_as more (suc k) state xs go free.1)
closes_as (suc more) k state xs go (inr own) = inr (own.0, own.1, own.2, own.3, own.4, follows_as state (own.0 ∷ []) (λ left. closes_as more (suc k) left own.1 go) own.5)

-- some seats are closed, and then the next one
pub closes_on : (E : ScriptState → Type 0) (count k j : ℕ) (state : ScriptState) (xs ys : List Exchange) → j ≡ k + count → ClosesSeats count k state xs (λ mid. ClosesSeats 1 j mid ys E) → ClosesSeats (suc count) k state (xs ++ ys) E
closes_on E zero k j state xs ys is closes =
    let here : j ≡ k = omega (arith, is) in
    subst (λ (l : List Exchange). ClosesSeats 1 k state (l ++ ys) E) (sym closes.0) (subst (λ (n : ℕ). ClosesSeats 1 n state ys E) here closes.1)
closes_on E (suc more) k j state xs ys is (inl free) = inl (free.0, closes_on E more (suc k) j state xs ys (omega (arith, is)) free.1)
closes_on E (suc more) k j state xs ys is (inr own) =
    inr (own.0, own.1 ++ ys, ap (λ (l : List Exchange). l ++ ys) own.2, own.3, own.4, follows_as state (own.0 ∷ []) (λ left. closes_on E more (suc k) j left own.1 ys (omega (arith, is))) own.5)

-- a step of a desk is a turn
module _ (line : ScriptLine) (reply : Reply) (old new : DeskState) (given : List Answer) (before after : HostState) (random random' : WordsState) (asks : Asks line reply old new given before after random random') where
  abbrev pub exchange : Exchange
  exchange = record { line = line; seen = asks.seen; reply = reply }

  pub turn_follows : (state : ScriptState) → IsStateOf state old → Follows state (exchange ∷ []) (λ left. IsStateOf left new)
  turn_follows state is =
      subst (λ (g : List Answer). Unfolds state.key state.sealed (MaySeal (SomeTurn state line) asks.seen) (TurnsTo state new line asks.seen reply) g []) (sym asks.was_seen.answers) (asks.turns state is)
