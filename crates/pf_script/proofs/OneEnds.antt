-- How a line ends over files in which nothing fails: by a rule, as accepted, or by the damage of a file that was to be opened.
use Rattle.std.proofs.Common.{◌≡◌, inl, inr, ℕ, zero, suc, ◌*◌, Bool, true, false, List, [], ◌∷◌, ◌++◌, length, arith}
use Rattle.std.specs.Prelude.{Contains}
use Rattle.node_layout.specs.declared.damage.Damage.{Damage}
use Rattle.node_tree.specs.Sheet.{Sheet}
use Rattle.pf_io.specs.Disk.{Name, Files}
use Rattle.pf_io.specs.Host.{Answer, LengthWas, Gave}
use Rattle.pf_script.specs.BookActs.{Act}
use Rattle.pf_script.specs.FileTurns.{stands_on, opening_answers, answers_of, seen_over}
use Rattle.pf_script.specs.Rules.{IsFirst, NoneRefuses, rules}
use Rattle.pf_script.specs.Script.{Seat, Empty}
use Rattle.pf_script.specs.SeatSteps.{AsksFor}
use Rattle.node_tree.specs.Applying.{Step}
use Rattle.pf_script.specs.Turns.{Accepts, IsOpeningDamage, ByDamage, BlamesFlush, BlamesFetch, of_flush, of_close, Fails, not_opened, not_read, not_fetched, not_fetched_after, not_flushed_before, not_sealed, not_flushed_to_move, not_moved, SeatTurn, refused, accepted, host_failed, was_damaged, words_failed}
use Rattle.pf_script.specs.declared.line.ScriptLine.{ScriptLine}
use Rattle.pf_script.specs.declared.line.ScriptLine.TheVariants as lines
use Rattle.pf_script.specs.declared.reply.Reply.{Reply}
use Rattle.pf_script.specs.declared.reply.Reply.TheVariants as replies
use Rattle.pf_script.specs.declared.reply.Why.{Why}

pub data LineEnds (key : List ℕ) (taken : Bool) (files : Files) (words : List (List ℕ)) : Seat → ScriptLine → Reply → List Act → Seat → Type 0 where
  by_rule : (seat after : Seat) (line : ScriptLine) (reply : Reply) (acts : List Act) (why : Why) → IsFirst (rules key taken seat line (answers_of files line)) why → words ≡ [] → reply ≡ replies.Refused why → acts ≡ [] → after ≡ seat
      → LineEnds key taken files words seat line reply acts after
  by_line : (seat after : Seat) (line : ScriptLine) (reply : Reply) (acts : List Act) → NoneRefuses (rules key taken seat line (answers_of files line)) → Accepts (stands_on key files) key (seen_over files line words) seat line reply acts after
      → LineEnds key taken files words seat line reply acts after
  by_damage : (k : ℕ) (name : Name) (reply : Reply) (damage : Damage) → NoneRefuses (rules key taken Empty (lines.Open k name) (opening_answers name (files name))) → IsOpeningDamage key name (opening_answers name (files name)) damage → words ≡ []
      → reply ≡ replies.DamagedNode damage → LineEnds key taken files words Empty (lines.Open k name) reply [] Empty

-- no block of a node is among some answers
abbrev HasNoBlock : List Answer → Type 0
HasNoBlock given = (name : Name) (place room : ℕ) (block : List ℕ) → ¬ (Contains given (Gave name place room block))

nothing_given : HasNoBlock []
nothing_given name place room block (i, within, is) = omega arith

one_length : (name : Name) (size : _) → HasNoBlock (LengthWas name size ∷ [])
one_length name size other place room block (zero, within, is) = let e : LengthWas name size ≡ Gave other place room block = is in absurd (cc)
one_length name size other place room block (suc i, within, is) = omega arith

no_flush_damage : (name : Name) (given : List Answer) (damage : Damage) → HasNoBlock given → BlamesFlush name given (ByDamage damage) → ⊥
no_flush_damage name given damage none blames = none name (4096 * damage.node) 4096 blames.block blames.gave

no_fetch_damage : (sheet : Sheet) (name : Name) (given : List Answer) (damage : Damage) → HasNoBlock given → BlamesFetch sheet name given (ByDamage damage) → ⊥
no_fetch_damage sheet name given damage none (inl short) = none name (4096 * damage.node) 4096 short.block short.gave
no_fetch_damage sheet name given damage none (inr other) = none name (4096 * damage.node) 4096 other.foreign.block other.foreign.gave

-- a line that asks for steps rests on no answer
no_answers : (files : Files) (line : ScriptLine) (size : ℕ) (steps : List Step) → AsksFor line size steps → HasNoBlock (answers_of files line)
no_answers files lines.Blank size steps asks = nothing_given
no_answers files (lines.Create seat name) size steps asks = absurd asks
no_answers files (lines.Open seat name) size steps asks = absurd asks
no_answers files (lines.View seat path) size steps asks = nothing_given
no_answers files (lines.Read seat at count) size steps asks = nothing_given
no_answers files (lines.Write seat at bytes) size steps asks = nothing_given
no_answers files (lines.Fill seat at count byte) size steps asks = nothing_given
no_answers files (lines.Size seat n) size steps asks = nothing_given
no_answers files (lines.Flush seat) size steps asks = nothing_given
no_answers files (lines.Move seat name) size steps asks = absurd asks
no_answers files (lines.Draw seat) size steps asks = nothing_given
no_answers files (lines.Close seat) size steps asks = nothing_given

damage_ends : (key : List ℕ) (taken : Bool) (files : Files) (words : List (List ℕ)) (seat after : Seat) (line : ScriptLine) (reply : Reply) (acts : List Act) (damage : Damage) → NoneRefuses (rules key taken seat line (answers_of files line))
    → reply ≡ replies.DamagedNode damage → Fails key (seen_over files line words) (ByDamage damage) seat line acts after → LineEnds key taken files words seat line reply acts after
damage_ends key taken files words seat after line reply acts damage none is (not_opened k name b no_word blames) = by_damage k name reply damage none blames no_word is
damage_ends key taken files words seat after line reply acts damage none is (not_read k at count own b no_word blames) = absurd (no_fetch_damage own.sheet own.name [] damage nothing_given blames)
damage_ends key taken files words seat after line reply acts damage none is (not_fetched own mid l next sheets b made fits blames) =
    absurd (no_fetch_damage mid.sheet own.name (answers_of files line) damage (no_answers files line (length own.content) (made.made ++ next ∷ made.rest) made.of_line) blames)
damage_ends key taken files words seat after line reply acts damage none is (not_fetched_after own mid l next first more sheets sheet b made flushes seals all blames) =
    absurd (no_fetch_damage sheet own.name (answers_of files line) damage (no_answers files line (length own.content) (made.made ++ next ∷ made.rest) made.of_line) blames)
damage_ends key taken files words seat after line reply acts damage none is (not_flushed_before own mid l next first more sheets sheet b made flushes seals all blames) =
    absurd (no_flush_damage own.name (answers_of files line) damage (no_answers files line (length own.content) (made.made ++ next ∷ made.rest) made.of_line) blames)
damage_ends key taken files words seat after line reply acts damage none is (not_sealed own l sheet b left seals blames (of_flush k)) = absurd (no_flush_damage own.name [] damage nothing_given blames)
damage_ends key taken files words seat after line reply acts damage none is (not_sealed own l sheet b left seals blames (of_close k changed whole)) = absurd (no_flush_damage own.name [] damage nothing_given blames)
damage_ends key taken files words seat after line reply acts damage none is (not_flushed_to_move k name own first sheet one two b absent changed seals all blames) =
    absurd (no_flush_damage own.name (answers_of files (lines.Move k name)) damage (one_length name _) blames)
damage_ends key taken files words seat after line reply acts damage none is (not_moved k name own mid first more sheets sheet b absent flushed carries all blames) =
    absurd (no_flush_damage own.name (answers_of files (lines.Move k name)) damage (one_length name _) blames)

pub line_ends : (key : List ℕ) (taken : Bool) (files : Files) (words : List (List ℕ)) (seat after : Seat) (line : ScriptLine) (reply : Reply) (acts : List Act)
    → SeatTurn (stands_on key files) key taken seat line (seen_over files line words) reply acts after → LineEnds key taken files words seat line reply acts after
line_ends key taken files words seat after line reply acts (refused why first failed no_word is no_act same) = by_rule seat after line reply acts why first no_word is no_act same
line_ends key taken files words seat after line reply acts (accepted none failed accepts) = by_line seat after line reply acts none accepts
line_ends key taken files words seat after line reply acts (host_failed none failed fails is) = let e : false ≡ true = failed.host in absurd (cc)
line_ends key taken files words seat after line reply acts (was_damaged damage none failed fails is) = damage_ends key taken files words seat after line reply acts damage none is fails
line_ends key taken files words seat after line reply acts (words_failed none failed loses is) = let e : false ≡ true = failed.random in absurd (cc)
