-- Exchanges of a session in which nothing failed.
use Rattle.std.proofs.Common.{◌≡◌, Bool, true, false, ℕ, zero, suc, List, [], ◌∷◌, ◌++◌, refl, ◌∙◌, arith}
use Rattle.std.specs.Prelude.{⊤}
use Rattle.pf_io.specs.Counts.{counted, counted_times}
use Rattle.pf_script.specs.ScriptRuns.{Exchange}
use Rattle.pf_script.specs.Turns.{Failed}
use Rattle.pf_tool.specs.Runs.{Rose}
use Rattle.pf_tool.specs.Transcripts.{counts_after}
use Rattle.pf_tool.proofs.ScriptSeen.{host_flags, words_flags}

abbrev pub AreCalm : List Exchange → Type 0
AreCalm [] = ⊤
AreCalm (exchange ∷ exchanges) = Failed exchange.seen false false × AreCalm exchanges

pub calm_split : (xs ys : List Exchange) → AreCalm (xs ++ ys) → AreCalm xs × AreCalm ys
calm_split [] ys calm = (tt, calm)
calm_split (x ∷ xs) ys calm = let rest = calm_split xs ys calm.1 in ((calm.0, rest.0), rest.1)

-- how often a count rose
abbrev rises : List Bool → ℕ
rises [] = 0
rises (true ∷ flags) = suc (rises flags)
rises (false ∷ flags) = rises flags

counts_rise : (flags : List Bool) (count : ℕ) → counts_after flags count ≡ counted_times (rises flags) count
counts_rise [] count = refl
counts_rise (true ∷ flags) count = counts_rise flags (counted count)
counts_rise (false ∷ flags) count = counts_rise flags count

pub none_rises : (flags : List Bool) (before now : ℕ) → now ≡ counts_after flags before → ¬ (Rose before now) → rises flags ≡ 0
none_rises flags before now is none = by_times (rises flags) (is ∙ counts_rise flags before)
  where
    by_times : (n : ℕ) → now ≡ counted_times n before → n ≡ 0
    by_times zero is = refl
    by_times (suc n) is = absurd (none (n, is))

first_calm : (flag : Bool) (flags : List Bool) → rises (flag ∷ flags) ≡ 0 → (flag ≡ false) × (rises flags ≡ 0)
first_calm true flags is = absurd (omega (arith, is))
first_calm false flags is = (refl, is)

pub all_calm : (xs : List Exchange) → rises (host_flags xs) ≡ 0 → rises (words_flags xs) ≡ 0 → AreCalm xs
all_calm [] host random = tt
all_calm (x ∷ xs) host random =
    let first = first_calm x.seen.host_failed (host_flags xs) host in
    let second = first_calm x.seen.words_failed (words_flags xs) random in
    (record { host = first.0; random = second.0 }, all_calm xs first.1 second.1)
