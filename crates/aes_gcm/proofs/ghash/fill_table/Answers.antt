use Rattle.std.proofs.Common.{◌≡◌, ℕ, ◌+◌, ◌*◌, ◌<◌, refl, ap, ◌∙◌, sym, arith, [], List, length, set, inl, inr, slice_index_or, subst}
use Rattle.std.specs.Int.Bits.{xor_zero_r}
use Rattle.std.proofs.lemmas.Bool.{cases_lt}
use Rattle.std.proofs.lemmas.List.{get_or-set_same, get_or-set_other, length-set}
use Rattle.aes_gcm.specs.Ghash.{times_x, sum_of_shifts}
use Rattle.aes_gcm.specs.Multiples.{shifted, IsRow, factor}
use Rattle.aes_gcm.proofs.Multiples.{shifted-shifted}
use Rattle.aes_gcm.proofs.ghash.fill_table.Goals as goal

row_at : (table : List (List ℕ)) (row : List ℕ) (k v h : ℕ) → k < length table → v ≡ shifted (4 * k) h → IsRow row v
    → ((j : ℕ) → j < k → IsRow (slice_index_or table j []) (shifted (4 * j) h))
    → (j : ℕ) → j < k + 1 → IsRow (slice_index_or (set table k row) j []) (shifted (4 * j) h)
row_at table row k v h lt ev is old j lj n ln = elim (cases_lt j k) [
  | inl below ↦ ap (λ r. slice_index_or r n 0) (get_or-set_other table k j row [] (λ e. absurd (omega arith))) ∙ old j below n ln
  | inr top ↦
      let e : j ≡ k = omega arith in
      let P : ℕ → Type 0 = λ j. slice_index_or (slice_index_or (set table k row) j []) n 0 ≡ sum_of_shifts 4 n (shifted (4 * j) h) in
      subst P (sym e) (ap (λ r. slice_index_or r n 0) (get_or-set_same table k row [] lt) ∙ is n ln ∙ ap (sum_of_shifts 4 n) ev)
]

next : (v k a b d e h : ℕ) → v ≡ shifted (4 * k) h → a ≡ times_x v → b ≡ times_x a → d ≡ times_x b → e ≡ times_x d → e ≡ shifted (4 * (k + 1)) h
unfolding shifted
next v k a b d e h ev ea eb ed ee =
    let place : 4 + 4 * k ≡ 4 * (k + 1) = omega arith in
    ee ∙ ap times_x (ed ∙ ap times_x (eb ∙ ap times_x (ea ∙ ap times_x ev))) ∙ shifted-shifted 4 (4 * k) (4 * (k + 1)) h place

factor_is : (table : List (List ℕ)) (h : ℕ) → IsRow (slice_index_or table 0 []) (shifted 0 h) → factor table ≡ h
unfolding shifted sum_of_shifts
factor_is table h is = is 8 (omega arith) ∙ xor_zero_r h

pub loop-k-init : goal.loop-k-init
unfolding shifted
loop-k-init c = (c.told-table, refl, λ j h. absurd (omega arith))

pub loop-k-preserved : goal.loop-k-preserved
loop-k-preserved c =
    let k = c.loop-k.k in
    let long : length c.loop-k.table ≡ 32 = c.loop-k.invariant.0 in (
      length-set c.loop-k.table k c.row.result ∙ long,
      next c.loop-k.v k c.times_x.result c.times_x-in-loop-k.result c.times_x-in-loop-k-2.result c.times_x-v.result c.args.h c.loop-k.invariant.1 c.times_x.ensures c.times_x-in-loop-k.ensures c.times_x-in-loop-k-2.ensures c.times_x-v.ensures,
      row_at c.loop-k.table c.row.result k c.loop-k.v c.args.h (omega arith) c.loop-k.invariant.1 c.row.ensures c.loop-k.invariant.2,
    )

pub returns-clause-factor : goal.returns-clause-factor
returns-clause-factor c = factor_is c.loop-k.table c.args.h (c.loop-k.invariant.2 0 (omega arith))

pub returns-clause-table : goal.returns-clause-table
returns-clause-table c k h n ln =
    c.loop-k.invariant.2 k (omega arith) n ln
    ∙ ap (λ v. sum_of_shifts 4 n (shifted (4 * k) v)) (sym (factor_is c.loop-k.table c.args.h (c.loop-k.invariant.2 0 (omega arith))))
