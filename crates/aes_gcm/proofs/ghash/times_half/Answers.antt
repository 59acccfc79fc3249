use Rattle.std.proofs.Common.{◌≡◌, ℕ, ◌+◌, ◌-◌, ◌*◌, ◌/◌, ◌^◌, ◌≤◌, ap, ap₂, ◌∙◌, sym, arith, bit_xor, bit_and, [], slice_index_or}
use Rattle.std.specs.Int.Bits.{xor_zero_r, and_le_r}
use Rattle.aes_gcm.specs.Ghash.{sum_of_shifts}
use Rattle.aes_gcm.specs.Multiples.{shifted, factor}
use Rattle.aes_gcm.proofs.Multiples.{sum-next_four, shifted-shifted}
use Rattle.aes_gcm.proofs.ghash.times_half.Goals as goal

pub loop-k-init : goal.loop-k-init
loop-k-init c =
    let first = c.args.first in
    let same : 4 * (first + 0) ≡ 4 * first = omega arith in
    ap (λ i. sum_of_shifts 64 c.args.half (shifted i (factor c.args.table.now))) same

pub loop-k-preserved : goal.loop-k-preserved
loop-k-preserved c =
    let k = c.loop-k.k in
    let half = c.args.half in
    let i : ℕ = c.args.first + k in
    let r : ℕ = 60 - 4 * k in
    let m : ℕ = 64 - 4 * k in
    let h = factor c.args.table.now in
    let v = shifted (4 * i) h in
    let n = bit_and (half / 2 ^ r) 15 in
    let below : n ≤ 15 = and_le_r (half / 2 ^ r) 15 in
    let entry = slice_index_or (slice_index_or c.args.table.now i []) n 0 in
    let is : entry ≡ sum_of_shifts 4 n v = c.requires.table i (omega arith) n (omega arith) in
    let four : 4 + r ≡ m = omega arith in
    let rest : 64 - 4 * (k + 1) ≡ r = omega arith in
    let place : 4 + 4 * i ≡ 4 * (c.args.first + (k + 1)) = omega arith in
    ap₂ (λ r w. bit_xor (bit_xor c.loop-k.sum entry) (sum_of_shifts r half w)) rest (sym (shifted-shifted 4 (4 * i) (4 * (c.args.first + (k + 1))) h place))
    ∙ sum-next_four c.loop-k.sum entry m r half v four is ∙ c.loop-k.invariant

pub returns : goal.returns
unfolding sum_of_shifts
returns c =
    let none : 64 - 4 * c.loop-k.k ≡ 0 = omega arith in
    let v = shifted (4 * (c.args.first + c.loop-k.k)) (factor c.args.table.now) in
    sym (ap (λ m. bit_xor c.loop-k.sum (sum_of_shifts m c.args.half v)) none ∙ xor_zero_r c.loop-k.sum) ∙ c.loop-k.invariant
