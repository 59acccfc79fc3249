use Rattle.std.proofs.Common.{◌≡◌, ◌+◌, ◌-◌, ◌*◌, bit_xor}
use Rattle.aes_gcm.specs.Ghash.{sum_of_shifts}
use Rattle.aes_gcm.specs.Multiples.{shifted, factor}
use Rattle.aes_gcm.proofs.ghash.times_half.Given as goal

abbrev pub invariant-loop-k : goal.invariant-loop-k
invariant-loop-k l =
    bit_xor l.sum (sum_of_shifts (64 - 4 * l.k) l.half (shifted (4 * (l.first + l.k)) (factor l.table))) ≡ sum_of_shifts 64 l.half (shifted (4 * l.first) (factor l.table))
