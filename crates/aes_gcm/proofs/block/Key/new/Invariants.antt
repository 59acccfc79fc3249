use Rattle.std.proofs.Common.{◌≡◌, ℕ, ◌+◌, ◌<◌, [], length, map, get_or}
use Rattle.aes_gcm.specs.Cipher.{round_key}
use Rattle.aes_gcm.specs.Tower.{absorbed}
use Rattle.aes_gcm.proofs.block.Key.new.Given as goal

abbrev pub invariant-loop-i : goal.invariant-loop-i
invariant-loop-i l = (length l.middle ≡ 9) × ((r : ℕ) → r < l.i → map absorbed (get_or l.middle r []) ≡ round_key l.bytes (r + 1))
