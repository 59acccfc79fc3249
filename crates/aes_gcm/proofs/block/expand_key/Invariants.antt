use Rattle.std.proofs.Common.{◌≡◌, ℕ, ◌<◌, ◌-◌, ◌*◌, [], length, take, drop, get_or}
use Rattle.aes_gcm.specs.Cipher.{schedule}
use Rattle.aes_gcm.proofs.block.expand_key.Given as goal

abbrev pub invariant-loop-i : goal.invariant-loop-i
invariant-loop-i l = (length l.words ≡ 44) × ((k : ℕ) → k < l.i → get_or l.words k [] ≡ take 4 (drop (4 * k) l.bytes))

abbrev pub invariant-loop-i-2 : goal.invariant-loop-i-2
invariant-loop-i-2 l = (length l.words ≡ 44) × (take l.i l.words ≡ schedule (l.i - 4) l.bytes)
