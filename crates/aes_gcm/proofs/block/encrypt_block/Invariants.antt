use Rattle.std.proofs.Common.{◌≡◌, map}
use Rattle.aes_gcm.specs.Cipher.{after_round}
use Rattle.aes_gcm.specs.Tower.{standard}
use Rattle.aes_gcm.proofs.block.encrypt_block.Given as goal

abbrev pub invariant-loop-i : goal.invariant-loop-i
invariant-loop-i l = map standard l.state ≡ after_round (map standard l.key-inside.first) l.block l.i
