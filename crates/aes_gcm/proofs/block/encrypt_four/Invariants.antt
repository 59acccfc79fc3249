use Rattle.std.proofs.Common.{◌≡◌, map, [], get_or}
use Rattle.aes_gcm.specs.Cipher.{after_round}
use Rattle.aes_gcm.specs.Tower.{standard}
use Rattle.aes_gcm.proofs.block.encrypt_four.Given as goal

abbrev pub invariant-loop-i : goal.invariant-loop-i
invariant-loop-i l =
    let key = map standard l.key-inside.first in record {
      one : map standard l.first ≡ after_round key (get_or l.fn.blocks 0 []) l.i;
      two : map standard l.second ≡ after_round key (get_or l.fn.blocks 1 []) l.i;
      three : map standard l.third ≡ after_round key (get_or l.fn.blocks 2 []) l.i;
      four : map standard l.fourth ≡ after_round key (get_or l.fn.blocks 3 []) l.i;
    }
