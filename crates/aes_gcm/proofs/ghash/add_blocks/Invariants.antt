use Rattle.std.proofs.Common.{◌≡◌, map, take, fold, bit_xor}
use Rattle.std.specs.Int.{from_be_bytes, w128}
use Rattle.aes_gcm.specs.Ghash.{horner_step}
use Rattle.aes_gcm.specs.Multiples.{factor}
use Rattle.aes_gcm.proofs.ghash.add_blocks.Given as goal

abbrev pub invariant-loop-block : goal.invariant-loop-block
invariant-loop-block l = bit_xor l.high l.low ≡ fold (horner_step (factor l.table)) l.hash (map (from_be_bytes w128) (take l.block-index l.blocks))
