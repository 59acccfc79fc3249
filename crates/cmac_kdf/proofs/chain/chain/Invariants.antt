use Rattle.std.proofs.Common.{◌≡◌, fold, replicate, take}
use Rattle.cmac_kdf.specs.Cmac.{chained}
use Rattle.cmac_kdf.proofs.chain.chain.Given as goal

abbrev pub invariant-loop-block : goal.invariant-loop-block
invariant-loop-block l = l.state ≡ fold (chained l.key) (replicate 16 0) (take l.block-index l.blocks)
