use Rattle.std.proofs.Common.{arith}
use Rattle.aes_gcm.proofs.TowerRounds.{round_is}
use Rattle.aes_gcm.proofs.block.round.Goals as goal

pub returns : goal.returns
returns c =
    round_is c.args.state c.once_and_twice.result.0 c.once_and_twice.result.1 c.shift_and_mix.result c.args.key (omega arith) (omega arith) (omega arith)
    c.once_and_twice.ensures.once c.once_and_twice.ensures.twice c.shift_and_mix.ensures
