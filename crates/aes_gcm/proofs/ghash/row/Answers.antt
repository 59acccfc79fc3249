use Rattle.aes_gcm.proofs.ghash.row.Goals as goal
use Rattle.aes_gcm.proofs.Multiples.{row_is}

pub returns : goal.returns
returns c = row_is c.args.v c.times_x-b.result c.times_x-c.result c.times_x-d.result c.times_x-b.ensures c.times_x-c.ensures c.times_x-d.ensures
