use Rattle.std.proofs.Common.{arith}
use Rattle.aes_gcm.proofs.Shuffles.{masked_ok, swizzled, masks, masks_same}
use Rattle.aes_gcm.proofs.tower.look.Goals as goal

pub swizzle : goal.swizzle
swizzle c = masked_ok c.args.at

pub returns : goal.returns
returns c = swizzled c.args.table 0 c.args.at masks masks_same c.fits-at.0 (omega arith)
