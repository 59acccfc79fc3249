use Rattle.std.proofs.Common.{refl}
use Rattle.aes_gcm.specs.Field.{inverse, power, times}
use Rattle.aes_gcm.proofs.Bytes.{times-inverse}
use Rattle.aes_gcm.proofs.sbox.inverses_are_inverses.Goals as goal

pub returns-clause-product_is_one : goal.returns-clause-product_is_one
returns-clause-product_is_one c = times-inverse

pub returns-clause-zero : goal.returns-clause-zero
unfolding inverse power times
returns-clause-zero c = refl
