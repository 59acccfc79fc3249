use Rattle.std.proofs.Common.{refl}
use Rattle.aes_gcm.specs.Field.{times, power, inverse, affine, sub_byte}
use Rattle.aes_gcm.specs.Cipher.{cipher, after_round, round_key, schedule}
use Rattle.aes_gcm.specs.Ghash.{power as block_power, sum_of_shifts, product, ghash}
use Rattle.aes_gcm.specs.Gcm.{key_stream, tag_of, seal}
use Rattle.aes_gcm.proofs.ZeroKey.{block_sealed}
use Rattle.aes_gcm.proofs.vectors.published_examples.Goals as goal

pub returns-clause-cipher : goal.returns-clause-cipher
unfolding cipher after_round round_key schedule sub_byte affine inverse power times
returns-clause-cipher c = refl

pub returns-clause-empty : goal.returns-clause-empty
unfolding cipher after_round round_key schedule sub_byte affine inverse power times block_power sum_of_shifts product ghash key_stream tag_of seal
returns-clause-empty c = refl

pub returns-clause-block : goal.returns-clause-block
returns-clause-block c = block_sealed
