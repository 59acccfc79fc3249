use Rattle.std.proofs.Common.{refl}
use Rattle.aes_gcm.specs.Field.{times, power, inverse, affine, sub_byte}
use Rattle.aes_gcm.specs.Cipher.{cipher, after_round, round_key, schedule}
use Rattle.cmac_kdf.specs.Cmac.{cmac, first_subkey, second_subkey}
use Rattle.cmac_kdf.proofs.vectors.published_examples.Goals as goal

pub returns-clause-empty : goal.returns-clause-empty
unfolding cipher after_round round_key schedule sub_byte affine inverse power times cmac first_subkey second_subkey
returns-clause-empty c = refl

pub returns-clause-block : goal.returns-clause-block
unfolding cipher after_round round_key schedule sub_byte affine inverse power times cmac first_subkey second_subkey
returns-clause-block c = refl

pub returns-clause-part : goal.returns-clause-part
unfolding cipher after_round round_key schedule sub_byte affine inverse power times cmac first_subkey second_subkey
returns-clause-part c = refl
