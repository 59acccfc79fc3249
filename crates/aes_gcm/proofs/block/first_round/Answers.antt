use Rattle.std.proofs.Common.{ap, ◌∙◌, map}
use Rattle.aes_gcm.specs.Cipher.{xor_bytes}
use Rattle.aes_gcm.specs.Tower.{standard}
use Rattle.aes_gcm.proofs.TowerRounds.{standard-xor_bytes}
use Rattle.aes_gcm.proofs.block.first_round.Goals as goal

pub returns : goal.returns
returns c = standard-xor_bytes c.to_tower.result c.args.key ∙ ap (λ b. xor_bytes b (map standard c.args.key)) c.to_tower.ensures
