use Rattle.std.proofs.Common.{ap, ◌∙◌}
use Rattle.aes_gcm.specs.Gcm.{tag_of, seal}
use Rattle.aes_gcm.proofs.gcm.seal_in_place.Goals as goal

pub returns-clause-ciphertext : goal.returns-clause-ciphertext
unfolding seal
returns-clause-ciphertext c = c.add_key_stream.ensures

pub returns-clause-tag : goal.returns-clause-tag
unfolding seal
returns-clause-tag c = c.tag_of.ensures ∙ ap (tag_of c.args.key.now c.args.aad.now) c.add_key_stream.ensures
