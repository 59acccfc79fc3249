use Rattle.node_layout.proofs.Blocks.{meta_opens-meta_block, IsPlain-meta_block, nonce_at-meta_block, flag_at-meta_block, length-meta_block}
use Rattle.node_layout.proofs.Secrets.{opens_to_one}
use Rattle.node_layout.proofs.laws.sealed_meta_opens.Goals as goal

pub returns-clause-opens : goal.returns-clause-opens
returns-clause-opens c = meta_opens-meta_block

pub returns-clause-plain : goal.returns-clause-plain
returns-clause-plain c = IsPlain-meta_block

pub returns-clause-nonce : goal.returns-clause-nonce
returns-clause-nonce c = nonce_at-meta_block

pub returns-clause-flag : goal.returns-clause-flag
returns-clause-flag c = flag_at-meta_block

pub returns-clause-length : goal.returns-clause-length
returns-clause-length c = length-meta_block

pub returns-clause-one_secret : goal.returns-clause-one_secret
returns-clause-one_secret c = opens_to_one
