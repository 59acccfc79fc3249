use Rattle.node_layout.proofs.Secrets.{one_secret}
use Rattle.node_layout.proofs.Texts.{fields_same}
use Rattle.node_layout.proofs.laws.text_gives_its_fields.Goals as goal

pub returns-clause-no_others : goal.returns-clause-no_others
returns-clause-no_others c = fields_same

pub returns-clause-one_secret : goal.returns-clause-one_secret
returns-clause-one_secret c = one_secret
