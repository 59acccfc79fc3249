use Rattle.manifest_model.proofs.Normal.{normal-normal, normal-absolute, normal-parts, parts-normal}
use Rattle.manifest_model.proofs.laws.name_is_normal.Goals as goal

pub returns-clause-itself : goal.returns-clause-itself
returns-clause-itself c = normal-normal

pub returns-clause-absolute : goal.returns-clause-absolute
returns-clause-absolute c = normal-absolute

pub returns-clause-parts : goal.returns-clause-parts
returns-clause-parts c = parts-normal

pub returns-clause-same_parts : goal.returns-clause-same_parts
returns-clause-same_parts c = normal-parts
