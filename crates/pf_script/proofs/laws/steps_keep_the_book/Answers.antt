use Rattle.pf_script.proofs.Composing.{all_agrees, all_leaves}
use Rattle.pf_script.proofs.Starting.{starts}
use Rattle.pf_script.proofs.laws.steps_keep_the_book.Goals as goal

pub returns-clause-steps : goal.returns-clause-steps
returns-clause-steps c = λ book before after acts old new agrees reads did. (all_agrees book before acts after old new agrees reads did, all_leaves book before acts after old new agrees reads did)

pub returns-clause-start : goal.returns-clause-start
returns-clause-start c = λ book disk start. starts book disk start
