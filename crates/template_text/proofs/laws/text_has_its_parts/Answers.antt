use Rattle.template_text.proofs.Existing.{has_parts}
use Rattle.template_text.proofs.Lexing.{one_list}
use Rattle.template_text.proofs.laws.text_has_its_parts.Goals as goal

pub returns-clause-there : goal.returns-clause-there
returns-clause-there c = λ text. let has = has_parts text in (has.parts, has.are)

pub returns-clause-no_others : goal.returns-clause-no_others
returns-clause-no_others c = one_list
