use Rattle.std.proofs.Common.{◌∙◌, sym}
use Rattle.template_text.proofs.Joining.{joined_of_parts, parts_of_name}
use Rattle.template_text.proofs.names.is_joined.Goals as goal

pub returns : goal.returns
returns c = (λ is. joined_of_parts c.args.name.now (sym c.all_parts.ensures ∙ is), λ is. c.all_parts.ensures ∙ parts_of_name c.args.name.now is)
