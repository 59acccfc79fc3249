use Rattle.std.proofs.Common.{subst, sym, lit<}
use Rattle.std.proofs.lemmas.Str.Pattern.{split_once_first}
use Rattle.template_text.specs.Names.{IsValueName}
use Rattle.pf_tool.proofs.Defining.{none_found, name_found}
use Rattle.pf_tool.proofs.defines.pair_of.Goals as goal

pub returns-in_err-name : goal.returns-in_err-name
returns-in_err-name c =
    let found = split_once_first 61 c.args.text.now c.split_once.result c.split_once.ensures.cases (lit< tt) in
    rw c.from_residual.ensures (λ name value named is. none_found c.args.text.now c.split_once.result name value found c.in_err-name.was named is)

pub returns-else-is_value_name : goal.returns-else-is_value_name
returns-else-is_value_name c name value named is =
    let found = split_once_first 61 c.args.text.now c.split_once.result c.split_once.ensures.cases (lit< tt) in
    let same = name_found c.args.text.now c.split_once.result (c.in_ok-name.name, c.in_ok-name.value) name value found c.in_ok-name.was named is in
    let tested = c.is_value_name.ensures.1 (subst IsValueName (sym same) named) in
    absurd (cc)
