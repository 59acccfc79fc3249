use Rattle.std.proofs.Common.{◌∙◌, sym, subst, codes}
use Rattle.std.proofs.lemmas.Bool.{both_ways}
use Rattle.std.proofs.lemmas.Bool.Decides.{Decides-eqb}
use Rattle.std.proofs.lemmas.Slice.Eq.{strip_suffix_is}
use Rattle.std.proofs.Common.{Some}
use Rattle.template_text.specs.Names.{IsJoined}
use Rattle.template_text.proofs.Joining.{named}
use Rattle.template_text.proofs.names.is_value_name.Goals as goal

pub returns : goal.returns
returns c =
    let same = c.as_bytes-bytes.ensures.value in
    let whole = strip_suffix_is Decides-eqb c.as_bytes-bytes.result.now (codes "()") (Some c.in-Some.front) c.in-Some.ensures.cases in
    named c.args.name.now c.in-Some.front.now (sym same ∙ whole) (λ joined. both_ways _ c.if-is_joined.false (c.is_joined.ensures.1 (subst IsJoined (sym same) joined))) c.is_joined-2.result c.is_joined-2.ensures
