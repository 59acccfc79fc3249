use Rattle.std.proofs.Common.{◌≡◌, ◌∷◌, ◌-◌, List, ℕ, length, take, drop, ap, ◌∙◌, subst, rules}
use Rattle.std.specs.Prelude.{codes}
use Rattle.pf_tool.specs.Texts.{texts}
use Rattle.pf_tool.specs.Defines.{Define}
use Rattle.pf_tool.proofs.Defining.{asked_operands}
use Rattle.pf_tool.proofs.Lists.{one_more}
use Rattle.pf_tool.proofs.manifest_words.manifest_of.Goals as goal

pub returns-in_err-template-clause-none : goal.returns-in_err-template-clause-none
returns-in_err-template-clause-none c =
    let words = one_more c.args.words.now c.command-item.result c.in-len1-up.len_at_least c.command-item.is in
    let behind = texts (take (length c.args.words.now - 1) (drop 1 c.args.words.now)) in
    let command : c.as_str.result.now ≡ codes "manifest" = search rules in
    let e0 = c.as_str.ensures.value in
    let begins : texts c.args.words.now ≡ codes "manifest" ∷ behind = ap texts words ∙ (cc) in
    let cut = c.cut_defines-values.result in
    rw c.from_residual.ensures (λ values template output asks.
    let found = asked_operands (texts c.args.words.now) behind cut.0 values (texts cut.1.now) template output begins c.cut_defines-values.ensures.pairs c.cut_defines-values.ensures.no_more asks in
    c.in_err-template.ensures template output found.0 found.1)

pub returns-clause-found : goal.returns-clause-found
returns-clause-found c =
    let words = one_more c.args.words.now c.command-item.result c.in-len1-up.len_at_least c.command-item.is in
    let behind = texts (take (length c.args.words.now - 1) (drop 1 c.args.words.now)) in
    let command : c.as_str.result.now ≡ codes "manifest" = search rules in
    let e0 = c.as_str.ensures.value in
    let begins : texts c.args.words.now ≡ codes "manifest" ∷ behind = ap texts words ∙ (cc) in
    let cut = c.cut_defines-values.result in
    let found = c.in_ok-template.ensures in
    record {
      behind = behind;
      begins = begins;
      defines = subst (λ (l : List (List ℕ)). Define behind cut.0 l) found.0 c.cut_defines-values.ensures.pairs;
      are_operands = found.1;
    }
