use Rattle.std.proofs.Common.{◌≡◌, ◌∷◌, [], List, ℕ, string_bytes, subst, sym, ap, ◌∙◌}
use Rattle.pf_tool.specs.Requests.{texts, IsOperand}
use Rattle.pf_tool.proofs.Lists.{two, never_true}
use Rattle.pf_tool.proofs.words.one_operand.Goals as goal

pub returns-then-not-is_operand_of-clause-none : goal.returns-then-not-is_operand_of-clause-none
returns-then-not-is_operand_of-clause-none c = λ operand asks is.
    let words = two c.args.words.now c.command-item.result c.operand-item.result c.in-len2.len_at_least c.in-len2.len_below c.command-item.is c.operand-item.is in
    let all : string_bytes c.command-item.result ∷ string_bytes c.operand-item.result ∷ [] ≡ c.args.name.now ∷ operand ∷ [] = sym (ap texts words) ∙ asks in
    let first = c.as_str.ensures.value in
    let second = c.as_str-2.ensures.value in
    let named : operand ≡ c.as_str-2.result.now = cc in
    never_true (c.if-not-is_operand_of.ensures.1 (cc, subst (λ (l : List ℕ). IsOperand l) named is))
