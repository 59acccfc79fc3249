use Rattle.std.proofs.Common.{◌≡◌, ◌∷◌, [], List, ℕ, string_bytes, subst, sym, ap, ◌∙◌}
use Rattle.std.specs.Prelude.{codes}
use Rattle.pf_tool.specs.Requests.{texts, IsOperand}
use Rattle.pf_tool.proofs.Lists.{four, never_true}
use Rattle.pf_tool.proofs.words.sums_to_file.Goals as goal

pub returns-then-not-is_sums_to_file-clause-none : goal.returns-then-not-is_sums_to_file-clause-none
returns-then-not-is_sums_to_file-clause-none c = λ manifest output asks.
    let words = four c.args.words.now c.command-item.result c.option-item.result c.output-item.result c.manifest-item.result c.in-len4.len_at_least c.in-len4.len_below c.command-item.is c.option-item.is c.output-item.is c.manifest-item.is in
    let all : string_bytes c.command-item.result ∷ string_bytes c.option-item.result ∷ string_bytes c.output-item.result ∷ string_bytes c.manifest-item.result ∷ [] ≡ codes "sums" ∷ codes "-o" ∷ output ∷ manifest ∷ [] = sym (ap texts words) ∙ asks.0 in
    let first = c.as_str.ensures.value in
    let second = c.as_str-2.ensures.value in
    let third = c.as_str-3.ensures.value in
    let named : manifest ≡ c.as_str-3.result.now = cc in
    never_true (c.if-not-is_sums_to_file.ensures.1 (cc, cc, subst (λ (l : List ℕ). IsOperand l) named asks.1))
