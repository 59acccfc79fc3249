use Rattle.std.proofs.Common.{◌≡◌, ◌∷◌, ◌-◌, length, take, drop, ap, ◌∙◌, rules}
use Rattle.std.specs.Prelude.{codes}
use Rattle.pf_tool.specs.Texts.{texts}
use Rattle.pf_tool.proofs.Defining.{in_next_word}
use Rattle.pf_tool.proofs.Lists.{one_more}
use Rattle.pf_tool.proofs.defines.first_define.Goals as goal

pub returns-then-eq : goal.returns-then-eq
returns-then-eq c =
    let words = one_more c.args.words.now c.first-item.result c.in-len1-up.len_at_least c.first-item.is in
    let behind = texts (take (length c.args.words.now - 1) (drop 1 c.args.words.now)) in
    let option : c.as_str.result.now ≡ codes "-D" = search rules in
    let e0 = c.as_str.ensures.value in
    let begins : texts c.args.words.now ≡ codes "-D" ∷ behind = ap texts words ∙ (cc) in
    in_next_word (texts c.args.words.now) behind c.pair_first.result (λ x. x.0.now) (λ x. x.1.now) (λ x. texts x.2.now) begins c.pair_first.ensures
