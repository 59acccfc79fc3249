use Rattle.std.proofs.Common.{◌∙◌, refl, sym, arith}
use Rattle.std.proofs.lemmas.List.{take_all}
use Rattle.node_layout.proofs.Rows.{grown}
use Rattle.node_layout.proofs.sealing.put_node.Goals as goal

pub returns : goal.returns
returns c =
    let version = grown c.put_array.ensures.front c.put_array-2.ensures.front refl in
    let nonce = grown version c.put_array-3.ensures.front refl in
    let tag = grown nonce c.put_array-4.ensures.front refl in
    let flag = grown tag c.put_array-5.ensures.front refl in
    let part = grown flag c.put_array-6.ensures.front refl in
    sym (take_all 4096 c.put_array-7.new.bytes (omega arith)) ∙ grown part c.put_array-7.ensures.front refl
