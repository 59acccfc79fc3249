use Rattle.std.proofs.Common.{◌≡◌, ap, arith, List, ℕ, subst, sym, ◌∙◌}
use Rattle.node_layout.specs.Metadata.{IsPlain, meta_block, meta_opens}
use Rattle.node_layout.proofs.Blocks.{IsPlain-meta_block, meta_opens-meta_block}
use Rattle.node_layout.proofs.sealing.seal_meta.Goals as goal

-- the node of the text that was written
node_is : (c : goal.After-put_node) → c.put_node.new.node ≡ meta_block c.args.user.now c.args.nonce.now c.write.new.part
unfolding meta_block
node_is c = cc

pub returns-clause-sealed : goal.returns-clause-sealed
returns-clause-sealed c = node_is c ∙ ap (meta_block c.args.user.now c.args.nonce.now) c.write.ensures.text

pub returns-clause-plain : goal.returns-clause-plain
returns-clause-plain c =
    let P : List ℕ → Type 0 = IsPlain in
    subst P (sym (node_is c)) (IsPlain-meta_block c.args.user.now c.args.nonce.now c.write.new.part)

pub returns-clause-opens_again : goal.returns-clause-opens_again
returns-clause-opens_again c le =
    let opened = meta_opens-meta_block c.args.user.now c.args.nonce.now c.write.new.part (omega arith) (omega arith) (omega arith) in
    (c.write.new.part, ap (meta_opens c.args.user.now) (node_is c) ∙ opened, c.write.ensures.read_again le)
