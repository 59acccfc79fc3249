use Rattle.std.proofs.Common.{ap, ◌∙◌, List, ℕ}
use Rattle.node_layout.specs.Entries.{entry_at}
use Rattle.node_layout.proofs.InNode.{two_writes, entry_here, entry_elsewhere}
use Rattle.node_layout.proofs.entries.set_entry.Goals as goal

pub returns-clause-whole : goal.returns-clause-whole
returns-clause-whole c =
    two_writes c.args.place c.args.node.now c.put_array.new.bytes c.put_array-2.new.bytes c.args.key.now c.args.tag.now
    c.put_array.ensures.front c.put_array.ensures.rest c.put_array-2.ensures.front c.put_array-2.ensures.rest

pub returns-clause-here : goal.returns-clause-here
returns-clause-here c =
    let whole = two_writes c.args.place c.args.node.now c.put_array.new.bytes c.put_array-2.new.bytes c.args.key.now c.args.tag.now
    c.put_array.ensures.front c.put_array.ensures.rest c.put_array-2.ensures.front c.put_array-2.ensures.rest in
    ap (λ (t : List ℕ). entry_at t c.args.place) whole ∙ entry_here c.args.place c.args.node.now c.args.key.now c.args.tag.now c.told-node c.requires c.told-key c.told-tag

pub returns-clause-others : goal.returns-clause-others
returns-clause-others c = λ other lt ne.
    let whole = two_writes c.args.place c.args.node.now c.put_array.new.bytes c.put_array-2.new.bytes c.args.key.now c.args.tag.now
    c.put_array.ensures.front c.put_array.ensures.rest c.put_array-2.ensures.front c.put_array-2.ensures.rest in
    ap (λ (t : List ℕ). entry_at t other) whole ∙ entry_elsewhere c.args.place c.args.node.now c.args.key.now c.args.tag.now c.told-node c.requires c.told-key c.told-tag other ne
