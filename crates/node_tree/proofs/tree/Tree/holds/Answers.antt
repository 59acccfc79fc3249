use Rattle.std.proofs.Common.{◌∙◌}
use Rattle.node_tree.proofs.OfTree.{tree_holds}
use Rattle.node_tree.proofs.tree.Tree.holds.Goals as goal

pub returns : goal.returns
returns c = c.contains_key.ensures ∙ tree_holds c.self.inside c.args.self.now c.args.number c.self.view_is
