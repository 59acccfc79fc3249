use Rattle.std.proofs.Common.{rules}
use Rattle.node_tree.proofs.SealedAs.{sealed_meta}
use Rattle.node_tree.proofs.tree.Tree.meta.Goals as goal

pub returns-clause-fields : goal.returns-clause-fields
returns-clause-fields c = search rules

pub returns-clause-sealed : goal.returns-clause-sealed
returns-clause-sealed c = λ next sealed named. sealed_meta next c.args.self.now c.args.path.now _ sealed named (returns-clause-fields c)
