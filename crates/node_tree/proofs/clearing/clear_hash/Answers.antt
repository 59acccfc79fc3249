use Rattle.std.proofs.Common.{arith}
use Rattle.node_tree.specs.Nodes.{plain_at}
use Rattle.node_tree.proofs.Cleared.{hash_cleared}
use Rattle.node_tree.proofs.Kept.{keeps_nodes, keeps_one}
use Rattle.node_tree.proofs.clearing.clear_hash.Goals as goal

pub returns-then-number-ne0-clause-keeps : goal.returns-then-number-ne0-clause-keeps
returns-then-number-ne0-clause-keeps c = keeps_nodes c.args.nodes.now

pub returns-clause-cleared : goal.returns-clause-cleared
returns-clause-cleared c = hash_cleared c.args.count c.args.number (plain_at c.args.nodes.now) (plain_at c.clear_one.new.nodes) (omega arith) c.clear_one.ensures.here c.clear_one.ensures.others

pub returns-clause-keeps : goal.returns-clause-keeps
returns-clause-keeps c =
    keeps_one c.args.nodes.now c.clear_one.new.nodes c.args.number c.clear_one.ensures.marks c.requires.held
    (λ plain there. let q = c.clear_one.ensures.here plain there in (q.after, q.there, q.same_length)) c.clear_one.ensures.others
