use Rattle.node_tree.proofs.Parting.{one_part}
use Rattle.node_tree.proofs.Pieces.{one_pieces}
use Rattle.node_tree.proofs.laws.parts_are_one.Goals as goal

pub returns-clause-part : goal.returns-clause-part
returns-clause-part c = one_part

pub returns-clause-pieces : goal.returns-clause-pieces
returns-clause-pieces c = one_pieces
