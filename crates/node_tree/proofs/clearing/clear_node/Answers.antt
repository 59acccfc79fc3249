use Rattle.std.proofs.Common.{arith, refl, ◌∙◌}
use Rattle.node_tree.proofs.Cleared.{cleared_none, cleared_more}
use Rattle.node_tree.proofs.clearing.clear_node.Goals as goal

pub loop-slot-init : goal.loop-slot-init
loop-slot-init c = record { cleared = cleared_none c.args.count c.args.number c.args.plain.now; same_length = refl }

pub loop-slot-preserved : goal.loop-slot-preserved
loop-slot-preserved c = record {
  cleared = cleared_more c.args.count c.args.number c.loop-slot.slot c.args.plain.now c.loop-slot.plain c.clear_place.new.plain (omega arith) c.loop-slot.invariant.cleared c.clear_place.ensures.cleared;
  same_length = c.clear_place.ensures.same_length ∙ c.loop-slot.invariant.same_length;
}
