use Rattle.std.proofs.Common.{arith, ◌<◌, length, slice_index, ◌∙◌}
use Rattle.node_tree.specs.Nodes.{plain_at}
use Rattle.node_tree.proofs.Keyed.{in_list}
use Rattle.node_tree.proofs.Cleared.{not_before, none_cleared, cleared_next}
use Rattle.node_tree.proofs.Kept.{keeps_nodes, keeps_nodes_then}
use Rattle.node_tree.proofs.clearing.clear.Goals as goal

pub clear_hash-requires-clause-low : goal.clear_hash-requires-clause-low
clear_hash-requires-clause-low c = c.requires.low _ (in_list c.args.numbers.now c.loop-number.number-index (omega arith))

pub clear_hash-requires-clause-high : goal.clear_hash-requires-clause-high
clear_hash-requires-clause-high c = c.requires.high _ (in_list c.args.numbers.now c.loop-number.number-index (omega arith))

pub clear_hash-requires-clause-held : goal.clear_hash-requires-clause-held
clear_hash-requires-clause-held c =
    let i = c.loop-number.number-index in
    let lt : i < length c.args.numbers.now = omega arith in
    let x = slice_index c.args.numbers.now i in
    let there = c.requires.held x (in_list c.args.numbers.now i lt) in
    (there.0, c.loop-number.invariant.cleared.others x (not_before c.args.numbers.now i c.requires.rising lt) ∙ there.1)

pub loop-number-init : goal.loop-number-init
loop-number-init c = record { cleared = none_cleared c.args.count c.args.numbers.now (plain_at c.args.nodes.now); keeps = keeps_nodes c.args.nodes.now }

pub loop-number-preserved : goal.loop-number-preserved
loop-number-preserved c = record {
  cleared =
      cleared_next c.args.count c.loop-number.number-index c.args.numbers.now (plain_at c.args.nodes.now) (plain_at c.loop-number.nodes) (plain_at c.clear_hash.new.nodes) c.requires.rising (omega arith) c.loop-number.invariant.cleared
      c.clear_hash.ensures.cleared;
  keeps = keeps_nodes_then c.args.nodes.now c.loop-number.nodes c.clear_hash.new.nodes c.loop-number.invariant.keeps c.clear_hash.ensures.keeps;
}
