use Rattle.std.proofs.Common.{◌∙◌}
use Rattle.node_tree.specs.Inside.{state_of}
use Rattle.node_tree.proofs.Flushed.{numbers_held, well_settled, settled_is}
use Rattle.node_tree.proofs.SealedAs.{settled_with}
use Rattle.node_tree.proofs.tree.Tree.settle.Goals as goal

pub clear_marks-requires : goal.clear_marks-requires
clear_marks-requires c = record { held = numbers_held c.self.inside c.args.self.now c.self.view_is c.self.invariant c.deref.result.now (c.deref.ensures.0 ∙ c.dirty_numbers-numbers.ensures) }

pub invariant_of-self : goal.invariant_of-self
invariant_of-self c =
    well_settled c.self.inside c.args.self.now c.self.view_is c.self.invariant c.deref.result.now (c.deref.ensures.0 ∙ c.dirty_numbers-numbers.ensures) c.sealed_root-self-inside.result c.node_count-self-inside.result c.clear_marks.new.nodes
    c.clear_marks.ensures.plains c.clear_marks.ensures.marks c.clear_marks.ensures.ordered c.sealed_root-self-inside.ensures c.node_count-self-inside.ensures

pub returns-clause-settled : goal.returns-clause-settled
returns-clause-settled c =
    settled_is c.self.inside c.args.self.now c.self.view_is c.self.invariant c.deref.result.now (c.deref.ensures.0 ∙ c.dirty_numbers-numbers.ensures) c.sealed_root-self-inside.result c.node_count-self-inside.result c.clear_marks.new.nodes
    c.clear_marks.ensures.plains c.clear_marks.ensures.marks c.clear_marks.ensures.ordered c.sealed_root-self-inside.ensures c.node_count-self-inside.ensures

pub returns-clause-backed : goal.returns-clause-backed
returns-clause-backed c = λ next sealed.
    settled_with next c.args.self.now (state_of (record c.self.inside { root = c.sealed_root-self-inside.result; base = c.node_count-self-inside.result; nodes = c.clear_marks.new.nodes })) sealed (returns-clause-settled c)
