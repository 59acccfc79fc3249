use Rattle.std.proofs.Common.{List, ℕ, ap, ◌∙◌, sym, subst}
use Rattle.node_tree.specs.State.{TreeState}
use Rattle.node_tree.specs.Touched.{AreTouched}
use Rattle.node_tree.specs.Marks.{IsChangedCount}
use Rattle.node_tree.proofs.United.{changed_count, may_change}
use Rattle.node_tree.proofs.tree.Tree.changed_count.Goals as goal

pub returns-clause-count : goal.returns-clause-count
returns-clause-count c =
    let touched = subst (λ (l : List ℕ). AreTouched c.args.at c.args.end l) (sym c.deref-2.ensures.0) c.touched.ensures in
    subst (λ (l : List ℕ). IsChangedCount l c.args.at c.args.end c.count_changed.result) (c.deref.ensures.0 ∙ c.dirty_numbers.ensures ∙ ap (λ (t : TreeState). t.dirty) c.self.view_is)
    (changed_count c.deref.result.now c.deref-2.result.now c.args.at c.args.end c.count_changed.result touched c.count_changed.ensures.united)

pub returns-clause-few : goal.returns-clause-few
returns-clause-few c = may_change c.args.self.now.dirty c.args.at c.args.end c.count_changed.result (returns-clause-count c)
