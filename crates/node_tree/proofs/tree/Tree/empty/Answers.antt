use Rattle.std.proofs.Common.{◌≡◌, [], refl, sym, subst, ◌∙◌}
use Rattle.node_tree.specs.State.{TreeState}
use Rattle.node_tree.specs.Backing.{Backs, now}
use Rattle.node_tree.proofs.Fresh.{fresh_is, fresh_backs, fresh_now, empty_meta, empty_is_meta}
use Rattle.node_tree.proofs.tree.Tree.empty.Goals as goal

pub returns-clause-fields : goal.returns-clause-fields
returns-clause-fields c = fresh_is (empty_meta []) 1 c.new.result.entries refl c.new.ensures.empty

pub returns-clause-backed : goal.returns-clause-backed
returns-clause-backed c = λ sheet linked empty.
    let meta = empty_meta sheet.path in
    let is = empty_is_meta sheet linked empty in
    subst (λ (t : TreeState). Backs sheet t × (now sheet t ≡ [])) (sym (fresh_is meta 1 c.new.result.entries refl c.new.ensures.empty)) (fresh_backs sheet linked meta is, fresh_now sheet linked meta is ∙ empty)
