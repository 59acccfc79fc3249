use Rattle.std.proofs.Common.{◌≡◌, sym, subst}
use Rattle.node_tree.specs.State.{TreeState}
use Rattle.node_tree.specs.Backing.{Backs, now}
use Rattle.node_tree.specs.Reading.{IsOfFile}
use Rattle.node_tree.proofs.Fresh.{fresh_is, fresh_backs, fresh_now, fresh_of_file}
use Rattle.node_tree.proofs.tree.Tree.from_meta.Goals as goal

pub returns-clause-fields : goal.returns-clause-fields
returns-clause-fields c = fresh_is c.args.meta.now c.node_count.result c.new.result.entries c.node_count.ensures c.new.ensures.empty

pub returns-clause-backed : goal.returns-clause-backed
returns-clause-backed c = λ sheet linked is.
    let same = sym (fresh_is c.args.meta.now c.node_count.result c.new.result.entries c.node_count.ensures c.new.ensures.empty) in
    subst (λ (t : TreeState). Backs sheet t × (now sheet t ≡ sheet.content)) same (fresh_backs sheet linked c.args.meta.now is, fresh_now sheet linked c.args.meta.now is)

pub returns-clause-of_file : goal.returns-clause-of_file
returns-clause-of_file c = λ file.
    subst (λ (t : TreeState). IsOfFile file t) (sym (fresh_is c.args.meta.now c.node_count.result c.new.result.entries c.node_count.ensures c.new.ensures.empty)) (fresh_of_file c.args.meta.now file)
