use Rattle.std.proofs.Common.{[], ◌∷◌, length, refl, ◌∙◌, sym, subst, Err}
use Rattle.std.specs.BTreeMap.{get}
use Rattle.std.specs.Ordering.{nat_cmp}
use Rattle.std.proofs.lemmas.Result.{err_from_is_err_and}
use Rattle.node_tree.specs.Opened.{IsAt}
use Rattle.node_tree.specs.Nodes.{plain_at, Keeps}
use Rattle.node_tree.specs.Fetching.{Asking, Fetches, NodeEnds, missing_of}
use Rattle.node_tree.specs.declared.fault.TreeFault.{TreeFault}
use Rattle.node_tree.specs.declared.fault.TreeFault.TheVariants.{Memory}
use Rattle.node_tree.specs.declared.nodes.HeldNode.{HeldNode}
use Rattle.node_tree.proofs.One.{fetched_already, fetch_wants, fetch_failed, fetch_opened, not_there, is_there, asks_missing, asks_kept}
use Rattle.node_tree.proofs.Asking.{asking_none, asking_as}
use Rattle.node_tree.proofs.Marking.{keeps_marks, unmarked}
use Rattle.node_tree.proofs.nodes.fetch.Goals as goal

pub returns-then-contains_key-clause-asking : goal.returns-then-contains_key-clause-asking
returns-then-contains_key-clause-asking g c = asking_none tt _ (g.H.Host.state c.args.host.now)

pub returns-then-contains_key-clause-fetches : goal.returns-then-contains_key-clause-fetches
returns-then-contains_key-clause-fetches g c =
    fetched_already c.args.name.now c.args.number c.args.root.now tt (plain_at c.args.nodes.now) (g.H.Host.state c.args.host.now)
    (is_there (λ (n : HeldNode). n.plain.value) (get nat_cmp c.args.nodes.now c.args.number) (sym c.contains_key.ensures ∙ c.if-contains_key.true))

pub returns-in_err-plain-clause-asking : goal.returns-in_err-plain-clause-asking
returns-in_err-plain-clause-asking g c =
    let p = err_from_is_err_and c.from_residual.result c.from_residual.ensures.1 in
    let old = g.H.Host.state c.args.host.now in
    let n = length (missing_of (plain_at c.args.nodes.now) (c.args.number ∷ [])) in
    rw p.1 (subst (λ (x : TreeFault). Asking {T = Unit {0}} (Err x) n old old) (sym (p.2 ∙ c.in_err-plain.ensures.memory)) (asking_as {T = Unit {0}} tt (Err Memory) n old old (asking_none tt n old) refl))

pub returns-in_err-plain-clause-fetches : goal.returns-in_err-plain-clause-fetches
returns-in_err-plain-clause-fetches g c =
    let p = err_from_is_err_and c.from_residual.result c.from_residual.ensures.1 in
    let old = g.H.Host.state c.args.host.now in
    rw p.1 (subst (λ (x : TreeFault). Fetches {T = Unit {0}} (Err x) c.args.name.now (c.args.number ∷ []) (plain_at c.args.nodes.now) (plain_at c.args.nodes.now) c.args.root.now old old) (sym (p.2 ∙ c.in_err-plain.ensures.memory))
    (fetch_wants c.args.name.now c.args.number c.args.root.now (plain_at c.args.nodes.now) old))

pub returns-in_err-open_node-clause-asking : goal.returns-in_err-open_node-clause-asking
returns-in_err-open_node-clause-asking g c =
    let p = err_from_is_err_and c.from_residual-in_err-open_node.result c.from_residual-in_err-open_node.ensures.1 in
    let missing = λ (there : IsAt (Keeps c.args.nodes.now) c.args.number). not_there (λ (n : HeldNode). n.plain.value) (get nat_cmp c.args.nodes.now c.args.number) (sym c.contains_key.ensures ∙ c.if-contains_key.false) there.0 there.1 in
    rw p.1 (asks_missing (plain_at c.args.nodes.now) c.args.number missing p.0 (g.H.Host.state c.args.host.now) (g.H.Host.state c.open_node.new.host)
    (subst (λ (x : TreeFault). Asking {T = Unit {0}} (Err x) 1 (g.H.Host.state c.args.host.now) (g.H.Host.state c.open_node.new.host)) (sym p.2) c.in_err-open_node.ensures.asking))

pub returns-in_err-open_node-clause-fetches : goal.returns-in_err-open_node-clause-fetches
returns-in_err-open_node-clause-fetches g c =
    let p = err_from_is_err_and c.from_residual-in_err-open_node.result c.from_residual-in_err-open_node.ensures.1 in
    let old = g.H.Host.state c.args.host.now in
    let new = g.H.Host.state c.open_node.new.host in
    let missing = λ (there : IsAt (Keeps c.args.nodes.now) c.args.number). not_there (λ (n : HeldNode). n.plain.value) (get nat_cmp c.args.nodes.now c.args.number) (sym c.contains_key.ensures ∙ c.if-contains_key.false) there.0 there.1 in
    rw p.1 (fetch_failed c.args.name.now c.args.number c.args.root.now p.0 c.open_node.new.block (plain_at c.args.nodes.now) c.entry_of.result old new c.entry_of.ensures missing c.in_err-open_node.ensures.counts
    (subst (λ (x : TreeFault). NodeEnds {T = Unit {0}} (Err x) c.open_node.new.block c.args.name.now c.args.number c.entry_of.result old new) (sym p.2) c.in_err-open_node.ensures.ends))

pub returns-clause-asking : goal.returns-clause-asking
returns-clause-asking g c =
    let missing = λ (there : IsAt (Keeps c.args.nodes.now) c.args.number). not_there (λ (n : HeldNode). n.plain.value) (get nat_cmp c.args.nodes.now c.args.number) (sym c.contains_key.ensures ∙ c.if-contains_key.false) there.0 there.1 in
    asks_kept (plain_at c.args.nodes.now) c.args.number missing c.keep.result (g.H.Host.state c.args.host.now) (g.H.Host.state c.open_node.new.host) c.in_ok-open_node.ensures.asking c.keep.ensures.memory

pub returns-clause-fetches : goal.returns-clause-fetches
returns-clause-fetches g c =
    let missing = λ (there : IsAt (Keeps c.args.nodes.now) c.args.number). not_there (λ (n : HeldNode). n.plain.value) (get nat_cmp c.args.nodes.now c.args.number) (sym c.contains_key.ensures ∙ c.if-contains_key.false) there.0 there.1 in
    fetch_opened c.args.name.now c.args.number c.args.root.now (plain_at c.args.nodes.now) (plain_at c.keep.new.nodes) c.entry_of.result c.open_node.new.block
    (g.H.Host.state c.args.host.now) (g.H.Host.state c.open_node.new.host) c.entry_of.ensures missing c.in_ok-open_node.ensures.counts c.in_ok-open_node.ensures.ends c.keep.result c.keep.ensures.ok c.keep.ensures.err c.keep.ensures.memory

pub returns-then-contains_key-clause-marks : goal.returns-then-contains_key-clause-marks
returns-then-contains_key-clause-marks g c = keeps_marks c.args.nodes.now

pub returns-in_err-plain-clause-marks : goal.returns-in_err-plain-clause-marks
returns-in_err-plain-clause-marks g c = keeps_marks c.args.nodes.now

pub returns-in_err-open_node-clause-marks : goal.returns-in_err-open_node-clause-marks
returns-in_err-open_node-clause-marks g c = keeps_marks c.args.nodes.now

pub returns-clause-marks : goal.returns-clause-marks
returns-clause-marks g c = c.keep.ensures.marks (unmarked c.args.nodes.now c.args.number (sym c.contains_key.ensures ∙ c.if-contains_key.false))
