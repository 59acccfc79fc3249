use Rattle.std.proofs.Common.{◌≡◌, ℕ, List, Result, Ok, Err, OnOk, length, ap, sym, ◌∙◌, subst, rules, Option}
use Rattle.std.specs.Prelude.{Contains}
use Rattle.std.specs.List.Sorted.{IsStrictlyIncreasing}
use Rattle.pf_io.specs.Host.{Both}
use Rattle.pf_io.specs.Moments.{Ran}
use Rattle.node_layout.specs.Places.{parent_of}
use Rattle.node_tree.specs.Nodes.{plain_at}
use Rattle.node_tree.specs.State.{held_at}
use Rattle.node_tree.specs.Inside.{state_of}
use Rattle.node_tree.specs.Clearing.{AreCleared}
use Rattle.node_tree.specs.Sealing.{ArePut, SealedFile, LeavesOutside, PutEnds, PutTold}
use Rattle.node_tree.proofs.Kept.{keeps_nodes_then}
use Rattle.node_tree.proofs.Flushed.{numbers_is, numbers_rise, numbers_low, numbers_high, numbers_held, numbers_parents, numbers_many, held_e, well_put, shape, tree_sealed, tree_seals}
use Rattle.node_tree.proofs.tree.Tree.put_nodes.Goals as goal

-- what follows at Ok
on_ok : {T E : Type 0} (r : Result T E) (P Q : Type 0) → (P → Q) → OnOk r P → OnOk r Q
on_ok (Ok value) P Q go holds = go holds
on_ok (Err fault) P Q go holds = tt

pub clear-requires-clause-rising : goal.clear-requires-clause-rising
clear-requires-clause-rising g c = subst (λ (l : List ℕ). IsStrictlyIncreasing l) (sym c.deref.ensures.0) (numbers_rise c.self.inside c.args.self.now c.self.view_is c.self.invariant c.dirty_numbers-numbers.result.items c.dirty_numbers-numbers.ensures)

pub clear-requires-clause-low : goal.clear-requires-clause-low
clear-requires-clause-low g c = λ k there. numbers_low c.self.inside c.args.self.now c.self.view_is c.self.invariant c.dirty_numbers-numbers.result.items c.dirty_numbers-numbers.ensures k (subst (λ (l : List ℕ). Contains l k) c.deref.ensures.0 there)

pub clear-requires-clause-high : goal.clear-requires-clause-high
clear-requires-clause-high g c = λ k there. numbers_high c.self.inside c.args.self.now c.self.view_is c.self.invariant c.dirty_numbers-numbers.result.items c.dirty_numbers-numbers.ensures k (subst (λ (l : List ℕ). Contains l k) c.deref.ensures.0 there)

pub clear-requires-clause-held : goal.clear-requires-clause-held
clear-requires-clause-held g c = λ k there. numbers_held c.self.inside c.args.self.now c.self.view_is c.self.invariant c.dirty_numbers-numbers.result.items c.dirty_numbers-numbers.ensures k (subst (λ (l : List ℕ). Contains l k) c.deref.ensures.0 there)

pub seal_nodes-requires-clause-one_each : goal.seal_nodes-requires-clause-one_each
seal_nodes-requires-clause-one_each g c = c.requires.one_each ∙ sym (numbers_many c.self.inside c.args.self.now c.self.view_is c.self.invariant c.dirty_numbers-numbers.result.items c.dirty_numbers-numbers.ensures) ∙ ap length (sym c.deref-2.ensures.0)

pub seal_nodes-requires-clause-rising : goal.seal_nodes-requires-clause-rising
seal_nodes-requires-clause-rising g c = subst (λ (l : List ℕ). IsStrictlyIncreasing l) (sym c.deref-2.ensures.0) (numbers_rise c.self.inside c.args.self.now c.self.view_is c.self.invariant c.dirty_numbers-numbers.result.items c.dirty_numbers-numbers.ensures)

pub seal_nodes-requires-clause-low : goal.seal_nodes-requires-clause-low
seal_nodes-requires-clause-low g c = λ k there. numbers_low c.self.inside c.args.self.now c.self.view_is c.self.invariant c.dirty_numbers-numbers.result.items c.dirty_numbers-numbers.ensures k (subst (λ (l : List ℕ). Contains l k) c.deref-2.ensures.0 there)

pub seal_nodes-requires-clause-high : goal.seal_nodes-requires-clause-high
seal_nodes-requires-clause-high g c = λ k there. numbers_high c.self.inside c.args.self.now c.self.view_is c.self.invariant c.dirty_numbers-numbers.result.items c.dirty_numbers-numbers.ensures k (subst (λ (l : List ℕ). Contains l k) c.deref-2.ensures.0 there)

pub seal_nodes-requires-clause-held : goal.seal_nodes-requires-clause-held
seal_nodes-requires-clause-held g c = λ k there. c.clear.ensures.keeps.held k (numbers_held c.self.inside c.args.self.now c.self.view_is c.self.invariant c.dirty_numbers-numbers.result.items c.dirty_numbers-numbers.ensures k (subst (λ (l : List ℕ). Contains l k) c.deref-2.ensures.0 there))

pub seal_nodes-requires-clause-parents : goal.seal_nodes-requires-clause-parents
seal_nodes-requires-clause-parents g c = λ k there two. subst (λ (l : List ℕ). Contains l (parent_of k)) (sym c.deref-2.ensures.0) (numbers_parents c.self.inside c.args.self.now c.self.view_is c.self.invariant c.dirty_numbers-numbers.result.items c.dirty_numbers-numbers.ensures k (subst (λ (l : List ℕ). Contains l k) c.deref-2.ensures.0 there) two)

pub invariant_of-self : goal.invariant_of-self
invariant_of-self g c =
    well_put c.self.inside c.args.self.now c.self.view_is c.self.invariant c.dirty_numbers-numbers.result.items c.dirty_numbers-numbers.ensures c.seal_nodes.new.root c.seal_nodes.new.nodes
    (keeps_nodes_then c.self.inside.nodes c.clear.new.nodes c.seal_nodes.new.nodes c.clear.ensures.keeps c.seal_nodes.ensures.keeps)

pub returns-clause-rest : goal.returns-clause-rest
returns-clause-rest g c =
    shape c.self.inside c.args.self.now c.self.view_is c.self.invariant c.dirty_numbers-numbers.result.items c.dirty_numbers-numbers.ensures c.seal_nodes.new.root c.seal_nodes.new.nodes
    (keeps_nodes_then c.self.inside.nodes c.clear.new.nodes c.seal_nodes.new.nodes c.clear.ensures.keeps c.seal_nodes.ensures.keeps)

pub returns-clause-told : goal.returns-clause-told
returns-clause-told g c =
    let same : c.deref-2.result.now ≡ c.args.self.now.dirty = c.deref-2.ensures.0 ∙ numbers_is c.self.inside c.args.self.now c.self.view_is c.self.invariant c.dirty_numbers-numbers.result.items c.dirty_numbers-numbers.ensures in
    let new = state_of (record c.self.inside { root = c.seal_nodes.new.root; nodes = c.seal_nodes.new.nodes }) in
    subst (λ (l : List ℕ). PutTold c.seal_nodes.result c.args.name.now (held_at new) l c.args.keys.now (g.H.Host.state c.args.host.now) (g.H.Host.state c.seal_nodes.new.host)) same
    (subst (λ (f : ℕ → Option (List ℕ)). PutTold c.seal_nodes.result c.args.name.now f c.deref-2.result.now c.args.keys.now (g.H.Host.state c.args.host.now) (g.H.Host.state c.seal_nodes.new.host))
    (held_e c.self.inside c.args.self.now c.self.view_is c.self.invariant c.dirty_numbers-numbers.result.items c.dirty_numbers-numbers.ensures c.seal_nodes.new.root c.seal_nodes.new.nodes
    (keeps_nodes_then c.self.inside.nodes c.clear.new.nodes c.seal_nodes.new.nodes c.clear.ensures.keeps c.seal_nodes.ensures.keeps)) c.seal_nodes.ensures.told)

pub returns-clause-disk : goal.returns-clause-disk
returns-clause-disk g c =
    let same : c.deref-2.result.now ≡ c.args.self.now.dirty = c.deref-2.ensures.0 ∙ numbers_is c.self.inside c.args.self.now c.self.view_is c.self.invariant c.dirty_numbers-numbers.result.items c.dirty_numbers-numbers.ensures in
    let new = state_of (record c.self.inside { root = c.seal_nodes.new.root; nodes = c.seal_nodes.new.nodes }) in
    subst (λ (l : List ℕ). Both (g.H.Host.state c.args.host.now).honest (g.H.Host.state c.seal_nodes.new.host).honest (Ran (LeavesOutside c.args.name.now l) (PutEnds c.seal_nodes.result (SealedFile l c.args.keys.now (held_at new) l) c.args.name.now))) same
    (subst (λ (f : ℕ → Option (List ℕ)). Both (g.H.Host.state c.args.host.now).honest (g.H.Host.state c.seal_nodes.new.host).honest
    (Ran (LeavesOutside c.args.name.now c.deref-2.result.now) (PutEnds c.seal_nodes.result (SealedFile c.deref-2.result.now c.args.keys.now f c.deref-2.result.now) c.args.name.now)))
    (held_e c.self.inside c.args.self.now c.self.view_is c.self.invariant c.dirty_numbers-numbers.result.items c.dirty_numbers-numbers.ensures c.seal_nodes.new.root c.seal_nodes.new.nodes (keeps_nodes_then c.self.inside.nodes c.clear.new.nodes c.seal_nodes.new.nodes c.clear.ensures.keeps c.seal_nodes.ensures.keeps)) c.seal_nodes.ensures.disk)

pub returns-clause-sealed : goal.returns-clause-sealed
returns-clause-sealed g c = on_ok c.seal_nodes.result _ _ (λ put sheet next seals.
    tree_sealed c.self.inside c.args.self.now c.self.view_is c.self.invariant c.dirty_numbers-numbers.result.items c.dirty_numbers-numbers.ensures c.seal_nodes.new.root c.seal_nodes.new.nodes
    (keeps_nodes_then c.self.inside.nodes c.clear.new.nodes c.seal_nodes.new.nodes c.clear.ensures.keeps c.seal_nodes.ensures.keeps) c.args.keys.now c.clear.new.nodes
    (subst (λ (n : ℕ). AreCleared n c.dirty_numbers-numbers.result.items (plain_at c.self.inside.nodes) (plain_at c.clear.new.nodes)) c.node_count.ensures
    (subst (λ (l : List ℕ). AreCleared c.node_count.result l (plain_at c.self.inside.nodes) (plain_at c.clear.new.nodes)) c.deref.ensures.0 c.clear.ensures.cleared)) (search rules) (subst (λ (l : List ℕ). ArePut l c.args.keys.now (plain_at c.clear.new.nodes) (plain_at c.seal_nodes.new.nodes) c.self.inside.root c.seal_nodes.new.root) c.deref-2.ensures.0 put) sheet next seals) c.seal_nodes.ensures.put

pub returns-clause-seals : goal.returns-clause-seals
returns-clause-seals g c = λ sheet next seals.
    tree_seals c.self.inside c.args.self.now c.self.view_is c.self.invariant c.dirty_numbers-numbers.result.items c.dirty_numbers-numbers.ensures c.seal_nodes.new.root c.seal_nodes.new.nodes
    (keeps_nodes_then c.self.inside.nodes c.clear.new.nodes c.seal_nodes.new.nodes c.clear.ensures.keeps c.seal_nodes.ensures.keeps) c.args.keys.now c.clear.new.nodes
    (subst (λ (n : ℕ). AreCleared n c.dirty_numbers-numbers.result.items (plain_at c.self.inside.nodes) (plain_at c.clear.new.nodes)) c.node_count.ensures
    (subst (λ (l : List ℕ). AreCleared c.node_count.result l (plain_at c.self.inside.nodes) (plain_at c.clear.new.nodes)) c.deref.ensures.0 c.clear.ensures.cleared)) (search rules) c.seal_nodes.result c.args.name.now (g.H.Host.state c.args.host.now) (g.H.Host.state c.seal_nodes.new.host)
    (subst (λ (l : List ℕ). OnOk c.seal_nodes.result (ArePut l c.args.keys.now (plain_at c.clear.new.nodes) (plain_at c.seal_nodes.new.nodes) c.self.inside.root c.seal_nodes.new.root)) c.deref-2.ensures.0 c.seal_nodes.ensures.put)
    (subst (λ (l : List ℕ). Both (g.H.Host.state c.args.host.now).honest (g.H.Host.state c.seal_nodes.new.host).honest (Ran (LeavesOutside c.args.name.now l) (PutEnds c.seal_nodes.result (SealedFile l c.args.keys.now (plain_at c.seal_nodes.new.nodes) l) c.args.name.now))) c.deref-2.ensures.0 c.seal_nodes.ensures.disk)
    sheet next seals
