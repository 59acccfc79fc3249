use Rattle.std.proofs.Common.{◌≡◌, ◌⊎◌, inl, inr, ℕ, suc, List, Option, arith, ◌<◌, ◌≤◌, ◌-◌, length, drop, refl, subst, slice_index}
use Rattle.std.specs.Prelude.{Contains}
use Rattle.std.proofs.lemmas.Bool.{cases_eq}
use Rattle.std.proofs.lemmas.Result.{err_from_is_err_and}
use Rattle.pf_io.specs.Host.{Both, IsMore}
use Rattle.pf_io.specs.Moments.{Ran}
use Rattle.node_layout.specs.Places.{parent_of}
use Rattle.node_tree.specs.Opened.{IsAt, At}
use Rattle.node_tree.specs.Nodes.{plain_at}
use Rattle.node_tree.specs.Sealing.{ArePut, SealedFile, LeavesOutside, PutsAll, writes_of}
use Rattle.node_tree.proofs.Keyed.{in_list}
use Rattle.node_tree.proofs.Kept.{keeps_nodes, keeps_nodes_then}
use Rattle.node_tree.proofs.PutFrom.{ArePutFrom, held_still, put_from_none, put_one_more, put_stops_disk, put_stops_told, put_stops_counts, put_stops_cause, put_all_counts, put_all_calls}
use Rattle.node_tree.proofs.sealing.seal_nodes.Goals as goal

-- a number's parent is held
known_of : (f : ℕ → Option (List ℕ)) (numbers : List ℕ) (k : ℕ) → ((j : ℕ) → Contains numbers j → 1 ≤ j) → ((j : ℕ) → Contains numbers j → 2 ≤ j → Contains numbers (parent_of j)) → ((j : ℕ) → Contains numbers j → IsAt (At f) j) → Contains numbers k → (k ≡ 1) ⊎ ((2 ≤ k) × IsAt (At f) (parent_of k))
known_of f numbers k low parents held among =
    let one = low k among in
    elim (cases_eq k 1) [
      | inl is ↦ inl is
      | inr ne ↦ let two : 2 ≤ k = omega arith in inr (two, held (parent_of k) (parents k among two))
    ]

parent_at : (f : ℕ → Option (List ℕ)) (k : ℕ) → (k ≡ 1) ⊎ ((2 ≤ k) × IsAt (At f) (parent_of k)) → 2 ≤ k → IsAt (At f) (parent_of k)
parent_at f k (inl is) two = absurd (omega arith)
parent_at f k (inr known) two = known.1

pub loop-left-init : goal.loop-left-init
loop-left-init g c = record {
  put = put_from_none (length c.args.numbers.now) c.args.name.now c.args.numbers.now c.args.keys.now (plain_at c.args.nodes.now) c.args.root.now (g.H.Host.state c.args.host.now) refl c.requires.one_each;
  keeps = keeps_nodes c.args.nodes.now;
}

pub put_node-requires-clause-high : goal.put_node-requires-clause-high
put_node-requires-clause-high g c =
    let w = c.loop-left.invariant.put.within in
    let h = c.requires.high _ (in_list c.args.numbers.now (c.loop-left.left - 1) (omega arith)) in
    omega (arith, h)

pub put_node-requires-clause-held : goal.put_node-requires-clause-held
put_node-requires-clause-held g c =
    let j = c.loop-left.left - 1 in
    let up : c.loop-left.left ≡ suc j = omega arith in
    let w = c.loop-left.invariant.put.within in
    let lt : j < length c.args.numbers.now = omega arith in
    let k = slice_index c.args.numbers.now j in
    let among : Contains c.args.numbers.now k = in_list c.args.numbers.now j lt in
    let before = g.H.Host.state c.args.host.now in
    let between = g.H.Host.state c.loop-left.host in
    let held : (i : ℕ) → Contains c.args.numbers.now i → IsAt (At (plain_at c.loop-left.nodes)) i =
    λ i there. held_still (drop c.loop-left.left c.args.numbers.now) (drop c.loop-left.left c.args.keys.now) (plain_at c.args.nodes.now) (plain_at c.loop-left.nodes) c.args.root.now c.loop-left.root i c.loop-left.invariant.put.put (c.requires.held i there) in
    let so_far = subst (λ (n : ℕ). ArePutFrom n c.args.name.now c.args.numbers.now c.args.keys.now (plain_at c.args.nodes.now) (plain_at c.loop-left.nodes) c.args.root.now c.loop-left.root before between) up c.loop-left.invariant.put in
    let known = known_of (plain_at c.loop-left.nodes) c.args.numbers.now k c.requires.low c.requires.parents held among in
    held k among

pub put_node-requires-clause-known : goal.put_node-requires-clause-known
put_node-requires-clause-known g c =
    let j = c.loop-left.left - 1 in
    let up : c.loop-left.left ≡ suc j = omega arith in
    let w = c.loop-left.invariant.put.within in
    let lt : j < length c.args.numbers.now = omega arith in
    let k = slice_index c.args.numbers.now j in
    let among : Contains c.args.numbers.now k = in_list c.args.numbers.now j lt in
    let before = g.H.Host.state c.args.host.now in
    let between = g.H.Host.state c.loop-left.host in
    let held : (i : ℕ) → Contains c.args.numbers.now i → IsAt (At (plain_at c.loop-left.nodes)) i =
    λ i there. held_still (drop c.loop-left.left c.args.numbers.now) (drop c.loop-left.left c.args.keys.now) (plain_at c.args.nodes.now) (plain_at c.loop-left.nodes) c.args.root.now c.loop-left.root i c.loop-left.invariant.put.put (c.requires.held i there) in
    let so_far = subst (λ (n : ℕ). ArePutFrom n c.args.name.now c.args.numbers.now c.args.keys.now (plain_at c.args.nodes.now) (plain_at c.loop-left.nodes) c.args.root.now c.loop-left.root before between) up c.loop-left.invariant.put in
    let known = known_of (plain_at c.loop-left.nodes) c.args.numbers.now k c.requires.low c.requires.parents held among in
    known

pub loop-left-preserved : goal.loop-left-preserved
loop-left-preserved g c =
    let j = c.loop-left.left - 1 in
    let up : c.loop-left.left ≡ suc j = omega arith in
    let w = c.loop-left.invariant.put.within in
    let lt : j < length c.args.numbers.now = omega arith in
    let k = slice_index c.args.numbers.now j in
    let among : Contains c.args.numbers.now k = in_list c.args.numbers.now j lt in
    let before = g.H.Host.state c.args.host.now in
    let between = g.H.Host.state c.loop-left.host in
    let held : (i : ℕ) → Contains c.args.numbers.now i → IsAt (At (plain_at c.loop-left.nodes)) i =
    λ i there. held_still (drop c.loop-left.left c.args.numbers.now) (drop c.loop-left.left c.args.keys.now) (plain_at c.args.nodes.now) (plain_at c.loop-left.nodes) c.args.root.now c.loop-left.root i c.loop-left.invariant.put.put (c.requires.held i there) in
    let so_far = subst (λ (n : ℕ). ArePutFrom n c.args.name.now c.args.numbers.now c.args.keys.now (plain_at c.args.nodes.now) (plain_at c.loop-left.nodes) c.args.root.now c.loop-left.root before between) up c.loop-left.invariant.put in
    let known = known_of (plain_at c.loop-left.nodes) c.args.numbers.now k c.requires.low c.requires.parents held among in
    record {
      put = put_one_more j c.args.name.now c.args.numbers.now c.args.keys.now (plain_at c.args.nodes.now) (plain_at c.loop-left.nodes) (plain_at c.put_node.new.nodes) c.args.root.now c.loop-left.root c.put_node.new.root
          before between (g.H.Host.state c.put_node.new.host) lt c.requires.one_each c.requires.rising (c.requires.low k among) (held k among) (parent_at (plain_at c.loop-left.nodes) k known) so_far c.put_node.ensures.counts c.put_node.ensures.put c.put_node.ensures.whole _ _ tt
          c.in_ok-put_node.ensures.cause.still c.in_ok-put_node.ensures.told c.in_ok-put_node.ensures.disk;
      keeps = keeps_nodes_then c.args.nodes.now c.loop-left.nodes c.put_node.new.nodes c.loop-left.invariant.keeps c.put_node.ensures.keeps;
    }

pub returns-in_err-put_node-clause-cause : goal.returns-in_err-put_node-clause-cause
returns-in_err-put_node-clause-cause g c =
    let p = err_from_is_err_and c.from_residual.result c.from_residual.ensures.1 in
    rw p.1 (put_stops_cause _ (g.H.Host.state c.args.host.now) (g.H.Host.state c.loop-left.host) (g.H.Host.state c.put_node.new.host) c.loop-left.invariant.put.still c.in_err-put_node.ensures.cause)

pub returns-in_err-put_node-clause-counts : goal.returns-in_err-put_node-clause-counts
returns-in_err-put_node-clause-counts g c =
    let j = c.loop-left.left - 1 in
    let up : c.loop-left.left ≡ suc j = omega arith in
    let w = c.loop-left.invariant.put.within in
    let lt : j < length c.args.numbers.now = omega arith in
    let k = slice_index c.args.numbers.now j in
    let among : Contains c.args.numbers.now k = in_list c.args.numbers.now j lt in
    let before = g.H.Host.state c.args.host.now in
    let between = g.H.Host.state c.loop-left.host in
    let held : (i : ℕ) → Contains c.args.numbers.now i → IsAt (At (plain_at c.loop-left.nodes)) i =
    λ i there. held_still (drop c.loop-left.left c.args.numbers.now) (drop c.loop-left.left c.args.keys.now) (plain_at c.args.nodes.now) (plain_at c.loop-left.nodes) c.args.root.now c.loop-left.root i c.loop-left.invariant.put.put (c.requires.held i there) in
    let so_far = subst (λ (n : ℕ). ArePutFrom n c.args.name.now c.args.numbers.now c.args.keys.now (plain_at c.args.nodes.now) (plain_at c.loop-left.nodes) c.args.root.now c.loop-left.root before between) up c.loop-left.invariant.put in
    let known = known_of (plain_at c.loop-left.nodes) c.args.numbers.now k c.requires.low c.requires.parents held among in
    put_stops_counts j c.args.name.now c.args.numbers.now c.args.keys.now (plain_at c.args.nodes.now) (plain_at c.loop-left.nodes) (plain_at c.put_node.new.nodes) c.args.root.now c.loop-left.root c.put_node.new.root
    before between (g.H.Host.state c.put_node.new.host) lt c.requires.one_each c.requires.rising (c.requires.low k among) (held k among) (parent_at (plain_at c.loop-left.nodes) k known) so_far c.put_node.ensures.counts c.put_node.ensures.put c.put_node.ensures.whole

pub returns-in_err-put_node-clause-keeps : goal.returns-in_err-put_node-clause-keeps
returns-in_err-put_node-clause-keeps g c = keeps_nodes_then c.args.nodes.now c.loop-left.nodes c.put_node.new.nodes c.loop-left.invariant.keeps c.put_node.ensures.keeps

pub returns-in_err-put_node-clause-told : goal.returns-in_err-put_node-clause-told
returns-in_err-put_node-clause-told g c =
    let p = err_from_is_err_and c.from_residual.result c.from_residual.ensures.1 in
    let j = c.loop-left.left - 1 in
    let up : c.loop-left.left ≡ suc j = omega arith in
    let w = c.loop-left.invariant.put.within in
    let lt : j < length c.args.numbers.now = omega arith in
    let k = slice_index c.args.numbers.now j in
    let among : Contains c.args.numbers.now k = in_list c.args.numbers.now j lt in
    let before = g.H.Host.state c.args.host.now in
    let between = g.H.Host.state c.loop-left.host in
    let held : (i : ℕ) → Contains c.args.numbers.now i → IsAt (At (plain_at c.loop-left.nodes)) i =
    λ i there. held_still (drop c.loop-left.left c.args.numbers.now) (drop c.loop-left.left c.args.keys.now) (plain_at c.args.nodes.now) (plain_at c.loop-left.nodes) c.args.root.now c.loop-left.root i c.loop-left.invariant.put.put (c.requires.held i there) in
    let so_far = subst (λ (n : ℕ). ArePutFrom n c.args.name.now c.args.numbers.now c.args.keys.now (plain_at c.args.nodes.now) (plain_at c.loop-left.nodes) c.args.root.now c.loop-left.root before between) up c.loop-left.invariant.put in
    let known = known_of (plain_at c.loop-left.nodes) c.args.numbers.now k c.requires.low c.requires.parents held among in
    rw p.1 (put_stops_told j c.args.name.now c.args.numbers.now c.args.keys.now (plain_at c.args.nodes.now) (plain_at c.loop-left.nodes) (plain_at c.put_node.new.nodes) c.args.root.now c.loop-left.root c.put_node.new.root
    before between (g.H.Host.state c.put_node.new.host) lt c.requires.one_each c.requires.rising (c.requires.low k among) (held k among) (parent_at (plain_at c.loop-left.nodes) k known) so_far c.put_node.ensures.counts c.put_node.ensures.put c.put_node.ensures.whole
    (c.in_err-put_node.ensures.told (held k among).0 (held k among).1))

pub returns-in_err-put_node-clause-disk : goal.returns-in_err-put_node-clause-disk
returns-in_err-put_node-clause-disk g c =
    let p = err_from_is_err_and c.from_residual.result c.from_residual.ensures.1 in
    let j = c.loop-left.left - 1 in
    let up : c.loop-left.left ≡ suc j = omega arith in
    let w = c.loop-left.invariant.put.within in
    let lt : j < length c.args.numbers.now = omega arith in
    let k = slice_index c.args.numbers.now j in
    let among : Contains c.args.numbers.now k = in_list c.args.numbers.now j lt in
    let before = g.H.Host.state c.args.host.now in
    let between = g.H.Host.state c.loop-left.host in
    let held : (i : ℕ) → Contains c.args.numbers.now i → IsAt (At (plain_at c.loop-left.nodes)) i =
    λ i there. held_still (drop c.loop-left.left c.args.numbers.now) (drop c.loop-left.left c.args.keys.now) (plain_at c.args.nodes.now) (plain_at c.loop-left.nodes) c.args.root.now c.loop-left.root i c.loop-left.invariant.put.put (c.requires.held i there) in
    let so_far = subst (λ (n : ℕ). ArePutFrom n c.args.name.now c.args.numbers.now c.args.keys.now (plain_at c.args.nodes.now) (plain_at c.loop-left.nodes) c.args.root.now c.loop-left.root before between) up c.loop-left.invariant.put in
    let known = known_of (plain_at c.loop-left.nodes) c.args.numbers.now k c.requires.low c.requires.parents held among in
    rw p.1 (put_stops_disk j c.args.name.now c.args.numbers.now c.args.keys.now (plain_at c.args.nodes.now) (plain_at c.loop-left.nodes) (plain_at c.put_node.new.nodes) c.args.root.now c.loop-left.root c.put_node.new.root
    before between (g.H.Host.state c.put_node.new.host) lt c.requires.one_each c.requires.rising (c.requires.low k among) (held k among) (parent_at (plain_at c.loop-left.nodes) k known) so_far c.put_node.ensures.counts c.put_node.ensures.put c.put_node.ensures.whole _ c.in_err-put_node.ensures.disk)

pub returns-clause-counts : goal.returns-clause-counts
returns-clause-counts g c =
    put_all_counts c.args.name.now c.args.numbers.now c.args.keys.now (plain_at c.args.nodes.now) (plain_at c.loop-left.nodes) c.args.root.now c.loop-left.root (g.H.Host.state c.args.host.now) (g.H.Host.state c.loop-left.host) c.loop-left.left c.requires.one_each c.loop-left.invariant.put

pub returns-clause-calls : goal.returns-clause-calls
returns-clause-calls g c =
    let none : c.loop-left.left ≡ 0 = omega arith in
    put_all_calls c.args.name.now c.args.numbers.now c.args.keys.now (plain_at c.args.nodes.now) (plain_at c.loop-left.nodes) c.args.root.now c.loop-left.root (g.H.Host.state c.args.host.now) (g.H.Host.state c.loop-left.host) c.loop-left.left none c.requires.one_each c.loop-left.invariant.put

pub returns-clause-put : goal.returns-clause-put
returns-clause-put g c =
    let none : c.loop-left.left ≡ 0 = omega arith in
    subst (λ (n : ℕ). ArePut (drop n c.args.numbers.now) (drop n c.args.keys.now) (plain_at c.args.nodes.now) (plain_at c.loop-left.nodes) c.args.root.now c.loop-left.root) none c.loop-left.invariant.put.put

pub returns-clause-told : goal.returns-clause-told
returns-clause-told g c =
    let none : c.loop-left.left ≡ 0 = omega arith in
    subst (λ (n : ℕ). Both (g.H.Host.state c.args.host.now).given (g.H.Host.state c.loop-left.host).given (IsMore (writes_of c.args.name.now (plain_at c.loop-left.nodes) (drop n c.args.numbers.now) (drop n c.args.keys.now)))) none c.loop-left.invariant.put.told

pub returns-clause-disk : goal.returns-clause-disk
returns-clause-disk g c =
    let none : c.loop-left.left ≡ 0 = omega arith in
    subst (λ (n : ℕ). Both (g.H.Host.state c.args.host.now).honest (g.H.Host.state c.loop-left.host).honest
    (Ran (LeavesOutside c.args.name.now c.args.numbers.now) (PutsAll (SealedFile (drop n c.args.numbers.now) (drop n c.args.keys.now) (plain_at c.loop-left.nodes) c.args.numbers.now) c.args.name.now))) none c.loop-left.invariant.put.disk
