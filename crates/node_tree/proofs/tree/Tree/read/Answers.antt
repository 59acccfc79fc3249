use Rattle.std.proofs.Common.{◌≡◌, ◌++◌, ◌+◌, ◌<◌, ◌≤◌, ◌^◌, ℕ, List, Ok, Err, length, take, drop, All, arith, ap, sym, ◌∙◌, subst, refl}
use Rattle.std.proofs.lemmas.List.{length-take-le}
use Rattle.std.proofs.lemmas.Result.{err_from_is_err_and}
use Rattle.node_tree.specs.Content.{bytes_of}
use Rattle.node_tree.specs.Touched.{AreTouched}
use Rattle.node_tree.specs.Nodes.{Keeps, plain_at, kept_plain}
use Rattle.node_tree.specs.State.{TreeState, readable}
use Rattle.node_tree.specs.Fetching.{Fetches}
use Rattle.node_tree.specs.Inside.{state_of}
use Rattle.node_tree.specs.declared.fault.TreeFault.{TreeFault}
use Rattle.node_tree.proofs.Rooted.{rooted, all_small}
use Rattle.node_tree.proofs.OfTree.{tree_fails, tree_ok, tree_few, tree_none, front_of, data_held, kept_fields, well_then, damage_comes}
use Rattle.node_tree.proofs.Unforging.{backed_read}
use Rattle.node_tree.proofs.OfFile.{honest_read}
use Rattle.node_tree.proofs.Undamaged.{standing_read}
use Rattle.node_tree.proofs.tree.Tree.read.Goals as goal

pub returns-then-count-eq0-clause-reads : goal.returns-then-count-eq0-clause-reads
returns-then-count-eq0-clause-reads g c =
    tree_none c.args.name.now c.args.at c.args.self.now (g.H.Host.state c.args.host.now) c.args.to.now c.readable-count.result c.if-count-eq0.true
    (c.readable-count.ensures ∙ ap (λ (s : TreeState). readable s c.args.at (length c.args.to.now)) c.self.view_is)

pub returns-then-count-eq0-clause-backed : goal.returns-then-count-eq0-clause-backed
returns-then-count-eq0-clause-backed g c =
    backed_read _ c.args.name.now c.args.at c.args.to.now c.args.self.now c.args.self.now (g.H.Host.state c.args.host.now) (g.H.Host.state c.args.host.now) (returns-then-count-eq0-clause-reads g c)

pub returns-then-count-eq0-clause-honest : goal.returns-then-count-eq0-clause-honest
returns-then-count-eq0-clause-honest g c =
    honest_read _ c.args.name.now c.args.at c.args.to.now c.args.self.now c.args.self.now (g.H.Host.state c.args.host.now) (g.H.Host.state c.args.host.now) (returns-then-count-eq0-clause-reads g c)

pub returns-then-count-eq0-clause-standing : goal.returns-then-count-eq0-clause-standing
returns-then-count-eq0-clause-standing g c =
    standing_read _ c.args.name.now c.args.at c.args.to.now c.args.self.now c.args.self.now (g.H.Host.state c.args.host.now) (g.H.Host.state c.args.host.now) (returns-then-count-eq0-clause-reads g c)

pub fetch_all-requires-clause-high : goal.fetch_all-requires-clause-high
fetch_all-requires-clause-high g c =
    let le : c.args.at + c.readable-count.result ≤ 2 ^ 40 = omega (arith, c.readable-count.ensures, c.self.invariant.sound.small) in
    subst (λ (l : List ℕ). All (λ k. k < 2 ^ 30) l) (sym c.deref.ensures.0) (all_small c.args.at (c.args.at + c.readable-count.result) c.touched-numbers.result.items le c.touched-numbers.ensures)

pub fetch_all-requires-clause-rooted : goal.fetch_all-requires-clause-rooted
fetch_all-requires-clause-rooted g c =
    rooted c.args.at (c.args.at + c.readable-count.result) c.deref.result.now (subst (λ (l : List ℕ). AreTouched c.args.at (c.args.at + c.readable-count.result) l) (sym c.deref.ensures.0) c.touched-numbers.ensures)

pub returns-in_err-fetch_all-clause-reads : goal.returns-in_err-fetch_all-clause-reads
returns-in_err-fetch_all-clause-reads g c =
    let p = err_from_is_err_and c.from_residual.result c.from_residual.ensures.1 in
    let before = g.H.Host.state c.args.host.now in
    let after = g.H.Host.state c.fetch_all.new.host in
    let touched = subst (λ (l : List ℕ). AreTouched c.args.at (c.args.at + c.readable-count.result) l) (sym c.deref.ensures.0) c.touched-numbers.ensures in
    tree_fails c.args.name.now c.args.at c.self.inside c.fetch_all.new.nodes c.args.self.now c.self.view_is before after c.deref.result.now c.readable-count.result (length c.args.to.now) c.readable-count.ensures touched (kept_fields c.self.inside c.fetch_all.new.nodes c.self.invariant c.in_err-fetch_all.ensures.marks)
    c.from_residual.result p.0 c.args.to.now p.1 refl
    (subst (λ (x : TreeFault). Fetches (Err x) c.args.name.now c.deref.result.now (plain_at c.self.inside.nodes) (plain_at c.fetch_all.new.nodes) c.self.inside.root before after) (sym p.2) c.in_err-fetch_all.ensures.fetches)

pub returns-in_err-fetch_all-clause-few : goal.returns-in_err-fetch_all-clause-few
returns-in_err-fetch_all-clause-few g c =
    let touched = subst (λ (l : List ℕ). AreTouched c.args.at (c.args.at + c.readable-count.result) l) (sym c.deref.ensures.0) c.touched-numbers.ensures in
    tree_few c.args.name.now c.args.at c.self.inside c.fetch_all.new.nodes c.args.self.now c.self.view_is (g.H.Host.state c.args.host.now) (g.H.Host.state c.fetch_all.new.host)
    c.deref.result.now c.readable-count.result (length c.args.to.now) c.readable-count.ensures touched (kept_fields c.self.inside c.fetch_all.new.nodes c.self.invariant c.in_err-fetch_all.ensures.marks) c.in_err-fetch_all.ensures.asking.counts

pub returns-in_err-fetch_all-clause-damage : goal.returns-in_err-fetch_all-clause-damage
returns-in_err-fetch_all-clause-damage g c =
    damage_comes _ c.args.name.now c.args.at c.args.to.now c.args.self.now (state_of (record c.self.inside { nodes = c.fetch_all.new.nodes })) (g.H.Host.state c.args.host.now) (g.H.Host.state c.fetch_all.new.host)
    (returns-in_err-fetch_all-clause-reads g c)

pub returns-in_err-fetch_all-clause-backed : goal.returns-in_err-fetch_all-clause-backed
returns-in_err-fetch_all-clause-backed g c =
    backed_read _ c.args.name.now c.args.at c.args.to.now c.args.self.now (state_of (record c.self.inside { nodes = c.fetch_all.new.nodes })) (g.H.Host.state c.args.host.now) (g.H.Host.state c.fetch_all.new.host)
    (returns-in_err-fetch_all-clause-reads g c)

pub returns-in_err-fetch_all-clause-honest : goal.returns-in_err-fetch_all-clause-honest
returns-in_err-fetch_all-clause-honest g c =
    honest_read _ c.args.name.now c.args.at c.args.to.now c.args.self.now (state_of (record c.self.inside { nodes = c.fetch_all.new.nodes })) (g.H.Host.state c.args.host.now) (g.H.Host.state c.fetch_all.new.host)
    (returns-in_err-fetch_all-clause-reads g c)

pub returns-in_err-fetch_all-clause-standing : goal.returns-in_err-fetch_all-clause-standing
returns-in_err-fetch_all-clause-standing g c =
    standing_read _ c.args.name.now c.args.at c.args.to.now c.args.self.now (state_of (record c.self.inside { nodes = c.fetch_all.new.nodes })) (g.H.Host.state c.args.host.now) (g.H.Host.state c.fetch_all.new.host)
    (returns-in_err-fetch_all-clause-reads g c)

pub copy_out-requires-clause-held : goal.copy_out-requires-clause-held
copy_out-requires-clause-held g c = λ d meets.
    let touched = subst (λ (l : List ℕ). AreTouched c.args.at (c.args.at + c.readable-count.result) l) (sym c.deref.ensures.0) c.touched-numbers.ensures in
    let short : c.readable-count.result ≤ length c.args.to.now = omega (arith, c.readable-count.ensures) in
    data_held c.args.at c.readable-count.result _ d c.deref.result.now (Keeps c.fetch_all.new.nodes) (length-take-le c.readable-count.result c.args.to.now short) touched c.in_ok-fetch_all.ensures.fetches.ends meets

pub returns-clause-reads : goal.returns-clause-reads
returns-clause-reads g c =
    let touched = subst (λ (l : List ℕ). AreTouched c.args.at (c.args.at + c.readable-count.result) l) (sym c.deref.ensures.0) c.touched-numbers.ensures in
    let short : c.readable-count.result ≤ length c.args.to.now = omega (arith, c.readable-count.ensures) in
    let front : length (take c.readable-count.result c.args.to.now) ≡ c.readable-count.result = length-take-le c.readable-count.result c.args.to.now short in
    let long : length c.copy_out.new.to ≡ c.readable-count.result = c.copy_out.auto.to ∙ front in
    let parts = front_of c.readable-count.result c.copy_out.new.to c.args.to.now long short in
    tree_ok c.args.name.now c.args.at c.self.inside c.fetch_all.new.nodes c.args.self.now c.self.view_is (g.H.Host.state c.args.host.now) (g.H.Host.state c.fetch_all.new.host)
    c.deref.result.now c.readable-count.result (length c.args.to.now) c.readable-count.ensures touched (kept_fields c.self.inside c.fetch_all.new.nodes c.self.invariant c.in_ok-fetch_all.ensures.marks) tt (c.copy_out.new.to ++ drop c.readable-count.result c.args.to.now) parts.1
    (parts.0 ∙ c.copy_out.ensures ∙ ap (λ (n : ℕ). bytes_of c.self.inside.first (kept_plain c.fetch_all.new.nodes) c.args.at n) front) c.in_ok-fetch_all.ensures.fetches

pub returns-clause-few : goal.returns-clause-few
returns-clause-few g c =
    let touched = subst (λ (l : List ℕ). AreTouched c.args.at (c.args.at + c.readable-count.result) l) (sym c.deref.ensures.0) c.touched-numbers.ensures in
    tree_few c.args.name.now c.args.at c.self.inside c.fetch_all.new.nodes c.args.self.now c.self.view_is (g.H.Host.state c.args.host.now) (g.H.Host.state c.fetch_all.new.host)
    c.deref.result.now c.readable-count.result (length c.args.to.now) c.readable-count.ensures touched (kept_fields c.self.inside c.fetch_all.new.nodes c.self.invariant c.in_ok-fetch_all.ensures.marks) c.in_ok-fetch_all.ensures.asking.counts

pub returns-clause-backed : goal.returns-clause-backed
returns-clause-backed g c =
    backed_read _ c.args.name.now c.args.at (c.copy_out.new.to ++ drop c.readable-count.result c.args.to.now) c.args.self.now (state_of (record c.self.inside { nodes = c.fetch_all.new.nodes })) (g.H.Host.state c.args.host.now) (g.H.Host.state c.fetch_all.new.host)
    (returns-clause-reads g c)

pub returns-clause-honest : goal.returns-clause-honest
returns-clause-honest g c =
    honest_read _ c.args.name.now c.args.at (c.copy_out.new.to ++ drop c.readable-count.result c.args.to.now) c.args.self.now (state_of (record c.self.inside { nodes = c.fetch_all.new.nodes })) (g.H.Host.state c.args.host.now) (g.H.Host.state c.fetch_all.new.host)
    (returns-clause-reads g c)

pub returns-clause-standing : goal.returns-clause-standing
returns-clause-standing g c =
    standing_read _ c.args.name.now c.args.at (c.copy_out.new.to ++ drop c.readable-count.result c.args.to.now) c.args.self.now (state_of (record c.self.inside { nodes = c.fetch_all.new.nodes })) (g.H.Host.state c.args.host.now) (g.H.Host.state c.fetch_all.new.host)
    (returns-clause-reads g c)

pub invariant_of-self : goal.invariant_of-self
invariant_of-self g c =
    well_then {T = Unit {0}} (Err c.in_err-fetch_all.field-0.0) c.args.name.now c.deref.result.now c.self.inside c.fetch_all.new.nodes (g.H.Host.state c.args.host.now) (g.H.Host.state c.fetch_all.new.host) c.self.invariant c.in_err-fetch_all.ensures.marks
    c.in_err-fetch_all.ensures.fetches

pub invariant_of-self-2 : goal.invariant_of-self-2
invariant_of-self-2 g c =
    well_then {T = Unit {0}} (Ok tt) c.args.name.now c.deref.result.now c.self.inside c.fetch_all.new.nodes (g.H.Host.state c.args.host.now) (g.H.Host.state c.fetch_all.new.host) c.self.invariant c.in_ok-fetch_all.ensures.marks
    c.in_ok-fetch_all.ensures.fetches
