use Rattle.std.proofs.Common.{◌≡◌, inl, inr, ℕ, ◌*◌, List, [], ◌∷◌, None, Err, take, length, refl, ap, ◌∙◌, sym, arith, subst}
use Rattle.std.proofs.lemmas.Bool.{false≢true}
use Rattle.std.proofs.lemmas.List.{length-take-le, take_all}
use Rattle.aes_gcm.specs.Gcm.{opens}
use Rattle.std.proofs.lemmas.Result.{err_from_is_err_and}
use Rattle.pf_io.specs.Host.{Name, Gave, HostState, Both, IsMore, KeepsFiles, OnHonest, ReadsFrom, KeepsRest, contents, CountsRead}
use Rattle.pf_io.specs.Answered.{Answered}
use Rattle.node_tree.specs.Fetching.{Asking, node_answer}
use Rattle.node_tree.specs.declared.fault.TreeFault.{TreeFault}
use Rattle.pf_io.proofs.Answering.{answered_bytes}
use Rattle.node_tree.proofs.Absent.{none_of}
use Rattle.node_tree.proofs.Asking.{asking_once, asking_failed}
use Rattle.node_tree.proofs.nodes.open_node.Goals as goal

-- the answer to a read of a node
answered_node : (name : Name) (k given : ℕ) (before block : List ℕ) (old new : HostState) → length before ≡ 4096 → KeepsRest given before block
    → Both old.given new.given (IsMore (Gave name (4096 * k) (length before) (take given block) ∷ [])) → KeepsFiles old new
    → OnHonest old (λ files. ReadsFrom (4096 * k) given block (contents (files name))) → Answered (node_answer name k (take given block)) old new
answered_node name k given before block old new long rest told =
    answered_bytes name (4096 * k) given 4096 before block old new rest long (subst (λ (n : ℕ). Both old.given new.given (IsMore (Gave name (4096 * k) n (take given block) ∷ []))) long told)

pub returns-in_err-given-clause-asking : goal.returns-in_err-given-clause-asking
returns-in_err-given-clause-asking g c =
    let p = err_from_is_err_and c.from_residual.result c.from_residual.ensures.1 in
    let e = c.in_err-given.ensures in
    let old = g.H.Host.state c.args.host.now in
    let new = g.H.Host.state c.read_at.new.self in
    rw p.1 (subst (λ (x : TreeFault). Asking {T = Unit {0}} (Err x) 1 old new) (sym p.2) (asking_failed old new e.cause.later e.cause.once (subst (λ (n : ℕ). CountsRead n old new) c.told-block e.counts) e.disk))

pub returns-then-given-lt4096-clause-asking : goal.returns-then-given-lt4096-clause-asking
returns-then-given-lt4096-clause-asking g c =
    let old = g.H.Host.state c.args.host.now in
    let new = g.H.Host.state c.read_at.new.self in
    let e = c.in_ok-given.ensures in
    rw c.damaged.ensures (asking_once _ old new refl e.cause.still (subst (λ (n : ℕ). CountsRead n old new) c.told-block e.counts) e.disk)

pub returns-then-not-open_in_place-clause-asking : goal.returns-then-not-open_in_place-clause-asking
returns-then-not-open_in_place-clause-asking g c =
    let old = g.H.Host.state c.args.host.now in
    let new = g.H.Host.state c.read_at.new.self in
    let e = c.in_ok-given.ensures in
    rw c.damaged-then-not-open_in_place.ensures (asking_once _ old new refl e.cause.still (subst (λ (n : ℕ). CountsRead n old new) c.told-block e.counts) e.disk)

pub returns-clause-asking : goal.returns-clause-asking
returns-clause-asking g c =
    let old = g.H.Host.state c.args.host.now in
    let new = g.H.Host.state c.read_at.new.self in
    let e = c.in_ok-given.ensures in
    asking_once _ old new refl e.cause.still (subst (λ (n : ℕ). CountsRead n old new) c.told-block e.counts) e.disk

pub returns-then-given-lt4096-clause-ends : goal.returns-then-given-lt4096-clause-ends
returns-then-given-lt4096-clause-ends g c =
    let old = g.H.Host.state c.args.host.now in
    let new = g.H.Host.state c.read_at.new.self in
    let e = c.in_ok-given.ensures in
    let bytes = take c.in_ok-given.given c.read_at.new.to in
    let long : length bytes ≡ c.in_ok-given.given = length-take-le c.in_ok-given.given c.read_at.new.to (omega (arith, e.rest.within, e.rest.same_length, c.told-block)) in
    rw c.damaged.ensures (record {
      block = bytes;
      answered = answered_node c.args.name.now c.args.number c.in_ok-given.given _ _ old new c.told-block e.rest e.told e.files e.honest;
      node_is = refl;
      fails = inl (omega (arith, long), refl);
    })

pub returns-then-not-open_in_place-clause-ends : goal.returns-then-not-open_in_place-clause-ends
returns-then-not-open_in_place-clause-ends g c =
    let old = g.H.Host.state c.args.host.now in
    let new = g.H.Host.state c.read_at.new.self in
    let e = c.in_ok-given.ensures in
    let all : take c.in_ok-given.given c.read_at.new.to ≡ c.read_at.new.to = take_all _ _ (omega (arith, e.rest.within, e.rest.same_length, c.told-block)) in
    let read = answered_node c.args.name.now c.args.number c.in_ok-given.given _ _ old new c.told-block e.rest e.told e.files e.honest in
    let refused : opens c.new.result [] c.read_at.new.to c.args.tag.now ≡ None = none_of _ (λ some. false≢true (sym c.if-not-open_in_place.true ∙ c.open_in_place.ensures.opened.1 some)) in
    rw c.damaged-then-not-open_in_place.ensures (record {
      block = c.read_at.new.to;
      answered = subst (λ (b : List ℕ). Answered (node_answer c.args.name.now c.args.number b) old new) all read;
      node_is = refl;
      fails = inr (record { whole = omega (arith, e.rest.same_length, c.told-block); refused = ap (λ (k : List ℕ). opens k [] c.read_at.new.to c.args.tag.now) (sym c.new.ensures) ∙ refused }, refl);
    })

pub returns-clause-ends : goal.returns-clause-ends
returns-clause-ends g c =
    let old = g.H.Host.state c.args.host.now in
    let new = g.H.Host.state c.read_at.new.self in
    let e = c.in_ok-given.ensures in
    let all : take c.in_ok-given.given c.read_at.new.to ≡ c.read_at.new.to = take_all _ _ (omega (arith, e.rest.within, e.rest.same_length, c.told-block)) in
    let read = answered_node c.args.name.now c.args.number c.in_ok-given.given _ _ old new c.told-block e.rest e.told e.files e.honest in
    record {
      block = c.read_at.new.to;
      answered = subst (λ (b : List ℕ). Answered (node_answer c.args.name.now c.args.number b) old new) all read;
      opens_to = record { whole = omega (arith, e.rest.same_length, c.told-block); opened = ap (λ (k : List ℕ). opens k [] c.read_at.new.to c.args.tag.now) (sym c.new.ensures) ∙ c.open_in_place.ensures.plain c.if-not-open_in_place.false };
    }
