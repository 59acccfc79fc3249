use Rattle.std.proofs.Common.{refl, ap, subst, List, ℕ, Some, None, false, Ok}
use Rattle.std.proofs.lemmas.Result.{err_from_is_err_and}
use Rattle.pf_io.proofs.Unchanged.{kept_once}
use Rattle.pf_session.specs.Asking.{NoCall, Asked}
use Rattle.pf_session.specs.Placing.{place_steps}
use Rattle.pf_session.specs.Creating.{AreNamed, LooksUp, look_up_failed, was_there, no_words, create_stopped, created}
use Rattle.pf_session.specs.declared.fault.CreateFault.TheVariants as faults
use Rattle.pf_session.proofs.Questions.{length_asked, length_failed}
use Rattle.pf_session.proofs.Created.{err_is, some_there, none_there, aside_none, aside_kept, aside_placed, aside_stopped, empty_fresh, creates_done, create_stops, node_is, session_is}
use Rattle.pf_session.proofs.session.Session.create.Goals as goal

pub returns-in_err-recovery-clause-aside : goal.returns-in_err-recovery-clause-aside
returns-in_err-recovery-clause-aside g c = aside_none c.args.name.now (g.H.Host.state c.args.host.now)

pub returns-in_err-session-clause-aside : goal.returns-in_err-session-clause-aside
returns-in_err-session-clause-aside g c = aside_none c.args.name.now (g.H.Host.state c.args.host.now)

pub returns-in_err-len-clause-goes : goal.returns-in_err-len-clause-goes
returns-in_err-len-clause-goes g c =
    let p = err_from_is_err_and c.from_residual-in_err-len.result c.from_residual-in_err-len.ensures.1 in
    let s0 = g.H.Host.state c.args.host.now in
    let s1 = g.H.Host.state c.len.new.self in
    look_up_failed (c.in-Some.ensures.named.0 refl)
    (record { asked = length_failed c.args.name.now s0 s1 c.in_err-len.ensures.told c.in_err-len.ensures.cause.once c.len.ensures.files c.len.ensures.counts; disk = kept_once s0 s1 c.len.ensures.disk }) refl
    (err_is _ p.0 faults.Host p.1 p.2)

pub returns-in_err-len-clause-aside : goal.returns-in_err-len-clause-aside
returns-in_err-len-clause-aside g c = let s0 = g.H.Host.state c.args.host.now in let s1 = g.H.Host.state c.len.new.self in aside_kept c.args.name.now s0 s1 (kept_once s0 s1 c.len.ensures.disk)

pub returns-then-is_some-clause-goes : goal.returns-then-is_some-clause-goes
returns-then-is_some-clause-goes g c =
    let s0 = g.H.Host.state c.args.host.now in
    let s1 = g.H.Host.state c.len.new.self in
    let there = some_there c.in_ok-len.field-0 c.is_some.result c.is_some.ensures c.if-is_some.true in
    was_there there.0 (c.in-Some.ensures.named.0 refl)
    (record {
      asked = length_asked c.args.name.now s0 s1 c.in_ok-len.field-0 (Some there.0) there.1 c.in_ok-len.ensures.told c.in_ok-len.ensures.cause.still c.len.ensures.counts c.len.ensures.files c.in_ok-len.ensures.honest;
      disk = kept_once s0 s1 c.len.ensures.disk;
    }) refl refl

pub returns-then-is_some-clause-aside : goal.returns-then-is_some-clause-aside
returns-then-is_some-clause-aside g c = let s0 = g.H.Host.state c.args.host.now in let s1 = g.H.Host.state c.len.new.self in aside_kept c.args.name.now s0 s1 (kept_once s0 s1 c.len.ensures.disk)

pub returns-in_err-nonce-clause-goes : goal.returns-in_err-nonce-clause-goes
returns-in_err-nonce-clause-goes g c =
    let p = err_from_is_err_and c.from_residual-in_err-nonce.result c.from_residual-in_err-nonce.ensures.1 in
    let s0 = g.H.Host.state c.args.host.now in
    let s1 = g.H.Host.state c.len.new.self in
    let none = none_there c.in_ok-len.field-0 c.is_some.result c.is_some.ensures c.if-is_some.false in
    no_words (c.in-Some.ensures.named.0 refl)
    (record {
      asked = length_asked c.args.name.now s0 s1 c.in_ok-len.field-0 None none c.in_ok-len.ensures.told c.in_ok-len.ensures.cause.still c.len.ensures.counts c.len.ensures.files c.in_ok-len.ensures.honest;
      disk = kept_once s0 s1 c.len.ensures.disk;
    }) c.in_err-nonce.ensures.failed (err_is _ p.0 faults.Words p.1 p.2)

pub returns-in_err-nonce-clause-aside : goal.returns-in_err-nonce-clause-aside
returns-in_err-nonce-clause-aside g c = let s0 = g.H.Host.state c.args.host.now in let s1 = g.H.Host.state c.len.new.self in aside_kept c.args.name.now s0 s1 (kept_once s0 s1 c.len.ensures.disk)

pub returns-in_err-place-clause-goes : goal.returns-in_err-place-clause-goes
returns-in_err-place-clause-goes g c =
    let p = err_from_is_err_and c.from_residual-in_err-place.result c.from_residual-in_err-place.ensures.1 in
    let s0 = g.H.Host.state c.args.host.now in
    let s1 = g.H.Host.state c.len.new.self in
    let s2 = g.H.Host.state c.place.new.host in
    let key = c.args.key.now in
    let name = c.args.name.now in
    let path = c.args.path.now in
    let nonce = c.in_ok-nonce.nonce in
    let named : AreNamed name path = c.in-Some.ensures.named.0 refl in
    let drawn = c.in_ok-nonce.ensures.drawn in
    let none = none_there c.in_ok-len.field-0 c.is_some.result c.is_some.ensures c.if-is_some.false in
    let looks : LooksUp name None s0 s1 = record {
      asked = length_asked name s0 s1 c.in_ok-len.field-0 None none c.in_ok-len.ensures.told c.in_ok-len.ensures.cause.still c.len.ensures.counts c.len.ensures.files c.in_ok-len.ensures.honest;
      disk = kept_once s0 s1 c.len.ensures.disk;
    } in
    let node = node_is c.in_ok-session.session c.seal_empty-node.new.self key name c.in-Some.path path _ nonce false c.in_ok-session.ensures c.in-Some.ensures.same c.seal_empty-node.result c.seal_empty-node.ensures.node in
    create_stopped nonce s1 named looks drawn (create_stops path nonce named.path_is drawn.long key name c.seal_empty-node.result node s0 s1 s2 looks c.in_err-place.ensures) (err_is _ p.0 faults.Host p.1 p.2)

pub returns-in_err-place-clause-aside : goal.returns-in_err-place-clause-aside
returns-in_err-place-clause-aside g c =
    let s0 = g.H.Host.state c.args.host.now in
    let s1 = g.H.Host.state c.len.new.self in
    let s2 = g.H.Host.state c.place.new.host in
    aside_stopped c.args.name.now c.seal_empty-node.result s0 s1 s2 (kept_once s0 s1 c.len.ensures.disk) c.in_err-place.ensures.disk

pub returns-clause-goes : goal.returns-clause-goes
returns-clause-goes g c =
    let s0 = g.H.Host.state c.args.host.now in
    let s1 = g.H.Host.state c.len.new.self in
    let s2 = g.H.Host.state c.place.new.host in
    let key = c.args.key.now in
    let name = c.args.name.now in
    let path = c.args.path.now in
    let nonce = c.in_ok-nonce.nonce in
    let named : AreNamed name path = c.in-Some.ensures.named.0 refl in
    let drawn = c.in_ok-nonce.ensures.drawn in
    let none = none_there c.in_ok-len.field-0 c.is_some.result c.is_some.ensures c.if-is_some.false in
    let looks : LooksUp name None s0 s1 = record {
      asked = length_asked name s0 s1 c.in_ok-len.field-0 None none c.in_ok-len.ensures.told c.in_ok-len.ensures.cause.still c.len.ensures.counts c.len.ensures.files c.in_ok-len.ensures.honest;
      disk = kept_once s0 s1 c.len.ensures.disk;
    } in
    let node = node_is c.in_ok-session.session c.seal_empty-node.new.self key name c.in-Some.path path _ nonce false c.in_ok-session.ensures c.in-Some.ensures.same c.seal_empty-node.result c.seal_empty-node.ensures.node in
    created nonce s1 named looks drawn (subst (λ (file : List ℕ). Asked (place_steps name file) NoCall s1 s2) node c.in_ok-place.ensures.asked)
    (creates_done path nonce named.path_is drawn.long key name c.seal_empty-node.result node s0 s1 s2 looks c.in_ok-place.ensures) (empty_fresh path nonce named.path_is drawn.long key name false)
    (ap (λ s. Ok s) (session_is c.in_ok-session.session c.seal_empty-node.new.self key name c.in-Some.path path _ nonce false c.in_ok-session.ensures c.in-Some.ensures.same c.seal_empty-node.ensures.state))

pub returns-clause-aside : goal.returns-clause-aside
returns-clause-aside g c =
    let s0 = g.H.Host.state c.args.host.now in
    let s1 = g.H.Host.state c.len.new.self in
    let s2 = g.H.Host.state c.place.new.host in
    aside_placed c.args.name.now c.seal_empty-node.result s0 s1 s2 (kept_once s0 s1 c.len.ensures.disk) c.in_ok-place.ensures.disk
