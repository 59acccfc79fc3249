use Rattle.std.proofs.lemmas.Result.{err_from_is_err_and}
use Rattle.pf_session.proofs.Placing.{unsynced, not_made, ready, ready_asked, swap_at}
use Rattle.pf_session.proofs.creating.place.Goals as goal

pub returns-in_err-sync : goal.returns-in_err-sync
returns-in_err-sync g c =
    let p = err_from_is_err_and c.from_residual.result c.from_residual.ensures.1 in
    let s0 = g.H.Host.state c.args.host.now in
    let s1 = g.H.Host.state c.sync.new.self in
    rw p.1 (unsynced c.args.name.now c.args.node.now c.args.side.now c.args.recovery.now c.requires.side c.requires.recovery _ _ _ s0 s1 c.in_err-sync.ensures.told c.in_err-sync.ensures.cause.once c.sync.ensures.counts c.in_err-sync.ensures.disk)

pub returns-in_err-make_side : goal.returns-in_err-make_side
returns-in_err-make_side g c =
    let p = err_from_is_err_and c.from_residual-in_err-make_side.result c.from_residual-in_err-make_side.ensures.1 in
    let s0 = g.H.Host.state c.args.host.now in
    let s1 = g.H.Host.state c.sync.new.self in
    let s2 = g.H.Host.state c.make_side.new.host in
    rw p.1 (not_made c.args.name.now c.args.node.now c.args.side.now c.args.recovery.now c.requires.side c.requires.recovery _ _ _ s0 s1 s2 c.in_ok-sync.ensures.told c.in_ok-sync.ensures.cause.still c.sync.ensures.counts c.in_ok-sync.ensures.disk
    c.in_err-make_side.ensures.goes c.in_err-make_side.ensures.disk)

pub returns : goal.returns
returns g c =
    let s0 = g.H.Host.state c.args.host.now in
    let s1 = g.H.Host.state c.sync.new.self in
    let s2 = g.H.Host.state c.make_side.new.host in
    let s3 = g.H.Host.state c.swap_name.new.self in
    let name = c.args.name.now in
    let node = c.args.node.now in
    let side = c.args.side.now in
    let recovery = c.args.recovery.now in
    let asked = ready_asked name node side recovery c.requires.side c.requires.recovery s0 s1 s2 c.in_ok-sync.ensures.told c.in_ok-sync.ensures.cause.still c.sync.ensures.counts c.in_ok-make_side.ensures.goes in
    let ran = ready name node side recovery c.requires.side c.requires.recovery _ _ _ s0 s1 s2 c.in_ok-sync.ensures.disk c.in_ok-make_side.ensures.disk in
    swap_at name node c.swap_name.result side s0 s2 s3 c.requires.side asked ran c.swap_name.ensures.told c.swap_name.ensures.cause c.swap_name.ensures.counts c.swap_name.ensures.disk
