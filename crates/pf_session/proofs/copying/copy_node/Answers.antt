use Rattle.std.proofs.Common.{◌≡◌, ◌*◌, ◌∷◌, [], ℕ, List, length, take, replicate, refl, ap, ◌∙◌, arith}
use Rattle.std.proofs.lemmas.List.{take_all, length-take, length-replicate}
use Rattle.std.proofs.lemmas.Result.{err_from_is_err_and}
use Rattle.pf_io.specs.Disk.{Files}
use Rattle.pf_io.specs.Host.{Answer, Gave, ReadsFrom, contents}
use Rattle.pf_session.specs.Asking.{NoCall}
use Rattle.pf_session.proofs.Calls.{asked_read, asked_write, failed_read, failed_write, same_asked}
use Rattle.pf_session.proofs.Copied.{node_copied, node_unread, node_unwritten, node_short}
use Rattle.pf_session.proofs.Copies.{copied_one, unwritten_one, unread_one, short_one, host_left}
use Rattle.pf_session.proofs.Disks.{read_does}
use Rattle.pf_session.proofs.copying.copy_node.Goals as goal

room : length (replicate {A = ℕ} 4096 0) ≡ 4096
room = length-replicate {A = ℕ} 4096 0

pub returns-in_err-given-clause-goes : goal.returns-in_err-given-clause-goes
returns-in_err-given-clause-goes g c =
    let p = err_from_is_err_and c.from_residual.result c.from_residual.ensures.1 in
    let s0 = g.H.Host.state c.args.host.now in
    let s1 = g.H.Host.state c.read_at.new.self in
    rw p.1 (node_unread c.args.from.now c.args.to.now c.args.number p.0 s0 s1 p.2 (failed_read _ s0 s1 (omega (arith, room)) c.in_err-given.ensures.told c.in_err-given.ensures.cause.once c.read_at.ensures.counts))

pub returns-in_err-given-clause-disk : goal.returns-in_err-given-clause-disk
returns-in_err-given-clause-disk g c =
    let p = err_from_is_err_and c.from_residual.result c.from_residual.ensures.1 in
    let s0 = g.H.Host.state c.args.host.now in
    let s1 = g.H.Host.state c.read_at.new.self in
    rw p.1 (host_left c.args.from.now c.args.to.now (c.args.number ∷ []) p.0 s0.honest s1.honest p.2 (unread_one c.args.to.now s0.honest s1.honest c.read_at.ensures.disk))

pub returns-then-given-lt4096-clause-goes : goal.returns-then-given-lt4096-clause-goes
returns-then-given-lt4096-clause-goes g c =
    let s0 = g.H.Host.state c.args.host.now in
    let s1 = g.H.Host.state c.read_at.new.self in
    let k = c.args.number in
    let block = take c.in_ok-given.given c.read_at.new.to in
    let asked = asked_read c.args.from.now (4096 * k) _ block s0 s1 (omega (arith, room)) c.in_ok-given.ensures.told c.in_ok-given.ensures.cause.still c.read_at.ensures.counts in
    node_short c.args.from.now c.args.to.now k block s0 s1 (omega (arith, length-take c.in_ok-given.given c.read_at.new.to, c.if-given-lt4096.true))
    (same_asked _ _ NoCall s0 s1 (ap (λ (m : ℕ). let a : Answer = Gave c.args.from.now (4096 * k) m block in a ∷ []) room) asked)

pub returns-then-given-lt4096-clause-disk : goal.returns-then-given-lt4096-clause-disk
returns-then-given-lt4096-clause-disk g c =
    let s0 = g.H.Host.state c.args.host.now in
    let s1 = g.H.Host.state c.read_at.new.self in
    let k = c.args.number in
    short_one k c.in_ok-given.given c.read_at.new.to c.args.from.now c.args.to.now _ s0.honest s1.honest (let l = c.in_ok-given.ensures.rest.same_length in omega (arith, l, room)) (omega (arith, c.if-given-lt4096.true)) refl
    (read_does (λ (files : Files). ReadsFrom (4096 * k) c.in_ok-given.given c.read_at.new.to (contents (files c.args.from.now))) s0.honest s1.honest c.in_ok-given.ensures.honest c.read_at.ensures.disk)

pub returns-in_err-write_at-clause-goes : goal.returns-in_err-write_at-clause-goes
returns-in_err-write_at-clause-goes g c =
    let p = err_from_is_err_and c.from_residual-in_err-write_at.result c.from_residual-in_err-write_at.ensures.1 in
    let s0 = g.H.Host.state c.args.host.now in
    let s1 = g.H.Host.state c.read_at.new.self in
    let s2 = g.H.Host.state c.write_at.new.self in
    let k = c.args.number in
    let n = c.in_ok-given.given in
    let buffer = c.read_at.new.to in
    let long : length buffer ≡ 4096 = let l = c.in_ok-given.ensures.rest.same_length in omega (arith, l, room) in
    let whole : take n buffer ≡ buffer = take_all n buffer (omega (arith, long, c.if-given-lt4096.false)) in
    let asked = asked_read c.args.from.now (4096 * k) _ (take n buffer) s0 s1 (omega (arith, room)) c.in_ok-given.ensures.told c.in_ok-given.ensures.cause.still c.read_at.ensures.counts in
    let reads = same_asked _ _ NoCall s0 s1 (ap (λ (m : ℕ). let a : Answer = Gave c.args.from.now (4096 * k) m (take n buffer) in a ∷ []) room ∙ ap (λ (b : List ℕ). let a : Answer = Gave c.args.from.now (4096 * k) 4096 b in a ∷ []) whole) asked in
    rw p.1 (node_unwritten c.args.from.now c.args.to.now k p.0 buffer s0 s1 s2 p.2 long reads (failed_write _ s1 s2 (omega (arith, long)) c.in_err-write_at.ensures.told c.in_err-write_at.ensures.cause.once c.write_at.ensures.counts))

pub returns-in_err-write_at-clause-disk : goal.returns-in_err-write_at-clause-disk
returns-in_err-write_at-clause-disk g c =
    let p = err_from_is_err_and c.from_residual-in_err-write_at.result c.from_residual-in_err-write_at.ensures.1 in
    let s0 = g.H.Host.state c.args.host.now in
    let s1 = g.H.Host.state c.read_at.new.self in
    let s2 = g.H.Host.state c.write_at.new.self in
    let k = c.args.number in
    let n = c.in_ok-given.given in
    let buffer = c.read_at.new.to in
    let long : length buffer ≡ 4096 = let l = c.in_ok-given.ensures.rest.same_length in omega (arith, l, room) in
    let all : n ≡ 4096 = let w = c.in_ok-given.ensures.rest.within in omega (arith, w, room, c.if-given-lt4096.false) in
    let reads = read_does (λ (files : Files). ReadsFrom (4096 * k) n buffer (contents (files c.args.from.now))) s0.honest s1.honest c.in_ok-given.ensures.honest c.read_at.ensures.disk in
    rw p.1 (host_left c.args.from.now c.args.to.now (k ∷ []) p.0 s0.honest s2.honest p.2 (unwritten_one k n buffer long all c.args.from.now c.args.to.now s0.honest s1.honest s2.honest reads _ c.in_err-write_at.ensures.disk))

pub returns-clause-goes : goal.returns-clause-goes
returns-clause-goes g c =
    let s0 = g.H.Host.state c.args.host.now in
    let s1 = g.H.Host.state c.read_at.new.self in
    let s2 = g.H.Host.state c.write_at.new.self in
    let k = c.args.number in
    let n = c.in_ok-given.given in
    let buffer = c.read_at.new.to in
    let long : length buffer ≡ 4096 = let l = c.in_ok-given.ensures.rest.same_length in omega (arith, l, room) in
    let whole : take n buffer ≡ buffer = take_all n buffer (omega (arith, long, c.if-given-lt4096.false)) in
    let asked = asked_read c.args.from.now (4096 * k) _ (take n buffer) s0 s1 (omega (arith, room)) c.in_ok-given.ensures.told c.in_ok-given.ensures.cause.still c.read_at.ensures.counts in
    let reads = same_asked _ _ NoCall s0 s1 (ap (λ (m : ℕ). let a : Answer = Gave c.args.from.now (4096 * k) m (take n buffer) in a ∷ []) room ∙ ap (λ (b : List ℕ). let a : Answer = Gave c.args.from.now (4096 * k) 4096 b in a ∷ []) whole) asked in
    node_copied c.args.from.now c.args.to.now k buffer s0 s1 s2 long reads (asked_write c.args.to.now (4096 * k) _ buffer s1 s2 (omega (arith, long)) c.in_ok-write_at.ensures.told c.in_ok-write_at.ensures.cause.still c.write_at.ensures.counts)

pub returns-clause-disk : goal.returns-clause-disk
returns-clause-disk g c =
    let s0 = g.H.Host.state c.args.host.now in
    let s1 = g.H.Host.state c.read_at.new.self in
    let s2 = g.H.Host.state c.write_at.new.self in
    let k = c.args.number in
    let n = c.in_ok-given.given in
    let buffer = c.read_at.new.to in
    let long : length buffer ≡ 4096 = let l = c.in_ok-given.ensures.rest.same_length in omega (arith, l, room) in
    let all : n ≡ 4096 = let w = c.in_ok-given.ensures.rest.within in omega (arith, w, room, c.if-given-lt4096.false) in
    let reads = read_does (λ (files : Files). ReadsFrom (4096 * k) n buffer (contents (files c.args.from.now))) s0.honest s1.honest c.in_ok-given.ensures.honest c.read_at.ensures.disk in
    copied_one k n buffer long all c.args.from.now c.args.to.now s0.honest s1.honest s2.honest reads _ _ tt c.in_ok-write_at.ensures.disk
