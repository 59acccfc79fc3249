use Rattle.std.proofs.Common.{◌≡◌, ℕ, Bool, false, cond, take, refl, ◌∙◌, sym, subst, arith, ap, rules, Result, Ok, Err}
use Rattle.node_tree.specs.Reading.{Reads}
use Rattle.node_tree.specs.declared.fault.TreeFault.{TreeFault}
use Rattle.pf_io.specs.Disk.{Name}
use Rattle.pf_io.specs.Names.{side_of}
use Rattle.pf_session.specs.State.{file_of}
use Rattle.std.proofs.lemmas.Result.{err_from_is_err_and}
use Rattle.node_tree.specs.State.{TreeState}
use Rattle.pf_io.specs.Host.{KeepsFiles}
use Rattle.pf_io.proofs.Unchanged.{kept_none, kept_then}
use Rattle.pf_session.specs.State.{SessionState}
use Rattle.pf_tool.proofs.Calls.{piece_passed, piece_failed}
use Rattle.pf_tool.proofs.PieceRuns.{SoFar, so_far_none, so_far_more, pieces_done, read_ended, write_failed}
use Rattle.pf_tool.proofs.pieces.write_content.Goals as goal

pub loop-at-init : goal.loop-at-init
loop-at-init g c =
    let host = g.H.Host.state c.args.host.now in
    let out = g.K.Sink.state c.args.out.now in
    record {
      files = refl;
      disk = kept_none host;
      room = search rules;
      whole = c.requires.whole;
      named = c.requires.named;
      name = refl;
      size = c.size-size.ensures.same;
      small = c.size-size.ensures.small;
      so_far = λ secret node is whole. subst (λ (t : TreeState). SoFar c.args.session.now.name node secret 0 t host host out out) (sym is) (so_far_none c.args.session.now.name node secret host out whole);
    }

-- a file that does not stand beside its name
named : (session : SessionState) (name : Name) → session.beside ≡ false → session.name ≡ name → file_of session ≡ name
named session name beside is = ap (λ (b : Bool). cond b (side_of session.name) session.name) beside ∙ is

pub returns-in_err-count-clause-disk : goal.returns-in_err-count-clause-disk
returns-in_err-count-clause-disk g c = kept_then (g.H.Host.state c.args.host.now) (g.H.Host.state c.loop-at.host) (g.H.Host.state c.read.new.host) c.loop-at.invariant.disk c.read.ensures.disk

pub returns-in_err-count-clause-ends : goal.returns-in_err-count-clause-ends
returns-in_err-count-clause-ends g c secret node world is whole =
    let p = err_from_is_err_and c.from_residual.result c.from_residual.ensures.1 in
    let old = g.H.Host.state c.args.host.now in
    let now = g.H.Host.state c.loop-at.host in
    let new = g.H.Host.state c.read.new.host in
    let name = c.args.session.now.name in
    let inv = c.loop-at.invariant in
    let at = c.loop-at.at in
    let fault : TreeFault = c.in_err-count.field-0.0 in
    let failed : Result ℕ TreeFault = Err fault in
    let size = ap (λ (t : TreeState). t.size) is in
    let reads : Reads failed name at c.read.new.to c.loop-at.session.tree c.read.new.self.tree now new =
    subst (λ (n : Name). Reads failed n at c.read.new.to c.loop-at.session.tree c.read.new.self.tree now new) (named c.loop-at.session name inv.named inv.name) c.in_err-count.ensures.reads in
    rw p.1 (read_ended fault p.0 name node secret at c.loop-at.session.tree c.read.new.self.tree old now new (g.K.Sink.state c.args.out.now) (g.K.Sink.state c.loop-at.out) c.read.new.to p.2
    (inv.so_far secret node is whole) inv.files (let t = c.loop-at-test.true in let s = inv.size in omega (arith, t, s, size)) (c.read.auto.to ∙ inv.room) reads c.in_err-count.ensures.cause (returns-in_err-count-clause-disk g c) world)

pub returns-in_err-write-clause-disk : goal.returns-in_err-write-clause-disk
returns-in_err-write-clause-disk g c = kept_then (g.H.Host.state c.args.host.now) (g.H.Host.state c.loop-at.host) (g.H.Host.state c.read.new.host) c.loop-at.invariant.disk c.read.ensures.disk

pub returns-in_err-write-clause-ends : goal.returns-in_err-write-clause-ends
returns-in_err-write-clause-ends g c secret node world is whole =
    let p = err_from_is_err_and c.from_residual-in_err-write.result c.from_residual-in_err-write.ensures.1 in
    let old = g.H.Host.state c.args.host.now in
    let now = g.H.Host.state c.loop-at.host in
    let new = g.H.Host.state c.read.new.host in
    let out = g.K.Sink.state c.loop-at.out in
    let after = g.K.Sink.state c.write.new.self in
    let name = c.args.session.now.name in
    let inv = c.loop-at.invariant in
    let at = c.loop-at.at in
    let size = ap (λ (t : TreeState). t.size) is in
    let read : Result ℕ TreeFault = Ok c.in_ok-count.count in
    let reads : Reads read name at c.read.new.to c.loop-at.session.tree c.read.new.self.tree now new =
    subst (λ (n : Name). Reads read n at c.read.new.to c.loop-at.session.tree c.read.new.self.tree now new) (named c.loop-at.session name inv.named inv.name) c.in_ok-count.ensures.reads in
    rw p.1 (write_failed name node secret at c.loop-at.session.tree old now (g.K.Sink.state c.args.out.now) out (inv.so_far secret node is whole) inv.files (let t = c.loop-at-test.true in let s = inv.size in omega (arith, t, s, size))
    c.read.new.to (c.read.auto.to ∙ inv.room) c.read.new.self.tree new (returns-in_err-write-clause-disk g c) c.in_ok-count.count reads c.in_ok-count.ensures.cause.still p.0 after p.2
    (piece_failed (take c.in_ok-count.count c.read.new.to) out after c.in_err-write.ensures.taken c.in_err-write.ensures.cause.once) world)

pub loop-at-preserved : goal.loop-at-preserved
loop-at-preserved g c =
    let old = g.H.Host.state c.args.host.now in
    let now = g.H.Host.state c.loop-at.host in
    let new = g.H.Host.state c.read.new.host in
    let out = g.K.Sink.state c.loop-at.out in
    let after = g.K.Sink.state c.write.new.self in
    let name = c.args.session.now.name in
    let inv = c.loop-at.invariant in
    let at = c.loop-at.at in
    let disk = kept_then old now new inv.disk c.read.ensures.disk in
    let files : KeepsFiles old new = c.in_ok-count.ensures.reads.answered.files ∙ inv.files in
    let room = c.read.auto.to ∙ inv.room in
    let fields = c.read.ensures.fields in
    let read : Result ℕ TreeFault = Ok c.in_ok-count.count in
    let reads : Reads read name at c.read.new.to c.loop-at.session.tree c.read.new.self.tree now new =
    subst (λ (n : Name). Reads read n at c.read.new.to c.loop-at.session.tree c.read.new.self.tree now new) (named c.loop-at.session name inv.named inv.name) c.in_ok-count.ensures.reads in
    record {
      files = files;
      disk = disk;
      room = room;
      whole = ap (λ (s : SessionState). s.broken) fields ∙ inv.whole;
      named = ap (λ (s : SessionState). s.beside) fields ∙ inv.named;
      name = ap (λ (s : SessionState). s.name) fields ∙ inv.name;
      size = inv.size;
      small = inv.small;
      so_far = λ secret node is whole.
          let size = ap (λ (t : TreeState). t.size) is in
          so_far_more name node secret at c.loop-at.session.tree old now (g.K.Sink.state c.args.out.now) out (inv.so_far secret node is whole) inv.files (let t = c.loop-at-test.true in let s = inv.size in omega (arith, t, s, size))
          c.read.new.to room c.read.new.self.tree new disk c.in_ok-count.count reads c.in_ok-count.ensures.cause.still after
          (piece_passed (take c.in_ok-count.count c.read.new.to) out after c.in_ok-write.ensures.taken c.in_ok-write.ensures.cause.still) files;
    }

pub returns-clause-ends : goal.returns-clause-ends
returns-clause-ends g c secret node world is whole =
    let inv = c.loop-at.invariant in
    let size = ap (λ (t : TreeState). t.size) is in
    pieces_done c.args.session.now.name node secret c.loop-at.at c.loop-at.session.tree (g.H.Host.state c.args.host.now) (g.H.Host.state c.loop-at.host) (g.K.Sink.state c.args.out.now) (g.K.Sink.state c.loop-at.out)
    (inv.so_far secret node is whole) inv.files (let t = c.loop-at-test.false in let s = inv.size in omega (arith, t, s, size)) inv.disk world
