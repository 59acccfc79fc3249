use Rattle.std.proofs.Common.{◌≡◌, length, take, sym, subst, ◌∙◌, arith, Err}
use Rattle.std.proofs.lemmas.List.{length-take-le}
use Rattle.std.proofs.lemmas.Result.{err_from_is_err_and}
use Rattle.pf_io.proofs.Unchanged.{kept_once}
use Rattle.trusted_chunks.specs.Taking.{SliceEnds}
use Rattle.trusted_chunks.specs.declared.fault.TrustFault.{TrustFault}
use Rattle.pf_io.proofs.Slices.{slice_came}
use Rattle.trusted_chunks.proofs.slices.take_slice.Goals as goal

pub returns-in_err-n-clause-disk : goal.returns-in_err-n-clause-disk
returns-in_err-n-clause-disk g c = kept_once (g.H.Host.state c.args.host.now) (g.H.Host.state c.read_at.new.self) c.in_err-n.ensures.disk

pub returns-then-at-n-gt-MOST_BYTES-clause-disk : goal.returns-then-at-n-gt-MOST_BYTES-clause-disk
returns-then-at-n-gt-MOST_BYTES-clause-disk g c = kept_once (g.H.Host.state c.args.host.now) (g.H.Host.state c.read_at.new.self) c.in_ok-n.ensures.disk

pub returns-then-at-n-gt-MOST_BYTES-clause-ends : goal.returns-then-at-n-gt-MOST_BYTES-clause-ends
returns-then-at-n-gt-MOST_BYTES-clause-ends g c =
    let e = c.in_ok-n.ensures in
    let n = c.in_ok-n.n in
    let rest = e.rest in
    let long : length (take n c.read_at.new.to) ≡ n = length-take-le n c.read_at.new.to (omega (arith, rest.within, rest.same_length)) in (
      take n c.read_at.new.to,
      slice_came c.args.name.now c.args.at n c.args.buffer.now c.read_at.new.to (g.H.Host.state c.args.host.now) (g.H.Host.state c.read_at.new.self) c.told-buffer e.rest e.told e.files e.honest e.counts,
      omega (arith, long, c.if-at-n-gt-MOST_BYTES.true),
    )

pub returns-in_err-add_slice-clause-disk : goal.returns-in_err-add_slice-clause-disk
returns-in_err-add_slice-clause-disk g c = kept_once (g.H.Host.state c.args.host.now) (g.H.Host.state c.read_at.new.self) c.in_ok-n.ensures.disk

pub returns-in_err-add_slice-clause-ends : goal.returns-in_err-add_slice-clause-ends
returns-in_err-add_slice-clause-ends g c =
    let e = c.in_ok-n.ensures in
    let n = c.in_ok-n.n in
    let rest = e.rest in
    let p = err_from_is_err_and c.from_residual-in_err-add_slice.result c.from_residual-in_err-add_slice.ensures.1 in
    let long : length (take n c.read_at.new.to) ≡ n = length-take-le n c.read_at.new.to (omega (arith, rest.within, rest.same_length)) in
    let old = g.H.Host.state c.args.host.now in
    let new = g.H.Host.state c.read_at.new.self in
    rw p.1 (subst (λ (x : TrustFault). SliceEnds (Err x) c.args.name.now c.args.at c.args.hashes.now.items c.add_slice.new.hashes.items c.args.hasher.now c.add_slice.new.hasher old new) (sym (p.2 ∙ c.in_err-add_slice.ensures.memory))
    (take n c.read_at.new.to, slice_came c.args.name.now c.args.at n c.args.buffer.now c.read_at.new.to old new c.told-buffer e.rest e.told e.files e.honest e.counts, omega (arith, long, c.if-at-n-gt-MOST_BYTES.false)))

pub returns-clause-disk : goal.returns-clause-disk
returns-clause-disk g c = kept_once (g.H.Host.state c.args.host.now) (g.H.Host.state c.read_at.new.self) c.in_ok-n.ensures.disk

pub returns-clause-ends : goal.returns-clause-ends
returns-clause-ends g c =
    let e = c.in_ok-n.ensures in
    let n = c.in_ok-n.n in
    let rest = e.rest in
    let long : length (take n c.read_at.new.to) ≡ n = length-take-le n c.read_at.new.to (omega (arith, rest.within, rest.same_length)) in
    record {
      slice = take n c.read_at.new.to;
      came = slice_came c.args.name.now c.args.at n c.args.buffer.now c.read_at.new.to (g.H.Host.state c.args.host.now) (g.H.Host.state c.read_at.new.self) c.told-buffer e.rest e.told e.files e.honest e.counts;
      length_is = sym long;
      within = omega (arith, long, c.if-at-n-gt-MOST_BYTES.false);
      added = c.in_ok-add_slice.ensures.hashes;
      hashed = c.in_ok-add_slice.ensures.hasher;
    }
