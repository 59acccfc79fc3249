use Rattle.std.proofs.Common.{◌≡◌, length, take, sym, arith}
use Rattle.std.proofs.lemmas.List.{length-take-le}
use Rattle.pf_io.proofs.Unchanged.{kept_once}
use Rattle.pf_io.proofs.Slices.{slice_came}
use Rattle.file_sums.proofs.summing.take_slice.Goals as goal

pub returns-in_err-n-clause-disk : goal.returns-in_err-n-clause-disk
returns-in_err-n-clause-disk g c = kept_once (g.H.Host.state c.args.host.now) (g.H.Host.state c.read_at.new.self) c.in_err-n.ensures.disk

pub returns-then-at-n-gt-MOST_BYTES-clause-disk : goal.returns-then-at-n-gt-MOST_BYTES-clause-disk
returns-then-at-n-gt-MOST_BYTES-clause-disk g c = kept_once (g.H.Host.state c.args.host.now) (g.H.Host.state c.read_at.new.self) c.in_ok-n.ensures.disk

pub returns-then-at-n-gt-MOST_BYTES-clause-ends : goal.returns-then-at-n-gt-MOST_BYTES-clause-ends
returns-then-at-n-gt-MOST_BYTES-clause-ends g c =
    let e = c.in_ok-n.ensures in
    let n = c.in_ok-n.n in
    let rest = e.rest in
    let long : length (take n c.read_at.new.to) ≡ n = length-take-le n c.read_at.new.to (omega (arith, rest.within, rest.same_length)) in (
      take n c.read_at.new.to,
      slice_came c.args.name.now c.args.at n c.args.buffer.now c.read_at.new.to (g.H.Host.state c.args.host.now) (g.H.Host.state c.read_at.new.self) c.told-buffer e.rest e.told e.files e.honest e.counts,
      omega (arith, long, c.if-at-n-gt-MOST_BYTES.true),
    )

pub returns-clause-disk : goal.returns-clause-disk
returns-clause-disk g c = kept_once (g.H.Host.state c.args.host.now) (g.H.Host.state c.read_at.new.self) c.in_ok-n.ensures.disk

pub returns-clause-ends : goal.returns-clause-ends
returns-clause-ends g c =
    let e = c.in_ok-n.ensures in
    let n = c.in_ok-n.n in
    let rest = e.rest in
    let long : length (take n c.read_at.new.to) ≡ n = length-take-le n c.read_at.new.to (omega (arith, rest.within, rest.same_length)) in
    record {
      slice = take n c.read_at.new.to;
      came = slice_came c.args.name.now c.args.at n c.args.buffer.now c.read_at.new.to (g.H.Host.state c.args.host.now) (g.H.Host.state c.read_at.new.self) c.told-buffer e.rest e.told e.files e.honest e.counts;
      length_is = sym long;
      within = omega (arith, long, c.if-at-n-gt-MOST_BYTES.false);
      hashed = c.update.ensures;
    }
