use Rattle.std.proofs.Common.{Option, ℕ, [], ◌∷◌, subst}
use Rattle.pf_io.specs.Host.{LengthWas}
use Rattle.pf_io.specs.Answered.{Answered}
use Rattle.pf_io.proofs.Answering.{answered_length}
use Rattle.pf_io.proofs.Unchanged.{kept_once, kept_then}
use Rattle.file_sums.proofs.Summed.{summed_taken, honest_sum}
use Rattle.file_sums.proofs.summing.sum.Goals as goal

pub returns-in_err-len-clause-disk : goal.returns-in_err-len-clause-disk
returns-in_err-len-clause-disk g c = kept_once (g.H.Host.state c.args.host.now) (g.H.Host.state c.len.new.self) c.in_err-len.ensures.disk

pub returns-in-Some-clause-summed : goal.returns-in-Some-clause-summed
returns-in-Some-clause-summed g c =
    let e = c.in_ok-len.ensures in
    summed_taken c.sum_slices.result c.args.name.now c.in-Some.field-0 (g.H.Host.state c.args.host.now) (g.H.Host.state c.len.new.self) (g.H.Host.state c.sum_slices.new.host)
    (subst (λ (o : Option ℕ). Answered (LengthWas c.args.name.now o ∷ []) (g.H.Host.state c.args.host.now) (g.H.Host.state c.len.new.self)) c.in-Some.is (answered_length c.args.name.now c.in_ok-len.field-0 (g.H.Host.state c.args.host.now) (g.H.Host.state c.len.new.self) e.told e.files e.honest))
    e.counts c.sum_slices.ensures.takes

pub returns-in-Some-clause-honest : goal.returns-in-Some-clause-honest
returns-in-Some-clause-honest g c = honest_sum c.sum_slices.result c.args.name.now (g.H.Host.state c.args.host.now) (g.H.Host.state c.sum_slices.new.host) (returns-in-Some-clause-summed g c)

pub returns-in-Some-clause-disk : goal.returns-in-Some-clause-disk
returns-in-Some-clause-disk g c = kept_then (g.H.Host.state c.args.host.now) (g.H.Host.state c.len.new.self) (g.H.Host.state c.sum_slices.new.host) (kept_once (g.H.Host.state c.args.host.now) (g.H.Host.state c.len.new.self) c.in_ok-len.ensures.disk) c.sum_slices.ensures.disk

pub returns-in-None-clause-disk : goal.returns-in-None-clause-disk
returns-in-None-clause-disk g c = kept_once (g.H.Host.state c.args.host.now) (g.H.Host.state c.len.new.self) c.in_ok-len.ensures.disk
