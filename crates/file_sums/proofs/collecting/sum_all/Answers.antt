use Rattle.std.proofs.Common.{◌≡◌, ◌++◌, ◌+◌, ◌∷◌, [], List, ℕ, take, drop, set, sym, ap, ◌∙◌, subst, arith, Err}
use Rattle.std.proofs.lemmas.List.{take_all}
use Rattle.std.proofs.lemmas.Result.{err_from_is_err_and}
use Rattle.pf_io.proofs.Unchanged.{kept_then}
use Rattle.manifest_model.specs.declared.entries.Trusted.{Trusted}
use Rattle.file_sums.specs.Collecting.{AreSummed}
use Rattle.file_sums.specs.declared.fault.AllFault.TheVariants.{At}
use Rattle.file_sums.proofs.Collected.{SummedTo, around, length_to, placed, summed_next, all_summed, all_starved, all_refused, sums_fit, honest_sums, name_copied}
use Rattle.file_sums.proofs.collecting.sum_all.Goals as goal

pub returns-in_err-push-clause-summed : goal.returns-in_err-push-clause-summed
returns-in_err-push-clause-summed g c =
    let p = err_from_is_err_and c.from_residual.result c.from_residual.ensures.1 in
    let entries = c.args.manifest.now.lists.trusted in
    let k = c.loop-k.k in
    let entry = c.trusted-entry.result.now in
    rw (p.1, p.2) (all_starved entries (take k entries) entry (drop (k + 1) entries) c.loop-k.sums.items (g.H.Host.state c.args.host.now) (g.H.Host.state c.loop-k.host) (around entries k entry c.trusted-entry.ensures) c.loop-k.invariant)

pub returns-in_err-push_str-clause-summed : goal.returns-in_err-push_str-clause-summed
returns-in_err-push_str-clause-summed g c =
    let p = err_from_is_err_and c.from_residual-in_err-push_str.result c.from_residual-in_err-push_str.ensures.1 in
    let entries = c.args.manifest.now.lists.trusted in
    let k = c.loop-k.k in
    let entry = c.trusted-entry.result.now in
    rw (p.1, p.2) (all_starved entries (take k entries) entry (drop (k + 1) entries) c.loop-k.sums.items (g.H.Host.state c.args.host.now) (g.H.Host.state c.loop-k.host) (around entries k entry c.trusted-entry.ensures) c.loop-k.invariant)

pub returns-in-Err-clause-summed : goal.returns-in-Err-clause-summed
returns-in-Err-clause-summed g c =
    let entries = c.args.manifest.now.lists.trusted in
    let entry = c.trusted-entry.result.now in
    let k = c.loop-k.k in
    let old = g.H.Host.state c.args.host.now in
    let mid = g.H.Host.state c.loop-k.host in
    let new = g.H.Host.state c.sum_entry.new.host in
    let copied : c.from-name.result ≡ entry.name = name_copied c.from-name.result _ _ c.as_str.result.now entry.name c.from-name.ensures c.in_ok-push_str.ensures.bytes c.clear.ensures.bytes c.as_str.ensures in
    subst (λ (name : List ℕ). AreSummed (Err (At name c.in-Err.why)) entries old new) (sym copied)
    (all_refused entries (take k entries) entry (drop (k + 1) entries) c.loop-k.sums.items c.in-Err.why old mid new (around entries k entry c.trusted-entry.ensures) c.loop-k.invariant c.in-Err.ensures.ends)

pub returns-in-Err-clause-honest : goal.returns-in-Err-clause-honest
returns-in-Err-clause-honest g c = honest_sums _ c.args.manifest.now.lists.trusted (g.H.Host.state c.args.host.now) (g.H.Host.state c.sum_entry.new.host) (returns-in-Err-clause-summed g c)

pub returns-in-Err-clause-disk : goal.returns-in-Err-clause-disk
returns-in-Err-clause-disk g c = kept_then (g.H.Host.state c.args.host.now) (g.H.Host.state c.loop-k.host) (g.H.Host.state c.sum_entry.new.host) c.loop-k.invariant.disk c.in-Err.ensures.disk

pub index_mut-requires : goal.index_mut-requires
index_mut-requires g c =
    let within = c.trusted_len-k-end.ensures in
    let long = length_to c.args.manifest.now.lists.trusted c.loop-k.k c.loop-k.sums.items (g.H.Host.state c.args.host.now) (g.H.Host.state c.loop-k.host) (omega (arith, c.loop-k-test.true, within)) c.loop-k.invariant in
    let ok = c.loop-k.sums.ok.0 in
    omega (arith, c.in_ok-push.ensures.len, long, ok)

pub loop-k-preserved : goal.loop-k-preserved
loop-k-preserved g c =
    let entries = c.args.manifest.now.lists.trusted in
    let old = g.H.Host.state c.args.host.now in
    let mid = g.H.Host.state c.loop-k.host in
    let new = g.H.Host.state c.sum_entry.new.host in
    let e = c.in-Ok.ensures in
    let within = c.trusted_len-k-end.ensures in
    let long = length_to entries c.loop-k.k c.loop-k.sums.items old mid (omega (arith, c.loop-k-test.true, within)) c.loop-k.invariant in
    let kept : set c.push.new.self.items c.loop-k.k c.in-Ok.sum ≡ c.loop-k.sums.items ++ c.in-Ok.sum ∷ [] = ap (λ (l : List (List ℕ)). set l c.loop-k.k c.in-Ok.sum) c.in_ok-push.ensures.items ∙ placed c.loop-k.sums.items c.loop-k.k _ c.in-Ok.sum long in
    subst (λ (sums : List (List ℕ)). SummedTo (take (c.loop-k.k + 1) entries) sums old new) (sym kept)
    (summed_next entries c.loop-k.k c.trusted-entry.result.now c.loop-k.sums.items c.in-Ok.sum old mid new c.trusted-entry.ensures c.loop-k.invariant e.ends e.cause.still e.disk)

pub returns-clause-summed : goal.returns-clause-summed
returns-clause-summed g c =
    let entries = c.args.manifest.now.lists.trusted in
    let all : take c.loop-k.k entries ≡ entries = take_all c.loop-k.k entries (omega (arith, c.loop-k-test.false, c.trusted_len-k-end.ensures)) in
    let old = g.H.Host.state c.args.host.now in
    let new = g.H.Host.state c.loop-k.host in
    all_summed entries c.loop-k.sums.items old new (subst (λ (es : List Trusted). SummedTo es c.loop-k.sums.items old new) all c.loop-k.invariant)

pub returns-clause-fit : goal.returns-clause-fit
returns-clause-fit g c = sums_fit c.args.manifest.now.lists.trusted c.loop-k.sums.items (g.H.Host.state c.args.host.now) (g.H.Host.state c.loop-k.host) (returns-clause-summed g c)

pub returns-clause-honest : goal.returns-clause-honest
returns-clause-honest g c = honest_sums _ c.args.manifest.now.lists.trusted (g.H.Host.state c.args.host.now) (g.H.Host.state c.loop-k.host) (returns-clause-summed g c)
