use Rattle.std.proofs.Common.{◌∙◌, List, ℕ, ap, sym, subst, refl, Err, not}
use Rattle.std.proofs.lemmas.Result.{err_from_is_err_and}
use Rattle.lru.specs.LruCache.{LruCache}
use Rattle.pf_io.proofs.Unchanged.{kept_once, kept_then}
use Rattle.trusted_chunks.specs.Taking.{Takes}
use Rattle.trusted_chunks.specs.Opening.{Opens}
use Rattle.trusted_chunks.specs.declared.fault.TrustFault.{TrustFault}
use Rattle.pf_io.proofs.Slices.{length_came}
use Rattle.trusted_chunks.proofs.Opened.{opens_starved, opens_failed, opens_wrong, opens_ok, sound_opened, honest_open}
use Rattle.trusted_chunks.proofs.trusted_file.TrustedFile.open.Goals as goal

pub returns-in_err-len-clause-disk : goal.returns-in_err-len-clause-disk
returns-in_err-len-clause-disk g c = kept_once (g.H.Host.state c.args.host.now) (g.H.Host.state c.len.new.self) c.in_err-len.ensures.disk

pub returns-then-is_none-clause-disk : goal.returns-then-is_none-clause-disk
returns-then-is_none-clause-disk g c = kept_once (g.H.Host.state c.args.host.now) (g.H.Host.state c.len.new.self) c.in_ok-len.ensures.disk

pub returns-in_err-own_name-clause-opens : goal.returns-in_err-own_name-clause-opens
returns-in_err-own_name-clause-opens g c =
    let e = c.in_ok-len.ensures in
    let came = length_came c.args.name.now c.in_ok-len.field-0 (g.H.Host.state c.args.host.now) (g.H.Host.state c.len.new.self) (c.is_none.ensures ∙ ap not c.if-is_none.false) e.told e.files e.honest e.counts in
    let p = err_from_is_err_and c.from_residual-in_err-own_name.result c.from_residual-in_err-own_name.ensures.1 in
    rw p.1 (subst (λ (x : TrustFault). Opens (Err x) c.args.name.now c.args.sum.now (g.H.Host.state c.args.host.now) (g.H.Host.state c.len.new.self)) (sym p.2) (opens_starved c.args.name.now c.args.sum.now (g.H.Host.state c.args.host.now) (g.H.Host.state c.len.new.self) came))

pub returns-in_err-own_name-clause-disk : goal.returns-in_err-own_name-clause-disk
returns-in_err-own_name-clause-disk g c = kept_once (g.H.Host.state c.args.host.now) (g.H.Host.state c.len.new.self) c.in_ok-len.ensures.disk

pub returns-in_err-kept-clause-opens : goal.returns-in_err-kept-clause-opens
returns-in_err-kept-clause-opens g c =
    let e = c.in_ok-len.ensures in
    let came = length_came c.args.name.now c.in_ok-len.field-0 (g.H.Host.state c.args.host.now) (g.H.Host.state c.len.new.self) (c.is_none.ensures ∙ ap not c.if-is_none.false) e.told e.files e.honest e.counts in
    let p = err_from_is_err_and c.from_residual-in_err-kept.result c.from_residual-in_err-kept.ensures.1 in
    rw p.1 (subst (λ (x : TrustFault). Opens (Err x) c.args.name.now c.args.sum.now (g.H.Host.state c.args.host.now) (g.H.Host.state c.len.new.self)) (sym p.2) (opens_starved c.args.name.now c.args.sum.now (g.H.Host.state c.args.host.now) (g.H.Host.state c.len.new.self) came))

pub returns-in_err-kept-clause-disk : goal.returns-in_err-kept-clause-disk
returns-in_err-kept-clause-disk g c = kept_once (g.H.Host.state c.args.host.now) (g.H.Host.state c.len.new.self) c.in_ok-len.ensures.disk

pub returns-in_err-taken-clause-opens : goal.returns-in_err-taken-clause-opens
returns-in_err-taken-clause-opens g c =
    let e = c.in_ok-len.ensures in
    let came = length_came c.args.name.now c.in_ok-len.field-0 (g.H.Host.state c.args.host.now) (g.H.Host.state c.len.new.self) (c.is_none.ensures ∙ ap not c.if-is_none.false) e.told e.files e.honest e.counts in
    let p = err_from_is_err_and c.from_residual-in_err-taken.result c.from_residual-in_err-taken.ensures.1 in
    rw p.1 (opens_failed p.0 c.args.name.now c.args.sum.now (g.H.Host.state c.args.host.now) (g.H.Host.state c.len.new.self) (g.H.Host.state c.take_slices.new.host) came (subst (λ (x : TrustFault). Takes (Err x) c.args.name.now (g.H.Host.state c.len.new.self) (g.H.Host.state c.take_slices.new.host)) (sym p.2) c.in_err-taken.ensures.takes))

pub returns-in_err-taken-clause-disk : goal.returns-in_err-taken-clause-disk
returns-in_err-taken-clause-disk g c = kept_then (g.H.Host.state c.args.host.now) (g.H.Host.state c.len.new.self) (g.H.Host.state c.take_slices.new.host) (kept_once (g.H.Host.state c.args.host.now) (g.H.Host.state c.len.new.self) c.in_ok-len.ensures.disk) c.in_err-taken.ensures.disk

pub returns-in_err-taken-clause-honest : goal.returns-in_err-taken-clause-honest
returns-in_err-taken-clause-honest g c = honest_open c.from_residual-in_err-taken.result c.args.name.now c.args.sum.now (g.H.Host.state c.args.host.now) (g.H.Host.state c.take_slices.new.host) (returns-in_err-taken-clause-opens g c)

pub returns-then-not-is_sum-clause-opens : goal.returns-then-not-is_sum-clause-opens
returns-then-not-is_sum-clause-opens g c =
    let e = c.in_ok-len.ensures in
    let came = length_came c.args.name.now c.in_ok-len.field-0 (g.H.Host.state c.args.host.now) (g.H.Host.state c.len.new.self) (c.is_none.ensures ∙ ap not c.if-is_none.false) e.told e.files e.honest e.counts in
    opens_wrong c.args.name.now c.args.sum.now c.in_ok-taken.taken (g.H.Host.state c.args.host.now) (g.H.Host.state c.len.new.self) (g.H.Host.state c.take_slices.new.host) came c.in_ok-taken.ensures.takes (λ same. let wrong = c.if-not-is_sum.ensures.1 same in absurd (cc))

pub returns-then-not-is_sum-clause-disk : goal.returns-then-not-is_sum-clause-disk
returns-then-not-is_sum-clause-disk g c = kept_then (g.H.Host.state c.args.host.now) (g.H.Host.state c.len.new.self) (g.H.Host.state c.take_slices.new.host) (kept_once (g.H.Host.state c.args.host.now) (g.H.Host.state c.len.new.self) c.in_ok-len.ensures.disk) c.in_ok-taken.ensures.disk

pub returns-then-not-is_sum-clause-honest : goal.returns-then-not-is_sum-clause-honest
returns-then-not-is_sum-clause-honest g c = honest_open _ c.args.name.now c.args.sum.now (g.H.Host.state c.args.host.now) (g.H.Host.state c.take_slices.new.host) (returns-then-not-is_sum-clause-opens g c)

pub invariant_of-result : goal.invariant_of-result
invariant_of-result g c = (
  sound_opened c.in_ok-taken.taken c.args.name.now (record { name = c.in_ok-own_name.own_name; size = c.in_ok-taken.taken.len; hashes = c.in_ok-taken.taken.hashes.items; kept = c.in_ok-kept.kept.entries }) (g.H.Host.state c.len.new.self) (g.H.Host.state c.take_slices.new.host) c.in_ok-taken.ensures.takes refl refl (ap (λ (k : LruCache ℕ (List ℕ)). k.entries) c.in_ok-kept.ensures),
  ap (λ (k : LruCache ℕ (List ℕ)). k.cap) c.in_ok-kept.ensures ∙ c.most_kept.ensures,
)

pub returns-clause-opens : goal.returns-clause-opens
returns-clause-opens g c =
    let e = c.in_ok-len.ensures in
    let came = length_came c.args.name.now c.in_ok-len.field-0 (g.H.Host.state c.args.host.now) (g.H.Host.state c.len.new.self) (c.is_none.ensures ∙ ap not c.if-is_none.false) e.told e.files e.honest e.counts in
    opens_ok c.args.name.now c.args.sum.now c.in_ok-taken.taken (record { name = c.in_ok-own_name.own_name; size = c.in_ok-taken.taken.len; hashes = c.in_ok-taken.taken.hashes.items; kept = c.in_ok-kept.kept.entries }) (g.H.Host.state c.args.host.now) (g.H.Host.state c.len.new.self) (g.H.Host.state c.take_slices.new.host) came c.in_ok-taken.ensures.takes (c.if-not-is_sum.ensures.0 refl) c.in_ok-own_name.ensures refl refl (ap (λ (k : LruCache ℕ (List ℕ)). k.entries) c.in_ok-kept.ensures)

pub returns-clause-disk : goal.returns-clause-disk
returns-clause-disk g c = kept_then (g.H.Host.state c.args.host.now) (g.H.Host.state c.len.new.self) (g.H.Host.state c.take_slices.new.host) (kept_once (g.H.Host.state c.args.host.now) (g.H.Host.state c.len.new.self) c.in_ok-len.ensures.disk) c.in_ok-taken.ensures.disk

pub returns-clause-honest : goal.returns-clause-honest
returns-clause-honest g c = honest_open _ c.args.name.now c.args.sum.now (g.H.Host.state c.args.host.now) (g.H.Host.state c.take_slices.new.host) (returns-clause-opens g c)
