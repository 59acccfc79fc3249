use Rattle.std.proofs.Common.{ℕ, [], ◌∷◌, ap, refl, subst, ◌∙◌, arith, Result, Ok, Err}
use Rattle.std.proofs.lemmas.Result.{err_from_is_err_and}
use Rattle.pf_io.specs.Counts.{counted}
use Rattle.pf_io.specs.Host.{Name, Swapped}
use Rattle.pf_io.specs.Names.{side_of}
use Rattle.pf_session.specs.Asking.{NoCall, Asked}
use Rattle.pf_session.specs.Ending.{not_flushed}
use Rattle.pf_session.specs.declared.fault.FlushFault.{FlushFault}
use Rattle.pf_session.specs.declared.fault.FlushFault.TheVariants as faults
use Rattle.pf_session.proofs.Calls.{asked_neither, failed_neither}
use Rattle.pf_session.proofs.Published.{kept_by_flush, published_by, not_named_by, aside_by, side_same, name_same, not_damaged}
use Rattle.pf_session.proofs.session.Session.publish.Goals as goal

-- the flush failed
pub returns-in_err-flush-clause-goes : goal.returns-in_err-flush-clause-goes
returns-in_err-flush-clause-goes g c =
    let p = err_from_is_err_and c.from_residual.result c.from_residual.ensures.1 in
    let s0 = g.H.Host.state c.args.host.now in
    let s1 = g.H.Host.state c.flush.new.host in
    let r0 = g.R.Words.state c.args.random.now in
    let r1 = g.R.Words.state c.flush.new.random in
    let fault : FlushFault = c.in_err-flush.field-0.0 in
    let same = p.1 ∙ ap (λ (f : FlushFault). let r : Result (Unit {0}) FlushFault = Err f in r) p.2 in
    rw same (not_flushed fault c.flush.new.self c.in_err-flush.ensures.goes (kept_by_flush (Err fault) c.args.self c.flush.new.self s0 s1 r0 r1 c.requires.beside c.in_err-flush.ensures.goes) refl)

pub returns-in_err-swap_name-clause-goes : goal.returns-in_err-swap_name-clause-goes
returns-in_err-swap_name-clause-goes g c =
    let p = err_from_is_err_and c.from_residual-in_err-swap_name.result c.from_residual-in_err-swap_name.ensures.1 in
    let s0 = g.H.Host.state c.args.host.now in
    let s1 = g.H.Host.state c.flush.new.host in
    let s2 = g.H.Host.state c.swap_name.new.self in
    let r0 = g.R.Words.state c.args.random.now in
    let r1 = g.R.Words.state c.flush.new.random in
    let same = p.1 ∙ ap (λ (f : FlushFault). let r : Result (Unit {0}) FlushFault = Err f in r) p.2 in
    let r : Result (Unit {0}) (Unit {0}) = Err tt in
    rw same (not_named_by (Unit {0}) (Unit {0}) r c.args.self c.flush.new.self s0 s1 s2 r0 r1 c.side_name.result.now c.own_name.result.now c.requires.beside c.in_ok-flush.ensures.goes c.side_name.ensures c.own_name.ensures
    c.in_err-swap_name.ensures.disk refl (failed_neither s1 s2 c.in_err-swap_name.ensures.told c.in_err-swap_name.ensures.cause.once c.swap_name.ensures.counts))

pub returns-in_err-swap_name-clause-aside : goal.returns-in_err-swap_name-clause-aside
returns-in_err-swap_name-clause-aside g c =
    let s0 = g.H.Host.state c.args.host.now in
    let s1 = g.H.Host.state c.flush.new.host in
    let s2 = g.H.Host.state c.swap_name.new.self in
    let r0 = g.R.Words.state c.args.random.now in
    let r1 = g.R.Words.state c.flush.new.random in
    let r : Result (Unit {0}) (Unit {0}) = Err tt in
    aside_by (Unit {0}) (Unit {0}) r c.args.self c.flush.new.self s0 s1 s2 r0 r1 c.side_name.result.now c.own_name.result.now c.requires.beside c.in_ok-flush.ensures.goes c.side_name.ensures c.own_name.ensures
    c.in_err-swap_name.ensures.disk c.flush.ensures.aside

pub returns-in_err-swap_name-clause-undamaged : goal.returns-in_err-swap_name-clause-undamaged
returns-in_err-swap_name-clause-undamaged g c =
    let p = err_from_is_err_and c.from_residual-in_err-swap_name.result c.from_residual-in_err-swap_name.ensures.1 in
    let same = p.1 ∙ ap (λ (f : FlushFault). let r : Result (Unit {0}) FlushFault = Err f in r) p.2 in
    let failed : Result (Unit {0}) FlushFault = Err faults.Host in
    rw same (not_damaged failed c.args.self (g.H.Host.state c.args.host.now) (tt {0}))

pub returns-clause-goes : goal.returns-clause-goes
returns-clause-goes g c =
    let s0 = g.H.Host.state c.args.host.now in
    let s1 = g.H.Host.state c.flush.new.host in
    let s2 = g.H.Host.state c.swap_name.new.self in
    let r0 = g.R.Words.state c.args.random.now in
    let r1 = g.R.Words.state c.flush.new.random in
    let a = c.side_name.result.now in
    let b = c.own_name.result.now in
    let r : Result (Unit {0}) (Unit {0}) = Ok tt in
    let side_is = side_same (Unit {0}) (Unit {0}) r c.args.self c.flush.new.self s0 s1 s2 r0 r1 a b c.requires.beside c.in_ok-flush.ensures.goes c.side_name.ensures c.own_name.ensures c.in_ok-swap_name.ensures.disk in
    let name_is = name_same (Unit {0}) (Unit {0}) r c.args.self c.flush.new.self s0 s1 s2 r0 r1 a b c.requires.beside c.in_ok-flush.ensures.goes c.side_name.ensures c.own_name.ensures c.in_ok-swap_name.ensures.disk in
    let asked : Asked (Swapped a b ∷ []) NoCall s1 s2 = asked_neither (Swapped a b) s1 s2 refl refl c.in_ok-swap_name.ensures.told c.in_ok-swap_name.ensures.cause.still c.swap_name.ensures.counts in
    published_by (Unit {0}) (Unit {0}) r c.args.self c.flush.new.self s0 s1 s2 r0 r1 a b c.requires.beside c.in_ok-flush.ensures.goes c.side_name.ensures c.own_name.ensures c.in_ok-swap_name.ensures.disk refl
    (subst (λ (m : Name). Asked (Swapped (side_of c.args.self.name) m ∷ []) NoCall s1 s2) name_is (subst (λ (n : Name). Asked (Swapped n b ∷ []) NoCall s1 s2) side_is asked))

pub returns-clause-aside : goal.returns-clause-aside
returns-clause-aside g c =
    let s0 = g.H.Host.state c.args.host.now in
    let s1 = g.H.Host.state c.flush.new.host in
    let s2 = g.H.Host.state c.swap_name.new.self in
    let r0 = g.R.Words.state c.args.random.now in
    let r1 = g.R.Words.state c.flush.new.random in
    let r : Result (Unit {0}) (Unit {0}) = Ok tt in
    aside_by (Unit {0}) (Unit {0}) r c.args.self c.flush.new.self s0 s1 s2 r0 r1 c.side_name.result.now c.own_name.result.now c.requires.beside c.in_ok-flush.ensures.goes c.side_name.ensures c.own_name.ensures
    c.in_ok-swap_name.ensures.disk c.flush.ensures.aside

pub returns-clause-undamaged : goal.returns-clause-undamaged
returns-clause-undamaged g c = let done : Result (Unit {0}) FlushFault = Ok tt in not_damaged done c.args.self (g.H.Host.state c.args.host.now) (tt {0})

pub returns-in_err-swap_name-clause-cause : goal.returns-in_err-swap_name-clause-cause
returns-in_err-swap_name-clause-cause g c =
    let p = err_from_is_err_and c.from_residual-in_err-swap_name.result c.from_residual-in_err-swap_name.ensures.1 in
    let same = p.1 ∙ ap (λ (f : FlushFault). let r : Result (Unit {0}) FlushFault = Err f in r) p.2 in
    let still = c.in_ok-flush.ensures.cause.still in
    rw same (record {
      later = omega (arith, still, c.in_err-swap_name.ensures.cause.later);
      still = tt;
      once = c.in_err-swap_name.ensures.cause.once ∙ ap (λ (n : ℕ). counted n) still;
    })

pub returns-in_err-swap_name-clause-random_cause : goal.returns-in_err-swap_name-clause-random_cause
returns-in_err-swap_name-clause-random_cause g c =
    let p = err_from_is_err_and c.from_residual-in_err-swap_name.result c.from_residual-in_err-swap_name.ensures.1 in
    let same = p.1 ∙ ap (λ (f : FlushFault). let r : Result (Unit {0}) FlushFault = Err f in r) p.2 in
    rw same c.in_ok-flush.ensures.random_cause

pub returns-clause-cause : goal.returns-clause-cause
returns-clause-cause g c =
    let still = c.in_ok-flush.ensures.cause.still in
    record { later = omega (arith, still, c.in_ok-swap_name.ensures.cause.later); still = c.in_ok-swap_name.ensures.cause.still ∙ still; once = tt }

pub returns-in_err-flush-clause-cause : goal.returns-in_err-flush-clause-cause
returns-in_err-flush-clause-cause g c =
    let p = err_from_is_err_and c.from_residual.result c.from_residual.ensures.1 in
    let same = p.1 ∙ ap (λ (f : FlushFault). let r : Result (Unit {0}) FlushFault = Err f in r) p.2 in
    rw same c.in_err-flush.ensures.cause

pub returns-in_err-flush-clause-random_cause : goal.returns-in_err-flush-clause-random_cause
returns-in_err-flush-clause-random_cause g c =
    let p = err_from_is_err_and c.from_residual.result c.from_residual.ensures.1 in
    let same = p.1 ∙ ap (λ (f : FlushFault). let r : Result (Unit {0}) FlushFault = Err f in r) p.2 in
    rw same c.in_err-flush.ensures.random_cause

pub returns-in_err-flush-clause-undamaged : goal.returns-in_err-flush-clause-undamaged
returns-in_err-flush-clause-undamaged g c =
    let p = err_from_is_err_and c.from_residual.result c.from_residual.ensures.1 in
    let same = p.1 ∙ ap (λ (f : FlushFault). let r : Result (Unit {0}) FlushFault = Err f in r) p.2 in
    rw same c.in_err-flush.ensures.undamaged
