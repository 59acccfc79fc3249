use Rattle.std.proofs.Common.{◌≡◌, ◌∙◌, [], List, ℕ, ap, subst}
use Rattle.std.proofs.lemmas.Result.{err_from_is_err_and}
use Rattle.sha2.specs.Hashers.{Holds256}
use Rattle.enclave_measure.specs.declared.page.Page.{Page}
use Rattle.enclave_measure.specs.Pages.{Listed}
use Rattle.enclave_measure.specs.Records.{creation}
use Rattle.enclave_measure.specs.Hashing.{PagesHashed, PagesEnded}
use Rattle.enclave_measure.proofs.Measured.{ended_came, hashed_came, honest_of}
use Rattle.enclave_measure.proofs.enclave.measure.Goals as goal

pub returns-in_err-hash_pages-clause-measured : goal.returns-in_err-hash_pages-clause-measured
returns-in_err-hash_pages-clause-measured g c =
    let p = err_from_is_err_and c.from_residual.result c.from_residual.ensures.1 in
    let old = g.H.Host.state c.args.host.now in
    let new = g.H.Host.state c.hash_pages.new.host in
    let pages : c.deref.result.now ≡ c.args.layout.now.pages = c.deref.ensures.value ∙ ap (λ (l : Listed). l.pages) c.layout.view_is in
    rw (p.1, p.2) (ended_came c.args.layout.now c.in_err-hash_pages.field-0.0 old new (subst (λ (ps : List Page). PagesEnded ps c.in_err-hash_pages.field-0.0 old new) pages c.in_err-hash_pages.ensures.ends))

pub returns-in_err-hash_pages-clause-honest : goal.returns-in_err-hash_pages-clause-honest
returns-in_err-hash_pages-clause-honest g c = honest_of c.args.layout.now _ (g.H.Host.state c.args.host.now) (g.H.Host.state c.hash_pages.new.host) (returns-in_err-hash_pages-clause-measured g c)

pub returns-clause-measured : goal.returns-clause-measured
returns-clause-measured g c =
    let old = g.H.Host.state c.args.host.now in
    let new = g.H.Host.state c.hash_pages.new.host in
    let pages : c.deref.result.now ≡ c.args.layout.now.pages = c.deref.ensures.value ∙ ap (λ (l : Listed). l.pages) c.layout.view_is in
    let first = subst (λ (r : List ℕ). Holds256 c.update.new.self r) (c.creation.ensures ∙ ap (λ (l : Listed). creation l.size l.ssa) c.layout.view_is) (c.update.ensures [] c.new-hasher.ensures) in
    hashed_came c.args.layout.now c.finalize.result (Holds256 c.update.new.self) (Holds256 c.hash_pages.new.hasher) old new
    (subst (λ (ps : List Page). PagesHashed ps (Holds256 c.update.new.self) (Holds256 c.hash_pages.new.hasher) old new) pages c.in_ok-hash_pages.ensures.ends) first c.finalize.ensures

pub returns-clause-honest : goal.returns-clause-honest
returns-clause-honest g c = honest_of c.args.layout.now _ (g.H.Host.state c.args.host.now) (g.H.Host.state c.hash_pages.new.host) (returns-clause-measured g c)
