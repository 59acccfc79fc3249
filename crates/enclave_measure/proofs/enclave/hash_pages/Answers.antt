use Rattle.std.proofs.Common.{◌≡◌, Ok, Err, ◌+◌, ◌∙◌, ◌++◌, ◌∷◌, [], List, ap, sym, subst, arith, take, drop}
use Rattle.std.proofs.lemmas.List.{take_more, drop_more, take-append-drop, length-take-le}
use Rattle.std.proofs.lemmas.Result.{err_from_is_err_and}
use Rattle.sha2.specs.Hashers.{Holds256}
use Rattle.enclave_measure.specs.declared.page.Page.{Page}
use Rattle.enclave_measure.specs.Hashing.{PagesHashed}
use Rattle.enclave_measure.proofs.Measured.{hashed_more, ended_at, asking_then}
use Rattle.enclave_measure.proofs.enclave.hash_pages.Goals as goal

pub returns-in_err-hash_page-clause-asking : goal.returns-in_err-hash_page-clause-asking
returns-in_err-hash_page-clause-asking g c =
    let p = err_from_is_err_and c.from_residual.result c.from_residual.ensures.1 in
    rw (p.1, p.2) (asking_then {S = Unit {0}} {T = Unit {0}} tt (Err c.in_err-hash_page.field-0.0) (g.H.Host.state c.args.host.now) (g.H.Host.state c.loop-place.host) (g.H.Host.state c.hash_page.new.host) c.loop-place.invariant.asked c.in_err-hash_page.ensures.asking)

pub returns-in_err-hash_page-clause-ends : goal.returns-in_err-hash_page-clause-ends
returns-in_err-hash_page-clause-ends g c =
    let p = err_from_is_err_and c.from_residual.result c.from_residual.ensures.1 in
    let pages = c.args.pages.now in
    let i = c.loop-place.place in
    let page = c.index-pages-place.result in
    let whole : pages ≡ take i pages ++ page ∷ drop (i + 1) pages = sym (take-append-drop i pages) ∙ ap (λ (ps : List Page). take i pages ++ ps) (drop_more pages i page c.loop-place-test.true) ∙ ap (λ (q : Page). take i pages ++ q ∷ drop (i + 1) pages) (sym c.index-pages-place.is) in
    rw (p.1, p.2) (ended_at pages (take i pages) page (drop (i + 1) pages) i _ (Holds256 c.args.hasher.now) (Holds256 c.loop-place.hasher) (g.H.Host.state c.args.host.now) (g.H.Host.state c.loop-place.host) (g.H.Host.state c.hash_page.new.host) whole
    (length-take-le i pages (omega (arith, c.loop-place-test.true))) c.loop-place.invariant.hashed c.in_err-hash_page.ensures.ends)

pub loop-place-preserved : goal.loop-place-preserved
loop-place-preserved g c =
    let pages = c.args.pages.now in
    let i = c.loop-place.place in
    let page = c.index-pages-place.result in
    let old = g.H.Host.state c.args.host.now in
    let mid = g.H.Host.state c.loop-place.host in
    let new = g.H.Host.state c.hash_page.new.host in
    let more : take i pages ++ page ∷ [] ≡ take (i + 1) pages = ap (λ (q : Page). take i pages ++ q ∷ []) c.index-pages-place.is ∙ sym (take_more pages i page c.loop-place-test.true) in
    record {
      asked = asking_then {S = Unit {0}} {T = Unit {0}} tt (Ok tt) old mid new c.loop-place.invariant.asked c.in_ok-hash_page.ensures.asking;
      hashed = subst (λ (ps : List Page). PagesHashed ps (Holds256 c.args.hasher.now) (Holds256 c.hash_page.new.hasher) old new) more
          (hashed_more (take i pages) page (Holds256 c.args.hasher.now) (Holds256 c.loop-place.hasher) (Holds256 c.hash_page.new.hasher) old mid new c.loop-place.invariant.hashed c.in_ok-hash_page.ensures.ends);
    }
