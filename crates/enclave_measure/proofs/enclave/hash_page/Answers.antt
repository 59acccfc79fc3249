use Rattle.std.proofs.Common.{List, ℕ, ◌++◌, subst}
use Rattle.sha2.specs.Hashers.{Holds256}
use Rattle.enclave_measure.proofs.Asked.{page_bare, page_measured}
use Rattle.enclave_measure.proofs.enclave.hash_page.Goals as goal

pub returns-then-not-page-clause-ends : goal.returns-then-not-page-clause-ends
returns-then-not-page-clause-ends g c =
    page_bare c.args.page.now (Holds256 c.args.hasher.now) (Holds256 c.update.new.self) (g.H.Host.state c.args.host.now) c.if-not-page.true
    (λ message holds. subst (λ (r : List ℕ). Holds256 c.update.new.self (message ++ r)) c.addition.ensures (c.update.ensures message holds))

pub returns-clause-ends : goal.returns-clause-ends
returns-clause-ends g c =
    page_measured c.args.page.now c.in_ok-bytes.bytes (Holds256 c.args.hasher.now) (Holds256 c.update.new.self) (Holds256 c.extend.new.hasher) (g.H.Host.state c.args.host.now) (g.H.Host.state c.read_bytes.new.host) c.if-not-page.false c.in_ok-bytes.ensures.ends
    (λ message holds. subst (λ (r : List ℕ). Holds256 c.update.new.self (message ++ r)) c.addition.ensures (c.update.ensures message holds)) c.extend.ensures
