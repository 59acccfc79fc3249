use Rattle.std.proofs.Common.{◌≡◌, ℕ, List, take, refl, sym, arith, subst, Option, Some}
use Rattle.std.proofs.lemmas.Result.{err_from_is_err_and}
use Rattle.std.proofs.lemmas.List.{take_all, length-take}
use Rattle.pf_io.proofs.Unchanged.{kept_once, kept_then}
use Rattle.pf_session.specs.Questions.{OnlyAsked}
use Rattle.pf_session.specs.Asking.{NoCall}
use Rattle.pf_session.specs.Opening.{IsOpenable, NodeRefused, node_refused, no_length, no_bytes, node_absent, node_answers}
use Rattle.pf_session.specs.declared.open_fault.OpenFault.{OpenFault}
use Rattle.pf_session.proofs.Questions.{length_asked, node_asked, length_failed, node_failed, asked_after}
use Rattle.pf_session.proofs.node_zero.read_node_zero.Goals as goal

pub returns-in_err-len-clause-disk : goal.returns-in_err-len-clause-disk
returns-in_err-len-clause-disk g c = kept_once (g.H.Host.state c.args.host.now) (g.H.Host.state c.len.new.self) c.len.ensures.disk

pub returns-in_err-len-clause-refused : goal.returns-in_err-len-clause-refused
returns-in_err-len-clause-refused g c =
    let p = err_from_is_err_and c.from_residual.result c.from_residual.ensures.1 in
    let s0 = g.H.Host.state c.args.host.now in
    let s1 = g.H.Host.state c.len.new.self in
    rw p.1 (no_length (length_failed c.args.name.now s0 s1 c.in_err-len.ensures.told c.in_err-len.ensures.cause.once c.len.ensures.files c.len.ensures.counts) p.2)

pub returns-in_default-clause-disk : goal.returns-in_default-clause-disk
returns-in_default-clause-disk g c = kept_once (g.H.Host.state c.args.host.now) (g.H.Host.state c.len.new.self) c.len.ensures.disk

pub returns-in_default-clause-refused : goal.returns-in_default-clause-refused
returns-in_default-clause-refused g c =
    let s0 = g.H.Host.state c.args.host.now in
    let s1 = g.H.Host.state c.len.new.self in
    node_absent (length_asked c.args.name.now s0 s1 c.in_ok-len.field-0 _ c.in_default.is c.in_ok-len.ensures.told c.in_ok-len.ensures.cause.still c.len.ensures.counts c.len.ensures.files c.in_ok-len.ensures.honest) refl

pub returns-in_err-given-clause-disk : goal.returns-in_err-given-clause-disk
returns-in_err-given-clause-disk g c =
    let s0 = g.H.Host.state c.args.host.now in
    let s1 = g.H.Host.state c.len.new.self in
    let s2 = g.H.Host.state c.read_at.new.self in
    kept_then s0 s1 s2 (kept_once s0 s1 c.len.ensures.disk) (kept_once s1 s2 c.read_at.ensures.disk)

pub returns-in_err-given-clause-refused : goal.returns-in_err-given-clause-refused
returns-in_err-given-clause-refused g c =
    let p = err_from_is_err_and c.from_residual-in_err-given.result c.from_residual-in_err-given.ensures.1 in
    let s0 = g.H.Host.state c.args.host.now in
    let s1 = g.H.Host.state c.len.new.self in
    let s2 = g.H.Host.state c.read_at.new.self in
    let size : Option ℕ = Some c.in-Some.field-0 in
    let asked : OnlyAsked _ NoCall s0 s1 = length_asked c.args.name.now s0 s1 c.in_ok-len.field-0 size c.in-Some.is c.in_ok-len.ensures.told c.in_ok-len.ensures.cause.still c.len.ensures.counts c.len.ensures.files c.in_ok-len.ensures.honest in
    let last = node_failed c.args.name.now s1 s2 c.in_err-given.ensures.told c.in_err-given.ensures.cause.once c.read_at.ensures.files c.read_at.ensures.counts in
    rw p.1 (no_bytes c.in-Some.field-0 (asked_after c.args.name.now size _ _ s0 s1 s2 asked last) p.2)

pub returns-in_err-nonce-clause-disk : goal.returns-in_err-nonce-clause-disk
returns-in_err-nonce-clause-disk g c =
    let s0 = g.H.Host.state c.args.host.now in
    let s1 = g.H.Host.state c.len.new.self in
    let s2 = g.H.Host.state c.read_at.new.self in
    kept_then s0 s1 s2 (kept_once s0 s1 c.len.ensures.disk) (kept_once s1 s2 c.read_at.ensures.disk)

pub returns-in_err-nonce-clause-refused : goal.returns-in_err-nonce-clause-refused
returns-in_err-nonce-clause-refused g c =
    let p = err_from_is_err_and c.from_residual-in_err-nonce.result c.from_residual-in_err-nonce.ensures.1 in
    let s0 = g.H.Host.state c.args.host.now in
    let s1 = g.H.Host.state c.len.new.self in
    let s2 = g.H.Host.state c.read_at.new.self in
    let size : Option ℕ = Some c.in-Some.field-0 in
    let bytes = take c.in_ok-given.given c.read_at.new.to in
    let asked : OnlyAsked _ NoCall s0 s1 = length_asked c.args.name.now s0 s1 c.in_ok-len.field-0 size c.in-Some.is c.in_ok-len.ensures.told c.in_ok-len.ensures.cause.still c.len.ensures.counts c.len.ensures.files c.in_ok-len.ensures.honest in
    let last = node_asked c.args.name.now s1 s2 0 c.in_ok-given.given _ c.read_at.new.to c.in_ok-given.ensures.rest refl c.in_ok-given.ensures.told c.in_ok-given.ensures.cause.still c.read_at.ensures.counts c.read_at.ensures.files c.in_ok-given.ensures.honest in
    rw p.1 (subst (λ (fault : OpenFault). NodeRefused c.args.name.now s0 s2 fault) (sym p.2) (node_refused c.in-Some.field-0 bytes (asked_after c.args.name.now size _ _ s0 s1 s2 asked last) c.in_err-nonce.ensures.refused))

pub returns-clause-disk : goal.returns-clause-disk
returns-clause-disk g c =
    let s0 = g.H.Host.state c.args.host.now in
    let s1 = g.H.Host.state c.len.new.self in
    let s2 = g.H.Host.state c.read_at.new.self in
    kept_then s0 s1 s2 (kept_once s0 s1 c.len.ensures.disk) (kept_once s1 s2 c.read_at.ensures.disk)

pub returns-clause-read : goal.returns-clause-read
returns-clause-read g c =
    let s0 = g.H.Host.state c.args.host.now in
    let s1 = g.H.Host.state c.len.new.self in
    let s2 = g.H.Host.state c.read_at.new.self in
    let size : Option ℕ = Some c.in-Some.field-0 in
    let bytes = take c.in_ok-given.given c.read_at.new.to in
    let openable = c.in_ok-nonce.ensures.openable.0 in
    let all : bytes ≡ c.read_at.new.to = take_all _ _ (omega (arith, openable.whole, length-take c.in_ok-given.given c.read_at.new.to, c.in_ok-given.ensures.rest.same_length)) in
    let asked : OnlyAsked _ NoCall s0 s1 = length_asked c.args.name.now s0 s1 c.in_ok-len.field-0 size c.in-Some.is c.in_ok-len.ensures.told c.in_ok-len.ensures.cause.still c.len.ensures.counts c.len.ensures.files c.in_ok-len.ensures.honest in
    let last = node_asked c.args.name.now s1 s2 0 c.in_ok-given.given _ c.read_at.new.to c.in_ok-given.ensures.rest refl c.in_ok-given.ensures.told c.in_ok-given.ensures.cause.still c.read_at.ensures.counts c.read_at.ensures.files c.in_ok-given.ensures.honest in
    let both = asked_after c.args.name.now size _ _ s0 s1 s2 asked last in
    record {
      size = c.in-Some.field-0;
      asked = subst (λ (l : List ℕ). OnlyAsked (node_answers c.args.name.now c.in-Some.field-0 l) NoCall s0 s2) all both;
      openable = subst (λ (l : List ℕ). IsOpenable l) all openable;
      nonce_is = c.in_ok-nonce.ensures.openable.1;
    }
