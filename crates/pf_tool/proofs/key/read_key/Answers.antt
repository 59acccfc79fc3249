use Rattle.std.proofs.Common.{◌≡◌, ℕ, length, take, refl, ap, ◌∙◌, arith, rules, Some, None}
use Rattle.std.proofs.lemmas.List.{length-take-le}
use Rattle.std.proofs.lemmas.Result.{err_from_is_err_and}
use Rattle.pf_io.specs.Names.{IsName}
use Rattle.pf_io.proofs.Unchanged.{kept_once, kept_then}
use Rattle.pf_tool.proofs.Calls.{length_passed, length_failed, read_passed, read_failed}
use Rattle.pf_tool.proofs.KeyReading.{no_name, no_length, no_file, other_length, no_bytes, few_bytes}
use Rattle.pf_tool.proofs.key.read_key.Goals as goal

pub returns-then-not-is_name-clause-refused : goal.returns-then-not-is_name-clause-refused
returns-then-not-is_name-clause-refused g c world =
    let unnamed : ¬ (IsName c.args.name.now) = search rules in
    no_name c.args.name.now world (g.H.Host.state c.args.host.now) unnamed

pub returns-in_err-length-clause-disk : goal.returns-in_err-length-clause-disk
returns-in_err-length-clause-disk g c = kept_once (g.H.Host.state c.args.host.now) (g.H.Host.state c.len.new.self) c.len.ensures.disk

pub returns-in_err-length-clause-refused : goal.returns-in_err-length-clause-refused
returns-in_err-length-clause-refused g c =
    let p = err_from_is_err_and c.from_residual.result c.from_residual.ensures.1 in
    let named : IsName c.args.name.now = search rules in
    let s0 = g.H.Host.state c.args.host.now in
    let s1 = g.H.Host.state c.len.new.self in
    rw p.1 (λ world. no_length c.args.name.now world s0 p.0 s1 named p.2 (length_failed c.args.name.now None s0 s1 c.in_err-length.ensures.told c.in_err-length.ensures.cause.once c.len.ensures.counts) (kept_once s0 s1 c.len.ensures.disk))

pub returns-in_default-clause-disk : goal.returns-in_default-clause-disk
returns-in_default-clause-disk g c = kept_once (g.H.Host.state c.args.host.now) (g.H.Host.state c.len.new.self) c.len.ensures.disk

pub returns-in_default-clause-refused : goal.returns-in_default-clause-refused
returns-in_default-clause-refused g c world =
    let named : IsName c.args.name.now = search rules in
    let s0 = g.H.Host.state c.args.host.now in
    let s1 = g.H.Host.state c.len.new.self in
    no_file c.args.name.now world s0 _ c.in_ok-length.field-0 s1 named refl refl c.in_default.is
    (length_passed c.args.name.now c.in_ok-length.field-0 s0 s1 c.in_ok-length.ensures.told c.in_ok-length.ensures.cause.still c.len.ensures.counts c.in_ok-length.ensures.honest) (kept_once s0 s1 c.len.ensures.disk)

pub returns-then-length-ne16-clause-disk : goal.returns-then-length-ne16-clause-disk
returns-then-length-ne16-clause-disk g c = kept_once (g.H.Host.state c.args.host.now) (g.H.Host.state c.len.new.self) c.len.ensures.disk

pub returns-then-length-ne16-clause-refused : goal.returns-then-length-ne16-clause-refused
returns-then-length-ne16-clause-refused g c world =
    let named : IsName c.args.name.now = search rules in
    let s0 = g.H.Host.state c.args.host.now in
    let s1 = g.H.Host.state c.len.new.self in
    other_length c.args.name.now world s0 c.in-Some.length c.in_ok-length.field-0 s1 named c.if-length-ne16.true c.in-Some.is
    (length_passed c.args.name.now c.in_ok-length.field-0 s0 s1 c.in_ok-length.ensures.told c.in_ok-length.ensures.cause.still c.len.ensures.counts c.in_ok-length.ensures.honest) (kept_once s0 s1 c.len.ensures.disk)

pub returns-in_err-given-clause-disk : goal.returns-in_err-given-clause-disk
returns-in_err-given-clause-disk g c =
    let s0 = g.H.Host.state c.args.host.now in
    let s1 = g.H.Host.state c.len.new.self in
    let s2 = g.H.Host.state c.read_at.new.self in
    kept_then s0 s1 s2 (kept_once s0 s1 c.len.ensures.disk) (kept_once s1 s2 c.read_at.ensures.disk)

pub returns-in_err-given-clause-refused : goal.returns-in_err-given-clause-refused
returns-in_err-given-clause-refused g c =
    let p = err_from_is_err_and c.from_residual-in_err-given.result c.from_residual-in_err-given.ensures.1 in
    let named : IsName c.args.name.now = search rules in
    let s0 = g.H.Host.state c.args.host.now in
    let s1 = g.H.Host.state c.len.new.self in
    let s2 = g.H.Host.state c.read_at.new.self in
    let sixteen : c.in_ok-length.field-0 ≡ Some 16 = c.in-Some.is ∙ ap (λ (n : ℕ). Some n) c.if-length-ne16.false in
    rw p.1 (λ world. no_bytes c.args.name.now world s0 p.0 c.in_ok-length.field-0 s1 s2 named p.2 sixteen
    (length_passed c.args.name.now c.in_ok-length.field-0 s0 s1 c.in_ok-length.ensures.told c.in_ok-length.ensures.cause.still c.len.ensures.counts c.in_ok-length.ensures.honest)
    (read_failed c.args.name.now 0 16 _ _ s1 s2 c.in_err-given.ensures.told c.in_err-given.ensures.cause.once c.read_at.ensures.counts)
    (kept_then s0 s1 s2 (kept_once s0 s1 c.len.ensures.disk) (kept_once s1 s2 c.read_at.ensures.disk)))

pub returns-then-given-lt16-clause-refused : goal.returns-then-given-lt16-clause-refused
returns-then-given-lt16-clause-refused g c world =
    let named : IsName c.args.name.now = search rules in
    let s0 = g.H.Host.state c.args.host.now in
    let s1 = g.H.Host.state c.len.new.self in
    let s2 = g.H.Host.state c.read_at.new.self in
    let sixteen : c.in_ok-length.field-0 ≡ Some 16 = c.in-Some.is ∙ ap (λ (n : ℕ). Some n) c.if-length-ne16.false in
    let bytes = take c.in_ok-given.given c.read_at.new.to in
    let long : length bytes ≡ c.in_ok-given.given = length-take-le c.in_ok-given.given c.read_at.new.to (omega (arith, c.in_ok-given.ensures.rest.within, c.in_ok-given.ensures.rest.same_length)) in
    few_bytes c.args.name.now world s0 c.in_ok-given.given c.in_ok-length.field-0 bytes s1 s2 named c.if-given-lt16.true long sixteen
    (length_passed c.args.name.now c.in_ok-length.field-0 s0 s1 c.in_ok-length.ensures.told c.in_ok-length.ensures.cause.still c.len.ensures.counts c.in_ok-length.ensures.honest) c.len.ensures.files
    (read_passed c.args.name.now 0 c.in_ok-given.given 16 _ c.read_at.new.to s1 s2 c.in_ok-given.ensures.rest refl c.in_ok-given.ensures.told c.in_ok-given.ensures.cause.still c.read_at.ensures.counts c.in_ok-given.ensures.honest)
    (kept_then s0 s1 s2 (kept_once s0 s1 c.len.ensures.disk) (kept_once s1 s2 c.read_at.ensures.disk))

pub returns-clause-disk : goal.returns-clause-disk
returns-clause-disk g c =
    let s0 = g.H.Host.state c.args.host.now in
    let s1 = g.H.Host.state c.len.new.self in
    let s2 = g.H.Host.state c.read_at.new.self in
    kept_then s0 s1 s2 (kept_once s0 s1 c.len.ensures.disk) (kept_once s1 s2 c.read_at.ensures.disk)
