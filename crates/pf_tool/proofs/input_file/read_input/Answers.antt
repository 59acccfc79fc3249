use Rattle.std.proofs.Common.{ℕ, [], ◌∷◌, refl, subst, rules, Option, None}
use Rattle.std.proofs.lemmas.Result.{err_from_is_err_and}
use Rattle.pf_io.specs.Host.{LengthWas}
use Rattle.pf_io.specs.Names.{IsName}
use Rattle.pf_io.proofs.Unchanged.{kept_once, kept_then}
use Rattle.pf_tool.specs.Happened.{HostPassed}
use Rattle.pf_tool.proofs.Calls.{length_passed, length_failed}
use Rattle.pf_tool.proofs.InputReading.{no_name, no_length, no_file, all_read, all_fall}
use Rattle.pf_tool.proofs.input_file.read_input.Goals as goal

pub returns-then-not-is_name-clause-refused : goal.returns-then-not-is_name-clause-refused
returns-then-not-is_name-clause-refused g c world =
    let unnamed : ¬ (IsName c.args.name.now) = search rules in
    no_name c.args.name.now world (g.H.Host.state c.args.host.now) unnamed

pub returns-in_err-len-clause-disk : goal.returns-in_err-len-clause-disk
returns-in_err-len-clause-disk g c = kept_once (g.H.Host.state c.args.host.now) (g.H.Host.state c.len.new.self) c.len.ensures.disk

pub returns-in_err-len-clause-refused : goal.returns-in_err-len-clause-refused
returns-in_err-len-clause-refused g c =
    let p = err_from_is_err_and c.from_residual.result c.from_residual.ensures.1 in
    let named : IsName c.args.name.now = search rules in
    let s0 = g.H.Host.state c.args.host.now in
    let s1 = g.H.Host.state c.len.new.self in
    rw p.1 (λ world. no_length c.args.name.now world s0 named p.0 s1 p.2 (length_failed c.args.name.now None s0 s1 c.in_err-len.ensures.told c.in_err-len.ensures.cause.once c.len.ensures.counts) (kept_once s0 s1 c.len.ensures.disk))

pub returns-in_default-clause-disk : goal.returns-in_default-clause-disk
returns-in_default-clause-disk g c = kept_once (g.H.Host.state c.args.host.now) (g.H.Host.state c.len.new.self) c.len.ensures.disk

pub returns-in_default-clause-refused : goal.returns-in_default-clause-refused
returns-in_default-clause-refused g c world =
    let named : IsName c.args.name.now = search rules in
    let s0 = g.H.Host.state c.args.host.now in
    let s1 = g.H.Host.state c.len.new.self in
    no_file c.args.name.now world s0 named _ c.in_ok-len.field-0 s1 refl refl c.in_default.is
    (length_passed c.args.name.now c.in_ok-len.field-0 s0 s1 c.in_ok-len.ensures.told c.in_ok-len.ensures.cause.still c.len.ensures.counts c.in_ok-len.ensures.honest) (kept_once s0 s1 c.len.ensures.disk)

pub returns-clause-disk : goal.returns-clause-disk
returns-clause-disk g c =
    let s0 = g.H.Host.state c.args.host.now in
    let s1 = g.H.Host.state c.len.new.self in
    kept_then s0 s1 (g.H.Host.state c.read_slices.new.host) (kept_once s0 s1 c.len.ensures.disk) c.read_slices.ensures.disk

pub returns-clause-read : goal.returns-clause-read
returns-clause-read g c =
    let named : IsName c.args.name.now = search rules in
    let name = c.args.name.now in
    let s0 = g.H.Host.state c.args.host.now in
    let s1 = g.H.Host.state c.len.new.self in
    let passed = subst (λ (o : Option ℕ). HostPassed (LengthWas name o ∷ []) s0 s1) c.in-Some.is
    (length_passed name c.in_ok-len.field-0 s0 s1 c.in_ok-len.ensures.told c.in_ok-len.ensures.cause.still c.len.ensures.counts c.in_ok-len.ensures.honest) in
    all_read name named c.in-Some.field-0 s0 s1 (g.H.Host.state c.read_slices.new.host) passed c.len.ensures.files c.read_slices.result c.read_slices.ensures.read

pub returns-clause-refused : goal.returns-clause-refused
returns-clause-refused g c =
    let named : IsName c.args.name.now = search rules in
    let name = c.args.name.now in
    let s0 = g.H.Host.state c.args.host.now in
    let s1 = g.H.Host.state c.len.new.self in
    let passed = subst (λ (o : Option ℕ). HostPassed (LengthWas name o ∷ []) s0 s1) c.in-Some.is
    (length_passed name c.in_ok-len.field-0 s0 s1 c.in_ok-len.ensures.told c.in_ok-len.ensures.cause.still c.len.ensures.counts c.in_ok-len.ensures.honest) in
    all_fall name named c.in-Some.field-0 s0 s1 (g.H.Host.state c.read_slices.new.host) passed c.len.ensures.files c.read_slices.result (returns-clause-disk g c) c.read_slices.ensures.refused
