use Rattle.std.proofs.Common.{◌<◌, ◌≤◌, List, ℕ, length, subst, sym, arith}
use Rattle.std.proofs.lemmas.Result.{err_from_is_err_and}
use Rattle.pf_io.specs.Unchanged.{KeepsDisk}
use Rattle.pf_io.proofs.Unchanged.{kept_then}
use Rattle.pf_tool.specs.World.{with_host}
use Rattle.pf_tool.specs.InputSlices.{SlicesLead, SlicesRead}
use Rattle.pf_tool.specs.Outcomes.{Falls}
use Rattle.pf_tool.specs.declared.fault.Fault.{Fault}
use Rattle.pf_tool.proofs.InputReading.{ReadTo, read_none, read_more, read_last, read_failed, read_large}
use Rattle.pf_tool.proofs.input_file.read_slices.Goals as goal

pub loop-bytes-init : goal.loop-bytes-init
loop-bytes-init g c =
    let s0 = g.H.Host.state c.args.host.now in
    subst (λ (l : List ℕ). ReadTo c.args.name.now l s0 s0) (sym c.new-bytes.ensures.items) (read_none c.args.name.now s0)

pub returns-in_err-given-clause-refused : goal.returns-in_err-given-clause-refused
returns-in_err-given-clause-refused g c =
    let p = err_from_is_err_and c.from_residual.result c.from_residual.ensures.1 in
    let name = c.args.name.now in
    let s0 = g.H.Host.state c.args.host.now in
    let s1 = g.H.Host.state c.loop-bytes.host in
    let s2 = g.H.Host.state c.add_slice.new.host in
    rw p.1 (λ size world. subst (λ (f : Fault). Falls (SlicesLead name size) (λ _ _. KeepsDisk) f (with_host world s0) (with_host world s2)) (sym p.2)
    (read_failed name c.requires size world c.in_err-given.field-0.0 c.loop-bytes.bytes.items s0 s1 s2 c.loop-bytes.invariant c.in_err-given.ensures.fails c.in_err-given.ensures.disk))

pub returns-then-len-gt-MOST_INPUT-clause-disk : goal.returns-then-len-gt-MOST_INPUT-clause-disk
returns-then-len-gt-MOST_INPUT-clause-disk g c = kept_then (g.H.Host.state c.args.host.now) (g.H.Host.state c.loop-bytes.host) (g.H.Host.state c.add_slice.new.host) c.loop-bytes.invariant.disk c.in_ok-given.ensures.disk

pub returns-then-len-gt-MOST_INPUT-clause-refused : goal.returns-then-len-gt-MOST_INPUT-clause-refused
returns-then-len-gt-MOST_INPUT-clause-refused g c = λ size world.
    let now = c.add_slice.new.bytes in
    let large : 4194304 < length now.items = omega (arith, c.if-len-gt-MOST_INPUT.true, c.len.ensures, now.ok.0) in
    read_large c.args.name.now c.requires size world c.in_ok-given.given c.loop-bytes.bytes.items now.items (g.H.Host.state c.args.host.now) (g.H.Host.state c.loop-bytes.host) (g.H.Host.state c.add_slice.new.host)
    c.loop-bytes.invariant c.in_ok-given.ensures.added large c.in_ok-given.ensures.disk

pub returns-then-given-lt-SLICE-clause-disk : goal.returns-then-given-lt-SLICE-clause-disk
returns-then-given-lt-SLICE-clause-disk g c = kept_then (g.H.Host.state c.args.host.now) (g.H.Host.state c.loop-bytes.host) (g.H.Host.state c.add_slice.new.host) c.loop-bytes.invariant.disk c.in_ok-given.ensures.disk

pub returns-then-given-lt-SLICE-clause-read : goal.returns-then-given-lt-SLICE-clause-read
returns-then-given-lt-SLICE-clause-read g c =
    let name = c.args.name.now in
    let now = c.add_slice.new.bytes in
    let s0 = g.H.Host.state c.args.host.now in
    let s2 = g.H.Host.state c.add_slice.new.host in
    let small : length now.items ≤ 4194304 = omega (arith, c.if-len-gt-MOST_INPUT.false, c.len.ensures, now.ok.0) in
    subst (λ (l : List ℕ). SlicesRead name l s0 s2) (sym c.from.ensures)
    (read_last name c.in_ok-given.given c.loop-bytes.bytes.items now.items s0 (g.H.Host.state c.loop-bytes.host) s2 c.loop-bytes.invariant c.in_ok-given.ensures.added c.if-given-lt-SLICE.true small)

pub loop-bytes-preserved : goal.loop-bytes-preserved
loop-bytes-preserved g c =
    let now = c.add_slice.new.bytes in
    let added = c.in_ok-given.ensures.added in
    let count_is = added.count_is in
    let short = added.short in
    let small : length now.items ≤ 4194304 = omega (arith, c.if-len-gt-MOST_INPUT.false, c.len.ensures, now.ok.0) in
    read_more c.args.name.now c.in_ok-given.given c.loop-bytes.bytes.items now.items (g.H.Host.state c.args.host.now) (g.H.Host.state c.loop-bytes.host) (g.H.Host.state c.add_slice.new.host)
    c.loop-bytes.invariant added (omega (arith, count_is, short, c.if-given-lt-SLICE.false)) small c.in_ok-given.ensures.files c.in_ok-given.ensures.disk
