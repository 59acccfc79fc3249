use Rattle.std.proofs.Common.{ℕ, Err, sym, subst, ◌∙◌, arith}
use Rattle.std.proofs.lemmas.Result.{err_from_is_err_and}
use Rattle.pf_io.specs.Counts.{HasCause}
use Rattle.pf_io.specs.Host.{OnHonest}
use Rattle.pf_io.proofs.Unchanged.{kept_then}
use Rattle.trusted_chunks.specs.State.{FileState}
use Rattle.trusted_chunks.specs.Reading.{host_part as read_part}
use Rattle.chunk_bench.specs.Files.{host_part, ReadsFile}
use Rattle.chunk_bench.specs.declared.fault.FileFault.{FileFault}
use Rattle.chunk_bench.proofs.Adding.{opening_cause, read_whole_file, read_no_file}
use Rattle.chunk_bench.proofs.files.read_file.Goals as goal

pub returns-in_err-file-clause-cause : goal.returns-in_err-file-clause-cause
returns-in_err-file-clause-cause g c =
    let p = err_from_is_err_and c.from_residual.result c.from_residual.ensures.1 in
    let old = g.H.Host.state c.args.host.now in
    let new = g.H.Host.state c.open.new.host in
    rw p.1 (subst (λ (x : FileFault). HasCause old.faults new.faults (host_part (Err x))) (sym p.2) (opening_cause FileState c.in_err-file.field-0.0 old.faults new.faults c.in_err-file.ensures.cause))

pub returns-in_err-file-clause-reads : goal.returns-in_err-file-clause-reads
returns-in_err-file-clause-reads g c =
    let p = err_from_is_err_and c.from_residual.result c.from_residual.ensures.1 in
    let old = g.H.Host.state c.args.host.now in
    rw p.1 (subst (λ (x : FileFault). OnHonest old (λ files. ReadsFile (Err x) c.args.sum.now (files c.args.name.now))) (sym p.2) c.in_err-file.ensures.honest)

pub returns-in_err-add_file-clause-cause : goal.returns-in_err-add_file-clause-cause
returns-in_err-add_file-clause-cause g c =
    let p = err_from_is_err_and c.from_residual-in_err-add_file.result c.from_residual-in_err-add_file.ensures.1 in
    let old = g.H.Host.state c.args.host.now in
    let new = g.H.Host.state c.add_file.new.host in
    let cause = subst (λ (a : ℕ). HasCause a new.faults (read_part {T = ℕ} (Err c.in_err-add_file.field-0.0))) c.in_ok-file.ensures.cause.still c.in_err-add_file.ensures.cause in
    rw p.1 (subst (λ (x : FileFault). HasCause old.faults new.faults (host_part (Err x))) (sym p.2) cause)

pub returns-in_err-add_file-clause-disk : goal.returns-in_err-add_file-clause-disk
returns-in_err-add_file-clause-disk g c = kept_then (g.H.Host.state c.args.host.now) (g.H.Host.state c.open.new.host) (g.H.Host.state c.add_file.new.host) c.in_ok-file.ensures.disk c.in_err-add_file.ensures.disk

pub returns-in_err-add_file-clause-reads : goal.returns-in_err-add_file-clause-reads
returns-in_err-add_file-clause-reads g c =
    let p = err_from_is_err_and c.from_residual-in_err-add_file.result c.from_residual-in_err-add_file.ensures.1 in
    let old = g.H.Host.state c.args.host.now in
    let opens = c.in_ok-file.ensures.opens in
    rw p.1 (subst (λ (x : FileFault). OnHonest old (λ files. ReadsFile (Err x) c.args.sum.now (files c.args.name.now))) (sym p.2)
    (read_no_file c.in_err-add_file.field-0.0 c.in_ok-file.file c.args.name.now c.args.sum.now old (g.H.Host.state c.open.new.host) c.in_ok-file.ensures.honest opens.ends.name_is opens.answered.files c.in_err-add_file.ensures.adds))

pub returns-clause-cause : goal.returns-clause-cause
returns-clause-cause g c = let same = c.in_ok-add_file.ensures.cause.still ∙ c.in_ok-file.ensures.cause.still in record { later = omega (arith, same); still = same; once = tt }

pub returns-clause-disk : goal.returns-clause-disk
returns-clause-disk g c = kept_then (g.H.Host.state c.args.host.now) (g.H.Host.state c.open.new.host) (g.H.Host.state c.add_file.new.host) c.in_ok-file.ensures.disk c.in_ok-add_file.ensures.disk

pub returns-clause-reads : goal.returns-clause-reads
returns-clause-reads g c =
    let opens = c.in_ok-file.ensures.opens in
    read_whole_file c.in_ok-add_file.field-0 c.in_ok-file.file c.args.name.now c.args.sum.now (g.H.Host.state c.args.host.now) (g.H.Host.state c.open.new.host) c.in_ok-file.ensures.honest opens.ends.name_is opens.answered.files c.in_ok-add_file.ensures.adds
