use Rattle.pf_io.proofs.SideFiles.{failed_with}
use Rattle.pf_io.proofs.SideEnds.{swap_done, swap_failed, side_failed}
use Rattle.pf_io.proofs.side_file.write_by_side_file.Goals as goal

pub returns-in_err-make_side_file-clause-failed : goal.returns-in_err-make_side_file-clause-failed
returns-in_err-make_side_file-clause-failed g c =
    let old = g.H.Host.state c.args.host.now in
    let made = g.H.Host.state c.make_side_file.new.host in
    failed_with c.from_residual.result _ c.from_residual.ensures.0
    (side_failed c.args.name.now c.args.side.now c.args.bytes.now c.requires old made c.in_err-make_side_file.ensures.failed)

pub returns-clause-done : goal.returns-clause-done
returns-clause-done g c =
    let old = g.H.Host.state c.args.host.now in
    let made = g.H.Host.state c.make_side_file.new.host in
    let swapped = g.H.Host.state c.swap_name.new.self in
    swap_done c.args.name.now c.args.side.now c.args.bytes.now c.requires c.swap_name.result old made swapped c.in_ok-make_side_file.ensures.done
    c.swap_name.ensures.told c.swap_name.ensures.counts c.swap_name.ensures.disk

pub returns-clause-failed : goal.returns-clause-failed
returns-clause-failed g c =
    let old = g.H.Host.state c.args.host.now in
    let made = g.H.Host.state c.make_side_file.new.host in
    let swapped = g.H.Host.state c.swap_name.new.self in
    swap_failed c.args.name.now c.args.side.now c.args.bytes.now c.requires c.swap_name.result old made swapped c.in_ok-make_side_file.ensures.done
    c.swap_name.ensures.told c.swap_name.ensures.counts c.swap_name.ensures.disk
