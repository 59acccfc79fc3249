use Rattle.pf_tool.proofs.NodeReading.{opening_falls, no_wrong_path, opening_done, kept_files}
use Rattle.pf_tool.proofs.decrypt.open.Goals as goal

pub returns-in-Ok-clause-opened : goal.returns-in-Ok-clause-opened
returns-in-Ok-clause-opened g c =
    opening_done c.args.user.now c.args.name.now (g.H.Host.state c.args.host.now) (g.H.Host.state c.open.new.host) c.in-Ok.session c.in-Ok.ensures.opens

pub opening_fault-requires : goal.opening_fault-requires
opening_fault-requires g c =
    no_wrong_path c.args.user.now c.args.name.now (g.H.Host.state c.args.host.now) (g.H.Host.state c.open.new.host) c.in-Err.fault c.in-Err.ensures.opens

pub returns-in-Err-clause-refused : goal.returns-in-Err-clause-refused
returns-in-Err-clause-refused g c world =
    opening_falls c.args.user.now c.args.name.now (g.H.Host.state c.args.host.now) (g.H.Host.state c.open.new.host) c.open.ensures.disk c.in-Err.fault c.opening_fault.result c.opening_fault.ensures world c.in-Err.ensures.opens

pub returns-in-Ok-clause-files : goal.returns-in-Ok-clause-files
returns-in-Ok-clause-files g c = kept_files (g.H.Host.state c.args.host.now) (g.H.Host.state c.open.new.host) c.open.ensures.disk

pub returns-in-Err-clause-files : goal.returns-in-Err-clause-files
returns-in-Err-clause-files g c = kept_files (g.H.Host.state c.args.host.now) (g.H.Host.state c.open.new.host) c.open.ensures.disk
