use Rattle.std.proofs.Common.{List, ℕ, sym, subst, Option}
use Rattle.std.specs.Prelude.{option_map}
use Rattle.pf_tool.specs.World.{with_host, with_out}
use Rattle.pf_tool.specs.Outcomes.{ComesOut}
use Rattle.pf_tool.specs.Summing.{WritesSums, LeavesSums}
use Rattle.pf_tool.proofs.sums.write_summed.Goals as goal
use denote.Ref.{Bor}

pub returns-in-Some : goal.returns-in-Some
returns-in-Some g c world =
    let seen = c.args.manifest.now in
    let sums = c.args.sums.now in
    let old = with_out (with_host world (g.H.Host.state c.args.host.now)) (g.K.Sink.state c.args.out.now) in
    let new = with_out (with_host world (g.H.Host.state c.write_lines_and_file.new.host)) (g.K.Sink.state c.write_lines_and_file.new.out) in
    subst (λ (o : Option (Bor (List ℕ))). ComesOut (WritesSums (option_map (λ name. name.now) o) seen sums) (LeavesSums (option_map (λ name. name.now) o) seen sums) c.write_lines_and_file.result old new) (sym c.in-Some.is)
    (c.write_lines_and_file.ensures world)

pub returns-in-None : goal.returns-in-None
returns-in-None g c world =
    let seen = c.args.manifest.now in
    let sums = c.args.sums.now in
    let host = g.H.Host.state c.args.host.now in
    let old = with_out (with_host world host) (g.K.Sink.state c.args.out.now) in
    let new = with_out (with_host world host) (g.K.Sink.state c.write_lines.new.out) in
    subst (λ (o : Option (Bor (List ℕ))). ComesOut (WritesSums (option_map (λ name. name.now) o) seen sums) (LeavesSums (option_map (λ name. name.now) o) seen sums) c.write_lines.result old new) (sym c.in-None.is)
    (c.write_lines.ensures (with_host world host))
