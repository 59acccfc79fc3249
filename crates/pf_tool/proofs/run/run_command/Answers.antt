use Rattle.std.proofs.Common.{sym, subst}
use Rattle.std.specs.Prelude.{option_map}
use Rattle.pf_tool.specs.World.{world_of}
use Rattle.pf_tool.specs.Requests.{Decrypt, Manifest, request_of, Sums, Measure}
use Rattle.pf_tool.specs.Runs.{Runs, RunsSealing}
use Rattle.pf_tool.specs.declared.words.Command.{Command}
use Rattle.pf_tool.proofs.RunClauses.{concluded}
use Rattle.pf_tool.proofs.run.run_command.Goals as goal

pub returns-in-Decrypt : goal.returns-in-Decrypt
returns-in-Decrypt g c =
    let input = g.S.Source.state c.args.input.now in
    let h0 = g.H.Host.state c.args.host.now in
    let h1 = g.H.Host.state c.decrypt.new.host in
    let o0 = g.K.Sink.state c.args.out.now in
    let o1 = g.K.Sink.state c.decrypt.new.out in
    let l0 = g.L.Sink.state c.args.log.now in
    let l1 = g.L.Sink.state c.conclude.new.log in
    let r0 = g.R.Words.state c.args.random.now in
    let command = c.in-Decrypt.command in
    subst (λ (x : Command). Runs (request_of x) (world_of h0 input o0 l0 r0) (world_of h1 input o1 l1 r0) c.conclude.result) (sym c.in-Decrypt.is)
    (concluded (Decrypt command.key.now command.input.now) c.decrypt.result h0 h1 input o0 o1 l0 l1 r0 r0 c.conclude.result (c.decrypt.ensures (world_of h0 input o0 l0 r0)) c.conclude.ensures)

pub returns-in-Encrypt : goal.returns-in-Encrypt
returns-in-Encrypt g c =
    let input = g.S.Source.state c.args.input.now in
    let h0 = g.H.Host.state c.args.host.now in
    let h1 = g.H.Host.state c.encrypt.new.host in
    let o0 = g.K.Sink.state c.args.out.now in
    let l0 = g.L.Sink.state c.args.log.now in
    let l1 = g.L.Sink.state c.conclude-in-Encrypt.new.log in
    let r0 = g.R.Words.state c.args.random.now in
    let r1 = g.R.Words.state c.encrypt.new.random in
    let command = c.in-Encrypt.command in
    let runs : RunsSealing command.key.now command.input.now command.output.now (world_of h0 input o0 l0 r0) (world_of h1 input o0 l1 r1) c.conclude-in-Encrypt.result =
    record { ended = c.encrypt.result; goes = c.encrypt.ensures (world_of h0 input o0 l0 r0); concludes = c.conclude-in-Encrypt.ensures } in
    subst (λ (x : Command). Runs (request_of x) (world_of h0 input o0 l0 r0) (world_of h1 input o0 l1 r1) c.conclude-in-Encrypt.result) (sym c.in-Encrypt.is) runs

pub returns-in-Manifest : goal.returns-in-Manifest
returns-in-Manifest g c =
    let input = g.S.Source.state c.args.input.now in
    let h0 = g.H.Host.state c.args.host.now in
    let h1 = g.H.Host.state c.write_manifest.new.host in
    let o0 = g.K.Sink.state c.args.out.now in
    let o1 = g.K.Sink.state c.write_manifest.new.out in
    let l0 = g.L.Sink.state c.args.log.now in
    let l1 = g.L.Sink.state c.conclude-in-Manifest.new.log in
    let r0 = g.R.Words.state c.args.random.now in
    let command = c.in-Manifest.command in
    subst (λ (x : Command). Runs (request_of x) (world_of h0 input o0 l0 r0) (world_of h1 input o1 l1 r0) c.conclude-in-Manifest.result) (sym c.in-Manifest.is)
    (concluded (Manifest command.values command.template.now (option_map (λ name. name.now) command.output)) c.write_manifest.result h0 h1 input o0 o1 l0 l1 r0 r0 c.conclude-in-Manifest.result (c.write_manifest.ensures (world_of h0 input o0 l0 r0)) c.conclude-in-Manifest.ensures)

pub returns-in-Sums : goal.returns-in-Sums
returns-in-Sums g c =
    let input = g.S.Source.state c.args.input.now in
    let h0 = g.H.Host.state c.args.host.now in
    let h1 = g.H.Host.state c.write_sums.new.host in
    let o0 = g.K.Sink.state c.args.out.now in
    let o1 = g.K.Sink.state c.write_sums.new.out in
    let l0 = g.L.Sink.state c.args.log.now in
    let l1 = g.L.Sink.state c.conclude-in-Sums.new.log in
    let r0 = g.R.Words.state c.args.random.now in
    let command = c.in-Sums.command in
    subst (λ (x : Command). Runs (request_of x) (world_of h0 input o0 l0 r0) (world_of h1 input o1 l1 r0) c.conclude-in-Sums.result) (sym c.in-Sums.is)
    (concluded (Sums command.manifest.now (option_map (λ name. name.now) command.output)) c.write_sums.result h0 h1 input o0 o1 l0 l1 r0 r0 c.conclude-in-Sums.result (c.write_sums.ensures (world_of h0 input o0 l0 r0)) c.conclude-in-Sums.ensures)

pub returns-in-Measure : goal.returns-in-Measure
returns-in-Measure g c =
    let input = g.S.Source.state c.args.input.now in
    let h0 = g.H.Host.state c.args.host.now in
    let h1 = g.H.Host.state c.measure_layout.new.host in
    let o0 = g.K.Sink.state c.args.out.now in
    let o1 = g.K.Sink.state c.measure_layout.new.out in
    let l0 = g.L.Sink.state c.args.log.now in
    let l1 = g.L.Sink.state c.conclude-in-Measure.new.log in
    let r0 = g.R.Words.state c.args.random.now in
    let command = c.in-Measure.command in
    subst (λ (x : Command). Runs (request_of x) (world_of h0 input o0 l0 r0) (world_of h1 input o1 l1 r0) c.conclude-in-Measure.result) (sym c.in-Measure.is)
    (concluded (Measure command.layout.now) c.measure_layout.result h0 h1 input o0 o1 l0 l1 r0 r0 c.conclude-in-Measure.result (c.measure_layout.ensures (world_of h0 input o0 l0 r0)) c.conclude-in-Measure.ensures)

pub returns-in-Session : goal.returns-in-Session
returns-in-Session g c =
    let w0 = world_of (g.H.Host.state c.args.host.now) (g.S.Source.state c.args.input.now) (g.K.Sink.state c.args.out.now) (g.L.Sink.state c.args.log.now) (g.R.Words.state c.args.random.now) in
    let w1 = world_of (g.H.Host.state c.run_script.new.host) (g.S.Source.state c.run_script.new.input) (g.K.Sink.state c.run_script.new.out) (g.L.Sink.state c.conclude_script.new.log) (g.R.Words.state c.run_script.new.random) in
    subst (λ (x : Command). Runs (request_of x) w0 w1 c.conclude_script.result) (sym c.in-Session.is)
    (record { ending = c.run_script.result; goes = c.run_script.ensures (g.L.Sink.state c.args.log.now); says = c.conclude_script.ensures })
