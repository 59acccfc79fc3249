use Rattle.std.proofs.Common.{List, ℕ, sym, subst, Option}
use Rattle.std.specs.Prelude.{option_map}
use Rattle.pf_tool.specs.World.{with_host, with_out}
use Rattle.pf_tool.specs.Outcomes.{ComesOut}
use Rattle.pf_tool.specs.Manifests.{WritesText, LeavesText}
use Rattle.pf_tool.proofs.manifest.write_text.Goals as goal
use denote.Ref.{Bor}

pub returns-in-Some : goal.returns-in-Some
returns-in-Some g c world =
    let out = g.K.Sink.state c.args.out.now in
    let text = c.args.text.now in
    let old = with_out (with_host world (g.H.Host.state c.args.host.now)) out in
    let new = with_out (with_host world (g.H.Host.state c.write_plain_file.new.host)) out in
    subst (λ (o : Option (Bor (List ℕ))). ComesOut (WritesText (option_map (λ name. name.now) o) text) (LeavesText (option_map (λ name. name.now) o) text) c.write_plain_file.result old new) (sym c.in-Some.is)
    (c.write_plain_file.ensures (with_out world out))

pub returns-in-None : goal.returns-in-None
returns-in-None g c world =
    let host = g.H.Host.state c.args.host.now in
    let text = c.args.text.now in
    let old = with_out (with_host world host) (g.K.Sink.state c.args.out.now) in
    let new = with_out (with_host world host) (g.K.Sink.state c.put_text.new.out) in
    subst (λ (o : Option (Bor (List ℕ))). ComesOut (WritesText (option_map (λ name. name.now) o) text) (LeavesText (option_map (λ name. name.now) o) text) c.put_text.result old new) (sym c.in-None.is)
    (c.put_text.ensures (with_host world host))
