use Rattle.std.proofs.Common.{false, refl}
use Rattle.pf_script.specs.Desk.{DeskState}
use Rattle.pf_script.specs.declared.line.ScriptLine.TheVariants as lines
use Rattle.pf_script.proofs.DeskLine.{line_made}
use Rattle.pf_script.proofs.desk.Desk.fill.Goals as goal

pub invariant_of-self : goal.invariant_of-self
invariant_of-self g c =
    let inside : DeskState = record { key = c.self.inside.key; seats = c.self.inside.seats } in
    (line_made inside c.self.invariant c.args.self.now c.self.view_is c.args.seat c.requires c.index-self-seat.result false (lines.Fill c.args.seat c.args.at c.args.count c.args.byte) refl tt c.fill_bytes.new.seat c.fill_bytes.result (g.H.Host.state c.args.host.now) (g.H.Host.state c.fill_bytes.new.host) (g.R.Words.state c.args.random.now) (g.R.Words.state c.fill_bytes.new.random)
    (record { goes = c.fill_bytes.ensures.goes c.self.inside.key c.args.seat; booked = c.fill_bytes.ensures.booked c.self.inside.key c.args.seat })).well

pub returns-clause-goes : goal.returns-clause-goes
returns-clause-goes g c =
    let inside : DeskState = record { key = c.self.inside.key; seats = c.self.inside.seats } in
    (line_made inside c.self.invariant c.args.self.now c.self.view_is c.args.seat c.requires c.index-self-seat.result false (lines.Fill c.args.seat c.args.at c.args.count c.args.byte) refl tt c.fill_bytes.new.seat c.fill_bytes.result (g.H.Host.state c.args.host.now) (g.H.Host.state c.fill_bytes.new.host) (g.R.Words.state c.args.random.now) (g.R.Words.state c.fill_bytes.new.random)
    (record { goes = c.fill_bytes.ensures.goes c.self.inside.key c.args.seat; booked = c.fill_bytes.ensures.booked c.self.inside.key c.args.seat })).goes

pub returns-clause-booked : goal.returns-clause-booked
returns-clause-booked g c =
    let inside : DeskState = record { key = c.self.inside.key; seats = c.self.inside.seats } in
    (line_made inside c.self.invariant c.args.self.now c.self.view_is c.args.seat c.requires c.index-self-seat.result false (lines.Fill c.args.seat c.args.at c.args.count c.args.byte) refl tt c.fill_bytes.new.seat c.fill_bytes.result (g.H.Host.state c.args.host.now) (g.H.Host.state c.fill_bytes.new.host) (g.R.Words.state c.args.random.now) (g.R.Words.state c.fill_bytes.new.random)
    (record { goes = c.fill_bytes.ensures.goes c.self.inside.key c.args.seat; booked = c.fill_bytes.ensures.booked c.self.inside.key c.args.seat })).booked
