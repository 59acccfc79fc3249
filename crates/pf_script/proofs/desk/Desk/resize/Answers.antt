use Rattle.std.proofs.Common.{false, refl}
use Rattle.pf_script.specs.Desk.{DeskState}
use Rattle.pf_script.specs.declared.line.ScriptLine.TheVariants as lines
use Rattle.pf_script.proofs.DeskLine.{line_made}
use Rattle.pf_script.proofs.desk.Desk.resize.Goals as goal

pub invariant_of-self : goal.invariant_of-self
invariant_of-self g c =
    let inside : DeskState = record { key = c.self.inside.key; seats = c.self.inside.seats } in
    (line_made inside c.self.invariant c.args.self.now c.self.view_is c.args.seat c.requires c.index-self-seat.result false (lines.Size c.args.seat c.args.size) refl tt c.set_size.new.seat c.set_size.result (g.H.Host.state c.args.host.now) (g.H.Host.state c.set_size.new.host) (g.R.Words.state c.args.random.now) (g.R.Words.state c.set_size.new.random)
    (record { goes = c.set_size.ensures.goes c.self.inside.key c.args.seat; booked = c.set_size.ensures.booked c.self.inside.key c.args.seat })).well

pub returns-clause-goes : goal.returns-clause-goes
returns-clause-goes g c =
    let inside : DeskState = record { key = c.self.inside.key; seats = c.self.inside.seats } in
    (line_made inside c.self.invariant c.args.self.now c.self.view_is c.args.seat c.requires c.index-self-seat.result false (lines.Size c.args.seat c.args.size) refl tt c.set_size.new.seat c.set_size.result (g.H.Host.state c.args.host.now) (g.H.Host.state c.set_size.new.host) (g.R.Words.state c.args.random.now) (g.R.Words.state c.set_size.new.random)
    (record { goes = c.set_size.ensures.goes c.self.inside.key c.args.seat; booked = c.set_size.ensures.booked c.self.inside.key c.args.seat })).goes

pub returns-clause-booked : goal.returns-clause-booked
returns-clause-booked g c =
    let inside : DeskState = record { key = c.self.inside.key; seats = c.self.inside.seats } in
    (line_made inside c.self.invariant c.args.self.now c.self.view_is c.args.seat c.requires c.index-self-seat.result false (lines.Size c.args.seat c.args.size) refl tt c.set_size.new.seat c.set_size.result (g.H.Host.state c.args.host.now) (g.H.Host.state c.set_size.new.host) (g.R.Words.state c.args.random.now) (g.R.Words.state c.set_size.new.random)
    (record { goes = c.set_size.ensures.goes c.self.inside.key c.args.seat; booked = c.set_size.ensures.booked c.self.inside.key c.args.seat })).booked
