use Rattle.std.proofs.Common.{false, refl, Ok}
use Rattle.pf_script.specs.Desk.{DeskState}
use Rattle.pf_script.specs.declared.line.ScriptLine.TheVariants as lines
use Rattle.pf_script.proofs.DeskLine.{line_made}
use Rattle.pf_script.proofs.desk.Desk.flush.Goals as goal

pub invariant_of-self : goal.invariant_of-self
invariant_of-self g c =
    let inside : DeskState = record { key = c.self.inside.key; seats = c.self.inside.seats } in
    (line_made inside c.self.invariant c.args.self.now c.self.view_is c.args.seat c.requires c.index-self-seat.result false (lines.Flush c.args.seat) refl tt c.flush_seat.new.seat (Ok c.flush_seat.result) (g.H.Host.state c.args.host.now) (g.H.Host.state c.flush_seat.new.host) (g.R.Words.state c.args.random.now) (g.R.Words.state c.flush_seat.new.random)
    (record { goes = c.flush_seat.ensures.goes c.self.inside.key c.args.seat; booked = c.flush_seat.ensures.booked c.self.inside.key c.args.seat })).well

pub returns-clause-goes : goal.returns-clause-goes
returns-clause-goes g c =
    let inside : DeskState = record { key = c.self.inside.key; seats = c.self.inside.seats } in
    (line_made inside c.self.invariant c.args.self.now c.self.view_is c.args.seat c.requires c.index-self-seat.result false (lines.Flush c.args.seat) refl tt c.flush_seat.new.seat (Ok c.flush_seat.result) (g.H.Host.state c.args.host.now) (g.H.Host.state c.flush_seat.new.host) (g.R.Words.state c.args.random.now) (g.R.Words.state c.flush_seat.new.random)
    (record { goes = c.flush_seat.ensures.goes c.self.inside.key c.args.seat; booked = c.flush_seat.ensures.booked c.self.inside.key c.args.seat })).goes

pub returns-clause-booked : goal.returns-clause-booked
returns-clause-booked g c =
    let inside : DeskState = record { key = c.self.inside.key; seats = c.self.inside.seats } in
    (line_made inside c.self.invariant c.args.self.now c.self.view_is c.args.seat c.requires c.index-self-seat.result false (lines.Flush c.args.seat) refl tt c.flush_seat.new.seat (Ok c.flush_seat.result) (g.H.Host.state c.args.host.now) (g.H.Host.state c.flush_seat.new.host) (g.R.Words.state c.args.random.now) (g.R.Words.state c.flush_seat.new.random)
    (record { goes = c.flush_seat.ensures.goes c.self.inside.key c.args.seat; booked = c.flush_seat.ensures.booked c.self.inside.key c.args.seat })).booked
