use Rattle.std.proofs.Common.{false, refl, None, Ok}
use Rattle.pf_io.specs.Host.{HostState}
use Rattle.pf_script.specs.Desk.{DeskState}
use Rattle.pf_script.specs.declared.line.ScriptLine.TheVariants as lines
use Rattle.pf_script.proofs.DeskLine.{line_made}
use Rattle.pf_script.proofs.desk.Desk.draw.Goals as goal

pub invariant_of-self : goal.invariant_of-self
invariant_of-self g c =
    let host : HostState = record { faults = 0; reads = 0; writes = 0; widest = 0; given = None; honest = None } in
    let inside : DeskState = record { key = c.self.inside.key; seats = c.self.inside.seats } in
    (line_made inside c.self.invariant c.args.self.now c.self.view_is c.args.seat c.requires c.index-self-seat.result false (lines.Draw c.args.seat) refl tt c.draw_nonce.new.seat (Ok c.draw_nonce.result) host host (g.R.Words.state c.args.random.now) (g.R.Words.state c.draw_nonce.new.random)
    (record { goes = c.draw_nonce.ensures.goes c.self.inside.key c.args.seat host; booked = c.draw_nonce.ensures.booked c.self.inside.key c.args.seat host })).well

pub returns-clause-goes : goal.returns-clause-goes
returns-clause-goes g c host =
    let inside : DeskState = record { key = c.self.inside.key; seats = c.self.inside.seats } in
    (line_made inside c.self.invariant c.args.self.now c.self.view_is c.args.seat c.requires c.index-self-seat.result false (lines.Draw c.args.seat) refl tt c.draw_nonce.new.seat (Ok c.draw_nonce.result) host host (g.R.Words.state c.args.random.now) (g.R.Words.state c.draw_nonce.new.random)
    (record { goes = c.draw_nonce.ensures.goes c.self.inside.key c.args.seat host; booked = c.draw_nonce.ensures.booked c.self.inside.key c.args.seat host })).goes

pub returns-clause-booked : goal.returns-clause-booked
returns-clause-booked g c host =
    let inside : DeskState = record { key = c.self.inside.key; seats = c.self.inside.seats } in
    (line_made inside c.self.invariant c.args.self.now c.self.view_is c.args.seat c.requires c.index-self-seat.result false (lines.Draw c.args.seat) refl tt c.draw_nonce.new.seat (Ok c.draw_nonce.result) host host (g.R.Words.state c.args.random.now) (g.R.Words.state c.draw_nonce.new.random)
    (record { goes = c.draw_nonce.ensures.goes c.self.inside.key c.args.seat host; booked = c.draw_nonce.ensures.booked c.self.inside.key c.args.seat host })).booked
