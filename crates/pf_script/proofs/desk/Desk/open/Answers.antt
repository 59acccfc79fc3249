use Rattle.std.proofs.Common.{refl, None}
use Rattle.pf_io.specs.Words.{WordsState}
use Rattle.pf_script.specs.Desk.{DeskState}
use Rattle.pf_script.specs.declared.line.ScriptLine.TheVariants as lines
use Rattle.pf_script.proofs.DeskLine.{line_made}
use Rattle.pf_script.proofs.desk.Desk.open.Goals as goal

pub invariant_of-self : goal.invariant_of-self
invariant_of-self g c =
    let words : WordsState = record { faults = 0; left = None } in
    let inside : DeskState = record { key = c.self.inside.key; seats = c.self.inside.seats } in
    (line_made inside c.self.invariant c.args.self.now c.self.view_is c.args.seat c.requires c.index-self-seat.result c.is_taken-taken.result (lines.Open c.args.seat c.args.name.now) refl c.is_taken-taken.ensures c.open_file.new.seat c.open_file.result (g.H.Host.state c.args.host.now) (g.H.Host.state c.open_file.new.host) words words
    (record { goes = c.open_file.ensures.goes c.args.seat words; booked = c.open_file.ensures.booked c.args.seat words })).well

pub returns-clause-goes : goal.returns-clause-goes
returns-clause-goes g c words =
    let inside : DeskState = record { key = c.self.inside.key; seats = c.self.inside.seats } in
    (line_made inside c.self.invariant c.args.self.now c.self.view_is c.args.seat c.requires c.index-self-seat.result c.is_taken-taken.result (lines.Open c.args.seat c.args.name.now) refl c.is_taken-taken.ensures c.open_file.new.seat c.open_file.result (g.H.Host.state c.args.host.now) (g.H.Host.state c.open_file.new.host) words words
    (record { goes = c.open_file.ensures.goes c.args.seat words; booked = c.open_file.ensures.booked c.args.seat words })).goes

pub returns-clause-booked : goal.returns-clause-booked
returns-clause-booked g c words =
    let inside : DeskState = record { key = c.self.inside.key; seats = c.self.inside.seats } in
    (line_made inside c.self.invariant c.args.self.now c.self.view_is c.args.seat c.requires c.index-self-seat.result c.is_taken-taken.result (lines.Open c.args.seat c.args.name.now) refl c.is_taken-taken.ensures c.open_file.new.seat c.open_file.result (g.H.Host.state c.args.host.now) (g.H.Host.state c.open_file.new.host) words words
    (record { goes = c.open_file.ensures.goes c.args.seat words; booked = c.open_file.ensures.booked c.args.seat words })).booked
