use Rattle.std.proofs.Common.{false, refl, Ok}
use Rattle.pf_script.specs.Desk.{DeskState}
use Rattle.pf_script.specs.declared.line.ScriptLine.TheVariants as lines
use Rattle.pf_script.proofs.DeskLine.{line_stays}
use Rattle.pf_script.proofs.desk.Desk.view.Goals as goal

pub returns-clause-goes : goal.returns-clause-goes
returns-clause-goes c path host words =
    let inside : DeskState = record { key = c.self.inside.key; seats = c.self.inside.seats } in
    (line_stays inside c.self.invariant c.args.self.now c.self.view_is c.args.seat c.requires _ false (lines.View c.args.seat path) refl tt (Ok c.view_file.result) host host words words
    (record { goes = c.view_file.ensures.goes c.self.inside.key c.args.seat path host words; booked = c.view_file.ensures.booked c.self.inside.key c.args.seat path host words })).goes

pub returns-clause-booked : goal.returns-clause-booked
returns-clause-booked c path host words =
    let inside : DeskState = record { key = c.self.inside.key; seats = c.self.inside.seats } in
    (line_stays inside c.self.invariant c.args.self.now c.self.view_is c.args.seat c.requires _ false (lines.View c.args.seat path) refl tt (Ok c.view_file.result) host host words words
    (record { goes = c.view_file.ensures.goes c.self.inside.key c.args.seat path host words; booked = c.view_file.ensures.booked c.self.inside.key c.args.seat path host words })).booked
