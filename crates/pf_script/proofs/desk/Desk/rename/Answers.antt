use Rattle.std.proofs.Common.{refl}
use Rattle.pf_script.specs.Desk.{DeskState}
use Rattle.pf_script.specs.declared.line.ScriptLine.TheVariants as lines
use Rattle.pf_script.proofs.DeskLine.{line_made, named_at}
use Rattle.pf_script.proofs.desk.Desk.rename.Goals as goal

pub invariant_of-self : goal.invariant_of-self
invariant_of-self g c =
    let inside : DeskState = record { key = c.self.inside.key; seats = c.self.inside.seats } in
    (line_made inside c.self.invariant c.args.self.now c.self.view_is c.args.seat c.requires c.index-self-seat.result c.is_taken-taken.result (lines.Move c.args.seat c.args.name.now) refl c.is_taken-taken.ensures c.move_file.new.seat c.move_file.result (g.H.Host.state c.args.host.now) (g.H.Host.state c.move_file.new.host)
    (g.R.Words.state c.args.random.now) (g.R.Words.state c.move_file.new.random) (record { goes = c.move_file.ensures.goes c.self.inside.key c.args.seat; booked = c.move_file.ensures.booked c.self.inside.key c.args.seat })).well

pub returns-clause-goes : goal.returns-clause-goes
returns-clause-goes g c =
    let inside : DeskState = record { key = c.self.inside.key; seats = c.self.inside.seats } in
    (line_made inside c.self.invariant c.args.self.now c.self.view_is c.args.seat c.requires c.index-self-seat.result c.is_taken-taken.result (lines.Move c.args.seat c.args.name.now) refl c.is_taken-taken.ensures c.move_file.new.seat c.move_file.result (g.H.Host.state c.args.host.now) (g.H.Host.state c.move_file.new.host)
    (g.R.Words.state c.args.random.now) (g.R.Words.state c.move_file.new.random) (record { goes = c.move_file.ensures.goes c.self.inside.key c.args.seat; booked = c.move_file.ensures.booked c.self.inside.key c.args.seat })).goes

pub returns-clause-booked : goal.returns-clause-booked
returns-clause-booked g c =
    let inside : DeskState = record { key = c.self.inside.key; seats = c.self.inside.seats } in
    (line_made inside c.self.invariant c.args.self.now c.self.view_is c.args.seat c.requires c.index-self-seat.result c.is_taken-taken.result (lines.Move c.args.seat c.args.name.now) refl c.is_taken-taken.ensures c.move_file.new.seat c.move_file.result (g.H.Host.state c.args.host.now) (g.H.Host.state c.move_file.new.host)
    (g.R.Words.state c.args.random.now) (g.R.Words.state c.move_file.new.random) (record { goes = c.move_file.ensures.goes c.self.inside.key c.args.seat; booked = c.move_file.ensures.booked c.self.inside.key c.args.seat })).booked

pub move_file-requires : goal.move_file-requires
move_file-requires g c =
    let inside : DeskState = record { key = c.self.inside.key; seats = c.self.inside.seats } in
    named_at inside c.self.invariant c.args.seat c.requires c.index-self-seat.result
