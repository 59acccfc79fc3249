use Rattle.std.proofs.Common.{false, refl, None}
use Rattle.pf_io.specs.Words.{WordsState}
use Rattle.pf_script.specs.Desk.{DeskState}
use Rattle.pf_script.specs.declared.line.ScriptLine.TheVariants as lines
use Rattle.pf_script.proofs.DeskLine.{line_made}
use Rattle.pf_script.proofs.desk.Desk.read.Goals as goal

pub invariant_of-self : goal.invariant_of-self
invariant_of-self g c =
    let words : WordsState = record { faults = 0; left = None } in
    let inside : DeskState = record { key = c.self.inside.key; seats = c.self.inside.seats } in
    (line_made inside c.self.invariant c.args.self.now c.self.view_is c.args.seat c.requires c.index-self-seat.result false (lines.Read c.args.seat c.args.at c.args.count) refl tt c.read_bytes.new.seat c.read_bytes.result (g.H.Host.state c.args.host.now) (g.H.Host.state c.read_bytes.new.host) words words
    (record { goes = c.read_bytes.ensures.goes c.self.inside.key c.args.seat words; booked = c.read_bytes.ensures.booked c.self.inside.key c.args.seat words })).well

pub returns-clause-goes : goal.returns-clause-goes
returns-clause-goes g c words =
    let inside : DeskState = record { key = c.self.inside.key; seats = c.self.inside.seats } in
    (line_made inside c.self.invariant c.args.self.now c.self.view_is c.args.seat c.requires c.index-self-seat.result false (lines.Read c.args.seat c.args.at c.args.count) refl tt c.read_bytes.new.seat c.read_bytes.result (g.H.Host.state c.args.host.now) (g.H.Host.state c.read_bytes.new.host) words words
    (record { goes = c.read_bytes.ensures.goes c.self.inside.key c.args.seat words; booked = c.read_bytes.ensures.booked c.self.inside.key c.args.seat words })).goes

pub returns-clause-booked : goal.returns-clause-booked
returns-clause-booked g c words =
    let inside : DeskState = record { key = c.self.inside.key; seats = c.self.inside.seats } in
    (line_made inside c.self.invariant c.args.self.now c.self.view_is c.args.seat c.requires c.index-self-seat.result false (lines.Read c.args.seat c.args.at c.args.count) refl tt c.read_bytes.new.seat c.read_bytes.result (g.H.Host.state c.args.host.now) (g.H.Host.state c.read_bytes.new.host) words words
    (record { goes = c.read_bytes.ensures.goes c.self.inside.key c.args.seat words; booked = c.read_bytes.ensures.booked c.self.inside.key c.args.seat words })).booked
