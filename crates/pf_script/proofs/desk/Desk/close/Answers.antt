use Rattle.std.proofs.Common.{◌<◌, false, refl, sym, ◌∙◌, ap, subst, None, Ok}
use Rattle.std.proofs.lemmas.List.{get_or-set_same, get_or-set_other}
use Rattle.pf_script.specs.Desk.{DeskState, session_at}
use Rattle.pf_script.specs.declared.line.ScriptLine.TheVariants as lines
use Rattle.pf_script.proofs.DeskLine.{line_made}
use Rattle.pf_script.proofs.desk.Desk.close.Goals as goal

pub invariant_of-self : goal.invariant_of-self
invariant_of-self g c =
    let inside : DeskState = record { key = c.self.inside.key; seats = c.self.inside.seats } in
    (line_made inside c.self.invariant c.args.self.now c.self.view_is c.args.seat c.requires c.index-self-seat.result false (lines.Close c.args.seat) refl tt c.close_seat.new.seat (Ok c.close_seat.result) (g.H.Host.state c.args.host.now) (g.H.Host.state c.close_seat.new.host) (g.R.Words.state c.args.random.now) (g.R.Words.state c.close_seat.new.random)
    (record { goes = c.close_seat.ensures.goes c.self.inside.key c.args.seat; booked = c.close_seat.ensures.booked c.self.inside.key c.args.seat })).well

pub returns-clause-goes : goal.returns-clause-goes
returns-clause-goes g c =
    let inside : DeskState = record { key = c.self.inside.key; seats = c.self.inside.seats } in
    (line_made inside c.self.invariant c.args.self.now c.self.view_is c.args.seat c.requires c.index-self-seat.result false (lines.Close c.args.seat) refl tt c.close_seat.new.seat (Ok c.close_seat.result) (g.H.Host.state c.args.host.now) (g.H.Host.state c.close_seat.new.host) (g.R.Words.state c.args.random.now) (g.R.Words.state c.close_seat.new.random)
    (record { goes = c.close_seat.ensures.goes c.self.inside.key c.args.seat; booked = c.close_seat.ensures.booked c.self.inside.key c.args.seat })).goes

pub returns-clause-booked : goal.returns-clause-booked
returns-clause-booked g c =
    let inside : DeskState = record { key = c.self.inside.key; seats = c.self.inside.seats } in
    (line_made inside c.self.invariant c.args.self.now c.self.view_is c.args.seat c.requires c.index-self-seat.result false (lines.Close c.args.seat) refl tt c.close_seat.new.seat (Ok c.close_seat.result) (g.H.Host.state c.args.host.now) (g.H.Host.state c.close_seat.new.host) (g.R.Words.state c.args.random.now) (g.R.Words.state c.close_seat.new.random)
    (record { goes = c.close_seat.ensures.goes c.self.inside.key c.args.seat; booked = c.close_seat.ensures.booked c.self.inside.key c.args.seat })).booked

pub returns-clause-empty : goal.returns-clause-empty
returns-clause-empty g c =
    get_or-set_same c.self.inside.seats c.args.seat c.close_seat.new.seat None (subst (λ n. c.args.seat < n) (sym c.self.invariant.eight) c.requires) ∙ c.close_seat.ensures.empty

pub returns-clause-others : goal.returns-clause-others
returns-clause-others g c =
    λ other apart. get_or-set_other c.self.inside.seats c.args.seat other c.close_seat.new.seat None apart ∙ ap (λ (d : DeskState). session_at d other) c.self.view_is
