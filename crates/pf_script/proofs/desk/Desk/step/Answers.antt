use Rattle.std.proofs.Common.{sym, subst, Ok, List, ℕ}
use Rattle.pf_script.specs.BookTurns.{DeskBooked}
use Rattle.pf_script.specs.DeskSteps.{DeskGoes}
use Rattle.pf_script.specs.declared.line.ScriptLine.{ScriptLine}
use Rattle.pf_script.specs.declared.line.ScriptLine.TheVariants as lines
use Rattle.pf_script.specs.declared.reply.Reply.TheVariants as replies
use Rattle.pf_script.proofs.BlankLine.{blank_goes}
use Rattle.pf_script.proofs.DeskUnder.{blank_booked}
use Rattle.pf_script.proofs.desk.Desk.step.Goals as goal

pub returns-in-Blank-clause-goes : goal.returns-in-Blank-clause-goes
returns-in-Blank-clause-goes g c =
    let before = g.H.Host.state c.args.host.now in
    let random = g.R.Words.state c.args.random.now in
    subst (λ (l : ScriptLine). DeskGoes l (Ok replies.None) c.args.self.now c.args.self.now before before random random) (sym c.in-Blank.is) (blank_goes c.args.self.now before random)

pub returns-in-Open-clause-goes : goal.returns-in-Open-clause-goes
returns-in-Open-clause-goes g c =
    let random = g.R.Words.state c.args.random.now in
    subst (λ (l : ScriptLine). DeskGoes l c.open.result c.args.self.now c.open.new.self (g.H.Host.state c.args.host.now) (g.H.Host.state c.open.new.host) random random) (sym c.in-Open.is)
    (subst (λ (n : List ℕ). DeskGoes (lines.Open c.in-Open.seat n) c.open.result c.args.self.now c.open.new.self (g.H.Host.state c.args.host.now) (g.H.Host.state c.open.new.host) random random) c.as_str-in-Open.ensures (c.open.ensures.goes random))

pub returns-in-View-clause-goes : goal.returns-in-View-clause-goes
returns-in-View-clause-goes g c =
    let before = g.H.Host.state c.args.host.now in
    let random = g.R.Words.state c.args.random.now in
    subst (λ (l : ScriptLine). DeskGoes l (Ok c.view.result) c.args.self.now c.args.self.now before before random random) (sym c.in-View.is) (c.view.ensures.goes c.in-View.path before random)

pub returns-in-Read-clause-goes : goal.returns-in-Read-clause-goes
returns-in-Read-clause-goes g c =
    let random = g.R.Words.state c.args.random.now in
    subst (λ (l : ScriptLine). DeskGoes l c.read.result c.args.self.now c.read.new.self (g.H.Host.state c.args.host.now) (g.H.Host.state c.read.new.host) random random) (sym c.in-Read.is) (c.read.ensures.goes random)

pub returns-in-Draw-clause-goes : goal.returns-in-Draw-clause-goes
returns-in-Draw-clause-goes g c =
    let before = g.H.Host.state c.args.host.now in
    subst (λ (l : ScriptLine). DeskGoes l (Ok c.draw.result) c.args.self.now c.draw.new.self before before (g.R.Words.state c.args.random.now) (g.R.Words.state c.draw.new.random)) (sym c.in-Draw.is) (c.draw.ensures.goes before)

pub returns-in-Blank-clause-booked : goal.returns-in-Blank-clause-booked
returns-in-Blank-clause-booked g c =
    let before = g.H.Host.state c.args.host.now in
    let random = g.R.Words.state c.args.random.now in
    subst (λ (l : ScriptLine). DeskBooked l (Ok replies.None) c.args.self.now c.args.self.now before before random random) (sym c.in-Blank.is) (blank_booked c.args.self.now before random)

pub returns-in-Open-clause-booked : goal.returns-in-Open-clause-booked
returns-in-Open-clause-booked g c =
    let random = g.R.Words.state c.args.random.now in
    subst (λ (l : ScriptLine). DeskBooked l c.open.result c.args.self.now c.open.new.self (g.H.Host.state c.args.host.now) (g.H.Host.state c.open.new.host) random random) (sym c.in-Open.is)
    (subst (λ (n : List ℕ). DeskBooked (lines.Open c.in-Open.seat n) c.open.result c.args.self.now c.open.new.self (g.H.Host.state c.args.host.now) (g.H.Host.state c.open.new.host) random random) c.as_str-in-Open.ensures (c.open.ensures.booked random))

pub returns-in-View-clause-booked : goal.returns-in-View-clause-booked
returns-in-View-clause-booked g c =
    let before = g.H.Host.state c.args.host.now in
    let random = g.R.Words.state c.args.random.now in
    subst (λ (l : ScriptLine). DeskBooked l (Ok c.view.result) c.args.self.now c.args.self.now before before random random) (sym c.in-View.is) (c.view.ensures.booked c.in-View.path before random)

pub returns-in-Read-clause-booked : goal.returns-in-Read-clause-booked
returns-in-Read-clause-booked g c =
    let random = g.R.Words.state c.args.random.now in
    subst (λ (l : ScriptLine). DeskBooked l c.read.result c.args.self.now c.read.new.self (g.H.Host.state c.args.host.now) (g.H.Host.state c.read.new.host) random random) (sym c.in-Read.is) (c.read.ensures.booked random)

pub returns-in-Draw-clause-booked : goal.returns-in-Draw-clause-booked
returns-in-Draw-clause-booked g c =
    let before = g.H.Host.state c.args.host.now in
    subst (λ (l : ScriptLine). DeskBooked l (Ok c.draw.result) c.args.self.now c.draw.new.self before before (g.R.Words.state c.args.random.now) (g.R.Words.state c.draw.new.random)) (sym c.in-Draw.is) (c.draw.ensures.booked before)
