use Rattle.std.proofs.Common.{◌≡◌, ◌<◌, ◌≤◌, List, ℕ, length, take, get_or, subst}
use Rattle.pf_script.specs.Lines.{LINE_FEED, HasNoFeed}
use Rattle.pf_script.proofs.Advancing.{at_once, lines_go_on}
use Rattle.pf_script.proofs.line_reader.LineReader.advance.Goals as goal

pub returns-in-Some-clause-advances : goal.returns-in-Some-clause-advances
returns-in-Some-clause-advances g c = λ stage.
    let old = c.args.self.now in
    let at = c.in-Some.at in
    let here = c.in-Some.ensures in
    let same : c.pending.result.now ≡ old.pending = c.pending.ensures.same in
    at_once c.cut.result old c.cut.new.self (g.S.Source.state c.args.input.now) at stage (subst (λ (t : List ℕ). length t ≤ 131073) same c.pending.ensures.few) (subst (λ (t : List ℕ). at < length t) same here.0) (subst (λ (t : List ℕ). HasNoFeed (take at t)) same here.1) (subst (λ (t : List ℕ). get_or t at 0 ≡ LINE_FEED) same here.2) c.cut.ensures

pub returns-in-Some-clause-lines : goal.returns-in-Some-clause-lines
returns-in-Some-clause-lines g c = λ stage. lines_go_on _ c.args.self.now c.cut.new.self (g.S.Source.state c.args.input.now) (g.S.Source.state c.args.input.now) (returns-in-Some-clause-advances g c stage)

pub returns-clause-lines : goal.returns-clause-lines
returns-clause-lines g c = λ stage. lines_go_on _ c.args.self.now c.read_line.new.self (g.S.Source.state c.args.input.now) (g.S.Source.state c.read_line.new.input) c.read_line.ensures
