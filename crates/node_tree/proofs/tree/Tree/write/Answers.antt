use Rattle.node_tree.specs.Applying.{Write}
use Rattle.node_tree.proofs.Applied.{putting_written}
use Rattle.node_tree.proofs.AfterStep.{backed_step, step_damage, standing_step, honest_step}
use Rattle.node_tree.proofs.tree.Tree.write.Goals as goal

pub change-requires-clause-putting : goal.change-requires-clause-putting
change-requires-clause-putting g c = (Write c.args.at c.args.from.now, putting_written c.args.at c.args.from.now c.self.inside c.args.self.now c.self.view_is c.max-size.result c.requires.no_gap c.max-size.ensures)

pub returns-clause-steps : goal.returns-clause-steps
returns-clause-steps g c = c.change.ensures.steps (Write c.args.at c.args.from.now) (putting_written c.args.at c.args.from.now c.self.inside c.args.self.now c.self.view_is c.max-size.result c.requires.no_gap c.max-size.ensures)

pub returns-clause-few : goal.returns-clause-few
returns-clause-few g c = c.change.ensures.few (Write c.args.at c.args.from.now) (putting_written c.args.at c.args.from.now c.self.inside c.args.self.now c.self.view_is c.max-size.result c.requires.no_gap c.max-size.ensures)

pub returns-clause-damage : goal.returns-clause-damage
returns-clause-damage g c = step_damage c.change.result c.args.name.now (Write c.args.at c.args.from.now) c.args.self.now c.change.new.self (g.H.Host.state c.args.host.now) (g.H.Host.state c.change.new.host) (returns-clause-steps g c)

pub returns-clause-backed : goal.returns-clause-backed
returns-clause-backed g c = backed_step c.change.result c.args.name.now (Write c.args.at c.args.from.now) c.args.self.now c.change.new.self (g.H.Host.state c.args.host.now) (g.H.Host.state c.change.new.host) (returns-clause-steps g c)

pub returns-clause-standing : goal.returns-clause-standing
returns-clause-standing g c = standing_step c.change.result c.args.name.now (Write c.args.at c.args.from.now) c.args.self.now c.change.new.self (g.H.Host.state c.args.host.now) (g.H.Host.state c.change.new.host) (returns-clause-steps g c)

pub returns-clause-honest : goal.returns-clause-honest
returns-clause-honest g c = honest_step c.change.result c.args.name.now (Write c.args.at c.args.from.now) c.args.self.now c.change.new.self (g.H.Host.state c.args.host.now) (g.H.Host.state c.change.new.host) (returns-clause-steps g c)
