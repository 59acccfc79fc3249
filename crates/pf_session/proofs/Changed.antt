-- A change of a session, from the step of its tree and the flush before it.
use Rattle.std.proofs.Common.{◌≡◌, ℕ, ◌<◌, true, length, refl, sym, subst, Result, Ok, Err}
use Rattle.std.proofs.lemmas.Option.{IfSome_then}
use Rattle.pf_io.specs.Counts.{HasCause}
use Rattle.pf_io.specs.Disk.{Name}
use Rattle.pf_io.specs.Host.{HostState, files_of}
use Rattle.pf_io.specs.Unchanged.{KeepsDisk}
use Rattle.node_tree.specs.Applying.{Step, from_of, to_of}
use Rattle.node_tree.specs.Fetching.{host_part}
use Rattle.node_tree.specs.Marks.{IsChangedCount}
use Rattle.node_tree.specs.State.{TreeState, MOST_DIRTY}
use Rattle.node_tree.specs.Stepping.{Steps, StepsFew, StepDamageComes, BackedStep, StepsStanding}
use Rattle.node_tree.specs.declared.fault.TreeFault.{TreeFault}
use Rattle.pf_session.specs.State.{SessionState, file_of}
use Rattle.pf_session.specs.Changing.{IsFlushedFirst, Marked, StandingGoes, StepGoes}

-- the step of the tree, by the file's name
pub record OfTree (one : Result (Unit {0}) TreeFault) (name : Name) (step : Step) (old new : TreeState) (before after : HostState) : Type 0 where
  pub steps : Steps one name step old new before after
  pub cause : HasCause before.faults after.faults (host_part one)
  pub few : StepsFew step old before after
  pub disk : KeepsDisk before after
  pub damage : StepDamageComes one name step old before after
  pub backed : BackedStep one name step old new before after
  pub standing : StepsStanding one name step old new before

standing_goes : (one : Result (Unit {0}) TreeFault) (step : Step) (old : SessionState) (tree : TreeState) (new : SessionState) (before : HostState) → length old.key ≡ 16 → new.tree ≡ tree → StepsStanding one (file_of old) step old.tree tree before → StandingGoes one step old new before
standing_goes one step old tree new before long is stands =
    IfSome_then (files_of before) (subst (λ (t : TreeState). StepsStanding one (file_of old) step old.tree t before) (sym is) stands) (λ files goes sheet standing backed. goes old.key sheet long standing backed.backs)

-- a step of the tree, and the mark that it leaves
pub step_goes : (one : Result (Unit {0}) TreeFault) (step : Step) (old new : SessionState) (tree : TreeState) (name : Name) (before after : HostState) → length old.key ≡ 16 → name ≡ file_of old → OfTree one name step old.tree tree before after
    → Marked one (record old { tree = tree }) new → StepGoes one step old new before after
step_goes (Ok done) step old new tree name before after long named of_tree marked =
    let t = subst (λ (n : Name). OfTree (Ok done) n step old.tree tree before after) named of_tree in
    subst (λ (s : SessionState). StepGoes (Ok done) step old s before after) (sym marked) (record {
      state = refl;
      steps = t.steps;
      cause = t.cause;
      few = t.few;
      disk = t.disk;
      damage = t.damage;
      backed = t.backed;
      standing = standing_goes (Ok done) step old tree (record old { tree = tree; changed = true }) before long refl t.standing;
    })
step_goes (Err fault) step old new tree name before after long named of_tree marked =
    let t = subst (λ (n : Name). OfTree (Err fault) n step old.tree tree before after) named of_tree in
    subst (λ (s : SessionState). StepGoes (Err fault) step old s before after) (sym marked) (record {
      state = refl;
      steps = t.steps;
      cause = t.cause;
      few = t.few;
      disk = t.disk;
      damage = t.damage;
      backed = t.backed;
      standing = standing_goes (Err fault) step old tree (record old { tree = tree; broken = true }) before long refl t.standing;
    })

-- whether there is room

module _ (step : Step) (tree : TreeState) (at end : ℕ) (from_is : from_of step tree.size ≡ at) (to_is : to_of step tree.size ≡ end) where
  pub flushed_first : (count : ℕ) → IsChangedCount tree.dirty at end count → MOST_DIRTY < count → IsFlushedFirst step tree
  flushed_first count is many = record {
    count = count;
    is_count = subst (λ (a : ℕ). IsChangedCount tree.dirty a (to_of step tree.size) count) (sym from_is) (subst (λ (b : ℕ). IsChangedCount tree.dirty at b count) (sym to_is) is);
    many = many;
  }
