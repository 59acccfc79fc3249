-- What the parts of `decrypt` come to.
use Rattle.std.specs.Prelude.{◌≡◌, ℕ, List, [], ◌∷◌, Some, false}
use Rattle.node_layout.specs.Opening.{OpensTo}
use Rattle.node_layout.specs.declared.metadata.MetaSecret.{MetaSecret}
use Rattle.pf_io.specs.Disk.{Name}
use Rattle.pf_io.specs.Host.{LengthWas, Gave, HostState}
use Rattle.pf_io.specs.Names.{IsTarget}
use Rattle.node_tree.specs.declared.fault.TreeFault.{TreeFault}
use Rattle.node_tree.specs.declared.fault.TreeFault.TheVariants as trees
use Rattle.pf_tool.specs.World.{World, with_host}
use Rattle.pf_tool.specs.Events.{Event, Answers}
use Rattle.pf_tool.specs.Happened.{Passed}
use Rattle.pf_session.specs.Opening.{IsOpenable}
use Rattle.pf_session.specs.State.{SessionState, unread}
use Rattle.pf_tool.specs.declared.fault.Fault.{Fault}
use Rattle.pf_tool.specs.declared.fault.Fault.TheVariants as faults

abbrev pub tree_fault : TreeFault → Fault
tree_fault (trees.Damaged damage) = faults.Damaged damage
tree_fault trees.Host = faults.Host
tree_fault trees.Memory = faults.Memory

-- whether the file is there, and its node 0
abbrev pub opening_events : Name → ℕ → List ℕ → List Event
opening_events input size node = Answers (LengthWas input (Some size)) ∷ Answers (Gave input 0 4096 node) ∷ []

-- node 0 was read and opens, and nothing else happened
pub record InputOpened (user : List ℕ) (input : Name) (session : SessionState) (old new : HostState) : Type 0 where
  pub is_target : IsTarget input
  pub size : ℕ
  pub node : List ℕ
  pub secret : MetaSecret
  pub openable : IsOpenable node
  pub opens_to : OpensTo user node secret
  pub name_is : session.name ≡ input
  pub tree_is : session.tree ≡ unread secret
  pub is_whole : session.broken ≡ false
  pub named : session.beside ≡ false
  pub passed : (world : World) → Passed (opening_events input size node) (with_host world old) (with_host world new)
