-- The faults of a flush and of a tree, as faults of a change and of a move.
use Rattle.node_tree.specs.declared.fault.TreeFault.{TreeFault}
use Rattle.node_tree.specs.declared.fault.TreeFault.TheVariants as trees
use Rattle.pf_session.specs.declared.fault.FlushFault.{FlushFault}
use Rattle.pf_session.specs.declared.fault.FlushFault.TheVariants as flushes
use Rattle.pf_session.specs.declared.fault.WriteFault.{WriteFault}
use Rattle.pf_session.specs.declared.fault.WriteFault.TheVariants as writes
use Rattle.pf_session.specs.declared.fault.SizeFault.{SizeFault}
use Rattle.pf_session.specs.declared.fault.SizeFault.TheVariants as sizes
use Rattle.pf_session.specs.declared.fault.MoveFault.{MoveFault}
use Rattle.pf_session.specs.declared.fault.MoveFault.TheVariants as moves

abbrev pub write_of_flush : FlushFault → WriteFault
write_of_flush flushes.Words = writes.Words
write_of_flush (flushes.Damaged damage) = writes.Damaged damage
write_of_flush flushes.Host = writes.Host

abbrev pub write_of_tree : TreeFault → WriteFault
write_of_tree (trees.Damaged damage) = writes.Damaged damage
write_of_tree trees.Host = writes.Host
write_of_tree trees.Memory = writes.Memory

abbrev pub size_of_flush : FlushFault → SizeFault
size_of_flush flushes.Words = sizes.Words
size_of_flush (flushes.Damaged damage) = sizes.Damaged damage
size_of_flush flushes.Host = sizes.Host

abbrev pub size_of_tree : TreeFault → SizeFault
size_of_tree (trees.Damaged damage) = sizes.Damaged damage
size_of_tree trees.Host = sizes.Host
size_of_tree trees.Memory = sizes.Memory

abbrev pub move_of_flush : FlushFault → MoveFault
move_of_flush flushes.Words = moves.Words
move_of_flush (flushes.Damaged damage) = moves.Damaged damage
move_of_flush flushes.Host = moves.Host
