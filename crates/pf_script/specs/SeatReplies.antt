-- The replies to the answers of a session's calls, and the steps of a change of size.
use Rattle.std.specs.Prelude.{⊤, ◌≡◌, ℕ, ◌+◌, ◌<◌, ◌≤◌, false, List, Result, Ok, Err}
use Rattle.node_tree.specs.declared.fault.TreeFault.{TreeFault}
use Rattle.node_tree.specs.declared.fault.TreeFault.TheVariants as trees
use Rattle.pf_io.specs.Disk.{Name}
use Rattle.pf_io.specs.Host.{HostState, ReadsAsImage}
use Rattle.pf_io.specs.Words.{WordsState}
use Rattle.pf_io.specs.declared.faults.Memory.{Memory}
use Rattle.pf_session.specs.Aside.{Aside}
use Rattle.pf_session.specs.Changing.{SizeGoes}
use Rattle.pf_session.specs.State.{SessionState}
use Rattle.pf_session.specs.declared.fault.CreateFault.{CreateFault}
use Rattle.pf_session.specs.declared.fault.CreateFault.TheVariants as creates
use Rattle.pf_session.specs.declared.fault.FlushFault.{FlushFault}
use Rattle.pf_session.specs.declared.fault.FlushFault.TheVariants as flushes
use Rattle.pf_session.specs.declared.fault.MoveFault.{MoveFault}
use Rattle.pf_session.specs.declared.fault.MoveFault.TheVariants as moves
use Rattle.pf_session.specs.declared.fault.SizeFault.{SizeFault}
use Rattle.pf_session.specs.declared.fault.SizeFault.TheVariants as sizes
use Rattle.pf_session.specs.declared.fault.WriteFault.{WriteFault}
use Rattle.pf_session.specs.declared.fault.WriteFault.TheVariants as writes
use Rattle.pf_session.specs.declared.fault.Written.{Written}
use Rattle.pf_session.specs.declared.open_fault.OpenFault.{OpenFault}
use Rattle.pf_session.specs.declared.open_fault.OpenFault.TheVariants as opens
use Rattle.pf_script.specs.SeatSteps.{PIECE}
use Rattle.pf_script.specs.declared.reply.Reply.{Reply}
use Rattle.pf_script.specs.declared.reply.Reply.TheVariants as replies
use Rattle.pf_script.specs.declared.reply.Why.{Why}
use Rattle.pf_script.specs.declared.reply.Why.TheVariants as whys

abbrev pub refused : Why → Result Reply Memory
refused why = Ok (replies.Refused why)

abbrev pub create_reply : Name → CreateFault → Result Reply Memory
create_reply name creates.BadName = refused whys.BadName
create_reply name creates.Memory = Err (record {})
create_reply name creates.Host = Ok replies.HostFault
create_reply name creates.Exists = refused (whys.Exists name)
create_reply name creates.Words = Ok replies.WordsFault

abbrev pub open_reply : Name → OpenFault → Result Reply Memory
open_reply name opens.BadName = refused whys.BadName
open_reply name opens.Memory = Err (record {})
open_reply name opens.Host = Ok replies.HostFault
open_reply name opens.NotFound = refused (whys.NotFound name)
open_reply name opens.NotProtected = refused whys.NotProtected
open_reply name (opens.Damaged damage) = Ok (replies.DamagedNode damage)
open_reply name opens.Unbuilt = refused whys.Unbuilt
open_reply name (opens.BadVersion major minor) = refused (whys.BadVersion major minor)
open_reply name (opens.WrongPath stored) = refused (whys.WrongPath stored)

abbrev pub read_reply : List ℕ → Result ℕ TreeFault → Result Reply Memory
read_reply bytes (Ok n) = Ok (replies.Given bytes)
read_reply bytes (Err (trees.Damaged damage)) = Ok (replies.DamagedNode damage)
read_reply bytes (Err trees.Host) = Ok replies.HostFault
read_reply bytes (Err trees.Memory) = Err (record {})

abbrev pub move_reply : Result (Unit {0}) MoveFault → Result Reply Memory
move_reply (Ok done) = Ok replies.Moved
move_reply (Err moves.BadName) = refused whys.BadName
move_reply (Err moves.Memory) = Err (record {})
move_reply (Err moves.Host) = Ok replies.HostFault
move_reply (Err moves.TargetExists) = refused whys.TargetExists
move_reply (Err moves.Words) = Ok replies.WordsFault
move_reply (Err (moves.Damaged damage)) = Ok (replies.DamagedNode damage)

abbrev pub flush_reply : FlushFault → Reply
flush_reply flushes.Words = replies.WordsFault
flush_reply (flushes.Damaged damage) = replies.DamagedNode damage
flush_reply flushes.Host = replies.HostFault

abbrev pub write_reply : ℕ → Result Written WriteFault → Result Reply Memory
write_reply count (Ok written) = Ok (replies.Written count written.flushed_before)
write_reply count (Err writes.TooLong) = refused whys.TooLong
write_reply count (Err writes.TooLarge) = refused whys.TooLarge
write_reply count (Err (writes.PastEnd size)) = refused (whys.PastEnd size)
write_reply count (Err writes.Words) = Ok replies.WordsFault
write_reply count (Err (writes.Damaged damage)) = Ok (replies.DamagedNode damage)
write_reply count (Err writes.Host) = Ok replies.HostFault
write_reply count (Err writes.Memory) = Err (record {})

abbrev pub size_reply : SizeFault → Result Reply Memory
size_reply sizes.TooLarge = refused whys.TooLarge
size_reply (sizes.TooFar size) = refused whys.TooLarge
size_reply sizes.Words = Ok replies.WordsFault
size_reply (sizes.Damaged damage) = Ok (replies.DamagedNode damage)
size_reply sizes.Host = Ok replies.HostFault
size_reply sizes.Memory = Err (record {})

-- no rule refused
abbrev pub IsNoLimit : SizeFault → Type 0
IsNoLimit sizes.TooLarge = ⊥
IsNoLimit (sizes.TooFar size) = ⊥
IsNoLimit sizes.Words = ⊤
IsNoLimit (sizes.Damaged damage) = ⊤
IsNoLimit sizes.Host = ⊤
IsNoLimit sizes.Memory = ⊤

-- one of several sizes was set
pub record SetsSize (result : Result Written SizeFault) (size : ℕ) (old new : SessionState) (before after : HostState) (random random' : WordsState) : Type 0 where
  pub whole : old.broken ≡ false
  pub goes : SizeGoes result size old new before after random random'
  pub aside : Aside old.name before after
  pub reads : ReadsAsImage after

-- the size to be set next: the last one where it is no more than a piece away
pub data IsNextSize (size now : ℕ) (n : ℕ) : Type 0 where
  last_size : size ≤ now + PIECE → n ≡ size → IsNextSize size now n
  piece_size : now + PIECE < size → n ≡ now + PIECE → IsNextSize size now n

-- A size is set piece by piece, up to the last one or to a fault.
pub data SizesGo (result : Result (Unit {0}) SizeFault) (size : ℕ) : SessionState → SessionState → HostState → HostState → WordsState → WordsState → Type 0 where
  set_last : (written : Written) (old new : SessionState) (before after : HostState) (random random' : WordsState) → size ≤ old.tree.size + PIECE → SetsSize (Ok written) size old new before after random random' → result ≡ Ok tt
      → SizesGo result size old new before after random random'
  set_failed : (fault : SizeFault) (n : ℕ) (old new : SessionState) (before after : HostState) (random random' : WordsState) → IsNextSize size old.tree.size n → SetsSize (Err fault) n old new before after random random' → result ≡ Err fault
      → SizesGo result size old new before after random random'
  set_piece : (written : Written) (old mid new : SessionState) (before between after : HostState) (random random' random'' : WordsState) → old.tree.size + PIECE < size
      → SetsSize (Ok written) (old.tree.size + PIECE) old mid before between random random' → SizesGo result size mid new between after random' random'' → SizesGo result size old new before after random random''
