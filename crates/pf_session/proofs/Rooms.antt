-- Room for a change of a session, and what a change comes to.
use Rattle.std.proofs.Common.{◌≡◌, ℕ, ◌+◌, ◌<◌, ◌≤◌, Bool, true, false, List, [], length, ap, ◌∙◌, subst, arith, Result, Ok, Err}
use Rattle.std.specs.Prelude.{◌^◌}
use Rattle.pf_io.specs.Disk.{Name, Disk, IsImage, IsImageAt}
use Rattle.pf_io.specs.Host.{HostState}
use Rattle.pf_io.specs.Names.{side_of}
use Rattle.pf_io.specs.Steps.{KeepsOthers, Stays}
use Rattle.pf_io.specs.Unchanged.{KeepsDisk}
use Rattle.pf_io.specs.Words.{WordsState}
use Rattle.pf_io.proofs.Runs.{goes_on_ran}
use Rattle.node_tree.specs.Applying.{Step}
use Rattle.node_tree.specs.declared.fault.TreeFault.{TreeFault}
use Rattle.pf_session.specs.State.{SessionState}
use Rattle.pf_session.specs.Aside.{LeavesOthers, LeavesApart, KeepsApart, Aside}
use Rattle.pf_session.specs.Flushing.{KeepsName}
use Rattle.pf_session.specs.Changing.{RoomGoes, was_roomy, was_flushed, no_room, StepGoes, stepped, ChangeGoes, changed, not_flushed, flushed_and_changed, WriteRefused, SizeRefused}
use Rattle.pf_session.specs.declared.fault.FlushFault.{FlushFault}
use Rattle.pf_session.specs.declared.fault.WriteFault.{WriteFault}
use Rattle.pf_session.specs.declared.fault.WriteFault.TheVariants as writes
use Rattle.pf_session.specs.declared.fault.SizeFault.{SizeFault}
use Rattle.pf_session.specs.declared.fault.SizeFault.TheVariants as sizes
use Rattle.pf_session.specs.declared.fault.Written.{Written}
use Rattle.pf_session.proofs.Disks.{leaves_others}

-- what is kept

-- calls that only read, after others
pub beside_then : (session : SessionState) (before between after : HostState) → KeepsName session before between → KeepsDisk between after → KeepsName session before after
beside_then session before between after keeps reads beside =
    goes_on_ran (LeavesOthers (side_of session.name)) IsImage (KeepsOthers (side_of session.name)) Stays (KeepsOthers (side_of session.name)) before.honest between.honest after.honest (keeps beside) reads
    (λ d e kept image is. leaves_others (side_of session.name) d e image kept (λ other ne. is other)) (λ d e f kept stays other ne. ap (λ (x : Disk). x other) stays ∙ kept other ne)

pub aside_then : (name : Name) (before between after : HostState) → Aside name before between → KeepsDisk between after → Aside name before after
aside_then name before between after aside reads =
    goes_on_ran (LeavesApart name) IsImage (KeepsApart name) Stays (KeepsApart name) before.honest between.honest after.honest aside reads
    (λ d e kept image is other apart. subst (λ o. IsImageAt o (image other)) (kept other apart) (is other)) (λ d e f kept stays other apart. ap (λ (x : Disk). x other) stays ∙ kept other apart)

-- a change that no rule refuses
pub write_allowed : (at n size : ℕ) → n ≤ 32768 → at + n ≤ 2 ^ 32 → at ≤ size → (fault : WriteFault) → WriteRefused at n size fault → ⊥
write_allowed at n size short small within writes.TooLong refused = omega (arith, short, refused)
write_allowed at n size short small within writes.TooLarge refused = omega (arith, small, refused.1)
write_allowed at n size short small within (writes.PastEnd said) refused = omega (arith, within, refused.2)
write_allowed at n size short small within writes.Words refused = refused
write_allowed at n size short small within (writes.Damaged damage) refused = refused
write_allowed at n size short small within writes.Host refused = refused
write_allowed at n size short small within writes.Memory refused = refused

pub size_allowed : (n size : ℕ) → n ≤ 2 ^ 32 → n ≤ size + 32768 → (fault : SizeFault) → SizeRefused n size fault → ⊥
size_allowed n size small near sizes.TooLarge refused = omega (arith, small, refused)
size_allowed n size small near (sizes.TooFar said) refused = omega (arith, near, refused.1)
size_allowed n size small near sizes.Words refused = refused
size_allowed n size small near (sizes.Damaged damage) refused = refused
size_allowed n size small near sizes.Host refused = refused
size_allowed n size small near sizes.Memory refused = refused

pub not_empty : (bytes : List ℕ) → 0 < length bytes → ¬ (bytes ≡ [])
not_empty bytes some none = let zero : length bytes ≡ 0 = ap (λ (l : List ℕ). length l) none in omega arith

-- a change for which there was no room, or which was made or not
module _ (E : Type 0) (Refused : E → Type 0) (Nothing : Type 0) (of_flush : FlushFault → E) (of_tree : TreeFault → E) (step : Step) (old : SessionState) (before : HostState) (random : WordsState) (allowed : (fault : E) → ¬ (Refused fault)) (some : ¬ Nothing) where
  pub not_changed : (fault : FlushFault) (new : SessionState) (after : HostState) (random' : WordsState) → RoomGoes (Err fault) step old new before after random random'
      → ChangeGoes E Refused Nothing of_flush of_tree step (Err (of_flush fault)) old new before after random random'
  not_changed fault new after random' (was_roomy roomy same still calm is) = absurd (cc)
  not_changed fault new after random' (was_flushed first goes is) = absurd (cc)
  not_changed fault new after random' (no_room cause first goes undamaged is) =
      let same : fault ≡ cause = cc in
      not_flushed cause allowed some first goes undamaged (ap (λ (f : FlushFault). let r : Result Written E = Err (of_flush f) in r) same)

  pub is_changed : (flushed_before : Bool) (mid : SessionState) (between : HostState) (random' : WordsState) (one : Result (Unit {0}) TreeFault) (new : SessionState) (after : HostState) → RoomGoes (Ok flushed_before) step old mid before between random random'
      → StepGoes one step mid new between after → ChangeGoes E Refused Nothing of_flush of_tree step (stepped of_tree flushed_before one) old new before after random random'
  is_changed flushed_before mid between random' one new after (was_roomy roomy same still calm is) goes =
      let was_not : flushed_before ≡ false = cc in
      changed one allowed some roomy (subst (λ (h : HostState). StepGoes one step old new h after) still (subst (λ (s : SessionState). StepGoes one step s new between after) same goes)) calm
      (ap (λ (b : Bool). stepped of_tree b one) was_not)
  is_changed flushed_before mid between random' one new after (was_flushed first done is) goes =
      let it_was : flushed_before ≡ true = cc in
      flushed_and_changed mid between one allowed some first done goes (ap (λ (b : Bool). stepped of_tree b one) it_was)
  is_changed flushed_before mid between random' one new after (no_room cause first goes undamaged is) step_goes = absurd (cc)
