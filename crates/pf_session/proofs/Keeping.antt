-- Reads keep what each image reopens as, and all other names.
use Rattle.std.proofs.Common.{inl, inr, ap}
use Rattle.pf_io.specs.Disk.{Name, Disk, Image, IsImage}
use Rattle.pf_io.specs.Host.{HostState}
use Rattle.pf_io.specs.Moments.{Honest, Leaves}
use Rattle.pf_io.specs.Unchanged.{KeepsDisk}
use Rattle.pf_io.proofs.Telling.{both_weaker}
use Rattle.pf_session.specs.Aside.{LeavesApart, Aside}
use Rattle.pf_session.specs.Reopening.{ReopensEither}
use Rattle.pf_session.specs.Keeping.{KeepsEither}

leaves_kept : (P : Disk → Image → Type 0) (old new : Honest) → Leaves IsImage old new → ((image : Image) → IsImage old.now image → P old.now image) → Leaves P old new
leaves_kept P old new leaves have = record {
  later = leaves.later;
  each = λ image left. have image (leaves.each image left);
  earlier = λ t image le left. elim (leaves.earlier t image le left) [ inl before ↦ inl before | inr is ↦ inr (have image is) ];
}

pub keeps_either : (name : Name) (before after : HostState) → KeepsDisk before after → KeepsEither name before after
keeps_either name before after keeps =
    both_weaker _ _ before.honest after.honest keeps (λ old new ran key v w have. leaves_kept (ReopensEither key name v w) old new ran.leaves have)

pub kept_aside : (name : Name) (before after : HostState) → KeepsDisk before after → Aside name before after
kept_aside name before after keeps =
    both_weaker _ _ before.honest after.honest keeps
    (λ old new ran. record { leaves = leaves_kept (LeavesApart name) old new ran.leaves (λ image is other apart. is other); ends = λ other apart. ap (λ (d : Disk). d other) ran.ends })
