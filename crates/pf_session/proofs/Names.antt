-- The names beside a session's name.
use Rattle.std.proofs.Common.{◌≡◌, ◌≢◌, length, ap, arith, append_assoc, length-append}
use Rattle.std.specs.Prelude.{codes}
use Rattle.pf_io.specs.Disk.{Name}
use Rattle.pf_io.specs.Names.{recovery_of, side_of, side_recovery_of}

pub side_apart : (name : Name) → side_of name ≢ name
side_apart name same = omega (arith, ap (λ (n : Name). length n) same, length-append name (codes ".new"))

pub recovery_apart : (name : Name) → recovery_of name ≢ name
recovery_apart name same = omega (arith, ap (λ (n : Name). length n) same, length-append name (codes ".recovery"))

pub recovery_not_side : (name : Name) → recovery_of name ≢ side_of name
recovery_not_side name same = omega (arith, ap (λ (n : Name). length n) same, length-append name (codes ".recovery"), length-append name (codes ".new"))

pub side_recovery_apart : (name : Name) → side_recovery_of name ≢ side_of name
side_recovery_apart name same = omega (arith, ap (λ (n : Name). length n) same, length-append name (codes ".new.recovery"), length-append name (codes ".new"))

pub recovery_side_of : (name : Name) → recovery_of (side_of name) ≡ side_recovery_of name
recovery_side_of name = append_assoc name (codes ".new") (codes ".recovery")
