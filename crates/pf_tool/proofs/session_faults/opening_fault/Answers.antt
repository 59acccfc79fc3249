use Rattle.std.proofs.Common.{refl}
use Rattle.pf_tool.proofs.session_faults.opening_fault.Goals as goal

pub returns-in-BadName : goal.returns-in-BadName
returns-in-BadName c = rw c.in-BadName.is (record { says = refl; ends = refl })

pub returns-in-Memory : goal.returns-in-Memory
returns-in-Memory c = rw c.in-Memory.is refl

pub returns-in-Host : goal.returns-in-Host
returns-in-Host c = rw c.in-Host.is refl

pub returns-in-NotFound : goal.returns-in-NotFound
returns-in-NotFound c = rw c.in-NotFound.is (record { says = refl; ends = refl })

pub returns-in-NotProtected : goal.returns-in-NotProtected
returns-in-NotProtected c = rw c.in-NotProtected.is (record { says = refl; ends = refl })

pub returns-in-Damaged : goal.returns-in-Damaged
returns-in-Damaged c = rw c.in-Damaged.is (record { says = refl; ends = refl })

pub returns-in-Unbuilt : goal.returns-in-Unbuilt
returns-in-Unbuilt c = rw c.in-Unbuilt.is (record { says = refl; ends = refl })

pub returns-in-BadVersion : goal.returns-in-BadVersion
returns-in-BadVersion c = rw c.in-BadVersion.is (record { says = refl; ends = refl })
