use Rattle.std.proofs.Common.{refl}
use Rattle.pf_tool.proofs.session_faults.piece_fault.Goals as goal

pub returns-in-TooLarge : goal.returns-in-TooLarge
returns-in-TooLarge c = rw c.in-TooLarge.is refl

pub returns-in-Words : goal.returns-in-Words
returns-in-Words c = rw c.in-Words.is refl

pub returns-in-Damaged : goal.returns-in-Damaged
returns-in-Damaged c = rw c.in-Damaged.is refl

pub returns-in-Host : goal.returns-in-Host
returns-in-Host c = rw c.in-Host.is refl

pub returns-in-Memory : goal.returns-in-Memory
returns-in-Memory c = rw c.in-Memory.is refl
