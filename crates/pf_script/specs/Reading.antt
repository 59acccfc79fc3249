-- What the reading of a line answers.
use Rattle.std.specs.Prelude.{⊤, Result, Ok, Err}
use Rattle.pf_script.specs.declared.fault.LineFault.{LineFault}
use Rattle.pf_script.specs.declared.fault.LineFault.TheVariants as faults

-- a value that is read; a bad line where there is none; want of memory is free
abbrev pub Reads : {T : Type 0} → (T → Type 0) → Result T LineFault → Type 0
Reads {T} P (Ok value) = P value
Reads {T} P (Err faults.BadLine) = (value : T) → ¬ (P value)
Reads {T} P (Err faults.Memory) = ⊤
