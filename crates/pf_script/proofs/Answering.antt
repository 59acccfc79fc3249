-- Answers of a reading from those of its parts.
use Rattle.std.proofs.Common.{◌≡◌, Option, Some, None, Result, Ok, Err, MatchOption, sym, subst}
use Rattle.pf_script.specs.declared.fault.LineFault.{LineFault}
use Rattle.pf_script.specs.declared.fault.LineFault.TheVariants as faults
use Rattle.pf_script.specs.declared.line.ScriptLine.{ScriptLine}
use Rattle.pf_script.specs.Reading.{Reads}

-- a line that takes no memory
pub or_bad_reads : (P : ScriptLine → Type 0) (line : Option ScriptLine) (r : Result ScriptLine LineFault) → MatchOption line ((l : ScriptLine) → ¬ (P l)) P → MatchOption line (r ≡ Err faults.BadLine) (λ l. r ≡ Ok l) → Reads P r
or_bad_reads P (Some line) r is made = subst (Reads P) (sym made) is
or_bad_reads P None r none made = subst (Reads P) (sym made) none

-- where a part is not read, the whole is not
pub part_unread : {T : Type 0} (P : T → Type 0) (Q : ScriptLine → Type 0) (fault : LineFault) → ((line : ScriptLine) → Q line → (value : T) × P value) → Reads P (Err fault) → Reads Q (Err fault)
part_unread P Q faults.BadLine part none = λ line is. let p = part line is in none p.0 p.1
part_unread P Q faults.Memory part free = tt
