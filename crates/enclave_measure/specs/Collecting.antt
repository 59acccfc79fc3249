-- What the reader keeps of the pages so far.
use Rattle.std.specs.Prelude.{◌≡◌, ℕ, List}
use Rattle.std.specs.BTreeSet.{BTreeSet, contains}
use Rattle.std.specs.Ordering.{nat_cmp}
use Rattle.enclave_measure.specs.declared.lines.Line.{Line as LentLine}
use Rattle.enclave_measure.specs.declared.page.Page.{Page}
use Rattle.enclave_measure.specs.Lines.{Line}
use Rattle.enclave_measure.specs.Layouts.{has_offset}

abbrev pub line_of : LentLine → Line
line_of line = (line.number, line.bytes.now)

-- the set has the offsets of the pages, and no others
abbrev pub Tracks : BTreeSet ℕ → List Page → Type 0
Tracks offsets pages = (offset : ℕ) → contains nat_cmp offsets offset ≡ has_offset offset pages
