-- Steps on a content, and the bytes that they concern.
use Rattle.std.specs.Prelude.{ℕ, ◌+◌, ◌-◌, ◌*◌, min, max, List, ◌++◌, length, take, drop, replicate}
use Rattle.node_layout.specs.Places.{data_count}
use Rattle.node_tree.specs.Touched.{IsTouched}

-- bytes are written from a place on, or the content gets another length
pub data Step : Type 0 where
  Write : (at : ℕ) → (bytes : List ℕ) → Step
  Size : (n : ℕ) → Step

-- the content after a step
abbrev pub applied : Step → List ℕ → List ℕ
applied (Write at bytes) content = take at content ++ bytes ++ drop (at + length bytes) content
applied (Size n) content = take n content ++ replicate (n - length content) 0

-- how long it is then
abbrev pub size_after : Step → ℕ → ℕ
size_after (Write at bytes) size = max size (at + length bytes)
size_after (Size n) size = n

-- The range of a step, from the first byte up to the second: the bytes that are written, those that come, or those of the last data node that is left that go. Below
-- byte 3072 it has no data node.
abbrev pub from_of : Step → ℕ → ℕ
from_of (Write at bytes) size = at
from_of (Size n) size = min size n

abbrev pub to_of : Step → ℕ → ℕ
to_of (Write at bytes) size = at + length bytes
to_of (Size n) size = max n (min size (3072 + 4096 * data_count n))

-- a step on a content of this size touches node k
abbrev pub Touches : Step → ℕ → ℕ → Type 0
Touches step size k = IsTouched (from_of step size) (to_of step size) k
