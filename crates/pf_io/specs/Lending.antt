-- What a loan of owned bytes writes back.
use Rattle.std.specs.Prelude.{ℕ, List, ◌++◌, length, take, drop}
use Rattle.std.specs.Borrow.{Lends, MutBor, Fml, Array, u8}
use Rattle.pf_io.specs.contracts.text.Bytes.{the_row}

-- bytes with others written over their front; others of the same length are the whole
abbrev pub with_front : List ℕ → List ℕ → List ℕ
with_front bytes left = take (length bytes) (left ++ drop (length left) bytes)

-- the bytes end as what was left behind the slice
abbrev pub LendsBytes : MutBor (List ℕ) → MutBor (List ℕ) → Fml
LendsBytes bytes slice = Lends the_row (Array u8 0) bytes slice (with_front bytes.now)
