-- The line of a sum.
use Rattle.std.specs.Prelude.{ℕ, List, ◌++◌, codes}
use Rattle.hex.specs.Hex.{encode_lower}

-- the digits of the sum in lower case, two spaces, the uri and a newline: the form of `sha256sum`, with the uri for the name and nothing escaped
abbrev pub sum_line : List ℕ → List ℕ → List ℕ
sum_line sum uri = encode_lower sum ++ codes "  " ++ uri ++ codes "\n"
