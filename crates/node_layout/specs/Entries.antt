-- The entries of a hash-tree node: 128 pairs of a key and a tag, 32 bytes each.
use Rattle.std.specs.Prelude.{ℕ, ◌+◌, ◌*◌, List, ◌++◌, take, drop}

-- the key and the tag at a place
abbrev pub entry_at : List ℕ → ℕ → List ℕ × List ℕ
entry_at node place = (take 16 (drop (32 * place) node), take 16 (drop (32 * place + 16) node))

-- the node with a key and a tag at a place
abbrev pub with_entry : List ℕ → ℕ → List ℕ → List ℕ → List ℕ
with_entry node place key tag = take (32 * place) node ++ key ++ tag ++ drop (32 * place + 32) node
