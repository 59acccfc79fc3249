-- The lines of a text.
use Rattle.std.specs.Prelude.{ℕ, ◌==◌, if◌then◌else◌, List, [], ◌∷◌}
use Rattle.std.specs.List.{onto_first}

abbrev pub LINE_FEED : ℕ
LINE_FEED = 10

-- The text is cut at each line feed. Bytes after the last one are a line, where there are any.
abbrev pub lines_of : List ℕ → List (List ℕ)
lines_of [] = []
lines_of (byte ∷ text) = if byte == LINE_FEED then [] ∷ lines_of text else onto_first byte (lines_of text)
