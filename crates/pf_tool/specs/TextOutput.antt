-- A text that is put out in pieces.
use Rattle.std.specs.Prelude.{◌≡◌, ℕ, ◌*◌, max, List, length, take, drop, map}
use Rattle.std.specs.List.{range_with_len}
use Rattle.pf_io.specs.SideFile.{PIECE, pieces}
use Rattle.pf_tool.specs.Events.{Event, Puts}
use Rattle.pf_tool.specs.Endings.{Ending, Done}

-- the piece of a text at a place in their row, counted from 0
abbrev pub piece_at : List ℕ → ℕ → List ℕ
piece_at text k = take PIECE (drop (k * PIECE) text)

-- how many pieces a text is: an empty text is one, which is empty
abbrev pub count_of : List ℕ → ℕ
count_of text = max 1 (pieces (length text))

-- its pieces, in order
abbrev pub pieces_of : List ℕ → List (List ℕ)
pieces_of text = map (piece_at text) (range_with_len 0 (count_of text))

-- all of them are put out
pub record PutsText (text : List ℕ) (events : List Event) (ending : Ending) : Type 0 where
  pub are : events ≡ map Puts (pieces_of text)
  pub done : ending ≡ Done
