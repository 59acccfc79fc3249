-- The lines of a layout's text, and their words.
use Rattle.std.specs.Prelude.{ℕ, suc, Bool, true, not, ◌==◌, List, [], ◌∷◌, filter}
use Rattle.std.specs.List.{slice_split}
pub use Rattle.pf_io.specs.Lines.{LINE_FEED, lines_of}

abbrev pub SPACE : ℕ
SPACE = 32

abbrev pub NUMBER_SIGN : ℕ
NUMBER_SIGN = 35

-- a line and its number
abbrev pub Line : Type 0
Line = ℕ × List ℕ

-- lines that follow so many others
abbrev pub numbered : ℕ → List (List ℕ) → List Line
numbered before [] = []
numbered before (bytes ∷ lines) = (suc before, bytes) ∷ numbered (suc before) lines

-- an empty line, or a comment
abbrev pub is_skipped : List ℕ → Bool
is_skipped [] = true
is_skipped (byte ∷ bytes) = byte == NUMBER_SIGN

abbrev pub is_read : Line → Bool
is_read line = not (is_skipped line.1)

-- those of a text's lines that are not skipped, where the text follows so many lines
abbrev pub read_after : ℕ → List ℕ → List Line
read_after before text = filter is_read (numbered before (lines_of text))

-- those of a whole text; lines are numbered from 1, the skipped ones too
abbrev pub read_lines : List ℕ → List Line
read_lines text = read_after 0 text

-- words are separated by one space
abbrev pub words_of : List ℕ → List (List ℕ)
words_of line = slice_split (λ byte. byte == SPACE) line
