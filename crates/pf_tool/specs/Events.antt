-- What a run does outside of itself: answers of the host, random words and pieces for the output, in one list.
use Rattle.std.specs.Prelude.{List, [], ◌∷◌, ℕ}
use Rattle.std.specs.List.{concat}
use Rattle.pf_io.specs.Counts.{counted}
use Rattle.pf_io.specs.Host.{Answer, Gave, Wrote}

-- The host answered a call; a random word was drawn; the output took these bytes.
pub data Event : Type 0 where
  Answers : (answer : Answer) → Event
  Draws : (word : List ℕ) → Event
  Puts : (bytes : List ℕ) → Event

-- the answers of the host among them
abbrev pub answers_in : List Event → List Answer
answers_in [] = []
answers_in (Answers answer ∷ events) = answer ∷ answers_in events
answers_in (Draws word ∷ events) = answers_in events
answers_in (Puts bytes ∷ events) = answers_in events

-- the random words among them
abbrev pub words_in : List Event → List (List ℕ)
words_in [] = []
words_in (Answers answer ∷ events) = words_in events
words_in (Draws word ∷ events) = word ∷ words_in events
words_in (Puts bytes ∷ events) = words_in events

-- the pieces that the output took
abbrev pub pieces_in : List Event → List (List ℕ)
pieces_in [] = []
pieces_in (Answers answer ∷ events) = pieces_in events
pieces_in (Draws word ∷ events) = pieces_in events
pieces_in (Puts bytes ∷ events) = bytes ∷ pieces_in events

-- all bytes that the output took
abbrev pub bytes_in : List Event → List ℕ
bytes_in events = concat (pieces_in events)

-- a count of the calls of `read_at`, after these answers
abbrev pub reads_after : List Answer → ℕ → ℕ
reads_after [] count = count
reads_after (Gave name place room bytes ∷ these) count = reads_after these (counted count)
reads_after (answer ∷ these) count = reads_after these count

-- a count of the calls of `write_at`, after these answers
abbrev pub writes_after : List Answer → ℕ → ℕ
writes_after [] count = count
writes_after (Wrote name place bytes ∷ these) count = writes_after these (counted count)
writes_after (answer ∷ these) count = writes_after these count
