-- A book on examples.
use Rattle.std.specs.Prelude.{ℕ, true, false, List, [], ◌∷◌, ◌++◌, replicate, None, codes}
use Rattle.pf_io.specs.Disk.{Name}
use Rattle.pf_script.specs.Book.{Book, Seal}
use Rattle.pf_script.specs.BookActs.{Creation, Flush, Move, booked_all}
use Rattle.pf_script.specs.Script.{OwnSeat, Empty, Own, ScriptState}

abbrev pub nothing_booked : Book
nothing_booked name = None

-- a sheet of this content at a name, under a key
abbrev pub seal_at : Name → List ℕ → Seal
seal_at name content = record { key = replicate 16 7; name = name; sheet = record { path = name; nonce = []; content = content; nodes = [] } }

-- "a" was created, flushed with 1, and flushed with 1 and 2, which failed
abbrev pub book_of_flushes : Book
book_of_flushes = booked_all (record { deed = Creation (seal_at (codes "a") []); done = true } ∷ record { deed = Flush (seal_at (codes "a") (1 ∷ [])); done = true } ∷ record { deed = Flush (seal_at (codes "a") (1 ∷ 2 ∷ [])); done = false } ∷ []) nothing_booked

-- "a" was created, flushed with 1, and moved to "b", which failed
abbrev pub book_of_a_move : Book
book_of_a_move = booked_all (record { deed = Creation (seal_at (codes "a") []); done = true } ∷ record { deed = Flush (seal_at (codes "a") (1 ∷ [])); done = true } ∷ record { deed = Move (codes "a") (seal_at (codes "b") (1 ∷ [])); done = false } ∷ []) nothing_booked

-- and then "b" was created
abbrev pub book_after_it : Book
book_after_it = booked_all (record { deed = Creation (seal_at (codes "b") []); done = true } ∷ []) book_of_a_move

-- the seat of that sheet, and eight seats of which the first and the last have files
abbrev pub seat_with : Name → List ℕ → OwnSeat
seat_with name content = record { key = replicate 16 7; name = name; sheet = (seal_at name content).sheet; content = content; dirty = []; changed = false; drawn = None; broken = false }

abbrev pub two_seats : ScriptState
two_seats = record { key = replicate 16 7; seats = Own (seat_with (codes "a") []) ∷ replicate 6 Empty ++ Own (seat_with (codes "b") []) ∷ []; sealed = [] }
