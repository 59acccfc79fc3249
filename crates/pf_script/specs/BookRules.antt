-- What the book of a script rests on: what a move that failed may leave, and which names it goes on to speak of.
use Rattle.std.specs.Prelude.{Bool, false}

-- A move copies the file to its new name, so for a while both names may be there.
abbrev pub MayLeaveBoth : Type 0
MayLeaveBoth = Unit {0}

-- Whether the book goes on to speak of a name on which a call failed, once it is opened again: an opening syncs nothing, so it does not.
abbrev pub speaks_of_failed : Bool
speaks_of_failed = false
