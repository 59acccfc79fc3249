-- The reading of a plain input file, whole.
use Rattle.std.specs.Prelude.{◌≡◌, ◌⊎◌, ℕ, ◌<◌, ◌≤◌, List, [], ◌∷◌, ◌++◌, length, map, Some, None, Result, Ok, Err}
use Rattle.std.specs.List.{concat}
use Rattle.pf_io.specs.Disk.{Name, Files}
use Rattle.pf_io.specs.Host.{Answer, LengthWas}
use Rattle.pf_io.specs.Names.{IsName}
use Rattle.pf_io.specs.Slices.{IsTaken, CameInTurn}
use Rattle.pf_tool.specs.World.{World}
use Rattle.pf_tool.specs.Events.{Event, Answers}
use Rattle.pf_tool.specs.Endings.{Ending, Done, Refused, BadName, NotFound, TooLarge}
use Rattle.pf_tool.specs.Happened.{Passed}

-- the most bytes of a template, a manifest or a layout
abbrev pub MOST_INPUT : ℕ
MOST_INPUT = 4194304

-- answers of the host, as events
abbrev pub asked : List Answer → List Event
asked these = map Answers these

-- What the reading of a file comes to by the events: its bytes, or why there are none. Slices come in turn, up to the first that
-- is no whole one, or the one with which there are too many bytes.
pub data InputReads (name : Name) (events : List Event) (result : Result (List ℕ) Ending) : Type 0 where
  file_unnamed : ¬ (IsName name) → events ≡ [] → result ≡ Err (Refused BadName) → InputReads name events result
  file_absent : IsName name → events ≡ asked (LengthWas name None ∷ []) → result ≡ Err (Refused (NotFound name)) → InputReads name events result
  file_large : (whole : List (List ℕ)) (last : List ℕ) (these : List Answer) → IsName name → CameInTurn name whole (last ∷ []) these → length (concat whole) ≤ MOST_INPUT → MOST_INPUT < length (concat (whole ++ last ∷ []))
      → events ≡ asked these → result ≡ Err (Refused TooLarge) → InputReads name events result
  file_taken : (text : List ℕ) (these : List Answer) → IsName name → IsTaken name these text → length text ≤ MOST_INPUT → events ≡ asked these → result ≡ Ok text → InputReads name events result

-- the reading as a part of a command: it is done, or the command ends with it
abbrev pub InputLeads : Name → List Event → Ending → Type 0
InputLeads name events ending = InputReads name events (Err ending) ⊎ ((text : List ℕ) × InputReads name events (Ok text) × (ending ≡ Done))

-- these bytes were read, and nothing else happened
pub record InputRead (name : Name) (text : List ℕ) (old new : World) : Type 0 where
  pub events : List Event
  pub reads : InputReads name events (Ok text)
  pub passed : Passed events old new

-- the bytes that files give, or the refusal
pub data InputOver (files : Files) (name : Name) (result : Result (List ℕ) Ending) : Type 0 where
  over_unnamed : ¬ (IsName name) → result ≡ Err (Refused BadName) → InputOver files name result
  over_absent : IsName name → files name ≡ None → result ≡ Err (Refused (NotFound name)) → InputOver files name result
  over_large : (text : List ℕ) → IsName name → files name ≡ Some text → MOST_INPUT < length text → result ≡ Err (Refused TooLarge) → InputOver files name result
  over_taken : (text : List ℕ) → IsName name → files name ≡ Some text → length text ≤ MOST_INPUT → result ≡ Ok text → InputOver files name result
