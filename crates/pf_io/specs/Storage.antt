-- What is stored of named files, and the events that were recorded.
use Rattle.std.specs.Prelude.{◌≡◌, ℕ, Bool, cond, List, [], ◌∷◌, ◌++◌, map, zip, find, Option, option_map, Result, Ok, Err, bytes_eq}
use Rattle.pf_io.specs.Disk.{Name}
use Rattle.pf_io.specs.Host.{LengthWas, Gave, Wrote, WasCut, Synced, Made, Swapped, Removed}
use Rattle.pf_io.specs.Replay.{Event, Call, Put, Stored, settled, after_all, empty, set_at}
use Rattle.pf_io.specs.declared.storage.StoredFile.{StoredFile}
use Rattle.pf_io.specs.declared.storage.Entry.{Entry}
use Rattle.pf_io.specs.declared.told.Told.{Told}
use Rattle.pf_io.specs.declared.told.Told.TheVariants.{Length, Given, Write, Cut, Sync, Make, Swap, Remove, Place}
use Rattle.pf_io.specs.declared.tear.Tear.{Tear}
use Rattle.pf_io.specs.declared.tear.Tear.TheVariants.{Kept, Lost, Fill}

abbrev pub stored_of : StoredFile → Stored
stored_of file = record { bytes = file.bytes.items; synced = file.synced.items; kept = file.kept.items }

abbrev pub named : Name → Entry → Bool
named name entry = bytes_eq entry.name.items name

-- what a list of files has at a name
abbrev pub look : List Entry → Name → Option Stored
look entries name = option_map (λ entry. stored_of entry.file) (find (named name) entries)

-- the bytes of a name
abbrev pub bytes_of : Option Stored → Option (List ℕ)
bytes_of file = option_map (λ stored. stored.bytes) file

abbrev pub event_of : Told → Event
event_of (Length name length) = Call (LengthWas name.items length)
event_of (Given name place room bytes) = Call (Gave name.items place room bytes.items)
event_of (Write name place bytes) = Call (Wrote name.items place bytes.items)
event_of (Cut name len) = Call (WasCut name.items len)
event_of (Sync name) = Call (Synced name.items)
event_of (Make name) = Call (Made name.items)
event_of (Swap from to) = Call (Swapped from.items to.items)
event_of (Remove name) = Call (Removed name.items)
event_of (Place name bytes) = Put name.items bytes.items

abbrev pub events_of : List Told → List Event
events_of told = map event_of told

-- what is stored of each name after the events
abbrev pub stored_after : List Event → Name → Option Stored
stored_after events name = option_map (λ file. file.stored) (after_all events empty name)

-- the storage has what the events leave
abbrev pub StoresAfter : List Entry → List Told → Type 0
StoresAfter files told = (name : Name) → look files name ≡ stored_after (events_of told) name

-- the name has this, and every other name what it had
abbrev pub Sets : Name → Option Stored → List Entry → List Entry → Type 0
Sets name value old new = (other : Name) → look new other ≡ set_at name value (look old) other

-- An event is recorded, and at a fault none.
abbrev pub Records : {T E : Type 0} → Result T E → (T → Event) → List Event → List Event → Type 0
Records (Ok value) event old new = new ≡ old ++ event value ∷ []
Records (Err fault) event old new = new ≡ old

-- the bytes with this one at each place that is not kept
abbrev pub filled : ℕ → List ℕ → List Bool → List ℕ
filled byte bytes kept = map (λ place. cond place.1 place.0 byte) (zip bytes kept)

-- the bytes after a crash: as read, as at the last sync, or as read with this byte at each place that is not kept
abbrev pub torn_bytes : Tear → Stored → List ℕ
torn_bytes Kept file = file.bytes
torn_bytes Lost file = file.synced
torn_bytes (Fill byte) file = filled byte file.bytes file.kept

-- the events leave each file settled, with the bytes of a crash
abbrev pub IsTorn : Tear → (Name → Option Stored) → List Event → Type 0
IsTorn tear files events = (name : Name) → after_all events empty name ≡ option_map (λ file. settled (torn_bytes tear file)) (files name)
