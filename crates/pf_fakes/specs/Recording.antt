-- The answers that a record of calls tells.
use Rattle.std.specs.Prelude.{◌≡◌, List, [], ◌∷◌, ◌++◌, map, Result, Ok, Err}
use Rattle.pf_io.specs.Host.{Answer, LengthWas, Gave, Wrote, WasCut, Synced, Made, Swapped, Removed}
use Rattle.pf_fakes.specs.declared.record.Recorded.{Recorded}
use Rattle.pf_fakes.specs.declared.record.Recorded.TheVariants.{Length, Given, Write, Cut, Sync, Make, Swap, Remove}

abbrev pub answer_of : Recorded → Answer
answer_of (Length name length) = LengthWas name.items length
answer_of (Given name place room bytes) = Gave name.items place room bytes.items
answer_of (Write name place bytes) = Wrote name.items place bytes.items
answer_of (Cut name len) = WasCut name.items len
answer_of (Sync name) = Synced name.items
answer_of (Make name) = Made name.items
answer_of (Swap from to) = Swapped from.items to.items
answer_of (Remove name) = Removed name.items

abbrev pub answers_of : List Recorded → List Answer
answers_of records = map answer_of records

-- an answer is recorded, and for want of memory none
abbrev pub Records : {T E : Type 0} → Result T E → Answer → List Recorded → List Recorded → Type 0
Records (Ok value) answer old new = answers_of new ≡ answers_of old ++ answer ∷ []
Records (Err fault) answer old new = new ≡ old
