-- What `decrypt` puts out of a sealed version of a file, where nothing that was given is forged.
use Rattle.std.specs.Prelude.{◌≡◌, ◌≢◌, ◌⊎◌, ℕ, ◌+◌, ◌<◌, ◌≤◌, List, [], ◌∷◌, length, take, drop, Contains}
use Rattle.std.specs.List.{concat}
use Rattle.node_layout.specs.declared.damage.Kind.{Kind}
use Rattle.node_layout.specs.declared.damage.Kind.TheVariants.{Text}
use Rattle.node_tree.specs.Sheet.{Sheet}
use Rattle.node_tree.specs.Opened.{Given}
use Rattle.node_tree.specs.Parts.{PIECE}
use Rattle.node_tree.specs.Reading.{IsForeign}
use Rattle.node_tree.specs.Unforged.{Unforged, Carries}
use Rattle.pf_io.specs.Disk.{Name}
use Rattle.pf_io.specs.Host.{Answer, Gave, Both, IsMore}
use Rattle.pf_io.specs.Answered.{WereTold}
use Rattle.pf_io.specs.Streams.{TakesFront}
use Rattle.pf_tool.specs.World.{World}
use Rattle.pf_tool.specs.Events.{Event, answers_in, pieces_in}
use Rattle.pf_tool.specs.Endings.{Done, Damaged, Stop, AtEnd, tried, ending_line}
use Rattle.pf_tool.specs.Decrypting.{DecryptLeads}
use Rattle.pf_tool.specs.Outcomes.{StopsAt}
use Rattle.pf_tool.specs.Reports.{WroteAll}

-- the pieces of a content from a place on, as far as they go
abbrev pub ArePiecesOf : List ℕ → ℕ → List (List ℕ) → Type 0
ArePiecesOf content at [] = Unit {0}
ArePiecesOf content at (piece ∷ pieces) = (at < length content) × (piece ≡ take PIECE (drop at content)) × ArePiecesOf content (at + PIECE) pieces

-- the node 0 that was given carries the sheet
pub record IsCarried (user : List ℕ) (input : Name) (these : List Answer) (sheet : Sheet) : Type 0 where
  pub block : List ℕ
  pub gave : Given input these 0 block
  pub carries : Carries user block sheet

-- The pieces, also the one in which the output failed, are those of the sheet's content from its first byte. Where the work is
-- done they are all of it. A damaged block is not the sheet's seal of its node.
pub record IsOfSheet (input : Name) (sheet : Sheet) (events : List Event) (stop : Stop) : Type 0 where
  pub pieces : ArePiecesOf sheet.content 0 (pieces_in (tried events stop))
  pub all : stop ≡ AtEnd Done → concat (pieces_in events) ≡ sheet.content
  pub damage : (k : ℕ) (kind : Kind) → 1 ≤ k → stop ≡ AtEnd (Damaged k kind) → IsForeign sheet (Given input (answers_in events)) k

-- node 0 was opened
abbrev pub IsBehindNode : List Event → Stop → Type 0
IsBehindNode events stop = (pieces_in (tried events stop) ≢ []) ⊎ ((stop ≡ AtEnd Done) ⊎ ((k : ℕ) × (kind : Kind) × (1 ≤ k) × (stop ≡ AtEnd (Damaged k kind))))

-- Of a list of sheets, with nothing forged under the key that was given: what is put out is of each of them that the node 0
-- given carries, and there is one; and node 0 never opens to a text of no metadata.
pub record IsOfSheets (user : List ℕ) (sheets : List Sheet) (input : Name) (events : List Event) (stop : Stop) : Type 0 where
  pub each : (sheet : Sheet) → Contains sheets sheet → IsCarried user input (answers_in events) sheet → IsOfSheet input sheet events stop
  pub some : IsBehindNode events stop → (sheet : Sheet) × Contains sheets sheet × IsCarried user input (answers_in events) sheet
  pub never_text : stop ≢ AtEnd (Damaged 0 Text)

abbrev pub DecryptsSheets : Type 0
DecryptsSheets = (key input : Name) (events : List Event) (stop : Stop) (user : List ℕ) (sheets : List Sheet) → StopsAt (DecryptLeads key input) events stop → Contains (answers_in events) (Gave key 0 16 user)
    → Unforged user sheets (answers_in events) → IsOfSheets user sheets input events stop

-- What came of a run of which these answers were told: the output took a front of the sheet's content, at status 0 all of it,
-- and a damage that is named is of a block that is not the sheet's seal of its node.
pub record TookOf (input : Name) (sheet : Sheet) (these : List Answer) (old new : World) (status : ℕ) : Type 0 where
  pub front : Both old.out.bytes new.out.bytes (TakesFront sheet.content)
  pub all : status ≡ 0 → Both old.out.bytes new.out.bytes (IsMore sheet.content)
  pub damage : status ≡ 1 → (k : ℕ) × (kind : Kind) × WroteAll (ending_line (Damaged k kind)) old.log new.log × (1 ≤ k → IsForeign sheet (Given input these) k)

-- So for each sheet of the list that the node 0 given carries, and where anything was put out, or the work is done, there is one.
pub record TookOfSheets (user : List ℕ) (sheets : List Sheet) (input : Name) (these : List Answer) (old new : World) (status : ℕ) : Type 0 where
  pub each : (sheet : Sheet) → Contains sheets sheet → IsCarried user input these sheet → TookOf input sheet these old new status
  pub some : (new.out ≡ old.out) ⊎ ((sheet : Sheet) × Contains sheets sheet × IsCarried user input these sheet)
  pub done : status ≡ 0 → (sheet : Sheet) × Contains sheets sheet × IsCarried user input these sheet

-- for each list of sheets with nothing forged of them under the key that was given
abbrev pub TookContent : Name → Name → World → World → ℕ → Type 0
TookContent key input old new status = (these : List Answer) (user : List ℕ) (sheets : List Sheet) → WereTold these old.host new.host → Contains these (Gave key 0 16 user) → Unforged user sheets these
    → TookOfSheets user sheets input these old new status
