-- Answers of a host that are of sheets.
use Rattle.std.specs.Prelude.{◌≡◌, ℕ, List, [], Contains, length, Some}
use Rattle.std.specs.List.{AllByRecursion}
use Rattle.aes_gcm.specs.Gcm.{opens}
use Rattle.node_layout.specs.Metadata.{meta_opens, nonce_at}
use Rattle.pf_io.specs.Host.{Name, Files, Answer, Gave, contents}
use Rattle.pf_io.specs.Answered.{IsAnswerOf}
use Rattle.node_tree.specs.Sheet.{Node, Sheet, HasNode, IsLinked, tag_of, meta_of, Stands}
use Rattle.node_tree.specs.Opened.{AtNodes, Given}

-- a block of 4096 bytes that was given, of whatever name and place
pub record WasGiven (given : List Answer) (block : List ℕ) : Type 0 where
  pub name : Name
  pub place : ℕ
  pub room : ℕ
  pub there : Contains given (Gave name place room block)
  pub whole : length block ≡ 4096

-- No block that was given opens to what none of the sheets has.
pub record Unforged (user : List ℕ) (sheets : List Sheet) (given : List Answer) : Type 0 where
  pub linked : (sheet : Sheet) → Contains sheets sheet → IsLinked sheet
  pub metadata : (block text : List ℕ) → WasGiven given block → meta_opens user block ≡ Some text → (sheet : Sheet) × Contains sheets sheet × (nonce_at block ≡ sheet.nonce) × (text ≡ meta_of sheet)
  pub seals : (block plain : List ℕ) (sheet : Sheet) (k : ℕ) (node : Node) → WasGiven given block → Contains sheets sheet → HasNode sheet k node → opens node.key [] block (tag_of node) ≡ Some plain → plain ≡ node.plain
  pub one_text : (sheet other : Sheet) (j k : ℕ) (node node' : Node) → Contains sheets sheet → Contains sheets other → HasNode sheet j node → HasNode other k node' → node.key ≡ node'.key → tag_of node ≡ tag_of node' → node.plain ≡ node'.plain

-- What was given of a node opens under the sheet's key and tag of that node to its plain text, or not at all.
pub record GivenOf (sheet : Sheet) (given : AtNodes) : Type 0 where
  pub linked : IsLinked sheet
  pub seals : (k : ℕ) (block plain : List ℕ) (node : Node) → given k block → length block ≡ 4096 → HasNode sheet k node → opens node.key [] block (tag_of node) ≡ Some plain → plain ≡ node.plain

-- Node 0 carries the sheet's nonce, and under the user's key its metadata.
pub record Carries (user block : List ℕ) (sheet : Sheet) : Type 0 where
  pub nonce : nonce_at block ≡ sheet.nonce
  pub metadata : meta_opens user block ≡ Some (meta_of sheet)

-- Where nothing is forged, what was given is of each sheet of the list; and where node 0 opens, some sheet of the list is carried.
pub record UnforgedGives (user : List ℕ) (sheets : List Sheet) (given : List Answer) : Type 0 where
  pub nodes : (name : Name) (sheet : Sheet) → Contains sheets sheet → GivenOf sheet (Given name given)
  pub node_0 : (block text : List ℕ) → WasGiven given block → meta_opens user block ≡ Some text → (sheet : Sheet) × Contains sheets sheet × Carries user block sheet

abbrev pub EachUnforgedGives : Type 0
EachUnforgedGives = (user : List ℕ) (sheets : List Sheet) (given : List Answer) → Unforged user sheets given → UnforgedGives user sheets given

-- Where the answers are those of files, and a file stands for a sheet, what was given of it is of that sheet; and its node 0 carries it.
pub record FileGives (user file : List ℕ) (name : Name) (sheet : Sheet) (given : List Answer) : Type 0 where
  pub nodes : GivenOf sheet (Given name given)
  pub node_0 : (block : List ℕ) → Contains given (Gave name 0 4096 block) → (length block ≡ 4096) × Carries user block sheet

abbrev pub EachFileGives : Type 0
EachFileGives = (user : List ℕ) (files : Files) (name : Name) (sheet : Sheet) (given : List Answer) → length user ≡ 16 → AllByRecursion (IsAnswerOf files) given → Stands (contents (files name)) user sheet
    → FileGives user (contents (files name)) name sheet given
