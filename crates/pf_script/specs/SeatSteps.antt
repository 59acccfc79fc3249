-- Steps on the content of a seat, and the sheets that the seat seals.
use Rattle.std.specs.Prelude.{◌≡◌, ◌≢◌, ◌⊎◌, ◌↔◌, ℕ, ◌+◌, ◌^◌, ◌<◌, ◌≤◌, true, false, cond, List, [], ◌∷◌, ◌++◌, length, replicate, slice_index, slice_index_or, Contains, None}
use Rattle.std.specs.List.Sorted.{IsStrictlyIncreasing}
use Rattle.node_layout.specs.Entries.{entry_at}
use Rattle.node_layout.specs.Places.{mht_place, node_count, parent_of, slot_of}
use Rattle.node_tree.specs.Applying.{Step, Write, Size, applied, size_after, from_of, to_of, Touches}
use Rattle.node_tree.specs.Existing.{AreKeys}
use Rattle.node_tree.specs.Marks.{IsChangedCount, MayChange}
use Rattle.node_tree.specs.Sheet.{Node, Sheet, HasNode, IsLinked}
use Rattle.node_tree.specs.State.{MOST_DIRTY, NO_ENTRY}
use Rattle.pf_io.specs.Disk.{Name}
use Rattle.pf_session.specs.Creating.{empty_sheet}
use Rattle.pf_session.specs.Drawing.{IsNonce, nonce_words}
use Rattle.pf_script.specs.Script.{OwnSeat}
use Rattle.pf_script.specs.declared.line.ScriptLine.{ScriptLine}
use Rattle.pf_script.specs.declared.line.ScriptLine.TheVariants as lines

-- the most bytes of one step, and of a content
abbrev pub PIECE : ℕ
PIECE = 32768

abbrev pub LARGEST : ℕ
LARGEST = 2 ^ 32

-- The dirty nodes of a content of this size, and those that a step touches, are more than may be dirty: the seat is flushed first.
pub record FlushesFirst (size : ℕ) (dirty : List ℕ) (step : Step) : Type 0 where
  pub count : ℕ
  pub is_count : IsChangedCount dirty (from_of step size) (to_of step size) count
  pub many : MOST_DIRTY < count

-- they are not
abbrev pub Fits : ℕ → List ℕ → Step → Type 0
Fits size dirty step = MayChange dirty (from_of step size) (to_of step size)

-- the dirty nodes after a step: those that were dirty or are touched, and are live
pub record AreDirtyAfter (size : ℕ) (dirty : List ℕ) (step : Step) (after : List ℕ) : Type 0 where
  pub rising : IsStrictlyIncreasing after
  pub exactly : (k : ℕ) → Contains after k ↔ ((Contains dirty k ⊎ Touches step size k) × (k < node_count (size_after step size)))

-- the seat after a step that fits
pub record IsStepped (step : Step) (old new : OwnSeat) : Type 0 where
  pub dirty : AreDirtyAfter (length old.content) old.dirty step new.dirty
  pub rest : new ≡ record old { content = applied step old.content; dirty = new.dirty; changed = true }

-- The sheet after another one, of this path, nonce and content. Its nodes that are not dirty are those of the old sheet; the dirty ones have these keys, in rising number,
-- and in dirty hash-tree nodes the entries of children that are not live are zero.
pub record IsNextSheet (old : Sheet) (path nonce content dirty : List ℕ) (keys : List (List ℕ)) (next : Sheet) : Type 0 where
  pub linked : IsLinked next
  pub path_is : next.path ≡ path
  pub nonce_is : next.nonce ≡ nonce
  pub content_is : next.content ≡ content
  pub clean : (k : ℕ) (node : Node) → ¬ (Contains dirty k) → HasNode next k node → HasNode old k node
  pub new_keys : (j : ℕ) (node : Node) → j < length dirty → HasNode next (slice_index dirty j) node → node.key ≡ slice_index_or keys j []
  pub free_entries : (m k : ℕ) (node : Node) → Contains dirty (mht_place m) → HasNode next (mht_place m) node → 2 ≤ k → parent_of k ≡ mht_place m → node_count (length content) ≤ k
      → entry_at node.plain (slot_of k) ≡ NO_ENTRY

-- A flush of the seat with these words seals this sheet: the nonce that was drawn, or two words; then a word for each dirty node.
pub record Seals (own : OwnSeat) (words : List (List ℕ)) (sheet : Sheet) : Type 0 where
  pub nonce : List ℕ
  pub of_nonce : List (List ℕ)
  pub keys : List (List ℕ)
  pub is_nonce : IsNonce own.drawn nonce of_nonce
  pub are_keys : AreKeys (length own.dirty) keys
  pub words_are : words ≡ of_nonce ++ keys
  pub next : IsNextSheet own.sheet own.name nonce own.content own.dirty keys sheet

-- how many words a flush of the seat takes, and a move to another name, which flushes changes first
abbrev pub words_of_flush : OwnSeat → ℕ
words_of_flush own = nonce_words own.drawn + length own.dirty

abbrev pub words_of_move : OwnSeat → ℕ
words_of_move own = cond own.changed (words_of_flush own) 0 + 2

-- the seat on the sheet that it sealed
abbrev pub resealed : OwnSeat → Sheet → OwnSeat
resealed own sheet = record own { sheet = sheet; dirty = []; changed = false; drawn = None }

-- A creation with these two words seals this sheet.
pub record SealsEmpty (name : Name) (words : List (List ℕ)) (sheet : Sheet) : Type 0 where
  pub first : List ℕ
  pub second : List ℕ
  pub words_are : words ≡ first ∷ second ∷ []
  pub sheet_is : sheet ≡ empty_sheet name (first ++ second)
  pub linked : IsLinked sheet

-- A move to another name, of a seat without changes, seals this sheet with two words of its own.
pub record SealsMoved (own : OwnSeat) (name : Name) (words : List (List ℕ)) (sheet : Sheet) : Type 0 where
  pub first : List ℕ
  pub second : List ℕ
  pub words_are : words ≡ first ∷ second ∷ []
  pub next : IsNextSheet own.sheet name (first ++ second) own.content [] [] sheet

-- the seat under its new name; a nonce that was drawn stays for the next flush
abbrev pub renamed : OwnSeat → Name → Sheet → OwnSeat
renamed own name sheet = record own { name = name; sheet = sheet }

abbrev pub broken_seat : OwnSeat → OwnSeat
broken_seat own = record own { broken = true }

-- One step of a seat: it is flushed first exactly where too many nodes would be dirty. `sheets` has what was sealed.
pub data Makes (own : OwnSeat) (step : Step) (words : List (List ℕ)) (sheets : List Sheet) (after : OwnSeat) : Type 0 where
  at_once : Fits (length own.content) own.dirty step → words ≡ [] → sheets ≡ [] → IsStepped step own after → Makes own step words sheets after
  once_flushed : (sheet : Sheet) → FlushesFirst (length own.content) own.dirty step → Seals own words sheet → sheets ≡ sheet ∷ [] → IsStepped step (resealed own sheet) after → Makes own step words sheets after

-- several steps, in order
pub data MakesAll : OwnSeat → List Step → List (List ℕ) → List Sheet → OwnSeat → Type 0 where
  none_left : (own : OwnSeat) → MakesAll own [] [] [] own
  one_more : (own mid after : OwnSeat) (step : Step) (steps : List Step) (words more : List (List ℕ)) (sheets others : List Sheet)
      → Makes own step words sheets mid → MakesAll mid steps more others after → MakesAll own (step ∷ steps) (words ++ more) (sheets ++ others) after

-- a write; an empty one is no step
pub data IsWrite (at : ℕ) (bytes : List ℕ) (steps : List Step) : Type 0 where
  nothing : bytes ≡ [] → steps ≡ [] → IsWrite at bytes steps
  at_place : bytes ≢ [] → steps ≡ Write at bytes ∷ [] → IsWrite at bytes steps

-- A change of a size: the present one is no step, and a growth by more than a piece is made piece by piece.
pub data IsResize (n : ℕ) : ℕ → List Step → Type 0 where
  same : (size : ℕ) → n ≡ size → IsResize n size []
  last : (size : ℕ) → n ≢ size → n ≤ size + PIECE → IsResize n size (Size n ∷ [])
  piece : (size : ℕ) (steps : List Step) → size + PIECE < n → IsResize n (size + PIECE) steps → IsResize n size (Size (size + PIECE) ∷ steps)

-- the steps that a line asks of a content of this size
abbrev pub AsksFor : ScriptLine → ℕ → List Step → Type 0
AsksFor lines.Blank size steps = ⊥
AsksFor (lines.Create seat name) size steps = ⊥
AsksFor (lines.Open seat name) size steps = ⊥
AsksFor (lines.View seat path) size steps = ⊥
AsksFor (lines.Read seat at count) size steps = ⊥
AsksFor (lines.Write seat at bytes) size steps = IsWrite at bytes steps
AsksFor (lines.Fill seat at count byte) size steps = IsWrite at (replicate count byte) steps
AsksFor (lines.Size seat n) size steps = IsResize n size steps
AsksFor (lines.Flush seat) size steps = ⊥
AsksFor (lines.Move seat name) size steps = ⊥
AsksFor (lines.Draw seat) size steps = ⊥
AsksFor (lines.Close seat) size steps = ⊥

-- some steps of a line were made, and then comes the next one
pub record MadeSome (line : ScriptLine) (own : OwnSeat) (next : Step) (words : List (List ℕ)) (sheets : List Sheet) (mid : OwnSeat) : Type 0 where
  pub made : List Step
  pub rest : List Step
  pub of_line : AsksFor line (length own.content) (made ++ next ∷ rest)
  pub were_made : MakesAll own made words sheets mid
