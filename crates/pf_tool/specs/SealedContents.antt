-- What was given and what was written where `encrypt` is done.
use Rattle.std.specs.Prelude.{◌≡◌, ℕ, ◌+◌, ◌<◌, ◌==◌, ◌&&◌, Bool, false, List, [], ◌∷◌, ◌++◌, length, filter, bytes_eq, Contains, None}
use Rattle.std.specs.List.{AllByRecursion, concat}
use Rattle.node_tree.specs.Backing.{Backs}
use Rattle.node_tree.specs.Next.{NextSheet, IsSealedAs, KeepsShape}
use Rattle.node_tree.specs.Parts.{PIECE}
use Rattle.node_tree.specs.Sheet.{Sheet, IsLinked}
use Rattle.node_tree.specs.State.{TreeState}
use Rattle.pf_io.specs.Disk.{Name}
use Rattle.pf_io.specs.Host.{Answer, LengthWas, Gave, Wrote, WasCut, Synced, Made, Swapped, Removed, Both}
use Rattle.pf_io.specs.Names.{side_of}
use Rattle.pf_io.specs.Words.{WordsState}
use Rattle.pf_session.specs.Asking.{IsTaken}
use Rattle.pf_session.specs.Drawing.{WordsCame}
use Rattle.pf_session.specs.Steps.{seal_steps}

-- whether an answer gives bytes of the file, with room for a piece
abbrev pub is_piece_of : Name → Answer → Bool
is_piece_of input (LengthWas name length) = false
is_piece_of input (Gave name place room bytes) = bytes_eq name input && (room == PIECE)
is_piece_of input (Wrote name place bytes) = false
is_piece_of input (WasCut name length) = false
is_piece_of input (Synced name) = false
is_piece_of input (Made name) = false
is_piece_of input (Swapped from to) = false
is_piece_of input (Removed name) = false

-- a file was asked for pieces in turn, each where the one before ended, and these came
abbrev pub piece_answers : Name → ℕ → List (List ℕ) → List Answer
piece_answers input at [] = []
piece_answers input at (piece ∷ pieces) = Gave input at PIECE piece ∷ piece_answers input (at + length piece) pieces

-- these pieces and no others were given of the file, among all answers
abbrev pub GavePieces : Name → List Answer → List (List ℕ) → Type 0
GavePieces input these pieces = filter (is_piece_of input) these ≡ piece_answers input 0 pieces

-- The pieces that were given of the file are whole ones, up to one that is short. The content is what they are together.
pub record TakenInPieces (input : Name) (these : List Answer) (content : List ℕ) : Type 0 where
  pub whole : List (List ℕ)
  pub last : List ℕ
  pub are_whole : AllByRecursion (λ piece. length piece ≡ PIECE) whole
  pub short : length last < PIECE
  pub gave : GavePieces input these (whole ++ last ∷ [])
  pub content_is : content ≡ concat (whole ++ last ∷ [])

-- The last sealing: on a sheet that backs the tree, of the next one, which has the output's name as path and this content. Behind earlier words, the first that were taken of the old ones, came
-- two for its nonce, and then one for each dirty node as its key; no word was taken after these. Its nodes, and no other, were written to the side file, which then took the name.
pub record SealedLast (user : List ℕ) (output : Name) (content : List ℕ) (these : List Answer) (old new : WordsState) : Type 0 where
  pub base : Sheet
  pub tree : TreeState
  pub linked : IsLinked base
  pub backs : Backs base tree
  pub earlier : List (List ℕ)
  pub before : WordsState
  pub taken : Both old.left before.left (IsTaken earlier)
  pub nonce : List ℕ
  pub keys : List (List ℕ)
  pub words_came : WordsCame None (length tree.dirty) nonce keys before new
  pub next : Sheet
  pub is_next : NextSheet base tree output nonce keys next
  pub content_is : next.content ≡ content
  pub sealed : TreeState
  pub shape : KeepsShape tree sealed
  pub as_sealed : IsSealedAs next sealed
  pub front : List Answer
  pub last_calls : these ≡ front ++ (seal_steps user output nonce (side_of output) tree.dirty keys sealed ++ Swapped (side_of output) output ∷ [])

-- At status 0 the answers have this: a key was given, and the pieces of a content; and the last version that was sealed under the key, with the output's name as path, has this content.
pub record GaveSealed (key input output : Name) (these : List Answer) (old new : WordsState) : Type 0 where
  pub user : List ℕ
  pub content : List ℕ
  pub key_given : Contains these (Gave key 0 16 user)
  pub taken : TakenInPieces input these content
  pub sealed : SealedLast user output content these old new
