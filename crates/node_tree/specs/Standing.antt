-- What a file gives that stands for a sheet.
use Rattle.std.specs.Prelude.{◌≡◌, ◌↔◌, ℕ, ◌+◌, ◌≤◌, List, [], length, take, drop, replicate, None, Ok}
use Rattle.std.specs.List.{concat}
use Rattle.node_layout.specs.Metadata.{IsPath, IsPlain, flag_at, meta_text, meta_block}
use Rattle.node_layout.specs.declared.metadata.MetaSecret.{MetaSecret}
use Rattle.node_layout.specs.Opening.{OpensTo}
use Rattle.node_tree.specs.Content.{first_text}
use Rattle.node_tree.specs.Sheet.{Sheet, IsLinked, image_of, Stands}
use Rattle.node_tree.specs.Opened.{block_of}
use Rattle.node_tree.specs.Parts.{IsFilePart, ArePieces}
use Rattle.node_tree.specs.Backing.{IsMetaOf}

-- Node 0 opens to the sheet's metadata, each part of the file is the slice of the content, and its pieces are the content.
pub record StandingFile (file user : List ℕ) (sheet : Sheet) : Type 0 where
  pub whole : length (block_of file 0) ≡ 4096
  pub plain : IsPlain (block_of file 0)
  pub flag : flag_at (block_of file 0) ≡ 0
  pub secret : MetaSecret
  pub opens_to : OpensTo user (block_of file 0) secret
  pub fields : IsMetaOf sheet secret
  pub parts : (at n : ℕ) → at + n ≤ length sheet.content → IsFilePart file secret at n (Ok (take n (drop at sheet.content)))
  pub pieces : List (List ℕ)
  pub are_pieces : ArePieces user file pieces None
  pub joined : concat pieces ≡ sheet.content

abbrev pub EachStandingFile : Type 0
EachStandingFile = (file user : List ℕ) (sheet : Sheet) → length user ≡ 16 → Stands file user sheet → StandingFile file user sheet

-- a sheet of one node, which has the whole content
pub record IsOneNode (sheet : Sheet) : Type 0 where
  pub path_is : IsPath sheet.path
  pub nonce_length : length sheet.nonce ≡ 32
  pub no_nodes : sheet.nodes ≡ []

-- A sheet of at most 3072 bytes is linked exactly where it is of one node, and its file then is node 0 with zeros as the root's key and tag.
pub record SmallSheet (sheet : Sheet) : Type 0 where
  pub one_node : IsLinked sheet ↔ IsOneNode sheet
  pub image : (user : List ℕ) → IsOneNode sheet → image_of user sheet ≡ meta_block user sheet.nonce (meta_text sheet.path (length sheet.content) (replicate 16 0) (replicate 16 0) (first_text sheet.content))

abbrev pub EachSmallSheet : Type 0
EachSmallSheet = (sheet : Sheet) → length sheet.content ≤ 3072 → SmallSheet sheet
