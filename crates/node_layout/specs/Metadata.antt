-- The metadata node of a protected file, version 1.0: 4096 bytes, node 0.
use Rattle.std.specs.Prelude.{◌≡◌, ◌≢◌, ℕ, ◌^◌, ◌≤◌, List, [], ◌∷◌, ◌++◌, All, length, take, drop, slice_index, replicate, codes, Option}
use Rattle.std.specs.Str.{IsUtf8}
use Rattle.std.specs.Int.{to_le_bytes, w64}
use Rattle.aes_gcm.specs.Gcm.{seal, opens}
use Rattle.cmac_kdf.specs.MetadataKey.{metadata_key, zero_padded}

-- a path that a file can be stored under: UTF-8 of 1 to 767 bytes without a zero byte
pub record IsPath (path : List ℕ) : Type 0 where
  pub not_empty : 1 ≤ length path
  pub not_long : length path ≤ 767
  pub no_zero : All (λ b. b ≢ 0) path
  pub utf8 : IsUtf8 path

-- the path in its 768 bytes
abbrev pub path_field : List ℕ → List ℕ
path_field path = zero_padded 768 path

-- a field that is some path, padded with zeros
abbrev pub IsPathField : List ℕ → Type 0
IsPathField field = (path : List ℕ) × IsPath path × (field ≡ path_field path)

abbrev pub MOST_SIZE : ℕ
MOST_SIZE = 2 ^ 32

-- the encrypted part in plain: path, size, the root's key and tag, and the first 3072 bytes of the content
abbrev pub meta_text : List ℕ → ℕ → List ℕ → List ℕ → List ℕ → List ℕ
meta_text path size root_key root_tag first = path_field path ++ to_le_bytes w64 size ++ root_key ++ root_tag ++ first

-- a text of the encrypted part
pub record IsMetaText (text path : List ℕ) (size : ℕ) (root_key root_tag first : List ℕ) : Type 0 where
  pub path_is : IsPath path
  pub not_large : size ≤ MOST_SIZE
  pub root_key_length : length root_key ≡ 16
  pub root_tag_length : length root_tag ≡ 16
  pub first_length : length first ≡ 3072
  pub text_is : text ≡ meta_text path size root_key root_tag first

-- the fields of node 0 by their places
abbrev pub magic : List ℕ
magic = codes "GRPFTOOL"

abbrev pub nonce_at : List ℕ → List ℕ
nonce_at node = take 32 (drop 10 node)

abbrev pub tag_at : List ℕ → List ℕ
tag_at node = take 16 (drop 42 node)

abbrev pub flag_at : List ℕ → ℕ
flag_at node = slice_index node 58

abbrev pub part_at : List ℕ → List ℕ
part_at node = take 3880 (drop 59 node)

-- the magic and the version 1.0 stand at the node's front
pub record IsPlain (node : List ℕ) : Type 0 where
  pub magic_is : take 8 node ≡ magic
  pub major : slice_index node 8 ≡ 1
  pub minor : slice_index node 9 ≡ 0

-- the text of the encrypted part, where it opens under the key of the user and the node's nonce
unfoldable pub meta_opens : List ℕ → List ℕ → Option (List ℕ)
meta_opens user node = opens (metadata_key user (nonce_at node)) [] (part_at node) (tag_at node)

-- node 0 with flag 0, its text sealed under the key of the user and the nonce
unfoldable pub meta_block : List ℕ → List ℕ → List ℕ → List ℕ
meta_block user nonce text =
    let sealed = seal (metadata_key user nonce) [] text in
    magic ++ (1 ∷ 0 ∷ []) ++ nonce ++ sealed.1 ++ (0 ∷ []) ++ sealed.0 ++ replicate 157 0
