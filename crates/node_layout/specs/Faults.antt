-- Why a metadata node is refused.
use Rattle.std.specs.Prelude.{◌≡◌, ◌≢◌, ◌<◌, ◌⊎◌, ℕ, List, take, drop, slice_index}
use Rattle.std.specs.Int.{from_le_bytes, w64}
use Rattle.node_layout.specs.declared.metadata.PlainFault.{PlainFault}
use Rattle.node_layout.specs.declared.metadata.PlainFault.TheVariants.{NotProtected, BadVersion}
use Rattle.node_layout.specs.declared.metadata.SecretFault.{SecretFault}
use Rattle.node_layout.specs.declared.metadata.SecretFault.TheVariants.{BadPathText, BadSize}
use Rattle.node_layout.specs.Metadata.{magic, IsPathField, IsMetaText, MOST_SIZE}

-- the first of the two causes that a node gives
abbrev pub IsPlainFault : List ℕ → PlainFault → Type 0
IsPlainFault node NotProtected = take 8 node ≢ magic
IsPlainFault node (BadVersion major minor) =
    (take 8 node ≡ magic) × (major ≡ slice_index node 8) × (minor ≡ slice_index node 9) × (major ≢ 1 ⊎ minor ≢ 0)

-- the number in the field of the size
abbrev pub size_at : List ℕ → ℕ
size_at part = from_le_bytes w64 (take 8 (drop 768 part))

-- the first of the two causes that a text of the encrypted part gives
abbrev pub IsSecretFault : List ℕ → SecretFault → Type 0
IsSecretFault part BadPathText = ¬ (IsPathField (take 768 part))
IsSecretFault part (BadSize size) = IsPathField (take 768 part) × (size ≡ size_at part) × (MOST_SIZE < size)

-- the text of some fields
abbrev pub IsSomeMetaText : List ℕ → Type 0
IsSomeMetaText text =
    (path : List ℕ) × ((size : ℕ) × ((root_key : List ℕ) × ((root_tag : List ℕ) × ((first : List ℕ) × IsMetaText text path size root_key root_tag first))))
