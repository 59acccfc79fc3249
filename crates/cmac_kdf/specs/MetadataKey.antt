-- The key of a protected file's metadata, derived from the user's key and the file's nonce.
use Rattle.std.specs.Prelude.{ℕ, ◌-◌, List, ◌++◌, length, replicate, codes}
use Rattle.std.specs.Int.{to_le_bytes, w32}
use Rattle.cmac_kdf.specs.Cmac.{cmac}

-- bytes followed by zeros up to n
abbrev pub zero_padded : ℕ → List ℕ → List ℕ
zero_padded n bytes = bytes ++ replicate (n - length bytes) 0

abbrev pub label : List ℕ
label = codes "SGX-PROTECTED-FS-METADATA-KEY"

-- the 104 bytes: the number 1, the label in 64 bytes, the nonce, and the key's length in bits
abbrev pub metadata_input : List ℕ → List ℕ
metadata_input nonce = to_le_bytes w32 1 ++ zero_padded 64 label ++ nonce ++ to_le_bytes w32 128

unfoldable pub metadata_key : List ℕ → List ℕ → List ℕ
metadata_key user nonce = cmac user (metadata_input nonce)
