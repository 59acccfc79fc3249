use Rattle.std.proofs.Common.{◌≡◌, ◌++◌, ◌∙◌, ap, refl, ℕ, List, drop, replicate, w32}
use Rattle.std.specs.Int.{to_le_bytes}
use borrow.Rule.Slice.PartMut.{put_mid}
use Rattle.cmac_kdf.specs.MetadataKey.{metadata_input, label}
use Rattle.cmac_kdf.proofs.metadata.metadata_input.Goals as goal

written : (one text bits nonce : List ℕ) → one ≡ to_le_bytes w32 1 → text ≡ label → bits ≡ to_le_bytes w32 128 → put_mid 68 32 (put_mid 100 4 (put_mid 4 29 (one ++ drop 4 (replicate {A = ℕ} 104 0)) text) bits) nonce ≡ metadata_input nonce
written one text bits nonce e f g = rw (e, f, g) refl

pub returns : goal.returns
returns c =
    written _ _ _ _ (c.copy_from_slice.ensures.after ∙ c.to_le_bytes.ensures) c.copy_from_slice-2.ensures.after (c.copy_from_slice-3.ensures.after ∙ c.to_le_bytes-2.ensures) ∙ ap metadata_input c.copy_from_slice-4.ensures.after
