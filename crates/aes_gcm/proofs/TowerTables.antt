-- The tables of the tower basis, each checked by computing it at every byte.
use Rattle.std.proofs.Common.{◌≡◌, ℕ, ◌<◌, refl, ap, ◌∙◌, List, map, bit_xor}
use Rattle.std.proofs.lemmas.Simd.{zip2_of_maps}
use lib.Lanes.{zip2}
use Rattle.std.specs.List.{range_with_len}
use Rattle.aes_gcm.specs.Field.{sub_byte, affine, inverse, power, times}
use Rattle.aes_gcm.specs.Tower.{entry, low_nibble, high_nibble, first_index, second_index, standard, sub_linear}
use Rattle.aes_gcm.specs.declared.tower.TheConstants.{IN_LOW, IN_HIGH, ONCE_FIRST, ONCE_SECOND, TWICE_FIRST, TWICE_SECOND, OUT_FIRST, OUT_SECOND}
use Rattle.aes_gcm.proofs.Bytes.{same_from_tables}
use Rattle.aes_gcm.proofs.Lanes.{map_then}

unfoldable pub tower : ℕ → ℕ
tower x = bit_xor (entry IN_LOW (low_nibble x)) (entry IN_HIGH (high_nibble x))

-- the two tables' entries for a byte, summed
unfoldable pub read : List ℕ → List ℕ → ℕ → ℕ
read a b x = bit_xor (entry a (first_index x)) (entry b (second_index x))

towers : map (λ x. standard (tower x)) (range_with_len 0 256) ≡ map (λ x. x) (range_with_len 0 256)
unfolding tower standard
towers = refl

pub standard-tower : (x : ℕ) → x < 256 → standard (tower x) ≡ x
standard-tower = same_from_tables _ _ 256 towers

outs : map (read OUT_FIRST OUT_SECOND) (range_with_len 0 256) ≡ map (λ x. sub_linear (standard x)) (range_with_len 0 256)
unfolding read standard sub_linear sub_byte affine inverse power times
outs = refl

pub out_is : (x : ℕ) → x < 256 → read OUT_FIRST OUT_SECOND x ≡ sub_linear (standard x)
out_is = same_from_tables _ _ 256 outs

onces : map (λ x. standard (read ONCE_FIRST ONCE_SECOND x)) (range_with_len 0 256) ≡ map (read OUT_FIRST OUT_SECOND) (range_with_len 0 256)
unfolding read standard
onces = refl

pub once_is : (x : ℕ) → x < 256 → standard (read ONCE_FIRST ONCE_SECOND x) ≡ sub_linear (standard x)
once_is x h = same_from_tables (λ x. standard (read ONCE_FIRST ONCE_SECOND x)) (read OUT_FIRST OUT_SECOND) 256 onces x h ∙ out_is x h

twices : map (λ x. standard (read TWICE_FIRST TWICE_SECOND x)) (range_with_len 0 256) ≡ map (λ x. times 2 (read OUT_FIRST OUT_SECOND x)) (range_with_len 0 256)
unfolding read standard times
twices = refl

pub twice_is : (x : ℕ) → x < 256 → standard (read TWICE_FIRST TWICE_SECOND x) ≡ times 2 (sub_linear (standard x))
twice_is x h = same_from_tables (λ x. standard (read TWICE_FIRST TWICE_SECOND x)) (λ x. times 2 (read OUT_FIRST OUT_SECOND x)) 256 twices x h ∙ ap (times 2) (out_is x h)

-- two tables read at their indices
pub read_pair : (a b x first second f s r : List ℕ) → first ≡ map first_index x → second ≡ map second_index x
    → f ≡ map (entry a) first → s ≡ map (entry b) second → r ≡ zip2 bit_xor f s → r ≡ map (read a b) x
unfolding read
read_pair a b x first second f s r ef es rf rs e =
    e ∙ zip2_of_maps bit_xor (λ v. entry a (first_index v)) (λ v. entry b (second_index v)) x
    (map_then (entry a) first_index x first f ef rf) (map_then (entry b) second_index x second s es rs)
