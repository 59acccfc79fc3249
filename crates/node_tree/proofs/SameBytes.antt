-- Bytes of a content from the same nodes.
use Rattle.std.proofs.Common.{◌≡◌, inl, inr, ℕ, ◌+◌, ◌-◌, ◌/◌, ◌%◌, ◌<◌, ◌≤◌, List, length, take, drop, slice_index, refl, ap, ◌∙◌, sym, arith, ltb}
use Rattle.std.proofs.lemmas.Bool.{cases_lt, cond-true, cond-false, lt-ltb, le-ltb}
use Rattle.std.proofs.lemmas.List.{ext_get_or, get_or-take, get_or-drop, length-take-le, length-drop}
use Rattle.std.proofs.lemmas.List.FromFn.{length-map-range_with_len, get_or-map-range_with_len}
use Rattle.node_layout.specs.Places.{data_place}
use Rattle.node_tree.specs.Content.{byte_of, bytes_of}
use Rattle.node_tree.specs.Touched.{Meets}

module _ (first : List ℕ) (p q : ℕ → List ℕ) (at n : ℕ) (same : (d : ℕ) → Meets at (at + n) d → p (data_place d) ≡ q (data_place d)) where
  same_byte : (i : ℕ) → at ≤ i → i < at + n → byte_of first p i ≡ byte_of first q i
  same_byte i low high =
      elim (cases_lt i 3072) [
        | inl lt ↦ cond-true (ltb i 3072) _ _ (lt-ltb i 3072 lt) ∙ sym (cond-true (ltb i 3072) _ _ (lt-ltb i 3072 lt))
        | inr ge ↦
            cond-false (ltb i 3072) _ _ (le-ltb i 3072 ge)
            ∙ ap (λ (t : List ℕ). slice_index t ((i - 3072) % 4096)) (same ((i - 3072) / 4096) (record { some = omega arith; begins = omega arith; ends = omega arith }))
            ∙ sym (cond-false (ltb i 3072) _ _ (le-ltb i 3072 ge))
      ]

  pub same_bytes : bytes_of first p at n ≡ bytes_of first q at n
  same_bytes =
      let a = length-map-range_with_len (byte_of first p) at n in
      let b = length-map-range_with_len (byte_of first q) at n in
      ext_get_or 0 (bytes_of first p at n) (bytes_of first q at n) (a ∙ sym b)
      (λ i lt. get_or-map-range_with_len (byte_of first p) at n i (at + i) 0 (omega arith) refl ∙ same_byte (at + i) (omega arith) (omega arith) ∙ sym (get_or-map-range_with_len (byte_of first q) at n i (at + i) 0 (omega arith) refl))

-- a slice of a content
pub slice_bytes : (first : List ℕ) (p : ℕ → List ℕ) (at n size : ℕ) → at + n ≤ size → take n (drop at (bytes_of first p 0 size)) ≡ bytes_of first p at n
slice_bytes first p at n size le =
    let all = bytes_of first p 0 size in
    let long : length all ≡ size = length-map-range_with_len (byte_of first p) 0 size in
    let a : length (take n (drop at all)) ≡ n = length-take-le n (drop at all) (omega (arith, long, length-drop at all)) in
    let b = length-map-range_with_len (byte_of first p) at n in
    ext_get_or 0 (take n (drop at all)) (bytes_of first p at n) (a ∙ sym b)
    (λ i lt. get_or-take n (drop at all) i 0 (omega (arith, a)) ∙ get_or-drop at all i 0 ∙ get_or-map-range_with_len (byte_of first p) 0 size (at + i) (at + i) 0 (omega (arith, a)) (omega arith)
    ∙ sym (get_or-map-range_with_len (byte_of first p) at n i (at + i) 0 (omega (arith, a)) refl))
