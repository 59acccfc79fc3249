-- A hash-tree node by its 128 entries.
use Rattle.std.proofs.Common.{◌≡◌, ℕ, zero, suc, ◌+◌, ◌-◌, ◌*◌, ◌/◌, ◌%◌, ◌<◌, inl, inr, List, ◌++◌, length, take, drop, get_or, refl, ap, ap₂, ◌∙◌, sym, arith}
use Rattle.std.specs.List.{flat_map, range_with_len}
use Rattle.std.proofs.lemmas.Bool.{cases_lt}
use Rattle.std.proofs.lemmas.List.{length-append, take_at, drop_at, drop-drop, take_all, ext_get_or, get_or-take, get_or-drop}
use Rattle.node_layout.specs.Entries.{entry_at}
use Rattle.node_layout.proofs.InNode.{piece_of_front, piece_behind}
use Rattle.node_tree.specs.Opened.{Entry}

abbrev row_of : (ℕ → Entry) → ℕ → List ℕ
row_of entry s = (entry s).0 ++ (entry s).1

-- n entries from place a on
abbrev pub rows : (ℕ → Entry) → ℕ → ℕ → List ℕ
rows entry a n = flat_map (row_of entry) (range_with_len a n)

unfoldable pub entries_text : (ℕ → Entry) → List ℕ
entries_text entry = rows entry 0 128

pub record AreWhole (entry : ℕ → Entry) : Type 0 where
  pub key : (s : ℕ) → length (entry s).0 ≡ 16
  pub tag : (s : ℕ) → length (entry s).1 ≡ 16

module _ (entry : ℕ → Entry) (whole : AreWhole entry) where
  length-row : (s : ℕ) → length (row_of entry s) ≡ 32
  length-row s = omega (arith, length-append (entry s).0 (entry s).1, whole.key s, whole.tag s)

  length-rows : (a n : ℕ) → length (rows entry a n) ≡ 32 * n
  length-rows a zero = refl
  length-rows a (suc n) = omega (arith, length-append (row_of entry a) (rows entry (a + 1) n), length-row a, length-rows (a + 1) n)

  row_there : (a n j : ℕ) → j < n → take 32 (drop (32 * j) (rows entry a n)) ≡ row_of entry (a + j)
  row_there a zero j lt = absurd (omega arith)
  row_there a (suc n) zero lt = let e : a ≡ a + 0 = omega arith in take_at (row_of entry a) (rows entry (a + 1) n) 32 (length-row a) ∙ ap (row_of entry) e
  row_there a (suc n) (suc j) lt =
      let e : a + 1 + j ≡ a + suc j = omega arith in
      piece_behind (32 * suc j) (32 * j) 32 (row_of entry a) (rows entry (a + 1) n) (omega (arith, length-row a)) ∙ row_there (a + 1) n j (omega arith) ∙ ap (row_of entry) e

  entry_there : (n j : ℕ) → j < n → entry_at (rows entry 0 n) j ≡ entry j
  entry_there n j lt =
      let text = rows entry 0 n in
      let row : take 32 (drop (32 * j) text) ≡ row_of entry j = let e : 0 + j ≡ j = omega arith in row_there 0 n j lt ∙ ap (row_of entry) e in
      let key : take 16 (drop (32 * j) text) ≡ (entry j).0 =
      sym (piece_of_front 0 16 32 (drop (32 * j) text) (omega arith)) ∙ ap (take 16) row ∙ take_at (entry j).0 (entry j).1 16 (whole.key j) in
      let tag : take 16 (drop (32 * j + 16) text) ≡ (entry j).1 =
      ap (take 16) (sym (drop-drop 16 (32 * j) text)) ∙ sym (piece_of_front 16 16 32 (drop (32 * j) text) (omega arith)) ∙ ap (λ t. take 16 (drop 16 t)) row
      ∙ ap (take 16) (drop_at (entry j).0 (entry j).1 16 (whole.key j)) ∙ take_all 16 (entry j).1 (omega (arith, whole.tag j)) in
      ap₂ (λ (a b : List ℕ). (a, b)) key tag

  pub length-entries_text : length (entries_text entry) ≡ 4096
  unfolding entries_text
  length-entries_text = length-rows 0 128

  pub entry_at-entries_text : (j : ℕ) → j < 128 → entry_at (entries_text entry) j ≡ entry j
  unfolding entries_text
  entry_at-entries_text j lt = entry_there 128 j lt

-- a node is its entries
pub entries_one : (xs ys : List ℕ) → length xs ≡ 4096 → length ys ≡ 4096 → ((s : ℕ) → s < 128 → entry_at xs s ≡ entry_at ys s) → xs ≡ ys
entries_one xs ys long long' same =
    ext_get_or 0 xs ys (long ∙ sym long')
    (λ r lt.
    let s = r / 32 in
    let within : s < 128 = omega (arith, long) in
    elim (cases_lt (r % 32) 16) [
      | inl low ↦
          let is : 32 * s + r % 32 ≡ r = omega arith in
          ap (λ j. get_or xs j 0) (sym is) ∙ sym (get_or-drop (32 * s) xs (r % 32) 0) ∙ sym (get_or-take 16 (drop (32 * s) xs) (r % 32) 0 low)
          ∙ ap (λ (e : Entry). get_or e.0 (r % 32) 0) (same s within)
          ∙ get_or-take 16 (drop (32 * s) ys) (r % 32) 0 low ∙ get_or-drop (32 * s) ys (r % 32) 0 ∙ ap (λ j. get_or ys j 0) is
      | inr high ↦
          let i = r % 32 - 16 in
          let low : i < 16 = omega arith in
          let is : 32 * s + 16 + i ≡ r = omega arith in
          ap (λ j. get_or xs j 0) (sym is) ∙ sym (get_or-drop (32 * s + 16) xs i 0) ∙ sym (get_or-take 16 (drop (32 * s + 16) xs) i 0 low)
          ∙ ap (λ (e : Entry). get_or e.1 i 0) (same s within)
          ∙ get_or-take 16 (drop (32 * s + 16) ys) i 0 low ∙ get_or-drop (32 * s + 16) ys i 0 ∙ ap (λ j. get_or ys j 0) is
    ])
