-- Entries in a node that got one.
use Rattle.std.proofs.Common.{◌≡◌, ◌≢◌, ◌⊎◌, inl, inr, ℕ, ◌+◌, ◌-◌, ◌*◌, ◌<◌, ◌≤◌, List, ◌++◌, length, take, drop, refl, ap, ap₂, ◌∙◌, sym, arith, append_assoc}
use Rattle.std.proofs.lemmas.List.{length-take-le, length-drop, length-append, drop_at, take-append-drop, drop-drop, take-append-le, drop-append-le, drop-take, take-take}
use Rattle.std.proofs.lemmas.Bool.{cases_lt}
use Rattle.node_layout.proofs.Rows.{piece_at}
use Rattle.node_layout.specs.Entries.{entry_at, with_entry}

-- a piece of the front
pub piece_before : {X : Type 0} (a n : ℕ) (front rest : List X) → a + n ≤ length front → take n (drop a (front ++ rest)) ≡ take n (drop a front)
piece_before a n front rest le =
    ap (take n) (drop-append-le a front rest (omega arith)) ∙ take-append-le n (drop a front) rest (omega (arith, length-drop a front))

-- a piece of a front of a list
pub piece_of_front : {X : Type 0} (a n m : ℕ) (xs : List X) → a + n ≤ m → take n (drop a (take m xs)) ≡ take n (drop a xs)
piece_of_front a n m xs le =
    let split : a + (m - a) ≡ m = omega arith in
    ap (λ k. take n (drop a (take k xs))) (sym split) ∙ ap (take n) (drop-take a (m - a) xs) ∙ take-take n (m - a) (drop a xs) (omega arith)

-- a piece of what follows the front
pub piece_behind : {X : Type 0} (a b n : ℕ) (front rest : List X) → length front + b ≡ a → take n (drop a (front ++ rest)) ≡ take n (drop b rest)
piece_behind a b n front rest is =
    ap (λ k. take n (drop k (front ++ rest))) (sym is) ∙ ap (take n) (sym (drop-drop b (length front) (front ++ rest)) ∙ ap (drop b) (drop_at front rest (length front) refl))

-- the two writes of an entry
pub two_writes : (p : ℕ) (old mid new key tag : List ℕ) → take (32 * p + 16) mid ≡ take (32 * p) old ++ key → drop (32 * p + 16) mid ≡ drop (32 * p + 16) old
    → take (32 * p + 16 + 16) new ≡ take (32 * p + 16) mid ++ tag → drop (32 * p + 16 + 16) new ≡ drop (32 * p + 16 + 16) mid → new ≡ with_entry old p key tag
two_writes p old mid new key tag front rest front_then rest_then =
    let far : 32 * p + 16 + 16 ≡ 32 * p + 32 = omega arith in
    let back : drop (32 * p + 16 + 16) mid ≡ drop (32 * p + 32) old =
    sym (drop-drop 16 (32 * p + 16) mid) ∙ ap (drop 16) rest ∙ drop-drop 16 (32 * p + 16) old ∙ ap (λ k. drop k old) far in
    sym (take-append-drop (32 * p + 16 + 16) new) ∙ ap₂ ◌++◌ (front_then ∙ ap (λ t. t ++ tag) front) (rest_then ∙ back)

module _ (p : ℕ) (old key tag : List ℕ) (long : length old ≡ 4096) (within : p < 128) (key_length : length key ≡ 16) (tag_length : length tag ≡ 16) where
  front_length : length (take (32 * p) old) ≡ 32 * p
  front_length = length-take-le (32 * p) old (omega arith)

  pub entry_here : entry_at (with_entry old p key tag) p ≡ (key, tag)
  entry_here =
      let rest = drop (32 * p + 32) old in
      let first = piece_at (32 * p) 16 (with_entry old p key tag) (take (32 * p) old) key (tag ++ rest) (simp append_assoc) front_length key_length in
      let second = piece_at (32 * p + 16) 16 (with_entry old p key tag) (take (32 * p) old ++ key) tag rest (simp append_assoc) (omega (arith, length-append (take (32 * p) old) key, front_length)) tag_length in
      ap₂ (λ (a b : List ℕ). (a, b)) first second

  elsewhere : (a : ℕ) → (a + 16 ≤ 32 * p) ⊎ (32 * p + 32 ≤ a) → take 16 (drop a (with_entry old p key tag)) ≡ take 16 (drop a old)
  elsewhere a (inl le) =
      ap (λ t. take 16 (drop a t)) (simp append_assoc) ∙ piece_before a 16 (take (32 * p) old) (key ++ (tag ++ drop (32 * p + 32) old)) (omega (arith, front_length)) ∙ piece_of_front a 16 (32 * p) old le
  elsewhere a (inr le) =
      let head = take (32 * p) old ++ key ++ tag in
      let long_head : length head ≡ 32 * p + 32 = omega (arith, length-append (take (32 * p) old ++ key) tag, length-append (take (32 * p) old) key, front_length) in
      piece_behind a (a - (32 * p + 32)) 16 head (drop (32 * p + 32) old) (omega (arith, long_head)) ∙ ap (take 16) (drop-drop (a - (32 * p + 32)) (32 * p + 32) old ∙ ap (λ k. drop k old) (omega arith))

  apart : (other : ℕ) → other ≢ p → (other < p) ⊎ (p < other)
  apart other ne = elim (cases_lt other p) [ inl lt ↦ inl lt | inr ge ↦ inr (omega arith) ]

  pub entry_elsewhere : (other : ℕ) → other ≢ p → entry_at (with_entry old p key tag) other ≡ entry_at old other
  entry_elsewhere other ne =
      ap₂ (λ (a b : List ℕ). (a, b))
      (elsewhere (32 * other) (elim (apart other ne) [ inl lt ↦ inl (omega arith) | inr gt ↦ inr (omega arith) ]))
      (elsewhere (32 * other + 16) (elim (apart other ne) [ inl lt ↦ inl (omega arith) | inr gt ↦ inr (omega arith) ]))
