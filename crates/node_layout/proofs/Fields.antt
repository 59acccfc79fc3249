-- A path in its field, and the path that a field holds.
use Rattle.std.proofs.Common.{◌≡◌, ◌≢◌, ◌==◌, ℕ, ◌-◌, ◌<◌, ◌≤◌, false, List, [], ◌∷◌, ◌++◌, length, get_or, take, drop, replicate, refl, sym, ap, subst, ◌∙◌, arith, All}
use Rattle.std.specs.List.{before_first, position_or_len}
use Rattle.std.specs.Str.{IsUtf8}
use Rattle.std.proofs.lemmas.List.{length-append, length-replicate, get_or_append_left, get_or-append_right, get_or-replicate, take_at, drop_at, take-append-drop, take_rest, length-drop, length-take, get_or-take}
use Rattle.std.proofs.lemmas.List.Elements.{All-replicate, All-tail, All-head, All-from_get_or}
use Rattle.std.proofs.lemmas.List.Sums.{position_or_len_is, fails_before_first}
use Rattle.std.proofs.lemmas.List.Folds.{length-prefix_len}
use Rattle.std.proofs.lemmas.Bool.Decides.{nat_tests}
use Rattle.node_layout.specs.Metadata.{IsPath, IsPathField, path_field}

-- how many bytes stand before the zeros behind a text without zeros
pub position-zeros : (path : List ℕ) (n : ℕ) → All (λ b. b ≢ 0) path → position_or_len (λ b. b == 0) (path ++ replicate n 0) ≡ length path
position-zeros path n h =
    position_or_len_is (λ b. b == 0) (path ++ replicate n 0) (length path) 0
    (omega (arith, length-append path (replicate n 0)))
    (λ k lt. let e = h k 0 lt in rw get_or_append_left (grind (arith, nat_tests)))
    (λ lt. let e = get_or-append_right path (replicate n 0) (length path) (length path) 0 refl (omega arith) in let m : 0 < n = omega (arith, length-append path (replicate n 0), length-replicate {A = ℕ} n 0) in let z = get_or-replicate {A = ℕ} n (length path - length path) 0 0 (omega arith) in grind (arith, nat_tests))

-- the path of a path's field
pub before_first-path_field : (path : List ℕ) → IsPath path → before_first (λ b. b == 0) (path_field path) ≡ path
before_first-path_field path h =
    ap (λ k. take k (path_field path)) (position-zeros path (768 - length path) h.no_zero) ∙ take_at path (replicate (768 - length path) 0) (length path) refl

-- a list of zeros
pub zeros_are : (xs : List ℕ) → All (λ b. b ≡ 0) xs → xs ≡ replicate (length xs) 0
zeros_are [] h = refl
zeros_are (x ∷ xs) h =
    let head : x ≡ 0 = All-head (λ b. b ≡ 0) x xs h in
    let tail = zeros_are xs (All-tail (λ b. b ≡ 0) x xs h) in
    cc

-- a field whose bytes from place n on are zeros
pub field_is : (field : List ℕ) (n : ℕ) → length field ≡ 768 → n ≤ 768 → All (λ b. b ≡ 0) (drop n field) → field ≡ path_field (take n field)
field_is field n l le h =
    let z = zeros_are (drop n field) h in
    let d : length (drop n field) ≡ 768 - length (take n field) = omega (arith, length-drop n field, length-take n field) in
    sym (take-append-drop n field) ∙ ap (λ t. take n field ++ t) (z ∙ ap (λ k. replicate k 0) d)

not_both : (b : ℕ) → (b == 0) ≡ false → b ≡ 0 → ⊥
not_both b f e = grind (arith, nat_tests)

-- the bytes before the first zero are a path, where there are 1 to 767 and they are UTF-8
pub IsPath-before_first : (field : List ℕ) → 0 < position_or_len (λ b. b == 0) field → position_or_len (λ b. b == 0) field ≤ 767 → IsUtf8 (before_first (λ b. b == 0) field) → IsPath (before_first (λ b. b == 0) field)
IsPath-before_first field low high utf8 =
    let n = position_or_len (λ b. b == 0) field in
    let l : length (take n field) ≡ n = length-prefix_len _ field in
    record {
      not_empty = omega arith;
      not_long = omega arith;
      no_zero = All-from_get_or (λ b. b ≢ 0) (take n field) 0 (λ k lt. let f = fails_before_first (λ b. b == 0) field k 0 (omega arith) in let t = get_or-take n field k 0 (omega arith) in λ e. not_both (get_or field k 0) f (sym t ∙ e));
      utf8 = utf8;
    }

-- what stands in a path's field
pub record IsRead (field : List ℕ) : Type 0 where
  pub path_is : IsPath (before_first (λ b. b == 0) field)
  pub count : position_or_len (λ b. b == 0) field ≡ length (before_first (λ b. b == 0) field)
  pub zeros : All (λ b. b ≡ 0) (drop (position_or_len (λ b. b == 0) field) field)
  pub same : field ≡ path_field (before_first (λ b. b == 0) field)

pub IsRead-path_field : (path : List ℕ) → IsPath path → IsRead (path_field path)
IsRead-path_field path h =
    let b = before_first-path_field path h in
    let n = position-zeros path (768 - length path) h.no_zero in
    let Zeros : List ℕ → Type 0 = λ t. All (λ b. b ≡ 0) t in
    record {
      path_is = let P : List ℕ → Type 0 = IsPath in subst P (sym b) h;
      count = n ∙ ap length (sym b);
      zeros = subst Zeros (sym (ap (λ k. drop k (path_field path)) n ∙ drop_at path (replicate (768 - length path) 0) (length path) refl)) (All-replicate (λ b. b ≡ 0) (768 - length path) 0 refl);
      same = ap path_field (sym b);
    }

pub IsRead-from_field : (field : List ℕ) → IsPathField field → IsRead field
IsRead-from_field field h = let P : List ℕ → Type 0 = IsRead in subst P (sym h.2) (IsRead-path_field h.0 h.1)

-- what a field is that passes the tests of a reader
pub IsRead-from_tests : (field : List ℕ) (n : ℕ) → n ≡ position_or_len (λ b. b == 0) field → length field ≡ 768 → n ≢ 0 → n ≤ 767 → All (λ b. b ≡ 0) (take (768 - n) (drop n field)) → IsUtf8 (take n field) → IsRead field
IsRead-from_tests field n is l low high zeros utf8 =
    let Zeros : List ℕ → Type 0 = λ t. All (λ b. b ≡ 0) t in
    let Text : ℕ → Type 0 = λ k. IsUtf8 (take k field) in
    let rest : All (λ b. b ≡ 0) (drop n field) = subst Zeros (ap (λ k. take (k - n) (drop n field)) (sym l) ∙ take_rest field n) zeros in
    let path = IsPath-before_first field (omega arith) (omega arith) (subst Text is utf8) in
    record {
      path_is = path;
      count = sym (length-prefix_len _ field);
      zeros = let P : ℕ → Type 0 = λ k. All (λ b. b ≡ 0) (drop k field) in subst P is rest;
      same = field_is field n l (omega arith) rest ∙ ap (λ k. path_field (take k field)) is;
    }
