-- The text of an encrypted part, by its places.
use Rattle.std.proofs.Common.{◌≡◌, ℕ, ◌+◌, ◌-◌, ◌<◌, ◌≤◌, ◌==◌, List, [], ◌++◌, length, get_or, take, drop, replicate, refl, sym, ap, ◌∙◌, arith, append_assoc, w64, ⊎_elim}
use Rattle.std.proofs.lemmas.Bool.{cases_lt}
use Rattle.std.specs.Int.{to_le_bytes, from_le_bytes}
use Rattle.std.proofs.Math.Seq.{take-add}
use Rattle.std.proofs.lemmas.List.{append-nil, length-append, length-replicate, length-take, get_or-take, get_or-drop, get_or_past, take_all}
use Rattle.std.proofs.lemmas.Nat.{from_le_bytes-to_le_bytes_8}
use Rattle.node_layout.specs.Metadata.{IsPath, path_field, IsMetaText}
use Rattle.node_layout.specs.Faults.{size_at}
use Rattle.node_layout.proofs.Fields.{before_first-path_field}
use Rattle.node_layout.proofs.Rows.{length-piece, piece_at}
use Rattle.std.specs.List.{before_first}

-- a piece of bytes has bytes
pub piece-fits : (a n : ℕ) (xs : List ℕ) → ((i : ℕ) → get_or xs i 0 < 256) → (i : ℕ) → get_or (take n (drop a xs)) i 0 < 256
piece-fits a n xs h i =
    ⊎_elim (λ lt. let e = get_or-take n (drop a xs) i 0 lt ∙ get_or-drop a xs i 0 in let f = h (a + i) in omega arith)
    (λ le. let e = get_or_past (take n (drop a xs)) i 0 (omega (arith, length-take n (drop a xs))) in omega arith)
    (cases_lt i n)

-- a text is its fields in a row
in_fields : (part : List ℕ) → length part ≡ 3880 → part ≡ take 768 part ++ take 8 (drop 768 part) ++ take 16 (drop 776 part) ++ take 16 (drop 792 part) ++ take 3072 (drop 808 part)
in_fields part l =
    let all : part ≡ take 3880 part = sym (take_all 3880 part (omega arith)) in
    let size : take 776 part ≡ take 768 part ++ take 8 (drop 768 part) = take-add 768 8 part in
    let key : take 792 part ≡ take 776 part ++ take 16 (drop 776 part) = take-add 776 16 part in
    let tag : take 808 part ≡ take 792 part ++ take 16 (drop 792 part) = take-add 792 16 part in
    let first : take 3880 part ≡ take 808 part ++ take 3072 (drop 808 part) = take-add 808 3072 part in
    cc

replaced : {X : Type 0} (xs a a' b b' c d e : List X) → xs ≡ a ++ b ++ c ++ d ++ e → a ≡ a' → b' ≡ b → xs ≡ a' ++ b' ++ c ++ d ++ e
replaced xs a a' b b' c d e h is same = cc

-- what the tests of a reader show
pub IsMetaText-from_fields : (part path : List ℕ) (size : ℕ) → length part ≡ 3880 → IsPath path → take 768 part ≡ path_field path → to_le_bytes w64 size ≡ take 8 (drop 768 part) → size ≤ 4294967296 → IsMetaText part path size (take 16 (drop 776 part)) (take 16 (drop 792 part)) (take 3072 (drop 808 part))
IsMetaText-from_fields part path size l is field number le = record {
  path_is = is;
  not_large = le;
  root_key_length = length-piece 776 16 part (omega arith);
  root_tag_length = length-piece 792 16 part (omega arith);
  first_length = length-piece 808 3072 part (omega arith);
  text_is = replaced part (take 768 part) (path_field path) (take 8 (drop 768 part)) (to_le_bytes w64 size) _ _ _ (in_fields part l) field number;
}

pub length-path_field : (path : List ℕ) → IsPath path → length (path_field path) ≡ 768
length-path_field path h = let long = h.not_long in omega (arith, length-append path (replicate (768 - length path) 0), length-replicate {A = ℕ} (768 - length path) 0)

-- the field of the path in a text
pub path-from_text : (part path : List ℕ) (size : ℕ) (root_key root_tag first : List ℕ) → IsMetaText part path size root_key root_tag first → take 768 part ≡ path_field path
path-from_text part path size root_key root_tag first h =
    piece_at 0 768 part [] (path_field path) (to_le_bytes w64 size ++ (root_key ++ (root_tag ++ first))) (h.text_is ∙ simp append_assoc) refl (length-path_field path h.path_is)

-- the number in the field of the size in a text
pub size-from_text : (part path : List ℕ) (size : ℕ) (root_key root_tag first : List ℕ) → IsMetaText part path size root_key root_tag first → size_at part ≡ size
size-from_text part path size root_key root_tag first h =
    let le = h.not_large in
    ap (from_le_bytes w64) (piece_at 768 8 part (path_field path) (to_le_bytes w64 size) (root_key ++ (root_tag ++ first)) (h.text_is ∙ simp append_assoc) (length-path_field path h.path_is) refl) ∙ from_le_bytes-to_le_bytes_8 size (omega arith)

-- the key and the tag of the root and the first bytes in a text
key-from_text : (part path : List ℕ) (size : ℕ) (root_key root_tag first : List ℕ) → IsMetaText part path size root_key root_tag first → take 16 (drop 776 part) ≡ root_key
key-from_text part path size root_key root_tag first h =
    let l = length-path_field path h.path_is in
    let before = path_field path ++ to_le_bytes w64 size in
    piece_at 776 16 part before root_key (root_tag ++ first) (h.text_is ∙ simp append_assoc) (omega (arith, length-append (path_field path) (to_le_bytes w64 size))) h.root_key_length

tag-from_text : (part path : List ℕ) (size : ℕ) (root_key root_tag first : List ℕ) → IsMetaText part path size root_key root_tag first → take 16 (drop 792 part) ≡ root_tag
tag-from_text part path size root_key root_tag first h =
    let l = length-path_field path h.path_is in
    let k = h.root_key_length in
    let before = path_field path ++ to_le_bytes w64 size ++ root_key in
    piece_at 792 16 part before root_tag first (h.text_is ∙ simp append_assoc) (omega (arith, length-append (path_field path ++ to_le_bytes w64 size) root_key, length-append (path_field path) (to_le_bytes w64 size))) h.root_tag_length

first-from_text : (part path : List ℕ) (size : ℕ) (root_key root_tag first : List ℕ) → IsMetaText part path size root_key root_tag first → take 3072 (drop 808 part) ≡ first
first-from_text part path size root_key root_tag first h =
    let l = length-path_field path h.path_is in
    let k = h.root_key_length in
    let t = h.root_tag_length in
    let before = path_field path ++ to_le_bytes w64 size ++ root_key ++ root_tag in
    piece_at 808 3072 part before first [] (h.text_is ∙ sym (ap (λ t. before ++ t) (append-nil first))) (omega (arith, length-append (path_field path ++ to_le_bytes w64 size ++ root_key) root_tag, length-append (path_field path ++ to_le_bytes w64 size) root_key, length-append (path_field path) (to_le_bytes w64 size))) h.first_length

-- a text is one of no other fields
pub fields_same : (text path : List ℕ) (size : ℕ) (root_key root_tag first other_path : List ℕ) (other_size : ℕ) (other_key other_tag other_first : List ℕ) → IsMetaText text path size root_key root_tag first → IsMetaText text other_path other_size other_key other_tag other_first → (path ≡ other_path) × (size ≡ other_size) × (root_key ≡ other_key) × (root_tag ≡ other_tag) × (first ≡ other_first)
fields_same text path size root_key root_tag first other_path other_size other_key other_tag other_first h other =
    let field : path_field path ≡ path_field other_path = sym (path-from_text text path size root_key root_tag first h) ∙ path-from_text text other_path other_size other_key other_tag other_first other in (
      sym (before_first-path_field path h.path_is) ∙ (ap (before_first (λ b. b == 0)) field ∙ before_first-path_field other_path other.path_is),
      sym (size-from_text text path size root_key root_tag first h) ∙ size-from_text text other_path other_size other_key other_tag other_first other,
      sym (key-from_text text path size root_key root_tag first h) ∙ key-from_text text other_path other_size other_key other_tag other_first other,
      sym (tag-from_text text path size root_key root_tag first h) ∙ tag-from_text text other_path other_size other_key other_tag other_first other,
      sym (first-from_text text path size root_key root_tag first h) ∙ first-from_text text other_path other_size other_key other_tag other_first other,
    )
