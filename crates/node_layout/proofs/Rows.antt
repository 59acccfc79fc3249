-- Lists in a row: the pieces of a row, and a row that grows.
use Rattle.std.proofs.Common.{◌≡◌, ℕ, ◌+◌, ◌≤◌, List, ◌++◌, length, take, drop, ap, ap₂, ◌∙◌, arith}
use Rattle.std.proofs.lemmas.List.{length-take-le, length-drop, take_at, drop_at}

-- the length of a piece within a list
pub length-piece : {X : Type 0} (a n : ℕ) (xs : List X) → a + n ≤ length xs → length (take n (drop a xs)) ≡ n
length-piece a n xs le = length-take-le n (drop a xs) (omega (arith, length-drop a xs))

-- a piece of a row
pub piece_at : {X : Type 0} (a n : ℕ) (xs front piece rest : List X) → xs ≡ front ++ (piece ++ rest) → length front ≡ a → length piece ≡ n → take n (drop a xs) ≡ piece
piece_at a n xs front piece rest is l k =
    ap (λ t. take n (drop a t)) is ∙ (ap (take n) (drop_at front (piece ++ rest) a l) ∙ take_at piece rest n k)

-- a row with one more piece
pub grown : {X : Type 0} {front row whole piece same : List X} → front ≡ row → whole ≡ front ++ piece → piece ≡ same → whole ≡ row ++ same
grown e f g = f ∙ ap₂ ◌++◌ e g
