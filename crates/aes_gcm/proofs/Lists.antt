-- Lists of known length, written out by their elements.
use Rattle.std.proofs.Common.{◌≡◌, ℕ, ◌≤◌, List, [], ◌∷◌, get_or, map, length, take, refl, sym, ◌∙◌, arith}
use Rattle.std.proofs.lemmas.List.{take_all}
use Rattle.std.proofs.lemmas.List.FromFn.{fill_by_all}
use Rattle.std.specs.List.{range_with_len}

pub written_out : (xs : List ℕ) (n : ℕ) → length xs ≡ n → xs ≡ map (λ k. get_or xs k 0) (range_with_len 0 n)
written_out xs n h = fill_by_all (λ k. get_or xs k 0) xs n 0 h (λ k l. refl)

pub first_four : {A : Type 0} (xs : List A) (d : A) → 4 ≤ length xs → take 4 xs ≡ get_or xs 0 d ∷ get_or xs 1 d ∷ get_or xs 2 d ∷ get_or xs 3 d ∷ []
first_four [] d h = absurd (omega arith)
first_four (a ∷ []) d h = absurd (omega arith)
first_four (a ∷ b ∷ []) d h = absurd (omega arith)
first_four (a ∷ b ∷ c ∷ []) d h = absurd (omega arith)
first_four (a ∷ b ∷ c ∷ e ∷ xs) d h = refl

pub four_written_out : {A : Type 0} (xs : List A) (d : A) → length xs ≡ 4 → xs ≡ get_or xs 0 d ∷ get_or xs 1 d ∷ get_or xs 2 d ∷ get_or xs 3 d ∷ []
four_written_out xs d h = sym (take_all 4 xs (omega arith)) ∙ first_four xs d (omega arith)
