-- Vectors lane by lane, as maps of one list.
use Rattle.std.proofs.Common.{◌≡◌, ℕ, ◌<◌, refl, ap, ◌∙◌, List, [], ◌∷◌, map, Fits, w8}
use Rattle.std.proofs.lemmas.Simd.{map-map}
use lib.Lanes.{Each1}

pub below-256 : (xs : List ℕ) → Each1 (Fits w8) xs → Each1 (λ x. x < 256) xs
below-256 [] h = tt
below-256 (x ∷ xs) h = (h.0.fits, below-256 xs h.1)

pub same_maps : (f g : ℕ → ℕ) (n : ℕ) → ((x : ℕ) → x < n → f x ≡ g x) → (xs : List ℕ) → Each1 (λ x. x < n) xs → map f xs ≡ map g xs
same_maps f g n h [] all = refl
same_maps f g n h (x ∷ xs) all = ap (λ y. y ∷ map f xs) (h x all.0) ∙ ap (λ l. g x ∷ l) (same_maps f g n h xs all.1)

-- one vector's lanes are a function of the same lanes of another
pub map_then : (f g : ℕ → ℕ) (xs at r : List ℕ) → at ≡ map g xs → r ≡ map f at → r ≡ map (λ x. f (g x)) xs
map_then f g xs at r e d = d ∙ ap (map f) e ∙ map-map f g xs

pub map_same : (xs : List ℕ) → map (λ x. x) xs ≡ xs
map_same [] = refl
map_same (x ∷ xs) = ap (λ l. x ∷ l) (map_same xs)
