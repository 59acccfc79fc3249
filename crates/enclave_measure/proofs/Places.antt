-- Two places in one list.
use Rattle.std.proofs.Common.{◌≡◌, List, [], ◌∷◌, ◌++◌, refl, sym, ap, subst}

-- they are one, or the one is before the other
pub data Places {A : Type 0} (f g : List A) (l m : A) : Type 0 where
  Same : f ≡ g → l ≡ m → Places f g l m
  Before : (more : List A) → g ≡ f ++ l ∷ more → Places f g l m
  After : (more : List A) → f ≡ g ++ m ∷ more → Places f g l m

places_on : {A : Type 0} (x : A) (f g : List A) (l m : A) → Places f g l m → Places (x ∷ f) (x ∷ g) l m
places_on x f g l m (Same e same) = Same (ap (λ ls. x ∷ ls) e) same
places_on x f g l m (Before more e) = Before more (ap (λ ls. x ∷ ls) e)
places_on x f g l m (After more e) = After more (ap (λ ls. x ∷ ls) e)

pub head_same : {A : Type 0} (x y : A) (xs ys : List A) → x ∷ xs ≡ y ∷ ys → x ≡ y
head_same x y xs ys same = cc

pub tail_same : {A : Type 0} (x y : A) (xs ys : List A) → x ∷ xs ≡ y ∷ ys → xs ≡ ys
tail_same x y xs ys same = cc

pub places : {A : Type 0} (f g : List A) (l m : A) (xs ys : List A) → f ++ l ∷ xs ≡ g ++ m ∷ ys → Places f g l m
places [] [] l m xs ys same = Same refl (head_same l m xs ys same)
places [] (y ∷ g) l m xs ys same = Before g (rw (head_same l y xs (g ++ m ∷ ys) same) refl)
places (x ∷ f) [] l m xs ys same = After f (rw (sym (head_same x m (f ++ l ∷ xs) ys same)) refl)
places (x ∷ f) (y ∷ g) l m xs ys same =
    subst (λ z. Places (x ∷ f) (z ∷ g) l m) (head_same x y (f ++ l ∷ xs) (g ++ m ∷ ys) same) (places_on x f g l m (places f g l m xs ys (tail_same x y (f ++ l ∷ xs) (g ++ m ∷ ys) same)))
