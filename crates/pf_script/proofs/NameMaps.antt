-- A map with a value set at a name.
use Rattle.std.proofs.Common.{◌≡◌, ◌≢◌, ◌⊎◌, inl, inr, Bool, true, false, cond, refl, sym, ◌∙◌, ap}
use Rattle.std.specs.Prelude.{bytes_eq}
use Rattle.std.proofs.lemmas.Slice.Eq.{bytes_eq-Decides}
use Rattle.pf_io.specs.Disk.{Name}
use Rattle.pf_io.specs.Replay.{set_at}

not_true : (b : Bool) → (b ≡ true → ⊥) → b ≡ false
not_true true h = absurd (h refl)
not_true false h = refl

pub differ : (n m : Name) → n ≢ m → bytes_eq n m ≡ false
differ n m apart = not_true (bytes_eq n m) (λ is. apart ((bytes_eq-Decides n m).0 is))

pub same_name : (n m : Name) → n ≡ m → bytes_eq n m ≡ true
same_name n m = (bytes_eq-Decides n m).1

pub name_or : (n m : Name) → (n ≡ m) ⊎ (n ≢ m)
name_or n m = by_test (bytes_eq n m) refl
  where
    by_test : (b : Bool) → bytes_eq n m ≡ b → (n ≡ m) ⊎ (n ≢ m)
    by_test true is = inl ((bytes_eq-Decides n m).0 is)
    by_test false is = inr (λ same. let e : true ≡ false = sym ((bytes_eq-Decides n m).1 same) ∙ is in absurd (cc))

pub set_at-same : {A : Type 0} (name : Name) (value : A) (old : Name → A) → set_at name value old name ≡ value
set_at-same name value old = ap (λ b. cond b value (old name)) (same_name name name refl)

pub set_at-other : {A : Type 0} (name m : Name) (value : A) (old : Name → A) → m ≢ name → set_at name value old m ≡ old m
set_at-other name m value old other = ap (λ b. cond b value (old m)) (differ name m (λ same. other (sym same)))
