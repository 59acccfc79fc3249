-- The first sheet of a list that a block carries.
use Rattle.std.proofs.Common.{◌≡◌, ◌⊎◌, inl, inr, ℕ, zero, suc, List, [], ◌∷◌, ◌++◌, refl, ap, ◌∙◌, sym, arith, subst, Some, Bool, true, false}
use Rattle.std.specs.Prelude.{Contains}
use Rattle.std.specs.Str.{bytes_eq}
use Rattle.std.proofs.lemmas.Slice.Eq.{bytes_eq-Decides}
use Rattle.std.proofs.lemmas.Option.{same_Some}
use Rattle.node_layout.specs.Metadata.{meta_opens, nonce_at}
use Rattle.node_tree.specs.Sheet.{Sheet, meta_of}
use Rattle.node_tree.specs.Unforged.{Carries}
use Rattle.pf_session.specs.Carries.{IsFirst}

same_bytes_or : (xs ys : List ℕ) → (xs ≡ ys) ⊎ ¬ (xs ≡ ys)
same_bytes_or xs ys = by_test (bytes_eq xs ys) refl where
  by_test : (b : Bool) → bytes_eq xs ys ≡ b → (xs ≡ ys) ⊎ ¬ (xs ≡ ys)
  by_test true is = inl ((bytes_eq-Decides xs ys).0 is)
  by_test false is = inr (λ same. absurd (true_false (sym ((bytes_eq-Decides xs ys).1 same) ∙ is))) where
    true_false : true ≡ false → ⊥
    true_false e = cc

carries_or : (key block text : List ℕ) → meta_opens key block ≡ Some text → (sheet : Sheet) → Carries key block sheet ⊎ ¬ (Carries key block sheet)
carries_or key block text opened sheet =
    elim (same_bytes_or (nonce_at block) sheet.nonce) [
      | inr other ↦ inr (λ carries. other carries.nonce)
      | inl nonce ↦ elim (same_bytes_or text (meta_of sheet)) [
        | inr other ↦ inr (λ carries. other (same_Some text (meta_of sheet) (sym opened ∙ carries.metadata)))
        | inl same ↦ inl (record { nonce = nonce; metadata = opened ∙ ap (λ (t : List ℕ). Some t) same })
      ]
    ]

in_none : (sheet : Sheet) → Contains [] sheet → ⊥
in_none sheet there = omega (arith, there.1)

module _ (P : Sheet → Type 0) (has_or : (sheet : Sheet) → P sheet ⊎ ¬ (P sheet)) where
  first_here : (x : Sheet) (xs : List Sheet) → P x → IsFirst P (x ∷ xs) x
  first_here x xs p = record { before = []; after = xs; split = refl; has = p; no_sooner = λ other there. absurd (in_none other there) }

  none_sooner : (x : Sheet) (before : List Sheet) → ¬ (P x) → ((other : Sheet) → Contains before other → ¬ (P other)) → (other : Sheet) → Contains (x ∷ before) other → P other → ⊥
  none_sooner x before not others other (zero, w, is) p = not (subst P (sym is) p)
  none_sooner x before not others other (suc i, w, is) p = others other (i, omega arith, is) p

  first_later : (x : Sheet) (xs : List Sheet) (sheet : Sheet) → ¬ (P x) → IsFirst P xs sheet → IsFirst P (x ∷ xs) sheet
  first_later x xs sheet not first =
      record { before = x ∷ first.before; after = first.after; split = ap (λ (l : List Sheet). x ∷ l) first.split; has = first.has; no_sooner = λ other there. none_sooner x first.before not first.no_sooner other there }

  first_more : (x : Sheet) (xs : List Sheet) (sheet : Sheet) → P sheet → (Contains xs sheet → (f : Sheet) × IsFirst P xs f) → Contains (x ∷ xs) sheet → ¬ (P x) → (f : Sheet) × IsFirst P (x ∷ xs) f
  first_more x xs sheet p rest (zero, w, is) not = absurd (not (subst P (sym is) p))
  first_more x xs sheet p rest (suc i, w, is) not = let f = rest (i, omega arith, is) in (f.0, first_later x xs f.0 not f.1)

  -- where one of a list has P, one is the first
  pub first_of : (xs : List Sheet) (sheet : Sheet) → Contains xs sheet → P sheet → (f : Sheet) × IsFirst P xs f
  first_of [] sheet there p = absurd (in_none sheet there)
  first_of (x ∷ xs) sheet there p =
      elim (has_or x) [
        | inl here ↦ (x, first_here x xs here)
        | inr not ↦ first_more x xs sheet p (λ later. first_of xs sheet later p) there not
      ]

pub first_carried : (key block text : List ℕ) (sheets : List Sheet) (sheet : Sheet) → meta_opens key block ≡ Some text → Contains sheets sheet → Carries key block sheet → (f : Sheet) × IsFirst (Carries key block) sheets f
first_carried key block text sheets sheet opened among carries = first_of (Carries key block) (carries_or key block text opened) sheets sheet among carries

-- what is in the middle of a list is in it
pub middle_there : (sheets before after : List Sheet) (sheet : Sheet) → sheets ≡ before ++ sheet ∷ after → Contains sheets sheet
middle_there sheets before after sheet split = subst (λ (l : List Sheet). Contains l sheet) (sym split) (in_middle before) where
  in_middle : (front : List Sheet) → Contains (front ++ sheet ∷ after) sheet
  in_middle [] = (0, omega arith, refl)
  in_middle (x ∷ front) = let there = in_middle front in (suc there.0, let w = there.1 in omega arith, there.2)
