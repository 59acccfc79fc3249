-- The numbers of the nodes.
use Rattle.std.proofs.Common.{◌≡◌, ◌≢◌, ◌⊎◌, inl, inr, ℕ, ◌+◌, ◌-◌, ◌*◌, ◌/◌, ◌%◌, ◌<◌, ◌≤◌, ◌↔◌, ap, ◌∙◌, arith, eq-eqb}
use Rattle.std.proofs.lemmas.Bool.{cases_eq, ne_eqb, cond-true, cond-false}
use Rattle.node_layout.specs.Places.{data_place, mht_place, leaf_of, up, parent_of, slot_of, data_count, mht_count, node_count}

pub each_number : (k : ℕ) → 1 ≤ k → ((d : ℕ) × (k ≡ data_place d)) ⊎ ((m : ℕ) × (k ≡ mht_place m))
each_number k le =
    elim (cases_eq ((k - 1) % 97) 0) [
      | inl e ↦ inr ((k - 1) / 97, omega arith)
      | inr ne ↦ inl (96 * ((k - 1) / 97) + ((k - 1) % 97 - 1), omega arith)
    ]

pub one_data : (d e : ℕ) → data_place d ≡ data_place e → d ≡ e
one_data d e same = omega arith

pub one_mht : (m n : ℕ) → mht_place m ≡ mht_place n → m ≡ n
one_mht m n same = omega arith

pub not_both : (d m : ℕ) → data_place d ≢ mht_place m
not_both d m same = omega arith

data_rest : (d : ℕ) → ((data_place d - 1) % 97 ≡ 1 + d % 96) × ((data_place d - 1) / 97 ≡ d / 96)
data_rest d = (omega arith, omega arith)

mht_rest : (m : ℕ) → ((mht_place m - 1) % 97 ≡ 0) × ((mht_place m - 1) / 97 ≡ m)
mht_rest m = (omega arith, omega arith)

-- the two cases of a parent and of its place
pub below_mht : (k : ℕ) → (k - 1) % 97 ≡ 0 → (parent_of k ≡ mht_place (up ((k - 1) / 97))) × (slot_of k ≡ 96 + ((k - 1) / 97 - 1) % 32)
below_mht k e = let t = eq-eqb ((k - 1) % 97) 0 e in (cond-true _ _ _ t, cond-true _ _ _ t)

pub below_data : (k : ℕ) → (k - 1) % 97 ≢ 0 → (parent_of k ≡ mht_place ((k - 1) / 97)) × (slot_of k ≡ (k - 1) % 97 - 1)
below_data k ne = let f = ne_eqb ((k - 1) % 97) 0 ne in (cond-false _ _ _ f, cond-false _ _ _ f)

pub of_data : (d : ℕ) → (parent_of (data_place d) ≡ mht_place (leaf_of d)) × (slot_of (data_place d) ≡ d % 96)
of_data d =
    let r = data_rest d in
    let b = below_data (data_place d) (λ e. omega (arith, e, r.0)) in
    (omega (arith, b.0, r.1), omega (arith, b.1, r.0))

pub of_mht : (m : ℕ) → 1 ≤ m → (parent_of (mht_place m) ≡ mht_place (up m)) × (slot_of (mht_place m) ≡ 96 + (m - 1) % 32)
of_mht m le =
    let r = mht_rest m in
    let b = below_mht (mht_place m) r.0 in
    (b.0 ∙ ap (λ n. mht_place (up n)) r.1, b.1 ∙ ap (λ n. 96 + (n - 1) % 32) r.1)

pub parent_before : (k : ℕ) → 2 ≤ k → (1 ≤ parent_of k) × (parent_of k < k)
parent_before k le =
    elim (cases_eq ((k - 1) % 97) 0) [
      | inl e ↦ let b = (below_mht k e).0 in (omega (arith, b), omega (arith, b))
      | inr ne ↦ let b = (below_data k ne).0 in (omega (arith, b), omega (arith, b))
    ]

pub slot_below : (k : ℕ) → slot_of k < 128
slot_below k =
    elim (cases_eq ((k - 1) % 97) 0) [
      | inl e ↦ let b = (below_mht k e).1 in omega (arith, b)
      | inr ne ↦ let b = (below_data k ne).1 in omega (arith, b)
    ]

pub data_live : (s d : ℕ) → (data_place d < node_count s) ↔ (d < data_count s)
data_live s d = (λ h. omega arith, λ h. omega arith)

pub mht_live : (s m : ℕ) → (mht_place m < node_count s) ↔ (m < mht_count s)
mht_live s m = (λ h. omega arith, λ h. omega arith)

-- a number by its parent and its place there
number_of : (k : ℕ) → 2 ≤ k → ((slot_of k < 96) × (k ≡ parent_of k + 1 + slot_of k)) ⊎ ((96 ≤ slot_of k) × (k ≡ 98 + 32 * (parent_of k - 1) + 97 * (slot_of k - 96)))
number_of k le =
    elim (cases_eq ((k - 1) % 97) 0) [
      | inl e ↦ let b = below_mht k e in inr (omega (arith, b.1), omega (arith, b.0, b.1))
      | inr ne ↦ let b = below_data k ne in inl (omega (arith, b.1), omega (arith, b.0, b.1))
    ]

pub entries_apart : (j k : ℕ) → 2 ≤ j → 2 ≤ k → parent_of j ≡ parent_of k → slot_of j ≡ slot_of k → j ≡ k
entries_apart j k lj lk parents slots =
    elim (number_of j lj) [
      | inl a ↦ elim (number_of k lk) [ inl b ↦ omega (arith, a.1, b.1, parents, slots) | inr b ↦ omega (arith, a.0, b.0, slots) ]
      | inr a ↦ elim (number_of k lk) [ inl b ↦ omega (arith, a.0, b.0, slots) | inr b ↦ omega (arith, a.1, b.1, parents, slots) ]
    ]
