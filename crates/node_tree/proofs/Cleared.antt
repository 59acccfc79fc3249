-- Places that are cleared one after the other.
use Rattle.std.proofs.Common.{◌≡◌, ◌≢◌, inl, inr, ℕ, zero, suc, ◌+◌, ◌-◌, ◌%◌, ◌<◌, ◌≤◌, List, [], ◌∷◌, ◌++◌, take, length, Option, Some, ltb, slice_index, replicate, refl, ap, ◌∙◌, sym, subst, arith}
use Rattle.std.specs.Prelude.{nat_lt, if◌then◌else◌, Contains}
use Rattle.std.proofs.lemmas.Bool.{cases_eq, cond-true, cond-false, lt-ltb, le-ltb}
use Rattle.std.proofs.lemmas.List.{take_more, length-take-le, get_or-take}
use Rattle.std.proofs.lemmas.List.Elements.{Contains-append_left, Contains-push, Contains-push_cases}
use Rattle.std.proofs.lemmas.List.Kept.{AllPairs-from_increasing}
use Rattle.std.specs.List.Sorted.{IsStrictlyIncreasing}
use Rattle.node_layout.specs.Places.{data_place, mht_place, parent_of, slot_of}
use Rattle.node_layout.proofs.Numbers.{slot_below, each_number}
use Rattle.node_tree.proofs.Children.{child_is}
use Rattle.node_tree.proofs.Keyed.{any_default}
use Rattle.node_layout.specs.Entries.{entry_at}
use Rattle.node_tree.specs.Opened.{Entry, IsAt, At}
use Rattle.node_tree.specs.Clearing.{child_of, cleared_entry, IsPlaceCleared, HasCleared, IsNodeCleared, IsCleared, AreCleared}

pub cleared_none : (count k : ℕ) (plain : List ℕ) → HasCleared count k 0 plain plain
cleared_none count k plain = record { done = λ s lt. absurd (omega arith); rest = λ s le lt. refl }

pub cleared_more : (count k n : ℕ) (old mid new : List ℕ) → n < 128 → HasCleared count k n old mid → IsPlaceCleared count k n mid new → HasCleared count k (n + 1) old new
cleared_more count k n old mid new lt first one = record {
  done = λ s less. elim (cases_eq s n) [
    | inl is ↦
        ap (entry_at new) is ∙ one.here ∙ ap (λ (e : Entry). if nat_lt (child_of k n) count then e else (replicate 16 0, replicate 16 0)) (first.rest n (omega arith) lt)
        ∙ ap (cleared_entry count k old) (sym is)
    | inr ne ↦ one.others s (omega arith) ne ∙ first.done s (omega arith)
  ];
  rest = λ s le less. one.others s less (λ same. omega (arith, same)) ∙ first.rest s (omega arith) less;
}

-- a node whose places were cleared, by its children
node_cleared : (count k : ℕ) (plain : List ℕ) (held : Option (List ℕ)) → IsNodeCleared count k plain held → IsCleared count k plain held
node_cleared count k plain held is =
    let child : (c : ℕ) → 2 ≤ c → parent_of c ≡ k → child_of k (slot_of c) ≡ c = λ c two up. ap (λ (j : ℕ). child_of j (slot_of c)) (sym up) ∙ child_is c two in
    record {
      after = is.after;
      there = is.there;
      same_length = is.same_length;
      dead = λ c two up le. is.places.done (slot_of c) (slot_below c) ∙ cond-false (ltb (child_of k (slot_of c)) count) _ _ (le-ltb (child_of k (slot_of c)) count (subst (λ (j : ℕ). count ≤ j) (sym (child c two up)) le));
      live = λ c two up lt. is.places.done (slot_of c) (slot_below c) ∙ cond-true (ltb (child_of k (slot_of c)) count) _ _ (lt-ltb (child_of k (slot_of c)) count (subst (λ (j : ℕ). j < count) (sym (child c two up)) lt));
    }

only : (x k : ℕ) → Contains (x ∷ []) k → x ≡ k
only x k (zero, lt, is) = is
only x k (suc i, lt, is) = absurd (omega arith)

single : (x k : ℕ) → x ≡ k → Contains (x ∷ []) k
single x k is = (0, omega arith, is)

pub data_cleared : (count x : ℕ) (held : ℕ → Option (List ℕ)) → (x - 1) % 97 ≢ 0 → AreCleared count (x ∷ []) held held
data_cleared count x held rest = record {
  others = λ k apart. refl;
  data_nodes = λ d. refl;
  hashes = λ m plain among there. absurd (rest (let is = only x (mht_place m) among in omega (arith, is)));
}

pub hash_cleared : (count x : ℕ) (held held_now : ℕ → Option (List ℕ)) → (x - 1) % 97 ≡ 0 → ((plain : List ℕ) → held x ≡ Some plain → IsNodeCleared count x plain (held_now x)) → ((k : ℕ) → k ≢ x → held_now k ≡ held k) → AreCleared count (x ∷ []) held held_now
hash_cleared count x held held_now rest here others = record {
  others = λ k apart. others k (λ same. apart (single x k (sym same)));
  data_nodes = λ d. others (data_place d) (λ same. omega (arith, same, rest));
  hashes = λ m plain among there.
      let is = only x (mht_place m) among in
      subst (λ (j : ℕ). IsCleared count j plain (held_now j)) is (node_cleared count x plain (held_now x) (here plain (ap held is ∙ there)));
}

pub none_cleared : (count : ℕ) (numbers : List ℕ) (held : ℕ → Option (List ℕ)) → AreCleared count (take 0 numbers) held held
none_cleared count numbers held = record { others = λ k apart. refl; data_nodes = λ d. refl; hashes = λ m plain among there. absurd (let lt = among.1 in omega arith) }

pub one_more_cleared : (count x : ℕ) (front : List ℕ) (old mid new : ℕ → Option (List ℕ)) → ¬ (Contains front x) → AreCleared count front old mid → AreCleared count (x ∷ []) mid new → AreCleared count (front ++ x ∷ []) old new
one_more_cleared count x front old mid new apart first one = record {
  others = λ k out.
      one.others k (λ among. out (subst (Contains (front ++ x ∷ [])) (only x k among) (Contains-push front x)))
      ∙ first.others k (λ among. out (Contains-append_left front (x ∷ []) k among));
  data_nodes = λ d. one.data_nodes d ∙ first.data_nodes d;
  hashes = λ m plain among there. elim (Contains-push_cases front x (mht_place m) among) [
    | inl before ↦
        let same = one.others (mht_place m) (λ here. apart (subst (Contains front) (sym (only x (mht_place m) here)) before)) in
        subst (λ (o : Option (List ℕ)). IsCleared count (mht_place m) plain o) (sym same) (first.hashes m plain before there)
    | inr is ↦
        one.hashes m plain (single x (mht_place m) is) (first.others (mht_place m) (λ before. apart (subst (Contains front) (sym is) before)) ∙ there)
  ];
}

-- a number of rising ones is none of those before it
pub not_before : (numbers : List ℕ) (i : ℕ) → IsStrictlyIncreasing numbers → i < length numbers → ¬ (Contains (take i numbers) (slice_index numbers i))
not_before numbers i rising lt (j, within, is) =
    let small : j < i = omega (arith, length-take-le i numbers (omega arith)) in
    let at : slice_index numbers j ≡ slice_index numbers i = any_default numbers j 0 (slice_index numbers i) (omega arith) ∙ sym (get_or-take i numbers j (slice_index numbers i) small) ∙ is in
    let below = AllPairs-from_increasing numbers rising j i 0 small lt in
    omega (arith, at, below)

pub cleared_next : (count i : ℕ) (numbers : List ℕ) (old mid new : ℕ → Option (List ℕ)) → IsStrictlyIncreasing numbers → i < length numbers → AreCleared count (take i numbers) old mid → AreCleared count (slice_index numbers i ∷ []) mid new → AreCleared count (take (i + 1) numbers) old new
cleared_next count i numbers old mid new rising lt first one =
    subst (λ (l : List ℕ). AreCleared count l old new) (sym (take_more numbers i 0 lt)) (one_more_cleared count (slice_index numbers i) (take i numbers) old mid new (not_before numbers i rising lt) first one)

-- what was held is held once it is cleared
pub cleared_held : (count : ℕ) (numbers : List ℕ) (held held_now : ℕ → Option (List ℕ)) (k : ℕ) → AreCleared count numbers held held_now → 1 ≤ k → Contains numbers k → IsAt (At held) k → IsAt (At held_now) k
cleared_held count numbers held held_now k are low among there =
    elim (each_number k low) [
      | inl (d, is) ↦ (there.0, ap held_now is ∙ are.data_nodes d ∙ ap held (sym is) ∙ there.1)
      | inr (m, is) ↦ let z = are.hashes m there.0 (subst (Contains numbers) is among) (ap held (sym is) ∙ there.1) in (z.after, ap held_now is ∙ z.there)
    ]
