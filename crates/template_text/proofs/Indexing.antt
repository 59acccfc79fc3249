-- An index of values, one pair at a time.
use Rattle.std.specs.Map.{lookup}
use Rattle.std.specs.BTreeMap.{BTreeMap, UpdatesBy, get_by}
use Rattle.std.specs.Cmp.Lexicographic.{slice_cmp}
use Rattle.std.specs.Ordering.{nat_cmp}
use Rattle.std.proofs.Common.{◌≡◌, ◌∙◌, ℕ, ◌<◌, ◌+◌, Bool, true, false, cond, List, [], ◌∷◌, ◌++◌, length, get_or, take, Option, Some, option_map, bytes_eq, refl, sym, ap}
use Rattle.std.proofs.lemmas.Bool.Decides.{same_from_decides, Decides-like}
use Rattle.std.proofs.lemmas.List.{take_more, reverse-append}
use Rattle.std.proofs.lemmas.Map.Text.{btree_map_updates_str}
use Rattle.std.proofs.lemmas.Slice.Eq.{bytes_eq-Decides}
use Rattle.template_text.specs.Indexes.{value_in}
use Rattle.template_text.specs.Rendering.{Values, value_of}
use denote.Ref.{Bor}

bytes_eq_comm : (xs ys : List ℕ) → bytes_eq xs ys ≡ bytes_eq ys xs
bytes_eq_comm xs ys = same_from_decides (bytes_eq xs ys) (bytes_eq ys xs) (bytes_eq-Decides xs ys) (Decides-like (bytes_eq ys xs) sym sym (bytes_eq-Decides ys xs))

value_of_more : (values : Values) (name value q : List ℕ) → value_of (values ++ (name, value) ∷ []) q ≡ cond (bytes_eq q name) (Some value) (value_of values q)
value_of_more values name value q = ap (lookup (bytes_eq q)) (reverse-append values ((name, value) ∷ []))

map-cond : (b : Bool) (value : Bor (List ℕ)) (o : Option (Bor (List ℕ))) → option_map (λ v. v.now) (cond b (Some value) o) ≡ cond b (Some value.now) (option_map (λ v. v.now) o)
map-cond true value o = refl
map-cond false value o = refl

-- a name is given a value
pub value_set : (old new : BTreeMap (Bor (List ℕ)) (Bor (List ℕ))) (key value : Bor (List ℕ)) → UpdatesBy (λ x y. slice_cmp nat_cmp x.now y.now) (λ k. slice_cmp nat_cmp key.now k.now) old new (Some value)
    → (q : List ℕ) → value_in new q ≡ cond (bytes_eq q key.now) (Some value.now) (value_in old q)
value_set old new key value updates q =
    let found = ap (option_map (λ (v : Bor (List ℕ)). v.now)) (btree_map_updates_str key.now old new (Some value) updates q) ∙ map-cond (bytes_eq key.now q) value (get_by (λ k. slice_cmp nat_cmp q k.now) old) in
    found ∙ ap (λ (b : Bool). cond b (Some value.now) (value_in old q)) (bytes_eq_comm key.now q)

-- so with the values of one pair more
pub index_more : (values : Values) (i : ℕ) (pair : List ℕ × List ℕ) (old new : BTreeMap (Bor (List ℕ)) (Bor (List ℕ))) (key value : List ℕ) → i < length values → pair ≡ get_or values i pair → key ≡ pair.0 → value ≡ pair.1
    → ((q : List ℕ) → value_in new q ≡ cond (bytes_eq q key) (Some value) (value_in old q)) → ((q : List ℕ) → value_in old q ≡ value_of (take i values) q) → (q : List ℕ) → value_in new q ≡ value_of (take (i + 1) values) q
index_more values i pair old new key value l is name text sets so_far q =
    let here : cond (bytes_eq q key) (Some value) (value_in old q) ≡ cond (bytes_eq q pair.0) (Some pair.1) (value_of (take i values) q) = rw (name, text, so_far q) refl in
    let whole : take (i + 1) values ≡ take i values ++ (pair.0, pair.1) ∷ [] = take_more values i pair l ∙ ap (λ p. take i values ++ p ∷ []) (sym is) in
    sets q ∙ here ∙ sym (value_of_more (take i values) pair.0 pair.1 q) ∙ ap (λ vs. value_of vs q) (sym whole)
