-- The list of summed files.
use Rattle.std.specs.List.{AllZip}
use Rattle.std.proofs.lemmas.Bool.{false≢true}
use Rattle.std.specs.Map.{keys_of, lookup}
use Rattle.std.specs.String.{string_cmp}
use Rattle.std.specs.Ordering.{is_eq, match_ordering}
use Rattle.std.specs.BTreeMap.{insert_entry, is_at}
use Rattle.toml.proofs.Views.{Entry, table_index}
use Rattle.toml.specs.View.{view, members_view}
use Rattle.toml.specs.declared.value.Value.{Value}
use Rattle.std.proofs.Common.{cond, drop, codes, Option, Some, None, IsSome, String, Global, string_bytes, Ordering, Less, Equal, Greater, ◌≡◌, ◌∙◌, ℕ, ◌+◌, ◌<◌, List, [], ◌∷◌, ◌++◌, length, get_or, take, refl, sym, ap, arith}
use Rattle.std.proofs.lemmas.List.{take_more, length-take-le}
use Rattle.toml.specs.Data.{Data, Items, item, push_item, Members, member, get_member, array, table}
use Rattle.manifest_model.specs.declared.entries.Trusted.{Trusted}
use Rattle.manifest_model.specs.Summed.{FitSums, summed_item, summed_items, replaced, where_there, with_trusted}

pub same_length : (ts : List Trusted) (sums : List (List ℕ)) → FitSums ts sums → length ts ≡ length sums
same_length [] [] fit = refl
same_length [] (sum ∷ sums) fit = absurd fit
same_length (t ∷ ts) [] fit = absurd fit
same_length (t ∷ ts) (sum ∷ sums) fit = omega (arith, same_length ts sums fit.1)

summed_last : (ts : List Trusted) (sums : List (List ℕ)) (t : Trusted) (sum : List ℕ) → length ts ≡ length sums → summed_items (ts ++ t ∷ []) (sums ++ sum ∷ []) ≡ push_item (summed_items ts sums) (summed_item t.uri sum)
summed_last [] [] t sum e = refl
summed_last [] (s ∷ sums) t sum e = absurd (omega (arith, e))
summed_last (u ∷ ts) [] t sum e = absurd (omega (arith, e))
summed_last (u ∷ ts) (s ∷ sums) t sum e = ap (item (summed_item u.uri s)) (summed_last ts sums t sum (omega (arith, e)))

pub summed_more : (ts : List Trusted) (sums : List (List ℕ)) (k : ℕ) (t : Trusted) (d : List ℕ) → length ts ≡ length sums → k < length ts → t ≡ get_or ts k t
    → summed_items (take (k + 1) ts) (take (k + 1) sums) ≡ push_item (summed_items (take k ts) (take k sums)) (summed_item t.uri (get_or sums k d))
summed_more ts sums k t d same l is =
    let within : k < length sums = omega (arith, same, l) in
    let lengths : length (take k ts) ≡ length (take k sums) = length-take-le k ts (omega (arith, l)) ∙ sym (length-take-le k sums (omega (arith, within))) in
    rw (take_more ts k t l, take_more sums k d within, ← is) (summed_last (take k ts) (take k sums) t (get_or sums k d) lengths)

-- a clone of a table is the same table
pub cloned : (es cs : List Entry) → AllZip (λ p q. (string_bytes q.0 ≡ string_bytes p.0) × (view q.1 ≡ view p.1)) es cs → members_view cs ≡ members_view es
cloned [] [] h = refl
cloned [] (c ∷ cs) h = absurd h
cloned (e ∷ es) [] h = absurd h
cloned (e ∷ es) (c ∷ cs) h = λ i. member (h.0.0 i) (h.0.1 i) (cloned es cs h.1 i)

-- another value at a key that is there
pub inserted : (k : String Global) (v : Value) (es : List Entry) → keys_of (insert_entry string_cmp es k v) ≡ keys_of es → members_view (insert_entry string_cmp es k v) ≡ replaced (string_bytes k) (view v) (members_view es)
inserted k v [] h = absurd (omega (arith, ap length h))
inserted k v (e ∷ es) h = by_order (string_cmp k e.0) h (λ tails. inserted k v es tails)
  where
    by_order : (o : Ordering) → keys_of (match_ordering o ((k, v) ∷ e ∷ es) ((e.0, v) ∷ es) (e ∷ insert_entry string_cmp es k v)) ≡ keys_of (e ∷ es)
        → (keys_of (insert_entry string_cmp es k v) ≡ keys_of es → members_view (insert_entry string_cmp es k v) ≡ replaced (string_bytes k) (view v) (members_view es))
        → members_view (match_ordering o ((k, v) ∷ e ∷ es) ((e.0, v) ∷ es) (e ∷ insert_entry string_cmp es k v))
        ≡ cond (is_eq o) (member (string_bytes e.0) (view v) (members_view es)) (member (string_bytes e.0) (view e.1) (replaced (string_bytes k) (view v) (members_view es)))
    by_order Less g more = absurd (omega (arith, ap length g))
    by_order Equal g more = refl
    by_order Greater g more = ap (member (string_bytes e.0) (view e.1)) (more (ap (drop 1) g))

-- a key that is there is replaced
pub replaced_at : (k : String Global) (key : List ℕ) (v : Value) (es new : List Entry) (old : Option Value) → string_bytes k ≡ key → IsSome (get_member key (members_view es)) → old ≡ lookup (is_at (string_cmp k)) es
    → (IsSome old → keys_of new ≡ keys_of es) → new ≡ insert_entry string_cmp es k v → members_view new ≡ replaced key (view v) (members_view es)
replaced_at k key v es new old same there found keys whole =
    let some : IsSome (lookup (is_at (string_cmp k)) es) = table_index (string_bytes k) es (rw same there) in
    let stay : keys_of (insert_entry string_cmp es k v) ≡ keys_of es = sym (ap keys_of whole) ∙ keys (rw found some) in
    ap members_view whole ∙ inserted k v es stay ∙ ap (λ key'. replaced key' (view v) (members_view es)) same

-- the table with sums, where it has trusted files
pub sums_placed : (ms s : Members) (ds : Items) → get_member (codes "sgx") ms ≡ Some (table s) → IsSome (get_member (codes "trusted_files") s) → replaced (codes "sgx") (table (replaced (codes "trusted_files") (array ds) s)) ms ≡ with_trusted ds ms
unfolding with_trusted
sums_placed ms s ds there some = rw there (by_field (get_member (codes "trusted_files") s) some)
  where
    by_field : (o : Option Data) → IsSome o → replaced (codes "sgx") (table (replaced (codes "trusted_files") (array ds) s)) ms ≡ where_there o ms (replaced (codes "sgx") (table (replaced (codes "trusted_files") (array ds) s)) ms)
    by_field None h = absurd (false≢true h)
    by_field (Some d) h = refl
