-- A table with sums: nothing of it is refused, and its entries are those of the table with these sums.
use Rattle.std.proofs.Common.{◌≡◌, ◌∙◌, ℕ, zero, suc, ◌+◌, Bool, true, false, cond, codes, All, List, [], ◌∷◌, ◌++◌, map, filter, Option, Some, None, option_map, IsSome, bytes_eq, Result, Ok, refl, sym, ap, arith}
use Rattle.std.specs.Prelude.{is_some, ⊤}
use Rattle.std.specs.Option.{option_or}
use Rattle.std.proofs.lemmas.Bool.{false≢true}
use Rattle.std.proofs.lemmas.List.{append_assoc, append-nil}
use Rattle.std.proofs.lemmas.Map.Text.{is_eq-slice_cmp}
use Rattle.hex.specs.Hex.{encode_lower}
use Rattle.hex.proofs.HexLemmas.{decode_sized-encode_lower}
use Rattle.toml.specs.Data.{Data, string, integer, float, boolean, datetime, as_str, array, table, Items, no_items, item, Members, no_members, member, get_member, as_table, as_array}
use Rattle.manifest_model.specs.declared.entries.Trusted.{Trusted}
use Rattle.manifest_model.specs.declared.entries.Policy.{Policy}
use Rattle.manifest_model.specs.declared.entries.Policy.TheVariants.{Strict}
use Rattle.manifest_model.specs.declared.entries.Mount.{Mount}
use Rattle.manifest_model.specs.declared.fault.ManifestFault.{ManifestFault}
use Rattle.manifest_model.specs.declared.fault.ManifestFault.TheVariants as faults
use Rattle.manifest_model.specs.Names.{normal, file_name}
use Rattle.manifest_model.specs.Places.{at_key, at_item, first_of}
use Rattle.manifest_model.specs.Fields.{wants, needs, text_or, or_else, ok, bytes_of, items_in, members_in}
use Rattle.manifest_model.specs.Walk.{walk, walk_items, walk_members, walk_table}
use Rattle.manifest_model.specs.Trusting.{item_form, uri_field, uri_text, file_refusal, sum_refusal, differ, two_sums, own_refusal, item_refusal, items_refusal, item_of, items_of, is_other, firsts, summed_by, entries_of}
use Rattle.manifest_model.specs.Indexing.{added, place_of}
use Rattle.manifest_model.specs.Listed.{sgx, fs, Lists, policy_named, known_policy, allowed_items_refusal, allowed_uris, refusal, lists_of, policy_refusal, policy_of, trusted_refusal, trusted_of, allowed_refusal, allowed_of, mounting_refusal, mounting_of, keying_refusal, keying_of, Listed, Accepted, Refused}
use Rattle.manifest_model.specs.Summed.{FitSums, IsSum, with_sums, summed_item, summed_items, replaced, where_there, with_trusted}
use Rattle.manifest_model.proofs.Indexed.{Yes, No, same_name, bytes_eq_comm, no_entry}
use Rattle.manifest_model.proofs.Entered.{has, sum_in-none, added-entries}
use Rattle.manifest_model.proofs.Accepted.{both_none, compared, passed}

-- another value at a key

get-other : (key other : List ℕ) (d : Data) (ms : Members) → bytes_eq other key ≡ false → get_member other (replaced key d ms) ≡ get_member other ms
get-other key other d no_members differs = refl
get-other key other d (member l e ms) differs =
    elim (same_name key l) [
      | Yes b s ↦ let c : bytes_eq other l ≡ false = rw (← s) differs in rw (is_eq-slice_cmp key l, b, compared other l (get_member other ms) d, compared other l (get_member other ms) e, c) refl
      | No b s ↦ rw (is_eq-slice_cmp key l, b, compared other l (get_member other (replaced key d ms)) e, compared other l (get_member other ms) e, get-other key other d ms differs) refl
    ]

get-own : (key : List ℕ) (d : Data) (ms : Members) → IsSome (get_member key ms) → get_member key (replaced key d ms) ≡ Some d
get-own key d no_members h = absurd (false≢true h)
get-own key d (member l e ms) h =
    elim (same_name key l) [
      | Yes b s ↦ rw (is_eq-slice_cmp key l, b, compared key l (get_member key ms) d, b) refl
      | No b s ↦
          let there : IsSome (get_member key ms) = rw (compared key l (get_member key ms) e, b) at h in
          rw (is_eq-slice_cmp key l, b, compared key l (get_member key (replaced key d ms)) e, b) (get-own key d ms there)
    ]

walked-at : (depth : ℕ) (prefix key : List ℕ) (d : Data) (ms : Members) → walk_members depth prefix ms ≡ None → get_member key ms ≡ Some d → walk depth (prefix ++ key) d ≡ None
walked-at depth prefix key d no_members e g = cc
walked-at depth prefix key d (member l x ms) e g =
    let (first, rest) = both_none (walk depth (prefix ++ l) x) _ e in
    elim (same_name key l) [
      | Yes b s ↦ let f : Some x ≡ Some d = rw (compared key l (get_member key ms) x, b) at g in let same : x ≡ d = cc in rw (s, ← same) first
      | No b s ↦ let f : get_member key ms ≡ Some d = rw (compared key l (get_member key ms) x, b) at g in walked-at depth prefix key d ms rest f
    ]

walked-replaced : (depth : ℕ) (prefix key : List ℕ) (d : Data) (ms : Members) → walk_members depth prefix ms ≡ None → walk depth (prefix ++ key) d ≡ None → walk_members depth prefix (replaced key d ms) ≡ None
walked-replaced depth prefix key d no_members e new = refl
walked-replaced depth prefix key d (member l x ms) e new =
    let (first, rest) = both_none (walk depth (prefix ++ l) x) _ e in
    elim (same_name key l) [
      | Yes b s ↦ let here : walk depth (prefix ++ l) d ≡ None = rw (← s) new in rw (is_eq-slice_cmp key l, b, here) rest
      | No b s ↦ rw (is_eq-slice_cmp key l, b, first) (walked-replaced depth prefix key d ms rest new)
    ]

walked-items : (place : List ℕ) (i : ℕ) (ts : List Trusted) (sums : List (List ℕ)) → walk_items 3 place i (summed_items ts sums) ≡ None
walked-items place i [] sums = refl
walked-items place i (t ∷ ts) [] = refl
walked-items place i (t ∷ ts) (s ∷ sums) = walked-items place (i + 1) ts sums

walked : (ms s : Members) (ts : List Trusted) (sums : List (List ℕ)) → walk_table ms ≡ None → get_member (codes "sgx") ms ≡ Some (table s)
    → walk_table (replaced (codes "sgx") (table (replaced (codes "trusted_files") (array (summed_items ts sums)) s)) ms) ≡ None
walked ms s ts sums e there =
    let inner : walk_members 2 (codes "sgx" ++ codes ".") s ≡ None = walked-at 1 [] (codes "sgx") (table s) ms e there in
    let list : walk 2 (codes "sgx" ++ codes "." ++ codes "trusted_files") (array (summed_items ts sums)) ≡ None = walked-items (codes "sgx" ++ codes "." ++ codes "trusted_files") 0 ts sums in
    walked-replaced 1 [] (codes "sgx") (table (replaced (codes "trusted_files") (array (summed_items ts sums)) s)) ms e (walked-replaced 2 (codes "sgx" ++ codes ".") (codes "trusted_files") (array (summed_items ts sums)) s inner list)

-- what holds of entries

abbrev Fine : Trusted → Type 0
Fine t = (file_refusal t.uri ≡ None) × (t.name ≡ normal (or_else (file_name t.uri) []))

abbrev AreFine : List Trusted → Type 0
AreFine [] = ⊤
AreFine (t ∷ ts) = Fine t × AreFine ts

abbrev AreUnique : List Trusted → Type 0
AreUnique [] = ⊤
AreUnique (t ∷ ts) = (has t.name ts ≡ false) × AreUnique ts

-- no name of them is among others
abbrev AreApart : List Trusted → List Trusted → Type 0
AreApart before [] = ⊤
AreApart before (t ∷ ts) = (has t.name before ≡ false) × AreApart before ts

abbrev AreSums : List (List ℕ) → Type 0
AreSums [] = ⊤
AreSums (sum ∷ sums) = IsSum sum × AreSums sums

fine-items : (before : List Trusted) (place : List ℕ) (i : ℕ) (ds : Items) → items_refusal before place i ds ≡ None → AreFine (items_of ds)
unfolding own_refusal item_of
fine-items before place i no_items e = tt
fine-items before place i (item d ds) e =
    let (first, rest) = both_none (item_refusal before (at_item place i) d) _ e in
    let (own, one) = both_none (own_refusal (at_item place i) d) _ first in
    let (form, e1) = both_none (item_form (at_item place i) d) _ own in
    let (uri, e2) = both_none (needs as_str (at_key (at_item place i) (codes "uri")) (uri_field d)) _ e1 in
    let (file, e3) = both_none (file_refusal (uri_text d)) _ e2 in
    ((file, refl), fine-items (before ++ item_of d ∷ []) place (i + 1) ds rest)

fine-filter : (p : Trusted → Bool) (ts : List Trusted) → AreFine ts → AreFine (filter p ts)
fine-filter p [] h = tt
fine-filter p (t ∷ ts) h = by_kept (p t) (fine-filter p ts h.1)
  where
    by_kept : (k : Bool) → AreFine (filter p ts) → AreFine (cond k (t ∷ filter p ts) (filter p ts))
    by_kept true more = (h.0, more)
    by_kept false more = more

fine-firsts : (ts : List Trusted) → AreFine ts → AreFine (firsts ts)
fine-firsts [] h = tt
fine-firsts (t ∷ ts) h = (h.0, fine-filter (is_other t) (firsts ts) (fine-firsts ts h.1))

fine-summed : (all ts : List Trusted) → AreFine ts → AreFine (map (summed_by all) ts)
fine-summed all [] h = tt
fine-summed all (t ∷ ts) h = (h.0, fine-summed all ts h.1)

has-filter : (name : List ℕ) (p : Trusted → Bool) (ts : List Trusted) → has name ts ≡ false → has name (filter p ts) ≡ false
has-filter name p [] h = refl
has-filter name p (t ∷ ts) h =
    elim (same_name name t.name) [
      | Yes b s ↦ let e : true ≡ false = rw b at h in cc
      | No b s ↦ let rest : has name ts ≡ false = rw b at h in by_kept (p t) b (has-filter name p ts rest)
    ]
  where
    by_kept : (k : Bool) → bytes_eq name t.name ≡ false → has name (filter p ts) ≡ false → has name (cond k (t ∷ filter p ts) (filter p ts)) ≡ false
    by_kept true b more = rw b more
    by_kept false b more = more

has-own : (t : Trusted) (us : List Trusted) → has t.name (filter (is_other t) us) ≡ false
has-own t [] = refl
has-own t (u ∷ us) = elim (same_name t.name u.name) [ Yes b s ↦ rw b (has-own t us) | No b s ↦ rw (b, b) (has-own t us) ]

unique-filter : (p : Trusted → Bool) (ts : List Trusted) → AreUnique ts → AreUnique (filter p ts)
unique-filter p [] h = tt
unique-filter p (t ∷ ts) h = by_kept (p t) (unique-filter p ts h.1)
  where
    by_kept : (k : Bool) → AreUnique (filter p ts) → AreUnique (cond k (t ∷ filter p ts) (filter p ts))
    by_kept true more = (has-filter t.name p ts h.0, more)
    by_kept false more = more

unique-firsts : (ts : List Trusted) → AreUnique (firsts ts)
unique-firsts [] = tt
unique-firsts (t ∷ ts) = (has-own t (firsts ts), unique-filter (is_other t) (firsts ts) (unique-firsts ts))

has-summed : (name : List ℕ) (all ts : List Trusted) → has name (map (summed_by all) ts) ≡ has name ts
has-summed name all [] = refl
has-summed name all (t ∷ ts) = ap (cond (bytes_eq name t.name) true) (has-summed name all ts)

unique-summed : (all ts : List Trusted) → AreUnique ts → AreUnique (map (summed_by all) ts)
unique-summed all [] h = tt
unique-summed all (t ∷ ts) h = (has-summed t.name all ts ∙ h.0, unique-summed all ts h.1)

fine-entries : (ts : List Trusted) → AreFine ts → AreFine (entries_of ts)
unfolding entries_of
fine-entries ts h = fine-summed ts (firsts ts) (fine-firsts ts h)

unique-entries : (ts : List Trusted) → AreUnique (entries_of ts)
unfolding entries_of
unique-entries ts = unique-summed ts (firsts ts) (unique-firsts ts)

-- entries with their sums

has-with : (name : List ℕ) (ts : List Trusted) (sums : List (List ℕ)) → FitSums ts sums → has name (with_sums ts sums) ≡ has name ts
has-with name [] [] fit = refl
has-with name [] (s ∷ sums) fit = absurd fit
has-with name (t ∷ ts) [] fit = absurd fit
has-with name (t ∷ ts) (s ∷ sums) fit = ap (cond (bytes_eq name t.name) true) (has-with name ts sums fit.1)

unique-with : (ts : List Trusted) (sums : List (List ℕ)) → FitSums ts sums → AreUnique ts → AreUnique (with_sums ts sums)
unique-with [] [] fit h = tt
unique-with [] (s ∷ sums) fit h = absurd fit
unique-with (t ∷ ts) [] fit h = absurd fit
unique-with (t ∷ ts) (s ∷ sums) fit h = (has-with t.name ts sums fit.1 ∙ h.0, unique-with ts sums fit.1 h.1)

apart-nil : (ts : List Trusted) → AreApart [] ts
apart-nil [] = tt
apart-nil (t ∷ ts) = (refl, apart-nil ts)

has-last : (name : List ℕ) (before : List Trusted) (u : Trusted) → has name before ≡ false → bytes_eq name u.name ≡ false → has name (before ++ u ∷ []) ≡ false
has-last name [] u h differs = rw differs refl
has-last name (t ∷ before) u h differs =
    elim (same_name name t.name) [
      | Yes b s ↦ let e : true ≡ false = rw b at h in cc
      | No b s ↦ let rest : has name before ≡ false = rw b at h in rw b (has-last name before u rest differs)
    ]

apart-last : (before : List Trusted) (u : Trusted) (ts : List Trusted) → AreApart before ts → has u.name ts ≡ false → AreApart (before ++ u ∷ []) ts
apart-last before u [] apart h = tt
apart-last before u (t ∷ ts) apart h =
    elim (same_name u.name t.name) [
      | Yes b s ↦ let e : true ≡ false = rw b at h in cc
      | No b s ↦ let rest : has u.name ts ≡ false = rw b at h in (has-last t.name before u apart.0 (bytes_eq_comm t.name u.name ∙ b), apart-last before u ts apart.1 rest)
    ]

decoded : (sum : List ℕ) → IsSum sum → bytes_of 32 (encode_lower sum) ≡ Some sum
decoded sum is = ap ok (decode_sized-encode_lower sum 32 is.0 is.1)

item-summed : (t : Trusted) (sum : List ℕ) → Fine t → IsSum sum → item_of (summed_item t.uri sum) ≡ record t { sum = Some sum }
unfolding item_of
item-summed t sum fine is = λ i. record { uri = t.uri; name = sym fine.1 i; sum = decoded sum is i }

two_none : (a b : Option ManifestFault) → a ≡ None → b ≡ None → option_or a (option_or b None) ≡ None
two_none a b p q = rw (p, q) refl

own-summed : (place : List ℕ) (t : Trusted) (sum : List ℕ) → Fine t → IsSum sum → own_refusal place (summed_item t.uri sum) ≡ None
unfolding own_refusal
own-summed place t sum fine is =
    let sound : sum_refusal t.uri (Some (encode_lower sum)) ≡ None = ap (λ (o : Option (List ℕ)). cond (is_some o) None (Some (faults.BadSum t.uri))) (decoded sum is) in
    two_none (file_refusal t.uri) (sum_refusal t.uri (Some (encode_lower sum))) fine.0 sound

three_none : (a b c : Option ManifestFault) → a ≡ None → b ≡ None → c ≡ None → option_or (option_or a b) c ≡ None
three_none a b c p q r = rw (p, q, r) refl

items-accepted : (before : List Trusted) (place : List ℕ) (i : ℕ) (ts : List Trusted) (sums : List (List ℕ)) → AreFine ts → AreUnique ts → AreApart before ts → AreSums sums → FitSums ts sums → items_refusal before place i (summed_items ts sums) ≡ None
items-accepted before place i [] sums fine unique apart are fit = refl
items-accepted before place i (t ∷ ts) [] fine unique apart are fit = refl
items-accepted before place i (t ∷ ts) (s ∷ sums) fine unique apart are fit =
    let u : Trusted = record t { sum = Some s } in
    let d = summed_item t.uri s in
    let same : item_of d ≡ u = item-summed t s fine.0 are.0 in
    let one : two_sums before (item_of d) ≡ None = ap (two_sums before) same ∙ ap (λ (o : Option (List ℕ)). cond (differ o (Some s)) (Some (faults.TwoSums t.uri)) None) (sum_in-none t.name before apart.0) in
    let rest : items_refusal (before ++ item_of d ∷ []) place (i + 1) (summed_items ts sums) ≡ None =
    ap (λ v. items_refusal (before ++ v ∷ []) place (i + 1) (summed_items ts sums)) same
    ∙ items-accepted (before ++ u ∷ []) place (i + 1) ts sums fine.1 unique.1 (apart-last before u ts apart.1 unique.0) are.1 fit.1 in
    three_none (own_refusal (at_item place i) d) (two_sums before (item_of d)) (items_refusal (before ++ item_of d ∷ []) place (i + 1) (summed_items ts sums)) (own-summed (at_item place i) t s fine.0 are.0) one rest

items-with : (ts : List Trusted) (sums : List (List ℕ)) → AreFine ts → AreSums sums → items_of (summed_items ts sums) ≡ with_sums ts sums
items-with [] sums fine are = refl
items-with (t ∷ ts) [] fine are = refl
items-with (t ∷ ts) (s ∷ sums) fine are = λ i. item-summed t s fine.0 are.0 i ∷ items-with ts sums fine.1 are.1 i

no_place : (name : List ℕ) (es : List Trusted) → has name es ≡ false → place_of name es ≡ None
no_place name [] h = refl
no_place name (e ∷ es) h =
    elim (same_name name e.name) [
      | Yes b s ↦ let z : true ≡ false = rw b at h in cc
      | No b s ↦ let rest : has name es ≡ false = rw b at h in rw b (ap (option_map suc) (no_place name es rest))
    ]

-- entries of which each has a name of its own are their own entries
entries-same : (before us : List Trusted) → entries_of before ≡ before → AreApart before us → AreUnique us → entries_of (before ++ us) ≡ before ++ us
entries-same before [] e apart unique = ap entries_of (append-nil before) ∙ e ∙ sym (append-nil before)
entries-same before (u ∷ us) e apart unique =
    let last : entries_of (before ++ u ∷ []) ≡ before ++ u ∷ [] = sym (added-entries before u) ∙ ap (λ es. added es u) e ∙ (no_entry u before (no_place u.name before apart.0)).1 in
    let assoc : before ++ u ∷ [] ++ us ≡ before ++ (u ∷ us) = append_assoc before (u ∷ []) us in
    sym (ap entries_of assoc) ∙ entries-same (before ++ u ∷ []) us last (apart-last before u us apart.1 unique.0) unique.1 ∙ assoc

no_entries : entries_of [] ≡ []
unfolding entries_of
no_entries = refl

-- the parts of the table

policy-same : (s other : Members) → get_member (codes "file_check_policy") s ≡ get_member (codes "file_check_policy") other → (policy_refusal s ≡ policy_refusal other) × (policy_of s ≡ policy_of other)
unfolding policy_refusal policy_of
policy-same s other e = (
  ap (λ o. first_of (wants as_str (codes "sgx.file_check_policy") o ∷ known_policy (text_or (codes "strict") o) ∷ [])) e,
  ap (λ o. or_else (policy_named (text_or (codes "strict") o)) Strict) e,
)

allowed-same : (s other : Members) → get_member (codes "allowed_files") s ≡ get_member (codes "allowed_files") other → (allowed_refusal s ≡ allowed_refusal other) × (allowed_of s ≡ allowed_of other)
unfolding allowed_refusal allowed_of
allowed-same s other e = (
  ap (λ o. first_of (wants as_array (codes "sgx.allowed_files") o ∷ allowed_items_refusal (codes "sgx.allowed_files") 0 (items_in o) ∷ [])) e,
  ap (λ o. allowed_uris (items_in o)) e,
)

trusted-at : (s : Members) (ds : Items) → get_member (codes "trusted_files") s ≡ Some (array ds) → items_refusal [] (codes "sgx.trusted_files") 0 ds ≡ None → (trusted_refusal s ≡ None) × (trusted_of s ≡ entries_of (items_of ds))
unfolding trusted_refusal trusted_of
trusted-at s ds e none = (
  ap (λ o. first_of (wants as_array (codes "sgx.trusted_files") o ∷ items_refusal [] (codes "sgx.trusted_files") 0 (items_in o) ∷ [])) e ∙ two_none None (items_refusal [] (codes "sgx.trusted_files") 0 ds) refl none,
  ap (λ o. entries_of (items_of (items_in o))) e,
)

fine-trusted : (s : Members) → trusted_refusal s ≡ None → AreFine (trusted_of s)
unfolding trusted_refusal trusted_of
fine-trusted s e =
    let ds = items_in (get_member (codes "trusted_files") s) in
    let (form, e1) = both_none (wants as_array (codes "sgx.trusted_files") (get_member (codes "trusted_files") s)) _ e in
    let (items, e2) = both_none (items_refusal [] (codes "sgx.trusted_files") 0 ds) None e1 in
    fine-entries (items_of ds) (fine-items [] (codes "sgx.trusted_files") 0 ds items)

unique-trusted : (s : Members) → AreUnique (trusted_of s)
unfolding trusted_of
unique-trusted s = unique-entries (items_of (items_in (get_member (codes "trusted_files") s)))

no_trusted : (s : Members) → get_member (codes "trusted_files") s ≡ None → trusted_of s ≡ []
unfolding trusted_of
no_trusted s e = ap (λ o. entries_of (items_of (items_in o))) e ∙ no_entries

sgx_there : (key : List ℕ) (o : Option Data) → IsSome (get_member key (members_in o)) → o ≡ Some (table (members_in o))
sgx_there key None h = absurd (false≢true h)
sgx_there key (Some (string s)) h = absurd (false≢true h)
sgx_there key (Some (integer z)) h = absurd (false≢true h)
sgx_there key (Some (float x)) h = absurd (false≢true h)
sgx_there key (Some (boolean b)) h = absurd (false≢true h)
sgx_there key (Some (datetime t)) h = absurd (false≢true h)
sgx_there key (Some (array ds)) h = absurd (false≢true h)
sgx_there key (Some (table ms)) h = refl

eight_none : (a b c d e f g h : Option ManifestFault) → a ≡ None → b ≡ None → c ≡ None → d ≡ None → e ≡ None → f ≡ None → g ≡ None → h ≡ None → first_of (a ∷ b ∷ c ∷ d ∷ e ∷ f ∷ g ∷ h ∷ []) ≡ None
eight_none a b c d e f g h pa pb pc pd pe pf pg ph = rw (pa, pb, pc, pd, pe, pf, pg, ph) refl

-- the table with another list of trusted files that it accepts
replaced-accepted : (ms s : Members) (sums : List (List ℕ)) → refusal ms ≡ None → get_member (codes "sgx") ms ≡ Some (table s) → IsSome (get_member (codes "trusted_files") s) → FitSums (trusted_of s) sums → AreSums sums → (out : Members)
    → out ≡ replaced (codes "sgx") (table (replaced (codes "trusted_files") (array (summed_items (trusted_of s) sums)) s)) ms → Listed out (Ok (record (lists_of ms) { trusted = with_sums (trusted_of s) sums }))
unfolding refusal
replaced-accepted ms s sums e there some fit are out is =
    let ts = trusted_of s in
    let ds = summed_items ts sums in
    let s' = replaced (codes "trusted_files") (array ds) s in
    let p = passed ms e in
    let at_sgx : get_member (codes "sgx") out ≡ Some (table s') = ap (get_member (codes "sgx")) is ∙ get-own (codes "sgx") (table s') ms (rw there refl) in
    let at_fs : get_member (codes "fs") out ≡ get_member (codes "fs") ms = ap (get_member (codes "fs")) is ∙ get-other (codes "sgx") (codes "fs") (table s') ms refl in
    let sgx_out : sgx out ≡ s' = ap members_in at_sgx in
    let sgx_ms : sgx ms ≡ s = ap members_in there in
    let fs_out : fs out ≡ fs ms = ap members_in at_fs in
    let policy = policy-same s' s (get-other (codes "trusted_files") (codes "file_check_policy") (array ds) s refl) in
    let allowed = allowed-same s' s (get-other (codes "trusted_files") (codes "allowed_files") (array ds) s refl) in
    let fine : AreFine ts = fine-trusted s (ap trusted_refusal (sym sgx_ms) ∙ p.trusted) in
    let unique : AreUnique ts = unique-trusted s in
    let items : items_refusal [] (codes "sgx.trusted_files") 0 ds ≡ None = items-accepted [] (codes "sgx.trusted_files") 0 ts sums fine unique (apart-nil ts) are fit in
    let trusted = trusted-at s' ds (get-own (codes "trusted_files") (array ds) s some) items in
    let us = with_sums ts sums in
    let entries : trusted_of (sgx out) ≡ us = ap trusted_of sgx_out ∙ trusted.1 ∙ ap entries_of (items-with ts sums fine are) ∙ entries-same [] us no_entries (apart-nil us) (unique-with ts sums fit unique) in
    let none : refusal out ≡ None =
    eight_none (walk_table out) (wants as_table (codes "sgx") (get_member (codes "sgx") out)) (wants as_table (codes "fs") (get_member (codes "fs") out)) (policy_refusal (sgx out)) (trusted_refusal (sgx out)) (allowed_refusal (sgx out)) (mounting_refusal (fs out)) (keying_refusal (fs out))
    (ap walk_table is ∙ walked ms s ts sums p.walked there) (ap (wants as_table (codes "sgx")) at_sgx) (ap (wants as_table (codes "fs")) at_fs ∙ p.fs_form) (ap policy_refusal sgx_out ∙ policy.0 ∙ ap policy_refusal (sym sgx_ms) ∙ p.policy) (ap trusted_refusal sgx_out ∙ trusted.0) (ap allowed_refusal sgx_out ∙ allowed.0 ∙ ap allowed_refusal (sym sgx_ms) ∙ p.allowed)
    (ap mounting_refusal fs_out ∙ p.mounting) (ap keying_refusal fs_out ∙ p.keying) in
    let policies : policy_of (sgx ms) ≡ policy_of (sgx out) = ap policy_of sgx_ms ∙ sym policy.1 ∙ ap policy_of (sym sgx_out) in
    let uris : allowed_of (sgx ms) ≡ allowed_of (sgx out) = ap allowed_of sgx_ms ∙ sym allowed.1 ∙ ap allowed_of (sym sgx_out) in
    let mounts : mounting_of (fs ms) ≡ mounting_of (fs out) = ap mounting_of (sym fs_out) in
    let keys : keying_of (fs ms) ≡ keying_of (fs out) = ap keying_of (sym fs_out) in
    Accepted none (same_lists (policy_of (sgx ms)) (policy_of (sgx out)) us (trusted_of (sgx out)) (allowed_of (sgx ms)) (allowed_of (sgx out)) (mounting_of (fs ms)) (mounting_of (fs out)) (keying_of (fs ms)) (keying_of (fs out)) policies (sym entries) uris mounts keys)
  where
    same_lists : (p p' : Policy) (t t' : List Trusted) (a a' : List (List ℕ)) (m m' : List Mount) (k k' : List (List ℕ × List ℕ)) → p ≡ p' → t ≡ t' → a ≡ a' → m ≡ m' → k ≡ k'
        → ◌≡◌ {A = Result Lists ManifestFault} (Ok (record { policy = p; trusted = t; allowed = a; mounts = m; keys = k })) (Ok (record { policy = p'; trusted = t'; allowed = a'; mounts = m'; keys = k' }))
    same_lists p p' t t' a a' m m' k k' ep et ea em ek = λ i. Ok (record { policy = ep i; trusted = et i; allowed = ea i; mounts = em i; keys = ek i })

are_sums : (sums : List (List ℕ)) → All IsSum sums → AreSums sums
are_sums [] h = tt
are_sums (s ∷ sums) h = (h zero s (omega arith), are_sums sums (λ k d l. h (suc k) d (omega (arith, l))))

pub resummed : (ms : Members) (sums : List (List ℕ)) → refusal ms ≡ None → FitSums (trusted_of (sgx ms)) sums → All IsSum sums → Listed (with_trusted (summed_items (trusted_of (sgx ms)) sums) ms) (Ok (record (lists_of ms) { trusted = with_sums (trusted_of (sgx ms)) sums }))
unfolding with_trusted
resummed ms sums e fit all = by_field (get_member (codes "trusted_files") (sgx ms)) refl
  where
    by_field : (o : Option Data) → get_member (codes "trusted_files") (sgx ms) ≡ o
        → Listed (where_there o ms (replaced (codes "sgx") (table (replaced (codes "trusted_files") (array (summed_items (trusted_of (sgx ms)) sums)) (sgx ms))) ms)) (Ok (record (lists_of ms) { trusted = with_sums (trusted_of (sgx ms)) sums }))
    by_field None f =
        let none : trusted_of (sgx ms) ≡ [] = no_trusted (sgx ms) f in
        Accepted e (λ i. Ok (record (lists_of ms) { trusted = (ap (λ ts. with_sums ts sums) none ∙ sym none) i }))
    by_field (Some d) f =
        let some : IsSome (get_member (codes "trusted_files") (sgx ms)) = rw f refl in
        replaced-accepted ms (sgx ms) sums e (sgx_there (codes "trusted_files") (get_member (codes "sgx") ms) some) some fit (are_sums sums all) _ refl

-- of a table with sums nothing is refused; the sums are sums where they are taken into it
pub accepted_summed : (ms : Members) (sums : List (List ℕ)) → refusal ms ≡ None → FitSums (trusted_of (sgx ms)) sums → (IsSome (get_member (codes "trusted_files") (sgx ms)) → All IsSum sums) → refusal (with_trusted (summed_items (trusted_of (sgx ms)) sums) ms) ≡ None
unfolding with_trusted
accepted_summed ms sums e fit all = by_field (get_member (codes "trusted_files") (sgx ms)) refl
  where
    accepted : Listed (with_trusted (summed_items (trusted_of (sgx ms)) sums) ms) (Ok (record (lists_of ms) { trusted = with_sums (trusted_of (sgx ms)) sums })) → refusal (with_trusted (summed_items (trusted_of (sgx ms)) sums) ms) ≡ None
    accepted (Accepted none is) = none
    accepted (Refused fault some is) = absurd (cc)

    by_field : (o : Option Data) → get_member (codes "trusted_files") (sgx ms) ≡ o → refusal (with_trusted (summed_items (trusted_of (sgx ms)) sums) ms) ≡ None
    by_field None f = rw f e
    by_field (Some d) f = accepted (resummed ms sums e fit (all (rw f refl)))
