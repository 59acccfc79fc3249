-- Lists of items, one item after another.
use Rattle.std.proofs.Common.{◌≡◌, ◌∙◌, ℕ, ◌+◌, ◌<◌, List, [], ◌∷◌, ◌++◌, append_assoc, codes, decimal, length, get_or, take, drop, Option, Some, None, Bor, refl, sym, ap, rules}
use Rattle.std.specs.Option.{option_or}
use Rattle.std.proofs.lemmas.List.{take_more}
use Rattle.toml.specs.Data.{Data, item}
use Rattle.toml.specs.View.{view, items_view}
use Rattle.toml.specs.declared.value.Value.{Value}
use Rattle.toml.proofs.Views.{items_view-drop}
use Rattle.manifest_model.specs.declared.entries.Trusted.{Trusted}
use Rattle.manifest_model.specs.declared.places.Place.{Place, Path, Key, Item, the_lemmas}
use Rattle.manifest_model.specs.declared.fault.ManifestFault.{ManifestFault}
use Rattle.manifest_model.specs.Places.{place_text, at_key, at_item}
use Rattle.manifest_model.specs.Fields.{seen_value}
use Rattle.manifest_model.specs.Trusting.{item_of, items_of, items_refusal, item_refusal, own_refusal, sum_in, two_sums, entries_of}
use Rattle.manifest_model.specs.Indexing.{clash, entry_sum}
use Rattle.manifest_model.proofs.Checking.{first}
use Rattle.manifest_model.proofs.Entered.{entry_sum-entries}
use Rattle.manifest_model.specs.Mounting.{mount_of, mounts_of, mounts_refusal, mount_refusal}
use Rattle.manifest_model.specs.Listed.{allowed_uri, allowed_uris, allowed_items_refusal, allowed_item_refusal}

pub place_text-Path : (keys : Bor (List ℕ)) → place_text (Path keys) ≡ keys.now
place_text-Path keys = search (rules, the_lemmas)

pub place_text-Key : (outer : Bor Place) (key : Bor (List ℕ)) → place_text (Key outer key) ≡ at_key (place_text outer.now) key.now
place_text-Key outer key = search (rules, the_lemmas)

pub place_text-Item : (outer : Bor Place) (k : ℕ) → place_text (Item outer k) ≡ at_item (place_text outer.now) k
place_text-Item outer k = search (rules, the_lemmas)

-- the text of a place, piece by piece
pub key_text : (place : Place) (outer : Bor Place) (key : Bor (List ℕ)) (start dotted whole : List ℕ) → place ≡ Key outer key → start ≡ place_text outer.now → dotted ≡ start ++ codes "." → whole ≡ dotted ++ key.now → whole ≡ place_text place
key_text place outer key start dotted whole is begun dot end = rw (end, dot, begun) (append_assoc (place_text outer.now) (codes ".") key.now ∙ sym (ap place_text is ∙ place_text-Key outer key))

pub item_text : (place : Place) (outer : Bor Place) (k : ℕ) (start number opened counted whole : List ℕ) → place ≡ Item outer k → start ≡ place_text outer.now → number ≡ decimal k → opened ≡ start ++ codes "[" → counted ≡ opened ++ number → whole ≡ counted ++ codes "]"
    → whole ≡ place_text place
item_text place outer k start number opened counted whole is begun digits bracket count end =
    rw (end, count, bracket, digits, begun) (append_assoc (place_text outer.now ++ codes "[") (decimal k) (codes "]") ∙ append_assoc (place_text outer.now) (codes "[") (decimal k ++ codes "]") ∙ sym (ap place_text is ∙ place_text-Item outer k))

-- a check of a field, at a path of keys and at a key
pub at_path : (check : List ℕ → Option Data → Option ManifestFault) (keys : Bor (List ℕ)) (seen : Option (Bor Value)) (field : Option Data) (o : Option ManifestFault) → seen_value seen ≡ field
    → check (place_text (Path keys)) (seen_value seen) ≡ o → check keys.now field ≡ o
at_path check keys seen field o is e = ap (check keys.now) (sym is) ∙ ap (λ p. check p (seen_value seen)) (sym (place_text-Path keys)) ∙ e

pub at_field : (check : List ℕ → Option Data → Option ManifestFault) (outer : Bor Place) (key : Bor (List ℕ)) (seen : Option (Bor Value)) (field : Option Data) (o : Option ManifestFault) → seen_value seen ≡ field
    → check (place_text (Key outer key)) (seen_value seen) ≡ o → check (at_key (place_text outer.now) key.now) field ≡ o
at_field check outer key seen field o is e = ap (check (at_key (place_text outer.now) key.now)) (sym is) ∙ ap (λ p. check p (seen_value seen)) (sym (place_text-Key outer key)) ∙ e

-- an item at a place, and the items behind it
pub items_at : (vs : List Value) (k : ℕ) (v : Value) → k < length vs → v ≡ get_or vs k v → items_view (drop k vs) ≡ item (view v) (items_view (drop (k + 1) vs))
items_at vs k v l is = items_view-drop vs k v l ∙ ap (λ w. item (view w) (items_view (drop (k + 1) vs))) (sym is)

pub taken_at : (vs : List Value) (k : ℕ) (v : Value) → k < length vs → v ≡ get_or vs k v → take (k + 1) vs ≡ take k vs ++ v ∷ []
taken_at vs k v l is = take_more vs k v l ∙ ap (λ w. take k vs ++ w ∷ []) (sym is)

allowed_last : (vs : List Value) (v : Value) → allowed_uris (items_view (vs ++ v ∷ [])) ≡ allowed_uris (items_view vs) ++ allowed_uri (view v) ∷ []
allowed_last [] v = refl
allowed_last (w ∷ vs) v = ap (λ us. allowed_uri (view w) ∷ us) (allowed_last vs v)

pub allowed_more : (vs : List Value) (k : ℕ) (v : Value) → k < length vs → v ≡ get_or vs k v → allowed_uris (items_view (take (k + 1) vs)) ≡ allowed_uris (items_view (take k vs)) ++ allowed_uri (view v) ∷ []
allowed_more vs k v l is = ap (λ ws. allowed_uris (items_view ws)) (taken_at vs k v l is) ∙ allowed_last (take k vs) v

pub allowed_next : (place : List ℕ) (vs : List Value) (k : ℕ) (v : Value) → k < length vs → v ≡ get_or vs k v → allowed_item_refusal (at_item place k) (view v) ≡ None
    → allowed_items_refusal place k (items_view (drop k vs)) ≡ allowed_items_refusal place (k + 1) (items_view (drop (k + 1) vs))
allowed_next place vs k v l is none = rw (items_at vs k v l is, none) refl

pub allowed_stops_at : (place : List ℕ) (vs : List Value) (k : ℕ) (v : Value) (fault : ManifestFault) → k < length vs → v ≡ get_or vs k v → allowed_item_refusal (at_item place k) (view v) ≡ Some fault → allowed_items_refusal place k (items_view (drop k vs)) ≡ Some fault
allowed_stops_at place vs k v fault l is refused = ap (allowed_items_refusal place k) (items_at vs k v l is) ∙ first _ _ fault refused

mounts_last : (vs : List Value) (v : Value) → mounts_of (items_view (vs ++ v ∷ [])) ≡ mounts_of (items_view vs) ++ mount_of (view v) ∷ []
mounts_last [] v = refl
mounts_last (w ∷ vs) v = ap (λ ms. mount_of (view w) ∷ ms) (mounts_last vs v)

pub mounts_more : (vs : List Value) (k : ℕ) (v : Value) → k < length vs → v ≡ get_or vs k v → mounts_of (items_view (take (k + 1) vs)) ≡ mounts_of (items_view (take k vs)) ++ mount_of (view v) ∷ []
mounts_more vs k v l is = ap (λ ws. mounts_of (items_view ws)) (taken_at vs k v l is) ∙ mounts_last (take k vs) v

pub mounts_next : (place : List ℕ) (vs : List Value) (k : ℕ) (v : Value) → k < length vs → v ≡ get_or vs k v → mount_refusal (at_item place k) (view v) ≡ None
    → mounts_refusal place k (items_view (drop k vs)) ≡ mounts_refusal place (k + 1) (items_view (drop (k + 1) vs))
mounts_next place vs k v l is none = rw (items_at vs k v l is, none) refl

pub mounts_stop_at : (place : List ℕ) (vs : List Value) (k : ℕ) (v : Value) (fault : ManifestFault) → k < length vs → v ≡ get_or vs k v → mount_refusal (at_item place k) (view v) ≡ Some fault → mounts_refusal place k (items_view (drop k vs)) ≡ Some fault
mounts_stop_at place vs k v fault l is refused = ap (mounts_refusal place k) (items_at vs k v l is) ∙ first _ _ fault refused

items_last : (vs : List Value) (v : Value) → items_of (items_view (vs ++ v ∷ [])) ≡ items_of (items_view vs) ++ item_of (view v) ∷ []
items_last [] v = refl
items_last (w ∷ vs) v = ap (λ ts. item_of (view w) ∷ ts) (items_last vs v)

pub items_more : (vs : List Value) (k : ℕ) (v : Value) → k < length vs → v ≡ get_or vs k v → items_of (items_view (take (k + 1) vs)) ≡ items_of (items_view (take k vs)) ++ item_of (view v) ∷ []
items_more vs k v l is = ap (λ ws. items_of (items_view ws)) (taken_at vs k v l is) ∙ items_last (take k vs) v

pub items_next : (before : List Trusted) (place : List ℕ) (vs : List Value) (k : ℕ) (v : Value) → k < length vs → v ≡ get_or vs k v
    → items_refusal before place k (items_view (drop k vs)) ≡ option_or (item_refusal before (at_item place k) (view v)) (items_refusal (before ++ item_of (view v) ∷ []) place (k + 1) (items_view (drop (k + 1) vs)))
items_next before place vs k v l is = ap (items_refusal before place k) (items_at vs k v l is)

-- the item at a place is refused by itself
pub own_refused : (before : List Trusted) (place : List ℕ) (vs : List Value) (k : ℕ) (v : Value) (fault : ManifestFault) → k < length vs → v ≡ get_or vs k v → own_refusal (at_item place k) (view v) ≡ Some fault
    → items_refusal before place k (items_view (drop k vs)) ≡ Some fault
own_refused before place vs k v fault l is refused = items_next before place vs k v l is ∙ rw refused refl

-- it has another sum than an item before it
pub sum_refused : (before : List Trusted) (place : List ℕ) (vs : List Value) (k : ℕ) (v : Value) (t : Trusted) (es : List Trusted) (fault : ManifestFault) → k < length vs → v ≡ get_or vs k v → own_refusal (at_item place k) (view v) ≡ None
    → t ≡ item_of (view v) → es ≡ entries_of before → clash (entry_sum t.name es) t ≡ Some fault → items_refusal before place k (items_view (drop k vs)) ≡ Some fault
sum_refused before place vs k v t es fault l is none read entries refused =
    let sums : entry_sum (item_of (view v)).name es ≡ sum_in (item_of (view v)).name before = ap (entry_sum (item_of (view v)).name) entries ∙ entry_sum-entries (item_of (view v)).name before in
    let two : two_sums before (item_of (view v)) ≡ Some fault = sym (ap (λ s. clash s (item_of (view v))) sums) ∙ (rw read at refused) in
    items_next before place vs k v l is ∙ rw (none, two) refl

-- it is an entry, or joins one
pub items_step : (before : List Trusted) (place : List ℕ) (vs : List Value) (k : ℕ) (v : Value) (t : Trusted) (es : List Trusted) → k < length vs → v ≡ get_or vs k v → own_refusal (at_item place k) (view v) ≡ None
    → t ≡ item_of (view v) → es ≡ entries_of before → clash (entry_sum t.name es) t ≡ None → items_refusal before place k (items_view (drop k vs)) ≡ items_refusal (before ++ item_of (view v) ∷ []) place (k + 1) (items_view (drop (k + 1) vs))
items_step before place vs k v t es l is none read entries one =
    let sums : entry_sum (item_of (view v)).name es ≡ sum_in (item_of (view v)).name before = ap (entry_sum (item_of (view v)).name) entries ∙ entry_sum-entries (item_of (view v)).name before in
    let two : two_sums before (item_of (view v)) ≡ None = sym (ap (λ s. clash s (item_of (view v))) sums) ∙ (rw read at one) in
    items_next before place vs k v l is ∙ rw (none, two) refl
