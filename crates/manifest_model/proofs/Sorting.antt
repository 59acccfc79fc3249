-- The keys of each table that a text gives ascend: tables are built from none, by insertions at the place of a key.
use Rattle.std.proofs.Common.{◌≡◌, ℕ, zero, suc, Ordering, Less, Equal, Greater, nat_cmp, is_lt, Bool, true, false, cond, ◌&&◌, List, [], ◌∷◌, Option, Some, None, option_map, option_and_then, IfSome, length, drop, slice_index, ◌==◌, refl, subst, ◌∙◌}
use Rattle.std.specs.Cmp.Lexicographic.{slice_cmp}
use Rattle.std.specs.Ordering.{match_ordering}
use Rattle.std.proofs.lemmas.Bool.{and_parts}
use Rattle.std.proofs.lemmas.Cmp.{nat_list_cmp_total}
use Rattle.toml_parser.specs.Lexical.{Read, skip_blank, right_bracket, right_brace, left_bracket, left_brace, first, skip_ws}
use Rattle.toml_parser.specs.Strings.{Key, quoted, starts_string, recursion_limit}
use Rattle.toml_parser.specs.Numbers.{unquoted}
use Rattle.toml_parser.specs.declared.scalar.Scalar.{Scalar}
use Rattle.toml_parser.specs.declared.scalar.Scalar.TheVariants.{Boolean, Integer, Float, Datetime}
use Rattle.toml.specs.Data.{Data, table, Items, no_items, item, push_item, Members, no_members, member, same_key, is_before, is_sorted, items_are_sorted, members_are_sorted}
use Rattle.toml.specs.Tables.{Origin, implicit, dotted, header, Node, value, open_table, open_array, Nodes, no_nodes, node, get_node, insert, replace, close_node, close, Edit, header_node, dot_node, by_header, by_dot, along_header, along_dots, Definition, key_value, std_table, array_table, Expression, new_node, redefine, at_found, at_key, put, Document, define}
use Rattle.toml.specs.Parse.{after_element, key_equals, keyval, items, members, scalar_data, atom, val, header_key, expression, ends_line, line, lines, skip_bom, parse_document}
use Rattle.manifest_model.specs.Listed.{IsTextOf}

-- what is computed from an optional value

map_gives : {A B : Type 0} (f : A → B) (P : A → Type 0) (Q : B → Type 0) (o : Option A) → ((x : A) → P x → Q (f x)) → IfSome o P → IfSome (option_map f o) Q
map_gives f P Q None step h = tt
map_gives f P Q (Some x) step h = step x h

then_gives : {A B : Type 0} (f : A → Option B) (P : A → Type 0) (Q : B → Type 0) (o : Option A) → ((x : A) → P x → IfSome (f x) Q) → IfSome o P → IfSome (option_and_then f o) Q
then_gives f P Q None step h = tt
then_gives f P Q (Some x) step h = step x h

map_always : {A B : Type 0} (f : A → B) (Q : B → Type 0) (o : Option A) → ((x : A) → Q (f x)) → IfSome (option_map f o) Q
map_always f Q None holds = tt
map_always f Q (Some x) holds = holds x

then_always : {A B : Type 0} (f : A → Option B) (Q : B → Type 0) (o : Option A) → ((x : A) → IfSome (f x) Q) → IfSome (option_and_then f o) Q
then_always f Q None holds = tt
then_always f Q (Some x) holds = holds x

either_gives : {A : Type 0} (b : Bool) (P : A → Type 0) (x y : Option A) → IfSome x P → IfSome y P → IfSome (cond b x y) P
either_gives true P x y h k = h
either_gives false P x y h k = k

-- a first member

record IsFront (k : List ℕ) (d : Data) (ms : Members) : Type 0 where
  pub before : is_before k ms ≡ true
  pub here : is_sorted d ≡ true
  pub more : members_are_sorted ms ≡ true

front_of : (k : List ℕ) (d : Data) (ms : Members) → members_are_sorted (member k d ms) ≡ true → IsFront k d ms
front_of k d ms sorted =
    let (front, more) = and_parts (is_before k ms && is_sorted d) (members_are_sorted ms) sorted in
    let (before, here) = and_parts (is_before k ms) (is_sorted d) front in
    record { before = before; here = here; more = more }

sorted_from : (k : List ℕ) (d : Data) (ms : Members) → is_before k ms ≡ true → is_sorted d ≡ true → members_are_sorted ms ≡ true → members_are_sorted (member k d ms) ≡ true
sorted_from k d ms before here more = rw (before, here, more) refl

-- the last of some items

pushed : (ds : Items) (d : Data) → items_are_sorted ds ≡ true → is_sorted d ≡ true → items_are_sorted (push_item ds d) ≡ true
pushed no_items d s h = rw h refl
pushed (item e ds) d s h = let (here, more) = and_parts (is_sorted e) (items_are_sorted ds) s in rw (here, pushed ds d more h) refl

unpushed : (ds : Items) (d : Data) → items_are_sorted (push_item ds d) ≡ true → (items_are_sorted ds ≡ true) × (is_sorted d ≡ true)
unpushed no_items d s = (refl, (and_parts (is_sorted d) true s).0)
unpushed (item e ds) d s =
    let (here, more) = and_parts (is_sorted e) (items_are_sorted (push_item ds d)) s in
    let (rest, last) = unpushed ds d more in
    (rw (here, rest) refl, last)

-- nodes, and what a key of them holds

abbrev IsSortedNode : Node → Type 0
IsSortedNode x = is_sorted (close_node x) ≡ true

abbrev AreSorted : Nodes → Type 0
AreSorted ns = members_are_sorted (close ns) ≡ true

found_sorted : (k : List ℕ) (ns : Nodes) → AreSorted ns → IfSome (get_node k ns) IsSortedNode
found_sorted k no_nodes s = tt
found_sorted k (node l x ns) s =
    let f = front_of l (close_node x) (close ns) s in
    either_gives (same_key k l) IsSortedNode (Some x) (get_node k ns) f.here (found_sorted k ns f.more)

-- an insertion

insert_before-step : (o : Ordering) (j k l : List ℕ) (x y : Node) (ns rest : Nodes) → is_lt (slice_cmp nat_cmp j k) ≡ true → is_lt (slice_cmp nat_cmp j l) ≡ true
    → is_before j (close (match_ordering o (node k x (node l y ns)) (node l x ns) (node l y rest))) ≡ true
insert_before-step Less j k l x y ns rest new old = new
insert_before-step Equal j k l x y ns rest new old = old
insert_before-step Greater j k l x y ns rest new old = old

insert_before : (j k : List ℕ) (x : Node) (ns : Nodes) → is_lt (slice_cmp nat_cmp j k) ≡ true → is_before j (close ns) ≡ true → is_before j (close (insert k x ns)) ≡ true
insert_before j k x no_nodes new old = new
insert_before j k x (node l y ns) new old = insert_before-step (slice_cmp nat_cmp k l) j k l x y ns (insert k x ns) new old

is_after : (k l : List ℕ) → slice_cmp nat_cmp k l ≡ Greater → is_lt (slice_cmp nat_cmp l k) ≡ true
is_after k l e = rw (nat_list_cmp_total.antisymm l k, e) refl

insert_sorted : (k : List ℕ) (x : Node) (ns : Nodes) → IsSortedNode x → AreSorted ns → AreSorted (insert k x ns)
insert_sorted k x no_nodes h s = rw h refl
insert_sorted k x (node l y ns) h s = by_order (slice_cmp nat_cmp k l) refl (front_of l (close_node y) (close ns) s) (insert_sorted k x ns h)
  where
    by_order : (o : Ordering) → slice_cmp nat_cmp k l ≡ o → IsFront l (close_node y) (close ns) → (AreSorted ns → AreSorted (insert k x ns))
        → AreSorted (match_ordering o (node k x (node l y ns)) (node l x ns) (node l y (insert k x ns)))
    by_order Less e f rest = sorted_from k (close_node x) (close (node l y ns)) (rw e refl) h s
    by_order Equal e f rest = sorted_from l (close_node x) (close ns) f.before h f.more
    by_order Greater e f rest = sorted_from l (close_node y) (close (insert k x ns)) (insert_before l k x ns (is_after k l e) f.before) f.here (rest f.more)

-- a replacement

replace_before : (j k : List ℕ) (x : Node) (ns : Nodes) → is_before j (close (replace k x ns)) ≡ is_before j (close ns)
replace_before j k x no_nodes = refl
replace_before j k x (node l y ns) = by_same (same_key k l)
  where
    by_same : (b : Bool) → is_before j (close (cond b (node l x ns) (node l y (replace k x ns)))) ≡ is_lt (slice_cmp nat_cmp j l)
    by_same true = refl
    by_same false = refl

replace_sorted : (k : List ℕ) (x : Node) (ns : Nodes) → IsSortedNode x → AreSorted ns → AreSorted (replace k x ns)
replace_sorted k x no_nodes h s = s
replace_sorted k x (node l y ns) h s = by_same (same_key k l) (front_of l (close_node y) (close ns) s) (replace_sorted k x ns h)
  where
    by_same : (b : Bool) → IsFront l (close_node y) (close ns) → (AreSorted ns → AreSorted (replace k x ns)) → AreSorted (cond b (node l x ns) (node l y (replace k x ns)))
    by_same true f rest = sorted_from l (close_node x) (close ns) f.before h f.more
    by_same false f rest = sorted_from l (close_node y) (close (replace k x ns)) (replace_before l k x ns ∙ f.before) f.here (rest f.more)

-- edits

abbrev KeepsSorted : Edit → Type 0
KeepsSorted edit = (ns : Nodes) → AreSorted ns → IfSome (edit ns) AreSorted

array_sorted : (edit : Edit) → KeepsSorted edit → (done : Items) (last : Nodes) → IsSortedNode (open_array done last) → IfSome (option_map (open_array done) (edit last)) IsSortedNode
array_sorted edit keeps done last h =
    let (before, here) = unpushed done (table (close last)) h in
    map_gives (open_array done) AreSorted IsSortedNode (edit last) (λ new s. pushed done (table (close new)) before s) (keeps last here)

table_sorted : (edit : Edit) → KeepsSorted edit → (origin : Origin) (inner : Nodes) → AreSorted inner → IfSome (option_map (open_table origin) (edit inner)) IsSortedNode
table_sorted edit keeps origin inner s = map_gives (open_table origin) AreSorted IsSortedNode (edit inner) (λ new h. h) (keeps inner s)

header_sorted : (edit : Edit) → KeepsSorted edit → (x : Node) → IsSortedNode x → IfSome (header_node edit x) IsSortedNode
header_sorted edit keeps (value d) h = tt
header_sorted edit keeps (open_table origin inner) h = table_sorted edit keeps origin inner h
header_sorted edit keeps (open_array done last) h = array_sorted edit keeps done last h

dot_sorted : (edit : Edit) → KeepsSorted edit → (x : Node) → IsSortedNode x → IfSome (dot_node edit x) IsSortedNode
dot_sorted edit keeps (value d) h = tt
dot_sorted edit keeps (open_table header inner) h = tt
dot_sorted edit keeps (open_table implicit inner) h = table_sorted edit keeps dotted inner h
dot_sorted edit keeps (open_table dotted inner) h = table_sorted edit keeps dotted inner h
dot_sorted edit keeps (open_array done last) h = tt

replaced_sorted : (k : List ℕ) (ns : Nodes) (o : Option Node) → AreSorted ns → IfSome o IsSortedNode → IfSome (option_map (λ new. replace k new ns) o) AreSorted
replaced_sorted k ns o s h = map_gives (λ new. replace k new ns) IsSortedNode AreSorted o (λ x here. replace_sorted k x ns here s) h

inserted_sorted : (edit : Edit) → KeepsSorted edit → (k : List ℕ) (origin : Origin) (ns : Nodes) → AreSorted ns → IfSome (option_map (λ new. insert k (open_table origin new) ns) (edit no_nodes)) AreSorted
inserted_sorted edit keeps k origin ns s = map_gives (λ new. insert k (open_table origin new) ns) AreSorted AreSorted (edit no_nodes) (λ new here. insert_sorted k (open_table origin new) ns here s) (keeps no_nodes refl)

by_header_sorted : (k : List ℕ) (edit : Edit) → KeepsSorted edit → (ns : Nodes) (o : Option Node) → AreSorted ns → IfSome o IsSortedNode → IfSome (by_header k edit ns o) AreSorted
by_header_sorted k edit keeps ns None s h = inserted_sorted edit keeps k implicit ns s
by_header_sorted k edit keeps ns (Some x) s h = replaced_sorted k ns (header_node edit x) s (header_sorted edit keeps x h)

by_dot_sorted : (k : List ℕ) (edit : Edit) → KeepsSorted edit → (ns : Nodes) (o : Option Node) → AreSorted ns → IfSome o IsSortedNode → IfSome (by_dot k edit ns o) AreSorted
by_dot_sorted k edit keeps ns None s h = inserted_sorted edit keeps k dotted ns s
by_dot_sorted k edit keeps ns (Some x) s h = replaced_sorted k ns (dot_node edit x) s (dot_sorted edit keeps x h)

along_header_keeps : (path : List (List ℕ)) (edit : Edit) → KeepsSorted edit → KeepsSorted (along_header path edit)
unfolding along_header
along_header_keeps [] edit keeps ns s = keeps ns s
along_header_keeps (k ∷ path) edit keeps ns s = by_header_sorted k (along_header path edit) (along_header_keeps path edit keeps) ns (get_node k ns) s (found_sorted k ns s)

along_dots_keeps : (path : List (List ℕ)) (edit : Edit) → KeepsSorted edit → KeepsSorted (along_dots path edit)
unfolding along_dots
along_dots_keeps [] edit keeps ns s = keeps ns s
along_dots_keeps (k ∷ path) edit keeps ns s = by_dot_sorted k (along_dots path edit) (along_dots_keeps path edit keeps) ns (get_node k ns) s (found_sorted k ns s)

-- definitions

redefine_sorted : (what : Definition) (x : Node) → IsSortedNode x → IfSome (redefine what x) IsSortedNode
redefine_sorted (key_value d) x h = tt
redefine_sorted std_table (value d) h = tt
redefine_sorted std_table (open_table implicit inner) h = h
redefine_sorted std_table (open_table dotted inner) h = tt
redefine_sorted std_table (open_table header inner) h = tt
redefine_sorted std_table (open_array done last) h = tt
redefine_sorted array_table (value d) h = tt
redefine_sorted array_table (open_table origin inner) h = tt
redefine_sorted array_table (open_array done last) h = pushed (push_item done (table (close last))) (table no_members) h refl

at_found_sorted : (k : List ℕ) (what : Definition) → IsSortedNode (new_node what) → (ns : Nodes) (o : Option Node) → AreSorted ns → IfSome o IsSortedNode → IfSome (at_found k what ns o) AreSorted
at_found_sorted k what new ns None s h = insert_sorted k (new_node what) ns new s
at_found_sorted k what new ns (Some x) s h = replaced_sorted k ns (redefine what x) s (redefine_sorted what x h)

at_key_keeps : (k : List ℕ) (what : Definition) → IsSortedNode (new_node what) → KeepsSorted (at_key k what)
unfolding at_key
at_key_keeps k what new ns s = at_found_sorted k what new ns (get_node k ns) s (found_sorted k ns s)

put_keeps : (k : Key) (d : Data) → is_sorted d ≡ true → KeepsSorted (put k d)
put_keeps k d h = along_dots_keeps k.0 (at_key k.1 (key_value d)) (at_key_keeps k.1 (key_value d) h)

abbrev IsSortedDocument : Document → Type 0
IsSortedDocument doc = AreSorted doc.0

define_sorted : (doc : Document) (e : Expression) → IsSortedDocument doc → IsSortedNode (new_node e.1) → IfSome (define doc e) IsSortedDocument
unfolding define
define_sorted doc (k, key_value d) s new = map_gives _ AreSorted IsSortedDocument _ (λ root h. h) (along_header_keeps doc.1 (put k d) (put_keeps k d new) doc.0 s)
define_sorted doc (k, std_table) s new = map_gives _ AreSorted IsSortedDocument _ (λ root h. h) (along_header_keeps k.0 (at_key k.1 std_table) (at_key_keeps k.1 std_table new) doc.0 s)
define_sorted doc (k, array_table) s new = map_gives _ AreSorted IsSortedDocument _ (λ root h. h) (along_header_keeps k.0 (at_key k.1 array_table) (at_key_keeps k.1 array_table new) doc.0 s)

-- values

abbrev IsSortedData : Data × List ℕ → Type 0
IsSortedData read = is_sorted read.0 ≡ true

abbrev GivesSorted : (List ℕ → Read Data) → Type 0
GivesSorted val = (text : List ℕ) → IfSome (val text) IsSortedData

abbrev IsSortedPair : (Key × Data) × List ℕ → Type 0
IsSortedPair read = is_sorted read.0.1 ≡ true

abbrev AreSortedItems : Items × List ℕ → Type 0
AreSortedItems read = items_are_sorted read.0 ≡ true

abbrev AreSortedMembers : Members × List ℕ → Type 0
AreSortedMembers read = members_are_sorted read.0 ≡ true

module _ (val : List ℕ → Read Data) (gives : GivesSorted val) where
  keyval_sorted : (text : List ℕ) → IfSome (keyval val text) IsSortedPair
  keyval_sorted text = then_always _ IsSortedPair (key_equals text) (λ k. map_gives _ IsSortedData IsSortedPair (val k.1) (λ v s. s) (gives k.1))

  items_sorted : (n : ℕ) (found : Items) (text : List ℕ) → items_are_sorted found ≡ true → IfSome (items val n found text) AreSortedItems
  unfolding items
  items_sorted zero found text s = tt
  items_sorted (suc n) found text s =
      let start = skip_blank text in
      let more : (v : Data × List ℕ) → IsSortedData v → IfSome (option_and_then (items val n (push_item found v.0)) (after_element right_bracket v.1)) AreSortedItems =
      λ v h. then_always _ AreSortedItems (after_element right_bracket v.1) (λ rest. items_sorted n (push_item found v.0) rest (pushed found v.0 s h)) in
      either_gives (first start == right_bracket) AreSortedItems (Some (found, drop 1 start)) _ s (then_gives _ IsSortedData AreSortedItems (val start) more (gives start))

  members_sorted : (n : ℕ) (found : Nodes) (text : List ℕ) → AreSorted found → IfSome (members val n found text) AreSortedMembers
  unfolding members
  members_sorted zero found text s = tt
  members_sorted (suc n) found text s =
      let start = skip_blank text in
      let rest_of : (next : List ℕ) (more : Nodes) → AreSorted more → IfSome (option_and_then (members val n more) (after_element right_brace next)) AreSortedMembers =
      λ next more h. then_always _ AreSortedMembers (after_element right_brace next) (λ rest. members_sorted n more rest h) in
      let more : (e : (Key × Data) × List ℕ) → IsSortedPair e → IfSome (option_and_then (λ more. option_and_then (members val n more) (after_element right_brace e.1)) (put e.0.0 e.0.1 found)) AreSortedMembers =
      λ e h. then_gives _ AreSorted AreSortedMembers (put e.0.0 e.0.1 found) (rest_of e.1) (put_keeps e.0.0 e.0.1 h found s) in
      either_gives (first start == right_brace) AreSortedMembers (Some (close found, drop 1 start)) _ s (then_gives _ IsSortedPair AreSortedMembers (keyval val start) more (keyval_sorted start))

scalar_sorted : (x : Scalar) → is_sorted (scalar_data x) ≡ true
scalar_sorted (Boolean b) = refl
scalar_sorted (Integer z) = refl
scalar_sorted (Float x) = refl
scalar_sorted (Datetime dt) = refl

atom_sorted : GivesSorted atom
unfolding atom
atom_sorted text =
    either_gives (starts_string text) IsSortedData _ _
    (map_always _ IsSortedData (quoted text) (λ s. refl))
    (map_always _ IsSortedData (unquoted text) (λ s. scalar_sorted s.0))

val_sorted : (depth : ℕ) → GivesSorted (val depth)
unfolding val
val_sorted zero text = atom_sorted text
val_sorted (suc depth) text =
    let rest = drop 1 text in
    let listed = items_sorted (val depth) (val_sorted depth) (length text) no_items rest refl in
    let tabled = members_sorted (val depth) (val_sorted depth) (length text) no_nodes rest refl in
    either_gives (first text == left_bracket) IsSortedData _ _ (map_gives _ AreSortedItems IsSortedData _ (λ r s. s) listed)
    (either_gives (first text == left_brace) IsSortedData _ _ (map_gives _ AreSortedMembers IsSortedData _ (λ r s. s) tabled) (atom_sorted text))

-- documents

abbrev Defines : Expression × List ℕ → Type 0
Defines e = IsSortedNode (new_node e.0.1)

expression_sorted : (text : List ℕ) → IfSome (expression text) Defines
unfolding expression
expression_sorted text =
    either_gives (first text == left_bracket && slice_index text 1 == left_bracket) Defines _ _
    (then_always _ Defines (header_key (drop 2 text)) (λ k. map_always _ Defines _ (λ rest. refl)))
    (either_gives (first text == left_bracket) Defines _ _
    (map_always _ Defines (header_key (drop 1 text)) (λ k. refl))
    (map_gives _ IsSortedPair Defines _ (λ p s. s) (keyval_sorted (val recursion_limit) (val_sorted recursion_limit) text)))

line_sorted : (text : List ℕ) → IfSome (line text) Defines
unfolding line
line_sorted text = then_gives _ Defines Defines (expression text) (λ e h. either_gives (ends_line (skip_ws e.1)) Defines (Some e) None h tt) (expression_sorted text)

lines_sorted : (n : ℕ) (doc : Document) (text : List ℕ) → IsSortedDocument doc → IfSome (lines n doc text) IsSortedDocument
unfolding lines
lines_sorted zero doc text s = tt
lines_sorted (suc n) doc text s =
    let start = skip_blank text in
    let more : (e : Expression × List ℕ) → Defines e → IfSome (option_and_then (λ next. lines n next e.1) (define doc e.0)) IsSortedDocument =
    λ e h. then_gives _ IsSortedDocument IsSortedDocument (define doc e.0) (λ next. lines_sorted n next e.1) (define_sorted doc e.0 s h) in
    either_gives (length start == 0) IsSortedDocument (Some doc) _ s (then_gives _ Defines IsSortedDocument (line start) more (line_sorted start))

document_sorted : (text : List ℕ) → IfSome (parse_document text) (λ ms. members_are_sorted ms ≡ true)
unfolding parse_document
document_sorted text =
    let n = suc (length text) in
    map_gives _ IsSortedDocument (λ ms. members_are_sorted ms ≡ true) (lines n (no_nodes, []) (skip_bom text)) (λ doc s. s) (lines_sorted n (no_nodes, []) (skip_bom text) refl)

pub text_sorted : (bytes : List ℕ) (ms : Members) → IsTextOf bytes ms → members_are_sorted ms ≡ true
text_sorted bytes ms text = subst (λ o. IfSome o (λ ms. members_are_sorted ms ≡ true)) text.toml (document_sorted bytes)
