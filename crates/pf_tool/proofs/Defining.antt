-- Pairs of a name and its value in words.
use Rattle.std.proofs.Common.{◌≡◌, ◌≢◌, inl, inr, ℕ, suc, ◌+◌, ◌-◌, ◌==◌, ◌<◌, ◌≤◌, Bool, true, false, List, [], ◌∷◌, ◌++◌, length, take, drop, codes, bytes_eq, eqb-true, refl, subst, ap, ap₂, ◌∙◌, sym, arith, length-append}
use Rattle.std.specs.Prelude.{string_bytes, String, Option, Some, None, MatchOption, if◌then◌else◌}
use Rattle.std.specs.List.{AllByRecursion, list_all, join_with_byte, before_first, after_first, position_or_len}
use Rattle.std.proofs.lemmas.Bool.{cases_Bool, and_parts}
use Rattle.std.proofs.lemmas.List.{length-map, take-map}
use Rattle.std.proofs.Math.Seq.{take-append_seam}
use Rattle.template_text.specs.Names.{POINT, is_first, is_further, is_name_part, IsJoined, IsValueName}
use Rattle.template_text.specs.Rendering.{Values}
use Rattle.std.specs.declared.alloc.Global.{Global}
use Rattle.std.proofs.lemmas.Slice.Eq.{bytes_eq-Decides}
use denote.Ref.{Bor}
use Rattle.pf_io.specs.Disk.{Name}
use Rattle.pf_tool.specs.Texts.{texts}
use Rattle.pf_tool.specs.Requests.{IsOperand, operands, AreOperands, AsksManifest}
use Rattle.pf_tool.specs.Defines.{EQUALS, spelled, DefinesFirst, in_two_words, in_one_word, DefinesNone, Define, pair_of, values_in, values_behind}

-- no `=` stands in a name

abbrev NoEquals : List ℕ → Type 0
NoEquals bytes = AllByRecursion (λ byte. (byte == EQUALS) ≡ false) bytes

further_apart : (byte : ℕ) → is_further byte ≡ true → (byte == EQUALS) ≡ false
further_apart byte further =
    elim (cases_Bool (byte == EQUALS)) [
      | inl is ↦ let same : byte ≡ 61 = eqb-true byte 61 is in let no : is_further 61 ≡ true = subst (λ (b : ℕ). is_further b ≡ true) same further in absurd (cc)
      | inr other ↦ other
    ]

first_further : (byte : ℕ) → is_first byte ≡ true → is_further byte ≡ true
first_further byte first = rw first refl

none_among : (bytes : List ℕ) → list_all is_further bytes ≡ true → NoEquals bytes
none_among [] all = tt
none_among (byte ∷ bytes) all = let parts = and_parts (is_further byte) (list_all is_further bytes) all in (further_apart byte parts.0, none_among bytes parts.1)

none_in_part : (part : List ℕ) → is_name_part part ≡ true → NoEquals part
none_in_part [] is = tt
none_in_part (first ∷ others) is = let parts = and_parts (is_first first) (list_all is_further others) is in (further_apart first (first_further first parts.0), none_among others parts.1)

none_append : (xs ys : List ℕ) → NoEquals xs → NoEquals ys → NoEquals (xs ++ ys)
none_append [] ys first second = second
none_append (x ∷ xs) ys first second = (first.0, none_append xs ys first.1 second)

none_joined : (parts : List (List ℕ)) → list_all is_name_part parts ≡ true → NoEquals (join_with_byte POINT parts)
none_joined [] all = tt
none_joined (x ∷ []) all = none_in_part x (and_parts (is_name_part x) true all).0
none_joined (x ∷ y ∷ xs) all =
    let parts = and_parts (is_name_part x) (list_all is_name_part (y ∷ xs)) all in
    none_append x (POINT ∷ join_with_byte POINT (y ∷ xs)) (none_in_part x parts.0) (refl, none_joined (y ∷ xs) parts.1)

none_of_joined : (name : List ℕ) → IsJoined name → NoEquals name
none_of_joined name joined = subst NoEquals (sym joined.joined) (none_joined joined.parts joined.each)

none_in_name : (name : List ℕ) → IsValueName name → NoEquals name
none_in_name name (inl joined) = none_of_joined name joined
none_in_name name (inr called) = subst NoEquals (sym called.2) (none_append called.0 (codes "()") (none_of_joined called.0 called.1) (refl, (refl, tt)))

-- so the first `=` is the one behind it
pub first_equals : (front rest : List ℕ) → NoEquals front → position_or_len (λ byte. byte == EQUALS) (front ++ EQUALS ∷ rest) ≡ length front
first_equals [] rest none = refl
first_equals (byte ∷ front) rest none = let on = first_equals front rest none.1 in rw none.0 (omega (arith, on))

take_front : (front : List ℕ) (byte : ℕ) (rest : List ℕ) → take (length front) (front ++ byte ∷ rest) ≡ front
take_front [] byte rest = refl
take_front (b ∷ front) byte rest = ap (λ (l : List ℕ). b ∷ l) (take_front front byte rest)

drop_front : (front : List ℕ) (byte : ℕ) (rest : List ℕ) → drop (length front + 1) (front ++ byte ∷ rest) ≡ rest
drop_front [] byte rest = refl
drop_front (b ∷ front) byte rest =
    let more : length (b ∷ front) + 1 ≡ suc (length front + 1) = omega arith in
    ap (λ (n : ℕ). drop n (b ∷ (front ++ byte ∷ rest))) more ∙ drop_front front byte rest

pub named_length : (name value : List ℕ) → IsValueName name → position_or_len (λ byte. byte == EQUALS) (spelled name value) ≡ length name
named_length name value named = first_equals name value (none_in_name name named)

pub name_before : (name value : List ℕ) → IsValueName name → before_first (λ byte. byte == EQUALS) (spelled name value) ≡ name
name_before name value named = ap (λ (n : ℕ). take n (spelled name value)) (named_length name value named) ∙ take_front name EQUALS value

pub value_behind : (name value : List ℕ) → IsValueName name → after_first (λ byte. byte == EQUALS) (spelled name value) ≡ value
value_behind name value named = ap (λ (n : ℕ). drop (n + 1) (spelled name value)) (named_length name value named) ∙ drop_front name EQUALS value

pub pair_of_spelled : (name value : List ℕ) → IsValueName name → pair_of (spelled name value) ≡ (name, value)
pair_of_spelled name value named = ap₂ (λ (n v : List ℕ). (n, v)) (name_before name value named) (value_behind name value named)

-- a text spells one pair
pub spelled_apart : (name value other more : List ℕ) → IsValueName name → IsValueName other → spelled name value ≡ spelled other more → (name ≡ other) × (value ≡ more)
spelled_apart name value other more named named2 same = (
  sym (name_before name value named) ∙ ap (before_first (λ byte. byte == EQUALS)) same ∙ name_before other more named2,
  sym (value_behind name value named) ∙ ap (after_first (λ byte. byte == EQUALS)) same ∙ value_behind other more named2,
)

-- what a split at the first `=` finds
abbrev pub SplitFound : List ℕ → Option (Bor (List ℕ) × Bor (List ℕ)) → Type 0
SplitFound text r = MatchOption r (position_or_len (λ byte. byte == EQUALS) text ≡ length text)
    (λ x. (position_or_len (λ byte. byte == EQUALS) text < length text) × (x.0.now ≡ before_first (λ byte. byte == EQUALS) text) × (x.1.now ≡ after_first (λ byte. byte == EQUALS) text))

pub none_found : (text : List ℕ) (r : Option (Bor (List ℕ) × Bor (List ℕ))) (name value : List ℕ) → SplitFound text r → r ≡ None → IsValueName name → text ≡ spelled name value → ⊥
none_found text None name value found none named is =
    omega (arith, found, ap (λ (l : List ℕ). length l) is, length-append name (EQUALS ∷ value), ap (position_or_len (λ byte. byte == EQUALS)) is, named_length name value named)
none_found text (Some pair) name value found none named is = absurd (cc)

pub name_found : (text : List ℕ) (r : Option (Bor (List ℕ) × Bor (List ℕ))) (pair : Bor (List ℕ) × Bor (List ℕ)) (name value : List ℕ) → SplitFound text r → r ≡ Some pair → IsValueName name → text ≡ spelled name value → pair.0.now ≡ name
name_found text None pair name value found some named is = absurd (cc)
name_found text (Some x) pair name value found some named is =
    let same : x ≡ pair = cc in
    ap (λ (p : Bor (List ℕ) × Bor (List ℕ)). p.0.now) (sym same) ∙ found.1 ∙ ap (before_first (λ byte. byte == EQUALS)) is ∙ name_before name value named

-- lists that begin alike
the_word : (word : List ℕ) (more : List (List ℕ)) (other : List ℕ) (rest : List (List ℕ)) → word ∷ more ≡ other ∷ rest → word ≡ other
the_word word more other rest same = cc

the_rest : (word : List ℕ) (more : List (List ℕ)) (other : List ℕ) (rest : List (List ℕ)) → word ∷ more ≡ other ∷ rest → more ≡ rest
the_rest word more other rest same = cc

-- one pair stands first

one_word_apart : (name value : List ℕ) → codes "-D" ≢ codes "-D" ++ spelled name value
one_word_apart name value same = omega (arith, ap (λ (l : List ℕ). length l) same, length-append (codes "-D") (spelled name value), length-append name (EQUALS ∷ value))

-- the words begin with the same pair
pub record SameFirst (name value other more : List ℕ) (rest behind : List (List ℕ)) : Type 0 where
  pub name_is : name ≡ other
  pub value_is : value ≡ more
  pub rest_is : rest ≡ behind

pub one_first : (words : List (List ℕ)) (name value other more : List ℕ) (rest behind : List (List ℕ)) → DefinesFirst words name value rest → DefinesFirst words other more behind → SameFirst name value other more rest behind
one_first words name value other more rest behind (in_two_words named is) (in_two_words named2 is2) =
    let texts : spelled name value ≡ spelled other more = cc in
    let both = spelled_apart name value other more named named2 texts in
    record { name_is = both.0; value_is = both.1; rest_is = cc }
one_first words name value other more rest behind (in_two_words named is) (in_one_word named2 is2) = absurd (one_word_apart other more (cc))
one_first words name value other more rest behind (in_one_word named is) (in_two_words named2 is2) = absurd (one_word_apart name value (cc))
one_first words name value other more rest behind (in_one_word named is) (in_one_word named2 is2) =
    let words_same : codes "-D" ++ spelled name value ≡ codes "-D" ++ spelled other more = cc in
    let texts : spelled name value ≡ spelled other more = ap (λ (l : List ℕ). drop 2 l) words_same in
    let both = spelled_apart name value other more named named2 texts in
    record { name_is = both.0; value_is = both.1; rest_is = cc }

-- words give one list of pairs, up to where none stands first
pub one_define : (words : List (List ℕ)) (values others : Values) (rest behind : List (List ℕ)) → Define words values rest → DefinesNone rest → Define words others behind → DefinesNone behind → (values ≡ others) × (rest ≡ behind)
one_define words [] [] rest behind first none second none2 = (refl, sym first ∙ second)
one_define words [] (pair ∷ others) rest behind first none second none2 = absurd (none pair.0 pair.1 second.0 (subst (λ (l : List (List ℕ)). DefinesFirst l pair.0 pair.1 second.0) first second.1))
one_define words (pair ∷ values) [] rest behind first none second none2 = absurd (none2 pair.0 pair.1 first.0 (subst (λ (l : List (List ℕ)). DefinesFirst l pair.0 pair.1 first.0) second first.1))
one_define words (pair ∷ values) (other ∷ others) rest behind first none second none2 =
    let same = one_first words pair.0 pair.1 other.0 other.1 first.0 second.0 first.1 second.1 in
    let on = one_define first.0 values others rest behind first.2 none (subst (λ (l : List (List ℕ)). Define l others behind) (sym same.rest_is) second.2) none2 in
    (ap₂ (λ (p : List ℕ × List ℕ) (l : Values). p ∷ l) (ap₂ (λ (n v : List ℕ). (n, v)) same.name_is same.value_is) on.0, on.1)

none_first : DefinesNone []
none_first name value rest (in_two_words named is) = absurd (cc)
none_first name value rest (in_one_word named is) = absurd (cc)

-- behind `-D` the pair is the next word
none_in_next : (words behind : List (List ℕ)) → words ≡ codes "-D" ∷ behind → ((n v : List ℕ) (r : List (List ℕ)) → IsValueName n → behind ≡ spelled n v ∷ r → ⊥) → DefinesNone words
none_in_next words behind is none n v r (in_two_words named two) = none n v r named (the_rest (codes "-D") behind (codes "-D") (spelled n v ∷ r) (sym is ∙ two))
none_in_next words behind is none n v r (in_one_word named one) = one_word_apart n v (the_word (codes "-D") behind (codes "-D" ++ spelled n v) r (sym is ∙ one))

pub in_next_word : {A : Type 0} (words behind : List (List ℕ)) (found : Option A) (name value : A → List ℕ) (rest : A → List (List ℕ)) → words ≡ codes "-D" ∷ behind
    → MatchOption found ((n v : List ℕ) (r : List (List ℕ)) → IsValueName n → behind ≡ spelled n v ∷ r → ⊥) (λ x. IsValueName (name x) × (behind ≡ spelled (name x) (value x) ∷ rest x))
    → MatchOption found (DefinesNone words) (λ x. DefinesFirst words (name x) (value x) (rest x))
in_next_word words behind None name value rest is none = none_in_next words behind is none
in_next_word words behind (Some x) name value rest is found = in_two_words found.0 (is ∙ ap (λ (l : List (List ℕ)). codes "-D" ∷ l) found.1)

-- one pair more
pub define_more : (words : List (List ℕ)) (values : Values) (rest : List (List ℕ)) (name value : List ℕ) (behind : List (List ℕ)) → Define words values rest → DefinesFirst rest name value behind → Define words (values ++ (name, value) ∷ []) behind
define_more words [] rest name value behind first more = (behind, subst (λ (l : List (List ℕ)). DefinesFirst l name value behind) (sym first) more, refl)
define_more words (pair ∷ values) rest name value behind first more = (first.0, first.1, define_more first.0 values rest name value behind first.2 more)

-- the words of some pairs stand before the rest, and are these pairs alone
pub record DefinedBy (words : List (List ℕ)) (values : Values) (rest : List (List ℕ)) : Type 0 where
  pub front : List (List ℕ)
  pub are : words ≡ front ++ rest
  pub alone : Define front values []

pub define_front : (words : List (List ℕ)) (values : Values) (rest : List (List ℕ)) → Define words values rest → DefinedBy words values rest
define_front words [] rest first = record { front = []; are = first; alone = refl }
define_front words (pair ∷ values) rest (behind, in_two_words named is, more) =
    let on = define_front behind values rest more in
    record {
      front = codes "-D" ∷ spelled pair.0 pair.1 ∷ on.front;
      are = is ∙ ap (λ (l : List (List ℕ)). codes "-D" ∷ spelled pair.0 pair.1 ∷ l) on.are;
      alone = (on.front, in_two_words named refl, on.alone);
    }
define_front words (pair ∷ values) rest (behind, in_one_word named is, more) =
    let on = define_front behind values rest more in
    record {
      front = (codes "-D" ++ spelled pair.0 pair.1) ∷ on.front;
      are = is ∙ ap (λ (l : List (List ℕ)). (codes "-D" ++ spelled pair.0 pair.1) ∷ l) on.are;
      alone = (on.front, in_one_word named refl, on.alone);
    }

-- what pairs alone give

two_words_equal : bytes_eq (codes "-D") (codes "-D") ≡ true
two_words_equal = refl

one_word_other : (name value : List ℕ) → bytes_eq (codes "-D" ++ spelled name value) (codes "-D") ≡ false
one_word_other name value =
    elim (cases_Bool (bytes_eq (codes "-D" ++ spelled name value) (codes "-D"))) [
      | inl is ↦ absurd (one_word_apart name value (sym ((bytes_eq-Decides (codes "-D" ++ spelled name value) (codes "-D")).0 is)))
      | inr other ↦ other
    ]

pub values_alone : (words : List (List ℕ)) (values : Values) → Define words values [] → values_in words ≡ values
values_alone words [] alone = ap values_in alone
values_alone words (pair ∷ values) (behind, in_two_words named is, more) =
    ap values_in is ∙ ap₂ (λ (p : List ℕ × List ℕ) (l : Values). p ∷ l) (pair_of_spelled pair.0 pair.1 named) (values_alone behind values more)
values_alone words (pair ∷ values) (behind, in_one_word named is, more) =
    ap values_in is ∙ ap (λ (b : Bool). if b then values_behind behind else pair_of (spelled pair.0 pair.1) ∷ values_in behind) (one_word_other pair.0 pair.1)
    ∙ ap₂ (λ (p : List ℕ × List ℕ) (l : Values). p ∷ l) (pair_of_spelled pair.0 pair.1 named) (values_alone behind values more)

-- the words before the rest, where pairs stand first
pub record CutAt (words rest : List (String Global)) (values : Values) : Type 0 where
  pub no_longer : length rest ≤ length words
  pub alone : Define (texts (take (length words - length rest) words)) values []
  pub values_are : values_in (texts (take (length words - length rest) words)) ≡ values

pub cut_at : (words rest : List (String Global)) (values : Values) → Define (texts words) values (texts rest) → CutAt words rest values
cut_at words rest values first =
    let by = define_front (texts words) values (texts rest) first in
    let n = length words - length rest in
    let total : length words ≡ length by.front + length rest = omega (arith, ap (λ (l : List (List ℕ)). length l) by.are, length-append by.front (texts rest), length-map words string_bytes, length-map rest string_bytes) in
    let front_long : n ≡ length by.front = omega (arith, total) in
    let front : texts (take n words) ≡ by.front = sym (take-map string_bytes n words) ∙ ap (take n) by.are ∙ ap (λ (k : ℕ). take k (by.front ++ texts rest)) front_long ∙ take-append_seam by.front (texts rest) in
    record {
      no_longer = omega (arith, total);
      alone = subst (λ (l : List (List ℕ)). Define l values []) (sym front) by.alone;
      values_are = ap values_in front ∙ values_alone by.front values by.alone;
    }

-- where the rest has none, the pairs are all
pub all_pairs : (words : List (List ℕ)) (values others : Values) (rest : List (List ℕ)) → Define words values rest → DefinesNone rest → Define words others [] → values ≡ others
all_pairs words values others rest first none alone = (one_define words values others rest [] first none alone none_first).0

-- an operand begins no pair
pub operand_first : (word : List ℕ) (more : List (List ℕ)) → IsOperand word → DefinesNone (word ∷ more)
operand_first word more operand name value rest (in_two_words named is) = operand 68 [] (the_word word more (codes "-D") (spelled name value ∷ rest) is)
operand_first word more operand name value rest (in_one_word named is) = operand 68 (spelled name value) (the_word word more (codes "-D" ++ spelled name value) rest is)

pub operands_first : (template : Name) (output : Option Name) → AreOperands template output → DefinesNone (operands template output)
operands_first template None are = operand_first template [] are
operands_first template (Some output) are = operand_first template (output ∷ []) are.0

pub same_operands : (template other : Name) (output more : Option Name) → operands template output ≡ operands other more → (template ≡ other) × (output ≡ more)
same_operands template other None None same = (cc, refl)
same_operands template other None (Some more) same = absurd (cc)
same_operands template other (Some output) None same = absurd (cc)
same_operands template other (Some output) (Some more) same = (cc, ap Some (the_word output [] more [] (cc)))

-- words ask for one thing
pub record SameManifest (values others : Values) (template other : Name) (output more : Option Name) : Type 0 where
  pub values_are : values ≡ others
  pub template_is : template ≡ other
  pub output_is : output ≡ more

pub one_manifest : (words : List (List ℕ)) (values others : Values) (template other : Name) (output more : Option Name) → AsksManifest words values template output → AsksManifest words others other more → SameManifest values others template other output more
one_manifest words values others template other output more first second =
    let behind : second.behind ≡ first.behind = the_rest (codes "manifest") second.behind (codes "manifest") first.behind (sym second.begins ∙ first.begins) in
    let same = one_define first.behind values others (operands template output) (operands other more) first.defines (operands_first template output first.are_operands)
    (subst (λ (l : List (List ℕ)). Define l others (operands other more)) behind second.defines) (operands_first other more second.are_operands) in
    let names = same_operands template other output more same.1 in
    record { values_are = same.0; template_is = names.0; output_is = names.1 }

-- words that ask for it, and the pairs that were cut off them
pub asked_operands : (words behind : List (List ℕ)) (cut values : Values) (rest : List (List ℕ)) (template : Name) (output : Option Name) → words ≡ codes "manifest" ∷ behind → Define behind cut rest → DefinesNone rest
    → AsksManifest words values template output → (rest ≡ operands template output) × AreOperands template output
asked_operands words behind cut values rest template output begins defines none asks =
    let same : asks.behind ≡ behind = the_rest (codes "manifest") asks.behind (codes "manifest") behind (sym asks.begins ∙ begins) in
    ((one_define behind cut values rest (operands template output) defines none (subst (λ (l : List (List ℕ)). Define l values (operands template output)) same asks.defines) (operands_first template output asks.are_operands)).1, asks.are_operands)
