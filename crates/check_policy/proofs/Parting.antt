-- The parts of names in normal form, and their texts.
use Rattle.std.proofs.Common.{◌≡◌, ◌≢◌, ◌∙◌, ℕ, ◌==◌, true, false, not, List, [], ◌∷◌, ◌++◌, append_assoc, refl, sym, ap}
use Rattle.std.specs.List.{list_all}
use Rattle.std.proofs.lemmas.Bool.{false≢true, and_parts}
use Rattle.std.proofs.lemmas.List.{append_cancel_left}
use Rattle.pf_io.specs.Names.{SLASH}
use Rattle.manifest_model.specs.Names.{is_absolute, kept_of, normal_parts, behind, name_of, normal}
use Rattle.manifest_model.proofs.Naming.{join-behind}
use Rattle.manifest_model.proofs.Normal.{is_part, kept_of-parts}
use Rattle.check_policy.specs.Places.{Begins}
use Rattle.check_policy.specs.Seeking.{is_edge, IsNormal, Leaves}

-- parts without a slash
abbrev pub AreParts : List (List ℕ) → Type 0
AreParts ps = list_all is_part ps ≡ true

pub normal_parts_are : (name : List ℕ) → AreParts (normal_parts name)
unfolding normal_parts
normal_parts_are name = kept_of-parts (is_absolute name) name

pub edge-behind : (ps : List (List ℕ)) → is_edge (behind ps) ≡ true
edge-behind [] = refl
edge-behind (p ∷ ps) = refl

pub behind-append : (ps qs : List (List ℕ)) → behind (ps ++ qs) ≡ behind ps ++ behind qs
behind-append [] qs = refl
behind-append (p ∷ ps) qs = ap (λ t. SLASH ∷ (p ++ t)) (behind-append ps qs) ∙ ap (λ t. SLASH ∷ t) (sym (append_assoc p (behind ps) (behind qs)))

-- a name with parts is written as its parts, each behind a slash
name_of-some : (ps : List (List ℕ)) → ps ≢ [] → name_of true ps ≡ behind ps
name_of-some [] some = absurd (some refl)
name_of-some (p ∷ ps) some = ap (λ t. SLASH ∷ t) (join-behind p ps)

normal-name_of : (name : List ℕ) → is_absolute name ≡ true → normal name ≡ name_of true (normal_parts name)
unfolding normal
normal-name_of name is = rw is refl

-- a path in normal form is written by its parts
written : (path : List ℕ) → IsNormal path → path ≡ name_of true (normal_parts path)
written path is = sym is.same ∙ normal-name_of path is.absolute

pub root_parts : normal_parts (SLASH ∷ []) ≡ []
unfolding normal_parts kept_of
root_parts = refl

pub trail_of : (path : List ℕ) → IsNormal path → path ≢ SLASH ∷ [] → path ≡ behind (normal_parts path)
trail_of path is other = written path is ∙ name_of-some (normal_parts path) (λ e. other (written path is ∙ ap (name_of true) e))

-- two texts that are cut at the first slash

not_slash : (byte : ℕ) → not (byte == SLASH) ≡ true → (byte == SLASH) ≡ true → ⊥
not_slash byte uncut is = false≢true (sym (ap not is) ∙ uncut)

-- a part and what stands behind it, cut in two ways
cut_once : (p q x y : List ℕ) → is_part p ≡ true → is_part q ≡ true → is_edge x ≡ true → is_edge y ≡ true → p ++ x ≡ q ++ y → (p ≡ q) × (x ≡ y)
cut_once [] [] x y np nq ex ey e = (refl, e)
cut_once [] (b ∷ q) [] y np nq ex ey e = absurd (cc)
cut_once [] (b ∷ q) (c ∷ x) y np nq ex ey e = let same : b ≡ c = cc in absurd (not_slash b (and_parts (not (b == SLASH)) (is_part q) nq).0 (ap (λ d. d == SLASH) same ∙ ex))
cut_once (a ∷ p) [] x [] np nq ex ey e = absurd (cc)
cut_once (a ∷ p) [] x (c ∷ y) np nq ex ey e = let same : a ≡ c = cc in absurd (not_slash a (and_parts (not (a == SLASH)) (is_part p) np).0 (ap (λ d. d == SLASH) same ∙ ey))
cut_once (a ∷ p) (b ∷ q) x y np nq ex ey e =
    let heads : a ≡ b = cc in
    let tails : p ++ x ≡ q ++ y = cc in
    let both = cut_once p q x y (and_parts (not (a == SLASH)) (is_part p) np).1 (and_parts (not (b == SLASH)) (is_part q) nq).1 ex ey tails in
    ((λ i. heads i ∷ both.0 i), both.1)

edge-more : (qs : List (List ℕ)) (r : List ℕ) → is_edge r ≡ true → is_edge (behind qs ++ r) ≡ true
edge-more [] r edge = edge
edge-more (q ∷ qs) r edge = refl

-- where the text of parts begins the text of others up to an edge, the parts begin the others
pub leaves_of_text : (qs ps : List (List ℕ)) (r : List ℕ) → AreParts qs → AreParts ps → is_edge r ≡ true → behind ps ≡ behind qs ++ r → Leaves qs ps r
leaves_of_text [] ps r aq are edge e = record { rest = ps; whole = refl; written = sym e }
leaves_of_text (q ∷ qs) [] r aq are edge e = absurd (cc)
leaves_of_text (q ∷ qs) (p ∷ ps) r aq are edge e =
    let these = and_parts (is_part p) (list_all is_part ps) are in
    let those = and_parts (is_part q) (list_all is_part qs) aq in
    let tails : p ++ behind ps ≡ (q ++ behind qs) ++ r = cc in
    let both = cut_once p q (behind ps) (behind qs ++ r) these.0 those.0 (edge-behind ps) (edge-more qs r edge) (tails ∙ append_assoc q (behind qs) r) in
    let inner = leaves_of_text qs ps r those.1 these.1 edge both.1 in
    record { rest = inner.rest; whole = λ i. both.0 i ∷ inner.whole i; written = inner.written }

-- and the other way round
pub text_of_begins : (qs ps rest : List (List ℕ)) → ps ≡ qs ++ rest → behind ps ≡ behind qs ++ behind rest
text_of_begins qs ps rest e = ap behind e ∙ behind-append qs rest

-- where the text of parts does not begin that of others up to an edge, the parts do not begin the others
pub no_text_no_begin : (qs ps : List (List ℕ)) → ((r : List ℕ) → behind ps ≡ behind qs ++ r → ⊥) → Begins qs ps → ⊥
no_text_no_begin qs ps none b = none (behind b.rest) (text_of_begins qs ps b.rest b.whole)

pub no_edge_no_begin : (qs ps : List (List ℕ)) (r : List ℕ) → behind ps ≡ behind qs ++ r → is_edge r ≡ false → Begins qs ps → ⊥
no_edge_no_begin qs ps r e uncut b =
    let same : behind b.rest ≡ r = append_cancel_left (behind qs) (behind b.rest) r (sym (text_of_begins qs ps b.rest b.whole) ∙ e) in
    false≢true (sym uncut ∙ ap is_edge (sym same) ∙ edge-behind b.rest)
