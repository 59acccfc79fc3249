-- The first part of a text, as a function: so it is one.
use Rattle.std.proofs.Common.{◌≡◌, ◌≢◌, ◌∙◌, inl, inr, ℕ, ◌<◌, ◌+◌, Bool, true, false, cond, ◌||◌, List, [], ◌∷◌, ◌++◌, length, drop, Option, Some, None, option_map, refl, sym, ap, subst, arith, codes, bytes_eq}
use Rattle.std.proofs.lemmas.Bool.{or_parts, both_ways, false_from_ne_true}
use Rattle.std.proofs.lemmas.List.{append-nil, length-append}
use Rattle.std.proofs.lemmas.Slice.Eq.{bytes_eq-Decides}
use Rattle.template_text.specs.Parts.{begins, opens, closes_value, closes_comment, closes_statement, ends_raw, without_blanks, NoneIn, Part, Copied, Value, Comment, Raw, Statement, Unclosed, statement, spelled, IsStatement, IsRaw, IsUnclosed, NoValueEnd, NoCommentEnd, NoStatementEnd, NoEndraw, IsPart, text_of, ArePlaced, ArePartsOf}

-- where a text first passes a test
first_of : (List ℕ → Bool) → List ℕ → Option (List ℕ × List ℕ)
first_of test [] = None
first_of test (x ∷ xs) = cond (test (x ∷ xs)) (Some ([], x ∷ xs)) (option_map (λ p. (x ∷ p.0, p.1)) (first_of test xs))

found : (test : List ℕ → Bool) (front : List ℕ) (byte : ℕ) (bytes : List ℕ) → NoneIn test front (byte ∷ bytes) → test (byte ∷ bytes) ≡ true → first_of test (front ++ byte ∷ bytes) ≡ Some (front, byte ∷ bytes)
unfolding first_of
found test [] byte bytes none here = rw here
found test (x ∷ front) byte bytes none here = rw (none.0, found test front byte bytes none.1 here)

lost : (test : List ℕ → Bool) (text : List ℕ) → NoneIn test text [] → first_of test text ≡ None
unfolding first_of
lost test [] none = refl
lost test (x ∷ xs) none = let other : test (x ∷ xs) ≡ false = rw append-nil at none.0 in rw (other, lost test xs none.1)

closed_by : (List ℕ → Part) → List ℕ → Option (List ℕ × List ℕ) → Part × List ℕ
closed_by make text None = (Unclosed text, [])
closed_by make text (Some p) = (make p.0, drop 2 p.1)

raw_closed_by : List ℕ → List ℕ → List ℕ → Option (List ℕ × List ℕ) → Part × List ℕ
raw_closed_by text opening content None = (Unclosed text, [])
raw_closed_by text opening content (Some p) = (Raw opening content p.0, drop 2 p.1)

raw_by : List ℕ → List ℕ → Option (List ℕ × List ℕ) → Part × List ℕ
raw_by text opening None = (Unclosed text, [])
raw_by text opening (Some p) = raw_closed_by text opening p.0 (first_of closes_statement (drop 2 p.1))

statement_by : List ℕ → Option (List ℕ × List ℕ) → Part × List ℕ
statement_by text None = (Unclosed text, [])
statement_by text (Some p) = cond (bytes_eq (without_blanks p.0) (codes "raw")) (raw_by text p.0 (first_of ends_raw (drop 2 p.1))) (Statement p.0, drop 2 p.1)

copied_by : List ℕ → Option (List ℕ × List ℕ) → Part × List ℕ
copied_by text None = (Copied text, [])
copied_by text (Some p) = (Copied p.0, p.1)

first_part : List ℕ → Part × List ℕ
first_part text =
    cond (begins (codes "{{") text) (closed_by Value text (first_of closes_value (drop 2 text)))
    (cond (begins (codes "{#") text) (closed_by Comment text (first_of closes_comment (drop 2 text)))
    (cond (begins (codes "{%") text) (statement_by text (first_of closes_statement (drop 2 text))) (copied_by text (first_of opens text))))

value_ends : (rest : List ℕ) → closes_value (125 ∷ 125 ∷ rest) ≡ true
unfolding closes_value
value_ends rest = refl

comment_ends : (rest : List ℕ) → closes_comment (35 ∷ 125 ∷ rest) ≡ true
unfolding closes_comment
comment_ends rest = refl

statement_ends : (rest : List ℕ) → closes_statement (37 ∷ 125 ∷ rest) ≡ true
unfolding closes_statement
statement_ends rest = refl

lexes_value : (inside rest : List ℕ) → NoneIn closes_value inside (125 ∷ 125 ∷ rest) → first_part (spelled (Value inside) rest) ≡ (Value inside, rest)
unfolding first_part closed_by
lexes_value inside rest none = ap (closed_by Value (spelled (Value inside) rest)) (found closes_value inside 125 (125 ∷ rest) none (value_ends rest))

lexes_comment : (inside rest : List ℕ) → NoneIn closes_comment inside (35 ∷ 125 ∷ rest) → first_part (spelled (Comment inside) rest) ≡ (Comment inside, rest)
unfolding first_part closed_by
lexes_comment inside rest none = ap (closed_by Comment (spelled (Comment inside) rest)) (found closes_comment inside 35 (125 ∷ rest) none (comment_ends rest))

lexes_statement : (inside rest : List ℕ) → IsStatement inside rest → first_part (statement inside rest) ≡ statement_by (statement inside rest) (Some (inside, 37 ∷ 125 ∷ rest))
unfolding first_part
lexes_statement inside rest none = ap (statement_by (statement inside rest)) (found closes_statement inside 37 (125 ∷ rest) none (statement_ends rest))

is_raw : (inside : List ℕ) → without_blanks inside ≡ codes "raw" → bytes_eq (without_blanks inside) (codes "raw") ≡ true
is_raw inside raw = (bytes_eq-Decides (without_blanks inside) (codes "raw")).1 raw

lexes_other : (text inside rest : List ℕ) → without_blanks inside ≢ codes "raw" → statement_by text (Some (inside, 37 ∷ 125 ∷ rest)) ≡ (Statement inside, rest)
unfolding statement_by
lexes_other text inside rest other =
    let apart : bytes_eq (without_blanks inside) (codes "raw") ≡ false = false_from_ne_true _ (λ e. other ((bytes_eq-Decides (without_blanks inside) (codes "raw")).0 e)) in
    rw apart

lexes_raw : (text inside rest : List ℕ) → without_blanks inside ≡ codes "raw" → statement_by text (Some (inside, 37 ∷ 125 ∷ rest)) ≡ raw_by text inside (first_of ends_raw rest)
unfolding statement_by
lexes_raw text inside rest raw = rw (is_raw inside raw)

lexes_content : (text opening content closing rest : List ℕ) → IsRaw opening content closing rest → raw_by text opening (first_of ends_raw (content ++ statement closing rest)) ≡ (Raw opening content closing, rest)
unfolding raw_by raw_closed_by
lexes_content text opening content closing rest is =
    ap (raw_by text opening) (found ends_raw content 123 (37 ∷ (closing ++ 37 ∷ 125 ∷ rest)) is.first is.endraw)
    ∙ ap (raw_closed_by text opening content) (found closes_statement closing 37 (125 ∷ rest) is.closed (statement_ends rest))

plain_first : (text : List ℕ) → opens text ≡ false → first_part text ≡ copied_by text (first_of opens text)
unfolding opens first_part
plain_first text plain =
    let outer = or_parts (begins (codes "{{") text || begins (codes "{#") text) (begins (codes "{%") text) plain in
    let inner = or_parts (begins (codes "{{") text) (begins (codes "{#") text) outer.0 in
    rw (inner.0, inner.1, outer.1)

opens_some : (rest : List ℕ) → opens rest ≡ true → rest ≡ [] → ⊥
unfolding opens
opens_some rest is e = both_ways (opens []) refl (subst (λ r. opens r ≡ true) e is)

lexes_copied : (bytes rest : List ℕ) → IsPart (Copied bytes) rest → first_part (bytes ++ rest) ≡ (Copied bytes, rest)
unfolding copied_by
lexes_copied [] rest is = absurd (is.0 refl)
lexes_copied (byte ∷ bytes) [] is =
    plain_first (byte ∷ (bytes ++ [])) is.1.0 ∙ ap (λ t. copied_by t (first_of opens t)) (append-nil (byte ∷ bytes)) ∙ ap (copied_by (byte ∷ bytes)) (lost opens (byte ∷ bytes) is.1)
lexes_copied (byte ∷ bytes) (next ∷ rest) is =
    let here : opens (next ∷ rest) ≡ true = elim is.2 [ inl none ↦ absurd (let e : next ∷ rest ≡ [] = none in cc) | inr here ↦ here ] in
    plain_first (byte ∷ (bytes ++ next ∷ rest)) is.1.0 ∙ ap (copied_by (byte ∷ (bytes ++ next ∷ rest))) (found opens (byte ∷ bytes) next rest is.1 here)

lexes_unclosed : (bytes : List ℕ) → IsUnclosed bytes → first_part bytes ≡ (Unclosed bytes, [])
unfolding first_part closed_by statement_by raw_by
lexes_unclosed bytes (NoValueEnd inside is none) = rw is (ap (closed_by Value (123 ∷ 123 ∷ inside)) (lost closes_value inside none))
lexes_unclosed bytes (NoCommentEnd inside is none) = rw is (ap (closed_by Comment (123 ∷ 35 ∷ inside)) (lost closes_comment inside none))
lexes_unclosed bytes (NoStatementEnd inside is none) = rw is (ap (statement_by (123 ∷ 37 ∷ inside)) (lost closes_statement inside none))
lexes_unclosed bytes (NoEndraw opening content is closes raw none) =
    rw is (lexes_statement opening content closes ∙ lexes_raw (statement opening content) opening content raw ∙ ap (raw_by (statement opening content) opening) (lost ends_raw content none))

lexes : (part : Part) (rest : List ℕ) → IsPart part rest → first_part (spelled part rest) ≡ (part, rest)
lexes (Copied bytes) rest is = lexes_copied bytes rest is
lexes (Value inside) rest is = lexes_value inside rest is
lexes (Comment inside) rest is = lexes_comment inside rest is
lexes (Raw opening content closing) rest is =
    let text = spelled (Raw opening content closing) rest in
    lexes_statement opening (content ++ statement closing rest) is.opened ∙ lexes_raw text opening (content ++ statement closing rest) is.raw ∙ lexes_content text opening content closing rest is
lexes (Statement inside) rest is = lexes_statement inside rest is.0 ∙ lexes_other (statement inside rest) inside rest is.1
lexes (Unclosed bytes) rest is = rw (is.1, append-nil bytes) (lexes_unclosed bytes is.0)

-- a part has bytes
nonempty : (bytes : List ℕ) → bytes ≢ [] → 0 < length bytes
nonempty [] some = absurd (some refl)
nonempty (byte ∷ bytes) some = omega arith

unclosed_some : (bytes : List ℕ) → IsUnclosed bytes → 0 < length bytes
unclosed_some bytes (NoValueEnd inside is none) = omega (arith, ap length is)
unclosed_some bytes (NoCommentEnd inside is none) = omega (arith, ap length is)
unclosed_some bytes (NoStatementEnd inside is none) = omega (arith, ap length is)
unclosed_some bytes (NoEndraw opening content is closes raw none) = omega (arith, ap length is)

length-statement : (inside rest : List ℕ) → length (statement inside rest) ≡ length inside + length rest + 4
length-statement inside rest = omega (arith, length-append inside (37 ∷ 125 ∷ rest))

pub shorter : (part : Part) (rest : List ℕ) → IsPart part rest → length rest < length (spelled part rest)
shorter (Copied bytes) rest is = omega (arith, nonempty bytes is.0, length-append bytes rest)
shorter (Value inside) rest is = omega (arith, length-append inside (125 ∷ 125 ∷ rest))
shorter (Comment inside) rest is = omega (arith, length-append inside (35 ∷ 125 ∷ rest))
shorter (Raw opening content closing) rest is = omega (arith, length-statement opening (content ++ statement closing rest), length-append content (statement closing rest), length-statement closing rest)
shorter (Statement inside) rest is = omega (arith, length-statement inside rest)
shorter (Unclosed bytes) rest is = omega (arith, unclosed_some bytes is.0, length-append bytes rest)

pub shorter_rest : (text rest : List ℕ) (part : Part) → text ≡ spelled part rest → IsPart part rest → length rest < length text
shorter_rest text rest part is placed = omega (arith, ap length is, shorter part rest placed)

same_parts : (xs ys : List Part) → text_of xs [] ≡ text_of ys [] → ArePlaced xs [] → ArePlaced ys [] → xs ≡ ys
same_parts [] [] same first second = refl
same_parts [] (y ∷ ys) same first second = absurd (omega (arith, ap length same, shorter y (text_of ys []) second.0))
same_parts (x ∷ xs) [] same first second = absurd (omega (arith, ap length same, shorter x (text_of xs []) first.0))
same_parts (x ∷ xs) (y ∷ ys) same first second =
    let pairs = sym (lexes x (text_of xs []) first.0) ∙ ap first_part same ∙ lexes y (text_of ys []) second.0 in
    let others = same_parts xs ys (ap (λ (p : Part × List ℕ). p.1) pairs) first.1 second.1 in
    ap (λ p. p ∷ xs) (ap (λ (p : Part × List ℕ). p.0) pairs) ∙ ap (λ ps. y ∷ ps) others

pub one_list : (text : List ℕ) (parts others : List Part) → ArePartsOf text parts → ArePartsOf text others → parts ≡ others
one_list text parts others first second = same_parts parts others (sym first.cover ∙ second.cover) first.placed second.placed
