-- A text's lines, cut one by one.
use Rattle.std.proofs.Common.{rules, ◌≡◌, ◌≢◌, ◌∙◌, ℕ, suc, ◌+◌, ◌<◌, ◌≤◌, ◌==◌, Bool, true, false, List, [], ◌∷◌, ◌++◌, length, take, drop, get_or, refl, sym, ap, arith, cond, not, add-one}
use Rattle.std.proofs.lemmas.List.{take_more, drop_more, take_all, drop_all, append-nil}
use Rattle.std.specs.List.{onto_first}
use Rattle.enclave_measure.specs.Lines.{LINE_FEED, lines_of, is_skipped, read_after}

-- bytes in front of the first line
abbrev pub prefixed : List ℕ → List (List ℕ) → List (List ℕ)
prefixed [] lines = lines
prefixed (byte ∷ front) lines = onto_first byte (prefixed front lines)

prefixed_more : (front : List ℕ) (byte : ℕ) (lines : List (List ℕ)) → prefixed (front ++ byte ∷ []) lines ≡ prefixed front (onto_first byte lines)
prefixed_more [] byte lines = refl
prefixed_more (first ∷ front) byte lines = ap (onto_first first) (prefixed_more front byte lines)

prefixed_line : (front line : List ℕ) (lines : List (List ℕ)) → prefixed front (line ∷ lines) ≡ (front ++ line) ∷ lines
prefixed_line [] line lines = refl
prefixed_line (first ∷ front) line lines = ap (onto_first first) (prefixed_line front line lines)

prefixed_end : (byte : ℕ) (front : List ℕ) → prefixed (byte ∷ front) [] ≡ (byte ∷ front) ∷ []
prefixed_end byte [] = refl
prefixed_end byte (next ∷ front) = ap (onto_first byte) (prefixed_end next front)

no_feed : (byte : ℕ) → byte ≢ LINE_FEED → (byte == LINE_FEED) ≡ false
no_feed byte other = search rules

a_feed : (byte : ℕ) → byte ≡ LINE_FEED → (byte == LINE_FEED) ≡ true
a_feed byte same = rw same refl

-- one byte more, which is no line feed
pub cut_more : (text : List ℕ) (i : ℕ) → i < length text → get_or text i 0 ≢ LINE_FEED → lines_of text ≡ prefixed (take i text) (lines_of (drop i text))
    → lines_of text ≡ prefixed (take (i + 1) text) (lines_of (drop (i + 1) text))
cut_more text i l other is =
    let rest : lines_of (drop i text) ≡ onto_first (get_or text i 0) (lines_of (drop (i + 1) text)) = ap lines_of (drop_more text i 0 l) ∙ ap (λ b. cond b ([] ∷ lines_of (drop (i + 1) text)) (onto_first (get_or text i 0) (lines_of (drop (i + 1) text)))) (no_feed (get_or text i 0) other) in
    is ∙ ap (prefixed (take i text)) rest ∙ sym (prefixed_more (take i text) (get_or text i 0) (lines_of (drop (i + 1) text))) ∙ ap (λ front. prefixed front (lines_of (drop (i + 1) text))) (sym (take_more text i 0 l))

-- the line ends before a line feed
pub cut_at : (text : List ℕ) (i : ℕ) → i < length text → get_or text i 0 ≡ LINE_FEED → lines_of text ≡ prefixed (take i text) (lines_of (drop i text))
    → lines_of text ≡ take i text ∷ lines_of (drop (i + 1) text)
cut_at text i l here is =
    let rest : lines_of (drop i text) ≡ [] ∷ lines_of (drop (i + 1) text) = ap lines_of (drop_more text i 0 l) ∙ ap (λ b. cond b ([] ∷ lines_of (drop (i + 1) text)) (onto_first (get_or text i 0) (lines_of (drop (i + 1) text)))) (a_feed (get_or text i 0) here) in
    is ∙ ap (prefixed (take i text)) rest ∙ prefixed_line (take i text) [] (lines_of (drop (i + 1) text)) ∙ ap (λ front. front ∷ lines_of (drop (i + 1) text)) (append-nil (take i text))

-- the text is one line
pub cut_none : (text : List ℕ) (i : ℕ) → 0 < length text → length text ≤ i → lines_of text ≡ prefixed (take i text) (lines_of (drop i text)) → lines_of text ≡ text ∷ []
cut_none [] i some all is = absurd (omega (arith, some))
cut_none (byte ∷ text) i some all is = is ∙ ap (λ front. prefixed front (lines_of (drop i (byte ∷ text)))) (take_all i (byte ∷ text) all) ∙ ap (λ rest. prefixed (byte ∷ text) (lines_of rest)) (drop_all i (byte ∷ text) all) ∙ prefixed_end byte text

-- a line that is read, in front of the others
pub read_first : (before : ℕ) (text line rest : List ℕ) → lines_of text ≡ line ∷ lines_of rest → is_skipped line ≡ false → read_after before text ≡ (before + 1, line) ∷ read_after (before + 1) rest
read_first before text line rest lines kept = rw (lines, add-one) (ap (λ b. cond (not b) ((suc before, line) ∷ read_after (suc before) rest) (read_after (suc before) rest)) kept)

-- one that is skipped
pub skip_first : (before : ℕ) (text line rest : List ℕ) → lines_of text ≡ line ∷ lines_of rest → is_skipped line ≡ true → read_after before text ≡ read_after (before + 1) rest
skip_first before text line rest lines skipped = rw (lines, add-one) (ap (λ b. cond (not b) ((suc before, line) ∷ read_after (suc before) rest) (read_after (suc before) rest)) skipped)

first_adds : (byte : ℕ) (lines : List (List ℕ)) → length (onto_first byte lines) ≤ length lines + 1
first_adds byte [] = omega arith
first_adds byte (line ∷ lines) = omega arith

either_few : (b : Bool) (byte n : ℕ) (lines : List (List ℕ)) → length lines ≤ n → length (cond b ([] ∷ lines) (onto_first byte lines)) ≤ n + 1
either_few true byte n lines few = omega (arith, few)
either_few false byte n lines few = omega (arith, few, first_adds byte lines)

-- there are no more lines than bytes
pub lines_few : (text : List ℕ) → length (lines_of text) ≤ length text
lines_few [] = omega arith
lines_few (byte ∷ text) = omega (arith, either_few (byte == LINE_FEED) byte (length text) (lines_of text) (lines_few text))
