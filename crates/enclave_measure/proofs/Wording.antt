-- The words of a line, one by one.
use Rattle.std.proofs.Common.{rules, ◌≡◌, ◌≢◌, ◌∙◌, ℕ, suc, ◌+◌, ◌-◌, ◌<◌, ◌≤◌, ◌==◌, true, false, List, [], ◌∷◌, ◌++◌, length, take, drop, get_or, refl, sym, ap, arith, All, Option, Some, None, MatchOption}
use Rattle.std.proofs.lemmas.List.{take_more, drop_more, take_all, take-append-drop, take-append-le, map-append, append-nil, append_assoc, length-append}
use Rattle.std.proofs.lemmas.List.Elements.{All-push}
use Rattle.std.proofs.lemmas.List.Splits.{slice_split_none, slice_split_at}
use Rattle.enclave_measure.specs.Lines.{SPACE, words_of}
use Rattle.enclave_measure.specs.Words.{shown}
use denote.Ref.{Bor}

abbrev pub IsNoSpace : ℕ → Type 0
IsNoSpace byte = (byte == SPACE) ≡ false

no_space : (byte : ℕ) → byte ≢ SPACE → (byte == SPACE) ≡ false
no_space byte other = search rules

a_space : (byte : ℕ) → byte ≡ SPACE → (byte == SPACE) ≡ true
a_space byte same = rw same refl

pub spaceless_more : (text : List ℕ) (i : ℕ) → i < length text → get_or text i 0 ≢ SPACE → All IsNoSpace (take i text) → All IsNoSpace (take (i + 1) text)
spaceless_more text i l other so_far = rw (take_more text i 0 l) (All-push IsNoSpace (take i text) (get_or text i 0) so_far (no_space (get_or text i 0) other))

pub word_at : (text : List ℕ) (i : ℕ) → i < length text → get_or text i 0 ≡ SPACE → All IsNoSpace (take i text) → words_of text ≡ take i text ∷ words_of (drop (i + 1) text)
word_at text i l here none =
    let whole : text ≡ take i text ++ get_or text i 0 ∷ drop (i + 1) text = sym (take-append-drop i text) ∙ ap (λ rest. take i text ++ rest) (drop_more text i 0 l) in
    ap words_of whole ∙ slice_split_at (λ byte. byte == SPACE) (take i text) (get_or text i 0) (drop (i + 1) text) none (a_space (get_or text i 0) here)

pub word_alone : (text : List ℕ) (i : ℕ) → length text ≤ i → All IsNoSpace (take i text) → words_of text ≡ text ∷ []
word_alone text i all none = slice_split_none (λ byte. byte == SPACE) text (rw (take_all i text all) at none)

-- the words of what is left of a line
abbrev pub words_left : Option (Bor (List ℕ)) → List (List ℕ)
words_left (Some text) = words_of text.now
words_left None = []

-- some words were taken, and these are left
pub record Taken (line : List ℕ) (taken : ℕ) (words : List (Bor (List ℕ))) (rest : Option (Bor (List ℕ))) : Type 0 where
  pub count : length words ≡ taken
  pub whole : shown words ++ words_left rest ≡ words_of line

length-shown : (words : List (Bor (List ℕ))) → length (shown words) ≡ length words
length-shown [] = refl
length-shown (word ∷ words) = ap suc (length-shown words)

-- one word more
pub taken_more : (line : List ℕ) (taken : ℕ) (words : List (Bor (List ℕ))) (text word : Bor (List ℕ)) (rest : Option (Bor (List ℕ))) → Taken line taken words (Some text)
    → MatchOption rest (words_of text.now ≡ word.now ∷ []) (λ r. words_of text.now ≡ word.now ∷ words_of r.now) → Taken line (taken + 1) (words ++ word ∷ []) rest
taken_more line taken words text word rest so_far first = record {
  count = length-append words (word ∷ []) ∙ ap (λ n. n + 1) so_far.count;
  whole = ap (λ ws. ws ++ words_left rest) (map-append (λ (w : Bor (List ℕ)). w.now) words (word ∷ [])) ∙ append_assoc (shown words) (word.now ∷ []) (words_left rest)
      ∙ ap (λ ws. shown words ++ ws) (sym (left rest first)) ∙ so_far.whole;
}
  where
    left : (rest : Option (Bor (List ℕ))) → MatchOption rest (words_of text.now ≡ word.now ∷ []) (λ r. words_of text.now ≡ word.now ∷ words_of r.now) → words_of text.now ≡ word.now ∷ words_left rest
    left (Some r) is = is
    left None is = is

-- fewer than ten words were taken and none is left
pub taken_all : (line : List ℕ) (taken : ℕ) (words : List (Bor (List ℕ))) → taken ≤ 9 → Taken line taken words None → shown words ≡ take 9 (words_of line)
taken_all line taken words few so_far =
    let whole : shown words ≡ words_of line = sym (append-nil (shown words)) ∙ so_far.whole in
    sym (take_all 9 (shown words) (omega (arith, length-shown words, so_far.count, few))) ∙ ap (take 9) whole

-- nine words were taken
pub taken_nine : (line : List ℕ) (taken : ℕ) (words : List (Bor (List ℕ))) (rest : Option (Bor (List ℕ))) → taken ≡ 9 → Taken line taken words rest → shown words ≡ take 9 (words_of line)
taken_nine line taken words rest nine so_far =
    sym (take_all 9 (shown words) (omega (arith, length-shown words, so_far.count, nine))) ∙ sym (take-append-le 9 (shown words) (words_left rest) (omega (arith, length-shown words, so_far.count, nine))) ∙ ap (take 9) so_far.whole

pub shown_first : (words : List (Bor (List ℕ))) (d : Bor (List ℕ)) (word : List ℕ) → 1 ≤ length words → (get_or words 0 d).now ≡ word → shown words ≡ word ∷ shown (take (length words - 1) (drop 1 words))
shown_first [] d word some same = absurd (omega (arith, some))
shown_first (w ∷ words) d word some same =
    let rest : take (suc (length words) - 1) words ≡ words = take_all _ words (omega arith) in
    rw (rest, same) refl
