-- Random words, one after the other.
use Rattle.std.proofs.Common.{◌≡◌, ℕ, ◌+◌, ◌<◌, List, [], ◌∷◌, ◌++◌, length, take, drop, refl, ap, sym, ◌∙◌, subst, append_assoc, length-append, arith, Option, Some, None, Result, Ok, Err, IfOk}
use Rattle.std.proofs.lemmas.List.Elements.{All-nil}
use Rattle.std.proofs.lemmas.List.{append-nil, take_at, drop_at, drop_all}
use borrow.Rule.Slice.PartMut.{post_of}
use Rattle.pf_io.specs.Counts.{counted}
use Rattle.pf_io.specs.Host.{Both}
use Rattle.pf_io.specs.Words.{WordsState}
use Rattle.pf_io.proofs.Telling.{both_then, both_same}
use Rattle.pf_session.specs.Asking.{IsTaken, Took, TookFewer}
use Rattle.node_tree.specs.Existing.{AreKeys}
use Rattle.pf_session.specs.Drawing.{IsDrawn, IsNonce, was_drawn, of_words, WordsCame, WordsLacked, nonce_words}

-- no word
pub took_none : (state : WordsState) → Took [] state state
took_none state = record { told = both_same (IsTaken []) state.left state.left refl (λ words. refl); calm = refl; untouched = λ none. refl }

no_words : (word : List ℕ) (words : List (List ℕ)) → word ∷ words ≡ [] → ⊥
no_words word words none = omega (arith, ap (λ (l : List (List ℕ)). length l) none)

-- one word
pub took_word : (word : List ℕ) (old new : WordsState) → Both old.left new.left (λ words rest. words ≡ word ∷ rest) → new.faults ≡ old.faults → Took (word ∷ []) old new
took_word word old new told calm = record { told = told; calm = calm; untouched = λ none. absurd (no_words word [] none) }

first_none : (xs ys : List (List ℕ)) → xs ++ ys ≡ [] → xs ≡ []
first_none [] ys none = refl
first_none (x ∷ xs) ys none = absurd (no_words x (xs ++ ys) none)

second_none : (xs ys : List (List ℕ)) → xs ++ ys ≡ [] → ys ≡ []
second_none [] ys none = none
second_none (x ∷ xs) ys none = absurd (no_words x (xs ++ ys) none)

taken_then : (xs ys : List (List ℕ)) (o p q : Option (List (List ℕ))) → Both o p (IsTaken xs) → Both p q (IsTaken ys) → Both o q (IsTaken (xs ++ ys))
taken_then xs ys o p q first second = both_then (IsTaken xs) (IsTaken ys) (IsTaken (xs ++ ys)) o p q first second (λ a b c one two. one ∙ ap (λ (l : List (List ℕ)). xs ++ l) two ∙ sym (append_assoc xs ys c))

-- words after words
pub took_then : (xs ys : List (List ℕ)) (old mid new : WordsState) → Took xs old mid → Took ys mid new → Took (xs ++ ys) old new
took_then xs ys old mid new first second = record {
  told = taken_then xs ys old.left mid.left new.left first.told second.told;
  calm = second.calm ∙ first.calm;
  untouched = λ none. second.untouched (second_none xs ys none) ∙ first.untouched (first_none xs ys none);
}

-- some words, and then none came
pub took_fewer : (words : List (List ℕ)) (wanted : ℕ) (old mid new : WordsState) → length words < wanted → Took words old mid → new.left ≡ mid.left → new.faults ≡ counted mid.faults → TookFewer wanted old new
took_fewer words wanted old mid new fewer took same once = record {
  words = words;
  fewer = fewer;
  told = subst (λ (o : Option (List (List ℕ))). Both old.left o (IsTaken words)) (sym same) took.told;
  once = once ∙ ap (λ (n : ℕ). counted n) took.calm;
}

-- some words, and then fewer than were wanted
pub fewer_then : (words : List (List ℕ)) (n wanted : ℕ) (old mid new : WordsState) → length words ≡ n → Took words old mid → TookFewer wanted mid new → TookFewer (n + wanted) old new
fewer_then words n wanted old mid new count took fewer = record {
  words = words ++ fewer.words;
  fewer = omega (arith, count, fewer.fewer, length-append words fewer.words);
  told = taken_then words fewer.words old.left mid.left new.left took.told fewer.told;
  once = fewer.once ∙ ap (λ (n : ℕ). counted n) took.calm;
}

-- an array of two halves that were written over others
pub halves : (first second rest : List ℕ) → length first ≡ 16 → length second ≡ 16 → length rest ≡ 16 → take 16 (first ++ rest) ++ (second ++ post_of 16 16 (first ++ rest)) ≡ first ++ second
halves first second rest one two three =
    let back : drop 16 (drop 16 (first ++ rest)) ≡ [] = ap (λ (l : List ℕ). drop 16 l) (drop_at first rest 16 one) ∙ drop_all 16 rest (omega arith) in
    ap (λ (l : List ℕ). l ++ (second ++ post_of 16 16 (first ++ rest))) (take_at first rest 16 one)
    ∙ ap (λ (l : List ℕ). first ++ (second ++ l)) back ∙ ap (λ (l : List ℕ). first ++ l) (append-nil second)

pub never_some : {A : Type 0} (o : Option A) → ((x : A) → o ≡ Some x → ⊥) → o ≡ None
never_some None never = refl
never_some (Some x) never = absurd (never x refl)

-- a nonce that was drawn now
pub nonce_came : {E : Type 0} (drawn : Option (List ℕ)) (r : Result (List ℕ) E) (old new : WordsState) → drawn ≡ None → IfOk r (λ nonce. IsDrawn nonce old new) → IfOk r (λ nonce. WordsCame drawn 0 nonce [] old new)
nonce_came drawn (Err fault) old new none is = tt
nonce_came drawn (Ok nonce) old new none is = record {
  words = is.first ∷ is.second ∷ [];
  is_nonce = of_words is.first is.second none is.is refl;
  nonce_length = is.long;
  are_keys = record { one_each = refl; whole = All-nil (λ (key : List ℕ). length key ≡ 16) };
  took = is.took;
}

-- a nonce is of as many words as it takes
pub words_count : (drawn : Option (List ℕ)) (nonce : List ℕ) (words : List (List ℕ)) → IsNonce drawn nonce words → length words ≡ nonce_words drawn
words_count drawn nonce words (was_drawn is none) = ap (λ (l : List (List ℕ)). length l) none ∙ sym (ap nonce_words is)
words_count drawn nonce words (of_words first second none is these) = ap (λ (l : List (List ℕ)). length l) these ∙ sym (ap nonce_words none)

alone_took : (words : List (List ℕ)) (old new : WordsState) → Took (words ++ []) old new → Took words old new
alone_took words old new took = subst (λ (l : List (List ℕ)). Took l old new) (append-nil words) took

-- the nonce came, and then too few keys
pub words_lacked : (drawn : Option (List ℕ)) (count : ℕ) (nonce : List ℕ) (old mid new : WordsState) → WordsCame drawn 0 nonce [] old mid → TookFewer count mid new → WordsLacked drawn count old new
words_lacked drawn count nonce old mid new came fewer =
    fewer_then came.words (nonce_words drawn) count old mid new (words_count drawn nonce came.words came.is_nonce) (alone_took came.words old mid came.took) fewer

-- the nonce came, and then the keys
pub words_all : (drawn : Option (List ℕ)) (count : ℕ) (nonce : List ℕ) (keys : List (List ℕ)) (old mid new : WordsState) → WordsCame drawn 0 nonce [] old mid → AreKeys count keys → Took keys mid new → WordsCame drawn count nonce keys old new
words_all drawn count nonce keys old mid new came are took = record {
  words = came.words;
  is_nonce = came.is_nonce;
  nonce_length = came.nonce_length;
  are_keys = are;
  took = took_then came.words keys old mid new (alone_took came.words old mid came.took) took;
}
