-- The words of a step are the first of a stream: as many of two as one step takes are the same.
use Rattle.std.proofs.Common.{◌≡◌, ℕ, List, ◌++◌, length, length-append, take, ap, ◌∙◌, sym, arith, Option, Some, None}
use Rattle.std.proofs.lemmas.List.{append_cancel_left}
use Rattle.std.proofs.Math.Seq.{take-append_seam}
use Rattle.node_tree.specs.Sheet.{Sheet}
use Rattle.pf_session.specs.Drawing.{IsNonce, was_drawn, of_words}
use Rattle.pf_script.specs.Script.{OwnSeat}
use Rattle.pf_script.specs.SeatSteps.{Seals, SealsEmpty, SealsMoved}
use Rattle.pf_script.proofs.OneLike.{LikeSheet, LikeOwn}

-- two fronts of one list that are as long are one
pub front_one : {X : Type 0} (xs ys left rest : List X) → length xs ≡ length ys → xs ++ left ≡ ys ++ rest → xs ≡ ys
front_one {X} xs ys left rest long same =
    sym (take-append_seam xs left) ∙ ap (take (length xs)) same ∙ ap (λ (n : ℕ). take n (ys ++ rest)) long ∙ take-append_seam ys rest

-- what is left of them is then one
pub rest_one : {X : Type 0} (xs ys left rest : List X) → xs ≡ ys → xs ++ left ≡ ys ++ rest → left ≡ rest
rest_one {X} xs ys left rest is same = append_cancel_left xs left rest (same ∙ ap (λ (l : List X). l ++ rest) (sym is))

nonce_long : (drawn other : Option (List ℕ)) (nonce said : List ℕ) (words takes : List (List ℕ)) → drawn ≡ other → IsNonce drawn nonce words → IsNonce other said takes → length words ≡ length takes
nonce_long drawn other nonce said words takes is (was_drawn a none) (was_drawn b none') = ap length none ∙ ap length (sym none')
nonce_long drawn other nonce said words takes is (was_drawn a none) (of_words first second b made two) = let e : Some nonce ≡ None = sym a ∙ is ∙ b in absurd (cc)
nonce_long drawn other nonce said words takes is (of_words first second a made two) (was_drawn b none) = let e : Some said ≡ None = sym b ∙ sym is ∙ a in absurd (cc)
nonce_long drawn other nonce said words takes is (of_words first second a made two) (of_words first' second' b made' two') = ap length two ∙ ap length (sym two')

module _ (key : List ℕ) (own other : OwnSeat) (like : LikeOwn key own other) where
  pub seals_words : (words takes left rest : List (List ℕ)) (sheet base : Sheet) → Seals own words sheet → Seals other takes base → words ++ left ≡ takes ++ rest → words ≡ takes
  seals_words words takes left rest sheet base one two same =
      let of_nonce = nonce_long own.drawn other.drawn one.nonce two.nonce one.of_nonce two.of_nonce like.drawn one.is_nonce two.is_nonce in
      let long : length one.keys ≡ length two.keys = one.are_keys.one_each ∙ ap length like.dirty ∙ sym two.are_keys.one_each in
      let a = ap length one.words_are ∙ length-append one.of_nonce one.keys in
      let b = ap length two.words_are ∙ length-append two.of_nonce two.keys in
      front_one words takes left rest (omega (arith, of_nonce, long, a, b)) same

  pub seals_sheet : (words takes : List (List ℕ)) (sheet base : Sheet) → Seals own words sheet → Seals other takes base → LikeSheet own.name sheet base
  seals_sheet words takes sheet base one two = record {
    path = one.next.path_is;
    other_path = two.next.path_is ∙ sym like.name;
    content = one.next.content_is ∙ like.content ∙ sym two.next.content_is;
  }

  pub moved_words : (name to : List ℕ) (words takes left rest : List (List ℕ)) (sheet base : Sheet) → SealsMoved own name words sheet → SealsMoved other to takes base → words ++ left ≡ takes ++ rest → words ≡ takes
  moved_words name to words takes left rest sheet base one two same = front_one words takes left rest (ap length one.words_are ∙ ap length (sym two.words_are)) same

  pub moved_sheet : (name : List ℕ) (words takes : List (List ℕ)) (sheet base : Sheet) → SealsMoved own name words sheet → SealsMoved other name takes base → LikeSheet name sheet base
  moved_sheet name words takes sheet base one two = record { path = one.next.path_is; other_path = two.next.path_is; content = one.next.content_is ∙ like.content ∙ sym two.next.content_is }

pub empty_words : (name to : List ℕ) (words takes left rest : List (List ℕ)) (sheet base : Sheet) → SealsEmpty name words sheet → SealsEmpty to takes base → words ++ left ≡ takes ++ rest → words ≡ takes
empty_words name to words takes left rest sheet base one two same = front_one words takes left rest (ap length one.words_are ∙ ap length (sym two.words_are)) same

pub empty_like : (name : List ℕ) (words takes : List (List ℕ)) (sheet base : Sheet) → SealsEmpty name words sheet → SealsEmpty name takes base → LikeSheet name sheet base
empty_like name words takes sheet base one two = record {
  path = ap (λ (s : Sheet). s.path) one.sheet_is;
  other_path = ap (λ (s : Sheet). s.path) two.sheet_is;
  content = ap (λ (s : Sheet). s.content) one.sheet_is ∙ ap (λ (s : Sheet). s.content) (sym two.sheet_is);
}
