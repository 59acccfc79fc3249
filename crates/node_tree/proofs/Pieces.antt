-- The pieces of a file.
use Rattle.std.proofs.Common.{◌≡◌, inl, inr, ℕ, zero, suc, ◌+◌, ◌-◌, ◌≤◌, min, List, [], ◌∷◌, ◌++◌, length, take, drop, refl, ap, ap₂, ◌∙◌, sym, arith, subst, Option, Some, None, Result, Ok, Err}
use Rattle.std.specs.List.{concat}
use Rattle.std.proofs.lemmas.Bool.{cases_lt}
use Rattle.std.proofs.lemmas.List.{take_min, take-append-drop, drop-drop, drop_all, length-drop}
use Rattle.node_layout.specs.declared.damage.Damage.{Damage}
use Rattle.node_layout.specs.declared.metadata.MetaSecret.{MetaSecret}
use Rattle.node_layout.proofs.Secrets.{opens_to_one}
use Rattle.node_tree.specs.Opened.{block_of}
use Rattle.node_tree.specs.Parts.{IsFilePart, PIECE, ArePiecesFrom, OnePieces}
use Rattle.node_tree.proofs.Parting.{one_part}

same_ok : (a b : List ℕ) → ◌≡◌ {A = Result (List ℕ) Damage} (Ok a) (Ok b) → a ≡ b
same_ok a b same = cc

same_err : (a b : Damage) → ◌≡◌ {A = Result (List ℕ) Damage} (Err a) (Err b) → a ≡ b
same_err a b same = cc

ok_err : (a : List ℕ) (b : Damage) → ◌≡◌ {A = Result (List ℕ) Damage} (Ok a) (Err b) → ⊥
ok_err a b same = cc

module _ (file : List ℕ) (secret : MetaSecret) where
  one_pieces_from : (at : ℕ) (pieces others : List (List ℕ)) (end other : Option Damage) → ArePiecesFrom file secret at pieces end → ArePiecesFrom file secret at others other → (pieces ≡ others) × (end ≡ other)
  one_pieces_from at [] [] None None here there = (refl, refl)
  one_pieces_from at [] [] None (Some e) here there = absurd (let lt = there.0 in omega arith)
  one_pieces_from at [] [] (Some d) None here there = absurd (let lt = here.0 in omega arith)
  one_pieces_from at [] [] (Some d) (Some e) here there = (refl, ap (λ (x : Damage). Some x) (same_err d e (one_part file secret at (min PIECE (secret.size - at)) (Err d) (Err e) here.1 there.1)))
  one_pieces_from at [] (q ∷ others) None other here there = absurd (let lt = there.0 in omega arith)
  one_pieces_from at [] (q ∷ others) (Some d) other here there = absurd (ok_err q d (one_part file secret at (min PIECE (secret.size - at)) (Ok q) (Err d) there.1 here.1))
  one_pieces_from at (p ∷ pieces) [] end None here there = absurd (let lt = here.0 in omega arith)
  one_pieces_from at (p ∷ pieces) [] end (Some e) here there = absurd (ok_err p e (one_part file secret at (min PIECE (secret.size - at)) (Ok p) (Err e) here.1 there.1))
  one_pieces_from at (p ∷ pieces) (q ∷ others) end other here there =
      let first = same_ok p q (one_part file secret at (min PIECE (secret.size - at)) (Ok p) (Ok q) here.1 there.1) in
      let rest = one_pieces_from (at + PIECE) pieces others end other here.2 there.2 in
      (ap₂ (λ (x : List ℕ) (xs : List (List ℕ)). x ∷ xs) first rest.0, rest.1)

  -- where each part is a slice of a content, the pieces are the content
  module _ (content : List ℕ) (long : length content ≡ secret.size) (parts : (at n : ℕ) → at + n ≤ length content → IsFilePart file secret at n (Ok (take n (drop at content)))) where
    no_pieces : (at : ℕ) → secret.size ≤ at → (pieces : List (List ℕ)) × ArePiecesFrom file secret at pieces None × (concat pieces ≡ drop at content)
    no_pieces at past = ([], past, sym (drop_all at content (omega (arith, long))))

    pub pieces_joined : (m at : ℕ) → secret.size ≤ m + at → (pieces : List (List ℕ)) × ArePiecesFrom file secret at pieces None × (concat pieces ≡ drop at content)
    pieces_joined zero at enough = no_pieces at (omega arith)
    pieces_joined (suc m) at enough =
        elim (cases_lt at secret.size) [
          | inr past ↦ no_pieces at past
          | inl lt ↦
              let n = min PIECE (secret.size - at) in
              let rest = pieces_joined m (at + PIECE) (omega arith) in
              let front : take n (drop at content) ≡ take PIECE (drop at content) =
              ap (λ (j : ℕ). take (min PIECE j) (drop at content)) (omega (arith, length-drop at content, long)) ∙ take_min PIECE (drop at content) in (
                take n (drop at content) ∷ rest.0,
                (lt, parts at n (omega (arith, long)), rest.1),
                ap₂ (λ (a b : List ℕ). a ++ b) front (rest.2 ∙ ap (λ (j : ℕ). drop j content) (omega arith) ∙ sym (drop-drop PIECE at content)) ∙ take-append-drop PIECE (drop at content),
              )
        ]

pub one_pieces : OnePieces
one_pieces user file pieces others end other here there =
    let same = opens_to_one user (block_of file 0) there.secret here.secret there.opens_to here.opens_to in
    one_pieces_from file here.secret 0 pieces others end other here.pieces_are (subst (λ (s : MetaSecret). ArePiecesFrom file s 0 others other) same there.pieces_are)
