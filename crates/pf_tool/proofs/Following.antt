-- The answers of one file that are those of another: the other comes to the same.
use Rattle.std.proofs.Common.{◌≡◌, inl, inr, ℕ, zero, suc, ◌+◌, ◌-◌, ◌*◌, ◌<◌, ◌≤◌, min, List, [], ◌∷◌, ◌++◌, length, map, refl, ap, ap₂, ◌∙◌, sym, arith, subst, Option, Some, None}
use Rattle.std.specs.List.{range_with_len, AllByRecursion}
use Rattle.std.proofs.lemmas.Bool.{cases_lt}
use Rattle.std.proofs.lemmas.List.FromFn.{length-map-range_with_len}
use Rattle.node_layout.specs.declared.damage.Damage.{Damage}
use Rattle.node_layout.specs.declared.metadata.MetaSecret.{MetaSecret}
use Rattle.node_layout.specs.Places.{node_count}
use Rattle.node_tree.specs.Content.{byte_of}
use Rattle.node_tree.specs.Opened.{AtNodes, Entry, block_of, NothingHeld, BlockOf}
use Rattle.node_tree.specs.Parts.{IsWhole, PIECE, ArePiecesFrom}
use Rattle.pf_io.specs.Host.{Name, Files, Answer, Gave, contents}
use Rattle.pf_io.specs.Answered.{IsAnswerOf}
use Rattle.pf_tool.specs.Events.{Event, Answers, Draws, Puts, answers_in}
use Rattle.pf_tool.specs.Decrypting.{end_of, node_events, piece_events}
use Rattle.pf_tool.proofs.SameBlocks.{SameTo, same_sooner, same_whole, same_broken}

pub answers_append : (xs ys : List Event) → answers_in (xs ++ ys) ≡ answers_in xs ++ answers_in ys
answers_append [] ys = refl
answers_append (Answers answer ∷ xs) ys = ap (λ (l : List Answer). answer ∷ l) (answers_append xs ys)
answers_append (Draws word ∷ xs) ys = answers_append xs ys
answers_append (Puts bytes ∷ xs) ys = answers_append xs ys

pub all_split : (P : Answer → Type 0) (xs ys : List Answer) → AllByRecursion P (xs ++ ys) → AllByRecursion P xs × AllByRecursion P ys
all_split P [] ys all = (tt, all)
all_split P (x ∷ xs) ys all = let rest = all_split P xs ys all.1 in ((all.0, rest.0), rest.1)

-- what is asked of a range of nodes
abbrev pub range_events : Name → List ℕ → ℕ → ℕ → List Event
range_events input file from n = map (λ k. Answers (Gave input (4096 * k) 4096 (block_of file k))) (range_with_len from n)

-- the answers of a file are its own
own_range : (input : Name) (files : Files) (from n : ℕ) → AllByRecursion (IsAnswerOf files) (answers_in (range_events input (contents (files input)) from n))
own_range input files from zero = tt
own_range input files from (suc n) = (refl, own_range input files (from + 1) n)

same_range : (input : Name) (files : Files) (file : List ℕ) (from n : ℕ) → AllByRecursion (IsAnswerOf files) (answers_in (range_events input file from n)) → (k : ℕ) → from ≤ k → k < from + n → block_of file k ≡ block_of (contents (files input)) k
same_range input files file from zero all k low high = absurd (omega arith)
same_range input files file from (suc n) all k low high =
    elim (cases_lt from k) [
      | inl later ↦ same_range input files file (from + 1) n all.1 k (omega arith) (omega arith)
      | inr here ↦ let is : k ≡ from = omega arith in subst (λ (j : ℕ). block_of file j ≡ block_of (contents (files input)) j) (sym is) all.0
    ]

events_same : (input : Name) (file other : List ℕ) (from n : ℕ) → ((k : ℕ) → from ≤ k → k < from + n → block_of file k ≡ block_of other k) → range_events input file from n ≡ range_events input other from n
events_same input file other from zero same = refl
events_same input file other from (suc n) same =
    ap₂ (λ (b : List ℕ) (l : List Event). Answers (Gave input (4096 * from) 4096 b) ∷ l) (same from (omega arith) (omega arith)) (events_same input file other (from + 1) n (λ k low high. same k (omega arith) (omega arith)))

pub same_events : (input : Name) (file other : List ℕ) (from to : ℕ) → SameTo to file other → node_events input file from to ≡ node_events input other from to
same_events input file other from to same = events_same input file other from (to - from) (λ k low high. same k (omega arith))

-- a whole part has its length
pub length-whole : (held given : AtNodes) (root : Entry) (first : List ℕ) (at n : ℕ) (bytes : List ℕ) → IsWhole held given root first at n bytes → length bytes ≡ n
length-whole held given root first at n bytes whole = ap (λ (l : List ℕ). length l) whole.are ∙ length-map-range_with_len (byte_of first whole.plain) at n

module _ (input : Name) (files : Files) (file : List ℕ) (secret : MetaSecret) where
  pub nodes_same : (from to : ℕ) → SameTo from file (contents (files input)) → AllByRecursion (IsAnswerOf files) (answers_in (node_events input file from to)) → SameTo to file (contents (files input))
  nodes_same from to before all k lt =
      elim (cases_lt k from) [
        | inl below ↦ before k below
        | inr not_below ↦ same_range input files file from (to - from) all k not_below (omega arith)
      ]

  -- the pieces of one are those of the other, and are asked for by the same events
  pub follow : (at : ℕ) (pieces : List (List ℕ)) (end : Option Damage) → (at < secret.size → SameTo (node_count at) file (contents (files input))) → ArePiecesFrom file secret at pieces end
      → AllByRecursion (IsAnswerOf files) (answers_in (piece_events input file at pieces (end_of end)))
      → ArePiecesFrom (contents (files input)) secret at pieces end × (piece_events input file at pieces (end_of end) ≡ piece_events input (contents (files input)) at pieces (end_of end))
  follow at [] None before are all = (are, refl)
  follow at [] (Some damage) before are all =
      let same = nodes_same (node_count at) (damage.node + 1) (before are.0) all in
      ((are.0, same_broken (damage.node + 1) file (contents (files input)) same (secret.root_key, secret.root_tag) at (min PIECE (secret.size - at)) damage (omega arith) are.1), same_events input file (contents (files input)) (node_count at) (damage.node + 1) same)
  follow at (piece ∷ pieces) end before are all =
      let n = min PIECE (secret.size - at) in
      let long : length piece ≡ n = length-whole NothingHeld (BlockOf file) (secret.root_key, secret.root_tag) secret.first at n piece are.1 in
      let until = node_count (at + length piece) in
      let parts = all_split (IsAnswerOf files) (answers_in (node_events input file (node_count at) until)) (answers_in (piece_events input file (at + PIECE) pieces (end_of end)))
      (subst (λ (l : List Answer). AllByRecursion (IsAnswerOf files) l) (answers_append (node_events input file (node_count at) until) (Puts piece ∷ piece_events input file (at + PIECE) pieces (end_of end))) all) in
      let same = nodes_same (node_count at) until (before are.0) parts.0 in
      let rest = follow (at + PIECE) pieces end (λ more. same_sooner (node_count (at + PIECE)) until file (contents (files input)) (let full : length piece ≡ PIECE = omega (arith, long) in omega (arith, ap (λ (m : ℕ). node_count (at + m)) full)) same) are.2 parts.1 in (
        (are.0, same_whole until file (contents (files input)) same (secret.root_key, secret.root_tag) secret.first at n piece (omega (arith, ap (λ (m : ℕ). node_count (at + m)) long)) are.1, rest.0),
        ap₂ (λ (a b : List Event). a ++ Puts piece ∷ b) (same_events input file (contents (files input)) (node_count at) until same) rest.1,
      )

-- the answers of a file are its own
pub own_nodes : (input : Name) (files : Files) (from to : ℕ) → AllByRecursion (IsAnswerOf files) (answers_in (node_events input (contents (files input)) from to))
own_nodes input files from to = own_range input files from (to - from)
