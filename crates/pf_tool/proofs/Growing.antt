-- A file put together of the blocks that were given, one behind the other.
use Rattle.std.proofs.Common.{◌≡◌, ℕ, zero, suc, ◌+◌, ◌*◌, ◌<◌, ◌≤◌, List, [], ◌∷◌, ◌++◌, length, map, take, drop, refl, ap, ap₂, ◌∙◌, sym, arith, subst, Some}
use Rattle.std.specs.List.{range_with_len, AllByRecursion}
use Rattle.std.proofs.lemmas.List.{length-append, length-drop, take-append-le, drop-append-le, take_all, drop_all}
use Rattle.pf_io.specs.Host.{Name, Files, Answer, Gave}
use Rattle.pf_io.specs.Answered.{IsAnswerOf}
use Rattle.node_tree.specs.Opened.{AtNodes, IsAt, Entry, Opened, was_held, root_opens, child_opens, Given, block_of}
use Rattle.node_tree.specs.Fetching.{AsksInTurn}
use Rattle.node_tree.proofs.Opening.{IsSingle}
use Rattle.pf_tool.specs.Events.{Event, Answers}
use Rattle.pf_tool.proofs.SameBlocks.{SameTo}
use Rattle.pf_tool.proofs.Following.{range_events}

-- the files of a host that has this one alone, under any name
abbrev pub only_file : List ℕ → Files
only_file file name = Some file

block_before : (file more : List ℕ) (n k : ℕ) → length file ≡ 4096 * n → k < n → block_of (file ++ more) k ≡ block_of file k
block_before file more n k long lt =
    ap (take 4096) (drop-append-le (4096 * k) file more (omega (arith, long))) ∙ take-append-le 4096 (drop (4096 * k) file) more (omega (arith, long, length-drop (4096 * k) file))

block_new : (file block : List ℕ) (n : ℕ) → length file ≡ 4096 * n → length block ≤ 4096 → block_of (file ++ block) n ≡ block
block_new file block n long short =
    let rest : drop (4096 * n) (file ++ block) ≡ block = drop-append-le (4096 * n) file block (omega (arith, long)) ∙ ap (λ (l : List ℕ). l ++ block) (drop_all (4096 * n) file (omega (arith, long))) in
    ap (take 4096) rest ∙ take_all 4096 block short

-- a file has no block behind its end
pub block_past : (file : List ℕ) (n : ℕ) → length file ≡ 4096 * n → block_of file n ≡ []
block_past file n long = ap (take 4096) (drop_all (4096 * n) file (omega (arith, long)))

-- The file with one more block: what it had it has still.
pub record Grown (name : Name) (n : ℕ) (file : List ℕ) (these : List Answer) (other : List ℕ) : Type 0 where
  pub same : SameTo n file other
  pub answers : AllByRecursion (IsAnswerOf (only_file other)) these
  pub events : map (λ a. Answers a) these ≡ range_events name other n (length these)

-- one block
pub grown_one : (name : Name) (n : ℕ) (file block : List ℕ) → length file ≡ 4096 * n → length block ≤ 4096 → Grown name n file (Gave name (4096 * n) 4096 block ∷ []) (file ++ block)
grown_one name n file block long short = record {
  same = λ k lt. sym (block_before file block n k long lt);
  answers = (sym (block_new file block n long short), tt);
  events = ap (λ (b : List ℕ). Answers (Gave name (4096 * n) 4096 b) ∷ []) (sym (block_new file block n long short));
}

-- whole blocks of the next nodes
pub record GrownWhole (name : Name) (n : ℕ) (file : List ℕ) (these : List Answer) : Type 0 where
  pub other : List ℕ
  pub long : length other ≡ 4096 * (n + length these)
  pub grown : Grown name n file these other

-- each block that was given is a whole one
abbrev pub AreWhole : Name → List Answer → Type 0
AreWhole name these = (k : ℕ) (block : List ℕ) → Given name these k block → length block ≡ 4096

head_of : (k : ℕ) (ks : List ℕ) (n : ℕ) → k ∷ ks ≡ range_with_len n (suc (length ks)) → k ≡ n
head_of k ks n same = cc

tail_of : (k : ℕ) (ks : List ℕ) (n : ℕ) → k ∷ ks ≡ range_with_len n (suc (length ks)) → ks ≡ range_with_len (n + 1) (length ks)
tail_of k ks n same = cc

-- a block, and then more
grown_then : (name : Name) (n k : ℕ) (file block : List ℕ) (x : Answer) (these : List Answer) (other : List ℕ) → k ≡ n → x ≡ Gave name (4096 * k) 4096 block → length file ≡ 4096 * n → length block ≡ 4096 → Grown name (n + 1) (file ++ block) these other
    → Grown name n file (x ∷ these) other
grown_then name n k file block x these other first gave long full more =
    let is : x ≡ Gave name (4096 * n) 4096 block = gave ∙ ap (λ (j : ℕ). Gave name (4096 * j) 4096 block) first in
    let one = grown_one name n file block long (omega (arith, full)) in
    let here : block ≡ block_of other n = one.answers.0 ∙ more.same n (omega arith) in
    record {
      same = λ j lt. one.same j lt ∙ more.same j (omega arith);
      answers = (subst (IsAnswerOf (only_file other)) (sym is) here, more.answers);
      events = ap₂ (λ (a : Answer) (l : List Event). Answers a ∷ l) (is ∙ ap (λ (b : List ℕ). Gave name (4096 * n) 4096 b) here) more.events;
    }

pub grow : (name : Name) (n : ℕ) (ks : List ℕ) (these : List Answer) (file : List ℕ) → length file ≡ 4096 * n → ks ≡ range_with_len n (length ks) → AsksInTurn name ks these → AreWhole name these → GrownWhole name n file these
grow name n [] [] file long in_order asks whole = record { other = file; long = let e : n + zero ≡ n = omega arith in omega (arith, long); grown = record { same = λ k lt. refl; answers = tt; events = refl } }
grow name n [] (x ∷ these) file long in_order asks whole = absurd asks
grow name n (k ∷ ks) [] file long in_order asks whole = absurd asks
grow name n (k ∷ ks) (x ∷ these) file long in_order asks whole =
    let block = asks.0.0 in
    let full : length block ≡ 4096 = whole k block (0, omega arith, asks.0.1) in
    let more = grow name (n + 1) ks these (file ++ block) (omega (arith, length-append file block, long, full)) (tail_of k ks n in_order) asks.1 (λ j b there. whole j b (suc there.0, let w = there.1 in omega arith, there.2)) in
    record { other = more.other; long = omega (arith, more.long); grown = grown_then name n k file block x these more.other (head_of k ks n in_order) asks.0.1 long full more.grown }

-- whole blocks, and one more that may be short
pub grow_last : (name : Name) (n : ℕ) (ks : List ℕ) (these : List Answer) (last : List ℕ) (file : List ℕ) → length file ≡ 4096 * n → ks ≡ range_with_len n (length ks) → AsksInTurn name ks these → AreWhole name these → length last ≤ 4096
    → (other : List ℕ) × Grown name n file (these ++ Gave name (4096 * (n + length these)) 4096 last ∷ []) other
grow_last name n [] [] last file long in_order asks whole short =
    let e : n ≡ n + zero = omega arith in
    (file ++ last, subst (λ (j : ℕ). Grown name n file (Gave name (4096 * j) 4096 last ∷ []) (file ++ last)) e (grown_one name n file last long short))
grow_last name n [] (x ∷ these) last file long in_order asks whole short = absurd asks
grow_last name n (k ∷ ks) [] last file long in_order asks whole short = absurd asks
grow_last name n (k ∷ ks) (x ∷ these) last file long in_order asks whole short =
    let block = asks.0.0 in
    let full : length block ≡ 4096 = whole k block (0, omega arith, asks.0.1) in
    let more = grow_last name (n + 1) ks these last (file ++ block) (omega (arith, length-append file block, long, full)) (tail_of k ks n in_order) asks.1 (λ j b there. whole j b (suc there.0, let w = there.1 in omega arith, there.2)) short in
    let e : (n + 1) + length these ≡ n + suc (length these) = omega arith in
    let grown = subst (λ (j : ℕ). Grown name (n + 1) (file ++ block) (these ++ Gave name (4096 * j) 4096 last ∷ []) more.0) e more.1 in
    (more.0, grown_then name n k file block x (these ++ Gave name (4096 * (n + suc (length these))) 4096 last ∷ []) more.0 (head_of k ks n in_order) asks.0.1 long full grown)

-- a block that opened is a whole one
pub opened_whole : (held given : AtNodes) (root : Entry) → IsSingle given → (k : ℕ) (plain block : List ℕ) → Opened held given root k plain → ¬ (IsAt held k) → given k block → length block ≡ 4096
opened_whole held given root single k plain block (was_held _ _ there) missing gave = absurd (missing (plain, there))
opened_whole held given root single k plain block (root_opens _ a _ _ one gave' opens) missing gave = ap length (single k block a gave gave') ∙ opens.whole
opened_whole held given root single k plain block (child_opens _ parent a _ _ two up gave' opens) missing gave = ap length (single k block a gave gave') ∙ opens.whole
