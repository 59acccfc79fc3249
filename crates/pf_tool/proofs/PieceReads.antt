-- A read of the next piece through a tree: what the file so far has grown to, and what it leads to.
use Rattle.std.proofs.Common.{◌≡◌, ◌⊎◌, inl, inr, ℕ, zero, suc, ◌+◌, ◌-◌, ◌*◌, ◌<◌, ◌≤◌, min, false, List, [], ◌∷◌, ◌++◌, length, map, take, refl, ap, ap₂, ◌∙◌, sym, arith, subst, append_assoc, Option, Some, None, Result, Ok, Err}
use Rattle.std.specs.Prelude.{Contains, is_none}
use Rattle.std.specs.List.{range_with_len}
use Rattle.std.specs.List.Sorted.{IsStrictlyIncreasing}
use Rattle.std.proofs.lemmas.Bool.{cases_lt, true≢false}
use Rattle.std.proofs.lemmas.List.{length-append}
use Rattle.std.proofs.lemmas.List.FromFn.{length-range_with_len}
use Rattle.std.proofs.lemmas.List.Elements.{Contains-append_left, Contains-append_right}
use Rattle.node_layout.specs.declared.damage.Damage.{Damage}
use Rattle.node_layout.specs.declared.damage.Kind.{Kind}
use Rattle.node_layout.specs.declared.metadata.MetaSecret.{MetaSecret}
use Rattle.node_layout.specs.Places.{node_count}
use Rattle.node_tree.specs.Opened.{AtNodes, IsAt, Entry, Opened, was_held, root_opens, child_opens, Fails, is_short, root_fails, child_fails, NothingHeld, BlockOf, Given}
use Rattle.node_tree.specs.Touched.{IsTouched, AreTouched}
use Rattle.node_tree.specs.Parts.{IsWhole, IsBroken, PIECE}
use Rattle.node_tree.specs.State.{TreeState, held_at, Held, root_in, readable}
use Rattle.node_tree.specs.Fetching.{AsksInTurn, EachOpens, missing_of}
use Rattle.node_tree.specs.Reading.{Reads, IsOfFile}
use Rattle.node_tree.specs.declared.fault.TreeFault.{TreeFault}
use Rattle.node_tree.specs.declared.fault.TreeFault.TheVariants as faults
use Rattle.node_tree.proofs.Opening.{IsSingle}
use Rattle.node_tree.proofs.Asked.{given_asked, given_single}
use Rattle.node_tree.proofs.OfFile.{file_opened, read_of_file}
use Rattle.pf_io.specs.Host.{Name, Answer, Gave, HostState}
use Rattle.pf_tool.specs.Events.{Answers}
use Rattle.pf_tool.specs.Decrypting.{node_events}
use Rattle.pf_tool.proofs.SameBlocks.{SameTo, same_opened}
use Rattle.pf_tool.proofs.Following.{range_events}
use Rattle.pf_tool.proofs.Numbered.{AreHeldBelow, IsHeldBelow, missing_between, touched_between, rising_range, of_range, in_range}
use Rattle.pf_tool.proofs.Growing.{only_file, AreWhole, Grown, GrownWhole, grow, grow_last, opened_whole}
use Rattle.pf_tool.proofs.Fronts.{root_entry, Ready}

-- The tree holds the nodes below a number and no others, each as the file's blocks open.
pub record Holding (secret : MetaSecret) (file : List ℕ) (n : ℕ) (tree : TreeState) : Type 0 where
  pub size_is : tree.size ≡ secret.size
  pub root_is : root_in tree ≡ root_entry secret
  pub first_is : tree.first ≡ secret.first
  pub of_file : IsOfFile file tree
  pub others : AreHeldBelow (held_at tree) n
  pub below : IsHeldBelow (held_at tree) n

is_held : (o : Option (List ℕ)) (plain : List ℕ) → o ≡ Some plain → is_none o ≡ false
is_held o plain is = ap (λ (p : Option (List ℕ)). is_none p) is

held_is : (o : Option (List ℕ)) → is_none o ≡ false → (plain : List ℕ) × (o ≡ Some plain)
held_is (Some plain) is = (plain, refl)
held_is None is = absurd (true≢false is)

-- what a tree holds opens
pub ready_of : (secret : MetaSecret) (file : List ℕ) (n : ℕ) (tree : TreeState) → length file ≡ 4096 * n → Holding secret file n tree → Ready secret file n
ready_of secret file n tree long holding = record {
  long = long;
  opens = λ k low high.
      let there = held_is (held_at tree k) (holding.below k low high) in
      (there.0, subst (λ (root : Entry). Opened NothingHeld (BlockOf file) root k there.0) holding.root_is (holding.of_file.each k there.0 there.1));
}

-- a front of a range
range_front : (a n : ℕ) (ks ls : List ℕ) → range_with_len a n ≡ ks ++ ls → (ks ≡ range_with_len a (length ks)) × (length ks ≤ n)
range_front a n [] ls is = (refl, omega arith)
range_front a zero (k ∷ ks) ls is = absurd (cc)
range_front a (suc n) (k ∷ ks) ls is =
    let first : a ≡ k = cc in
    let rest : range_with_len (a + 1) n ≡ ks ++ ls = cc in
    let more = range_front (a + 1) n ks ls rest in
    (ap₂ (λ (x : ℕ) (xs : List ℕ). x ∷ xs) (sym first) more.0, let le = more.1 in omega arith)

-- what stands behind a front of a range
range_next : (a n : ℕ) (ks : List ℕ) (k : ℕ) (ls : List ℕ) → range_with_len a n ≡ ks ++ k ∷ ls → (k ≡ a + length ks) × (length ks < n)
range_next a zero [] k ls is = absurd (cc)
range_next a (suc n) [] k ls is =
    let first : a ≡ k = cc in
    (omega (arith, first), omega arith)
range_next a zero (j ∷ ks) k ls is = absurd (cc)
range_next a (suc n) (j ∷ ks) k ls is =
    let rest : range_with_len (a + 1) n ≡ ks ++ k ∷ ls = cc in
    let more = range_next (a + 1) n ks k ls rest in
    (let e = more.0 in omega arith, let le = more.1 in omega arith)

asks_long : (name : Name) (ks : List ℕ) (these : List Answer) → AsksInTurn name ks these → length these ≡ length ks
asks_long name [] [] asks = refl
asks_long name [] (x ∷ these) asks = absurd asks
asks_long name (k ∷ ks) [] asks = absurd asks
asks_long name (k ∷ ks) (x ∷ these) asks = ap suc (asks_long name ks these asks.1)

asks_given : (name : Name) (ks : List ℕ) (these : List Answer) (k : ℕ) → AsksInTurn name ks these → Contains ks k → (block : List ℕ) × Given name these k block
asks_given name [] [] k asks there = absurd (omega (arith, there.1))
asks_given name [] (x ∷ these) k asks there = absurd asks
asks_given name (j ∷ ks) [] k asks there = absurd asks
asks_given name (j ∷ ks) (x ∷ these) k asks (zero, within, is) = (asks.0.0, (0, omega arith, asks.0.1 ∙ ap (λ (n : ℕ). Gave name (4096 * n) 4096 asks.0.0) is))
asks_given name (j ∷ ks) (x ∷ these) k asks (suc i, within, is) = let g = asks_given name ks these k asks.1 (i, omega arith, is) in (g.0, (suc g.1.0, let w = g.1.1 in omega arith, g.1.2))

-- the last answer and those before it
asks_last : (name : Name) (ks : List ℕ) (k : ℕ) (these : List Answer) → AsksInTurn name (ks ++ k ∷ []) these → (front : List Answer) × (block : List ℕ) × AsksInTurn name ks front × (these ≡ front ++ Gave name (4096 * k) 4096 block ∷ [])
asks_last name [] k [] asks = absurd asks
asks_last name [] k (x ∷ []) asks = ([], asks.0.0, tt, ap (λ (a : Answer). a ∷ []) asks.0.1)
asks_last name [] k (x ∷ y ∷ these) asks = absurd asks.1
asks_last name (j ∷ ks) k [] asks = absurd asks
asks_last name (j ∷ ks) k (x ∷ these) asks =
    let more = asks_last name ks k these asks.1 in
    (x ∷ more.0, more.1, (asks.0, more.2), ap (λ (l : List Answer). x ∷ l) more.3)

-- a block that fails is no longer than a node
fails_short : (held given : AtNodes) (root : Entry) → IsSingle given → (k : ℕ) (kind : Kind) (block : List ℕ) → Fails held given root k kind → given k block → length block ≤ 4096
fails_short held given root single k kind block (is_short a missing gave short is) there = let e = ap length (single k block a there gave) in omega (arith, e, short)
fails_short held given root single k kind block (root_fails a missing one gave fails is) there = let e = ap length (single k block a there gave) in omega (arith, e, fails.whole)
fails_short held given root single k kind block (child_fails parent a missing two up gave fails is) there = let e = ap length (single k block a there gave) in omega (arith, e, fails.whole)

-- what opens was held, or a block of it was given
came_from : (held given : AtNodes) (root : Entry) (k : ℕ) (plain : List ℕ) → Opened held given root k plain → held k plain ⊎ IsAt given k
came_from held given root k plain (was_held _ _ there) = inl there
came_from held given root k plain (root_opens _ block _ missing one gave opens) = inr (block, gave)
came_from held given root k plain (child_opens _ parent block _ missing two up gave opens) = inr (block, gave)

-- A whole piece was read: the file has grown by the nodes that it was asked for.
pub record PieceRead (input : Name) (secret : MetaSecret) (at : ℕ) (file : List ℕ) (new : TreeState) (these : List Answer) (piece : List ℕ) : Type 0 where
  pub other : List ℕ
  pub same : SameTo (node_count at) file other
  pub whole : IsWhole NothingHeld (BlockOf other) (root_entry secret) secret.first at (min PIECE (secret.size - at)) piece
  pub long : length other ≡ 4096 * node_count (at + min PIECE (secret.size - at))
  pub holding : Holding secret other (node_count (at + min PIECE (secret.size - at))) new
  pub events : map (λ a. Answers a) these ≡ node_events input other (node_count at) (node_count (at + min PIECE (secret.size - at)))

-- A node is damaged, the last that was asked for.
pub record PieceBroken (input : Name) (secret : MetaSecret) (at : ℕ) (file : List ℕ) (these : List Answer) (damage : Damage) : Type 0 where
  pub other : List ℕ
  pub same : SameTo (node_count at) file other
  pub broken : IsBroken NothingHeld (BlockOf other) (root_entry secret) at (min PIECE (secret.size - at)) damage
  pub events : map (λ a. Answers a) these ≡ node_events input other (node_count at) (damage.node + 1)

-- Nodes up to this one were given, and open.
pub record PieceBegun (input : Name) (secret : MetaSecret) (at : ℕ) (file : List ℕ) (these : List Answer) (j : ℕ) : Type 0 where
  pub other : List ℕ
  pub same : SameTo (node_count at) file other
  pub ready : Ready secret other j
  pub low : node_count at ≤ j
  pub events : map (λ a. Answers a) these ≡ range_events input other (node_count at) (j - node_count at)

module _ (input : Name) (secret : MetaSecret) (at : ℕ) (file : List ℕ) (tree : TreeState) (lt : at < secret.size) (long : length file ≡ 4096 * node_count at) (holding : Holding secret file (node_count at) tree) where
  abbrev n : ℕ
  n = min PIECE (secret.size - at)

  abbrev numbers : List ℕ
  numbers = range_with_len (node_count at) (node_count (at + min PIECE (secret.size - at)) - node_count at)

  not_held : (k : ℕ) → node_count at ≤ k → ¬ (IsAt (Held tree) k)
  not_held k le there = let b = holding.others k (is_held (held_at tree k) there.0 there.1) in omega (arith, le, b.1)

  -- the tree is of each file that has the same blocks so far
  of_same : (other : List ℕ) → SameTo (node_count at) file other → IsOfFile other tree
  of_same other same = record {
    each = λ k plain there. same_opened (node_count at) file other same (root_in tree) k plain (holding.others k (is_held (held_at tree k) plain there)).1 (holding.of_file.each k plain there);
  }

  opened_before : (other : List ℕ) → SameTo (node_count at) file other → (k : ℕ) → 1 ≤ k → k < node_count at → (plain : List ℕ) × Opened NothingHeld (BlockOf other) (root_entry secret) k plain
  opened_before other same k low high =
      let there = held_is (held_at tree k) (holding.below k low high) in
      (there.0, subst (λ (root : Entry). Opened NothingHeld (BlockOf other) root k there.0) holding.root_is ((of_same other same).each k there.0 there.1))

  -- answers that came of a front of the numbers and all open
  module _ (done : List ℕ) (in_order : done ≡ range_with_len (node_count at) (length done)) (these : List Answer) (asks : AsksInTurn input done these) (opens : EachOpens (Held tree) (Given input these) (root_in tree)) where
    done_rising : IsStrictlyIncreasing done
    done_rising = subst IsStrictlyIncreasing (sym in_order) (rising_range (node_count at) (length done))

    done_from : (k : ℕ) → Contains done k → (node_count at ≤ k) × (k < node_count at + length done)
    done_from k there = of_range (node_count at) (length done) k (subst (λ (l : List ℕ). Contains l k) in_order there)

    are_whole : AreWhole input these
    are_whole k block gave =
        let from = done_from k (given_asked input done these k block asks gave) in
        let o = opens k block gave in
        opened_whole (Held tree) (Given input these) (root_in tree) (given_single input done these done_rising asks) k o.0 block o.1 (not_held k from.0) gave

    pub grown_front : GrownWhole input (node_count at) file these
    grown_front = grow input (node_count at) done these file long in_order asks are_whole

    pub ready_front : Ready secret grown_front.other (node_count at + length done)
    ready_front = record {
      long = omega (arith, grown_front.long, asks_long input done these asks);
      opens = λ k low high. elim (cases_lt k (node_count at)) [
        | inl before ↦ opened_before grown_front.other grown_front.grown.same k low before
        | inr later ↦
            let there = subst (λ (l : List ℕ). Contains l k) (sym in_order) (in_range (node_count at) (length done) k later high) in
            let gave = asks_given input done these k asks there in
            let o = opens k gave.0 gave.1 in (
              o.0,
              subst (λ (root : Entry). Opened NothingHeld (BlockOf grown_front.other) root k o.0) holding.root_is
                  (file_opened input these (only_file grown_front.other) grown_front.grown.answers tree (of_same grown_front.other grown_front.grown.same) k o.0 o.1),
            )
      ];
    }

    front_begun : PieceBegun input secret at file these (node_count at + length done)
    front_begun = record {
      other = grown_front.other;
      same = grown_front.grown.same;
      ready = ready_front;
      low = omega arith;
      events = grown_front.grown.events ∙ ap (range_events input grown_front.other (node_count at)) (let e = asks_long input done these asks in omega (arith, e));
    }

  module _ (buffer : List ℕ) (room : length buffer ≡ PIECE) (tree' : TreeState) (before after : HostState) where
    readable_is : readable tree at (length buffer) ≡ min PIECE (secret.size - at)
    readable_is = ap₂ (λ (a b : ℕ). min a (b - at)) room holding.size_is

    missing_are : (result : Result ℕ TreeFault) → (reads : Reads result input at buffer tree tree' before after) → missing_of (held_at tree) reads.numbers ≡ numbers
    missing_are result reads =
        missing_between (held_at tree) at (at + n) reads.numbers (omega arith) holding.others holding.below (subst (λ (m : ℕ). AreTouched at (at + m) reads.numbers) readable_is reads.touched)

    touched_there : (k : ℕ) → node_count at ≤ k → k < node_count (at + n) → IsTouched at (at + n) k
    touched_there k low high = touched_between at (at + n) k (omega arith) low high

    number_touched : (k : ℕ) → Contains numbers k → IsTouched at (at + n) k
    number_touched k there = let b = of_range (node_count at) (node_count (at + n) - node_count at) k there in touched_there k b.0 (omega (arith, b.1))

    numbers_in_order : numbers ≡ range_with_len (node_count at) (length numbers)
    numbers_in_order = ap (range_with_len (node_count at)) (sym (length-range_with_len (node_count at) (node_count (at + n) - node_count at)))

    pub piece_read : (m : ℕ) → (reads : Reads (Ok m) input at buffer tree tree' before after) → PieceRead input secret at file tree' reads.these (take m buffer)
    piece_read m reads =
        let count : m ≡ n = reads.ends.0 ∙ readable_is in
        let asks = subst (λ (l : List ℕ). AsksInTurn input l reads.these) (missing_are (Ok m) reads) reads.asked in
        let given_number = λ (k : ℕ) (block : List ℕ) (gave : Given input reads.these k block). given_asked input numbers reads.these k block asks gave in
        let opens : EachOpens (Held tree) (Given input reads.these) (root_in tree) =
        λ k block gave. (reads.ends.1.plain k, reads.ends.1.each k (subst (λ (j : ℕ). IsTouched at (at + j) k) (sym count) (number_touched k (given_number k block gave)))) in
        let grown = grown_front numbers numbers_in_order reads.these asks opens in
        let many : length reads.these ≡ node_count (at + n) - node_count at = asks_long input numbers reads.these asks ∙ length-range_with_len (node_count at) (node_count (at + n) - node_count at) in
        let more : node_count at ≤ node_count (at + n) = omega arith in
        let file_read = read_of_file (Ok m) input at buffer tree tree' before after reads (only_file grown.other) grown.grown.answers (of_same grown.other grown.grown.same) in
        let root : root_in tree' ≡ root_in tree = ap (λ (t : TreeState). root_in t) reads.rest in
        record {
          other = grown.other;
          same = grown.grown.same;
          whole = subst (λ (j : ℕ). IsWhole NothingHeld (BlockOf grown.other) (root_entry secret) secret.first at j (take m buffer)) count
              (subst (λ (f : List ℕ). IsWhole NothingHeld (BlockOf grown.other) (root_entry secret) f at m (take m buffer)) holding.first_is
              (subst (λ (r : Entry). IsWhole NothingHeld (BlockOf grown.other) r tree.first at m (take m buffer)) holding.root_is file_read.part));
          long = omega (arith, grown.long, many, more);
          holding = record {
            size_is = ap (λ (t : TreeState). t.size) reads.rest ∙ holding.size_is;
            root_is = root ∙ holding.root_is;
            first_is = ap (λ (t : TreeState). t.first) reads.rest ∙ holding.first_is;
            of_file = file_read.of_file;
            others = λ k is.
                let there = held_is (held_at tree' k) is in
                elim (came_from (Held tree) (Given input reads.these) (root_in tree) k there.0 (reads.fetched.came k there.0 there.1)) [
                  | inl held ↦ let b = holding.others k (is_held (held_at tree k) there.0 held) in (b.0, omega (arith, b.1, more))
                  | inr gave ↦ let b = of_range (node_count at) (node_count (at + n) - node_count at) k (given_number k gave.0 gave.1) in (omega (arith, b.0), omega (arith, b.1, more))
                ];
            below = λ k low high. elim (cases_lt k (node_count at)) [
              | inl old ↦ let there = held_is (held_at tree k) (holding.below k low old) in is_held (held_at tree' k) there.0 (reads.fetched.kept k there.0 there.1)
              | inr new ↦ let there = reads.ends.2 k (subst (λ (j : ℕ). IsTouched at (at + j) k) (sym count) (touched_there k new high)) in is_held (held_at tree' k) there.0 there.1
            ];
          };
          events = grown.grown.events ∙ ap (range_events input grown.other (node_count at)) many;
        }

    -- the host failed at a node
    pub piece_failed : (reads : Reads (Err faults.Host) input at buffer tree tree' before after) → (j : ℕ) × PieceBegun input secret at file reads.these j × (j < node_count (at + min PIECE (secret.size - at)))
    piece_failed reads =
        let a = reads.asked in
        let split : numbers ≡ a.done ++ a.next ∷ a.left = sym (missing_are (Err faults.Host) reads) ∙ a.split in
        let front = range_front (node_count at) (node_count (at + n) - node_count at) a.done (a.next ∷ a.left) split in
        let next = range_next (node_count at) (node_count (at + n) - node_count at) a.done a.next a.left split in
        (node_count at + length a.done, front_begun a.done front.0 reads.these a.asks reads.ends, omega (arith, next.1))

    -- there was no memory for a node
    pub piece_starved : (reads : Reads (Err faults.Memory) input at buffer tree tree' before after) → (j : ℕ) × PieceBegun input secret at file reads.these j × (j ≤ node_count (at + min PIECE (secret.size - at)))
    piece_starved reads =
        let a = reads.asked in
        let split : numbers ≡ a.done ++ a.left = sym (missing_are (Err faults.Memory) reads) ∙ a.split in
        let front = range_front (node_count at) (node_count (at + n) - node_count at) a.done a.left split in
        (node_count at + length a.done, front_begun a.done front.0 reads.these a.asks reads.ends, omega (arith, front.1))

    pub piece_broken : (damage : Damage) → (reads : Reads (Err (faults.Damaged damage)) input at buffer tree tree' before after) → PieceBroken input secret at file reads.these damage
    piece_broken damage reads =
        let a = reads.asked in
        let broken = subst (λ (m : ℕ). IsBroken (Held tree) (Given input reads.these) (root_in tree) at m damage) readable_is reads.ends in
        let split : numbers ≡ (a.before ++ damage.node ∷ []) ++ a.left = sym (missing_are (Err (faults.Damaged damage)) reads) ∙ a.split in
        let total = node_count (at + n) - node_count at in
        let all = range_front (node_count at) total (a.before ++ damage.node ∷ []) a.left split in
        let split_here : numbers ≡ a.before ++ damage.node ∷ a.left = split ∙ append_assoc a.before (damage.node ∷ []) a.left in
        let front = range_front (node_count at) total a.before (damage.node ∷ a.left) split_here in
        let next = range_next (node_count at) total a.before damage.node a.left split_here in
        let single = given_single input (a.before ++ damage.node ∷ []) reads.these (subst IsStrictlyIncreasing (sym all.0) (rising_range (node_count at) (length (a.before ++ damage.node ∷ [])))) a.asks in
        let last = asks_last input a.before damage.node reads.these a.asks in
        let given_here = λ (k : ℕ) (block : List ℕ) (gave : Given input last.0 k block).
        subst (λ (l : List Answer). Given input l k block) (sym last.3) (Contains-append_left last.0 (Gave input (4096 * damage.node) 4096 last.1 ∷ []) (Gave input (4096 * k) 4096 block) gave) in
        let front_whole : AreWhole input last.0 = λ k block gave.
        let from = of_range (node_count at) (length a.before) k (subst (λ (l : List ℕ). Contains l k) front.0 (given_asked input a.before last.0 k block last.2 gave)) in
        let o = broken.before k (touched_there k from.0 (omega (arith, from.1, next.1))) (omega (arith, from.1, next.0)) in
        opened_whole (Held tree) (Given input reads.these) (root_in tree) single k o.0 block o.1 (not_held k from.0) (given_here k block gave) in
        let gave_last : Given input reads.these damage.node last.1 =
        subst (λ (l : List Answer). Given input l damage.node last.1) (sym last.3) (Contains-append_right last.0 (Gave input (4096 * damage.node) 4096 last.1 ∷ []) (Gave input (4096 * damage.node) 4096 last.1) (0, omega arith, refl)) in
        let short = fails_short (Held tree) (Given input reads.these) (root_in tree) single damage.node damage.kind last.1 broken.fails gave_last in
        let number : damage.node ≡ node_count at + length last.0 = omega (arith, next.0, asks_long input a.before last.0 last.2) in
        let grown = grow_last input (node_count at) a.before last.0 last.1 file long front.0 last.2 front_whole short in
        let these_are : last.0 ++ Gave input (4096 * (node_count at + length last.0)) 4096 last.1 ∷ [] ≡ reads.these = ap (λ (k : ℕ). last.0 ++ Gave input (4096 * k) 4096 last.1 ∷ []) (sym number) ∙ sym last.3 in
        let all_grown = subst (λ (l : List Answer). Grown input (node_count at) file l grown.0) these_are grown.1 in
        let file_read = read_of_file (Err (faults.Damaged damage)) input at buffer tree tree' before after reads (only_file grown.0) all_grown.answers (of_same grown.0 all_grown.same) in
        record {
          other = grown.0;
          same = all_grown.same;
          broken = subst (λ (m : ℕ). IsBroken NothingHeld (BlockOf grown.0) (root_entry secret) at m damage) readable_is
              (subst (λ (r : Entry). IsBroken NothingHeld (BlockOf grown.0) r at (readable tree at (length buffer)) damage) holding.root_is file_read.part);
          events = all_grown.events ∙ ap (range_events input grown.0 (node_count at)) (let e = asks_long input (a.before ++ damage.node ∷ []) reads.these a.asks in omega (arith, e, length-append a.before (damage.node ∷ []), next.0));
        }
