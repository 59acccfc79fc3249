-- Files that have the same blocks up to a number give the same there.
use Rattle.std.proofs.Common.{◌≡◌, ℕ, ◌+◌, ◌<◌, ◌≤◌, List, ◌∙◌, arith}
use Rattle.node_layout.specs.declared.damage.Damage.{Damage}
use Rattle.node_layout.specs.declared.damage.Kind.{Kind}
use Rattle.node_layout.specs.Places.{node_count, parent_of}
use Rattle.node_layout.proofs.Numbers.{parent_before}
use Rattle.node_tree.specs.Opened.{Entry, Opened, was_held, root_opens, child_opens, Fails, is_short, root_fails, child_fails, NothingHeld, BlockOf, block_of}
use Rattle.node_tree.specs.Parts.{IsWhole, IsBroken}
use Rattle.node_tree.proofs.Lively.{touched_live}

abbrev pub SameTo : ℕ → List ℕ → List ℕ → Type 0
SameTo n file other = (k : ℕ) → k < n → block_of file k ≡ block_of other k

pub same_sooner : (m n : ℕ) (file other : List ℕ) → m ≤ n → SameTo n file other → SameTo m file other
same_sooner m n file other le same k lt = same k (omega arith)

module _ (n : ℕ) (file other : List ℕ) (same : SameTo n file other) (root : Entry) where
  pub same_opened : (k : ℕ) (plain : List ℕ) → k < n → Opened NothingHeld (BlockOf file) root k plain → Opened NothingHeld (BlockOf other) root k plain
  same_opened k plain lt (was_held _ _ there) = absurd there
  same_opened k plain lt (root_opens _ block _ missing one gave opens) = root_opens k block plain missing one (gave ∙ same k lt) opens
  same_opened k plain lt (child_opens _ parent block _ missing two up gave opens) =
      child_opens k parent block plain missing two (same_opened (parent_of k) parent (let b = (parent_before k two).1 in omega arith) up) (gave ∙ same k lt) opens

  same_fails : (k : ℕ) (kind : Kind) → k < n → Fails NothingHeld (BlockOf file) root k kind → Fails NothingHeld (BlockOf other) root k kind
  same_fails k kind lt (is_short block missing gave short is) = is_short block missing (gave ∙ same k lt) short is
  same_fails k kind lt (root_fails block missing one gave fails is) = root_fails block missing one (gave ∙ same k lt) fails is
  same_fails k kind lt (child_fails parent block missing two up gave fails is) =
      child_fails parent block missing two (same_opened (parent_of k) parent (let b = (parent_before k two).1 in omega arith) up) (gave ∙ same k lt) fails is

  pub same_whole : (first : List ℕ) (at m : ℕ) (bytes : List ℕ) → node_count (at + m) ≤ n → IsWhole NothingHeld (BlockOf file) root first at m bytes → IsWhole NothingHeld (BlockOf other) root first at m bytes
  same_whole first at m bytes le whole = record {
    plain = whole.plain;
    each = λ k touched. same_opened k (whole.plain k) (let live = touched_live at (at + m) (at + m) k (omega arith) touched in omega arith) (whole.each k touched);
    are = whole.are;
  }

  pub same_broken : (at m : ℕ) (damage : Damage) → damage.node < n → IsBroken NothingHeld (BlockOf file) root at m damage → IsBroken NothingHeld (BlockOf other) root at m damage
  same_broken at m damage lt broken = record {
    touched = broken.touched;
    before = λ k touched sooner. let there = broken.before k touched sooner in (there.0, same_opened k there.0 (omega arith) there.1);
    fails = same_fails damage.node damage.kind lt broken.fails;
  }
