-- How nodes come to be held.
use Rattle.std.proofs.Common.{◌≡◌, inl, inr, ℕ, ◌*◌, List, ◌++◌, subst}
use Rattle.std.proofs.lemmas.List.Elements.{Contains-append_left, Contains-append_right}
use Rattle.node_layout.specs.declared.damage.Kind.{Kind}
use Rattle.pf_io.specs.Host.{Name, Answer, Gave}
use Rattle.node_layout.specs.Places.{parent_of, slot_of}
use Rattle.node_layout.specs.Entries.{entry_at}
use Rattle.node_tree.specs.Opened.{AtNodes, IsAt, Entry, OpensUnder, FailsUnder, Opened, was_held, root_opens, child_opens, Fails, is_short, root_fails, child_fails, Given}
use Rattle.node_tree.specs.Fetching.{HasEntry, of_root, of_parent, BlockFails, Fetched}

under : (e f : Entry) (block plain : List ℕ) → e ≡ f → OpensUnder e block plain → OpensUnder f block plain
under e f block plain same o = subst (λ (x : Entry). OpensUnder x block plain) same o

fails_under : (e f : Entry) (block : List ℕ) → e ≡ f → FailsUnder e block → FailsUnder f block
fails_under e f block same o = subst (λ (x : Entry). FailsUnder x block) same o

-- a block that opens under the entry of its node
pub opened_by : (held given : AtNodes) (root entry : Entry) (k : ℕ) (block plain : List ℕ) → ¬ (IsAt held k) → HasEntry held root k entry → given k block → OpensUnder entry block plain → Opened held given root k plain
opened_by held given root entry k block plain missing (of_root one is) there opens = root_opens k block plain missing one there (under entry root block plain is opens)
opened_by held given root entry k block plain missing (of_parent parent two up is) there opens =
    child_opens k parent block plain missing two (was_held (parent_of k) parent up) there (under entry (entry_at parent (slot_of k)) block plain is opens)

-- a block that is none
pub fails_by : (held given : AtNodes) (root entry : Entry) (k : ℕ) (block : List ℕ) (kind : Kind) → ¬ (IsAt held k) → HasEntry held root k entry → given k block → BlockFails entry block kind → Fails held given root k kind
fails_by held given root entry k block kind missing has there (inl (short, is)) = is_short block missing there short is
fails_by held given root entry k block kind missing (of_root one same) there (inr (fails, is)) = root_fails block missing one there (fails_under entry root block same fails) is
fails_by held given root entry k block kind missing (of_parent parent two up same) there (inr (fails, is)) =
    child_fails parent block missing two (was_held (parent_of k) parent up) there (fails_under entry (entry_at parent (slot_of k)) block same fails) is

-- What opens from nodes that came of others, opens from the others.
module _ (held mid given given' all : AtNodes) (root : Entry)
    (kept : (k : ℕ) (plain : List ℕ) → held k plain → mid k plain) (came : (k : ℕ) (plain : List ℕ) → mid k plain → Opened held given root k plain)
    (first : (k : ℕ) (block : List ℕ) → given k block → all k block) (second : (k : ℕ) (block : List ℕ) → given' k block → all k block) where
  wider : (k : ℕ) (plain : List ℕ) → Opened held given root k plain → Opened held all root k plain
  wider k plain (was_held _ _ there) = was_held k plain there
  wider k plain (root_opens _ block _ missing one there opens) = root_opens k block plain missing one (first k block there) opens
  wider k plain (child_opens _ parent block _ missing two up there opens) = child_opens k parent block plain missing two (wider (parent_of k) parent up) (first k block there) opens

  missing_before : (k : ℕ) → ¬ (IsAt mid k) → ¬ (IsAt held k)
  missing_before k missing there = missing (there.0, kept k there.0 there.1)

  pub opened_then : (k : ℕ) (plain : List ℕ) → Opened mid given' root k plain → Opened held all root k plain
  opened_then k plain (was_held _ _ there) = wider k plain (came k plain there)
  opened_then k plain (root_opens _ block _ missing one there opens) = root_opens k block plain (missing_before k missing) one (second k block there) opens
  opened_then k plain (child_opens _ parent block _ missing two up there opens) = child_opens k parent block plain (missing_before k missing) two (opened_then (parent_of k) parent up) (second k block there) opens

  pub fails_then : (k : ℕ) (kind : Kind) → Fails mid given' root k kind → Fails held all root k kind
  fails_then k kind (is_short block missing there short is) = is_short block (missing_before k missing) (second k block there) short is
  fails_then k kind (root_fails block missing one there fails is) = root_fails block (missing_before k missing) one (second k block there) fails is
  fails_then k kind (child_fails parent block missing two up there fails is) = child_fails parent block (missing_before k missing) two (opened_then (parent_of k) parent up) (second k block there) fails is

-- nothing was fetched
pub fetched_none : (held given : AtNodes) (root : Entry) → Fetched held held given root
fetched_none held given root = record { kept = λ k plain there. there; came = λ k plain there. was_held k plain there }

-- nodes fetched, and then others
pub fetched_then : (held mid new : AtNodes) (root : Entry) (name : Name) (xs ys : List Answer) → Fetched held mid (Given name xs) root → Fetched mid new (Given name ys) root
    → Fetched held new (Given name (xs ++ ys)) root
fetched_then held mid new root name xs ys first second = record {
  kept = λ k plain there. second.kept k plain (first.kept k plain there);
  came = λ k plain there. opened_then held mid (Given name xs) (Given name ys) (Given name (xs ++ ys)) root first.kept first.came
      (λ j block. Contains-append_left xs ys (Gave name (4096 * j) 4096 block)) (λ j block. Contains-append_right xs ys (Gave name (4096 * j) 4096 block)) k plain (second.came k plain there);
}
