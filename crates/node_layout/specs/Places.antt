-- Where the nodes of a protected file stand. Division drops the rest, and a difference below zero is zero.
use Rattle.std.specs.Prelude.{◌≡◌, ◌≢◌, ◌⊎◌, ◌↔◌, ℕ, zero, suc, ◌+◌, ◌-◌, ◌*◌, ◌/◌, ◌%◌, ◌<◌, ◌≤◌, ◌==◌, if◌then◌else◌}

-- data node d stands behind the root, the data nodes before it and their other hash-tree nodes
abbrev pub data_place : ℕ → ℕ
data_place d = 2 + d + d / 96

-- hash-tree node m; the root is 0
abbrev pub mht_place : ℕ → ℕ
mht_place m = 1 + 97 * m

-- the hash-tree node with the entry of data node d
abbrev pub leaf_of : ℕ → ℕ
leaf_of d = d / 96

-- the hash-tree node with the entry of hash-tree node m; the root is its own
abbrev pub up : ℕ → ℕ
up m = (m - 1) / 32

-- n levels up
abbrev pub levels_up : ℕ → ℕ → ℕ
levels_up zero m = m
levels_up (suc n) m = levels_up n (up m)

-- the hash-tree nodes from the leaf of data node d up to the root
abbrev pub IsOnPath : ℕ → ℕ → Type 0
IsOnPath d m = (n : ℕ) × (m ≡ levels_up n (leaf_of d))

-- how many data nodes, hash-tree nodes, and nodes in all a content of s bytes has; node 0 has its first 3072 bytes
abbrev pub data_count : ℕ → ℕ
data_count s = (s - 3072 + 4095) / 4096

abbrev pub mht_count : ℕ → ℕ
mht_count s = (data_count s + 95) / 96

abbrev pub node_count : ℕ → ℕ
node_count s = 1 + data_count s + mht_count s

-- the node with the entry of node k, for k from 2 on, and the place of that entry in it
abbrev pub parent_of : ℕ → ℕ
parent_of k = if (k - 1) % 97 == 0 then mht_place (up ((k - 1) / 97)) else mht_place ((k - 1) / 97)

abbrev pub slot_of : ℕ → ℕ
slot_of k = if (k - 1) % 97 == 0 then 96 + ((k - 1) / 97 - 1) % 32 else (k - 1) % 97 - 1

-- Each number from 1 on is that of exactly one data node or one hash-tree node.
pub record NumberTheNodes : Type 0 where
  pub each : (k : ℕ) → 1 ≤ k → ((d : ℕ) × (k ≡ data_place d)) ⊎ ((m : ℕ) × (k ≡ mht_place m))
  pub one_data : (d e : ℕ) → data_place d ≡ data_place e → d ≡ e
  pub one_mht : (m n : ℕ) → mht_place m ≡ mht_place n → m ≡ n
  pub not_both : (d m : ℕ) → data_place d ≢ mht_place m

-- The parent of a number and the place there are those of its data node or hash-tree node, and the parent comes first.
pub record HaveParents : Type 0 where
  pub of_data : (d : ℕ) → (parent_of (data_place d) ≡ mht_place (leaf_of d)) × (slot_of (data_place d) ≡ d % 96)
  pub of_mht : (m : ℕ) → 1 ≤ m → (parent_of (mht_place m) ≡ mht_place (up m)) × (slot_of (mht_place m) ≡ 96 + (m - 1) % 32)
  pub before : (k : ℕ) → 2 ≤ k → (1 ≤ parent_of k) × (parent_of k < k)
  pub places : (k : ℕ) → slot_of k < 128

-- Each entry of a hash-tree node is that of one other node.
abbrev pub EntriesAreApart : Type 0
EntriesAreApart = (j k : ℕ) → 2 ≤ j → 2 ≤ k → parent_of j ≡ parent_of k → slot_of j ≡ slot_of k → j ≡ k

-- The nodes of a content are the numbers below its count.
pub record AreLive : Type 0 where
  pub data_live : (s d : ℕ) → (data_place d < node_count s) ↔ (d < data_count s)
  pub mht_live : (s m : ℕ) → (mht_place m < node_count s) ↔ (m < mht_count s)
