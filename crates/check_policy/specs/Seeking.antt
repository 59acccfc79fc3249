-- The search for the mount that serves a path.
use Rattle.std.specs.Prelude.{◌≡◌, ℕ, ◌<◌, ◌≤◌, ◌==◌, Bool, true, List, [], ◌∷◌, ◌++◌, Option, Some, None}
use Rattle.pf_io.specs.Names.{SLASH}
use Rattle.std.specs.List.{slice_get}
use Rattle.manifest_model.specs.declared.entries.Mount.{Mount}
use Rattle.manifest_model.specs.Names.{is_absolute, normal, behind}
use Rattle.check_policy.specs.Places.{parts_of, depth, Begins, Serves}

-- an absolute name in normal form
pub record IsNormal (path : List ℕ) : Type 0 where
  pub same : normal path ≡ path
  pub absolute : is_absolute path ≡ true

-- a part ends where the text begins: the text is empty or begins with a slash
abbrev pub is_edge : List ℕ → Bool
is_edge [] = true
is_edge (byte ∷ bytes) = byte == SLASH

-- parts begin others, and the text is what stands behind them, each part behind a slash
pub record Leaves (front ps : List (List ℕ)) (text : List ℕ) : Type 0 where
  pub rest : List (List ℕ)
  pub whole : ps ≡ front ++ rest
  pub written : text ≡ behind rest

-- The best of the first n mounts for a path's parts: none of them begins it, or the last with the most parts.
pub data IsBest (mounts : List Mount) (ps : List (List ℕ)) (n : ℕ) : Option (Mount × List ℕ) → Type 0 where
  Missing : ((k : ℕ) → k < n → (other : Mount) → slice_get mounts k ≡ Some other → Begins (parts_of other) ps → ⊥) → IsBest mounts ps n None
  Found : {mount : Mount} {text : List ℕ} (place : ℕ) → slice_get mounts place ≡ Some mount → Leaves (parts_of mount) ps text
      → ((k : ℕ) → k < n → (other : Mount) → slice_get mounts k ≡ Some other → Begins (parts_of other) ps → depth other ≤ depth mount)
      → ((k : ℕ) → k < n → (other : Mount) → slice_get mounts k ≡ Some other → Begins (parts_of other) ps → depth other ≡ depth mount → k ≤ place)
      → IsBest mounts ps n (Some (mount, text))

-- the mount that serves a path's parts, and the text of the rest
pub record IsServing (mounts : List Mount) (ps : List (List ℕ)) (mount : Mount) (text : List ℕ) : Type 0 where
  pub rest : List (List ℕ)
  pub serves : Serves mounts ps mount rest
  pub written : text ≡ behind rest
