-- Names of files on a host.
use Rattle.std.specs.Prelude.{◌≡◌, ◌≢◌, ℕ, ◌≤◌, ◌==◌, if◌then◌else◌, All, List, [], ◌∷◌, ◌++◌, length, fold, codes}

abbrev pub LONGEST : ℕ
LONGEST = 512

-- 1 to 512 bytes, none of them 0
pub record IsName (name : List ℕ) : Type 0 where
  pub not_empty : 1 ≤ length name
  pub not_long : length name ≤ LONGEST
  pub no_zero : All (λ byte. byte ≢ 0) name

abbrev pub SLASH : ℕ
SLASH = 47

-- each `/` begins the part anew
abbrev pub part_with : List ℕ → ℕ → List ℕ
part_with part byte = if byte == SLASH then [] else part ++ byte ∷ []

-- the part after the last `/`
abbrev pub last_part : List ℕ → List ℕ
last_part name = fold part_with [] name

pub record EndsIn (end part : List ℕ) : Type 0 where
  pub front : List ℕ
  pub whole : part ≡ front ++ end

-- the last part of a name that a protected file may have
pub record IsTargetPart (part : List ℕ) : Type 0 where
  pub not_empty : part ≢ []
  pub not_this_folder : part ≢ codes "."
  pub not_folder_above : part ≢ codes ".."
  pub no_recovery_file : EndsIn (codes ".recovery") part → ⊥
  pub no_side_file : EndsIn (codes ".new") part → ⊥

-- a name that a protected file may have
pub record IsTarget (name : List ℕ) : Type 0 where
  pub is_name : IsName name
  pub is_part : IsTargetPart (last_part name)

-- the name of the recovery file of a name
abbrev pub recovery_of : List ℕ → List ℕ
recovery_of name = name ++ codes ".recovery"

-- the name of the side file that a name's next file is made under
abbrev pub side_of : List ℕ → List ℕ
side_of name = name ++ codes ".new"

-- the name of the recovery file of the side file
abbrev pub side_recovery_of : List ℕ → List ℕ
side_recovery_of name = name ++ codes ".new.recovery"
