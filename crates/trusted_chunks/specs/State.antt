-- What contracts see of a trusted file.
use Rattle.std.specs.Prelude.{◌≡◌, ℕ, ◌≤◌, List, length, slice_index_or, [], Contains, refl}
use Rattle.std.specs.Coded.{Coded, code_by, coded×, coded_ℕ, coded_list}
use Rattle.pf_io.specs.Host.{Name}
use Rattle.pf_io.specs.Slices.{MOST_BYTES}
use Rattle.trusted_chunks.specs.Chunks.{chunk, chunk_count, sums_of}

-- chunks with their numbers, the most recently used first
abbrev pub Kept : Type 0
Kept = List (ℕ × List ℕ)

-- `size` is the length of the bytes taken at the opening, `hashes` has the sums of their chunks, and `kept` the chunks that are kept
pub record FileState : Type 0 where
  pub name : Name
  pub size : ℕ
  pub hashes : List (List ℕ)
  pub kept : Kept

abbrev pub bytes_code : Coded (List ℕ)
bytes_code = coded_list coded_ℕ

-- a state as pairs of its fields
abbrev pub state_code : Coded FileState
state_code =
    code_by (List ℕ × (ℕ × (List (List ℕ) × List (ℕ × List ℕ))))
    (coded× bytes_code (coded× coded_ℕ (coded× (coded_list bytes_code) (coded_list (coded× coded_ℕ bytes_code)))))
    (λ s. (s.name, (s.size, (s.hashes, s.kept))))
    (λ p. record { name = p.0; size = p.1.0; hashes = p.1.1.0; kept = p.1.1.1 })
    (λ _. refl)

-- the most chunks that are kept
abbrev pub MOST_KEPT : ℕ
MOST_KEPT = 4

-- The file holds the bytes: it has their length, the sums of their chunks in order, and of each chunk that is kept its bytes.
pub record Holds (file : FileState) (bytes : List ℕ) : Type 0 where
  pub size_is : file.size ≡ length bytes
  pub hashes_are : file.hashes ≡ sums_of bytes
  pub kept_are : (c : ℕ) (kept : List ℕ) → Contains file.kept (c, kept) → kept ≡ chunk bytes c

-- the sum that chunk c was found to have
abbrev pub hash_at : FileState → ℕ → List ℕ
hash_at file c = slice_index_or file.hashes c []

-- what holds of each trusted file
pub record IsSound (file : FileState) : Type 0 where
  pub within : file.size ≤ MOST_BYTES
  pub one_each : length file.hashes ≡ chunk_count file.size
  pub few : length file.kept ≤ MOST_KEPT
