-- Chunks of small files, and chunks that are kept, computed.
use Rattle.std.specs.Prelude.{◌≡◌, [], ◌∷◌}
use Rattle.trusted_chunks.specs.Chunks.{chunk_count}
use Rattle.trusted_chunks.specs.State.{Kept}
use Rattle.trusted_chunks.specs.Kept.{touched, missing_of, used, kept_with}

-- how many chunks a length has
pub record CountsAre : Type 0 where
  pub empty : chunk_count 0 ≡ 0
  pub one_byte : chunk_count 1 ≡ 1
  pub whole : chunk_count 16384 ≡ 1
  pub one_more : chunk_count 16385 ≡ 2
  pub three : chunk_count 40000 ≡ 3
  pub most : chunk_count 4294967296 ≡ 262144

-- which chunks are touched
pub record TouchedAre : Type 0 where
  pub none : touched 5 0 ≡ []
  pub both_sides : touched 16383 2 ≡ 0 ∷ 1 ∷ []
  pub last : touched 32768 7232 ≡ 2 ∷ []
  pub three : touched 1 32768 ≡ 0 ∷ 1 ∷ 2 ∷ []

-- four chunks, of which chunk 7 was used last
abbrev pub four : Kept
four = (7, 70 ∷ []) ∷ (3, 30 ∷ []) ∷ (5, 50 ∷ []) ∷ (1, 10 ∷ []) ∷ []

-- what is kept when chunks 4 and 5 are read: 5 comes to the front, 4 is missing and is put before it, and 1 goes
pub record KeptAre : Type 0 where
  pub missing : missing_of four (4 ∷ 5 ∷ []) ≡ 4 ∷ []
  pub used_first : used (4 ∷ 5 ∷ []) four ≡ (5, 50 ∷ []) ∷ (7, 70 ∷ []) ∷ (3, 30 ∷ []) ∷ (1, 10 ∷ []) ∷ []
  pub last_goes : kept_with ((4, 40 ∷ []) ∷ []) (used (4 ∷ 5 ∷ []) four) ≡ (4, 40 ∷ []) ∷ (5, 50 ∷ []) ∷ (7, 70 ∷ []) ∷ (3, 30 ∷ []) ∷ []
