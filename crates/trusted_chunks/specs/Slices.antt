-- The slices that a host gives of a file's chunks.
use Rattle.std.specs.Prelude.{ℕ, ◌*◌, List, map}
use Rattle.pf_io.specs.Host.{Name, Answer, Gave}
use Rattle.trusted_chunks.specs.Chunks.{CHUNK}

-- the answers of asking for some chunks, each at its place with room for a whole one
abbrev pub chunk_answer : Name → ℕ × List ℕ → Answer
chunk_answer name chunk = Gave name (CHUNK * chunk.0) CHUNK chunk.1

abbrev pub chunks_given : Name → List (ℕ × List ℕ) → List Answer
chunks_given name chunks = map (chunk_answer name) chunks
