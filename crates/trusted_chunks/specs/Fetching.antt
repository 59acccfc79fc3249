-- One chunk that is fetched.
use Rattle.std.specs.Prelude.{◌≡◌, ◌≢◌, ◌*◌, ℕ, List, [], slice_index_or, Result, Ok, Err}
use Rattle.sha2.specs.Sha256.{sha256}
use Rattle.pf_io.specs.Host.{Name, HostState}
use Rattle.trusted_chunks.specs.Chunks.{CHUNK}
use Rattle.pf_io.specs.Slices.{SliceCame, NoSliceCame}
use Rattle.trusted_chunks.specs.declared.fault.ChunkFault.{ChunkFault}
use Rattle.trusted_chunks.specs.declared.fault.ChunkFault.TheVariants as faults

abbrev pub hash_in : List (List ℕ) → ℕ → List ℕ
hash_in hashes c = slice_index_or hashes c []

-- how the fetching of a chunk with this sum ends
abbrev pub ChunkEnds : Result (List ℕ) ChunkFault → Name → ℕ → List ℕ → HostState → HostState → Type 0
ChunkEnds (Ok slice) name c hash before after = SliceCame name (CHUNK * c) slice before after × (sha256 slice ≡ hash)
ChunkEnds (Err (faults.Damaged d)) name c hash before after = (d ≡ c) × ((slice : List ℕ) × SliceCame name (CHUNK * c) slice before after × (sha256 slice ≢ hash))
ChunkEnds (Err faults.Host) name c hash before after = NoSliceCame 1 before after
ChunkEnds (Err faults.Memory) name c hash before after = NoSliceCame 0 before after
