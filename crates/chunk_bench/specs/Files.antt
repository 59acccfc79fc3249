-- What comes of reading a whole file.
use Rattle.std.specs.Prelude.{◌≡◌, ℕ, List, Option, Some, None, Result, Ok, Err}
use Rattle.std.specs.List.{sum}
use Rattle.sha2.specs.Sha256.{sha256}
use Rattle.trusted_chunks.specs.Opening.{OpensFile, host_part as open_part}
use Rattle.trusted_chunks.specs.Reading.{IsUndamaged, host_part as read_part}
use Rattle.trusted_chunks.specs.declared.fault.ChunkFault.{ChunkFault}
use Rattle.chunk_bench.specs.declared.fault.FileFault.{FileFault}
use Rattle.chunk_bench.specs.declared.fault.FileFault.TheVariants as faults

-- a result, of which only a fault of the host counts as a fault
abbrev pub host_part : Result ℕ FileFault → Result (Unit {0}) (Unit {0})
host_part (Ok total) = Ok tt
host_part (Err (faults.Opening fault)) = open_part {T = ℕ} (Err fault)
host_part (Err (faults.Reading fault)) = read_part {T = ℕ} (Err fault)

-- the bytes are added up; no damage is met
abbrev pub Adds : Result ℕ ChunkFault → List ℕ → Type 0
Adds (Ok total) bytes = total ≡ sum bytes
Adds (Err fault) bytes = IsUndamaged (Err fault)

-- A file, or none where it is absent, was opened under a sum that it has, and its bytes are added up; or it was not opened,
-- which has its cause.
abbrev pub ReadsFile : Result ℕ FileFault → List ℕ → Option (List ℕ) → Type 0
ReadsFile (Ok total) hash None = ⊥
ReadsFile (Ok total) hash (Some bytes) = (sha256 bytes ≡ hash) × (total ≡ sum bytes)
ReadsFile (Err (faults.Opening fault)) hash there = OpensFile (Err fault) hash there
ReadsFile (Err (faults.Reading fault)) hash there = IsUndamaged (Err fault)
