-- What a read of a trusted file comes to.
use Rattle.std.specs.Prelude.{◌≡◌, ◌≢◌, ℕ, ◌+◌, ◌-◌, ◌%◌, min, List, [], ◌∷◌, ◌++◌, length, take, drop, Result, Ok, Err, IsSome, Contains}
use Rattle.std.specs.List.{AllByRecursion}
use Rattle.sha2.specs.Sha256.{sha256}
use Rattle.pf_io.specs.Host.{Name, Answer, HostState, OnHonest, contents}
use Rattle.pf_io.specs.Answered.{Answered, Came}
use Rattle.trusted_chunks.specs.Chunks.{CHUNK, NoAccident}
use Rattle.trusted_chunks.specs.State.{Kept, FileState, Holds, hash_at}
use Rattle.trusted_chunks.specs.Kept.{touched, kept_at, missing_of, used, kept_with, joined, numbers_of}
use Rattle.pf_io.specs.Slices.{CountsSlices}
use Rattle.trusted_chunks.specs.Slices.{chunks_given, chunk_answer}
use Rattle.trusted_chunks.specs.declared.fault.ChunkFault.{ChunkFault}
use Rattle.trusted_chunks.specs.declared.fault.ChunkFault.TheVariants as faults

-- a result, of which only a fault of the host counts as a fault
abbrev pub host_part : {T : Type 0} → Result T ChunkFault → Result (Unit {0}) (Unit {0})
host_part (Ok value) = Ok tt
host_part (Err (faults.Damaged c)) = Ok tt
host_part (Err faults.Host) = Err tt
host_part (Err faults.Memory) = Ok tt

-- how many bytes of a room can be read from a place on
abbrev pub readable : FileState → ℕ → ℕ → ℕ
readable file at room = min room (file.size - at)

-- the chunks that a read touches
abbrev pub touched_by : FileState → ℕ → ℕ → List ℕ
touched_by file at room = touched at (readable file at room)

-- each chunk has the sum that it was found to have
abbrev pub AreRight : (ℕ → List ℕ) → List (ℕ × List ℕ) → Type 0
AreRight hash chunks = AllByRecursion (λ chunk. sha256 chunk.1 ≡ hash chunk.0) chunks

-- some of the numbers came, and then this one is next
abbrev pub NextIs : List ℕ → List (ℕ × List ℕ) → ℕ → Type 0
NextIs numbers came c = (rest : List ℕ) × (numbers ≡ numbers_of came ++ c ∷ rest)

-- the next chunk came and has another sum than it was found to have
pub record CameWrong (name : Name) (hash : ℕ → List ℕ) (numbers : List ℕ) (came : List (ℕ × List ℕ)) (these : List Answer) (c : ℕ) : Type 0 where
  pub slice : List ℕ
  pub next : NextIs numbers came c
  pub asked : these ≡ chunks_given name came ++ chunk_answer name (c, slice) ∷ []
  pub wrong : sha256 slice ≢ hash c

-- the next chunk did not come
pub record NoneCame (name : Name) (numbers : List ℕ) (came : List (ℕ × List ℕ)) (these : List Answer) : Type 0 where
  pub c : ℕ
  pub next : NextIs numbers came c
  pub asked : these ≡ chunks_given name came

-- there was no memory for the next chunk, before it was asked for or when it had come and was right
pub data NoMemory (name : Name) (hash : ℕ → List ℕ) (numbers : List ℕ) (came : List (ℕ × List ℕ)) (these : List Answer) : Type 0 where
  unasked : NoneCame name numbers came these → NoMemory name hash numbers came these
  unkept : (c : ℕ) (slice : List ℕ) → NextIs numbers came c → these ≡ chunks_given name came ++ chunk_answer name (c, slice) ∷ [] → sha256 slice ≡ hash c → NoMemory name hash numbers came these

-- how the fetching of some chunks ends, by those that came and were right and by the answers
abbrev pub FetchEnds : {T : Type 0} → Result T ChunkFault → Name → (ℕ → List ℕ) → List ℕ → List (ℕ × List ℕ) → List Answer → Type 0
FetchEnds (Ok value) name hash numbers came these = (numbers ≡ numbers_of came) × (these ≡ chunks_given name came)
FetchEnds (Err (faults.Damaged c)) name hash numbers came these = CameWrong name hash numbers came these c
FetchEnds (Err faults.Host) name hash numbers came these = NoneCame name numbers came these
FetchEnds (Err faults.Memory) name hash numbers came these = NoMemory name hash numbers came these

-- how many were asked for: those that were answered, and at a fault of the host one more
abbrev pub chunks_asked : {T : Type 0} → Result T ChunkFault → List Answer → ℕ
chunks_asked (Ok value) these = length these
chunks_asked (Err (faults.Damaged c)) these = length these
chunks_asked (Err faults.Host) these = length these + 1
chunks_asked (Err faults.Memory) these = length these

-- The chunks of some numbers were asked for in turn. Those that came and were right are kept, each before those that were kept.
pub record Fetches {T : Type 0} (result : Result T ChunkFault) (name : Name) (hash : ℕ → List ℕ) (numbers : List ℕ) (old new : Kept) (before after : HostState) : Type 0 where
  pub these : List Answer
  pub answered : Answered these before after
  pub counts : CountsSlices (chunks_asked result these) before after
  pub came : List (ℕ × List ℕ)
  pub right : AreRight hash came
  pub kept : new ≡ kept_with came old
  pub ends : FetchEnds result name hash numbers came these

-- what a read gives: the bytes of the touched chunks that are kept, from the place on
pub record GivesBytes (numbers : List ℕ) (at room n : ℕ) (buffer : List ℕ) (kept : Kept) : Type 0 where
  pub count : n ≡ min room (length (joined kept numbers) - at % CHUNK)
  pub bytes : take n buffer ≡ take n (drop (at % CHUNK) (joined kept numbers))
  pub all_kept : (c : ℕ) → Contains numbers c → IsSome (kept_at kept c)

abbrev pub ReadEnds : Result ℕ ChunkFault → List ℕ → ℕ → ℕ → List ℕ → Kept → Type 0
ReadEnds (Ok n) numbers at room buffer kept = GivesBytes numbers at room n buffer kept
ReadEnds (Err fault) numbers at room buffer kept = Unit {0}

-- The touched chunks that are kept come to the front, in rising number; then the others are asked for, in rising number. The bytes read are those of the touched chunks, all of which are kept then.
pub record Reads (result : Result ℕ ChunkFault) (at : ℕ) (buffer : List ℕ) (old new : FileState) (before after : HostState) : Type 0 where
  pub rest : record new { kept = old.kept } ≡ old
  pub fetches : Fetches result old.name (hash_at old) (missing_of old.kept (touched_by old at (length buffer))) (used (touched_by old at (length buffer)) old.kept) new.kept before after
  pub ends : ReadEnds result (touched_by old at (length buffer)) at (readable old at (length buffer)) buffer new.kept

-- the reads are no more than the touched chunks that are not kept
abbrev pub ReadsFew : ℕ → ℕ → FileState → HostState → HostState → Type 0
ReadsFew at room file before after = CountsSlices (length (missing_of file.kept (touched_by file at room))) before after

-- a damage is that of the first chunk, of those asked for, of which a slice came that has another sum
abbrev pub DamageComes : Result ℕ ChunkFault → ℕ → ℕ → FileState → HostState → HostState → Type 0
DamageComes (Ok n) at room file before after = Unit {0}
DamageComes (Err (faults.Damaged c)) at room file before after =
    Came (λ these. (came : List (ℕ × List ℕ)) × AreRight (hash_at file) came × CameWrong file.name (hash_at file) (missing_of file.kept (touched_by file at room)) came these c) before after
DamageComes (Err faults.Host) at room file before after = Unit {0}
DamageComes (Err faults.Memory) at room file before after = Unit {0}

-- what was read is the slice of the bytes
abbrev pub IsSlice : Result ℕ ChunkFault → ℕ → List ℕ → List ℕ → Type 0
IsSlice (Ok n) at buffer bytes = (n ≡ min (length buffer) (length bytes - at)) × (take n buffer ≡ take n (drop at bytes))
IsSlice (Err fault) at buffer bytes = Unit {0}

-- the file holds the bytes as before, and what was read is their slice
pub record StaysHeld (result : Result ℕ ChunkFault) (bytes : List ℕ) (at : ℕ) (buffer : List ℕ) (new : FileState) : Type 0 where
  pub holds : Holds new bytes
  pub slice : IsSlice result at buffer bytes

-- for all bytes that the file holds and that no given slice meets by accident
abbrev pub HeldRead : Result ℕ ChunkFault → ℕ → List ℕ → FileState → FileState → HostState → HostState → Type 0
HeldRead result at buffer old new before after = Came (λ these. (bytes : List ℕ) → NoAccident bytes these → Holds old bytes → StaysHeld result bytes at buffer new) before after

abbrev pub IsUndamaged : Result ℕ ChunkFault → Type 0
IsUndamaged (Ok n) = Unit {0}
IsUndamaged (Err (faults.Damaged c)) = ⊥
IsUndamaged (Err faults.Host) = Unit {0}
IsUndamaged (Err faults.Memory) = Unit {0}

-- Over an honest host whose file has the bytes that are held, the read gives their slice and meets no damage.
abbrev pub HonestRead : Result ℕ ChunkFault → ℕ → List ℕ → FileState → FileState → HostState → Type 0
HonestRead result at buffer old new before = OnHonest before (λ files. Holds old (contents (files old.name)) → StaysHeld result (contents (files old.name)) at buffer new × IsUndamaged result)
