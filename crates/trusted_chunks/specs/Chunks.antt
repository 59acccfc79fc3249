-- The chunks of a file, and the sums by which they are known (SHA-256, FIPS 180-4).
use Rattle.std.specs.Prelude.{◌≡◌, ℕ, ◌+◌, ◌-◌, ◌*◌, ◌/◌, ◌<◌, List, length, map, take, drop, Contains}
use Rattle.std.specs.List.{range_with_len}
use Rattle.sha2.specs.Sha256.{sha256}
use Rattle.pf_io.specs.Host.{Name, Answer, Gave}

abbrev pub CHUNK : ℕ
CHUNK = 16384

-- the c-th chunk of some bytes, from 0; the last may be shorter
abbrev pub chunk : List ℕ → ℕ → List ℕ
chunk bytes c = take CHUNK (drop (CHUNK * c) bytes)

-- how many chunks n bytes have
abbrev pub chunk_count : ℕ → ℕ
chunk_count n = (n + (CHUNK - 1)) / CHUNK

-- the sums of the chunks, in order
abbrev pub sums_of : List ℕ → List (List ℕ)
sums_of bytes = map (λ c. sha256 (chunk bytes c)) (range_with_len 0 (chunk_count (length bytes)))

-- No sum was met by accident: a slice that was given, and whose sum is that of a chunk of the bytes, is that chunk.
abbrev pub NoAccident : List ℕ → List Answer → Type 0
NoAccident bytes given = (name : Name) (place room : ℕ) (slice : List ℕ) (c : ℕ) → Contains given (Gave name place room slice) → c < chunk_count (length bytes) → sha256 slice ≡ sha256 (chunk bytes c) → slice ≡ chunk bytes c
