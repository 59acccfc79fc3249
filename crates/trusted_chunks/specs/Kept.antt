-- The chunks that are kept, by the order of a cache of the least recently used (`lru`, capacity 4).
use Rattle.std.specs.Prelude.{ℕ, zero, suc, ◌+◌, ◌-◌, ◌/◌, List, [], ◌∷◌, map, filter, Option, Some, None, is_none, nat_eq}
use Rattle.std.specs.List.{range_with_len, concat}
use Rattle.std.specs.Map.{lookup}
use Rattle.lru.specs.LruCache.{lru_cache, promoted, put_entries}
use Rattle.trusted_chunks.specs.Chunks.{CHUNK}
use Rattle.trusted_chunks.specs.State.{Kept, MOST_KEPT}

-- the chunks that n bytes from a place on touch, in rising number: from that of the first byte to that of the last
abbrev pub span : ℕ → ℕ → ℕ
span at zero = 0
span at (suc n) = (at + n) / CHUNK + 1 - at / CHUNK

abbrev pub touched : ℕ → ℕ → List ℕ
touched at n = range_with_len (at / CHUNK) (span at n)

abbrev pub kept_at : Kept → ℕ → Option (List ℕ)
kept_at kept c = lookup (nat_eq c) kept

-- those of some numbers that are not kept
abbrev pub missing_of : Kept → List ℕ → List ℕ
missing_of kept numbers = filter (λ c. is_none (kept_at kept c)) numbers

-- each of the numbers that is kept comes to the front, one after the other
abbrev pub used : List ℕ → Kept → Kept
used [] kept = kept
used (c ∷ numbers) kept = used numbers (promoted (nat_eq c) kept)

-- each of the chunks is put in front, one after the other; of more than four the last goes
abbrev pub kept_with : List (ℕ × List ℕ) → Kept → Kept
kept_with [] kept = kept
kept_with ((c, bytes) ∷ chunks) kept = kept_with chunks (put_entries nat_eq (lru_cache kept MOST_KEPT) c bytes)

abbrev pub bytes_or_none : Option (List ℕ) → List ℕ
bytes_or_none (Some bytes) = bytes
bytes_or_none None = []

-- the bytes of some chunks that are kept, one behind the other
abbrev pub joined : Kept → List ℕ → List ℕ
joined kept numbers = concat (map (λ c. bytes_or_none (kept_at kept c)) numbers)

abbrev pub numbers_of : List (ℕ × List ℕ) → List ℕ
numbers_of chunks = map (λ chunk. chunk.0) chunks
