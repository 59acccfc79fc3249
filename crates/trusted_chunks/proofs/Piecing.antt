-- A read of a trusted file, put together of its parts.
use Rattle.std.proofs.Common.{◌≡◌, ℕ, zero, suc, ◌+◌, ◌-◌, ◌/◌, ◌%◌, ◌<◌, ◌≤◌, min, List, ◌++◌, length, take, drop, Contains, refl, sym, ap, ◌∙◌, subst, arith, Result, Ok, Err, length-append, length-drop, get_or}
use Rattle.std.specs.Prelude.{IsSome}
use Rattle.std.specs.List.{range_with_len}
use Rattle.std.proofs.lemmas.List.{length-take-le, drop-append-le, take-append-le, take-append-drop}
use Rattle.std.proofs.lemmas.List.Elements.{Contains-get_or}
use Rattle.pf_io.specs.Host.{Name, HostState, KeepsRest}
use Rattle.trusted_chunks.specs.Chunks.{CHUNK}
use Rattle.trusted_chunks.specs.State.{Kept, MOST_KEPT, FileState, IsSound, hash_at}
use Rattle.trusted_chunks.specs.Kept.{touched, kept_at, missing_of, used, joined}
use Rattle.trusted_chunks.specs.Fetching.{hash_in}
use Rattle.trusted_chunks.specs.Reading.{readable, Fetches, GivesBytes, ReadEnds, Reads}
use Rattle.trusted_chunks.specs.declared.fault.ChunkFault.{ChunkFault}
use Rattle.trusted_chunks.specs.declared.fault.ChunkFault.TheVariants as faults
use Rattle.trusted_chunks.proofs.Fronts.{few_kept, all_kept}
use Rattle.trusted_chunks.proofs.Slicing.{touched_few, touched_within}
use Rattle.trusted_chunks.proofs.Coming.{from_missing}

-- the numbers from the first touched one on, as they are counted
pub numbers_are : (at room : ℕ) → (room ≡ 0 → ⊥) → range_with_len (at / CHUNK) ((at + room - 1) / CHUNK + 1 - at / CHUNK) ≡ touched at room
numbers_are at zero some = absurd (some refl)
numbers_are at (suc r) some = ap (λ (k : ℕ). range_with_len (at / CHUNK) (k / CHUNK + 1 - at / CHUNK)) (omega arith)

-- what was fetched, by the file's own name, sums and chunks
pub fetched_by : (T : Type 0) (r : Result T ChunkFault) (name name' : Name) (hashes hashes' : List (List ℕ)) (chunks chunks' : List ℕ) (k k' new : Kept) (s0 s1 : HostState) → Fetches r name (hash_in hashes) chunks k new s0 s1
    → name ≡ name' → hashes ≡ hashes' → chunks ≡ chunks' → k ≡ k' → Fetches r name' (hash_in hashes') chunks' k' new s0 s1
fetched_by T r name name' hashes hashes' chunks chunks' k k' new s0 s1 f name_is hashes_are chunks_are k_is =
    subst (λ (n : Name). Fetches r n (hash_in hashes') chunks' k' new s0 s1) name_is
    (subst (λ (h : List (List ℕ)). Fetches r name (hash_in h) chunks' k' new s0 s1) hashes_are
    (subst (λ (l : List ℕ). Fetches r name (hash_in hashes) l k' new s0 s1) chunks_are
    (subst (λ (l : Kept). Fetches r name (hash_in hashes) chunks l new s0 s1) k_is f)))

-- whatever is answered then
pub fetched_ok : (n : ℕ) (name : Name) (hash : ℕ → List ℕ) (numbers : List ℕ) (old new : Kept) (s0 s1 : HostState) → Fetches {T = Unit {0}} (Ok tt) name hash numbers old new s0 s1 → Fetches {T = ℕ} (Ok n) name hash numbers old new s0 s1
fetched_ok n name hash numbers old new s0 s1 f = record { these = f.these; answered = f.answered; counts = f.counts; came = f.came; right = f.right; kept = f.kept; ends = f.ends }

pub fetched_err : (fault : ChunkFault) (name : Name) (hash : ℕ → List ℕ) (numbers : List ℕ) (old new : Kept) (s0 s1 : HostState) → Fetches {T = Unit {0}} (Err fault) name hash numbers old new s0 s1 → Fetches {T = ℕ} (Err fault) name hash numbers old new s0 s1
fetched_err (faults.Damaged c) name hash numbers old new s0 s1 f = record { these = f.these; answered = f.answered; counts = f.counts; came = f.came; right = f.right; kept = f.kept; ends = f.ends }
fetched_err faults.Host name hash numbers old new s0 s1 f = record { these = f.these; answered = f.answered; counts = f.counts; came = f.came; right = f.right; kept = f.kept; ends = f.ends }
fetched_err faults.Memory name hash numbers old new s0 s1 f = record { these = f.these; answered = f.answered; counts = f.counts; came = f.came; right = f.right; kept = f.kept; ends = f.ends }

-- a read of the file, once it is known what was fetched
pub reads_of : (r : Result ℕ ChunkFault) (at room : ℕ) (buffer : List ℕ) (file : FileState) (new : Kept) (s0 s1 : HostState) → room ≡ readable file at (length buffer)
    → Fetches r file.name (hash_at file) (missing_of file.kept (touched at room)) (used (touched at room) file.kept) new s0 s1 → ReadEnds r (touched at room) at room buffer new → Reads r at buffer file (record file { kept = new }) s0 s1
reads_of r at room buffer file new s0 s1 is f ends = record {
  rest = refl;
  fetches = subst (λ (k : ℕ). Fetches r file.name (hash_at file) (missing_of file.kept (touched at k)) (used (touched at k) file.kept) new s0 s1) is f;
  ends = subst (λ (k : ℕ). ReadEnds r (touched at k) at k buffer new) is ends;
}

-- and no more than four chunks are kept
pub sound_then : {T : Type 0} (r : Result T ChunkFault) (name : Name) (hash : ℕ → List ℕ) (numbers chunks : List ℕ) (file : FileState) (new : Kept) (s0 s1 : HostState) → IsSound file → Fetches r name hash chunks (used numbers file.kept) new s0 s1
    → IsSound (record file { kept = new })
sound_then r name hash numbers chunks file new s0 s1 sound f = record {
  within = sound.within;
  one_each = sound.one_each;
  few = subst (λ (k : Kept). length k ≤ MOST_KEPT) (sym f.kept) (few_kept numbers file.kept f.came sound.few);
}

-- the touched chunks are kept then
pub touched_kept : (at room : ℕ) (name : Name) (hash : ℕ → List ℕ) (file : FileState) (new : Kept) (s0 s1 : HostState) → room ≤ 32768 → Fetches {T = Unit {0}} (Ok tt) name hash (missing_of file.kept (touched at room)) (used (touched at room) file.kept) new s0 s1
    → (d : ℕ) → Contains (touched at room) d → IsSome (kept_at new d)
touched_kept at room name hash file new s0 s1 few f d is =
    subst (λ (k : Kept). IsSome (kept_at k d)) (sym f.kept) (all_kept (touched at room) file.kept f.came (touched_few at room few) f.ends.0 d is)

-- each chunk that is missing has a sum
pub known_sums : (at room k d : ℕ) (file : FileState) (chunks : List ℕ) (hashes : List (List ℕ)) → IsSound file → room ≤ file.size - at → chunks ≡ missing_of file.kept (touched at room) → hashes ≡ file.hashes → k < length chunks → get_or chunks k d < length hashes
known_sums at room k d file chunks hashes sound fits chunks_are hashes_are lt =
    let there = from_missing file.kept (touched at room) (get_or chunks k d) (subst (λ (l : List ℕ). Contains l (get_or chunks k d)) chunks_are (Contains-get_or chunks k d lt)) in
    let low = touched_within at room file.size (get_or chunks k d) fits there in
    let long : length hashes ≡ length file.hashes = ap (λ (l : List (List ℕ)). length l) hashes_are in
    omega (arith, low, long, sound.one_each)

-- a part of a buffer was written, and is behind it as before
pub part_of : (n room : ℕ) (to part : List ℕ) → room ≤ length to → KeepsRest n (take room to) part → KeepsRest n to (part ++ drop room to)
part_of n room to part fits rest =
    let front : length (take room to) ≡ room = length-take-le room to fits in
    record {
      within = let a = rest.within in omega (arith, a, front, fits);
      same_length = let b = rest.same_length in omega (arith, b, front, fits, length-append part (drop room to), length-drop room to);
      rest = drop-append-le n part (drop room to) (let a = rest.within in let b = rest.same_length in omega (arith, a, b))
          ∙ ap (λ (l : List ℕ). l ++ drop room to) rest.rest
          ∙ sym (drop-append-le n (take room to) (drop room to) rest.within)
          ∙ ap (λ (l : List ℕ). drop n l) (take-append-drop room to);
    }

pub part_gives : (n at room : ℕ) (to part : List ℕ) (numbers : List ℕ) (kept : Kept) → room ≤ length to → KeepsRest n (take room to) part → n ≡ min (length (take room to)) (length (joined kept numbers) - at % CHUNK)
    → take n part ≡ take n (drop (at % CHUNK) (joined kept numbers)) → ((d : ℕ) → Contains numbers d → IsSome (kept_at kept d)) → GivesBytes numbers at room n (part ++ drop room to) kept
part_gives n at room to part numbers kept fits rest count bytes all = record {
  count = count ∙ ap (λ (k : ℕ). min k (length (joined kept numbers) - at % CHUNK)) (length-take-le room to fits);
  bytes = take-append-le n part (drop room to) (let a = rest.within in let b = rest.same_length in omega (arith, a, b)) ∙ bytes;
  all_kept = all;
}
