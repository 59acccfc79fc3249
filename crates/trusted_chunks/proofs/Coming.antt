-- What a read of a trusted file comes to, by the chunks that came.
use Rattle.std.proofs.Common.{◌≡◌, ℕ, ◌+◌, ◌-◌, ◌*◌, ◌/◌, ◌<◌, ◌≤◌, min, List, [], ◌∷◌, ◌++◌, length, take, drop, Contains, sym, ap, ◌∙◌, subst, arith, inl, inr, Result, Ok, Err, length-append, Bool, true, false, cond}
use Rattle.std.specs.Prelude.{is_none}
use Rattle.std.specs.List.{AllByRecursion}
use Rattle.std.proofs.lemmas.List.{length-map, append-nil}
use Rattle.std.proofs.lemmas.Option.{IfSome_then}
use Rattle.sha2.specs.Sha256.{sha256}
use Rattle.lru.proofs.Splits.{Contains-head, Contains-tail, Contains-cons, Contains-nil, all_left, all_right}
use Rattle.pf_io.specs.Host.{Name, Files, Answer, HostState, contents, files_of}
use Rattle.pf_io.specs.Answered.{IsAnswerOf}
use Rattle.trusted_chunks.specs.Chunks.{CHUNK, chunk, chunk_count}
use Rattle.trusted_chunks.specs.State.{Kept, FileState, Holds, hash_at}
use Rattle.trusted_chunks.specs.Kept.{span, touched, kept_at, missing_of, joined, numbers_of}
use Rattle.trusted_chunks.specs.Slices.{chunk_answer, chunks_given}
use Rattle.trusted_chunks.specs.Reading.{readable, touched_by, NextIs, NoMemory, FetchEnds, chunks_asked, ReadEnds, Reads, ReadsFew, DamageComes, IsSlice, StaysHeld, HeldRead, IsUndamaged, HonestRead}
use Rattle.trusted_chunks.specs.declared.fault.ChunkFault.{ChunkFault}
use Rattle.trusted_chunks.specs.declared.fault.ChunkFault.TheVariants as faults
use Rattle.trusted_chunks.proofs.Slicing.{concat_chunks, joined_chunks, slice_is, touched_within}
use Rattle.trusted_chunks.proofs.Holding.{still_holds, hash_is, chunk_kept, right_at}

-- how many were asked for is no more than were missing
came_few : (numbers : List ℕ) (came : List (ℕ × List ℕ)) (c : ℕ) → NextIs numbers came c → length came + 1 ≤ length numbers
came_few numbers came c (rest, is) = omega (arith, ap (λ (l : List ℕ). length l) is, length-append (numbers_of came) (c ∷ rest), length-map came (λ chunk. chunk.0))

one_more : (name : Name) (came : List (ℕ × List ℕ)) (these : List Answer) (answer : Answer) → these ≡ chunks_given name came ++ answer ∷ [] → length these ≡ length came + 1
one_more name came these answer is = ap (λ (l : List Answer). length l) is ∙ (let long = length-append (chunks_given name came) (answer ∷ []) in omega (arith, long, length-map came (chunk_answer name)))

all_these : (name : Name) (came : List (ℕ × List ℕ)) (these : List Answer) → these ≡ chunks_given name came → length these ≡ length came
all_these name came these is = ap (λ (l : List Answer). length l) is ∙ length-map came (chunk_answer name)

asked_few : (r : Result ℕ ChunkFault) (name : Name) (hash : ℕ → List ℕ) (numbers : List ℕ) (came : List (ℕ × List ℕ)) (these : List Answer) → FetchEnds r name hash numbers came these → chunks_asked r these ≤ length numbers
asked_few (Ok n) name hash numbers came these (is, given) = omega (arith, ap (λ (l : List ℕ). length l) is, length-map came (λ chunk. chunk.0), all_these name came these given)
asked_few (Err (faults.Damaged c)) name hash numbers came these wrong = let a = came_few numbers came c wrong.next in let b = one_more name came these (chunk_answer name (c, wrong.slice)) wrong.asked in omega (arith, a, b)
asked_few (Err faults.Host) name hash numbers came these none = let a = came_few numbers came none.c none.next in let b = all_these name came these none.asked in omega (arith, a, b)
asked_few (Err faults.Memory) name hash numbers came these (NoMemory.unasked none) = let a = came_few numbers came none.c none.next in let b = all_these name came these none.asked in omega (arith, a, b)
asked_few (Err faults.Memory) name hash numbers came these (NoMemory.unkept c slice next asked right) = let a = came_few numbers came c next in let b = one_more name came these (chunk_answer name (c, slice)) asked in omega (arith, a, b)

pub reads_few : (r : Result ℕ ChunkFault) (at : ℕ) (buffer : List ℕ) (old new : FileState) (before after : HostState) → Reads r at buffer old new before after → ReadsFew at (length buffer) old before after
reads_few r at buffer old new before after reads =
    let f = reads.fetches in
    let few = asked_few r old.name (hash_at old) (missing_of old.kept (touched_by old at (length buffer))) f.came f.these f.ends in
    record { reads = let a = f.counts.reads in omega (arith, a, few); writes = f.counts.writes; widest = f.counts.widest }

pub damage_comes : (r : Result ℕ ChunkFault) (at : ℕ) (buffer : List ℕ) (old new : FileState) (before after : HostState) → Reads r at buffer old new before after → DamageComes r at (length buffer) old before after
damage_comes (Ok n) at buffer old new before after reads = tt
damage_comes (Err (faults.Damaged c)) at buffer old new before after reads = let f = reads.fetches in record { these = f.these; answered = f.answered; holds = (f.came, f.right, f.ends) }
damage_comes (Err faults.Host) at buffer old new before after reads = tt
damage_comes (Err faults.Memory) at buffer old new before after reads = tt

-- those that came are among the missing ones, and their answers among those of the call
in_front : (came : List (ℕ × List ℕ)) (tail : List ℕ) (c : ℕ) (slice : List ℕ) → Contains came (c, slice) → Contains (numbers_of came ++ tail) c
in_front [] tail c slice is = absurd (Contains-nil (c, slice) is)
in_front (first ∷ came) tail c slice is = elim (Contains-cons first came (c, slice) is) [
  | inl same ↦ subst (Contains (first.0 ∷ (numbers_of came ++ tail))) (ap (λ (p : ℕ × List ℕ). p.0) same) (Contains-head first.0 (numbers_of came ++ tail))
  | inr more ↦ Contains-tail first.0 (numbers_of came ++ tail) c (in_front came tail c slice more)
]

given_in_front : (name : Name) (came : List (ℕ × List ℕ)) (tail : List Answer) (c : ℕ) (slice : List ℕ) → Contains came (c, slice) → Contains (chunks_given name came ++ tail) (chunk_answer name (c, slice))
given_in_front name [] tail c slice is = absurd (Contains-nil (c, slice) is)
given_in_front name (first ∷ came) tail c slice is = elim (Contains-cons first came (c, slice) is) [
  | inl same ↦ subst (λ (p : ℕ × List ℕ). Contains (chunk_answer name first ∷ (chunks_given name came ++ tail)) (chunk_answer name p)) same (Contains-head (chunk_answer name first) (chunks_given name came ++ tail))
  | inr more ↦ Contains-tail (chunk_answer name first) (chunks_given name came ++ tail) (chunk_answer name (c, slice)) (given_in_front name came tail c slice more)
]

in_middle : (numbers rest : List ℕ) (c : ℕ) → Contains (numbers ++ c ∷ rest) c
in_middle [] rest c = Contains-head c rest
in_middle (first ∷ numbers) rest c = Contains-tail first (numbers ++ c ∷ rest) c (in_middle numbers rest c)

-- how the fetching ended: the chunks that came begin the missing ones, and their answers the answers
pub record Begins (name : Name) (numbers : List ℕ) (came : List (ℕ × List ℕ)) (these : List Answer) : Type 0 where
  pub rest : List ℕ
  pub tail : List Answer
  pub numbers_are : numbers ≡ numbers_of came ++ rest
  pub these_are : these ≡ chunks_given name came ++ tail

begins : (r : Result ℕ ChunkFault) (name : Name) (hash : ℕ → List ℕ) (numbers : List ℕ) (came : List (ℕ × List ℕ)) (these : List Answer) → FetchEnds r name hash numbers came these → Begins name numbers came these
begins (Ok n) name hash numbers came these (is, given) = record { rest = []; tail = []; numbers_are = is ∙ sym (append-nil (numbers_of came)); these_are = given ∙ sym (append-nil (chunks_given name came)) }
begins (Err (faults.Damaged c)) name hash numbers came these wrong = record { rest = c ∷ wrong.next.0; tail = chunk_answer name (c, wrong.slice) ∷ []; numbers_are = wrong.next.1; these_are = wrong.asked }
begins (Err faults.Host) name hash numbers came these none = record { rest = none.c ∷ none.next.0; tail = []; numbers_are = none.next.1; these_are = none.asked ∙ sym (append-nil (chunks_given name came)) }
begins (Err faults.Memory) name hash numbers came these (NoMemory.unasked none) = record { rest = none.c ∷ none.next.0; tail = []; numbers_are = none.next.1; these_are = none.asked ∙ sym (append-nil (chunks_given name came)) }
begins (Err faults.Memory) name hash numbers came these (NoMemory.unkept c slice next asked right) = record { rest = c ∷ next.0; tail = chunk_answer name (c, slice) ∷ []; numbers_are = next.1; these_are = asked }

pub from_missing : (kept : Kept) (numbers : List ℕ) (c : ℕ) → Contains (missing_of kept numbers) c → Contains numbers c
from_missing kept [] c is = is
from_missing kept (first ∷ numbers) c is = by_case (λ more. from_missing kept numbers c more) (is_none (kept_at kept first)) is
  where
    by_case : (Contains (missing_of kept numbers) c → Contains numbers c) → (b : Bool) → Contains (cond b (first ∷ missing_of kept numbers) (missing_of kept numbers)) c → Contains (first ∷ numbers) c
    by_case on true has = elim (Contains-cons first (missing_of kept numbers) c has) [
      | inl same ↦ subst (Contains (first ∷ numbers)) same (Contains-head first numbers)
      | inr more ↦ Contains-tail first numbers c (on more)
    ]
    by_case on false has = Contains-tail first numbers c (on has)

-- a missing chunk is one of the bytes
missing_within : (at room : ℕ) (file : FileState) (c : ℕ) → Contains (missing_of file.kept (touched_by file at room)) c → c < chunk_count file.size
missing_within at room file c is = touched_within at (readable file at room) file.size c (omega arith) (from_missing file.kept (touched_by file at room) c is)

-- the end of a read, where what came is of the bytes
ends_held : (r : Result ℕ ChunkFault) (at : ℕ) (buffer bytes : List ℕ) (old new : FileState) → Holds new bytes → old.size ≡ length bytes
    → ReadEnds r (touched_by old at (length buffer)) at (readable old at (length buffer)) buffer new.kept → IsSlice r at buffer bytes
ends_held (Err fault) at buffer bytes old new holds size gives = tt
ends_held (Ok n) at buffer bytes old new holds size gives =
    let room = readable old at (length buffer) in
    let all_is : joined new.kept (touched at room) ≡ take (CHUNK * span at room) (drop (CHUNK * (at / CHUNK)) bytes) =
    joined_chunks new.kept bytes (touched at room) (λ c is. chunk_kept new bytes c holds (gives.all_kept c is)) ∙ concat_chunks bytes (at / CHUNK) (span at room) in
    let is = slice_is at room n buffer bytes (joined new.kept (touched at room)) (omega (arith, size)) all_is gives.count gives.bytes in
    (is.count ∙ ap (λ (k : ℕ). min (length buffer) (k - at)) size, is.same)

-- where what came is of the bytes, they stay held and were read
stays_held : (r : Result ℕ ChunkFault) (at : ℕ) (buffer bytes : List ℕ) (old new : FileState) (before after : HostState) → (reads : Reads r at buffer old new before after)
    → ((c : ℕ) (slice : List ℕ) → Contains reads.fetches.came (c, slice) → slice ≡ chunk bytes c) → Holds old bytes → StaysHeld r bytes at buffer new
stays_held r at buffer bytes old new before after reads came_are holds =
    let f = reads.fetches in
    let held = still_holds old new bytes (touched_by old at (length buffer)) f.came reads.rest f.kept came_are holds in
    record { holds = held; slice = ends_held r at buffer bytes old new held holds.size_is reads.ends }

-- a chunk that came is among the missing ones, and so one of the bytes
came_within : (r : Result ℕ ChunkFault) (at : ℕ) (buffer bytes : List ℕ) (old new : FileState) (before after : HostState) (c : ℕ) (slice : List ℕ) → (reads : Reads r at buffer old new before after) → Contains reads.fetches.came (c, slice) → Holds old bytes
    → c < chunk_count (length bytes)
came_within r at buffer bytes old new before after c slice reads is holds =
    let f = reads.fetches in
    let numbers = missing_of old.kept (touched_by old at (length buffer)) in
    let b = begins r old.name (hash_at old) numbers f.came f.these f.ends in
    let lt = missing_within at (length buffer) old c (subst (λ (l : List ℕ). Contains l c) (sym b.numbers_are) (in_front f.came b.rest c slice is)) in
    subst (λ (n : ℕ). c < chunk_count n) holds.size_is lt

pub held_read : (r : Result ℕ ChunkFault) (at : ℕ) (buffer : List ℕ) (old new : FileState) (before after : HostState) → Reads r at buffer old new before after → HeldRead r at buffer old new before after
held_read r at buffer old new before after reads =
    let f = reads.fetches in
    let numbers = missing_of old.kept (touched_by old at (length buffer)) in
    let b = begins r old.name (hash_at old) numbers f.came f.these f.ends in
    record {
      these = f.these;
      answered = f.answered;
      holds = λ bytes none holds. stays_held r at buffer bytes old new before after reads (λ c slice is.
          let lt = came_within r at buffer bytes old new before after c slice reads is holds in
          let there : Contains f.these (chunk_answer old.name (c, slice)) = subst (λ (l : List Answer). Contains l (chunk_answer old.name (c, slice))) (sym b.these_are) (given_in_front old.name f.came b.tail c slice is) in
          none old.name (CHUNK * c) CHUNK slice c there lt (right_at (hash_at old) f.came c slice f.right is ∙ hash_is old bytes c holds lt)) holds;
    }

-- an honest host gives what its file has
honest_at : (files : Files) (name : Name) (came : List (ℕ × List ℕ)) (c : ℕ) (slice : List ℕ) → AllByRecursion (IsAnswerOf files) (chunks_given name came) → Contains came (c, slice) → slice ≡ chunk (contents (files name)) c
honest_at files name [] c slice all is = absurd (Contains-nil (c, slice) is)
honest_at files name (first ∷ came) c slice all is = elim (Contains-cons first came (c, slice) is) [
  | inl same ↦ subst (λ (p : ℕ × List ℕ). p.1 ≡ chunk (contents (files name)) p.0) same all.0
  | inr more ↦ honest_at files name came c slice all.1 more
]

-- so none of it is wrong
undamaged : (r : Result ℕ ChunkFault) (at : ℕ) (buffer : List ℕ) (old new : FileState) (before after : HostState) (files : Files) → (reads : Reads r at buffer old new before after) → AllByRecursion (IsAnswerOf files) reads.fetches.these
    → Holds old (contents (files old.name)) → IsUndamaged r
undamaged (Ok n) at buffer old new before after files reads all holds = tt
undamaged (Err (faults.Damaged c)) at buffer old new before after files reads all holds =
    let f = reads.fetches in
    let bytes = contents (files old.name) in
    let numbers = missing_of old.kept (touched_by old at (length buffer)) in
    let wrong = f.ends in
    let is : wrong.slice ≡ chunk bytes c = (all_right (IsAnswerOf files) (chunks_given old.name f.came) (chunk_answer old.name (c, wrong.slice) ∷ []) (subst (λ (l : List Answer). AllByRecursion (IsAnswerOf files) l) wrong.asked all)).0 in
    let there : Contains numbers c = subst (λ (l : List ℕ). Contains l c) (sym wrong.next.1) (in_middle (numbers_of f.came) wrong.next.0 c) in
    let lt = subst (λ (n : ℕ). c < chunk_count n) holds.size_is (missing_within at (length buffer) old c there) in
    wrong.wrong (ap sha256 is ∙ sym (hash_is old bytes c holds lt))
undamaged (Err faults.Host) at buffer old new before after files reads all holds = tt
undamaged (Err faults.Memory) at buffer old new before after files reads all holds = tt

pub honest_read : (r : Result ℕ ChunkFault) (at : ℕ) (buffer : List ℕ) (old new : FileState) (before after : HostState) → Reads r at buffer old new before after → HonestRead r at buffer old new before
honest_read r at buffer old new before after reads =
    let f = reads.fetches in
    let numbers = missing_of old.kept (touched_by old at (length buffer)) in
    let b = begins r old.name (hash_at old) numbers f.came f.these f.ends in
    IfSome_then (files_of before) f.answered.honest (λ files all holds.
    let given = all_left (IsAnswerOf files) (chunks_given old.name f.came) b.tail (subst (λ (l : List Answer). AllByRecursion (IsAnswerOf files) l) b.these_are all) in
    (stays_held r at buffer (contents (files old.name)) old new before after reads (λ c slice is. honest_at files old.name f.came c slice given is) holds, undamaged r at buffer old new before after files reads all holds))
