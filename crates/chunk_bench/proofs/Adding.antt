-- A trusted file that is read in order.
use Rattle.std.proofs.Common.{◌≡◌, ℕ, zero, suc, ◌+◌, ◌-◌, ◌*◌, ◌/◌, ◌<◌, ◌≤◌, min, List, length, take, drop, Option, Some, None, IfSome, Result, Ok, Err, refl, sym, ap, subst, ◌∙◌, arith, take-add, take_all, length-drop}
use Rattle.std.specs.Int.{div_ceil}
use Rattle.std.specs.List.{sum}
use Rattle.std.specs.Prelude.{is_none, not}
use Rattle.std.proofs.lemmas.List.Filters.{length-filter_both}
use Rattle.std.proofs.lemmas.List.FromFn.{length-range_with_len}
use Rattle.std.proofs.lemmas.List.Sums.{sum_by-append}
use Rattle.std.proofs.lemmas.List.{take_min}
use Rattle.pf_io.specs.Host.{Name, Files, HostState, KeepsFiles, OnHonest, contents, files_of}
use Rattle.pf_io.specs.Unchanged.{KeepsDisk}
use Rattle.pf_io.proofs.Answering.{both_honest}
use Rattle.pf_io.proofs.Unchanged.{kept_none, kept_then}
use Rattle.trusted_chunks.specs.Chunks.{CHUNK, chunk_count}
use Rattle.trusted_chunks.specs.State.{FileState, Holds, Kept}
use Rattle.trusted_chunks.specs.Kept.{touched, span, missing_of, kept_at}
use Rattle.pf_io.specs.Slices.{CountsSlices}
use Rattle.pf_io.specs.Counts.{HasCause}
use Rattle.trusted_chunks.specs.Opening.{OpensFile, HonestOpen, host_part as open_part}
use Rattle.trusted_chunks.specs.declared.fault.TrustFault.{TrustFault}
use Rattle.trusted_chunks.specs.declared.fault.TrustFault.TheVariants as faults
use Rattle.chunk_bench.specs.declared.fault.FileFault.TheVariants.{Reading}
use Rattle.trusted_chunks.specs.Reading.{Reads, ReadsFew, HonestRead, IsUndamaged, StaysHeld, readable, touched_by}
use Rattle.trusted_chunks.specs.declared.fault.ChunkFault.{ChunkFault}
use Rattle.chunk_bench.specs.Files.{Adds, ReadsFile}
use Rattle.chunk_bench.proofs.Counting.{no_slice, more_slices, counts_within}
use Rattle.chunk_bench.proofs.Hashing.{on_each}

abbrev pub PIECE : ℕ
PIECE = 32768

-- how many chunks are asked for in k pieces, at most
abbrev pub asked_in : ℕ → ℕ → ℕ
asked_in size k = min (2 * k) (chunk_count size)

-- where a file holds its bytes: it still does, and they are added up as far as they were read
abbrev pub AddsTo : ℕ → ℕ → FileState → FileState → List ℕ → Type 0
AddsTo k total first file bytes = Holds first bytes → Holds file bytes × (total ≡ sum (take (PIECE * k) bytes))

-- after k pieces
pub record AddedTo (k total : ℕ) (first file : FileState) (old new : HostState) : Type 0 where
  pub faults : new.faults ≡ old.faults
  pub disk : KeepsDisk old new
  pub files : KeepsFiles old new
  pub same : record file { kept = first.kept } ≡ first
  pub counts : CountsSlices (asked_in first.size k) old new
  pub small : total ≤ 255 * (PIECE * k)
  pub adds : OnHonest old (λ files. AddsTo k total first file (contents (files first.name)))

pub added_none : (file : FileState) (state : HostState) → AddedTo 0 0 file file state state
added_none file state = record {
  faults = refl;
  disk = kept_none state;
  files = refl;
  same = refl;
  counts = counts_within 0 (asked_in file.size 0) state state (no_slice state) (omega arith);
  small = omega arith;
  adds = on_each (λ f. AddsTo 0 0 file file (contents (f file.name))) (files_of state) (λ f holds. (holds, refl));
}

name_same : (first file : FileState) → record file { kept = first.kept } ≡ first → file.name ≡ first.name
name_same first file same = ap (λ (f : FileState). f.name) same

size_same : (first file : FileState) → record file { kept = first.kept } ≡ first → file.size ≡ first.size
size_same first file same = ap (λ (f : FileState). f.size) same

same_on : (first mid file : FileState) → record mid { kept = first.kept } ≡ first → record file { kept = mid.kept } ≡ mid → record file { kept = first.kept } ≡ first
same_on first mid file one two = ap (λ (f : FileState). record f { kept = first.kept }) two ∙ one

-- a piece touches two chunks, and the last no more than there are
few_touched : (size k n : ℕ) → PIECE * k < size → n ≡ min PIECE (size - PIECE * k) → asked_in size k + span (PIECE * k) n ≤ asked_in size (k + 1)
few_touched size k zero lt is = absurd (omega (arith, lt, is))
few_touched size k (suc n) lt is = omega (arith, lt, is)

few_missing : (kept : Kept) (at n : ℕ) → length (missing_of kept (touched at n)) ≤ span at n
few_missing kept at n =
    let p = λ (c : ℕ). is_none (kept_at kept c) in
    let parts = length-filter_both p (λ c. not (p c)) (λ c. refl) (touched at n) in
    let long = length-range_with_len (at / CHUNK) (span at n) in
    omega (arith, parts, long)

piece_counts : (k : ℕ) (first file : FileState) (old mid new : HostState) → file.size ≡ first.size → PIECE * k < first.size → CountsSlices (asked_in first.size k) old mid → ReadsFew (PIECE * k) PIECE file mid new
    → CountsSlices (asked_in first.size (k + 1)) old new
piece_counts k first file old mid new size lt was few =
    let n = readable file (PIECE * k) PIECE in
    let is : n ≡ min PIECE (first.size - PIECE * k) = ap (λ (s : ℕ). min PIECE (s - PIECE * k)) size in
    let one = few_missing file.kept (PIECE * k) n in
    let two = few_touched first.size k n lt is in
    more_slices (asked_in first.size k) (length (missing_of file.kept (touched_by file (PIECE * k) PIECE))) (asked_in first.size (k + 1)) old mid new was few (omega (arith, one, two))

-- the sum goes on behind a piece
sum_longer : (k n total : ℕ) (buffer bytes : List ℕ) → length buffer ≡ PIECE → n ≡ min (length buffer) (length bytes - PIECE * k) → take n buffer ≡ take n (drop (PIECE * k) bytes) → total ≡ sum (take (PIECE * k) bytes)
    → total + sum (take n buffer) ≡ sum (take (PIECE * (k + 1)) bytes)
sum_longer k n total buffer bytes long count filled is =
    let behind = drop (PIECE * k) bytes in
    let more : PIECE * (k + 1) ≡ PIECE * k + PIECE = omega arith in
    let room : n ≡ min PIECE (length behind) = omega (arith, count, long, length-drop (PIECE * k) bytes) in
    let piece : take n buffer ≡ take PIECE behind = filled ∙ ap (λ (j : ℕ). take j behind) room ∙ take_min PIECE behind in
    ap (λ (t : ℕ). t + sum (take n buffer)) is
    ∙ ap (λ (l : List ℕ). sum (take (PIECE * k) bytes) + sum l) piece
    ∙ sym (sum_by-append (λ (x : ℕ). x) (take (PIECE * k) bytes) (take PIECE behind))
    ∙ ap sum (sym (take-add (PIECE * k) PIECE bytes))
    ∙ ap (λ (j : ℕ). sum (take j bytes)) (sym more)

piece_adds : (k n total : ℕ) (first mid file : FileState) (buffer bytes : List ℕ) → length buffer ≡ PIECE → AddsTo k total first mid bytes → (Holds mid bytes → StaysHeld (Ok n) bytes (PIECE * k) buffer file × IsUndamaged (Ok n))
    → AddsTo (k + 1) (total + sum (take n buffer)) first file bytes
piece_adds k n total first mid file buffer bytes long was read holds =
    let so_far = was holds in
    let got = (read so_far.0).0 in
    (got.holds, sum_longer k n total buffer bytes long got.slice.0 got.slice.1 so_far.1)

-- what an honest host gave of the file, by the name that it has from the first
moved : (result : Result ℕ ChunkFault) (at : ℕ) (buffer : List ℕ) (first mid file : FileState) (old now : HostState) → mid.name ≡ first.name → KeepsFiles old now → HonestRead result at buffer mid file now
    → OnHonest old (λ files. Holds mid (contents (files first.name)) → StaysHeld result (contents (files first.name)) at buffer file × IsUndamaged result)
moved result at buffer first mid file old now name files honest =
    subst (λ (fs : Option Files). IfSome fs (λ f. Holds mid (contents (f first.name)) → StaysHeld result (contents (f first.name)) at buffer file × IsUndamaged result)) files
    (subst (λ (m : Name). IfSome (files_of now) (λ f. Holds mid (contents (f m)) → StaysHeld result (contents (f m)) at buffer file × IsUndamaged result)) name honest)

-- one piece more
pub added_more : (k n total : ℕ) (first mid file : FileState) (buffer : List ℕ) (old now new : HostState) → AddedTo k total first mid old now → PIECE * k < first.size → length buffer ≡ PIECE → sum (take n buffer) ≤ 255 * PIECE
    → new.faults ≡ now.faults → KeepsDisk now new → Reads (Ok n) (PIECE * k) buffer mid file now new → ReadsFew (PIECE * k) PIECE mid now new → HonestRead (Ok n) (PIECE * k) buffer mid file now
    → AddedTo (k + 1) (total + sum (take n buffer)) first file old new
added_more k n total first mid file buffer old now new was lt long small faults disk reads few honest = record {
  faults = faults ∙ was.faults;
  disk = kept_then old now new was.disk disk;
  files = reads.fetches.answered.files ∙ was.files;
  same = same_on first mid file was.same reads.rest;
  counts = piece_counts k first mid old now new (size_same first mid was.same) lt was.counts few;
  small = let e = was.small in omega (arith, e, small);
  adds = both_honest (λ f. AddsTo k total first mid (contents (f first.name))) (λ f. Holds mid (contents (f first.name)) → StaysHeld (Ok n) (contents (f first.name)) (PIECE * k) buffer file × IsUndamaged (Ok n))
      (λ f. AddsTo (k + 1) (total + sum (take n buffer)) first file (contents (f first.name))) (files_of old)
      (λ f adds read. piece_adds k n total first mid file buffer (contents (f first.name)) long adds read)
      was.adds (moved (Ok n) (PIECE * k) buffer first mid file old now (name_same first mid was.same) was.files honest);
}

-- all pieces
pub added_all : (k total : ℕ) (first file : FileState) (old new : HostState) → AddedTo k total first file old new → first.size ≤ PIECE * k
    → OnHonest old (λ files. Holds first (contents (files first.name)) → Adds (Ok total) (contents (files first.name)))
added_all k total first file old new was le =
    both_honest (λ f. AddsTo k total first file (contents (f first.name))) (λ f. AddsTo k total first file (contents (f first.name))) (λ f. Holds first (contents (f first.name)) → Adds (Ok total) (contents (f first.name))) (files_of old)
    (λ f adds again holds. (adds holds).1 ∙ ap sum (take_all (PIECE * k) (contents (f first.name)) (let long = holds.size_is in omega (arith, long, le)))) was.adds was.adds

-- no more chunks than there are
pub counts_all : (k total : ℕ) (first file : FileState) (old new : HostState) → AddedTo k total first file old new → CountsSlices (chunk_count first.size) old new
counts_all k total first file old new was = counts_within (asked_in first.size k) (chunk_count first.size) old new was.counts (omega arith)

pub counts_failed : (k total : ℕ) (first mid : FileState) (old now new : HostState) → AddedTo k total first mid old now → PIECE * k < first.size → ReadsFew (PIECE * k) PIECE mid now new → CountsSlices (chunk_count first.size) old new
counts_failed k total first mid old now new was lt few =
    counts_within (asked_in first.size (k + 1)) (chunk_count first.size) old new (piece_counts k first mid old now new (size_same first mid was.same) lt was.counts few) (omega arith)

-- a piece that was not read
pub added_failed : (fault : ChunkFault) (k total : ℕ) (first mid file : FileState) (buffer : List ℕ) (old now : HostState) → AddedTo k total first mid old now → HonestRead (Err fault) (PIECE * k) buffer mid file now
    → OnHonest old (λ files. Holds first (contents (files first.name)) → Adds (Err fault) (contents (files first.name)))
added_failed fault k total first mid file buffer old now was honest =
    both_honest (λ f. AddsTo k total first mid (contents (f first.name))) (λ f. Holds mid (contents (f first.name)) → StaysHeld (Err fault) (contents (f first.name)) (PIECE * k) buffer file × IsUndamaged (Err fault))
    (λ f. Holds first (contents (f first.name)) → Adds (Err fault) (contents (f first.name))) (files_of old)
    (λ f adds read holds. (read (adds holds).0).1) was.adds (moved (Err fault) (PIECE * k) buffer first mid file old now (name_same first mid was.same) was.files honest)

-- as many pieces as reach to the end, and no more
pub pieces_are : (size len count : ℕ) → len ≡ size → count ≡ div_ceil len 32768 → ((k : ℕ) → k < count → PIECE * k < size) × (size ≤ PIECE * count)
pieces_are size len count same is = (λ k lt. omega (arith, same, is, lt), omega (arith, same, is))

-- whatever was to be opened, a fault has the same cause
pub opening_cause : (T : Type 0) (fault : TrustFault) (before now : ℕ) → HasCause before now (open_part {T = T} (Err fault)) → HasCause before now (open_part {T = ℕ} (Err fault))
opening_cause T faults.NotFound before now cause = cause
opening_cause T faults.TooLarge before now cause = cause
opening_cause T (faults.WrongSum found) before now cause = cause
opening_cause T faults.Host before now cause = cause
opening_cause T faults.Memory before now cause = cause

read_at_name : (total : ℕ) (file : FileState) (hash : List ℕ) (there : Option (List ℕ)) → OpensFile (Ok file) hash there → (Holds file (contents there) → Adds (Ok total) (contents there)) → ReadsFile (Ok total) hash there
read_at_name total file hash (Some bytes) opens adds = (opens.1, adds opens.0)
read_at_name total file hash None opens adds = absurd opens

failed_at_name : (fault : ChunkFault) (file : FileState) (hash : List ℕ) (there : Option (List ℕ)) → OpensFile (Ok file) hash there → (Holds file (contents there) → Adds (Err fault) (contents there)) → ReadsFile (Err (Reading fault)) hash there
failed_at_name fault file hash (Some bytes) opens adds = adds opens.0
failed_at_name fault file hash None opens adds = absurd opens

-- what was added up of the opened file, by the name that it was asked for
at_name : (result : Result ℕ ChunkFault) (file : FileState) (name : Name) (old mid : HostState) → file.name ≡ name → KeepsFiles old mid → OnHonest mid (λ files. Holds file (contents (files file.name)) → Adds result (contents (files file.name)))
    → OnHonest old (λ files. Holds file (contents (files name)) → Adds result (contents (files name)))
at_name result file name old mid same files adds =
    subst (λ (m : Name). IfSome (files_of old) (λ f. Holds file (contents (f m)) → Adds result (contents (f m)))) same
    (subst (λ (fs : Option Files). IfSome fs (λ f. Holds file (contents (f file.name)) → Adds result (contents (f file.name)))) files adds)

pub read_whole_file : (total : ℕ) (file : FileState) (name : Name) (hash : List ℕ) (old mid : HostState) → HonestOpen (Ok file) name hash old → file.name ≡ name → KeepsFiles old mid
    → OnHonest mid (λ files. Holds file (contents (files file.name)) → Adds (Ok total) (contents (files file.name))) → OnHonest old (λ files. ReadsFile (Ok total) hash (files name))
read_whole_file total file name hash old mid opened same files adds =
    both_honest (λ f. OpensFile (Ok file) hash (f name)) (λ f. Holds file (contents (f name)) → Adds (Ok total) (contents (f name))) (λ f. ReadsFile (Ok total) hash (f name)) (files_of old)
    (λ f opens added. read_at_name total file hash (f name) opens added) opened (at_name (Ok total) file name old mid same files adds)

pub read_no_file : (fault : ChunkFault) (file : FileState) (name : Name) (hash : List ℕ) (old mid : HostState) → HonestOpen (Ok file) name hash old → file.name ≡ name → KeepsFiles old mid
    → OnHonest mid (λ files. Holds file (contents (files file.name)) → Adds (Err fault) (contents (files file.name))) → OnHonest old (λ files. ReadsFile (Err (Reading fault)) hash (files name))
read_no_file fault file name hash old mid opened same files adds =
    both_honest (λ f. OpensFile (Ok file) hash (f name)) (λ f. Holds file (contents (f name)) → Adds (Err fault) (contents (f name))) (λ f. ReadsFile (Err (Reading fault)) hash (f name)) (files_of old)
    (λ f opens added. failed_at_name fault file hash (f name) opens added) opened (at_name (Err fault) file name old mid same files adds)
