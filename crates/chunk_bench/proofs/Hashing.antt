-- A file that is summed slice by slice.
use Rattle.std.proofs.Common.{◌≡◌, ℕ, ◌+◌, ◌*◌, ◌≤◌, List, [], ◌++◌, length, take, drop, Option, Some, None, IfSome, refl, sym, ap, subst, ◌∙◌, arith, take-add, take_all}
use Rattle.std.specs.Prelude.{option_map}
use Rattle.std.specs.Int.{div_ceil}
use Rattle.sha2.specs.Sha256.{sha256}
use Rattle.sha2.specs.Hashers.{Holds256}
use Rattle.sha2.specs.declared.Sha256.{Sha256}
use Rattle.pf_io.specs.Host.{Name, Files, HostState, CountsRead, CountsNeither, KeepsFiles, OnHonest, OnDisk, KeepsRest, ReadsFrom, contents, files_of, length_of}
use Rattle.pf_io.specs.Moments.{Does}
use Rattle.pf_io.specs.Steps.{Stays}
use Rattle.pf_io.specs.Unchanged.{KeepsDisk}
use Rattle.pf_io.proofs.Answering.{both_honest, read_whole}
use Rattle.pf_io.proofs.Unchanged.{kept_once, kept_then}
use Rattle.trusted_chunks.specs.Chunks.{CHUNK, chunk_count}
use Rattle.pf_io.specs.Slices.{CountsSlices}
use Rattle.chunk_bench.proofs.Counting.{neither_counts, one_slice, more_slices, counts_within}

-- of an honest host, what holds of all files
pub on_each : (P : Files → Type 0) (files : Option Files) → ((f : Files) → P f) → IfSome files P
on_each P (Some f) go = go f
on_each P None go = tt

-- after k slices
pub record HashedTo (k : ℕ) (name : Name) (hasher : Sha256) (old new : HostState) : Type 0 where
  pub faults : new.faults ≡ old.faults
  pub disk : KeepsDisk old new
  pub files : KeepsFiles old new
  pub counts : CountsSlices k old new
  pub holds : OnHonest old (λ files. Holds256 hasher (take (CHUNK * k) (contents (files name))))

pub hashed_none : (name : Name) (hasher : Sha256) (old new : HostState) → Holds256 hasher [] → new.faults ≡ old.faults → KeepsFiles old new → CountsNeither old new → OnDisk old new (Does Stays) → HashedTo 0 name hasher old new
hashed_none name hasher old new holds faults files counts disk = record {
  faults = faults;
  disk = kept_once old new disk;
  files = files;
  counts = neither_counts old new counts;
  holds = on_each (λ f. Holds256 hasher (take (CHUNK * 0) (contents (f name)))) (files_of old) (λ f. holds);
}

longer : (k at n : ℕ) (before buffer bytes : List ℕ) → at ≡ CHUNK * k → length before ≡ CHUNK → KeepsRest n before buffer → ReadsFrom at n buffer bytes → take (CHUNK * (k + 1)) bytes ≡ take (CHUNK * k) bytes ++ take n buffer
longer k at n before buffer bytes is long rest reads =
    let more : CHUNK * (k + 1) ≡ CHUNK * k + CHUNK = omega arith in
    let slice : take CHUNK (drop (CHUNK * k) bytes) ≡ take n buffer = ap (λ (j : ℕ). take CHUNK (drop j bytes)) (sym is) ∙ sym (read_whole at n CHUNK before buffer bytes rest long reads) in
    ap (λ (j : ℕ). take j bytes) more ∙ take-add (CHUNK * k) CHUNK bytes ∙ ap (λ (l : List ℕ). take (CHUNK * k) bytes ++ l) slice

-- one slice more
pub hashed_more : (k at n : ℕ) (name : Name) (before buffer : List ℕ) (hasher hasher' : Sha256) (old mid new : HostState) → HashedTo k name hasher old mid → at ≡ CHUNK * k → length before ≡ CHUNK → KeepsRest n before buffer
    → new.faults ≡ mid.faults → KeepsFiles mid new → CountsRead (length before) mid new → OnHonest mid (λ files. ReadsFrom at n buffer (contents (files name))) → OnDisk mid new (Does Stays)
    → ((m : List ℕ) → Holds256 hasher m → Holds256 hasher' (m ++ take n buffer)) → HashedTo (k + 1) name hasher' old new
hashed_more k at n name before buffer hasher hasher' old mid new was is long rest faults files counts honest disk hashed = record {
  faults = faults ∙ was.faults;
  disk = kept_then old mid new was.disk (kept_once mid new disk);
  files = files ∙ was.files;
  counts = more_slices k 1 (k + 1) old mid new was.counts (one_slice (length before) mid new long counts) (omega arith);
  holds = both_honest (λ f. Holds256 hasher (take (CHUNK * k) (contents (f name)))) (λ f. ReadsFrom at n buffer (contents (f name))) (λ f. Holds256 hasher' (take (CHUNK * (k + 1)) (contents (f name)))) (files_of old)
      (λ f holds reads. subst (λ (m : List ℕ). Holds256 hasher' m) (sym (longer k at n before buffer (contents (f name)) is long rest reads)) (hashed (take (CHUNK * k) (contents (f name))) holds))
      was.holds (subst (λ (fs : Option Files). IfSome fs (λ f. ReadsFrom at n buffer (contents (f name)))) was.files honest);
}

some_is : (m n : ℕ) → Some m ≡ Some n → m ≡ n
some_is m n e = cc

sum_of : (o : Option (List ℕ)) (len k : ℕ) (hash : List ℕ) → Some len ≡ length_of o → len ≤ CHUNK * k → hash ≡ sha256 (take (CHUNK * k) (contents o)) → Some hash ≡ option_map sha256 o
sum_of (Some bytes) len k hash long le same =
    let all : take (CHUNK * k) bytes ≡ bytes = take_all (CHUNK * k) bytes (let l = some_is len (length bytes) long in omega (arith, l, le)) in
    ap (λ (h : List ℕ). Some h) (same ∙ ap sha256 all)
sum_of None len k hash long le same = absurd (cc (long))

-- all slices
pub hashed_all : (k len : ℕ) (name : Name) (hasher : Sha256) (hash : List ℕ) (old new : HostState) → HashedTo k name hasher old new → OnHonest old (λ files. Some len ≡ length_of (files name)) → len ≤ CHUNK * k
    → ((m : List ℕ) → Holds256 hasher m → hash ≡ sha256 m) → OnHonest old (λ files. Some hash ≡ option_map sha256 (files name))
hashed_all k len name hasher hash old new was long le ends =
    both_honest (λ f. Holds256 hasher (take (CHUNK * k) (contents (f name)))) (λ f. Some len ≡ length_of (f name)) (λ f. Some hash ≡ option_map sha256 (f name)) (files_of old)
    (λ f holds is. sum_of (f name) len k hash is le (ends (take (CHUNK * k) (contents (f name))) holds)) was.holds long

absent_sum : (o : Option (List ℕ)) → None ≡ length_of o → None ≡ option_map sha256 o
absent_sum (Some bytes) is = absurd (cc (is))
absent_sum None is = refl

pub hashed_absent : (name : Name) (old : HostState) → OnHonest old (λ files. None ≡ length_of (files name)) → OnHonest old (λ files. None ≡ option_map sha256 (files name))
hashed_absent name old long = both_honest (λ f. None ≡ length_of (f name)) (λ f. None ≡ length_of (f name)) (λ f. None ≡ option_map sha256 (f name)) (files_of old) (λ f is again. absent_sum (f name) is) long long

chunks_are : (o : Option (List ℕ)) (len : ℕ) → Some len ≡ length_of o → chunk_count (length (contents o)) ≡ chunk_count len
chunks_are (Some bytes) len long = ap chunk_count (sym (some_is len (length bytes) long))
chunks_are None len long = absurd (cc (long))

-- no more slices than the file has chunks
pub counts_file : (k len : ℕ) (name : Name) (old new : HostState) → CountsSlices k old new → OnHonest old (λ files. Some len ≡ length_of (files name)) → k ≤ chunk_count len
    → OnHonest old (λ files. CountsSlices (chunk_count (length (contents (files name)))) old new)
counts_file k len name old new counts long le =
    both_honest (λ f. Some len ≡ length_of (f name)) (λ f. Some len ≡ length_of (f name)) (λ f. CountsSlices (chunk_count (length (contents (f name)))) old new) (files_of old)
    (λ f is again. subst (λ (n : ℕ). CountsSlices n old new) (sym (chunks_are (f name) len is)) (counts_within k (chunk_count len) old new counts le)) long long

-- as many slices as chunks, which reach to the end
pub slices_are : (len count : ℕ) → count ≡ div_ceil len 16384 → (count ≤ chunk_count len) × (len ≤ CHUNK * count)
slices_are len count is = (omega (arith, is), omega (arith, is))
