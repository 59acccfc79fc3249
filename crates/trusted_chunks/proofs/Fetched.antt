-- Chunks that are fetched, one after the other.
use Rattle.std.proofs.Common.{nat_eq, ◌≡◌, ℕ, ◌+◌, ◌≤◌, List, [], ◌∷◌, ◌++◌, length, append_assoc, refl, sym, ap, subst, ◌∙◌, arith, length-append, Result, Ok, Err}
use Rattle.std.proofs.lemmas.List.{map-append}
use Rattle.sha2.specs.Sha256.{sha256}
use Rattle.pf_io.specs.Counts.{HasCause}
use Rattle.pf_io.specs.Host.{Name, Answer, HostState}
use Rattle.pf_io.specs.Unchanged.{KeepsDisk}
use Rattle.pf_io.proofs.Answering.{answered_none, answered_then}
use Rattle.lru.specs.LruCache.{lru_cache, put_entries}
use Rattle.lru.proofs.Splits.{all_both}
use Rattle.trusted_chunks.specs.State.{Kept, MOST_KEPT}
use Rattle.trusted_chunks.specs.Kept.{kept_with, numbers_of}
use Rattle.trusted_chunks.specs.Slices.{chunk_answer, chunks_given}
use Rattle.trusted_chunks.specs.Reading.{host_part, NextIs, NoMemory, FetchEnds, chunks_asked, Fetches}
use Rattle.trusted_chunks.specs.Fetching.{ChunkEnds}
use Rattle.trusted_chunks.specs.declared.fault.ChunkFault.{ChunkFault}
use Rattle.trusted_chunks.specs.declared.fault.ChunkFault.TheVariants as faults
use Rattle.pf_io.proofs.Slices.{counts_none, counts_then, cause_on, counts_few}

pub kept_with_append : (xs ys : List (ℕ × List ℕ)) (kept : Kept) → kept_with (xs ++ ys) kept ≡ kept_with ys (kept_with xs kept)
kept_with_append [] ys kept = refl
kept_with_append ((c, bytes) ∷ xs) ys kept = kept_with_append xs ys (put_entries nat_eq (lru_cache kept MOST_KEPT) c bytes)

-- what some of the numbers came to, and the others then
next_behind : (xs ys : List ℕ) (came came' : List (ℕ × List ℕ)) (c : ℕ) → xs ≡ numbers_of came → NextIs ys came' c → NextIs (xs ++ ys) (came ++ came') c
next_behind xs ys came came' c first (rest, is) =
    (rest, ap (λ (l : List ℕ). l ++ ys) first ∙ ap (λ (l : List ℕ). numbers_of came ++ l) is ∙ sym (append_assoc (numbers_of came) (numbers_of came') (c ∷ rest)) ∙ ap (λ (l : List ℕ). l ++ c ∷ rest) (sym (map-append (λ chunk. chunk.0) came came')))

next_before : (xs ys : List ℕ) (came : List (ℕ × List ℕ)) (c : ℕ) → NextIs xs came c → NextIs (xs ++ ys) came c
next_before xs ys came c (rest, is) = (rest ++ ys, ap (λ (l : List ℕ). l ++ ys) is ∙ append_assoc (numbers_of came) (c ∷ rest) ys)

given_behind : (name : Name) (came came' : List (ℕ × List ℕ)) (these these' tail : List Answer) → these ≡ chunks_given name came → these' ≡ chunks_given name came' ++ tail → these ++ these' ≡ chunks_given name (came ++ came') ++ tail
given_behind name came came' these these' tail first second =
    ap (λ (l : List Answer). l ++ these') first ∙ ap (λ (l : List Answer). chunks_given name came ++ l) second ∙ sym (append_assoc (chunks_given name came) (chunks_given name came') tail)
    ∙ ap (λ (l : List Answer). l ++ tail) (sym (map-append (chunk_answer name) came came'))

all_given : (name : Name) (came came' : List (ℕ × List ℕ)) (these these' : List Answer) → these ≡ chunks_given name came → these' ≡ chunks_given name came' → these ++ these' ≡ chunks_given name (came ++ came')
all_given name came came' these these' first second = ap (λ (l : List Answer). l ++ these') first ∙ ap (λ (l : List Answer). chunks_given name came ++ l) second ∙ sym (map-append (chunk_answer name) came came')

ends_behind : (T : Type 0) (r : Result T ChunkFault) (name : Name) (hash : ℕ → List ℕ) (xs ys : List ℕ) (came came' : List (ℕ × List ℕ)) (these these' : List Answer) → xs ≡ numbers_of came → these ≡ chunks_given name came
    → FetchEnds r name hash ys came' these' → FetchEnds r name hash (xs ++ ys) (came ++ came') (these ++ these')
ends_behind T (Ok value) name hash xs ys came came' these these' first given (is, more) =
    (ap (λ (l : List ℕ). l ++ ys) first ∙ ap (λ (l : List ℕ). numbers_of came ++ l) is ∙ sym (map-append (λ chunk. chunk.0) came came'), all_given name came came' these these' given more)
ends_behind T (Err (faults.Damaged c)) name hash xs ys came came' these these' first given wrong =
    record { slice = wrong.slice; next = next_behind xs ys came came' c first wrong.next; asked = given_behind name came came' these these' (chunk_answer name (c, wrong.slice) ∷ []) given wrong.asked; wrong = wrong.wrong }
ends_behind T (Err faults.Host) name hash xs ys came came' these these' first given none = record { c = none.c; next = next_behind xs ys came came' none.c first none.next; asked = all_given name came came' these these' given none.asked }
ends_behind T (Err faults.Memory) name hash xs ys came came' these these' first given (NoMemory.unasked none) =
    NoMemory.unasked (record { c = none.c; next = next_behind xs ys came came' none.c first none.next; asked = all_given name came came' these these' given none.asked })
ends_behind T (Err faults.Memory) name hash xs ys came came' these these' first given (NoMemory.unkept c slice next asked right) =
    NoMemory.unkept c slice (next_behind xs ys came came' c first next) (given_behind name came came' these these' (chunk_answer name (c, slice) ∷ []) given asked) right

asked_behind : (T : Type 0) (r : Result T ChunkFault) (these these' : List Answer) → length these + chunks_asked r these' ≤ chunks_asked r (these ++ these')
asked_behind T (Ok value) these these' = omega (arith, length-append these these')
asked_behind T (Err (faults.Damaged c)) these these' = omega (arith, length-append these these')
asked_behind T (Err faults.Host) these these' = omega (arith, length-append these these')
asked_behind T (Err faults.Memory) these these' = omega (arith, length-append these these')

pub fetched_none : (name : Name) (hash : ℕ → List ℕ) (kept : Kept) (state : HostState) → Fetches {T = Unit {0}} (Ok tt) name hash [] kept kept state state
fetched_none name hash kept state = record { these = []; answered = answered_none state; counts = counts_none 0 state; came = []; right = tt; kept = refl; ends = (refl, refl) }

-- some numbers, and then others
pub fetched_then : (T : Type 0) (r : Result T ChunkFault) (name : Name) (hash : ℕ → List ℕ) (xs ys : List ℕ) (k0 k1 k2 : Kept) (s0 s1 s2 : HostState) → Fetches {T = Unit {0}} (Ok tt) name hash xs k0 k1 s0 s1 → Fetches r name hash ys k1 k2 s1 s2
    → Fetches r name hash (xs ++ ys) k0 k2 s0 s2
fetched_then T r name hash xs ys k0 k1 k2 s0 s1 s2 one two = record {
  these = one.these ++ two.these;
  answered = answered_then one.these two.these s0 s1 s2 one.answered two.answered;
  counts = counts_then (length one.these) (chunks_asked r two.these) (chunks_asked r (one.these ++ two.these)) s0 s1 s2 one.counts two.counts (asked_behind T r one.these two.these);
  came = one.came ++ two.came;
  right = all_both (λ chunk. sha256 chunk.1 ≡ hash chunk.0) one.came two.came one.right two.right;
  kept = two.kept ∙ ap (λ (k : Kept). kept_with two.came k) one.kept ∙ sym (kept_with_append one.came two.came k0);
  ends = ends_behind T r name hash xs ys one.came two.came one.these two.these one.ends.0 one.ends.1 two.ends;
}

ends_before : (T : Type 0) (fault : ChunkFault) (name : Name) (hash : ℕ → List ℕ) (xs ys : List ℕ) (came : List (ℕ × List ℕ)) (these : List Answer) → FetchEnds {T = T} (Err fault) name hash xs came these → FetchEnds {T = T} (Err fault) name hash (xs ++ ys) came these
ends_before T (faults.Damaged c) name hash xs ys came these wrong = record { slice = wrong.slice; next = next_before xs ys came c wrong.next; asked = wrong.asked; wrong = wrong.wrong }
ends_before T faults.Host name hash xs ys came these none = record { c = none.c; next = next_before xs ys came none.c none.next; asked = none.asked }
ends_before T faults.Memory name hash xs ys came these (NoMemory.unasked none) = NoMemory.unasked (record { c = none.c; next = next_before xs ys came none.c none.next; asked = none.asked })
ends_before T faults.Memory name hash xs ys came these (NoMemory.unkept c slice next asked right) = NoMemory.unkept c slice (next_before xs ys came c next) asked right

-- where one failed, the numbers behind it are not asked for
pub fetched_failed : (T : Type 0) (fault : ChunkFault) (name : Name) (hash : ℕ → List ℕ) (xs ys : List ℕ) (old new : Kept) (s0 s1 : HostState) → Fetches {T = T} (Err fault) name hash xs old new s0 s1 → Fetches {T = T} (Err fault) name hash (xs ++ ys) old new s0 s1
fetched_failed T fault name hash xs ys old new s0 s1 f = record {
  these = f.these;
  answered = f.answered;
  counts = f.counts;
  came = f.came;
  right = f.right;
  kept = f.kept;
  ends = ends_before T fault name hash xs ys f.came f.these f.ends;
}

-- a chunk that came and was right, and is kept or not for want of memory
pub fetched_one : (name : Name) (hash : ℕ → List ℕ) (c : ℕ) (slice : List ℕ) (old new : Kept) (s0 s1 : HostState) → ChunkEnds (Ok slice) name c (hash c) s0 s1 → new ≡ put_entries nat_eq (lru_cache old MOST_KEPT) c slice
    → Fetches {T = Unit {0}} (Ok tt) name hash (c ∷ []) old new s0 s1
fetched_one name hash c slice old new s0 s1 (came, right) put = record {
  these = chunk_answer name (c, slice) ∷ [];
  answered = came.answered;
  counts = counts_few 1 s0 s1 came.counts;
  came = (c, slice) ∷ [];
  right = (right, tt);
  kept = put;
  ends = (refl, refl);
}

pub unkept_one : (name : Name) (hash : ℕ → List ℕ) (c : ℕ) (slice : List ℕ) (old new : Kept) (s0 s1 : HostState) → ChunkEnds (Ok slice) name c (hash c) s0 s1 → new ≡ old → Fetches {T = Unit {0}} (Err faults.Memory) name hash (c ∷ []) old new s0 s1
unkept_one name hash c slice old new s0 s1 (came, right) same = record {
  these = chunk_answer name (c, slice) ∷ [];
  answered = came.answered;
  counts = counts_few 1 s0 s1 came.counts;
  came = [];
  right = tt;
  kept = same;
  ends = NoMemory.unkept c slice ([], refl) refl right;
}

-- one that was not fetched
pub failed_one : (fault : ChunkFault) (name : Name) (hash : ℕ → List ℕ) (c : ℕ) (kept : Kept) (s0 s1 : HostState) → ChunkEnds (Err fault) name c (hash c) s0 s1 → Fetches {T = Unit {0}} (Err fault) name hash (c ∷ []) kept kept s0 s1
failed_one (faults.Damaged d) name hash c kept s0 s1 (is, (slice, came, wrong)) = rw is (record {
  these = chunk_answer name (c, slice) ∷ [];
  answered = came.answered;
  counts = counts_few 1 s0 s1 came.counts;
  came = [];
  right = tt;
  kept = refl;
  ends = record { slice = slice; next = ([], refl); asked = refl; wrong = wrong };
})
failed_one faults.Host name hash c kept s0 s1 none = record { these = []; answered = none.answered; counts = counts_few 1 s0 s1 none.counts; came = []; right = tt; kept = refl; ends = record { c = c; next = ([], refl); asked = refl } }
failed_one faults.Memory name hash c kept s0 s1 none = record { these = []; answered = none.answered; counts = counts_few 0 s0 s1 none.counts; came = []; right = tt; kept = refl; ends = NoMemory.unasked (record { c = c; next = ([], refl); asked = refl }) }

-- a fault is one of the host or not, whatever was to come
pub same_part : (T U : Type 0) (fault : ChunkFault) → host_part {T = T} (Err fault) ≡ host_part {T = U} (Err fault)
same_part T U (faults.Damaged c) = refl
same_part T U faults.Host = refl
same_part T U faults.Memory = refl

-- a fault after calls that were none
pub failed_cause : (T U : Type 0) (fault other : ChunkFault) (a b c : ℕ) → fault ≡ other → b ≡ a → HasCause b c (host_part {T = T} (Err other)) → HasCause a c (host_part {T = U} (Err fault))
failed_cause T U fault other a b c is same cause =
    cause_on a b c (host_part {T = U} (Err fault)) same (subst (λ (r : Result (Unit {0}) (Unit {0})). HasCause b c r) (ap (λ (x : ChunkFault). host_part {T = T} (Err x)) (sym is) ∙ same_part T U fault) cause)

-- after some of the numbers
pub record FetchedTo (name : Name) (hash : ℕ → List ℕ) (numbers : List ℕ) (cap : ℕ) (old new : Kept) (before after : HostState) : Type 0 where
  pub fetches : Fetches {T = Unit {0}} (Ok tt) name hash numbers old new before after
  pub cap_is : cap ≡ MOST_KEPT
  pub faults : after.faults ≡ before.faults
  pub disk : KeepsDisk before after
