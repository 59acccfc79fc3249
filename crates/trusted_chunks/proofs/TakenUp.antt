-- A file that is taken slice by slice.
use Rattle.std.proofs.Common.{◌≡◌, ℕ, ◌+◌, ◌<◌, ◌≤◌, List, [], ◌∷◌, ◌++◌, length, refl, sym, ap, subst, ◌∙◌, arith, length-append, Result, Ok, Err}
use Rattle.std.specs.List.{concat}
use Rattle.sha2.specs.Sha256.{sha256}
use Rattle.sha2.specs.Hashers.{Holds256}
use Rattle.sha2.specs.declared.Sha256.{Sha256}
use Rattle.pf_io.specs.Counts.{HasCause}
use Rattle.pf_io.specs.Host.{Name, Answer, HostState}
use Rattle.pf_io.specs.Answered.{Answered}
use Rattle.pf_io.specs.Unchanged.{KeepsDisk}
use Rattle.pf_io.proofs.Answering.{answered_none, answered_then}
use Rattle.pf_io.proofs.Unchanged.{kept_none, kept_then}
use Rattle.std.proofs.lemmas.List.{append-nil}
use Rattle.lru.proofs.Splits.{all_both}
use Rattle.trusted_chunks.specs.Chunks.{CHUNK, sums_of}
use Rattle.pf_io.specs.Slices.{MOST_BYTES, given_in_turn, AreWhole, CountsSlices}
use Rattle.trusted_chunks.specs.Opening.{host_part}
use Rattle.trusted_chunks.specs.Taking.{SliceTaken, SliceEnds, Takes}
use Rattle.trusted_chunks.specs.declared.fault.TrustFault.{TrustFault}
use Rattle.trusted_chunks.specs.declared.fault.TrustFault.TheVariants as faults
use Rattle.trusted_chunks.specs.declared.slices.Taken.{Taken}
use Rattle.pf_io.proofs.Slices.{counts_none, counts_then, counts_few, cause_on, whole_length, concat_last, long_last, more_answered, more_counts}
use Rattle.trusted_chunks.proofs.Summing.{sums_append}

-- after some whole slices
pub record TakenTo (name : Name) (len : ℕ) (hashes : List (List ℕ)) (hasher : Sha256) (old new : HostState) : Type 0 where
  pub whole : List (List ℕ)
  pub are_whole : AreWhole whole
  pub answered : Answered (given_in_turn name 0 whole) old new
  pub counts : CountsSlices (length whole) old new
  pub faults : new.faults ≡ old.faults
  pub disk : KeepsDisk old new
  pub len_is : len ≡ length (concat whole)
  pub within : length (concat whole) ≤ MOST_BYTES
  pub hashes_are : hashes ≡ sums_of (concat whole)
  pub holds : Holds256 hasher (concat whole)

pub none_taken : (name : Name) (hasher : Sha256) (state : HostState) → Holds256 hasher [] → TakenTo name 0 [] hasher state state
none_taken name hasher state holds = record {
  whole = [];
  are_whole = tt;
  answered = answered_none state;
  counts = counts_none 0 state;
  faults = refl;
  disk = kept_none state;
  len_is = refl;
  within = omega arith;
  hashes_are = refl;
  holds = holds;
}

-- a whole one
pub taken_more : (name : Name) (len n : ℕ) (hashes hashes' : List (List ℕ)) (hasher hasher' : Sha256) (old mid new : HostState) → TakenTo name len hashes hasher old mid → SliceTaken name len n hashes hashes' hasher hasher' mid new
    → n ≡ CHUNK → new.faults ≡ mid.faults → KeepsDisk mid new → TakenTo name (len + n) hashes' hasher' old new
taken_more name len n hashes hashes' hasher hasher' old mid new was taken is_whole faults disk =
    let slice = taken.slice in
    let bytes : concat (was.whole ++ slice ∷ []) ≡ concat was.whole ++ slice = concat_last was.whole slice in
    let long = long_last was.whole slice in
    record {
      whole = was.whole ++ slice ∷ [];
      are_whole = all_both (λ s. length s ≡ CHUNK) was.whole (slice ∷ []) was.are_whole (sym taken.length_is ∙ is_whole, tt);
      answered = more_answered name len was.whole slice old mid new was.len_is was.answered taken.came;
      counts = counts_then (length was.whole) 1 (length (was.whole ++ slice ∷ [])) old mid new was.counts (counts_few 1 mid new taken.came.counts) (omega (arith, length-append was.whole (slice ∷ [])));
      faults = faults ∙ was.faults;
      disk = kept_then old mid new was.disk disk;
      len_is = let a = was.len_is in let b = taken.length_is in omega (arith, a, b, long);
      within = let a = was.len_is in let b = taken.within in omega (arith, a, b, long);
      hashes_are = taken.added ∙ ap (λ (l : List (List ℕ)). l ++ sums_of slice) was.hashes_are ∙ sym (sums_append (length was.whole) (concat was.whole) slice (whole_length was.whole was.are_whole)) ∙ ap sums_of (sym bytes);
      holds = subst (λ (l : List ℕ). Holds256 hasher' l) (sym bytes) (taken.hashed (concat was.whole) was.holds);
    }

-- the last one
pub taken_last : (name : Name) (len n : ℕ) (hashes : List (List ℕ)) (hasher hasher' : Sha256) (old mid new : HostState) (taken : Taken) → TakenTo name len hashes hasher old mid
    → SliceTaken name len n hashes taken.hashes.items hasher hasher' mid new → n < CHUNK → taken.len ≡ len + n → ((m : List ℕ) → Holds256 hasher' m → taken.sum ≡ sha256 m) → Takes (Ok taken) name old new
taken_last name len n hashes hasher hasher' old mid new taken was last short len_is sum_is =
    let slice = last.slice in
    let bytes : concat (was.whole ++ slice ∷ []) ≡ concat was.whole ++ slice = concat_last was.whole slice in
    let long = long_last was.whole slice in
    record {
      whole = was.whole;
      more = slice ∷ [];
      are_whole = was.are_whole;
      answered = more_answered name len was.whole slice old mid new was.len_is was.answered last.came;
      counts = more_counts 0 was.whole slice old mid new was.counts last.came.counts refl;
      ends = (
        slice,
        refl,
        let b = last.length_is in omega (arith, short, b),
        record {
          len_is = let a = was.len_is in let b = last.length_is in omega (arith, a, b, long, len_is);
          not_large = let a = was.len_is in let b = last.within in omega (arith, a, b, long);
          hashes_are = last.added ∙ ap (λ (l : List (List ℕ)). l ++ sums_of slice) was.hashes_are ∙ sym (sums_append (length was.whole) (concat was.whole) slice (whole_length was.whole was.are_whole)) ∙ ap sums_of (sym bytes);
          sum_is = sum_is (concat was.whole ++ slice) (last.hashed (concat was.whole) was.holds) ∙ ap sha256 (sym bytes);
        },
      );
    }

-- one that was not taken
pub taken_failed : (fault : TrustFault) (name : Name) (len : ℕ) (hashes hashes' : List (List ℕ)) (hasher hasher' : Sha256) (old mid new : HostState) → TakenTo name len hashes hasher old mid
    → SliceEnds (Err fault) name len hashes hashes' hasher hasher' mid new → Takes (Err fault) name old new
taken_failed faults.NotFound name len hashes hashes' hasher hasher' old mid new was ends = absurd ends
taken_failed faults.TooLarge name len hashes hashes' hasher hasher' old mid new was (slice, came, large) = record {
  whole = was.whole;
  more = slice ∷ [];
  are_whole = was.are_whole;
  answered = more_answered name len was.whole slice old mid new was.len_is was.answered came;
  counts = more_counts 0 was.whole slice old mid new was.counts came.counts refl;
  ends = (slice, refl, was.within, let a = was.len_is in omega (arith, a, large, long_last was.whole slice));
}
taken_failed (faults.WrongSum found) name len hashes hashes' hasher hasher' old mid new was ends = absurd ends
taken_failed faults.Host name len hashes hashes' hasher hasher' old mid new was none =
    let all : was.whole ++ [] ≡ was.whole = append-nil was.whole in
    record {
      whole = was.whole;
      more = [];
      are_whole = was.are_whole;
      answered = subst (λ (l : List Answer). Answered l old new) (append-nil (given_in_turn name 0 was.whole) ∙ ap (λ (l : List (List ℕ)). given_in_turn name 0 l) (sym all)) (answered_then (given_in_turn name 0 was.whole) [] old mid new was.answered none.answered);
      counts = counts_then (length was.whole) 1 (length (was.whole ++ []) + 1) old mid new was.counts (counts_few 1 mid new none.counts) (omega (arith, length-append {A = List ℕ} was.whole []));
      ends = (refl, was.within);
    }
taken_failed faults.Memory name len hashes hashes' hasher hasher' old mid new was (slice, came, small) = record {
  whole = was.whole;
  more = slice ∷ [];
  are_whole = was.are_whole;
  answered = more_answered name len was.whole slice old mid new was.len_is was.answered came;
  counts = more_counts 0 was.whole slice old mid new was.counts came.counts refl;
  ends = (slice, refl, let a = was.len_is in omega (arith, a, small, long_last was.whole slice));
}

-- a fault is one of the host or not, whatever was to come
pub same_part : (T U : Type 0) (fault : TrustFault) → host_part {T = T} (Err fault) ≡ host_part {T = U} (Err fault)
same_part T U faults.NotFound = refl
same_part T U faults.TooLarge = refl
same_part T U (faults.WrongSum found) = refl
same_part T U faults.Host = refl
same_part T U faults.Memory = refl

-- a fault after calls that were none
pub failed_cause : (T U : Type 0) (fault other : TrustFault) (a b c : ℕ) → fault ≡ other → b ≡ a → HasCause b c (host_part {T = T} (Err other)) → HasCause a c (host_part {T = U} (Err fault))
failed_cause T U fault other a b c is same cause =
    cause_on a b c (host_part {T = U} (Err fault)) same (subst (λ (r : Result (Unit {0}) (Unit {0})). HasCause b c r) (ap (λ (x : TrustFault). host_part {T = T} (Err x)) (sym is) ∙ same_part T U fault) cause)
