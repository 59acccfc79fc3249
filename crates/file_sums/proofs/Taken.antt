-- A file that is hashed slice by slice.
use Rattle.std.proofs.Common.{◌≡◌, ℕ, ◌+◌, ◌<◌, ◌≤◌, List, [], ◌∷◌, ◌++◌, length, refl, sym, ap, subst, ◌∙◌, arith, length-append, Result, Ok, Err}
use Rattle.std.specs.List.{concat}
use Rattle.std.proofs.lemmas.List.{append-nil}
use Rattle.sha2.specs.Sha256.{sha256}
use Rattle.sha2.specs.Hashers.{Holds256}
use Rattle.sha2.specs.declared.Sha256.{Sha256}
use Rattle.pf_io.specs.Counts.{HasCause}
use Rattle.pf_io.specs.Host.{Name, Answer, HostState}
use Rattle.pf_io.specs.Answered.{Answered}
use Rattle.pf_io.specs.Unchanged.{KeepsDisk}
use Rattle.pf_io.proofs.Answering.{answered_none, answered_then}
use Rattle.pf_io.proofs.Unchanged.{kept_none, kept_then}
use Rattle.pf_io.specs.Slices.{SLICE, MOST_BYTES, given_in_turn, AreWhole, ReadsSlices}
use Rattle.file_sums.specs.Summing.{host_part}
use Rattle.file_sums.specs.Taking.{SliceTaken, SliceEnds, Takes}
use Rattle.file_sums.specs.declared.fault.SumFault.{SumFault}
use Rattle.file_sums.specs.declared.fault.SumFault.TheVariants as faults
use Rattle.pf_io.proofs.Slices.{reads_none, reads_then, cause_on, concat_last, long_last, more_answered}

whole_more : (whole : List (List ℕ)) (slice : List ℕ) → AreWhole whole → length slice ≡ SLICE → AreWhole (whole ++ slice ∷ [])
whole_more [] slice are is = (is, tt)
whole_more (first ∷ whole) slice are is = (are.0, whole_more whole slice are.1 is)

more_reads : (whole : List (List ℕ)) (slice : List ℕ) (old mid new : HostState) → ReadsSlices (length whole) old mid → ReadsSlices 1 mid new → ReadsSlices (length (whole ++ slice ∷ []) + 0) old new
more_reads whole slice old mid new first second = reads_then (length whole) 1 (length (whole ++ slice ∷ []) + 0) old mid new first second (omega (arith, length-append whole (slice ∷ [])))

-- after some whole slices
pub record TakenTo (name : Name) (len : ℕ) (hasher : Sha256) (old new : HostState) : Type 0 where
  pub whole : List (List ℕ)
  pub are_whole : AreWhole whole
  pub answered : Answered (given_in_turn name 0 whole) old new
  pub counts : ReadsSlices (length whole) old new
  pub faults : new.faults ≡ old.faults
  pub disk : KeepsDisk old new
  pub len_is : len ≡ length (concat whole)
  pub within : length (concat whole) ≤ MOST_BYTES
  pub holds : Holds256 hasher (concat whole)

pub none_taken : (name : Name) (hasher : Sha256) (state : HostState) → Holds256 hasher [] → TakenTo name 0 hasher state state
none_taken name hasher state holds = record {
  whole = [];
  are_whole = tt;
  answered = answered_none state;
  counts = reads_none state;
  faults = refl;
  disk = kept_none state;
  len_is = refl;
  within = omega arith;
  holds = holds;
}

-- a whole one
pub taken_more : (name : Name) (len n : ℕ) (hasher hasher' : Sha256) (old mid new : HostState) → TakenTo name len hasher old mid → SliceTaken name len n hasher hasher' mid new
    → n ≡ SLICE → new.faults ≡ mid.faults → KeepsDisk mid new → TakenTo name (len + n) hasher' old new
taken_more name len n hasher hasher' old mid new was taken is_whole faults disk =
    let slice = taken.slice in
    let long = long_last was.whole slice in
    record {
      whole = was.whole ++ slice ∷ [];
      are_whole = whole_more was.whole slice was.are_whole (sym taken.length_is ∙ is_whole);
      answered = more_answered name len was.whole slice old mid new was.len_is was.answered taken.came;
      counts = reads_then (length was.whole) 1 (length (was.whole ++ slice ∷ [])) old mid new was.counts taken.came.counts (omega (arith, length-append was.whole (slice ∷ [])));
      faults = faults ∙ was.faults;
      disk = kept_then old mid new was.disk disk;
      len_is = let a = was.len_is in let b = taken.length_is in omega (arith, a, b, long);
      within = let a = was.len_is in let b = taken.within in omega (arith, a, b, long);
      holds = subst (λ (l : List ℕ). Holds256 hasher' l) (sym (concat_last was.whole slice)) (taken.hashed (concat was.whole) was.holds);
    }

-- the last one
pub taken_last : (name : Name) (len n : ℕ) (hasher hasher' : Sha256) (old mid new : HostState) (sum : List ℕ) → TakenTo name len hasher old mid
    → SliceTaken name len n hasher hasher' mid new → n < SLICE → ((m : List ℕ) → Holds256 hasher' m → sum ≡ sha256 m) → Takes (Ok sum) name old new
taken_last name len n hasher hasher' old mid new sum was last short sum_is =
    let slice = last.slice in
    let long = long_last was.whole slice in
    record {
      whole = was.whole;
      more = slice ∷ [];
      are_whole = was.are_whole;
      answered = more_answered name len was.whole slice old mid new was.len_is was.answered last.came;
      counts = more_reads was.whole slice old mid new was.counts last.came.counts;
      ends = (
        slice,
        refl,
        let b = last.length_is in omega (arith, short, b),
        let a = was.len_is in let b = last.within in omega (arith, a, b, long),
        sum_is (concat was.whole ++ slice) (last.hashed (concat was.whole) was.holds) ∙ ap sha256 (sym (concat_last was.whole slice)),
      );
    }

-- one that was not taken
pub taken_failed : (fault : SumFault) (name : Name) (len : ℕ) (hasher hasher' : Sha256) (old mid new : HostState) → TakenTo name len hasher old mid
    → SliceEnds (Err fault) name len hasher hasher' mid new → Takes (Err fault) name old new
taken_failed faults.NotFound name len hasher hasher' old mid new was ends = absurd ends
taken_failed faults.TooLarge name len hasher hasher' old mid new was (slice, came, large) = record {
  whole = was.whole;
  more = slice ∷ [];
  are_whole = was.are_whole;
  answered = more_answered name len was.whole slice old mid new was.len_is was.answered came;
  counts = more_reads was.whole slice old mid new was.counts came.counts;
  ends = (slice, refl, was.within, let a = was.len_is in omega (arith, a, large, long_last was.whole slice));
}
taken_failed faults.Host name len hasher hasher' old mid new was none =
    let all : was.whole ++ [] ≡ was.whole = append-nil was.whole in
    record {
      whole = was.whole;
      more = [];
      are_whole = was.are_whole;
      answered = subst (λ (l : List Answer). Answered l old new) (append-nil (given_in_turn name 0 was.whole) ∙ ap (λ (l : List (List ℕ)). given_in_turn name 0 l) (sym all)) (answered_then (given_in_turn name 0 was.whole) [] old mid new was.answered none.answered);
      counts = reads_then (length was.whole) 1 (length (was.whole ++ []) + 1) old mid new was.counts none.counts (omega (arith, length-append {A = List ℕ} was.whole []));
      ends = (refl, was.within);
    }

-- a fault is one of the host or not, whatever was to come
pub same_part : (T U : Type 0) (fault : SumFault) → host_part {T = T} (Err fault) ≡ host_part {T = U} (Err fault)
same_part T U faults.NotFound = refl
same_part T U faults.TooLarge = refl
same_part T U faults.Host = refl

-- a fault after calls that were none
pub failed_cause : (T U : Type 0) (fault other : SumFault) (a b c : ℕ) → fault ≡ other → b ≡ a → HasCause b c (host_part {T = T} (Err other)) → HasCause a c (host_part {T = U} (Err fault))
failed_cause T U fault other a b c is same cause =
    cause_on a b c (host_part {T = U} (Err fault)) same (subst (λ (r : Result (Unit {0}) (Unit {0})). HasCause b c r) (ap (λ (x : SumFault). host_part {T = T} (Err x)) (sym is) ∙ same_part T U fault) cause)
