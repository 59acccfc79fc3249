-- Calls of a host that only read.
use Rattle.std.proofs.Common.{◌≡◌, ℕ, ◌+◌, ◌≤◌, refl, ap, ◌∙◌, sym, arith, subst, Result, Ok, Err, IfErr}
use Rattle.pf_io.specs.Counts.{HasCause, counted, counted_times}
use Rattle.pf_io.specs.Moments.{Does}
use Rattle.pf_io.specs.Steps.{Stays}
use Rattle.pf_io.specs.Host.{HostState, Both, CountsRead}
use Rattle.pf_io.proofs.Slices.{times_then}
use Rattle.pf_io.proofs.Unchanged.{kept_none, kept_once, kept_then}
use Rattle.node_tree.specs.Fetching.{host_part, CountsReads, CountsCalls, calls_of, Asking}
use Rattle.node_tree.specs.declared.fault.TreeFault.{TreeFault}
use Rattle.node_tree.specs.declared.fault.TreeFault.TheVariants as faults

still_cause : (a b : ℕ) (r : Result (Unit {0}) (Unit {0})) → r ≡ Ok tt → b ≡ a → HasCause a b r
still_cause a b r is same = subst (λ (x : Result (Unit {0}) (Unit {0})). HasCause a b x) (sym is) (record { later = omega (arith, same); still = same; once = tt })

-- no call
pub asking_none : {T : Type 0} (value : T) (n : ℕ) (state : HostState) → Asking (Ok value) n state state
asking_none value n state = record {
  cause = still_cause state.faults state.faults (Ok tt) refl refl;
  counts = record { reads = omega arith; writes = refl; widest = omega arith };
  disk = kept_none state;
}

pub counts_none : (state : HostState) → CountsCalls 0 state state
counts_none state = record { reads = refl; writes = refl; untouched = λ none. refl }

pub counts_one : (old new : HostState) → CountsRead 4096 old new → CountsCalls 1 old new
counts_one old new counts = record { reads = counts.reads; writes = counts.writes; untouched = λ none. absurd (omega (arith, none)) }

pub counts_then : (m n : ℕ) (old mid new : HostState) → CountsCalls m old mid → CountsCalls n mid new → CountsCalls (m + n) old new
counts_then m n old mid new first second = record {
  reads = second.reads ∙ ap (counted_times n) first.reads ∙ times_then m n old.reads;
  writes = second.writes ∙ first.writes;
  untouched = λ none. second.untouched (omega (arith, none)) ∙ first.untouched (omega (arith, none));
}

-- the calls of some answers, and then of others until an end
pub calls_then : {T : Type 0} (r : Result T TreeFault) (m n : ℕ) → m + calls_of r n ≡ calls_of r (m + n)
calls_then (Ok value) m n = refl
calls_then (Err (faults.Damaged damage)) m n = refl
calls_then (Err faults.Host) m n = omega arith
calls_then (Err faults.Memory) m n = refl

pub same_calls : (T U : Type 0) (fault : TreeFault) (n : ℕ) (old new : HostState) → CountsCalls (calls_of {T = T} (Err fault) n) old new → CountsCalls (calls_of {T = U} (Err fault) n) old new
same_calls T U (faults.Damaged damage) n old new counts = counts
same_calls T U faults.Host n old new counts = counts
same_calls T U faults.Memory n old new counts = counts

counts_once : (old new : HostState) → CountsRead 4096 old new → CountsReads 1 old new
counts_once old new counts = record { reads = let e = counts.reads in omega (arith, e); writes = counts.writes; widest = let e = counts.widest in omega (arith, e) }

-- a read of a node that was answered
pub asking_once : {T : Type 0} (r : Result T TreeFault) (old new : HostState) → host_part r ≡ Ok tt → new.faults ≡ old.faults → CountsRead 4096 old new → Both old.honest new.honest (Does Stays) → Asking r 1 old new
asking_once r old new is same counts does = record { cause = still_cause old.faults new.faults (host_part r) is same; counts = counts_once old new counts; disk = kept_once old new does }

-- one that failed
pub asking_failed : {T : Type 0} (old new : HostState) → old.faults ≤ new.faults → new.faults ≡ counted old.faults → CountsRead 4096 old new → Both old.honest new.honest (Does Stays) → Asking {T = T} (Err faults.Host) 1 old new
asking_failed old new later once counts does = record { cause = record { later = later; still = tt; once = once }; counts = counts_once old new counts; disk = kept_once old new does }

-- calls after others that were answered
pub asking_then : {T U : Type 0} (value : T) (r : Result U TreeFault) (m n most : ℕ) (old mid new : HostState) → Asking (Ok value) m old mid → Asking r n mid new → m + n ≤ most → Asking r most old new
asking_then value r m n most old mid new first second le = record {
  cause = subst (λ (a : ℕ). HasCause a new.faults (host_part r)) first.cause.still second.cause;
  counts = record {
    reads = let a = first.counts.reads in let b = second.counts.reads in omega arith;
    writes = second.counts.writes ∙ first.counts.writes;
    widest = let a = first.counts.widest in let b = second.counts.widest in omega arith;
  };
  disk = kept_then old mid new first.disk second.disk;
}

-- another result of the same calls, that is no fault of the host either
pub asking_as : {T U : Type 0} (value : T) (r : Result U TreeFault) (n : ℕ) (old new : HostState) → Asking (Ok value) n old new → host_part r ≡ Ok tt → Asking r n old new
asking_as value r n old new asking is = record { cause = still_cause old.faults new.faults (host_part r) is asking.cause.still; counts = asking.counts; disk = asking.disk }

pub asking_err : {T U : Type 0} (fault : TreeFault) (n : ℕ) (old new : HostState) → Asking {T = T} (Err fault) n old new → Asking {T = U} (Err fault) n old new
asking_err (faults.Damaged damage) n old new a = record { cause = a.cause; counts = a.counts; disk = a.disk }
asking_err faults.Host n old new a = record { cause = a.cause; counts = a.counts; disk = a.disk }
asking_err faults.Memory n old new a = record { cause = a.cause; counts = a.counts; disk = a.disk }

-- want of memory is no fault of the host
pub memory_part : {T : Type 0} (r : Result T TreeFault) → IfErr r (λ fault. fault ≡ faults.Memory) → host_part r ≡ Ok tt
memory_part (Ok value) is = refl
memory_part {T} (Err fault) is = ap (λ (x : TreeFault). host_part {T = T} (Err x)) is
