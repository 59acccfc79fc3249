-- Calls of a host, one after the other, and one that fails.
use Rattle.std.proofs.Common.{◌≡◌, ℕ, ◌+◌, ◌≤◌, List, [], ◌∷◌, ◌++◌, refl, ap, ◌∙◌, sym, subst, arith, zero-add, append_assoc}
use Rattle.pf_io.specs.Counts.{counted, counted_times}
use Rattle.pf_io.specs.Disk.{Name}
use Rattle.pf_io.specs.Host.{Answer, Gave, Wrote, HostState, Both, IsMore, CountsRead, CountsWrite, CountsNeither}
use Rattle.pf_io.proofs.Slices.{times_then}
use Rattle.pf_io.proofs.Telling.{told_none, told_on}
use Rattle.pf_session.specs.Asking.{Failing, NoCall, AReading, AWriting, AnotherCall, reads_in, writes_in, faults_after, kind_of, Asked, Stopped}

pub reads_then : (xs ys : List Answer) (f : Failing) → reads_in (xs ++ ys) f ≡ reads_in xs NoCall + reads_in ys f
reads_then [] ys f = sym (zero-add (reads_in ys f))
reads_then (Gave name place room bytes ∷ xs) ys f = let e : reads_in (xs ++ ys) f ≡ reads_in xs NoCall + reads_in ys f = reads_then xs ys f in omega arith
reads_then (answer ∷ xs) ys f = reads_then xs ys f

pub writes_then : (xs ys : List Answer) (f : Failing) → writes_in (xs ++ ys) f ≡ writes_in xs NoCall + writes_in ys f
writes_then [] ys f = sym (zero-add (writes_in ys f))
writes_then (Wrote name place bytes ∷ xs) ys f = let e : writes_in (xs ++ ys) f ≡ writes_in xs NoCall + writes_in ys f = writes_then xs ys f in omega arith
writes_then (answer ∷ xs) ys f = writes_then xs ys f

-- no call
pub asked_none : (state : HostState) → Asked [] NoCall state state
asked_none state = record { told = told_none state state refl; faults = refl; reads = refl; writes = refl; widest = omega arith }

-- calls after calls
pub asked_then : (xs ys : List Answer) (f : Failing) (old mid new : HostState) → Asked xs NoCall old mid → Asked ys f mid new → Asked (xs ++ ys) f old new
asked_then xs ys f old mid new first second = record {
  told = told_on xs ys old mid new first.told second.told;
  faults = second.faults ∙ ap (faults_after f) first.faults;
  reads = second.reads ∙ ap (counted_times (reads_in ys f)) first.reads ∙ times_then (reads_in xs NoCall) (reads_in ys f) old.reads ∙ ap (λ (n : ℕ). counted_times n old.reads) (sym (reads_then xs ys f));
  writes = second.writes ∙ ap (counted_times (writes_in ys f)) first.writes ∙ times_then (writes_in xs NoCall) (writes_in ys f) old.writes ∙ ap (λ (n : ℕ). counted_times n old.writes) (sym (writes_then xs ys f));
  widest = let a = first.widest in let b = second.widest in omega arith;
}

pub same_asked : (xs ys : List Answer) (f : Failing) (old new : HostState) → xs ≡ ys → Asked xs f old new → Asked ys f old new
same_asked xs ys f old new same asked = subst (λ (l : List Answer). Asked l f old new) same asked

pub same_stopped : (xs ys : List Answer) (old new : HostState) → xs ≡ ys → Stopped xs old new → Stopped ys old new
same_stopped xs ys old new same s = record { answered = s.answered; failed = s.failed; left = s.left; in_order = sym same ∙ s.in_order; asked = s.asked }

-- a call of some fails, after others
pub stopped_then : (xs ys : List Answer) (old mid new : HostState) → Asked xs NoCall old mid → Stopped ys mid new → Stopped (xs ++ ys) old new
stopped_then xs ys old mid new first s = record {
  answered = xs ++ s.answered;
  failed = s.failed;
  left = s.left;
  in_order = ap (λ (l : List Answer). xs ++ l) s.in_order ∙ sym (append_assoc xs s.answered (s.failed ∷ s.left));
  asked = asked_then xs s.answered (kind_of s.failed) old mid new first s.asked;
}

-- and no other is made
pub stopped_more : (xs ys : List Answer) (old new : HostState) → Stopped xs old new → Stopped (xs ++ ys) old new
stopped_more xs ys old new s = record {
  answered = s.answered;
  failed = s.failed;
  left = s.left ++ ys;
  in_order = ap (λ (l : List Answer). l ++ ys) s.in_order ∙ append_assoc s.answered (s.failed ∷ s.left) ys;
  asked = s.asked;
}

-- the first call fails
pub stopped_first : (answer : Answer) (left : List Answer) (old new : HostState) → Asked [] (kind_of answer) old new → Stopped (answer ∷ left) old new
stopped_first answer left old new asked = record { answered = []; failed = answer; left = left; in_order = refl; asked = asked }

-- a call that was answered
pub asked_neither : (answer : Answer) (old new : HostState) → reads_in (answer ∷ []) NoCall ≡ 0 → writes_in (answer ∷ []) NoCall ≡ 0 → Both old.given new.given (IsMore (answer ∷ [])) → new.faults ≡ old.faults → CountsNeither old new
    → Asked (answer ∷ []) NoCall old new
asked_neither answer old new no_read no_write told calm counts = record {
  told = told;
  faults = calm;
  reads = counts.reads ∙ ap (λ (n : ℕ). counted_times n old.reads) (sym no_read);
  writes = counts.writes ∙ ap (λ (n : ℕ). counted_times n old.writes) (sym no_write);
  widest = let w = counts.widest in omega arith;
}

pub asked_read : (name : Name) (at n : ℕ) (bytes : List ℕ) (old new : HostState) → n ≤ 4096 → Both old.given new.given (IsMore (Gave name at n bytes ∷ [])) → new.faults ≡ old.faults → CountsRead n old new → Asked (Gave name at n bytes ∷ []) NoCall old new
asked_read name at n bytes old new le told calm counts = record { told = told; faults = calm; reads = counts.reads; writes = counts.writes; widest = let w = counts.widest in omega arith }

pub asked_write : (name : Name) (at n : ℕ) (bytes : List ℕ) (old new : HostState) → n ≤ 4096 → Both old.given new.given (IsMore (Wrote name at bytes ∷ [])) → new.faults ≡ old.faults → CountsWrite n old new → Asked (Wrote name at bytes ∷ []) NoCall old new
asked_write name at n bytes old new le told calm counts = record { told = told; faults = calm; reads = counts.reads; writes = counts.writes; widest = let w = counts.widest in omega arith }

-- a call that failed
pub failed_neither : (old new : HostState) → new.given ≡ old.given → new.faults ≡ counted old.faults → CountsNeither old new → Asked [] AnotherCall old new
failed_neither old new told once counts = record { told = told_none old new told; faults = once; reads = counts.reads; writes = counts.writes; widest = let w = counts.widest in omega arith }

pub failed_read : (n : ℕ) (old new : HostState) → n ≤ 4096 → new.given ≡ old.given → new.faults ≡ counted old.faults → CountsRead n old new → Asked [] AReading old new
failed_read n old new le told once counts = record { told = told_none old new told; faults = once; reads = counts.reads; writes = counts.writes; widest = let w = counts.widest in omega arith }

pub failed_write : (n : ℕ) (old new : HostState) → n ≤ 4096 → new.given ≡ old.given → new.faults ≡ counted old.faults → CountsWrite n old new → Asked [] AWriting old new
failed_write n old new le told once counts = record { told = told_none old new told; faults = once; reads = counts.reads; writes = counts.writes; widest = let w = counts.widest in omega arith }
