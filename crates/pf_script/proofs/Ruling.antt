-- What follows from the rules of the book, of which the other proofs use nothing else.
use Rattle.std.proofs.Common.{◌≡◌, true, List, ℕ, subst, sym, Option, Some, None}
use Rattle.pf_io.specs.Disk.{Name, File, Disk, Settled, IsSettledAt}
use Rattle.pf_io.specs.Names.{recovery_of}
use Rattle.node_tree.specs.Sheet.{Sheet}
use Rattle.pf_session.specs.Restored.{restored, Ready}
use Rattle.pf_script.specs.BookRules.{speaks_of_failed}
use Rattle.pf_session.specs.Reopening.{ReopensAs, Reopens, Stood}

-- nothing restores an absent file
absent_never : (log : Option (List ℕ)) (file : List ℕ) → restored None log ≡ Some file → ⊥
absent_never log file is = absurd (cc)

pub never : (key : List ℕ) (sheet : Sheet) (here log : Option (List ℕ)) → here ≡ None → ReopensAs key sheet here log → ⊥
never key sheet here log none has = absent_never log has.file (subst (λ (h : Option (List ℕ)). restored h log ≡ Some has.file) none has.whole)

pub never_content : (key : List ℕ) (name : Name) (v : List ℕ) (here log : Option (List ℕ)) → here ≡ None → Reopens key name v here log → ⊥
never_content key name v here log none has = never key has.sheet here log none has.as_sheet

pub settled_same : (d e : Disk) (n : Name) → e n ≡ d n → e (recovery_of n) ≡ d (recovery_of n) → Settled d n → Settled e n
settled_same d e n here log settled = record {
  file = subst (λ (o : Option File). IsSettledAt o) (sym here) settled.file;
  recovery = subst (λ (o : Option File). IsSettledAt o) (sym log) settled.recovery;
}

-- a name that did not change may be opened as before
pub ready_same : (d e : Disk) (n : Name) → e n ≡ d n → e (recovery_of n) ≡ d (recovery_of n) → Ready d n → Ready e n
ready_same d e n here log ready = settled_same d e n here log ready

pub ready_stood : (key : List ℕ) (name : Name) (sheet : Sheet) (disk : Disk) → Stood key name sheet disk → Ready disk name
ready_stood key name sheet disk stood = stood.settled

-- where the book goes on to speak of a name that failed, an opening needs nothing
pub ready_again : (disk : Disk) (name : Name) → speaks_of_failed ≡ true → Ready disk name
ready_again disk name is = absurd (cc)

pub ready_settled : (disk : Disk) (name : Name) → Settled disk name → Ready disk name
ready_settled disk name settled = settled
