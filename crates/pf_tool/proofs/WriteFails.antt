-- A piece that is not written, and a publishing that is not done: what is counted, and that no piece was given in it.
use Rattle.std.proofs.Common.{◌≡◌, ◌≢◌, ◌⊎◌, inl, inr, ℕ, ◌+◌, ◌^◌, ◌<◌, ◌≤◌, Bool, true, false, List, [], length, refl, sym, ap, subst, Result, Ok, Err}
use Rattle.node_tree.specs.Applying.{Write}
use Rattle.node_tree.specs.Sheet.{Sheet}
use Rattle.node_tree.specs.declared.fault.TreeFault.{TreeFault}
use Rattle.node_tree.specs.declared.fault.TreeFault.TheVariants as trees
use Rattle.pf_io.specs.Disk.{Name}
use Rattle.pf_io.specs.Host.{HostState}
use Rattle.pf_io.specs.Words.{WordsState}
use Rattle.pf_session.specs.Changing.{StepGoes, stepped, WriteRefused, WriteGoes, refused, unchanged, changed, not_flushed, flushed_and_changed}
use Rattle.pf_session.specs.Faults.{write_of_flush, write_of_tree}
use Rattle.pf_session.specs.State.{SessionState, file_of}
use Rattle.pf_session.specs.declared.fault.FlushFault.{FlushFault}
use Rattle.pf_session.specs.declared.fault.FlushFault.TheVariants as flushes
use Rattle.pf_session.specs.declared.fault.WriteFault.{WriteFault}
use Rattle.pf_session.specs.declared.fault.WriteFault.TheVariants as writes
use Rattle.pf_session.specs.declared.fault.Written.{Written}
use Rattle.pf_tool.specs.Faults.{flush_fault, IsPieceFault}
use Rattle.pf_tool.specs.declared.fault.Fault.{Fault}
use Rattle.pf_tool.specs.declared.fault.Fault.TheVariants as faults
use Rattle.pf_tool.specs.declared.why.Why.TheVariants as whys
use Rattle.pf_tool.proofs.HeldTree.{IsSilent, step_asks_none, step_still}
use Rattle.pf_tool.proofs.PieceAnswers.{tells_same, tells_then}
use Rattle.pf_tool.proofs.SessionWrites.{is_fit}
use Rattle.pf_tool.proofs.SheetWrites.{Standing, Went, flush_stands, same_alone, alone_then}
use Rattle.pf_tool.proofs.SealCounts.{CountsFault, counts_after, Fails, flush_fails}

-- the piece would still fit, or it is refused as too large
abbrev pub FitsOr : ℕ → Fault → Type 0
FitsOr end fault = ((end ≤ 2 ^ 32) × (fault ≢ faults.Refused whys.TooLarge)) ⊎ ((fault ≡ faults.Refused whys.TooLarge) × (2 ^ 32 < end))

-- a fault that needs no call of the host
pub still_fails : (input output : Name) (fault : Fault) (before after : HostState) (random random' : WordsState) → (fault ≡ faults.Refused whys.TooLarge) ⊎ (fault ≡ faults.Memory) → after ≡ before → random' ≡ random → Fails input output fault before after random random'
still_fails input output fault before after random random' (inl is) same words =
    let counts : (after.faults ≡ before.faults) × (random'.faults ≡ random.faults) = (ap (λ (s : HostState). s.faults) same, ap (λ (r : WordsState). r.faults) words) in
    record { counts = subst (λ (f : Fault). CountsFault f before after random random') (sym is) counts; told = λ at. tells_same input at before after same; alone = same_alone output before after same }
still_fails input output fault before after random random' (inr is) same words =
    let counts : (after.faults ≡ before.faults) × (random'.faults ≡ random.faults) = (ap (λ (s : HostState). s.faults) same, ap (λ (r : WordsState). r.faults) words) in
    record { counts = subst (λ (f : Fault). CountsFault f before after random random') (sym is) counts; told = λ at. tells_same input at before after same; alone = same_alone output before after same }

-- a failing call behind some that did not
pub fails_after : (input user : List ℕ) (output : Name) (sheet next : Sheet) (fault : Fault) (before mid after : HostState) (random words random' : WordsState) → ((at : ℕ) → Went input user output sheet next at [] before mid random words) → Fails input output fault mid after words random'
    → Fails input output fault before after random random'
fails_after input user output sheet next fault before mid after random words random' went fails = record {
  counts = counts_after fault before mid after random words random' (went 0).calm (went 0).took.calm fails.counts;
  told = λ at. tells_then input at [] [] before mid after (went at).told (fails.told (at + 0));
  alone = alone_then output before mid after (went 0).alone fails.alone;
}

refused_as : (at n size : ℕ) (why : WriteFault) (fault : Fault) → WriteRefused at n size why → IsPieceFault why fault → (fault ≡ faults.Refused whys.TooLarge) × (2 ^ 32 < at + n)
refused_as at n size writes.TooLong fault rule says = absurd says
refused_as at n size writes.TooLarge fault rule says = (says, rule.1)
refused_as at n size (writes.PastEnd said) fault rule says = absurd says
refused_as at n size writes.Words fault rule says = absurd rule
refused_as at n size (writes.Damaged damage) fault rule says = absurd rule
refused_as at n size writes.Host fault rule says = absurd rule
refused_as at n size writes.Memory fault rule says = absurd rule

flush_says : (why : FlushFault) (fault : Fault) → IsPieceFault (write_of_flush why) fault → fault ≡ flush_fault why
flush_says flushes.Words fault says = says
flush_says (flushes.Damaged damage) fault says = says
flush_says flushes.Host fault says = says

silent_memory : (one : TreeFault) (fault : Fault) → IsSilent (Err one) → IsPieceFault (write_of_tree one) fault → fault ≡ faults.Memory
silent_memory (trees.Damaged damage) fault silent says = absurd silent
silent_memory trees.Host fault silent says = absurd silent
silent_memory trees.Memory fault silent says = says

memory_other : (fault : Fault) → fault ≡ faults.Memory → fault ≢ faults.Refused whys.TooLarge
memory_other fault is same = cc

flush_other : (fault : Fault) (why : FlushFault) → fault ≡ flush_fault why → fault ≢ faults.Refused whys.TooLarge
flush_other fault flushes.Words is same = cc
flush_other fault (flushes.Damaged damage) is same = cc
flush_other fault flushes.Host is same = cc

no_write : (why : WriteFault) (w : Written) → ◌≡◌ {A = Result Written WriteFault} (Err why) (Ok w) → ⊥
no_write why w same = cc

same_why : (why other : WriteFault) → ◌≡◌ {A = Result Written WriteFault} (Err why) (Err other) → why ≡ other
same_why why other same = cc

-- the step of a session that holds all nodes fails for want of memory alone
step_fails : (input user : List ℕ) (output : Name) (sheet : Sheet) (content : List ℕ) (flag : Bool) (one : Result (Unit {0}) TreeFault) (why : WriteFault) (fault : Fault) (bytes : List ℕ) (old new : SessionState) (before after : HostState) (random random' : WordsState) → Standing user output sheet content old
    → StepGoes one (Write (length content) bytes) old new before after → random' ≡ random → Err why ≡ stepped write_of_tree flag one → IsPieceFault why fault → Fails input output fault before after random random' × (fault ≡ faults.Memory)
step_fails input user output sheet content flag (Ok done) why fault bytes old new before after random random' stands goes words is says = absurd (no_write why _ is)
step_fails input user output sheet content flag (Err one) why fault bytes old new before after random random' stands goes words is says =
    let silent = (step_asks_none (file_of old) (Write (length content) bytes) old.tree new.tree before after stands.holds (Err one) goes.steps).0 in
    let same = step_still (file_of old) (Write (length content) bytes) old.tree new.tree before after stands.holds (Err one) goes.steps in
    let memory = silent_memory one fault silent (subst (λ (w : WriteFault). IsPieceFault w fault) (same_why why (write_of_tree one) is) says) in
    (still_fails input output fault before after random random' (inr memory) same words, memory)

module _ (input user : List ℕ) (output : Name) (sheet : Sheet) (content : List ℕ) where
  module _ (bytes : List ℕ) (old new : SessionState) (before after : HostState) (random random' : WordsState) (stands : Standing user output sheet content old) where
    fits : ((fault : WriteFault) → ¬ (WriteRefused (length content) (length bytes) old.tree.size fault)) → length content + length bytes ≤ 2 ^ 32
    fits never = (is_fit (length content) (length bytes) old.tree.size never).small

    pub write_fails : (why : WriteFault) (fault : Fault) → IsPieceFault why fault → WriteGoes (Err why) (length content) bytes old new before after random random' → Fails input output fault before after random random' × FitsOr (length content + length bytes) fault
    write_fails why fault says (refused other rule same still words is) =
        let e = same_why why other is in
        let r = refused_as (length content) (length bytes) old.tree.size other fault rule (subst (λ (w : WriteFault). IsPieceFault w fault) e says) in
        (still_fails input output fault before after random random' (inl r.0) still words, inr r)
    write_fails why fault says (unchanged never none same still words is) = absurd (no_write why _ is)
    write_fails why fault says (changed one never some room goes words is) =
        let step = step_fails input user output sheet content false one why fault bytes old new before after random random' stands goes words is says in
        (step.0, inl (fits never, memory_other fault step.1))
    write_fails why fault says (not_flushed other never some many flush undamaged is) =
        let e = same_why why (write_of_flush other) is in
        let f = flush_says other fault (subst (λ (w : WriteFault). IsPieceFault w fault) e says) in
        (subst (λ (x : Fault). Fails input output x before after random random') (sym f) (flush_fails input user output before after random random' sheet content old new stands other flush), inl (fits never, flush_other fault other f))
    write_fails why fault says (flushed_and_changed mid between one never some many flush goes is) =
        let sealed = flush_stands input user output sheet content old mid stands before between random random' flush in
        let step = step_fails input user output sealed.0 content true one why fault bytes mid new between after random' random' sealed.1 goes refl is says in
        (fails_after input user output sheet sealed.0 fault before between after random random' random' sealed.2 step.0, inl (fits never, memory_other fault step.1))
