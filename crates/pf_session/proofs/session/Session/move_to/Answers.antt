use Rattle.std.proofs.Common.{◌≡◌, ℕ, refl, ap, sym, ◌∙◌, subst, None, Some, Result, Ok, Err}
use Rattle.std.proofs.lemmas.Result.{err_from_is_err_and}
use Rattle.pf_io.specs.Counts.{HasCause}
use Rattle.pf_io.specs.Host.{Name}
use Rattle.pf_io.proofs.Unchanged.{kept_once}
use Rattle.pf_session.specs.State.{SessionState}
use Rattle.pf_session.specs.Aside.{AsideBoth}
use Rattle.pf_session.specs.Creating.{LooksUp}
use Rattle.pf_session.specs.Flushing.{host_part}
use Rattle.pf_session.specs.Moving.{no_memory, look_up_failed, was_there, CarryEnds, UndamagedCarry}
use Rattle.pf_session.specs.declared.fault.FlushFault.{FlushFault}
use Rattle.pf_session.specs.declared.fault.MoveFault.{MoveFault}
use Rattle.pf_session.specs.declared.fault.MoveFault.TheVariants as faults
use Rattle.pf_session.proofs.Questions.{length_asked, length_failed}
use Rattle.pf_session.proofs.Created.{err_is, some_there, none_there}
use Rattle.pf_session.proofs.Moved.{both_none, both_kept, both_on}
use Rattle.pf_session.proofs.MovedTo.{is_free, fails, succeeds, gone, undamaged, none_damaged, host_same, words_same}
use Rattle.pf_session.proofs.session.Session.move_to.Goals as goal

pub returns-in_err-name-clause-goes : goal.returns-in_err-name-clause-goes
returns-in_err-name-clause-goes g c =
    let p = err_from_is_err_and c.from_residual.result c.from_residual.ensures.1 in
    no_memory (c.in-Some.ensures.named.0 refl) refl refl refl (err_is _ p.0 faults.Memory p.1 p.2)

pub returns-in_err-name-clause-undamaged : goal.returns-in_err-name-clause-undamaged
returns-in_err-name-clause-undamaged g c =
    let p = err_from_is_err_and c.from_residual.result c.from_residual.ensures.1 in
    rw (err_is _ p.0 faults.Memory p.1 p.2) (none_damaged (Err faults.Memory) c.args.self.now (g.H.Host.state c.args.host.now) tt)

pub returns-in_err-side-clause-goes : goal.returns-in_err-side-clause-goes
returns-in_err-side-clause-goes g c =
    let p = err_from_is_err_and c.from_residual-in_err-side.result c.from_residual-in_err-side.ensures.1 in
    no_memory (c.in-Some.ensures.named.0 refl) refl refl refl (err_is _ p.0 faults.Memory p.1 p.2)

pub returns-in_err-side-clause-undamaged : goal.returns-in_err-side-clause-undamaged
returns-in_err-side-clause-undamaged g c =
    let p = err_from_is_err_and c.from_residual-in_err-side.result c.from_residual-in_err-side.ensures.1 in
    rw (err_is _ p.0 faults.Memory p.1 p.2) (none_damaged (Err faults.Memory) c.args.self.now (g.H.Host.state c.args.host.now) tt)

pub returns-in_err-recovery-clause-goes : goal.returns-in_err-recovery-clause-goes
returns-in_err-recovery-clause-goes g c =
    let p = err_from_is_err_and c.from_residual-in_err-recovery.result c.from_residual-in_err-recovery.ensures.1 in
    no_memory (c.in-Some.ensures.named.0 refl) refl refl refl (err_is _ p.0 faults.Memory p.1 p.2)

pub returns-in_err-recovery-clause-undamaged : goal.returns-in_err-recovery-clause-undamaged
returns-in_err-recovery-clause-undamaged g c =
    let p = err_from_is_err_and c.from_residual-in_err-recovery.result c.from_residual-in_err-recovery.ensures.1 in
    rw (err_is _ p.0 faults.Memory p.1 p.2) (none_damaged (Err faults.Memory) c.args.self.now (g.H.Host.state c.args.host.now) tt)

pub returns-in_err-name-clause-aside : goal.returns-in_err-name-clause-aside
returns-in_err-name-clause-aside g c =
    both_none c.args.self.now.name c.args.new.now (g.H.Host.state c.args.host.now)

pub returns-in_err-len-clause-undamaged : goal.returns-in_err-len-clause-undamaged
returns-in_err-len-clause-undamaged g c =
    let p = err_from_is_err_and c.from_residual-in_err-len.result c.from_residual-in_err-len.ensures.1 in
    rw (err_is _ p.0 faults.Host p.1 p.2) (none_damaged (Err faults.Host) c.args.self.now (g.H.Host.state c.args.host.now) tt)

pub returns-then-is_some-clause-undamaged : goal.returns-then-is_some-clause-undamaged
returns-then-is_some-clause-undamaged g c = none_damaged (Err faults.TargetExists) c.args.self.now (g.H.Host.state c.args.host.now) tt

pub returns-in_err-side-clause-aside : goal.returns-in_err-side-clause-aside
returns-in_err-side-clause-aside g c =
    both_none c.args.self.now.name c.args.new.now (g.H.Host.state c.args.host.now)

pub returns-in_err-recovery-clause-aside : goal.returns-in_err-recovery-clause-aside
returns-in_err-recovery-clause-aside g c =
    both_none c.args.self.now.name c.args.new.now (g.H.Host.state c.args.host.now)

pub returns-in_err-len-clause-goes : goal.returns-in_err-len-clause-goes
returns-in_err-len-clause-goes g c =
    let p = err_from_is_err_and c.from_residual-in_err-len.result c.from_residual-in_err-len.ensures.1 in
    let s0 = g.H.Host.state c.args.host.now in
    let s1 = g.H.Host.state c.len.new.self in
    look_up_failed (c.in-Some.ensures.named.0 refl)
    (record { asked = length_failed c.args.new.now s0 s1 c.in_err-len.ensures.told c.in_err-len.ensures.cause.once c.len.ensures.files c.len.ensures.counts; disk = kept_once s0 s1 c.len.ensures.disk }) refl refl
    (err_is _ p.0 faults.Host p.1 p.2)

pub returns-in_err-len-clause-aside : goal.returns-in_err-len-clause-aside
returns-in_err-len-clause-aside g c =
    let s0 = g.H.Host.state c.args.host.now in
    let s1 = g.H.Host.state c.len.new.self in
    both_kept c.args.self.now.name c.args.new.now s0 s1 (kept_once s0 s1 c.len.ensures.disk)

pub returns-then-is_some-clause-goes : goal.returns-then-is_some-clause-goes
returns-then-is_some-clause-goes g c =
    let s0 = g.H.Host.state c.args.host.now in
    let s1 = g.H.Host.state c.len.new.self in
    let there = some_there c.in_ok-len.field-0 c.is_some.result c.is_some.ensures c.if-is_some.true in
    was_there there.0 (c.in-Some.ensures.named.0 refl)
    (record {
      asked = length_asked c.args.new.now s0 s1 c.in_ok-len.field-0 (Some there.0) there.1 c.in_ok-len.ensures.told c.in_ok-len.ensures.cause.still c.len.ensures.counts c.len.ensures.files c.in_ok-len.ensures.honest;
      disk = kept_once s0 s1 c.len.ensures.disk;
    }) refl refl refl

pub returns-then-is_some-clause-aside : goal.returns-then-is_some-clause-aside
returns-then-is_some-clause-aside g c =
    let s0 = g.H.Host.state c.args.host.now in
    let s1 = g.H.Host.state c.len.new.self in
    both_kept c.args.self.now.name c.args.new.now s0 s1 (kept_once s0 s1 c.len.ensures.disk)

pub returns-in_err-move_file-clause-goes : goal.returns-in_err-move_file-clause-goes
returns-in_err-move_file-clause-goes g c =
    let p = err_from_is_err_and c.from_residual-in_err-move_file.result c.from_residual-in_err-move_file.ensures.1 in
    let s0 = g.H.Host.state c.args.host.now in
    let s1 = g.H.Host.state c.len.new.self in
    let s2 = g.H.Host.state c.move_file.new.host in
    let r0 = g.R.Words.state c.args.random.now in
    let r1 = g.R.Words.state c.move_file.new.random in
    let s = c.args.self.now in
    let last = c.move_file.new.self in
    let to = c.args.new.now in
    let none = none_there c.in_ok-len.field-0 c.is_some.result c.is_some.ensures c.if-is_some.false in
    let looks : LooksUp to None s0 s1 = record {
      asked = length_asked to s0 s1 c.in_ok-len.field-0 None none c.in_ok-len.ensures.told c.in_ok-len.ensures.cause.still c.len.ensures.counts c.len.ensures.files c.in_ok-len.ensures.honest;
      disk = kept_once s0 s1 c.len.ensures.disk;
    } in
    let free = is_free to s0 s1 (c.in-Some.ensures.named.0 refl) looks in
    let f : FlushFault = c.in_err-move_file.field-0.0 in
    let r : Result (Unit {0}) FlushFault = Err f in
    let same = p.1 ∙ ap (λ (x : MoveFault). let y : Result (Unit {0}) MoveFault = Err x in y) p.2 in
    rw same (fails to s s0 s1 free f last s2 r0 r1 (subst (λ (n : Name). CarryEnds r n s last s1 s2 r0 r1) c.in-Some.ensures.same c.in_err-move_file.ensures.ends))

pub returns-in_err-move_file-clause-cause : goal.returns-in_err-move_file-clause-cause
returns-in_err-move_file-clause-cause g c =
    let p = err_from_is_err_and c.from_residual-in_err-move_file.result c.from_residual-in_err-move_file.ensures.1 in
    let s0 = g.H.Host.state c.args.host.now in
    let s1 = g.H.Host.state c.len.new.self in
    let s2 = g.H.Host.state c.move_file.new.host in
    let f : FlushFault = c.in_err-move_file.field-0.0 in
    let r : Result (Unit {0}) FlushFault = Err f in
    let same = p.1 ∙ ap (λ (x : MoveFault). let y : Result (Unit {0}) MoveFault = Err x in y) p.2 in
    rw same (subst (λ (x : Result (Unit {0}) (Unit {0})). HasCause s0.faults s2.faults x) (sym (host_same f)) (subst (λ (n : ℕ). HasCause n s2.faults (host_part r)) c.in_ok-len.ensures.cause.still c.in_err-move_file.ensures.cause))

pub returns-in_err-move_file-clause-random_cause : goal.returns-in_err-move_file-clause-random_cause
returns-in_err-move_file-clause-random_cause g c =
    let p = err_from_is_err_and c.from_residual-in_err-move_file.result c.from_residual-in_err-move_file.ensures.1 in
    let r0 = g.R.Words.state c.args.random.now in
    let r1 = g.R.Words.state c.move_file.new.random in
    let f : FlushFault = c.in_err-move_file.field-0.0 in
    let same = p.1 ∙ ap (λ (x : MoveFault). let y : Result (Unit {0}) MoveFault = Err x in y) p.2 in
    rw same (subst (λ (x : Result (Unit {0}) (Unit {0})). HasCause r0.faults r1.faults x) (sym (words_same f)) c.in_err-move_file.ensures.random_cause)

pub returns-in_err-move_file-clause-aside : goal.returns-in_err-move_file-clause-aside
returns-in_err-move_file-clause-aside g c =
    let s0 = g.H.Host.state c.args.host.now in
    let s1 = g.H.Host.state c.len.new.self in
    let s2 = g.H.Host.state c.move_file.new.host in
    let name = c.args.self.now.name in
    let to = c.args.new.now in
    both_on name to s0 s1 s2 (both_kept name to s0 s1 (kept_once s0 s1 c.len.ensures.disk)) (subst (λ (n : Name). AsideBoth name n s1 s2) c.in-Some.ensures.same c.move_file.ensures.aside)

pub returns-in_err-move_file-clause-undamaged : goal.returns-in_err-move_file-clause-undamaged
returns-in_err-move_file-clause-undamaged g c =
    let p = err_from_is_err_and c.from_residual-in_err-move_file.result c.from_residual-in_err-move_file.ensures.1 in
    let s0 = g.H.Host.state c.args.host.now in
    let s1 = g.H.Host.state c.len.new.self in
    let s2 = g.H.Host.state c.move_file.new.host in
    let r0 = g.R.Words.state c.args.random.now in
    let r1 = g.R.Words.state c.move_file.new.random in
    let s = c.args.self.now in
    let last = c.move_file.new.self in
    let to = c.args.new.now in
    let none = none_there c.in_ok-len.field-0 c.is_some.result c.is_some.ensures c.if-is_some.false in
    let looks : LooksUp to None s0 s1 = record {
      asked = length_asked to s0 s1 c.in_ok-len.field-0 None none c.in_ok-len.ensures.told c.in_ok-len.ensures.cause.still c.len.ensures.counts c.len.ensures.files c.in_ok-len.ensures.honest;
      disk = kept_once s0 s1 c.len.ensures.disk;
    } in
    let free = is_free to s0 s1 (c.in-Some.ensures.named.0 refl) looks in
    let f : FlushFault = c.in_err-move_file.field-0.0 in
    let r : Result (Unit {0}) FlushFault = Err f in
    let same = p.1 ∙ ap (λ (x : MoveFault). let y : Result (Unit {0}) MoveFault = Err x in y) p.2 in
    rw same (undamaged to s s0 s1 free f (subst (λ (n : Name). UndamagedCarry r n s s1) c.in-Some.ensures.same c.in_err-move_file.ensures.undamaged))

pub returns-clause-goes : goal.returns-clause-goes
returns-clause-goes g c =
    let s0 = g.H.Host.state c.args.host.now in
    let s1 = g.H.Host.state c.len.new.self in
    let s2 = g.H.Host.state c.move_file.new.host in
    let r0 = g.R.Words.state c.args.random.now in
    let r1 = g.R.Words.state c.move_file.new.random in
    let s = c.args.self.now in
    let last = c.move_file.new.self in
    let to = c.args.new.now in
    let none = none_there c.in_ok-len.field-0 c.is_some.result c.is_some.ensures c.if-is_some.false in
    let looks : LooksUp to None s0 s1 = record {
      asked = length_asked to s0 s1 c.in_ok-len.field-0 None none c.in_ok-len.ensures.told c.in_ok-len.ensures.cause.still c.len.ensures.counts c.len.ensures.files c.in_ok-len.ensures.honest;
      disk = kept_once s0 s1 c.len.ensures.disk;
    } in
    let free = is_free to s0 s1 (c.in-Some.ensures.named.0 refl) looks in
    let r : Result (Unit {0}) FlushFault = Ok tt in
    let named : c.rename.new.self ≡ record last { name = to; path = to } =
    c.rename.ensures ∙ ap (λ (n : Name). let t : SessionState = record last { name = n; path = c.in-Some.path } in t) c.in_ok-name.ensures ∙ ap (λ (n : Name). let t : SessionState = record last { name = to; path = n } in t) c.in-Some.ensures.same in
    succeeds to s s0 s1 free last c.rename.new.self s2 r0 r1 (subst (λ (n : Name). CarryEnds r n s last s1 s2 r0 r1) c.in-Some.ensures.same c.in_ok-move_file.ensures.ends) named

pub returns-clause-gone : goal.returns-clause-gone
returns-clause-gone g c =
    let s0 = g.H.Host.state c.args.host.now in
    let s1 = g.H.Host.state c.len.new.self in
    let s2 = g.H.Host.state c.move_file.new.host in
    let r0 = g.R.Words.state c.args.random.now in
    let r1 = g.R.Words.state c.move_file.new.random in
    let s = c.args.self.now in
    let last = c.move_file.new.self in
    let to = c.args.new.now in
    let none = none_there c.in_ok-len.field-0 c.is_some.result c.is_some.ensures c.if-is_some.false in
    let looks : LooksUp to None s0 s1 = record {
      asked = length_asked to s0 s1 c.in_ok-len.field-0 None none c.in_ok-len.ensures.told c.in_ok-len.ensures.cause.still c.len.ensures.counts c.len.ensures.files c.in_ok-len.ensures.honest;
      disk = kept_once s0 s1 c.len.ensures.disk;
    } in
    let free = is_free to s0 s1 (c.in-Some.ensures.named.0 refl) looks in
    let r : Result (Unit {0}) FlushFault = Ok tt in
    let all = both_on s.name to s0 s1 s2 (both_kept s.name to s0 s1 (kept_once s0 s1 c.len.ensures.disk)) (subst (λ (n : Name). AsideBoth s.name n s1 s2) c.in-Some.ensures.same c.move_file.ensures.aside) in
    gone to s s0 s1 free last s2 r0 r1 (subst (λ (n : Name). CarryEnds r n s last s1 s2 r0 r1) c.in-Some.ensures.same c.in_ok-move_file.ensures.ends) all

pub returns-clause-aside : goal.returns-clause-aside
returns-clause-aside g c =
    let s0 = g.H.Host.state c.args.host.now in
    let s1 = g.H.Host.state c.len.new.self in
    let s2 = g.H.Host.state c.move_file.new.host in
    let name = c.args.self.now.name in
    let to = c.args.new.now in
    both_on name to s0 s1 s2 (both_kept name to s0 s1 (kept_once s0 s1 c.len.ensures.disk)) (subst (λ (n : Name). AsideBoth name n s1 s2) c.in-Some.ensures.same c.move_file.ensures.aside)

pub returns-clause-undamaged : goal.returns-clause-undamaged
returns-clause-undamaged g c =
    none_damaged (Ok tt) c.args.self.now (g.H.Host.state c.args.host.now) tt
