use Rattle.std.proofs.Common.{Option, Some, None, ℕ, [], ◌∷◌, take, inl, inr, refl, subst}
use Rattle.std.proofs.lemmas.Result.{err_from_is_err_and}
use Rattle.pf_io.specs.Host.{LengthWas, Gave}
use Rattle.pf_io.specs.Answered.{Answered}
use Rattle.pf_io.proofs.Answering.{answered_fault, answered_length, answered_bytes, answered_then}
use Rattle.enclave_measure.proofs.Asked.{asking_failed, asking_failed_next, asking_absent, asking_both, counts_no_read, counts_one_read, padded_read, taken_few}
use Rattle.enclave_measure.proofs.enclave.read_file.Goals as goal

pub returns-in_err-len-clause-asking : goal.returns-in_err-len-clause-asking
returns-in_err-len-clause-asking g c =
    let p = err_from_is_err_and c.from_residual.result c.from_residual.ensures.1 in
    let e = c.in_err-len.ensures in
    rw (p.1, p.2) (asking_failed (g.H.Host.state c.args.host.now) (g.H.Host.state c.len.new.self) e.cause.later e.cause.once e.disk)

pub returns-in_default-clause-asking : goal.returns-in_default-clause-asking
returns-in_default-clause-asking g c =
    let e = c.in_ok-len.ensures in
    asking_absent c.args.place (g.H.Host.state c.args.host.now) (g.H.Host.state c.len.new.self) e.cause.still e.disk

pub returns-in_err-read_at-clause-asking : goal.returns-in_err-read_at-clause-asking
returns-in_err-read_at-clause-asking g c =
    let p = err_from_is_err_and c.from_residual-in_err-read_at.result c.from_residual-in_err-read_at.ensures.1 in
    let e = c.in_ok-len.ensures in
    let f = c.in_err-read_at.ensures in
    rw (p.1, p.2) (asking_failed_next (g.H.Host.state c.args.host.now) (g.H.Host.state c.len.new.self) (g.H.Host.state c.read_at.new.self) e.cause.still e.disk f.cause.later f.cause.once f.disk)

pub returns-clause-asking : goal.returns-clause-asking
returns-clause-asking g c =
    let e = c.in_ok-len.ensures in
    let f = c.in_ok-read_at.ensures in
    asking_both c.read_at.new.to (g.H.Host.state c.args.host.now) (g.H.Host.state c.len.new.self) (g.H.Host.state c.read_at.new.self) e.cause.still e.disk f.cause.still f.disk

pub returns-in_err-len-clause-ends : goal.returns-in_err-len-clause-ends
returns-in_err-len-clause-ends g c =
    let p = err_from_is_err_and c.from_residual.result c.from_residual.ensures.1 in
    let old = g.H.Host.state c.args.host.now in
    let new = g.H.Host.state c.len.new.self in
    let e = c.in_err-len.ensures in
    rw (p.1, p.2) (record {
      name = c.args.name.now;
      at = c.args.at;
      these = [];
      of_file = refl;
      answered = answered_fault old new e.told e.files;
      counted = counts_no_read [] old new refl e.counts;
      ends = inl refl;
    })

pub returns-in_default-clause-ends : goal.returns-in_default-clause-ends
returns-in_default-clause-ends g c =
    let old = g.H.Host.state c.args.host.now in
    let new = g.H.Host.state c.len.new.self in
    let name = c.args.name.now in
    let e = c.in_ok-len.ensures in
    record {
      name = name;
      at = c.args.at;
      these = LengthWas name None ∷ [];
      of_file = refl;
      answered = subst (λ (o : Option ℕ). Answered (LengthWas name o ∷ []) old new) c.in_default.is (answered_length name c.in_ok-len.field-0 old new e.told e.files e.honest);
      counted = counts_no_read (LengthWas name None ∷ []) old new refl e.counts;
      ends = (refl, refl);
    }

pub returns-in_err-read_at-clause-ends : goal.returns-in_err-read_at-clause-ends
returns-in_err-read_at-clause-ends g c =
    let p = err_from_is_err_and c.from_residual-in_err-read_at.result c.from_residual-in_err-read_at.ensures.1 in
    let old = g.H.Host.state c.args.host.now in
    let mid = g.H.Host.state c.len.new.self in
    let new = g.H.Host.state c.read_at.new.self in
    let name = c.args.name.now in
    let e = c.in_ok-len.ensures in
    let f = c.in_err-read_at.ensures in
    let asked = subst (λ (o : Option ℕ). Answered (LengthWas name o ∷ []) old mid) c.in-Some.is (answered_length name c.in_ok-len.field-0 old mid e.told e.files e.honest) in
    rw (p.1, p.2) (record {
      name = name;
      at = c.args.at;
      these = LengthWas name (Some c.in-Some.field-0) ∷ [];
      of_file = refl;
      answered = answered_then (LengthWas name (Some c.in-Some.field-0) ∷ []) [] old mid new asked (answered_fault mid new f.told f.files);
      counted = counts_one_read (LengthWas name (Some c.in-Some.field-0) ∷ []) old mid new refl e.counts f.counts;
      ends = inr (c.in-Some.field-0, refl);
    })

pub returns-clause-ends : goal.returns-clause-ends
returns-clause-ends g c =
    let old = g.H.Host.state c.args.host.now in
    let mid = g.H.Host.state c.len.new.self in
    let new = g.H.Host.state c.read_at.new.self in
    let name = c.args.name.now in
    let e = c.in_ok-len.ensures in
    let f = c.in_ok-read_at.ensures in
    let n = c.in_ok-read_at.field-0 in
    let asked = subst (λ (o : Option ℕ). Answered (LengthWas name o ∷ []) old mid) c.in-Some.is (answered_length name c.in_ok-len.field-0 old mid e.told e.files e.honest) in
    let read = answered_bytes name c.args.at n 4096 _ c.read_at.new.to mid new f.rest refl f.told f.files f.honest in
    record {
      these = LengthWas name (Some c.in-Some.field-0) ∷ Gave name c.args.at 4096 (take n c.read_at.new.to) ∷ [];
      answered = answered_then (LengthWas name (Some c.in-Some.field-0) ∷ []) (Gave name c.args.at 4096 (take n c.read_at.new.to) ∷ []) old mid new asked read;
      counted = counts_one_read (LengthWas name (Some c.in-Some.field-0) ∷ Gave name c.args.at 4096 (take n c.read_at.new.to) ∷ []) old mid new refl e.counts f.counts;
      untouched = λ none. absurd (cc);
      gives = (c.in-Some.field-0, take n c.read_at.new.to, refl, taken_few n c.read_at.new.to f.rest, padded_read n c.read_at.new.to f.rest);
    }
