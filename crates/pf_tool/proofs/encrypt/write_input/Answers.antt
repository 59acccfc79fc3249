use Rattle.std.proofs.Common.{rules, ◌≡◌, ℕ, ◌+◌, List, [], ◌++◌, length, take, refl, sym, subst, ◌∙◌, arith, length-append, length-take, Ok, Err}
use Rattle.std.proofs.lemmas.List.{length-take-le}
use Rattle.std.proofs.lemmas.Result.{err_from_is_err_and}
use Rattle.pf_session.specs.Changing.{WriteGoes}
use Rattle.pf_session.specs.declared.fault.Written.{Written}
use Rattle.pf_tool.specs.SealingInput.{GavePiece, PieceWritten, none_yet, one_more, not_given, not_written}
use Rattle.pf_tool.proofs.SessionWrites.{write_grows}
use Rattle.pf_tool.proofs.PieceGiving.{piece_given, piece_failed}
use Rattle.pf_tool.proofs.encrypt.write_input.Goals as goal

pub loop-given-init : goal.loop-given-init
loop-given-init g c = record {
  written = ([], none_yet [] c.args.session.now (g.H.Host.state c.args.host.now) (g.R.Words.state c.args.random.now) refl refl refl refl, c.requires.empty);
  room = search rules;
  whole = c.requires.whole;
  small = omega (arith, c.requires.empty);
}

pub returns-in_err-given-clause-stops : goal.returns-in_err-given-clause-stops
returns-in_err-given-clause-stops g c =
    let p = err_from_is_err_and c.from_residual.result c.from_residual.ensures.1 in
    let so_far = c.loop-given.invariant.written in
    let h1 = g.H.Host.state c.loop-given.host in
    let h2 = g.H.Host.state c.read_at.new.self in
    rw p.1 (rw p.2 (not_given so_far.0 c.loop-given.session h1 so_far.1 (piece_failed c.args.input.now (length so_far.0) _ h1 h2 c.in_err-given.ensures.told c.in_err-given.ensures.cause.once c.read_at.ensures.counts c.read_at.ensures.disk) refl))

pub returns-in-Err-clause-stops : goal.returns-in-Err-clause-stops
returns-in-Err-clause-stops g c =
    let so_far = c.loop-given.invariant.written in
    let h1 = g.H.Host.state c.loop-given.host in
    let h2 = g.H.Host.state c.read_at.new.self in
    let h3 = g.H.Host.state c.write.new.host in
    let r1 = g.R.Words.state c.loop-given.random in
    let r3 = g.R.Words.state c.write.new.random in
    let is : c.size-at.result ≡ length so_far.0 = c.size-at.ensures.same ∙ so_far.2 in
    let n = c.in_ok-given.given in
    let piece : List ℕ = take n c.read_at.new.to in
    let why = c.in-Err.fault in
    let gave : GavePiece c.args.input.now (length so_far.0) piece h1 h2 =
    subst (λ (k : ℕ). GavePiece c.args.input.now k piece h1 h2) is (piece_given c.args.input.now c.size-at.result n c.loop-given.piece c.read_at.new.to h1 h2 c.in_ok-given.ensures.rest c.loop-given.invariant.room c.in_ok-given.ensures.told
    c.in_ok-given.ensures.cause.still c.read_at.ensures.counts c.in_ok-given.ensures.honest c.read_at.ensures.disk) in
    not_written so_far.0 piece c.loop-given.session c.write.new.self h1 h2 r1 why so_far.1 gave
    (subst (λ (k : ℕ). WriteGoes (Err why) k piece c.loop-given.session c.write.new.self h2 h3 r1 r3) is c.in-Err.ensures.goes) c.piece_fault.ensures

pub returns-then-given-lt-PIECE-clause-written : goal.returns-then-given-lt-PIECE-clause-written
returns-then-given-lt-PIECE-clause-written g c =
    let so_far = c.loop-given.invariant.written in
    let h1 = g.H.Host.state c.loop-given.host in
    let h2 = g.H.Host.state c.read_at.new.self in
    let h3 = g.H.Host.state c.write.new.host in
    let r1 = g.R.Words.state c.loop-given.random in
    let r3 = g.R.Words.state c.write.new.random in
    let is : c.size-at.result ≡ length so_far.0 = c.size-at.ensures.same ∙ so_far.2 in
    let n = c.in_ok-given.given in
    let piece : List ℕ = take n c.read_at.new.to in
    let w : Written = c.in_default.field-0 in
    let gave : GavePiece c.args.input.now (length so_far.0) piece h1 h2 =
    subst (λ (k : ℕ). GavePiece c.args.input.now k piece h1 h2) is (piece_given c.args.input.now c.size-at.result n c.loop-given.piece c.read_at.new.to h1 h2 c.in_ok-given.ensures.rest c.loop-given.invariant.room c.in_ok-given.ensures.told
    c.in_ok-given.ensures.cause.still c.read_at.ensures.counts c.in_ok-given.ensures.honest c.read_at.ensures.disk) in
    let wrote : PieceWritten c.args.input.now (length so_far.0) piece c.loop-given.session c.write.new.self h1 h3 r1 r3 =
    record { between = h2; gave = gave; written = w; wrote = subst (λ (k : ℕ). WriteGoes (Ok w) k piece c.loop-given.session c.write.new.self h2 h3 r1 r3) is c.in_default.ensures.goes } in (
      so_far.0 ++ piece,
      record {
        earlier = so_far.0;
        last = piece;
        mid = c.loop-given.session;
        between = h1;
        words = r1;
        whole = so_far.1;
        wrote = wrote;
        short = let le = length-take-le n c.read_at.new.to in let lt = c.if-given-lt-PIECE.true in omega (arith, le, lt);
        content_is = refl;
      },
    )

pub loop-given-smaller : goal.loop-given-smaller
loop-given-smaller g c =
    let so_far = c.loop-given.invariant.written in
    let n = c.in_ok-given.given in
    let piece : List ℕ = take n c.read_at.new.to in
    let grown = write_grows c.in_default.field-0 c.size-at.result piece c.loop-given.session c.write.new.self (g.H.Host.state c.read_at.new.self) (g.H.Host.state c.write.new.host) (g.R.Words.state c.loop-given.random) (g.R.Words.state c.write.new.random) c.in_default.ensures.goes in
    let rest = c.in_ok-given.ensures.rest in
    let room = c.loop-given.invariant.room in
    let no = c.if-given-lt-PIECE.false in
    let full : length piece ≡ 32768 = omega (arith, length-take n c.read_at.new.to, no, rest.within, rest.same_length, room) in
    let same = c.size-at.ensures.same in
    let size = grown.size in
    let small = grown.fit.small in
    omega (arith, full, same, size, small)

pub loop-given-preserved : goal.loop-given-preserved
loop-given-preserved g c =
    let so_far = c.loop-given.invariant.written in
    let h1 = g.H.Host.state c.loop-given.host in
    let h2 = g.H.Host.state c.read_at.new.self in
    let h3 = g.H.Host.state c.write.new.host in
    let r1 = g.R.Words.state c.loop-given.random in
    let r3 = g.R.Words.state c.write.new.random in
    let is : c.size-at.result ≡ length so_far.0 = c.size-at.ensures.same ∙ so_far.2 in
    let n = c.in_ok-given.given in
    let piece : List ℕ = take n c.read_at.new.to in
    let w : Written = c.in_default.field-0 in
    let goes : WriteGoes (Ok w) (length so_far.0) piece c.loop-given.session c.write.new.self h2 h3 r1 r3 = subst (λ (k : ℕ). WriteGoes (Ok w) k piece c.loop-given.session c.write.new.self h2 h3 r1 r3) is c.in_default.ensures.goes in
    let grown = write_grows w (length so_far.0) piece c.loop-given.session c.write.new.self h2 h3 r1 r3 goes in
    let gave : GavePiece c.args.input.now (length so_far.0) piece h1 h2 =
    subst (λ (k : ℕ). GavePiece c.args.input.now k piece h1 h2) is (piece_given c.args.input.now c.size-at.result n c.loop-given.piece c.read_at.new.to h1 h2 c.in_ok-given.ensures.rest c.loop-given.invariant.room c.in_ok-given.ensures.told
    c.in_ok-given.ensures.cause.still c.read_at.ensures.counts c.in_ok-given.ensures.honest c.read_at.ensures.disk) in
    let wrote : PieceWritten c.args.input.now (length so_far.0) piece c.loop-given.session c.write.new.self h1 h3 r1 r3 = record { between = h2; gave = gave; written = w; wrote = goes } in
    let rest = c.in_ok-given.ensures.rest in
    let full : length piece ≡ 32768 = let room = c.loop-given.invariant.room in let no = c.if-given-lt-PIECE.false in omega (arith, length-take n c.read_at.new.to, no, rest.within, rest.same_length, room) in
    let longer : c.write.new.self.tree.size ≡ length so_far.0 + length piece = grown.size ∙ omega (arith, so_far.2) in
    record {
      written = (so_far.0 ++ piece, one_more so_far.0 piece (so_far.0 ++ piece) c.loop-given.session c.write.new.self h1 h3 r1 r3 so_far.1 wrote full refl, longer ∙ sym (length-append so_far.0 piece));
      room = rest.same_length ∙ c.loop-given.invariant.room;
      whole = grown.keeps.broken ∙ c.loop-given.invariant.whole;
      small = let fit = grown.fit.small in omega (arith, fit, longer);
    }
