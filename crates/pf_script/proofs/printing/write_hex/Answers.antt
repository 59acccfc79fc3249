use Rattle.std.proofs.Common.{◌≡◌, ◌≢◌, ◌++◌, List, ℕ, length, sym, rules, arith}
use Rattle.std.proofs.lemmas.Result.{err_from_is_err_and}
use Rattle.std.proofs.lemmas.List.{take-append-drop}
use Rattle.pf_script.proofs.Advancing.{no_bytes}
use Rattle.pf_script.proofs.Phrasing.{encoded_first, encoded_more, encoded_fails, encoded_all}
use Rattle.pf_script.proofs.printing.write_hex.Goals as goal

pub loop-rest-init : goal.loop-rest-init
loop-rest-init g c =
    encoded_first c.args.bytes.now (g.K.Sink.state c.args.out.now)

pub returns-in_err-write_piece : goal.returns-in_err-write_piece
returns-in_err-write_piece g c =
    let p = err_from_is_err_and c.from_residual.result c.from_residual.ensures.1 in
    let rest : List ℕ = c.loop-rest.rest.now in
    let piece : List ℕ = c.split_at.result.0.now in
    let behind : List ℕ = c.split_at.result.1.now in
    let cut : rest ≡ piece ++ behind = rw (c.split_at.ensures.front, c.split_at.ensures.back) (sym (take-append-drop _ rest)) in
    let s0 = g.K.Sink.state c.args.out.now in
    let s1 = g.K.Sink.state c.loop-rest.out in
    let s2 = g.K.Sink.state c.write_piece.new.out in
    rw p.1 (encoded_fails c.in_err-write_piece.field-0.0 c.args.bytes.now piece behind rest s0 s1 s2 cut c.loop-rest.invariant c.in_err-write_piece.ensures)

pub loop-rest-smaller : goal.loop-rest-smaller
loop-rest-smaller g c =
    let some : length c.loop-rest.rest.now ≢ 0 = search rules in
    omega (arith, some, c.split_at.ensures.back_len, c.min.ensures)

pub loop-rest-preserved : goal.loop-rest-preserved
loop-rest-preserved g c =
    let rest : List ℕ = c.loop-rest.rest.now in
    let piece : List ℕ = c.split_at.result.0.now in
    let behind : List ℕ = c.split_at.result.1.now in
    let cut : rest ≡ piece ++ behind = rw (c.split_at.ensures.front, c.split_at.ensures.back) (sym (take-append-drop _ rest)) in
    let s0 = g.K.Sink.state c.args.out.now in
    let s1 = g.K.Sink.state c.loop-rest.out in
    let s2 = g.K.Sink.state c.write_piece.new.out in
    encoded_more c.args.bytes.now piece behind rest s0 s1 s2 cut c.loop-rest.invariant c.in_ok-write_piece.ensures

pub returns : goal.returns
returns g c =
    let none : length c.loop-rest.rest.now ≡ 0 = search rules in
    encoded_all c.args.bytes.now c.loop-rest.rest.now (g.K.Sink.state c.args.out.now) (g.K.Sink.state c.loop-rest.out) (no_bytes c.loop-rest.rest.now none) c.loop-rest.invariant
