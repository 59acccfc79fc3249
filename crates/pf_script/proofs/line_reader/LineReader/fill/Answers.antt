use Rattle.std.proofs.Common.{◌≡◌, ◌∙◌, ◌-◌, ◌<◌, List, ℕ, length, take, drop, arith, sym, ap, subst}
use Rattle.pf_script.specs.LineReading.{MOST_READS, ReadBehind}
use Rattle.pf_script.proofs.Parts.{between, filled, whole_loan}
use Rattle.pf_script.proofs.line_reader.LineReader.fill.Goals as goal

pub returns-in-Ok : goal.returns-in-Ok
returns-in-Ok g c =
    let r = c.self.inside in
    let moved = c.move_to_front.new.buffer in
    let lent = c.as_mut_slice-2.result.now in
    let few : r.reads < MOST_READS = omega (arith, c.if-self-eq-MOST_READS.false, c.self.invariant) in
    let first : c.as_mut_slice.result.now ≡ r.buffer.items = c.as_mut_slice.ensures.value in
    let full : length moved ≡ length r.buffer.items = c.move_to_front.ensures.length ∙ ap (λ (t : List ℕ). length t) first in
    let len : length r.buffer.items ≡ r.buffer.len = sym r.buffer.ok.0 in
    let same : lent ≡ moved = c.as_mut_slice-2.ensures.value ∙ whole_loan moved (drop (length moved) r.buffer.items) r.buffer.len (full ∙ len) in
    let size : length c.read_behind.new.buffer ≡ 131073 = c.in-Ok.ensures.length ∙ ap (λ (t : List ℕ). length t) same ∙ full ∙ c.self.invariant.0 in
    let front : take (r.end - r.start) moved ≡ between r.start r.end r.buffer.items = c.move_to_front.ensures.moved ∙ ap (λ (t : List ℕ). between r.start r.end t) first in
    filled c.args.self.now (between r.line_start r.line_end r.buffer.items) (between 0 0 c.read_behind.new.buffer) r.reads r.stage r.buffer.items moved c.read_behind.new.buffer _ r.start r.end c.in-Ok.n (g.S.Source.state c.args.input.now) (g.S.Source.state c.read_behind.new.input)
    c.self.view_is (whole_loan c.read_behind.new.buffer _ r.buffer.len (c.in-Ok.ensures.length ∙ ap (λ (t : List ℕ). length t) same ∙ full ∙ len)) front size c.in-Ok.n-test.1 few (subst (λ (b : List ℕ). ReadBehind (r.end - r.start) c.in-Ok.n b c.read_behind.new.buffer (g.S.Source.state c.args.input.now) (g.S.Source.state c.read_behind.new.input)) same c.in-Ok.ensures.read)
