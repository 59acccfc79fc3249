use Rattle.std.proofs.Common.{◌≡◌, ℕ, Some, ◌+◌, ◌-◌, ◌/◌, ◌%◌, take, drop, arith, ap, sym, ◌∙◌, subst, refl}
use Rattle.node_tree.specs.Opened.{IsAt}
use Rattle.node_tree.specs.Putting.{with_piece}
use Rattle.node_tree.specs.Nodes.{Keeps, plain_at}
use Rattle.node_tree.proofs.Filled.{meets_byte}
use Rattle.node_tree.proofs.Puts.{put_to_first, put_to_more}
use Rattle.node_tree.proofs.Marking.{keeps_marks, keeps_marks_then}
use Rattle.node_tree.proofs.putting.put_bytes_at.Goals as goal

pub put_piece-requires-clause-held : goal.put_piece-requires-clause-held
put_piece-requires-clause-held c =
    let past = c.loop-done.invariant.to.past (omega arith) in
    let d = (c.args.at + c.loop-done.done - 3072) / 4096 in
    let was = c.requires.held d (meets_byte _ _ _ (omega arith) past) in
    let put = c.loop-done.invariant.to.put.met d was.0 was.1 in
    subst (λ (k : ℕ). IsAt (Keeps c.loop-done.nodes) k) (sym c.data_place.ensures) (put.plain, put.there)

pub loop-done-preserved : goal.loop-done-preserved
loop-done-preserved c =
    let d = (c.args.at + c.loop-done.done - 3072) / 4096 in
    let r = (c.args.at + c.loop-done.done - 3072) % 4096 in
    let n = c.min-count.result in
    let e = c.put_piece.ensures in
    let to = put_to_more c.args.at c.args.from.now (plain_at c.args.nodes.now) (plain_at c.loop-done.nodes) (plain_at c.put_piece.new.nodes) c.loop-done.done n d r c.loop-done.invariant.to (omega arith) refl refl c.min-count.ensures
    (λ plain there. e.whole plain (ap (plain_at c.loop-done.nodes) c.data_place.ensures ∙ there))
    (λ plain there. ap (plain_at c.put_piece.new.nodes) (sym c.data_place.ensures) ∙ e.here plain (ap (plain_at c.loop-done.nodes) c.data_place.ensures ∙ there)
    ∙ ap (λ (m : ℕ). Some (with_piece plain r (take m (drop c.loop-done.done c.args.from.now)))) (let same : c.loop-done.done + n - c.loop-done.done ≡ n = omega arith in same))
    (λ k other. e.others k (λ is. other (is ∙ c.data_place.ensures))) in
    record { to = to; marks = keeps_marks_then c.args.nodes.now c.loop-done.nodes c.put_piece.new.nodes c.loop-done.invariant.marks e.marks; blocks = λ blocks. e.blocks (c.loop-done.invariant.blocks blocks) }

pub loop-done-init : goal.loop-done-init
loop-done-init c = record {
  to = put_to_first c.args.at c.args.from.now (plain_at c.args.nodes.now) c.put_first-done.result c.put_first-done.ensures.count;
  marks = keeps_marks c.args.nodes.now;
  blocks = λ blocks. blocks;
}
