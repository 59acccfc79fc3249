use Rattle.std.proofs.Common.{◌≡◌, ◌%◌, ap, ◌∙◌, refl, arith, Some, slice_index}
use Rattle.std.specs.Option.{unwrap_or}
use Rattle.seal_bench.specs.Nodes.{byte_sum, plain_text}
use Rattle.seal_bench.proofs.Opened.{next_byte}
use Rattle.seal_bench.proofs.nodes.open_nodes.Goals as goal

pub loop-i-init : goal.loop-i-init
unfolding byte_sum
loop-i-init c = record { sum = refl; small = omega arith }

pub loop-i-preserved : goal.loop-i-preserved
loop-i-preserved c =
    let i = c.loop-i.i in
    let byte : c.if-i-eq0.byte ≡ Some (slice_index (plain_text 4096) (i % 4096)) =
    elim c.if-i-eq0.branch [
      | goal.then-i-eq0 w ↦ w.byte-is ∙ w.opened_byte-byte.ensures
      | goal.else-i-eq0 w ↦ w.byte-is ∙ w.opened_byte-byte-else-i-eq0.ensures
    ] in
    record {
      sum = next_byte i c.loop-i.sum c.unwrap_or.result c.loop-i.invariant.sum (c.unwrap_or.ensures ∙ ap (λ o. unwrap_or o 0) byte);
      small = omega arith;
    }

pub returns : goal.returns
returns c = let end : c.loop-i.i ≡ c.args.count = omega arith in c.loop-i.invariant.sum ∙ ap byte_sum end
