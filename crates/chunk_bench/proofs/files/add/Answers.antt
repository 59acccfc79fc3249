use Rattle.std.proofs.Common.{◌+◌, ap, refl, sym, ◌∙◌, arith, take_all, get_or}
use Rattle.std.specs.List.{sum}
use Rattle.std.proofs.lemmas.List.Sums.{fold_more}
use Rattle.chunk_bench.proofs.files.add.Goals as goal

pub loop-byte-init : goal.loop-byte-init
loop-byte-init c = record { added = refl; small = omega arith }

pub overflow_add-total : goal.overflow_add-total
overflow_add-total c = omega (arith, c.loop-byte.invariant.small, c.loop-byte-test.true, c.requires, c.type_inv.piece c.loop-byte.byte-index)

pub loop-byte-preserved : goal.loop-byte-preserved
loop-byte-preserved c =
    let i = c.loop-byte.byte-index in
    record {
      added = ap (λ t. t + get_or c.args.piece.now i 0) c.loop-byte.invariant.added ∙ sym (fold_more (λ a x. a + x) 0 c.args.piece.now i 0 c.loop-byte-test.true);
      small = omega (arith, c.loop-byte.invariant.small, c.type_inv.piece i);
    }

pub returns-clause-sum : goal.returns-clause-sum
returns-clause-sum c = c.loop-byte.invariant.added ∙ ap sum (take_all c.loop-byte.byte-index c.args.piece.now (omega (arith, c.loop-byte-test.false)))

pub returns-clause-small : goal.returns-clause-small
returns-clause-small c = omega (arith, c.loop-byte.invariant.small, c.loop-byte.auto.byte-index-end, c.requires)
