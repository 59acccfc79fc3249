use Rattle.std.proofs.Common.{◌≡◌, ◌+◌, ◌-◌, ℕ, arith, ap, ◌∙◌, take, drop, length, min}
use Rattle.std.specs.List.{range_with_len}
use Rattle.trusted_chunks.specs.Kept.{joined}
use Rattle.trusted_chunks.proofs.Lists.{range_has}
use Rattle.trusted_chunks.proofs.Copied.{none_copied, copied_more}
use Rattle.trusted_chunks.proofs.copying.copy_out.Goals as goal

pub loop-chunk-init : goal.loop-chunk-init
loop-chunk-init c = none_copied c.args.kept.now.entries c.args.first c.args.skip (c.args.first - c.args.first) c.args.to.now (omega arith)

pub chunk_of-bytes-requires : goal.chunk_of-bytes-requires
chunk_of-bytes-requires c = c.requires.all_kept c.loop-chunk.chunk (range_has c.args.first c.args.count c.loop-chunk.chunk (omega (arith, c.loop-chunk.auto.chunk)) (omega arith))

pub copy_piece-done-requires-clause-done : goal.copy_piece-done-requires-clause-done
copy_piece-done-requires-clause-done c = let r = c.loop-chunk.invariant.rest in omega (arith, r.within, r.same_length)

pub loop-chunk-preserved : goal.loop-chunk-preserved
loop-chunk-preserved c =
    copied_more c.args.kept.now.entries c.args.first (c.loop-chunk.chunk - c.args.first) (c.loop-chunk.chunk + 1 - c.args.first) c.args.skip c.loop-chunk.chunk c.args.to.now c.loop-chunk.done c.loop-chunk.left c.min-start.result
    c.copy_piece-done.result c.loop-chunk.to c.copy_piece-done.new.to c.chunk_of-bytes.result.now c.loop-chunk.invariant (omega (arith, c.loop-chunk.auto.chunk)) (omega (arith, c.loop-chunk.auto.chunk)) c.chunk_of-bytes.ensures c.min-start.ensures
    c.copy_piece-done.ensures.count c.copy_piece-done.ensures.front c.copy_piece-done.ensures.rest

pub returns-clause-count : goal.returns-clause-count
returns-clause-count c =
    let all : c.loop-chunk.chunk - c.args.first ≡ c.args.count = omega (arith, c.loop-chunk.auto.chunk-end (omega arith)) in
    c.loop-chunk.invariant.count ∙ ap (λ (m : ℕ). min (length c.args.to.now) (length (joined c.args.kept.now.entries (range_with_len c.args.first m)) - c.args.skip)) all

pub returns-clause-bytes : goal.returns-clause-bytes
returns-clause-bytes c =
    let all : c.loop-chunk.chunk - c.args.first ≡ c.args.count = omega (arith, c.loop-chunk.auto.chunk-end (omega arith)) in
    c.loop-chunk.invariant.bytes ∙ ap (λ (m : ℕ). take c.loop-chunk.done (drop c.args.skip (joined c.args.kept.now.entries (range_with_len c.args.first m)))) all

pub returns-clause-rest : goal.returns-clause-rest
returns-clause-rest c = c.loop-chunk.invariant.rest
