use Rattle.std.proofs.Common.{◌≡◌, ◌+◌, ◌-◌, ℕ, List, length, arith, ap, sym, ◌∙◌}
use Rattle.std.proofs.lemmas.List.{append-nil}
use Rattle.std.proofs.lemmas.List.FromFn.{length-range_with_len}
use Rattle.std.specs.List.{range_with_len}
use Rattle.lru.specs.LruCache.{lru_cache}
use Rattle.trusted_chunks.specs.Kept.{used, missing_of}
use Rattle.trusted_chunks.proofs.Promoting.{few_missing, none_used, used_one}
use Rattle.trusted_chunks.proofs.fetching.use_kept.Goals.{then-not-promote, else-not-promote}
use Rattle.trusted_chunks.proofs.fetching.use_kept.Goals as goal

pub loop-chunk-init : goal.loop-chunk-init
loop-chunk-init c = none_used c.args.kept.now c.args.first (c.args.first - c.args.first) c.new-missing.result.items (omega arith) c.new-missing.ensures

pub push-requires : goal.push-requires
push-requires c =
    let m = c.loop-chunk.chunk-counter - c.args.first in
    let few = few_missing c.args.kept.now.entries (range_with_len c.args.first m) in
    let long : length c.loop-chunk.missing.items ≡ length (missing_of c.args.kept.now.entries (range_with_len c.args.first m)) = ap (λ (l : List ℕ). length l) c.loop-chunk.invariant.missing_are in
    (omega arith, omega (arith, few, long, length-range_with_len c.args.first m))

pub loop-chunk-preserved : goal.loop-chunk-preserved
loop-chunk-preserved c =
    used_one c.args.kept.now c.loop-chunk.kept c.promote.new.self c.args.first (c.loop-chunk.chunk-counter - c.args.first) (c.loop-chunk.chunk-counter + 1 - c.args.first) c.loop-chunk.chunk-counter c.loop-chunk.missing.items c.if-not-promote.missing.items
    c.promote.result c.loop-chunk.invariant (omega (arith, c.loop-chunk.auto.chunk-counter)) (omega (arith, c.loop-chunk.auto.chunk-counter)) c.promote.ensures.entries c.promote.ensures.value
    (elim c.if-not-promote.branch [
      | then-not-promote w ↦ rw w.if-not-promote.true (ap (λ v. v.items) w.missing-is ∙ w.push.ensures.items)
      | else-not-promote w ↦ rw w.if-not-promote.false (ap (λ v. v.items) w.missing-is ∙ sym (append-nil c.loop-chunk.missing.items))
    ])

pub returns-clause-used : goal.returns-clause-used
returns-clause-used c =
    let all : c.loop-chunk.chunk-counter - c.args.first ≡ c.args.count = omega (arith, c.loop-chunk.auto.chunk-counter-end (omega arith)) in
    c.loop-chunk.invariant.used_are ∙ ap (λ (m : ℕ). lru_cache (used (range_with_len c.args.first m) c.args.kept.now.entries) c.args.kept.now.cap) all

pub returns-clause-missing : goal.returns-clause-missing
returns-clause-missing c =
    let all : c.loop-chunk.chunk-counter - c.args.first ≡ c.args.count = omega (arith, c.loop-chunk.auto.chunk-counter-end (omega arith)) in
    c.loop-chunk.invariant.missing_are ∙ ap (λ (m : ℕ). missing_of c.args.kept.now.entries (range_with_len c.args.first m)) all
