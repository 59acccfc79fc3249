use Rattle.std.proofs.Common.{◌≡◌, ap, ◌∙◌, arith, map}
use Rattle.aes_gcm.specs.Cipher.{after_round, cipher}
use Rattle.aes_gcm.specs.Tower.{standard}
use Rattle.aes_gcm.specs.KeptKey.{KeptKeys}
use Rattle.aes_gcm.proofs.Rounds.{started, next_round, ended}
use Rattle.aes_gcm.proofs.block.encrypt_block.Goals as goal

pub loop-i-init : goal.loop-i-init
loop-i-init c =
    let kept : KeptKeys (map standard c.key.inside.first) c.key.inside.middle c.key.inside.last = c.key.invariant in
    started (map standard c.key.inside.first) c.args.block.now _ kept.long c.first_round-state.ensures

pub loop-i-preserved : goal.loop-i-preserved
loop-i-preserved c =
    let kept : KeptKeys (map standard c.key.inside.first) c.key.inside.middle c.key.inside.last = c.key.invariant in
    next_round (map standard c.key.inside.first) c.args.block.now _ _ _ c.loop-i.i c.loop-i.invariant (kept.rounds c.loop-i.i c.loop-i-test.true) c.round-state.ensures

pub returns : goal.returns
returns c =
    let kept : KeptKeys (map standard c.key.inside.first) c.key.inside.middle c.key.inside.last = c.key.invariant in
    let nine : c.loop-i.i ≡ 9 = omega arith in
    ended (map standard c.key.inside.first) c.args.block.now _ _ _ (c.loop-i.invariant ∙ ap (after_round (map standard c.key.inside.first) c.args.block.now) nine)
    kept.end c.last_round.ensures
    ∙ ap (λ k. cipher k c.args.block.now) c.key.view_is
