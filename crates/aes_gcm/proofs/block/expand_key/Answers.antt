use Rattle.std.proofs.Common.{refl, ◌≡◌, suc, ◌+◌, ◌-◌, [], ap, ◌∙◌, arith, rules}
use Rattle.aes_gcm.specs.Cipher.{schedule}
use Rattle.aes_gcm.proofs.Lists.{first_four}
use Rattle.aes_gcm.proofs.Schedule.{take-schedule}
use Rattle.aes_gcm.proofs.block.expand_key.Goals as goal

pub loop-i-2-init : goal.loop-i-2-init
unfolding schedule
loop-i-2-init c =
    let at = c.loop-i.invariant.1 in (
      c.loop-i.invariant.0,
      first_four c.loop-i.words [] (omega (arith, c.loop-i.invariant.0)) ∙ rw (at 0 (omega arith)) (rw (at 1 (omega arith)) (rw (at 2 (omega arith)) (rw (at 3 (omega arith)) refl))),
    )

pub loop-i-2-preserved : goal.loop-i-2-preserved
loop-i-2-preserved c =
    let i = c.loop-i-2.i in
    let next : suc (i - 4) ≡ i + 1 - 4 = omega arith in (
      search rules,
      take-schedule c.loop-i-2.words c.args.bytes.now (i - 4) i _ _ (omega arith) (omega arith) c.loop-i-2.invariant.1 c.schedule_core.ensures c.xor_words.ensures
          ∙ ap (λ n. schedule n c.args.bytes.now) next,
    )
