use Rattle.std.proofs.Common.{◌≡◌, ℕ, List, [], ◌∷◌, ap, ap₂, ◌∙◌, sym, arith, map, get_or}
use Rattle.aes_gcm.specs.Cipher.{after_round, cipher}
use Rattle.aes_gcm.specs.Tower.{standard}
use Rattle.aes_gcm.specs.KeptKey.{KeptKeys}
use Rattle.aes_gcm.proofs.Lists.{four_written_out}
use Rattle.aes_gcm.proofs.Rounds.{started, next_round, ended}
use Rattle.aes_gcm.proofs.block.encrypt_four.Goals as goal

pub loop-i-init : goal.loop-i-init
loop-i-init c =
    let key : List ℕ = map standard c.key.inside.first in
    let kept : KeptKeys key c.key.inside.middle c.key.inside.last = c.key.invariant in record {
      one = started key (get_or c.args.blocks 0 []) _ kept.long c.first_round-first.ensures;
      two = started key (get_or c.args.blocks 1 []) _ kept.long c.first_round-second.ensures;
      three = started key (get_or c.args.blocks 2 []) _ kept.long c.first_round-third.ensures;
      four = started key (get_or c.args.blocks 3 []) _ kept.long c.first_round-fourth.ensures;
    }

pub loop-i-preserved : goal.loop-i-preserved
loop-i-preserved c =
    let i = c.loop-i.i in
    let key : List ℕ = map standard c.key.inside.first in
    let kept : KeptKeys key c.key.inside.middle c.key.inside.last = c.key.invariant in
    let round_key = kept.rounds i c.loop-i-test.true in record {
      one = next_round key (get_or c.args.blocks 0 []) _ _ _ i c.loop-i.invariant.one round_key c.round-first.ensures;
      two = next_round key (get_or c.args.blocks 1 []) _ _ _ i c.loop-i.invariant.two round_key c.round-second.ensures;
      three = next_round key (get_or c.args.blocks 2 []) _ _ _ i c.loop-i.invariant.three round_key c.round-third.ensures;
      four = next_round key (get_or c.args.blocks 3 []) _ _ _ i c.loop-i.invariant.four round_key c.round-fourth.ensures;
    }

pub returns : goal.returns
returns c =
    let key : List ℕ = map standard c.key.inside.first in
    let kept : KeptKeys key c.key.inside.middle c.key.inside.last = c.key.invariant in
    let b : ℕ → List ℕ = λ j. get_or c.args.blocks j [] in
    let nine : c.loop-i.i ≡ 9 = omega arith in
    let one : c.last_round.result ≡ cipher key (b 0) = ended key (b 0) _ _ _ (c.loop-i.invariant.one ∙ ap (after_round key (b 0)) nine) kept.end c.last_round.ensures in
    let two : c.last_round-2.result ≡ cipher key (b 1) = ended key (b 1) _ _ _ (c.loop-i.invariant.two ∙ ap (after_round key (b 1)) nine) kept.end c.last_round-2.ensures in
    let three : c.last_round-3.result ≡ cipher key (b 2) = ended key (b 2) _ _ _ (c.loop-i.invariant.three ∙ ap (after_round key (b 2)) nine) kept.end c.last_round-3.ensures in
    let four : c.last_round-4.result ≡ cipher key (b 3) = ended key (b 3) _ _ _ (c.loop-i.invariant.four ∙ ap (after_round key (b 3)) nine) kept.end c.last_round-4.ensures in
    ap₂ ◌∷◌ one (ap₂ ◌∷◌ two (ap₂ ◌∷◌ three (ap (λ l. l ∷ []) four)))
    ∙ ap (map (cipher key)) (sym (four_written_out c.args.blocks [] (omega arith))) ∙ ap (λ k. map (cipher k) c.args.blocks) c.key.view_is
