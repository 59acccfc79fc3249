use Rattle.std.proofs.Common.{◌≡◌, ℕ, ◌+◌, List, [], map, bit_xor, ap, ◌∙◌, sym, arith, rules, length, below_more, get_or-set_same, get_or-set_other}
use Rattle.std.proofs.lemmas.Simd.{zip2_splat_left}
use Rattle.aes_gcm.specs.Cipher.{four_words, round_key}
use Rattle.aes_gcm.specs.Tower.{absorbed, standard}
use Rattle.aes_gcm.proofs.TowerRounds.{cancelled}
use Rattle.aes_gcm.proofs.block.Key.new.Goals as goal

pub loop-i-preserved : goal.loop-i-preserved
unfolding round_key
loop-i-preserved c =
    let i = c.loop-i.i in
    let key = c.args.bytes.now in
    let is : map absorbed c.absorb.result ≡ round_key key (i + 1) = c.absorb.ensures ∙ c.round_key.ensures ∙ ap (λ w. four_words w (i + 1)) c.expand_key-words.ensures in (
      search rules,
      below_more _ _
          (λ r h. ap (map absorbed) (get_or-set_other c.loop-i.middle i r c.absorb.result [] (λ e. absurd (omega arith))) ∙ c.loop-i.invariant.1 r h)
          (ap (map absorbed) (get_or-set_same c.loop-i.middle i c.absorb.result [] (omega (arith, c.loop-i.invariant.0))) ∙ is),
    )

pub invariant_of-result : goal.invariant_of-result
unfolding round_key
invariant_of-result c =
    let key = c.args.bytes.now in
    let last : List ℕ = c.round_key-2.result in
    let same : map standard c.to_tower.result ≡ key = c.to_tower.ensures in record {
      long = omega (arith, ap length same);
      rounds = λ r h. c.loop-i.invariant.1 r (omega arith) ∙ ap (λ k. round_key k (r + 1)) (sym same);
      end = ap (map (bit_xor 99)) (zip2_splat_left bit_xor 99 16 last (omega arith)) ∙ cancelled 99 last
          ∙ c.round_key-2.ensures ∙ ap (λ w. four_words w 10) c.expand_key-words.ensures ∙ ap (λ k. round_key k 10) (sym same);
    }

pub returns : goal.returns
returns c = c.to_tower.ensures
