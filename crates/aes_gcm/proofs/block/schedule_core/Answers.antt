use Rattle.std.proofs.Common.{◌≡◌, ℕ, ◌/◌, ◌-◌, ◌<◌, map, get_or, refl, ap, ◌∙◌, arith}
use Rattle.std.proofs.lemmas.List.FromFn.{get_or-map-range_with_len}
use Rattle.std.specs.List.{range_with_len}
use Rattle.aes_gcm.specs.Field.{power, times}
use Rattle.aes_gcm.specs.declared.block.TheConstants.{ROUND_CONSTANTS}
use Rattle.aes_gcm.proofs.Schedule.{core_at_round}
use Rattle.aes_gcm.proofs.block.schedule_core.Goals as goal

table_is : ROUND_CONSTANTS ≡ map (power 2) (range_with_len 0 10)
unfolding power times
table_is = refl

get_or-ROUND_CONSTANTS : (j : ℕ) → j < 10 → get_or ROUND_CONSTANTS j 0 ≡ power 2 j
get_or-ROUND_CONSTANTS j h = ap (λ t. get_or t j 0) table_is ∙ get_or-map-range_with_len (power 2) 0 10 j j 0 h (omega arith)

pub returns-then-i-eq0 : goal.returns-then-i-eq0
returns-then-i-eq0 c =
    let is = c.sub_word-substituted.ensures in
    core_at_round c.args.i c.args.word _ _ _ _ _ (omega arith) c.if-i-eq0.true
    (ap (λ w. get_or w 0 0) is) (ap (λ w. get_or w 1 0) is) (ap (λ w. get_or w 2 0) is) (ap (λ w. get_or w 3 0) is)
    (get_or-ROUND_CONSTANTS (c.args.i / 4 - 1) (omega arith))
