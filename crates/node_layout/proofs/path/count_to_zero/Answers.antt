use Rattle.std.proofs.Common.{rules, tests, ◌≡◌, ◌==◌, ℕ, ◌≤◌, length, cond, ltb, Some, None, arith}
use Rattle.std.proofs.lemmas.Iterator.{YieldsList-from_slice}
use Rattle.std.proofs.lemmas.Iterator.Search.{position_from_yields_List}
use Rattle.std.proofs.lemmas.List.Sums.{prefix_len-le-length}
use Rattle.std.proofs.lemmas.Bool.Decides.{nat_tests}
use Rattle.std.specs.Option.{unwrap_or}
use Rattle.std.specs.List.{position_or_len}
use Rattle.node_layout.proofs.path.count_to_zero.Goals as goal

at_most : (n k : ℕ) → n ≤ k → unwrap_or (cond (ltb n k) (Some n) None) k ≡ n
at_most n k le = grind (arith, nat_tests)

pub returns : goal.returns
returns c =
    let found = position_from_yields_List (λ b. b == 0) _ _ c.position-position.result c.position-position.ensures.ran (YieldsList-from_slice c.args.bytes.now cc) (λ x b q k. search (rules, tests)) in
    let same = at_most (position_or_len (λ b. b == 0) c.args.bytes.now) (length c.args.bytes.now) (prefix_len-le-length _ c.args.bytes.now) in
    cc
