use Rattle.std.proofs.Common.{◌≡◌, ◌<◌, ◌+◌, ℕ, List, true, get_or, drop, subst, arith, IsCharBoundary}
use Rattle.std.proofs.lemmas.List.{length-drop, get_or-drop}
use Rattle.std.proofs.lemmas.Str.{IsCharBoundary-before_ascii}
use Rattle.template_text.specs.Pieces.{test_of}
use Rattle.template_text.proofs.Placing.{IsSmallAt, mark_small}
use Rattle.template_text.proofs.marks.cut_at_first.Goals as goal

boundary_at : (text : List ℕ) (at : ℕ) → IsSmallAt (drop at text) → IsCharBoundary text at
boundary_at text at is =
    let small : get_or text (at + 0) 0 < 128 = rw get_or-drop at is.small in
    let same : at + 0 ≡ at = omega arith in
    IsCharBoundary-before_ascii text at (omega (arith, is.there, length-drop at text)) (subst (λ n. get_or text n 0 < 128) same small)

pub split_at-requires : goal.split_at-requires
split_at-requires c =
    let here = subst (λ t. test_of c.args.mark (drop c.in_ok-at.at t) ≡ true) c.as_bytes.ensures.value c.in_ok-at.ensures.2 in
    boundary_at c.args.text.now c.in_ok-at.at (mark_small c.args.mark _ here)
