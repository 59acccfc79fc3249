use Rattle.std.proofs.Common.{◌≡◌, ◌+◌, ◌-◌, ◌≤◌, ◌∙◌, ℕ, ap, arith, length, take, drop, length-drop}
use Rattle.std.proofs.lemmas.List.{length-take-le}
use Rattle.trusted_chunks.proofs.Copied.{part_rest}
use Rattle.trusted_chunks.proofs.copying.copy_piece.Goals as goal

pub returns-clause-rest : goal.returns-clause-rest
returns-clause-rest c =
    let n = c.min-count.result in
    let part = drop c.args.done c.args.to.now in
    let behind : length part ≡ length c.args.to.now - c.args.done = length-drop c.args.done c.args.to.now in
    let is : c.args.done + n - c.args.done ≡ n = omega arith in
    let few : n ≤ length part = omega (arith, c.min-count.ensures, behind) in
    let long : length c.copy_from_slice.new.self ≡ n = c.copy_from_slice.ensures.len ∙ ap (λ (k : ℕ). length (take k part)) is ∙ length-take-le n part few in
    part_rest c.args.done n (c.args.done + n - c.args.done) c.args.to.now c.copy_from_slice.new.self is (omega (arith, c.min-count.ensures)) long
