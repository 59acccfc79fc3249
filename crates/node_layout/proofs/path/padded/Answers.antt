use Rattle.std.proofs.Common.{◌∙◌, ◌++◌, ℕ, ap, drop, length, replicate}
use Rattle.std.proofs.lemmas.List.{drop-replicate}
use Rattle.node_layout.proofs.path.padded.Goals as goal

pub returns : goal.returns
returns c =
    let n = length c.args.bytes.now in
    ap (λ t. t ++ drop n (replicate {A = ℕ} 768 0)) c.copy_from_slice.ensures.after ∙ ap (λ t. c.args.bytes.now ++ t) (drop-replicate {X = ℕ} n 768 0)
