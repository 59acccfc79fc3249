use Rattle.std.proofs.Common.{◌<◌, ◌∷◌, [], ◌++◌, List, ℕ, length, ap, sym, ◌∙◌, rules}
use Rattle.trusted_chunks.proofs.Summing.{sums_one}
use Rattle.trusted_chunks.proofs.slices.add_slice.Goals as goal

pub returns-in_ok-push-clause-hashes : goal.returns-in_ok-push-clause-hashes
returns-in_ok-push-clause-hashes c =
    let some : 0 < length c.args.slice.now = search rules in
    c.in_ok-push.ensures.items ∙ ap (λ (s : List ℕ). c.args.hashes.now.items ++ s ∷ []) c.digest.ensures ∙ ap (λ (l : List (List ℕ)). c.args.hashes.now.items ++ l) (sym (sums_one c.args.slice.now some c.requires))
