-- What is left behind a loan of owned bytes.
use Rattle.std.proofs.Common.{◌≡◌, ℕ, List, ◌++◌, length, take, ◌∙◌, ap, arith}
use Rattle.std.proofs.lemmas.List.{drop_all, append-nil, take_all}
use Rattle.pf_io.specs.Lending.{with_front}

-- bytes of the same length are the whole
pub with_front-same_length : (bytes left : List ℕ) → length left ≡ length bytes → with_front bytes left ≡ left
with_front-same_length bytes left same =
    ap (λ (l : List ℕ). take (length bytes) (left ++ l)) (drop_all (length left) bytes (omega arith))
    ∙ ap (λ (l : List ℕ). take (length bytes) l) (append-nil left)
    ∙ take_all (length bytes) left (omega arith)
