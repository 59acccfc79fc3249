-- What a source of random words tells.
use Rattle.std.specs.Prelude.{◌≡◌, ℕ, List, ◌∷◌, Option, Result, Ok, Err}
use Rattle.pf_io.specs.Host.{Both}

-- `left` has the words that are left, where they are told
pub record WordsState : Type 0 where
  pub faults : ℕ
  pub left : Option (List (List ℕ))

-- an answer is the first word left and takes that one alone; a fault takes none
abbrev pub TakesWord : {E : Type 0} → Result (List ℕ) E → Option (List (List ℕ)) → Option (List (List ℕ)) → Type 0
TakesWord (Ok word) before now = Both before now (λ words rest. words ≡ word ∷ rest)
TakesWord (Err fault) before now = now ≡ before
