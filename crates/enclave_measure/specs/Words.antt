-- What the reader's words stand for.
use Rattle.std.specs.Prelude.{ℕ, List, map}
use denote.Ref.{Bor}

-- words that are lent, as bytes
abbrev pub shown : List (Bor (List ℕ)) → List (List ℕ)
shown words = map (λ word. word.now) words
