-- Values of names, as words of the command line give them.
use Rattle.std.specs.Prelude.{◌≡◌, ℕ, ◌==◌, List, [], ◌∷◌, ◌++◌, drop, codes, bytes_eq, if◌then◌else◌}
use Rattle.std.specs.List.{before_first, after_first}
use Rattle.template_text.specs.Names.{IsValueName}
use Rattle.template_text.specs.Rendering.{Values}

abbrev pub EQUALS : ℕ
EQUALS = 61

-- NAME=VALUE
abbrev pub spelled : List ℕ → List ℕ → List ℕ
spelled name value = name ++ EQUALS ∷ value

-- A pair of a name and its value stands first, as `-D NAME=VALUE` or `-DNAME=VALUE`, and the rest follows.
pub data DefinesFirst (words : List (List ℕ)) (name value : List ℕ) (rest : List (List ℕ)) : Type 0 where
  in_two_words : IsValueName name → words ≡ codes "-D" ∷ spelled name value ∷ rest → DefinesFirst words name value rest
  in_one_word : IsValueName name → words ≡ (codes "-D" ++ spelled name value) ∷ rest → DefinesFirst words name value rest

-- no pair stands first
abbrev pub DefinesNone : List (List ℕ) → Type 0
DefinesNone words = (name value : List ℕ) (rest : List (List ℕ)) → DefinesFirst words name value rest → ⊥

-- pairs stand first, one after another, and the rest follows
abbrev pub Define : List (List ℕ) → Values → List (List ℕ) → Type 0
Define words [] rest = words ≡ rest
Define words (pair ∷ values) rest = (behind : List (List ℕ)) × DefinesFirst words pair.0 pair.1 behind × Define behind values rest

-- what stands before and behind the first `=`
abbrev pub pair_of : List ℕ → List ℕ × List ℕ
pair_of text = (before_first (λ byte. byte == EQUALS) text, after_first (λ byte. byte == EQUALS) text)

-- the pairs of words that are pairs alone; `values_behind` those of words behind a `-D` that stands alone
abbrev mutual
  pub values_in : List (List ℕ) → Values
  values_in [] = []
  values_in (word ∷ words) = if bytes_eq word (codes "-D") then values_behind words else pair_of (drop 2 word) ∷ values_in words

  pub values_behind : List (List ℕ) → Values
  values_behind [] = []
  values_behind (word ∷ words) = pair_of word ∷ values_in words
