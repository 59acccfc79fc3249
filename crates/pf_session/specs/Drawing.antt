-- The words of a nonce and of keys.
use Rattle.std.specs.Prelude.{◌≡◌, ℕ, ◌+◌, List, [], ◌∷◌, ◌++◌, length, Option, Some, None, Result, Ok, Err}
use Rattle.pf_io.specs.Words.{WordsState}
use Rattle.pf_io.specs.declared.faults.WordsFault.{WordsFault}
use Rattle.node_tree.specs.Existing.{AreKeys}
use Rattle.pf_session.specs.State.{SessionState}
use Rattle.pf_session.specs.Asking.{Took, TookFewer}

-- a nonce of two words that were taken
pub record IsDrawn (nonce : List ℕ) (old new : WordsState) : Type 0 where
  pub first : List ℕ
  pub second : List ℕ
  pub is : nonce ≡ first ++ second
  pub long : length nonce ≡ 32
  pub took : Took (first ∷ second ∷ []) old new

-- how many words a nonce takes: none where it was drawn
abbrev pub nonce_words : Option (List ℕ) → ℕ
nonce_words (Some nonce) = 0
nonce_words None = 2

-- the nonce of the next sealing: the one that was drawn, or two words
pub data IsNonce (drawn : Option (List ℕ)) (nonce : List ℕ) (words : List (List ℕ)) : Type 0 where
  was_drawn : drawn ≡ Some nonce → words ≡ [] → IsNonce drawn nonce words
  of_words : (first second : List ℕ) → drawn ≡ None → nonce ≡ first ++ second → words ≡ first ∷ second ∷ [] → IsNonce drawn nonce words

-- The words came of a nonce and of one key for each of some nodes, in this order.
pub record WordsCame (drawn : Option (List ℕ)) (count : ℕ) (nonce : List ℕ) (keys : List (List ℕ)) (old new : WordsState) : Type 0 where
  pub words : List (List ℕ)
  pub is_nonce : IsNonce drawn nonce words
  pub nonce_length : length nonce ≡ 32
  pub are_keys : AreKeys count keys
  pub took : Took (words ++ keys) old new

-- fewer came than these
abbrev pub WordsLacked : Option (List ℕ) → ℕ → WordsState → WordsState → Type 0
WordsLacked drawn count old new = TookFewer (nonce_words drawn + count) old new

-- A drawing gives the nonce that was drawn, or draws it; where no word came, the session stays.
pub data DrawGoes (result : Result (List ℕ) WordsFault) (old new : SessionState) (random random' : WordsState) : Type 0 where
  drawn_before : (nonce : List ℕ) → old.drawn ≡ Some nonce → new ≡ old → random' ≡ random → result ≡ Ok nonce → DrawGoes result old new random random'
  drawn_now : (nonce : List ℕ) → old.drawn ≡ None → IsDrawn nonce random random' → new ≡ record old { drawn = Some nonce } → result ≡ Ok nonce → DrawGoes result old new random random'
  not_drawn : (fault : WordsFault) → old.drawn ≡ None → TookFewer 2 random random' → new ≡ old → result ≡ Err fault → DrawGoes result old new random random'
