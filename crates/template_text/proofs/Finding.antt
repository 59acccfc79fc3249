-- A search for the first place that passes a test.
use Rattle.std.proofs.Common.{◌≡◌, ℕ, suc, zero, ◌<◌, ◌≤◌, ◌+◌, Bool, true, false, List, [], ◌∷◌, ◌++◌, length, take, drop, arith, add-one}
use Rattle.std.proofs.lemmas.List.{take-append-drop, take_all, drop_all, append-nil}
use Rattle.std.proofs.lemmas.Bool.{both_ways}
use Rattle.template_text.specs.Parts.{NoneIn}

none_after : (test : List ℕ → Bool) (xs : List ℕ) (i : ℕ) → i < length xs → NoneIn test (take i xs) (drop i xs) → test (drop i xs) ≡ false → NoneIn test (take (suc i) xs) (drop (suc i) xs)
none_after test [] i l none other = absurd (omega arith)
none_after test (x ∷ xs) zero l none other = (other, tt)
none_after test (x ∷ xs) (suc i) l none other = (rw (take-append-drop (suc i) xs) (rw (take-append-drop i xs) at none.0), none_after test xs i (omega arith) none.1 other)

pub none_more : (test : List ℕ → Bool) (xs : List ℕ) (i : ℕ) → i < length xs → NoneIn test (take i xs) (drop i xs) → test (drop i xs) ≡ false → NoneIn test (take (i + 1) xs) (drop (i + 1) xs)
none_more test xs i l none other = rw add-one (none_after test xs i l none other)

pub none_at_all : (test : List ℕ → Bool) (xs : List ℕ) (i : ℕ) → length xs ≤ i → NoneIn test (take i xs) (drop i xs) → NoneIn test xs []
none_at_all test xs i l none = rw (take_all i xs l, drop_all i xs l) at none

-- a test that no place of a text passes is passed by no end of it
pub never : (test : List ℕ → Bool) (front : List ℕ) (byte : ℕ) (bytes : List ℕ) → NoneIn test (front ++ byte ∷ bytes) [] → test (byte ∷ bytes) ≡ true → ⊥
never test [] byte bytes none here = both_ways (test (byte ∷ bytes)) (rw append-nil at none.0) here
never test (x ∷ front) byte bytes none here = never test front byte bytes none.1 here
