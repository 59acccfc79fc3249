-- Answers that give sums, whatever entries there are.
use Rattle.std.proofs.Common.{◌≡◌, ℕ, ◌≤◌, List, [], ◌∷◌, ◌++◌, length, refl, subst, ap, ◌∙◌, sym, arith, append_assoc, Option, Some, None}
use Rattle.std.specs.List.{concat}
use Rattle.std.proofs.lemmas.List.{append-nil}
use Rattle.sha2.specs.Sha256.{sha256}
use Rattle.pf_io.specs.Host.{Name, Answer, LengthWas, Gave}
use Rattle.pf_io.specs.Slices.{SLICE, MOST_BYTES, given_in_turn, AreWhole}
use Rattle.pf_io.proofs.Slices.{concat_last}
use Rattle.manifest_model.specs.declared.entries.Trusted.{Trusted}
use Rattle.file_sums.specs.Summing.{IsSumOf}
use Rattle.file_sums.specs.Collecting.{GivesSum, Gives}

-- some answers for entries, whatever they are
sum_some : (o : Option (List ℕ)) (name : Name) → (these : List Answer) × (sum : List ℕ) × GivesSum o name these sum
sum_some (Some listed) name = ([], listed, (refl, refl))
sum_some None name = (
  LengthWas name (Some 0) ∷ Gave name 0 SLICE [] ∷ [],
  sha256 [],
  record { bytes = []; taken = record { size = 0; whole = []; last = []; are_whole = tt; ended = omega arith; asked = refl; bytes_are = refl }; not_large = omega arith; sum_is = refl },
)

pub gives_some : (entries : List Trusted) → (these : List Answer) × (sums : List (List ℕ)) × Gives entries these sums
gives_some [] = ([], [], (refl, refl))
gives_some (entry ∷ entries) =
    let first = sum_some entry.sum entry.name in
    let rest = gives_some entries in
    (first.0 ++ rest.0, first.1 ∷ rest.1, (first.0, rest.0, first.1, rest.1, first.2, rest.2, refl, refl))

-- entries behind entries
pub gives_join : (front others : List Trusted) (a b : List Answer) (c d : List (List ℕ)) → Gives front a c → Gives others b d → Gives (front ++ others) (a ++ b) (c ++ d)
gives_join [] others a b c d gives rest = subst (λ (l : List Answer). Gives others (l ++ b) (c ++ d)) (sym gives.0) (subst (λ (l : List (List ℕ)). Gives others b (l ++ d)) (sym gives.1) rest)
gives_join (first ∷ front) others a b c d gives rest = (
  gives.0,
  gives.1 ++ b,
  gives.2,
  gives.3 ++ d,
  gives.4,
  gives_join front others gives.1 b gives.3 d gives.5 rest,
  ap (λ (l : List Answer). l ++ b) gives.6 ∙ append_assoc gives.0 gives.1 b,
  ap (λ (l : List (List ℕ)). l ++ d) gives.7,
)

-- with an empty slice behind whole ones the file is summed
pub sum_next : (name : Name) (size : ℕ) (whole : List (List ℕ)) → AreWhole whole → length (concat whole) ≤ MOST_BYTES → (sum : List ℕ) × IsSumOf sum name (LengthWas name (Some size) ∷ given_in_turn name 0 (whole ++ [] ∷ []))
sum_next name size whole are small = (
  sha256 (concat (whole ++ [] ∷ [])),
  record {
    bytes = concat (whole ++ [] ∷ []);
    taken = record { size = size; whole = whole; last = []; are_whole = are; ended = omega arith; asked = refl; bytes_are = refl };
    not_large = omega (arith, small, ap (λ (l : List ℕ). length l) (concat_last whole [] ∙ append-nil (concat whole)));
    sum_is = refl;
  },
)
