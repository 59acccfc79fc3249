-- Answers decide how a summing ends.
use Rattle.std.proofs.Common.{◌≡◌, ℕ, ◌+◌, List, [], ◌∷◌, ◌++◌, length, Some, None, refl, sym, ap, subst, ◌∙◌, arith, Result, Ok, Err}
use Rattle.std.specs.List.{concat}
use Rattle.std.proofs.lemmas.List.{append-nil}
use Rattle.sha2.specs.Sha256.{sha256}
use Rattle.pf_io.specs.Host.{Name, Answer, LengthWas}
use Rattle.pf_io.specs.Slices.{SLICE, given_in_turn, AreWhole, IsTooLarge, IsStopped}
use Rattle.file_sums.specs.Summing.{IsSumOf, SumEnds}
use Rattle.file_sums.specs.declared.fault.SumFault.{SumFault}
use Rattle.file_sums.specs.declared.fault.SumFault.TheVariants as faults

-- the slices that came are told
same_in_turn : (name : Name) (at : ℕ) (xs ys : List (List ℕ)) → given_in_turn name at xs ≡ given_in_turn name at ys → xs ≡ ys
same_in_turn name at [] [] same = refl
same_in_turn name at [] (y ∷ ys) same = absurd (cc)
same_in_turn name at (x ∷ xs) [] same = absurd (cc)
same_in_turn name at (x ∷ xs) (y ∷ ys) same =
    let first : x ≡ y = cc in
    let rest : given_in_turn name (at + length x) xs ≡ given_in_turn name (at + length y) ys = cc in
    let on = same_in_turn name (at + length x) xs ys (rest ∙ ap (λ (slice : List ℕ). given_in_turn name (at + length slice) ys) (sym first)) in
    ap (λ (slice : List ℕ). slice ∷ xs) first ∙ ap (λ (slices : List (List ℕ)). y ∷ slices) on

same_slices : (name : Name) (size other : ℕ) (these : List Answer) (xs ys : List (List ℕ)) → these ≡ LengthWas name (Some size) ∷ given_in_turn name 0 xs → these ≡ LengthWas name (Some other) ∷ given_in_turn name 0 ys → xs ≡ ys
same_slices name size other these xs ys one two = same_in_turn name 0 xs ys (let same : LengthWas name (Some size) ∷ given_in_turn name 0 xs ≡ LengthWas name (Some other) ∷ given_in_turn name 0 ys = sym one ∙ two in cc)

last_whole : (whole : List (List ℕ)) (last : List ℕ) → AreWhole (whole ++ last ∷ []) → length last ≡ SLICE
last_whole [] last are = are.0
last_whole (slice ∷ whole) last are = last_whole whole last are.1

there_or_not : (name : Name) (size : ℕ) (these rest : List Answer) → these ≡ LengthWas name (Some size) ∷ rest → these ≡ LengthWas name None ∷ [] → ⊥
there_or_not name size these rest one two = let same : LengthWas name (Some size) ∷ rest ≡ LengthWas name None ∷ [] = sym one ∙ two in let o : Some size ≡ None = cc in cc

some_or_none : (first : Answer) (these rest : List Answer) → these ≡ first ∷ rest → these ≡ [] → ⊥
some_or_none first these rest one two = let same : first ∷ rest ≡ [] = sym one ∙ two in cc

same_sum : (name : Name) (these : List Answer) (sum other : List ℕ) → IsSumOf sum name these → IsSumOf other name these → sum ≡ other
same_sum name these sum other one two =
    let slices = same_slices name one.taken.size two.taken.size these (one.taken.whole ++ one.taken.last ∷ []) (two.taken.whole ++ two.taken.last ∷ []) one.taken.asked two.taken.asked in
    one.sum_is ∙ ap sha256 (one.taken.bytes_are ∙ ap concat slices ∙ sym two.taken.bytes_are) ∙ sym two.sum_is

not_both_large : (name : Name) (these : List Answer) (sum : List ℕ) → IsSumOf sum name these → IsTooLarge name these → ⊥
not_both_large name these sum one large =
    let slices = same_slices name one.taken.size large.came.1.0 these (one.taken.whole ++ one.taken.last ∷ []) (large.whole ++ large.last ∷ []) one.taken.asked large.came.1.1 in
    let long = ap (λ (l : List ℕ). length l) (one.taken.bytes_are ∙ ap concat slices) in
    omega (arith, long, one.not_large, large.too_large)

not_both_stopped : (name : Name) (these : List Answer) (sum : List ℕ) → IsSumOf sum name these → IsStopped name these → ⊥
not_both_stopped name these sum one (IsStopped.at_length none) = some_or_none (LengthWas name (Some one.taken.size)) these (given_in_turn name 0 (one.taken.whole ++ one.taken.last ∷ [])) one.taken.asked none
not_both_stopped name these sum one (IsStopped.at_slice whole came small) =
    let slices = same_slices name one.taken.size came.1.0 these (one.taken.whole ++ one.taken.last ∷ []) (whole ++ []) one.taken.asked came.1.1 ∙ append-nil whole in
    let long = last_whole one.taken.whole one.taken.last (subst (λ (l : List (List ℕ)). AreWhole l) (sym slices) came.0) in
    let short = one.taken.ended in
    omega (arith, long, short)

large_not_stopped : (name : Name) (these : List Answer) → IsTooLarge name these → IsStopped name these → ⊥
large_not_stopped name these large (IsStopped.at_length none) = some_or_none (LengthWas name (Some large.came.1.0)) these (given_in_turn name 0 (large.whole ++ large.last ∷ [])) large.came.1.1 none
large_not_stopped name these large (IsStopped.at_slice whole came small) =
    let slices = same_slices name large.came.1.0 came.1.0 these (large.whole ++ large.last ∷ []) (whole ++ []) large.came.1.1 came.1.1 ∙ append-nil whole in
    let long = ap (λ (l : List (List ℕ)). length (concat l)) slices in
    omega (arith, long, small, large.too_large)

absent_not_stopped : (name : Name) (these : List Answer) → these ≡ LengthWas name None ∷ [] → IsStopped name these → ⊥
absent_not_stopped name these is (IsStopped.at_length none) = some_or_none (LengthWas name None) these [] is none
absent_not_stopped name these is (IsStopped.at_slice whole came small) = there_or_not name came.1.0 these (given_in_turn name 0 (whole ++ [])) came.1.1 is

pub decided : (name : Name) (these : List Answer) (outcome other : Result (List ℕ) SumFault) → SumEnds outcome name these → SumEnds other name these → outcome ≡ other
decided name these (Ok sum) (Ok sum') one two = ap (λ (s : List ℕ). Ok s) (same_sum name these sum sum' one two)
decided name these (Ok sum) (Err faults.NotFound) one two = absurd (there_or_not name one.taken.size these (given_in_turn name 0 (one.taken.whole ++ one.taken.last ∷ [])) one.taken.asked two)
decided name these (Ok sum) (Err faults.TooLarge) one two = absurd (not_both_large name these sum one two)
decided name these (Ok sum) (Err faults.Host) one two = absurd (not_both_stopped name these sum one two)
decided name these (Err faults.NotFound) (Ok sum) one two = absurd (there_or_not name two.taken.size these (given_in_turn name 0 (two.taken.whole ++ two.taken.last ∷ [])) two.taken.asked one)
decided name these (Err faults.NotFound) (Err faults.NotFound) one two = refl
decided name these (Err faults.NotFound) (Err faults.TooLarge) one two = absurd (there_or_not name two.came.1.0 these (given_in_turn name 0 (two.whole ++ two.last ∷ [])) two.came.1.1 one)
decided name these (Err faults.NotFound) (Err faults.Host) one two = absurd (absent_not_stopped name these one two)
decided name these (Err faults.TooLarge) (Ok sum) one two = absurd (not_both_large name these sum two one)
decided name these (Err faults.TooLarge) (Err faults.NotFound) one two = absurd (there_or_not name one.came.1.0 these (given_in_turn name 0 (one.whole ++ one.last ∷ [])) one.came.1.1 two)
decided name these (Err faults.TooLarge) (Err faults.TooLarge) one two = refl
decided name these (Err faults.TooLarge) (Err faults.Host) one two = absurd (large_not_stopped name these one two)
decided name these (Err faults.Host) (Ok sum) one two = absurd (not_both_stopped name these sum two one)
decided name these (Err faults.Host) (Err faults.NotFound) one two = absurd (absent_not_stopped name these two one)
decided name these (Err faults.Host) (Err faults.TooLarge) one two = absurd (large_not_stopped name these two one)
decided name these (Err faults.Host) (Err faults.Host) one two = refl
