-- What answers, and what files, decide of the sums of entries.
use Rattle.std.proofs.Common.{◌≡◌, inl, inr, ℕ, List, [], ◌∷◌, ◌++◌, length, refl, subst, ap, ap₂, ◌∙◌, sym, arith, append_assoc, Option, Some, None, Result, Ok, Err}
use Rattle.std.proofs.lemmas.List.{append-nil}
use Rattle.file_sums.specs.Summing.{IsSumOf, SumEnds, SumsFile}
use Rattle.file_sums.specs.Collecting.{GivesSum, Gives, AllEnd, IsSumIn, AreSumsIn, IsFirstRefused}
use Rattle.file_sums.specs.declared.fault.SumFault.{SumFault}
use Rattle.file_sums.specs.declared.fault.SumFault.TheVariants as sum_faults
use Rattle.file_sums.specs.declared.fault.AllFault.{AllFault}
use Rattle.file_sums.specs.declared.fault.AllFault.TheVariants as all_faults
use Rattle.manifest_model.specs.declared.entries.Trusted.{Trusted}
use Rattle.pf_io.specs.Disk.{Name, Files}
use Rattle.pf_io.specs.Host.{Answer, LengthWas}
use Rattle.pf_io.specs.Slices.{MOST_BYTES, given_in_turn, AreWhole, IsTooLarge}
use Rattle.pf_io.proofs.Slices.{long_last}
use Rattle.file_sums.proofs.Deciding.{decided}
use Rattle.pf_tool.proofs.InputLaws.{Ends, turn_one}

-- a result that is no fault of the host
abbrev pub IsCalm : Result (List ℕ) SumFault → Type 0
IsCalm (Ok sum) = Unit {0}
IsCalm (Err sum_faults.NotFound) = Unit {0}
IsCalm (Err sum_faults.TooLarge) = Unit {0}
IsCalm (Err sum_faults.Host) = ⊥

-- the slices that came of a file
record Turn (name : Name) (these : List Answer) : Type 0 where
  size : ℕ
  whole : List (List ℕ)
  last : List ℕ
  are_whole : AreWhole whole
  end : Ends MOST_BYTES 0 whole last
  is : these ≡ LengthWas name (Some size) ∷ given_in_turn name 0 (whole ++ last ∷ [])

taken_turn : (sum : List ℕ) (name : Name) (these : List Answer) → IsSumOf sum name these → Turn name these
taken_turn sum name these summed =
    let taken = summed.taken in
    record {
      size = taken.size;
      whole = taken.whole;
      last = taken.last;
      are_whole = taken.are_whole;
      end = record { few = let few = summed.not_large in omega (arith, few, ap (λ (l : List ℕ). length l) taken.bytes_are, long_last taken.whole taken.last); ends = inl taken.ended };
      is = taken.asked;
    }

large_turn : (name : Name) (these : List Answer) → IsTooLarge name these → Turn name these
large_turn name these large = record {
  size = large.came.1.0;
  whole = large.whole;
  last = large.last;
  are_whole = large.came.0;
  end = record { few = let few = large.not_before in omega (arith, few); ends = inr (let many = large.too_large in omega (arith, many, long_last large.whole large.last)) };
  is = large.came.1.1;
}

module _ (name : Name) (these those more further : List Answer) (same : these ++ more ≡ those ++ further) where
  moved : (a b : List Answer) → these ≡ a → those ≡ b → a ++ more ≡ b ++ further
  moved a b is is2 = ap (λ (l : List Answer). l ++ more) (sym is) ∙ same ∙ ap (λ (l : List Answer). l ++ further) is2

  abbrev Alike : Type 0
  Alike = (these ≡ those) × (more ≡ further)

  same_all : Turn name these → Turn name those → Alike
  same_all a b =
      let all : LengthWas name (Some a.size) ∷ (given_in_turn name 0 (a.whole ++ a.last ∷ []) ++ more) ≡ LengthWas name (Some b.size) ∷ (given_in_turn name 0 (b.whole ++ b.last ∷ []) ++ further) =
      moved (LengthWas name (Some a.size) ∷ given_in_turn name 0 (a.whole ++ a.last ∷ [])) (LengthWas name (Some b.size) ∷ given_in_turn name 0 (b.whole ++ b.last ∷ [])) a.is b.is in
      let sizes : a.size ≡ b.size = cc in
      let rest : given_in_turn name 0 (a.whole ++ a.last ∷ []) ++ more ≡ given_in_turn name 0 (b.whole ++ b.last ∷ []) ++ further = cc in
      let one = turn_one MOST_BYTES name 0 a.whole b.whole a.last b.last more further a.are_whole b.are_whole a.end b.end rest in (
        a.is ∙ ap (λ (n : ℕ). LengthWas name (Some n) ∷ given_in_turn name 0 (a.whole ++ a.last ∷ [])) sizes
            ∙ ap₂ (λ (w : List (List ℕ)) (l : List ℕ). LengthWas name (Some b.size) ∷ given_in_turn name 0 (w ++ l ∷ [])) one.0 one.1 ∙ sym b.is,
        one.2,
      )

  absent_second : {X : Type 0} → Turn name these → those ≡ LengthWas name None ∷ [] → X
  absent_second a is =
      let all : LengthWas name (Some a.size) ∷ (given_in_turn name 0 (a.whole ++ a.last ∷ []) ++ more) ≡ LengthWas name None ∷ further =
      moved (LengthWas name (Some a.size) ∷ given_in_turn name 0 (a.whole ++ a.last ∷ [])) (LengthWas name None ∷ []) a.is is in
      absurd (cc)

  absent_first : {X : Type 0} → these ≡ LengthWas name None ∷ [] → Turn name those → X
  absent_first is b =
      let all : LengthWas name None ∷ more ≡ LengthWas name (Some b.size) ∷ (given_in_turn name 0 (b.whole ++ b.last ∷ []) ++ further) =
      moved (LengthWas name None ∷ []) (LengthWas name (Some b.size) ∷ given_in_turn name 0 (b.whole ++ b.last ∷ [])) is b.is in
      absurd (cc)

  -- as many answers are for a file
  file_alike : (r s : Result (List ℕ) SumFault) → IsCalm r → IsCalm s → SumEnds r name these → SumEnds s name those → Alike
  file_alike (Ok sum) (Ok other) calm calm2 first second = same_all (taken_turn sum name these first) (taken_turn other name those second)
  file_alike (Ok sum) (Err sum_faults.NotFound) calm calm2 first second = absent_second (taken_turn sum name these first) second
  file_alike (Ok sum) (Err sum_faults.TooLarge) calm calm2 first second = same_all (taken_turn sum name these first) (large_turn name those second)
  file_alike (Ok sum) (Err sum_faults.Host) calm calm2 first second = absurd calm2
  file_alike (Err sum_faults.NotFound) (Ok other) calm calm2 first second = absent_first first (taken_turn other name those second)
  file_alike (Err sum_faults.NotFound) (Err sum_faults.NotFound) calm calm2 first second =
      let all : LengthWas name None ∷ more ≡ LengthWas name None ∷ further = moved (LengthWas name None ∷ []) (LengthWas name None ∷ []) first second in
      (first ∙ sym second, cc)
  file_alike (Err sum_faults.NotFound) (Err sum_faults.TooLarge) calm calm2 first second = absent_first first (large_turn name those second)
  file_alike (Err sum_faults.NotFound) (Err sum_faults.Host) calm calm2 first second = absurd calm2
  file_alike (Err sum_faults.TooLarge) (Ok other) calm calm2 first second = same_all (large_turn name these first) (taken_turn other name those second)
  file_alike (Err sum_faults.TooLarge) (Err sum_faults.NotFound) calm calm2 first second = absent_second (large_turn name these first) second
  file_alike (Err sum_faults.TooLarge) (Err sum_faults.TooLarge) calm calm2 first second = same_all (large_turn name these first) (large_turn name those second)
  file_alike (Err sum_faults.TooLarge) (Err sum_faults.Host) calm calm2 first second = absurd calm2
  file_alike (Err sum_faults.Host) s calm calm2 first second = absurd calm

  -- and they come to one outcome
  file_one : (r s : Result (List ℕ) SumFault) → IsCalm r → IsCalm s → SumEnds r name these → SumEnds s name those → (these ≡ those) × (r ≡ s) × (more ≡ further)
  file_one r s calm calm2 first second =
      let alike = file_alike r s calm calm2 first second in
      (alike.0, decided name those r s (subst (λ (l : List Answer). SumEnds r name l) alike.0 first) second, alike.1)

-- how an entry ends by its answers
abbrev pub EntrySaid : Option (List ℕ) → Name → List Answer → Result (List ℕ) SumFault → Type 0
EntrySaid (Some listed) name these r = (these ≡ []) × (r ≡ Ok listed)
EntrySaid None name these r = IsCalm r × SumEnds r name these

entry_one : (o : Option (List ℕ)) (name : Name) (these those more further : List Answer) (r s : Result (List ℕ) SumFault) → these ++ more ≡ those ++ further → EntrySaid o name these r → EntrySaid o name those s → (these ≡ those) × (r ≡ s) × (more ≡ further)
entry_one (Some listed) name these those more further r s same first second =
    (first.0 ∙ sym second.0, first.1 ∙ sym second.1, ap (λ (l : List Answer). l ++ more) (sym first.0) ∙ same ∙ ap (λ (l : List Answer). l ++ further) second.0)
entry_one None name these those more further r s same first second = file_one name these those more further same r s first.0 second.0 first.1 second.1

-- a sum before those of other entries, or the fault of one of them
abbrev with_first : List ℕ → Result (List (List ℕ)) AllFault → Result (List (List ℕ)) AllFault
with_first sum (Ok sums) = Ok (sum ∷ sums)
with_first sum (Err fault) = Err fault

abbrev EndsBehind : Result (List ℕ) SumFault → Name → List Answer → List Answer → Result (List (List ℕ)) AllFault → (List Answer → Result (List (List ℕ)) AllFault → Type 0) → Type 0
EndsBehind (Ok sum) name first these r Rest = (others : List Answer) × (rest : Result (List (List ℕ)) AllFault) × Rest others rest × (these ≡ first ++ others) × (r ≡ with_first sum rest)
EndsBehind (Err why) name first these r Rest = (these ≡ first) × (r ≡ Err (all_faults.At name why))

-- how entries end by their answers, one after the other
abbrev pub Said : List Trusted → List Answer → Result (List (List ℕ)) AllFault → Type 0
Said [] these r = (these ≡ []) × (r ≡ Ok [])
Said (entry ∷ entries) these r = (first : List Answer) × (here : Result (List ℕ) SumFault) × EntrySaid entry.sum entry.name first here × EndsBehind here entry.name first these r (Said entries)

behind_first : (here : Result (List ℕ) SumFault) (name : Name) (first these : List Answer) (r : Result (List (List ℕ)) AllFault) (Rest : List Answer → Result (List (List ℕ)) AllFault → Type 0) → EndsBehind here name first these r Rest → (others : List Answer) × (these ≡ first ++ others)
behind_first (Ok sum) name first these r Rest ends = (ends.0, ends.3)
behind_first (Err why) name first these r Rest ends = ([], ends.0 ∙ sym (append-nil first))

split_more : (these first others more : List Answer) → these ≡ first ++ others → first ++ (others ++ more) ≡ these ++ more
split_more these first others more is = sym (append_assoc first others more) ∙ ap (λ (l : List Answer). l ++ more) (sym is)

same_behind : (first others those : List Answer) → first ++ others ≡ first ++ those → others ≡ those
same_behind [] others those same = same
same_behind (x ∷ first) others those same = same_behind first others those (cc)

abbrev OneRest : (List Answer → Result (List (List ℕ)) AllFault → Type 0) → Type 0
OneRest Rest = (these those more further : List Answer) (r s : Result (List (List ℕ)) AllFault) → these ++ more ≡ those ++ further → Rest these r → Rest those s → (r ≡ s) × (more ≡ further)

behind_one : (Rest : List Answer → Result (List (List ℕ)) AllFault → Type 0) → OneRest Rest → (name : Name) (here : Result (List ℕ) SumFault) (first these those more further : List Answer) (r s : Result (List (List ℕ)) AllFault) → these ++ more ≡ those ++ further
    → EndsBehind here name first these r Rest → EndsBehind here name first those s Rest → (r ≡ s) × (more ≡ further)
behind_one Rest rest_one name (Ok sum) first these those more further r s same a b =
    let all : a.0 ++ more ≡ b.0 ++ further = same_behind first (a.0 ++ more) (b.0 ++ further) (split_more these first a.0 more a.3 ∙ same ∙ sym (split_more those first b.0 further b.3)) in
    let one = rest_one a.0 b.0 more further a.1 b.1 all a.2 b.2 in
    (a.4 ∙ ap (with_first sum) one.0 ∙ sym b.4, one.1)
behind_one Rest rest_one name (Err why) first these those more further r s same a b =
    (a.1 ∙ sym b.1, same_behind first more further (ap (λ (l : List Answer). l ++ more) (sym a.0) ∙ same ∙ ap (λ (l : List Answer). l ++ further) b.0))

-- the same answers for entries come to one outcome, by as many answers
pub said_one : (entries : List Trusted) (these those more further : List Answer) (r s : Result (List (List ℕ)) AllFault) → these ++ more ≡ those ++ further → Said entries these r → Said entries those s → (r ≡ s) × (more ≡ further)
said_one [] these those more further r s same a b = (a.1 ∙ sym b.1, ap (λ (l : List Answer). l ++ more) (sym a.0) ∙ same ∙ ap (λ (l : List Answer). l ++ further) b.0)
said_one (entry ∷ entries) these those more further r s same a b =
    let u = behind_first a.1 entry.name a.0 these r (Said entries) a.3 in
    let v = behind_first b.1 entry.name b.0 those s (Said entries) b.3 in
    let all : a.0 ++ (u.0 ++ more) ≡ b.0 ++ (v.0 ++ further) = split_more these a.0 u.0 more u.1 ∙ same ∙ sym (split_more those b.0 v.0 further v.1) in
    let one = entry_one entry.sum entry.name a.0 b.0 (u.0 ++ more) (v.0 ++ further) a.1 b.1 all a.2 b.2 in
    behind_one (Said entries) (λ p q m f x y e c d. said_one entries p q m f x y e c d) entry.name b.1 b.0 these those more further r s same
    (subst (λ (h : Result (List ℕ) SumFault). EndsBehind h entry.name b.0 these r (Said entries)) one.1 (subst (λ (l : List Answer). EndsBehind a.1 entry.name l these r (Said entries)) one.0 a.3)) b.3

-- a sum that is given is said
sum_said : (o : Option (List ℕ)) (name : Name) (these : List Answer) (sum : List ℕ) → GivesSum o name these sum → EntrySaid o name these (Ok sum)
sum_said (Some listed) name these sum gives = (gives.0, ap (λ (s : List ℕ). Ok s) gives.1)
sum_said None name these sum gives = (tt, gives)

pub gives_said : (entries : List Trusted) (these : List Answer) (sums : List (List ℕ)) → Gives entries these sums → Said entries these (Ok sums)
gives_said [] these sums gives = (gives.0, ap (λ (s : List (List ℕ)). Ok s) gives.1)
gives_said (entry ∷ entries) these sums gives =
    (gives.0, Ok gives.2, sum_said entry.sum entry.name gives.0 gives.2 gives.4, (gives.1, Ok gives.3, gives_said entries gives.1 gives.3 gives.5, gives.6, ap (λ (s : List (List ℕ)). Ok s) gives.7))

refused_said : (front : List Trusted) (entry : Trusted) (others : List Trusted) (asked last : List Answer) (sums : List (List ℕ)) (why : SumFault) → Gives front asked sums → entry.sum ≡ None → IsCalm (Err why) → SumEnds (Err why) entry.name last
    → Said (front ++ entry ∷ others) (asked ++ last) (Err (all_faults.At entry.name why))
refused_said [] entry others asked last sums why gives unlisted calm ends =
    (last, Err why, subst (λ (o : Option (List ℕ)). EntrySaid o entry.name last (Err why)) (sym unlisted) (calm, ends), (ap (λ (l : List Answer). l ++ last) gives.0, refl))
refused_said (first ∷ front) entry others asked last sums why gives unlisted calm ends = (
  gives.0,
  Ok gives.2,
  sum_said first.sum first.name gives.0 gives.2 gives.4,
  (gives.1 ++ last, Err (all_faults.At entry.name why), refused_said front entry others gives.1 last gives.3 why gives.5 unlisted calm ends, ap (λ (l : List Answer). l ++ last) gives.6 ∙ append_assoc gives.0 gives.1 last, refl),
)

same_fault : (name : Name) (why other : SumFault) (entry : Name) → ◌≡◌ {A = Result (List (List ℕ)) AllFault} (Err (all_faults.At name why)) (Err (all_faults.At entry other)) → why ≡ other
same_fault name why other entry is = cc

-- how they end where one is refused
pub end_said : (entries : List Trusted) (these : List Answer) (slices : ℕ) (name : Name) (why : SumFault) → IsCalm (Err why) → AllEnd entries these slices (Err (all_faults.At name why)) → Said entries these (Err (all_faults.At name why))
end_said entries these slices name why calm (AllEnd.Whole sums gives n is) = absurd (cc)
end_said entries these slices name why calm (AllEnd.Refused front entry others asked last sums other whole gives unlisted ends told n is) =
    let same = same_fault name why other entry.name is in
    subst (λ (r : Result (List (List ℕ)) AllFault). Said entries these r) (sym is)
    (subst (λ (l : List Answer). Said entries l (Err (all_faults.At entry.name other))) (sym told)
    (subst (λ (ts : List Trusted). Said ts (asked ++ last) (Err (all_faults.At entry.name other))) (sym whole)
    (refused_said front entry others asked last sums other gives unlisted (subst (λ (w : SumFault). IsCalm (Err w)) same calm) ends)))
end_said entries these slices name why calm (AllEnd.Starved front entry others sums whole gives n is) = absurd (cc)

-- what files give for an entry
abbrev EntryIn : Option (List ℕ) → Option (List ℕ) → Result (List ℕ) SumFault → Type 0
EntryIn (Some listed) there r = r ≡ Ok listed
EntryIn None there r = IsCalm r × SumsFile r there

in_one : (o there : Option (List ℕ)) (r s : Result (List ℕ) SumFault) → EntryIn o there r → EntryIn o there s → r ≡ s
in_one (Some listed) there r s first second = first ∙ sym second
in_one None None (Ok sum) s first second = absurd first.1
in_one None None (Err sum_faults.TooLarge) s first second = absurd first.1
in_one None None (Err sum_faults.Host) s first second = absurd first.0
in_one None None (Err sum_faults.NotFound) (Ok sum) first second = absurd second.1
in_one None None (Err sum_faults.NotFound) (Err sum_faults.NotFound) first second = refl
in_one None None (Err sum_faults.NotFound) (Err sum_faults.TooLarge) first second = absurd second.1
in_one None None (Err sum_faults.NotFound) (Err sum_faults.Host) first second = absurd second.0
in_one None (Some bytes) (Ok sum) (Ok other) first second = ap (λ (s : List ℕ). Ok s) (first.1.0 ∙ sym second.1.0)
in_one None (Some bytes) (Ok sum) (Err sum_faults.NotFound) first second = absurd (let e = second.1 in cc)
in_one None (Some bytes) (Ok sum) (Err sum_faults.TooLarge) first second = absurd (let few = first.1.1 in let many = second.1 in omega (arith, few, many))
in_one None (Some bytes) (Ok sum) (Err sum_faults.Host) first second = absurd second.0
in_one None (Some bytes) (Err sum_faults.NotFound) s first second = absurd (let e = first.1 in cc)
in_one None (Some bytes) (Err sum_faults.TooLarge) (Ok other) first second = absurd (let many = first.1 in let few = second.1.1 in omega (arith, few, many))
in_one None (Some bytes) (Err sum_faults.TooLarge) (Err sum_faults.NotFound) first second = absurd (let e = second.1 in cc)
in_one None (Some bytes) (Err sum_faults.TooLarge) (Err sum_faults.TooLarge) first second = refl
in_one None (Some bytes) (Err sum_faults.TooLarge) (Err sum_faults.Host) first second = absurd second.0
in_one None (Some bytes) (Err sum_faults.Host) s first second = absurd first.0

abbrev GivenBehind : Result (List ℕ) SumFault → Name → Result (List (List ℕ)) AllFault → (Result (List (List ℕ)) AllFault → Type 0) → Type 0
GivenBehind (Ok sum) name r Rest = (rest : Result (List (List ℕ)) AllFault) × Rest rest × (r ≡ with_first sum rest)
GivenBehind (Err why) name r Rest = r ≡ Err (all_faults.At name why)

-- what files give for entries, one after the other
abbrev pub SaidIn : Files → List Trusted → Result (List (List ℕ)) AllFault → Type 0
SaidIn files [] r = r ≡ Ok []
SaidIn files (entry ∷ entries) r = (here : Result (List ℕ) SumFault) × EntryIn entry.sum (files entry.name) here × GivenBehind here entry.name r (SaidIn files entries)

given_one : (Rest : Result (List (List ℕ)) AllFault → Type 0) → ((r s : Result (List (List ℕ)) AllFault) → Rest r → Rest s → r ≡ s) → (name : Name) (here : Result (List ℕ) SumFault) (r s : Result (List (List ℕ)) AllFault) → GivenBehind here name r Rest → GivenBehind here name s Rest → r ≡ s
given_one Rest rest_one name (Ok sum) r s first second = first.2 ∙ ap (with_first sum) (rest_one first.0 second.0 first.1 second.1) ∙ sym second.2
given_one Rest rest_one name (Err why) r s first second = first ∙ sym second

pub said_in_one : (files : Files) (entries : List Trusted) (r s : Result (List (List ℕ)) AllFault) → SaidIn files entries r → SaidIn files entries s → r ≡ s
said_in_one files [] r s first second = first ∙ sym second
said_in_one files (entry ∷ entries) r s first second =
    given_one (SaidIn files entries) (λ x y a b. said_in_one files entries x y a b) entry.name second.0 r s
    (subst (λ (h : Result (List ℕ) SumFault). GivenBehind h entry.name r (SaidIn files entries)) (in_one entry.sum (files entry.name) first.0 second.0 first.1 second.1) first.2) second.2

sum_in : (o there : Option (List ℕ)) (sum : List ℕ) → IsSumIn o there sum → EntryIn o there (Ok sum)
sum_in (Some listed) there sum is = ap (λ (s : List ℕ). Ok s) is
sum_in None there sum is = (tt, is)

pub sums_said_in : (files : Files) (entries : List Trusted) (sums : List (List ℕ)) → AreSumsIn files entries sums → SaidIn files entries (Ok sums)
sums_said_in files [] sums are = ap (λ (s : List (List ℕ)). Ok s) are
sums_said_in files (entry ∷ entries) sums are = (Ok are.0, sum_in entry.sum (files entry.name) are.0 are.2, (Ok are.1, sums_said_in files entries are.1 are.3, ap (λ (s : List (List ℕ)). Ok s) are.4))

refused_in : (files : Files) (front : List Trusted) (entry : Trusted) (others : List Trusted) (sums : List (List ℕ)) (why : SumFault) → AreSumsIn files front sums → entry.sum ≡ None → IsCalm (Err why) → SumsFile (Err why) (files entry.name)
    → SaidIn files (front ++ entry ∷ others) (Err (all_faults.At entry.name why))
refused_in files [] entry others sums why are unlisted calm refused = (Err why, subst (λ (o : Option (List ℕ)). EntryIn o (files entry.name) (Err why)) (sym unlisted) (calm, refused), refl)
refused_in files (first ∷ front) entry others sums why are unlisted calm refused =
    (Ok are.0, sum_in first.sum (files first.name) are.0 are.2, (Err (all_faults.At entry.name why), refused_in files front entry others are.1 why are.3 unlisted calm refused, refl))

pub first_said_in : (files : Files) (entries : List Trusted) (name : Name) (why : SumFault) → IsCalm (Err why) → IsFirstRefused files entries name why → SaidIn files entries (Err (all_faults.At name why))
first_said_in files entries name why calm first =
    subst (λ (n : Name). SaidIn files entries (Err (all_faults.At n why))) (sym first.name_is)
    (subst (λ (ts : List Trusted). SaidIn files ts (Err (all_faults.At first.entry.name why))) (sym first.whole) (refused_in files first.front first.entry first.others first.sums why first.before first.unlisted calm first.refused))
