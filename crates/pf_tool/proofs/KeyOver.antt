-- What files give of a key, and what a reading of them led to.
use Rattle.std.proofs.Common.{◌≡◌, ℕ, List, [], ◌∷◌, length, take, drop, refl, subst, ap, ◌∙◌, sym, arith, Option, Some, None, Result, Ok, Err}
use Rattle.std.specs.List.{AllByRecursion}
use Rattle.std.proofs.lemmas.List.{take_all}
use Rattle.pf_io.specs.Disk.{Name, Files}
use Rattle.pf_io.specs.Host.{Answer, LengthWas, Gave, length_of, contents}
use Rattle.pf_io.specs.Answered.{IsAnswerOf}
use Rattle.pf_tool.specs.Events.{Event, answers_in}
use Rattle.pf_tool.specs.Endings.{Ending, Refused, KeyFile}
use Rattle.pf_tool.specs.Keys.{IsKeyOf, KeyRefused, key_unnamed, key_absent, key_length, key_short, KeyOver, over_unnamed, over_absent, over_length, over_key}

-- a length that was answered is that of bytes that are there
pub there_of : (o : Option (List ℕ)) (n : ℕ) → Some n ≡ length_of o → (bytes : List ℕ) × (o ≡ Some bytes) × (length bytes ≡ n)
there_of (Some bytes) n is = (bytes, refl, cc)
there_of None n is = absurd (cc)

pub absent_of : (o : Option (List ℕ)) → None ≡ length_of o → o ≡ None
absent_of (Some bytes) is = absurd (cc)
absent_of None is = refl

-- what was read of bytes that are there, with room for more
pub whole_of : (o : Option (List ℕ)) (bytes given : List ℕ) (room : ℕ) → o ≡ Some bytes → given ≡ take room (drop 0 (contents o)) → given ≡ take room bytes
whole_of o bytes given room there is = is ∙ ap (λ (x : Option (List ℕ)). take room (contents x)) there

-- the files give one key, or one refusal
pub key_over_one : (files : Files) (key : Name) (r s : Result (List ℕ) Ending) → KeyOver files key r → KeyOver files key s → r ≡ s
key_over_one files key r s (over_unnamed u is) (over_unnamed u2 is2) = is ∙ sym is2
key_over_one files key r s (over_unnamed u is) (over_absent named there is2) = absurd (u named)
key_over_one files key r s (over_unnamed u is) (over_length bytes named there other is2) = absurd (u named)
key_over_one files key r s (over_unnamed u is) (over_key user named there long is2) = absurd (u named)
key_over_one files key r s (over_absent named there is) (over_unnamed u is2) = absurd (u named)
key_over_one files key r s (over_absent named there is) (over_absent named2 there2 is2) = is ∙ sym is2
key_over_one files key r s (over_absent named there is) (over_length bytes named2 there2 other is2) = absurd (cc)
key_over_one files key r s (over_absent named there is) (over_key user named2 there2 long is2) = absurd (cc)
key_over_one files key r s (over_length bytes named there other is) (over_unnamed u is2) = absurd (u named)
key_over_one files key r s (over_length bytes named there other is) (over_absent named2 there2 is2) = absurd (cc)
key_over_one files key r s (over_length bytes named there other is) (over_length bytes2 named2 there2 other2 is2) =
    let same : bytes ≡ bytes2 = cc in
    is ∙ ap (λ (b : List ℕ). Err (Refused (KeyFile (length b)))) same ∙ sym is2
key_over_one files key r s (over_length bytes named there other is) (over_key user named2 there2 long is2) =
    let same : bytes ≡ user = cc in
    absurd (other (ap (λ (b : List ℕ). length b) same ∙ long))
key_over_one files key r s (over_key user named there long is) (over_unnamed u is2) = absurd (u named)
key_over_one files key r s (over_key user named there long is) (over_absent named2 there2 is2) = absurd (cc)
key_over_one files key r s (over_key user named there long is) (over_length bytes named2 there2 other is2) =
    let same : bytes ≡ user = cc in
    absurd (other (ap (λ (b : List ℕ). length b) same ∙ long))
key_over_one files key r s (over_key user named there long is) (over_key user2 named2 there2 long2 is2) =
    let same : user ≡ user2 = cc in
    is ∙ ap (λ (b : List ℕ). Ok b) same ∙ sym is2

-- a refusal that came of what files answered is the one that they give
pub key_refused_over : (files : Files) (key : Name) (es : List Event) (ending : Ending) → KeyRefused key es ending → AllByRecursion (IsAnswerOf files) (answers_in es) → KeyOver files key (Err ending)
key_refused_over files key es ending (key_unnamed u is ends) all = over_unnamed u (ap (λ (e : Ending). Err e) ends)
key_refused_over files key es ending (key_absent named is ends) all =
    let answers : AllByRecursion (IsAnswerOf files) (LengthWas key None ∷ []) = subst (λ (l : List Event). AllByRecursion (IsAnswerOf files) (answers_in l)) is all in
    over_absent named (absent_of (files key) answers.0) (ap (λ (e : Ending). Err e) ends)
key_refused_over files key es ending (key_length n named other is ends) all =
    let answers : AllByRecursion (IsAnswerOf files) (LengthWas key (Some n) ∷ []) = subst (λ (l : List Event). AllByRecursion (IsAnswerOf files) (answers_in l)) is all in
    let there = there_of (files key) n answers.0 in
    over_length there.0 named there.1 (λ long. other (sym there.2 ∙ long)) (ap (λ (e : Ending). Err e) (ends ∙ ap (λ (n : ℕ). Refused (KeyFile n)) (sym there.2)))
key_refused_over files key es ending (key_short bytes named short is ends) all =
    let answers : AllByRecursion (IsAnswerOf files) (LengthWas key (Some 16) ∷ Gave key 0 16 bytes ∷ []) = subst (λ (l : List Event). AllByRecursion (IsAnswerOf files) (answers_in l)) is all in
    let there = there_of (files key) 16 answers.0 in
    let whole : bytes ≡ there.0 = whole_of (files key) there.0 bytes 16 there.1 answers.1.0 ∙ take_all 16 there.0 (omega (arith, there.2)) in
    absurd (omega (arith, short, ap (λ (l : List ℕ). length l) whole, there.2))

-- a key that was read of files is the one that they give
pub key_read_over : (files : Files) (key : Name) (user : List ℕ) (more : List Answer) → IsKeyOf key user → AllByRecursion (IsAnswerOf files) (LengthWas key (Some 16) ∷ Gave key 0 16 user ∷ more) → KeyOver files key (Ok user)
key_read_over files key user more has all =
    let there = there_of (files key) 16 all.0 in
    let whole : user ≡ there.0 = whole_of (files key) there.0 user 16 there.1 all.1.0 ∙ take_all 16 there.0 (omega (arith, there.2)) in
    over_key user has.is_name (there.1 ∙ ap (λ (l : List ℕ). Some l) (sym whole)) has.whole refl
