-- What the answers, and what files, decide of `encrypt` before the sealing.
use Rattle.std.proofs.Common.{◌≡◌, ◌⊎◌, ⊎_elim, ℕ, List, [], ◌∷◌, length, subst, ap, ◌∙◌, sym, Option, Some, None, Ok, Err, Bool, true, false}
use Rattle.std.specs.Prelude.{ltb}
use Rattle.std.proofs.lemmas.Bool.{lt-ltb, le-ltb}
use Rattle.std.specs.List.{AllByRecursion}
use Rattle.node_layout.specs.Metadata.{MOST_SIZE}
use Rattle.pf_io.specs.Disk.{Name, Files}
use Rattle.pf_io.specs.Host.{Answer, LengthWas, Gave}
use Rattle.pf_io.specs.Answered.{IsAnswerOf}
use Rattle.pf_io.specs.Names.{IsName, IsTarget}
use Rattle.pf_tool.specs.Events.{Event, answers_in, pieces_in}
use Rattle.pf_tool.specs.Endings.{Ending, Done, Refused, BadName, NotFound, KeyFile, TooLarge}
use Rattle.pf_tool.specs.Keys.{KeyRefused, key_unnamed, key_absent, key_length, key_short, KeyOver}
use Rattle.pf_tool.specs.Encrypting.{IsInput, EncryptRefused, no_key, names_unfit, input_absent, EncryptOver, over_no_key, over_unfit, over_no_input, over_large, over_done}
use Rattle.pf_tool.proofs.KeyOver.{absent_of, key_over_one, key_refused_over, key_read_over}

-- nothing is put out
pub key_unput : (key : Name) (es : List Event) (ending : Ending) → KeyRefused key es ending → pieces_in es ≡ []
key_unput key es ending (key_unnamed u is ends) = ap (λ (l : List Event). pieces_in l) is
key_unput key es ending (key_absent named is ends) = ap (λ (l : List Event). pieces_in l) is
key_unput key es ending (key_length n named other is ends) = ap (λ (l : List Event). pieces_in l) is
key_unput key es ending (key_short bytes named short is ends) = ap (λ (l : List Event). pieces_in l) is

module _ (key input output : Name) where
  pub encrypt_unput : (es : List Event) (ending : Ending) → EncryptRefused key input output es ending → pieces_in es ≡ []
  encrypt_unput es ending (no_key refuses) = key_unput key es ending refuses
  encrypt_unput es ending (names_unfit user has unfit is ends) = ap (λ (l : List Event). pieces_in l) is
  encrypt_unput es ending (input_absent user has target fit is ends) = ap (λ (l : List Event). pieces_in l) is

  unnamed_alone : (ending : Ending) → EncryptRefused key input output [] ending → (¬ (IsName key)) × (ending ≡ Refused BadName)
  unnamed_alone ending (no_key (key_unnamed u is ends)) = (u, ends)
  unnamed_alone ending (no_key (key_absent named is ends)) = absurd (cc)
  unnamed_alone ending (no_key (key_length n named other is ends)) = absurd (cc)
  unnamed_alone ending (no_key (key_short bytes named short is ends)) = absurd (cc)
  unnamed_alone ending (names_unfit user has unfit is ends) = absurd (cc)
  unnamed_alone ending (input_absent user has target fit is ends) = absurd (cc)

  alone_unnamed : (es : List Event) (ending : Ending) → ¬ (IsName key) → EncryptRefused key input output es ending → (es ≡ []) × (ending ≡ Refused BadName)
  alone_unnamed es ending never (no_key (key_unnamed u is ends)) = (is, ends)
  alone_unnamed es ending never (no_key (key_absent named is ends)) = absurd (never named)
  alone_unnamed es ending never (no_key (key_length n named other is ends)) = absurd (never named)
  alone_unnamed es ending never (no_key (key_short bytes named short is ends)) = absurd (never named)
  alone_unnamed es ending never (names_unfit user has unfit is ends) = absurd (never has.is_name)
  alone_unnamed es ending never (input_absent user has target fit is ends) = absurd (never has.is_name)

  -- where the words alone lead to an ending, nothing else does
  pub encrypt_spoken : (ending : Ending) → EncryptRefused key input output [] ending → ending ≡ Refused BadName
  encrypt_spoken ending leads = (unnamed_alone ending leads).1

  -- then it is the key's name that is none
  pub words_alone : (ending : Ending) → EncryptRefused key input output [] ending → IsName key → ⊥
  words_alone ending refused named = (unnamed_alone ending refused).0 named

  pub encrypt_silent : (ending other : Ending) (es : List Event) → EncryptRefused key input output [] ending → EncryptRefused key input output es other → (es ≡ []) × (ending ≡ other)
  encrypt_silent ending other es first second =
      let one = unnamed_alone ending first in
      let two = alone_unnamed es other one.0 second in
      (two.0, one.1 ∙ sym two.1)

-- what an answer gave
abbrev told_length : Answer → Option ℕ
told_length (LengthWas name length) = length
told_length answer = None

abbrev told_name : Answer → Name
told_name (LengthWas name length) = name
told_name answer = []

abbrev told_bytes : Answer → List ℕ
told_bytes (Gave name place room bytes) = bytes
told_bytes answer = []

abbrev by_length : Name → Option ℕ → Ending
by_length name (Some n) = Refused (KeyFile n)
by_length name None = Refused (NotFound name)

abbrev short_or : Bool → ℕ → Ending
short_or true n = Refused (KeyFile n)
short_or false n = Refused BadName

-- the ending of answers, by how many they are
abbrev ending_by : List Answer → Ending
ending_by [] = Refused BadName
ending_by (a ∷ []) = by_length (told_name a) (told_length a)
ending_by (a ∷ b ∷ []) = short_or (ltb (length (told_bytes b)) 16) (length (told_bytes b))
ending_by (a ∷ b ∷ c ∷ []) = Refused (NotFound (told_name c))
ending_by these = Done

key_by : (key : Name) (es : List Event) (ending : Ending) → KeyRefused key es ending → ending ≡ ending_by (answers_in es)
key_by key es ending (key_unnamed u is ends) = ends ∙ ap (λ (l : List Event). ending_by (answers_in l)) (sym is)
key_by key es ending (key_absent named is ends) = ends ∙ ap (λ (l : List Event). ending_by (answers_in l)) (sym is)
key_by key es ending (key_length n named other is ends) = ends ∙ ap (λ (l : List Event). ending_by (answers_in l)) (sym is)
key_by key es ending (key_short bytes named short is ends) =
    ends ∙ ap (λ (b : Bool). short_or b (length bytes)) (sym (lt-ltb (length bytes) 16 short)) ∙ ap (λ (l : List Event). ending_by (answers_in l)) (sym is)

-- after a key that was read, no ending is by fewer answers
unfit_by : (user : List ℕ) → length user ≡ 16 → Refused BadName ≡ short_or (ltb (length user) 16) (length user)
unfit_by user long = ap (λ (n : ℕ). short_or (ltb n 16) n) (sym long)

abbrev large_or : Bool → Ending
large_or true = Refused TooLarge
large_or false = Done

-- the ending of a content
abbrev ending_at : Name → Option (List ℕ) → Ending
ending_at input None = Refused (NotFound input)
ending_at input (Some content) = large_or (ltb MOST_SIZE (length content))

module _ (key input output : Name) where
  encrypt_by : (es : List Event) (ending : Ending) → EncryptRefused key input output es ending → ending ≡ ending_by (answers_in es)
  encrypt_by es ending (no_key refuses) = key_by key es ending refuses
  encrypt_by es ending (names_unfit user has unfit is ends) = ends ∙ unfit_by user has.whole ∙ ap (λ (l : List Event). ending_by (answers_in l)) (sym is)
  encrypt_by es ending (input_absent user has target fit is ends) = ends ∙ ap (λ (l : List Event). ending_by (answers_in l)) (sym is)

  -- the same answers lead to one ending
  pub encrypt_one : (es others : List Event) (ending other : Ending) → EncryptRefused key input output es ending → EncryptRefused key input output others other → answers_in es ≡ answers_in others → ending ≡ other
  encrypt_one es others ending other first second same = encrypt_by es ending first ∙ ap ending_by same ∙ sym (encrypt_by others other second)

  module _ (files : Files) where
    no_key_one : (e f : Ending) → KeyOver files key (Err e) → EncryptOver key input output files f → e ≡ f
    no_key_one e f none (over_no_key none2) = let same = key_over_one files key (Err e) (Err f) none none2 in cc
    no_key_one e f none (over_unfit user over unfit ends) = let same = key_over_one files key (Err e) (Ok user) none over in absurd (cc)
    no_key_one e f none (over_no_input user over target fit there ends) = let same = key_over_one files key (Err e) (Ok user) none over in absurd (cc)
    no_key_one e f none (over_large user content over target fit there large ends) = let same = key_over_one files key (Err e) (Ok user) none over in absurd (cc)
    no_key_one e f none (over_done user content over target fit there small ends) = let same = key_over_one files key (Err e) (Ok user) none over in absurd (cc)

    unfit_one : (user : List ℕ) (f : Ending) → KeyOver files key (Ok user) → ¬ (IsTarget output) ⊎ ¬ (IsInput input output) → EncryptOver key input output files f → Refused BadName ≡ f
    unfit_one user f over unfit (over_no_key none) = let same = key_over_one files key (Ok user) (Err f) over none in absurd (cc)
    unfit_one user f over unfit (over_unfit user2 over2 unfit2 ends) = sym ends
    unfit_one user f over unfit (over_no_input user2 over2 target fit there ends) = absurd (⊎_elim (λ no. no target) (λ no. no fit) unfit)
    unfit_one user f over unfit (over_large user2 content over2 target fit there large ends) = absurd (⊎_elim (λ no. no target) (λ no. no fit) unfit)
    unfit_one user f over unfit (over_done user2 content over2 target fit there small ends) = absurd (⊎_elim (λ no. no target) (λ no. no fit) unfit)

    fit_one : (user : List ℕ) (f : Ending) → KeyOver files key (Ok user) → IsTarget output → IsInput input output → EncryptOver key input output files f → f ≡ ending_at input (files input)
    fit_one user f over target fit (over_no_key none) = let same = key_over_one files key (Ok user) (Err f) over none in absurd (cc)
    fit_one user f over target fit (over_unfit user2 over2 unfit ends) = absurd (⊎_elim (λ no. no target) (λ no. no fit) unfit)
    fit_one user f over target fit (over_no_input user2 over2 target2 fit2 there ends) = ends ∙ ap (λ (o : Option (List ℕ)). ending_at input o) (sym there)
    fit_one user f over target fit (over_large user2 content over2 target2 fit2 there large ends) =
        ends ∙ ap large_or (sym (lt-ltb MOST_SIZE (length content) large)) ∙ ap (λ (o : Option (List ℕ)). ending_at input o) (sym there)
    fit_one user f over target fit (over_done user2 content over2 target2 fit2 there small ends) =
        ends ∙ ap large_or (sym (le-ltb MOST_SIZE (length content) small)) ∙ ap (λ (o : Option (List ℕ)). ending_at input o) (sym there)

    pub encrypt_over_one : (e f : Ending) → EncryptOver key input output files e → EncryptOver key input output files f → e ≡ f
    encrypt_over_one e f (over_no_key none) second = no_key_one e f none second
    encrypt_over_one e f (over_unfit user over unfit ends) second = ends ∙ unfit_one user f over unfit second
    encrypt_over_one e f (over_no_input user over target fit there ends) second =
        fit_one user e over target fit (over_no_input user over target fit there ends) ∙ sym (fit_one user f over target fit second)
    encrypt_over_one e f (over_large user content over target fit there large ends) second =
        fit_one user e over target fit (over_large user content over target fit there large ends) ∙ sym (fit_one user f over target fit second)
    encrypt_over_one e f (over_done user content over target fit there small ends) second =
        fit_one user e over target fit (over_done user content over target fit there small ends) ∙ sym (fit_one user f over target fit second)

    -- the ending that came of what files answered is the one that they give
    pub encrypt_over : (es : List Event) (ending : Ending) → EncryptRefused key input output es ending → AllByRecursion (IsAnswerOf files) (answers_in es) → EncryptOver key input output files ending
    encrypt_over es ending (no_key refuses) all = over_no_key (key_refused_over files key es ending refuses all)
    encrypt_over es ending (names_unfit user has unfit is ends) all =
        let answers = subst (λ (l : List Event). AllByRecursion (IsAnswerOf files) (answers_in l)) is all in
        over_unfit user (key_read_over files key user [] has answers) unfit ends
    encrypt_over es ending (input_absent user has target fit is ends) all =
        let answers = subst (λ (l : List Event). AllByRecursion (IsAnswerOf files) (answers_in l)) is all in
        over_no_input user (key_read_over files key user (LengthWas input None ∷ []) has answers) target fit (absent_of (files input) answers.1.1.0) ends
