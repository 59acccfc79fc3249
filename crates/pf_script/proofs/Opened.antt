-- A name that is opened, or that an opening refused.
use Rattle.std.proofs.Common.{◌≡◌, ◌≢◌, ◌⊎◌, inl, inr, ⊎_elim, Bool, true, false, cond, List, [], ℕ, refl, sym, ◌∙◌, subst, Option, Some, None}
use Rattle.std.specs.Prelude.{Contains, bytes_eq}
use Rattle.std.proofs.lemmas.Slice.Eq.{bytes_eq-Decides}
use Rattle.pf_io.specs.Disk.{Name, File, Disk, IsImage, IsImageAt, reading}
use Rattle.pf_io.specs.Names.{recovery_of, IsTarget}
use Rattle.pf_session.specs.Restored.{Ready}
use Rattle.pf_script.specs.BookRules.{speaks_of_failed}
use Rattle.pf_session.specs.Reopening.{Reopens, EachReopens, LeftAt}
use Rattle.pf_script.specs.Book.{Book, Entry, Alone, Partner, key_of, Leaving, Fits, FitsBook, IsMoved, first_alone, second_alone, both_there, Seal, IsSeated, Agrees}
use Rattle.pf_script.specs.BookActs.{speaks}
use Rattle.pf_session.specs.Aside.{Apart}
use Rattle.pf_script.specs.BookDebts.{KeepsOthers}
use Rattle.pf_script.proofs.NameMaps.{name_or}
use Rattle.pf_script.proofs.Ruling.{ready_same, ready_again}
use Rattle.pf_script.proofs.Resting.{turned}
use Rattle.pf_script.proofs.Going.{same_at, stood_same}

-- a file leaves bytes
pub left_there : (o : Option File) (here : Option (List ℕ)) → o ≢ None → IsImageAt o here → here ≢ None
left_there None here there image = absurd (there refl)
left_there (Some file) (Some bytes) there image = λ is. absurd (cc)
left_there (Some file) None there image = absurd image

-- the contents that an entry names; where it names one alone, that one twice
abbrev pub first_of : Entry → List ℕ
first_of (Alone key None None ready) = []
first_of (Alone key None (Some w) ready) = w
first_of (Alone key (Some v) tried ready) = v
first_of (Partner key content other) = content

abbrev pub second_of : Entry → List ℕ
second_of (Alone key None None ready) = []
second_of (Alone key (Some v) None ready) = v
second_of (Alone key kept (Some w) ready) = w
second_of (Partner key content other) = content

module _ (book : Book) (seats : List Seal) (disk : Disk) (agrees : Agrees book seats disk) (reads : IsImage disk (reading disk)) (name : Name) where
  read_at : (n : Name) → LeftAt disk n (reading disk n) (reading disk (recovery_of n))
  read_at n = record { file = reads n; recovery = reads (recovery_of n) }

  there_at : disk name ≢ None → (here log : Option (List ℕ)) → LeftAt disk name here log → here ≢ None
  there_at there here log left = left_there (disk name) here there left.file

  -- a name that is there, of two of which one was moved to the other, has the content
  has_content : (key content : List ℕ) (other : Name) → disk name ≢ None → book name ≡ Some (Partner key content other) → (here log : Option (List ℕ)) → LeftAt disk name here log → Reopens key name content here log
  has_content key content other there was here log left =
      by_case (agrees.images name (Partner key content other) was here log (reading disk other) (reading disk (recovery_of other)) left (read_at other))
    where
      by_case : {here2 log2 : Option (List ℕ)} → IsMoved key content name other here log here2 log2 → Reopens key name content here log
      by_case (first_alone is gone) = is
      by_case (second_alone gone is) = absurd (there_at there here log left gone)
      by_case (both_there may is is2) = is

  -- a name of the book that is there reopens as one of two contents
  pub each_of : (entry : Entry) → disk name ≢ None → book name ≡ Some entry → EachReopens (key_of entry) name (first_of entry) (second_of entry) disk
  each_of (Alone key None None ready) there was =
      absurd (⊎_elim (λ none. there_at there _ _ (read_at name) none) (λ no_one. no_one) (agrees.images name (Alone key None None ready) was _ _ (read_at name)))
  each_of (Alone key None (Some w) ready) there was =
      λ here log left. ⊎_elim (λ none. absurd (there_at there here log left none)) (λ is. inr is) (agrees.images name (Alone key None (Some w) ready) was here log left)
  each_of (Alone key (Some v) None ready) there was =
      λ here log left. ⊎_elim (λ is. inl is) (λ no_one. absurd no_one) (agrees.images name (Alone key (Some v) None ready) was here log left)
  each_of (Alone key (Some v) (Some w) ready) there was = agrees.images name (Alone key (Some v) (Some w) ready) was
  each_of (Partner key content other) there was = λ here log left. inl (has_content key content other there was here log left)

  -- where the book goes on to speak of the name, the opening was under its own
  pub speaks_key : (key : List ℕ) (entry : Entry) → speaks key entry ≡ true → key_of entry ≡ key
  speaks_key key (Alone own kept tried ready) is = by_test (bytes_eq own key) refl is
    where
      by_test : (b : Bool) → bytes_eq own key ≡ b → cond b (cond speaks_of_failed true ready) false ≡ true → own ≡ key
      by_test true same is = (bytes_eq-Decides own key).0 same
      by_test false same is = absurd (cc)
  speaks_key key (Partner own content other) is = by_test (bytes_eq own key) refl is
    where
      by_test : (b : Bool) → bytes_eq own key ≡ b → cond b speaks_of_failed false ≡ true → own ≡ key
      by_test true same is = (bytes_eq-Decides own key).0 same
      by_test false same is = absurd (cc)

  pub speaks_ready : (key : List ℕ) (entry : Entry) → book name ≡ Some entry → speaks key entry ≡ true → Ready disk name
  speaks_ready key (Alone own kept tried ready) was is = by_test (bytes_eq own key) is
    where
      by_flag : (b : Bool) → book name ≡ Some (Alone own kept tried b) → (a : Bool) → speaks_of_failed ≡ a → cond a true b ≡ true → Ready disk name
      by_flag b was true may is = ready_again disk name may
      by_flag true was false may is = agrees.calm name own kept tried was
      by_flag false was false may is = absurd (cc)

      by_test : (b : Bool) → cond b (cond speaks_of_failed true ready) false ≡ true → Ready disk name
      by_test true is = by_flag ready was speaks_of_failed refl is
      by_test false is = absurd (cc)
  speaks_ready key (Partner own content other) was is = by_test (bytes_eq own key) is
    where
      by_test : (b : Bool) → cond b speaks_of_failed false ≡ true → Ready disk name
      by_test true is = ready_again disk name is
      by_test false is = absurd (cc)

  -- what an opening, accepted or refused, keeps of the book
  module _ (left : Leaving) (from : (n : Name) → IsTarget n → n ≢ name → (here log : Option (List ℕ)) → left n here log → LeftAt disk n here log)
      (absent : disk name ≡ None → (here log : Option (List ℕ)) → left name here log → LeftAt disk name here log)
      (keeps : (entry : Entry) → disk name ≢ None → book name ≡ Some entry → (here log : Option (List ℕ)) → left name here log
      → Reopens (key_of entry) name (first_of entry) here log ⊎ Reopens (key_of entry) name (second_of entry) here log) where
    own_fits : disk name ≢ None → (entry : Entry) → book name ≡ Some entry → Fits left name entry
    own_fits there (Alone key None None ready) was =
        absurd (⊎_elim (λ none. there_at there _ _ (read_at name) none) (λ no_one. no_one) (agrees.images name (Alone key None None ready) was _ _ (read_at name)))
    own_fits there (Alone key None (Some w) ready) was = λ here log l. inr (⊎_elim (λ is. is) (λ is. is) (keeps (Alone key None (Some w) ready) there was here log l))
    own_fits there (Alone key (Some v) None ready) was = λ here log l. inl (⊎_elim (λ is. is) (λ is. is) (keeps (Alone key (Some v) None ready) there was here log l))
    own_fits there (Alone key (Some v) (Some w) ready) was = keeps (Alone key (Some v) (Some w) ready) there was
    own_fits there (Partner key content other) was =
        λ here log here2 log2 l l2.
        let back = agrees.partners name other key content was in
        let is : Reopens key name content here log = ⊎_elim (λ is. is) (λ is. is) (keeps (Partner key content other) there was here log l) in
        by_case here log here2 log2 is
        (agrees.images name (Partner key content other) was (reading disk name) (reading disk (recovery_of name)) here2 log2 (read_at name)
        (from other (agrees.targets other (Partner key content name) back.0) back.1 here2 log2 l2))
      where
        by_case : (here log here2 log2 : Option (List ℕ)) → Reopens key name content here log → IsMoved key content name other (reading disk name) (reading disk (recovery_of name)) here2 log2 → IsMoved key content name other here log here2 log2
        by_case here log here2 log2 is (first_alone was_there gone) = first_alone is gone
        by_case here log here2 log2 is (second_alone gone is2) = absurd (there_at there _ _ (read_at name) gone)
        by_case here log here2 log2 is (both_there may was_there is2) = both_there may is is2

    pub opens_fits : FitsBook left book
    opens_fits n entry was = by_there (disk name) refl
      where
        all_from : disk name ≡ None → (m : Name) → IsTarget m → (here log : Option (List ℕ)) → left m here log → LeftAt disk m here log
        all_from none m target here log l = by_name (name_or m name)
          where
            by_name : (m ≡ name) ⊎ (m ≢ name) → LeftAt disk m here log
            by_name (inl same) = subst (λ (k : Name). LeftAt disk k here log) (sym same) (absent none here log (subst (λ (k : Name). left k here log) same l))
            by_name (inr apart) = from m target apart here log l

        as_before : disk name ≡ None → (e : Entry) → book n ≡ Some e → Fits left n e
        as_before none (Alone key kept tried ready) was = λ here log l. agrees.images n (Alone key kept tried ready) was here log (all_from none n (agrees.targets n (Alone key kept tried ready) was) here log l)
        as_before none (Partner key content other) was =
            λ here log here2 log2 l l2.
            agrees.images n (Partner key content other) was here log here2 log2 (all_from none n (agrees.targets n (Partner key content other) was) here log l)
            (all_from none other (agrees.targets other (Partner key content n) (agrees.partners n other key content was).0) here2 log2 l2)

        apart_fits : disk name ≢ None → (e : Entry) → n ≢ name → book n ≡ Some e → Fits left n e
        apart_fits there (Alone key kept tried ready) apart was = λ here log l. agrees.images n (Alone key kept tried ready) was here log (from n (agrees.targets n (Alone key kept tried ready) was) apart here log l)
        apart_fits there (Partner key content other) apart was = by_other (name_or other name)
          where
            by_other : (other ≡ name) ⊎ (other ≢ name) → Fits left n (Partner key content other)
            by_other (inl same) =
                λ here log here2 log2 l l2.
                let back : book name ≡ Some (Partner key content n) = subst (λ (m : Name). book m ≡ Some (Partner key content n)) same (agrees.partners n other key content was).0 in
                let it = own_fits there (Partner key content n) back here2 log2 here log (subst (λ (m : Name). left m here2 log2) same l2) l in
                subst (λ (m : Name). IsMoved key content n m here log here2 log2) (sym same) (turned key content name n here2 log2 here log it)
            by_other (inr clear) =
                λ here log here2 log2 l l2.
                agrees.images n (Partner key content other) was here log here2 log2 (from n (agrees.targets n (Partner key content other) was) apart here log l)
                (from other (agrees.targets other (Partner key content n) (agrees.partners n other key content was).0) clear here2 log2 l2)

        by_name : disk name ≢ None → (n ≡ name) ⊎ (n ≢ name) → Fits left n entry
        by_name there (inl same) = subst (λ (m : Name). Fits left m entry) (sym same) (own_fits there entry (subst (λ (m : Name). book m ≡ Some entry) same was))
        by_name there (inr apart) = apart_fits there entry apart was

        by_there : (o : Option File) → disk name ≡ o → Fits left n entry
        by_there None none = as_before none entry was
        by_there (Some file) is = by_name (λ none. let e : Some file ≡ None = sym is ∙ none in absurd (cc)) (name_or n name)

  -- a call that leaves the book, and the seats on other names
  pub same_agrees : (new : Disk) (after : List Seal) → KeepsOthers (Apart name) disk new → IsTarget name → ((entry : Entry) → book name ≡ Some entry → Ready disk name → Ready new name) → FitsBook (LeftAt new) book
      → ((seat : Seal) → Contains after seat → (Contains seats seat × (seat.name ≢ name)) ⊎ (book seat.name ≡ None)) → Agrees book after new
  same_agrees new after keeps of_name ready fits seated = record {
    targets = agrees.targets;
    partners = agrees.partners;
    images = fits;
    calm = λ n key kept tried was. by_calm n key kept tried was (name_or n name);
    stand = λ seat entry has was. by_seat seat entry was (seated seat has);
  }
    where
      by_calm : (n : Name) (key : List ℕ) (kept tried : Option (List ℕ)) → book n ≡ Some (Alone key kept tried true) → (n ≡ name) ⊎ (n ≢ name) → Ready new n
      by_calm n key kept tried was (inl same) =
          subst (λ (m : Name). Ready new m) (sym same)
          (ready (Alone key kept tried true) (subst (λ (m : Name). book m ≡ Some (Alone key kept tried true)) same was) (subst (λ (m : Name). Ready disk m) same (agrees.calm n key kept tried was)))
      by_calm n key kept tried was (inr apart) =
          let same = same_at disk new name n keeps (agrees.targets n (Alone key kept tried true) was) of_name apart in
          ready_same disk new n same.file same.recovery (agrees.calm n key kept tried was)

      by_seat : (seat : Seal) (entry : Entry) → book seat.name ≡ Some entry → (Contains seats seat × (seat.name ≢ name)) ⊎ (book seat.name ≡ None) → IsSeated seat entry new
      by_seat seat entry was (inl old) =
          let is = agrees.stand seat entry old.0 was in
          record { entry_is = is.entry_is; path_is = is.path_is; stood = stood_same disk new seat.name (same_at disk new name seat.name keeps (agrees.targets seat.name entry was) of_name old.1) seat.key seat.sheet is.stood }
      by_seat seat entry was (inr none) = let e : Some entry ≡ None = sym was ∙ none in absurd (cc)
