-- How the book goes on where a deed sets the entry of one name.
use Rattle.std.proofs.Common.{◌≡◌, ◌≢◌, ◌⊎◌, inl, inr, true, List, ℕ, refl, sym, ◌∙◌, subst, Option, Some}
use Rattle.std.specs.Prelude.{Contains}
use Rattle.pf_io.specs.Disk.{Name, File, Disk, IsImage, IsImageAt, reading, read_of}
use Rattle.pf_io.specs.Names.{recovery_of, IsTarget}
use Rattle.pf_io.specs.Replay.{set_at}
use Rattle.node_tree.specs.Sheet.{Sheet}
use Rattle.pf_session.specs.Restored.{Ready}
use Rattle.pf_session.specs.Reopening.{ReopensAs, LeftAt, Stood}
use Rattle.pf_script.specs.Book.{Book, Entry, Alone, Partner, Leaving, Fits, FitsBook, Seal, IsSeated, Agrees}
use Rattle.pf_session.specs.Aside.{Apart}
use Rattle.pf_script.specs.BookDebts.{KeepsOthers}
use Rattle.pf_session.proofs.Apartness.{apart_name, apart_recovery}
use Rattle.pf_script.proofs.NameMaps.{name_or, set_at-same, set_at-other}
use Rattle.pf_script.proofs.Ruling.{settled_same, ready_same}
use Rattle.pf_script.proofs.Resting.{Rest, stayed, was_freed, rest_fits}

-- a target that did not change, with its recovery name
pub record Same (old new : Disk) (n : Name) : Type 0 where
  pub file : new n ≡ old n
  pub recovery : new (recovery_of n) ≡ old (recovery_of n)

pub same_at : (old new : Disk) (name n : Name) → KeepsOthers (Apart name) old new → IsTarget n → IsTarget name → n ≢ name → Same old new n
same_at old new name n keeps target of_name apart = record { file = keeps n (apart_name n name target apart); recovery = keeps (recovery_of n) (apart_recovery n name target of_name apart) }

pub left_same : (old new : Disk) (n : Name) → Same old new n → (here log : Option (List ℕ)) → LeftAt new n here log → LeftAt old n here log
left_same old new n same here log left = record {
  file = subst (λ (o : Option File). IsImageAt o here) same.file left.file;
  recovery = subst (λ (o : Option File). IsImageAt o log) same.recovery left.recovery;
}

pub stood_same : (old new : Disk) (n : Name) → Same old new n → (key : List ℕ) (sheet : Sheet) → Stood key n sheet old → Stood key n sheet new
stood_same old new n same key sheet stood = record {
  settled = settled_same old new n same.file same.recovery stood.settled;
  as_sheet = subst (λ (o : Option File). ReopensAs key sheet (read_of o) (read_of (new (recovery_of n)))) (sym same.file)
      (subst (λ (o : Option File). ReopensAs key sheet (read_of (old n)) (read_of o)) (sym same.recovery) stood.as_sheet);
}

-- the entry of a deed's name, on the disk after it
pub record Own (seats : List Seal) (new : Disk) (n : Name) (entry : Entry) : Type 0 where
  pub alone : (key content : List ℕ) (other : Name) → entry ≢ Partner key content other
  pub fits : Fits (LeftAt new) n entry
  pub calm : (key : List ℕ) (kept tried : Option (List ℕ)) → entry ≡ Alone key kept tried true → Ready new n
  pub stand : (seat : Seal) → Contains seats seat → seat.name ≡ n → IsSeated seat entry new

-- what is left of the other names, of which those of the book are far from the deed
pub record Others (book : Book) (disk : Disk) (name : Name) (base : Book) (far : Name → Type 0) : Type 0 where
  pub is_far : (n : Name) (entry : Entry) → n ≢ name → base n ≡ Some entry → far n
  pub far_apart : (n : Name) → far n → n ≢ name
  pub clear : (n other : Name) (key content : List ℕ) → far n → book n ≡ Some (Partner key content other) → other ≢ name → far other
  pub rest : (n : Name) (entry : Entry) → n ≢ name → base n ≡ Some entry → Rest book disk name n entry
  pub forward : (n other : Name) (key content : List ℕ) → n ≢ name → other ≢ name → book n ≡ Some (Partner key content other) → base n ≡ Some (Partner key content other)

module _ (book : Book) (seats : List Seal) (disk : Disk) (agrees : Agrees book seats disk) (reads : IsImage disk (reading disk)) (name : Name) (base : Book) (far : Name → Type 0) (others : Others book disk name base far)
    (value : Option Entry) where
  pub one_fits : (left : Leaving) → ((n : Name) → IsTarget n → far n → (here log : Option (List ℕ)) → left n here log → LeftAt disk n here log)
      → ((entry : Entry) → value ≡ Some entry → Fits left name entry) → FitsBook left (set_at name value base)
  one_fits left from own n entry is = by_name (name_or n name)
    where
      by_name : (n ≡ name) ⊎ (n ≢ name) → Fits left n entry
      by_name (inl same) = subst (λ (m : Name). Fits left m entry) (sym same) (own entry (sym (set_at-same name value base) ∙ subst (λ (m : Name). set_at name value base m ≡ Some entry) same is))
      by_name (inr apart) =
          let was = sym (set_at-other name n value base apart) ∙ is in
          rest_fits book seats disk agrees reads name left far from others.clear n entry (others.is_far n entry apart was) (others.rest n entry apart was)

  pub one_agrees : (new : Disk) (after : List Seal) → ((n : Name) → IsTarget n → far n → Same disk new n) → IsTarget name
      → ((seat : Seal) → Contains after seat → (Contains seats seat × far seat.name) ⊎ (seat.name ≡ name))
      → ((entry : Entry) → value ≡ Some entry → Own after new name entry) → Agrees (set_at name value base) after new
  one_agrees new after keeps of_name seated own = record {
    targets = λ n entry is. by_target n entry is (name_or n name);
    partners = λ n other key content is. by_partner n other key content is (name_or n name);
    images = one_fits (LeftAt new) (λ n target apart. left_same disk new n (keeps n target apart)) (λ entry is. (own entry is).fits);
    calm = λ n key kept tried is. by_calm n key kept tried is (name_or n name);
    stand = λ seat entry has is. by_seat seat entry has is (seated seat has);
  }
    where
      at_name : (n : Name) (entry : Entry) → set_at name value base n ≡ Some entry → n ≡ name → value ≡ Some entry
      at_name n entry is same = sym (set_at-same name value base) ∙ subst (λ (m : Name). set_at name value base m ≡ Some entry) same is

      resting : (n : Name) (entry : Entry) → set_at name value base n ≡ Some entry → n ≢ name → Rest book disk name n entry
      resting n entry is apart = others.rest n entry apart (sym (set_at-other name n value base apart) ∙ is)

      target_of : (n : Name) (entry : Entry) → Rest book disk name n entry → IsTarget n
      target_of n entry (stayed was apart) = agrees.targets n entry was
      target_of n entry (was_freed key content none was is) = agrees.targets n (Partner key content name) was

      by_target : (n : Name) (entry : Entry) → set_at name value base n ≡ Some entry → (n ≡ name) ⊎ (n ≢ name) → IsTarget n
      by_target n entry is (inl same) = subst (λ (m : Name). IsTarget m) (sym same) of_name
      by_target n entry is (inr apart) = target_of n entry (resting n entry is apart)

      partner_of : (n other : Name) (key content : List ℕ) → n ≢ name → Rest book disk name n (Partner key content other) → (set_at name value base other ≡ Some (Partner key content n)) × (other ≢ n)
      partner_of n other key content away (stayed was apart) =
          let back = agrees.partners n other key content was in
          let clear = apart key content other refl in
          (set_at-other name other value base clear ∙ others.forward other n key content clear away back.0, back.1)
      partner_of n other key content away (was_freed key2 content2 none was is) = absurd (cc)

      by_partner : (n other : Name) (key content : List ℕ) → set_at name value base n ≡ Some (Partner key content other) → (n ≡ name) ⊎ (n ≢ name)
          → (set_at name value base other ≡ Some (Partner key content n)) × (other ≢ n)
      by_partner n other key content is (inl same) = absurd ((own (Partner key content other) (at_name n (Partner key content other) is same)).alone key content other refl)
      by_partner n other key content is (inr apart) = partner_of n other key content apart (resting n (Partner key content other) is apart)

      calm_of : (n : Name) (key : List ℕ) (kept tried : Option (List ℕ)) → far n → Rest book disk name n (Alone key kept tried true) → Ready new n
      calm_of n key kept tried away (stayed was apart) =
          let same = keeps n (agrees.targets n (Alone key kept tried true) was) away in
          ready_same disk new n same.file same.recovery (agrees.calm n key kept tried was)
      calm_of n key kept tried away (was_freed key2 content2 none was is) = absurd (cc)

      by_calm : (n : Name) (key : List ℕ) (kept tried : Option (List ℕ)) → set_at name value base n ≡ Some (Alone key kept tried true) → (n ≡ name) ⊎ (n ≢ name) → Ready new n
      by_calm n key kept tried is (inl same) =
          subst (λ (m : Name). Ready new m) (sym same) ((own (Alone key kept tried true) (at_name n (Alone key kept tried true) is same)).calm key kept tried refl)
      by_calm n key kept tried is (inr apart) =
          calm_of n key kept tried (others.is_far n (Alone key kept tried true) apart (sym (set_at-other name n value base apart) ∙ is)) (resting n (Alone key kept tried true) is apart)

      stand_of : (seat : Seal) (entry : Entry) → Contains seats seat → far seat.name → Rest book disk name seat.name entry → IsSeated seat entry new
      stand_of seat entry has away (stayed was apart) =
          let old = agrees.stand seat entry has was in
          record { entry_is = old.entry_is; path_is = old.path_is; stood = stood_same disk new seat.name (keeps seat.name (agrees.targets seat.name entry was) away) seat.key seat.sheet old.stood }
      stand_of seat entry has away (was_freed key content none was is) =
          let old = agrees.stand seat (Partner key content name) has was in
          let e = old.entry_is in absurd (cc)

      by_seat : (seat : Seal) (entry : Entry) → Contains after seat → set_at name value base seat.name ≡ Some entry → (Contains seats seat × far seat.name) ⊎ (seat.name ≡ name) → IsSeated seat entry new
      by_seat seat entry has is (inl old) = stand_of seat entry old.0 old.1 (resting seat.name entry is (others.far_apart seat.name old.1))
      by_seat seat entry has is (inr same) = (own entry (at_name seat.name entry is same)).stand seat has same
