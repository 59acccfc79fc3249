-- What alike acts leave of alike files, and openings of these.
use Rattle.std.proofs.Common.{◌≡◌, ◌≢◌, inl, inr, ℕ, List, [], ◌∷◌, length, refl, ap, ◌∙◌, sym, subst, Option, Some}
use Rattle.std.specs.Prelude.{take}
use Rattle.std.proofs.lemmas.Option.{same_Some}
use Rattle.node_tree.specs.Sheet.{Sheet, Stands}
use Rattle.node_tree.proofs.Standing.{stands_for_one}
use Rattle.node_layout.specs.declared.damage.Damage.{Damage}
use Rattle.pf_io.specs.Disk.{Name, Files}
use Rattle.pf_io.specs.Names.{recovery_of}
use Rattle.pf_session.specs.Aside.{Apart}
use Rattle.pf_session.specs.Reopening.{ReopensAs}
use Rattle.pf_session.proofs.Apartness.{apart_name}
use Rattle.pf_script.specs.Book.{Seal}
use Rattle.pf_script.specs.BookActs.{Deed, Act}
use Rattle.pf_script.specs.FileTurns.{opening_answers, FilesLeft, FilesAfter}
use Rattle.pf_script.specs.Rules.{opening_rules}
use Rattle.pf_script.specs.Turns.{IsOpeningDamage}
use Rattle.pf_script.specs.declared.reply.Why.TheVariants as whys
use Rattle.pf_script.proofs.NameMaps.{name_or}
use Rattle.pf_script.proofs.OpenRules.{was_there, magic_is, no_flag, no_version}
use Rattle.pf_script.proofs.OneRules.{AreOne, one_refusal, none_refused}
use Rattle.pf_script.proofs.OneLike.{LikeSheet, LikeSeal, LikeDeed, openings, creations, flushes, moves, LikeActs, LikeFile, same_bytes, both_stand, MayBeTarget, LikeFiles}
use Rattle.pf_script.proofs.OneOpening.{told_rules, told_same, damage_same, openable, path_is, undamaged}

-- what reopens is there
stands_here : (key : List ℕ) (sheet : Sheet) (here log : Option (List ℕ)) → (reopens : ReopensAs key sheet here log) → here ≡ Some reopens.file
stands_here key sheet here log reopens = reopens.whole

-- the sheets of two openings are alike
pub sheet_one : (key : List ℕ) (name : Name) (here there log more : Option (List ℕ)) (sheet base : Sheet) → length key ≡ 16 → LikeFile key name here there → ReopensAs key sheet here log → ReopensAs key base there more → sheet.path ≡ name → base.path ≡ name
    → LikeSheet name sheet base
sheet_one key name here there log more sheet base key_length (same_bytes is) one two path path' =
    let same = same_Some one.file two.file (sym (stands_here key sheet here log one) ∙ is ∙ stands_here key base there more two) in
    let all = stands_for_one one.file key sheet base key_length one.stands (subst (λ (f : List ℕ). Stands f key base) (sym same) two.stands) in
    record { path = path; other_path = path'; content = all.2 }
sheet_one key name here there log more sheet base key_length (both_stand file other s b is is' stands stands' like) one two path path' =
    let same = same_Some one.file file (sym (stands_here key sheet here log one) ∙ is) in
    let same' = same_Some two.file other (sym (stands_here key base there more two) ∙ is') in
    let left = stands_for_one file key sheet s key_length (subst (λ (f : List ℕ). Stands f key sheet) same one.stands) stands in
    let right = stands_for_one other key base b key_length (subst (λ (f : List ℕ). Stands f key base) same' two.stands) stands' in
    record { path = path; other_path = path'; content = left.2 ∙ like.content ∙ sym right.2 }

module _ (key : List ℕ) (key_length : length key ≡ 16) (name : Name) where
  both_told : (file other : List ℕ) (sheet base : Sheet) → Stands file key sheet → Stands other key base → LikeSheet name sheet base → AreOne (told_rules key name (opening_answers name (Some file))) (told_rules key name (opening_answers name (Some other)))
  both_told file other sheet base stands stands' like =
      let here = openable key key_length name file sheet stands in
      let there = openable key key_length name other base stands' in (
        none_refused _ _ (was_there name (length file) (take 4096 file)) (was_there name (length other) (take 4096 other)),
        λ no_first. (
          none_refused _ _ (magic_is name (length file) (take 4096 file) here.plain.magic_is) (magic_is name (length other) (take 4096 other) there.plain.magic_is),
          λ no_second. (
            none_refused _ _ (no_flag name (length file) (take 4096 file) here.flag) (no_flag name (length other) (take 4096 other) there.flag),
            λ no_third. (
              none_refused _ _ (no_version name (length file) (take 4096 file) here) (no_version name (length other) (take 4096 other) there),
              λ no_fourth. (
                none_refused _ _ (λ why r. path_is key key_length name file sheet stands why r (sym like.path)) (λ why r. path_is key key_length name other base stands' why r (sym like.other_path)),
                λ no_fifth. tt,
              ),
            ),
          ),
        ),
      )

  told_alike : (here there : Option (List ℕ)) → LikeFile key name here there → AreOne (told_rules key name (opening_answers name here)) (told_rules key name (opening_answers name there))
  told_alike here there (same_bytes is) = subst (λ (o : Option (List ℕ)). AreOne (told_rules key name (opening_answers name here)) (told_rules key name (opening_answers name o))) is (told_same key name here)
  told_alike here there (both_stand file other sheet base is is' stands stands' like) =
      subst (λ (o : Option (List ℕ)). AreOne (told_rules key name (opening_answers name o)) (told_rules key name (opening_answers name there))) (sym is)
      (subst (λ (o : Option (List ℕ)). AreOne (told_rules key name (opening_answers name (Some file))) (told_rules key name (opening_answers name o))) (sym is') (both_told file other sheet base stands stands' like))

  -- the rules of an opening refuse alike
  pub opening_alike : (here there : Option (List ℕ)) → (MayBeTarget name → LikeFile key name here there) → AreOne (opening_rules key name (opening_answers name here)) (opening_rules key name (opening_answers name there))
  opening_alike here there like = (one_refusal whys.BadName _ _ (λ p. p) (λ p. p), λ none. told_alike here there (like (λ other. none whys.BadName (refl, other))))

  -- so does its damage
  pub damage_alike : (here there : Option (List ℕ)) (damage other : Damage) → LikeFile key name here there → IsOpeningDamage key name (opening_answers name here) damage → IsOpeningDamage key name (opening_answers name there) other → damage ≡ other
  damage_alike here there damage other (same_bytes is) one two = damage_same key name here damage other one (subst (λ (o : Option (List ℕ)). IsOpeningDamage key name (opening_answers name o) other) (sym is) two)
  damage_alike here there damage other (both_stand file more sheet base is is' stands stands' like) one two =
      absurd (undamaged key key_length name file sheet stands damage (subst (λ (o : Option (List ℕ)). IsOpeningDamage key name (opening_answers name o) damage) is one))

  -- what may be opened is not damaged
  pub open_undamaged : (here there log : Option (List ℕ)) (damage : Damage) (sheet : Sheet) → LikeFile key name here there → ReopensAs key sheet here log → IsOpeningDamage key name (opening_answers name there) damage → ⊥
  open_undamaged here there log damage sheet (same_bytes is) reopens damaged =
      undamaged key key_length name reopens.file sheet reopens.stands damage (subst (λ (o : Option (List ℕ)). IsOpeningDamage key name (opening_answers name o) damage) (sym is ∙ stands_here key sheet here log reopens) damaged)
  open_undamaged here there log damage sheet (both_stand file other s base is is' stands stands' like) reopens damaged =
      undamaged key key_length name other base stands' damage (subst (λ (o : Option (List ℕ)). IsOpeningDamage key name (opening_answers name o) damage) is' damaged)

-- both are there, or neither is
pub like_sym : (key : List ℕ) (name : Name) (here there : Option (List ℕ)) → LikeFile key name here there → LikeFile key name there here
like_sym key name here there (same_bytes is) = same_bytes (sym is)
like_sym key name here there (both_stand file other sheet base is is' stands stands' like) = both_stand other file base sheet is' is stands' stands (record { path = like.other_path; other_path = like.path; content = sym like.content })

pub there_too : (key : List ℕ) (name : Name) (here there : Option (List ℕ)) (file : List ℕ) → LikeFile key name here there → here ≡ Some file → (other : List ℕ) × (there ≡ Some other)
there_too key name here there file (same_bytes same) is = (file, sym same ∙ is)
there_too key name here there file (both_stand one other sheet base has has' stands stands' like) is = (other, has')

-- a name that may be a target is apart from another one
may_apart : (name other : Name) → MayBeTarget other → other ≢ name → Apart name other
may_apart name other may apart = record {
  here = apart;
  recovery = λ is. may (λ target. (apart_name other name target apart).recovery is);
  side = λ is. may (λ target. (apart_name other name target apart).side is);
  side_recovery = λ is. may (λ target. (apart_name other name target apart).side_recovery is);
}

module _ (key : List ℕ) (files others mid till : Files) (like : LikeFiles key files others) where
  stayed : (n : Name) → MayBeTarget n → mid n ≡ files n → till n ≡ others n → LikeFile key n (mid n) (till n)
  stayed n may is is' = subst (λ (o : Option (List ℕ)). LikeFile key n o (till n)) (sym is) (subst (λ (o : Option (List ℕ)). LikeFile key n (files n) o) (sym is') (like n may))

  sealed : (seal other : Seal) → LikeSeal key seal other → ReopensAs seal.key seal.sheet (mid seal.name) (mid (recovery_of seal.name)) → ReopensAs other.key other.sheet (till other.name) (till (recovery_of other.name)) → (n : Name) → n ≡ seal.name
      → LikeFile key n (mid n) (till n)
  sealed seal other seals one two n is =
      both_stand one.file two.file seal.sheet other.sheet
      (ap mid is ∙ stands_here seal.key seal.sheet (mid seal.name) (mid (recovery_of seal.name)) one)
      (ap till (is ∙ seals.name) ∙ stands_here other.key other.sheet (till other.name) (till (recovery_of other.name)) two)
      (subst (λ (k : List ℕ). Stands one.file k seal.sheet) seals.key_is one.stands) (subst (λ (k : List ℕ). Stands two.file k other.sheet) seals.other_key two.stands)
      (subst (λ (name : Name). LikeSheet name seal.sheet other.sheet) (sym is) seals.sheet)

  -- a deed on the name of its seal alone
  one_name : (seal other : Seal) → LikeSeal key seal other → ReopensAs seal.key seal.sheet (mid seal.name) (mid (recovery_of seal.name)) → ReopensAs other.key other.sheet (till other.name) (till (recovery_of other.name))
      → ((n : Name) → Apart seal.name n → mid n ≡ files n) → ((n : Name) → Apart other.name n → till n ≡ others n) → LikeFiles key mid till
  one_name seal other seals one two keeps keeps' n may =
      elim (name_or n seal.name) [
        | inl is ↦ sealed seal other seals one two n is
        | inr far ↦ stayed n may (keeps n (may_apart seal.name n may far)) (keeps' n (may_apart other.name n may (λ is. far (is ∙ sym seals.name))))
      ]

  pub deed_leaves : (deed other : Deed) → LikeDeed key deed other → FilesLeft deed files mid → FilesLeft other others till → LikeFiles key mid till
  deed_leaves deed other (openings seal more seals) one two = λ n may. stayed n may (one.others n tt) (two.others n tt)
  deed_leaves deed other (creations seal more seals) one two = one_name seal more seals one.stands two.stands one.others two.others
  deed_leaves deed other (flushes seal more seals) one two = one_name seal more seals one.stands two.stands one.others two.others
  deed_leaves deed other (moves from start seal more same seals) one two = λ n may.
      elim (name_or n seal.name) [
        | inl is ↦ sealed seal more seals one.stands two.stands n is
        | inr far ↦
            elim (name_or n from) [
              | inl is ↦ same_bytes (ap mid is ∙ one.away ∙ sym (ap till (is ∙ same) ∙ two.away))
              | inr away ↦
                  stayed n may (one.others n (may_apart seal.name n may far, may_apart from n may away))
                  (two.others n (may_apart more.name n may (λ is. far (is ∙ sym seals.name)), may_apart start n may (λ is. away (is ∙ sym same))))
            ]
      ]

-- alike acts leave alike files
pub acts_leave : (key : List ℕ) (acts more : List Act) (files others new last : Files) → LikeFiles key files others → LikeActs key acts more → FilesAfter acts files new → FilesAfter more others last → LikeFiles key new last
acts_leave key [] [] files others new last like acts_like one two = λ n may. stayed key files others new last like n may (one n) (two n)
acts_leave key [] (other ∷ more) files others new last like acts_like one two = absurd acts_like
acts_leave key (act ∷ acts) [] files others new last like acts_like one two = absurd acts_like
acts_leave key (act ∷ acts) (other ∷ more) files others new last like acts_like one two =
    acts_leave key acts more one.1.0 two.1.0 new last (deed_leaves key files others one.1.0 two.1.0 like act.deed other.deed acts_like.0 one.1.1 two.1.1) acts_like.1 one.1.2 two.1.2
