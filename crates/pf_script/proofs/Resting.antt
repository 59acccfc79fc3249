-- The names that a deed leaves alone, and the partner of one that it does not.
use Rattle.std.proofs.Common.{◌≡◌, ◌≢◌, ◌⊎◌, inl, inr, Bool, false, cond, List, ℕ, refl, sym, ◌∙◌, ap, subst, Option, Some, None}
use Rattle.pf_io.specs.Disk.{Name, File, Disk, IsImage, IsImageAt, reading}
use Rattle.pf_io.specs.Names.{recovery_of, IsTarget}
use Rattle.pf_session.specs.Reopening.{Reopens, LeftAt}
use Rattle.pf_script.specs.Book.{Book, Entry, Alone, Partner, Leaving, Fits, IsMoved, first_alone, second_alone, both_there, Seal, Agrees}
use Rattle.pf_script.specs.BookActs.{freed, dropped}
use Rattle.pf_script.proofs.NameMaps.{name_or, differ, same_name}
use Rattle.pf_script.proofs.Ruling.{never_content}

-- the entry of a name that a deed at `name` leaves alone: as it was, or alone where the two were partners and the name was absent
pub data Rest (book : Book) (disk : Disk) (name n : Name) (entry : Entry) : Type 0 where
  stayed : book n ≡ Some entry → ((key content : List ℕ) (other : Name) → entry ≡ Partner key content other → other ≢ name) → Rest book disk name n entry
  was_freed : (key content : List ℕ) → disk name ≡ None → book n ≡ Some (Partner key content name) → entry ≡ Alone key (Some content) None false → Rest book disk name n entry

not_partner : (key own content : List ℕ) (kept tried : Option (List ℕ)) (ready : Bool) (other : Name) → Alone key kept tried ready ≡ Partner own content other → ⊥
not_partner key own content kept tried ready other same = absurd (cc)

other_is : (key content key2 content2 : List ℕ) (other other2 : Name) → Partner key content other ≡ Partner key2 content2 other2 → other ≡ other2
other_is key content key2 content2 other other2 same = cc

pub freed_rest : (book : Book) (disk : Disk) (name n : Name) (entry : Entry) → disk name ≡ None → freed name (book n) ≡ Some entry → Rest book disk name n entry
freed_rest book disk name n entry none is = by_entry (book n) refl is
  where
    by_other : (key content : List ℕ) (other : Name) → book n ≡ Some (Partner key content other) → (other ≡ name) ⊎ (other ≢ name) → freed name (Some (Partner key content other)) ≡ Some entry → Rest book disk name n entry
    by_other key content other was (inl same) is =
        let e : Some (Alone key (Some content) None false) ≡ Some entry =
        sym (ap (λ b. cond b (Some (Alone key (Some content) None false)) (Some (Partner key content other))) (same_name other name same)) ∙ is in
        let e2 : entry ≡ Alone key (Some content) None false = cc in
        was_freed key content none (was ∙ ap (λ (o : Name). Some (Partner key content o)) same) e2
    by_other key content other was (inr apart) is =
        let e : Some (Partner key content other) ≡ Some entry =
        sym (ap (λ b. cond b (Some (Alone key (Some content) None false)) (Some (Partner key content other))) (differ other name apart)) ∙ is in
        stayed (was ∙ e) (λ key2 content2 other2 entry_is same. apart (other_is key content key2 content2 other other2 (let e3 : Partner key content other ≡ entry = cc in e3 ∙ entry_is) ∙ same))

    by_entry : (o : Option Entry) → book n ≡ o → freed name o ≡ Some entry → Rest book disk name n entry
    by_entry None was is = absurd (cc)
    by_entry (Some (Alone key kept tried ready)) was is =
        stayed (was ∙ is) (λ key2 content2 other2 entry_is same. not_partner key key2 content2 kept tried ready other2 (let e : Alone key kept tried ready ≡ entry = cc in e ∙ entry_is))
    by_entry (Some (Partner key content other)) was is = by_other key content other was (name_or other name) is

pub dropped_rest : (book : Book) (disk : Disk) (name n : Name) (entry : Entry) → dropped name (book n) ≡ Some entry → Rest book disk name n entry
dropped_rest book disk name n entry is = by_entry (book n) refl is
  where
    by_other : (key content : List ℕ) (other : Name) → book n ≡ Some (Partner key content other) → (other ≡ name) ⊎ (other ≢ name) → dropped name (Some (Partner key content other)) ≡ Some entry → Rest book disk name n entry
    by_other key content other was (inl same) is =
        let e : None ≡ Some entry = sym (ap (λ b. cond b None (Some (Partner key content other))) (same_name other name same)) ∙ is in
        absurd (cc)
    by_other key content other was (inr apart) is =
        let e : Some (Partner key content other) ≡ Some entry = sym (ap (λ b. cond b None (Some (Partner key content other))) (differ other name apart)) ∙ is in
        stayed (was ∙ e) (λ key2 content2 other2 entry_is same. apart (other_is key content key2 content2 other other2 (let e3 : Partner key content other ≡ entry = cc in e3 ∙ entry_is) ∙ same))

    by_entry : (o : Option Entry) → book n ≡ o → dropped name o ≡ Some entry → Rest book disk name n entry
    by_entry None was is = absurd (cc)
    by_entry (Some (Alone key kept tried ready)) was is =
        stayed (was ∙ is) (λ key2 content2 other2 entry_is same. not_partner key key2 content2 kept tried ready other2 (let e : Alone key kept tried ready ≡ entry = cc in e ∙ entry_is))
    by_entry (Some (Partner key content other)) was is = by_other key content other was (name_or other name) is

-- where no name has this one as partner, each other entry stays
pub same_rest : (book : Book) (seats : List Seal) (disk : Disk) → Agrees book seats disk → (name n : Name) → ((key content : List ℕ) (other : Name) → book name ≢ Some (Partner key content other))
    → (entry : Entry) → book n ≡ Some entry → Rest book disk name n entry
same_rest book seats disk agrees name n alone entry was =
    stayed was
    (λ key content other entry_is same.
    let back = agrees.partners n other key content (was ∙ ap (λ (e : Entry). Some e) entry_is) in
    alone key content n (subst (λ (o : Name). book o ≡ Some (Partner key content n)) same back.0))

-- what may be left of the two is the same in the other order
pub turned : (key content : List ℕ) (name other : Name) (here log here2 log2 : Option (List ℕ)) → IsMoved key content name other here log here2 log2 → IsMoved key content other name here2 log2 here log
turned key content name other here log here2 log2 (first_alone is none) = second_alone none is
turned key content name other here log here2 log2 (second_alone none is) = first_alone is none
turned key content name other here log here2 log2 (both_there may is is2) = both_there may is2 is

-- a partner of an absent name has the content
pub partner_has : (book : Book) (seats : List Seal) (disk : Disk) → Agrees book seats disk → IsImage disk (reading disk) → (name n : Name) (key content : List ℕ)
    → disk name ≡ None → book n ≡ Some (Partner key content name) → (here log : Option (List ℕ)) → LeftAt disk n here log → Reopens key n content here log
partner_has book seats disk agrees reads name n key content none was here log left =
    by_case (agrees.images n (Partner key content name) was here log None (reading disk (recovery_of name)) left
    (record { file = subst (λ (o : Option File). IsImageAt o None) (sym none) tt; recovery = reads (recovery_of name) }))
  where
    by_case : {log2 : Option (List ℕ)} → IsMoved key content n name here log None log2 → Reopens key n content here log
    by_case (first_alone is gone) = is
    by_case (second_alone gone is) = absurd (never_content key name content None _ refl is)
    by_case (both_there may is is2) = is

-- what may be left now of a name that a deed leaves alone is as its entry says
pub rest_fits : (book : Book) (seats : List Seal) (disk : Disk) → Agrees book seats disk → IsImage disk (reading disk) → (name : Name) (left : Leaving) (others : Name → Type 0)
    → ((n : Name) → IsTarget n → others n → (here log : Option (List ℕ)) → left n here log → LeftAt disk n here log)
    → ((n other : Name) (key content : List ℕ) → others n → book n ≡ Some (Partner key content other) → other ≢ name → others other)
    → (n : Name) (entry : Entry) → others n → Rest book disk name n entry → Fits left n entry
rest_fits book seats disk agrees reads name left others from clear n (Alone key kept tried ready) far (stayed was apart) =
    λ here log l. agrees.images n (Alone key kept tried ready) was here log (from n (agrees.targets n (Alone key kept tried ready) was) far here log l)
rest_fits book seats disk agrees reads name left others from clear n (Partner key content other) far (stayed was apart) =
    λ here log here2 log2 l l2.
    let back = agrees.partners n other key content was in
    agrees.images n (Partner key content other) was here log here2 log2
    (from n (agrees.targets n (Partner key content other) was) far here log l)
    (from other (agrees.targets other (Partner key content n) back.0) (clear n other key content far was (apart key content other refl)) here2 log2 l2)
rest_fits book seats disk agrees reads name left others from clear n entry far (was_freed key content none was is) =
    subst (λ (e : Entry). Fits left n e) (sym is)
    (λ here log l. inl (partner_has book seats disk agrees reads name n key content none was here log (from n (agrees.targets n (Partner key content name) was) far here log l)))
