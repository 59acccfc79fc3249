-- What a move leaves of the book, at every moment and in the end.
use Rattle.std.proofs.Common.{◌≡◌, ◌≢◌, ◌⊎◌, inl, inr, ⊎_elim, Bool, true, false, List, ℕ, refl, sym, ◌∙◌, ap, subst, Option, Some, None}
use Rattle.std.specs.Prelude.{Contains}
use Rattle.pf_io.specs.Disk.{Name, File, Disk, Image, IsImage, IsImageAt, reading, read_of}
use Rattle.pf_io.specs.Names.{recovery_of, IsTarget}
use Rattle.pf_io.specs.Moments.{Honest, Ran}
use Rattle.pf_io.specs.Replay.{set_at}
use Rattle.node_tree.specs.Sheet.{Sheet}
use Rattle.pf_session.specs.Moving.{MovedAs, still_there, was_moved, MovedIf}
use Rattle.pf_session.specs.Moving as moving
use Rattle.pf_session.specs.Restored.{Ready}
use Rattle.pf_session.specs.Reopening.{LeftAt}
use Rattle.pf_script.specs.Book.{HasAt, Book, Entry, Alone, Partner, Leaving, Fits, FitsBook, ImageFits, IsMoved, first_alone, second_alone, both_there, Seal, IsSeated, Agrees}
use Rattle.pf_script.specs.BookActs.{Move, Names, booked, moved, freed, without_partner}
use Rattle.pf_session.specs.Aside.{Apart}
use Rattle.pf_script.specs.BookDebts.{IsApart, LeavesOthers, KeepsOthers, SparesOthers, Moves, SeatsAfter, IsLeft, seat_of}
use Rattle.pf_session.proofs.Apartness.{apart_name, apart_recovery}
use Rattle.pf_script.proofs.NameMaps.{name_or, set_at-same, set_at-other}
use Rattle.pf_script.proofs.Ruling.{never, ready_same}
use Rattle.pf_script.proofs.Leaving.{of_images_two}
use Rattle.pf_script.proofs.Resting.{Rest, stayed, was_freed, freed_rest, rest_fits, turned}
use Rattle.pf_script.proofs.Going.{Own, Others, Same, one_fits, one_agrees, left_same, stood_same}
use Rattle.pf_script.proofs.Deeds.{freed_forward, own_done, some_is}

-- neither of two names
pub record Neither (from to n : Name) : Type 0 where
  pub not_to : n ≢ to
  pub not_from : n ≢ from

pub same_at_both : (from to : Name) (old new : Disk) → KeepsOthers (λ other. Apart to other × Apart from other) old new → IsTarget to → IsTarget from → (n : Name) → IsTarget n → Neither from to n → Same old new n
same_at_both from to old new keeps of_to of_from n target neither = record {
  file = keeps n (apart_name n to target neither.not_to, apart_name n from target neither.not_from);
  recovery = keeps (recovery_of n) (apart_recovery n to target of_to neither.not_to, apart_recovery n from target of_from neither.not_from);
}

pub image_from_both : (from to : Name) (disk : Disk) (image : Image) → LeavesOthers (λ other. Apart to other × Apart from other) disk image → IsTarget to → IsTarget from → (n : Name) → IsTarget n → Neither from to n
    → (here log : Option (List ℕ)) → HasAt image n here log → LeftAt disk n here log
image_from_both from to disk image leaves of_to of_from n target neither here log has = record {
  file = subst (λ (o : Option (List ℕ)). IsImageAt (disk n) o) (sym has.file) (leaves n (apart_name n to target neither.not_to, apart_name n from target neither.not_from));
  recovery = subst (λ (o : Option (List ℕ)). IsImageAt (disk (recovery_of n)) o) (sym has.recovery)
      (leaves (recovery_of n) (apart_recovery n to target of_to neither.not_to, apart_recovery n from target of_from neither.not_from));
}

module _ (book : Book) (before after : List Seal) (old new : Honest) (agrees : Agrees book before old.now) (reads : IsImage old.now (reading old.now)) (from : Name) (seal : Seal) (none : old.now seal.name ≡ None)
    (spares : SparesOthers (Move from seal) old new) where
  -- where the old name has no partner
  far_others : ((key content : List ℕ) (other : Name) → book from ≢ Some (Partner key content other)) → (base : Book)
      → ((n : Name) (entry : Entry) → n ≢ seal.name → base n ≡ Some entry → (n ≢ from) × (freed seal.name (book n) ≡ Some entry))
      → ((n other : Name) (key content : List ℕ) → n ≢ seal.name → n ≢ from → other ≢ seal.name → book n ≡ Some (Partner key content other) → base n ≡ Some (Partner key content other))
      → Others book old.now seal.name base (Neither from seal.name)
  far_others alone base back forth = record {
    is_far = λ n entry apart is. record { not_to = apart; not_from = (back n entry apart is).0 };
    far_apart = λ n far. far.not_to;
    clear = λ n other key content far was apart. record { not_to = apart; not_from = not_from n other key content was };
    rest = λ n entry apart is. freed_rest book old.now seal.name n entry none (back n entry apart is).1;
    forward = λ n other key content apart clear was. forth n other key content apart (λ same. alone key content other (subst (λ (m : Name). book m ≡ Some (Partner key content other)) same was)) clear was;
  }
    where
      not_from : (n other : Name) (key content : List ℕ) → book n ≡ Some (Partner key content other) → other ≢ from
      not_from n other key content was same =
          alone key content n (subst (λ (m : Name). book m ≡ Some (Partner key content n)) same (agrees.partners n other key content was).0)

  keeps_far : (n : Name) → IsTarget n → Neither from seal.name n → Same old.now new.now n
  keeps_far n target far = same_at_both from seal.name old.now new.now spares.others.ends spares.targets.0 spares.targets.1 n target far

  image_far : (image : Image) → LeavesOthers (IsApart (Move from seal)) old.now image → (n : Name) → IsTarget n → Neither from seal.name n → (here log : Option (List ℕ)) → HasAt image n here log → LeftAt old.now n here log
  image_far image left n target far = image_from_both from seal.name old.now image left spares.targets.0 spares.targets.1 n target far

  seat_far : (done : Bool) → SeatsAfter (Move from seal) done before after → (seat : Seal) → Contains after seat → (Contains before seat × Neither from seal.name seat.name) ⊎ (seat.name ≡ seal.name)
  seat_far done seats seat has = ⊎_elim (λ was. inl (was.0, record { not_to = λ same. was.1 (inl same); not_from = λ same. was.1 (inr same) })) (λ is. inr (left_name done is)) (seats seat has)
    where
      left_name : (d : Bool) → IsLeft (Move from seal) d seat → seat.name ≡ seal.name
      left_name true is = ap (λ (s : Seal). s.name) is
      left_name false is = absurd is

  -- a move of a name of which the book does not speak
  module _ (done : Bool) (was : book from ≡ None) where
    unknown_others : Others book old.now seal.name (without_partner freed seal.name book) (Neither from seal.name)
    unknown_others =
        far_others (λ key content other is. let e : None ≡ Some (Partner key content other) = sym was ∙ is in absurd (cc)) (without_partner freed seal.name book)
        (λ n entry apart is. (λ same. let e : None ≡ Some entry = sym (ap (λ (o : Option Entry). freed seal.name o) (ap book same ∙ was)) ∙ is in absurd (cc), is))
        (λ n other key content apart far clear is. freed_forward book seal.name n other key content clear is)

    unknown_booked : (ok : Bool) → booked (Move from seal) ok book ≡ set_at seal.name None (without_partner freed seal.name book)
    unknown_booked true = ap (λ (o : Option Entry). moved from seal true o book) was
    unknown_booked false = ap (λ (o : Option Entry). moved from seal false o book) was

    pub unknown_move_fits : (image : Image) → LeavesOthers (IsApart (Move from seal)) old.now image → ImageFits (booked (Move from seal) false book) image
    unknown_move_fits image left =
        subst (λ (b : Book). ImageFits b image) (sym (unknown_booked false))
        (one_fits book before old.now agrees reads seal.name (without_partner freed seal.name book) (Neither from seal.name) unknown_others None (HasAt image) (image_far image left) (λ e is. absurd (cc)))

    pub unknown_move_agrees : SeatsAfter (Move from seal) done before after → Agrees (booked (Move from seal) done book) after new.now
    unknown_move_agrees seats =
        subst (λ (b : Book). Agrees b after new.now) (sym (unknown_booked done))
        (one_agrees book before old.now agrees reads seal.name (without_partner freed seal.name book) (Neither from seal.name) unknown_others None new.now after keeps_far spares.targets.0 (seat_far done seats) (λ e is. absurd (cc)))

  -- a move of a name of the book
  module _ (done : Bool) (entry : Entry) (base : Sheet) (was : book from ≡ Some entry) (in_seat : Contains before (seat_of seal.key from base)) (moves : Moves done from base seal old new) where
    move_seat : IsSeated (seat_of seal.key from base) entry old.now
    move_seat = agrees.stand (seat_of seal.key from base) entry in_seat was

    pub move_ran : Ran (λ disk. MovedAs seal.key from base seal.name seal.sheet) (MovedIf done seal.key from seal.name seal.sheet) old new
    move_ran = moves.sealed move_seat.stood

    move_was : book from ≡ Some (Alone seal.key (Some base.content) None true)
    move_was = was ∙ ap (λ (e : Entry). Some e) move_seat.entry_is

    move_alone : (key content : List ℕ) (other : Name) → book from ≢ Some (Partner key content other)
    move_alone key content other is = let e : Some (Alone seal.key (Some base.content) None true) ≡ Some (Partner key content other) = sym move_was ∙ is in absurd (cc)

    -- the old name is there, the new one is not
    apart_names : from ≢ seal.name
    apart_names same = never seal.key base (reading old.now from) (reading old.now (recovery_of from)) (ap (λ (o : Option File). read_of o) (ap old.now same ∙ none)) move_seat.stood.as_sheet

    abbrev cleared : Book
    cleared = set_at from None (without_partner freed seal.name book)

    cleared_back : (n : Name) (e : Entry) → n ≢ seal.name → cleared n ≡ Some e → (n ≢ from) × (freed seal.name (book n) ≡ Some e)
    cleared_back n e apart is = by_name (name_or n from)
      where
        by_name : (n ≡ from) ⊎ (n ≢ from) → (n ≢ from) × (freed seal.name (book n) ≡ Some e)
        by_name (inl same) =
            let e2 : None ≡ Some e = sym (set_at-same from None (without_partner freed seal.name book)) ∙ subst (λ (m : Name). cleared m ≡ Some e) same is in
            absurd (cc)
        by_name (inr far) = (far, sym (set_at-other from n None (without_partner freed seal.name book) far) ∙ is)

    cleared_others : Others book old.now seal.name cleared (Neither from seal.name)
    cleared_others =
        far_others move_alone cleared cleared_back
        (λ n other key content apart far clear is. set_at-other from n None (without_partner freed seal.name book) far ∙ freed_forward book seal.name n other key content clear is)

    -- what is left of the two names
    moved_as : (image : Image) → MovedAs seal.key from base seal.name seal.sheet image → IsMoved seal.key seal.sheet.content from seal.name (image from) (image (recovery_of from)) (image seal.name) (image (recovery_of seal.name))
    moved_as image (still_there is gone) = first_alone (record { sheet = base; path_is = move_seat.path_is; content_is = sym moves.content_is; as_sheet = is }) gone
    moved_as image (was_moved gone is) = second_alone gone (record { sheet = seal.sheet; path_is = moves.path_is; content_is = refl; as_sheet = is })
    moved_as image (moving.both_there is is2) =
        both_there tt (record { sheet = base; path_is = move_seat.path_is; content_is = sym moves.content_is; as_sheet = is })
        (record { sheet = seal.sheet; path_is = moves.path_is; content_is = refl; as_sheet = is2 })

    abbrev IsLeftMoved : Option (List ℕ) → Option (List ℕ) → Option (List ℕ) → Option (List ℕ) → Type 0
    IsLeftMoved here log here2 log2 = IsMoved seal.key seal.sheet.content from seal.name here log here2 log2

    abbrev partners : Book
    partners = set_at seal.name (Some (Partner seal.key seal.sheet.content from)) (set_at from (Some (Partner seal.key seal.sheet.content seal.name)) (without_partner freed seal.name book))

    partners_booked : booked (Move from seal) false book ≡ partners
    partners_booked = ap (λ (o : Option Entry). moved from seal false o book) move_was

    abbrev inner : Book
    inner = set_at from (Some (Partner seal.key seal.sheet.content seal.name)) (without_partner freed seal.name book)

    at_new : partners seal.name ≡ Some (Partner seal.key seal.sheet.content from)
    at_new = set_at-same seal.name (Some (Partner seal.key seal.sheet.content from)) inner

    at_old : partners from ≡ Some (Partner seal.key seal.sheet.content seal.name)
    at_old = set_at-other seal.name from (Some (Partner seal.key seal.sheet.content from)) inner apart_names ∙ set_at-same from (Some (Partner seal.key seal.sheet.content seal.name)) (without_partner freed seal.name book)

    at_far : (n : Name) → Neither from seal.name n → partners n ≡ freed seal.name (book n)
    at_far n far = set_at-other seal.name n (Some (Partner seal.key seal.sheet.content from)) inner far.not_to ∙ set_at-other from n (Some (Partner seal.key seal.sheet.content seal.name)) (without_partner freed seal.name book) far.not_from

    -- one of three
    pub data Place (n : Name) : Type 0 where
      is_new : n ≡ seal.name → Place n
      is_old : n ≡ from → Place n
      is_neither : Neither from seal.name n → Place n

    place : (n : Name) → Place n
    place n = by_name (name_or n seal.name) (name_or n from)
      where
        by_name : (n ≡ seal.name) ⊎ (n ≢ seal.name) → (n ≡ from) ⊎ (n ≢ from) → Place n
        by_name (inl same) o = is_new same
        by_name (inr apart) (inl same) = is_old same
        by_name (inr apart) (inr apart2) = is_neither (record { not_to = apart; not_from = apart2 })

    far_rest : (n : Name) (e : Entry) → Neither from seal.name n → partners n ≡ Some e → Rest book old.now seal.name n e
    far_rest n e far is = freed_rest book old.now seal.name n e none (sym (at_far n far) ∙ is)

    partners_fit : (left : Leaving) → ((n : Name) → IsTarget n → Neither from seal.name n → (here log : Option (List ℕ)) → left n here log → LeftAt old.now n here log)
        → ((here log here2 log2 : Option (List ℕ)) → left from here log → left seal.name here2 log2 → IsLeftMoved here log here2 log2) → FitsBook left partners
    partners_fit left from_old claim n e is = by_place (place n)
      where
        by_place : Place n → Fits left n e
        by_place (is_new same) =
            subst (λ (m : Name). Fits left m e) (sym same)
            (subst (λ (e : Entry). Fits left seal.name e) (some_is _ e (sym at_new ∙ subst (λ (m : Name). partners m ≡ Some e) same is))
            (λ here log here2 log2 l l2. turned seal.key seal.sheet.content from seal.name here2 log2 here log (claim here2 log2 here log l2 l)))
        by_place (is_old same) =
            subst (λ (m : Name). Fits left m e) (sym same)
            (subst (λ (e : Entry). Fits left from e) (some_is _ e (sym at_old ∙ subst (λ (m : Name). partners m ≡ Some e) same is)) claim)
        by_place (is_neither far) = rest_fits book before old.now agrees reads seal.name left (Neither from seal.name) from_old cleared_others.clear n e far (far_rest n e far is)

    pub known_move_fits : (image : Image) → LeavesOthers (IsApart (Move from seal)) old.now image → MovedAs seal.key from base seal.name seal.sheet image → ImageFits (booked (Move from seal) false book) image
    known_move_fits image left as_moved =
        subst (λ (b : Book). ImageFits b image) (sym partners_booked)
        (partners_fit (HasAt image) (image_far image left)
        (λ here log here2 log2 has has2.
        subst (λ (o : Option (List ℕ)). IsLeftMoved o log here2 log2) (sym has.file) (subst (λ (o : Option (List ℕ)). IsLeftMoved (image from) o here2 log2) (sym has.recovery)
        (subst (λ (o : Option (List ℕ)). IsLeftMoved (image from) (image (recovery_of from)) o log2) (sym has2.file)
        (subst (λ (o : Option (List ℕ)). IsLeftMoved (image from) (image (recovery_of from)) (image seal.name) o) (sym has2.recovery) (moved_as image as_moved))))))

    -- accepted
    moved_agrees : MovedIf true seal.key from seal.name seal.sheet old.now new.now → SeatsAfter (Move from seal) true before after → Agrees (booked (Move from seal) true book) after new.now
    moved_agrees ends seats =
        subst (λ (b : Book). Agrees b after new.now) (sym (ap (λ (o : Option Entry). moved from seal true o book) move_was))
        (one_agrees book before old.now agrees reads seal.name cleared (Neither from seal.name) cleared_others (Some (Alone seal.key (Some seal.sheet.content) None true)) new.now after keeps_far spares.targets.0 (seat_far true seats)
        (λ e is. subst (λ (e : Entry). Own after new.now seal.name e) (some_is _ e is) (own_done after new.now seal moves.path_is ends.1 only)))
      where
        only : (seat : Seal) → Contains after seat → seat.name ≡ seal.name → seat ≡ seal
        only seat has same = ⊎_elim (λ was_old. absurd (was_old.1 (inl same))) (λ is. is) (seats seat has)

    -- failed
    halved_agrees : SeatsAfter (Move from seal) false before after → Agrees (booked (Move from seal) false book) after new.now
    halved_agrees seats =
        subst (λ (b : Book). Agrees b after new.now) (sym partners_booked)
        (record {
          targets = λ n e is. by_target n e is (place n);
          partners = λ n other key content is. by_partner n other key content is (place n);
          images = partners_fit (LeftAt new.now) (λ n target far. left_same old.now new.now n (keeps_far n target far)) claim;
          calm = λ n key kept tried is. by_calm n key kept tried is (place n);
          stand = λ seat e has is. by_seat seat e is (seats seat has);
        })
      where
        claim : (here log here2 log2 : Option (List ℕ)) → LeftAt new.now from here log → LeftAt new.now seal.name here2 log2 → IsLeftMoved here log here2 log2
        claim =
            of_images_two new.now spares.reads from seal.name spares.targets.1 spares.targets.0 (λ same. apart_names (sym same)) IsLeftMoved
            (λ image is. moved_as image (move_ran.leaves.each image (inl is)))

        target_of : (n : Name) (e : Entry) → Rest book old.now seal.name n e → IsTarget n
        target_of n e (stayed was2 apart) = agrees.targets n e was2
        target_of n e (was_freed key content gone was2 is) = agrees.targets n (Partner key content seal.name) was2

        by_target : (n : Name) (e : Entry) → partners n ≡ Some e → Place n → IsTarget n
        by_target n e is (is_new same) = subst (λ (m : Name). IsTarget m) (sym same) spares.targets.0
        by_target n e is (is_old same) = subst (λ (m : Name). IsTarget m) (sym same) spares.targets.1
        by_target n e is (is_neither far) = target_of n e (far_rest n e far is)

        same_partner : (key content key2 content2 : List ℕ) (m other n : Name) → Partner key content m ≡ Partner key2 content2 other → partners m ≡ Some (Partner key content n) × (m ≢ n)
            → (partners other ≡ Some (Partner key2 content2 n)) × (other ≢ n)
        same_partner key content key2 content2 m other n same has =
            let u : key ≡ key2 = cc in
            let v : content ≡ content2 = cc in
            let o : m ≡ other = cc in (
              subst (λ (k : Name). partners k ≡ Some (Partner key2 content2 n)) o (has.0 ∙ ap (λ (k : List ℕ). Some (Partner k content n)) u ∙ ap (λ (k : List ℕ). Some (Partner key2 k n)) v),
              subst (λ (k : Name). k ≢ n) o has.1,
            )

        partner_of : (n other : Name) (key content : List ℕ) → Neither from seal.name n → Rest book old.now seal.name n (Partner key content other) → (partners other ≡ Some (Partner key content n)) × (other ≢ n)
        partner_of n other key content far (stayed was2 apart) =
            let back = agrees.partners n other key content was2 in
            let clear = cleared_others.clear n other key content far was2 (apart key content other refl) in
            (at_far other clear ∙ freed_forward book seal.name other n key content far.not_to back.0, back.1)
        partner_of n other key content far (was_freed key2 content2 gone was2 is) = absurd (cc)

        by_partner : (n other : Name) (key content : List ℕ) → partners n ≡ Some (Partner key content other) → Place n → (partners other ≡ Some (Partner key content n)) × (other ≢ n)
        by_partner n other key content is (is_new same) =
            subst (λ (m : Name). (partners other ≡ Some (Partner key content m)) × (other ≢ m)) (sym same)
            (same_partner seal.key seal.sheet.content key content from other seal.name (some_is _ _ (sym at_new ∙ subst (λ (m : Name). partners m ≡ Some (Partner key content other)) same is)) (at_old, apart_names))
        by_partner n other key content is (is_old same) =
            subst (λ (m : Name). (partners other ≡ Some (Partner key content m)) × (other ≢ m)) (sym same)
            (same_partner seal.key seal.sheet.content key content seal.name other from (some_is _ _ (sym at_old ∙ subst (λ (m : Name). partners m ≡ Some (Partner key content other)) same is))
            (at_new, λ same2. apart_names (sym same2)))
        by_partner n other key content is (is_neither far) = partner_of n other key content far (far_rest n (Partner key content other) far is)

        calm_of : (n : Name) (key : List ℕ) (kept tried : Option (List ℕ)) → Neither from seal.name n → Rest book old.now seal.name n (Alone key kept tried true) → Ready new.now n
        calm_of n key kept tried far (stayed was2 apart) =
            let same = keeps_far n (agrees.targets n (Alone key kept tried true) was2) far in
            ready_same old.now new.now n same.file same.recovery (agrees.calm n key kept tried was2)
        calm_of n key kept tried far (was_freed key2 content2 gone was2 is) = absurd (cc)

        by_calm : (n : Name) (key : List ℕ) (kept tried : Option (List ℕ)) → partners n ≡ Some (Alone key kept tried true) → Place n → Ready new.now n
        by_calm n key kept tried is (is_new same) =
            let e : Some (Partner seal.key seal.sheet.content from) ≡ Some (Alone key kept tried true) = sym at_new ∙ subst (λ (m : Name). partners m ≡ Some (Alone key kept tried true)) same is in
            absurd (cc)
        by_calm n key kept tried is (is_old same) =
            let e : Some (Partner seal.key seal.sheet.content seal.name) ≡ Some (Alone key kept tried true) = sym at_old ∙ subst (λ (m : Name). partners m ≡ Some (Alone key kept tried true)) same is in
            absurd (cc)
        by_calm n key kept tried is (is_neither far) = calm_of n key kept tried far (far_rest n (Alone key kept tried true) far is)

        stand_of : (seat : Seal) (e : Entry) → Contains before seat → Neither from seal.name seat.name → Rest book old.now seal.name seat.name e → IsSeated seat e new.now
        stand_of seat e has far (stayed was2 apart) =
            let was_seat = agrees.stand seat e has was2 in
            record { entry_is = was_seat.entry_is; path_is = was_seat.path_is; stood = stood_same old.now new.now seat.name (keeps_far seat.name (agrees.targets seat.name e was2) far) seat.key seat.sheet was_seat.stood }
        stand_of seat e has far (was_freed key content gone was2 is) = let e2 = (agrees.stand seat (Partner key content seal.name) has was2).entry_is in absurd (cc)

        by_seat : (seat : Seal) (e : Entry) → partners seat.name ≡ Some e → (Contains before seat × ¬ (Names (Move from seal) seat.name)) ⊎ ⊥ → IsSeated seat e new.now
        by_seat seat e is (inl was_old) =
            let far : Neither from seal.name seat.name = record { not_to = λ same. was_old.1 (inl same); not_from = λ same. was_old.1 (inr same) } in
            stand_of seat e was_old.0 far (far_rest seat.name e far is)
        by_seat seat e is (inr no_one) = absurd no_one

    pub known_move_agrees : SeatsAfter (Move from seal) done before after → Agrees (booked (Move from seal) done book) after new.now
    known_move_agrees = by_done done move_ran.ends
      where
        by_done : (d : Bool) → MovedIf d seal.key from seal.name seal.sheet old.now new.now → SeatsAfter (Move from seal) d before after → Agrees (booked (Move from seal) d book) after new.now
        by_done true ends seats = moved_agrees ends seats
        by_done false ends seats = halved_agrees seats
