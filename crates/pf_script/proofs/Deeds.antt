-- What each deed but a move leaves of the book, at every moment and in the end.
use Rattle.std.proofs.Common.{◌≡◌, ◌≢◌, ◌⊎◌, inl, inr, ⊎_elim, Bool, true, false, cond, List, ℕ, refl, sym, ◌∙◌, ap, subst, Option, Some, None}
use Rattle.std.specs.Prelude.{Contains}
use Rattle.pf_io.specs.Disk.{Name, File, Disk, Image, IsImage, IsImageAt, reading}
use Rattle.pf_io.specs.Names.{recovery_of, IsTarget}
use Rattle.pf_io.specs.Moments.{Honest, LeavesOnly, Ran}
use Rattle.pf_io.specs.Replay.{set_at}
use Rattle.node_tree.specs.Sheet.{Sheet}
use Rattle.pf_session.specs.Reopening.{ReopensAs, Reopens, EachReopens, LeftAt, Stood, AsEither, ReopensEither}
use Rattle.pf_script.specs.Book.{HasAt, Book, Entry, Alone, Partner, key_of, Leaving, Fits, FitsBook, ImageFits, Seal, IsSeated, Agrees}
use Rattle.pf_script.specs.BookActs.{Deed, Opening, Creation, Flush, Names, booked, opened, flushed, freed, dropped, without_partner, sealed_entry, speaks}
use Rattle.pf_session.specs.Aside.{Apart}
use Rattle.pf_script.specs.BookDebts.{IsApart, LeavesOthers, SparesOthers, Flushes, Creates, KeepsOpened, OpensOn, SeatsAfter, IsLeft, seat_of}
use Rattle.pf_session.specs.Creating.{AbsentOr}
use Rattle.pf_session.specs.Sealing.{StoodIf}
use Rattle.pf_session.proofs.Apartness.{apart_name, apart_recovery}
use Rattle.pf_script.proofs.NameMaps.{differ}
use Rattle.pf_script.proofs.Ruling.{ready_stood}
use Rattle.pf_script.proofs.Leaving.{of_images, of_image, stood_as}
use Rattle.pf_script.proofs.Resting.{freed_rest, dropped_rest, same_rest, rest_fits}
use Rattle.pf_script.proofs.Going.{Own, Others, one_fits, one_agrees, same_at, left_same}
use Rattle.pf_script.proofs.Opened as openings
use Rattle.pf_script.proofs.During.{leaves_more, leaves_both}

-- an image leaves the other names as before
pub image_from : (name : Name) (disk : Disk) (image : Image) → LeavesOthers (Apart name) disk image → IsTarget name → (n : Name) → IsTarget n → n ≢ name
    → (here log : Option (List ℕ)) → HasAt image n here log → LeftAt disk n here log
image_from name disk image leaves of_name n target apart here log has = record {
  file = subst (λ (o : Option (List ℕ)). IsImageAt (disk n) o) (sym has.file) (leaves n (apart_name n name target apart));
  recovery = subst (λ (o : Option (List ℕ)). IsImageAt (disk (recovery_of n)) o) (sym has.recovery) (leaves (recovery_of n) (apart_recovery n name target of_name apart));
}

pub freed_forward : (book : Book) (name n other : Name) (key content : List ℕ) → other ≢ name → book n ≡ Some (Partner key content other) → without_partner freed name book n ≡ Some (Partner key content other)
freed_forward book name n other key content apart was =
    ap (λ (o : Option Entry). freed name o) was ∙ ap (λ b. cond b (Some (Alone key (Some content) None false)) (Some (Partner key content other))) (differ other name apart)

dropped_forward : (book : Book) (name n other : Name) (key content : List ℕ) → other ≢ name → book n ≡ Some (Partner key content other) → without_partner dropped name book n ≡ Some (Partner key content other)
dropped_forward book name n other key content apart was =
    ap (λ (o : Option Entry). dropped name o) was ∙ ap (λ b. cond b None (Some (Partner key content other))) (differ other name apart)

pub freed_others : (book : Book) (disk : Disk) (name : Name) → disk name ≡ None → Others book disk name (without_partner freed name book) (λ n. n ≢ name)
freed_others book disk name none = record {
  is_far = λ n entry apart is. apart;
  far_apart = λ n apart. apart;
  clear = λ n other key content apart was away. away;
  rest = λ n entry apart is. freed_rest book disk name n entry none is;
  forward = λ n other key content far clear was. freed_forward book name n other key content clear was;
}

dropped_others : (book : Book) (disk : Disk) (name : Name) → Others book disk name (without_partner dropped name book) (λ n. n ≢ name)
dropped_others book disk name = record {
  is_far = λ n entry apart is. apart;
  far_apart = λ n apart. apart;
  clear = λ n other key content apart was away. away;
  rest = λ n entry apart is. dropped_rest book disk name n entry is;
  forward = λ n other key content far clear was. dropped_forward book name n other key content clear was;
}

pub same_others : (book : Book) (seats : List Seal) (disk : Disk) → Agrees book seats disk → (name : Name) → ((key content : List ℕ) (other : Name) → book name ≢ Some (Partner key content other)) → Others book disk name book (λ n. n ≢ name)
same_others book seats disk agrees name alone = record {
  is_far = λ n entry apart is. apart;
  far_apart = λ n apart. apart;
  clear = λ n other key content apart was away. away;
  rest = λ n entry apart is. same_rest book seats disk agrees name n alone entry is;
  forward = λ n other key content far clear was. was;
}

-- a sheet of the name reopens as its content
reopens : (key : List ℕ) (name : Name) (sheet : Sheet) (here log : Option (List ℕ)) → sheet.path ≡ name → ReopensAs key sheet here log → Reopens key name sheet.content here log
reopens key name sheet here log path_is has = record { sheet = sheet; path_is = path_is; content_is = refl; as_sheet = has }

seated_by : (deed : Deed) (done : Bool) (before after : List Seal) → SeatsAfter deed done before after → (name : Name) → Names deed name → (seat : Seal) → Contains after seat → seat.name ≡ name → IsLeft deed done seat
seated_by deed done before after seats name named seat has same =
    ⊎_elim (λ old. absurd (old.1 (subst (λ (m : Name). Names deed m) (sym same) named))) (λ is. is) (seats seat has)

-- the entry of a name that stands for a sealed sheet
pub own_done : (after : List Seal) (new : Disk) (seal : Seal) → seal.sheet.path ≡ seal.name → Stood seal.key seal.name seal.sheet new
    → ((seat : Seal) → Contains after seat → seat.name ≡ seal.name → seat ≡ seal) → Own after new seal.name (Alone seal.key (Some seal.sheet.content) None true)
own_done after new seal path_is stood only = record {
  alone = λ key content other same. absurd (cc);
  fits = λ here log left. inl (reopens seal.key seal.name seal.sheet here log path_is (stood_as seal.key seal.name seal.sheet new here log stood left));
  calm = λ key kept tried is. ready_stood seal.key seal.name seal.sheet new stood;
  stand = λ seat has same. subst (λ (s : Seal). IsSeated s (Alone seal.key (Some seal.sheet.content) None true) new) (sym (only seat has same)) (record { entry_is = refl; path_is = path_is; stood = stood });
}

-- the entry of a name on which a call failed
own_failed : (after : List Seal) (new : Disk) (name : Name) (key : List ℕ) (kept tried : Option (List ℕ)) → Fits (LeftAt new) name (Alone key kept tried false)
    → ((seat : Seal) → Contains after seat → seat.name ≡ name → ⊥) → Own after new name (Alone key kept tried false)
own_failed after new name key kept tried fits none = record {
  alone = λ key2 content other same. absurd (cc);
  fits = fits;
  calm = λ key2 kept2 tried2 is. absurd (let e : false ≡ true = cc in cc);
  stand = λ seat has same. absurd (none seat has same);
}

pub some_is : (e e2 : Entry) → Some e ≡ Some e2 → e ≡ e2
some_is e e2 same = cc

module _ (book : Book) (before after : List Seal) (old new : Honest) (agrees : Agrees book before old.now) (reads : IsImage old.now (reading old.now)) where
  -- a flush of a name of the book
  module _ (done : Bool) (seal : Seal) (entry : Entry) (base : Sheet) (was : book seal.name ≡ Some entry) (in_seat : Contains before (seat_of seal.key seal.name base)) (spares : SparesOthers (Flush seal) old new)
      (flushes : Flushes done base seal old new) where
    flush_seat : IsSeated (seat_of seal.key seal.name base) entry old.now
    flush_seat = agrees.stand (seat_of seal.key seal.name base) entry in_seat was

    pub flush_ran : Ran (AsEither seal.key seal.name base seal.sheet) (StoodIf done seal.key seal.name seal.sheet) old new
    flush_ran = flushes.sealed flush_seat.stood

    flush_was : book seal.name ≡ Some (Alone seal.key (Some base.content) None true)
    flush_was = was ∙ ap (λ (e : Entry). Some e) flush_seat.entry_is

    flush_others : Others book old.now seal.name book (λ n. n ≢ seal.name)
    flush_others = same_others book before old.now agrees seal.name (λ key content other is. let e : Some (Alone seal.key (Some base.content) None true) ≡ Some (Partner key content other) = sym flush_was ∙ is in absurd (cc))

    flush_tried : (left : Leaving) → ((here log : Option (List ℕ)) → left seal.name here log → ReopensAs seal.key base here log ⊎ ReopensAs seal.key seal.sheet here log)
        → Fits left seal.name (Alone seal.key (Some base.content) (Some seal.sheet.content) false)
    flush_tried left either =
        λ here log l.
        ⊎_elim (λ is. inl (reopens seal.key seal.name base here log flush_seat.path_is is)) (λ is. inr (reopens seal.key seal.name seal.sheet here log flushes.path_is is)) (either here log l)

    abbrev flush_value : Bool → Option Entry
    flush_value ok = Some (sealed_entry seal.key seal.sheet.content (Some base.content) ok)

    flush_booked : (ok : Bool) → booked (Flush seal) ok book ≡ set_at seal.name (flush_value ok) book
    flush_booked ok = ap (λ (o : Option Entry). flushed seal ok o book) flush_was

    pub flush_fits : (image : Image) → LeavesOthers (IsApart (Flush seal)) old.now image → AsEither seal.key seal.name base seal.sheet old.now image → ImageFits (booked (Flush seal) false book) image
    flush_fits image far either =
        subst (λ (b : Book). ImageFits b image) (sym (flush_booked false))
        (one_fits book before old.now agrees reads seal.name book (λ n. n ≢ seal.name) flush_others (flush_value false) (HasAt image)
        (image_from seal.name old.now image far spares.targets)
        (λ e is. subst (λ (e : Entry). Fits (HasAt image) seal.name e) (some_is _ e is)
        (flush_tried (HasAt image)
        (λ here log has. of_image image seal.name (λ h l. ReopensAs seal.key base h l ⊎ ReopensAs seal.key seal.sheet h l) either here log has))))

    flush_own : (d : Bool) → StoodIf d seal.key seal.name seal.sheet old.now new.now → SeatsAfter (Flush seal) d before after → Own after new.now seal.name (sealed_entry seal.key seal.sheet.content (Some base.content) d)
    flush_own true stood seats = own_done after new.now seal flushes.path_is stood (λ seat has same. seated_by (Flush seal) true before after seats seal.name refl seat has same)
    flush_own false stood seats =
        own_failed after new.now seal.name seal.key (Some base.content) (Some seal.sheet.content)
        (flush_tried (LeftAt new.now)
        (of_images new.now spares.reads seal.name (λ h l. ReopensAs seal.key base h l ⊎ ReopensAs seal.key seal.sheet h l) (λ image is. flush_ran.leaves.each image (inl is))))
        (λ seat has same. seated_by (Flush seal) false before after seats seal.name refl seat has same)

    pub flush_agrees : SeatsAfter (Flush seal) done before after → Agrees (booked (Flush seal) done book) after new.now
    flush_agrees seats =
        subst (λ (b : Book). Agrees b after new.now) (sym (flush_booked done))
        (one_agrees book before old.now agrees reads seal.name book (λ n. n ≢ seal.name) flush_others (flush_value done) new.now after (λ n target apart. same_at old.now new.now seal.name n spares.others.ends target spares.targets apart) spares.targets
        (λ seat has. ⊎_elim (λ was. inl was) (λ is. inr (left_name done seat is)) (seats seat has))
        (λ e is. subst (λ (e : Entry). Own after new.now seal.name e) (some_is _ e is) (flush_own done flush_ran.ends seats)))
      where
        left_name : (d : Bool) (seat : Seal) → IsLeft (Flush seal) d seat → seat.name ≡ seal.name
        left_name true seat is = ap (λ (s : Seal). s.name) is
        left_name false seat is = absurd is

  -- a call on a name of which the book does not speak
  module _ (deed : Deed) (name : Name) (was : book name ≡ None) where
    none_others : Others book old.now name book (λ n. n ≢ name)
    none_others = same_others book before old.now agrees name (λ key content other is. let e : None ≡ Some (Partner key content other) = sym was ∙ is in absurd (cc))

    pub none_fits : (left : Leaving) → ((n : Name) → IsTarget n → n ≢ name → (here log : Option (List ℕ)) → left n here log → LeftAt old.now n here log) → FitsBook left book
    none_fits left from n entry is =
        rest_fits book before old.now agrees reads name left (λ m. m ≢ name) from (λ m other key content far is clear. clear) n entry far (none_others.rest n entry far is)
      where
        far : n ≢ name
        far same = let e : Some entry ≡ None = sym is ∙ ap book same ∙ was in absurd (cc)

  module _ (done : Bool) (seal : Seal) (was : book seal.name ≡ None) (spares : SparesOthers (Flush seal) old new) where
    still_booked : (ok : Bool) → booked (Flush seal) ok book ≡ book
    still_booked ok = ap (λ (o : Option Entry). flushed seal ok o book) was

    pub unknown_fits : (image : Image) → LeavesOthers (IsApart (Flush seal)) old.now image → ImageFits (booked (Flush seal) false book) image
    unknown_fits image far =
        subst (λ (b : Book). ImageFits b image) (sym (still_booked false))
        (none_fits (Flush seal) seal.name was (HasAt image) (image_from seal.name old.now image far spares.targets))

    pub unknown_agrees : SeatsAfter (Flush seal) done before after → Agrees (booked (Flush seal) done book) after new.now
    unknown_agrees seats =
        subst (λ (b : Book). Agrees b after new.now) (sym (still_booked done))
        (openings.same_agrees book before old.now agrees reads seal.name new.now after spares.others.ends spares.targets
        (λ entry is ready. let e : None ≡ Some entry = sym was ∙ is in absurd (cc)) (none_fits (Flush seal) seal.name was (LeftAt new.now) (λ n target apart. left_same old.now new.now n (same_at old.now new.now seal.name n spares.others.ends target spares.targets apart)))
        (λ seat has. ⊎_elim (λ old_seat. inl old_seat) (λ is. inr (left_none done seat is)) (seats seat has)))
      where
        left_none : (d : Bool) (seat : Seal) → IsLeft (Flush seal) d seat → book seat.name ≡ None
        left_none true seat is = ap (λ (s : Seal). book s.name) is ∙ was
        left_none false seat is = absurd is

  -- a creation
  module _ (done : Bool) (seal : Seal) (spares : SparesOthers (Creation seal) old new) (creates : Creates done seal old new) where
    created_tried : (left : Leaving) → ((here log : Option (List ℕ)) → left seal.name here log → (here ≡ None) ⊎ ReopensAs seal.key seal.sheet here log)
        → Fits left seal.name (Alone seal.key None (Some seal.sheet.content) false)
    created_tried left either = λ here log l. ⊎_elim (λ none. inl none) (λ is. inr (reopens seal.key seal.name seal.sheet here log creates.path_is is)) (either here log l)

    abbrev created_value : Bool → Option Entry
    created_value ok = Some (sealed_entry seal.key seal.sheet.content None ok)

    pub created_fits : (image : Image) → LeavesOthers (IsApart (Creation seal)) old.now image → AbsentOr seal.key seal.name seal.sheet old.now image → ImageFits (booked (Creation seal) false book) image
    created_fits image far either =
        one_fits book before old.now agrees reads seal.name (without_partner freed seal.name book) (λ n. n ≢ seal.name) (freed_others book old.now seal.name creates.creates.absent) (created_value false) (HasAt image)
        (image_from seal.name old.now image far spares.targets)
        (λ e is. subst (λ (e : Entry). Fits (HasAt image) seal.name e) (some_is _ e is)
        (created_tried (HasAt image) (λ here log has. of_image image seal.name (λ h l. (h ≡ None) ⊎ ReopensAs seal.key seal.sheet h l) either here log has)))

    created_own : (d : Bool) → StoodIf d seal.key seal.name seal.sheet old.now new.now → SeatsAfter (Creation seal) d before after → Own after new.now seal.name (sealed_entry seal.key seal.sheet.content None d)
    created_own true stood seats = own_done after new.now seal creates.path_is stood (λ seat has same. seated_by (Creation seal) true before after seats seal.name refl seat has same)
    created_own false stood seats =
        own_failed after new.now seal.name seal.key None (Some seal.sheet.content)
        (created_tried (LeftAt new.now)
        (of_images new.now spares.reads seal.name (λ h l. (h ≡ None) ⊎ ReopensAs seal.key seal.sheet h l) (λ image is. creates.creates.ran.leaves.each image (inl is))))
        (λ seat has same. seated_by (Creation seal) false before after seats seal.name refl seat has same)

    pub created_agrees : SeatsAfter (Creation seal) done before after → Agrees (booked (Creation seal) done book) after new.now
    created_agrees seats =
        one_agrees book before old.now agrees reads seal.name (without_partner freed seal.name book) (λ n. n ≢ seal.name) (freed_others book old.now seal.name creates.creates.absent) (created_value done) new.now after (λ n target apart. same_at old.now new.now seal.name n spares.others.ends target spares.targets apart) spares.targets
        (λ seat has. ⊎_elim (λ was. inl was) (λ is. inr (left_name done seat is)) (seats seat has))
        (λ e is. subst (λ (e : Entry). Own after new.now seal.name e) (some_is _ e is) (created_own done creates.creates.ran.ends seats))
      where
        left_name : (d : Bool) (seat : Seal) → IsLeft (Creation seal) d seat → seat.name ≡ seal.name
        left_name true seat is = ap (λ (s : Seal). s.name) is
        left_name false seat is = absurd is

  -- an opening, accepted or refused
  module _ (seal : Seal) (spares : SparesOthers (Opening seal) old new) (opens : KeepsOpened seal.name old new) where
    by_image : (image : Image) → IsImage old.now image → (here log : Option (List ℕ)) → HasAt image seal.name here log → LeftAt old.now seal.name here log
    by_image image is here log has = record {
      file = subst (λ (o : Option (List ℕ)). IsImageAt (old.now seal.name) o) (sym has.file) (is seal.name);
      recovery = subst (λ (o : Option (List ℕ)). IsImageAt (old.now (recovery_of seal.name)) o) (sym has.recovery) (is (recovery_of seal.name));
    }

    tried_fits : (image : Image) → LeavesOthers (IsApart (Opening seal)) old.now image → (old.now seal.name ≡ None → IsImage old.now image)
        → ((entry : Entry) → old.now seal.name ≢ None → book seal.name ≡ Some entry → ReopensEither (key_of entry) seal.name (openings.first_of entry) (openings.second_of entry) old.now image) → ImageFits book image
    tried_fits image far gone either =
        openings.opens_fits book before old.now agrees reads seal.name (HasAt image) (image_from seal.name old.now image (λ other apart. far other tt) spares.targets)
        (λ none here log has. by_image image (gone none) here log has)
        (λ entry there was here log has.
        of_image image seal.name (λ h l. Reopens (key_of entry) seal.name (openings.first_of entry) h l ⊎ Reopens (key_of entry) seal.name (openings.second_of entry) h l) (either entry there was) here log has)

    -- at every moment
    pub tried_leaves : LeavesOnly (ImageFits book) old new
    tried_leaves = by_there (old.now seal.name) refl
      where
        by_entry : old.now seal.name ≢ None → (o : Option Entry) → book seal.name ≡ o → LeavesOnly (ImageFits book) old new
        by_entry there None was =
            leaves_more spares.others.leaves
            (λ image far. tried_fits image far (λ none. absurd (there none)) (λ entry _ is. let e : None ≡ Some entry = sym was ∙ is in absurd (cc)))
        by_entry there (Some entry) was =
            leaves_both spares.others.leaves (opens.keeps (key_of entry) (openings.first_of entry) (openings.second_of entry) (openings.each_of book before old.now agrees reads seal.name entry there was))
            (λ image far either. tried_fits image far (λ none. absurd (there none))
            (λ entry2 _ is. subst (λ (e : Entry). ReopensEither (key_of e) seal.name (openings.first_of e) (openings.second_of e) old.now image) (some_is entry entry2 (sym was ∙ is)) either))

        by_there : (o : Option File) → old.now seal.name ≡ o → LeavesOnly (ImageFits book) old new
        by_there None none =
            leaves_both spares.others.leaves (opens.absent none).leaves
            (λ image far is. tried_fits image far (λ _. is) (λ entry there was. absurd (there none)))
        by_there (Some file) is = by_entry (λ none. let e : Some file ≡ None = sym is ∙ none in absurd (cc)) (book seal.name) refl

    now_fits : FitsBook (LeftAt new.now) book
    now_fits =
        openings.opens_fits book before old.now agrees reads seal.name (LeftAt new.now) (λ n target apart. left_same old.now new.now n (same_at old.now new.now seal.name n (λ other apart. spares.others.ends other tt) target spares.targets apart))
        (λ none here log l. subst (λ (d : Disk). LeftAt d seal.name here log) (opens.absent none).ends l)
        (λ entry there was.
        of_images new.now spares.reads seal.name (λ h l. Reopens (key_of entry) seal.name (openings.first_of entry) h l ⊎ Reopens (key_of entry) seal.name (openings.second_of entry) h l)
        (λ image is. (opens.keeps (key_of entry) (openings.first_of entry) (openings.second_of entry) (openings.each_of book before old.now agrees reads seal.name entry there was)).each image (inl is)))

    pub tried_agrees : ((seat : Seal) → Contains after seat → (Contains before seat × (seat.name ≢ seal.name)) ⊎ (book seat.name ≡ None)) → Agrees book after new.now
    tried_agrees seated =
        openings.same_agrees book before old.now agrees reads seal.name new.now after (λ other apart. spares.others.ends other tt) spares.targets (λ entry is ready. opens.ready ready) now_fits seated

    -- accepted, of a name of the book
    module _ (entry : Entry) (was : book seal.name ≡ Some entry) (there : old.now seal.name ≢ None) (is_opened : speaks seal.key entry ≡ true → OpensOn seal old new) where
      -- where the book goes on to speak of it, its file stands for the sheet
      pub opened_stood : speaks seal.key entry ≡ true → Stood seal.key seal.name seal.sheet new.now
      opened_stood says =
          let own = openings.speaks_key book before old.now agrees reads seal.name seal.key entry says in
          let either = openings.each_of book before old.now agrees reads seal.name entry there was in
          (is_opened says).stood (openings.first_of entry) (openings.second_of entry) (subst (λ (k : List ℕ). EachReopens k seal.name (openings.first_of entry) (openings.second_of entry) old.now) own either)
          (openings.speaks_ready book before old.now agrees reads seal.name seal.key entry was says)

      by_speaks : SeatsAfter (Opening seal) true before after → (b : Bool) → speaks seal.key entry ≡ b → Agrees (set_at seal.name (cond b (Some (Alone seal.key (Some seal.sheet.content) None true)) None) (without_partner dropped seal.name book)) after new.now
      by_speaks seats true says =
          one_agrees book before old.now agrees reads seal.name (without_partner dropped seal.name book) (λ n. n ≢ seal.name) (dropped_others book old.now seal.name) (Some (Alone seal.key (Some seal.sheet.content) None true))
          new.now after (λ n target apart. same_at old.now new.now seal.name n (λ other apart. spares.others.ends other tt) target spares.targets apart) spares.targets (λ seat has. ⊎_elim (λ was. inl was) (λ is. inr (ap (λ (s : Seal). s.name) is)) (seats seat has))
          (λ e is. subst (λ (e : Entry). Own after new.now seal.name e) (some_is _ e is)
          (own_done after new.now seal (is_opened says).path_is (opened_stood says) (λ seat has same. seated_by (Opening seal) true before after seats seal.name refl seat has same)))
      by_speaks seats false says =
          one_agrees book before old.now agrees reads seal.name (without_partner dropped seal.name book) (λ n. n ≢ seal.name) (dropped_others book old.now seal.name) None
          new.now after (λ n target apart. same_at old.now new.now seal.name n (λ other apart. spares.others.ends other tt) target spares.targets apart) spares.targets (λ seat has. ⊎_elim (λ was. inl was) (λ is. inr (ap (λ (s : Seal). s.name) is)) (seats seat has))
          (λ e is. absurd (cc))

      pub opened_agrees : SeatsAfter (Opening seal) true before after → Agrees (booked (Opening seal) true book) after new.now
      opened_agrees seats = subst (λ (b : Book). Agrees b after new.now) (sym (ap (λ (o : Option Entry). opened seal o book) was)) (by_speaks seats (speaks seal.key entry) refl)
