-- What an opening keeps of a book, from its contract.
use Rattle.std.proofs.Common.{◌≡◌, ◌≢◌, inl, inr, Bool, true, false, List, [], ◌∷◌, ℕ, refl, sym, ◌∙◌, ap, subst, Option, Some, None, Result, Ok, Err}
use Rattle.std.specs.Prelude.{Contains, IfOk, cond}
use Rattle.pf_io.specs.Disk.{Name, Disk, IsImage, reading}
use Rattle.pf_io.specs.Names.{IsTarget, recovery_of}
use Rattle.pf_io.specs.Moments.{Honest}
use Rattle.pf_io.specs.Host.{HostState, OnDisk}
use Rattle.pf_io.specs.Unchanged.{KeepsDisk}
use Rattle.pf_io.specs.Replay.{set_at}
use Rattle.node_tree.specs.Sheet.{Sheet}
use Rattle.pf_session.specs.Keeping.{EachEither, StandsOnEither, OpensEither}
use Rattle.pf_session.specs.Opening.{Opens, by_answers, length_failed, read_failed, no_names, misnamed, absent, block_refused, secret_refused, accepted, opened_session}
use Rattle.pf_session.specs.Reopening.{EachReopens, Stood}
use Rattle.pf_session.specs.State.{SessionState}
use Rattle.pf_session.specs.declared.open_fault.OpenFault.{OpenFault}
use Rattle.pf_session.specs.Restored.{Ready}
use Rattle.pf_script.specs.Book.{Book, Entry, Seal, Alone, Agrees}
use Rattle.pf_script.specs.BookActs.{Opening, Among, Act, opened, booked, speaks, without_partner, dropped}
use Rattle.pf_script.specs.BookDebts.{Unchanged, SparesOthers, KeepsOpened, OpensOn, Owes, DidAll, seat_of}
use Rattle.pf_script.specs.BookSeats.{Covers, CoversNone, CoversMade, Kept, KeepsUnder}
use Rattle.pf_script.specs.BookTurns.{IsOpeningOf}
use Rattle.pf_script.proofs.During.{leaves_more}
use Rattle.pf_script.proofs.NameMaps.{set_at-same}
use Rattle.pf_script.proofs.MadeActs.{EachIs, none_is, one_is}
use Rattle.pf_script.proofs.Opened as openings
use Rattle.pf_script.proofs.Seats.{seats_after, seat_is_left}
use Rattle.pf_script.proofs.ActKeeping.{no_sheet, one_act, one_spares, lets_go}
use Rattle.pf_script.proofs.CallKeeping.{both_with, at_both}

-- what each image has at a name, of an image that may be left there
each_either : (key : List ℕ) (name : Name) (v w : List ℕ) (disk : Disk) → EachReopens key name v w disk → EachEither key name v w disk
each_either key name v w disk each image is = each (image name) (image (recovery_of name)) (record { file = is name; recovery = is (recovery_of name) })

-- an opening that only read
opening_keeps : (name : Name) (a b : Honest) → Unchanged a b → KeepsOpened name a b
opening_keeps name a b only = record {
  absent = λ none. only;
  keeps = λ key v w each. leaves_more only.leaves (λ image is. each (image name) (image (recovery_of name)) (record { file = is name; recovery = is (recovery_of name) }));
  ready = λ ready. subst (λ (d : Disk). Ready d name) (sym only.ends) ready;
}

opening_spares : (seal : Seal) (a b : Honest) → IsTarget seal.name → IsImage a.now (reading a.now) → Unchanged a b → SparesOthers (Opening seal) a b
opening_spares seal a b target reads only = record {
  targets = target;
  others = record { leaves = leaves_more only.leaves (λ image is other apart. is other); ends = λ other apart. ap (λ (d : Disk). d other) only.ends };
  reads = subst (λ (d : Disk). IsImage d (reading d)) (sym only.ends) reads;
}

-- of an opening that was accepted
pub record WasOpened (key : List ℕ) (name : Name) (session : SessionState) : Type 0 where
  pub target : IsTarget name
  pub key_is : session.key ≡ key
  pub name_is : session.name ≡ name
  pub clean : session.tree.dirty ≡ []
  pub path_is : session.path ≡ name
  pub named : session.beside ≡ false

session_is : (s t : SessionState) → ◌≡◌ {A = Result SessionState OpenFault} (Ok s) (Ok t) → s ≡ t
session_is s t same = cc

pub was_opened : (key : List ℕ) (name : Name) (before after : HostState) (session : SessionState) → Opens key name (Some name) before after (Ok session) → WasOpened key name session
was_opened key name before after session (by_answers these asked (misnamed bad are said)) = absurd (cc)
was_opened key name before after session (by_answers these asked (absent good are said)) = absurd (cc)
was_opened key name before after session (by_answers these asked (block_refused size block fault good are why said)) = absurd (cc)
was_opened key name before after session (by_answers these asked (secret_refused size block fault good are openable why said)) = absurd (cc)
was_opened key name before after session (by_answers these asked (accepted size block secret good are openable is said)) =
    let same = session_is session (opened_session key name block secret) said in
    record { target = good.target; key_is = ap (λ (s : SessionState). s.key) same; name_is = ap (λ (s : SessionState). s.name) same; clean = ap (λ (s : SessionState). s.tree.dirty) same; path_is = ap (λ (s : SessionState). s.path) same ∙ sym is.path_is; named = ap (λ (s : SessionState). s.beside) same }
was_opened key name before after session (length_failed good asked said) = absurd (cc)
was_opened key name before after session (read_failed size good asked said) = absurd (cc)
was_opened key name before after session (no_names good stays said) = absurd (cc)

module _ (key : List ℕ) (name : Name) (session : SessionState) (was_one : WasOpened key name session) (a b : Honest) (either : OpensEither session a b) (only : Unchanged a b) where
  there_now : a.now name ≢ None
  there_now = subst (λ (n : Name). a.now n ≢ None) was_one.name_is either.there

  -- the sheet on which the session stands, where the name reopens under the key and may be opened
  stands : (v w : List ℕ) → EachReopens key name v w a.now → Ready a.now name → StandsOnEither v w session b.now
  stands v w each ready =
      either.stands v w
      (subst (λ (k : List ℕ). EachEither k session.name v w a.now) (sym was_one.key_is) (subst (λ (n : Name). EachEither key n v w a.now) (sym was_one.name_is) (each_either key name v w a.now each)))
      (subst (λ (n : Name). Ready a.now n) (sym was_one.name_is) ready)

  -- an opening of a name of which the book goes on to speak
  pub record KnownOpening (book : Book) (seats : List Seal) : Type 0 where
    pub v : List ℕ
    pub w : List ℕ
    pub on : StandsOnEither v w session b.now
    pub stood : Stood key name on.sheet b.now
    pub did : DidAll book seats (record { deed = Opening (seat_of key name on.sheet); done = true } ∷ []) (seats_after (Opening (seat_of key name on.sheet)) true seats) a b

  pub known_opening : (book : Book) (seats : List Seal) → Agrees book seats a.now → IsImage a.now (reading a.now) → (entry : Entry) → book name ≡ Some entry → speaks key entry ≡ true → KnownOpening book seats
  known_opening book seats agrees reads entry was says =
      let own = openings.speaks_key book seats a.now agrees reads name key entry says in
      let each = subst (λ (k : List ℕ). EachReopens k name (openings.first_of entry) (openings.second_of entry) a.now) own (openings.each_of book seats a.now agrees reads name entry there_now was) in
      let has = stands (openings.first_of entry) (openings.second_of entry) each (openings.speaks_ready book seats a.now agrees reads name key entry was says) in
      let stood = subst (λ (k : List ℕ). Stood k name has.sheet b.now) was_one.key_is (subst (λ (n : Name). Stood session.key n has.sheet b.now) was_one.name_is has.stood) in
      let seal = seat_of key name has.sheet in
      let on : OpensOn seal a b = record { path_is = has.path_is ∙ was_one.name_is; stood = λ v w _ ready. stood } in
      record {
        v = openings.first_of entry;
        w = openings.second_of entry;
        on = has;
        stood = stood;
        did = one_act book seats (Opening seal) true a b (opening_spares seal a b was_one.target reads only) (subst (λ (o : Option Entry). Owes seats (Opening seal) true o a b) (sym was) (opening_keeps name a b only, there_now, λ yes_it_does. on));
      }

  -- what is kept, by openings of the name
  abbrev pub KeptOpened : Book → List Seal → Type 0
  KeptOpened book seats = (kept : Kept (Covers session) (λ n. n ≡ name) book seats a b) × EachIs (IsOpeningOf name) kept.0

  pub opened_acts : (book : Book) (seats : List Seal) → Agrees book seats a.now → IsImage a.now (reading a.now) → KeptOpened book seats
  opened_acts book seats agrees reads = by_entry (book name) refl
    where
      acts_of : Sheet → List Act
      acts_of sheet = record { deed = Opening (seat_of key name sheet); done = true } ∷ []

      only_it : (sheet : Sheet) (n : Name) → Among (acts_of sheet) n → n ≡ name
      only_it sheet n (inl same) = same
      only_it sheet n (inr no_one) = absurd no_one

      -- a name that was opened under another key, or of which a call had failed
      gone : (entry : Entry) → book name ≡ Some entry → speaks key entry ≡ false → (entry2 : Entry) → booked (Opening (seat_of key name no_sheet)) true book name ≡ Some entry2 → ⊥
      gone entry was says entry2 is_entry =
          let rest = without_partner dropped name book in
          let e : set_at name (cond (speaks key entry) (Some (Alone key (Some []) None true)) None) rest name ≡ Some entry2 = sym (ap (λ (o : Option Entry). opened (seat_of key name no_sheet) o book name) was) ∙ is_entry in
          let e2 : None ≡ Some entry2 = sym (ap (λ c. cond c (Some (Alone key (Some []) None true)) None) says) ∙ sym (set_at-same name (cond (speaks key entry) (Some (Alone key (Some []) None true)) None) rest) ∙ e in
          absurd (cc)

      by_speaks : (entry : Entry) → book name ≡ Some entry → (s : Bool) → speaks key entry ≡ s → KeptOpened book seats
      by_speaks entry was true says =
          let known = known_opening book seats agrees reads entry was says in
          let seal = seat_of key name known.on.sheet in (
            (
              acts_of known.on.sheet,
              seats_after (Opening seal) true seats,
              known.did,
              λ entry2 whole is_entry. (
                known.on.sheet,
                subst (λ (k : List ℕ). Contains (seats_after (Opening seal) true seats) (seat_of k session.name known.on.sheet)) (sym was_one.key_is)
                    (subst (λ (n : Name). Contains (seats_after (Opening seal) true seats) (seat_of key n known.on.sheet)) (sym was_one.name_is) (seat_is_left (Opening seal) seats)),
                record { backed = known.on.on.backed; rests = λ _. record { stands = known.on.on; clean = was_one.clean } },
              ),
              one_spares seats (Opening seal) true,
              only_it known.on.sheet,
            ),
            one_is (IsOpeningOf name) (record { deed = Opening seal; done = true }) refl,
          )
      by_speaks entry was false says =
          let seal = seat_of key name no_sheet in (
            (
              acts_of no_sheet,
              seats_after (Opening seal) true seats,
              one_act book seats (Opening seal) true a b (opening_spares seal a b was_one.target reads only)
                  (subst (λ (o : Option Entry). Owes seats (Opening seal) true o a b) (sym was) (opening_keeps name a b only, there_now, λ does. let e : true ≡ false = sym does ∙ says in absurd (cc))),
              λ entry2 whole is_entry. absurd (gone entry was says entry2 (subst (λ (n : Name). booked (Opening seal) true book n ≡ Some entry2) was_one.name_is is_entry)),
              one_spares seats (Opening seal) true,
              only_it no_sheet,
            ),
            one_is (IsOpeningOf name) (record { deed = Opening seal; done = true }) refl,
          )

      by_entry : (o : Option Entry) → book name ≡ o → KeptOpened book seats
      by_entry None was =
          (([], seats, (only, λ seat has. has), λ entry whole is_entry. let e : None ≡ Some entry = sym was ∙ sym (ap book was_one.name_is) ∙ is_entry in absurd (cc), λ seat has apart. has, λ n no_one. absurd no_one), none_is (IsOpeningOf name))
      by_entry (Some entry) was = by_speaks entry was (speaks key entry) refl

  opened_keeps : KeepsUnder CoversNone (Covers session) (λ n. n ≡ name) a b
  opened_keeps book seats agrees reads none = (opened_acts book seats agrees reads).0

pub open_keeps : (key : List ℕ) (name : Name) (before after : HostState) (result : Result SessionState OpenFault) → Opens key name (Some name) before after result → IfOk result (λ session. OnDisk before after (OpensEither session))
    → KeepsDisk before after → OnDisk before after (KeepsUnder CoversNone (CoversMade result) (λ n. n ≡ name))
open_keeps key name before after (Ok session) goes either keeps =
    both_with Unchanged (KeepsUnder CoversNone (Covers session) (λ n. n ≡ name)) before.honest after.honest keeps
    (λ a b is is2 only. opened_keeps key name session (was_opened key name before after session goes) a b (at_both (OpensEither session) before.honest after.honest a b is is2 either) only)
open_keeps key name before after (Err fault) goes either keeps =
    both_with Unchanged (KeepsUnder CoversNone CoversNone (λ n. n ≡ name)) before.honest after.honest keeps (λ a b is is2 only. lets_go CoversNone a b (λ n. n ≡ name) only)
