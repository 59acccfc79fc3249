-- The line `open`, from the contract of an opening.
use Rattle.std.proofs.Common.{◌≡◌, inl, inr, Bool, true, false, List, [], ◌∷◌, ◌++◌, ℕ, refl, sym, ◌∙◌, ap, subst, Option, Some, None, Result, Ok, Err, length}
use Rattle.std.proofs.lemmas.List.{append-nil, append_cancel_left}
use Rattle.std.proofs.lemmas.List.Elements.{Contains-push, Contains-append_left, Contains-append_right}
use Rattle.std.specs.List.{AllByRecursion}
use Rattle.std.specs.Prelude.{Contains, IfOk, IsSomeAnd}
use Rattle.std.specs.Str.{IsUtf8}
use Rattle.node_layout.specs.declared.damage.Damage.{Damage}
use Rattle.node_layout.specs.declared.damage.Kind.TheVariants as kinds
use Rattle.node_layout.specs.declared.metadata.MetaSecret.{MetaSecret}
use Rattle.node_tree.specs.Backing.{now}
use Rattle.node_tree.specs.Fetching.{CountsReads}
use Rattle.node_tree.specs.Sheet.{Sheet}
use Rattle.node_tree.specs.Unforged.{Unforged}
use Rattle.pf_io.specs.Answered.{IsAnswerOf}
use Rattle.pf_io.specs.Counts.{counted}
use Rattle.pf_io.specs.Disk.{Name, Disk, IsImage, reading}
use Rattle.pf_io.specs.Host.{Answer, LengthWas, HostState, Both as BothAre, IsMore, since, WhereTold, OnDisk, OnHonest}
use Rattle.pf_io.specs.Moments.{Honest}
use Rattle.pf_io.specs.Names.{IsTarget, recovery_of}
use Rattle.pf_io.specs.Unchanged.{KeepsDisk}
use Rattle.pf_io.specs.Words.{WordsState}
use Rattle.pf_io.specs.declared.faults.Memory.{Memory}
use Rattle.pf_io.proofs.Telling.{both_weaker}
use Rattle.pf_session.specs.Backing.{StandsOn}
use Rattle.pf_session.specs.Carries.{OnFirst, OpensOnFirst}
use Rattle.pf_session.specs.Keeping.{OpensEither}
use Rattle.pf_session.specs.Opening.{AreGood, Opens, by_answers, length_failed, read_failed, no_names, misnamed, absent, block_refused, secret_refused, accepted, IsOpenable, IsAccepted, BlockRefused, not_protected, node_short, update_pending, other_version, SecretRefused, not_opened, other_path, node_answers, opened_session}
use Rattle.pf_session.specs.Reopening.{ReopensAs, Stood}
use Rattle.pf_session.specs.State.{SessionState}
use Rattle.pf_session.specs.declared.open_fault.OpenFault.{OpenFault}
use Rattle.pf_session.proofs.Backed.{last_there, stands_on as backed_on}
use Rattle.pf_session.proofs.OpenStanding.{is_carried, given_is}
use Rattle.pf_script.specs.Book.{Book, Entry, Seal, Agrees}
use Rattle.pf_script.specs.BookActs.{Act, Opening, Among, speaks}
use Rattle.pf_script.specs.BookDebts.{Unchanged, seat_of}
use Rattle.pf_script.specs.BookSeats.{CoversNone, CoversMade, KeepsUnder}
use Rattle.pf_script.specs.BookTurns.{of_book, Knows, LineUnder, SeatUnder, MadeBy}
use Rattle.pf_script.specs.FileTurns.{stands_on, opening_answers, whole_file as whole_over, SeatFiles}
use Rattle.pf_script.specs.Desk.{IsSeated, Shows, whole_file, seat_on}
use Rattle.pf_script.specs.DeskSteps.{CountsFault, MaySeal, Unfolds, then_more, in_the_end, SomeSeatTurn, SeatTurns, SeatAsks, Concerns, CoversSome, to_open}
use Rattle.pf_script.specs.Rules.{IsFirst as IsFirstRule, NoneRefuses, opening_rules, rules}
use Rattle.pf_script.specs.Script.{Seat, Empty, Own, sheets_of}
use Rattle.pf_script.specs.SeatReplies.{open_reply}
use Rattle.pf_script.specs.Turns.{Seen, Standing, SeatTurn, Caused, refused, accepted as accepts, host_failed, was_damaged, opened, not_opened as fails_to_open, ByHost, ByDamage, BlamesOpening, short_zero, closed_zero, new_seat, on_carried}
use Rattle.pf_script.specs.declared.line.ScriptLine.{ScriptLine}
use Rattle.pf_script.specs.declared.line.ScriptLine.TheVariants as lines
use Rattle.pf_script.specs.declared.reply.Reply.{Reply}
use Rattle.pf_script.specs.declared.reply.Reply.TheVariants as replies
use Rattle.pf_script.specs.declared.reply.Why.{Why}
use Rattle.pf_script.specs.declared.reply.Why.TheVariants as whys
use Rattle.pf_script.proofs.ActKeeping.{one_spares, only_reads}
use Rattle.pf_script.proofs.CallKeeping.{at_both, both_with}
use Rattle.pf_script.proofs.CreateLine.{named_target}
use Rattle.pf_script.proofs.Dealing.{Deals}
use Rattle.pf_script.proofs.Flushed.{SeenOf, length_now}
use Rattle.pf_script.proofs.FlushUnder.{seen_in}
use Rattle.pf_script.proofs.Liking.{like_none}
use Rattle.pf_script.proofs.MadeActs.{one_is}
use Rattle.pf_script.proofs.OnEmpty.{made_seat, BothHalves, concerns, empty_wants, empty_under, empty_over, empty_idle, seat_first, seat_none}
use Rattle.pf_script.proofs.OpenKeeping.{WasOpened, was_opened, known_opening, opened_acts, open_keeps}
use Rattle.pf_script.proofs.OverGiven.{no_host_fault, on_reading, same_over}
use Rattle.pf_script.proofs.OpenRules.{none_given, node_given, none_unasked, none_measured, not_protected_first, unbuilt_first, version_first, path_first, none_refuses, none_closed, none_short}
use Rattle.pf_script.proofs.Refusing.{none_taken}
use Rattle.pf_script.proofs.SeatCalls.{seen_by, own_same, shows_same}
use Rattle.pf_script.proofs.Seats.{seats_after, seat_is_left}
use Rattle.pf_script.proofs.Showing.{shows_none}
use Rattle.pf_script.proofs.Sparing.{spares_kept}
use Rattle.pf_script.proofs.StepKeeping.{keeps_more}
use Rattle.pf_script.proofs.Under.{unknown_under}

-- what is told of the answers that came
told_these : (P Q : List Answer → Type 0) (these : List Answer) (old new : HostState) → BothAre old.given new.given (IsMore these) → WhereTold old new P → (P these → Q these) → WhereTold old new Q
told_these P Q these old new more told go = by_given old.given new.given more told
  where
    by_given : (o p : Option (List Answer)) → BothAre o p (IsMore these) → BothAre o p (λ before now. IsMore (since before now) before now × P (since before now)) → BothAre o p (λ before now. IsMore (since before now) before now × Q (since before now))
    by_given None None more told = tt
    by_given (Some before) (Some now) more told =
        let same : these ≡ since before now = append_cancel_left before these (since before now) (sym more ∙ told.0) in
        (told.0, subst Q same (go (subst P (sym same) told.1)))
    by_given None (Some now) more told = absurd more
    by_given (Some before) None more told = absurd more

-- the reply to an opening
abbrev pub open_result : Name → Result SessionState OpenFault → Result Reply Memory
open_result name (Ok session) = Ok (replies.Opened session.tree.size)
open_result name (Err fault) = open_reply name fault

module _ (key : List ℕ) (k : ℕ) (name : Name) (utf8 : IsUtf8 name) (before after : HostState) (words : WordsState) (only : KeepsDisk before after) (few : CountsReads 1 before after) where
  abbrev line : ScriptLine
  line = lines.Open k name

  abbrev Halves : Result Reply Memory → Option SessionState → Type 0
  Halves result new = BothHalves key line result new before after words words

  seen_of : (these : List Answer) (of_host : Bool) → BothAre before.given after.given (IsMore these) → CountsFault of_host before.faults after.faults → SeenOf these [] of_host false before after words words
  seen_of these of_host told counts = record { told = told; taken = none_taken words; on_host = counts; on_words = refl }

  -- these answers are those of the files of an honest host
  abbrev AreOfFiles : List Answer → Type 0
  AreOfFiles these = (a : Honest) → before.honest ≡ Some a → these ≡ opening_answers name (reading a.now name)

  node_of_files : (size : ℕ) (block : List ℕ) → OnHonest before (λ files. AllByRecursion (IsAnswerOf files) (node_answers name size block)) → AreOfFiles (node_answers name size block)
  node_of_files size block honest a is = let all = on_reading (λ files. AllByRecursion (IsAnswerOf files) (node_answers name size block)) before.honest a is honest in node_given name size block (reading a.now name) all.0 all.1.0

  none_of_files : OnHonest before (λ files. AllByRecursion (IsAnswerOf files) (LengthWas name None ∷ [])) → AreOfFiles (LengthWas name None ∷ [])
  none_of_files honest a is = none_given name (reading a.now name) (on_reading (λ files. AllByRecursion (IsAnswerOf files) (LengthWas name None ∷ [])) before.honest a is honest).0

  -- refused by a rule
  refuses_to_open : (these : List Answer) (why : Why) → BothAre before.given after.given (IsMore these) → after.faults ≡ before.faults → IsFirstRule (opening_rules key name these) why
      → ((a : Honest) → before.honest ≡ Some a → IsFirstRule (opening_rules key name (opening_answers name (reading a.now name))) why) → Halves (Ok (replies.Refused why)) None
  refuses_to_open these why told calm first by_files =
      empty_idle key line name refl before after words words (λ wordless. refl, few) (replies.Refused why) these [] false false only (seen_of these false told calm) refl refl
      (λ standing. refused why (seat_first (opening_rules key name these) why first) (record { host = refl; random = refl }) refl refl refl refl) (seat_first (opening_rules key name these) why first) (refl, refl)
      (λ a is none_failed. refused why (seat_first (opening_rules key name (opening_answers name (reading a.now name))) why (by_files a is)) (record { host = refl; random = refl }) refl refl refl refl)

  -- so where the answers are those of the files
  refuses_by : (these : List Answer) (why : Why) → BothAre before.given after.given (IsMore these) → after.faults ≡ before.faults → IsFirstRule (opening_rules key name these) why → AreOfFiles these → Halves (Ok (replies.Refused why)) None
  refuses_by these why told calm first of_files = refuses_to_open these why told calm first (λ a is. subst (λ (l : List Answer). IsFirstRule (opening_rules key name l) why) (of_files a is) first)

  -- a call failed
  host_fails : (these : List Answer) → BothAre before.given after.given (IsMore these) → after.faults ≡ counted before.faults → NoneRefuses (opening_rules key name these) → Halves (Ok replies.HostFault) None
  host_fails these told rose none =
      empty_idle key line name refl before after words words (λ wordless. refl, few) replies.HostFault these [] true false only (seen_of these true told rose) refl refl
      (λ standing. host_failed (seat_none (opening_rules key name these) none) (record { host = refl; random = refl }) (fails_to_open k name ByHost refl tt) refl) (seat_none (opening_rules key name these) none) refl (λ a is none_failed. absurd (no_host_fault none_failed))

  -- node 0 is damaged
  is_damaged : (these : List Answer) (damage : Damage) → BothAre before.given after.given (IsMore these) → after.faults ≡ before.faults → NoneRefuses (opening_rules key name these) → BlamesOpening key name these (ByDamage damage) → AreOfFiles these
      → Halves (Ok (replies.DamagedNode damage)) None
  is_damaged these damage told calm none blames of_files =
      let turn : (standing : Standing) → SeatTurn standing key false Empty line (seen_by these [] false false) (replies.DamagedNode damage) [] Empty = λ standing.
      was_damaged damage (seat_none (opening_rules key name these) none) (record { host = refl; random = refl }) (fails_to_open k name (ByDamage damage) refl blames) refl in
      empty_idle key line name refl before after words words (λ wordless. refl, few) (replies.DamagedNode damage) these [] false false only (seen_of these false told calm) refl refl turn (seat_none (opening_rules key name these) none, blames) refl
      (λ a is none_failed. same_over key (reading a.now) false Empty line these [] (replies.DamagedNode damage) [] Empty (of_files a is) (turn (stands_on key (reading a.now))))

  wants_memory : after ≡ before → Halves (Err (record {})) None
  wants_memory stays = record {
    goes = empty_wants key line name refl None before after words words
        (both_weaker Unchanged (KeepsUnder CoversNone CoversNone (λ n. n ≡ name)) before.honest after.honest only (λ a b only_ab. only_reads CoversNone a b (λ n. n ≡ name) only_ab)) (spares_kept (Concerns false line None) before after only) tt (λ n none. absurd none) (λ wordless. refl, few) (λ takes. takes) refl stays refl;
    booked = tt;
  }

  block_case : (size : ℕ) (block : List ℕ) (fault : OpenFault) → IsTarget name → BothAre before.given after.given (IsMore (node_answers name size block)) → after.faults ≡ before.faults → AreOfFiles (node_answers name size block) → BlockRefused block fault
      → Halves (open_reply name fault) None
  block_case size block fault target told calm of_files (not_protected few other said) =
      subst (λ (f : OpenFault). Halves (open_reply name f) None) (sym said) (refuses_by (node_answers name size block) whys.NotProtected told calm (not_protected_first key name target size block other) of_files)
  block_case size block fault target told calm of_files (node_short is short said) =
      subst (λ (f : OpenFault). Halves (open_reply name f) None) (sym said)
      (is_damaged (node_answers name size block) (record { node = 0; kind = kinds.Short }) told calm (none_short key name target size block is short) (short_zero block (last_there name size block) short refl) of_files)
  block_case size block fault target told calm of_files (update_pending is whole flag said) =
      subst (λ (f : OpenFault). Halves (open_reply name f) None) (sym said) (refuses_by (node_answers name size block) whys.Unbuilt told calm (unbuilt_first key name target size block is whole flag) of_files)
  block_case size block fault target told calm of_files (other_version major minor whole flag other said) =
      subst (λ (f : OpenFault). Halves (open_reply name f) None) (sym said)
      (refuses_by (node_answers name size block) (whys.BadVersion major minor) told calm (version_first key name target size block major minor whole flag other) of_files)

  secret_case : (size : ℕ) (block : List ℕ) (fault : OpenFault) → IsTarget name → BothAre before.given after.given (IsMore (node_answers name size block)) → after.faults ≡ before.faults → AreOfFiles (node_answers name size block) → IsOpenable block
      → SecretRefused key (Some name) block fault
      → Halves (open_reply name fault) None
  secret_case size block fault target told calm of_files openable (not_opened kind why said) =
      subst (λ (f : OpenFault). Halves (open_reply name f) None) (sym said)
      (is_damaged (node_answers name size block) (record { node = 0; kind = kind }) told calm (none_closed key name target size block openable kind why) (closed_zero block kind (last_there name size block) openable.whole why refl) of_files)
  secret_case size block fault target told calm of_files openable (other_path secret given opens is_given other said) =
      subst (λ (f : OpenFault). Halves (open_reply name f) None) (sym said)
      (refuses_by (node_answers name size block) (whys.WrongPath secret.path) told calm (path_first key name target size block openable secret opens (λ same. other (sym (same_name name given is_given) ∙ same))) of_files)
    where
      same_name : (n m : Name) → Some n ≡ Some m → n ≡ m
      same_name n m same = cc

  -- it is accepted
  module _ (size : ℕ) (block : List ℕ) (secret : MetaSecret) (target : IsTarget name) (openable : IsOpenable block) (is : IsAccepted key (Some name) block secret) (told : BothAre before.given after.given (IsMore (node_answers name size block)))
      (calm : after.faults ≡ before.faults) (honest : OnHonest before (λ files. AllByRecursion (IsAnswerOf files) (node_answers name size block))) (key_length : length key ≡ 16) where
    abbrev session : SessionState
    session = opened_session key name block secret

    abbrev came : List Answer
    came = node_answers name size block

    abbrev seen : Seen
    seen = seen_by came [] false false

    of_files : AreOfFiles came
    of_files = node_of_files size block honest

    seated : IsSeated key session
    seated = record { of_script = record { is_target = target; path_is = sym is.path_is; named = refl }; key_is = refl; clean = λ whole calm. refl }

    same_seat : (sheet : Sheet) → StandsOn sheet session → new_seat key name sheet ≡ seat_on sheet session
    same_seat sheet on = own_same sheet key key name name sheet.content (now sheet session.tree) [] [] false false None None false false refl refl (sym on.now_is) refl refl refl refl

    abbrev act : Sheet → Act
    act sheet = record { deed = Opening (seat_of key name sheet); done = true }

    none_here : NoneRefuses (rules key false Empty line came)
    none_here = seat_none (opening_rules key name came) (none_refuses key name target size block openable secret is.opened is.path_is)

    turn : (standing : Standing) (sheet : Sheet) → StandsOn sheet session → standing name came sheet → SeatTurn standing key false Empty line seen (replies.Opened session.tree.size) (record { deed = Opening (seat_of key name sheet); done = true } ∷ []) (Own (new_seat key name sheet))
    turn standing sheet on stands =
        subst (λ n. SeatTurn standing key false Empty line seen (replies.Opened n) (record { deed = Opening (seat_of key name sheet); done = true } ∷ []) (Own (new_seat key name sheet))) (sym (ap (λ (c : List ℕ). length c) on.now_is) ∙ length_now sheet session.tree)
        (accepts none_here (record { host = refl; random = refl })
        (opened k name sheet stands (sym on.backed.path_is ∙ sym is.path_is) refl))

    turns : ((sheets : List Sheet) → Unforged key sheets came → OnFirst sheets session came) → SeatTurns key false line seen (replies.Opened session.tree.size) None (Some session) came
    turns first sealed seat shows =
        subst (λ (x : Seat). Unfolds key sealed (MaySeal (SomeSeatTurn key sealed false x line) seen) (λ acts. (left : Seat) × SeatTurn (on_carried key sealed) key false x line seen (replies.Opened session.tree.size) acts left × Shows (sealed ++ sheets_of acts) left (Some session)) came []) (sym (shows_none sealed seat shows))
        (then_more [] [] came [] (sym (append-nil came)) (inl refl) (λ unforged. on_first (subst (λ (l : List Sheet). Unforged key l came) (append-nil sealed) unforged)))
      where
        on_first : Unforged key sealed came → Unfolds key sealed (MaySeal (SomeSeatTurn key sealed false Empty line) seen) (λ acts. (left : Seat) × SeatTurn (on_carried key sealed) key false Empty line seen (replies.Opened session.tree.size) acts left × Shows (sealed ++ sheets_of acts) left (Some session)) came []
        on_first unforged =
            let on = first sealed unforged in
            let among : Contains sealed on.sheet = subst (λ (l : List Sheet). Contains l on.sheet) (sym on.first.split)
            (Contains-append_right on.first.before (on.sheet ∷ on.first.after) on.sheet (Contains-append_left (on.sheet ∷ []) on.first.after on.sheet (Contains-push [] on.sheet))) in
            let acts = record { deed = Opening (seat_of key name on.sheet); done = true } ∷ [] in
            then_more [] acts [] came refl (inl refl)
            (λ _. in_the_end acts
            (λ _. (
              Own (new_seat key name on.sheet),
              turn (on_carried key sealed) on.sheet on.on (on.block, on.last, on.first),
              shows_same sealed (Own (new_seat key name on.sheet)) (Some session) (whole_file on.sheet session refl among (unforged.linked on.sheet among) (record { backed = on.on.backed; rests = λ calm. record { stands = on.on; clean = refl } }) (ap Own (same_seat on.sheet on.on)) refl),
            )))

    -- under a book
    under : (goes : Opens key name (Some name) before after (Ok session)) → OnDisk before after (OpensEither session) → OnDisk before after (SeatUnder key false line seen (replies.Opened session.tree.size) None (Some session))
    under goes either =
        both_with Unchanged (SeatUnder key false line seen (replies.Opened session.tree.size) None (Some session)) before.honest after.honest only
        (λ a b is_a is_b only_ab.
        empty_under key line name refl seen (replies.Opened session.tree.size) (Some session) a b (by_book a b is_a is_b only_ab))
      where
        was_one : WasOpened key name session
        was_one = was_opened key name before after session goes

        by_book : (a b : Honest) → before.honest ≡ Some a → after.honest ≡ Some b → Unchanged a b → (book : Book) (seats : List Seal) → Agrees book seats a.now → IsImage a.now (reading a.now)
            → LineUnder key false line seen (replies.Opened session.tree.size) None (Some session) book seats Empty a b
        by_book a b is_a is_b only_ab book seats agrees reads = by_entry (book name) refl
          where
            deals : Deals false line None (Some session) book seats Empty a b
            deals =
                let opened = opened_acts key name session was_one a b (at_both (OpensEither session) before.honest after.honest a b is_a is_b either) only_ab book seats agrees reads in record {
                  acts = opened.0.0;
                  left = opened.0.1;
                  did = opened.0.2;
                  covers = opened.0.3;
                  spares = opened.0.4;
                  concerned = λ n among. concerns key line name refl n (opened.0.5 n among);
                  made = opened.1;
                }

            unknown : ¬ (Knows book key Empty line (replies.Opened session.tree.size)) → LineUnder key false line seen (replies.Opened session.tree.size) None (Some session) book seats Empty a b
            unknown none = unknown_under key false line seen (replies.Opened session.tree.size) tt None (Some session) a b book seats Empty deals none

            only_it : (sheet : Sheet) (n : Name) → Among (record { deed = Opening (seat_of key name sheet); done = true } ∷ []) n → Concerns false line None n
            only_it sheet n (inl same) = concerns key line name refl n same
            only_it sheet n (inr none) = absurd none

            turn_now : (sheet : Sheet) → StandsOn sheet session → Stood key name sheet b.now → SeatTurn (stands_on key (reading a.now)) key false Empty line seen (replies.Opened session.tree.size) (act sheet ∷ []) (Own (new_seat key name sheet))
            turn_now sheet on stood = turn (stands_on key (reading a.now)) sheet on (subst (λ (d : Disk). ReopensAs key sheet (reading d name) (reading d (recovery_of name))) only_ab.ends stood.as_sheet)

            by_speaks : (entry : Entry) → book name ≡ Some entry → (s : Bool) → speaks key entry ≡ s → LineUnder key false line seen (replies.Opened session.tree.size) None (Some session) book seats Empty a b
            by_speaks entry was false says =
                unknown (λ knows. let e : true ≡ false = sym (subst (λ (o : Option Entry). IsSomeAnd o (λ e. speaks key e ≡ true)) was knows) ∙ says in absurd (cc))
            by_speaks entry was true says =
                let known = known_opening key name session was_one a b (at_both (OpensEither session) before.honest after.honest a b is_a is_b either) only_ab book seats agrees reads entry was says in
                let sheet = known.on.sheet in record {
                  acts = record { deed = Opening (seat_of key name sheet); done = true } ∷ [];
                  left = seats_after (Opening (seat_of key name sheet)) true seats;
                  after = Own (new_seat key name sheet);
                  did = known.did;
                  shows = of_book sheet session refl (seat_is_left (Opening (seat_of key name sheet)) seats) (record { backed = known.on.on.backed; rests = λ _. record { stands = known.on.on; clean = refl } }) (ap Own (same_seat sheet known.on.on)) refl;
                  spares = one_spares seats (Opening (seat_of key name sheet)) true;
                  concerned = only_it sheet;
                  made = one_is (MadeBy line Empty) (act sheet) refl;
                  idle = tt;
                  turn = λ _. turn_now sheet known.on.on known.stood;
                }

            by_entry : (o : Option Entry) → book name ≡ o → LineUnder key false line seen (replies.Opened session.tree.size) None (Some session) book seats Empty a b
            by_entry None was = unknown (λ knows. absurd (subst (λ (o : Option Entry). IsSomeAnd o (λ e. speaks key e ≡ true)) was knows))
            by_entry (Some entry) was = by_speaks entry was (speaks key entry) refl

    -- over files: the session stands on each sheet that the file stands for
    on_file : (a : Honest) → before.honest ≡ Some a → (sheet : Sheet) → ReopensAs key sheet (reading a.now name) (reading a.now (recovery_of name)) → StandsOn sheet session
    on_file a is_a sheet reopens =
        backed_on key name block secret is.opened sheet reopens.stands.linked
        (is_carried key key_length reopens.file sheet reopens.stands block
        (given_is (reading a.now) name reopens.file size block reopens.whole (on_reading (λ files. AllByRecursion (IsAnswerOf files) came) before.honest a is_a honest)))

    over : OnDisk before after (SeatFiles key false line seen (replies.Opened session.tree.size) None (Some session))
    over =
        both_with Unchanged (SeatFiles key false line seen (replies.Opened session.tree.size) None (Some session)) before.honest after.honest only
        (λ a b is_a is_b only_ab.
        empty_over key line name refl seen (replies.Opened session.tree.size) (Some session) a b
        (λ none_failed reopens.
        let sheet = reopens.0 in
        let on : StandsOn sheet session = on_file a is_a sheet reopens.1 in
        let still : ReopensAs key sheet (reading b.now name) (reading b.now (recovery_of name)) = subst (λ (d : Disk). ReopensAs key sheet (reading d name) (reading d (recovery_of name))) (sym only_ab.ends) reopens.1 in record {
          acts = act sheet ∷ [];
          after = Own (new_seat key name sheet);
          over = record {
            turn = same_over key (reading a.now) false Empty line came [] (replies.Opened session.tree.size) (act sheet ∷ []) (Own (new_seat key name sheet)) (of_files a is_a) (turn (stands_on key (reading a.now)) sheet on reopens.1);
            files = (refl, (reading b.now, record { stands = still; away = tt; others = λ other apart. ap (λ (d : Disk). reading d other) only_ab.ends }, λ n. refl));
          };
          shows = whole_over sheet session refl (sym on.backed.path_is ∙ sym is.path_is) still (record { backed = on.backed; rests = λ _. record { stands = on; clean = refl } }) (ap Own (same_seat sheet on)) refl;
        }))

    is_accepted : Opens key name (Some name) before after (Ok session) → OpensOnFirst session before after → OnDisk before after (OpensEither session) → Halves (Ok (replies.Opened session.tree.size)) (Some session)
    is_accepted goes first either = record {
      goes = record {
        asks = told_these (λ came. (sheets : List Sheet) → Unforged key sheets came → OnFirst sheets session came) (λ given. SeatAsks key false line (replies.Opened session.tree.size) None (Some session) given before after words words) came before after told first
            (λ on. record { seen = seen; was_seen = record { answers = refl; words = none_taken words; of_host = calm; of_words = refl }; turns = turns on });
        caused = record { given = came; told = told; caused = λ seat like. subst (λ (x : Seat). Caused key false x line came (replies.Opened session.tree.size)) (sym (like_none seat like)) none_here };
        leaves = to_open k name session refl refl refl refl;
        books = both_weaker (KeepsUnder CoversNone (CoversMade {E = OpenFault} (Ok session)) (λ n. n ≡ name)) (KeepsUnder CoversNone (CoversSome (Some session)) (Concerns false line None)) before.honest after.honest
            (open_keeps key name before after (Ok session) goes either only)
            (λ a b keeps. keeps_more CoversNone (CoversSome (Some session)) (λ n. n ≡ name) (Concerns false line None) a b (concerns key line name refl) keeps);
        counts = (calm, refl);
        wordless = λ wordless. refl;
        few = few;
        wants = tt;
        seated = seated;
        named = λ n has. concerns key line name refl n has;
        spares = spares_kept (Concerns false line None) before after only;
      };
      booked = record { seen = seen; was_seen = seen_in came [] false false before after words words (seen_of came false told calm); wordless = λ change. absurd change; under = under goes either; over = over };
    }

  bad_name : {given : List Answer} → ¬ (AreGood name (Some name)) → IsFirstRule (opening_rules key name given) whys.BadName
  bad_name bad = inl (refl, λ target. bad (record { target = target; stored = (named_target name utf8 target).path_is }))

  by_case : (key_length : length key ≡ 16) (result : Result SessionState OpenFault) → IfOk result (λ session. OpensOnFirst session before after) → IfOk result (λ session. OnDisk before after (OpensEither session)) → Opens key name (Some name) before after result → Halves (open_result name result) (made_seat result)
  by_case key_length result first either (by_answers these asked (misnamed bad are said)) =
      subst (λ (r : Result SessionState OpenFault). Halves (open_result name r) (made_seat r)) (sym said)
      (refuses_to_open [] whys.BadName (subst (λ (l : List Answer). BothAre before.given after.given (IsMore l)) are asked.asked.told) asked.asked.faults (bad_name bad) (λ a is. bad_name bad))
  by_case key_length result first either (by_answers these asked (absent good are said)) =
      subst (λ (r : Result SessionState OpenFault). Halves (open_result name r) (made_seat r)) (sym said)
      (refuses_by (LengthWas name None ∷ []) (whys.NotFound name) (subst (λ (l : List Answer). BothAre before.given after.given (IsMore l)) are asked.asked.told) asked.asked.faults
      (inr ((λ why refuses. refuses.1 good.target), inl (refl, Contains-push [] (LengthWas name None))))
      (none_of_files (subst (λ (l : List Answer). OnHonest before (λ files. AllByRecursion (IsAnswerOf files) l)) are asked.answered.honest)))
  by_case key_length result first either (by_answers these asked (block_refused size block fault good are why said)) =
      subst (λ (r : Result SessionState OpenFault). Halves (open_result name r) (made_seat r)) (sym said)
      (block_case size block fault good.target (subst (λ (l : List Answer). BothAre before.given after.given (IsMore l)) are asked.asked.told) asked.asked.faults
      (node_of_files size block (subst (λ (l : List Answer). OnHonest before (λ files. AllByRecursion (IsAnswerOf files) l)) are asked.answered.honest)) why)
  by_case key_length result first either (by_answers these asked (secret_refused size block fault good are openable why said)) =
      subst (λ (r : Result SessionState OpenFault). Halves (open_result name r) (made_seat r)) (sym said)
      (secret_case size block fault good.target (subst (λ (l : List Answer). BothAre before.given after.given (IsMore l)) are asked.asked.told) asked.asked.faults
      (node_of_files size block (subst (λ (l : List Answer). OnHonest before (λ files. AllByRecursion (IsAnswerOf files) l)) are asked.answered.honest)) openable why)
  by_case key_length result first either (by_answers these asked (accepted size block secret good are openable is said)) =
      subst (λ (r : Result SessionState OpenFault). Halves (open_result name r) (made_seat r)) (sym said)
      (is_accepted size block secret good.target openable is (subst (λ (l : List Answer). BothAre before.given after.given (IsMore l)) are asked.asked.told) asked.asked.faults
      (subst (λ (l : List Answer). OnHonest before (λ files. AllByRecursion (IsAnswerOf files) l)) are asked.answered.honest) key_length (by_answers these asked (accepted size block secret good are openable is refl))
      (subst (λ (r : Result SessionState OpenFault). IfOk r (λ session. OpensOnFirst session before after)) said first) (subst (λ (r : Result SessionState OpenFault). IfOk r (λ session. OnDisk before after (OpensEither session))) said either))
  by_case key_length result first either (length_failed good asked said) = subst (λ (r : Result SessionState OpenFault). Halves (open_result name r) (made_seat r)) (sym said) (host_fails [] asked.asked.told asked.asked.faults (none_unasked key name good.target))
  by_case key_length result first either (read_failed size good asked said) = subst (λ (r : Result SessionState OpenFault). Halves (open_result name r) (made_seat r)) (sym said) (host_fails (LengthWas name (Some size) ∷ []) asked.asked.told asked.asked.faults (none_measured key name size good.target))
  by_case key_length result first either (no_names good stays said) =
      subst (λ (r : Result SessionState OpenFault). Halves (open_result name r) (made_seat r)) (sym said)
      (wants_memory stays)

pub open_line : (key : List ℕ) (k : ℕ) (name : Name) (result : Result SessionState OpenFault) (before after : HostState) (words : WordsState) → IsUtf8 name → length key ≡ 16 → Opens key name (Some name) before after result → KeepsDisk before after → CountsReads 1 before after
    → IfOk result (λ session. OpensOnFirst session before after) → IfOk result (λ session. OnDisk before after (OpensEither session)) → BothHalves key (lines.Open k name) (open_result name result) (made_seat result) before after words words
open_line key k name result before after words utf8 key_length goes only few first either = by_case key k name utf8 before after words only few key_length result first either goes
