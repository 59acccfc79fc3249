-- The line `create`, from the contract of a creation.
use Rattle.std.proofs.Common.{◌≡◌, inl, inr, Bool, true, false, List, [], ◌∷◌, ℕ, refl, sym, ◌∙◌, ap, subst, Option, Some, None, Result, Ok, Err, arith}
use Rattle.std.proofs.lemmas.List.{append-nil}
use Rattle.std.proofs.lemmas.List.Elements.{Contains-push, Contains-append_left}
use Rattle.std.specs.List.{AllByRecursion}
use Rattle.std.specs.Prelude.{Contains}
use Rattle.std.specs.Str.{IsUtf8}
use Rattle.node_tree.specs.Backing.{now}
use Rattle.node_tree.specs.Sheet.{Sheet, IsLinked}
use Rattle.pf_io.specs.Counts.{counted}
use Rattle.pf_io.specs.Answered.{IsAnswerOf}
use Rattle.pf_io.specs.Disk.{Name, Files, read_of, reading}
use Rattle.pf_io.specs.Host.{Answer, LengthWas, Wrote, Synced, Made, Swapped, HostState, Both as BothAre, OnDisk, ReadsAsImage, length_of}
use Rattle.pf_io.specs.Moments.{Honest, Ran}
use Rattle.pf_io.specs.Names.{IsTarget, recovery_of, side_of}
use Rattle.pf_io.specs.Words.{WordsState}
use Rattle.pf_io.specs.declared.faults.Memory.{Memory}
use Rattle.pf_io.proofs.Telling.{told_none, told_on, both_same, both_weaker}
use Rattle.pf_session.specs.Aside.{Aside, LeavesApart, KeepsApart}
use Rattle.pf_session.specs.Asking.{IsTaken as AreTaken, Stopped}
use Rattle.pf_session.specs.Creating.{CreateGoes, misnamed, no_memory, look_up_failed, was_there, no_words, create_stopped, created, CreatesOn, AreNamed, empty_sheet, empty_node, fresh}
use Rattle.pf_session.specs.Drawing.{IsDrawn}
use Rattle.pf_session.specs.Placing.{place_steps}
use Rattle.pf_session.specs.State.{SessionState}
use Rattle.pf_session.specs.declared.fault.CreateFault.{CreateFault}
use Rattle.pf_script.specs.Book.{Book, Seal}
use Rattle.pf_script.specs.BookActs.{Creation, Act, Among}
use Rattle.pf_script.specs.BookDebts.{Unchanged, seat_of}
use Rattle.pf_script.specs.BookSeats.{CoversNone, CoversMade, KeepsUnder}
use Rattle.pf_script.specs.BookTurns.{ShowsUnder, no_file, of_book, SeatUnder, MadeBy}
use Rattle.pf_script.specs.Desk.{no_file as no_seat, whole_file, seat_on}
use Rattle.pf_script.specs.DeskSteps.{MaySeal, SomeSeatTurn, Concerns, to_create}
use Rattle.pf_script.specs.FileTurns.{stands_on, answers_of, seen_over, FilesAfter, whole_file as whole_over, LineOver, SeatFiles}
use Rattle.pf_script.specs.Rules.{Rule, IsFirst, NoneRefuses, refuses, rules}
use Rattle.pf_script.specs.Script.{Seat, Empty, Own}
use Rattle.pf_script.specs.SeatReplies.{create_reply}
use Rattle.pf_script.specs.SeatSteps.{SealsEmpty}
use Rattle.pf_script.specs.Turns.{WasAbsent, Seen, Failed, Standing, SeatTurn, refused, accepted, host_failed, words_failed, created as creates_file, not_asked, not_created, no_creation, new_seat, on_carried}
use Rattle.pf_script.specs.declared.line.ScriptLine.{ScriptLine}
use Rattle.pf_script.specs.declared.line.ScriptLine.TheVariants as lines
use Rattle.pf_script.specs.declared.reply.Reply.{Reply}
use Rattle.pf_script.specs.declared.reply.Reply.TheVariants as replies
use Rattle.pf_script.specs.declared.reply.Why.TheVariants as whys
use Rattle.pf_script.proofs.ActKeeping.{one_act, one_spares, only_reads, unchanged_now}
use Rattle.pf_script.proofs.CallKeeping.{at_both, both_with, read_image}
use Rattle.pf_script.proofs.CreateKeeping.{create_keeps}
use Rattle.pf_script.proofs.Flushed.{SeenOf, counted_kind}
use Rattle.pf_script.proofs.FlushUnder.{seen_in}
use Rattle.pf_script.proofs.MadeActs.{one_is}
use Rattle.pf_script.proofs.OfScript.{of_created}
use Rattle.pf_script.proofs.OnEmpty.{not_of, made_seat, BothHalves, empty_idle, concerns, spares_given, empty_goes, empty_wants, empty_under, empty_over, empty_turns, seat_first, seat_none}
use Rattle.pf_script.proofs.OverGiven.{none_contained, no_host_fault, no_words_fault, on_reading, same_over}
use Rattle.pf_script.proofs.Refusing.{none_taken}
use Rattle.pf_script.proofs.SeatCalls.{told_absent, seen_by, own_same}
use Rattle.pf_script.proofs.Seats.{seats_after, seat_is_left}
use Rattle.pf_script.proofs.Under.{IsAnswered, idle_answered}

-- the reply to a creation, and the seat after it
abbrev pub create_result : Name → Result SessionState CreateFault → Result Reply Memory
create_result name (Ok session) = Ok replies.Created
create_result name (Err fault) = create_reply name fault

-- the rules of a new name, and that an absent one is not refused
abbrev pub naming_rules : Name → List Answer → List Rule
naming_rules name given = refuses whys.BadName (¬ (IsTarget name)) ∷ refuses (whys.Exists name) ((size : ℕ) × Contains given (LengthWas name (Some size))) ∷ []

was_absent : (name : Name) (node : List ℕ) (size : ℕ) → Contains (LengthWas name None ∷ place_steps name node) (LengthWas name (Some size)) → ⊥
was_absent name node size =
    let other = LengthWas name (Some size) in
    not_of (LengthWas name None) other (place_steps name node) (λ same. absurd (cc))
    (not_of (Synced (recovery_of name)) other (Made (side_of name) ∷ Wrote (side_of name) 0 node ∷ Synced (side_of name) ∷ Swapped (side_of name) name ∷ []) (λ same. absurd (cc))
    (not_of (Made (side_of name)) other (Wrote (side_of name) 0 node ∷ Synced (side_of name) ∷ Swapped (side_of name) name ∷ []) (λ same. absurd (cc))
    (not_of (Wrote (side_of name) 0 node) other (Synced (side_of name) ∷ Swapped (side_of name) name ∷ []) (λ same. absurd (cc))
    (not_of (Synced (side_of name)) other (Swapped (side_of name) name ∷ []) (λ same. absurd (cc))
    (not_of (Swapped (side_of name) name) other [] (λ same. absurd (cc)) (λ none. absurd (omega (arith, none.1))))))))

-- nor among the steps that were answered before one failed
absent_until : (name : Name) (node : List ℕ) (between after : HostState) (stopped : Stopped (place_steps name node) between after) (size : ℕ) → ¬ (Contains (LengthWas name None ∷ stopped.answered) (LengthWas name (Some size)))
absent_until name node between after stopped size is =
    was_absent name node size
    (subst (λ (l : List Answer). Contains (LengthWas name None ∷ l) (LengthWas name (Some size))) (sym stopped.in_order)
    (Contains-append_left (LengthWas name None ∷ stopped.answered) (stopped.failed ∷ stopped.left) (LengthWas name (Some size)) is))

no_length : (name : Name) (file : Option (List ℕ)) → file ≡ None → (size : ℕ) → Contains (LengthWas name (length_of file) ∷ []) (LengthWas name (Some size)) → ⊥
no_length name None none size = not_of (LengthWas name None) (LengthWas name (Some size)) [] (λ same. absurd (cc)) (λ none. absurd (omega (arith, none.1)))
no_length name (Some file) none size = absurd (cc)

-- so it is where the name has no file
file_absent : (name : Name) (file : Option (List ℕ)) → file ≡ None → WasAbsent name (LengthWas name (length_of file) ∷ [])
file_absent name None none = told_absent name []
file_absent name (Some file) none = absurd (cc)

-- a target for which no length came is not refused
naming_none : (name : Name) (given : List Answer) → IsTarget name → ((size : ℕ) → ¬ (Contains given (LengthWas name (Some size)))) → NoneRefuses (naming_rules name given)
naming_none name given target none = ((λ other refuses. refuses.1 target), ((λ other refuses. none refuses.1.0 refuses.1.1), tt))

-- a target that is a text may be a path too
pub named_target : (name : Name) → IsUtf8 name → IsTarget name → AreNamed name name
named_target name utf8 target = record {
  is_target = target;
  path_is = record { not_empty = target.is_name.not_empty; not_long = let long = target.is_name.not_long in omega (arith, long); no_zero = target.is_name.no_zero; utf8 = utf8 };
}

module _ (key : List ℕ) (k : ℕ) (name : Name) (utf8 : IsUtf8 name) (before after : HostState) (random random' : WordsState) where
  abbrev line : ScriptLine
  line = lines.Create k name

  abbrev Both : Result Reply Memory → Option SessionState → Type 0
  Both result new = BothHalves key line result new before after random random'

  -- nothing was asked
  stays_so : after ≡ before → OnDisk before after Unchanged
  stays_so stays = both_same Unchanged before.honest after.honest (ap (λ (h : HostState). h.honest) stays) (λ a. unchanged_now a)

  none_taken_now : random' ≡ random → BothAre random.left random'.left (AreTaken [])
  none_taken_now same = subst (λ (w : WordsState). BothAre random.left w.left (AreTaken [])) (sym same) (none_taken random)

  -- a creation that had its words
  module _ (nonce : List ℕ) (these : List Answer) (drawn : IsDrawn nonce random random') where
    abbrev sheet : Sheet
    sheet = empty_sheet name nonce

    abbrev act : Bool → Act
    act done = record { deed = Creation (seat_of key name sheet); done = done }

    abbrev words : List (List ℕ)
    words = drawn.first ∷ drawn.second ∷ []

    seals_empty : IsLinked sheet → SealsEmpty name words sheet
    seals_empty linked = record { first = drawn.first; second = drawn.second; words_are = refl; sheet_is = ap (λ (n : List ℕ). empty_sheet name n) drawn.is; linked = linked }

    -- it may have sealed the sheet, and then failed at the host
    fails_to_create : WasAbsent name these → NoneRefuses (rules key false Empty line these) → IsLinked sheet → (standing : Standing) → SeatTurn standing key false Empty line (seen_by these words true false) replies.HostFault (act false ∷ []) Empty
    fails_to_create absent none linked standing = host_failed none (record { host = refl; random = refl }) (not_created k name sheet absent (seals_empty linked)) refl

    may_seal : (of_host done : Bool) → WasAbsent name these → NoneRefuses (rules key false Empty line these) → IsLinked sheet → (sealed : List Sheet) → MaySeal (SomeSeatTurn key sealed false Empty line) (seen_by these words of_host false) (act done ∷ [])
    may_seal of_host done absent none linked sealed = record {
      front = words;
      back = [];
      failed = act false ∷ [];
      in_order = sym (append-nil words);
      goes = (Empty, fails_to_create absent none linked (on_carried key sealed));
      sheets = refl;
    }

    only_it : (done : Bool) (n : Name) → Among (act done ∷ []) n → Concerns false line None n
    only_it done n (inl same) = concerns key line name refl n same
    only_it done n (inr none) = absurd none

    under : (done : Bool) (seen : Seen) (reply : Reply) (new : Option SessionState) (after_seat : Seat) → Aside name before after → ReadsAsImage after → OnDisk before after (CreatesOn done key name sheet) → IsTarget name
        → ((book : Book) (seats : List Seal) → ShowsUnder book (seats_after (Creation (seat_of key name sheet)) done seats) after_seat new) → ((standing : Standing) → SeatTurn standing key false Empty line seen reply (act done ∷ []) after_seat)
        → IsAnswered reply → OnDisk before after (SeatUnder key false line seen reply None new)
    under done seen reply new after_seat aside reads creates target shows turn answered =
        both_with (Ran (LeavesApart name) (KeepsApart name)) (SeatUnder key false line seen reply None new) before.honest after.honest aside
        (λ a b is is2 ran. empty_under key line name refl seen reply new a b
        (λ book seats agrees was_image. record {
          acts = act done ∷ [];
          left = seats_after (Creation (seat_of key name sheet)) done seats;
          after = after_seat;
          did = one_act book seats (Creation (seat_of key name sheet)) done a b (record { targets = target; others = ran; reads = read_image after.honest b is2 reads })
              (record { path_is = refl; creates = at_both (CreatesOn done key name sheet) before.honest after.honest a b is is2 creates });
          shows = shows _ seats;
          spares = one_spares seats (Creation (seat_of key name sheet)) done;
          concerned = only_it done;
          made = one_is (MadeBy line Empty) (act done) refl;
          idle = idle_answered reply answered (act done ∷ []);
          turn = λ _. turn _;
        }))

    -- over files, where nothing failed
    over : (done : Bool) (seen : Seen) (reply : Reply) (new : Option SessionState) → Aside name before after → OnDisk before after (CreatesOn done key name sheet)
        → ((a b : Honest) → Ran (LeavesApart name) (KeepsApart name) a b → CreatesOn done key name sheet a b → Failed seen false false → LineOver key false line seen reply new Empty a b) → OnDisk before after (SeatFiles key false line seen reply None new)
    over done seen reply new aside creates known =
        both_with (Ran (LeavesApart name) (KeepsApart name)) (SeatFiles key false line seen reply None new) before.honest after.honest aside
        (λ a b is is2 ran. empty_over key line name refl seen reply new a b (λ calm opened. known a b ran (at_both (CreatesOn done key name sheet) before.honest after.honest a b is is2 creates) calm))

    -- one that was done leaves the name with its sheet, and the others as they were
    leaves_file : (a b : Honest) → Ran (LeavesApart name) (KeepsApart name) a b → CreatesOn true key name sheet a b → FilesAfter (act true ∷ []) (reading a.now) (reading b.now)
    leaves_file a b ran creates = (
      refl,
      (
        reading b.now,
        record { stands = creates.ran.ends.as_sheet; away = tt; others = λ other apart. ap read_of (ran.ends other apart) },
        λ n. refl,
      ),
    )

  by_case : (result : Result SessionState CreateFault) → Aside name before after → ReadsAsImage after → (IsTarget name → OnDisk before after (KeepsUnder CoversNone (CoversMade result) (λ n. n ≡ name))) → CreateGoes key name name before after random random' result
      → Both (create_result name result) (made_seat result)
  by_case result aside reads keeps (misnamed bad stays same said) =
      let first : (given : List Answer) → IsFirst (rules key false Empty line given) whys.BadName = λ given. seat_first (naming_rules name given) whys.BadName (inl (refl, λ target. bad (named_target name utf8 target))) in
      let turn : (standing : Standing) (given : List Answer) → SeatTurn standing key false Empty line (seen_by given [] false false) (replies.Refused whys.BadName) [] Empty = λ standing given.
      refused whys.BadName (first given) (record { host = refl; random = refl }) refl refl refl refl in
      subst (λ (r : Result SessionState CreateFault). Both (create_result name r) (made_seat r)) (sym said)
      (empty_idle key line name refl before after random random' (λ none. absurd none, tt) (replies.Refused whys.BadName) [] [] false false (stays_so stays)
      (record { told = told_none before after (ap (λ (h : HostState). h.given) stays); taken = none_taken_now same; on_host = ap (λ (h : HostState). h.faults) stays; on_words = ap (λ (w : WordsState). w.faults) same }) refl refl (λ standing. turn standing []) (first []) (refl, same)
      (λ a is calm. turn (stands_on key (reading a.now)) (answers_of (reading a.now) line)))
  by_case result aside reads keeps (no_memory good stays same said) =
      subst (λ (r : Result SessionState CreateFault). Both (create_result name r) (made_seat r)) (sym said)
      (record {
        goes = empty_wants key line name refl None before after random random'
            (both_weaker Unchanged (KeepsUnder CoversNone CoversNone (λ n. n ≡ name)) before.honest after.honest (stays_so stays) (λ a b only. only_reads CoversNone a b (λ n. n ≡ name) only)) (spares_given key line name refl before after aside) tt (λ n none. absurd none) (λ none. absurd none, tt)
            (λ takes. takes) refl stays same;
        booked = tt;
      })
  by_case result aside reads keeps (look_up_failed good fails same said) =
      let none : NoneRefuses (rules key false Empty line []) = seat_none (naming_rules name []) (naming_none name [] good.is_target (λ size. none_contained)) in
      subst (λ (r : Result SessionState CreateFault). Both (create_result name r) (made_seat r)) (sym said)
      (empty_idle key line name refl before after random random' (λ none. absurd none, tt) replies.HostFault [] [] true false fails.disk
      (record { told = fails.asked.asked.told; taken = none_taken_now same; on_host = fails.asked.asked.faults; on_words = ap (λ (w : WordsState). w.faults) same }) refl refl
      (λ standing. host_failed none (record { host = refl; random = refl }) (not_asked k name refl refl) refl) none refl (λ a is calm. absurd (no_host_fault calm)))
  by_case result aside reads keeps (was_there size good looks same said) =
      let given = LengthWas name (Some size) ∷ [] in
      let first : IsFirst (rules key false Empty line given) (whys.Exists name) =
      seat_first (naming_rules name given) (whys.Exists name) (inr ((λ other refuses. refuses.1 good.is_target), inl (refl, (size, Contains-push [] (LengthWas name (Some size)))))) in
      let turn : (standing : Standing) → SeatTurn standing key false Empty line (seen_by given [] false false) (replies.Refused (whys.Exists name)) [] Empty = λ standing.
      refused (whys.Exists name) first (record { host = refl; random = refl }) refl refl refl refl in
      subst (λ (r : Result SessionState CreateFault). Both (create_result name r) (made_seat r)) (sym said)
      (empty_idle key line name refl before after random random' (λ none. absurd none, tt) (replies.Refused (whys.Exists name)) given [] false false looks.disk
      (record { told = looks.asked.asked.told; taken = none_taken_now same; on_host = looks.asked.asked.faults; on_words = ap (λ (w : WordsState). w.faults) same }) refl refl turn first (refl, same)
      (λ a is calm.
      same_over key (reading a.now) false Empty line given [] (replies.Refused (whys.Exists name)) [] Empty
      (ap (λ (o : Option ℕ). LengthWas name o ∷ []) (on_reading (λ files. AllByRecursion (IsAnswerOf files) given) before.honest a is looks.asked.answered.honest).0) (turn (stands_on key (reading a.now)))))
  by_case result aside reads keeps (no_words good looks fewer said) =
      let given = LengthWas name None ∷ [] in
      let none : NoneRefuses (rules key false Empty line given) = seat_none (naming_rules name given) (naming_none name given good.is_target (no_length name None refl)) in
      subst (λ (r : Result SessionState CreateFault). Both (create_result name r) (made_seat r)) (sym said)
      (empty_idle key line name refl before after random random' (λ none. absurd none, tt) replies.WordsFault given fewer.words false true looks.disk
      (record { told = looks.asked.asked.told; taken = fewer.told; on_host = looks.asked.asked.faults; on_words = fewer.once }) refl refl
      (λ standing. words_failed none (record { host = refl; random = refl }) (no_creation k name (told_absent name []) fewer.fewer) refl) none refl (λ a is calm. absurd (no_words_fault calm)))
  by_case result aside reads keeps (create_stopped nonce between good looks drawn stopped said) =
      let those = stopped.stopped.answered in
      let these = LengthWas name None ∷ those in
      let words = drawn.first ∷ drawn.second ∷ [] in
      let seen : SeenOf these words true false before after random random' = record {
        told = told_on (LengthWas name None ∷ []) those before between after looks.asked.asked.told stopped.stopped.asked.told;
        taken = drawn.took.told;
        on_host = counted_kind stopped.stopped.failed between.faults after.faults stopped.stopped.asked.faults ∙ ap counted looks.asked.asked.faults;
        on_words = drawn.took.calm;
      } in
      let none : NoneRefuses (rules key false Empty line these) =
      seat_none (naming_rules name these) (naming_none name these good.is_target (absent_until name (empty_node key name nonce) between after stopped.stopped)) in
      let turn : (standing : Standing) → SeatTurn standing key false Empty line (seen_by these words true false) replies.HostFault (act nonce these drawn false ∷ []) Empty = fails_to_create nonce these drawn (told_absent name those) none stopped.linked in
      subst (λ (r : Result SessionState CreateFault). Both (create_result name r) (made_seat r)) (sym said)
      (record {
        goes = empty_goes key line name refl None before after random random' (subst (λ (r : Result SessionState CreateFault). OnDisk before after (KeepsUnder CoversNone (CoversMade r) (λ n. n ≡ name))) said (keeps good.is_target)) (spares_given key line name refl before after aside) tt (λ n none. absurd none) (λ none. absurd none, tt)
            replies.HostFault these words true false seen refl refl
            (empty_turns key line name refl (seen_by these words true false) replies.HostFault None these (act nonce these drawn false ∷ []) Empty (λ sealed. inr (may_seal nonce these drawn true false (told_absent name those) none stopped.linked sealed)) turn (λ sealed. no_seat refl refl))
            none refl;
        booked = record {
          seen = seen_by these words true false;
          was_seen = seen_in these words true false before after random random' seen;
          wordless = λ change. absurd change;
          under = under nonce these drawn false (seen_by these words true false) replies.HostFault None Empty aside reads stopped.creates good.is_target (λ book seats. no_file refl refl) turn tt;
          over = over nonce these drawn false (seen_by these words true false) replies.HostFault None aside stopped.creates (λ a b ran creates calm. absurd (no_host_fault calm));
        };
      })
  by_case result aside reads keeps (created nonce between good looks drawn asked creates is_fresh said) =
      let those = place_steps name (empty_node key name nonce) in
      let these = LengthWas name None ∷ those in
      let words = drawn.first ∷ drawn.second ∷ [] in
      let sheet = empty_sheet name nonce in
      let made = fresh key name name nonce false in
      let seen : SeenOf these words false false before after random random' = record {
        told = told_on (LengthWas name None ∷ []) those before between after looks.asked.asked.told asked.told;
        taken = drawn.took.told;
        on_host = asked.faults ∙ looks.asked.asked.faults;
        on_words = drawn.took.calm;
      } in
      let none : NoneRefuses (rules key false Empty line these) = seat_none (naming_rules name these) (naming_none name these good.is_target (was_absent name (empty_node key name nonce))) in
      let turn : (standing : Standing) → SeatTurn standing key false Empty line (seen_by these words false false) replies.Created (act nonce these drawn true ∷ []) (Own (new_seat key name sheet)) = λ standing.
      accepted none (record { host = refl; random = refl })
      (creates_file k name sheet (told_absent name those) (seals_empty nonce these drawn is_fresh.linked)) in
      let by_files : (files : Files) → files name ≡ None → SeatTurn (stands_on key files) key false Empty line (seen_over files line words) replies.Created (act nonce these drawn true ∷ []) (Own (new_seat key name sheet)) = λ files absent.
      accepted (seat_none (naming_rules name (answers_of files line)) (naming_none name (answers_of files line) good.is_target (no_length name (files name) absent))) (record { host = refl; random = refl })
      (creates_file k name sheet (file_absent name (files name) absent) (seals_empty nonce these drawn is_fresh.linked)) in
      let same : new_seat key name sheet ≡ seat_on sheet made = own_same sheet key key name name [] (now sheet made.tree) [] [] false false None None false false refl refl (sym is_fresh.stands.now_is) refl refl refl refl in
      subst (λ (r : Result SessionState CreateFault). Both (create_result name r) (made_seat r)) (sym said)
      (record {
        goes = empty_goes key line name refl (Some made) before after random random' (subst (λ (r : Result SessionState CreateFault). OnDisk before after (KeepsUnder CoversNone (CoversMade r) (λ n. n ≡ name))) said (keeps good.is_target)) (spares_given key line name refl before after aside)
            (record { of_script = of_created key name nonce good; key_is = refl; clean = λ whole calm. refl }) (λ n has. has) (λ none. absurd none, tt)
            replies.Created these words false false seen refl refl
            (empty_turns key line name refl (seen_by these words false false) replies.Created (Some made) these (act nonce these drawn true ∷ []) (Own (new_seat key name sheet)) (λ sealed. inr (may_seal nonce these drawn false true (told_absent name those) none is_fresh.linked sealed)) turn
            (λ sealed. whole_file sheet made refl (Contains-push sealed sheet) is_fresh.linked (record { backed = is_fresh.stands.backed; rests = λ calm. record { stands = is_fresh.stands; clean = refl } }) (ap Own same) refl))
            (none, (name, refl, told_absent name those)) (to_create k name made refl refl refl refl refl);
        booked = record {
          seen = seen_by these words false false;
          was_seen = seen_in these words false false before after random random' seen;
          wordless = λ change. absurd change;
          under = under nonce these drawn true (seen_by these words false false) replies.Created (Some made) (Own (new_seat key name sheet)) aside reads creates good.is_target
              (λ book seats. of_book sheet made refl (seat_is_left (Creation (seat_of key name sheet)) seats) (record { backed = is_fresh.stands.backed; rests = λ calm. record { stands = is_fresh.stands; clean = refl } }) (ap Own same) refl) turn tt;
          over = over nonce these drawn true (seen_by these words false false) replies.Created (Some made) aside creates
              (λ a b ran was_made calm. record {
                acts = act nonce these drawn true ∷ [];
                after = Own (new_seat key name sheet);
                over = record { turn = by_files (reading a.now) (ap read_of was_made.absent); files = leaves_file nonce these drawn a b ran was_made };
                shows = whole_over sheet made refl refl was_made.ran.ends.as_sheet (record { backed = is_fresh.stands.backed; rests = λ calm. record { stands = is_fresh.stands; clean = refl } }) (ap Own same) refl;
              });
        };
      })

pub create_line : (key : List ℕ) (k : ℕ) (name : Name) (result : Result SessionState CreateFault) (before after : HostState) (random random' : WordsState) → IsUtf8 name → CreateGoes key name name before after random random' result → Aside name before after → ReadsAsImage after
    → BothHalves key (lines.Create k name) (create_result name result) (made_seat result) before after random random'
create_line key k name result before after random random' utf8 goes aside reads =
    by_case key k name utf8 before after random random' result aside reads (λ target. create_keeps key name target before after random random' result goes aside reads) goes
