-- Calls that did nothing to names but accepted flushes, as those for which memory was wanting.
use Rattle.std.proofs.Common.{◌≡◌, ◌⊎◌, inl, inr, ⊎_elim, true, false, List, [], ◌++◌, ℕ, ◌+◌, ◌-◌, ◌<◌, ◌≤◌, refl, arith, sym, ◌∙◌, ap, subst, Option, Some, None, Result, Ok, Err}
use Rattle.std.proofs.lemmas.List.Elements.{Contains-append_cases}
use Rattle.std.specs.Prelude.{length, replicate}
use Rattle.std.proofs.lemmas.List.{append-nil, append_assoc, replicate-append-replicate, take_all, length-append, length-replicate}
use Rattle.node_tree.specs.Applying.{Step, Size, applied}
use Rattle.node_tree.specs.Backing.{now}
use Rattle.node_tree.specs.Sheet.{Sheet}
use Rattle.node_tree.specs.declared.fault.TreeFault.{TreeFault}
use Rattle.pf_io.specs.Disk.{Name, IsImage, reading}
use Rattle.pf_io.specs.Host.{HostState, OnDisk, ReadsAsImage}
use Rattle.pf_io.specs.Moments.{Honest, Ran}
use Rattle.pf_io.specs.Names.{IsTarget}
use Rattle.pf_io.specs.Replay.{set_at}
use Rattle.pf_io.specs.Steps.{Stays}
use Rattle.pf_io.specs.Unchanged.{KeepsDisk}
use Rattle.pf_io.specs.Words.{WordsState}
use Rattle.pf_io.proofs.Telling.{both_weaker}
use Rattle.pf_session.specs.Aside.{Aside, LeavesApart, KeepsApart}
use Rattle.pf_session.specs.Backing.{IsBacked}
use Rattle.pf_session.specs.Reopening.{Stood}
use Rattle.pf_session.specs.Changing.{ChangeGoes, refused, unchanged, changed, not_flushed, flushed_and_changed, SizeRefused}
use Rattle.pf_session.specs.Faults.{size_of_flush, size_of_tree}
use Rattle.pf_session.specs.State.{SessionState}
use Rattle.pf_session.specs.declared.fault.FlushFault.{FlushFault}
use Rattle.pf_session.specs.declared.fault.SizeFault.{SizeFault}
use Rattle.pf_session.specs.declared.fault.Written.{Written}
use Rattle.pf_script.specs.Book.{Book, Entry, Alone, Seal, Agrees}
use Rattle.pf_script.specs.BookActs.{Flush, Act, booked_all, flushed, sealed_entry}
use Rattle.pf_script.specs.BookDebts.{Unchanged, DidAll, seat_of}
use Rattle.pf_script.specs.BookSeats.{IsOfScript, CoversOn, SparesSeats}
use Rattle.pf_script.specs.DeskSteps.{AreFlushes, MayGrow, SealsOnly, FlushesUnder}
use Rattle.pf_script.specs.SeatReplies.{SetsSize, SizesGo, set_last, set_failed, set_piece}
use Rattle.pf_script.specs.SeatSteps.{PIECE}
use Rattle.pf_script.specs.declared.line.ScriptLine.{ScriptLine}
use Rattle.pf_script.specs.declared.line.ScriptLine.TheVariants as lines
use Rattle.pf_script.proofs.ActKeeping.{Idles, idle_covers_on, SealsOnce, SealedFrom, one_flush, one_spares, seal_on}
use Rattle.pf_script.proofs.CallKeeping.{both_with, back_to, step_now, idle_same, read_image, was_flushed}
use Rattle.pf_script.proofs.ChangeKeeping.{step_idles, flushed_step, flushed_now, flushed_next}
use Rattle.pf_script.proofs.Composing.{all_agrees, did_on, booked_on}
use Rattle.pf_script.proofs.Flushed.{length_now}
use Rattle.pf_script.proofs.NameMaps.{set_at-same}
use Rattle.pf_script.proofs.Seats.{seats_after, not_in_none, only_one, among_back}
use Rattle.pf_script.proofs.SizeKeeping.{of_set, set_name}
use Rattle.pf_script.proofs.StepKeeping.{both_through}

-- how a content grows
abbrev pub Growing : Type 1
Growing = List ℕ → List ℕ → Type 0

-- in whatever way
abbrev pub Any : Growing
Any old new = Unit {0}

-- by zeros behind it, as steps of `size` put them before its last one
abbrev pub Zeros : ℕ → Growing
Zeros size old new = (n : ℕ) × (new ≡ old ++ replicate n 0) × ((n ≡ 0) ⊎ (length old + n < size))

-- no line has to put zeros
none_put : (line : ScriptLine) (held : ℕ) → MayGrow line held 0
none_put lines.Blank held = refl
none_put (lines.Create seat name) held = refl
none_put (lines.Open seat name) held = refl
none_put (lines.View seat path) held = refl
none_put (lines.Read seat at count) held = refl
none_put (lines.Write seat at bytes) held = refl
none_put (lines.Fill seat at count byte) held = refl
none_put (lines.Size seat size) held = inl refl
none_put (lines.Flush seat) held = refl
none_put (lines.Move seat name) held = refl
none_put (lines.Draw seat) held = refl
none_put (lines.Close seat) held = refl

-- zeros that were put, and then others
more_put : (size held mid n more : ℕ) → mid ≡ held + n → (n ≡ 0) ⊎ (held + n < size) → (more ≡ 0) ⊎ (mid + more < size) → (n + more ≡ 0) ⊎ (held + (n + more) < size)
more_put size held mid n more is (inl none) (inl again) = inl (omega (arith, none, again))
more_put size held mid n more is (inr below) (inl again) = inr (omega (arith, below, again))
more_put size held mid n more is first (inr below) = inr (omega (arith, is, below))

-- What was sealed where the book speaks of the session: its content. The book still speaks of it.
pub record Sealed (line : ScriptLine) (Grown : Growing) (old new : SessionState) (book : Book) (acts : List Act) (sheet last : Sheet) : Type 0 where
  pub entry : Entry
  pub is_entry : booked_all acts book new.name ≡ Some entry
  pub seals : SealsOnly line (now sheet old.tree) acts
  pub grown : new.broken ≡ false → Grown (now sheet old.tree) (now last new.tree)

-- Under each book nothing but accepted flushes of the session was done to names. One of the seats that they leave is the session's, and those on other names stay.
abbrev pub FlushesOnly : ScriptLine → Growing → SessionState → SessionState → Honest → Honest → Type 0
FlushesOnly line Grown old new a b =
    (book : Book) (seats : List Seal) → Agrees book seats a.now → IsImage a.now (reading a.now) → (sheet : Sheet) → CoversOn sheet old book seats
    → (acts : List Act) × (left : List Seal) × (last : Sheet) × DidAll book seats acts left a b × CoversOn last new (booked_all acts book) left × AreFlushes old.name acts × SparesSeats acts seats left
    × ((entry : Entry) → old.broken ≡ false → book old.name ≡ Some entry → Sealed line Grown old new book acts sheet last)

pub flushed_under : (line : ScriptLine) (Grown : Growing) (old new : SessionState) (before after : HostState) → OnDisk before after (FlushesOnly line Grown old new) → OnDisk before after (FlushesUnder line old)
flushed_under line Grown old new before after flushes =
    both_weaker (FlushesOnly line Grown old new) (FlushesUnder line old) before.honest after.honest flushes
    (λ a b only book seats agrees reads sheet on. let has = only book seats agrees reads sheet on in (has.0, has.1, has.3, has.5, has.6, λ entry whole is. (has.7 entry whole is).seals))

no_acts : (name : Name) → AreFlushes name []
no_acts name act has = absurd (not_in_none act has)

none_sealed : (line : ScriptLine) (content : List ℕ) → SealsOnly line content []
none_sealed line content act has = absurd (not_in_none act has)

-- nothing was changed
pub kept_flushes : (line : ScriptLine) (session : SessionState) (before after : HostState) → KeepsDisk before after → OnDisk before after (FlushesUnder line session)
kept_flushes line session before after disk =
    both_weaker Unchanged (FlushesUnder line session) before.honest after.honest disk
    (λ a b only book seats agrees reads sheet on. ([], seats, (only, λ seat has. has), no_acts session.name, λ seat has apart. has, λ entry whole is. none_sealed line (now sheet session.tree)))

-- so for the session of a seat
pub flushes_of : (line : ScriptLine) (old session : SessionState) (before after : HostState) → ◌≡◌ {A = Option SessionState} (Some old) (Some session) → OnDisk before after (FlushesUnder line old) → OnDisk before after (FlushesUnder line session)
flushes_of line old session before after is flushes =
    let same : old ≡ session = cc in
    subst (λ (s : SessionState). OnDisk before after (FlushesUnder line s)) same flushes

-- a call that changed nothing
idle_flushes : (line : ScriptLine) (Grown : Growing) (old new : SessionState) (a b : Honest) → Idles old new a b
    → ((sheet : Sheet) → IsBacked sheet old → Stood old.key old.name sheet a.now → new.broken ≡ false → Grown (now sheet old.tree) (now sheet new.tree)) → FlushesOnly line Grown old new a b
idle_flushes line Grown old new a b idles grown book seats agrees reads sheet on =
    ([], seats, sheet, (idles.unchanged, λ seat has. has), idle_covers_on old new a b idles book seats agrees sheet on, no_acts old.name, λ seat has apart. has, sealed)
  where
    sealed : (entry : Entry) → old.broken ≡ false → book old.name ≡ Some entry → Sealed line Grown old new book [] sheet sheet
    sealed entry whole is =
        let seat = on entry whole is in
        record {
          entry = entry;
          is_entry = ap book idles.name_is ∙ is;
          seals = none_sealed line (now sheet old.tree);
          grown = λ whole2. grown sheet seat.1.backed (agrees.stand (seat_of old.key old.name sheet) entry seat.0 is).stood whole2;
        }

-- what a call that flushed sealed, and the content after it
abbrev pub SealsContent : Growing → (old new : SessionState) → (a b : Honest) → SealsOnce true old new a b → Type 0
SealsContent Grown old new a b once =
    (base sheet : Sheet) → SealedFrom true old new a b once base sheet → (sheet.content ≡ now base old.tree) × (new.broken ≡ false → Grown (now base old.tree) (now sheet new.tree))

-- a call that flushed
seal_flushes : (line : ScriptLine) (Grown : Growing) (old new : SessionState) (a b : Honest) → IsTarget old.name → (once : SealsOnce true old new a b) → SealsContent Grown old new a b once → FlushesOnly line Grown old new a b
seal_flushes line Grown old new a b target once content book seats agrees reads sheet on =
    let does = seal_on true old new a b target once book seats agrees sheet on in
    let deed = Flush (seat_of old.key old.name does.0) in
    (one_flush true old.key old.name does.0, seats_after deed true seats, does.0, does.1.0, does.1.1, is_flush does.0, one_spares seats deed true, λ entry whole is. sealed does.0 entry whole is (does.2 entry is))
  where
    is_flush : (next : Sheet) → AreFlushes old.name (one_flush true old.key old.name next)
    is_flush next act has = (seat_of old.key old.name next, only_one (record { deed = Flush (seat_of old.key old.name next); done = true }) act has, refl)

    sealed : (next : Sheet) (entry : Entry) → old.broken ≡ false → book old.name ≡ Some entry → SealedFrom true old new a b once sheet next → Sealed line Grown old new book (one_flush true old.key old.name next) sheet next
    sealed next entry whole is from =
        let seal = seat_of old.key old.name next in
        let is_content = content sheet next from in
        let entry_is = (agrees.stand (seat_of old.key old.name sheet) entry (on entry whole is).0 is).entry_is in
        let was : book old.name ≡ Some (Alone old.key (Some sheet.content) None true) = is ∙ ap (λ (e : Entry). Some e) entry_is in
        record {
          entry = sealed_entry old.key next.content (Some sheet.content) true;
          is_entry = ap (λ (o : Option Entry). flushed seal true o book new.name) was
              ∙ ap (set_at old.name (Some (sealed_entry old.key next.content (Some sheet.content) true)) book) once.name_is ∙ set_at-same old.name (Some (sealed_entry old.key next.content (Some sheet.content) true)) book;
          seals = λ act has. (seal, 0, ap (λ (x : Act). x.deed) (only_one (record { deed = Flush seal; done = true }) act has), is_content.0 ∙ sym (append-nil (now sheet old.tree)), none_put line (length (now sheet old.tree)));
          grown = is_content.1;
        }

-- one after the other, in a line `size`
flushes_then : (k size : ℕ) (old mid new : SessionState) (a m b : Honest) → mid.name ≡ old.name → mid.broken ≡ false → IsImage m.now (reading m.now) → FlushesOnly (lines.Size k size) (Zeros size) old mid a m
    → FlushesOnly (lines.Size k size) Any mid new m b → FlushesOnly (lines.Size k size) Any old new a b
flushes_then k size old mid new a m b name_is whole_mid well one two book seats agrees reads sheet on =
    let was = one book seats agrees reads sheet on in
    let acts = was.0 in
    let is = two (booked_all acts book) was.1 (all_agrees book seats acts was.1 a m agrees reads was.3) well was.2 was.4 in
    let more = is.0 in (
      acts ++ more,
      is.1,
      is.2,
      did_on book seats was.1 is.1 acts more a m b was.3 is.3,
      subst (λ (b : Book). CoversOn is.2 new b is.1) (sym (booked_on acts more book)) is.4,
      λ act has. ⊎_elim (λ first. was.5 act first) (λ second. subst (λ (n : Name). (seal : Seal) × (act ≡ record { deed = Flush seal; done = true }) × (seal.name ≡ n)) name_is (is.5 act second)) (Contains-append_cases acts more act has),
      λ seat has apart. is.6 seat (was.6 seat has (λ among. apart (among_back acts more seat.name (inl among)))) (λ among. apart (among_back acts more seat.name (inr among))),
      λ entry whole at_name. sealed acts more was.2 is.2 (was.7 entry whole at_name) (is.7 (was.7 entry whole at_name).entry whole_mid (was.7 entry whole at_name).is_entry),
    )
  where
    long : (content grown : List ℕ) (n : ℕ) → grown ≡ content ++ replicate n 0 → length grown ≡ length content + n
    long content grown n is = ap length is ∙ length-append content (replicate n 0) ∙ ap (λ (l : ℕ). length content + l) (length-replicate n 0)

    sealed : (acts more : List Act) (between last : Sheet) → Sealed (lines.Size k size) (Zeros size) old mid book acts sheet between → Sealed (lines.Size k size) Any mid new (booked_all acts book) more between last
        → Sealed (lines.Size k size) Any old new book (acts ++ more) sheet last
    sealed acts more between last first second =
        let content = now sheet old.tree in
        let zeros = first.grown whole_mid in
        record {
          entry = second.entry;
          is_entry = ap (λ (b : Book). b new.name) (booked_on acts more book) ∙ second.is_entry;
          seals = λ act has. ⊎_elim (λ here. first.seals act here)
              (λ there. let sealed2 = second.seals act there in (
                sealed2.0,
                zeros.0 + sealed2.1,
                sealed2.2,
                sealed2.3 ∙ ap (λ (c : List ℕ). c ++ replicate sealed2.1 0) zeros.1 ∙ append_assoc content (replicate zeros.0 0) (replicate sealed2.1 0) ∙ ap (λ (c : List ℕ). content ++ c) (replicate-append-replicate zeros.0 sealed2.1 0),
                more_put size (length content) (length (now between mid.tree)) zeros.0 sealed2.1 (long content (now between mid.tree) zeros.0 zeros.1) zeros.2 sealed2.4,
              )) (Contains-append_cases acts more act has);
          grown = λ whole. tt;
        }

-- a change that did not fail in its flush
pub change_flushes : (line : ScriptLine) (Grown : Growing) (old : SessionState) → IsOfScript old → (E : Type 0) (Refused : E → Type 0) (IsNone : Type 0) (of_flush : FlushFault → E) (of_tree : TreeFault → E) (step : Step) (result : Result Written E) (new : SessionState) (before after : HostState) (random random' : WordsState)
    → ((content : List ℕ) → Grown content content) → ((content : List ℕ) → length content ≡ old.tree.size → Grown content (applied step content))
    → old.broken ≡ false → ((fault : FlushFault) → ¬ (result ≡ Err (of_flush fault))) → ChangeGoes E Refused IsNone of_flush of_tree step result old new before after random random' → Aside old.name before after → ReadsAsImage after
    → OnDisk before after (FlushesOnly line Grown old new)
change_flushes line Grown old mine E Refused IsNone of_flush of_tree step result new before after random random' stays_as made whole sealed goes aside reads =
    both_with (Ran (LeavesApart old.name) (KeepsApart old.name)) (FlushesOnly line Grown old new) before.honest after.honest aside (λ a b is is2 ran. by_case a b is is2 ran goes)
  where
    unmoved : new ≡ old → (sheet : Sheet) → Grown (now sheet old.tree) (now sheet new.tree)
    unmoved same sheet = subst (λ (s : SessionState). Grown (now sheet old.tree) (now sheet s.tree)) (sym same) (stays_as (now sheet old.tree))

    grows : (sheet last : Sheet) → now last new.tree ≡ applied step (now sheet old.tree) → Grown (now sheet old.tree) (now last new.tree)
    grows sheet last is = subst (λ (c : List ℕ). Grown (now sheet old.tree) c) (sym is) (made (now sheet old.tree) (length_now sheet old.tree))

    by_case : (a b : Honest) → before.honest ≡ Some a → after.honest ≡ Some b → Ran (LeavesApart old.name) (KeepsApart old.name) a b → ChangeGoes E Refused IsNone of_flush of_tree step result old new before after random random' → FlushesOnly line Grown old new a b
    by_case a b is is2 ran (refused fault why same stays words said) = idle_flushes line Grown old new a b (idle_same old mine new before after a b is is2 whole same stays) (λ sheet backed stood whole2. unmoved same sheet)
    by_case a b is is2 ran (unchanged free none same stays words said) = idle_flushes line Grown old new a b (idle_same old mine new before after a b is is2 whole same stays) (λ sheet backed stood whole2. unmoved same sheet)
    by_case a b is is2 ran (changed one free some roomy steps words said) = idle_flushes line Grown old new a b (step_idles old mine new one step before after a b is is2 whole steps)
        (λ sheet backed stood whole2. grows sheet sheet (step_now old mine new one step before after steps a is sheet backed stood whole2))
    by_case a b is is2 ran (not_flushed fault free some first flush undamaged said) = absurd (sealed fault said)
    by_case a b is is2 ran (flushed_and_changed mid between one free some first flush steps said) =
        let was = was_flushed old mine mid before between random random' flush in
        let m = back_to (Ran IsImage Stays) between.honest after.honest b is2 steps.disk in
        seal_flushes line Grown old new a b mine.is_target (flushed_step old mine mid new one step before between after was steps a b is is2 whole ran (read_image after.honest b is2 reads))
        (λ base sheet from.
        let seals = was.seals base from.linked from.backed in
        let next = from.is_next ∙ flushed_next old mine mid new one step before between after was steps a b is is2 whole ran (read_image after.honest b is2 reads) base from.linked from.backed in (
          ap (λ (x : Sheet). x.content) next ∙ seals.is_next.content_is,
          λ whole2. grows base sheet (ap (λ (x : Sheet). now x new.tree) next ∙ flushed_now old mine mid new one step before between after was steps a m.0 b is m.1 base from.linked from.backed from.stood whole2),
        ))

module _ (result : Result Written SizeFault) (n : ℕ) (old new : SessionState) (before after : HostState) (random random' : WordsState) (mine : IsOfScript old) (sets : SetsSize result n old new before after random random') where
  sets_flushes : (line : ScriptLine) (Grown : Growing) → ((content : List ℕ) → Grown content content) → ((content : List ℕ) → length content ≡ old.tree.size → Grown content (applied (Size n) content))
      → ((fault : FlushFault) → ¬ (result ≡ Err (size_of_flush fault))) → OnDisk before after (FlushesOnly line Grown old new)
  sets_flushes line Grown stays_as made sealed = change_flushes line Grown old mine SizeFault (SizeRefused n old.tree.size) (n ≡ old.tree.size) size_of_flush size_of_tree (Size n) result new before after random random' stays_as made sets.whole sealed sets.goes sets.aside sets.reads

-- sizes are set of a session that is not broken
whole_at : {result : Result (Unit {0}) SizeFault} {size : ℕ} {old new : SessionState} {before after : HostState} {random random' : WordsState} → SizesGo result size old new before after random random' → old.broken ≡ false
whole_at (set_last written old new before after random random' near sets said) = sets.whole
whole_at (set_failed fault n old new before after random random' next sets said) = sets.whole
whole_at (set_piece written old mid new before between after random random' random2 far sets rest) = sets.whole

-- sizes that did not fail in a flush
pub size_flushes : (k size : ℕ) (result : Result (Unit {0}) SizeFault) → ((fault : FlushFault) → ¬ (result ≡ Err (size_of_flush fault))) → {old new : SessionState} {before after : HostState} {random random' : WordsState} → IsOfScript old
    → SizesGo result size old new before after random random' → OnDisk before after (FlushesOnly (lines.Size k size) Any old new)
size_flushes k size result sealed mine (set_last written old new before after random random' near sets said) =
    sets_flushes (Ok written) size old new before after random random' mine sets (lines.Size k size) Any (λ content. tt) (λ content long. tt) (λ fault is. absurd (cc))
size_flushes k size result sealed mine (set_failed fault n old new before after random random' next sets said) =
    sets_flushes (Err fault) n old new before after random random' mine sets (lines.Size k size) Any (λ content. tt) (λ content long. tt) (λ other is. sealed other (said ∙ ap fault_in (same_error fault (size_of_flush other) is)))
  where
    fault_in : SizeFault → Result (Unit {0}) SizeFault
    fault_in fault = Err fault

    same_error : (one two : SizeFault) → ◌≡◌ {A = Result Written SizeFault} (Err one) (Err two) → one ≡ two
    same_error one two is = cc
size_flushes k size result sealed mine (set_piece written old mid new before between after random random' random2 far sets rest) =
    let line = lines.Size k size in
    let n = old.tree.size + PIECE in
    both_through (FlushesOnly line (Zeros size) old mid) (FlushesOnly line Any mid new) (FlushesOnly line Any old new) before.honest between.honest after.honest
    (sets_flushes (Ok written) n old mid before between random random' mine sets line (Zeros size) (λ content. (0, sym (append-nil content), inl refl)) (λ content long. grown n content (omega (arith, long)) far) (λ fault is. absurd (cc))) sets.reads
    (size_flushes k size result sealed (of_set (Ok written) n old mid before between random random' mine sets) rest)
    (λ a m b. flushes_then k size old mid new a m b (set_name (Ok written) n old mid before between random random' mine sets) (whole_at rest))
  where
    grown : (n : ℕ) (content : List ℕ) → length content ≤ n → n < size → Zeros size content (applied (Size n) content)
    grown n content below far = (n - length content, ap (λ (c : List ℕ). c ++ replicate (n - length content) 0) (take_all n content below), inr (omega (arith, below, far)))
