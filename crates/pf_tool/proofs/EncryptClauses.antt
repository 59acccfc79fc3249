-- What a run of `encrypt` that found its input comes to: by the answers that were told, by files, and on a disk.
use Rattle.std.proofs.Common.{◌≡◌, ◌⊎◌, inl, inr, ⊎_elim, ℕ, ◌+◌, ◌<◌, ◌≤◌, Bool, true, false, cond, List, [], ◌∷◌, ◌++◌, length, take, filter, refl, sym, ap, subst, ◌∙◌, arith, append_assoc, Option, Some, None, IfSome, Result, Ok}
use Rattle.std.specs.Prelude.{Contains, ◌&&◌, bytes_eq, option_map}
use Rattle.std.specs.List.{AllByRecursion, concat}
use Rattle.std.proofs.lemmas.List.{append-nil, append_cancel_left}
use Rattle.std.proofs.lemmas.Option.{IfSome_then}
use Rattle.node_layout.specs.Metadata.{MOST_SIZE}
use Rattle.pf_io.specs.Counts.{counted}
use Rattle.pf_io.specs.Answered.{IsAnswerOf, WereTold}
use Rattle.pf_io.specs.Disk.{Name, File, Disk, Image, IsImage, Files, reading}
use Rattle.pf_io.specs.Host.{Answer, LengthWas, Gave, HostState, Both, IsMore, files_of, contents}
use Rattle.pf_io.specs.Moments.{Honest, Ran}
use Rattle.pf_io.specs.Steps.{Stays}
use Rattle.pf_io.specs.Streams.{SinkState, TakesFront}
use Rattle.pf_io.specs.Words.{WordsState}
use Rattle.pf_io.proofs.Runs.{goes_on_ran}
use Rattle.pf_io.proofs.Telling.{both_then, both_weaker, both_same}
use Rattle.pf_session.specs.Asking.{IsTaken}
use Rattle.pf_tool.specs.World.{World, with_log, with_host, with_random}
use Rattle.pf_tool.specs.Events.{Event, Answers, answers_in}
use Rattle.pf_tool.specs.Endings.{Ending, Done, Refused, TooLarge, AtEnd}
use Rattle.pf_tool.specs.Keys.{key_unnamed, key_absent, key_length, key_short, key_events, KeyOver}
use Rattle.pf_tool.specs.Encrypting.{EncryptRefused, no_key, names_unfit, input_absent, InputFound, over_large, over_done, user_on, content_on, IsVersion}
use Rattle.pf_tool.specs.Outcomes.{Concludes}
use Rattle.pf_tool.specs.Reports.{WroteAll, Reports}
use Rattle.pf_tool.specs.Requests.{Encrypt}
use Rattle.pf_tool.specs.Runs.{NoneCounted, Honestly, as_files_give, starved, MayBeNew, OutputLeft, OutputEnds, LeavesOutput}
use Rattle.pf_tool.specs.SealedContents.{is_piece_of, piece_answers, GavePieces, TakenInPieces, SealedLast, GaveSealed}
use Rattle.pf_tool.specs.SealingInput.{SealsInput}
use Rattle.pf_tool.specs.SideFiles.{IsNewFile}
use Rattle.pf_tool.specs.declared.fault.Fault.{Fault}
use Rattle.pf_tool.proofs.DecryptLaws.{key_apart}
use Rattle.pf_tool.proofs.KeyOver.{there_of, key_read_over}
use Rattle.pf_tool.proofs.NodeReading.{kept_files}
use Rattle.pf_tool.proofs.PlainWriting.{ran_weaker}
use Rattle.pf_tool.proofs.RunStops.{wrote_nothing}
use Rattle.pf_tool.proofs.SealDisks.{HasVersion, alone_left}
use Rattle.pf_tool.proofs.SheetWrites.{alone_then}
use Rattle.pf_tool.proofs.PiecesStand.{kept_alone}
use Rattle.pf_tool.proofs.SealSummary.{Large, TellsEnd, TellsSealed, SizeOver, MayBe, SealDisk, kept_out, new_out, Sealing}
use Rattle.pf_tool.proofs.EncryptRuns.{end_status, end_line, end_said, SealEnd, was_done, was_large, was_starved, host_failed, no_word, seal_end, sealing_of, out_kept}

and_false : (b : Bool) → (b && false) ≡ false
and_false true = refl
and_false false = refl

-- the bytes of a key are no piece
key_none : (input key : Name) (user : List ℕ) (rest : List Answer) → filter (is_piece_of input) (Gave key 0 16 user ∷ rest) ≡ filter (is_piece_of input) rest
key_none input key user rest = ap (λ (b : Bool). cond b (Gave key 0 16 user ∷ filter (is_piece_of input) rest) (filter (is_piece_of input) rest)) (and_false (bytes_eq key input))

-- the answers up to the sealing
abbrev first_answers : Name → List ℕ → Name → ℕ → List Answer
first_answers key user input size = LengthWas key (Some 16) ∷ Gave key 0 16 user ∷ LengthWas input (Some size) ∷ []

first_none : (key : Name) (user : List ℕ) (input : Name) (size : ℕ) (rest : List Answer) → filter (is_piece_of input) (first_answers key user input size ++ rest) ≡ filter (is_piece_of input) rest
first_none key user input size rest = key_none input key user (LengthWas input (Some size) ∷ rest)

-- no piece is among the answers of a refusal
pub refused_none : (key input output : Name) (es : List Event) (ending : Ending) → EncryptRefused key input output es ending → filter (is_piece_of input) (answers_in es) ≡ []
refused_none key input output es ending (no_key (key_unnamed u is ends)) = ap (λ (l : List Event). filter (is_piece_of input) (answers_in l)) is
refused_none key input output es ending (no_key (key_absent named is ends)) = ap (λ (l : List Event). filter (is_piece_of input) (answers_in l)) is
refused_none key input output es ending (no_key (key_length n named other is ends)) = ap (λ (l : List Event). filter (is_piece_of input) (answers_in l)) is
refused_none key input output es ending (no_key (key_short bytes named short is ends)) = ap (λ (l : List Event). filter (is_piece_of input) (answers_in l)) is ∙ key_none input key bytes []
refused_none key input output es ending (names_unfit user has unfit is ends) = ap (λ (l : List Event). filter (is_piece_of input) (answers_in l)) is ∙ key_none input key user []
refused_none key input output es ending (input_absent user has target fit is ends) = ap (λ (l : List Event). filter (is_piece_of input) (answers_in l)) is ∙ key_none input key user (LengthWas input None ∷ [])

same_pieces : (input : Name) (at : ℕ) (xs ys : List (List ℕ)) → piece_answers input at xs ≡ piece_answers input at ys → xs ≡ ys
same_pieces input at [] [] same = refl
same_pieces input at [] (y ∷ ys) same = absurd (cc)
same_pieces input at (x ∷ xs) [] same = absurd (cc)
same_pieces input at (x ∷ xs) (y ∷ ys) same =
    let head : x ≡ y = cc in
    let tail : piece_answers input (at + length x) xs ≡ piece_answers input (at + length y) ys = cc in
    let there : piece_answers input (at + length x) xs ≡ piece_answers input (at + length x) ys = subst (λ (l : List ℕ). piece_answers input (at + length x) xs ≡ piece_answers input (at + length l) ys) (sym head) tail in
    let rest = same_pieces input (at + length x) xs ys there in
    cc

-- what several calls told, where the host told these
told_at : (P : List Answer → List Answer → Type 0) (old new : HostState) (these : List Answer) → Both old.given new.given P → WereTold these old new → (before : List Answer) × P before (before ++ these)
told_at P old new these told were = (were.before, subst (λ (o : Option (List Answer)). Both (Some were.before) o P) were.now (subst (λ (o : Option (List Answer)). Both o new.given P) were.was told))

module _ (key input output : Name) (old new : World) (status : ℕ) (ended : Result (Unit {0}) Fault) (concludes : Concludes ended old.log new.log status) (user : List ℕ) (mid : World) (found : InputFound key input output user old mid)
    (seals : SealsInput user input output ended mid.host new.host mid.random new.random) (rest : with_log new old.log ≡ with_random (with_host mid new.host) new.random) where
  s : Sealing user input output ended mid.host new.host mid.random new.random
  s = sealing_of key input output old new status ended concludes user mid found seals rest

  said : ((status ≡ end_status ended) × WroteAll (end_line ended) old.log new.log) ⊎ ((status ≡ 7) × (new.log.faults ≡ counted old.log.faults))
  said = end_said ended old.log new.log status concludes

  abbrev First : List Answer
  First = first_answers key user input found.size

  -- behind the first answers came these
  behind : (P : List Answer → List Answer → Type 0) (these : List Answer) → Both mid.host.given new.host.given (λ before now. (those : List Answer) × (now ≡ before ++ those) × P before those) → WereTold these old.host new.host → (those : List Answer) × (before : List Answer) × (these ≡ First ++ those) × P before those
  behind P these told were =
      let all = told_at (λ before now. (b : List Answer) × (those : List Answer) × (now ≡ before ++ (First ++ those)) × P b those) old.host new.host these
      (both_then (IsMore First) (λ before now. (those : List Answer) × (now ≡ before ++ those) × P before those) (λ before now. (b : List Answer) × (those : List Answer) × (now ≡ before ++ (First ++ those)) × P b those) old.host.given mid.host.given new.host.given found.passed.host.told told
      (λ a b c one two. (b, two.0, two.1 ∙ ap (λ (l : List Answer). l ++ two.0) one ∙ append_assoc a First two.0, two.2))) were in
      (all.1.1, all.1.0, append_cancel_left all.0 these (First ++ all.1.1) all.1.2, all.1.3)

  -- the key and the pieces were given, and what was sealed has them
  pub found_content : (these : List Answer) → WereTold these old.host new.host → status ≡ 0 → GaveSealed key input output these old.random new.random
  found_content these were zero_is = by_end (seal_end ended mid.host new.host mid.random new.random s.counts) where
    by_end : SealEnd ended mid.host new.host mid.random new.random → GaveSealed key input output these old.random new.random
    by_end (was_done is host random) =
        let b = behind (λ before those. (content : List ℕ) × TakenInPieces input those content × SealedLast user output content those mid.random new.random) these
        (both_weaker (TellsSealed user input output mid.random new.random) (λ before now. (those : List Answer) × (now ≡ before ++ those) × ((content : List ℕ) × TakenInPieces input those content × SealedLast user output content those mid.random new.random))
        mid.host.given new.host.given (s.gave is) (λ a c t. (t.0, t.1, (t.2, t.3, t.4)))) were in
        let taken = b.3.1 in
        let sealed = b.3.2 in
        let all = b.2 in
        record {
          user = user;
          content = b.3.0;
          key_given = subst (λ (l : List Answer). Contains l (Gave key 0 16 user)) (sym all) (1, omega arith, refl);
          taken = record {
            whole = taken.whole;
            last = taken.last;
            are_whole = taken.are_whole;
            short = taken.short;
            gave = ap (λ (l : List Answer). filter (is_piece_of input) l) all ∙ first_none key user input found.size b.0 ∙ taken.gave;
            content_is = taken.content_is;
          };
          sealed = record {
            base = sealed.base;
            tree = sealed.tree;
            linked = sealed.linked;
            backs = sealed.backs;
            earlier = sealed.earlier;
            before = sealed.before;
            taken = subst (λ (r : WordsState). Both r.left sealed.before.left (IsTaken sealed.earlier)) (found.passed.random.untouched refl) sealed.taken;
            nonce = sealed.nonce;
            keys = sealed.keys;
            words_came = sealed.words_came;
            next = sealed.next;
            is_next = sealed.is_next;
            content_is = sealed.content_is;
            sealed = sealed.sealed;
            shape = sealed.shape;
            as_sealed = sealed.as_sealed;
            front = First ++ sealed.front;
            last_calls = all ∙ ap (λ (l : List Answer). First ++ l) sealed.last_calls;
          };
        }
    by_end (was_large is host random) = absurd (⊎_elim (λ both. let e = ap end_status is in omega (arith, both.0, e, zero_is)) (λ both. omega (arith, both.0, zero_is)) said)
    by_end (was_starved is host random) = absurd (⊎_elim (λ both. let e = ap end_status is in omega (arith, both.0, e, zero_is)) (λ both. omega (arith, both.0, zero_is)) said)
    by_end (host_failed is host random) = absurd (⊎_elim (λ both. let e = ap end_status is in omega (arith, both.0, e, zero_is)) (λ both. omega (arith, both.0, zero_is)) said)
    by_end (no_word is host random) = absurd (⊎_elim (λ both. let e = ap end_status is in omega (arith, both.0, e, zero_is)) (λ both. omega (arith, both.0, zero_is)) said)

  -- its answers are those of no refusal
  pub not_refused : (es : List Event) (ending : Ending) → EncryptRefused key input output es ending → WereTold (answers_in es) old.host new.host → ⊥
  not_refused es ending refused were = apart es ending refused b.0 b.2 where
    b : (those : List Answer) × (before : List Answer) × (answers_in es ≡ First ++ those) × Unit {0}
    b = behind (λ before those. Unit {0}) (answers_in es) (both_weaker (TellsEnd input ended) (λ before now. (those : List Answer) × (now ≡ before ++ those) × Unit {0}) mid.host.given new.host.given s.told (λ a c t. (t.0, t.1, tt))) were

    apart : (es : List Event) (ending : Ending) → EncryptRefused key input output es ending → (those : List Answer) → answers_in es ≡ First ++ those → ⊥
    apart es ending (no_key refused) those same =
        key_apart key es (key_events key user ++ Answers (LengthWas input (Some found.size)) ∷ []) ending user (Answers (LengthWas input (Some found.size)) ∷ []) [] those refused found.is_key refl (append-nil (answers_in es) ∙ same)
    apart es ending (names_unfit user2 has unfit is ends) those same = ⊎_elim (λ never. never found.is_target) (λ never. never found.is_input) unfit
    apart es ending (input_absent user2 has target fit is ends) those same =
        let all : LengthWas key (Some 16) ∷ Gave key 0 16 user2 ∷ LengthWas input None ∷ [] ≡ LengthWas key (Some 16) ∷ Gave key 0 16 user ∷ LengthWas input (Some found.size) ∷ those = sym (ap (λ (l : List Event). answers_in l) is) ∙ same in
        cc

  -- more bytes were given than a content may have
  pub found_large : (these : List Answer) (pieces : List (List ℕ)) → WereTold these old.host new.host → GavePieces input these pieces → MOST_SIZE < length (concat pieces) → Reports (AtEnd (Refused TooLarge)) old.log new.log status
  found_large these pieces were gave large =
      let b = behind (λ before those. (ps : List (List ℕ)) × (filter (is_piece_of input) those ≡ piece_answers input 0 ps) × ((length (concat ps) ≤ MOST_SIZE) ⊎ (ended ≡ Large))) these
      (both_weaker (TellsEnd input ended) (λ before now. (those : List Answer) × (now ≡ before ++ those) × ((ps : List (List ℕ)) × (filter (is_piece_of input) those ≡ piece_answers input 0 ps) × ((length (concat ps) ≤ MOST_SIZE) ⊎ (ended ≡ Large))))
      mid.host.given new.host.given s.told (λ a c t. (t.0, t.1, (t.2, t.3, t.4)))) were in
      let same = same_pieces input 0 pieces b.3.0 (sym gave ∙ ap (λ (l : List Answer). filter (is_piece_of input) l) b.2 ∙ first_none key user input found.size b.0 ∙ b.3.1) in
      ⊎_elim (λ small. absurd (let e = ap (λ (l : List (List ℕ)). length (concat l)) same in omega (arith, small, large, e))) (λ is. subst (λ (e : Result (Unit {0}) Fault). Concludes e old.log new.log status) is concludes) b.3.2

  module _ (files : Files) (is : files_of old.host ≡ Some files) (none : NoneCounted old new) where
    answers_of : AllByRecursion (IsAnswerOf files) First
    answers_of = subst (λ (o : Option Files). IfSome o (λ f. AllByRecursion (IsAnswerOf f) First)) is found.passed.host.honest

    key_over : KeyOver files key (Ok user)
    key_over = key_read_over files key user (LengthWas input (Some found.size) ∷ []) found.is_key answers_of

    there : (bytes : List ℕ) × (files input ≡ Some bytes) × (length bytes ≡ found.size)
    there = there_of (files input) found.size answers_of.1.1.0

    over : SizeOver ended there.0
    over =
        let o = subst (λ (x : Option Files). IfSome x (λ f. SizeOver ended (contents (f input)))) (kept_files old.host mid.host found.disk ∙ is) s.over in
        subst (λ (x : Option (List ℕ)). SizeOver ended (contents x)) there.1 o

    wrote_none : WroteAll (concat []) old.out new.out
    wrote_none = wrote_nothing old.out new.out (out_kept key input output old new status ended concludes user mid found seals rest)

    by_end : SealEnd ended mid.host new.host mid.random new.random → Honestly (Encrypt key input output) files old new status
    by_end (was_done same host random) =
        ⊎_elim (λ both. as_files_give [] Done (refl, over_done user there.0 key_over found.is_target found.is_input there.1 (over.fits same) refl) (both.0 ∙ ap end_status same) wrote_none (subst (λ (l : List ℕ). WroteAll l old.log new.log) (ap end_line same) both.1))
        (λ both. absurd (none.log both.1)) said
    by_end (was_large same host random) =
        ⊎_elim (λ both. as_files_give [] (Refused TooLarge) (refl, over_large user there.0 key_over found.is_target found.is_input there.1 (over.large same) refl) (both.0 ∙ ap end_status same) wrote_none
        (subst (λ (l : List ℕ). WroteAll l old.log new.log) (ap end_line same) both.1))
        (λ both. absurd (none.log both.1)) said
    by_end (was_starved same host random) =
        ⊎_elim (λ both. starved (λ pieces ending gives. both_same (TakesFront (concat pieces)) old.out.bytes new.out.bytes (ap (λ (o : SinkState). o.bytes) (out_kept key input output old new status ended concludes user mid found seals rest))
        (λ bytes. record { count = 0; taken = sym (append-nil bytes) })) (both.0 ∙ ap end_status same) (subst (λ (l : List ℕ). WroteAll l old.log new.log) (ap end_line same) both.1))
        (λ both. absurd (none.log both.1)) said
    by_end (host_failed same host random) = absurd (none.host (host ∙ ap counted found.passed.host.calm))
    by_end (no_word same host random) = absurd (none.random (random ∙ ap counted found.passed.random.calm))

    pub found_honest : Honestly (Encrypt key input output) files old new status
    found_honest = by_end (seal_end ended mid.host new.host mid.random new.random s.counts)

  done_zero : ended ≡ Ok tt → status ≡ 0
  done_zero is = (subst (λ (e : Result (Unit {0}) Fault). Concludes e old.log new.log status) is concludes).0

  not_zero : (n : ℕ) → 1 ≤ n → end_status ended ≡ n → status ≡ 0 → ⊥
  not_zero n some is zero_is = ⊎_elim (λ both. omega (arith, both.0, is, zero_is, some)) (λ both. omega (arith, both.0, zero_is)) said

  zero_done : status ≡ 0 → SealEnd ended mid.host new.host mid.random new.random → ended ≡ Ok tt
  zero_done zero_is (was_done is host random) = is
  zero_done zero_is (was_large is host random) = absurd (not_zero 3 (omega arith) (ap end_status is) zero_is)
  zero_done zero_is (was_starved is host random) = absurd (not_zero 5 (omega arith) (ap end_status is) zero_is)
  zero_done zero_is (host_failed is host random) = absurd (not_zero 4 (omega arith) (ap end_status is) zero_is)
  zero_done zero_is (no_word is host random) = absurd (not_zero 6 (omega arith) (ap end_status is) zero_is)

  is_done : status ≡ 0 → ended ≡ Ok tt
  is_done zero_is = zero_done zero_is (seal_end ended mid.host new.host mid.random new.random s.counts)

  may : MayBe ended mid.host new.host → MayBeNew old new status
  may (inl is) = inl (done_zero is)
  may (inr once) = inr (once ∙ ap counted found.passed.host.calm)

  abbrev Version : Disk → Option (List ℕ) → Type 0
  Version disk file = IsVersion key input output disk file

  module _ (content : List ℕ) where
    abbrev Fixed : Disk → Option (List ℕ) → Type 0
    Fixed disk file = HasVersion user output content file

    -- the disk is as before, with the key and the content
    record AsBefore (d e : Disk) : Type 0 where
      same : e ≡ d
      user_is : user ≡ user_on d key
      content_is : content ≡ content_on d input

    version : (d e : Disk) → AsBefore d e → (file : Option (List ℕ)) → HasVersion user output content file → Version d file
    version d e known file has = subst (λ (u : List ℕ). HasVersion u output (content_on d input) file) known.user_is (subst (λ (c : List ℕ). HasVersion user output c file) known.content_is has)

    left : (d e : Disk) → AsBefore d e → (image : Image) → OutputLeft output Fixed (MayBe ended mid.host new.host) e image → OutputLeft output Version (MayBeNew old new status) d image
    left d e known image was =
        let w = subst (λ (x : Disk). OutputLeft output Fixed (MayBe ended mid.host new.host) x image) known.same was in
        record { here = ⊎_elim (λ before. inl before) (λ both. inr (may both.0, version d e known (image output) both.1)) w.here; others = w.others }

    new_version : (d e : Disk) → AsBefore d e → (file : Option File) → IsNewFile (Fixed d) file → IsNewFile (Version d) file
    new_version d e known file f = record { file = f.file; there = f.there; settled = f.settled; is_new = version d e known (Some f.file.bytes) f.is_new }

    ends : (d e f : Disk) → AsBefore d e → OutputEnds output Fixed (MayBe ended mid.host new.host) (ended ≡ Ok tt) e f → OutputEnds output Version (MayBeNew old new status) (status ≡ 0) d f
    ends d e f known was =
        let w = subst (λ (x : Disk). OutputEnds output Fixed (MayBe ended mid.host new.host) (ended ≡ Ok tt) x f) known.same was in
        record {
          done = λ zero_is. new_version d e known (f output) (w.done (is_done zero_is));
          here = ⊎_elim (λ before. inl before) (λ both. inr (may both.0, new_version d e known (f output) both.1)) w.here;
          others = w.others;
        }

    from_start : (o p q : Option Honest) → Both o p (Ran IsImage Stays) → IfSome (option_map (λ (h : Honest). reading h.now) o) (λ files. user ≡ take 16 (contents (files key)))
        → IfSome (option_map (λ (h : Honest). reading h.now) p) (λ files. content ≡ contents (files input)) → Both p q (Ran (OutputLeft output Fixed (MayBe ended mid.host new.host)) (OutputEnds output Fixed (MayBe ended mid.host new.host) (ended ≡ Ok tt)))
        → Both o q (Ran (OutputLeft output Version (MayBeNew old new status)) (OutputEnds output Version (MayBeNew old new status) (status ≡ 0)))
    from_start (Some a) (Some m) (Some b) kept user_is content_is ran =
        let w = ran_weaker IsImage (OutputLeft output Version (MayBeNew old new status)) Stays Stays (Some a) (Some m) kept (λ d image is. record { here = inl (is output); others = λ other ne apart. is other }) (λ d e same. same) in
        let known : AsBefore a.now m.now = record { same = kept.ends; user_is = user_is; content_is = subst (λ (d : Disk). content ≡ content_on d input) kept.ends content_is } in
        let first : Ran (OutputLeft output Version (MayBeNew old new status)) AsBefore a m = record { leaves = w.leaves; ends = known } in
        goes_on_ran (OutputLeft output Version (MayBeNew old new status)) (OutputLeft output Fixed (MayBe ended mid.host new.host)) AsBefore (OutputEnds output Fixed (MayBe ended mid.host new.host) (ended ≡ Ok tt))
        (OutputEnds output Version (MayBeNew old new status) (status ≡ 0)) (Some a) (Some m) (Some b) first ran left ends
    from_start None None None kept user_is content_is ran = tt
    from_start (Some a) None q kept user_is content_is ran = absurd kept
    from_start None (Some m) q kept user_is content_is ran = absurd kept
    from_start (Some a) (Some m) None kept user_is content_is ran = absurd ran
    from_start None None (Some b) kept user_is content_is ran = absurd ran

  -- what stands on the disk
  pub found_disk : LeavesOutput output (IsVersion key input output) old new status
  found_disk = by s.disk where
    by : SealDisk user input output ended mid.host new.host → LeavesOutput output (IsVersion key input output) old new status
    by (kept_out never alone) =
        alone_left output Version (MayBeNew old new status) (status ≡ 0) old.host new.host (λ zero_is. never (is_done zero_is)) (alone_then output old.host mid.host new.host (kept_alone output old.host mid.host found.disk) alone)
    by (new_out content same ran) = from_start content old.host.honest mid.host.honest new.host.honest found.disk (IfSome_then (files_of old.host) found.passed.host.honest (λ (f : Files) all. all.1.0)) same ran
