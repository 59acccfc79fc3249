-- How a line goes on by a change of its session.
use Rattle.std.proofs.Common.{◌≡◌, inl, inr, Bool, true, false, List, [], ◌∷◌, ◌++◌, ℕ, refl, sym, ◌∙◌, ap, subst, None, Result, Ok, Err, length}
use Rattle.std.specs.Prelude.{Contains}
use Rattle.std.proofs.lemmas.List.{append-nil, append_assoc}
use Rattle.std.proofs.lemmas.List.Elements.{Contains-push}
use Rattle.node_tree.specs.Applying.{Step}
use Rattle.node_tree.specs.Opened.{Given}
use Rattle.node_tree.specs.Sheet.{Sheet}
use Rattle.node_tree.specs.State.{TreeState}
use Rattle.node_tree.specs.Unforged.{Unforged, GivenOf}
use Rattle.node_tree.specs.declared.fault.TreeFault.{TreeFault}
use Rattle.node_tree.specs.declared.fault.TreeFault.TheVariants as trees
use Rattle.pf_io.specs.Disk.{Name}
use Rattle.pf_io.specs.Host.{Answer}
use Rattle.pf_session.specs.Backing.{StandsOn}
use Rattle.pf_session.specs.Changing.{IsFlushedFirst, IsRoomy, StepState}
use Rattle.pf_session.specs.State.{SessionState}
use Rattle.pf_script.specs.BookActs.{Flush, Act}
use Rattle.pf_script.specs.BookDebts.{seat_of}
use Rattle.pf_script.specs.DeskSteps.{MaySeal, Unfolds, in_the_end, then_more, SomeSeatTurn}
use Rattle.pf_script.specs.Rules.{NoneRefuses, rules}
use Rattle.pf_script.specs.Script.{OwnSeat, Own, sheets_of}
use Rattle.pf_script.specs.SeatReplies.{flush_reply}
use Rattle.pf_script.specs.SeatSteps.{AsksFor}
use Rattle.pf_script.specs.Turns.{Blame, ByHost, ByDamage, flushes, BlamesFlush, BlamesFetch}
use Rattle.pf_script.specs.declared.line.ScriptLine.{ScriptLine}
use Rattle.pf_script.specs.declared.reply.Reply.TheVariants as replies
use Rattle.pf_script.proofs.ChangeTold.{Grew, Outcome, Went, Broke, Lacked, Wanted, outcome_of, ChangeTold, told_once, told_lacked, told_unflushed, told_after, flush_more, fetch_more}
use Rattle.pf_script.proofs.Flushed.{SealsOwn, host_blamed, fault_of}
use Rattle.pf_script.proofs.SeatCalls.{seen_by}
use Rattle.pf_script.proofs.StepFacts.{StepFacts, flushes_first, fits_at}
use Rattle.pf_script.proofs.StepTurns.{flushes_on, Made, LineEnds, gives, may_flush, fetch_failed, no_word, flush_failed, fetch_failed_after, made_more, made_after}

-- `before_it` came before the change, and `rest` after it; the words that were taken after it are `back`
module _ (key : List ℕ) (sealed : List Sheet) (own : OwnSeat) (line : ScriptLine) (given : List Answer) (all : List (List ℕ)) (of_host of_words : Bool) (before_it these rest : List Answer) (split : given ≡ before_it ++ these ++ rest) (P : List Act → Type 0)
    (old : SessionState) (made : List Step) (words : List (List ℕ)) (sheets : List Sheet) (base : Sheet) (was : Made sealed own old made words sheets base)
    (step : Step) (steps : List Step) (asks : AsksFor line (length own.content) (made ++ step ∷ steps)) (new : SessionState) (more back : List (List ℕ)) (in_order : all ≡ words ++ more ++ back) where
  -- the line goes on behind these acts
  abbrev pub Going : List Act → Type 0
  Going acts = Unfolds key sealed (MaySeal (SomeSeatTurn key sealed false (Own own) line) (seen_by given all of_host of_words)) P given acts

  -- what is to be shown of each way to end
  pub record Continues (outcome : Outcome) : Type 0 where
    pub went : (flushed : Bool) → outcome ≡ Went flushed → (sheets' : List Sheet) (base' : Sheet) → Grew flushed sheets sheets' → Made sealed own new (made ++ step ∷ []) (words ++ more) sheets' base' → Going (flushes own sheets')
    pub broke : (blame : Blame) → outcome ≡ Broke blame → (acts : List Act) → LineEnds key sealed own line given (words ++ more) (host_blamed blame) false (flush_reply (fault_of blame)) new acts → P acts
    pub lack : outcome ≡ Lacked → (acts : List Act) → LineEnds key sealed own line given (words ++ more) false true replies.WordsFault new acts → P acts
    pub memory : ¬ (outcome ≡ Wanted)
    pub passes : (these : List Answer) → NoneRefuses (rules key false (Own own) line these)

  split_at : (front middle : List Answer) → these ≡ front ++ middle → given ≡ before_it ++ front ++ middle ++ rest
  split_at front middle is = split ∙ ap (λ (l : List Answer). before_it ++ l ++ rest) is ∙ ap (λ (l : List Answer). l ++ rest) (sym (append_assoc before_it front middle))

  -- what was given of a sheet, by what came until then
  until : (sheets' : List Sheet) (sheet : Sheet) (name : Name) (front middle : List Answer) → Contains (sealed ++ sheets') sheet → Unforged key (sealed ++ sheets_of (flushes own sheets')) (front ++ middle) → GivenOf sheet (Given name middle)
  until sheets' sheet name front middle among unforged =
      gives key sealed own line (front ++ middle) sheets' sheet name front middle [] among (sym (append-nil (front ++ middle))) unforged

  -- the change goes on, once it is known what came
  seen_until : (sheets' : List Sheet) (sheet : Sheet) (name : Name) (front middle : List Answer) → Contains (sealed ++ sheets') sheet → given ≡ front ++ middle ++ rest → (GivenOf sheet (Given name middle) → Going (flushes own sheets'))
      → Going (flushes own sheets')
  seen_until sheets' sheet name front middle among parts go =
      then_more (flushes own sheets') [] (front ++ middle) rest parts (inl refl)
      (λ unforged. subst Going (sym (append-nil (flushes own sheets'))) (go (until sheets' sheet name front middle among unforged)))

  -- why a fetch failed, among all that was given
  fetch_blames : (sheet : Sheet) (name : Name) (front middle : List Answer) (blame : Blame) → name ≡ own.name → given ≡ front ++ middle ++ rest → BlamesFetch sheet name middle blame → BlamesFetch sheet own.name given blame
  fetch_blames sheet name front middle blame same parts blames =
      subst (λ (n : Name). BlamesFetch sheet n given blame) same (subst (λ (l : List Answer). BlamesFetch sheet name l blame) (sym parts) (fetch_more sheet name front middle rest blame blames))

  -- a step at once
  module _ (roomy : IsRoomy step old.tree) (none : more ≡ []) where
    words_are : words ++ more ≡ words
    words_are = ap (λ (w : List (List ℕ)). words ++ w) none ∙ append-nil words

    once_failed : (blame : Blame) → Continues (Broke blame) → (GivenOf base (Given old.name these) → BlamesFetch base old.name these blame) → new.key ≡ old.key → new.name ≡ old.name → new.broken ≡ true → Going (flushes own sheets)
    once_failed blame go blames key_is name_is broken =
        in_the_end (flushes own sheets)
        (λ unforged. go.broke blame refl (flushes own sheets)
        (subst (λ (w : List (List ℕ)). LineEnds key sealed own line given w (host_blamed blame) false (flush_reply (fault_of blame)) new (flushes own sheets)) (sym words_are)
        (fetch_failed key sealed own line given old made words sheets base was step steps asks new key_is name_is go.passes blame (fits_at base old step roomy)
        (fetch_blames base old.name before_it these blame was.name_is split (blames (gives key sealed own line given sheets base old.name before_it these rest was.among split unforged))) broken)))

    once : (r : Result (Unit {0}) TreeFault) → Continues (outcome_of false r) → StepFacts r step old new these → StepState r old new → Going (flushes own sheets)
    once (Ok ok) go facts state =
        seen_until sheets base old.name before_it these was.among split
        (λ of_base.
        let out = facts base was.kept.backed of_base in
        go.went false refl sheets base refl
        (subst (λ (w : List (List ℕ)). Made sealed own new (made ++ step ∷ []) w sheets base) (sym words_are)
        (made_more key sealed own line given old made words sheets base was step new (ap (λ (s : SessionState). s.changed) state) (ap (λ (s : SessionState). s.key) state) (ap (λ (s : SessionState). s.name) state) (ap (λ (s : SessionState). s.broken) state ∙ was.whole)
        (fits_at base old step roomy) out.0 out.1)))
    once (Err (trees.Damaged damage)) go facts state =
        once_failed (ByDamage damage) go (facts base was.kept.backed) (ap (λ (s : SessionState). s.key) state) (ap (λ (s : SessionState). s.name) state) (ap (λ (s : SessionState). s.broken) state)
    once (Err trees.Host) go facts state = once_failed ByHost go (λ of_base. tt) (ap (λ (s : SessionState). s.key) state) (ap (λ (s : SessionState). s.name) state) (ap (λ (s : SessionState). s.broken) state)
    once (Err trees.Memory) go facts state = absurd (go.memory refl)

  -- a step after a flush
  module _ (first : IsFlushedFirst step old.tree) (mid : SessionState) (front those : List Answer) (parts : these ≡ front ++ those) (seals : SealsOwn old more (λ next. StandsOn next mid)) {nonce : List ℕ} {tree : TreeState}
      (same : mid ≡ record old { nonce = nonce; drawn = None; tree = tree; changed = false }) (dirty : mid.tree.dirty ≡ []) where
    abbrev next : Sheet
    next = (seals base was.linked was.kept.backed).0

    own_name : mid.name ≡ own.name
    own_name = ap (λ (s : SessionState). s.name) same ∙ was.name_is

    next_among : Contains (sealed ++ (sheets ++ next ∷ [])) next
    next_among = subst (λ (l : List Sheet). Contains l next) (append_assoc sealed sheets (next ∷ [])) (Contains-push (sealed ++ sheets) next)

    flushed_then : ((these : List Answer) → NoneRefuses (rules key false (Own own) line these)) → Going (flushes own (sheets ++ next ∷ [])) → Going (flushes own sheets)
    flushed_then passes go =
        then_more (flushes own sheets) (flushes own (next ∷ [])) [] given refl
        (inr
        (may_flush key sealed own line given old made words sheets base was step steps asks passes all more back of_host of_words in_order next (flushes_first base old step first) (seals base was.linked was.kept.backed).1 (flushes own (next ∷ []))
        refl))
        (λ unforged. subst Going (flushes_on own sheets (next ∷ [])) go)

    after_failed : (blame : Blame) → Continues (Broke blame) → (GivenOf next (Given mid.name those) → BlamesFetch next mid.name those blame) → new.key ≡ mid.key → new.name ≡ mid.name → new.broken ≡ true
        → Going (flushes own (sheets ++ next ∷ []))
    after_failed blame go blames key_is name_is broken =
        in_the_end (flushes own (sheets ++ next ∷ []))
        (λ unforged. go.broke blame refl (flushes own (sheets ++ next ∷ []))
        (fetch_failed_after key sealed own line given old made words sheets base was step steps asks new (key_is ∙ ap (λ (s : SessionState). s.key) same) (name_is ∙ ap (λ (s : SessionState). s.name) same) go.passes blame more next
        (flushes_first base old step first) (seals base was.linked was.kept.backed).1
        (fetch_blames next mid.name (before_it ++ front) those blame own_name (split_at front those parts)
        (blames (gives key sealed own line given (sheets ++ next ∷ []) next mid.name (before_it ++ front) those rest next_among (split_at front those parts) unforged))) broken))

    after : (r : Result (Unit {0}) TreeFault) → Continues (outcome_of true r) → StepFacts r step mid new those → StepState r mid new → Going (flushes own sheets)
    after (Ok ok) go facts state =
        flushed_then go.passes
        (seen_until (sheets ++ next ∷ []) next mid.name (before_it ++ front) those next_among (split_at front those parts)
        (λ of_next.
        let sealed_next = seals base was.linked was.kept.backed in
        let out = facts next sealed_next.2.backed of_next in
        go.went true refl (sheets ++ next ∷ []) next (next, refl)
        (made_after key sealed own line given old made words sheets base was step mid new more next (flushes_first base old step first) sealed_next.1 sealed_next.2 same dirty
        (ap (λ (s : SessionState). s.changed) state) (ap (λ (s : SessionState). s.key) state) (ap (λ (s : SessionState). s.name) state) (ap (λ (s : SessionState). s.broken) state ∙ ap (λ (s : SessionState). s.broken) same ∙ was.whole) out.0 out.1)))
    after (Err (trees.Damaged damage)) go facts state =
        flushed_then go.passes
        (after_failed (ByDamage damage) go (facts next (seals base was.linked was.kept.backed).2.backed) (ap (λ (s : SessionState). s.key) state) (ap (λ (s : SessionState). s.name) state) (ap (λ (s : SessionState). s.broken) state))
    after (Err trees.Host) go facts state =
        flushed_then go.passes (after_failed ByHost go (λ of_next. tt) (ap (λ (s : SessionState). s.key) state) (ap (λ (s : SessionState). s.name) state) (ap (λ (s : SessionState). s.broken) state))
    after (Err trees.Memory) go facts state = absurd (go.memory refl)

  -- the flush before failed
  unflushed : (blame : Blame) → Continues (Broke blame) → IsFlushedFirst step old.tree → BlamesFlush old.name these blame → SealsOwn old more (λ next. Unit {0}) → new.key ≡ old.key → new.name ≡ old.name → new.broken ≡ true
      → Going (flushes own sheets)
  unflushed blame go first blames seals key_is name_is broken =
      let next = seals base was.linked was.kept.backed in
      let acts : List Act = record { deed = Flush (seat_of own.key own.name next.0); done = false } ∷ [] in
      then_more (flushes own sheets) acts [] given refl
      (inr (may_flush key sealed own line given old made words sheets base was step steps asks go.passes all more back of_host of_words in_order next.0 (flushes_first base old step first) next.1 acts refl))
      (λ unforged. in_the_end (flushes own sheets ++ acts)
      (λ unforged. go.broke blame refl (flushes own sheets ++ acts)
      (flush_failed key sealed own line given old made words sheets base was step steps asks new key_is name_is go.passes blame more next.0 (flushes_first base old step first) next.1
      (subst (λ (n : Name). BlamesFlush n given blame) was.name_is (subst (λ (l : List Answer). BlamesFlush old.name l blame) (sym split) (flush_more old.name before_it these rest blame blames))) broken)))

  pub change_ends : (outcome : Outcome) → Continues outcome → ChangeTold step old new these more outcome → Going (flushes own sheets)
  change_ends _ go (told_once one roomy none facts state) = once roomy none one go facts state
  change_ends _ go (told_lacked first fewer same) =
      in_the_end (flushes own sheets)
      (λ unforged. go.lack refl (flushes own sheets)
      (no_word key sealed own line given old made words sheets base was step steps asks new (ap (λ (s : SessionState). s.key) same) (ap (λ (s : SessionState). s.name) same) go.passes more (flushes_first base old step first) fewer same))
  change_ends _ go (told_unflushed blame first blames seals key_is name_is broken) = unflushed blame go first blames seals key_is name_is broken
  change_ends _ go (told_after mid one front those parts first seals same dirty facts state) = after first mid front those parts seals same dirty one go facts state
