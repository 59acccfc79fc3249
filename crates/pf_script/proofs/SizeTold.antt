-- What is told of a change of size that is made piece by piece, and how its line goes on.
use Rattle.std.proofs.Common.{◌≡◌, ◌≢◌, ⊎_elim, Bool, true, false, List, [], ◌∷◌, ◌++◌, ℕ, zero, suc, ◌+◌, ◌<◌, ◌≤◌, refl, sym, ◌∙◌, subst, length, arith}
use Rattle.std.proofs.lemmas.Bool.{cases_lt}
use Rattle.std.proofs.lemmas.Bool.Decides.{eqb_tells}
use Rattle.std.proofs.lemmas.List.{append-nil, append_assoc}
use Rattle.node_tree.specs.Applying.{Step, Size}
use Rattle.node_tree.specs.Sheet.{Sheet}
use Rattle.pf_io.specs.Host.{Answer}
use Rattle.pf_session.specs.State.{SessionState}
use Rattle.pf_script.specs.BookActs.{Act}
use Rattle.pf_script.specs.DeskSteps.{MaySeal, Unfolds, in_the_end, SomeSeatTurn}
use Rattle.pf_script.specs.Rules.{NoneRefuses, rules}
use Rattle.pf_script.specs.Script.{OwnSeat, Own}
use Rattle.pf_script.specs.SeatReplies.{flush_reply, IsNextSize, last_size, piece_size}
use Rattle.pf_script.specs.SeatSteps.{IsResize, same, last, piece}
use Rattle.pf_script.specs.Turns.{Blame, flushes, to_size}
use Rattle.pf_script.specs.declared.line.ScriptLine.TheVariants as lines
use Rattle.pf_script.specs.declared.reply.Reply.TheVariants as replies
use Rattle.pf_script.proofs.ChangeEnds.{change_ends}
use Rattle.pf_script.proofs.ChangeTold.{Outcome, Went, Broke, Lacked, Wanted, ChangeTold}
use Rattle.pf_script.proofs.Flushed.{host_blamed, fault_of}
use Rattle.pf_script.proofs.SeatCalls.{seen_by}
use Rattle.pf_script.proofs.StepTurns.{Made, LineEnds, all_made}

-- a size that is no more than a piece away
near : (n now : ℕ) → n ≤ now + 32768 → (steps : List Step) × IsResize n now steps
near n now less = ⊎_elim (λ e. ([], same now e.1)) (λ e. (Size n ∷ [], last now e.1 less)) (eqb_tells n now)

-- each size is reached by some steps
pub resize_steps : (fuel n now : ℕ) → n ≤ now + fuel → (steps : List Step) × IsResize n now steps
resize_steps zero n now few = near n now (omega (arith, few))
resize_steps (suc fuel) n now few =
    ⊎_elim (λ more. let rest = resize_steps fuel n (now + 32768) (omega (arith, few)) in (Size (now + 32768) ∷ rest.0, piece now rest.0 more rest.1)) (λ less. near n now less) (cases_lt (now + 32768) n)

-- the size is the present one; or it is changed, or a change towards it failed; or a piece came first
pub data SizeTold (size : ℕ) : SessionState → SessionState → List Answer → List (List ℕ) → Outcome → Type 0 where
  told_same : (old new : SessionState) → size ≡ old.tree.size → new ≡ old → SizeTold size old new [] [] (Went false)
  told_change : (old new : SessionState) (n : ℕ) (given : List Answer) (words : List (List ℕ)) (outcome : Outcome) → IsNextSize size old.tree.size n → n ≢ old.tree.size → ((flushed : Bool) → outcome ≡ Went flushed → n ≡ size)
      → ChangeTold (Size n) old new given words outcome → SizeTold size old new given words outcome
  told_piece : (old mid new : SessionState) (these those : List Answer) (words more : List (List ℕ)) (flushed : Bool) (outcome : Outcome) → old.tree.size + 32768 < size → mid.tree.size ≡ old.tree.size + 32768
      → ChangeTold (Size (old.tree.size + 32768)) old mid these words (Went flushed) → SizeTold size mid new those more outcome → SizeTold size old new (these ++ those) (words ++ more) outcome

module _ (own : OwnSeat) (size : ℕ) where
  -- the steps that are left go on those that were made
  abbrev pub GoesOn : SessionState → List Step → Type 0
  GoesOn old made = (steps : List Step) → IsResize size old.tree.size steps → IsResize size (length own.content) (made ++ steps)

  -- the steps from the next one on
  pub next_steps : (old : SessionState) (n : ℕ) → IsNextSize size old.tree.size n → n ≢ old.tree.size → (made : List Step) → GoesOn old made → (steps : List Step) × IsResize size (length own.content) (made ++ Size n ∷ steps)
  next_steps old n (last_size few is) other made on =
      ([], subst (λ m. IsResize size (length own.content) (made ++ Size m ∷ [])) (sym is) (on (Size size ∷ []) (last old.tree.size (λ e. other (is ∙ e)) few)))
  next_steps old n (piece_size more is) other made on =
      let rest = resize_steps size size (old.tree.size + 32768) (omega arith) in
      (rest.0, subst (λ m. IsResize size (length own.content) (made ++ Size m ∷ rest.0)) (sym is) (on (Size (old.tree.size + 32768) ∷ rest.0) (piece old.tree.size rest.0 more rest.1)))

  -- the last of the steps
  pub last_step : (old : SessionState) (n : ℕ) → IsNextSize size old.tree.size n → n ≢ old.tree.size → n ≡ size → (made : List Step) → GoesOn old made → IsResize size (length own.content) (made ++ Size n ∷ [])
  last_step old n (last_size few is) other whole made on = subst (λ m. IsResize size (length own.content) (made ++ Size m ∷ [])) (sym is) (on (Size size ∷ []) (last old.tree.size (λ e. other (is ∙ e)) few))
  last_step old n (piece_size more is) other whole made on = absurd (omega (arith, more, is, whole))

module _ (key : List ℕ) (sealed : List Sheet) (own : OwnSeat) (k size : ℕ) (given : List Answer) (all : List (List ℕ)) (of_host of_words : Bool) (P : List Act → Type 0) (passes : (these : List Answer) → NoneRefuses (rules key false (Own own) (lines.Size k size) these)) (new : SessionState) where
  -- what is to be shown of each way to end
  pub record Finishes (outcome : Outcome) : Type 0 where
    pub went : (flushed : Bool) → outcome ≡ Went flushed → (acts : List Act) → LineEnds key sealed own (lines.Size k size) given all false false (replies.Sized size) new acts → P acts
    pub broke : (blame : Blame) → outcome ≡ Broke blame → (acts : List Act) → LineEnds key sealed own (lines.Size k size) given all (host_blamed blame) false (flush_reply (fault_of blame)) new acts → P acts
    pub lack : outcome ≡ Lacked → (acts : List Act) → LineEnds key sealed own (lines.Size k size) given all false true replies.WordsFault new acts → P acts
    pub memory : ¬ (outcome ≡ Wanted)

  -- all was made
  ends_here : (old : SessionState) → new ≡ old → (made : List Step) (words : List (List ℕ)) (sheets : List Sheet) (base : Sheet) → Made sealed own old made words sheets base → IsResize size (length own.content) made → all ≡ words
      → LineEnds key sealed own (lines.Size k size) given all false false (replies.Sized size) new (flushes own sheets)
  ends_here old is made words sheets base was asks words_are =
      subst (λ (s : SessionState). LineEnds key sealed own (lines.Size k size) given all false false (replies.Sized size) s (flushes own sheets)) (sym is)
      (subst (λ (w : List (List ℕ)). LineEnds key sealed own (lines.Size k size) given w false false (replies.Sized size) old (flushes own sheets)) (sym words_are)
      (all_made key sealed own (lines.Size k size) given old made words sheets base was asks (replies.Sized size) (to_size k size) passes))

  pub size_ends : (old : SessionState) (these : List Answer) (more : List (List ℕ)) (outcome : Outcome) → SizeTold size old new these more outcome → Finishes outcome
      → (made : List Step) (words : List (List ℕ)) (sheets : List Sheet) (base : Sheet) → Made sealed own old made words sheets base → GoesOn own size old made → (before_it : List Answer) → given ≡ before_it ++ these → all ≡ words ++ more
      → Unfolds key sealed (MaySeal (SomeSeatTurn key sealed false (Own own) (lines.Size k size)) (seen_by given all of_host of_words)) P given (flushes own sheets)
  size_ends old _ _ _ (told_same _ _ size_is is) fin made words sheets base was on before_it split words_are =
      in_the_end (flushes own sheets)
      (λ unforged. fin.went false refl (flushes own sheets)
      (ends_here old is made words sheets base was (subst (λ (s : List Step). IsResize size (length own.content) s) (append-nil made) (on [] (same old.tree.size size_is))) (words_are ∙ append-nil words)))
  size_ends old these more outcome (told_change _ _ n _ _ _ next other whole told) fin made words sheets base was on before_it split words_are =
      let steps = next_steps own size old n next other made on in
      change_ends key sealed own (lines.Size k size) given all of_host of_words before_it these [] (split ∙ sym (append-nil (before_it ++ these))) P old made words sheets base was (Size n) steps.0 steps.1 new more [] (words_are ∙ sym (append-nil (words ++ more))) outcome
      (record {
        went = λ flushed is sheets' base' grew made'.
            in_the_end (flushes own sheets')
            (λ unforged. fin.went flushed is (flushes own sheets') (ends_here new refl (made ++ Size n ∷ []) (words ++ more) sheets' base' made' (last_step own size old n next other (whole flushed is) made on) words_are));
        broke = λ blame is acts ends. fin.broke blame is acts
            (subst (λ (w : List (List ℕ)). LineEnds key sealed own (lines.Size k size) given w (host_blamed blame) false (flush_reply (fault_of blame)) new acts) (sym words_are) ends);
        lack = λ is acts ends. fin.lack is acts (subst (λ (w : List (List ℕ)). LineEnds key sealed own (lines.Size k size) given w false true replies.WordsFault new acts) (sym words_are) ends);
        memory = fin.memory;
        passes = passes;
      }) told
  size_ends old _ _ outcome (told_piece _ mid _ these those first more flushed _ far size_is told rest) fin made words sheets base was on before_it split words_are =
      let steps = resize_steps size size (old.tree.size + 32768) (omega arith) in
      change_ends key sealed own (lines.Size k size) given all of_host of_words before_it these those (split ∙ sym (append_assoc before_it these those)) P old made words sheets base was (Size (old.tree.size + 32768)) steps.0
      (on (Size (old.tree.size + 32768) ∷ steps.0) (piece old.tree.size steps.0 far steps.1)) mid first more (words_are ∙ sym (append_assoc words first more)) (Went flushed)
      (record {
        went = λ f is sheets' base' grew made'.
            size_ends mid those more outcome rest fin (made ++ Size (old.tree.size + 32768) ∷ []) (words ++ first) sheets' base' made'
            (λ left is_left.
            subst (λ (s : List Step). IsResize size (length own.content) s) (sym (append_assoc made (Size (old.tree.size + 32768) ∷ []) left))
            (on (Size (old.tree.size + 32768) ∷ left) (piece old.tree.size left far (subst (λ m. IsResize size m left) size_is is_left))))
            (before_it ++ these) (split ∙ sym (append_assoc before_it these those)) (words_are ∙ sym (append_assoc words first more));
        broke = λ blame is acts ends. absurd (cc);
        lack = λ is acts ends. absurd (cc);
        memory = λ is. absurd (cc);
        passes = passes;
      }) told
