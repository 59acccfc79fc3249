-- How a change of size ended, with what it left on the disk.
use Rattle.std.proofs.Common.{◌≡◌, ◌≢◌, ◌+◌, ◌<◌, ◌≤◌, Bool, true, false, List, [], ◌++◌, ℕ, ◌^◌, refl, sym, ◌∙◌, ap, subst, Result, Ok, Err, arith, append_assoc}
use Rattle.node_tree.specs.Applying.{Size}
use Rattle.node_tree.specs.declared.fault.TreeFault.{TreeFault}
use Rattle.pf_io.specs.Host.{Answer, HostState, Both, IsMore, ReadsAsImage}
use Rattle.pf_io.specs.Words.{WordsState}
use Rattle.pf_io.proofs.Telling.{told_none, told_on, both_then}
use Rattle.pf_session.specs.Aside.{Aside}
use Rattle.pf_session.specs.Asking.{IsTaken as AreTaken}
use Rattle.pf_session.specs.Changing.{refused, unchanged, changed, not_flushed, flushed_and_changed, SizeGoes, stepped}
use Rattle.pf_session.specs.Faults.{size_of_flush, size_of_tree}
use Rattle.pf_session.specs.State.{SessionState}
use Rattle.pf_session.specs.declared.fault.SizeFault.{SizeFault}
use Rattle.pf_session.specs.declared.fault.Written.{Written}
use Rattle.pf_script.specs.BookSeats.{IsOfScript}
use Rattle.pf_script.specs.Desk.{IsSeated}
use Rattle.pf_script.specs.DeskSteps.{CountsFault}
use Rattle.pf_script.specs.SeatReplies.{size_reply, IsNextSize, last_size, piece_size, SetsSize, SizesGo, set_last, set_failed, set_piece}
use Rattle.pf_script.proofs.ChangeLeft.{ChangeLeft, ChangeIn, in_once, in_unflushed, in_after}
use Rattle.pf_script.proofs.ChangeLine.{outcome_reply}
use Rattle.pf_script.proofs.ChangeTold.{Outcome, Went, outcome_of, host_in, words_in, flush_outcome}
use Rattle.pf_script.proofs.Flushed.{flush_ends}
use Rattle.pf_script.proofs.OfScript.{of_flushed}
use Rattle.pf_script.proofs.Refusing.{none_taken}
use Rattle.pf_script.proofs.SizeSeen.{sized, size_result, never_refused, tree_reply, tree_stays, unflushed_reply, unflushed_stays, set_seated, same_fault}
use Rattle.pf_script.proofs.SizeSet.{size_set}

pub data SizeLeft (size : ℕ) : SessionState → SessionState → HostState → HostState → List (List ℕ) → Outcome → Type 0 where
  kept_size : (old new : SessionState) (before after : HostState) → size ≡ old.tree.size → new ≡ old → after ≡ before → SizeLeft size old new before after [] (Went false)
  one_change : (old new : SessionState) (before after : HostState) (n : ℕ) (words : List (List ℕ)) (outcome : Outcome) → IsOfScript old → IsNextSize size old.tree.size n → n ≢ old.tree.size → ((flushed : Bool) → outcome ≡ Went flushed → n ≡ size)
      → Aside old.name before after → ReadsAsImage after → ChangeLeft (Size n) old new before after words outcome → SizeLeft size old new before after words outcome
  one_piece : (old mid new : SessionState) (before between after : HostState) (words more : List (List ℕ)) (flushed : Bool) (outcome : Outcome) → IsOfScript old → old.tree.size + 32768 < size → mid.tree.size ≡ old.tree.size + 32768
      → Aside old.name before between → ReadsAsImage between → ChangeLeft (Size (old.tree.size + 32768)) old mid before between words (Went flushed) → SizeLeft size mid new between after more outcome → SizeLeft size old new before after (words ++ more) outcome

-- what is seen of it
pub record SizeIn (size : ℕ) (result : Result (Unit {0}) SizeFault) (old new : SessionState) (before after : HostState) (random random' : WordsState) : Type 0 where
  pub outcome : Outcome
  pub reply_is : outcome_reply (sized size) outcome ≡ size_result size result
  pub these : List Answer
  pub words : List (List ℕ)
  pub told : Both before.given after.given (IsMore these)
  pub taken : Both random.left random'.left (AreTaken words)
  pub on_host : CountsFault (host_in outcome) before.faults after.faults
  pub on_words : CountsFault (words_in outcome) random.faults random'.faults
  pub left : SizeLeft size old new before after words outcome

-- one size: it is the present one, it was set, or that failed
data SetIn (size n : ℕ) (result : Result Written SizeFault) (old new : SessionState) (before after : HostState) (random random' : WordsState) : Type 0 where
  in_same : (written : Written) → result ≡ Ok written → n ≡ old.tree.size → new ≡ old → after ≡ before → random' ≡ random → SetIn size n result old new before after random random'
  in_changed : (flushed : Bool) (written : Written) → result ≡ Ok written → n ≢ old.tree.size → ChangeIn (Size n) old new (Went flushed) before after random random' → SetIn size n result old new before after random random'
  in_broken : (outcome : Outcome) (fault : SizeFault) → result ≡ Err fault → outcome_reply (sized size) outcome ≡ size_reply fault → ((flushed : Bool) → ¬ (outcome ≡ Went flushed)) → n ≢ old.tree.size
      → ChangeIn (Size n) old new outcome before after random random' → SetIn size n result old new before after random random'

module _ (key : List ℕ) (size : ℕ) (small : size ≤ 2 ^ 32) where
  module _ (n : ℕ) (result : Result Written SizeFault) (old new : SessionState) (before after : HostState) (random random' : WordsState) (seated : IsSeated key old) (next : IsNextSize size old.tree.size n) where
    stepped_in : (flushed : Bool) (one : Result (Unit {0}) TreeFault) → n ≢ old.tree.size → ChangeIn (Size n) old new (outcome_of flushed one) before after random random' → result ≡ stepped size_of_tree flushed one → SetIn size n result old new before after random random'
    stepped_in flushed (Ok done) other is said = in_changed flushed (record { flushed_before = flushed }) said other is
    stepped_in flushed (Err fault) other is said = in_broken (outcome_of flushed (Err fault)) (size_of_tree fault) said (tree_reply size flushed fault) (λ f. tree_stays flushed f fault) other is

    set_in : SizeGoes result n old new before after random random' → SetIn size n result old new before after random random'
    set_in (refused fault why same stays words said) = absurd (never_refused size n old fault small next why)
    set_in (unchanged free none same stays words said) = in_same (record { flushed_before = false }) said none same stays words
    set_in (changed one free some roomy steps words said) = stepped_in false one some (in_once old (Size n) before after random random' new one roomy steps words) said
    set_in (not_flushed fault free some first flush undamaged said) =
        in_broken (flush_outcome fault) (size_of_flush fault) said (unflushed_reply size fault) (λ f. unflushed_stays f fault) some
        (in_unflushed old (Size n) before after random random' new fault first undamaged (flush_ends old seated.of_script new before after random random' (Err fault) flush))
    set_in (flushed_and_changed mid between one free some first flush steps said) =
        stepped_in true one some
        (in_after old (Size n) before after random random' mid new between one (of_flushed old mid seated.of_script (Ok tt) before between random random' flush) first
        (flush_ends old seated.of_script mid before between random random' (Ok tt) flush) steps) said

  -- the last size was set
  last_in : (written : Written) (old new : SessionState) (before after : HostState) (random random' : WordsState) → IsSeated key old → size ≤ old.tree.size + 32768 → SetsSize (Ok written) size old new before after random random'
      → SetIn size size (Ok written) old new before after random random' → SizeIn size (Ok tt) old new before after random random'
  last_in written old new before after random random' seated few sets (in_same other said none same stays words) = record {
    outcome = Went false;
    reply_is = refl;
    these = [];
    words = [];
    told = told_none before after (ap (λ (h : HostState). h.given) stays);
    taken = subst (λ (w : WordsState). Both random.left w.left (AreTaken [])) (sym words) (none_taken random);
    on_host = ap (λ (h : HostState). h.faults) stays;
    on_words = ap (λ (w : WordsState). w.faults) words;
    left = kept_size old new before after none same stays;
  }
  last_in written old new before after random random' seated few sets (in_changed flushed other said some is) = record {
    outcome = Went flushed;
    reply_is = refl;
    these = is.these;
    words = is.words;
    told = is.told;
    taken = is.taken;
    on_host = is.on_host;
    on_words = is.on_words;
    left = one_change old new before after size is.words (Went flushed) seated.of_script (last_size few refl) some (λ f is. refl) sets.aside sets.reads is.left;
  }
  last_in written old new before after random random' seated few sets (in_broken outcome fault said reply stays other is) = absurd (cc)

  -- one size was not set
  fault_in : (fault : SizeFault) (n : ℕ) (old new : SessionState) (before after : HostState) (random random' : WordsState) → IsSeated key old → IsNextSize size old.tree.size n → SetsSize (Err fault) n old new before after random random'
      → SetIn size n (Err fault) old new before after random random' → SizeIn size (Err fault) old new before after random random'
  fault_in fault n old new before after random random' seated next sets (in_same other said none same stays words) = absurd (cc)
  fault_in fault n old new before after random random' seated next sets (in_changed flushed other said some is) = absurd (cc)
  fault_in fault n old new before after random random' seated next sets (in_broken outcome other said reply stays some is) = record {
    outcome = outcome;
    reply_is = reply ∙ ap size_reply (same_fault key size small fault other said);
    these = is.these;
    words = is.words;
    told = is.told;
    taken = is.taken;
    on_host = is.on_host;
    on_words = is.on_words;
    left = one_change old new before after n is.words outcome seated.of_script next some (λ f went. absurd (stays f went)) sets.aside sets.reads is.left;
  }

  -- a piece, and what came after it
  piece_in : (written : Written) (old mid new : SessionState) (before between after : HostState) (random random' random'' : WordsState) → IsSeated key old → old.tree.size + 32768 < size → SetsSize (Ok written) (old.tree.size + 32768) old mid before between random random'
      → (ended : Result (Unit {0}) SizeFault) → SizeIn size ended mid new between after random' random'' → SetIn size (old.tree.size + 32768) (Ok written) old mid before between random random' → SizeIn size ended old new before after random random''
  piece_in written old mid new before between after random random' random'' seated far sets ended rest (in_same other said none same stays words) = absurd (omega (arith, none))
  piece_in written old mid new before between after random random' random'' seated far sets ended rest (in_broken outcome fault said reply stays other is) = absurd (cc)
  piece_in written old mid new before between after random random' random'' seated far sets ended rest (in_changed flushed other said some is) =
      let set = size_set written (old.tree.size + 32768) old mid before between random random' sets.whole sets.goes in
      record {
        outcome = rest.outcome;
        reply_is = rest.reply_is;
        these = is.these ++ rest.these;
        words = is.words ++ rest.words;
        told = told_on is.these rest.these before between after is.told rest.told;
        taken = both_then (AreTaken is.words) (AreTaken rest.words) (AreTaken (is.words ++ rest.words)) random.left random'.left random''.left is.taken rest.taken
            (λ a b c one two. one ∙ ap (λ (l : List (List ℕ)). is.words ++ l) two ∙ sym (append_assoc is.words rest.words c));
        on_host = subst (λ n. CountsFault (host_in rest.outcome) n after.faults) is.on_host rest.on_host;
        on_words = subst (λ n. CountsFault (words_in rest.outcome) n random''.faults) is.on_words rest.on_words;
        left = one_piece old mid new before between after is.words rest.words flushed rest.outcome seated.of_script far set.size_is sets.aside sets.reads is.left rest.left;
      }

  pub size_in : (result : Result (Unit {0}) SizeFault) (old new : SessionState) (before after : HostState) (random random' : WordsState) → IsSeated key old → SizesGo result size old new before after random random' → SizeIn size result old new before after random random'
  size_in result _ _ _ _ _ _ seated (set_last written old new before after random random' few sets said) =
      subst (λ (r : Result (Unit {0}) SizeFault). SizeIn size r old new before after random random') (sym said)
      (last_in written old new before after random random' seated few sets (set_in size (Ok written) old new before after random random' seated (last_size few refl) sets.goes))
  size_in result _ _ _ _ _ _ seated (set_failed fault n old new before after random random' next sets said) =
      subst (λ (r : Result (Unit {0}) SizeFault). SizeIn size r old new before after random random') (sym said)
      (fault_in fault n old new before after random random' seated next sets (set_in n (Err fault) old new before after random random' seated next sets.goes))
  size_in result _ _ _ _ _ _ seated (set_piece written old mid new before between after random random' random'' far sets rest) =
      piece_in written old mid new before between after random random' random'' seated far sets result
      (size_in result mid new between after random' random'' (set_seated key size small (old.tree.size + 32768) (Ok written) old mid before between random random' seated sets).0 rest)
      (set_in (old.tree.size + 32768) (Ok written) old mid before between random random' seated (piece_size far refl) sets.goes)
