-- A size that was set.
use Rattle.std.proofs.Common.{◌≡◌, ◌+◌, ◌<◌, ◌≤◌, subst, arith, Bool, true, false, List, refl, sym, ◌∙◌, ap, ℕ, Result, Ok, Err}
use Rattle.node_tree.specs.Applying.{Size}
use Rattle.node_tree.specs.declared.fault.TreeFault.{TreeFault}
use Rattle.pf_io.specs.Host.{HostState, ReadsAsImage}
use Rattle.pf_io.specs.Words.{WordsState}
use Rattle.pf_session.specs.Aside.{Aside}
use Rattle.pf_session.specs.Changing.{refused, unchanged, changed, not_flushed, flushed_and_changed, SizeGoes, StepGoes, stepped}
use Rattle.pf_session.specs.Faults.{size_of_tree}
use Rattle.pf_session.specs.State.{SessionState}
use Rattle.pf_session.specs.declared.fault.SizeFault.{SizeFault}
use Rattle.pf_session.specs.declared.fault.Written.{Written}
use Rattle.pf_session.specs.Flushing.{FlushGoes, no_words, had_words, SealGoes, node_short, call_failed, flushed}
use Rattle.pf_script.specs.SeatReplies.{SetsSize, SizesGo, set_last, set_failed, set_piece, last_size, piece_size}

pub record IsSet (n : ℕ) (new : SessionState) : Type 0 where
  pub whole : new.broken ≡ false
  pub size_is : new.tree.size ≡ n

step_sets : (one : Result (Unit {0}) TreeFault) (n : ℕ) (old new : SessionState) (before after : HostState) → old.broken ≡ false → StepGoes one (Size n) old new before after → one ≡ Ok tt → IsSet n new
step_sets (Ok done) n old new before after whole goes is = record { whole = ap (λ (s : SessionState). s.broken) goes.state ∙ whole; size_is = goes.steps.ends.size }
step_sets (Err fault) n old new before after whole goes is = absurd (cc)

sealed_whole : (nonce : List ℕ) (keys : List (List ℕ)) (old mid : SessionState) (before between : HostState) → SealGoes (Ok tt) nonce keys old mid before between → old.broken ≡ false → mid.broken ≡ false
sealed_whole nonce keys old mid before between (node_short damage named short seals same said) whole = absurd (cc)
sealed_whole nonce keys old mid before between (call_failed stopped beside seals shape same said) whole = absurd (cc)
sealed_whole nonce keys old mid before between (flushed tree is_done beside settled seals same said) whole = ap (λ (s : SessionState). s.broken) same ∙ whole

flushed_whole : (old mid : SessionState) (before between : HostState) (random random' : WordsState) → FlushGoes (Ok tt) old mid before between random random' → old.broken ≡ false → mid.broken ≡ false
flushed_whole old mid before between random random' (no_words lacked same stays said) whole = absurd (cc)
flushed_whole old mid before between random random' (had_words nonce keys came goes) whole = sealed_whole nonce keys old mid before between goes whole

is_ok : (written : Written) (before : Bool) (one : Result (Unit {0}) TreeFault) → ◌≡◌ {A = Result Written SizeFault} (Ok written) (stepped size_of_tree before one) → one ≡ Ok tt
is_ok written before (Ok done) said = refl
is_ok written before (Err fault) said = absurd (cc)

pub size_set : (written : Written) (n : ℕ) (old new : SessionState) (before after : HostState) (random random' : WordsState) → old.broken ≡ false → SizeGoes (Ok written) n old new before after random random' → IsSet n new
size_set written n old new before after random random' whole (refused fault why same stays words said) = absurd (cc)
size_set written n old new before after random random' whole (unchanged free none same stays words said) =
    record { whole = ap (λ (s : SessionState). s.broken) same ∙ whole; size_is = ap (λ (s : SessionState). s.tree.size) same ∙ sym none }
size_set written n old new before after random random' whole (changed one free some roomy steps words said) = step_sets one n old new before after whole steps (is_ok written false one said)
size_set written n old new before after random random' whole (not_flushed fault free some first flush undamaged said) = absurd (cc)
size_set written n old new before after random random' whole (flushed_and_changed mid between one free some first flush steps said) =
    step_sets one n mid new between after (flushed_whole old mid before between random random' flush whole) steps (is_ok written true one said)

module _ (size now n : ℕ) (old new : SessionState) (before after : HostState) (random random' : WordsState) (whole : old.broken ≡ false) (aside : Aside old.name before after) (reads : ReadsAsImage after) where
  sets : (result : Result Written SizeFault) → SizeGoes result n old new before after random random' → SetsSize result n old new before after random random'
  sets result goes = record { whole = whole; goes = goes; aside = aside; reads = reads }

  -- one more piece, and then the rest
  pub piece_then : (written : Written) → now ≡ old.tree.size → n ≡ now + 32768 → now + 32768 < size → SizeGoes (Ok written) n old new before after random random'
      → (result : Result (Unit {0}) SizeFault) (end : SessionState) (last : HostState) (random'' : WordsState) → SizesGo result size new end after last random' random'' → SizesGo result size old end before last random random''
  piece_then written is n_is more goes result end last random'' rest =
      let at : n ≡ old.tree.size + 32768 = n_is ∙ ap (λ k. k + 32768) is in
      set_piece written old new end before after last random random' random'' (subst (λ k. k + 32768 < size) is more) (subst (λ k. SetsSize (Ok written) k old new before after random random') at (sets (Ok written) goes)) rest

  pub piece_failed : (fault : SizeFault) → now ≡ old.tree.size → n ≡ now + 32768 → now + 32768 < size → SizeGoes (Err fault) n old new before after random random' → SizesGo (Err fault) size old new before after random random'
  piece_failed fault is n_is more goes =
      set_failed fault n old new before after random random' (piece_size (subst (λ k. k + 32768 < size) is more) (n_is ∙ ap (λ k. k + 32768) is)) (sets (Err fault) goes) refl

  pub last_failed : (fault : SizeFault) → now ≡ old.tree.size → n ≡ size → size ≤ now + 32768 → SizeGoes (Err fault) n old new before after random random' → SizesGo (Err fault) size old new before after random random'
  last_failed fault is n_is few goes = set_failed fault n old new before after random random' (last_size (omega (arith, few, is)) n_is) (sets (Err fault) goes) refl

  pub last_set : (written : Written) → now ≡ old.tree.size → n ≡ size → size ≤ now + 32768 → SizeGoes (Ok written) n old new before after random random' → SizesGo (Ok tt) size old new before after random random'
  last_set written is n_is few goes =
      set_last written old new before after random random' (omega (arith, few, is)) (subst (λ k. SetsSize (Ok written) k old new before after random random') n_is (sets (Ok written) goes)) refl
