-- What is seen of a change of size that is made piece by piece.
use Rattle.std.proofs.Common.{◌≡◌, ◌≢◌, ◌⊎◌, inl, inr, suc, Bool, true, false, List, [], ◌++◌, ℕ, ◌+◌, ◌^◌, ◌<◌, ◌≤◌, refl, sym, ◌∙◌, ap, subst, Option, Some, None, Result, Ok, Err, arith}
use Rattle.std.specs.Prelude.{IfSome}
use Rattle.std.proofs.lemmas.List.{append_assoc}
use Rattle.node_tree.specs.Applying.{Size}
use Rattle.node_tree.specs.declared.fault.TreeFault.{TreeFault}
use Rattle.node_tree.specs.declared.fault.TreeFault.TheVariants as trees
use Rattle.pf_io.specs.Disk.{Name, IsImage, reading}
use Rattle.pf_io.specs.Host.{HostState, Both, WhereTold, OnDisk}
use Rattle.pf_io.specs.Moments.{Honest}
use Rattle.pf_io.specs.Words.{WordsState}
use Rattle.pf_io.specs.declared.faults.Memory.{Memory}
use Rattle.pf_io.proofs.Telling.{told_by, told_then, told_weaker, told_none, both_then}
use Rattle.pf_session.specs.Aside.{Aside}
use Rattle.pf_session.specs.Asking.{IsTaken as AreTaken}
use Rattle.pf_session.specs.Changing.{refused, unchanged, changed, not_flushed, flushed_and_changed, SizeRefused, SizeGoes, stepped, StepGoes}
use Rattle.pf_session.specs.Faults.{size_of_flush, size_of_tree}
use Rattle.pf_session.specs.State.{SessionState}
use Rattle.pf_session.specs.declared.fault.FlushFault.{FlushFault}
use Rattle.pf_session.specs.declared.fault.FlushFault.TheVariants as faults
use Rattle.pf_session.specs.declared.fault.SizeFault.{SizeFault}
use Rattle.pf_session.specs.declared.fault.SizeFault.TheVariants as sizes
use Rattle.pf_session.specs.declared.fault.Written.{Written}
use Rattle.pf_script.specs.BookSeats.{Covers, KeepsUnder}
use Rattle.pf_script.specs.Desk.{IsSeated}
use Rattle.pf_script.specs.DeskSteps.{CountsFault, Grown}
use Rattle.pf_script.specs.SeatReplies.{size_reply, SetsSize, IsNextSize, last_size, piece_size, SizesGo, set_last, set_failed, set_piece}
use Rattle.pf_script.specs.declared.reply.Reply.{Reply}
use Rattle.pf_script.specs.declared.reply.Reply.TheVariants as replies
use Rattle.pf_script.proofs.ChangeKeeping.{change_keeps}
use Rattle.pf_script.proofs.ChangeLine.{outcome_reply, change_seated}
use Rattle.pf_script.proofs.ChangeTold.{Outcome, Went, Broke, Lacked, Wanted, outcome_of, flush_outcome, host_in, words_in, ChangeTold, OutcomeCame, came_after, LeftBy, ChangeSeen, seen_once, seen_unflushed, seen_after}
use Rattle.pf_script.proofs.Flushed.{flush_case, flushed_size}
use Rattle.pf_script.proofs.OfScript.{of_flushed}
use Rattle.pf_script.proofs.Refusing.{none_taken}
use Rattle.pf_script.proofs.SizeSet.{IsSet, size_set}
use Rattle.pf_script.proofs.SizeTold.{SizeTold, told_same, told_change, told_piece}
use Rattle.pf_script.proofs.Sparing.{aside_on}
use Rattle.pf_script.proofs.StepKeeping.{keeps_then, keeps_more}
use Rattle.pf_script.proofs.WriteLine.{wanted_breaks}

-- the reply to a size that is set
abbrev pub sized : ℕ → Bool → Reply
sized size flushed = replies.Sized size

abbrev pub size_result : ℕ → Result (Unit {0}) SizeFault → Result Reply Memory
size_result size (Ok done) = Ok (replies.Sized size)
size_result size (Err fault) = size_reply fault

-- one size: it is the present one, it was set, or that failed
pub data SetSeen (size n : ℕ) (result : Result Written SizeFault) (old new : SessionState) (before after : HostState) (random random' : WordsState) : Type 0 where
  set_same : (written : Written) → result ≡ Ok written → n ≡ old.tree.size → new ≡ old → after ≡ before → random' ≡ random → SetSeen size n result old new before after random random'
  set_changed : (flushed : Bool) (written : Written) → result ≡ Ok written → n ≢ old.tree.size → ChangeSeen (Size n) old new (Went flushed) before after random random' → SetSeen size n result old new before after random random'
  set_broken : (outcome : Outcome) (fault : SizeFault) → result ≡ Err fault → outcome_reply (sized size) outcome ≡ size_reply fault → ((flushed : Bool) → ¬ (outcome ≡ Went flushed)) → n ≢ old.tree.size
      → ChangeSeen (Size n) old new outcome before after random random' → (outcome ≡ Wanted → new.broken ≡ true) → SetSeen size n result old new before after random random'

-- a size on the way is never refused
pub never_refused : (size n : ℕ) (old : SessionState) (fault : SizeFault) → size ≤ 2 ^ 32 → IsNextSize size old.tree.size n → ¬ (SizeRefused n old.tree.size fault)
never_refused size n old sizes.TooLarge small (last_size few is) why = omega (arith, small, is, why)
never_refused size n old sizes.TooLarge small (piece_size more is) why = omega (arith, small, more, is, why)
never_refused size n old (sizes.TooFar said) small (last_size few is) why = omega (arith, few, is, why.1)
never_refused size n old (sizes.TooFar said) small (piece_size more is) why = omega (arith, more, is, why.1)
never_refused size n old sizes.Words small next why = why
never_refused size n old (sizes.Damaged damage) small next why = why
never_refused size n old sizes.Host small next why = why
never_refused size n old sizes.Memory small next why = why

pub tree_reply : (size : ℕ) (flushed : Bool) (fault : TreeFault) → outcome_reply (sized size) (outcome_of flushed (Err fault)) ≡ size_reply (size_of_tree fault)
tree_reply size flushed (trees.Damaged damage) = refl
tree_reply size flushed trees.Host = refl
tree_reply size flushed trees.Memory = refl

pub tree_stays : (flushed f : Bool) (fault : TreeFault) → ¬ (outcome_of flushed (Err fault) ≡ Went f)
tree_stays flushed f (trees.Damaged damage) is = absurd (cc)
tree_stays flushed f trees.Host is = absurd (cc)
tree_stays flushed f trees.Memory is = absurd (cc)

pub unflushed_reply : (size : ℕ) (fault : FlushFault) → outcome_reply (sized size) (flush_outcome fault) ≡ size_reply (size_of_flush fault)
unflushed_reply size faults.Words = refl
unflushed_reply size (faults.Damaged damage) = refl
unflushed_reply size faults.Host = refl

pub unflushed_stays : (f : Bool) (fault : FlushFault) → ¬ (flush_outcome fault ≡ Went f)
unflushed_stays f faults.Words is = absurd (cc)
unflushed_stays f (faults.Damaged damage) is = absurd (cc)
unflushed_stays f faults.Host is = absurd (cc)

unflushed_wants : (fault : FlushFault) → ¬ (flush_outcome fault ≡ Wanted)
unflushed_wants faults.Words is = absurd (cc)
unflushed_wants (faults.Damaged damage) is = absurd (cc)
unflushed_wants faults.Host is = absurd (cc)

-- what is left of the session
abbrev pub LeftBySize : ℕ → SessionState → SessionState → Outcome → Type 0
LeftBySize size old new (Went flushed) = (new.broken ≡ false) × (new.tree.size ≡ size)
LeftBySize size old new (Broke blame) = new.broken ≡ true
LeftBySize size old new Lacked = (new ≡ old) ⊎ Grown size old new
LeftBySize size old new Wanted = Unit {0}

failed_leaves : (size n : ℕ) (old new : SessionState) → (outcome : Outcome) → ((flushed : Bool) → ¬ (outcome ≡ Went flushed)) → LeftBy (Size n) old new outcome → LeftBySize size old new outcome
failed_leaves size n old new (Went flushed) stays left = absurd (stays flushed refl)
failed_leaves size n old new (Broke blame) stays left = left
failed_leaves size n old new Lacked stays left = inl left
failed_leaves size n old new Wanted stays left = tt

-- after one piece more
after_piece : (size : ℕ) (old mid new : SessionState) → IsSet (old.tree.size + 32768) mid → old.tree.size + 32768 < size → (outcome : Outcome) → LeftBySize size mid new outcome → LeftBySize size old new outcome
after_piece size old mid new set far (Went flushed) left = left
after_piece size old mid new set far (Broke blame) left = left
after_piece size old mid new set far Lacked (inl same) = inr (record {
  whole = ap (λ (s : SessionState). s.broken) same ∙ set.whole;
  steps = 1;
  grown = ap (λ (s : SessionState). s.tree.size) same ∙ set.size_is;
  some = omega arith;
  more = subst (λ n. n < size) (sym (ap (λ (s : SessionState). s.tree.size) same ∙ set.size_is)) far;
})
after_piece size old mid new set far Lacked (inr grew) = inr (record {
  whole = grew.whole;
  steps = suc grew.steps;
  grown = let mid_is = set.size_is in let grown = grew.grown in omega (arith, mid_is, grown);
  some = omega arith;
  more = grew.more;
})
after_piece size old mid new set far Wanted left = tt

module _ (key : List ℕ) (size : ℕ) (small : size ≤ 2 ^ 32) where
  module _ (n : ℕ) (result : Result Written SizeFault) (old new : SessionState) (before after : HostState) (random random' : WordsState) (seated : IsSeated key old) (next : IsNextSize size old.tree.size n) where
    -- a step, by how it ended
    stepped_seen : (flushed : Bool) (mid : SessionState) (between : HostState) (one : Result (Unit {0}) TreeFault) → n ≢ old.tree.size → StepGoes one (Size n) mid new between after → ChangeSeen (Size n) old new (outcome_of flushed one) before after random random'
        → result ≡ stepped size_of_tree flushed one → SetSeen size n result old new before after random random'
    stepped_seen flushed mid between (Ok done) other goes seen said = set_changed flushed (record { flushed_before = flushed }) said other seen
    stepped_seen flushed mid between (Err fault) other goes seen said =
        set_broken (outcome_of flushed (Err fault)) (size_of_tree fault) said (tree_reply size flushed fault) (λ f. tree_stays flushed f fault) other seen (wanted_breaks flushed (Err fault) mid new goes.state)

    set_seen : SizeGoes result n old new before after random random' → SetSeen size n result old new before after random random'
    set_seen (refused fault why same stays words said) = absurd (never_refused size n old fault small next why)
    set_seen (unchanged free none same stays words said) = set_same (record { flushed_before = false }) said none same stays words
    set_seen (changed one free some roomy steps words said) = stepped_seen false old before one some steps (seen_once old seated.of_script (Size n) before after random random' new one roomy steps words) said
    set_seen (not_flushed fault free some first flush undamaged said) =
        set_broken (flush_outcome fault) (size_of_flush fault) said (unflushed_reply size fault) (λ f. unflushed_stays f fault) some
        (seen_unflushed old seated.of_script (Size n) before after random random' new fault first (flush_case old seated.of_script new before after random random' (Err fault) flush)) (λ is. absurd (unflushed_wants fault is))
    set_seen (flushed_and_changed mid between one free some first flush steps said) =
        stepped_seen true mid between one some steps
        (seen_after old seated.of_script (Size n) before after random random' mid new between one (of_flushed old mid seated.of_script (Ok tt) before between random random' flush) (flushed_size old mid before between random random' flush) first
        (flush_case old seated.of_script mid before between random random' (Ok tt) flush) steps) said

  -- what is seen of all of it
  pub record SizeSeen (result : Result (Unit {0}) SizeFault) (old new : SessionState) (before after : HostState) (random random' : WordsState) : Type 0 where
    pub outcome : Outcome
    pub reply_is : outcome_reply (sized size) outcome ≡ size_result size result
    pub words : List (List ℕ)
    pub taken : Both random.left random'.left (AreTaken words)
    pub on_host : CountsFault (host_in outcome) before.faults after.faults
    pub on_words : CountsFault (words_in outcome) random.faults random'.faults
    pub told : WhereTold before after (λ given. SizeTold size old new given words outcome)
    pub came : OutcomeCame old.name outcome before after
    pub leaves : LeftBySize size old new outcome
    pub breaks : outcome ≡ Wanted → new.broken ≡ true
    pub seated_new : IsSeated key new
    pub name_is : new.name ≡ old.name
    pub books : OnDisk before after (KeepsUnder (Covers old) (Covers new) (λ name. name ≡ old.name))
    pub aside : Aside old.name before after

  module _ (n : ℕ) (result : Result Written SizeFault) (old new : SessionState) (before after : HostState) (random random' : WordsState) (seated : IsSeated key old) (sets : SetsSize result n old new before after random random') where
    set_books : OnDisk before after (KeepsUnder (Covers old) (Covers new) (λ name. name ≡ old.name))
    set_books = change_keeps old seated.of_script SizeFault (SizeRefused n old.tree.size) (n ≡ old.tree.size) size_of_flush size_of_tree (Size n) result new before after random random' sets.whole sets.goes sets.aside sets.reads

    pub set_seated : IsSeated key new × (new.name ≡ old.name)
    set_seated = change_seated key old seated sets.whole SizeFault (SizeRefused n old.tree.size) (n ≡ old.tree.size) size_of_flush size_of_tree (Size n) result new before after random random' sets.goes

  -- the last size was set
  last_seen : (written : Written) (old new : SessionState) (before after : HostState) (random random' : WordsState) (seated : IsSeated key old) → size ≤ old.tree.size + 32768 → (sets : SetsSize (Ok written) size old new before after random random')
      → SetSeen size size (Ok written) old new before after random random' → SizeSeen (Ok tt) old new before after random random'
  last_seen written old new before after random random' seated few sets (set_same other said none same stays words) = record {
    outcome = Went false;
    reply_is = refl;
    words = [];
    taken = subst (λ (w : WordsState). Both random.left w.left (AreTaken [])) (sym words) (none_taken random);
    on_host = ap (λ (h : HostState). h.faults) stays;
    on_words = ap (λ (w : WordsState). w.faults) words;
    told = told_by (λ given. SizeTold size old new given [] (Went false)) [] before after (told_none before after (ap (λ (h : HostState). h.given) stays)) (told_same old new none same);
    came = record { these = []; told = told_none before after (ap (λ (h : HostState). h.given) stays); comes = tt };
    leaves = (ap (λ (s : SessionState). s.broken) same ∙ sets.whole, ap (λ (s : SessionState). s.tree.size) same ∙ sym none);
    breaks = λ is. absurd (cc);
    seated_new = (set_seated size (Ok written) old new before after random random' seated sets).0;
    name_is = (set_seated size (Ok written) old new before after random random' seated sets).1;
    books = set_books size (Ok written) old new before after random random' seated sets;
    aside = sets.aside;
  }
  last_seen written old new before after random random' seated few sets (set_changed flushed other said some seen) =
      let set_now = size_set written size old new before after random random' sets.whole sets.goes in
      record {
        outcome = Went flushed;
        reply_is = refl;
        words = seen.words;
        taken = seen.taken;
        on_host = seen.on_host;
        on_words = seen.on_words;
        told = told_weaker (λ given. ChangeTold (Size size) old new given seen.words (Went flushed)) (λ given. SizeTold size old new given seen.words (Went flushed)) before after seen.told
            (λ given told. told_change old new size given seen.words (Went flushed) (last_size few refl) some (λ f is. refl) told);
        came = seen.came;
        leaves = (set_now.whole, set_now.size_is);
        breaks = λ is. absurd (cc);
        seated_new = (set_seated size (Ok written) old new before after random random' seated sets).0;
        name_is = (set_seated size (Ok written) old new before after random random' seated sets).1;
        books = set_books size (Ok written) old new before after random random' seated sets;
        aside = sets.aside;
      }
  last_seen written old new before after random random' seated few sets (set_broken outcome fault said reply stays other seen breaks) = absurd (cc)

  pub same_fault : (fault other : SizeFault) → ◌≡◌ {A = Result Written SizeFault} (Err fault) (Err other) → other ≡ fault
  same_fault fault other is = cc

  -- one size was not set
  fault_seen : (fault : SizeFault) (n : ℕ) (old new : SessionState) (before after : HostState) (random random' : WordsState) (seated : IsSeated key old) → IsNextSize size old.tree.size n → (sets : SetsSize (Err fault) n old new before after random random')
      → SetSeen size n (Err fault) old new before after random random' → SizeSeen (Err fault) old new before after random random'
  fault_seen fault n old new before after random random' seated next sets (set_same other said none same stays words) = absurd (cc)
  fault_seen fault n old new before after random random' seated next sets (set_changed flushed other said some seen) = absurd (cc)
  fault_seen fault n old new before after random random' seated next sets (set_broken outcome other said reply stays some seen breaks) = record {
    outcome = outcome;
    reply_is = reply ∙ ap size_reply (same_fault fault other said);
    words = seen.words;
    taken = seen.taken;
    on_host = seen.on_host;
    on_words = seen.on_words;
    told = told_weaker (λ given. ChangeTold (Size n) old new given seen.words outcome) (λ given. SizeTold size old new given seen.words outcome) before after seen.told
        (λ given told. told_change old new n given seen.words outcome next some (λ f is. absurd (stays f is)) told);
    came = seen.came;
    leaves = failed_leaves size n old new outcome stays seen.leaves;
    breaks = breaks;
    seated_new = (set_seated n (Err fault) old new before after random random' seated sets).0;
    name_is = (set_seated n (Err fault) old new before after random random' seated sets).1;
    books = set_books n (Err fault) old new before after random random' seated sets;
    aside = sets.aside;
  }

  -- a piece, and what came after it
  module _ (written : Written) (old mid new : SessionState) (before between after : HostState) (random random' random'' : WordsState) (seated : IsSeated key old) (far : old.tree.size + 32768 < size)
      (sets : SetsSize (Ok written) (old.tree.size + 32768) old mid before between random random') (ended : Result (Unit {0}) SizeFault) (rest : SizeSeen ended mid new between after random' random'') where
    mid_name : mid.name ≡ old.name
    mid_name = (set_seated (old.tree.size + 32768) (Ok written) old mid before between random random' seated sets).1

    all_books : OnDisk before after (KeepsUnder (Covers old) (Covers new) (λ name. name ≡ old.name))
    all_books = by_host between.honest sets.reads (set_books (old.tree.size + 32768) (Ok written) old mid before between random random' seated sets) rest.books
      where
        by_host : (m : Option Honest) → IfSome m (λ host. IsImage host.now (reading host.now)) → Both before.honest m (KeepsUnder (Covers old) (Covers mid) (λ name. name ≡ old.name)) → Both m after.honest (KeepsUnder (Covers mid) (Covers new) (λ name. name ≡ mid.name))
            → Both before.honest after.honest (KeepsUnder (Covers old) (Covers new) (λ name. name ≡ old.name))
        by_host (Some m) well first second =
            both_then (λ a b. (b ≡ m) × KeepsUnder (Covers old) (Covers mid) (λ name. name ≡ old.name) a b) (KeepsUnder (Covers mid) (Covers new) (λ name. name ≡ mid.name)) (KeepsUnder (Covers old) (Covers new) (λ name. name ≡ old.name))
            before.honest (Some m) after.honest (at_some before.honest first) second
            (λ a b c one two.
            keeps_then (Covers old) (Covers mid) (Covers new) (λ name. name ≡ old.name) a b c (subst (λ (h : Honest). IsImage h.now (reading h.now)) (sym one.0) well) one.1
            (keeps_more (Covers mid) (Covers new) (λ name. name ≡ mid.name) (λ name. name ≡ old.name) b c (λ name is. is ∙ mid_name) two))
          where
            at_some : (o : Option Honest) → Both o (Some m) (KeepsUnder (Covers old) (Covers mid) (λ name. name ≡ old.name)) → Both o (Some m) (λ a b. (b ≡ m) × KeepsUnder (Covers old) (Covers mid) (λ name. name ≡ old.name) a b)
            at_some (Some a) keeps = (refl, keeps)
            at_some None keeps = absurd keeps
        by_host None well first second =
            both_then (λ a b. ⊥) (KeepsUnder (Covers mid) (Covers new) (λ name. name ≡ mid.name)) (KeepsUnder (Covers old) (Covers new) (λ name. name ≡ old.name)) before.honest None after.honest (at_none before.honest first) second (λ a b c one two. absurd one)
          where
            at_none : (o : Option Honest) → Both o None (KeepsUnder (Covers old) (Covers mid) (λ name. name ≡ old.name)) → Both o None (λ a b. ⊥)
            at_none (Some a) keeps = absurd keeps
            at_none None keeps = tt

    piece_seen : SetSeen size (old.tree.size + 32768) (Ok written) old mid before between random random' → SizeSeen ended old new before after random random''
    piece_seen (set_same other said none same stays words) = absurd (omega (arith, none))
    piece_seen (set_broken outcome fault said reply stays other seen breaks) = absurd (cc)
    piece_seen (set_changed flushed other said some seen) =
        let is = size_set written (old.tree.size + 32768) old mid before between random random' sets.whole sets.goes in
        record {
          outcome = rest.outcome;
          reply_is = rest.reply_is;
          words = seen.words ++ rest.words;
          taken = both_then (AreTaken seen.words) (AreTaken rest.words) (AreTaken (seen.words ++ rest.words)) random.left random'.left random''.left seen.taken rest.taken
              (λ a b c one two. one ∙ ap (λ (l : List (List ℕ)). seen.words ++ l) two ∙ sym (append_assoc seen.words rest.words c));
          on_host = subst (λ n. CountsFault (host_in rest.outcome) n after.faults) seen.on_host rest.on_host;
          on_words = subst (λ n. CountsFault (words_in rest.outcome) n random''.faults) seen.on_words rest.on_words;
          told = told_then (λ given. ChangeTold (Size (old.tree.size + 32768)) old mid given seen.words (Went flushed)) (λ given. SizeTold size mid new given rest.words rest.outcome) (λ given. SizeTold size old new given (seen.words ++ rest.words) rest.outcome)
              before between after seen.told rest.told (λ these those told more. told_piece old mid new these those seen.words rest.words flushed rest.outcome far is.size_is told more);
          came = came_after old.name mid.name seen.came.these rest.outcome before between after mid_name seen.came.told rest.came;
          leaves = after_piece size old mid new is far rest.outcome rest.leaves;
          breaks = rest.breaks;
          seated_new = rest.seated_new;
          name_is = rest.name_is ∙ mid_name;
          books = all_books;
          aside = aside_on old.name before between after sets.aside (subst (λ (n : Name). Aside n between after) mid_name rest.aside);
        }

  pub size_seen : (result : Result (Unit {0}) SizeFault) (old new : SessionState) (before after : HostState) (random random' : WordsState) → IsSeated key old → SizesGo result size old new before after random random' → SizeSeen result old new before after random random'
  size_seen result _ _ _ _ _ _ seated (set_last written old new before after random random' few sets said) =
      subst (λ (r : Result (Unit {0}) SizeFault). SizeSeen r old new before after random random') (sym said)
      (last_seen written old new before after random random' seated few sets (set_seen size (Ok written) old new before after random random' seated (last_size few refl) sets.goes))
  size_seen result _ _ _ _ _ _ seated (set_failed fault n old new before after random random' next sets said) =
      subst (λ (r : Result (Unit {0}) SizeFault). SizeSeen r old new before after random random') (sym said)
      (fault_seen fault n old new before after random random' seated next sets (set_seen n (Err fault) old new before after random random' seated next sets.goes))
  size_seen result _ _ _ _ _ _ seated (set_piece written old mid new before between after random random' random'' far sets rest) =
      piece_seen written old mid new before between after random random' random'' seated far sets result
      (size_seen result mid new between after random' random'' (set_seated (old.tree.size + 32768) (Ok written) old mid before between random random' seated sets).0 rest)
      (set_seen (old.tree.size + 32768) (Ok written) old mid before between random random' seated (piece_size far refl) sets.goes)
