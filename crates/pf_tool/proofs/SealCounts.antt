-- How a sealing that fails counts: which count rose, and that no piece of the input was given in the call that failed.
use Rattle.std.proofs.Common.{◌≡◌, ◌≢◌, ℕ, List, [], ◌∷◌, ◌++◌, length, filter, refl, sym, ap, subst, ◌∙◌, Result, Ok, Err}
use Rattle.std.proofs.lemmas.List.Elements.{filter-append}
use Rattle.node_tree.specs.Sheet.{Sheet}
use Rattle.pf_io.specs.Counts.{counted}
use Rattle.pf_io.specs.Disk.{Name}
use Rattle.pf_io.specs.Host.{Answer, LengthWas, Gave, Wrote, WasCut, Synced, Made, Swapped, Removed, HostState, Both}
use Rattle.pf_io.specs.Names.{side_of}
use Rattle.pf_io.specs.Words.{WordsState}
use Rattle.pf_io.proofs.Writing.{once_after}
use Rattle.pf_session.specs.Asking.{faults_after, kind_of, Stopped}
use Rattle.pf_session.specs.Creating.{BesideGoes, misnamed, no_memory, no_words, begin_stopped, begun, empty_node}
use Rattle.pf_session.specs.Flushing.{SealGoes, node_short, call_failed, flushed, FlushGoes, had_words}
use Rattle.pf_session.specs.Flushing as flushing
use Rattle.pf_session.specs.Placing.{make_steps}
use Rattle.pf_session.specs.Restored.{KeepsBeside}
use Rattle.pf_session.specs.State.{SessionState}
use Rattle.pf_session.specs.Steps.{flush_steps}
use Rattle.pf_session.specs.declared.fault.BesideFault.{BesideFault}
use Rattle.pf_session.specs.declared.fault.BesideFault.TheVariants as besides
use Rattle.pf_session.specs.declared.fault.FlushFault.{FlushFault}
use Rattle.pf_session.specs.declared.fault.FlushFault.TheVariants as flushes
use Rattle.pf_tool.specs.Faults.{beside_fault, flush_fault}
use Rattle.pf_tool.specs.SealedContents.{is_piece_of}
use Rattle.pf_tool.specs.declared.fault.Fault.{Fault}
use Rattle.pf_tool.specs.declared.fault.Fault.TheVariants as faults
use Rattle.pf_tool.specs.declared.why.Why.{Why}
use Rattle.pf_tool.specs.declared.why.Why.TheVariants as whys
use Rattle.pf_tool.proofs.PieceAnswers.{TellsPieces, tells_none, tells_same, none_of_flush, none_of_make}
use Rattle.pf_tool.proofs.SheetWrites.{Standing, same_alone}

-- the counts at a refusal: an input that is too large
abbrev pub CountsRefusal : Why → HostState → HostState → WordsState → WordsState → Type 0
CountsRefusal whys.TooLarge before after random random' = (after.faults ≡ before.faults) × (random'.faults ≡ random.faults)
CountsRefusal why before after random random' = ⊥

-- the counts at each fault that a sealing has; a damage is none
abbrev pub CountsFault : Fault → HostState → HostState → WordsState → WordsState → Type 0
CountsFault faults.NoCommand before after random random' = ⊥
CountsFault (faults.Refused why) before after random random' = CountsRefusal why before after random random'
CountsFault (faults.Damaged damage) before after random random' = ⊥
CountsFault faults.Host before after random random' = (after.faults ≡ counted before.faults) × (random'.faults ≡ random.faults)
CountsFault faults.Stream before after random random' = ⊥
CountsFault faults.Memory before after random random' = (after.faults ≡ before.faults) × (random'.faults ≡ random.faults)
CountsFault faults.Random before after random random' = (after.faults ≡ before.faults) × (random'.faults ≡ counted random.faults)

refusal_after : (why : Why) (a b c : HostState) (r s t : WordsState) → b.faults ≡ a.faults → s.faults ≡ r.faults → CountsRefusal why b c s t → CountsRefusal why a c r t
refusal_after whys.TooLarge a b c r s t calm words counts = (counts.0 ∙ calm, counts.1 ∙ words)
refusal_after whys.BadName a b c r s t calm words counts = absurd counts
refusal_after (whys.NotFound name) a b c r s t calm words counts = absurd counts
refusal_after (whys.KeyFile number) a b c r s t calm words counts = absurd counts
refusal_after whys.NotProtected a b c r s t calm words counts = absurd counts
refusal_after (whys.BadVersion major minor) a b c r s t calm words counts = absurd counts
refusal_after whys.NotUtf8 a b c r s t calm words counts = absurd counts
refusal_after (whys.BadTemplate fault) a b c r s t calm words counts = absurd counts
refusal_after (whys.BadManifest fault) a b c r s t calm words counts = absurd counts
refusal_after (whys.BadLayout fault) a b c r s t calm words counts = absurd counts
refusal_after (whys.Absent name) a b c r s t calm words counts = absurd counts
refusal_after whys.Unbuilt a b c r s t calm words counts = absurd counts

pub counts_after : (fault : Fault) (a b c : HostState) (r s t : WordsState) → b.faults ≡ a.faults → s.faults ≡ r.faults → CountsFault fault b c s t → CountsFault fault a c r t
counts_after faults.NoCommand a b c r s t calm words counts = absurd counts
counts_after (faults.Refused why) a b c r s t calm words counts = refusal_after why a b c r s t calm words counts
counts_after (faults.Damaged damage) a b c r s t calm words counts = absurd counts
counts_after faults.Host a b c r s t calm words counts = (once_after a.faults b.faults c.faults calm counts.0, counts.1 ∙ words)
counts_after faults.Stream a b c r s t calm words counts = absurd counts
counts_after faults.Memory a b c r s t calm words counts = (counts.0 ∙ calm, counts.1 ∙ words)
counts_after faults.Random a b c r s t calm words counts = (counts.0 ∙ calm, once_after r.faults s.faults t.faults words counts.1)

-- a call that failed: nothing but the side file was changed, and no piece was given
pub record Fails (input output : Name) (fault : Fault) (before after : HostState) (random random' : WordsState) : Type 0 where
  pub counts : CountsFault fault before after random random'
  pub told : (at : ℕ) → Both before.given after.given (TellsPieces input at [])
  pub alone : KeepsBeside output before after

any_once : (answer : Answer) (n : ℕ) → faults_after (kind_of answer) n ≡ counted n
any_once (LengthWas name length) n = refl
any_once (Gave name place room bytes) n = refl
any_once (Wrote name place bytes) n = refl
any_once (WasCut name length) n = refl
any_once (Synced name) n = refl
any_once (Made name) n = refl
any_once (Swapped from to) n = refl
any_once (Removed name) n = refl

pub stopped_once : (steps : List Answer) (before after : HostState) → Stopped steps before after → after.faults ≡ counted before.faults
stopped_once steps before after stopped = stopped.asked.faults ∙ any_once stopped.failed before.faults

front_none : {A : Type 0} (xs ys : List A) → xs ++ ys ≡ [] → xs ≡ []
front_none [] ys none = refl
front_none (x ∷ xs) ys none = absurd (cc)

-- of steps that give no piece, those that came give none
pub stopped_told : (input : Name) (at : ℕ) (steps : List Answer) (before after : HostState) → filter (is_piece_of input) steps ≡ [] → Stopped steps before after → Both before.given after.given (TellsPieces input at [])
stopped_told input at steps before after none stopped =
    tells_none input at stopped.answered before after
    (front_none (filter (is_piece_of input) stopped.answered) _ (sym (filter-append (is_piece_of input) stopped.answered (stopped.failed ∷ stopped.left)) ∙ ap (λ (l : List Answer). filter (is_piece_of input) l) (sym stopped.in_order) ∙ none))
    stopped.asked.told

no_session : {A E : Type 0} (value : A) (fault : E) → ◌≡◌ {A = Result A E} (Err fault) (Ok value) → ⊥
no_session value fault same = cc

module _ (input : Name) (user : List ℕ) (output : Name) where
  module _ (before after : HostState) (random random' : WordsState) where
    -- no memory, before any call of the host
    still_memory : after ≡ before → random'.faults ≡ random.faults → Fails input output faults.Memory before after random random'
    still_memory same words =
        let counts : (after.faults ≡ before.faults) × (random'.faults ≡ random.faults) = (ap (λ (s : HostState). s.faults) same, words) in
        record { counts = counts; told = λ at. tells_same input at before after same; alone = same_alone output before after same }

    -- no word, before any call of the host
    still_random : after ≡ before → random'.faults ≡ counted random.faults → Fails input output faults.Random before after random random'
    still_random same words =
        let counts : (after.faults ≡ before.faults) × (random'.faults ≡ counted random.faults) = (ap (λ (s : HostState). s.faults) same, words) in
        record { counts = counts; told = λ at. tells_same input at before after same; alone = same_alone output before after same }

    -- of these steps one failed
    stopped_host : (steps : List Answer) → filter (is_piece_of input) steps ≡ [] → Stopped steps before after → random'.faults ≡ random.faults → KeepsBeside output before after → Fails input output faults.Host before after random random'
    stopped_host steps none stopped words keeps =
        let counts : (after.faults ≡ counted before.faults) × (random'.faults ≡ random.faults) = (stopped_once steps before after stopped, words) in
        record { counts = counts; told = λ at. stopped_told input at steps before after none stopped; alone = keeps }

    as_fault : (fault other : Fault) → fault ≡ other → Fails input output other before after random random' → Fails input output fault before after random random'
    as_fault fault other same fails = subst (λ (f : Fault). Fails input output f before after random random') (sym same) fails

    pub beside_fails : (why : BesideFault) → why ≢ besides.BadName → BesideGoes user output output before after random random' (Err why) → Fails input output (beside_fault why) before after random random'
    beside_fails why other (misnamed unfit same words is) = absurd (other cc)
    beside_fails why other (no_memory named same words is) =
        let e : why ≡ besides.Memory = cc in as_fault (beside_fault why) faults.Memory (ap beside_fault e) (still_memory same (ap (λ (r : WordsState). r.faults) words))
    beside_fails why other (no_words named same lacked is) = let e : why ≡ besides.Words = cc in as_fault (beside_fault why) faults.Random (ap beside_fault e) (still_random same lacked.once)
    beside_fails why other (begin_stopped nonce named drawn linked stopped keeps is) =
        let e : why ≡ besides.Host = cc in
        as_fault (beside_fault why) faults.Host (ap beside_fault e)
        (stopped_host (make_steps (side_of output) (empty_node user output nonce)) (none_of_make input (side_of output) (empty_node user output nonce)) stopped drawn.took.calm keeps)
    beside_fails why other (begun nonce named drawn asked keeps begins is_fresh is) = absurd (no_session _ why is)

    -- a flush of a session that stands beside the name
    module _ (sheet : Sheet) (content : List ℕ) (old new : SessionState) (stands : Standing user output sheet content old) where
      seal_fails : (why : FlushFault) (nonce : List ℕ) (keys : List (List ℕ)) → random'.faults ≡ random.faults → SealGoes (Err why) nonce keys old new before after → Fails input output (flush_fault why) before after random random'
      seal_fails why nonce keys calm (node_short damage named short each state is) = let beside = stands.beside_is in absurd (cc)
      seal_fails why nonce keys calm (call_failed stopped keeps each shape state is) =
          let e : why ≡ flushes.Host = cc in
          as_fault (flush_fault why) faults.Host (ap flush_fault e)
          (stopped_host (flush_steps old nonce keys stopped.blocks new.tree) (none_of_flush input old nonce keys stopped.blocks new.tree stands.beside_is) stopped.stopped calm
          (subst (λ (n : Name). KeepsBeside n before after) stands.name_is (keeps stands.beside_is)))
      seal_fails why nonce keys calm (flushed mid done keeps settled each state is) = absurd (no_session tt why is)

      pub flush_fails : (why : FlushFault) → FlushGoes (Err why) old new before after random random' → Fails input output (flush_fault why) before after random random'
      flush_fails why (flushing.no_words lacked same still is) = let e : why ≡ flushes.Words = cc in as_fault (flush_fault why) faults.Random (ap flush_fault e) (still_random still lacked.once)
      flush_fails why (had_words nonce keys came goes) = seal_fails why nonce keys came.took.calm goes
