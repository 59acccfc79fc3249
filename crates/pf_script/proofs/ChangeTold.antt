-- What is told of a change of a session, and how a line goes on by it.
use Rattle.std.proofs.Common.{◌≡◌, ◌⊎◌, inl, inr, Bool, true, false, List, [], ◌∷◌, ◌++◌, ℕ, ◌*◌, refl, sym, ◌∙◌, ap, subst, None, Result, Ok, Err}
use Rattle.std.proofs.lemmas.List.Elements.{Contains-append_left, Contains-append_right}
use Rattle.node_layout.specs.declared.damage.Damage.{Damage}
use Rattle.node_tree.specs.Applying.{Step, size_after}
use Rattle.node_tree.specs.Sheet.{Sheet}
use Rattle.node_tree.specs.State.{TreeState}
use Rattle.node_tree.specs.declared.fault.TreeFault.{TreeFault}
use Rattle.node_tree.specs.declared.fault.TreeFault.TheVariants as trees
use Rattle.pf_io.specs.Disk.{Name}
use Rattle.pf_io.specs.Host.{Answer, Gave, HostState, Both, IsMore, WhereTold}
use Rattle.pf_io.specs.Words.{WordsState}
use Rattle.pf_io.proofs.Telling.{told_by, told_on, told_then, told_weaker}
use Rattle.pf_session.specs.Asking.{IsTaken as AreTaken}
use Rattle.pf_session.specs.Backing.{StandsOn}
use Rattle.pf_session.specs.Changing.{IsFlushedFirst, IsRoomy, StepGoes, StepState}
use Rattle.pf_session.specs.State.{SessionState}
use Rattle.pf_session.specs.declared.fault.FlushFault.{FlushFault}
use Rattle.pf_session.specs.declared.fault.FlushFault.TheVariants as faults
use Rattle.pf_script.specs.BookSeats.{IsOfScript}
use Rattle.pf_script.specs.DeskSteps.{CountsFault}
use Rattle.pf_script.specs.Turns.{Blame, ByHost, ByDamage, BlamesFlush, BlamesFetch, IsShort, IsClosed}
use Rattle.pf_script.proofs.Flushed.{SealsOwn, TooFewToFlush, FlushCase, lacked, failed, done, host_blamed, fault_of}
use Rattle.pf_script.proofs.Refusing.{none_taken}
use Rattle.pf_script.proofs.StepFacts.{StepFacts, host_of, counts_of, damage_came, step_told}

-- how a change ended: it was made, after a flush or without one; it failed; a word was wanting; or memory was
pub data Outcome : Type 0 where
  Went : (flushed : Bool) → Outcome
  Broke : (blame : Blame) → Outcome
  Lacked : Outcome
  Wanted : Outcome

abbrev pub outcome_of : Bool → Result (Unit {0}) TreeFault → Outcome
outcome_of flushed (Ok ok) = Went flushed
outcome_of flushed (Err (trees.Damaged damage)) = Broke (ByDamage damage)
outcome_of flushed (Err trees.Host) = Broke ByHost
outcome_of flushed (Err trees.Memory) = Wanted

abbrev pub host_in : Outcome → Bool
host_in (Went flushed) = false
host_in (Broke blame) = host_blamed blame
host_in Lacked = false
host_in Wanted = false

abbrev pub words_in : Outcome → Bool
words_in (Went flushed) = false
words_in (Broke blame) = false
words_in Lacked = true
words_in Wanted = false

-- a change, by what came
pub data ChangeTold (step : Step) (old new : SessionState) (given : List Answer) (words : List (List ℕ)) : Outcome → Type 0 where
  told_once : (one : Result (Unit {0}) TreeFault) → IsRoomy step old.tree → words ≡ [] → StepFacts one step old new given → StepState one old new → ChangeTold step old new given words (outcome_of false one)
  told_lacked : IsFlushedFirst step old.tree → TooFewToFlush old words → new ≡ old → ChangeTold step old new given words Lacked
  told_unflushed : (blame : Blame) → IsFlushedFirst step old.tree → BlamesFlush old.name given blame → SealsOwn old words (λ next. Unit {0}) → new.key ≡ old.key → new.name ≡ old.name → new.broken ≡ true
      → ChangeTold step old new given words (Broke blame)
  told_after : (mid : SessionState) (one : Result (Unit {0}) TreeFault) (these those : List Answer) → given ≡ these ++ those → IsFlushedFirst step old.tree → SealsOwn old words (λ next. StandsOn next mid) → {nonce : List ℕ} {tree : TreeState}
      → mid ≡ record old { nonce = nonce; drawn = None; tree = tree; changed = false } → mid.tree.dirty ≡ [] → StepFacts one step mid new those → StepState one mid new → ChangeTold step old new given words (outcome_of true one)

-- where the damage that is the outcome comes from
abbrev pub Comes : Name → List Answer → Outcome → Type 0
Comes name given (Went flushed) = Unit {0}
Comes name given (Broke ByHost) = Unit {0}
Comes name given (Broke (ByDamage damage)) = IsShort name given damage ⊎ IsClosed name given damage
Comes name given Lacked = Unit {0}
Comes name given Wanted = Unit {0}

-- the answers that came, with that damage
pub record OutcomeCame (name : Name) (outcome : Outcome) (before after : HostState) : Type 0 where
  pub these : List Answer
  pub told : Both before.given after.given (IsMore these)
  pub comes : Comes name these outcome

-- what it leaves of the session
abbrev pub LeftBy : Step → SessionState → SessionState → Outcome → Type 0
LeftBy step old new (Went flushed) = (new.broken ≡ old.broken) × (new.tree.size ≡ size_after step old.tree.size)
LeftBy step old new (Broke blame) = new.broken ≡ true
LeftBy step old new Lacked = new ≡ old
LeftBy step old new Wanted = Unit {0}

-- what is seen of it
pub record ChangeSeen (step : Step) (old new : SessionState) (outcome : Outcome) (before after : HostState) (random random' : WordsState) : Type 0 where
  pub words : List (List ℕ)
  pub taken : Both random.left random'.left (AreTaken words)
  pub on_host : CountsFault (host_in outcome) before.faults after.faults
  pub on_words : CountsFault (words_in outcome) random.faults random'.faults
  pub told : WhereTold before after (λ given. ChangeTold step old new given words outcome)
  pub came : OutcomeCame old.name outcome before after
  pub leaves : LeftBy step old new outcome

pub host_same : (flushed : Bool) (one : Result (Unit {0}) TreeFault) → host_of one ≡ host_in (outcome_of flushed one)
host_same flushed (Ok ok) = refl
host_same flushed (Err (trees.Damaged damage)) = refl
host_same flushed (Err trees.Host) = refl
host_same flushed (Err trees.Memory) = refl

pub calm_words : (flushed : Bool) (one : Result (Unit {0}) TreeFault) → words_in (outcome_of flushed one) ≡ false
calm_words flushed (Ok ok) = refl
calm_words flushed (Err (trees.Damaged damage)) = refl
calm_words flushed (Err trees.Host) = refl
calm_words flushed (Err trees.Memory) = refl

-- the outcome of a flush that failed
abbrev pub flush_outcome : FlushFault → Outcome
flush_outcome faults.Words = Lacked
flush_outcome (faults.Damaged damage) = Broke (ByDamage damage)
flush_outcome faults.Host = Broke ByHost

pub outcome_is : (blame : Blame) → flush_outcome (fault_of blame) ≡ Broke blame
outcome_is ByHost = refl
outcome_is (ByDamage damage) = refl

pub same_fault : (fault other : FlushFault) → ◌≡◌ {A = Result (Unit {0}) FlushFault} (Err fault) (Err other) → other ≡ fault
same_fault fault other same = cc

-- a damage that came after other answers
comes_after : (name : Name) (these those : List Answer) (outcome : Outcome) → Comes name those outcome → Comes name (these ++ those) outcome
comes_after name these those (Went flushed) comes = tt
comes_after name these those (Broke ByHost) comes = tt
comes_after name these those (Broke (ByDamage damage)) (inl short) = inl (record {
  block = short.block;
  gave = Contains-append_right these those (Gave name (4096 * damage.node) 4096 short.block) short.gave;
  short = short.short;
  kind_is = short.kind_is;
})
comes_after name these those (Broke (ByDamage damage)) (inr closed) = inr (record {
  block = closed.block;
  gave = Contains-append_right these those (Gave name (4096 * damage.node) 4096 closed.block) closed.gave;
  whole = closed.whole;
  kind_is = closed.kind_is;
})
comes_after name these those Lacked comes = tt
comes_after name these those Wanted comes = tt

pub came_after : (name other : Name) (these : List Answer) (outcome : Outcome) (before between after : HostState) → other ≡ name → Both before.given between.given (IsMore these) → OutcomeCame other outcome between after → OutcomeCame name outcome before after
came_after name other these outcome before between after is told came = record {
  these = these ++ came.these;
  told = told_on these came.these before between after told came.told;
  comes = comes_after name these came.these outcome (subst (λ (n : Name). Comes n came.these outcome) is came.comes);
}

-- of a step
step_came : (old : SessionState) → IsOfScript old → (new : SessionState) (one : Result (Unit {0}) TreeFault) (step : Step) (before after : HostState) → StepGoes one step old new before after → (flushed : Bool) (r : Result (Unit {0}) TreeFault) → one ≡ r
    → OutcomeCame old.name (outcome_of flushed r) before after
step_came old mine new one step before after goes flushed (Ok ok) is = record { these = goes.steps.these; told = goes.steps.answered.told; comes = tt }
step_came old mine new one step before after goes flushed (Err (trees.Damaged damage)) is =
    let came = damage_came old mine new one step before after goes damage is in
    record { these = came.these; told = came.answered.told; comes = came.holds }
step_came old mine new one step before after goes flushed (Err trees.Host) is = record { these = goes.steps.these; told = goes.steps.answered.told; comes = tt }
step_came old mine new one step before after goes flushed (Err trees.Memory) is = record { these = goes.steps.these; told = goes.steps.answered.told; comes = tt }

step_leaves : (flushed : Bool) (one : Result (Unit {0}) TreeFault) (step : Step) (old mid new : SessionState) (before after : HostState) → mid.broken ≡ old.broken → mid.tree.size ≡ old.tree.size → StepGoes one step mid new before after → LeftBy step old new (outcome_of flushed one)
step_leaves flushed (Ok ok) step old mid new before after same size_is goes = (ap (λ (s : SessionState). s.broken) goes.state ∙ same, goes.steps.ends.size ∙ ap (size_after step) (ap (λ (t : TreeState). t.size) goes.steps.rest ∙ size_is))
step_leaves flushed (Err (trees.Damaged damage)) step old mid new before after same size_is goes = ap (λ (s : SessionState). s.broken) goes.state
step_leaves flushed (Err trees.Host) step old mid new before after same size_is goes = ap (λ (s : SessionState). s.broken) goes.state
step_leaves flushed (Err trees.Memory) step old mid new before after same size_is goes = tt

-- of a flush that failed
flush_comes : (name : Name) (these : List Answer) (blame : Blame) → BlamesFlush name these blame → Comes name these (Broke blame)
flush_comes name these ByHost blames = tt
flush_comes name these (ByDamage damage) short = inl short

module _ (old : SessionState) (mine : IsOfScript old) (step : Step) (before after : HostState) (random random' : WordsState) where
  pub seen_once : (new : SessionState) (one : Result (Unit {0}) TreeFault) → IsRoomy step old.tree → StepGoes one step old new before after → random' ≡ random → ChangeSeen step old new (outcome_of false one) before after random random'
  seen_once new one roomy goes same = record {
    words = [];
    taken = subst (λ (w : WordsState). Both random.left w.left (AreTaken [])) (sym same) (none_taken random);
    on_host = subst (λ b. CountsFault b before.faults after.faults) (host_same false one) (counts_of one before.faults after.faults goes.cause);
    on_words = subst (λ b. CountsFault b random.faults random'.faults) (sym (calm_words false one)) (ap (λ (w : WordsState). w.faults) same);
    told = told_weaker (StepFacts one step old new) (λ given. ChangeTold step old new given [] (outcome_of false one)) before after (step_told old mine new one step before after goes one refl) (λ given facts. told_once one roomy refl facts goes.state);
    came = step_came old mine new one step before after goes false one refl;
    leaves = step_leaves false one step old old new before after refl refl goes;
  }

  pub seen_unflushed : (new : SessionState) (fault : FlushFault) → IsFlushedFirst step old.tree → FlushCase (Err fault) old new before after random random' → ChangeSeen step old new (flush_outcome fault) before after random random'
  seen_unflushed new fault first (lacked words fewer seen same stays said) =
      subst (λ (f : FlushFault). ChangeSeen step old new (flush_outcome f) before after random random') (same_fault fault faults.Words said)
      (record {
        words = words;
        taken = seen.taken;
        on_host = seen.on_host;
        on_words = seen.on_words;
        told = told_by (λ given. ChangeTold step old new given words Lacked) [] before after seen.told (told_lacked first fewer same);
        came = record { these = []; told = seen.told; comes = tt };
        leaves = same;
      })
  seen_unflushed new fault first (failed blame these words seen blames seals key_is name_is broken said) =
      subst (λ (f : FlushFault). ChangeSeen step old new (flush_outcome f) before after random random') (same_fault fault (fault_of blame) said)
      (subst (λ (o : Outcome). ChangeSeen step old new o before after random random') (sym (outcome_is blame))
      (record {
        words = words;
        taken = seen.taken;
        on_host = seen.on_host;
        on_words = seen.on_words;
        told = told_by (λ given. ChangeTold step old new given words (Broke blame)) these before after seen.told (told_unflushed blame first blames seals key_is name_is broken);
        came = record { these = these; told = seen.told; comes = flush_comes old.name these blame blames };
        leaves = broken;
      }))
  seen_unflushed new fault first (done these words seen swapped seals same dirty said) = absurd (cc)

  pub seen_after : (mid new : SessionState) (between : HostState) (one : Result (Unit {0}) TreeFault) → IsOfScript mid → mid.tree.size ≡ old.tree.size → IsFlushedFirst step old.tree → FlushCase (Ok tt) old mid before between random random' → StepGoes one step mid new between after
      → ChangeSeen step old new (outcome_of true one) before after random random'
  seen_after mid new between one of_mid size_is first (lacked words fewer seen same stays said) goes = absurd (cc)
  seen_after mid new between one of_mid size_is first (failed blame these words seen blames seals key_is name_is broken said) goes = absurd (cc)
  seen_after mid new between one of_mid size_is first (done these words seen swapped seals same dirty said) goes = record {
    words = words;
    taken = seen.taken;
    on_host = subst (λ b. CountsFault b before.faults after.faults) (host_same true one) (subst (λ n. CountsFault (host_of one) n after.faults) seen.on_host (counts_of one between.faults after.faults goes.cause));
    on_words = subst (λ b. CountsFault b random.faults random'.faults) (sym (calm_words true one)) seen.on_words;
    told = told_then (λ given. given ≡ these) (StepFacts one step mid new) (λ given. ChangeTold step old new given words (outcome_of true one)) before between after
        (told_by (λ given. given ≡ these) these before between seen.told refl) (step_told mid of_mid new one step between after goes one refl)
        (λ first_ones those is facts. told_after mid one these those (ap (λ (l : List Answer). l ++ those) is) first seals same dirty facts goes.state);
    came = came_after old.name mid.name these (outcome_of true one) before between after (ap (λ (s : SessionState). s.name) same) seen.told (step_came mid of_mid new one step between after goes true one refl);
    leaves = step_leaves true one step old mid new between after (ap (λ (s : SessionState). s.broken) same) size_is goes;
  }

-- the sheets after a change: one more, where it flushed
abbrev pub Grew : Bool → List Sheet → List Sheet → Type 0
Grew false sheets now = now ≡ sheets
Grew true sheets now = (next : Sheet) × (now ≡ sheets ++ next ∷ [])

-- a cause among some answers is one among more
short_more : (name : Name) (these those rest : List Answer) (damage : Damage) → IsShort name those damage → IsShort name (these ++ those ++ rest) damage
short_more name these those rest damage short = record {
  block = short.block;
  gave = Contains-append_left (these ++ those) rest (Gave name (4096 * damage.node) 4096 short.block) (Contains-append_right these those (Gave name (4096 * damage.node) 4096 short.block) short.gave);
  short = short.short;
  kind_is = short.kind_is;
}

pub flush_more : (name : Name) (these those rest : List Answer) (blame : Blame) → BlamesFlush name those blame → BlamesFlush name (these ++ those ++ rest) blame
flush_more name these those rest ByHost blames = tt
flush_more name these those rest (ByDamage damage) blames = short_more name these those rest damage blames

pub fetch_more : (sheet : Sheet) (name : Name) (these those rest : List Answer) (blame : Blame) → BlamesFetch sheet name those blame → BlamesFetch sheet name (these ++ those ++ rest) blame
fetch_more sheet name these those rest ByHost blames = tt
fetch_more sheet name these those rest (ByDamage damage) (inl short) = inl (short_more name these those rest damage short)
fetch_more sheet name these those rest (ByDamage damage) (inr other) = inr (record {
  foreign = record {
    node = other.foreign.node;
    there = other.foreign.there;
    block = other.foreign.block;
    gave = Contains-append_left (these ++ those) rest (Gave name (4096 * damage.node) 4096 other.foreign.block) (Contains-append_right these those (Gave name (4096 * damage.node) 4096 other.foreign.block) other.foreign.gave);
    other = other.foreign.other;
  };
  kind_is = other.kind_is;
})
