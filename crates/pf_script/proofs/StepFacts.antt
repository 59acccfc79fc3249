-- One step on the tree of a session, as a seat of a script sees it.
use Rattle.std.proofs.Common.{◌≡◌, ◌⊎◌, inl, inr, ◌↔◌, Bool, true, false, List, ◌++◌, ℕ, ◌*◌, ◌<◌, sym, ◌∙◌, ap, subst, Option, Some, None, Result, Ok, Err, length}
use Rattle.std.specs.Prelude.{Contains}
use Rattle.std.proofs.lemmas.List.Elements.{Contains-append_left, Contains-append_right}
use Rattle.node_layout.specs.Places.{node_count}
use Rattle.node_layout.specs.declared.damage.Damage.{Damage}
use Rattle.node_tree.specs.Applying.{Step, applied, size_after, Touches}
use Rattle.node_tree.specs.Backing.{Backs, now}
use Rattle.node_tree.specs.Fetching.{host_part}
use Rattle.node_tree.specs.Opened.{AtNodes, Entry, Given, Fails, is_short, root_fails, child_fails}
use Rattle.node_tree.specs.Reading.{KeepsFields, IsForeign}
use Rattle.node_tree.specs.Sheet.{Sheet}
use Rattle.node_tree.specs.State.{TreeState, Held, root_in}
use Rattle.node_tree.specs.Stepping.{StepEnds, Stepped, BreaksAt, StepLeaves, StepDamageComes, BackedStep}
use Rattle.node_tree.specs.Unforged.{GivenOf}
use Rattle.node_tree.specs.declared.fault.TreeFault.{TreeFault}
use Rattle.node_tree.specs.declared.fault.TreeFault.TheVariants as trees
use Rattle.pf_io.specs.Answered.{Came}
use Rattle.pf_io.specs.Counts.{HasCause}
use Rattle.pf_io.specs.Disk.{Name}
use Rattle.pf_io.specs.Host.{Answer, Gave, HostState, Both, IsMore, since, WhereTold}
use Rattle.pf_io.proofs.Telling.{told_by}
use Rattle.pf_session.specs.Backing.{IsBacked}
use Rattle.pf_session.specs.Changing.{IsFlushedFirst, IsRoomy, StepGoes, StepState}
use Rattle.pf_session.specs.State.{SessionState, file_of}
use Rattle.pf_script.specs.BookSeats.{IsOfScript}
use Rattle.pf_script.specs.Desk.{seat_on}
use Rattle.pf_script.specs.DeskSteps.{CountsFault}
use Rattle.pf_script.specs.SeatSteps.{FlushesFirst, Fits, IsStepped}
use Rattle.pf_script.specs.Turns.{ByDamage, BlamesFetch, IsShort, IsClosed}
use Rattle.pf_script.proofs.Flushed.{length_now}
use Rattle.pf_script.proofs.OfScript.{file_named}
use Rattle.pf_script.proofs.SeatCalls.{own_with}

-- two facts of the answers of a call
pub told_also : (P Q R : List Answer → Type 0) (old new : HostState) → WhereTold old new P → WhereTold old new Q → ((these : List Answer) → P these → Q these → R these) → WhereTold old new R
told_also P Q R old new one two go = by_given old.given new.given one two
  where
    by_given : (o p : Option (List Answer)) → Both o p (λ before now. IsMore (since before now) before now × P (since before now)) → Both o p (λ before now. IsMore (since before now) before now × Q (since before now))
        → Both o p (λ before now. IsMore (since before now) before now × R (since before now))
    by_given (Some a) (Some b) one two = (one.0, go (since a b) one.1 two.1)
    by_given None None one two = tt
    by_given (Some a) None one two = absurd one
    by_given None (Some b) one two = absurd one

-- what came, where it is told
pub told_came : (P : List Answer → Type 0) (old new : HostState) → Came P old new → WhereTold old new P
told_came P old new came = told_by P came.these old new came.answered.told came.holds

-- whether a step failed at the host
abbrev pub host_of : Result (Unit {0}) TreeFault → Bool
host_of (Ok done) = false
host_of (Err (trees.Damaged damage)) = false
host_of (Err trees.Host) = true
host_of (Err trees.Memory) = false

pub counts_of : (one : Result (Unit {0}) TreeFault) (before now : ℕ) → HasCause before now (host_part one) → CountsFault (host_of one) before now
counts_of (Ok done) before now cause = cause.still
counts_of (Err (trees.Damaged damage)) before now cause = cause.still
counts_of (Err trees.Host) before now cause = cause.once
counts_of (Err trees.Memory) before now cause = cause.still

-- what a step comes to on a sheet of which the answers are
abbrev pub StepOut : Result (Unit {0}) TreeFault → Step → SessionState → SessionState → Sheet → List Answer → Type 0
StepOut (Ok done) step old new base given = IsBacked base new × IsStepped step (seat_on base old) (seat_on base new)
StepOut (Err (trees.Damaged damage)) step old new base given = BlamesFetch base old.name given (ByDamage damage)
StepOut (Err trees.Host) step old new base given = Unit {0}
StepOut (Err trees.Memory) step old new base given = Unit {0}

abbrev pub StepFacts : Result (Unit {0}) TreeFault → Step → SessionState → SessionState → List Answer → Type 0
StepFacts one step old new given = (base : Sheet) → IsBacked base old → GivenOf base (Given old.name given) → StepOut one step old new base given

-- the answers of a part are among all
pub given_part : (sheet : Sheet) (name : Name) (these those rest : List Answer) → GivenOf sheet (Given name (these ++ those ++ rest)) → GivenOf sheet (Given name those)
given_part sheet name these those rest given = record {
  linked = given.linked;
  seals = λ k block plain node gave whole has opens.
      given.seals k block plain node (Contains-append_left (these ++ those) rest (Gave name (4096 * k) 4096 block) (Contains-append_right these those (Gave name (4096 * k) 4096 block) gave)) whole has opens;
}

-- of a node that fails a block came that is short, or that does not open
pub fails_comes : (name : Name) (held : AtNodes) (these : List Answer) (root : Entry) (damage : Damage) → Fails held (Given name these) root damage.node damage.kind → IsShort name these damage ⊎ IsClosed name these damage
fails_comes name held these root damage (is_short block free gave short kind) = inl (record { block = block; gave = gave; short = short; kind_is = kind })
fails_comes name held these root damage (root_fails block free first gave fails kind) = inr (record { block = block; gave = gave; whole = fails.whole; kind_is = kind })
fails_comes name held these root damage (child_fails parent block free low opened gave fails kind) = inr (record { block = block; gave = gave; whole = fails.whole; kind_is = kind })

module _ (old : SessionState) (mine : IsOfScript old) (new : SessionState) (one : Result (Unit {0}) TreeFault) (step : Step) (before after : HostState) (goes : StepGoes one step old new before after) where
  of_file : (base : Sheet) (these : List Answer) → GivenOf base (Given old.name these) → GivenOf base (Given (file_of old) these)
  of_file base these given = subst (λ (n : Name). GivenOf base (Given n these)) (sym (file_named old mine)) given

  -- the dirty nodes, by the content before the step
  dirty_after : (base : Sheet) (mid : TreeState) → KeepsFields old.tree mid → Stepped step mid new.tree → (k : ℕ)
      → Contains new.tree.dirty k ↔ ((Contains old.tree.dirty k ⊎ Touches step (length (now base old.tree)) k) × (k < node_count (size_after step (length (now base old.tree)))))
  dirty_after base mid kept stepped k =
      let size_is : mid.size ≡ length (now base old.tree) = ap (λ (t : TreeState). t.size) kept ∙ sym (length_now base old.tree) in
      subst (λ n. Contains new.tree.dirty k ↔ ((Contains old.tree.dirty k ⊎ Touches step n k) × (k < node_count (size_after step n)))) size_is
      (subst (λ n. Contains new.tree.dirty k ↔ ((Contains old.tree.dirty k ⊎ Touches step mid.size k) × (k < node_count n))) stepped.size
      (subst (λ (d : List ℕ). Contains new.tree.dirty k ↔ ((Contains d k ⊎ Touches step mid.size k) × (k < node_count new.tree.size))) (ap (λ (t : TreeState). t.dirty) kept) (stepped.dirty k)))

  pub stepped_is : (base : Sheet) (mid : TreeState) → KeepsFields old.tree mid → Stepped step mid new.tree → now base new.tree ≡ applied step (now base old.tree) → new ≡ record old { tree = new.tree; changed = true }
      → IsStepped step (seat_on base old) (seat_on base new)
  stepped_is base mid kept stepped content state = record {
    dirty = record { rising = stepped.rising; exactly = dirty_after base mid kept stepped };
    rest = ap (λ (s : SessionState). seat_on base s) state ∙ ap (λ (x : List ℕ). own_with old.key old.name base x new.tree.dirty true old.drawn old.broken) content;
  }

  made : one ≡ Ok tt → WhereTold before after (StepFacts (Ok tt) step old new)
  made is =
      told_came (StepFacts (Ok tt) step old new) before after
      (record {
        these = backed.these;
        answered = backed.answered;
        holds = λ base on given.
            let with_base = backed.holds base (of_file base backed.these given) on.backs in (
              record { path_is = ap (λ (s : SessionState). s.path) state ∙ on.path_is; nonce_is = ap (λ (s : SessionState). s.nonce) state ∙ on.nonce_is; backs = with_base.backs },
              stepped_is base goes.steps.mid goes.steps.rest (subst (λ (r : Result (Unit {0}) TreeFault). StepEnds r step (Given (file_of old) goes.steps.these) old.tree goes.steps.mid new.tree) is goes.steps.ends) with_base.content_is state,
            );
      })
    where
      state : StepState (Ok tt) old new
      state = subst (λ (r : Result (Unit {0}) TreeFault). StepState r old new) is goes.state

      backed : BackedStep (Ok tt) (file_of old) step old.tree new.tree before after
      backed = subst (λ (r : Result (Unit {0}) TreeFault). BackedStep r (file_of old) step old.tree new.tree before after) is goes.backed

  -- why a block is not the sheet's
  blames : (damage : Damage) (base : Sheet) (these : List Answer) → BreaksAt step old.tree.size (Held old.tree) (Given (file_of old) these) (root_in old.tree) damage → IsForeign base (Given (file_of old) these) damage.node
      → BlamesFetch base old.name these (ByDamage damage)
  blames damage base these breaks foreign = by_fails breaks.fails
    where
      by_fails : Fails (Held old.tree) (Given (file_of old) these) (root_in old.tree) damage.node damage.kind → BlamesFetch base old.name these (ByDamage damage)
      by_fails (is_short block free gave short kind) = inl (record { block = block; gave = subst (λ (n : Name). Given n these damage.node block) (file_named old mine) gave; short = short; kind_is = kind })
      by_fails (root_fails block free first gave fails kind) = inr (record { foreign = subst (λ (n : Name). IsForeign base (Given n these) damage.node) (file_named old mine) foreign; kind_is = kind })
      by_fails (child_fails parent block free low opened gave fails kind) = inr (record { foreign = subst (λ (n : Name). IsForeign base (Given n these) damage.node) (file_named old mine) foreign; kind_is = kind })

  damaged : (damage : Damage) → one ≡ Err (trees.Damaged damage) → WhereTold before after (StepFacts (Err (trees.Damaged damage)) step old new)
  damaged damage is =
      told_also (λ these. (sheet : Sheet) → GivenOf sheet (Given (file_of old) these) → Backs sheet old.tree → StepLeaves (Err (trees.Damaged damage)) step sheet (Given (file_of old) these) old.tree new.tree)
      (λ these. BreaksAt step old.tree.size (Held old.tree) (Given (file_of old) these) (root_in old.tree) damage) (StepFacts (Err (trees.Damaged damage)) step old new) before after
      (told_came (λ these. (sheet : Sheet) → GivenOf sheet (Given (file_of old) these) → Backs sheet old.tree → StepLeaves (Err (trees.Damaged damage)) step sheet (Given (file_of old) these) old.tree new.tree) before after
      (subst (λ (r : Result (Unit {0}) TreeFault). BackedStep r (file_of old) step old.tree new.tree before after) is goes.backed))
      (told_came (λ these. BreaksAt step old.tree.size (Held old.tree) (Given (file_of old) these) (root_in old.tree) damage) before after
      (subst (λ (r : Result (Unit {0}) TreeFault). StepDamageComes r (file_of old) step old.tree before after) is goes.damage))
      (λ these backed breaks base on given. blames damage base these breaks (backed base (of_file base these given) on.backs).1)

  -- the same, where nothing is known of the sheets
  pub damage_came : (damage : Damage) → one ≡ Err (trees.Damaged damage) → Came (λ these. IsShort old.name these damage ⊎ IsClosed old.name these damage) before after
  damage_came damage is = record {
    these = came.these;
    answered = came.answered;
    holds = subst (λ (n : Name). IsShort n came.these damage ⊎ IsClosed n came.these damage) (file_named old mine) (fails_comes (file_of old) (Held old.tree) came.these (root_in old.tree) damage came.holds.fails);
  }
    where
      came : Came (λ these. BreaksAt step old.tree.size (Held old.tree) (Given (file_of old) these) (root_in old.tree) damage) before after
      came = subst (λ (r : Result (Unit {0}) TreeFault). StepDamageComes r (file_of old) step old.tree before after) is goes.damage

  pub step_told : (r : Result (Unit {0}) TreeFault) → one ≡ r → WhereTold before after (StepFacts r step old new)
  step_told (Ok done) is = made is
  step_told (Err (trees.Damaged damage)) is = damaged damage is
  step_told (Err trees.Host) is = told_by (StepFacts (Err trees.Host) step old new) goes.backed.these before after goes.backed.answered.told (λ base on given. tt)
  step_told (Err trees.Memory) is = told_by (StepFacts (Err trees.Memory) step old new) goes.backed.these before after goes.backed.answered.told (λ base on given. tt)

-- the limit on dirty nodes, by the content of a seat
pub flushes_first : (base : Sheet) (old : SessionState) (step : Step) → IsFlushedFirst step old.tree → FlushesFirst (length (now base old.tree)) old.tree.dirty step
flushes_first base old step is =
    subst (λ n. FlushesFirst n old.tree.dirty step) (sym (length_now base old.tree)) (record { count = is.count; is_count = is.is_count; many = is.many })

pub fits_at : (base : Sheet) (old : SessionState) (step : Step) → IsRoomy step old.tree → Fits (length (now base old.tree)) old.tree.dirty step
fits_at base old step roomy = subst (λ n. Fits n old.tree.dirty step) (sym (length_now base old.tree)) roomy
