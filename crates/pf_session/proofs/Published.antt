-- A side file that is flushed, and then takes the name.
use Rattle.std.proofs.Common.{◌≡◌, ◌≢◌, inl, inr, ⊎_elim, ℕ, List, [], ◌∷◌, length, refl, ap, sym, subst, ◌∙◌, Bool, true, false, Option, Some, None, Result, Ok, Err}
use Rattle.node_tree.specs.Sheet.{Sheet, Stands}
use Rattle.pf_io.specs.Disk.{Name, File, Disk, Image, IsImage, IsImageAt, read_of}
use Rattle.pf_io.specs.Host.{Swapped, HostState, Both, OnDisk, contents, files_of}
use Rattle.pf_io.specs.Words.{WordsState}
use Rattle.pf_io.specs.Moments.{Honest, Does, Ran, Ends, Where}
use Rattle.pf_io.specs.Names.{recovery_of, side_of}
use Rattle.pf_io.specs.Steps.{KeepsOthers, AtOnce, Swaps}
use Rattle.pf_io.proofs.Images.{settled_at, swapped_others}
use Rattle.pf_io.proofs.Runs.{started, goes_on}
use Rattle.pf_io.proofs.Telling.{both_then, both_weaker}
use Rattle.pf_session.specs.State.{SessionState, file_of}
use Rattle.pf_session.specs.Restored.{KeepsBeside}
use Rattle.pf_session.specs.Drawing.{WordsCame}
use Rattle.pf_session.specs.Flushing.{SealsEach, SealGoes, node_short, call_failed, flushed, FlushGoes, no_words, had_words, IsUndamaged, UndamagedFlush}
use Rattle.pf_session.specs.Aside.{LeavesOthers, LeavesNamed, LeavesAllBut, KeepsAllBut, LeavesApart, KeepsApart, Aside}
use Rattle.pf_session.specs.Reopening.{LeftAs, ReadsAs, HasSheet}
use Rattle.pf_session.specs.Sealing.{StandsNext}
use Rattle.pf_session.proofs.Names.{side_apart, recovery_not_side}
use Rattle.pf_session.proofs.Versions.{file_beside, for_all}
use Rattle.pf_session.specs.Making.{done_of}
use Rattle.pf_session.specs.Ending.{KeptOr, PublishedIf, PublishesEach, PublishGoes, not_named, published}
use Rattle.pf_session.specs.Asking.{NoCall, AnotherCall, Asked}
use Rattle.pf_session.specs.declared.fault.FlushFault.{FlushFault}
use Rattle.pf_session.specs.declared.fault.FlushFault.TheVariants as faults

-- the name reads as the sheet that it has
pub has_reads : (key : List ℕ) (name : Name) (sheet : Sheet) (d : Disk) → HasSheet key name sheet d → ReadsAs key name sheet d
has_reads key name sheet d has = subst (λ (o : Option File). Stands (contents (read_of o)) key sheet) (sym has.there) has.stands

both_and : {A : Type 0} (P Q : A → A → Type 0) (o p : Option A) → Both o p P → Both o p Q → Both o p (λ a b. P a b × Q a b)
both_and P Q (Some a) (Some b) one two = (one, two)
both_and P Q None None one two = tt
both_and P Q (Some a) None one two = absurd one
both_and P Q None (Some b) one two = absurd one

module _ (session : SessionState) (next : Sheet) where
  -- the side file is flushed, and no other name was changed
  record Flushed (old new : Disk) : Type 0 where
    others : KeepsOthers (side_of session.name) old new
    has : HasSheet session.key (side_of session.name) next new

  as_named : (d : Disk) (image : Image) → LeavesOthers (side_of session.name) d image → LeavesNamed session.name d image
  as_named d image others = record { here = others session.name (λ same. side_apart session.name (sym same)); recovery = others (recovery_of session.name) (recovery_not_side session.name) }

  as_sheet : (image : Image) (bytes : List ℕ) → image session.name ≡ Some bytes → Stands bytes session.key next → LeftAs session.key session.name next image
  as_sheet image bytes is stands = record { file = bytes; whole = is; stands = stands }

  swapped : {T E : Type 0} (r : Result T E) (d e f : Disk) → Flushed d e → AtOnce r (Swaps (side_of session.name) session.name) e f
      → PublishedIf (done_of r) session next d f × ((image : Image) → IsImage f image → KeptOr session next d image)
  swapped (Ok x) d e f was swap =
      let has = was.has in
      let there = swap.moved has.file (side_apart session.name) has.there in (
        record { file = has.file; there = there; settled = has.settled; stands = has.stands },
        λ image is. inr (as_sheet image has.file.bytes (settled_at has.file (f session.name) (image session.name) there has.settled (is session.name)) has.stands),
      )
  swapped (Err x) d e f was (inl swap) =
      let has = was.has in
      let there = swap.moved has.file (side_apart session.name) has.there in (
        inr (record { file = has.file; there = there; settled = has.settled; stands = has.stands }),
        λ image is. inr (as_sheet image has.file.bytes (settled_at has.file (f session.name) (image session.name) there has.settled (is session.name)) has.stands),
      )
  swapped (Err x) d e f was (inr same) =
      let kept = λ (other : Name) (apart : other ≢ side_of session.name). ap (λ (g : Disk). g other) same ∙ was.others other apart in
      (inl (kept session.name (λ same. side_apart session.name (sym same))), λ image is. inl (as_named d image (λ other apart. subst (λ (o : Option File). IsImageAt o (image other)) (kept other apart) (is other))))

  flushed_run : (a b : Honest) → Ran (LeavesOthers (side_of session.name)) (KeepsOthers (side_of session.name)) a b → HasSheet session.key (side_of session.name) next b.now → Ran (KeptOr session next) Flushed a b
  flushed_run a b ran has = record {
    leaves = record {
      later = ran.leaves.later;
      each = λ image left. inl (as_named a.now image (ran.leaves.each image left));
      earlier = λ t image le left. ⊎_elim (λ was. inl was) (λ others. inr (inl (as_named a.now image others))) (ran.leaves.earlier t image le left);
    };
    ends = record { others = ran.ends; has = has };
  }

  -- at every moment of both the name is as before or new
  pub published_run : {T E : Type 0} (r : Result T E) (sheet : Sheet) (o p q : Option Honest) → Both o p (Where (HasSheet session.key (side_of session.name) sheet) (Ends (λ _. HasSheet session.key (side_of session.name) next)))
      → Both o p (Ran (LeavesOthers (side_of session.name)) (KeepsOthers (side_of session.name))) → Both p q (Does (AtOnce r (Swaps (side_of session.name) session.name)))
      → Both o q (Where (HasSheet session.key (side_of session.name) sheet) (Ran (KeptOr session next) (PublishedIf (done_of r) session next)))
  published_run r sheet o p q seals alone does =
      both_then (λ a b. (Where (HasSheet session.key (side_of session.name) sheet) (Ends (λ _. HasSheet session.key (side_of session.name) next)) a b) × Ran (LeavesOthers (side_of session.name)) (KeepsOthers (side_of session.name)) a b)
      (Does (AtOnce r (Swaps (side_of session.name) session.name))) (Where (HasSheet session.key (side_of session.name) sheet) (Ran (KeptOr session next) (PublishedIf (done_of r) session next))) o p q
      (both_and _ _ o p seals alone) does
      (λ a b c two step has.
      goes_on (KeptOr session next) Flushed (PublishedIf (done_of r) session next) (AtOnce r (Swaps (side_of session.name) session.name)) (Some a) (Some b) (Some c) (flushed_run a b two.1 (two.0 has)) step (swapped r))

-- a swap changes two names alone
pub swap_two : {T E : Type 0} (r : Result T E) (from to : Name) (o p : Option Honest) → Both o p (Does (AtOnce r (Swaps from to))) → Both o p (Ran (LeavesAllBut from to) (KeepsAllBut from to))
swap_two r from to o p does =
    goes_on (LeavesAllBut from to) (λ d e. e ≡ d) (KeepsAllBut from to) (AtOnce r (Swaps from to)) o o p (started (LeavesAllBut from to) o (λ d image is other one two. is other)) does
    (λ d e f same swap.
    let keeps : KeepsAllBut from to d f = λ other one two. swapped_others r from to e f other swap one two ∙ ap (λ (g : Disk). g other) same in
    (keeps, λ image is other one two. subst (λ (x : Option File). IsImageAt x (image other)) (keeps other one two) (is other)))

-- what a flush says

-- a call that was not made changes nothing
pub beside_none : (name : Name) (state : HostState) → KeepsBeside name state state
beside_none name state =
    both_weaker (Ran (LeavesOthers (side_of name)) (λ d e. e ≡ d)) (Ran (LeavesOthers (side_of name)) (KeepsOthers (side_of name))) state.honest state.honest (started (LeavesOthers (side_of name)) state.honest (λ d image is other apart. is other))
    (λ a b run. record { leaves = run.leaves; ends = λ other apart. ap (λ (d : Disk). d other) run.ends })

-- a flush of a file beside its name keeps all else
pub kept_by_flush : (result : Result (Unit {0}) FlushFault) (session mid : SessionState) (before after : HostState) (random random' : WordsState) → session.beside ≡ true → FlushGoes result session mid before after random random' → KeepsBeside session.name before after
kept_by_flush result session mid before after random random' beside (no_words lacked same still is) = subst (λ (s : HostState). KeepsBeside session.name before s) (sym still) (beside_none session.name before)
kept_by_flush result session mid before after random random' beside (had_words nonce keys came (node_short damage not_beside short seals new is)) = absurd (true_false (sym beside ∙ not_beside)) where
  true_false : true ≡ false → ⊥
  true_false e = cc
kept_by_flush result session mid before after random random' beside (had_words nonce keys came (call_failed stopped keeps seals shape new is)) = keeps beside
kept_by_flush result session mid before after random random' beside (had_words nonce keys came (flushed tree done keeps settled seals new is)) = keeps beside

-- one that was done keeps the size
pub flush_size : (session mid : SessionState) (before after : HostState) (random random' : WordsState) → FlushGoes (Ok tt) session mid before after random random' → mid.tree.size ≡ session.tree.size
flush_size session mid before after random random' (no_words lacked same still is) = absurd (cc)
flush_size session mid before after random random' (had_words nonce keys came (node_short damage not_beside short seals new is)) = absurd (cc)
flush_size session mid before after random random' (had_words nonce keys came (call_failed stopped keeps seals shape new is)) = absurd (cc)
flush_size session mid before after random random' (had_words nonce keys came (flushed tree done keeps settled seals new is)) = settled.size ∙ done.shape.size

-- one that was done had its words
pub record Sealed (session mid : SessionState) (before after : HostState) (random random' : WordsState) : Type 0 where
  pub name_is : mid.name ≡ session.name
  pub nonce : List ℕ
  pub keys : List (List ℕ)
  pub came : WordsCame session.drawn (length session.tree.dirty) nonce keys random random'
  pub goes : SealGoes (Ok tt) nonce keys session mid before after
  pub seals : SealsEach true nonce keys session mid before after

pub sealed_by_flush : (session mid : SessionState) (before after : HostState) (random random' : WordsState) → FlushGoes (Ok tt) session mid before after random random' → Sealed session mid before after random random'
sealed_by_flush session mid before after random random' (no_words lacked same still is) = absurd (cc)
sealed_by_flush session mid before after random random' (had_words nonce keys came (node_short damage not_beside short seals new is)) = absurd (cc)
sealed_by_flush session mid before after random random' (had_words nonce keys came (call_failed stopped keeps seals shape new is)) = absurd (cc)
sealed_by_flush session mid before after random random' (had_words nonce keys came (flushed tree done keeps settled seals new is)) =
    record { name_is = ap (λ (s : SessionState). s.name) new; nonce = nonce; keys = keys; came = came; goes = flushed tree done keeps settled seals new is; seals = seals }

-- a side file with a sheet has the next one in the end
side_stands : (session : SessionState) (sheet next : Sheet) (before after : HostState) → session.beside ≡ true → StandsNext session.key (file_of session) sheet next before after
    → Both before.honest after.honest (Where (HasSheet session.key (side_of session.name) sheet) (Ends (λ _. HasSheet session.key (side_of session.name) next)))
side_stands session sheet next before after beside stands =
    both_weaker (Where (ReadsAs session.key (side_of session.name) sheet) (Ends (λ _. HasSheet session.key (side_of session.name) next))) _ before.honest after.honest
    (subst (λ (n : Name). StandsNext session.key n sheet next before after) (file_beside session beside) stands)
    (λ a b go has. go (has_reads session.key (side_of session.name) sheet a.now has))

-- the sheet that it sealed takes the name
pub publishes_each : {T E : Type 0} (r : Result T E) (nonce : List ℕ) (keys : List (List ℕ)) (session mid : SessionState) (before between after : HostState) → session.beside ≡ true → SealsEach true nonce keys session mid before between
    → KeepsBeside session.name before between → OnDisk between after (Does (AtOnce r (Swaps (side_of session.name) session.name))) → PublishesEach (done_of r) nonce keys session before after
publishes_each r nonce keys session mid before between after beside seals keeps does sheet linked backed =
    let next = seals sheet linked backed in
    (next.next, next.is_next, published_run session next.next r sheet before.honest between.honest after.honest (side_stands session sheet next.next before between beside (next.stands refl)) keeps does)

-- no damage
pub not_damaged : (result : Result (Unit {0}) FlushFault) (session : SessionState) (before : HostState) → IsUndamaged result → UndamagedFlush result session before
not_damaged result session before undamaged = for_all _ (files_of before) (λ files sheet backed stands. undamaged)

-- the names apart stay at a swap too
pub aside_swapped : {T E : Type 0} (r : Result T E) (name : Name) (before between after : HostState) → Aside name before between → OnDisk between after (Does (AtOnce r (Swaps (side_of name) name))) → Aside name before after
aside_swapped r name before between after aside does =
    goes_on (LeavesApart name) (KeepsApart name) (KeepsApart name) (AtOnce r (Swaps (side_of name) name)) before.honest between.honest after.honest aside does
    (λ d e f keeps swap.
    let kept : KeepsApart name d f = λ other apart. swapped_others r (side_of name) name e f other swap apart.side apart.here ∙ keeps other apart in
    (kept, λ image is other apart. subst (λ (o : Option File). IsImageAt o (image other)) (kept other apart) (is other)))

-- a swap of the names that the flushed session has
module _ (T E : Type 0) (r : Result T E) (session mid : SessionState) (before between after : HostState) (random random' : WordsState) (a b : Name) (beside : session.beside ≡ true) (goes : FlushGoes (Ok tt) session mid before between random random')
    (side_is : a ≡ side_of mid.name) (name_is : b ≡ mid.name) (does : OnDisk between after (Does (AtOnce r (Swaps a b)))) where
  sealed : Sealed session mid before between random random'
  sealed = sealed_by_flush session mid before between random random' goes

  keeps : KeepsBeside session.name before between
  keeps = kept_by_flush (Ok tt) session mid before between random random' beside goes

  pub side_same : a ≡ side_of session.name
  side_same = side_is ∙ ap (λ (n : Name). side_of n) sealed.name_is

  pub name_same : b ≡ session.name
  name_same = name_is ∙ sealed.name_is

  swaps : OnDisk between after (Does (AtOnce r (Swaps (side_of session.name) session.name)))
  swaps =
      subst (λ (m : Name). OnDisk between after (Does (AtOnce r (Swaps (side_of session.name) m)))) name_same
      (subst (λ (n : Name). OnDisk between after (Does (AtOnce r (Swaps n b)))) side_same does)

  pub aside_by : Aside session.name before between → Aside session.name before after
  aside_by aside = aside_swapped r session.name before between after aside swaps

  pub published_by : done_of r ≡ true → Asked (Swapped (side_of session.name) session.name ∷ []) NoCall between after → PublishGoes (Ok tt) session before after random random'
  published_by is asked =
      published mid between sealed.nonce sealed.keys sealed.came sealed.goes keeps asked (swap_two r (side_of session.name) session.name between.honest after.honest swaps)
      (subst (λ (d : Bool). PublishesEach d sealed.nonce sealed.keys session before after) is (publishes_each r sealed.nonce sealed.keys session mid before between after beside sealed.seals keeps swaps)) refl

  pub not_named_by : done_of r ≡ false → Asked [] AnotherCall between after → PublishGoes (Err faults.Host) session before after random random'
  not_named_by is asked =
      not_named mid between sealed.nonce sealed.keys sealed.came sealed.goes keeps asked (swap_two r (side_of session.name) session.name between.honest after.honest swaps)
      (subst (λ (d : Bool). PublishesEach d sealed.nonce sealed.keys session before after) is (publishes_each r sealed.nonce sealed.keys session mid before between after beside sealed.seals keeps swaps)) refl
