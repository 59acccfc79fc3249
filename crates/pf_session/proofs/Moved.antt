-- The move of a session, from its flush and from the carrying of its file.
use Rattle.std.proofs.Common.{◌≡◌, ℕ, ◌+◌, ◌≤◌, Bool, true, false, cond, List, [], ◌++◌, length, refl, ap, ◌∙◌, sym, subst, arith, length-append, Option, Some, None, Result, Ok, Err, IfSome}
use Rattle.std.specs.Prelude.{Contains, option_map}
use Rattle.std.proofs.lemmas.Option.{IfSome_then}
use Rattle.node_layout.specs.Places.{node_count}
use Rattle.node_tree.specs.Sheet.{Sheet, Stands}
use Rattle.pf_io.specs.Disk.{Name, Files, File, Disk, IsImageAt, IsImage, reading}
use Rattle.pf_io.specs.Host.{HostState, Both, files_of, contents}
use Rattle.pf_io.specs.Moments.{Honest, Ends, Where}
use Rattle.pf_io.specs.Names.{side_of}
use Rattle.pf_io.specs.Steps.{Stays}
use Rattle.pf_io.specs.Unchanged.{KeepsDisk}
use Rattle.pf_io.specs.Words.{WordsState}
use Rattle.pf_io.proofs.Runs.{goes_on_ran, started}
use Rattle.pf_session.specs.State.{SessionState}
use Rattle.pf_session.specs.Aside.{LeavesApart, KeepsApart, Aside, LeavesApartBoth, KeepsApartBoth, AsideBoth}
use Rattle.pf_session.specs.Asking.{TookFewer}
use Rattle.pf_session.specs.Backing.{RestsOn}
use Rattle.pf_session.specs.Copying.{clean_below}
use Rattle.pf_session.specs.Drawing.{IsDrawn, WordsCame, WordsLacked}
use Rattle.pf_session.specs.Flushing.{SealsEach, SealGoes, node_short, call_failed, flushed, IsUndamaged, UndamagedFlush}
use Rattle.pf_session.specs.Making.{ReplaceUndamaged, done_of}
use Rattle.pf_session.specs.Moving.{CarryGoes, Carries, CarryEnds, flush_failed, carry_failed, carried, FlushesFirst, MoveLacksWords, flush_words, after_carry, IsKeptOn, UndamagedAtRest, UndamagedCarry}
use Rattle.pf_session.specs.Reopening.{ReadsAs, HasSheet}
use Rattle.pf_session.specs.declared.fault.FlushFault.{FlushFault}
use Rattle.pf_session.specs.declared.fault.FlushFault.TheVariants as faults
use Rattle.pf_session.proofs.Placing.{ran_weaker}
use Rattle.pf_session.proofs.Published.{has_reads}
use Rattle.pf_session.proofs.Versions.{clean_whole, for_all}
use Rattle.pf_session.proofs.Words.{words_count, fewer_then}

-- names apart

module _ (from to : Name) where
  pub both_none : (state : HostState) → AsideBoth from to state state
  both_none state =
      ran_weaker (LeavesApartBoth from to) (LeavesApartBoth from to) Stays (KeepsApartBoth from to) state.honest state.honest (λ d image left. left) (λ d e same other apart. ap (λ (x : Disk). x other) same)
      (started (LeavesApartBoth from to) state.honest (λ d image is other apart. is other))

  pub both_kept : (old new : HostState) → KeepsDisk old new → AsideBoth from to old new
  both_kept old new keeps =
      ran_weaker IsImage (LeavesApartBoth from to) Stays (KeepsApartBoth from to) old.honest new.honest (λ d image is other apart. is other) (λ d e same other apart. ap (λ (x : Disk). x other) same) keeps

  pub both_aside : (old new : HostState) → Aside from old new → AsideBoth from to old new
  both_aside old new aside =
      ran_weaker (LeavesApart from) (LeavesApartBoth from to) (KeepsApart from) (KeepsApartBoth from to) old.honest new.honest (λ d image left other apart. left other apart.of_old) (λ d e keeps other apart. keeps other apart.of_old) aside

  pub both_on : (old mid new : HostState) → AsideBoth from to old mid → AsideBoth from to mid new → AsideBoth from to old new
  both_on old mid new first second =
      goes_on_ran (LeavesApartBoth from to) (LeavesApartBoth from to) (KeepsApartBoth from to) (KeepsApartBoth from to) (KeepsApartBoth from to) old.honest mid.honest new.honest first second
      (λ d e keeps image left other apart. subst (λ (o : Option File). IsImageAt o (image other)) (keeps other apart) (left other apart)) (λ d e f one two other apart. two other apart ∙ one other apart)

-- the words

more_wanted : (n m : ℕ) (old new : WordsState) → n ≤ m → TookFewer n old new → TookFewer m old new
more_wanted n m old new le fewer = record { words = fewer.words; fewer = let f = fewer.fewer in omega arith; told = fewer.told; once = fewer.once }

module _ (session : SessionState) (random between random' : WordsState) (changed : session.changed ≡ true) where
  lacks : TookFewer (flush_words true session + 2) random random' → MoveLacksWords session random random'
  lacks fewer = subst (λ (b : Bool). TookFewer (flush_words b session + 2) random random') (sym changed) fewer

  -- a word of the flush was wanting
  pub lacks_first : WordsLacked session.drawn (length session.tree.dirty) random random' → MoveLacksWords session random random'
  lacks_first lacked = lacks (more_wanted (flush_words true session) (flush_words true session + 2) random random' (omega arith) lacked)

  -- one of the two that follow was
  pub lacks_last : (sealed : List ℕ) (keys : List (List ℕ)) → WordsCame session.drawn (length session.tree.dirty) sealed keys random between → TookFewer 2 between random' → MoveLacksWords session random random'
  lacks_last sealed keys came fewer =
      let n = words_count session.drawn sealed came.words came.is_nonce in
      let all = came.are_keys.one_each in
      lacks (fewer_then (came.words ++ keys) (flush_words true session) 2 random between random' (omega (arith, n, all, length-append came.words keys)) came.took fewer)

-- how it ends

pub ends : (r : Result (Unit {0}) FlushFault) (to : Name) (nonce : List ℕ) (old mid new : SessionState) (before between after : HostState) (random random' : WordsState) → FlushesFirst old mid nonce before between random random' → CarryGoes r to nonce mid between after
    → Carries (done_of r) to nonce mid between after → new ≡ after_carry r nonce mid → CarryEnds r to old new before after random random'
ends (Ok done) to nonce old mid new before between after random random' first goes carries is = carried between mid nonce first goes carries is refl
ends (Err fault) to nonce old mid new before between after random random' first goes carries is = carry_failed between mid nonce fault first goes carries is refl

-- no node is damaged

module _ (session : SessionState) (before : HostState) where
  pub at_rest : (r : Result (Unit {0}) FlushFault) → length session.key ≡ 16 → ReplaceUndamaged r session.name (clean_below [] (node_count session.tree.size)) before → UndamagedAtRest r session before
  at_rest (Ok done) key_length short = for_all _ (files_of before) (λ files sheet rests stands. tt)
  at_rest (Err faults.Words) key_length short = for_all _ (files_of before) (λ files sheet rests stands. tt)
  at_rest (Err (faults.Damaged damage)) key_length short =
      IfSome_then (files_of before) short
      (λ files broken sheet rests stands.
      let among = subst (λ (l : List ℕ). Contains (clean_below l (node_count session.tree.size)) damage.node) (sym rests.clean) broken.0 in
      let whole = clean_whole session.key sheet session.tree (contents (files session.name)) key_length rests.stands.backed.backs stands damage.node among in
      let few = broken.1 in
      absurd (omega arith))
  at_rest (Err faults.Host) key_length short = for_all _ (files_of before) (λ files sheet rests stands. tt)

  -- of a session that is not flushed
  pub calm_undamaged : (r : Result (Unit {0}) FlushFault) (to : Name) → session.changed ≡ false → UndamagedAtRest r session before → UndamagedCarry r to session before
  calm_undamaged r to calm undamaged = IfSome_then (files_of before) undamaged (λ files each sheet kept stands gone. each sheet (kept.rests calm) stands)

  -- whose flush failed
  pub unflushed_undamaged : (r : Result (Unit {0}) FlushFault) (to : Name) → session.beside ≡ false → UndamagedFlush r session before → UndamagedCarry r to session before
  unflushed_undamaged r to named undamaged =
      IfSome_then (files_of before) undamaged
      (λ files each sheet kept stands gone.
      each sheet kept.backed (subst (λ (b : Bool). Stands (contents (files (cond b (side_of session.name) session.name))) session.key sheet) (sym named) stands))

-- a flush that was done
pub record IsSealed (old mid : SessionState) (nonce : List ℕ) (keys : List (List ℕ)) (before after : HostState) : Type 0 where
  pub name_is : mid.name ≡ old.name
  pub key_is : mid.key ≡ old.key
  pub clean : mid.tree.dirty ≡ []
  pub each : SealsEach true nonce keys old mid before after

pub is_sealed : (old mid : SessionState) (nonce : List ℕ) (keys : List (List ℕ)) (before after : HostState) → SealGoes (Ok tt) nonce keys old mid before after → IsSealed old mid nonce keys before after
is_sealed old mid nonce keys before after (node_short damage named short each state is) = absurd (cc)
is_sealed old mid nonce keys before after (call_failed stopped keeps each shape state is) = absurd (cc)
is_sealed old mid nonce keys before after (flushed tree done keeps settled each state is) =
    record { name_is = ap (λ (s : SessionState). s.name) state; key_is = ap (λ (s : SessionState). s.key) state; clean = settled.dirty; each = each }

module _ (old mid : SessionState) (nonce : List ℕ) (keys : List (List ℕ)) (before between : HostState) (named : old.beside ≡ false) (sealed : IsSealed old mid nonce keys before between) (r : Result (Unit {0}) FlushFault) where
  abbrev Each : SessionState → Files → Type 0
  Each session files = (sheet : Sheet) → RestsOn sheet session → Stands (contents (files session.name)) session.key sheet → IsUndamaged r

  flushed_then : (a : Honest) (p : Option Honest) (sheet next : Sheet) → Both (Some a) p (Where (ReadsAs old.key old.name sheet) (Ends (λ _. HasSheet old.key old.name next))) → ReadsAs old.key old.name sheet a.now → RestsOn next mid
      → IfSome (option_map (λ (h : Honest). reading h.now) p) (Each mid) → IsUndamaged r
  flushed_then a (Some b) sheet next stands reads rests undamaged =
      undamaged next rests
      (subst (λ (k : List ℕ). Stands (contents (reading b.now mid.name)) k next) (sym sealed.key_is)
      (subst (λ (n : Name). Stands (contents (reading b.now n)) old.key next) (sym sealed.name_is) (has_reads old.key old.name next b.now (stands reads))))
  flushed_then a None sheet next stands reads rests undamaged = absurd stands

  -- of one that was flushed
  pub flushed_undamaged : (to : Name) → UndamagedAtRest r mid between → UndamagedCarry r to old before
  flushed_undamaged to undamaged = by_host before.honest refl
    where
      by_host : (o : Option Honest) → before.honest ≡ o → IfSome (option_map (λ (h : Honest). reading h.now) o) (λ files. (sheet : Sheet) → IsKeptOn sheet old → Stands (contents (files old.name)) old.key sheet → files to ≡ None → IsUndamaged r)
      by_host None is = tt
      by_host (Some a) is = λ sheet kept stands gone.
          let seals = sealed.each sheet stands.linked kept.backed in
          let next = seals.stands refl in
          let at_name = subst (λ (b : Bool). Both before.honest between.honest (Where (ReadsAs old.key (cond b (side_of old.name) old.name) sheet) (Ends (λ _. HasSheet old.key (cond b (side_of old.name) old.name) seals.next)))) named next in
          flushed_then a between.honest sheet seals.next (subst (λ (o : Option Honest). Both o between.honest (Where (ReadsAs old.key old.name sheet) (Ends (λ _. HasSheet old.key old.name seals.next)))) is at_name) stands
          (record { stands = seals.on_next refl; clean = sealed.clean }) undamaged

pub not_flushed_ends : (fault : FlushFault) (to : Name) (sealed : List ℕ) (keys : List (List ℕ)) (nonce : List ℕ) (old new : SessionState) (before after : HostState) (random between random' : WordsState) → old.changed ≡ true → WordsCame old.drawn (length old.tree.dirty) sealed keys random between
    → IsDrawn nonce between random' → SealGoes (Err fault) sealed keys old new before after → Aside old.name before after → CarryEnds (Err fault) to old new before after random random'
not_flushed_ends fault to sealed keys nonce old new before after random between random' changed came drawn goes aside =
    flush_failed fault (record { sealed = sealed; keys = keys; nonce = nonce; between = between; is_changed = changed; came = came; drawn = drawn; goes = goes; aside = aside }) refl
