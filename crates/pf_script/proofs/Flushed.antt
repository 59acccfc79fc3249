-- What a flush of a session seals, as a seat of a script sees it.
use Rattle.std.proofs.Common.{◌≡◌, Bool, true, false, List, [], ◌∷◌, ◌++◌, ℕ, ◌+◌, ◌*◌, ◌<◌, ◌≤◌, refl, ◌∙◌, sym, ap, subst, None, Result, Ok, Err, length, length-append, arith, Option}
use Rattle.std.proofs.lemmas.List.FromFn.{length-map-range_with_len}
use Rattle.std.proofs.lemmas.List.Elements.{Contains-push, Contains-append_right}
use Rattle.std.specs.Prelude.{Contains}
use Rattle.node_layout.specs.Places.{node_count}
use Rattle.node_layout.specs.declared.damage.Damage.{Damage}
use Rattle.node_tree.specs.Backing.{now, plain_now}
use Rattle.node_tree.specs.Content.{byte_of}
use Rattle.node_tree.specs.Next.{NextSheet}
use Rattle.node_tree.specs.Sheet.{Sheet, IsLinked}
use Rattle.node_tree.specs.State.{TreeState}
use Rattle.pf_io.specs.Counts.{counted}
use Rattle.pf_io.specs.Disk.{Name}
use Rattle.pf_io.specs.Host.{Answer, Gave, Made, HostState, Both, IsMore}
use Rattle.pf_io.specs.Names.{side_of}
use Rattle.pf_io.specs.Words.{WordsState}
use Rattle.pf_io.proofs.Telling.{told_none}
use Rattle.pf_session.specs.Asking.{faults_after, kind_of, IsTaken as AreTaken}
use Rattle.pf_session.specs.Backing.{IsBacked, StandsOn}
use Rattle.pf_session.specs.Copying.{copied}
use Rattle.pf_session.specs.Drawing.{IsNonce, was_drawn, of_words, WordsCame, nonce_words}
use Rattle.pf_session.specs.Flushing.{Seals as SealsNext, FlushShort, FlushGoes, no_words, had_words, SealGoes, node_short, call_failed, flushed}
use Rattle.pf_session.specs.Sealing.{Replaces, StandsNext}
use Rattle.pf_session.specs.State.{SessionState}
use Rattle.pf_session.specs.Steps.{clean_nodes, seal_steps, steps_by, flush_steps}
use Rattle.pf_session.specs.declared.fault.FlushFault.{FlushFault}
use Rattle.pf_session.specs.declared.fault.FlushFault.TheVariants as faults
use Rattle.pf_script.specs.BookSeats.{IsOfScript}
use Rattle.pf_script.specs.Desk.{seat_on}
use Rattle.pf_script.specs.DeskSteps.{CountsFault}
use Rattle.pf_script.specs.SeatSteps.{IsNextSheet, Seals}
use Rattle.pf_script.specs.Turns.{Blame, ByHost, ByDamage, BlamesFlush, IsShort}
use Rattle.pf_script.proofs.OfScript.{file_named}

pub length_now : (sheet : Sheet) (tree : TreeState) → length (now sheet tree) ≡ tree.size
length_now sheet tree = length-map-range_with_len (byte_of tree.first (plain_now sheet tree)) 0 tree.size

-- a flush that was done keeps the size of the content
pub sealed_size : (nonce : List ℕ) (keys : List (List ℕ)) (old new : SessionState) (before after : HostState) → SealGoes (Ok tt) nonce keys old new before after → new.tree.size ≡ old.tree.size
sealed_size nonce keys old new before after (node_short damage named short seals same said) = absurd (cc)
sealed_size nonce keys old new before after (call_failed stopped beside seals shape same said) = absurd (cc)
sealed_size nonce keys old new before after (flushed mid is_done beside settled seals same said) = settled.size ∙ is_done.shape.size

pub flushed_size : (old new : SessionState) (before after : HostState) (random random' : WordsState) → FlushGoes (Ok tt) old new before after random random' → new.tree.size ≡ old.tree.size
flushed_size old new before after random random' (no_words lacked same stays said) = absurd (cc)
flushed_size old new before after random random' (had_words nonce keys came goes) = sealed_size nonce keys old new before after goes

-- the next sheet, over the content and the dirty nodes alone
pub next_of : (base : Sheet) (tree : TreeState) (path nonce : List ℕ) (keys : List (List ℕ)) (next : Sheet) → NextSheet base tree path nonce keys next → IsNextSheet base path nonce (now base tree) tree.dirty keys next
next_of base tree path nonce keys next is = record {
  linked = is.linked;
  path_is = is.path_is;
  nonce_is = is.nonce_is;
  content_is = is.content_is;
  clean = is.clean;
  new_keys = is.new_keys;
  free_entries = λ m k node dirty has many child far. is.free_entries m k node dirty has many child (subst (λ n. node_count n ≤ k) (length_now base tree) far);
}

abbrev pub host_blamed : Blame → Bool
host_blamed ByHost = true
host_blamed (ByDamage damage) = false

abbrev pub fault_of : Blame → FlushFault
fault_of ByHost = faults.Host
fault_of (ByDamage damage) = faults.Damaged damage

-- what is seen of a call: these answers came, these words were taken, and these counts rose
pub record SeenOf (these : List Answer) (words : List (List ℕ)) (of_host of_words : Bool) (before after : HostState) (random random' : WordsState) : Type 0 where
  pub told : Both before.given after.given (IsMore these)
  pub taken : Both random.left random'.left (AreTaken words)
  pub on_host : CountsFault of_host before.faults after.faults
  pub on_words : CountsFault of_words random.faults random'.faults

-- a call of the host that failed is counted
pub counted_kind : (answer : Answer) (n m : ℕ) → m ≡ faults_after (kind_of answer) n → m ≡ counted n
counted_kind (Answer.LengthWas name length) n m is = is
counted_kind (Gave name place room bytes) n m is = is
counted_kind (Answer.Wrote name place bytes) n m is = is
counted_kind (Answer.WasCut name length) n m is = is
counted_kind (Answer.Synced name) n m is = is
counted_kind (Made name) n m is = is
counted_kind (Answer.Swapped from to) n m is = is
counted_kind (Answer.Removed name) n m is = is

-- on each sheet that backs the session, the words seal a next one
abbrev pub SealsWith : SessionState → List (List ℕ) → (Sheet → Sheet → Type 0) → Type 0
SealsWith old words P = (base : Sheet) → IsLinked base → IsBacked base old → (next : Sheet) × Seals (seat_on base old) words next × P base next

abbrev pub SealsOwn : SessionState → List (List ℕ) → (Sheet → Type 0) → Type 0
SealsOwn old words P = SealsWith old words (λ base next. P next)

-- the words of a nonce
nonce_long : (drawn : Option (List ℕ)) (nonce : List ℕ) (words : List (List ℕ)) → IsNonce drawn nonce words → length words ≡ nonce_words drawn
nonce_long drawn nonce words (was_drawn is none) = ap (λ (l : List (List ℕ)). length l) none ∙ sym (ap (λ (o : Option (List ℕ)). nonce_words o) is)
nonce_long drawn nonce words (of_words first second is same are) = ap (λ (l : List (List ℕ)). length l) are ∙ sym (ap (λ (o : Option (List ℕ)). nonce_words o) is)

-- as many words as a flush of the session takes
abbrev pub AsManyAsFlush : SessionState → List (List ℕ) → Type 0
AsManyAsFlush old words = length words ≡ nonce_words old.drawn + length old.tree.dirty

-- fewer words than that
abbrev pub TooFewToFlush : SessionState → List (List ℕ) → Type 0
TooFewToFlush old words = length words < nonce_words old.drawn + length old.tree.dirty

-- the version has taken the name
abbrev pub HasSwapped : Name → List Answer → Type 0
HasSwapped name these = Contains these (Answer.Swapped (side_of name) name)

-- how a flush ended, with what it left on the disk
pub data FlushEnds (result : Result (Unit {0}) FlushFault) (old new : SessionState) (before after : HostState) (random random' : WordsState) : Type 0 where
  not_begun : (words : List (List ℕ)) → TooFewToFlush old words → SeenOf [] words false true before after random random' → new ≡ old → after ≡ before → result ≡ Err faults.Words → FlushEnds result old new before after random random'
  not_ended : (blame : Blame) (these : List Answer) (words : List (List ℕ)) → AsManyAsFlush old words → SeenOf these words (host_blamed blame) false before after random random' → BlamesFlush old.name these blame
      → SealsWith old words (λ base next. Replaces false old.key old.name base next before after) → new.key ≡ old.key → new.name ≡ old.name → new.broken ≡ true → result ≡ Err (fault_of blame) → FlushEnds result old new before after random random'
  was_ended : (these : List Answer) (words : List (List ℕ)) → AsManyAsFlush old words → SeenOf these words false false before after random random' → HasSwapped old.name these → SealsWith old words (λ base next. StandsOn next new × Replaces true old.key old.name base next before after × StandsNext old.key old.name base next before after) → {nonce : List ℕ} {tree : TreeState}
      → new ≡ record old { nonce = nonce; drawn = None; tree = tree; changed = false } → new.tree.dirty ≡ [] → result ≡ Ok tt → FlushEnds result old new before after random random'

-- how a flush ended: no word came; or it sealed and failed; or it sealed
pub data FlushCase (result : Result (Unit {0}) FlushFault) (old new : SessionState) (before after : HostState) (random random' : WordsState) : Type 0 where
  lacked : (words : List (List ℕ)) → TooFewToFlush old words → SeenOf [] words false true before after random random' → new ≡ old → after ≡ before → result ≡ Err faults.Words → FlushCase result old new before after random random'
  failed : (blame : Blame) (these : List Answer) (words : List (List ℕ)) → SeenOf these words (host_blamed blame) false before after random random' → BlamesFlush old.name these blame → SealsOwn old words (λ next. Unit {0})
      → new.key ≡ old.key → new.name ≡ old.name → new.broken ≡ true → result ≡ Err (fault_of blame) → FlushCase result old new before after random random'
  done : (these : List Answer) (words : List (List ℕ)) → SeenOf these words false false before after random random' → HasSwapped old.name these → SealsOwn old words (λ next. StandsOn next new) → {nonce : List ℕ} {tree : TreeState}
      → new ≡ record old { nonce = nonce; drawn = None; tree = tree; changed = false } → new.tree.dirty ≡ [] → result ≡ Ok tt → FlushCase result old new before after random random'

module _ (old : SessionState) (mine : IsOfScript old) (new : SessionState) (before after : HostState) (random random' : WordsState) where
  seals_own : (ended : Bool) (nonce : List ℕ) (keys : List (List ℕ)) (base : Sheet) (came : WordsCame old.drawn (length old.tree.dirty) nonce keys random random') (seals : SealsNext ended base nonce keys old new before after)
      → Seals (seat_on base old) (came.words ++ keys) seals.next
  seals_own ended nonce keys base came seals = record {
    nonce = nonce;
    of_nonce = came.words;
    keys = keys;
    is_nonce = came.is_nonce;
    are_keys = came.are_keys;
    words_are = refl;
    next = subst (λ (p : List ℕ). IsNextSheet base p nonce (now base old.tree) old.tree.dirty keys seals.next) mine.path_is (next_of base old.tree old.path nonce keys seals.next seals.is_next);
  }

  -- the block of a node of which too few bytes were given
  short_of : (damage : Damage) (short : FlushShort old damage before after) → IsShort old.name (Made (side_of old.name) ∷ copied old.name (side_of old.name) short.done short.blocks ++ Gave old.name (4096 * damage.node) 4096 short.block ∷ []) damage
  short_of damage short = record {
    block = short.block;
    gave = Contains-push (Made (side_of old.name) ∷ copied old.name (side_of old.name) short.done short.blocks) (Gave old.name (4096 * damage.node) 4096 short.block);
    short = short.short;
    kind_is = short.kind_is;
  }

  -- by its last call a flush takes the name
  swaps : (nonce : List ℕ) (keys blocks : List (List ℕ)) (mid : TreeState) → HasSwapped old.name (flush_steps old nonce keys blocks mid)
  swaps nonce keys blocks mid = subst (λ (b : Bool). HasSwapped old.name (steps_by b old nonce keys blocks mid)) (sym mine.named) at_the_end
    where
      inside : List Answer
      inside = copied old.name (side_of old.name) (clean_nodes old) blocks ++ seal_steps old.key old.path nonce (side_of old.name) old.tree.dirty keys mid

      last : Answer
      last = Answer.Swapped (side_of old.name) old.name

      at_the_end : HasSwapped old.name (steps_by false old nonce keys blocks mid)
      at_the_end = Contains-append_right (Made (side_of old.name) ∷ []) (inside ++ last ∷ []) last (Contains-push inside last)

  as_many : (nonce : List ℕ) (keys : List (List ℕ)) (came : WordsCame old.drawn (length old.tree.dirty) nonce keys random random') → AsManyAsFlush old (came.words ++ keys)
  as_many nonce keys came =
      let long = nonce_long old.drawn nonce came.words came.is_nonce in
      let each = came.are_keys.one_each in
      omega (arith, length-append came.words keys, long, each)

  pub seal_ends : (result : Result (Unit {0}) FlushFault) (nonce : List ℕ) (keys : List (List ℕ)) → WordsCame old.drawn (length old.tree.dirty) nonce keys random random' → SealGoes result nonce keys old new before after
      → FlushEnds result old new before after random random'
  seal_ends result nonce keys came (node_short damage named short seals same said) =
      not_ended (ByDamage damage) (Made (side_of old.name) ∷ copied old.name (side_of old.name) short.done short.blocks ++ Gave old.name (4096 * damage.node) 4096 short.block ∷ []) (came.words ++ keys) (as_many nonce keys came)
      (record { told = short.asked.told; taken = came.took.told; on_host = short.asked.faults; on_words = came.took.calm })
      (short_of damage short)
      (λ base linked backed. let on = seals base linked backed in (on.next, seals_own false nonce keys base came on, on.named mine.named))
      (ap (λ (s : SessionState). s.key) same) (ap (λ (s : SessionState). s.name) same) (ap (λ (s : SessionState). s.broken) same) said
  seal_ends result nonce keys came (call_failed stopped beside seals shape same said) =
      not_ended ByHost stopped.stopped.answered (came.words ++ keys) (as_many nonce keys came)
      (record { told = stopped.stopped.asked.told; taken = came.took.told; on_host = counted_kind stopped.stopped.failed before.faults after.faults stopped.stopped.asked.faults; on_words = came.took.calm })
      tt
      (λ base linked backed. let on = seals base linked backed in (on.next, seals_own false nonce keys base came on, on.named mine.named))
      (ap (λ (s : SessionState). s.key) same) (ap (λ (s : SessionState). s.name) same) (ap (λ (s : SessionState). s.broken) same) said
  seal_ends result nonce keys came (flushed mid is_done beside settled seals same said) =
      was_ended _ (came.words ++ keys) (as_many nonce keys came)
      (record { told = is_done.asked.told; taken = came.took.told; on_host = is_done.asked.faults; on_words = came.took.calm })
      (swaps nonce keys is_done.blocks mid)
      (λ base linked backed.
      let on = seals base linked backed in
      (on.next, seals_own true nonce keys base came on, (on.on_next refl, on.named mine.named, subst (λ (n : Name). StandsNext old.key n base on.next before after) (file_named old mine) (on.stands refl))))
      same settled.dirty said

  pub flush_ends : (result : Result (Unit {0}) FlushFault) → FlushGoes result old new before after random random' → FlushEnds result old new before after random random'
  flush_ends result (no_words fewer same stays said) =
      not_begun fewer.words fewer.fewer
      (record {
        told = told_none before after (ap (λ (h : HostState). h.given) stays);
        taken = fewer.told;
        on_host = ap (λ (h : HostState). h.faults) stays;
        on_words = fewer.once;
      }) same stays said
  flush_ends result (had_words nonce keys came goes) = seal_ends result nonce keys came goes

  -- for any host
  pub flush_case : (result : Result (Unit {0}) FlushFault) → FlushGoes result old new before after random random' → FlushCase result old new before after random random'
  flush_case result goes = by_end (flush_ends result goes)
    where
      by_end : FlushEnds result old new before after random random' → FlushCase result old new before after random random'
      by_end (not_begun words fewer seen same stays said) = lacked words fewer seen same stays said
      by_end (not_ended blame these words counted seen blames seals key_is name_is broken said) =
          failed blame these words seen blames (λ base linked backed. let on = seals base linked backed in (on.0, on.1, tt)) key_is name_is broken said
      by_end (was_ended these words counted seen swapped seals same dirty said) = done these words seen swapped (λ base linked backed. let on = seals base linked backed in (on.0, on.1, on.2.0)) same dirty said
