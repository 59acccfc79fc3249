-- The pieces put out so far, with what happened outside, and how the run ends from there.
use Rattle.std.proofs.Common.{◌≡◌, inl, inr, ℕ, zero, suc, ◌+◌, ◌-◌, ◌*◌, ◌<◌, ◌≤◌, min, List, [], ◌∷◌, ◌++◌, length, map, take, refl, ap, ◌∙◌, sym, arith, subst, append_assoc, Option, Some, None, Ok, Err}
use Rattle.std.proofs.lemmas.Bool.{cases_lt, true≢false}
use Rattle.std.proofs.lemmas.List.{append-nil, take_all}
use Rattle.node_layout.specs.declared.damage.Damage.{Damage}
use Rattle.node_layout.specs.declared.metadata.MetaSecret.{MetaSecret}
use Rattle.node_layout.specs.Places.{node_count}
use Rattle.node_tree.specs.Opened.{NothingHeld, BlockOf}
use Rattle.node_tree.specs.Parts.{PIECE}
use Rattle.node_tree.specs.State.{TreeState}
use Rattle.node_tree.specs.Fetching.{AsksInTurn, CountsCalls, host_part}
use Rattle.node_tree.specs.Reading.{Reads}
use Rattle.node_tree.specs.declared.fault.TreeFault.{TreeFault}
use Rattle.node_tree.specs.declared.fault.TreeFault.TheVariants as trees
use Rattle.node_tree.proofs.Fresh.{fresh, fresh_of_file}
use Rattle.pf_io.specs.Counts.{HasCause, counted, counted_times}
use Rattle.pf_io.specs.Host.{Name, Answer, Gave, HostState, KeepsFiles, Both, IsMore}
use Rattle.pf_io.specs.Answered.{Answered}
use Rattle.pf_io.specs.Streams.{SinkState}
use Rattle.pf_io.specs.Unchanged.{KeepsDisk}
use Rattle.pf_tool.specs.World.{World, with_host, with_out}
use Rattle.pf_tool.specs.Events.{Event, Answers, Puts, answers_in, words_in, pieces_in, reads_after, writes_after}
use Rattle.pf_tool.specs.Endings.{Ending, Done, Damaged, Stop, AtEnd}
use Rattle.pf_tool.specs.Happened.{HostPassed, HostFailed, OutPassed, OutFailed, Passed}
use Rattle.pf_tool.specs.Outcomes.{Outcome, Falls}
use Rattle.pf_tool.specs.Decrypting.{node_events, PiecesLead}
use Rattle.pf_tool.specs.Unsealing.{tree_fault}
use Rattle.pf_tool.specs.declared.fault.Fault.{Fault}
use Rattle.pf_tool.specs.declared.fault.Fault.TheVariants as faults
use Rattle.pf_tool.proofs.Composing.{passed_none, passed_host, passed_pieces, passed_reading, host_none}
use Rattle.pf_tool.proofs.Stopping.{refused, host_fails, out_fails, starves}
use Rattle.pf_tool.proofs.Following.{range_events, length-whole}
use Rattle.pf_tool.proofs.SameBlocks.{SameTo}
use Rattle.pf_tool.proofs.Fronts.{root_entry, Front, Ready, front_none, front_more, close, asks_next, puts_piece, whole_next}
use Rattle.pf_tool.proofs.PieceReads.{Holding, PieceRead, PieceBegun, piece_read, piece_broken, piece_failed, piece_starved, ready_of}

abbrev Kept : List Event → Stop → HostState → HostState → Type 0
Kept tried stop old new = KeepsDisk old new

-- a world with this host and this output
abbrev pub facing : World → HostState → SinkState → World
facing world host out = with_out (with_host world host) out

-- answers alone are events of the host alone
answers_of : (these : List Answer) → answers_in (map (λ a. Answers a) these) ≡ these
answers_of [] = refl
answers_of (x ∷ these) = ap (λ (l : List Answer). x ∷ l) (answers_of these)

no_words : (these : List Answer) → words_in (map (λ a. Answers a) these) ≡ []
no_words [] = refl
no_words (x ∷ these) = no_words these

no_pieces : (these : List Answer) → pieces_in (map (λ a. Answers a) these) ≡ []
no_pieces [] = refl
no_pieces (x ∷ these) = no_pieces these

-- reads of nodes are counted as reads
reads_counted : (name : Name) (ks : List ℕ) (these : List Answer) (count : ℕ) → AsksInTurn name ks these → reads_after these count ≡ counted_times (length these) count
reads_counted name [] [] count asks = refl
reads_counted name [] (x ∷ these) count asks = absurd asks
reads_counted name (k ∷ ks) [] count asks = absurd asks
reads_counted name (k ∷ ks) (x ∷ these) count asks =
    ap (λ (a : Answer). reads_after (a ∷ these) count) asks.0.1 ∙ reads_counted name ks these (counted count) asks.1

writes_counted : (name : Name) (ks : List ℕ) (these : List Answer) (count : ℕ) → AsksInTurn name ks these → writes_after these count ≡ count
writes_counted name [] [] count asks = refl
writes_counted name [] (x ∷ these) count asks = absurd asks
writes_counted name (k ∷ ks) [] count asks = absurd asks
writes_counted name (k ∷ ks) (x ∷ these) count asks =
    ap (λ (a : Answer). writes_after (a ∷ these) count) asks.0.1 ∙ writes_counted name ks these count asks.1

one_later : (n count : ℕ) → counted_times n (counted count) ≡ counted (counted_times n count)
one_later zero count = refl
one_later (suc n) count = one_later n (counted count)

pub same_given : (old new : Option (List Answer)) → Both old new (IsMore []) → new ≡ old
same_given (Some before) (Some now) both = ap (λ (l : List Answer). Some l) (both ∙ append-nil before)
same_given None None both = refl
same_given (Some before) None both = absurd both
same_given None (Some now) both = absurd both

module _ (name : Name) (ks : List ℕ) (these : List Answer) (asks : AsksInTurn name ks these) (old new : HostState) (answered : Answered these old new) where
  pub nodes_passed : new.faults ≡ old.faults → CountsCalls (length these) old new → HostPassed these old new
  nodes_passed calm counts = record {
    told = answered.told;
    calm = calm;
    reads = counts.reads ∙ sym (reads_counted name ks these old.reads asks);
    writes = counts.writes ∙ sym (writes_counted name ks these old.writes asks);
    untouched = λ none. counts.untouched (ap (λ (l : List Answer). length l) none);
    honest = answered.honest;
  }

  -- they came, and then a call failed
  pub nodes_failed : (place : ℕ) (block : List ℕ) → new.faults ≡ counted old.faults → CountsCalls (suc (length these)) old new
      → (mid : HostState) × HostPassed these old mid × HostFailed (Gave name place 4096 block) mid new
  nodes_failed place block once counts = by_cases these refl where
    by_cases : (l : List Answer) → these ≡ l → (mid : HostState) × HostPassed these old mid × HostFailed (Gave name place 4096 block) mid new
    by_cases [] none = (
      old,
      subst (λ (l : List Answer). HostPassed l old old) (sym none) (host_none old),
      record {
        told = same_given old.given new.given (subst (λ (l : List Answer). Both old.given new.given (IsMore l)) none answered.told);
        once = once;
        reads = counts.reads ∙ ap (λ (l : List Answer). counted_times (suc (length l)) old.reads) none;
        writes = counts.writes;
      },
    )
    by_cases (x ∷ xs) is = (
      record { faults = old.faults; reads = counted_times (length these) old.reads; writes = old.writes; widest = new.widest; given = new.given; honest = new.honest },
      record {
        told = answered.told;
        calm = refl;
        reads = sym (reads_counted name ks these old.reads asks);
        writes = sym (writes_counted name ks these old.writes asks);
        untouched = λ none. absurd (some (sym is ∙ none));
        honest = answered.honest;
      },
      record { told = refl; once = once; reads = counts.reads ∙ one_later (length these) old.reads; writes = counts.writes },
    ) where
      some : x ∷ xs ≡ [] → ⊥
      some none = absurd (cc)

nodes_of : (these : List Answer) (world : World) (old new : HostState) (out : SinkState) → HostPassed these old new → Passed (map (λ a. Answers a) these) (facing world old out) (facing world new out)
nodes_of these world old new out passed =
    passed_host (map (λ a. Answers a) these) (with_out world out) old new (no_words these) (no_pieces these) (subst (λ (l : List Answer). HostPassed l old new) (sym (answers_of these)) passed)

-- The pieces before a place were put out, and the tree holds the nodes that they touched.
pub record SoFar (input : Name) (node : List ℕ) (secret : MetaSecret) (at : ℕ) (tree : TreeState) (old new : HostState) (before after : SinkState) : Type 0 where
  pub file : List ℕ
  pub events : List Event
  pub front : Front input node secret at file events
  pub long : length file ≡ 4096 * node_count (min at secret.size)
  pub holding : Holding secret file (node_count (min at secret.size)) tree
  pub passed : (world : World) → Passed events (facing world old before) (facing world new after)

-- nothing was put out yet
pub so_far_none : (input : Name) (node : List ℕ) (secret : MetaSecret) (host : HostState) (out : SinkState) → length node ≡ 4096 → SoFar input node secret 0 (fresh secret) host host out out
so_far_none input node secret host out whole =
    let one : node_count (min 0 secret.size) ≡ 1 = omega arith in
    record {
      file = node;
      events = [];
      front = front_none input node secret (take_all 4096 node (omega (arith, whole)));
      long = omega (arith, whole, one);
      holding = record {
        size_is = refl;
        root_is = refl;
        first_is = refl;
        of_file = fresh_of_file secret node;
        others = λ k is. absurd (true≢false is);
        below = λ k low high. absurd (omega (arith, high, one));
      };
      passed = λ world. passed_none (facing world host out);
    }

module _ (input : Name) (node : List ℕ) (secret : MetaSecret) (at : ℕ) (tree : TreeState) (old now : HostState) (before out : SinkState) (so_far : SoFar input node secret at tree old now before out) (files : KeepsFiles old now) where
  -- all pieces were put out
  pub pieces_done : secret.size ≤ at → KeepsDisk old now → (world : World) → Outcome (PiecesLead input node secret) (λ _ _. KeepsDisk) (AtEnd Done) (facing world old before) (facing world now out)
  pieces_done past kept world = record {
    events = so_far.events;
    stands = subst (λ (l : List Event). PiecesLead input node secret l Done) (append-nil so_far.events) (close input node secret at so_far.file so_far.events so_far.front so_far.file [] None (λ k below. refl) past);
    happened = so_far.passed world;
    leaves = kept;
  }

  module _ (lt : at < secret.size) where
    here : min at secret.size ≡ at
    here = omega arith

    long_here : length so_far.file ≡ 4096 * node_count at
    long_here = subst (λ (m : ℕ). length so_far.file ≡ 4096 * node_count m) here so_far.long

    holding_here : Holding secret so_far.file (node_count at) tree
    holding_here = subst (λ (m : ℕ). Holding secret so_far.file (node_count m) tree) here so_far.holding

    -- behind nodes that were given and open, something is next
    pub begun_next : (these : List Answer) (j : ℕ) (begun : PieceBegun input secret at so_far.file these j) → j ≤ node_count (at + min PIECE (secret.size - at))
        → (event : Event) × (rest : List Event) × (ending : Ending) × PiecesLead input node secret ((so_far.events ++ map (λ a. Answers a) these) ++ event ∷ rest) ending
    begun_next these j begun most =
        let n = min PIECE (secret.size - at) in
        let nodes : so_far.events ++ range_events input begun.other (node_count at) (j - node_count at) ≡ so_far.events ++ map (λ a. Answers a) these = ap (λ (l : List Event). so_far.events ++ l) (sym begun.events) in
        elim (cases_lt j (node_count (at + n))) [
          | inl more ↦
              let next = asks_next input node secret at so_far.file so_far.events so_far.front lt begun.other begun.same j begun.ready begun.low more in
              (Answers (Gave input (4096 * j) 4096 next.0), next.1.rest, next.1.ending, subst (λ (l : List Event). PiecesLead input node secret (l ++ Answers (Gave input (4096 * j) 4096 next.0) ∷ next.1.rest) next.1.ending) nodes next.1.leads)
          | inr all ↦
              let is : j ≡ node_count (at + n) = omega (arith, most, all) in
              let whole = whole_next secret begun.other j begun.ready.opens at n (omega (arith, is)) in
              let long : length whole.0 ≡ n = length-whole NothingHeld (BlockOf begun.other) (root_entry secret) secret.first at n whole.0 whole.1 in
              let puts = puts_piece input node secret at so_far.file so_far.events so_far.front lt begun.other begun.same whole.0 whole.1 (subst (λ (m : ℕ). Ready secret begun.other m) is begun.ready) in
              let same : node_events input begun.other (node_count at) (node_count (at + length whole.0)) ≡ map (λ a. Answers a) these =
              ap (λ (m : ℕ). range_events input begun.other (node_count at) (m - node_count at)) (ap (λ (m : ℕ). node_count (at + m)) long ∙ sym is) ∙ sym begun.events in
              (Puts whole.0, puts.rest, puts.ending, subst (λ (l : List Event). PiecesLead input node secret ((so_far.events ++ l) ++ Puts whole.0 ∷ puts.rest) puts.ending) same puts.leads)
        ]

    module _ (buffer : List ℕ) (room : length buffer ≡ PIECE) (tree' : TreeState) (new : HostState) (kept : KeepsDisk old new) where
      -- events so far, and the nodes of this piece
      nodes_then : (these : List Answer) (mid : HostState) → HostPassed these now mid → (world : World) → Passed (so_far.events ++ map (λ a. Answers a) these) (facing world old before) (facing world mid out)
      nodes_then these mid passed world =
          passed_reading so_far.events (map (λ a. Answers a) these) (facing world old before) (facing world now out) (facing world mid out) (so_far.passed world) files (nodes_of these world now mid out passed)

      pub read_starved : (fault : Fault) → fault ≡ faults.Memory → (reads : Reads (Err trees.Memory) input at buffer tree tree' now new) → new.faults ≡ now.faults → (world : World)
          → Falls (PiecesLead input node secret) (λ _ _. KeepsDisk) fault (facing world old before) (facing world new out)
      read_starved fault is reads calm world =
          let begun = piece_starved input secret at so_far.file tree lt long_here holding_here buffer room tree' now new reads in
          let next = begun_next reads.these begun.0 begun.1 begun.2 in
          starves (PiecesLead input node secret) Kept (so_far.events ++ map (λ a. Answers a) reads.these) next.1 next.0 next.2 fault (facing world old before) (facing world new out) is next.3
          (nodes_then reads.these new (nodes_passed input reads.asked.done reads.these reads.asked.asks now new reads.answered calm reads.counted) world) kept

      pub read_failed : (fault : Fault) → fault ≡ faults.Host → (reads : Reads (Err trees.Host) input at buffer tree tree' now new) → new.faults ≡ counted now.faults → (world : World)
          → Falls (PiecesLead input node secret) (λ _ _. KeepsDisk) fault (facing world old before) (facing world new out)
      read_failed fault is reads once world =
          let begun = piece_failed input secret at so_far.file tree lt long_here holding_here buffer room tree' now new reads in
          let next = asks_next input node secret at so_far.file so_far.events so_far.front lt begun.1.other begun.1.same begun.0 begun.1.ready begun.1.low begun.2 in
          let nodes : so_far.events ++ range_events input begun.1.other (node_count at) (begun.0 - node_count at) ≡ so_far.events ++ map (λ a. Answers a) reads.these = ap (λ (l : List Event). so_far.events ++ l) (sym begun.1.events) in
          let failed = nodes_failed input reads.asked.done reads.these reads.asked.asks now new reads.answered (4096 * begun.0) next.0 once reads.counted in
          host_fails (PiecesLead input node secret) Kept (so_far.events ++ map (λ a. Answers a) reads.these) next.1.rest next.1.ending fault (facing world old before) (facing world failed.0 out) (facing world new out)
          (Gave input (4096 * begun.0) 4096 next.0) is (subst (λ (l : List Event). PiecesLead input node secret (l ++ Answers (Gave input (4096 * begun.0) 4096 next.0) ∷ next.1.rest) next.1.ending) nodes next.1.leads)
          (nodes_then reads.these failed.0 failed.1 world) (failed.2, refl) kept

      pub read_damaged : (damage : Damage) (fault : Fault) → fault ≡ faults.Damaged damage → (reads : Reads (Err (trees.Damaged damage)) input at buffer tree tree' now new) → new.faults ≡ now.faults → (world : World)
          → Falls (PiecesLead input node secret) (λ _ _. KeepsDisk) fault (facing world old before) (facing world new out)
      read_damaged damage fault is reads calm world =
          let broken = piece_broken input secret at so_far.file tree lt long_here holding_here buffer room tree' now new damage reads in
          let same_here = subst (λ (m : ℕ). SameTo (node_count m) so_far.file broken.other) (sym here) broken.same in
          let leads = close input node secret at so_far.file so_far.events so_far.front broken.other [] (Some damage) same_here (lt, broken.broken) in
          subst (λ (f : Fault). Falls (PiecesLead input node secret) (λ _ _. KeepsDisk) f (facing world old before) (facing world new out)) (sym is)
          (refused (PiecesLead input node secret) Kept (so_far.events ++ map (λ a. Answers a) reads.these) (Damaged damage.node damage.kind) (faults.Damaged damage) (facing world old before) (facing world new out) refl refl
          (subst (λ (l : List Event). PiecesLead input node secret (so_far.events ++ l) (Damaged damage.node damage.kind)) (sym broken.events) leads)
          (nodes_then reads.these new (nodes_passed input (reads.asked.before ++ damage.node ∷ []) reads.these reads.asked.asks now new reads.answered calm reads.counted) world) kept)

      module _ (m : ℕ) (reads : Reads (Ok m) input at buffer tree tree' now new) (calm : new.faults ≡ now.faults) where
        read : PieceRead input secret at so_far.file tree' reads.these (take m buffer)
        read = piece_read input secret at so_far.file tree lt long_here holding_here buffer room tree' now new m reads

        piece_long : length (take m buffer) ≡ min PIECE (secret.size - at)
        piece_long = length-whole NothingHeld (BlockOf read.other) (root_entry secret) secret.first at (min PIECE (secret.size - at)) (take m buffer) read.whole

        nodes_are : node_events input read.other (node_count at) (node_count (at + length (take m buffer))) ≡ map (λ a. Answers a) reads.these
        nodes_are = ap (λ (k : ℕ). node_events input read.other (node_count at) (node_count (at + k))) piece_long ∙ sym read.events

        passed_nodes : (world : World) → Passed (so_far.events ++ map (λ a. Answers a) reads.these) (facing world old before) (facing world new out)
        passed_nodes world = nodes_then reads.these new (nodes_passed input _ reads.these reads.asked now new reads.answered calm reads.counted) world

        -- the output failed in the piece
        pub write_failed : (fault : Fault) (after : SinkState) → fault ≡ faults.Stream → OutFailed (take m buffer) out after → (world : World) → Falls (PiecesLead input node secret) (λ _ _. KeepsDisk) fault (facing world old before) (facing world new after)
        write_failed fault after is failed world =
            let ready = ready_of secret read.other (node_count (at + min PIECE (secret.size - at))) tree' read.long read.holding in
            let next = puts_piece input node secret at so_far.file so_far.events so_far.front lt read.other read.same (take m buffer) read.whole ready in
            out_fails (PiecesLead input node secret) Kept (so_far.events ++ map (λ a. Answers a) reads.these) next.rest next.ending fault (facing world old before) (facing world new out) (facing world new after)
            (take m buffer) is (subst (λ (l : List Event). PiecesLead input node secret ((so_far.events ++ l) ++ Puts (take m buffer) ∷ next.rest) next.ending) nodes_are next.leads) (passed_nodes world) (failed, refl) kept

        -- the piece was put out
        pub so_far_more : (after : SinkState) → OutPassed (take m buffer ∷ []) out after → KeepsFiles old new → SoFar input node secret (at + PIECE) tree' old new before after
        so_far_more after put same_files =
            let n = min PIECE (secret.size - at) in
            let there : at + n ≡ min (at + PIECE) secret.size = omega (arith, lt) in
            record {
              file = read.other;
              events = so_far.events ++ (node_events input read.other (node_count at) (node_count (at + length (take m buffer))) ++ (Puts (take m buffer) ∷ []));
              front = front_more input node secret at so_far.file so_far.events so_far.front read.other (take m buffer) lt read.same read.whole;
              long = subst (λ (k : ℕ). length read.other ≡ 4096 * node_count k) there read.long;
              holding = subst (λ (k : ℕ). Holding secret read.other (node_count k) tree') there read.holding;
              passed = λ world.
                  subst (λ (l : List Event). Passed l (facing world old before) (facing world new after))
                  (append_assoc so_far.events (map (λ a. Answers a) reads.these) (Puts (take m buffer) ∷ []) ∙ ap (λ (l : List Event). so_far.events ++ (l ++ (Puts (take m buffer) ∷ []))) (sym nodes_are))
                  (passed_reading (so_far.events ++ map (λ a. Answers a) reads.these) (Puts (take m buffer) ∷ []) (facing world old before) (facing world new out) (facing world new after) (passed_nodes world) same_files
                  (passed_pieces (Puts (take m buffer) ∷ []) (with_host world new) out after refl refl put));
            }

-- the read of a piece failed
pub read_ended : (tree_failed : TreeFault) (fault : Fault) (input : Name) (node : List ℕ) (secret : MetaSecret) (at : ℕ) (tree tree' : TreeState) (old now new : HostState) (before out : SinkState) (buffer : List ℕ) → fault ≡ tree_fault tree_failed
    → SoFar input node secret at tree old now before out → KeepsFiles old now → at < secret.size → length buffer ≡ PIECE → Reads (Err tree_failed) input at buffer tree tree' now new → HasCause now.faults new.faults (host_part {T = ℕ} (Err tree_failed))
    → KeepsDisk old new → (world : World) → Falls (PiecesLead input node secret) (λ _ _. KeepsDisk) fault (facing world old before) (facing world new out)
read_ended (trees.Damaged damage) fault input node secret at tree tree' old now new before out buffer is so_far files lt room reads cause kept world =
    read_damaged input node secret at tree old now before out so_far files lt buffer room tree' new kept damage fault is reads cause.still world
read_ended trees.Host fault input node secret at tree tree' old now new before out buffer is so_far files lt room reads cause kept world =
    read_failed input node secret at tree old now before out so_far files lt buffer room tree' new kept fault is reads cause.once world
read_ended trees.Memory fault input node secret at tree tree' old now new before out buffer is so_far files lt room reads cause kept world =
    read_starved input node secret at tree old now before out so_far files lt buffer room tree' new kept fault is reads cause.still world
