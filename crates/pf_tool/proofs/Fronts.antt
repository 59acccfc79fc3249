-- The pieces so far, and how a run goes on behind them.
use Rattle.std.proofs.Common.{◌≡◌, ◌⊎◌, inl, inr, ℕ, ◌+◌, ◌-◌, ◌*◌, ◌<◌, ◌≤◌, min, List, [], ◌∷◌, ◌++◌, length, refl, ap, ◌∙◌, sym, arith, subst, append_assoc, Option, Some, None}
use Rattle.std.proofs.lemmas.Bool.{cases_lt}
use Rattle.std.proofs.lemmas.List.FromFn.{map-range_with_len_more}
use Rattle.node_layout.specs.declared.damage.Damage.{Damage}
use Rattle.node_layout.specs.declared.damage.Kind.TheVariants.{Short}
use Rattle.node_layout.specs.declared.metadata.MetaSecret.{MetaSecret}
use Rattle.node_layout.specs.Places.{node_count}
use Rattle.node_tree.specs.Content.{bytes_of}
use Rattle.node_tree.specs.Opened.{Entry, Opened, is_short, NothingHeld, BlockOf, block_of}
use Rattle.node_tree.specs.Parts.{IsWhole, IsBroken, PIECE, ArePiecesFrom}
use Rattle.node_tree.proofs.Lively.{touched_low, touched_live}
use Rattle.pf_io.specs.Host.{Name, Gave}
use Rattle.pf_tool.specs.Events.{Event, Answers, Puts}
use Rattle.pf_tool.specs.Endings.{Ending}
use Rattle.pf_tool.specs.Decrypting.{end_of, node_events, piece_events, PiecesLead}
use Rattle.pf_tool.proofs.SameBlocks.{SameTo, same_sooner, same_whole}
use Rattle.pf_tool.proofs.Following.{range_events, same_events, length-whole}
use Rattle.pf_tool.proofs.Numbered.{touched_between}
use Rattle.pf_tool.proofs.Growing.{block_past}

abbrev pub root_entry : MetaSecret → Entry
root_entry secret = (secret.root_key, secret.root_tag)

-- The pieces up to a place were put out by these events: whatever follows them in a file with the same blocks, it all is one run.
pub record Front (input : Name) (node : List ℕ) (secret : MetaSecret) (at : ℕ) (file : List ℕ) (events : List Event) : Type 0 where
  pub first : block_of file 0 ≡ node
  pub pieces : List (List ℕ)
  pub goes_on : (other : List ℕ) (rest : List (List ℕ)) (end : Option Damage) → SameTo (node_count (min at secret.size)) file other → ArePiecesFrom other secret at rest end
      → ArePiecesFrom other secret 0 (pieces ++ rest) end × (piece_events input other 0 (pieces ++ rest) (end_of end) ≡ events ++ piece_events input other at rest (end_of end))

-- the nodes below a number open
abbrev pub AreOpen : MetaSecret → List ℕ → ℕ → Type 0
AreOpen secret file j = (k : ℕ) → 1 ≤ k → k < j → (plain : List ℕ) × Opened NothingHeld (BlockOf file) (root_entry secret) k plain

-- the blocks of a file are the nodes below a number, and they open
pub record Ready (secret : MetaSecret) (file : List ℕ) (j : ℕ) : Type 0 where
  pub long : length file ≡ 4096 * j
  pub opens : AreOpen secret file j

pub front_none : (input : Name) (node : List ℕ) (secret : MetaSecret) → block_of node 0 ≡ node → Front input node secret 0 node []
front_none input node secret first = record { first = first; pieces = []; goes_on = λ other rest end same are. (are, refl) }

between : (j k : ℕ) → ((1 ≤ k) × (k < j)) ⊎ ¬ ((1 ≤ k) × (k < j))
between j k =
    elim (cases_lt k j) [
      | inl lt ↦ elim (cases_lt 0 k) [ inl some ↦ inl (omega arith, lt) | inr none ↦ inr (λ b. omega (arith, b.0, none)) ]
      | inr ge ↦ inr (λ b. omega (arith, b.1, ge))
    ]

module _ (secret : MetaSecret) (file : List ℕ) (j : ℕ) (opens : AreOpen secret file j) where
  text_of : (k : ℕ) → ((1 ≤ k) × (k < j)) ⊎ ¬ ((1 ≤ k) × (k < j)) → List ℕ
  text_of k (inl b) = (opens k b.0 b.1).0
  text_of k (inr outside) = []

  text_opened : (k : ℕ) (c : ((1 ≤ k) × (k < j)) ⊎ ¬ ((1 ≤ k) × (k < j))) → 1 ≤ k → k < j → Opened NothingHeld (BlockOf file) (root_entry secret) k (text_of k c)
  unfolding text_of
  text_opened k (inl b) low high = (opens k b.0 b.1).1
  text_opened k (inr outside) low high = absurd (outside (low, high))

  -- where all nodes of a piece open, it is whole
  pub whole_next : (at n : ℕ) → node_count (at + n) ≤ j → (piece : List ℕ) × IsWhole NothingHeld (BlockOf file) (root_entry secret) secret.first at n piece
  whole_next at n le = (
    bytes_of secret.first (λ k. text_of k (between j k)) at n,
    record {
      plain = λ k. text_of k (between j k);
      each = λ k touched. text_opened k (between j k) (touched_low at (at + n) k touched) (let live = touched_live at (at + n) (at + n) k (omega arith) touched in omega arith);
      are = refl;
    },
  )

-- where the next node is behind the file's end, it is short
module _ (secret : MetaSecret) (file : List ℕ) (j : ℕ) (ready : Ready secret file j) where
  pub broken_next : (at n : ℕ) → 0 < n → node_count at ≤ j → j < node_count (at + n) → IsBroken NothingHeld (BlockOf file) (root_entry secret) at n (record { node = j; kind = Short })
  broken_next at n some low high = record {
    touched = touched_between at (at + n) j (omega arith) low high;
    before = λ k touched lt. ready.opens k (touched_low at (at + n) k touched) lt;
    fails = is_short (block_of file j) (λ there. there.1) refl (let none = ap (λ (l : List ℕ). length l) (block_past file j ready.long) in omega (arith, none)) refl;
  }

module _ (input : Name) (node : List ℕ) (secret : MetaSecret) (at : ℕ) (file : List ℕ) (events : List Event) (front : Front input node secret at file events) where
  -- the run ends so
  pub close : (other : List ℕ) (rest : List (List ℕ)) (end : Option Damage) → SameTo (node_count (min at secret.size)) file other → ArePiecesFrom other secret at rest end
      → PiecesLead input node secret (events ++ piece_events input other at rest (end_of end)) (end_of end)
  close other rest end same are = record {
    file = other;
    pieces = front.pieces ++ rest;
    end = end;
    first = sym (same 0 (omega arith)) ∙ front.first;
    are = (front.goes_on other rest end same are).0;
    events_are = sym (front.goes_on other rest end same are).1;
    ending_is = refl;
  }

  -- one more piece
  pub front_more : (other piece : List ℕ) → at < secret.size → SameTo (node_count at) file other → IsWhole NothingHeld (BlockOf other) (root_entry secret) secret.first at (min PIECE (secret.size - at)) piece
      → Front input node secret (at + PIECE) other (events ++ (node_events input other (node_count at) (node_count (at + length piece)) ++ (Puts piece ∷ [])))
  front_more other piece lt same whole =
      let n = min PIECE (secret.size - at) in
      let long : length piece ≡ n = length-whole NothingHeld (BlockOf other) (root_entry secret) secret.first at n piece whole in
      let here : min at secret.size ≡ at = omega arith in
      let there : min (at + PIECE) secret.size ≡ at + n = omega arith in
      record {
        first = sym (same 0 (omega arith)) ∙ front.first;
        pieces = front.pieces ++ piece ∷ [];
        goes_on = λ more rest end alike are.
            let alike_n : SameTo (node_count (at + n)) other more = subst (λ (m : ℕ). SameTo (node_count m) other more) there alike in
            let alike_at : SameTo (node_count at) other more = same_sooner (node_count at) (node_count (at + n)) other more (omega arith) alike_n in
            let all = front.goes_on more (piece ∷ rest) end (subst (λ (m : ℕ). SameTo (node_count m) file more) (sym here) (λ k below. same k below ∙ alike_at k below))
            (lt, same_whole (node_count (at + n)) other more alike_n (root_entry secret) secret.first at n piece (omega arith) whole, are) in
            let joined : (front.pieces ++ piece ∷ []) ++ rest ≡ front.pieces ++ piece ∷ rest = simp append_assoc in
            let nodes : node_events input more (node_count at) (node_count (at + length piece)) ≡ node_events input other (node_count at) (node_count (at + length piece)) =
            same_events input more other (node_count at) (node_count (at + length piece)) (λ k below. sym (alike_n k (omega (arith, below, ap (λ (m : ℕ). node_count (at + m)) long)))) in (
              subst (λ (ps : List (List ℕ)). ArePiecesFrom more secret 0 ps end) (sym joined) all.0,
              ap (λ (ps : List (List ℕ)). piece_events input more 0 ps (end_of end)) joined ∙ all.1 ∙ ap (λ (l : List Event). events ++ (l ++ (Puts piece ∷ piece_events input more (at + PIECE) rest (end_of end)))) nodes ∙ simp append_assoc,
            );
      }

-- one more node
one_node : (input : Name) (file : List ℕ) (from j : ℕ) → from ≤ j → node_events input file from (j + 1) ≡ range_events input file from (j - from) ++ Answers (Gave input (4096 * j) 4096 (block_of file j)) ∷ []
one_node input file from j le =
    let more : (j + 1) - from ≡ (j - from) + 1 = omega arith in
    ap (range_events input file from) more ∙ map-range_with_len_more (λ k. Answers (Gave input (4096 * k) 4096 (block_of file k))) from (j - from) j (omega arith)

-- events and an ending to which they lead behind others
pub record GoesOn (input : Name) (node : List ℕ) (secret : MetaSecret) (events : List Event) : Type 0 where
  pub rest : List Event
  pub ending : Ending
  pub leads : PiecesLead input node secret (events ++ rest) ending

-- and the first of them
pub record GoesOnBy (input : Name) (node : List ℕ) (secret : MetaSecret) (events : List Event) (event : Event) : Type 0 where
  pub rest : List Event
  pub ending : Ending
  pub leads : PiecesLead input node secret (events ++ event ∷ rest) ending

module _ (input : Name) (node : List ℕ) (secret : MetaSecret) where
  -- behind whole pieces: the content's end, or a node that is not there, or a last piece
  pub continued : (at : ℕ) (file : List ℕ) (events : List Event) → Front input node secret at file events → Ready secret file (node_count (min at secret.size)) → GoesOn input node secret events
  continued at file events front ready =
      elim (cases_lt at secret.size) [
        | inr past ↦ record { rest = []; ending = end_of None; leads = close input node secret at file events front file [] None (λ k below. refl) past }
        | inl lt ↦
            let n = min PIECE (secret.size - at) in
            let here : min at secret.size ≡ at = omega arith in
            let ready_at = subst (λ (m : ℕ). Ready secret file (node_count m)) here ready in
            elim (cases_lt (node_count at) (node_count (at + n))) [
              | inl more ↦
                  let damage : Damage = record { node = node_count at; kind = Short } in
                  record {
                    rest = piece_events input file at [] (end_of (Some damage));
                    ending = end_of (Some damage);
                    leads = close input node secret at file events front file [] (Some damage) (λ k below. refl) (lt, broken_next secret file (node_count at) ready_at at n (omega arith) (omega arith) more);
                  }
              | inr none ↦
                  let whole = whole_next secret file (node_count at) ready_at.opens at n none in
                  record {
                    rest = piece_events input file at (whole.0 ∷ []) (end_of None);
                    ending = end_of None;
                    leads = close input node secret at file events front file (whole.0 ∷ []) None (λ k below. refl) (lt, whole.1, last at n lt refl none);
                  }
            ]
      ] where
        last : (at n : ℕ) → at < secret.size → n ≡ min PIECE (secret.size - at) → node_count (at + n) ≤ node_count at → secret.size ≤ at + PIECE
        last at n lt is none = omega arith

  module _ (at : ℕ) (file : List ℕ) (events : List Event) (front : Front input node secret at file events) (lt : at < secret.size) (other : List ℕ) (same : SameTo (node_count at) file other) where
    here : min at secret.size ≡ at
    here = omega arith

    same_here : SameTo (node_count (min at secret.size)) file other
    same_here = subst (λ (m : ℕ). SameTo (node_count m) file other) (sym here) same

    -- behind nodes that open, the next one is asked for
    pub asks_next : (j : ℕ) → Ready secret other j → node_count at ≤ j → j < node_count (at + min PIECE (secret.size - at)) → (block : List ℕ) × GoesOnBy input node secret (events ++ range_events input other (node_count at) (j - node_count at)) (Answers (Gave input (4096 * j) 4096 block))
    asks_next j ready low high =
        let n = min PIECE (secret.size - at) in
        let damage : Damage = record { node = j; kind = Short } in
        let ends = close input node secret at file events front other [] (Some damage) same_here (lt, broken_next secret other j ready at n (omega arith) low high) in
        let event = Answers (Gave input (4096 * j) 4096 (block_of other j)) in (
          block_of other j,
          record {
            rest = [];
            ending = end_of (Some damage);
            leads = subst (λ (l : List Event). PiecesLead input node secret l (end_of (Some damage))) (ap (λ (l : List Event). events ++ l) (one_node input other (node_count at) j low) ∙ simp append_assoc) ends;
          },
        )

    -- behind a piece whose nodes open, it is put out
    pub puts_piece : (piece : List ℕ) → IsWhole NothingHeld (BlockOf other) (root_entry secret) secret.first at (min PIECE (secret.size - at)) piece → Ready secret other (node_count (at + min PIECE (secret.size - at)))
        → GoesOnBy input node secret (events ++ node_events input other (node_count at) (node_count (at + length piece))) (Puts piece)
    puts_piece piece whole ready =
        let n = min PIECE (secret.size - at) in
        let there : at + n ≡ min (at + PIECE) secret.size = omega arith in
        let nodes = node_events input other (node_count at) (node_count (at + length piece)) in
        let on = continued (at + PIECE) other (events ++ (nodes ++ (Puts piece ∷ []))) (front_more input node secret at file events front other piece lt same whole) (subst (λ (m : ℕ). Ready secret other (node_count m)) there ready) in
        record {
          rest = on.rest;
          ending = on.ending;
          leads = subst (λ (l : List Event). PiecesLead input node secret l on.ending) (simp append_assoc) on.leads;
        }
