-- The fetching of one node.
use Rattle.std.proofs.Common.{◌≡◌, ◌⊎◌, inl, inr, ℕ, zero, suc, ◌*◌, ◌<◌, true, false, List, [], ◌∷◌, length, refl, ap, ◌∙◌, sym, arith, subst, Option, Some, None, Result, Ok, Err, OnOk, OnErr, IfErr, cond, eqb}
use Rattle.std.specs.Prelude.{Contains, slice_index, is_none, is_some}
use Rattle.std.specs.Option.{option_map}
use Rattle.std.proofs.lemmas.Bool.{true≢false, cases_eq, ne_eqb, cond-true, cond-false, eq-eqb}
use Rattle.std.proofs.lemmas.List.{append-nil}
use Rattle.std.proofs.lemmas.Option.{same_Some, none-some}
use Rattle.pf_io.specs.Host.{Name, HostState, CountsRead}
use Rattle.node_tree.specs.Opened.{At, IsAt, Entry, Opened, was_held, Fails, Given}
use Rattle.node_tree.specs.Fetching.{Asking, CountsCalls, calls_of, HasEntry, node_answer, NodeOpens, NodeEnds, FetchEnds, EachOpens, Asks, AsksInTurn, AsksUpTo, AsksBefore, AsksFront, Fetches, missing_of}
use Rattle.node_tree.specs.declared.fault.TreeFault.{TreeFault}
use Rattle.node_tree.specs.declared.fault.TreeFault.TheVariants as faults
use Rattle.pf_io.proofs.Answering.{answered_none}
use Rattle.node_tree.proofs.Asked.{same_place}
use Rattle.node_tree.proofs.Asking.{counts_none, counts_one, asking_err, asking_as, memory_part}
use Rattle.node_tree.proofs.Coming.{opened_by, fails_by, fetched_none}

pub only_one : (P : ℕ → Type 0) (k i : ℕ) → i < 1 → P k → P (slice_index (k ∷ []) i)
only_one P k zero lt p = p
only_one P k (suc i) lt p = absurd (omega arith)

given_one : (name : Name) (k : ℕ) (block : List ℕ) → Given name (node_answer name k block) k block
given_one name k block = (0, omega arith, refl)

pub not_there : {X : Type 0} (f : X → List ℕ) (o : Option X) → is_some o ≡ false → (plain : List ℕ) → option_map f o ≡ Some plain → ⊥
not_there f None lacks plain e = none-some plain e
not_there f (Some x) lacks plain e = true≢false lacks

nowhere : (o : Option (List ℕ)) → ((plain : List ℕ) → o ≡ Some plain → ⊥) → o ≡ None
nowhere (Some x) never = absurd (never x refl)
nowhere None never = refl

pub is_there : {X : Type 0} (f : X → List ℕ) (o : Option X) → is_some o ≡ true → (plain : List ℕ) × (option_map f o ≡ Some plain)
is_there f None some = absurd (true≢false (sym some))
is_there f (Some x) some = (f x, refl)

missing_held : (f : ℕ → Option (List ℕ)) (k : ℕ) (plain : List ℕ) → f k ≡ Some plain → missing_of f (k ∷ []) ≡ []
missing_held f k plain is = ap (λ (o : Option (List ℕ)). cond (is_none o) (k ∷ []) []) is

missing_there : (f : ℕ → Option (List ℕ)) (k : ℕ) → ¬ (IsAt (At f) k) → missing_of f (k ∷ []) ≡ k ∷ []
missing_there f k missing = ap (λ (o : Option (List ℕ)). cond (is_none o) (k ∷ []) []) (nowhere (f k) (λ plain is. missing (plain, is)))

-- the calls for a node that is not held, where it fails, and where it is kept
pub asks_missing : {T : Type 0} (f : ℕ → Option (List ℕ)) (k : ℕ) → ¬ (IsAt (At f) k) → (fault : TreeFault) (old new : HostState) → Asking {T = Unit {0}} (Err fault) 1 old new → Asking {T = T} (Err fault) (length (missing_of f (k ∷ []))) old new
asks_missing {T} f k missing fault old new asking =
    subst (λ (l : List ℕ). Asking {T = T} (Err fault) (length l) old new) (sym (missing_there f k missing)) (asking_err fault 1 old new asking)

pub asks_kept : {T : Type 0} (f : ℕ → Option (List ℕ)) (k : ℕ) → ¬ (IsAt (At f) k) → (r : Result T TreeFault) (old new : HostState) → Asking {T = Unit {0}} (Ok tt) 1 old new → IfErr r (λ fault. fault ≡ faults.Memory)
    → Asking r (length (missing_of f (k ∷ []))) old new
asks_kept f k missing r old new asking memory = subst (λ (l : List ℕ). Asking r (length l) old new) (sym (missing_there f k missing)) (asking_as tt r 1 old new asking (memory_part r memory))

asks_one : (name : Name) (f : ℕ → Option (List ℕ)) (k : ℕ) (block : List ℕ) → ¬ (IsAt (At f) k) → AsksInTurn name (missing_of f (k ∷ [])) (node_answer name k block)
asks_one name f k block missing = subst (λ (l : List ℕ). AsksInTurn name l (node_answer name k block)) (sym (missing_there f k missing)) ((block, refl), tt)

asks_front : (name : Name) (f : ℕ → Option (List ℕ)) (k : ℕ) (block : List ℕ) → ¬ (IsAt (At f) k) → AsksFront name (missing_of f (k ∷ [])) (node_answer name k block)
asks_front name f k block missing = record { done = missing_of f (k ∷ []); left = []; split = sym (append-nil (missing_of f (k ∷ []))); asks = asks_one name f k block missing }

-- it alone was asked for, or nothing before it
asks_up_to : (name : Name) (f : ℕ → Option (List ℕ)) (k : ℕ) (block : List ℕ) (number : ℕ) → number ≡ k → ¬ (IsAt (At f) k) → AsksUpTo name (missing_of f (k ∷ [])) number (node_answer name k block)
asks_up_to name f k block number is missing = record {
  before = [];
  left = [];
  split = missing_there f k missing ∙ ap (λ (n : ℕ). n ∷ []) (sym is);
  asks = subst (λ (n : ℕ). AsksInTurn name (n ∷ []) (node_answer name k block)) (sym is) ((block, refl), tt);
}

asks_before : (name : Name) (f : ℕ → Option (List ℕ)) (k : ℕ) → ¬ (IsAt (At f) k) → AsksBefore name (missing_of f (k ∷ [])) []
asks_before name f k missing = record { done = []; next = k; left = []; split = missing_there f k missing; asks = tt }

-- what was given of one node
given_only : (name : Name) (k : ℕ) (block : List ℕ) (j : ℕ) (other : List ℕ) → Given name (node_answer name k block) j other → k ≡ j
given_only name k block j other (zero, within, is) = let e = same_place name (4096 * k) (4096 * j) block other is in omega arith
given_only name k block j other (suc i, within, is) = absurd (omega arith)

module _ (name : Name) (k : ℕ) (root : Entry) where
  -- it is held already
  pub fetched_already : {T : Type 0} (value : T) (f : ℕ → Option (List ℕ)) (state : HostState) → IsAt (At f) k → Fetches (Ok value) name (k ∷ []) f f root state state
  fetched_already value f state there = record {
    these = [];
    answered = answered_none state;
    counted = counts_none state;
    fetched = fetched_none (At f) (Given name []) root;
    only = λ j held. inl held;
    asked = subst (λ (l : List ℕ). AsksInTurn name l []) (sym (missing_held f k there.0 there.1)) tt;
    ends = λ i lt. only_one (IsAt (At f)) k i lt there;
  }

  -- there is no memory for it
  pub fetch_wants : {T : Type 0} (f : ℕ → Option (List ℕ)) (state : HostState) → Fetches {T = T} (Err faults.Memory) name (k ∷ []) f f root state state
  fetch_wants f state = record {
    these = [];
    answered = answered_none state;
    counted = counts_none state;
    fetched = fetched_none (At f) (Given name []) root;
    only = λ j held. inl held;
    asked = record { done = []; left = missing_of f (k ∷ []); split = refl; asks = tt };
    ends = λ j block there. absurd (omega (arith, there.1));
  }

  -- it does not open, or the host fails
  pub fetch_failed : {T : Type 0} (fault : TreeFault) (plain : List ℕ) (f : ℕ → Option (List ℕ)) (entry : Entry) (old new : HostState) → HasEntry (At f) root k entry → ¬ (IsAt (At f) k)
      → CountsRead 4096 old new → NodeEnds {T = T} (Err fault) plain name k entry old new → Fetches {T = T} (Err fault) name (k ∷ []) f f root old new
  fetch_failed (faults.Damaged damage) plain f entry old new has missing counts ends = record {
    these = node_answer name k ends.block;
    answered = ends.answered;
    counted = counts_one old new counts;
    fetched = fetched_none (At f) (Given name (node_answer name k ends.block)) root;
    only = λ j there. inl there;
    asked = asks_up_to name f k ends.block damage.node ends.node_is missing;
    ends = record {
      i = 0;
      within = omega arith;
      node_is = ends.node_is;
      before = λ j lt. absurd (omega arith);
      fails = subst (λ (n : ℕ). Fails (At f) (Given name (node_answer name k ends.block)) root n damage.kind) (sym ends.node_is) (fails_by (At f) (Given name (node_answer name k ends.block)) root entry k ends.block damage.kind missing has (given_one name k ends.block) ends.fails);
    };
  }
  fetch_failed faults.Host plain f entry old new has missing counts ends = record {
    these = [];
    answered = ends;
    counted = counts_one old new counts;
    fetched = fetched_none (At f) (Given name []) root;
    only = λ j there. inl there;
    asked = asks_before name f k missing;
    ends = λ j block there. absurd (omega (arith, there.1));
  }
  fetch_failed faults.Memory plain f entry old new has missing counts ends = absurd ends

  -- it opens, and is kept where there is memory
  module _ (f f' : ℕ → Option (List ℕ)) (entry : Entry) (plain : List ℕ) (old new : HostState) (has : HasEntry (At f) root k entry) (missing : ¬ (IsAt (At f) k)) (counts : CountsRead 4096 old new) (opens : NodeOpens name k entry old new plain) where
    kept_others : ((j : ℕ) → f' j ≡ cond (eqb j k) (Some plain) (f j)) → (j : ℕ) (p : List ℕ) → f j ≡ Some p → f' j ≡ Some p
    kept_others is j p there =
        elim (cases_eq j k) [
          | inl same ↦ absurd (missing (p, ap f (sym same) ∙ there))
          | inr ne ↦ is j ∙ cond-false (eqb j k) _ _ (ne_eqb j k ne) ∙ there
        ]

    this_opens : Opened (At f) (Given name (node_answer name k opens.block)) root k plain
    this_opens = opened_by (At f) (Given name (node_answer name k opens.block)) root entry k opens.block plain missing has (given_one name k opens.block) opens.opens_to

    came_by : ((j : ℕ) → f' j ≡ cond (eqb j k) (Some plain) (f j)) → (j : ℕ) (p : List ℕ) → f' j ≡ Some p → Opened (At f) (Given name (node_answer name k opens.block)) root j p
    came_by is j p there =
        elim (cases_eq j k) [
          | inl same ↦
              let q : plain ≡ p = same_Some plain p (sym (is j ∙ cond-true (eqb j k) _ _ (eq-eqb j k same)) ∙ there) in
              subst (λ (n : ℕ). Opened (At f) (Given name (node_answer name k opens.block)) root n p) (sym same) (subst (λ (t : List ℕ). Opened (At f) (Given name (node_answer name k opens.block)) root k t) q this_opens)
          | inr ne ↦ was_held j p (sym (is j ∙ cond-false (eqb j k) _ _ (ne_eqb j k ne)) ∙ there)
        ]

    only_this : ((j : ℕ) → f' j ≡ cond (eqb j k) (Some plain) (f j)) → (j : ℕ) → IsAt (At f') j → IsAt (At f) j ⊎ Contains (k ∷ []) j
    only_this is j there =
        elim (cases_eq j k) [
          | inl same ↦ inr (0, omega arith, sym same)
          | inr ne ↦ inl (there.0, sym (is j ∙ cond-false (eqb j k) _ _ (ne_eqb j k ne)) ∙ there.1)
        ]

    each_opens : EachOpens (At f) (Given name (node_answer name k opens.block)) root
    each_opens j block there = (plain, subst (λ (n : ℕ). Opened (At f) (Given name (node_answer name k opens.block)) root n plain) (given_only name k opens.block j block there) this_opens)

    pub fetch_opened : {T : Type 0} (r : Result T TreeFault) → OnOk r ((j : ℕ) → f' j ≡ cond (eqb j k) (Some plain) (f j)) → OnErr r ((j : ℕ) → f' j ≡ f j) → IfErr r (λ fault. fault ≡ faults.Memory)
        → Fetches r name (k ∷ []) f f' root old new
    fetch_opened (Ok value) is same memory = record {
      these = node_answer name k opens.block;
      answered = opens.answered;
      counted = counts_one old new counts;
      fetched = record { kept = kept_others is; came = came_by is };
      only = only_this is;
      asked = asks_one name f k opens.block missing;
      ends = λ i lt. only_one (IsAt (At f')) k i lt (plain, is k ∙ cond-true (eqb k k) _ _ (eq-eqb k k refl));
    }
    fetch_opened {T} (Err fault) is same memory = record {
      these = node_answer name k opens.block;
      answered = opens.answered;
      counted = subst (λ (x : TreeFault). CountsCalls (calls_of {T = T} (Err x) 1) old new) (sym memory) (counts_one old new counts);
      fetched = record { kept = λ j p there. same j ∙ there; came = λ j p there. was_held j p (sym (same j) ∙ there) };
      only = λ j there. inl (there.0, sym (same j) ∙ there.1);
      asked = subst (λ (x : TreeFault). Asks {T = T} (Err x) name (missing_of f (k ∷ [])) (node_answer name k opens.block)) (sym memory) (asks_front name f k opens.block missing);
      ends = subst (λ (x : TreeFault). FetchEnds {T = T} (Err x) (k ∷ []) (At f) (At f') (Given name (node_answer name k opens.block)) root) (sym memory) each_opens;
    }
