-- A step on a tree that holds all its nodes asks the host for nothing.
use Rattle.std.proofs.Common.{◌≡◌, inl, inr, ℕ, ◌*◌, ◌<◌, ◌≤◌, Bool, false, cond, List, [], ◌∷◌, ◌++◌, length, refl, sym, ap, subst, arith, length-append, Option, Some, None, Result, Ok, Err}
use Rattle.std.specs.Prelude.{Contains, is_none}
use Rattle.std.proofs.lemmas.Bool.{cases_lt}
use Rattle.node_layout.specs.Places.{node_count}
use Rattle.pf_io.specs.Host.{Name, Answer, Gave, HostState}
use Rattle.node_tree.specs.Applying.{Step, applied, size_after}
use Rattle.node_tree.specs.Backing.{Backs, now}
use Rattle.node_tree.specs.Fetching.{Asks, AsksInTurn, missing_of}
use Rattle.node_tree.specs.Opened.{IsAt, Given}
use Rattle.node_tree.specs.Sheet.{Sheet, IsLinked}
use Rattle.node_tree.specs.State.{TreeState, held_at, Held}
use Rattle.node_tree.specs.Stepping.{Steps, Stepped, BacksWith}
use Rattle.node_tree.specs.Unforged.{GivenOf}
use Rattle.node_tree.specs.declared.fault.TreeFault.{TreeFault}
use Rattle.node_tree.specs.declared.fault.TreeFault.TheVariants as trees
use Rattle.node_tree.proofs.AfterStep.{step_leaves}
use Rattle.node_tree.proofs.Lively.{touched_low}
use Rattle.node_tree.proofs.Order.{to_tail}

no_answer : (answer : Answer) → Contains [] answer → ⊥
no_answer answer there = omega (arith, there.1)

-- all live nodes are held
abbrev pub HoldsAll : TreeState → Type 0
HoldsAll tree = (k : ℕ) → 1 ≤ k → k < node_count tree.size → IsAt (Held tree) k

not_missing : (o : Option (List ℕ)) (plain : List ℕ) → o ≡ Some plain → is_none o ≡ false
not_missing (Some p) plain is = refl
not_missing None plain is = absurd (cc)

none_missing : (f : ℕ → Option (List ℕ)) (numbers : List ℕ) → ((k : ℕ) → Contains numbers k → (plain : List ℕ) × (f k ≡ Some plain)) → missing_of f numbers ≡ []
none_missing f [] there = refl
none_missing f (n ∷ numbers) there =
    let has = there n (0, omega arith, refl) in
    subst (λ (b : Bool). cond b (n ∷ missing_of f numbers) (missing_of f numbers) ≡ []) (sym (not_missing (f n) has.0 has.1)) (none_missing f numbers (λ k at. there k (to_tail n numbers k at)))

-- a fault that no call brings
abbrev pub IsSilent : Result (Unit {0}) TreeFault → Type 0
IsSilent (Ok done) = Unit {0}
IsSilent (Err (trees.Damaged damage)) = ⊥
IsSilent (Err trees.Host) = ⊥
IsSilent (Err trees.Memory) = Unit {0}

no_front : {A : Type 0} (xs ys : List A) → [] ≡ xs ++ ys → xs ≡ []
no_front [] ys none = refl
no_front (x ∷ xs) ys none = absurd (cc)

no_member : {A : Type 0} (xs ys : List A) (x : A) → [] ≡ xs ++ x ∷ ys → ⊥
no_member [] ys x none = absurd (cc)
no_member (y ∷ xs) ys x none = absurd (cc)

none_in_turn : (name : Name) (numbers : List ℕ) (these : List Answer) → numbers ≡ [] → AsksInTurn name numbers these → these ≡ []
none_in_turn name [] [] none asks = refl
none_in_turn name [] (x ∷ these) none asks = absurd asks
none_in_turn name (n ∷ numbers) these none asks = absurd (cc)

none_asked : (one : Result (Unit {0}) TreeFault) (name : Name) (these : List Answer) → Asks one name [] these → IsSilent one × (these ≡ [])
none_asked (Ok done) name these asks = (tt, none_in_turn name [] these refl asks)
none_asked (Err (trees.Damaged damage)) name these asks = absurd (omega (arith, ap (λ (l : List ℕ). length l) asks.split, length-append (asks.before ++ damage.node ∷ []) asks.left, length-append asks.before (damage.node ∷ [])))
none_asked (Err trees.Host) name these asks = absurd (no_member asks.done asks.left asks.next asks.split)
none_asked (Err trees.Memory) name these asks = (tt, none_in_turn name asks.done these (no_front asks.done asks.left asks.split) asks.asks)

module _ (name : Name) (step : Step) (old new : TreeState) (before after : HostState) (all : HoldsAll old) where
  pub step_asks_none : (one : Result (Unit {0}) TreeFault) (steps : Steps one name step old new before after) → IsSilent one × (steps.these ≡ [])
  step_asks_none one steps =
      let missing = none_missing (held_at old) steps.numbers (λ k there. let t = (steps.touched.exactly k).0 there in all k (touched_low _ _ k t.0) t.1) in
      none_asked one name steps.these (subst (λ (l : List ℕ). Asks one name l steps.these) missing steps.asked)

  still : (one : Result (Unit {0}) TreeFault) (steps : Steps one name step old new before after) → IsSilent one × (steps.these ≡ []) → after ≡ before
  still (Ok done) steps silent = steps.counted.untouched (ap (λ (l : List Answer). length l) silent.1)
  still (Err (trees.Damaged damage)) steps silent = absurd silent.0
  still (Err trees.Host) steps silent = absurd silent.0
  still (Err trees.Memory) steps silent = steps.counted.untouched (ap (λ (l : List Answer). length l) silent.1)

  -- the host is as before
  pub step_still : (one : Result (Unit {0}) TreeFault) (steps : Steps one name step old new before after) → after ≡ before
  step_still one steps = still one steps (step_asks_none one steps)

  module _ (steps : Steps (Ok tt) name step old new before after) where
    mid_size : steps.mid.size ≡ old.size
    mid_size = ap (λ (t : TreeState). t.size) steps.rest

    stepped : Stepped step steps.mid new
    stepped = steps.ends

    pub step_holds : HoldsAll new
    step_holds k low live =
        elim (cases_lt k (node_count old.size)) [
          | inl was_live ↦
              let was = all k low was_live in
              stepped.still k low live (was.0, steps.fetched.kept k was.0 was.1)
          | inr not_live ↦
              let came = subst (λ (n : ℕ). node_count n ≤ k) (sym mid_size) not_live in
              stepped.touched k (stepped.came k came live) live
        ]

    of_none : (sheet : Sheet) → IsLinked sheet → GivenOf sheet (Given name steps.these)
    of_none sheet linked =
        let none = (step_asks_none (Ok tt) steps).1 in
        record { linked = linked; seals = λ k block plain node given whole has opens. absurd (no_answer (Gave name (4096 * k) 4096 block) (subst (λ (l : List Answer). Contains l (Gave name (4096 * k) 4096 block)) none given)) }

    -- on each sheet the step is made of the content
    pub step_backs : (sheet : Sheet) → IsLinked sheet → Backs sheet old → BacksWith sheet new (applied step (now sheet old))
    step_backs sheet linked backs = step_leaves (Ok tt) name step old new before after steps sheet (of_none sheet linked) backs

-- what a step makes of the size, whatever is held
pub step_size : (name : Name) (step : Step) (old new : TreeState) (before after : HostState) (steps : Steps (Ok tt) name step old new before after) → new.size ≡ size_after step old.size
step_size name step old new before after steps = subst (λ (n : ℕ). new.size ≡ size_after step n) (ap (λ (t : TreeState). t.size) steps.rest) (let s : Stepped step steps.mid new = steps.ends in s.size)
