-- The same answers lead two reads to one end.
use Rattle.std.proofs.Common.{◌≡◌, ℕ, ◌+◌, List, [], ◌∷◌, ◌++◌, length, take, refl, ap, ◌∙◌, sym, arith, subst, Result, Ok, Err}
use Rattle.std.specs.Prelude.{is_none}
use Rattle.std.specs.List.Sorted.{IsStrictlyIncreasing}
use Rattle.std.proofs.lemmas.List.Kept.{IsStrictlyIncreasing-filter}
use Rattle.std.proofs.lemmas.List.{get_or_append_left, length-append}
use Rattle.std.proofs.lemmas.Option.{same_Some}
use Rattle.node_layout.specs.declared.damage.Damage.{Damage}
use Rattle.pf_io.specs.Host.{Name, Answer}
use Rattle.node_tree.specs.Opened.{AtNodes, Given}
use Rattle.node_tree.specs.Parts.{IsPart}
use Rattle.node_tree.specs.State.{TreeState, held_at, Held, root_in, readable}
use Rattle.node_tree.specs.Fetching.{Asks, missing_of}
use Rattle.node_tree.specs.Reading.{ReadEnds, IsDecided, part_read, OneEnding}
use Rattle.node_tree.proofs.Opening.{IsSingle}
use Rattle.node_tree.proofs.Parting.{one_end}
use Rattle.node_tree.specs.declared.fault.TreeFault.{TreeFault}
use Rattle.node_tree.specs.declared.fault.TreeFault.TheVariants as faults
use Rattle.node_tree.proofs.Asked.{given_single}

rising_front : (xs ys zs : List ℕ) → xs ≡ ys ++ zs → IsStrictlyIncreasing xs → IsStrictlyIncreasing ys
rising_front xs ys zs is rising k lt =
    let all = subst IsStrictlyIncreasing is rising in
    let a = get_or_append_left ys zs 0 k (omega arith) in
    let b = get_or_append_left ys zs 0 (k + 1) lt in
    let r = all k (omega (arith, length-append ys zs)) in
    omega (arith, a, b, r)

asked_single : (result : Result ℕ TreeFault) (name : Name) (ks : List ℕ) (these : List Answer) → IsStrictlyIncreasing ks → Asks result name ks these → IsSingle (Given name these)
asked_single (Ok n) name ks these rising asks = given_single name ks these rising asks
asked_single (Err (faults.Damaged damage)) name ks these rising asks = given_single name (asks.before ++ damage.node ∷ []) these (rising_front ks (asks.before ++ damage.node ∷ []) asks.left asks.split rising) asks.asks
asked_single (Err faults.Host) name ks these rising asks = given_single name asks.done these (rising_front ks asks.done (asks.next ∷ asks.left) asks.split rising) asks.asks
asked_single (Err faults.Memory) name ks these rising asks = given_single name asks.done these (rising_front ks asks.done asks.left asks.split rising) asks.asks

held_single : (s : TreeState) → IsSingle (Held s)
held_single s k a b there there' = same_Some a b (sym there ∙ there')

as_fault : Result (List ℕ) Damage → Result (List ℕ) TreeFault
as_fault (Ok bytes) = Ok bytes
as_fault (Err damage) = Err (faults.Damaged damage)

-- what a decided read is a part of
decided_part : (result : Result ℕ TreeFault) (given : AtNodes) (at : ℕ) (buffer : List ℕ) (old new : TreeState) → IsDecided result → ReadEnds result given at buffer old new
    → (part : Result (List ℕ) Damage) × IsPart (Held old) given (root_in old) old.first at (readable old at (length buffer)) part × (part_read result buffer ≡ as_fault part)
unfolding as_fault
decided_part (Ok n) given at buffer old new decided ends =
    (Ok (take n buffer), subst (λ (m : ℕ). IsPart (Held old) given (root_in old) old.first at m (Ok (take n buffer))) ends.0 ends.1, refl)
decided_part (Err (faults.Damaged damage)) given at buffer old new decided ends = (Err damage, ends, refl)
decided_part (Err faults.Host) given at buffer old new decided ends = absurd decided
decided_part (Err faults.Memory) given at buffer old new decided ends = absurd decided

pub one_ending : OneEnding
one_ending result other name at buffer buffer' old new new' before after before' after' reads reads' long same decided decided' =
    let p = decided_part result (Given name reads.these) at buffer old new decided reads.ends in
    let q = decided_part other (Given name reads'.these) at buffer' old new' decided' reads'.ends in
    let single = asked_single result name (missing_of (held_at old) reads.numbers) reads.these (IsStrictlyIncreasing-filter (λ k. is_none (held_at old k)) reads.numbers reads.touched.rising) reads.asked in
    let q_here = subst (λ (n : ℕ). IsPart (Held old) (Given name reads.these) (root_in old) old.first at n q.0) (ap (readable old at) (sym long))
    (subst (λ (l : List Answer). IsPart (Held old) (Given name l) (root_in old) old.first at (readable old at (length buffer')) q.0) (sym same) q.1) in
    p.2 ∙ ap as_fault (one_end (Held old) (Given name reads.these) (root_in old) (held_single old) single old.first at (readable old at (length buffer)) p.0 q.0 p.1 q_here) ∙ sym q.2
