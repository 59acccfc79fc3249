-- How a read ends, from how the fetching of the touched nodes ends.
use Rattle.std.proofs.Common.{◌≡◌, ℕ, ◌+◌, List, [], ◌∷◌, length, take, slice_index, refl, ap, ◌∙◌, sym, arith, subst, Option, Some, Ok, Err, cond, Bool, true, false}
use Rattle.std.specs.Option.{option_map}
use Rattle.std.specs.Map.{lookup}
use Rattle.std.specs.BTreeMap.{BTreeMap, is_at}
use Rattle.std.specs.Ordering.{nat_cmp}
use Rattle.std.proofs.lemmas.List.Elements.{Contains-get_or}
use Rattle.pf_io.specs.Host.{Name, HostState}
use Rattle.node_tree.specs.Content.{bytes_of}
use Rattle.node_tree.specs.Touched.{IsTouched, AreTouched}
use Rattle.node_tree.specs.Opened.{IsAt, Opened, Given}
use Rattle.node_tree.specs.Nodes.{plain_at}
use Rattle.node_tree.specs.State.{TreeState, held_at, Held, root_in, readable, plain_or}
use Rattle.node_tree.specs.Fetching.{CountsReads, Fetches, missing_of}
use Rattle.node_tree.specs.Reading.{KeepsFields, Reads, ReadsFew}
use Rattle.node_tree.specs.Inside.{plains}
use Rattle.node_tree.specs.declared.fault.TreeFault.{TreeFault}
use Rattle.node_tree.specs.declared.fault.TreeFault.TheVariants as faults
use Rattle.node_tree.specs.declared.nodes.HeldNode.{HeldNode}
use Rattle.pf_io.proofs.Answering.{answered_none}
use Rattle.node_tree.proofs.Asking.{counts_none}
use Rattle.node_tree.proofs.Coming.{fetched_none}
use Rattle.node_tree.proofs.Order.{place_of, stands_before, same_rising}

mapped : (test : ℕ → Bool) (es : List (ℕ × HeldNode)) → option_map (λ (n : HeldNode). n.plain.value) (lookup test es) ≡ lookup test (plains es)
mapped test [] = refl
mapped test (e ∷ es) =
    elim (test e.0) as (λ b. option_map (λ (n : HeldNode). n.plain.value) (cond b (Some e.1) (lookup test es)) ≡ cond b (Some e.1.plain.value) (lookup test (plains es))) [ true ↦ refl | false ↦ mapped test es ]

-- what nodes keep is what a state holds
pub same_held : (nodes : BTreeMap ℕ HeldNode) → plain_at nodes ≡ (λ k. lookup (is_at (nat_cmp k)) (plains nodes.entries))
same_held nodes = λ i k. mapped (is_at (nat_cmp k)) nodes.entries i

pub same_numbers : (a b : ℕ) (xs ys : List ℕ) → AreTouched a b xs → AreTouched a b ys → xs ≡ ys
same_numbers a b xs ys touched touched' =
    same_rising xs ys touched.rising touched'.rising (λ k there. (touched'.exactly k).1 ((touched.exactly k).0 there)) (λ k there. (touched.exactly k).1 ((touched'.exactly k).0 there))

nothing_touched : (at n k : ℕ) → n ≡ 0 → IsTouched at (at + n) k → ⊥
nothing_touched at n k none touched = let s = touched.1.some in omega arith

module _ (name : Name) (at : ℕ) (s s' : TreeState) (before after : HostState) where
  -- nothing was to be read
  pub reads_none : (buffer : List ℕ) (n : ℕ) → n ≡ 0 → n ≡ readable s at (length buffer) → Reads (Ok n) name at buffer s s before before
  reads_none buffer n none is = record {
    these = [];
    answered = answered_none before;
    counted = counts_none before;
    rest = refl;
    fetched = fetched_none (Held s) (Given name []) (root_in s);
    numbers = [];
    touched = record { rising = λ k lt. absurd (omega arith); exactly = λ k. (λ there. absurd (omega (arith, there.1)), λ on. absurd (nothing_touched at (readable s at (length buffer)) k (sym is ∙ none) on)) };
    asked = tt;
    ends = (
      is,
      record {
        plain = λ k. [];
        each = λ k touched. absurd (nothing_touched at n k none touched);
        are = ap (λ (m : ℕ). take m buffer) none ∙ sym (ap (λ (m : ℕ). bytes_of s.first (λ k. []) at m) none);
      },
      λ k touched. absurd (nothing_touched at n k none touched),
    );
  }

  module _ (rest : KeepsFields s s') (numbers : List ℕ) where
    pub reads_ok : {T : Type 0} (value : T) (buffer : List ℕ) (n : ℕ) → n ≡ readable s at (length buffer) → AreTouched at (at + n) numbers
        → Fetches (Ok value) name numbers (held_at s) (held_at s') (root_in s) before after → take n buffer ≡ bytes_of s.first (λ k. plain_or (held_at s' k) []) at n → Reads (Ok n) name at buffer s s' before after
    reads_ok value buffer n is touched fetches bytes =
        let held = λ (k : ℕ) (on : IsTouched at (at + n) k).
        let place = place_of numbers k ((touched.exactly k).1 on) in
        subst (λ (j : ℕ). IsAt (Held s') j) place.2 (fetches.ends place.0 place.1) in
        record {
          these = fetches.these;
          answered = fetches.answered;
          counted = fetches.counted;
          rest = rest;
          fetched = fetches.fetched;
          numbers = numbers;
          touched = subst (λ (m : ℕ). AreTouched at (at + m) numbers) is touched;
          asked = fetches.asked;
          ends = (
            is,
            record {
              plain = λ k. plain_or (held_at s' k) [];
              each = λ k on. let there = held k on in subst (λ (p : List ℕ). Opened (Held s) (Given name fetches.these) (root_in s) k p) (sym (ap (λ (o : Option (List ℕ)). plain_or o []) there.1)) (fetches.fetched.came k there.0 there.1);
              are = bytes;
            },
            held,
          );
        }

    pub reads_failed : {T : Type 0} (fault : TreeFault) (buffer : List ℕ) → AreTouched at (at + readable s at (length buffer)) numbers
        → Fetches {T = T} (Err fault) name numbers (held_at s) (held_at s') (root_in s) before after → Reads (Err fault) name at buffer s s' before after
    reads_failed (faults.Damaged damage) buffer touched fetches =
        let ends = fetches.ends in
        record {
          these = fetches.these;
          answered = fetches.answered;
          counted = fetches.counted;
          rest = rest;
          fetched = fetches.fetched;
          numbers = numbers;
          touched = touched;
          asked = fetches.asked;
          ends = record {
            touched = subst (λ (k : ℕ). IsTouched at (at + readable s at (length buffer)) k) (sym ends.node_is) ((touched.exactly (slice_index numbers ends.i)).0 (Contains-get_or numbers ends.i 0 ends.within));
            before = λ k on lt.
                let place = place_of numbers k ((touched.exactly k).1 on) in
                let sooner = stands_before numbers place.0 ends.i touched.rising place.1 ends.within (omega (arith, place.2, ends.node_is)) in
                let there = subst (λ (j : ℕ). IsAt (Held s') j) place.2 (ends.before place.0 sooner) in
                (there.0, fetches.fetched.came k there.0 there.1);
            fails = ends.fails;
          };
        }
    reads_failed faults.Host buffer touched fetches = record { these = fetches.these; answered = fetches.answered; counted = fetches.counted; rest = rest; fetched = fetches.fetched; numbers = numbers; touched = touched; asked = fetches.asked; ends = fetches.ends }
    reads_failed faults.Memory buffer touched fetches = record { these = fetches.these; answered = fetches.answered; counted = fetches.counted; rest = rest; fetched = fetches.fetched; numbers = numbers; touched = touched; asked = fetches.asked; ends = fetches.ends }

  pub few_reads : (room : ℕ) (numbers : List ℕ) → AreTouched at (at + readable s at room) numbers → CountsReads (length (missing_of (held_at s) numbers)) before after → ReadsFew at room s before after
  few_reads room numbers touched few others touched' = subst (λ (l : List ℕ). CountsReads (length (missing_of (held_at s) l)) before after) (same_numbers at (at + readable s at room) numbers others touched touched') few
