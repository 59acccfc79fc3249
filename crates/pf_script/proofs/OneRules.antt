-- Two lists of rules that refuse alike.
use Rattle.std.proofs.Common.{◌≡◌, inl, inr, List, [], ◌∷◌, refl, sym, ◌∙◌}
use Rattle.pf_script.specs.Rules.{Rule, IsFirst, NoneRefuses, refuses}
use Rattle.pf_script.specs.declared.reply.Why.{Why}

-- both refuse or neither does, and they give one refusal
pub record OneRule (rule other : Rule) : Type 0 where
  pub one : (why say : Why) → rule why → other say → why ≡ say
  pub forth : (why : Why) → rule why → (say : Why) × other say
  pub back : (say : Why) → other say → (why : Why) × rule why

-- rule by rule, as far as none before refuses
abbrev pub AreOne : List Rule → List Rule → Type 0
AreOne [] [] = Unit {0}
AreOne [] (other ∷ others) = ⊥
AreOne (rule ∷ rules) [] = ⊥
AreOne (rule ∷ rules) (other ∷ others) = OneRule rule other × (((why : Why) → ¬ (rule why)) → AreOne rules others)

pub first_one : (rules others : List Rule) (why say : Why) → AreOne rules others → IsFirst rules why → IsFirst others say → why ≡ say
first_one [] others why say one first second = absurd first
first_one (rule ∷ rules) [] why say one first second = absurd one
first_one (rule ∷ rules) (other ∷ others) why say one (inl here) (inl there) = one.0.one why say here there
first_one (rule ∷ rules) (other ∷ others) why say one (inl here) (inr there) = let found = one.0.forth why here in absurd (there.0 found.0 found.1)
first_one (rule ∷ rules) (other ∷ others) why say one (inr here) (inl there) = let found = one.0.back say there in absurd (here.0 found.0 found.1)
first_one (rule ∷ rules) (other ∷ others) why say one (inr here) (inr there) = first_one rules others why say (one.1 here.0) here.1 there.1

-- where one list refuses, the other does
pub first_refuses : (rules others : List Rule) (why : Why) → AreOne rules others → IsFirst rules why → NoneRefuses others → ⊥
first_refuses [] others why one first none = first
first_refuses (rule ∷ rules) [] why one first none = one
first_refuses (rule ∷ rules) (other ∷ others) why one (inl here) none = let found = one.0.forth why here in none.0 found.0 found.1
first_refuses (rule ∷ rules) (other ∷ others) why one (inr here) none = first_refuses rules others why (one.1 here.0) here.1 none.1

pub refuses_first : (rules others : List Rule) (say : Why) → AreOne rules others → NoneRefuses rules → IsFirst others say → ⊥
refuses_first [] [] say one none first = first
refuses_first [] (other ∷ others) say one none first = one
refuses_first (rule ∷ rules) [] say one none first = first
refuses_first (rule ∷ rules) (other ∷ others) say one none (inl there) = let found = one.0.back say there in none.0 found.0 found.1
refuses_first (rule ∷ rules) (other ∷ others) say one none (inr there) = refuses_first rules others say (one.1 none.0) none.1 there.1

-- one refusal, where either of two facts holds
pub one_refusal : (this : Why) (P Q : Type 0) → (P → Q) → (Q → P) → OneRule (refuses this P) (refuses this Q)
one_refusal this P Q to from = record { one = λ why say here there. here.0 ∙ sym there.0; forth = λ why here. (this, (refl, to here.1)); back = λ say there. (this, (refl, from there.1)) }

-- rules that never refuse
pub none_refused : (rule other : Rule) → ((why : Why) → ¬ (rule why)) → ((why : Why) → ¬ (other why)) → OneRule rule other
none_refused rule other none no_other = record { one = λ why say here there. absurd (none why here); forth = λ why here. absurd (none why here); back = λ say there. absurd (no_other say there) }
