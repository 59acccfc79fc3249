-- What is told over several calls, one after the other.
use Rattle.std.proofs.Common.{◌≡◌, List, [], ◌++◌, sym, ◌∙◌, ap, append_assoc, subst, length, drop, Option, Some, None}
use Rattle.std.proofs.lemmas.List.{append-nil}
use Rattle.std.proofs.Math.Seq.{drop-append_seam}
use Rattle.pf_io.specs.Host.{Answer, HostState, Both, IsMore, since, WhereTold}

pub both_then : {A : Type 0} (P Q R : A → A → Type 0) (o p q : Option A) → Both o p P → Both p q Q → ((a b c : A) → P a b → Q b c → R a c) → Both o q R
both_then P Q R (Some a) (Some b) (Some c) first second go = go a b c first second
both_then P Q R None None None first second go = tt
both_then P Q R (Some a) (Some b) None first second go = absurd second
both_then P Q R (Some a) None q first second go = absurd first
both_then P Q R None (Some b) q first second go = absurd first
both_then P Q R None None (Some c) first second go = absurd second

pub both_weaker : {A : Type 0} (P Q : A → A → Type 0) (o p : Option A) → Both o p P → ((a b : A) → P a b → Q a b) → Both o p Q
both_weaker P Q (Some a) (Some b) holds go = go a b holds
both_weaker P Q None None holds go = tt
both_weaker P Q (Some a) None holds go = absurd holds
both_weaker P Q None (Some b) holds go = absurd holds

pub both_same : {A : Type 0} (P : A → A → Type 0) (o p : Option A) → p ≡ o → ((a : A) → P a a) → Both o p P
both_same P (Some a) p same go = subst (λ (q : Option _). Both (Some a) q P) (sym same) (go a)
both_same P None p same go = subst (λ (q : Option _). Both None q P) (sym same) tt

-- no answer, as at a fault
pub told_none : (old new : HostState) → new.given ≡ old.given → Both old.given new.given (IsMore [])
told_none old new same = both_same (IsMore []) old.given new.given same (λ answers. sym (append-nil answers))

-- these answers, and then those
pub told_on : (these those : List Answer) (old mid new : HostState) → Both old.given mid.given (IsMore these) → Both mid.given new.given (IsMore those) → Both old.given new.given (IsMore (these ++ those))
told_on these those old mid new first second =
    both_then (IsMore these) (IsMore those) (IsMore (these ++ those)) old.given mid.given new.given first second
    (λ a b c one two. two ∙ ap (λ (l : List Answer). l ++ those) one ∙ append_assoc a these those)

-- P of the answers that a call told
pub told_by : (P : List Answer → Type 0) (these : List Answer) (old new : HostState) → Both old.given new.given (IsMore these) → P these → WhereTold old new P
told_by P these old new told holds =
    both_weaker (IsMore these) (λ before now. IsMore (since before now) before now × P (since before now)) old.given new.given told
    (λ a b is.
    let same : since a b ≡ these = ap (λ (l : List Answer). drop (length a) l) is ∙ drop-append_seam a these in
    (is ∙ ap (λ (l : List Answer). a ++ l) (sym same), subst P (sym same) holds))

-- two calls, one after the other
pub told_then : (P Q R : List Answer → Type 0) (old mid new : HostState) → WhereTold old mid P → WhereTold mid new Q → ((these those : List Answer) → P these → Q those → R (these ++ those)) → WhereTold old new R
told_then P Q R old mid new first second go =
    both_then (λ before now. IsMore (since before now) before now × P (since before now)) (λ before now. IsMore (since before now) before now × Q (since before now))
    (λ before now. IsMore (since before now) before now × R (since before now)) old.given mid.given new.given first second
    (λ a b c one two.
    let all : c ≡ a ++ (since a b ++ since b c) = two.0 ∙ ap (λ (l : List Answer). l ++ since b c) one.0 ∙ append_assoc a (since a b) (since b c) in
    let same : since a c ≡ since a b ++ since b c = ap (λ (l : List Answer). drop (length a) l) all ∙ drop-append_seam a (since a b ++ since b c) in
    (all ∙ ap (λ (l : List Answer). a ++ l) (sym same), subst R (sym same) (go (since a b) (since b c) one.1 two.1)))

pub told_weaker : (P Q : List Answer → Type 0) (old new : HostState) → WhereTold old new P → ((these : List Answer) → P these → Q these) → WhereTold old new Q
told_weaker P Q old new told go =
    both_weaker (λ before now. IsMore (since before now) before now × P (since before now)) (λ before now. IsMore (since before now) before now × Q (since before now)) old.given new.given told
    (λ a b is. (is.0, go (since a b) is.1))
