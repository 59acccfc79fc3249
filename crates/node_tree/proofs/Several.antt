-- The fetching of several nodes, one after the other.
use Rattle.std.proofs.Common.{◌≡◌, ◌⊎◌, inl, inr, ℕ, zero, suc, ◌+◌, ◌*◌, ◌<◌, ◌≤◌, List, [], ◌∷◌, ◌++◌, length, take, drop, refl, ap, ◌∙◌, sym, arith, subst, Option, Some, None, Ok, Err, cond, append_assoc}
use Rattle.std.specs.Prelude.{Contains, slice_index, is_none}
use Rattle.std.specs.List.Sorted.{IsStrictlyIncreasing}
use Rattle.std.proofs.lemmas.Option.{none-some}
use Rattle.std.proofs.lemmas.Bool.{cases_eq, cases_lt}
use Rattle.std.proofs.lemmas.List.{length-append, take_more, take_all, take-append-drop}
use Rattle.std.proofs.lemmas.List.Elements.{filter-append, Contains-get_or, Contains-append_left, Contains-append_right, Contains-append_cases}
use Rattle.pf_io.specs.Host.{Name, Answer, Gave, HostState}
use Rattle.node_layout.specs.Places.{parent_of}
use Rattle.node_tree.specs.Opened.{AtNodes, At, IsAt, Entry, Opened, was_held, Given}
use Rattle.node_tree.specs.Fetching.{Asking, CountsCalls, calls_of, Fetched, FetchEnds, EachOpens, AsksInTurn, Asks, Fetches, missing_of, AreRooted}
use Rattle.pf_io.specs.Answered.{Answered}
use Rattle.node_tree.specs.declared.fault.TreeFault.{TreeFault}
use Rattle.node_tree.specs.declared.fault.TreeFault.TheVariants as faults
use Rattle.pf_io.proofs.Answering.{answered_none, answered_then}
use Rattle.node_tree.proofs.Asked.{given_asked}
use Rattle.node_tree.proofs.Asking.{counts_none, counts_then, calls_then, same_calls, asking_none, asking_then, asking_as, asking_err}
use Rattle.node_tree.proofs.Coming.{fetched_none, fetched_then, opened_then, fails_then}
use Rattle.node_tree.proofs.Order.{in_order}

-- so far the first i of some numbers were fetched
pub record FetchedTo (name : Name) (numbers : List ℕ) (i : ℕ) (f f' : ℕ → Option (List ℕ)) (root : Entry) (old new : HostState) : Type 0 where
  pub these : List Answer
  pub answered : Answered these old new
  pub counted : CountsCalls (length these) old new
  pub fetched : Fetched (At f) (At f') (Given name these) root
  pub all : (j : ℕ) → j < i → IsAt (At f') (slice_index numbers j)
  pub only : (k : ℕ) → IsAt (At f') k → IsAt (At f) k ⊎ ((j : ℕ) × (j < i) × (slice_index numbers j ≡ k))
  pub asked : AsksInTurn name (missing_of f (take i numbers)) these
  pub opened : EachOpens (At f) (Given name these) root
  pub asking : Asking {T = Unit {0}} (Ok tt) (length (missing_of f (take i numbers))) old new

module _ (name : Name) (numbers : List ℕ) (f : ℕ → Option (List ℕ)) (root : Entry) (old : HostState) where
  pub fetched_to_none : FetchedTo name numbers 0 f f root old old
  fetched_to_none = record {
    these = [];
    answered = answered_none old;
    counted = counts_none old;
    fetched = fetched_none (At f) (Given name []) root;
    all = λ j lt. absurd (omega arith);
    only = λ k there. inl there;
    asked = tt;
    opened = λ k block there. absurd (omega (arith, there.1));
    asking = asking_none tt 0 old;
  }

one_of : (n k : ℕ) → Contains (n ∷ []) k → n ≡ k
one_of n k (zero, within, is) = is
one_of n k (suc i, within, is) = absurd (omega arith)

alike : (k : ℕ) (o p : Option (List ℕ)) → ((plain : List ℕ) → o ≡ Some plain → p ≡ Some plain) → ((plain : List ℕ) → p ≡ Some plain → o ≡ None → ⊥) → cond (is_none p) (k ∷ []) [] ≡ cond (is_none o) (k ∷ []) []
alike k None None kept fresh = refl
alike k None (Some y) kept fresh = absurd (fresh y refl refl)
alike k (Some x) p kept fresh = ap (λ (q : Option (List ℕ)). cond (is_none q) (k ∷ []) []) (kept x refl)

asks_then : (name : Name) (ks ls : List ℕ) (xs ys : List Answer) → AsksInTurn name ks xs → AsksInTurn name ls ys → AsksInTurn name (ks ++ ls) (xs ++ ys)
asks_then name [] ls [] ys first second = second
asks_then name [] ls (x ∷ xs) ys first second = absurd first
asks_then name (k ∷ ks) ls [] ys first second = absurd first
asks_then name (k ∷ ks) ls (x ∷ xs) ys first second = (first.0, asks_then name ks ls xs ys first.1 second)

-- some numbers were asked for, and then others until a fault
asks_fault_then : (T U : Type 0) (fault : TreeFault) (name : Name) (ks ls more all : List ℕ) (xs ys : List Answer) → all ≡ (ks ++ ls) ++ more → AsksInTurn name ks xs → Asks {T = T} (Err fault) name ls ys → Asks {T = U} (Err fault) name all (xs ++ ys)
asks_fault_then T U (faults.Damaged damage) name ks ls more all xs ys is first second = record {
  before = ks ++ second.before;
  left = second.left ++ more;
  split = is ∙ ap (λ (l : List ℕ). (ks ++ l) ++ more) second.split ∙ simp append_assoc;
  asks = subst (λ (l : List ℕ). AsksInTurn name l (xs ++ ys)) (simp append_assoc) (asks_then name ks (second.before ++ damage.node ∷ []) xs ys first second.asks);
}
asks_fault_then T U faults.Host name ks ls more all xs ys is first second = record {
  done = ks ++ second.done;
  next = second.next;
  left = second.left ++ more;
  split = is ∙ ap (λ (l : List ℕ). (ks ++ l) ++ more) second.split ∙ simp append_assoc;
  asks = asks_then name ks second.done xs ys first second.asks;
}
asks_fault_then T U faults.Memory name ks ls more all xs ys is first second = record {
  done = ks ++ second.done;
  left = second.left ++ more;
  split = is ∙ ap (λ (l : List ℕ). (ks ++ l) ++ more) second.split ∙ simp append_assoc;
  asks = asks_then name ks second.done xs ys first second.asks;
}

-- of one number at most that one is missing
missing_one : (n k : ℕ) (o : Option (List ℕ)) → Contains (cond (is_none o) (n ∷ []) []) k → n ≡ k
missing_one n k None there = one_of n k there
missing_one n k (Some x) there = absurd (omega (arith, there.1))

-- what is missing later was missing before
fewer_missing : (f g : ℕ → Option (List ℕ)) (k : ℕ) → ((plain : List ℕ) → f k ≡ Some plain → g k ≡ Some plain) → length (missing_of g (k ∷ [])) ≤ length (missing_of f (k ∷ []))
fewer_missing f g k kept = by_cases (f k) (g k) kept where
  by_cases : (o p : Option (List ℕ)) → ((plain : List ℕ) → o ≡ Some plain → p ≡ Some plain) → length (cond (is_none p) (k ∷ []) []) ≤ length (cond (is_none o) (k ∷ []) [])
  by_cases None None kept = omega arith
  by_cases None (Some y) kept = omega arith
  by_cases (Some x) p kept = let e = kept x refl in subst (λ (q : Option (List ℕ)). length (cond (is_none q) (k ∷ []) []) ≤ length (cond (is_none (Some x)) (k ∷ []) [])) (sym e) (omega arith)

missing_more : (f : ℕ → Option (List ℕ)) (numbers : List ℕ) (i : ℕ) → i < length numbers
    → length (missing_of f (take (i + 1) numbers)) ≡ length (missing_of f (take i numbers)) + length (missing_of f (slice_index numbers i ∷ []))
missing_more f numbers i lt =
    ap (λ (l : List ℕ). length (missing_of f l)) (take_more numbers i 0 lt) ∙ ap length (filter-append (λ k. is_none (f k)) (take i numbers) (slice_index numbers i ∷ []))
    ∙ length-append (missing_of f (take i numbers)) (missing_of f (slice_index numbers i ∷ []))

-- a front lacks no more than the whole
fewer_of_front : (f : ℕ → Option (List ℕ)) (i : ℕ) (numbers : List ℕ) → length (missing_of f (take i numbers)) ≤ length (missing_of f numbers)
fewer_of_front f i numbers =
    let split = ap (λ (l : List ℕ). length (missing_of f l)) (sym (take-append-drop i numbers)) ∙ ap length (filter-append (λ k. is_none (f k)) (take i numbers) (drop i numbers)) in
    omega (arith, split, length-append (missing_of f (take i numbers)) (missing_of f (drop i numbers)))

-- the numbers whose parent stands before them find it held
pub parent_held : (numbers : List ℕ) (i : ℕ) (held : AtNodes) → AreRooted numbers → i < length numbers → ((j : ℕ) → j < i → IsAt held (slice_index numbers j))
    → (slice_index numbers i ≡ 1) ⊎ ((2 ≤ slice_index numbers i) × IsAt held (parent_of (slice_index numbers i)))
parent_held numbers i held rooted lt all =
    elim (rooted i lt) [
      | inl one ↦ inl one
      | inr up ↦ inr (up.0, subst (λ (k : ℕ). IsAt held k) up.1.2 (all up.1.0 up.1.1))
    ]

module _ (name : Name) (numbers : List ℕ) (i : ℕ) (f g h : ℕ → Option (List ℕ)) (root : Entry) (old mid new : HostState) (rising : IsStrictlyIncreasing numbers) (lt : i < length numbers) (to : FetchedTo name numbers i f g root old mid) where
  few_more : length (missing_of f (take i numbers)) + length (missing_of g (slice_index numbers i ∷ [])) ≤ length (missing_of f (take (i + 1) numbers))
  few_more = omega (arith, missing_more f numbers i lt, fewer_missing f g (slice_index numbers i) (to.fetched.kept (slice_index numbers i)))

  -- what is missing now was missing at first
  same_missing : missing_of g (slice_index numbers i ∷ []) ≡ missing_of f (slice_index numbers i ∷ [])
  same_missing = alike (slice_index numbers i) (f (slice_index numbers i)) (g (slice_index numbers i)) (to.fetched.kept (slice_index numbers i))
      (λ plain there lacks. elim (to.only (slice_index numbers i) (plain, there)) [
        | inl held ↦ none-some held.0 (sym lacks ∙ held.1)
        | inr (j, sooner, same) ↦ omega (arith, in_order numbers j i rising sooner lt, same)
      ])

  missing_split : missing_of f (take (i + 1) numbers) ≡ missing_of f (take i numbers) ++ missing_of g (slice_index numbers i ∷ [])
  missing_split =
      ap (λ (l : List ℕ). missing_of f l) (take_more numbers i 0 lt) ∙ filter-append (λ k. is_none (f k)) (take i numbers) (slice_index numbers i ∷ [])
      ∙ ap (λ (l : List ℕ). missing_of f (take i numbers) ++ l) (sym same_missing)

  asked_on : {T : Type 0} (value : T) → (fetches : Fetches (Ok value) name (slice_index numbers i ∷ []) g h root mid new) → AsksInTurn name (missing_of f (take (i + 1) numbers)) (to.these ++ fetches.these)
  asked_on value fetches =
      subst (λ (l : List ℕ). AsksInTurn name l (to.these ++ fetches.these)) (sym missing_split)
      (asks_then name (missing_of f (take i numbers)) (missing_of g (slice_index numbers i ∷ [])) to.these fetches.these to.asked fetches.asked)

  only_on : {T : Type 0} (value : T) → (fetches : Fetches (Ok value) name (slice_index numbers i ∷ []) g h root mid new) → (k : ℕ) → IsAt (At h) k → IsAt (At f) k ⊎ ((j : ℕ) × (j < i + 1) × (slice_index numbers j ≡ k))
  only_on value fetches k there =
      elim (fetches.only k there) [
        | inl before ↦ elim (to.only k before) [ inl first ↦ inl first | inr (j, sooner, same) ↦ inr (j, omega arith, same) ]
        | inr here ↦ inr (i, omega arith, one_of (slice_index numbers i) k here)
      ]

  -- what was given before opens still
  opened_before : (ys : List Answer) (k : ℕ) (block : List ℕ) → Given name to.these k block → (plain : List ℕ) × Opened (At f) (Given name (to.these ++ ys)) root k plain
  opened_before ys k block there =
      let first = λ (j : ℕ) (b : List ℕ). Contains-append_left to.these ys (Gave name (4096 * j) 4096 b) in
      let o = to.opened k block there in
      (o.0, opened_then (At f) (At f) (Given name to.these) (Given name to.these) (Given name (to.these ++ ys)) root (λ j p held. held) (λ j p held. was_held j p held) first first k o.0 o.1)

  -- and so does what was given then
  opened_on : {T : Type 0} (value : T) → (fetches : Fetches (Ok value) name (slice_index numbers i ∷ []) g h root mid new) → EachOpens (At f) (Given name (to.these ++ fetches.these)) root
  opened_on value fetches k block there =
      elim (Contains-append_cases to.these fetches.these (Gave name (4096 * k) 4096 block) there) [
        | inl first ↦ opened_before fetches.these k block first
        | inr second ↦
            let this = missing_one (slice_index numbers i) k (g (slice_index numbers i)) (given_asked name (missing_of g (slice_index numbers i ∷ [])) fetches.these k block fetches.asked second) in
            let held = subst (λ (n : ℕ). IsAt (At h) n) this (fetches.ends 0 (omega arith)) in
            (held.0, (fetched_then (At f) (At g) (At h) root name to.these fetches.these to.fetched fetches.fetched).came k held.0 held.1)
      ]

  opened_until : (ys : List Answer) → EachOpens (At g) (Given name ys) root → EachOpens (At f) (Given name (to.these ++ ys)) root
  opened_until ys opened k block there =
      elim (Contains-append_cases to.these ys (Gave name (4096 * k) 4096 block) there) [
        | inl first ↦ opened_before ys k block first
        | inr second ↦
            let o = opened k block second in (
              o.0,
              opened_then (At f) (At g) (Given name to.these) (Given name ys) (Given name (to.these ++ ys)) root to.fetched.kept to.fetched.came
                  (λ j b. Contains-append_left to.these ys (Gave name (4096 * j) 4096 b)) (λ j b. Contains-append_right to.these ys (Gave name (4096 * j) 4096 b)) k o.0 o.1,
            )
      ]

  -- one more number
  pub fetched_to_more : {T : Type 0} (value : T) → Asking (Ok value) (length (missing_of g (slice_index numbers i ∷ []))) mid new → Fetches (Ok value) name (slice_index numbers i ∷ []) g h root mid new
      → FetchedTo name numbers (i + 1) f h root old new
  fetched_to_more value asking fetches = record {
    these = to.these ++ fetches.these;
    answered = answered_then to.these fetches.these old mid new to.answered fetches.answered;
    counted = subst (λ (n : ℕ). CountsCalls n old new) (sym (length-append to.these fetches.these)) (counts_then (length to.these) (length fetches.these) old mid new to.counted fetches.counted);
    fetched = fetched_then (At f) (At g) (At h) root name to.these fetches.these to.fetched fetches.fetched;
    all = λ j below. elim (cases_eq j i) [
      | inl is ↦ subst (λ (k : ℕ). IsAt (At h) (slice_index numbers k)) (sym is) (fetches.ends 0 (omega arith))
      | inr ne ↦ let there = to.all j (omega arith) in (there.0, fetches.fetched.kept (slice_index numbers j) there.0 there.1)
    ];
    only = only_on value fetches;
    asked = asked_on value fetches;
    opened = opened_on value fetches;
    asking = asking_then tt (Ok tt) (length (missing_of f (take i numbers))) (length (missing_of g (slice_index numbers i ∷ []))) (length (missing_of f (take (i + 1) numbers))) old mid new to.asking
        (asking_as value (Ok tt) (length (missing_of g (slice_index numbers i ∷ []))) mid new asking refl) few_more;
  }

  missing_all : missing_of f numbers ≡ (missing_of f (take i numbers) ++ missing_of g (slice_index numbers i ∷ [])) ++ missing_of f (drop (i + 1) numbers)
  missing_all =
      ap (λ (l : List ℕ). missing_of f l) (sym (take-append-drop (i + 1) numbers)) ∙ filter-append (λ k. is_none (f k)) (take (i + 1) numbers) (drop (i + 1) numbers)
      ∙ ap (λ (l : List ℕ). l ++ missing_of f (drop (i + 1) numbers)) missing_split

  ends_on : {T : Type 0} (U : Type 0) (fault : TreeFault) → (fetches : Fetches {T = T} (Err fault) name (slice_index numbers i ∷ []) g h root mid new)
      → FetchEnds {T = U} (Err fault) numbers (At f) (At h) (Given name (to.these ++ fetches.these)) root
  ends_on U (faults.Damaged damage) fetches =
      let at = fetches.ends in
      let first : damage.node ≡ slice_index numbers i = at.node_is ∙ only at.i at.within in
      record {
        i = i;
        within = lt;
        node_is = first;
        before = λ j below. let there = to.all j below in (there.0, fetches.fetched.kept (slice_index numbers j) there.0 there.1);
        fails = fails_then (At f) (At g) (Given name to.these) (Given name fetches.these) (Given name (to.these ++ fetches.these)) root to.fetched.kept to.fetched.came
            (λ k block. Contains-append_left to.these fetches.these (Gave name (4096 * k) 4096 block)) (λ k block. Contains-append_right to.these fetches.these (Gave name (4096 * k) 4096 block)) damage.node damage.kind at.fails;
      } where
        only : (j : ℕ) → j < 1 → slice_index (slice_index numbers i ∷ []) j ≡ slice_index numbers i
        only zero below = refl
        only (suc j) below = absurd (omega arith)
  ends_on U faults.Host fetches = opened_until fetches.these fetches.ends
  ends_on U faults.Memory fetches = opened_until fetches.these fetches.ends

  -- it failed at this number
  pub fetches_failed : {T U : Type 0} (fault : TreeFault) → Fetches {T = T} (Err fault) name (slice_index numbers i ∷ []) g h root mid new → Fetches {T = U} (Err fault) name numbers f h root old new
  fetches_failed {T} {U} fault fetches = record {
    these = to.these ++ fetches.these;
    answered = answered_then to.these fetches.these old mid new to.answered fetches.answered;
    counted = subst (λ (n : ℕ). CountsCalls n old new)
        (calls_then {T = U} (Err fault) (length to.these) (length fetches.these) ∙ ap (λ (n : ℕ). calls_of {T = U} (Err fault) n) (sym (length-append to.these fetches.these)))
        (counts_then (length to.these) (calls_of {T = U} (Err fault) (length fetches.these)) old mid new to.counted (same_calls T U fault (length fetches.these) mid new fetches.counted));
    fetched = fetched_then (At f) (At g) (At h) root name to.these fetches.these to.fetched fetches.fetched;
    only = λ k there. elim (fetches.only k there) [
      | inl before ↦ elim (to.only k before) [ inl first ↦ inl first | inr (j, sooner, same) ↦ inr (subst (λ (m : ℕ). Contains numbers m) same (Contains-get_or numbers j 0 (omega arith))) ]
      | inr here ↦ inr (subst (λ (m : ℕ). Contains numbers m) (one_of (slice_index numbers i) k here) (Contains-get_or numbers i 0 lt))
    ];
    asked = asks_fault_then T U fault name (missing_of f (take i numbers)) (missing_of g (slice_index numbers i ∷ [])) (missing_of f (drop (i + 1) numbers)) (missing_of f numbers) to.these fetches.these missing_all to.asked fetches.asked;
    ends = ends_on {T = T} U fault fetches;
  }

  -- the calls until then
  pub asking_until : {T U : Type 0} (fault : TreeFault) → Asking {T = T} (Err fault) (length (missing_of g (slice_index numbers i ∷ []))) mid new → Asking {T = U} (Err fault) (length (missing_of f numbers)) old new
  asking_until {T} {U} fault asking =
      asking_then {T = Unit {0}} {U = U} tt (Err fault) (length (missing_of f (take i numbers))) (length (missing_of g (slice_index numbers i ∷ []))) (length (missing_of f numbers)) old mid new to.asking
      (asking_err fault (length (missing_of g (slice_index numbers i ∷ []))) mid new asking) (omega (arith, few_more, fewer_of_front f (i + 1) numbers))

-- all of them
pub fetches_done : {T : Type 0} (value : T) (name : Name) (numbers : List ℕ) (i : ℕ) (f g : ℕ → Option (List ℕ)) (root : Entry) (old new : HostState) → length numbers ≤ i → i ≤ length numbers → FetchedTo name numbers i f g root old new
    → Fetches (Ok value) name numbers f g root old new
fetches_done value name numbers i f g root old new le at_most to = record {
  these = to.these;
  answered = to.answered;
  counted = to.counted;
  fetched = to.fetched;
  only = λ k there. elim (to.only k there) [
    | inl first ↦ inl first
    | inr (j, sooner, same) ↦ elim (cases_lt j (length numbers)) [
      | inl within ↦ inr (subst (λ (m : ℕ). Contains numbers m) same (Contains-get_or numbers j 0 within))
      | inr past ↦ absurd (omega (arith, at_most))
    ]
  ];
  asked = subst (λ (l : List ℕ). AsksInTurn name (missing_of f l) to.these) (take_all i numbers le) to.asked;
  ends = λ j lt. to.all j (omega arith);
}

pub asking_done : (name : Name) (numbers : List ℕ) (i : ℕ) (f g : ℕ → Option (List ℕ)) (root : Entry) (old new : HostState) → length numbers ≤ i → FetchedTo name numbers i f g root old new
    → Asking {T = Unit {0}} (Ok tt) (length (missing_of f numbers)) old new
asking_done name numbers i f g root old new le to = subst (λ (l : List ℕ). Asking {T = Unit {0}} (Ok tt) (length (missing_of f l)) old new) (take_all i numbers le) to.asking
