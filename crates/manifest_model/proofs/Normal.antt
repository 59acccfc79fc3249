-- Normal names: each is its own normal name.
use Rattle.std.proofs.lemmas.List.Sums.{fold-append}
use Rattle.std.proofs.Common.{◌≡◌, ◌∙◌, ◌⊎◌, inl, inr, ℕ, Bool, true, false, cond, not, ◌&&◌, ◌==◌, List, [], ◌∷◌, ◌++◌, reverse, fold, bytes_eq, refl, sym, ap}
use Rattle.std.specs.List.{list_all, join_with_byte, onto_first}
use Rattle.std.proofs.lemmas.Bool.{and_parts}
use Rattle.std.proofs.lemmas.List.{reverse-append}
use Rattle.std.proofs.lemmas.List.Folds.{list_all-append}
use Rattle.pf_io.specs.Names.{SLASH}
use Rattle.manifest_model.specs.Names.{parts, is_absolute, ABOVE, is_here, is_plain, go_above, go, kept_of, normal_parts, name_of, normal, climbs, are_normal}
use Rattle.manifest_model.proofs.Indexed.{Yes, No, same_name}

tell : (b : Bool) → (b ≡ true) ⊎ (b ≡ false)
tell true = inl refl
tell false = inr refl

-- a part without a slash
abbrev pub is_part : List ℕ → Bool
is_part part = list_all (λ byte. not (byte == SLASH)) part

-- Parts of a normal form, of which the last one stands first: plain ones, and behind them `..` where the name is not absolute.
abbrev pub all_above : List (List ℕ) → Bool
all_above [] = true
all_above (p ∷ ps) = bytes_eq p ABOVE && all_above ps

abbrev pub is_stack : Bool → List (List ℕ) → Bool
is_stack absolute [] = true
is_stack true (p ∷ ps) = is_plain p && is_stack true ps
is_stack false (p ∷ ps) = cond (is_plain p) (is_stack false ps) (bytes_eq p ABOVE && all_above ps)

not_yes : (b : Bool) → not b ≡ true → b ≡ false
not_yes true e = cc
not_yes false e = refl

plain_parts : (p : List ℕ) → is_plain p ≡ true → (is_here p ≡ false) × (bytes_eq p ABOVE ≡ false)
plain_parts p h = let (a, b) = and_parts (not (is_here p)) (not (bytes_eq p ABOVE)) h in (not_yes (is_here p) a, not_yes (bytes_eq p ABOVE) b)

plain_from : (p : List ℕ) → is_here p ≡ false → bytes_eq p ABOVE ≡ false → is_plain p ≡ true
plain_from p h a = rw (h, a) refl

above_not_plain : (p : List ℕ) → p ≡ ABOVE → is_plain p ≡ false
above_not_plain p e = rw e refl

both : (a b : Bool) → a ≡ true → b ≡ true → (a && b) ≡ true
both a b x y = rw (x, y) refl

stack_above : (ps : List (List ℕ)) → all_above ps ≡ true → is_stack false ps ≡ true
stack_above [] h = refl
stack_above (p ∷ ps) h =
    let (a, more) = and_parts (bytes_eq p ABOVE) (all_above ps) h in
    elim (same_name p ABOVE) [
      | Yes b s ↦ rw (above_not_plain p s, a, more) refl
      | No b s ↦ let e : true ≡ false = sym a ∙ b in cc
    ]

-- a stack without its last part
below : (absolute : Bool) (p : List ℕ) (ps : List (List ℕ)) → is_stack absolute (p ∷ ps) ≡ true → is_stack absolute ps ≡ true
below true p ps h = (and_parts (is_plain p) (is_stack true ps) h).1
below false p ps h = by_plain (is_plain p) refl
  where
    by_plain : (b : Bool) → is_plain p ≡ b → is_stack false ps ≡ true
    by_plain true e = rw e at h
    by_plain false e = let k : (bytes_eq p ABOVE && all_above ps) ≡ true = rw e at h in stack_above ps (and_parts (bytes_eq p ABOVE) (all_above ps) k).1

on_above : (absolute : Bool) (kept : List (List ℕ)) → is_stack absolute kept ≡ true → is_stack absolute (go_above absolute kept) ≡ true
on_above true [] h = refl
on_above false [] h = refl
on_above true (last ∷ kept) h =
    elim (same_name last ABOVE) [
      | Yes b s ↦ let (plain, rest) = and_parts (is_plain last) (is_stack true kept) h in let e : true ≡ false = sym plain ∙ above_not_plain last s in cc
      | No b s ↦ rw b (below true last kept h)
    ]
on_above false (last ∷ kept) h =
    elim (same_name last ABOVE) [
      | Yes b s ↦ let k : (bytes_eq last ABOVE && all_above kept) ≡ true = rw (above_not_plain last s) at h in rw b k
      | No b s ↦ rw b (below false last kept h)
    ]

onto_plain : (absolute : Bool) (kept : List (List ℕ)) (part : List ℕ) → is_plain part ≡ true → is_stack absolute kept ≡ true → is_stack absolute (part ∷ kept) ≡ true
onto_plain true kept part plain h = both (is_plain part) (is_stack true kept) plain h
onto_plain false kept part plain h = rw plain h

go-stack : (absolute : Bool) (kept : List (List ℕ)) (part : List ℕ) → is_stack absolute kept ≡ true → is_stack absolute (go absolute kept part) ≡ true
go-stack absolute kept part h = by_here (is_here part) refl
  where
    by_here : (b : Bool) → is_here part ≡ b → is_stack absolute (go absolute kept part) ≡ true
    by_here true e = rw e h
    by_here false e =
        elim (same_name part ABOVE) [
          | Yes b s ↦ rw (e, b) (on_above absolute kept h)
          | No b s ↦ rw (e, b) (onto_plain absolute kept part (plain_from part e b) h)
        ]

fold-stack : (absolute : Bool) (ps kept : List (List ℕ)) → is_stack absolute kept ≡ true → is_stack absolute (fold (go absolute) kept ps) ≡ true
fold-stack absolute [] kept h = h
fold-stack absolute (p ∷ ps) kept h = fold-stack absolute ps (go absolute kept p) (go-stack absolute kept p h)

go_plain : (absolute : Bool) (kept : List (List ℕ)) (p : List ℕ) → is_plain p ≡ true → go absolute kept p ≡ p ∷ kept
go_plain absolute kept p h = let (here, above) = plain_parts p h in rw (here, above) refl

go_onto_above : (kept : List (List ℕ)) → all_above kept ≡ true → go_above false kept ≡ ABOVE ∷ kept
go_onto_above [] h = refl
go_onto_above (last ∷ kept) h = rw (and_parts (bytes_eq last ABOVE) (all_above kept) h).0 refl

-- the parts of a stack go onto each other again
again : (absolute : Bool) (p : List ℕ) (kept : List (List ℕ)) → is_stack absolute (p ∷ kept) ≡ true → go absolute kept p ≡ p ∷ kept
again true p kept h = go_plain true kept p (and_parts (is_plain p) (is_stack true kept) h).0
again false p kept h = by_plain (is_plain p) refl
  where
    by_plain : (b : Bool) → is_plain p ≡ b → go false kept p ≡ p ∷ kept
    by_plain true e = go_plain false kept p e
    by_plain false e =
        let k : (bytes_eq p ABOVE && all_above kept) ≡ true = rw e at h in
        let (a, rest) = and_parts (bytes_eq p ABOVE) (all_above kept) k in
        elim (same_name p ABOVE) [
          | Yes b s ↦ rw s (go_onto_above kept rest)
          | No b s ↦ let f : true ≡ false = sym a ∙ b in cc
        ]

refold : (absolute : Bool) (stack : List (List ℕ)) → is_stack absolute stack ≡ true → fold (go absolute) [] (reverse stack) ≡ stack
refold absolute [] h = refl
refold absolute (p ∷ stack) h =
    ap (fold (go absolute) []) (reverse-append (p ∷ []) stack) ∙ fold-append (go absolute) [] (reverse stack) (p ∷ []) ∙ ap (λ kept. go absolute kept p) (refold absolute stack (below absolute p stack h)) ∙ again absolute p stack h

pub kept_of-kept_of : (absolute : Bool) (ps : List (List ℕ)) → kept_of absolute (kept_of absolute ps) ≡ kept_of absolute ps
unfolding kept_of
kept_of-kept_of absolute ps = ap reverse (refold absolute (fold (go absolute) [] ps) (fold-stack absolute ps [] (start absolute)))
  where
    start : (b : Bool) → is_stack b [] ≡ true
    start true = refl
    start false = refl

-- no part has a slash

onto_first-parts : (byte : ℕ) (ps : List (List ℕ)) → (byte == SLASH) ≡ false → list_all is_part ps ≡ true → list_all is_part (onto_first byte ps) ≡ true
onto_first-parts byte [] differ h = rw differ refl
onto_first-parts byte (p ∷ ps) differ h = rw differ h

parts_split : (bytes : List ℕ) → list_all is_part (parts bytes) ≡ true
parts_split [] = refl
parts_split (byte ∷ bytes) =
    elim (tell (byte == SLASH)) [
      | inl e ↦ rw e (parts_split bytes)
      | inr e ↦ rw e (onto_first-parts byte (parts bytes) e (parts_split bytes))
    ]

on_above-parts : (absolute : Bool) (kept : List (List ℕ)) → list_all is_part kept ≡ true → list_all is_part (go_above absolute kept) ≡ true
on_above-parts true [] h = refl
on_above-parts false [] h = refl
on_above-parts absolute (last ∷ kept) h = elim (same_name last ABOVE) [ Yes b s ↦ rw b h | No b s ↦ rw b (and_parts (is_part last) (list_all is_part kept) h).1 ]

go-parts : (absolute : Bool) (kept : List (List ℕ)) (part : List ℕ) → is_part part ≡ true → list_all is_part kept ≡ true → list_all is_part (go absolute kept part) ≡ true
go-parts absolute kept part p h = by_here (is_here part) refl
  where
    by_here : (b : Bool) → is_here part ≡ b → list_all is_part (go absolute kept part) ≡ true
    by_here true e = rw e h
    by_here false e = elim (same_name part ABOVE) [ Yes b s ↦ rw (e, b) (on_above-parts absolute kept h) | No b s ↦ rw (e, b) (both (is_part part) (list_all is_part kept) p h) ]

fold-parts : (absolute : Bool) (ps kept : List (List ℕ)) → list_all is_part ps ≡ true → list_all is_part kept ≡ true → list_all is_part (fold (go absolute) kept ps) ≡ true
fold-parts absolute [] kept h k = k
fold-parts absolute (p ∷ ps) kept h k = let (first, rest) = and_parts (is_part p) (list_all is_part ps) h in fold-parts absolute ps (go absolute kept p) rest (go-parts absolute kept p first k)

all-reverse : (test : List ℕ → Bool) (ps : List (List ℕ)) → list_all test ps ≡ true → list_all test (reverse ps) ≡ true
all-reverse test [] h = refl
all-reverse test (p ∷ ps) h =
    let (first, rest) = and_parts (test p) (list_all test ps) h in
    ap (list_all test) (reverse-append (p ∷ []) ps) ∙ list_all-append test (reverse ps) (p ∷ []) ∙ rw (all-reverse test ps rest, first) refl

-- parts that were joined are split again

split_part : (p : List ℕ) → is_part p ≡ true → parts p ≡ p ∷ []
split_part [] h = refl
split_part (byte ∷ p) h =
    let (first, rest) = and_parts (not (byte == SLASH)) (is_part p) h in
    let differ : (byte == SLASH) ≡ false = not_yes (byte == SLASH) first in
    rw (differ, split_part p rest) refl

split_first : (p rest : List ℕ) → is_part p ≡ true → parts (p ++ SLASH ∷ rest) ≡ p ∷ parts rest
split_first [] rest h = refl
split_first (byte ∷ p) rest h =
    let (first, more) = and_parts (not (byte == SLASH)) (is_part p) h in
    let differ : (byte == SLASH) ≡ false = not_yes (byte == SLASH) first in
    rw (differ, split_first p rest more) refl

split_joined : (p : List ℕ) (ps : List (List ℕ)) → list_all is_part (p ∷ ps) ≡ true → parts (join_with_byte SLASH (p ∷ ps)) ≡ p ∷ ps
split_joined p [] h = split_part p (and_parts (is_part p) true h).0
split_joined p (q ∷ ps) h =
    let (first, rest) = and_parts (is_part p) (list_all is_part (q ∷ ps)) h in
    split_first p (join_with_byte SLASH (q ∷ ps)) first ∙ ap (λ qs. p ∷ qs) (split_joined q ps rest)

kept_parts : (absolute : Bool) (ks : List (List ℕ)) → list_all is_part ks ≡ true → kept_of absolute (parts (name_of absolute ks)) ≡ kept_of absolute ks
unfolding kept_of
kept_parts true [] h = refl
kept_parts false [] h = refl
kept_parts true (p ∷ ps) h = ap (λ qs. reverse (fold (go true) [] qs)) (split_joined p ps h)
kept_parts false (p ∷ ps) h = ap (λ qs. reverse (fold (go false) [] qs)) (split_joined p ps h)

-- the first part of a name that is not absolute has a byte, and that is no slash
is_not_absolute : (p : List ℕ) (ps : List (List ℕ)) → bytes_eq p [] ≡ false → is_part p ≡ true → is_absolute (join_with_byte SLASH (p ∷ ps)) ≡ false
is_not_absolute [] ps some h = cc
is_not_absolute (byte ∷ p) [] some h = not_yes (byte == SLASH) (and_parts (not (byte == SLASH)) (is_part p) h).0
is_not_absolute (byte ∷ p) (q ∷ ps) some h = not_yes (byte == SLASH) (and_parts (not (byte == SLASH)) (is_part p) h).0

-- the front of a normal form

climbs-above : (ps : List (List ℕ)) → list_all (λ p. bytes_eq p ABOVE) ps ≡ true → climbs (ps ++ ABOVE ∷ []) ≡ true
climbs-above [] h = refl
climbs-above (p ∷ ps) h = let (first, rest) = and_parts (bytes_eq p ABOVE) (list_all (λ q. bytes_eq q ABOVE) ps) h in rw first (climbs-above ps rest)

climbs-plain : (ps : List (List ℕ)) (p : List ℕ) → climbs ps ≡ true → is_plain p ≡ true → climbs (ps ++ p ∷ []) ≡ true
climbs-plain [] p h plain = let (here, above) = plain_parts p plain in rw (above, here) refl
climbs-plain (q ∷ ps) p h plain =
    elim (tell (bytes_eq q ABOVE)) [
      | inl e ↦ let k : climbs ps ≡ true = rw e at h in rw e (climbs-plain ps p k plain)
      | inr e ↦
          let k : ((not (is_here q) && true) && list_all is_plain ps) ≡ true = rw e at h in
          let (first, rest) = and_parts (not (is_here q) && true) (list_all is_plain ps) k in
          let more : list_all is_plain (ps ++ p ∷ []) ≡ true = list_all-append is_plain ps (p ∷ []) ∙ rw rest (both (is_plain p) true plain refl) in
          rw (e, more) (both (not (is_here q) && true) true first refl)
    ]

all_of_above : (ps : List (List ℕ)) → all_above ps ≡ true → list_all (λ p. bytes_eq p ABOVE) ps ≡ true
all_of_above [] h = refl
all_of_above (p ∷ ps) h = let (first, rest) = and_parts (bytes_eq p ABOVE) (all_above ps) h in both (bytes_eq p ABOVE) (list_all (λ q. bytes_eq q ABOVE) ps) first (all_of_above ps rest)

climbs-stack : (stack : List (List ℕ)) → is_stack false stack ≡ true → climbs (reverse stack) ≡ true
climbs-stack [] h = refl
climbs-stack (p ∷ stack) h =
    let last : climbs (reverse stack ++ p ∷ []) ≡ true =
    elim (tell (is_plain p)) [
      | inl e ↦ climbs-plain (reverse stack) p (climbs-stack stack (below false p stack h)) e
      | inr e ↦
          let k : (bytes_eq p ABOVE && all_above stack) ≡ true = rw e at h in
          let (first, rest) = and_parts (bytes_eq p ABOVE) (all_above stack) k in
          elim (same_name p ABOVE) [
            | Yes b s ↦ rw s (climbs-above (reverse stack) (all-reverse (λ q. bytes_eq q ABOVE) stack (all_of_above stack rest)))
            | No b s ↦ let f : true ≡ false = sym first ∙ b in cc
          ]
    ] in
    ap climbs (reverse-append (p ∷ []) stack) ∙ last

plain-stack : (stack : List (List ℕ)) → is_stack true stack ≡ true → list_all is_plain stack ≡ true
plain-stack [] h = refl
plain-stack (p ∷ stack) h = let (first, rest) = and_parts (is_plain p) (is_stack true stack) h in both (is_plain p) (list_all is_plain stack) first (plain-stack stack rest)

start : (b : Bool) → is_stack b [] ≡ true
start true = refl
start false = refl

pub kept_of-normal : (absolute : Bool) (ps : List (List ℕ)) → are_normal absolute (kept_of absolute ps) ≡ true
unfolding kept_of
kept_of-normal true ps = all-reverse is_plain (fold (go true) [] ps) (plain-stack (fold (go true) [] ps) (fold-stack true ps [] refl))
kept_of-normal false ps = climbs-stack (fold (go false) [] ps) (fold-stack false ps [] refl)

pub kept_of-parts : (absolute : Bool) (name : List ℕ) → list_all is_part (kept_of absolute (parts name)) ≡ true
unfolding kept_of
kept_of-parts absolute name = all-reverse is_part (fold (go absolute) [] (parts name)) (fold-parts absolute (parts name) [] (parts_split name) refl)

not_empty : (p : List ℕ) → is_here p ≡ false → bytes_eq p [] ≡ false
not_empty p h = elim (tell (bytes_eq p [])) [ inl e ↦ let f : true ≡ false = rw e at h in cc | inr e ↦ e ]

some_byte : (p : List ℕ) (ps : List (List ℕ)) → climbs (p ∷ ps) ≡ true → bytes_eq p [] ≡ false
some_byte p ps h =
    elim (same_name p ABOVE) [
      | Yes b s ↦ rw s refl
      | No b s ↦
          let k : ((not (is_here p) && true) && list_all is_plain ps) ≡ true = rw b at h in
          let (first, rest) = and_parts (not (is_here p) && true) (list_all is_plain ps) k in
          let (plain, t) = and_parts (not (is_here p)) true first in
          not_empty p (not_yes (is_here p) plain)
    ]

absolute_as : (absolute : Bool) (ks : List (List ℕ)) → are_normal absolute ks ≡ true → list_all is_part ks ≡ true → is_absolute (name_of absolute ks) ≡ absolute
absolute_as true ks h k = refl
absolute_as false [] h k = refl
absolute_as false (p ∷ ps) h k = is_not_absolute p ps (some_byte p ps h) (and_parts (is_part p) (list_all is_part ps) k).0

pub normal-absolute : (name : List ℕ) → is_absolute (normal name) ≡ is_absolute name
unfolding normal normal_parts
normal-absolute name = absolute_as (is_absolute name) (kept_of (is_absolute name) (parts name)) (kept_of-normal (is_absolute name) (parts name)) (kept_of-parts (is_absolute name) name)

pub normal-parts : (name : List ℕ) → normal_parts (normal name) ≡ normal_parts name
unfolding normal normal_parts
normal-parts name =
    let absolute = is_absolute name in
    let same = absolute_as absolute (kept_of absolute (parts name)) (kept_of-normal absolute (parts name)) (kept_of-parts absolute name) in
    ap (λ a. kept_of a (parts (name_of absolute (kept_of absolute (parts name))))) same
    ∙ kept_parts absolute (kept_of absolute (parts name)) (kept_of-parts absolute name) ∙ kept_of-kept_of absolute (parts name)

pub normal-normal : (name : List ℕ) → normal (normal name) ≡ normal name
unfolding normal normal_parts
normal-normal name =
    let same : is_absolute (name_of (is_absolute name) (kept_of (is_absolute name) (parts name))) ≡ is_absolute name = absolute_as (is_absolute name) (kept_of (is_absolute name) (parts name)) (kept_of-normal (is_absolute name) (parts name)) (kept_of-parts (is_absolute name) name) in
    let ks : kept_of (is_absolute (name_of (is_absolute name) (kept_of (is_absolute name) (parts name)))) (parts (name_of (is_absolute name) (kept_of (is_absolute name) (parts name)))) ≡ kept_of (is_absolute name) (parts name) =
    ap (λ a. kept_of a (parts (name_of (is_absolute name) (kept_of (is_absolute name) (parts name))))) same ∙ kept_parts (is_absolute name) (kept_of (is_absolute name) (parts name)) (kept_of-parts (is_absolute name) name) ∙ kept_of-kept_of (is_absolute name) (parts name) in
    ap (λ a. name_of a (kept_of (is_absolute (name_of (is_absolute name) (kept_of (is_absolute name) (parts name)))) (parts (name_of (is_absolute name) (kept_of (is_absolute name) (parts name)))))) same ∙ ap (name_of (is_absolute name)) ks

pub parts-normal : (name : List ℕ) → are_normal (is_absolute name) (normal_parts name) ≡ true
unfolding normal_parts
parts-normal name = kept_of-normal (is_absolute name) (parts name)
