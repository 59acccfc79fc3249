-- Rendering, part by part.
use Rattle.std.proofs.Common.{◌≡◌, ◌∙◌, ◌⊎◌, inl, inr, ℕ, ◌≤◌, ◌+◌, ◌-◌, List, [], ◌∷◌, ◌++◌, length, Option, Ok, Err, refl, sym, ap, subst, arith}
use Rattle.std.proofs.lemmas.List.{append-nil, append_assoc, length-append}
use Rattle.template_text.specs.Parts.{Part, Copied, Value, Comment, Raw, Statement, Unclosed, spelled, statement, text_of, IsPart, ArePlaced, ArePartsOf}
use Rattle.template_text.specs.Rendering.{LONGEST, Values, value_of, Writes, Refuses, Write, place_after, Renders, Whole, Refused, Overlong, RendersTo}
use Rattle.template_text.specs.declared.fault.RenderFault.{RenderFault}
use Rattle.template_text.specs.declared.fault.RenderFault.TheVariants as faults
use Rattle.template_text.specs.Pieces.{Added, Stops, NoMemory, IsRefused, PassesLimit}
use Rattle.template_text.proofs.Existing.{has_parts}

-- the parts so far: they stand before the rest, and wrote the text
pub record HasWritten (value : List ℕ → Option (List ℕ)) (text rest written : List ℕ) : Type 0 where
  pub parts : List Part
  pub spells : text ≡ text_of parts rest
  pub placed : ArePlaced parts rest
  pub writes : Write value parts written
  pub within : length written ≤ LONGEST

pub none_written : (value : List ℕ → Option (List ℕ)) (text : List ℕ) → HasWritten value text text []
none_written value text = record { parts = []; spells = refl; placed = tt; writes = refl; within = omega arith }

spelled-append : (part : Part) (xs ys : List ℕ) → spelled part (xs ++ ys) ≡ spelled part xs ++ ys
spelled-append (Copied bytes) xs ys = sym (append_assoc bytes xs ys)
spelled-append (Value inside) xs ys = ap (λ t. 123 ∷ 123 ∷ t) (sym (append_assoc inside (125 ∷ 125 ∷ xs) ys))
spelled-append (Comment inside) xs ys = ap (λ t. 123 ∷ 35 ∷ t) (sym (append_assoc inside (35 ∷ 125 ∷ xs) ys))
spelled-append (Raw opening content closing) xs ys =
    ap (statement opening) (ap (λ t. content ++ t) (statement-append closing xs ys) ∙ sym (append_assoc content (statement closing xs) ys)) ∙ statement-append opening (content ++ statement closing xs) ys
  where
    statement-append : (inside xs ys : List ℕ) → statement inside (xs ++ ys) ≡ statement inside xs ++ ys
    statement-append inside xs ys = ap (λ t. 123 ∷ 37 ∷ t) (sym (append_assoc inside (37 ∷ 125 ∷ xs) ys))
spelled-append (Statement inside) xs ys = ap (λ t. 123 ∷ 37 ∷ t) (sym (append_assoc inside (37 ∷ 125 ∷ xs) ys))
spelled-append (Unclosed bytes) xs ys = sym (append_assoc bytes xs ys)

text_of-rest : (parts : List Part) (rest : List ℕ) → text_of parts rest ≡ text_of parts [] ++ rest
text_of-rest [] rest = refl
text_of-rest (part ∷ parts) rest = ap (spelled part) (text_of-rest parts rest) ∙ spelled-append part (text_of parts []) rest

text_of-append : (xs ys : List Part) (rest : List ℕ) → text_of (xs ++ ys) rest ≡ text_of xs (text_of ys rest)
text_of-append [] ys rest = refl
text_of-append (x ∷ xs) ys rest = ap (spelled x) (text_of-append xs ys rest)

placed-append : (xs ys : List Part) (rest : List ℕ) → ArePlaced xs (text_of ys rest) → ArePlaced ys rest → ArePlaced (xs ++ ys) rest
placed-append [] ys rest none placed = placed
placed-append (x ∷ xs) ys rest first placed = (subst (IsPart x) (sym (text_of-append xs ys rest)) first.0, placed-append xs ys rest first.1 placed)

pub write-append : (value : List ℕ → Option (List ℕ)) (xs : List Part) (part : Part) (text added : List ℕ) → Write value xs text → Writes value part added → Write value (xs ++ part ∷ []) (text ++ added)
write-append value [] part text added none writes = (added, [], writes, refl, rw none (sym (append-nil added)))
write-append value (x ∷ xs) part text added (first, others, here, more, whole) writes =
    (first, others ++ added, here, write-append value xs part others added more writes, rw whole (append_assoc first others added))

-- the place of the rest of a text
place_is : (value : List ℕ → Option (List ℕ)) (text rest written : List ℕ) (so_far : HasWritten value text rest written) → place_after so_far.parts ≡ length text - length rest
place_is value text rest written so_far =
    let whole : length text ≡ place_after so_far.parts + length rest = ap length (so_far.spells ∙ text_of-rest so_far.parts rest) ∙ length-append (text_of so_far.parts []) rest in
    omega arith

-- one part more
one_more : (value : List ℕ → Option (List ℕ)) (text rest written added behind : List ℕ) (part : Part) → HasWritten value text rest written → rest ≡ spelled part behind → IsPart part behind → Writes value part added → length (written ++ added) ≤ LONGEST → HasWritten value text behind (written ++ added)
one_more value text rest written added behind part so_far spells placed writes within = record {
  parts = so_far.parts ++ part ∷ [];
  spells = so_far.spells ∙ ap (text_of so_far.parts) spells ∙ sym (text_of-append so_far.parts (part ∷ []) behind);
  placed = placed-append so_far.parts (part ∷ []) behind (subst (ArePlaced so_far.parts) spells so_far.placed) (placed, tt);
  writes = write-append value so_far.parts part written added so_far.writes writes;
  within = within;
}

pub rest_within : (value : List ℕ → Option (List ℕ)) (text rest written : List ℕ) → HasWritten value text rest written → length rest ≤ length text
rest_within value text rest written so_far = omega (arith, ap length (so_far.spells ∙ text_of-rest so_far.parts rest), length-append (text_of so_far.parts []) rest)

pub added_more : (value : List ℕ → Option (List ℕ)) (text rest written new behind : List ℕ) (part : Part) → HasWritten value text rest written → rest ≡ spelled part behind → IsPart part behind → Added value part written new → HasWritten value text behind new
added_more value text rest written new behind part so_far spells placed more =
    subst (λ t. HasWritten value text behind t) (sym more.after)
    (one_more value text rest written more.added behind part so_far spells placed more.writes (subst (λ t. length t ≤ LONGEST) more.after more.within))

-- the whole text
all_parts : (value : List ℕ → Option (List ℕ)) (text written : List ℕ) (so_far : HasWritten value text [] written) → ArePartsOf text so_far.parts
all_parts value text written so_far = record { cover = so_far.spells; placed = so_far.placed }

pub whole_rendered : (value : List ℕ → Option (List ℕ)) (values : Values) (text written made : List ℕ) → value ≡ value_of values → HasWritten value text [] written → made ≡ written → RendersTo text values (Ok made)
whole_rendered value values text written made same so_far is = record {
  parts = so_far.parts;
  of_text = all_parts value text written so_far;
  outcome_of = subst (λ v. Renders v so_far.parts (Ok made)) same (Whole written so_far.writes so_far.within (ap (λ t. Ok t) is));
}

-- the parts so far, one that ends the rendering, and those behind it
and_others : (value : List ℕ → Option (List ℕ)) (text rest written behind : List ℕ) (part : Part) (others : List Part) (so_far : HasWritten value text rest written) → rest ≡ spelled part behind → IsPart part behind → ArePartsOf behind others → ArePartsOf text (so_far.parts ++ part ∷ others)
and_others value text rest written behind part others so_far spells placed are = record {
  cover = so_far.spells ∙ ap (text_of so_far.parts) (spells ∙ ap (spelled part) are.cover) ∙ sym (text_of-append so_far.parts (part ∷ others) []);
  placed = placed-append so_far.parts (part ∷ others) []
      (subst (ArePlaced so_far.parts) (spells ∙ ap (spelled part) are.cover) so_far.placed)
      (subst (IsPart part) are.cover placed, are.placed);
}

pub stopped : (value : List ℕ → Option (List ℕ)) (values : Values) (text rest written behind : List ℕ) (part : Part) (at : ℕ) (fault : RenderFault) → value ≡ value_of values → HasWritten value text rest written → rest ≡ spelled part behind → IsPart part behind → at ≡ length text - length rest
    → Stops value at part written fault → (fault ≡ faults.Memory) ⊎ RendersTo text values (Err fault)
stopped value values text rest written behind part at fault same so_far spells placed here (NoMemory is) = inl is
stopped value values text rest written behind part at fault same so_far spells placed here (IsRefused refused) =
    let others = has_parts behind in
    let place : at ≡ place_after so_far.parts = here ∙ sym (place_is value text rest written so_far) in
    inr (record {
      parts = so_far.parts ++ part ∷ others.parts;
      of_text = and_others value text rest written behind part others.parts so_far spells placed others.are;
      outcome_of = subst (λ v. Renders v (so_far.parts ++ part ∷ others.parts) (Err fault)) same
          (Refused so_far.parts part others.parts written fault refl so_far.writes so_far.within (subst (λ a. Refuses value a part fault) place refused) refl);
    })
stopped value values text rest written behind part at fault same so_far spells placed here (PassesLimit added writes passes is) =
    let others = has_parts behind in
    let place : at ≡ place_after so_far.parts = here ∙ sym (place_is value text rest written so_far) in
    inr (record {
      parts = so_far.parts ++ part ∷ others.parts;
      of_text = and_others value text rest written behind part others.parts so_far spells placed others.are;
      outcome_of = subst (λ v. Renders v (so_far.parts ++ part ∷ others.parts) (Err fault)) same
          (Overlong so_far.parts part others.parts written added refl so_far.writes so_far.within writes passes (ap (λ f. Err f) (is ∙ ap (λ a. faults.TooLong a) place)));
    })
