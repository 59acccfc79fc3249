-- The outcome of rendering is one.
use Rattle.std.proofs.Common.{◌≡◌, ◌∙◌, ◌⊎◌, inl, inr, ℕ, ◌<◌, ◌≤◌, Bool, true, false, List, [], ◌∷◌, ◌++◌, length, Option, Some, None, Result, Ok, Err, refl, sym, ap, subst, arith}
use Rattle.std.proofs.lemmas.Bool.{both_ways, cases_lt}
use Rattle.std.proofs.lemmas.List.{append-nil, append_assoc, length-append}
use Rattle.template_text.specs.declared.fault.RenderFault.{RenderFault}
use Rattle.template_text.specs.declared.fault.RenderFault.TheVariants as faults
use Rattle.template_text.specs.Names.{IsValueName}
use Rattle.template_text.specs.Parts.{Part, Copied, Value, Comment, Raw, Statement, Unclosed, without_blanks}
use Rattle.template_text.specs.Rendering.{LONGEST, Writes, Refuses, RefusesValue, Write, place_after, Renders, Whole, Refused, Overlong, RendersTo, value_of, Values}
use Rattle.template_text.proofs.Lexing.{one_list}
use Rattle.template_text.proofs.Existing.{has_parts}
use Rattle.template_text.proofs.Joining.{name_test, name_of_test, test_of_name}
use Rattle.template_text.proofs.Rendered.{write-append}

module _ (value : List ℕ → Option (List ℕ)) where
  writes_once : (part : Part) (x y : List ℕ) → Writes value part x → Writes value part y → x ≡ y
  writes_once (Copied bytes) x y first second = first ∙ sym second
  writes_once (Value inside) x y first second = let e : Some x ≡ Some y = sym first.1 ∙ second.1 in cc
  writes_once (Comment inside) x y first second = first ∙ sym second
  writes_once (Raw opening content closing) x y first second = first ∙ sym second
  writes_once (Statement inside) x y first second = absurd first
  writes_once (Unclosed bytes) x y first second = absurd first

  value_refused : (at : ℕ) (name x : List ℕ) (fault : RenderFault) → IsValueName name → value name ≡ Some x → RefusesValue value at name fault → ⊥
  value_refused at name x fault is has (inl bad) = bad.0 is
  value_refused at name x fault is has (inr none) = let e : Some x ≡ None = sym has ∙ none.1 in cc

  writes_refused : (at : ℕ) (part : Part) (x : List ℕ) (fault : RenderFault) → Writes value part x → Refuses value at part fault → ⊥
  writes_refused at (Copied bytes) x fault writes refused = refused
  writes_refused at (Value inside) x fault writes refused = value_refused at (without_blanks inside) x fault writes.0 writes.1 refused
  writes_refused at (Comment inside) x fault writes refused = refused
  writes_refused at (Raw opening content closing) x fault writes refused = refused
  writes_refused at (Statement inside) x fault writes refused = writes
  writes_refused at (Unclosed bytes) x fault writes refused = writes

  value_refused_once : (at : ℕ) (name : List ℕ) (x y : RenderFault) → RefusesValue value at name x → RefusesValue value at name y → x ≡ y
  value_refused_once at name x y (inl bad) (inl also) = bad.1 ∙ sym also.1
  value_refused_once at name x y (inl bad) (inr none) = absurd (bad.0 none.0)
  value_refused_once at name x y (inr none) (inl bad) = absurd (bad.0 none.0)
  value_refused_once at name x y (inr none) (inr also) = none.2 ∙ sym also.2

  refused_once : (at : ℕ) (part : Part) (x y : RenderFault) → Refuses value at part x → Refuses value at part y → x ≡ y
  refused_once at (Copied bytes) x y first second = absurd first
  refused_once at (Value inside) x y first second = value_refused_once at (without_blanks inside) x y first second
  refused_once at (Comment inside) x y first second = absurd first
  refused_once at (Raw opening content closing) x y first second = absurd first
  refused_once at (Statement inside) x y first second = first ∙ sym second
  refused_once at (Unclosed bytes) x y first second = first ∙ sym second

  write_once : (parts : List Part) (x y : List ℕ) → Write value parts x → Write value parts y → x ≡ y
  write_once [] x y first second = first ∙ sym second
  write_once (part ∷ parts) x y (a, rest, first, more, whole) (b, bs, second, others, also) =
      whole ∙ ap (λ t. t ++ rest) (writes_once part a b first second) ∙ ap (λ t. b ++ t) (write_once parts rest bs more others) ∙ sym also

  -- why nothing is written from a part on
  data Stops (front : List Part) (part : Part) (outcome : Result (List ℕ) RenderFault) : Type 0 where
    IsRefused : (text : List ℕ) (fault : RenderFault) → Write value front text → Refuses value (place_after front) part fault → outcome ≡ Err fault → Stops front part outcome
    IsOverlong : (text added : List ℕ) → Write value front text → Writes value part added → LONGEST < length (text ++ added) → outcome ≡ Err (faults.TooLong (place_after front)) → Stops front part outcome

  -- what a front of some parts and the next of them write
  record WritesUpTo (front : List Part) (part : Part) (text : List ℕ) : Type 0 where
    before : List ℕ
    added : List ℕ
    behind : List ℕ
    fronts : Write value front before
    own : Writes value part added
    whole : text ≡ before ++ added ++ behind

  up_to : (front : List Part) (part : Part) (others : List Part) (text : List ℕ) → Write value (front ++ part ∷ others) text → WritesUpTo front part text
  up_to [] part others text (a, rest, own, more, whole) = record { before = []; added = a; behind = rest; fronts = refl; own = own; whole = whole }
  up_to (x ∷ front) part others text (a, bs, own, more, whole) =
      let rest = up_to front part others bs more in
      record {
        before = a ++ rest.before;
        added = rest.added;
        behind = rest.behind;
        fronts = (a, rest.before, own, rest.fronts, refl);
        own = rest.own;
        whole = whole ∙ ap (λ t. a ++ t) rest.whole ∙ sym (append_assoc a (rest.before ++ rest.added) rest.behind) ∙ ap (λ t. t ++ rest.behind) (sym (append_assoc a rest.before rest.added));
      }

  no_stop : (front : List Part) (part : Part) (others : List Part) (text : List ℕ) (outcome : Result (List ℕ) RenderFault) → Write value (front ++ part ∷ others) text → length text ≤ LONGEST → Stops front part outcome → ⊥
  no_stop front part others text outcome write within (IsRefused before fault fronts refused is) = writes_refused (place_after front) part _ fault (up_to front part others text write).own refused
  no_stop front part others text outcome write within (IsOverlong before added fronts writes passes is) =
      let so = up_to front part others text write in
      let same : so.before ++ so.added ≡ before ++ added = ap (λ t. t ++ so.added) (write_once front so.before before so.fronts fronts) ∙ ap (λ t. before ++ t) (writes_once part so.added added so.own writes) in
      omega (arith, ap length so.whole, length-append (so.before ++ so.added) so.behind, ap length same)

  -- two fronts of the same parts
  data Fronts (x : List Part) (p : Part) (y : List Part) (q : Part) : Type 0 where
    Same : x ≡ y → p ≡ q → Fronts x p y q
    Longer : (others : List Part) → x ≡ y ++ q ∷ others → Fronts x p y q
    Shorter : (others : List Part) → y ≡ x ++ p ∷ others → Fronts x p y q

  with_first : (a : Part) (x : List Part) (p : Part) (y : List Part) (q : Part) → Fronts x p y q → Fronts (a ∷ x) p (a ∷ y) q
  with_first a x p y q (Same fronts part) = Same (ap (λ ps. a ∷ ps) fronts) part
  with_first a x p y q (Longer others is) = Longer others (ap (λ ps. a ∷ ps) is)
  with_first a x p y q (Shorter others is) = Shorter others (ap (λ ps. a ∷ ps) is)

  fronts_of : (x : List Part) (p : Part) (xs : List Part) (y : List Part) (q : Part) (ys : List Part) → x ++ p ∷ xs ≡ y ++ q ∷ ys → Fronts x p y q
  fronts_of [] p xs [] q ys same = let e : p ≡ q = cc in Same refl e
  fronts_of [] p xs (b ∷ y) q ys same = let e : b ≡ p = cc in Shorter y (ap (λ a. a ∷ y) e)
  fronts_of (a ∷ x) p xs [] q ys same = let e : a ≡ q = cc in Longer x (ap (λ b. b ∷ x) e)
  fronts_of (a ∷ x) p xs (b ∷ y) q ys same =
      let e : a ≡ b = cc in
      let more : x ++ p ∷ xs ≡ y ++ q ∷ ys = cc in
      subst (λ c. Fronts (a ∷ x) p (c ∷ y) q) e (with_first a x p y q (fronts_of x p xs y q ys more))

  stop_once : (front : List Part) (part : Part) (first second : Result (List ℕ) RenderFault) → Stops front part first → Stops front part second → first ≡ second
  stop_once front part first second (IsRefused text fault fronts refused is) (IsRefused other also as_well refused_too so) = is ∙ ap (λ f. Err f) (refused_once (place_after front) part fault also refused refused_too) ∙ sym so
  stop_once front part first second (IsRefused text fault fronts refused is) (IsOverlong other added as_well writes passes so) = absurd (writes_refused (place_after front) part added fault writes refused)
  stop_once front part first second (IsOverlong text added fronts writes passes is) (IsRefused other fault as_well refused so) = absurd (writes_refused (place_after front) part added fault writes refused)
  stop_once front part first second (IsOverlong text added fronts writes passes is) (IsOverlong other more as_well writes_too passes_too so) = is ∙ sym so

  -- all that is known of a first stop
  record StopsFirst (parts : List Part) (outcome : Result (List ℕ) RenderFault) : Type 0 where
    front : List Part
    part : Part
    others : List Part
    text : List ℕ
    whole : parts ≡ front ++ part ∷ others
    write : Write value front text
    within : length text ≤ LONGEST
    stops : Stops front part outcome

  stops_by : (parts x y : List Part) (p q : Part) (first second : Result (List ℕ) RenderFault) (xt yt : List ℕ) → Write value x xt → length xt ≤ LONGEST → Write value y yt → length yt ≤ LONGEST → Stops x p first → Stops y q second → Fronts x p y q → first ≡ second
  stops_by parts x y p q first second xt yt xw xl yw yl xs ys (Same fronts part) = stop_once y q first second (subst (λ a. Stops y a first) part (subst (λ z. Stops z p first) fronts xs)) ys
  stops_by parts x y p q first second xt yt xw xl yw yl xs ys (Longer others is) = absurd (no_stop y q others xt second (subst (λ z. Write value z xt) is xw) xl ys)
  stops_by parts x y p q first second xt yt xw xl yw yl xs ys (Shorter others is) = absurd (no_stop x p others yt first (subst (λ z. Write value z yt) is yw) yl xs)

  stops_once : (parts : List Part) (first second : Result (List ℕ) RenderFault) → StopsFirst parts first → StopsFirst parts second → first ≡ second
  stops_once parts first second x y =
      stops_by parts x.front y.front x.part y.part first second x.text y.text x.write x.within y.write y.within x.stops y.stops
      (fronts_of x.front x.part x.others y.front y.part y.others (sym x.whole ∙ y.whole))

  whole_never : (parts : List Part) (text : List ℕ) (outcome : Result (List ℕ) RenderFault) → Write value parts text → length text ≤ LONGEST → StopsFirst parts outcome → ⊥
  whole_never parts text outcome write within s = no_stop s.front s.part s.others text outcome (subst (λ ps. Write value ps text) s.whole write) within s.stops

  data Ends (parts : List Part) (outcome : Result (List ℕ) RenderFault) : Type 0 where
    Wholly : (text : List ℕ) → Write value parts text → length text ≤ LONGEST → outcome ≡ Ok text → Ends parts outcome
    Early : StopsFirst parts outcome → Ends parts outcome

  ends_of : (parts : List Part) (outcome : Result (List ℕ) RenderFault) → Renders value parts outcome → Ends parts outcome
  ends_of parts outcome (Whole text write within is) = Wholly text write within is
  ends_of parts outcome (Refused front part others text fault whole write within refused is) =
      Early (record { front = front; part = part; others = others; text = text; whole = whole; write = write; within = within; stops = IsRefused text fault write refused is })
  ends_of parts outcome (Overlong front part others text added whole write within writes passes is) =
      Early (record { front = front; part = part; others = others; text = text; whole = whole; write = write; within = within; stops = IsOverlong text added write writes passes is })

  ends_once : (parts : List Part) (first second : Result (List ℕ) RenderFault) → Ends parts first → Ends parts second → first ≡ second
  ends_once parts first second (Wholly text write within is) (Wholly other also fits so) = is ∙ ap (λ t. Ok t) (write_once parts text other write also) ∙ sym so
  ends_once parts first second (Wholly text write within is) (Early stop) = absurd (whole_never parts text second write within stop)
  ends_once parts first second (Early stop) (Wholly text write within is) = absurd (whole_never parts text first write within stop)
  ends_once parts first second (Early stop) (Early other) = stops_once parts first second stop other

  renders_once : (parts : List Part) (first second : Result (List ℕ) RenderFault) → Renders value parts first → Renders value parts second → first ≡ second
  renders_once parts first second x y = ends_once parts first second (ends_of parts first x) (ends_of parts second y)

  -- a part writes, or is refused
  decided_by : (at : ℕ) (inside : List ℕ) (b : Bool) (o : Option (List ℕ)) → name_test (without_blanks inside) ≡ b → value (without_blanks inside) ≡ o → ((added : List ℕ) × Writes value (Value inside) added) ⊎ ((fault : RenderFault) × Refuses value at (Value inside) fault)
  decided_by at inside true (Some added) is has = inl (added, (name_of_test _ is, has))
  decided_by at inside true None is none = inr (faults.Unknown at (without_blanks inside), inr (name_of_test _ is, none, refl))
  decided_by at inside false o other o_is = inr (faults.BadName at, inl (λ name. both_ways _ other (test_of_name _ name), refl))

  decided : (at : ℕ) (part : Part) → ((added : List ℕ) × Writes value part added) ⊎ ((fault : RenderFault) × Refuses value at part fault)
  decided at (Copied bytes) = inl (bytes, refl)
  decided at (Value inside) = decided_by at inside (name_test (without_blanks inside)) (value (without_blanks inside)) refl refl
  decided at (Comment inside) = inl ([], refl)
  decided at (Raw opening content closing) = inl (content, refl)
  decided at (Statement inside) = inr (faults.Statement at, refl)
  decided at (Unclosed bytes) = inr (faults.Unclosed at, refl)

  -- parts that were written, and others
  renders_from : (front others : List Part) (text : List ℕ) → Write value front text → length text ≤ LONGEST → (outcome : Result (List ℕ) RenderFault) × Renders value (front ++ others) outcome
  renders_from front [] text write within = (Ok text, Whole text (subst (λ ps. Write value ps text) (sym (append-nil front)) write) within refl)
  renders_from front (part ∷ others) text write within = elim (decided (place_after front) part) [
    | inl writes ↦ elim (cases_lt LONGEST (length (text ++ writes.0))) [
      | inl passes ↦ (Err (faults.TooLong (place_after front)), Overlong front part others text writes.0 refl write within writes.1 passes refl)
      | inr fits ↦ subst (λ ps. (outcome : Result (List ℕ) RenderFault) × Renders value ps outcome) (append_assoc front (part ∷ []) others)
          (renders_from (front ++ part ∷ []) others (text ++ writes.0) (write-append value front part text writes.0 write writes.1) fits)
    ]
    | inr refused ↦ (Err refused.0, Refused front part others text refused.0 refl write within refused.1 refl)
  ]

pub an_outcome : (text : List ℕ) (values : Values) → (outcome : Result (List ℕ) RenderFault) × RendersTo text values outcome
an_outcome text values =
    let has = has_parts text in
    let renders = renders_from (value_of values) [] has.parts [] refl (omega arith) in
    (renders.0, record { parts = has.parts; of_text = has.are; outcome_of = renders.1 })

pub one_outcome : (text : List ℕ) (values : Values) (first second : Result (List ℕ) RenderFault) → RendersTo text values first → RendersTo text values second → first ≡ second
one_outcome text values first second x y =
    renders_once (value_of values) y.parts first second (subst (λ ps. Renders (value_of values) ps first) (one_list text x.parts y.parts x.of_text y.of_text) x.outcome_of) y.outcome_of
