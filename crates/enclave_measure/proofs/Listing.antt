-- Lines and the pages that they list, one by one.
use Rattle.std.proofs.Common.{rules, ◌≡◌, ◌≢◌, ◌∙◌, ◌⊎◌, inl, inr, ℕ, ◌+◌, ◌≤◌, ◌==◌, ◌||◌, Bool, true, false, List, [], ◌∷◌, ◌++◌, length, refl, sym, ap, arith, subst}
use Rattle.std.specs.List.{AllByRecursion, AllZip}
use Rattle.std.specs.BTreeSet.{BTreeSet}
use Rattle.std.proofs.Math.Bool.{or-false}
use Rattle.std.proofs.lemmas.Bool.{eqb-false}
use Rattle.std.proofs.lemmas.List.{append_assoc}
use Rattle.std.proofs.lemmas.List.Folds.{list_any-append}
use Rattle.enclave_measure.specs.declared.page.Page.{Page}
use Rattle.enclave_measure.specs.declared.fault.LayoutFault.{LayoutFault}
use Rattle.enclave_measure.specs.declared.fault.LayoutFault.TheVariants as faults
use Rattle.enclave_measure.specs.Lines.{Line, read_after}
use Rattle.enclave_measure.specs.Pages.{IsInside, IsPageLine}
use Rattle.enclave_measure.specs.Layouts.{has_offset, AreApart, IsLineOf, ListPages, RefusesPage, Again, FirstRefused}
use Rattle.enclave_measure.specs.Collecting.{Tracks}

zip_push : (lines : List Line) (pages : List Page) (line : Line) (page : Page) → AllZip IsLineOf lines pages → IsLineOf line page → AllZip IsLineOf (lines ++ line ∷ []) (pages ++ page ∷ [])
zip_push [] [] line page so_far is = (is, tt)
zip_push (l ∷ lines) (p ∷ pages) line page so_far is = (so_far.0, zip_push lines pages line page so_far.1 is)
zip_push [] (p ∷ pages) line page so_far is = absurd so_far
zip_push (l ∷ lines) [] line page so_far is = absurd so_far

all_push : (P : Page → Type 0) (pages : List Page) (page : Page) → AllByRecursion P pages → P page → AllByRecursion P (pages ++ page ∷ [])
all_push P [] page so_far is = (is, tt)
all_push P (p ∷ pages) page so_far is = (so_far.0, all_push P pages page so_far.1 is)

pub neither : (a b : Bool) → (a || b) ≡ false → (a ≡ false) × (b ≡ false)
neither false b is = (refl, is)
neither true b is = absurd (cc)

pub either_none : (a b : Bool) → a ≡ false → b ≡ false → (a || b) ≡ false
either_none a b one two = rw (one, two) refl

pub unlike : (a b : ℕ) → (a == b) ≡ false → (b == a) ≡ false
unlike a b is = two_numbers b a (λ same. eqb-false a b is (sym same))
  where
    two_numbers : (x y : ℕ) → x ≢ y → (x == y) ≡ false
    two_numbers x y other = search rules

pub has_push : (offset : ℕ) (pages : List Page) (page : Page) → has_offset offset (pages ++ page ∷ []) ≡ (has_offset offset pages || (page.offset == offset))
has_push offset pages page = list_any-append (λ p. p.offset == offset) pages (page ∷ []) ∙ ap (λ b. has_offset offset pages || b) (or-false (page.offset == offset))

apart_push : (pages : List Page) (page : Page) → AreApart pages → has_offset page.offset pages ≡ false → AreApart (pages ++ page ∷ [])
apart_push [] page so_far fresh = (refl, tt)
apart_push (p ∷ pages) page so_far fresh =
    let other = neither (p.offset == page.offset) (has_offset page.offset pages) fresh in
    (has_push p.offset pages page ∙ either_none (has_offset p.offset pages) (page.offset == p.offset) so_far.0 (unlike p.offset page.offset other.0), apart_push pages page so_far.1 other.1)

pub list_none : (size : ℕ) → ListPages size [] []
list_none size = record { spelled = tt; inside = tt; apart = tt }

-- one page more
pub list_more : (size : ℕ) (lines : List Line) (pages : List Page) (line : Line) (page : Page) → ListPages size lines pages → IsPageLine line.1 page → IsInside size page → has_offset page.offset pages ≡ false
    → ListPages size (lines ++ line ∷ []) (pages ++ page ∷ [])
list_more size lines pages line page so_far is inside fresh = record {
  spelled = zip_push lines pages line page so_far.spelled is;
  inside = all_push (IsInside size) pages page so_far.inside inside;
  apart = apart_push pages page so_far.apart fresh;
}

-- what a reader has of a text that follows some lines, where it goes on at the rest
pub record Collects (size : ℕ) (text : List ℕ) (before : ℕ) (rest : List ℕ) (number : ℕ) (pages : List Page) (offsets : BTreeSet ℕ) : Type 0 where
  pub front : List Line
  pub whole : read_after before text ≡ front ++ read_after number rest
  pub listed : ListPages size front pages
  pub tracks : Tracks offsets pages
  pub fits : number + length rest ≤ before + length text

pub collects_more : (size : ℕ) (text : List ℕ) (before : ℕ) (rest : List ℕ) (number : ℕ) (pages new : List Page) (offsets offsets' : BTreeSet ℕ) (line : Line) (behind : List ℕ) (page : Page)
    → Collects size text before rest number pages offsets → read_after number rest ≡ line ∷ read_after line.0 behind → line.0 + length behind ≤ number + length rest
    → IsPageLine line.1 page → IsInside size page → has_offset page.offset pages ≡ false → new ≡ pages ++ page ∷ [] → Tracks offsets' new → Collects size text before behind line.0 new offsets'
collects_more size text before rest number pages new offsets offsets' line behind page so_far first fits is inside fresh added tracks = record {
  front = so_far.front ++ line ∷ [];
  whole = so_far.whole ∙ ap (λ (ls : List Line). so_far.front ++ ls) first ∙ sym (append_assoc so_far.front (line ∷ []) (read_after line.0 behind));
  listed = subst (λ (ps : List Page). ListPages size (so_far.front ++ line ∷ []) ps) (sym added) (list_more size so_far.front pages line page so_far.listed is inside fresh);
  tracks = tracks;
  fits = omega (arith, fits, so_far.fits);
}

-- the line at which a reader stops is the first that is refused
stopped : (size : ℕ) (text : List ℕ) (before : ℕ) (rest : List ℕ) (number : ℕ) (pages : List Page) (offsets : BTreeSet ℕ) (line : Line) (others : List Line) (fault : LayoutFault)
    → Collects size text before rest number pages offsets → read_after number rest ≡ line ∷ others → RefusesPage size pages line fault → FirstRefused size (read_after before text) fault
stopped size text before rest number pages offsets line others fault so_far first refused = record {
  front = so_far.front;
  line = line;
  others = others;
  pages = pages;
  whole = so_far.whole ∙ ap (λ (ls : List Line). so_far.front ++ ls) first;
  listed = so_far.listed;
  refused = refused;
}

pub stopped_taking : (size : ℕ) (text : List ℕ) (before : ℕ) (rest : List ℕ) (number : ℕ) (pages : List Page) (offsets : BTreeSet ℕ) (line : Line) (others : List Line) (fault : LayoutFault)
    → Collects size text before rest number pages offsets → read_after number rest ≡ line ∷ others → (fault ≡ faults.Memory) ⊎ ((earlier : List Page) → RefusesPage size earlier line fault)
    → (fault ≡ faults.Memory) ⊎ FirstRefused size (read_after before text) fault
stopped_taking size text before rest number pages offsets line others fault so_far first (inl want) = inl want
stopped_taking size text before rest number pages offsets line others fault so_far first (inr refused) = inr (stopped size text before rest number pages offsets line others fault so_far first (refused pages))

pub stopped_adding : (size : ℕ) (text : List ℕ) (before : ℕ) (rest : List ℕ) (number : ℕ) (pages : List Page) (offsets : BTreeSet ℕ) (line : Line) (others : List Line) (page : Page) (fault : LayoutFault)
    → Collects size text before rest number pages offsets → read_after number rest ≡ line ∷ others → IsPageLine line.1 page → IsInside size page
    → (fault ≡ faults.Memory) ⊎ ((fault ≡ faults.Repeated line.0) × (has_offset page.offset pages ≡ true)) → (fault ≡ faults.Memory) ⊎ FirstRefused size (read_after before text) fault
stopped_adding size text before rest number pages offsets line others page fault so_far first is inside (inl want) = inl want
stopped_adding size text before rest number pages offsets line others page fault so_far first is inside (inr again) = inr (stopped size text before rest number pages offsets line others fault so_far first (Again page is inside again.1 again.0))
