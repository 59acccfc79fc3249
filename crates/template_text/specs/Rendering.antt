-- What a template is rendered to.
use Rattle.std.specs.Prelude.{◌≡◌, ◌⊎◌, ℕ, ◌<◌, ◌≤◌, List, [], ◌∷◌, ◌++◌, reverse, length, Option, Some, None, Result, Ok, Err, bytes_eq}
use Rattle.std.specs.Map.{lookup}
use Rattle.template_text.specs.declared.fault.RenderFault.{RenderFault}
use Rattle.template_text.specs.declared.fault.RenderFault.TheVariants as faults
use Rattle.template_text.specs.Names.{IsValueName}
use Rattle.template_text.specs.Parts.{Part, Copied, Value, Comment, Raw, Statement, Unclosed, without_blanks, text_of, ArePartsOf}

-- the most bytes that a rendered text may have
abbrev pub LONGEST : ℕ
LONGEST = 16777216

abbrev pub Values : Type 0
Values = List (List ℕ × List ℕ)

-- the value of the last pair with the name
abbrev pub value_of : Values → List ℕ → Option (List ℕ)
value_of values name = lookup (bytes_eq name) (reverse values)

-- Below, `value` gives the value of a name.

-- What a part writes. A name's value is written as it is.
abbrev pub Writes : (List ℕ → Option (List ℕ)) → Part → List ℕ → Type 0
Writes value (Copied bytes) text = text ≡ bytes
Writes value (Value inside) text = IsValueName (without_blanks inside) × (value (without_blanks inside) ≡ Some text)
Writes value (Comment inside) text = text ≡ []
Writes value (Raw opening content closing) text = text ≡ content
Writes value (Statement inside) text = ⊥
Writes value (Unclosed bytes) text = ⊥

-- why a value at a place is refused: its name is none, or no pair has it
abbrev pub RefusesValue : (List ℕ → Option (List ℕ)) → ℕ → List ℕ → RenderFault → Type 0
RefusesValue value at name fault = ((¬ IsValueName name) × (fault ≡ faults.BadName at)) ⊎ (IsValueName name × (value name ≡ None) × (fault ≡ faults.Unknown at name))

-- why a part at a place is refused
abbrev pub Refuses : (List ℕ → Option (List ℕ)) → ℕ → Part → RenderFault → Type 0
Refuses value at (Copied bytes) fault = ⊥
Refuses value at (Value inside) fault = RefusesValue value at (without_blanks inside) fault
Refuses value at (Comment inside) fault = ⊥
Refuses value at (Raw opening content closing) fault = ⊥
Refuses value at (Statement inside) fault = fault ≡ faults.Statement at
Refuses value at (Unclosed bytes) fault = fault ≡ faults.Unclosed at

-- what the parts write, one after another
abbrev pub Write : (List ℕ → Option (List ℕ)) → List Part → List ℕ → Type 0
Write value [] text = text ≡ []
Write value (part ∷ parts) text = (first others : List ℕ) × Writes value part first × Write value parts others × (text ≡ first ++ others)

-- the place of what follows the parts
abbrev pub place_after : List Part → ℕ
place_after parts = length (text_of parts [])

-- All parts write, within the limit; or the first that does not is refused, at its place; or the first that passes the
-- limit is, at its place.
pub data Renders (value : List ℕ → Option (List ℕ)) (parts : List Part) (outcome : Result (List ℕ) RenderFault) : Type 0 where
  Whole : (text : List ℕ) → Write value parts text → length text ≤ LONGEST → outcome ≡ Ok text → Renders value parts outcome
  Refused : (front : List Part) (part : Part) (others : List Part) (text : List ℕ) (fault : RenderFault)
      → parts ≡ front ++ part ∷ others → Write value front text → length text ≤ LONGEST → Refuses value (place_after front) part fault
      → outcome ≡ Err fault → Renders value parts outcome
  Overlong : (front : List Part) (part : Part) (others : List Part) (text added : List ℕ)
      → parts ≡ front ++ part ∷ others → Write value front text → length text ≤ LONGEST → Writes value part added → LONGEST < length (text ++ added)
      → outcome ≡ Err (faults.TooLong (place_after front)) → Renders value parts outcome

-- the outcome of rendering a text with values: that of its parts
pub record RendersTo (text : List ℕ) (values : Values) (outcome : Result (List ℕ) RenderFault) : Type 0 where
  pub parts : List Part
  pub of_text : ArePartsOf text parts
  pub outcome_of : Renders (value_of values) parts outcome
