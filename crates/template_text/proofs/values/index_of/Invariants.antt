use Rattle.std.proofs.Common.{◌≡◌, ℕ, List, take}
use Rattle.template_text.specs.Indexes.{value_in}
use Rattle.template_text.specs.Rendering.{value_of}
use Rattle.template_text.proofs.values.index_of.Given as goal

abbrev pub invariant-loop-name : goal.invariant-loop-name
invariant-loop-name l = (q : List ℕ) → value_in l.index q ≡ value_of (take l.name-index l.values) q
