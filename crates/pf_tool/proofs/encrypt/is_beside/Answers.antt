use Rattle.std.proofs.Common.{◌∙◌, ℕ, List, ◌++◌, sym, ap, Some, None}
use Rattle.std.proofs.lemmas.Bool.Decides.{Decides-eqb}
use Rattle.std.proofs.lemmas.Slice.Eq.{strip_prefix_is}
use Rattle.std.specs.Cmp.Lexicographic.{told_text}
use Rattle.pf_tool.proofs.Lists.{told_beside, not_beside}
use Rattle.pf_tool.proofs.encrypt.is_beside.Goals as goal

pub returns-in-Some : goal.returns-in-Some
returns-in-Some c =
    told_beside c.args.name.now c.args.other.now c.in-Some.rest.now c.args.ending.now c.eq.result
    (sym c.as_bytes.ensures.value ∙ strip_prefix_is Decides-eqb c.as_bytes.result.now c.as_bytes-2.result.now (Some c.in-Some.rest) c.in-Some.ensures.cases
    ∙ ap (λ (p : List ℕ). p ++ c.in-Some.rest.now) c.as_bytes-2.ensures.value)
    (rw (← c.as_bytes-in-Some.ensures.value) (told_text c.in-Some.rest.now c.as_bytes-in-Some.result.now c.eq.result c.eq.ensures))

pub returns-in-None : goal.returns-in-None
returns-in-None c =
    not_beside c.args.name.now c.args.other.now c.args.ending.now
    (λ rest is. strip_prefix_is Decides-eqb c.as_bytes.result.now c.as_bytes-2.result.now None c.in-None.ensures.cases rest
    (c.as_bytes.ensures.value ∙ is ∙ ap (λ (p : List ℕ). p ++ rest) (sym c.as_bytes-2.ensures.value)))
