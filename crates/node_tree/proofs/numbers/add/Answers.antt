use Rattle.std.proofs.Common.{◌≡◌, ℕ, List, Some, sym, ap, ◌∙◌, Option, eqb, true, false, refl, length, ◌-◌, eq-eqb}
use Rattle.std.specs.Prelude.{slice_get}
use Rattle.std.specs.Option.{option_eq}
use Rattle.std.proofs.lemmas.Bool.{not-true, true≢false}
use Rattle.node_tree.proofs.Rising.{adds_pushed, below_new}
use Rattle.node_tree.proofs.numbers.add.Goals as goal

same_option : (n : ℕ) → option_eq eqb (Some n) (Some n) ≡ true
same_option n = eq-eqb n n refl

pub returns-then-ne : goal.returns-then-ne
returns-then-ne c =
    let xs = c.args.numbers.now.items in
    let y = c.args.number in
    let last : c.copied.result ≡ slice_get xs (length xs - 1) = c.copied.ensures ∙ c.last.ensures.value ∙ ap (λ (l : List ℕ). slice_get l (length l - 1)) c.deref.ensures.0 in
    let differs : option_eq eqb c.copied.result (Some y) ≡ false = not-true _ (sym c.ne.ensures ∙ c.if-ne.true) in
    let other = λ (is : slice_get xs (length xs - 1) ≡ Some y). true≢false (sym (same_option y) ∙ ap (λ (o : Option ℕ). option_eq eqb o (Some y)) (sym (last ∙ is)) ∙ differs) in
    rw c.push.ensures.items (adds_pushed xs y c.requires.rising (below_new xs y c.requires.rising c.requires.order other))
