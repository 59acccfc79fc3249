use Rattle.std.proofs.Common.{◌≡◌, ◌∙◌, [], map, take, reverse, ℕ, List, Bor, Ok, sym, ap, arith, lit<, refl}
use Rattle.std.specs.declared.alloc.AllocError.{AllocError}
use Rattle.std.specs.List.{fold}
use Rattle.std.proofs.lemmas.List.{take_all, reverse-reverse}
use Rattle.std.proofs.lemmas.Iterator.Consumers.{map_from_collect}
use Rattle.std.proofs.lemmas.Iterator.Splits.{YieldsList-from_str_split}
use Rattle.manifest_model.specs.Names.{go, parts, kept_of, normal_parts}
use Rattle.manifest_model.proofs.Naming.{parts_more}
use Rattle.manifest_model.proofs.names.normal_parts.Goals as goal

pub returns : goal.returns
unfolding normal_parts kept_of
returns c =
    let cut : map (λ (p : Bor (List ℕ)). p.now) c.in_ok-parts.parts.items ≡ parts c.args.name.now =
    map_from_collect {E = AllocError} (Ok c.in_ok-parts.parts) c.in_ok-parts.ensures.ran (YieldsList-from_str_split 47 c.args.name.now (lit< tt) c.split.ensures.text c.split.ensures.has_more c.split.ensures.pattern) in
    let all : take c.loop-part.part-index c.deref-part-items.result.now ≡ c.in_ok-parts.parts.items = take_all _ _ (omega arith) ∙ c.deref-part-items.ensures.value in
    let done : reverse (map (λ (p : Bor (List ℕ)). p.now) c.loop-part.kept.items) ≡ fold (go c.args.absolute) [] (parts c.args.name.now) = c.loop-part.invariant ∙ ap (λ ps. fold (go c.args.absolute) [] (map (λ (p : Bor (List ℕ)). p.now) ps)) all ∙ ap (fold (go c.args.absolute) []) cut in
    sym (reverse-reverse (map (λ (p : Bor (List ℕ)). p.now) c.loop-part.kept.items)) ∙ ap reverse done ∙ rw c.requires refl

pub loop-part-preserved : goal.loop-part-preserved
loop-part-preserved c = parts_more c.args.absolute c.deref-part-items.result.now c.loop-part.part-index _ _ _ c.loop-part-test.true c.loop-part.invariant c.in_ok-go.ensures
