use Rattle.std.proofs.Common.{◌≡◌, [], map, take, reverse}
use Rattle.std.specs.List.{fold}
use Rattle.manifest_model.specs.Names.{go}
use Rattle.manifest_model.proofs.names.normal_parts.Given as goal

abbrev pub invariant-loop-part : goal.invariant-loop-part
invariant-loop-part l = reverse (map (λ p. p.now) l.kept.items) ≡ fold (go l.absolute) [] (map (λ p. p.now) (take l.part-index l.part-items))
