use Rattle.std.proofs.Common.{◌≡◌, ◌++◌, map, take, string_bytes}
use Rattle.manifest_model.specs.Names.{behind}
use Rattle.manifest_model.proofs.names.push_behind.Given as goal

abbrev pub invariant-loop-part : goal.invariant-loop-part
invariant-loop-part l = string_bytes l.name ≡ string_bytes l.initial.name ++ behind (map (λ p. p.now) (take l.part-index l.parts))
