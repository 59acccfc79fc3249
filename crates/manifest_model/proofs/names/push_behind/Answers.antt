use Rattle.std.proofs.Common.{string_bytes}
use Rattle.manifest_model.proofs.Naming.{behind_step}
use Rattle.manifest_model.proofs.names.push_behind.Goals as goal

pub loop-part-preserved : goal.loop-part-preserved
loop-part-preserved c =
    behind_step c.args.parts.now c.loop-part.part-index _ (string_bytes c.args.name.now) (string_bytes c.loop-part.name) (string_bytes c.push_str.new.self) (string_bytes c.push_str-in-loop-part.new.self) c.loop-part-test.true c.loop-part.invariant
    c.in_ok-push_str.ensures.bytes c.in_ok-push_str-2.ensures.bytes
