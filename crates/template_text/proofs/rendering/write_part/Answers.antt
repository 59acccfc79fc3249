use Rattle.std.proofs.Common.{string_bytes, refl, arith}
use Rattle.std.proofs.lemmas.List.{length-append}
use Rattle.template_text.specs.Pieces.{PassesLimit}
use Rattle.template_text.proofs.rendering.write_part.Goals as goal

pub returns-then-added-len : goal.returns-then-added-len
returns-then-added-len c = PassesLimit c.in_ok-added.added.now c.in_ok-added.ensures (omega (arith, c.len.ensures, c.if-added-len.true, length-append (string_bytes c.args.text.now) c.in_ok-added.added.now)) refl
