use Rattle.std.proofs.Common.{length, string_bytes}
use Rattle.template_text.specs.Indexes.{value_in}
use Rattle.template_text.proofs.Rendered.{HasWritten}
use denote.Text.{Utf8}
use denote.Shadow.{shadow}
use Rattle.template_text.proofs.rendering.render.Given as goal

abbrev pub invariant-loop-rest : goal.invariant-loop-rest
invariant-loop-rest l = record {
  text : shadow (Utf8 l.rest);
  so_far : HasWritten (value_in l.index) l.text l.rest (string_bytes l.rendered);
}

abbrev pub decreases-loop-rest : goal.decreases-loop-rest
decreases-loop-rest l = length l.rest
