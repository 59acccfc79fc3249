use Rattle.std.proofs.Common.{rules, ◌==◌, ◌∙◌, ap}
use Rattle.std.specs.List.{before_first}
use Rattle.node_layout.specs.Metadata.{IsPath}
use Rattle.node_layout.proofs.Fields.{before_first-path_field}
use Rattle.node_layout.proofs.path.PathText.new.Goals as goal

pub returns-clause-same : goal.returns-clause-same
returns-clause-same c =
    let h : IsPath c.as_bytes-bytes.result.now = search rules in
    ap (before_first (λ b. b == 0)) c.padded.ensures ∙ (before_first-path_field c.as_bytes-bytes.result.now h ∙ c.as_bytes-bytes.ensures.value)
