use Rattle.std.proofs.Common.{◌∙◌, ap, bytes_eq}
use Rattle.std.specs.Map.{lookup}
use Rattle.toml.specs.View.{table_view}
use Rattle.manifest_model.proofs.Accepted.{key_found}
use Rattle.manifest_model.proofs.manifest.Manifest.key.Goals as goal

pub returns : goal.returns
returns c = c.key_in.ensures ∙ key_found c.args.name.now (table_view c.self.inside.table) c.self.invariant.0 ∙ ap (λ s. lookup (bytes_eq c.args.name.now) s.lists.keys) c.self.view_is
