use Rattle.std.proofs.Common.{List, ℕ, subst, ap, ◌∙◌}
use Rattle.node_layout.specs.Metadata.{IsPath, path_field}
use Rattle.node_layout.proofs.Fields.{IsRead-from_field}
use Rattle.node_layout.proofs.path.PathText.field.Goals as goal

pub returns-clause-padded : goal.returns-clause-padded
returns-clause-padded c = (IsRead-from_field c.self.inside.field c.self.invariant).same ∙ ap path_field c.self.view_is

pub returns-clause-is_path : goal.returns-clause-is_path
returns-clause-is_path c =
    let P : List ℕ → Type 0 = IsPath in
    subst P c.self.view_is (IsRead-from_field c.self.inside.field c.self.invariant).path_is
