use Rattle.std.proofs.Common.{List, ℕ, subst}
use Rattle.node_layout.specs.Metadata.{IsPath}
use Rattle.node_layout.proofs.Fields.{IsRead-from_field}
use Rattle.node_layout.proofs.path.PathText.bytes.Goals as goal

pub returns-clause-is_path : goal.returns-clause-is_path
returns-clause-is_path c =
    let P : List ℕ → Type 0 = IsPath in
    subst P c.self.view_is (IsRead-from_field c.self.inside.field c.self.invariant).path_is
