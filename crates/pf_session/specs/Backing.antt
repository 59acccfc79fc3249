-- The sheet on which a session stands.
use Rattle.std.specs.Prelude.{◌≡◌, []}
use Rattle.node_tree.specs.Sheet.{Sheet}
use Rattle.node_tree.specs.Backing.{Backs, now}
use Rattle.pf_session.specs.State.{SessionState}

-- the session stands on the sheet: the path, the nonce and the tree are of it
pub record IsBacked (sheet : Sheet) (session : SessionState) : Type 0 where
  pub path_is : session.path ≡ sheet.path
  pub nonce_is : session.nonce ≡ sheet.nonce
  pub backs : Backs sheet session.tree

-- it stands on the sheet, and its content is the sheet's
pub record StandsOn (sheet : Sheet) (session : SessionState) : Type 0 where
  pub backed : IsBacked sheet session
  pub now_is : now sheet session.tree ≡ sheet.content

-- it stands on the sheet, and nothing of it is to be sealed
pub record RestsOn (sheet : Sheet) (session : SessionState) : Type 0 where
  pub stands : StandsOn sheet session
  pub clean : session.tree.dirty ≡ []
