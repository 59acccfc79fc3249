-- What contracts see of a session's fields.
use Rattle.std.specs.Prelude.{◌≡◌, length, IfSome}
use Rattle.pf_io.specs.Names.{IsTarget, side_of}
use Rattle.node_layout.specs.Metadata.{IsPath}
use Rattle.pf_session.specs.State.{SessionState}
use Rattle.pf_session.specs.declared.session.Session.TheInside.{Inside}

abbrev pub state_of : Inside → SessionState
state_of session = record {
  key = session.key;
  name = session.name;
  path = session.path;
  nonce = session.nonce;
  drawn = session.drawn;
  tree = session.tree;
  changed = session.changed;
  broken = session.broken;
  beside = session.beside;
}

-- what holds of each session
pub record IsWell (session : Inside) : Type 0 where
  pub side_is : session.side ≡ side_of session.name
  pub is_target : IsTarget session.name
  pub path_is : IsPath session.path
  pub key_length : length session.key ≡ 16
  pub nonce_length : length session.nonce ≡ 32
  pub drawn_length : IfSome session.drawn (λ nonce. length nonce ≡ 32)
