-- What contracts see of a session.
use Rattle.std.specs.Prelude.{◌≡◌, ℕ, Bool, cond, List, [], length, IfSome, Option, refl}
use Rattle.std.specs.Coded.{Coded, code_by, coded×, coded_bool, coded_option}
use Rattle.node_layout.specs.Metadata.{IsPath}
use Rattle.node_layout.specs.Places.{node_count}
use Rattle.node_layout.specs.declared.metadata.MetaSecret.{MetaSecret}
use Rattle.node_tree.specs.State.{TreeState, IsSound, bytes_code, state_code}
use Rattle.pf_io.specs.Disk.{Name}
use Rattle.pf_io.specs.Names.{IsTarget, side_of}

-- `nonce` is that of the last sealing, and `drawn` that of the next one, where it was drawn. A session that is `broken` can only be closed. The file of one that is
-- `beside` stands at the side name until it is published.
pub record SessionState : Type 0 where
  pub key : List ℕ
  pub name : Name
  pub path : List ℕ
  pub nonce : List ℕ
  pub drawn : Option (List ℕ)
  pub tree : TreeState
  pub changed : Bool
  pub broken : Bool
  pub beside : Bool

abbrev pub session_code : Coded SessionState
session_code =
    code_by (List ℕ × (List ℕ × (List ℕ × (List ℕ × (Option (List ℕ) × (TreeState × (Bool × (Bool × Bool))))))))
    (coded× bytes_code (coded× bytes_code (coded× bytes_code (coded× bytes_code (coded× (coded_option bytes_code) (coded× state_code (coded× coded_bool (coded× coded_bool coded_bool))))))))
    (λ s. (s.key, (s.name, (s.path, (s.nonce, (s.drawn, (s.tree, (s.changed, (s.broken, s.beside)))))))))
    (λ p. record {
      key = p.0;
      name = p.1.0;
      path = p.1.1.0;
      nonce = p.1.1.1.0;
      drawn = p.1.1.1.1.0;
      tree = p.1.1.1.1.1.0;
      changed = p.1.1.1.1.1.1.0;
      broken = p.1.1.1.1.1.1.1.0;
      beside = p.1.1.1.1.1.1.1.1;
    })
    (λ _. refl)

-- the name at which the session's file stands
abbrev pub file_of : SessionState → Name
file_of session = cond session.beside (side_of session.name) session.name

-- the tree of a file with these metadata, before anything was read or changed
abbrev pub unread : MetaSecret → TreeState
unread meta = record { size = meta.size; first = meta.first; root_key = meta.root_key; root_tag = meta.root_tag; base = node_count meta.size; held = []; dirty = [] }

-- what holds of each session
pub record IsSoundSession (session : SessionState) : Type 0 where
  pub is_target : IsTarget session.name
  pub path_is : IsPath session.path
  pub key_length : length session.key ≡ 16
  pub nonce_length : length session.nonce ≡ 32
  pub drawn_length : IfSome session.drawn (λ nonce. length nonce ≡ 32)
  pub sound : IsSound session.tree
