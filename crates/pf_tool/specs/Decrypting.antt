-- What `decrypt -w KEY -i IN` comes to.
use Rattle.std.specs.Prelude.{◌≡◌, ◌≢◌, ℕ, ◌+◌, ◌*◌, ◌-◌, ◌<◌, List, [], ◌∷◌, ◌++◌, length, take, map, Option, Some, None, Ok, Err}
use Rattle.std.specs.List.{range_with_len}
use Rattle.node_layout.specs.Faults.{IsPlainFault}
use Rattle.node_layout.specs.Metadata.{magic, flag_at}
use Rattle.node_layout.specs.Opening.{IsOpenFault}
use Rattle.node_layout.specs.Places.{node_count}
use Rattle.node_layout.specs.declared.damage.Damage.{Damage}
use Rattle.node_layout.specs.declared.damage.Kind.{Kind}
use Rattle.node_layout.specs.declared.damage.Kind.TheVariants.{Short}
use Rattle.node_layout.specs.declared.metadata.MetaSecret.{MetaSecret}
use Rattle.node_layout.specs.declared.metadata.PlainFault.TheVariants as plain_faults
use Rattle.node_tree.specs.Opened.{block_of}
use Rattle.node_tree.specs.Parts.{PIECE, ArePiecesFrom, ArePieces}
use Rattle.pf_io.specs.Disk.{Name, Files}
use Rattle.pf_io.specs.Host.{LengthWas, Gave}
use Rattle.pf_io.specs.Names.{IsTarget}
use Rattle.pf_session.specs.Opening.{IsOpenable}
use Rattle.pf_tool.specs.Events.{Event, Answers, Puts}
use Rattle.pf_tool.specs.Endings.{Ending, Done, Damaged, Refused, BadName, NotFound, NotProtected, BadVersion, Unbuilt}
use Rattle.pf_tool.specs.Keys.{IsKeyOf, KeyRefused, KeyOver, key_events}

-- why nothing is put out of a file whose node 0 is this; fewer than 8 bytes are no magic
pub data NodeRefused (user node : List ℕ) (ending : Ending) : Type 0 where
  not_protected : take 8 node ≢ magic → ending ≡ Refused NotProtected → NodeRefused user node ending
  node_short : take 8 node ≡ magic → length node < 4096 → ending ≡ Damaged 0 Short → NodeRefused user node ending
  node_pending : take 8 node ≡ magic → length node ≡ 4096 → flag_at node ≢ 0 → ending ≡ Refused Unbuilt → NodeRefused user node ending
  node_version : (major minor : ℕ) → length node ≡ 4096 → flag_at node ≡ 0 → IsPlainFault node (plain_faults.BadVersion major minor) → ending ≡ Refused (BadVersion major minor) → NodeRefused user node ending
  node_damaged : (kind : Kind) → IsOpenable node → IsOpenFault user node kind → ending ≡ Damaged 0 kind → NodeRefused user node ending

-- all pieces are there, or one has a damaged node
abbrev pub end_of : Option Damage → Ending
end_of None = Done
end_of (Some damage) = Damaged damage.node damage.kind

-- What the bytes of a file come to under a user's key: the pieces of the content that are put out, and the ending.
pub data ComesTo (user file : List ℕ) (pieces : List (List ℕ)) (ending : Ending) : Type 0 where
  node_refused : NodeRefused user (block_of file 0) ending → pieces ≡ [] → ComesTo user file pieces ending
  pieces_read : (end : Option Damage) → IsOpenable (block_of file 0) → ArePieces user file pieces end → ending ≡ end_of end → ComesTo user file pieces ending

-- the nodes of a file from one number up to another, each asked for once
abbrev pub node_events : Name → List ℕ → ℕ → ℕ → List Event
node_events input file from to = map (λ k. Answers (Gave input (4096 * k) 4096 (block_of file k))) (range_with_len from (to - from))

-- what is asked for the piece that is not put out
abbrev pub last_events : Name → List ℕ → ℕ → Ending → List Event
last_events input file at Done = []
last_events input file at (Damaged node kind) = node_events input file (node_count at) (node + 1)
last_events input file at (Refused why) = []

-- The pieces from a place on: for each, the nodes that the content up to its end has more than that before it, in rising
-- number, and then the piece; at a damage those up to the damaged node.
abbrev pub piece_events : Name → List ℕ → ℕ → List (List ℕ) → Ending → List Event
piece_events input file at [] ending = last_events input file at ending
piece_events input file at (piece ∷ pieces) ending = node_events input file (node_count at) (node_count (at + length piece)) ++ Puts piece ∷ piece_events input file (at + PIECE) pieces ending

-- what is put out of a file whose node 0 is this and opens to these metadata
pub record PiecesLead (input : Name) (node : List ℕ) (secret : MetaSecret) (events : List Event) (ending : Ending) : Type 0 where
  pub file : List ℕ
  pub pieces : List (List ℕ)
  pub end : Option Damage
  pub first : block_of file 0 ≡ node
  pub are : ArePiecesFrom file secret 0 pieces end
  pub events_are : events ≡ piece_events input file 0 pieces (end_of end)
  pub ending_is : ending ≡ end_of end

-- what follows the reading of the key: whether the file is there, its node 0, and the pieces
pub data Unseals (user : List ℕ) (input : Name) (events : List Event) (ending : Ending) : Type 0 where
  input_unnamed : ¬ (IsTarget input) → events ≡ [] → ending ≡ Refused BadName → Unseals user input events ending
  input_absent : IsTarget input → events ≡ Answers (LengthWas input None) ∷ [] → ending ≡ Refused (NotFound input) → Unseals user input events ending
  input_read : (size : ℕ) (file : List ℕ) (pieces : List (List ℕ)) → IsTarget input → ComesTo user file pieces ending
      → events ≡ Answers (LengthWas input (Some size)) ∷ Answers (Gave input 0 4096 (block_of file 0)) ∷ piece_events input file 0 pieces ending → Unseals user input events ending

-- the whole command
pub data DecryptLeads (key input : Name) (events : List Event) (ending : Ending) : Type 0 where
  decrypt_key_refused : KeyRefused key events ending → DecryptLeads key input events ending
  decrypt_key_read : (user : List ℕ) (rest : List Event) → IsKeyOf key user → events ≡ key_events key user ++ rest → Unseals user input rest ending → DecryptLeads key input events ending

-- the pieces and the ending that files give
pub data DecryptOver (key input : Name) (files : Files) (pieces : List (List ℕ)) (ending : Ending) : Type 0 where
  decrypt_no_key : KeyOver files key (Err ending) → pieces ≡ [] → DecryptOver key input files pieces ending
  decrypt_unnamed : (user : List ℕ) → KeyOver files key (Ok user) → ¬ (IsTarget input) → pieces ≡ [] → ending ≡ Refused BadName → DecryptOver key input files pieces ending
  decrypt_no_input : (user : List ℕ) → KeyOver files key (Ok user) → IsTarget input → files input ≡ None → pieces ≡ [] → ending ≡ Refused (NotFound input) → DecryptOver key input files pieces ending
  decrypt_file : (user file : List ℕ) → KeyOver files key (Ok user) → IsTarget input → files input ≡ Some file → ComesTo user file pieces ending → DecryptOver key input files pieces ending
