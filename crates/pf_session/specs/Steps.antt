-- The calls by which a session seals its content.
use Rattle.std.specs.Prelude.{ℕ, Bool, true, false, List, [], ◌∷◌, ◌++◌}
use Rattle.node_layout.specs.Metadata.{meta_text, meta_block}
use Rattle.node_layout.specs.Places.{node_count}
use Rattle.node_tree.specs.Sealing.{writes_of}
use Rattle.node_tree.specs.State.{TreeState, held_at, sealed_root}
use Rattle.pf_io.specs.Disk.{Name}
use Rattle.pf_io.specs.Host.{Answer, Wrote, Synced, Made, Swapped}
use Rattle.pf_io.specs.Names.{side_of}
use Rattle.pf_session.specs.State.{SessionState}
use Rattle.pf_session.specs.Copying.{copied, clean_below}

-- node 0 of a tree's content under a path and a nonce
abbrev pub node_of : List ℕ → List ℕ → List ℕ → TreeState → List ℕ
node_of key path nonce tree = meta_block key nonce (meta_text path tree.size (sealed_root tree).0 (sealed_root tree).1 tree.first)

-- The seals of the dirty nodes and then node 0 are written, and the file is synced. `tree` is as it was sealed.
abbrev pub seal_steps : List ℕ → List ℕ → List ℕ → Name → List ℕ → List (List ℕ) → TreeState → List Answer
seal_steps key path nonce side dirty keys tree = writes_of side (held_at tree) dirty keys ++ Wrote side 0 (node_of key path nonce tree) ∷ Synced side ∷ []

-- The side file is made and gets the clean nodes of a file, which may have another name, and the others anew; then it takes the name.
abbrev pub replace_steps : List ℕ → List ℕ → List ℕ → Name → Name → Name → List ℕ → List ℕ → List (List ℕ) → List (List ℕ) → TreeState → List Answer
replace_steps key path nonce from name side clean dirty keys blocks tree = Made side ∷ copied from side clean blocks ++ seal_steps key path nonce side dirty keys tree ++ Swapped side name ∷ []

-- the clean nodes of a session's content
abbrev pub clean_nodes : SessionState → List ℕ
clean_nodes session = clean_below session.tree.dirty (node_count session.tree.size)

abbrev pub steps_by : Bool → SessionState → List ℕ → List (List ℕ) → List (List ℕ) → TreeState → List Answer
steps_by true session nonce keys blocks tree = seal_steps session.key session.path nonce (side_of session.name) session.tree.dirty keys tree
steps_by false session nonce keys blocks tree = replace_steps session.key session.path nonce session.name session.name (side_of session.name) (clean_nodes session) session.tree.dirty keys blocks tree

-- the calls of a flush, with the blocks that were copied; a file that stands at the side name until it is published is changed in place
abbrev pub flush_steps : SessionState → List ℕ → List (List ℕ) → List (List ℕ) → TreeState → List Answer
flush_steps session nonce keys blocks tree = steps_by session.beside session nonce keys blocks tree
