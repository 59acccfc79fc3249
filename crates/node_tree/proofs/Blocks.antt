-- The blocks of a sheet's file.
use Rattle.std.proofs.Common.{◌≡◌, ℕ, zero, suc, ◌*◌, List, [], ◌∷◌, length, take, drop, refl, ap, ◌∙◌, arith, Some}
use Rattle.std.specs.Prelude.{slice_get}
use Rattle.std.specs.List.{flat_map}
use Rattle.std.proofs.lemmas.List.{length-append, take_at}
use Rattle.std.proofs.lemmas.Option.{same_Some, none-some}
use Rattle.aes_gcm.proofs.Sealed.{length-sealed}
use Rattle.node_layout.proofs.InNode.{piece_behind}
use Rattle.node_tree.specs.Sheet.{Node, sealed}

abbrev AllWhole : List Node → Type 0
AllWhole nodes = (j : ℕ) (node : Node) → slice_get nodes j ≡ Some node → length node.plain ≡ 4096

pub length-sealed_node : (node : Node) → length (sealed node) ≡ length node.plain
length-sealed_node node = length-sealed node.key [] node.plain

pub length-blocks : (nodes : List Node) → AllWhole nodes → length (flat_map sealed nodes) ≡ 4096 * length nodes
length-blocks [] whole = refl
length-blocks (node ∷ nodes) whole =
    let rest = length-blocks nodes (λ j. whole (suc j)) in
    let here = length-sealed_node node ∙ whole zero node refl in
    omega (arith, length-append (sealed node) (flat_map sealed nodes), rest, here)

-- block j of the seals of some nodes
pub block_there : (nodes : List Node) (j : ℕ) (node : Node) → AllWhole nodes → slice_get nodes j ≡ Some node → take 4096 (drop (4096 * j) (flat_map sealed nodes)) ≡ sealed node
block_there [] j node whole there = absurd (none-some node there)
block_there (first ∷ nodes) zero node whole there =
    let same : first ≡ node = same_Some first node there in
    take_at (sealed first) (flat_map sealed nodes) 4096 (length-sealed_node first ∙ whole zero first refl) ∙ ap sealed same
block_there (first ∷ nodes) (suc j) node whole there =
    let long = length-sealed_node first ∙ whole zero first refl in
    piece_behind (4096 * suc j) (4096 * j) 4096 (sealed first) (flat_map sealed nodes) (omega (arith, long)) ∙ block_there nodes j node (λ i. whole (suc i)) there
