-- A linked sheet of a content, by a plan in which each node gets a key.
use Rattle.std.proofs.Common.{ℕ, ◌-◌, List, [], length, refl, ap, ◌∙◌, sym, arith, Some}
use Rattle.std.specs.Prelude.{slice_index_or}
use Rattle.std.proofs.lemmas.Option.{same_Some, none-some}
use Rattle.node_layout.specs.Places.{node_count}
use Rattle.node_tree.specs.Sheet.{Node}
use Rattle.node_tree.specs.Existing.{AreKeys, LinkedExist}
use Rattle.node_tree.proofs.Planned.{Plan, IsPlan, sheet_of, linked, node_there, made_is}

abbrev fresh_plan : List ℕ → List (List ℕ) → Plan
fresh_plan content keys = record { content = content; keys = λ k. Some (slice_index_or keys (k - 1) []); given = λ k. record { key = []; plain = [] } }

fresh_is_plan : (content : List ℕ) (keys : List (List ℕ)) → AreKeys (node_count (length content) - 1) keys → IsPlan (fresh_plan content keys)
fresh_is_plan content keys are = record {
  key_length = λ k key low lt there. ap length (sym (same_Some _ key there)) ∙ are.whole (k - 1) [] (let one = are.one_each in omega arith);
  given_key = λ k low lt none. absurd (none-some _ (sym none));
  given_whole = λ k low lt none. absurd (none-some _ (sym none));
  slices = λ d lt none. absurd (none-some _ (sym none));
  parents = λ k two lt none. absurd (none-some _ (sym none));
  entries = λ k two lt none_up none. absurd (none-some _ (sym none));
}

pub linked_exist : LinkedExist
linked_exist path nonce content keys may are = (
  sheet_of (fresh_plan content keys) path nonce,
  record {
    linked = linked (fresh_plan content keys) (fresh_is_plan content keys are) path nonce may;
    path_is = refl;
    nonce_is = refl;
    content_is = refl;
    keys_are = λ k node has.
        let there = node_there (fresh_plan content keys) path nonce k node has in
        ap (λ (n : Node). n.key) (there.1 ∙ made_is (fresh_plan content keys) k _ there.0 refl);
  },
)
