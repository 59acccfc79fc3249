use Rattle.std.proofs.Common.{◌≡◌, [], take, drop}
use Rattle.toml.specs.View.{items_view}
use Rattle.manifest_model.specs.Places.{place_text}
use Rattle.manifest_model.specs.Trusting.{items_refusal, items_of, entries_of}
use Rattle.manifest_model.specs.Indexing.{Finds}
use Rattle.manifest_model.proofs.trusting.trusted_items.Given as goal

abbrev pub invariant-loop-k : goal.invariant-loop-k
invariant-loop-k l = record {
  refused : items_refusal [] (place_text l.place) 0 (items_view l.item-items) ≡ items_refusal (items_of (items_view (take l.k l.item-items))) (place_text l.place) l.k (items_view (drop l.k l.item-items));
  entries : l.entries.items ≡ entries_of (items_of (items_view (take l.k l.item-items)));
  found : Finds l.entries.items l.index;
}
