use Rattle.std.proofs.Common.{◌≡◌, take, drop}
use Rattle.toml.specs.View.{items_view}
use Rattle.manifest_model.specs.Places.{place_text}
use Rattle.manifest_model.specs.Listed.{allowed_items_refusal, allowed_uris}
use Rattle.manifest_model.proofs.listing.allowed_items.Given as goal

abbrev pub invariant-loop-k : goal.invariant-loop-k
invariant-loop-k l = record {
  refused : allowed_items_refusal (place_text l.place) 0 (items_view l.item-items) ≡ allowed_items_refusal (place_text l.place) l.k (items_view (drop l.k l.item-items));
  uris : l.uris.items ≡ allowed_uris (items_view (take l.k l.item-items));
}
