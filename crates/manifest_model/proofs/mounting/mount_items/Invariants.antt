use Rattle.std.proofs.Common.{◌≡◌, ◌∷◌, take, drop}
use Rattle.toml.specs.View.{items_view}
use Rattle.manifest_model.specs.Places.{place_text}
use Rattle.manifest_model.specs.Mounting.{mounts_refusal, mounts_of}
use Rattle.manifest_model.proofs.mounting.mount_items.Given as goal

abbrev pub invariant-loop-k : goal.invariant-loop-k
invariant-loop-k l = record {
  refused : mounts_refusal (place_text l.place) 0 (items_view l.item-items) ≡ mounts_refusal (place_text l.place) l.k (items_view (drop l.k l.item-items));
  mounts : l.mounts.items ≡ l.fn.root ∷ mounts_of (items_view (take l.k l.item-items));
}
