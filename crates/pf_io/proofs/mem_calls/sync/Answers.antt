use Rattle.std.proofs.Common.{◌≡◌, refl, ap, rules, List, ℕ}
use Rattle.std.specs.Prelude.{option_map}
use Rattle.pf_io.specs.Host.{Synced}
use Rattle.pf_io.specs.Replay.{Call, settled_stored, settled}
use Rattle.pf_io.proofs.Recorded.{stores_set, next_stored}
use Rattle.pf_io.proofs.mem_calls.sync.Goals as goal

pub returns-clause-stores : goal.returns-clause-stores
returns-clause-stores c =
    let name_is : c.in_ok-to_vec.field-0.items ≡ c.args.name.now = search rules in
    stores_set c.set_file.result c.args.files.now.items _ c.args.told.now.items _ _ (Call (Synced c.args.name.now)) _ c.args.name.now _ (λ t. option_map (λ file. settled file.stored.bytes) (t c.args.name.now)) c.requires c.set_file.ensures.sets c.set_file.ensures.same c.set_file.ensures.records
    (ap (λ (n : List ℕ). Call (Synced n)) name_is) c.as_bytes-name.ensures.value (λ t m. refl)
    (next_stored (λ file. settled file.stored.bytes) (λ file. settled_stored file.bytes) _ _ c.args.files.now.items c.args.told.now.items _ c.args.name.now (λ file. refl) c.requires c.deref.ensures.value c.as_bytes-name.ensures.value c.in_ok-next.ensures)
