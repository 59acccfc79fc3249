use Rattle.std.proofs.Common.{◌≡◌, refl, ap, rules, List, ℕ}
use Rattle.std.specs.Prelude.{option_map}
use Rattle.pf_io.specs.Host.{WasCut}
use Rattle.pf_io.specs.Replay.{Call, cut_stored, shortened}
use Rattle.pf_io.proofs.Recorded.{stores_set, next_stored}
use Rattle.pf_io.proofs.mem_calls.cut.Goals as goal

pub returns-clause-stores : goal.returns-clause-stores
returns-clause-stores c =
    let name_is : c.in_ok-to_vec.field-0.items ≡ c.args.name.now = search rules in
    stores_set c.set_file.result c.args.files.now.items _ c.args.told.now.items _ _ (Call (WasCut c.args.name.now c.args.len)) _ c.args.name.now _ (λ t. option_map (shortened c.args.len) (t c.args.name.now)) c.requires c.set_file.ensures.sets c.set_file.ensures.same c.set_file.ensures.records
    (ap (λ (n : List ℕ). Call (WasCut n c.args.len)) name_is) c.as_bytes-name.ensures.value (λ t m. refl)
    (next_stored (shortened c.args.len) (cut_stored c.args.len) _ _ c.args.files.now.items c.args.told.now.items _ c.args.name.now (λ file. refl) c.requires c.deref.ensures.value c.as_bytes-name.ensures.value c.in_ok-next.ensures)
