use Rattle.std.proofs.Common.{◌≡◌, ◌∙◌, refl, ap, rules, List, ℕ}
use Rattle.std.specs.Prelude.{option_map}
use Rattle.pf_io.specs.Host.{Wrote}
use Rattle.pf_io.specs.Replay.{Call, write_stored, written}
use Rattle.pf_io.proofs.Recorded.{stores_set, next_stored}
use Rattle.pf_io.proofs.mem_calls.write.Goals as goal

pub returns-clause-stores : goal.returns-clause-stores
returns-clause-stores c =
    let name_is : c.in_ok-to_vec.field-0.items ≡ c.args.name.now = search rules in
    let from_is : c.in_ok-to_vec-2.field-0.items ≡ c.args.from.now = search rules in
    stores_set c.set_file.result c.args.files.now.items _ c.args.told.now.items _ _ (Call (Wrote c.args.name.now c.args.at c.args.from.now)) _ c.args.name.now _ (λ t. option_map (written c.args.at c.args.from.now) (t c.args.name.now)) c.requires c.set_file.ensures.sets c.set_file.ensures.same c.set_file.ensures.records
    (ap (λ (n : List ℕ). Call (Wrote n c.args.at c.in_ok-to_vec-2.field-0.items)) name_is ∙ ap (λ (b : List ℕ). Call (Wrote c.args.name.now c.args.at b)) from_is) c.as_bytes-name.ensures.value (λ t m. refl)
    (next_stored (written c.args.at c.args.from.now) (write_stored c.args.at c.args.from.now) _ _ c.args.files.now.items c.args.told.now.items _ c.args.name.now (λ file. refl) c.requires c.deref.ensures.value c.as_bytes-name.ensures.value c.in_ok-next.ensures)
