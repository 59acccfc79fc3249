use Rattle.std.proofs.Common.{◌≡◌, ◌∙◌, refl, ap, rules, Some, List, ℕ}
use Rattle.pf_io.specs.Replay.{Put, Stored, settled}
use Rattle.pf_io.proofs.Recorded.{stores_set}
use Rattle.pf_io.proofs.mem_calls.put.Goals as goal

pub returns-clause-stores : goal.returns-clause-stores
returns-clause-stores c =
    let name_is : c.in_ok-to_vec.field-0.items ≡ c.args.name.now = search rules in
    let bytes_is : c.in_ok-to_vec-2.field-0.items ≡ c.args.bytes.now = search rules in
    stores_set c.set_file.result c.args.files.now.items _ c.args.told.now.items _ _ (Put c.args.name.now c.args.bytes.now) _ c.args.name.now _ (λ t. Some (settled c.args.bytes.now)) c.requires c.set_file.ensures.sets c.set_file.ensures.same c.set_file.ensures.records
    (ap (λ (n : List ℕ). Put n c.in_ok-to_vec-2.field-0.items) name_is ∙ ap (λ (b : List ℕ). Put c.args.name.now b) bytes_is) refl (λ t m. refl)
    (ap (λ (s : Stored). Some s) c.in_ok-file.ensures)
