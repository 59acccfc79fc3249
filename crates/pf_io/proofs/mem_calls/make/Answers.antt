use Rattle.std.proofs.Common.{◌≡◌, refl, ap, rules, Some, [], List, ℕ}
use Rattle.pf_io.specs.Host.{Made}
use Rattle.pf_io.specs.Replay.{Call, Stored, settled}
use Rattle.pf_io.proofs.Recorded.{stores_set}
use Rattle.pf_io.proofs.mem_calls.make.Goals as goal

pub returns-clause-stores : goal.returns-clause-stores
returns-clause-stores c =
    let name_is : c.in_ok-to_vec.field-0.items ≡ c.args.name.now = search rules in
    stores_set c.set_file.result c.args.files.now.items _ c.args.told.now.items _ _ (Call (Made c.args.name.now)) _ c.args.name.now _ (λ t. Some (settled [])) c.requires c.set_file.ensures.sets c.set_file.ensures.same c.set_file.ensures.records
    (ap (λ (n : List ℕ). Call (Made n)) name_is) c.as_bytes-name.ensures.value (λ t m. refl)
    (ap (λ (s : Stored). Some s) c.in_ok-file.ensures)
