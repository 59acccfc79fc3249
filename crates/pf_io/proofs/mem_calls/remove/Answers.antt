use Rattle.std.proofs.Common.{◌≡◌, refl, ap, rules, None, List, ℕ}
use Rattle.pf_io.specs.Host.{Removed}
use Rattle.pf_io.specs.Replay.{Call}
use Rattle.pf_io.proofs.Recorded.{stores_set}
use Rattle.pf_io.proofs.mem_calls.remove.Goals as goal

pub returns-clause-stores : goal.returns-clause-stores
returns-clause-stores c =
    let name_is : c.in_ok-to_vec.field-0.items ≡ c.args.name.now = search rules in
    stores_set c.set_file.result c.args.files.now.items _ c.args.told.now.items _ _ (Call (Removed c.args.name.now)) _ c.args.name.now _ (λ t. None) c.requires c.set_file.ensures.sets c.set_file.ensures.same c.set_file.ensures.records
    (ap (λ (n : List ℕ). Call (Removed n)) name_is) c.as_bytes-name.ensures.value (λ t m. refl)
    (refl)
