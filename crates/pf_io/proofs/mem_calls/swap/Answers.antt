use Rattle.std.proofs.Common.{◌≡◌, ◌∙◌, ap, sym, rules, List, ℕ, Option}
use Rattle.std.specs.Prelude.{option_map}
use Rattle.pf_io.specs.Host.{Swapped}
use Rattle.pf_io.specs.Replay.{Call}
use Rattle.pf_io.specs.Storage.{stored_of}
use Rattle.pf_io.specs.declared.storage.StoredFile.{StoredFile}
use Rattle.pf_io.proofs.Stored.{sets_none}
use Rattle.pf_io.proofs.Recorded.{stores_unmoved, stores_moved}
use Rattle.pf_io.proofs.mem_calls.swap.Goals as goal

pub returns-in_default-clause-stores : goal.returns-in_default-clause-stores
returns-in_default-clause-stores c =
    let from_is : c.in_ok-to_vec.field-0.items ≡ c.args.from.now = search rules in
    let to_is : c.in_ok-to_vec-2.field-0.items ≡ c.args.to.now = search rules in
    stores_unmoved _ _ _ _ c.args.from.now c.args.to.now _ _ c.requires c.in_ok-push.ensures.items
    (ap (λ (n : List ℕ). Call (Swapped n c.in_ok-to_vec-2.field-0.items)) from_is ∙ ap (λ (n : List ℕ). Call (Swapped c.args.from.now n)) to_is) c.as_bytes-from.ensures.value c.as_bytes-to.ensures.value _ c.deref.ensures.value
    (ap (λ (o : Option StoredFile). option_map stored_of o) (sym c.in_default.is) ∙ c.in_ok-moved.ensures)

pub returns-clause-stores : goal.returns-clause-stores
returns-clause-stores c =
    let from_is : c.in_ok-to_vec.field-0.items ≡ c.args.from.now = search rules in
    let to_is : c.in_ok-to_vec-2.field-0.items ≡ c.args.to.now = search rules in
    stores_moved c.args.files.now.items c.set_file.new.files.items c.remove_all.new.files.items c.args.told.now.items _ _ c.args.from.now c.args.to.now _ _ c.as_bytes-to.result.now c.as_bytes-from.result.now (stored_of c.in-Some.file) c.requires
    c.in_ok-set_file.ensures.sets (sets_none c.set_file.new.files.items c.remove_all.new.files.items c.as_bytes-from.result.now c.remove_all.ensures.filtered) c.in_ok-set_file.ensures.records
    (ap (λ (n : List ℕ). Call (Swapped n c.in_ok-to_vec-2.field-0.items)) from_is ∙ ap (λ (n : List ℕ). Call (Swapped c.args.from.now n)) to_is) c.as_bytes-to.ensures.value c.as_bytes-from.ensures.value c.as_bytes-from.ensures.value c.as_bytes-to.ensures.value
    _ c.deref.ensures.value (ap (λ (o : Option StoredFile). option_map stored_of o) (sym c.in-Some.is) ∙ c.in_ok-moved.ensures)
