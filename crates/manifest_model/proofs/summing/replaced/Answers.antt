use Rattle.manifest_model.proofs.SumLists.{replaced_at}
use Rattle.manifest_model.proofs.summing.replaced.Goals as goal

pub returns : goal.returns
returns c =
    replaced_at c.in_ok-from_str.field-0 c.args.key.now c.args.value c.args.table.entries c.insert.new.self.entries c.in_ok-insert.field-0 c.in_ok-from_str.ensures.ok c.requires c.in_ok-insert.ensures.old
    c.in_ok-insert.ensures.keys_stay c.in_ok-insert.ensures.entries
