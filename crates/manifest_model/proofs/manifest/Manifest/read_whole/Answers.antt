use Rattle.std.proofs.Common.{inr}
use Rattle.toml.specs.View.{table_view}
use Rattle.manifest_model.proofs.Checking.{stopped_read}
use Rattle.manifest_model.proofs.Deciding.{listed_read}
use Rattle.manifest_model.proofs.manifest.Manifest.read_whole.Goals as goal

pub returns-in_err-taken : goal.returns-in_err-taken
returns-in_err-taken c = stopped_read c.args.bytes.now (table_view c.in_ok-table.table) c.from_residual-in_err-taken.result c.in_err-taken.field-0.0 c.in_ok-table.ensures c.from_residual-in_err-taken.ensures.1 c.in_err-taken.ensures

pub returns : goal.returns
returns c = inr (listed_read c.args.bytes.now (table_view c.in_ok-table.table) c.of.result c.in_ok-table.ensures c.in_ok-taken.ensures.0 c.of.ensures.whole c.of.ensures.lists)
