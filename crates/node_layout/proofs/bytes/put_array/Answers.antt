use Rattle.std.proofs.Common.{◌+◌, ◌-◌, arith, ap, length}
use Rattle.std.proofs.lemmas.Slice.{drop-put_mid}
use Rattle.node_layout.proofs.bytes.put_array.Goals as goal

pub returns-clause-rest : goal.returns-clause-rest
returns-clause-rest g c =
    let same = ap length c.copy_from_slice.ensures.after in
    drop-put_mid c.args.at (c.args.at + g.row.N - c.args.at) c.args.bytes.now c.copy_from_slice.new.self (c.args.at + g.row.N) (omega arith) (omega arith) (omega arith)
