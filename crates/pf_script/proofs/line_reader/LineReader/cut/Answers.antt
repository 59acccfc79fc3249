use Rattle.std.proofs.Common.{refl}
use Rattle.pf_script.proofs.Parts.{cut_long, cut_line}
use Rattle.pf_script.proofs.line_reader.LineReader.cut.Goals as goal

pub returns-then-long : goal.returns-then-long
returns-then-long c =
    let r = c.self.inside in
    rw c.if-long.true (refl, cut_long c.args.self.now _ r.reads r.stage r.buffer.items r.start r.end c.args.at c.self.view_is c.requires)

pub returns : goal.returns
returns c =
    let r = c.self.inside in
    rw c.if-long.false (refl, cut_line c.args.self.now _ r.reads r.stage r.buffer.items r.start r.end c.args.at c.self.view_is c.requires)
