use Rattle.pf_io.proofs.Exemplified.{make_leaves}
use Rattle.pf_io.proofs.crash_examples.make_over_a_file.Goals as goal

pub returns : goal.returns
returns c = make_leaves
