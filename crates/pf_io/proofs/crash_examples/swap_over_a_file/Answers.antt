use Rattle.pf_io.proofs.Exemplified.{swap_leaves}
use Rattle.pf_io.proofs.crash_examples.swap_over_a_file.Goals as goal

pub returns-clause-nothing_else : goal.returns-clause-nothing_else
returns-clause-nothing_else c = swap_leaves
