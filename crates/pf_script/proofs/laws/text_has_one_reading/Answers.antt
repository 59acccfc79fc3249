use Rattle.pf_script.proofs.OneReading.{line_one}
use Rattle.pf_script.proofs.laws.text_has_one_reading.Goals as goal

pub returns : goal.returns
returns c = line_one
