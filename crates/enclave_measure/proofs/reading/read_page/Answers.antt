use Rattle.std.proofs.Common.{◌∙◌, ap}
use Rattle.enclave_measure.specs.Lines.{words_of}
use Rattle.enclave_measure.specs.Words.{shown}
use Rattle.enclave_measure.proofs.Forming.{page_of_line}
use Rattle.enclave_measure.proofs.reading.read_page.Goals as goal

pub returns : goal.returns
returns c = page_of_line (words_of c.args.line.now) (shown c.as_slice.result.now) c.page_of.result (ap shown c.as_slice.ensures.value ∙ c.in_ok-words.ensures) c.page_of.ensures
