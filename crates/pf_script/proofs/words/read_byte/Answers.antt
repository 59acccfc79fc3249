use Rattle.pf_script.proofs.Wording.{refused_byte}
use Rattle.pf_script.proofs.words.read_byte.Goals as goal

pub returns-in-Err : goal.returns-in-Err
returns-in-Err c = λ byte is. refused_byte c.args.word.now c.decode_to_slice.new.out c.decode_to_slice.result c.in-Err.field-0 byte c.in-Err.is c.decode_to_slice.ensures.value is
