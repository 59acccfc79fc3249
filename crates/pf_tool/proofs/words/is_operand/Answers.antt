use Rattle.std.proofs.Common.{arith}
use Rattle.pf_tool.proofs.Lists.{operand_told}
use Rattle.pf_tool.proofs.words.is_operand.Goals as goal

pub returns-else-word-lt2 : goal.returns-else-word-lt2
returns-else-word-lt2 c = operand_told c.as_bytes.result.now c.args.word.now c.as_bytes.ensures.value (omega (arith, c.if-word-lt2.false))
