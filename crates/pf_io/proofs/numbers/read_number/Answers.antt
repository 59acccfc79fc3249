use Rattle.std.proofs.Common.{refl}
use Rattle.std.proofs.lemmas.Bool.{false≢true}
use Rattle.pf_io.proofs.Numbering.{none_some, plain_from_number, utf8_from_number, parses_number}
use Rattle.pf_io.proofs.numbers.read_number.Goals as goal

-- src/numbers.rt:22:9
pub returns-then-not-is_plain : goal.returns-then-not-is_plain
returns-then-not-is_plain c = record { number = λ n. (λ none. absurd (none_some n none), λ spells. absurd (false≢true (c.if-not-is_plain.ensures.1 (plain_from_number c.args.text.now n spells)))) }

-- src/numbers.rt:18:1
pub returns-in-Ok : goal.returns-in-Ok
returns-in-Ok c = record { number = parses_number c.args.text.now c.in-Ok.text.now c.parse.result c.ok.result (c.if-not-is_plain.ensures.0 refl) c.in-Ok.ensures.cases.0 c.parse.ensures.value.0 c.ok.ensures.value }

-- src/numbers.rt:18:1
pub returns-in-Err : goal.returns-in-Err
returns-in-Err c = record { number = λ n. (λ none. absurd (none_some n none), λ spells. absurd (c.in-Err.ensures.cases.0 (utf8_from_number c.args.text.now n spells))) }
