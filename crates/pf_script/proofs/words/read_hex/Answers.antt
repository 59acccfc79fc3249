use Rattle.std.proofs.Common.{rules, ◌≡◌, length}
use Rattle.pf_script.proofs.Wording.{no_hex, some_hex}
use Rattle.pf_script.proofs.words.read_hex.Goals as goal

pub returns-then-is_empty : goal.returns-then-is_empty
returns-then-is_empty c =
    let none : length c.args.word.now ≡ 0 = search rules in
    λ bytes is. no_hex c.args.word.now bytes none is

pub returns-in-Ok : goal.returns-in-Ok
returns-in-Ok c =
    let some : ¬ (length c.args.word.now ≡ 0) = search rules in
    some_hex c.args.word.now c.into.result c.in-Ok.bytes.items some c.in-Ok.ensures.ok c.into.ensures
