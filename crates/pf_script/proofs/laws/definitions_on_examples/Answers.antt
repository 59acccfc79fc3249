use Rattle.std.proofs.Common.{◌≡◌, List, ℕ, ◌++◌, codes, refl, sym, ap, arith, get_or}
use Rattle.std.proofs.lemmas.Fmt.{decimal_digit}
use Rattle.pf_io.specs.Disk.{Name}
use Rattle.pf_script.specs.Replies.{ended}
use Rattle.pf_script.specs.declared.command.Command.TheVariants as commands
use Rattle.pf_script.specs.ScriptLines.{Worded}
use Rattle.pf_script.proofs.laws.definitions_on_examples.Goals as goal

pub returns-clause-line : goal.returns-clause-line
returns-clause-line c = record {
  not_long = omega arith;
  form = Worded commands.Read (codes "0 6 1") refl (record {
    seat = 0;
    behind_seat = codes "6 1";
    at = 6;
    behind_at = codes "1";
    count = 1;
    seat_is = record { word = codes "0"; form = refl; seat_is = record { digit = refl; below = omega arith } };
    at_is = record { word = codes "6"; form = refl; number_is = record { digits = sym (decimal_digit 6 (omega arith)); fits = omega arith } };
    count_is = record { digits = sym (decimal_digit 1 (omega arith)); fits = omega arith };
    line_is = refl;
  });
}

pub returns-clause-reply : goal.returns-clause-reply
returns-clause-reply c = ap (λ (d : List ℕ). ended (codes "ok write " ++ d ++ codes " flushed")) (decimal_digit 5 (omega arith))

pub returns-clause-flushes : goal.returns-clause-flushes
returns-clause-flushes c = refl

pub returns-clause-old_name : goal.returns-clause-old_name
returns-clause-old_name c = refl

pub returns-clause-new_name : goal.returns-clause-new_name
returns-clause-new_name c = refl

pub returns-clause-freed : goal.returns-clause-freed
returns-clause-freed c = refl

pub returns-clause-absent : goal.returns-clause-absent
returns-clause-absent c = refl

pub returns-clause-present : goal.returns-clause-present
returns-clause-present c = refl

pub returns-clause-closes : goal.returns-clause-closes
returns-clause-closes c = refl

pub returns-clause-moves : goal.returns-clause-moves
returns-clause-moves c = (refl, refl)

pub returns-clause-flushes_itself : goal.returns-clause-flushes_itself
returns-clause-flushes_itself c = refl

pub returns-clause-no_other : goal.returns-clause-no_other
returns-clause-no_other c both =
    let same : 97 ≡ 98 = ap (λ (name : Name). get_or name 0 0) both.0 in
    omega (arith, same)
