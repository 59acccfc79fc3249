use Rattle.std.proofs.Common.{[], ◌∷◌, ◌++◌, refl, codes}
use Rattle.template_text.specs.Parts.{Copied, Value, Comment, opens, closes_value, closes_comment, closes_statement, ends_raw, without_blanks, before_blanks}
use Rattle.template_text.proofs.Checking.{none_in, is_nil, is_unclosed, is_part, are_placed, added, both, written, gives}
use Rattle.template_text.proofs.Joining.{name_test}
use Rattle.template_text.specs.Examples.{values}
use Rattle.template_text.proofs.examples.values_and_comments.Goals as goal

pub returns : goal.returns
unfolding opens closes_value closes_comment closes_statement ends_raw without_blanks before_blanks none_in is_nil is_unclosed is_part are_placed added both written name_test
returns c = record {
  empty = gives values [] [] [] refl refl refl refl;
  braces_behind = gives values (codes "{{ a }}}") (codes "1}") (Value (codes " a ") ∷ Copied (codes "}") ∷ []) refl refl refl refl;
  blanks = gives values (codes "{{" ++ 9 ∷ 13 ∷ 10 ∷ codes "a}}{ {") (codes "1{ {") (Value (9 ∷ 13 ∷ 10 ∷ codes "a") ∷ Copied (codes "{ {") ∷ []) refl refl refl refl;
  called = gives values (codes "x{{f()}}") (codes "x{{ a }}{%") (Copied (codes "x") ∷ Value (codes "f()") ∷ []) refl refl refl refl;
  marks_in_comment = gives values (codes "{# {{ a }}{% #}#}") (codes "#}") (Comment (codes " {{ a }}{% ") ∷ Copied (codes "#}") ∷ []) refl refl refl refl;
}
