use Rattle.std.proofs.Common.{[], ◌∷◌, refl, codes}
use Rattle.template_text.specs.Parts.{Value, Raw, opens, closes_value, closes_comment, closes_statement, ends_raw, without_blanks, before_blanks}
use Rattle.template_text.proofs.Checking.{none_in, is_nil, is_unclosed, is_part, are_placed, added, both, written, gives}
use Rattle.template_text.proofs.Joining.{name_test}
use Rattle.template_text.specs.Examples.{values}
use Rattle.template_text.proofs.examples.raw_text.Goals as goal

pub returns : goal.returns
unfolding opens closes_value closes_comment closes_statement ends_raw without_blanks before_blanks none_in is_nil is_unclosed is_part are_placed added both written name_test
returns c = record {
  marks = gives values (codes "{% raw %}{{ a }}{#{% endraw %}{{a}}") (codes "{{ a }}{#1") (Raw (codes " raw ") (codes "{{ a }}{#") (codes " endraw ") ∷ Value (codes "a") ∷ []) refl refl refl refl;
  tight = gives values (codes "{%raw%}{%endraw%}") [] (Raw (codes "raw") [] (codes "endraw") ∷ []) refl refl refl refl;
  other_statement = gives values (codes "{%raw%}{% endraw {%endraw %}") (codes "{% endraw ") (Raw (codes "raw") (codes "{% endraw ") (codes "endraw ") ∷ []) refl refl refl refl;
}
