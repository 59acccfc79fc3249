use Rattle.std.proofs.Common.{[], ◌∷◌, refl, codes}
use Rattle.template_text.specs.declared.fault.RenderFault.TheVariants as faults
use Rattle.template_text.specs.Parts.{Copied, Value, Statement, Unclosed, opens, closes_value, closes_comment, closes_statement, ends_raw, without_blanks, before_blanks}
use Rattle.template_text.proofs.Checking.{none_in, is_nil, is_unclosed, is_part, are_placed, added, both, written, faults_at, faults_placed, raw_unclosed, bad_name, no_pair}
use Rattle.template_text.proofs.Joining.{name_test}
use Rattle.template_text.specs.Rendering.{value_of}
use Rattle.template_text.specs.Examples.{values}
use Rattle.template_text.proofs.examples.refusals.Goals as goal

pub returns : goal.returns
unfolding opens closes_value closes_comment closes_statement ends_raw without_blanks before_blanks none_in is_nil is_unclosed is_part are_placed added both written name_test
returns c = record {
  unknown = faults_at values (codes "a {{ x }}") (codes "a ") (Copied (codes "a ") ∷ []) (Value (codes " x ")) [] (faults.Unknown 2 (codes "x")) refl refl refl refl (no_pair (value_of values) 2 (codes " x ") refl refl);
  statement = faults_at values (codes "{% for i in x %}") [] [] (Statement (codes " for i in x ")) [] (faults.Statement 0) refl refl refl refl refl;
  endraw_alone = faults_at values (codes "a{% endraw %}") (codes "a") (Copied (codes "a") ∷ []) (Statement (codes " endraw ")) [] (faults.Statement 1) refl refl refl refl refl;
  unclosed = faults_at values (codes "{{ a") [] [] (Unclosed (codes "{{ a")) [] (faults.Unclosed 0) refl refl refl refl refl;
  unclosed_comment = faults_at values (codes "{{a}}{#}") (codes "1") (Value (codes "a") ∷ []) (Unclosed (codes "{#}")) [] (faults.Unclosed 5) refl refl refl refl refl;
  unclosed_raw = faults_placed values (codes "{%raw%}{% endraw") [] [] (Unclosed (codes "{%raw%}{% endraw")) [] (faults.Unclosed 0) refl (raw_unclosed (codes "raw") (codes "{% endraw") refl refl refl) refl refl refl;
  no_name = faults_at values (codes "{{ a + b }}") [] [] (Value (codes " a + b ")) [] (faults.BadName 0) refl refl refl refl (bad_name (value_of values) 0 (codes " a + b ") refl);
  first_of_two = faults_at values (codes "{{ 9 }}{{ x }}") [] [] (Value (codes " 9 ")) (Value (codes " x ") ∷ []) (faults.BadName 0) refl refl refl refl (bad_name (value_of values) 0 (codes " 9 ") refl);
}
