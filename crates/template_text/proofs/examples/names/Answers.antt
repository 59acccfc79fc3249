use Rattle.std.proofs.Common.{◌≡◌, ℕ, List, [], false, refl, codes}
use Rattle.std.proofs.lemmas.Bool.{both_ways}
use Rattle.template_text.specs.Names.{IsValueName}
use Rattle.template_text.proofs.Joining.{name_test, name_of_test, test_of_name}
use Rattle.template_text.proofs.examples.names.Goals as goal

refused : (name : List ℕ) → name_test name ≡ false → IsValueName name → ⊥
refused name other is = both_ways _ other (test_of_name name is)

pub returns : goal.returns
unfolding name_test
returns c = record {
  parts = name_of_test (codes "gramine.libos") refl;
  call = name_of_test (codes "_x9.f()") refl;
  digit_first = refused (codes "9a") refl;
  empty_part = refused (codes "a..b") refl;
  empty = refused [] refl;
  call_alone = refused (codes "()") refl;
  call_twice = refused (codes "a()()") refl;
  sign = refused (codes "a + b") refl;
}
