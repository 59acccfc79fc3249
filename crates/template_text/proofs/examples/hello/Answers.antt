use Rattle.std.proofs.Common.{List, [], ◌∷◌, ◌++◌, refl, codes}
use Rattle.template_text.specs.Parts.{Part, Copied, Value, Comment, opens, closes_value, closes_comment, closes_statement, ends_raw, without_blanks, before_blanks}
use Rattle.template_text.proofs.Checking.{none_in, is_nil, is_unclosed, is_part, are_placed, added, both, written, gives}
use Rattle.template_text.proofs.Joining.{name_test}
use Rattle.template_text.specs.Examples.{line, hello_template, hello_values}
use Rattle.template_text.proofs.examples.hello.Goals as goal

hello_parts : List Part
hello_parts = Copied (codes "# ") ∷ Comment (codes " note ") ∷ Copied (line (codes "hello") ++ codes "libos = \"") ∷ Value (codes " gramine.libos ") ∷ Copied (line (codes "\"")) ∷ []

pub returns : goal.returns
unfolding opens closes_value closes_comment closes_statement ends_raw without_blanks before_blanks none_in is_nil is_unclosed is_part are_placed added both written name_test hello_parts
returns c = gives hello_values hello_template (line (codes "# hello") ++ line (codes "libos = \"/b/libsysdb.so\"")) hello_parts refl refl refl refl
