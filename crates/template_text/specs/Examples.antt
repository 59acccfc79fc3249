-- Templates small enough to compute.
use Rattle.std.specs.Prelude.{ℕ, List, [], ◌∷◌, ◌++◌, Ok, Err, codes}
use Rattle.template_text.specs.declared.fault.RenderFault.{RenderFault}
use Rattle.template_text.specs.declared.fault.RenderFault.TheVariants as faults
use Rattle.template_text.specs.Names.{IsValueName}
use Rattle.template_text.specs.Rendering.{Values, RendersTo}

abbrev pub line : List ℕ → List ℕ
line text = text ++ 10 ∷ []

-- a comment, and a value of which the last pair counts; the newline at the end stays
abbrev pub hello_template : List ℕ
hello_template = line (codes "# {# note #}hello") ++ line (codes "libos = \"{{ gramine.libos }}\"")

abbrev pub hello_values : Values
hello_values = (codes "gramine.libos", codes "/a") ∷ (codes "a", codes "1") ∷ (codes "gramine.libos", codes "/b/libsysdb.so") ∷ []

abbrev pub HelloRenders : Type 0
HelloRenders = RendersTo hello_template hello_values (Ok (line (codes "# hello") ++ line (codes "libos = \"/b/libsysdb.so\"")))

-- the value of `f()` has marks, which are not read
abbrev pub values : Values
values = (codes "a", codes "1") ∷ (codes "f()", codes "{{ a }}{%") ∷ []

abbrev pub Gives : List ℕ → List ℕ → Type 0
Gives template text = RendersTo template values (Ok text)

abbrev pub Faults : List ℕ → RenderFault → Type 0
Faults template fault = RendersTo template values (Err fault)

pub record ValuesRender : Type 0 where
  pub empty : Gives [] []
  pub braces_behind : Gives (codes "{{ a }}}") (codes "1}")
  pub blanks : Gives (codes "{{" ++ 9 ∷ 13 ∷ 10 ∷ codes "a}}{ {") (codes "1{ {")
  pub called : Gives (codes "x{{f()}}") (codes "x{{ a }}{%")
  pub marks_in_comment : Gives (codes "{# {{ a }}{% #}#}") (codes "#}")

pub record RawRenders : Type 0 where
  pub marks : Gives (codes "{% raw %}{{ a }}{#{% endraw %}{{a}}") (codes "{{ a }}{#1")
  pub tight : Gives (codes "{%raw%}{%endraw%}") []
  pub other_statement : Gives (codes "{%raw%}{% endraw {%endraw %}") (codes "{% endraw ")

pub record RefusalsRender : Type 0 where
  pub unknown : Faults (codes "a {{ x }}") (faults.Unknown 2 (codes "x"))
  pub statement : Faults (codes "{% for i in x %}") (faults.Statement 0)
  pub endraw_alone : Faults (codes "a{% endraw %}") (faults.Statement 1)
  pub unclosed : Faults (codes "{{ a") (faults.Unclosed 0)
  pub unclosed_comment : Faults (codes "{{a}}{#}") (faults.Unclosed 5)
  pub unclosed_raw : Faults (codes "{%raw%}{% endraw") (faults.Unclosed 0)
  pub no_name : Faults (codes "{{ a + b }}") (faults.BadName 0)
  pub first_of_two : Faults (codes "{{ 9 }}{{ x }}") (faults.BadName 0)

pub record NamesAre : Type 0 where
  pub parts : IsValueName (codes "gramine.libos")
  pub call : IsValueName (codes "_x9.f()")
  pub digit_first : IsValueName (codes "9a") → ⊥
  pub empty_part : IsValueName (codes "a..b") → ⊥
  pub empty : IsValueName [] → ⊥
  pub call_alone : IsValueName (codes "()") → ⊥
  pub call_twice : IsValueName (codes "a()()") → ⊥
  pub sign : IsValueName (codes "a + b") → ⊥
