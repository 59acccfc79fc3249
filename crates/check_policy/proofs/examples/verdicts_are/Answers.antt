use Rattle.std.proofs.Common.{refl, codes}
use Rattle.manifest_model.specs.declared.entries.Policy.TheVariants.{AllowAllButLog}
use Rattle.check_policy.specs.Examples.{realistic, sum_of_abc}
use Rattle.check_policy.specs.Verdicts.{WithSum}
use Rattle.check_policy.proofs.Judging.{without_sum, is_allowed, is_logged, is_denied}
use Rattle.check_policy.proofs.examples.verdicts_are.Goals as goal

pub returns : goal.returns
returns c = record {
  hello = WithSum sum_of_abc refl refl;
  notes = is_allowed realistic (codes "file:app/notes") refl refl;
  other = is_denied realistic (codes "file:app/other") refl refl refl;
  logged = is_logged (record realistic { policy = AllowAllButLog }) (codes "file:app/other") refl refl refl;
  library = without_sum realistic (codes "file:/opt/gramine/libsysdb.so") refl refl;
  not_normal = is_denied realistic (codes "file:./app/hello") refl refl refl;
}
