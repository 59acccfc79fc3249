use Rattle.manifest_model.proofs.Naming.{is_name-IsName}
use Rattle.manifest_model.proofs.names.names_file.Goals as goal

pub returns : goal.returns
returns c = is_name-IsName c.is_name.result c.args.name.now c.is_name.ensures
