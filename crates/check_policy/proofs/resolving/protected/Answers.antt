use Rattle.std.proofs.Common.{◌∙◌, ◌++◌, bytes_eq, sym}
use Rattle.std.specs.Map.{lookup}
use Rattle.manifest_model.specs.Names.{normal}
use Rattle.check_policy.proofs.Giving.{protected_fits}
use Rattle.check_policy.proofs.resolving.protected.Goals as goal

pub returns-in-Some : goal.returns-in-Some
returns-in-Some c =
    protected_fits (lookup (bytes_eq c.args.key_name.now) c.args.manifest.now.lists.keys) c.args.key_name.now (normal (c.args.name.now ++ c.args.rest.now)) c.in_ok-host.host c.in-Some.key
    c.in_ok-host.ensures (sym c.key.ensures ∙ c.in-Some.is)
