use Rattle.std.proofs.Common.{◌∙◌, ◌++◌, bytes_eq, sym, ap, subst, Some}
use Rattle.std.specs.Map.{lookup}
use Rattle.manifest_model.specs.Names.{normal, behind}
use Rattle.check_policy.specs.Giving.{GivesFile, GivesProtected}
use Rattle.check_policy.proofs.Giving.{file_given, protected_given}
use Rattle.check_policy.proofs.resolving.given.Goals as goal

pub returns-in-Chroot : goal.returns-in-Chroot
returns-in-Chroot c = λ parts text.
    let name = c.as_str-name.result.now in
    file_given c.args.manifest.now.lists.keys c.args.mount.now parts c.host_file.result name c.in-Chroot.is (c.in-Some.is ∙ ap Some (sym c.as_str-name.ensures))
    (subst (λ t. GivesFile (normal (name ++ t)) c.host_file.result) text c.host_file.ensures)

pub returns-in-Encrypted : goal.returns-in-Encrypted
returns-in-Encrypted c = λ parts text.
    let name = c.as_str-name.result.now in
    let keys = c.args.manifest.now.lists.keys in
    protected_given keys c.args.mount.now parts c.protected.result name c.in-Encrypted.is (c.in-Some.is ∙ ap Some (sym c.as_str-name.ensures))
    (subst (λ k. GivesProtected (lookup (bytes_eq k) keys) k (normal (name ++ behind parts)) c.protected.result) c.as_str.ensures
    (subst (λ t. GivesProtected (lookup (bytes_eq c.as_str.result.now) keys) c.as_str.result.now (normal (name ++ t)) c.protected.result) text c.protected.ensures))
