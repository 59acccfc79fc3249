use Rattle.std.proofs.Common.{◌∙◌, ap, sym}
use Rattle.manifest_model.specs.Names.{name_of}
use Rattle.manifest_model.proofs.Naming.{first_and_others, name_of-behind}
use Rattle.manifest_model.proofs.names.joined.Goals as goal

pub returns-in_ok-push_behind-in-len1-up : goal.returns-in_ok-push_behind-in-len1-up
returns-in_ok-push_behind-in-len1-up c =
    let parts = first_and_others c.args.parts.now _ c.in-len1-up.len_at_least in
    c.in_ok-push_behind-in-len1-up.ensures ∙ rw (c.in_ok-push_str-in-len1-up.ensures.bytes, c.in_ok-name-in-len1-up.ensures.ok, c.lead.ensures) (name_of-behind c.args.absolute _ _ ∙ ap (name_of c.args.absolute) (sym parts))
