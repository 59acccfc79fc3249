use Rattle.std.proofs.Common.{◌≡◌, ◌∙◌, ap, sym, subst, List, Option, Some}
use Rattle.std.specs.Prelude.{filter, not, option_map}
use Rattle.pf_io.specs.Disk.{Name}
use Rattle.pf_io.specs.Storage.{named, stored_of, Sets}
use Rattle.pf_io.specs.declared.storage.Entry.{Entry}
use Rattle.pf_io.specs.declared.storage.StoredFile.{StoredFile}
use Rattle.pf_io.proofs.Stored.{sets_some, sets_none}
use Rattle.pf_io.proofs.mem_calls.set_file.Goals as goal

pub returns-in_ok-push-2-clause-sets : goal.returns-in_ok-push-2-clause-sets
returns-in_ok-push-2-clause-sets c =
    let entry : Entry = record { name = c.in_ok-copy.copy; file = c.in-Some.file } in
    let name_is : c.in_ok-copy.copy.items ≡ c.args.name.now = c.in_ok-copy.ensures.copy in
    subst (λ (o : Option StoredFile). Sets c.args.name.now (option_map stored_of o) c.args.files.now.items c.push-in-Some.new.self.items) (sym c.in-Some.is)
    (subst (λ (n : Name). Sets n (Some (stored_of c.in-Some.file)) c.args.files.now.items c.push-in-Some.new.self.items) name_is
    (sets_some c.args.files.now.items c.remove_all.new.files.items c.push-in-Some.new.self.items entry
    (c.remove_all.ensures.filtered
    ∙ ap (λ (l : List Entry). filter (λ one. not (named c.args.name.now one)) l) c.room_for.ensures.same
    ∙ ap (λ (n : Name). filter (λ one. not (named n one)) c.args.files.now.items) (sym name_is))
    c.in_ok-push-2.ensures.items))

pub returns-in_default-clause-sets : goal.returns-in_default-clause-sets
returns-in_default-clause-sets c =
    subst (λ (o : Option StoredFile). Sets c.args.name.now (option_map stored_of o) c.args.files.now.items c.remove_all.new.files.items) (sym c.in_default.is)
    (sets_none c.args.files.now.items c.remove_all.new.files.items c.args.name.now
    (c.remove_all.ensures.filtered
    ∙ ap (λ (l : List Entry). filter (λ one. not (named c.args.name.now one)) l) c.room_for.ensures.same))
