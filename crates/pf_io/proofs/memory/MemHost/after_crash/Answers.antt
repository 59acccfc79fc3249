use Rattle.std.proofs.Common.{◌≡◌, ◌∙◌, sym, ap, subst, List, Option}
use Rattle.std.specs.Prelude.{option_map}
use Rattle.pf_io.specs.Disk.{Name}
use Rattle.pf_io.specs.Replay.{Stored}
use Rattle.pf_io.specs.Storage.{look, torn_bytes, IsTorn, events_of, stored_after}
use Rattle.pf_io.specs.Memory.{memory_of}
use Rattle.pf_io.specs.declared.storage.Entry.{Entry}
use Rattle.pf_io.proofs.Crashed.{crash_of, torn_reads}
use Rattle.pf_io.proofs.memory.MemHost.after_crash.Goals as goal

pub returns : goal.returns
returns c =
    let files = c.args.self.files.items in
    let old = events_of c.args.self.told.items in
    let stores : (name : Name) → look c.deref.result.now name ≡ stored_after old name = λ name. ap (λ (l : List Entry). look l name) c.deref.ensures.value ∙ c.args.self.stores name in
    let torn = subst (IsTorn c.args.tear (look c.deref.result.now)) (sym c.unused.ensures.events) c.in_ok-put_torn.ensures.torn in
    record {
      unused = c.unused.ensures.unused;
      torn = λ name. torn_reads c.args.tear (look c.deref.result.now) (memory_of c.unused.result).events torn name ∙ ap (λ (o : Option Stored). option_map (torn_bytes c.args.tear) o) (stores name);
      crash = crash_of c.args.tear (look c.deref.result.now) old (memory_of c.unused.result).events stores torn;
    }
