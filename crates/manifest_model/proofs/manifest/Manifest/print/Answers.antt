use Rattle.std.proofs.Common.{◌≡◌, ◌∙◌, string_bytes, sym, ap, refl}
use Rattle.std.proofs.lemmas.Bool.{false≢true}
use Rattle.std.proofs.lemmas.Str.{IsUtf8-string_bytes}
use Rattle.toml.specs.View.{table_view}
use Rattle.manifest_model.specs.Listed.{IsTextOf, lists_of}
use Rattle.manifest_model.proofs.Accepted.{depth_of, dates_of}
use Rattle.manifest_model.proofs.Deciding.{listed_read}
use Rattle.manifest_model.proofs.manifest.Manifest.print.Goals as goal

pub unreachable-requires : goal.unreachable-requires
unreachable-requires c =
    let invalid = c.in-Err-DateInvalid.ensures.dates.0 (rw c.in-Err-DateInvalid.field-0-is refl) in
    absurd (false≢true (sym invalid ∙ dates_of (table_view c.self.inside.table) c.self.invariant.0))

pub returns-in-Ok : goal.returns-in-Ok
returns-in-Ok c =
    let ms = table_view c.self.inside.table in
    let read = c.in-Ok.ensures.reads_back (depth_of ms c.self.invariant.0) in
    let is_text : IsTextOf (string_bytes c.in-Ok.text) ms = record { utf8 = IsUtf8-string_bytes c.in-Ok.text; toml = read } in
    let whole : c.args.self.now.«table» ≡ ms = ap (λ s. s.«table») (sym c.self.view_is) in
    let lists : c.args.self.now.lists ≡ lists_of ms = ap (λ s. s.lists) (sym c.self.view_is) ∙ c.self.invariant.1 in
    record {
      text = rw (c.from.ensures, whole) is_text;
      reads = rw c.from.ensures (listed_read (string_bytes c.in-Ok.text) ms c.args.self.now is_text c.self.invariant.0 whole lists);
    }
