-- A table of open files by name.
use Rattle.std.specs.Prelude.{ℕ, Bool, List, bytes_eq, string_bytes}
use Rattle.pf_io.specs.declared.open_files.OpenFile.{OpenFile}

abbrev pub named : List ℕ → OpenFile → Bool
named name open_file = bytes_eq (string_bytes open_file.name) name
