-- What contracts see of a trusted file's fields.
use Rattle.trusted_chunks.specs.State.{FileState}
use Rattle.trusted_chunks.specs.declared.trusted_file.TrustedFile.TheInside.{Inside}

abbrev pub state_of : Inside → FileState
state_of file = record { name = file.name; size = file.len; hashes = file.hashes.items; kept = file.kept.entries }
