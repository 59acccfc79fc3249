-- What the search holds.
use Rattle.std.specs.Prelude.{ℕ, List, Option, option_map}
use Rattle.manifest_model.specs.declared.entries.Mount.{Mount}
use Rattle.check_policy.specs.declared.seeking.Serving.{Serving}

-- the mount that was found, and the text of the rest
abbrev pub seen : Option Serving → Option (Mount × List ℕ)
seen found = option_map (λ s. (s.mount.now, s.rest.now)) found
