-- The walk of a whole table: which value is refused wherever it stands.
use Rattle.std.specs.Prelude.{ℕ, ◌+◌, nat_lt, if◌then◌else◌, List, [], ◌++◌, codes, Option, None}
use Rattle.std.specs.Option.{option_or}
use Rattle.toml.specs.Data.{Data, string, integer, float, boolean, datetime, array, table, Items, no_items, item, Members, no_members, member}
use Rattle.manifest_model.specs.declared.fault.ManifestFault.{ManifestFault}
use Rattle.manifest_model.specs.Places.{at_item, bad_field}

-- how deep a value may stand: the values of the top table have depth 1, and each table or list adds one
abbrev pub DEEPEST : ℕ
DEEPEST = 32

abbrev pub too_deep : ℕ → List ℕ → Option ManifestFault
too_deep depth place = if nat_lt DEEPEST depth then bad_field place else None

-- The first value at a depth and a place, or inside of it, that is a float or a date-time or stands too deep: a value
-- before what it holds, items in order, and keys in the order in which a table has them, which is that of their bytes in
-- each table that was read (`keys_rise` of `Manifest::read`). `prefix` is what stands before a key in its place.
abbrev mutual
  pub walk : ℕ → List ℕ → Data → Option ManifestFault
  walk depth place (string s) = too_deep depth place
  walk depth place (integer z) = too_deep depth place
  walk depth place (float x) = bad_field place
  walk depth place (boolean b) = too_deep depth place
  walk depth place (datetime t) = bad_field place
  walk depth place (array ds) = option_or (too_deep depth place) (walk_items (depth + 1) place 0 ds)
  walk depth place (table ms) = option_or (too_deep depth place) (walk_members (depth + 1) (place ++ codes ".") ms)

  pub walk_items : ℕ → List ℕ → ℕ → Items → Option ManifestFault
  walk_items depth place k no_items = None
  walk_items depth place k (item d ds) = option_or (walk depth (at_item place k) d) (walk_items depth place (k + 1) ds)

  pub walk_members : ℕ → List ℕ → Members → Option ManifestFault
  walk_members depth prefix no_members = None
  walk_members depth prefix (member key d ms) = option_or (walk depth (prefix ++ key) d) (walk_members depth prefix ms)

-- the first refusal of the walk of a whole table
abbrev pub walk_table : Members → Option ManifestFault
walk_table ms = walk_members 1 [] ms
