-- A table with the sums of its trusted files.
use Rattle.std.specs.Prelude.{◌≡◌, ℕ, if◌then◌else◌, List, [], ◌∷◌, codes, Option, Some, None, IfSome, ⊤, length}
use Rattle.hex.specs.Hex.{IsBytes, encode_lower}
use Rattle.toml.specs.Data.{Data, string, array, table, Items, no_items, item, Members, no_members, member, same_key, get_member}
use Rattle.manifest_model.specs.declared.entries.Trusted.{Trusted}
use Rattle.manifest_model.specs.Listed.{sgx}

-- one sum for each entry, which is the listed one where there is one
abbrev pub FitSums : List Trusted → List (List ℕ) → Type 0
FitSums [] [] = ⊤
FitSums [] (sum ∷ sums) = ⊥
FitSums (t ∷ ts) [] = ⊥
FitSums (t ∷ ts) (sum ∷ sums) = IfSome t.sum (λ listed. listed ≡ sum) × FitSums ts sums

-- a SHA-256: 32 bytes
abbrev pub IsSum : List ℕ → Type 0
IsSum sum = (length sum ≡ 32) × IsBytes sum

-- the entries with their sums
abbrev pub with_sums : List Trusted → List (List ℕ) → List Trusted
with_sums [] sums = []
with_sums (t ∷ ts) [] = []
with_sums (t ∷ ts) (sum ∷ sums) = record t { sum = Some sum } ∷ with_sums ts sums

-- a table of exactly a uri and a sum, in lower case
abbrev pub summed_item : List ℕ → List ℕ → Data
summed_item uri sum = table (member (codes "sha256") (string (encode_lower sum)) (member (codes "uri") (string uri) no_members))

-- one for each entry, in their order
abbrev pub summed_items : List Trusted → List (List ℕ) → Items
summed_items [] sums = no_items
summed_items (t ∷ ts) [] = no_items
summed_items (t ∷ ts) (sum ∷ sums) = item (summed_item t.uri sum) (summed_items ts sums)

-- the members, with another value at a key that is among them
abbrev pub replaced : List ℕ → Data → Members → Members
replaced key d no_members = no_members
replaced key d (member other e ms) = if same_key key other then member other d ms else member other e (replaced key d ms)

abbrev pub where_there : {A : Type 0} → Option Data → A → A → A
where_there None absent there = absent
where_there (Some d) absent there = there

-- The table with another list of trusted files, where it has one, and all else as it was.
unfoldable pub with_trusted : Items → Members → Members
with_trusted ds ms = where_there (get_member (codes "trusted_files") (sgx ms)) ms
    (replaced (codes "sgx") (table (replaced (codes "trusted_files") (array ds) (sgx ms))) ms)
