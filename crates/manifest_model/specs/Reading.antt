-- What the code takes from a table.
use Rattle.std.specs.Prelude.{◌≡◌, ℕ, List, Option, codes, option_and_then}
use Rattle.toml.specs.Data.{Members, as_str, get, get_member}
use Rattle.manifest_model.specs.declared.listing.Taken.{Taken}
use Rattle.manifest_model.specs.Listed.{sgx, fs, policy_of, trusted_of, allowed_of, mounting_of}
use Rattle.manifest_model.specs.Fields.{bytes_of}

pub record IsTaken (ms : Members) (taken : Taken) : Type 0 where
  pub policy : taken.policy ≡ policy_of (sgx ms)
  pub trusted : taken.trusted.items ≡ trusted_of (sgx ms)
  pub allowed : taken.allowed.items ≡ allowed_of (sgx ms)
  pub mounts : taken.mounts.items ≡ mounting_of (fs ms)

-- the key of a name, looked up in the table
abbrev pub key_at : List ℕ → Members → Option (List ℕ)
key_at name ms = option_and_then (λ fs. option_and_then (λ keys. option_and_then (λ d. option_and_then (bytes_of 16) (as_str d)) (get name keys)) (get (codes "insecure__keys") fs)) (get_member (codes "fs") ms)
