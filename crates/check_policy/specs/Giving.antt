-- What the steps of resolving a path answer.
use Rattle.std.specs.Prelude.{◌≡◌, ℕ, ◌<◌, ◌≤◌, List, length, Option, Some, None, Result, Ok, Err}
use Rattle.pf_io.specs.Names.{LONGEST}
use Rattle.manifest_model.specs.Names.{uri_of}
use Rattle.check_policy.specs.declared.place.Place.{Place}
use Rattle.check_policy.specs.declared.place.Place.TheVariants as places
use Rattle.check_policy.specs.declared.place.ResolveFault.{ResolveFault}
use Rattle.check_policy.specs.declared.place.ResolveFault.TheVariants as faults

-- a name on the host, within its limit
pub data NamesHost (host : List ℕ) (result : Result (List ℕ) ResolveFault) : Type 0 where
  NameLacksMemory : result ≡ Err faults.Memory → NamesHost host result
  NameTooLong : LONGEST < length host → result ≡ Err faults.BadPath → NamesHost host result
  NameFits : length host ≤ LONGEST → result ≡ Ok host → NamesHost host result

pub data GivesFile (host : List ℕ) (result : Result Place ResolveFault) : Type 0 where
  FileLacksMemory : result ≡ Err faults.Memory → GivesFile host result
  FileTooLong : LONGEST < length host → result ≡ Err faults.BadPath → GivesFile host result
  FileFits : length host ≤ LONGEST → result ≡ Ok (places.HostFile (uri_of host) host) → GivesFile host result

pub data GivesProtected (found : Option (List ℕ)) (key_name host : List ℕ) (result : Result Place ResolveFault) : Type 0 where
  ProtectedLacksMemory : result ≡ Err faults.Memory → GivesProtected found key_name host result
  ProtectedTooLong : LONGEST < length host → result ≡ Err faults.BadPath → GivesProtected found key_name host result
  ProtectedLacksKey : length host ≤ LONGEST → found ≡ None → result ≡ Err (faults.NoKey key_name) → GivesProtected found key_name host result
  ProtectedFits : (key : List ℕ) → length host ≤ LONGEST → found ≡ Some key → result ≡ Ok (places.Protected host key) → GivesProtected found key_name host result
