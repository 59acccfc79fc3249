-- What a mount gives, as a function.
use Rattle.std.proofs.Common.{◌≡◌, ◌∙◌, ◌⊎◌, inl, inr, ℕ, ◌<◌, ◌≤◌, nat_le, Bool, true, false, List, length, bytes_eq, Option, Some, None, Result, Ok, Err, refl, sym, ap, arith}
use Rattle.std.specs.Map.{lookup}
use Rattle.std.proofs.lemmas.Bool.Decides.{nat_tests}
use Rattle.pf_io.specs.Names.{LONGEST}
use Rattle.manifest_model.specs.declared.entries.Mount.{Mount}
use Rattle.manifest_model.specs.declared.entries.MountKind.{MountKind}
use Rattle.manifest_model.specs.declared.entries.MountKind.TheVariants.{Chroot, Encrypted, Other}
use Rattle.manifest_model.specs.Names.{uri_of}
use Rattle.check_policy.specs.declared.place.Place.{Place}
use Rattle.check_policy.specs.declared.place.Place.TheVariants as places
use Rattle.check_policy.specs.declared.place.ResolveFault.{ResolveFault}
use Rattle.check_policy.specs.declared.place.ResolveFault.TheVariants as faults
use Rattle.check_policy.specs.Places.{given_by, host_name, Gives, NoFile, TooLong, IsHostFile, IsProtected, LacksKey}
use Rattle.check_policy.specs.Giving.{NamesHost, NameLacksMemory, NameTooLong, NameFits, GivesFile, FileLacksMemory, FileTooLong, FileFits, GivesProtected, ProtectedLacksMemory, ProtectedTooLong, ProtectedLacksKey, ProtectedFits}

abbrev Outcome : Type 0
Outcome = Result Place ResolveFault

fits : List ℕ → Bool
fits host = nat_le (length host) LONGEST

fits_short : (host : List ℕ) → length host ≤ LONGEST → fits host ≡ true
unfolding fits
fits_short host l = grind (arith, nat_tests, l)

fits_long : (host : List ℕ) → LONGEST < length host → fits host ≡ false
unfolding fits
fits_long host l = grind (arith, nat_tests, l)

short_fits : (host : List ℕ) → fits host ≡ true → length host ≤ LONGEST
unfolding fits
short_fits host l = grind (arith, nat_tests, l)

long_fits : (host : List ℕ) → fits host ≡ false → LONGEST < length host
unfolding fits
long_fits host l = grind (arith, nat_tests, l)

abbrev key_end : Option (List ℕ) → List ℕ → List ℕ → Outcome
key_end (Some key) key_name host = Ok (places.Protected host key)
key_end None key_name host = Err (faults.NoKey key_name)

abbrev end_by : MountKind → Bool → Option (List ℕ) → List ℕ → List ℕ → Outcome
end_by Other fit key key_name host = Ok places.Nothing
end_by Chroot false key key_name host = Err faults.BadPath
end_by Chroot true key key_name host = Ok (places.HostFile (uri_of host) host)
end_by Encrypted false key key_name host = Err faults.BadPath
end_by Encrypted true key key_name host = key_end key key_name host

abbrev end_of : MountKind → Option (List ℕ) → Option (List ℕ) → List ℕ → List (List ℕ) → Outcome
end_of kind None key key_name rest = Ok places.Nothing
end_of kind (Some name) key key_name rest = end_by kind (fits (host_name name rest)) key key_name (host_name name rest)

no_file : (kind : MountKind) (name key : Option (List ℕ)) (key_name : List ℕ) (rest : List (List ℕ)) → given_by kind name ≡ None → end_of kind name key key_name rest ≡ Ok places.Nothing
no_file kind None key key_name rest e = refl
no_file Chroot (Some name) key key_name rest e = absurd (cc)
no_file Encrypted (Some name) key key_name rest e = absurd (cc)
no_file Other (Some name) key key_name rest e = refl

too_long : (kind : MountKind) (given key : Option (List ℕ)) (key_name name : List ℕ) (rest : List (List ℕ)) → given_by kind given ≡ Some name → fits (host_name name rest) ≡ false → end_of kind given key key_name rest ≡ Err faults.BadPath
too_long Chroot None key key_name name rest e l = absurd (cc)
too_long Encrypted None key key_name name rest e l = absurd (cc)
too_long Other None key key_name name rest e l = absurd (cc)
too_long Chroot (Some given) key key_name name rest e l = let same : given ≡ name = cc in rw (same, l) refl
too_long Encrypted (Some given) key key_name name rest e l = let same : given ≡ name = cc in rw (same, l) refl
too_long Other (Some given) key key_name name rest e l = absurd (cc)

module _ (keys : List (List ℕ × List ℕ)) (mount : Mount) (rest : List (List ℕ)) where
  pub given_end : Outcome
  given_end = end_of mount.kind mount.name (lookup (bytes_eq mount.key_name) keys) mount.key_name rest

  ends : (outcome : Outcome) → Gives keys mount rest outcome → outcome ≡ given_end
  unfolding given_end
  ends outcome (NoFile none e) = e ∙ sym (no_file mount.kind mount.name (lookup (bytes_eq mount.key_name) keys) mount.key_name rest none)
  ends outcome (TooLong name given l e) = e ∙ sym (too_long mount.kind mount.name (lookup (bytes_eq mount.key_name) keys) mount.key_name name rest given (fits_long (host_name name rest) l))
  ends outcome (IsHostFile name kind named l e) = rw (kind, named, fits_short (host_name name rest) l) e
  ends outcome (IsProtected name key kind named l found e) = rw (kind, named, fits_short (host_name name rest) l, found) e
  ends outcome (LacksKey name kind named l found e) = rw (kind, named, fits_short (host_name name rest) l, found) e

  -- a mount gives one outcome
  pub gives_one : (a b : Outcome) → Gives keys mount rest a → Gives keys mount rest b → a ≡ b
  gives_one a b x y = ends a x ∙ sym (ends b y)

  there_by : (kind : MountKind) (name key : Option (List ℕ)) (fit : List ℕ → Bool) → mount.kind ≡ kind → mount.name ≡ name → lookup (bytes_eq mount.key_name) keys ≡ key → ((host : List ℕ) → fits host ≡ fit host) → (outcome : Outcome) × Gives keys mount rest outcome
  there_by Other name key fit k n f same = (Ok places.Nothing, NoFile (ap (λ x. given_by x mount.name) k) refl)
  there_by Chroot None key fit k n f same = (Ok places.Nothing, NoFile (λ i. given_by (k i) (n i)) refl)
  there_by Encrypted None key fit k n f same = (Ok places.Nothing, NoFile (λ i. given_by (k i) (n i)) refl)
  there_by Chroot (Some name) key fit k n f same = chroot name k n (fits (host_name name rest)) refl where
    chroot : (name : List ℕ) → mount.kind ≡ Chroot → mount.name ≡ Some name → (fit : Bool) → fits (host_name name rest) ≡ fit → (outcome : Outcome) × Gives keys mount rest outcome
    chroot name k n false l = (Err faults.BadPath, TooLong name (λ i. given_by (k i) (n i)) (long_fits (host_name name rest) l) refl)
    chroot name k n true l = (Ok (places.HostFile (uri_of (host_name name rest)) (host_name name rest)), IsHostFile name k n (short_fits (host_name name rest) l) refl)
  there_by Encrypted (Some name) key fit k n f same = encrypted name k n (fits (host_name name rest)) refl key f where
    encrypted : (name : List ℕ) → mount.kind ≡ Encrypted → mount.name ≡ Some name → (fit : Bool) → fits (host_name name rest) ≡ fit → (key : Option (List ℕ)) → lookup (bytes_eq mount.key_name) keys ≡ key → (outcome : Outcome) × Gives keys mount rest outcome
    encrypted name k n false l key f = (Err faults.BadPath, TooLong name (λ i. given_by (k i) (n i)) (long_fits (host_name name rest) l) refl)
    encrypted name k n true l (Some key) f = (Ok (places.Protected (host_name name rest) key), IsProtected name key k n (short_fits (host_name name rest) l) f refl)
    encrypted name k n true l None f = (Err (faults.NoKey mount.key_name), LacksKey name k n (short_fits (host_name name rest) l) f refl)

  pub gives_some : (outcome : Outcome) × Gives keys mount rest outcome
  gives_some = there_by mount.kind mount.name (lookup (bytes_eq mount.key_name) keys) fits refl refl refl (λ host. refl)

  -- what the steps answer is what the mount gives
  pub file_given : (result : Outcome) (name : List ℕ) → mount.kind ≡ Chroot → mount.name ≡ Some name → GivesFile (host_name name rest) result → (result ≡ Err faults.Memory) ⊎ Gives keys mount rest result
  file_given result name k n (FileLacksMemory e) = inl e
  file_given result name k n (FileTooLong l e) = inr (TooLong name (λ i. given_by (k i) (n i)) l e)
  file_given result name k n (FileFits l e) = inr (IsHostFile name k n l e)

  pub protected_given : (result : Outcome) (name : List ℕ) → mount.kind ≡ Encrypted → mount.name ≡ Some name → GivesProtected (lookup (bytes_eq mount.key_name) keys) mount.key_name (host_name name rest) result
      → (result ≡ Err faults.Memory) ⊎ Gives keys mount rest result
  protected_given result name k n (ProtectedLacksMemory e) = inl e
  protected_given result name k n (ProtectedTooLong l e) = inr (TooLong name (λ i. given_by (k i) (n i)) l e)
  protected_given result name k n (ProtectedLacksKey l f e) = inr (LacksKey name k n l f e)
  protected_given result name k n (ProtectedFits key l f e) = inr (IsProtected name key k n l f e)

-- a name on the host that fits, with its key
pub protected_fits : (found : Option (List ℕ)) (key_name host made key : List ℕ) → NamesHost host (Ok made) → found ≡ Some key → GivesProtected found key_name host (Ok (places.Protected made key))
protected_fits found key_name host made key (NameLacksMemory e) f = absurd (cc)
protected_fits found key_name host made key (NameTooLong l e) f = absurd (cc)
protected_fits found key_name host made key (NameFits l e) f = let same : made ≡ host = cc in ProtectedFits key l f (ap (λ h. Ok (places.Protected h key)) same)
