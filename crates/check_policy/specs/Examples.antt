-- What a realistic manifest lists, and where its paths lead.
use Rattle.std.specs.Prelude.{ℕ, List, [], ◌∷◌, Some, None, Ok, codes}
use Rattle.manifest_model.specs.declared.entries.Policy.TheVariants.{Strict, AllowAllButLog}
use Rattle.manifest_model.specs.declared.entries.Mount.{Mount}
use Rattle.manifest_model.specs.declared.entries.MountKind.TheVariants.{Chroot, Encrypted}
use Rattle.manifest_model.specs.Listed.{Lists}
use Rattle.check_policy.specs.declared.place.Place.TheVariants as places
use Rattle.check_policy.specs.declared.verdict.Verdict.TheVariants as verdicts
use Rattle.check_policy.specs.Places.{Resolves}
use Rattle.check_policy.specs.Verdicts.{IsVerdict}

-- SHA-256 of `abc`, by FIPS 180-4
abbrev pub sum_of_abc : List ℕ
sum_of_abc =
    0xba ∷ 0x78 ∷ 0x16 ∷ 0xbf ∷ 0x8f ∷ 0x01 ∷ 0xcf ∷ 0xea ∷ 0x41 ∷ 0x41 ∷ 0x40 ∷ 0xde ∷ 0x5d ∷ 0xae ∷ 0x22 ∷ 0x23
    ∷ 0xb0 ∷ 0x03 ∷ 0x61 ∷ 0xa3 ∷ 0x96 ∷ 0x17 ∷ 0x7a ∷ 0x9c ∷ 0xb4 ∷ 0x10 ∷ 0xff ∷ 0x61 ∷ 0xf2 ∷ 0x00 ∷ 0x15 ∷ 0xad ∷ []

abbrev pub disk_key : List ℕ
disk_key = 0 ∷ 1 ∷ 2 ∷ 3 ∷ 4 ∷ 5 ∷ 6 ∷ 7 ∷ 8 ∷ 9 ∷ 10 ∷ 11 ∷ 12 ∷ 13 ∷ 14 ∷ 15 ∷ []

abbrev pub root : Mount
root = record { kind = Chroot; path = codes "/"; name = Some (codes "."); key_name = codes "default" }

abbrev pub lib : Mount
lib = record { kind = Chroot; path = codes "/lib"; name = Some (codes "/opt/gramine"); key_name = codes "default" }

abbrev pub app : Mount
app = record { kind = Chroot; path = codes "/app"; name = Some (codes "app"); key_name = codes "default" }

abbrev pub data_folder : Mount
data_folder = record { kind = Encrypted; path = codes "/data"; name = Some (codes "data"); key_name = codes "disk" }

abbrev pub realistic : Lists
realistic = record {
  policy = Strict;
  trusted = record { uri = codes "file:/opt/gramine/libsysdb.so"; name = codes "/opt/gramine/libsysdb.so"; sum = None }
      ∷ record { uri = codes "file:app/hello"; name = codes "app/hello"; sum = Some sum_of_abc } ∷ [];
  allowed = codes "file:app/notes" ∷ [];
  mounts = root ∷ lib ∷ app ∷ data_folder ∷ [];
  keys = (codes "disk", disk_key) ∷ [];
}

pub record PathsLead : Type 0 where
  pub trusted : Resolves realistic (codes "/app/hello") (Ok (places.HostFile (codes "file:app/hello") (codes "app/hello")))
  pub library : Resolves realistic (codes "/lib/libsysdb.so") (Ok (places.HostFile (codes "file:/opt/gramine/libsysdb.so") (codes "/opt/gramine/libsysdb.so")))
  pub protected : Resolves realistic (codes "/data/x.pf") (Ok (places.Protected (codes "data/x.pf") disk_key))
  pub other_folder : Resolves realistic (codes "/app2") (Ok (places.HostFile (codes "file:app2") (codes "app2")))
  pub mount_itself : Resolves realistic (codes "/app/.") (Ok (places.HostFile (codes "file:app") (codes "app")))

pub record VerdictsAre : Type 0 where
  pub hello : IsVerdict realistic (codes "file:app/hello") (verdicts.Trusted sum_of_abc)
  pub notes : IsVerdict realistic (codes "file:app/notes") verdicts.Allowed
  pub other : IsVerdict realistic (codes "file:app/other") verdicts.Denied
  pub logged : IsVerdict (record realistic { policy = AllowAllButLog }) (codes "file:app/other") verdicts.Logged
  pub library : IsVerdict realistic (codes "file:/opt/gramine/libsysdb.so") verdicts.NoSum
  pub not_normal : IsVerdict realistic (codes "file:./app/hello") verdicts.Denied
