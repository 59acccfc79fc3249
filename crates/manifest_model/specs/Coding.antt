-- A code of what contracts see of a manifest, by which a proof tells two of them apart. It claims nothing of them.
use Rattle.std.specs.Prelude.{◌≡◌, ℕ, nat_eq, Bool, true, false, List, ℤ, Option, Some, None, refl}
use Rattle.std.specs.Coded.{code_by, coded_option}
use Rattle.std.proofs.Common.{ap, subst, sym}
use Rattle.std.proofs.lemmas.Bool.{false≢true}
use base.Stored.{Gv, gnil, gnum, gcons, Coded, coded_ℕ, coded_ℤ, coded_bool, coded_float, coded_list, coded×}
use Rattle.toml_datetime.specs.declared.datetime.Date.{Date}
use Rattle.toml_datetime.specs.declared.datetime.Time.{Time}
use Rattle.toml_datetime.specs.declared.datetime.Offset.{Offset}
use Rattle.toml_datetime.specs.declared.datetime.Offset.TheVariants.{Z, Custom}
use Rattle.toml_datetime.specs.declared.datetime.Datetime.{Datetime}
use Rattle.manifest_model.specs.declared.entries.Policy.{Policy}
use Rattle.manifest_model.specs.declared.entries.Policy.TheVariants.{Strict, AllowAllButLog}
use Rattle.manifest_model.specs.declared.entries.Trusted.{Trusted}
use Rattle.manifest_model.specs.declared.entries.MountKind.{MountKind}
use Rattle.manifest_model.specs.declared.entries.MountKind.TheVariants.{Chroot, Encrypted, Other}
use Rattle.manifest_model.specs.declared.entries.Mount.{Mount}
use Rattle.manifest_model.specs.Listed.{Lists, Seen}
use Rattle.toml.specs.Data.{Data, string, integer, float, boolean, datetime, array, table, Items, no_items, item, Members, no_members, member}

abbrev pub coded_text : Coded (List ℕ)
coded_text = coded_list coded_ℕ

abbrev coded_date : Coded Date
coded_date = code_by (ℕ × (ℕ × ℕ)) (coded× coded_ℕ (coded× coded_ℕ coded_ℕ)) (λ d. (d.year, (d.month, d.day))) (λ p. record { year = p.0; month = p.1.0; day = p.1.1 }) (λ _. refl)

abbrev coded_time : Coded Time
coded_time =
    code_by ((ℕ × ℕ) × (Option ℕ × Option ℕ)) (coded× (coded× coded_ℕ coded_ℕ) (coded× (coded_option coded_ℕ) (coded_option coded_ℕ)))
    (λ t. ((t.hour, t.minute), (t.second, t.nanosecond))) (λ p. record { hour = p.0.0; minute = p.0.1; second = p.1.0; nanosecond = p.1.1 }) (λ _. refl)

abbrev minutes_of : Offset → Option ℤ
minutes_of Z = None
minutes_of (Custom minutes) = Some minutes

abbrev offset_of : Option ℤ → Offset
offset_of None = Z
offset_of (Some minutes) = Custom minutes

pub offset_of-minutes_of : (o : Offset) → offset_of (minutes_of o) ≡ o
offset_of-minutes_of Z = refl
offset_of-minutes_of (Custom minutes) = refl

abbrev coded_offset : Coded Offset
coded_offset = code_by (Option ℤ) (coded_option coded_ℤ) minutes_of offset_of offset_of-minutes_of

abbrev coded_datetime : Coded Datetime
coded_datetime =
    code_by (Option Date × (Option Time × Option Offset)) (coded× (coded_option coded_date) (coded× (coded_option coded_time) (coded_option coded_offset)))
    (λ d. (d.date, (d.time, d.offset))) (λ p. record { date = p.0; time = p.1.0; offset = p.1.1 }) (λ _. refl)

abbrev mutual
  code_data : Data → Gv
  code_data (string s) = gcons (gnum 0) (coded_text.code s)
  code_data (integer z) = gcons (gnum 1) (coded_ℤ.code z)
  code_data (float x) = gcons (gnum 2) (coded_float.code x)
  code_data (boolean b) = gcons (gnum 3) (coded_bool.code b)
  code_data (datetime t) = gcons (gnum 4) (coded_datetime.code t)
  code_data (array ds) = gcons (gnum 5) (code_items ds)
  code_data (table ms) = gcons (gnum 6) (code_members ms)

  code_items : Items → Gv
  code_items no_items = gnil
  code_items (item d ds) = gcons (code_data d) (code_items ds)

  code_members : Members → Gv
  code_members no_members = gnil
  code_members (member k d ms) = gcons (coded_text.code k) (gcons (code_data d) (code_members ms))

abbrev first : Gv → Gv
first gnil = gnil
first (gnum n) = gnil
first (gcons a b) = a

abbrev second : Gv → Gv
second gnil = gnil
second (gnum n) = gnil
second (gcons a b) = b

-- a number for each form of a code, and 7 for none
abbrev tag : Gv → ℕ
tag (gcons (gnum n) b) = n
tag _ = 7

abbrev IsPair : Gv → Type 0
IsPair gnil = ⊥
IsPair (gnum n) = ⊥
IsPair (gcons a b) = Unit {0}

mutual
  pub same_data : (x y : Data) → code_data x ≡ code_data y → x ≡ y
  same_data (string s) (string t) p = ap string (coded_text.inj s t (ap second p))
  same_data (integer a) (integer b) p = ap integer (coded_ℤ.inj a b (ap second p))
  same_data (float a) (float b) p = ap float (coded_float.inj a b (ap second p))
  same_data (boolean a) (boolean b) p = ap boolean (coded_bool.inj a b (ap second p))
  same_data (datetime a) (datetime b) p = ap datetime (coded_datetime.inj a b (ap second p))
  same_data (array a) (array b) p = ap array (same_items a b (ap second p))
  same_data (table a) (table b) p = ap table (same_members a b (ap second p))
  same_data x y p = absurd (false≢true (subst (λ g. nat_eq (tag (code_data x)) (tag g) ≡ true) p refl))

  pub same_items : (x y : Items) → code_items x ≡ code_items y → x ≡ y
  same_items no_items no_items p = refl
  same_items (item a xs) (item b bs) p = λ i. item (same_data a b (ap first p) i) (same_items xs bs (ap second p) i)
  same_items no_items (item b bs) p = absurd (subst IsPair (sym p) tt)
  same_items (item a xs) no_items p = absurd (subst IsPair p tt)

  pub same_members : (x y : Members) → code_members x ≡ code_members y → x ≡ y
  same_members no_members no_members p = refl
  same_members (member k a xs) (member l b bs) p = λ i. member (coded_text.inj k l (ap first p) i) (same_data a b (ap (λ g. first (second g)) p) i) (same_members xs bs (ap (λ g. second (second g)) p) i)
  same_members no_members (member l b bs) p = absurd (subst IsPair (sym p) tt)
  same_members (member k a xs) no_members p = absurd (subst IsPair p tt)

abbrev pub coded_members : Coded Members
coded_members = record { code = code_members; inj = same_members }

abbrev is_strict : Policy → Bool
is_strict Strict = true
is_strict AllowAllButLog = false

abbrev policy : Bool → Policy
policy true = Strict
policy false = AllowAllButLog

pub policy-is_strict : (p : Policy) → policy (is_strict p) ≡ p
policy-is_strict Strict = refl
policy-is_strict AllowAllButLog = refl

abbrev coded_policy : Coded Policy
coded_policy = code_by Bool coded_bool is_strict policy policy-is_strict

abbrev coded_trusted : Coded Trusted
coded_trusted =
    code_by (List ℕ × (List ℕ × Option (List ℕ))) (coded× coded_text (coded× coded_text (coded_option coded_text)))
    (λ t. (t.uri, (t.name, t.sum))) (λ p. record { uri = p.0; name = p.1.0; sum = p.1.1 }) (λ _. refl)

abbrev may_encrypt : MountKind → Option Bool
may_encrypt Chroot = Some false
may_encrypt Encrypted = Some true
may_encrypt Other = None

abbrev kind : Option Bool → MountKind
kind (Some false) = Chroot
kind (Some true) = Encrypted
kind None = Other

pub kind-may_encrypt : (k : MountKind) → kind (may_encrypt k) ≡ k
kind-may_encrypt Chroot = refl
kind-may_encrypt Encrypted = refl
kind-may_encrypt Other = refl

abbrev coded_kind : Coded MountKind
coded_kind = code_by (Option Bool) (coded_option coded_bool) may_encrypt kind kind-may_encrypt

abbrev coded_mount : Coded Mount
coded_mount =
    code_by ((MountKind × List ℕ) × (Option (List ℕ) × List ℕ)) (coded× (coded× coded_kind coded_text) (coded× (coded_option coded_text) coded_text))
    (λ m. ((m.kind, m.path), (m.name, m.key_name))) (λ p. record { kind = p.0.0; path = p.0.1; name = p.1.0; key_name = p.1.1 }) (λ _. refl)

abbrev coded_lists : Coded Lists
coded_lists =
    code_by ((Policy × List Trusted) × (List (List ℕ) × (List Mount × List (List ℕ × List ℕ))))
    (coded× (coded× coded_policy (coded_list coded_trusted)) (coded× (coded_list coded_text) (coded× (coded_list coded_mount) (coded_list (coded× coded_text coded_text)))))
    (λ l. ((l.policy, l.trusted), (l.allowed, (l.mounts, l.keys))))
    (λ p. record { policy = p.0.0; trusted = p.0.1; allowed = p.1.0; mounts = p.1.1.0; keys = p.1.1.1 }) (λ _. refl)

abbrev pub coded_seen : Coded Seen
coded_seen = code_by (Members × Lists) (coded× coded_members coded_lists) (λ s. (s.«table», s.lists)) (λ p. record { «table» = p.0; lists = p.1 }) (λ _. refl)
