-- An opening of a file that stands for a sheet.
use Rattle.std.proofs.Common.{◌≡◌, ◌⊎◌, inl, inr, ℕ, List, [], length, refl, ap, ◌∙◌, sym, arith, subst, Option, Some, None, IfSome, Result, Err, IfOk}
use Rattle.std.specs.List.{AllByRecursion}
use Rattle.std.proofs.lemmas.Option.{same_Some, none-some, IfSome_then}
use Rattle.node_layout.specs.Metadata.{meta_opens, nonce_at, flag_at, IsPlain}
use Rattle.node_layout.specs.Faults.{IsSomeMetaText}
use Rattle.node_layout.specs.Opening.{IsOpenFault}
use Rattle.node_layout.specs.declared.damage.Kind.{Kind}
use Rattle.node_layout.specs.declared.damage.Kind.TheVariants as kinds
use Rattle.pf_io.specs.Host.{Name, Files, Answer, HostState, contents, files_of, length_of}
use Rattle.pf_io.specs.Answered.{IsAnswerOf}
use Rattle.node_tree.specs.Sheet.{Sheet, IsLinked, meta_of, Stands}
use Rattle.node_tree.specs.Opened.{block_of}
use Rattle.node_tree.specs.Unforged.{Carries}
use Rattle.node_tree.proofs.Standing.{whole_0, plain_0, flag_0, nonce_0, meta_0, meta_is_text}
use Rattle.pf_session.specs.State.{SessionState}
use Rattle.pf_session.specs.Opening.{
  AreGood,
  node_answers,
  IsOpenable,
  BlockRefused,
  not_protected,
  node_short,
  update_pending,
  other_version,
  SecretRefused,
  not_opened,
  other_path,
  OpenEnds,
  misnamed,
  absent,
  block_refused,
  secret_refused,
  accepted,
  Opens,
  by_answers,
  length_failed,
  read_failed,
  no_names,
  NodeRefused,
  node_absent,
  node_refused,
  no_length,
  no_bytes,
}
use Rattle.pf_session.specs.Carries.{IsOpenedOn, OpensStanding}
use Rattle.pf_session.specs.declared.open_fault.OpenFault.{OpenFault}
use Rattle.pf_session.specs.declared.open_fault.OpenFault.TheVariants as faults
use Rattle.pf_session.proofs.Backed.{path_same, stands_on}

block_early : (block : List ℕ) (fault : OpenFault) → BlockRefused block fault → fault ≡ faults.Memory → ⊥
block_early block fault (not_protected few other is) memory = absurd (cc)
block_early block fault (node_short magic short is) memory = absurd (cc)
block_early block fault (update_pending magic whole flag is) memory = absurd (cc)
block_early block fault (other_version major minor whole flag version is) memory = absurd (cc)

-- behind a call no memory is wanted
pub node_early : (name : Name) (before after : HostState) (fault : OpenFault) → NodeRefused name before after fault → fault ≡ faults.Memory → ⊥
node_early name before after fault (node_absent asked is) memory = absurd (cc)
node_early name before after fault (node_refused size block asked refused) memory = block_early block fault refused memory
node_early name before after fault (no_length asked is) memory = absurd (cc)
node_early name before after fault (no_bytes size asked is) memory = absurd (cc)

pub secret_early : (key : List ℕ) (path : Option (List ℕ)) (block : List ℕ) (fault : OpenFault) → SecretRefused key path block fault → fault ≡ faults.Memory → ⊥
secret_early key path block fault (not_opened kind open_fault is) memory = absurd (cc)
secret_early key path block fault (other_path secret given opens path_is other is) memory = absurd (cc)

pub not_early : (fault : OpenFault) → (fault ≡ faults.Memory → ⊥) → ◌≡◌ {A = Result SessionState OpenFault} (Err fault) (Err faults.Memory) → ⊥
not_early fault other same = other cc

abbrev pub failed : OpenFault → Result SessionState OpenFault
failed fault = Err fault

-- no node 0 was read
pub node_ends : (key : List ℕ) (name : Name) (path : Option (List ℕ)) (before after : HostState) (fault : OpenFault) (result : Result SessionState OpenFault) → AreGood name path → NodeRefused name before after fault
    → result ≡ failed fault → Opens key name path before after result
node_ends key name path before after fault result good (node_absent asked is) same = by_answers _ asked (absent good refl (same ∙ ap failed is))
node_ends key name path before after fault result good (node_refused size block asked refused) same = by_answers _ asked (block_refused size block fault good refl refused same)
node_ends key name path before after fault result good (no_length asked is) same = length_failed good asked (same ∙ ap failed is)
node_ends key name path before after fault result good (no_bytes size asked is) same = read_failed size good asked (same ∙ ap failed is)

version : {major minor : ℕ} → ((major ≡ 1 → ⊥) ⊎ (minor ≡ 0 → ⊥)) → major ≡ 1 → minor ≡ 0 → ⊥
version (inl other) one none = other one
version (inr other) one none = other none

-- a node 0 that can be opened is not refused
pub not_block : (block : List ℕ) → IsOpenable block → (fault : OpenFault) → BlockRefused block fault → ⊥
not_block block openable fault (not_protected few other is) = other openable.plain.magic_is
not_block block openable fault (node_short there short is) = let whole = openable.whole in omega arith
not_block block openable fault (update_pending there whole flag is) = flag openable.flag
not_block block openable fault (other_version major minor whole flag other is) = version other.3 (other.1 ∙ openable.plain.major) (other.2 ∙ openable.plain.minor)

module _ (key block : List ℕ) (sheet : Sheet) (linked : IsLinked sheet) (carries : Carries key block sheet) where
  is_text : IsSomeMetaText (meta_of sheet)
  is_text = (_, (_, (_, (_, (_, meta_is_text sheet linked)))))

  not_opening : (kind : Kind) → IsOpenFault key block kind → ⊥
  not_opening kinds.Short why = why
  not_opening kinds.Tag why = none-some (meta_of sheet) (sym why ∙ carries.metadata)
  not_opening kinds.Text (text, opened, other) = other (subst IsSomeMetaText (same_Some (meta_of sheet) text (sym carries.metadata ∙ opened)) is_text)
  not_opening kinds.Log why = why

  same_given : (path : Option (List ℕ)) (given : List ℕ) → IfSome path (λ g. g ≡ sheet.path) → path ≡ Some given → given ≡ sheet.path
  same_given (Some other) given is same = same_Some given other (sym same) ∙ is
  same_given None given is same = absurd (none-some given same)

  not_secret : (path : Option (List ℕ)) (fault : OpenFault) → IfSome path (λ g. g ≡ sheet.path) → SecretRefused key path block fault → ⊥
  not_secret path fault path_is (not_opened kind why is) = not_opening kind why
  not_secret path fault path_is (other_path secret given opened given_is other is) = other (same_given path given path_is given_is ∙ path_same key [] block secret opened sheet linked carries)

-- node 0 of a file that stands for a sheet
module _ (key : List ℕ) (key_length : length key ≡ 16) (file : List ℕ) (sheet : Sheet) (stands : Stands file key sheet) where
  is_openable : (block : List ℕ) → block ≡ block_of file 0 → IsOpenable block
  is_openable block is = record {
    whole = ap length is ∙ whole_0 sheet stands.linked file key key_length stands;
    flag = ap flag_at is ∙ flag_0 sheet stands.linked file key key_length stands;
    plain = subst IsPlain (sym is) (plain_0 sheet stands.linked file key key_length stands);
  }

  pub is_carried : (block : List ℕ) → block ≡ block_of file 0 → Carries key block sheet
  is_carried block is = record {
    nonce = ap nonce_at is ∙ nonce_0 sheet stands.linked file key key_length stands;
    metadata = ap (λ (b : List ℕ). meta_opens key b) is ∙ meta_0 sheet stands.linked file key key_length stands;
  }

-- what an honest host gave of it
pub given_is : (files : Files) (name : Name) (file : List ℕ) (size : ℕ) (block : List ℕ) → files name ≡ Some file → AllByRecursion (IsAnswerOf files) (node_answers name size block) → block ≡ block_of file 0
given_is files name file size block there all = all.1.0 ∙ ap (λ (o : Option (List ℕ)). block_of (contents o) 0) there

module _ (key : List ℕ) (name : Name) (path : Option (List ℕ)) (key_length : length key ≡ 16) (files : Files) (file : List ℕ) (sheet : Sheet) (good : AreGood name path) (there : files name ≡ Some file)
    (stands : Stands file key sheet) (path_is : IfSome path (λ g. g ≡ sheet.path)) where
  some_length : (size : Option ℕ) → size ≡ length_of (files name) → size ≡ Some (length file)
  some_length size is = is ∙ ap length_of there

  answers_of : (these others : List Answer) → these ≡ others → AllByRecursion (IsAnswerOf files) these → AllByRecursion (IsAnswerOf files) others
  answers_of these others same all = subst (λ (l : List Answer). AllByRecursion (IsAnswerOf files) l) same all

  opened_by : (these : List Answer) (result : Result SessionState OpenFault) → AllByRecursion (IsAnswerOf files) these → OpenEnds key name path these result → IsOpenedOn sheet result
  opened_by these result all (misnamed bad none same) = absurd (bad good)
  opened_by these result all (absent fine are same) = absurd (none-some (length file) (some_length None (answers_of these _ are all).0))
  opened_by these result all (block_refused size block fault fine are refused same) =
      let is = given_is files name file size block there (answers_of these _ are all) in
      absurd (not_block block (is_openable key key_length file sheet stands block is) fault refused)
  opened_by these result all (secret_refused size block fault fine are openable refused same) =
      let is = given_is files name file size block there (answers_of these _ are all) in
      absurd (not_secret key block sheet stands.linked (is_carried key key_length file sheet stands block is) path fault path_is refused)
  opened_by these result all (accepted size block secret fine are openable is_accepted same) =
      let is = given_is files name file size block there (answers_of these _ are all) in
      subst (λ (r : Result SessionState OpenFault). IsOpenedOn sheet r) (sym same) (stands_on key name block secret is_accepted.opened sheet stands.linked (is_carried key key_length file sheet stands block is))

not_standing : (key : List ℕ) (name : Name) (path : Option (List ℕ)) (fault : OpenFault) (result : Result SessionState OpenFault) (files : Option Files) → result ≡ failed fault → (fault ≡ faults.Host) ⊎ (fault ≡ faults.Memory)
    → IfSome files (λ f. (file : List ℕ) (sheet : Sheet) → AreGood name path → f name ≡ Some file → Stands file key sheet → IfSome path (λ given. given ≡ sheet.path) → IsOpenedOn sheet result)
not_standing key name path fault result (Some files) same why = λ file sheet good there stands path_is. subst (λ (r : Result SessionState OpenFault). IsOpenedOn sheet r) (sym same) why
not_standing key name path fault result None same why = tt

pub opens_standing : (key : List ℕ) (name : Name) (path : Option (List ℕ)) (before after : HostState) (result : Result SessionState OpenFault) → length key ≡ 16 → Opens key name path before after result
    → OpensStanding key name path result before
opens_standing key name path before after result key_length (by_answers these asked ends) =
    IfSome_then (files_of before) asked.answered.honest (λ files all file sheet good there stands path_is. opened_by key name path key_length files file sheet good there stands path_is these result all ends)
opens_standing key name path before after result key_length (length_failed good asked same) = not_standing key name path faults.Host result (files_of before) same (inl refl)
opens_standing key name path before after result key_length (read_failed size good asked same) = not_standing key name path faults.Host result (files_of before) same (inl refl)
opens_standing key name path before after result key_length (no_names good still same) = not_standing key name path faults.Memory result (files_of before) same (inr refl)

-- a fault opens no session
pub opens_none : (result : Result SessionState OpenFault) (fault : OpenFault) → result ≡ failed fault → (P : SessionState → Type 0) → IfOk result P
opens_none result fault is P = subst (λ (r : Result SessionState OpenFault). IfOk r P) (sym is) tt
