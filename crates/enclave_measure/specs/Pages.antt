-- The lines of an enclave layout, and the fields that they spell.
use Rattle.std.specs.Prelude.{◌≡◌, ℕ, ◌+◌, ◌%◌, ◌^◌, ◌<◌, ◌≤◌, Bool, true, if◌then◌else◌, List, [], ◌∷◌, codes}
use Rattle.std.specs.Int.{is_power_of_two}
use Rattle.std.specs.Str.{IsUtf8}
use Rattle.pf_io.specs.Names.{IsName}
use Rattle.pf_io.specs.Numbers.{Spells}
use Rattle.enclave_measure.specs.declared.page.Permissions.{Permissions}
use Rattle.enclave_measure.specs.declared.page.PageType.{PageType}
use Rattle.enclave_measure.specs.declared.page.PageType.TheVariants as types
use Rattle.enclave_measure.specs.declared.page.Source.{Source}
use Rattle.enclave_measure.specs.declared.page.Source.TheVariants as sources
use Rattle.enclave_measure.specs.declared.page.Page.{Page}
use Rattle.enclave_measure.specs.Lines.{words_of}
use Rattle.enclave_measure.specs.Hexadecimal.{IsHex}

-- the bytes of a page
abbrev pub PAGE : ℕ
PAGE = 4096

-- what a layout lists
pub record Listed : Type 0 where
  pub size : ℕ
  pub ssa : ℕ
  pub pages : List Page

-- the page lies in an enclave of this size
abbrev pub IsInside : ℕ → Page → Type 0
IsInside size page = page.offset + PAGE ≤ size

-- `enclave SIZE SSA`
pub record AreEnclaveWords (words : List (List ℕ)) (size ssa : ℕ) : Type 0 where
  pub size_word : List ℕ
  pub ssa_word : List ℕ
  pub form : words ≡ codes "enclave" ∷ size_word ∷ ssa_word ∷ []
  pub size_is : IsHex size_word size
  pub ssa_is : Spells ssa_word ssa
  pub ssa_fits : ssa < 2 ^ 32

abbrev pub IsEnclaveLine : List ℕ → ℕ → ℕ → Type 0
IsEnclaveLine line size ssa = AreEnclaveWords (words_of line) size ssa

-- a power of two from 0x1000 to 2^40
pub record IsSize (size : ℕ) : Type 0 where
  pub power : is_power_of_two size ≡ true
  pub not_small : 2 ^ 12 ≤ size
  pub not_large : size ≤ 2 ^ 40

-- the letter of a permission that is given, and else `-`
abbrev pub letter_or : ℕ → Bool → ℕ
letter_or letter given = if given then letter else 45

-- `r` or `-`, `w` or `-`, `x` or `-`
abbrev pub permissions_word : Permissions → List ℕ
permissions_word permissions = letter_or 114 permissions.read ∷ letter_or 119 permissions.write ∷ letter_or 120 permissions.execute ∷ []

abbrev pub type_word : PageType → List ℕ
type_word types.Tcs = codes "tcs"
type_word types.Reg = codes "reg"

abbrev pub measured_word : Bool → List ℕ
measured_word measured = if measured then codes "measured" else codes "bare"

-- `zero`, or `file NAME AT`; a name of a file is text
abbrev pub IsSource : List (List ℕ) → Source → Type 0
IsSource words sources.Zero = words ≡ codes "zero" ∷ []
IsSource words (sources.File name at) = (at_word : List ℕ) × (words ≡ codes "file" ∷ name ∷ at_word ∷ []) × IsName name × IsUtf8 name × Spells at_word at × (at < 2 ^ 32)

-- Pages start at multiples of 0x1000, none is written that is not read, and a thread control structure has no permissions.
pub record IsAllowed (offset : ℕ) (permissions : Permissions) (page_type : PageType) : Type 0 where
  pub aligned : offset % PAGE ≡ 0
  pub read_too : permissions.write ≡ true → permissions.read ≡ true
  pub none_of_tcs : page_type ≡ types.Tcs → permissions_word permissions ≡ codes "---"

-- OFFSET, PERMS, TYPE and MEASURED
pub record AreFields (offset_word access_word kind_word extent_word : List ℕ) (offset : ℕ) (permissions : Permissions) (page_type : PageType) (measured : Bool) : Type 0 where
  pub offset_is : IsHex offset_word offset
  pub permissions_is : access_word ≡ permissions_word permissions
  pub type_is : kind_word ≡ type_word page_type
  pub measured_is : extent_word ≡ measured_word measured
  pub allowed : IsAllowed offset permissions page_type

-- `page OFFSET PERMS TYPE MEASURED SOURCE`
pub record ArePageWords (words : List (List ℕ)) (page : Page) : Type 0 where
  pub offset_word : List ℕ
  pub access_word : List ℕ
  pub kind_word : List ℕ
  pub extent_word : List ℕ
  pub source_words : List (List ℕ)
  pub form : words ≡ codes "page" ∷ offset_word ∷ access_word ∷ kind_word ∷ extent_word ∷ source_words
  pub fields : AreFields offset_word access_word kind_word extent_word page.offset page.permissions page.page_type page.measured
  pub source : IsSource source_words page.source

abbrev pub IsPageLine : List ℕ → Page → Type 0
IsPageLine line page = ArePageWords (words_of line) page
