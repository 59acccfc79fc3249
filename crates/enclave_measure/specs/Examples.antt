-- A layout of two pages, and the reads of two files, small enough to compute.
use Rattle.std.specs.Prelude.{◌≡◌, ℕ, true, false, List, [], ◌∷◌, ◌++◌, length, take, drop, Some, None, Ok, Err, codes}
use Rattle.pf_io.specs.Host.{LengthWas, Gave}
use Rattle.enclave_measure.specs.declared.page.PageType.TheVariants as types
use Rattle.enclave_measure.specs.declared.page.Source.TheVariants as sources
use Rattle.enclave_measure.specs.declared.page.Page.{Page}
use Rattle.enclave_measure.specs.declared.fault.LayoutFault.TheVariants as faults
use Rattle.enclave_measure.specs.Pages.{PAGE, Listed}
use Rattle.enclave_measure.specs.Layouts.{ReadsTo}
use Rattle.enclave_measure.specs.Records.{zeros, measured_bytes}
use Rattle.enclave_measure.specs.Measuring.{reads_after}

abbrev pub line : List ℕ → List ℕ
line text = text ++ 10 ∷ []

-- a layout whose second page starts at an offset
abbrev pub two_pages : List ℕ → List ℕ
two_pages offset = line (codes "enclave 0x2000 1") ++ line (codes "page 0x0 r-x reg measured zero") ++ codes "page " ++ offset ++ codes " --- tcs bare zero"

abbrev pub code_page : Page
code_page = record { offset = 0; permissions = record { read = true; write = false; execute = true }; page_type = types.Reg; measured = true; source = sources.Zero }

abbrev pub thread_page : ℕ → Page
thread_page offset = record { offset = offset; permissions = record { read = false; write = false; execute = false }; page_type = types.Tcs; measured = false; source = sources.Zero }

abbrev pub two_listed : Listed
two_listed = record { size = 8192; ssa = 1; pages = code_page ∷ thread_page 4096 ∷ [] }

abbrev pub TwoPagesRead : Type 0
TwoPagesRead = ReadsTo (two_pages (codes "0x1000")) (Ok two_listed)

abbrev pub PagePastTheEnd : Type 0
PagePastTheEnd = ReadsTo (two_pages (codes "0x2000")) (Err (faults.OutOfRange 3))

abbrev pub OffsetRepeated : Type 0
OffsetRepeated = ReadsTo (two_pages (codes "0x0")) (Err (faults.Repeated 3))

-- what is measured of the two pages
abbrev pub two_measured : List ℕ
two_measured = measured_bytes two_listed (zeros PAGE ∷ [] ∷ [])

-- ECREATE, EADD, 16 times EEXTEND with its chunk, and EADD
pub record TwoPagesMeasured : Type 0 where
  pub length_is : length two_measured ≡ 5312
  pub creation_is : take 20 two_measured ≡ codes "ECREATE" ++ 0 ∷ 1 ∷ 0 ∷ 0 ∷ 0 ∷ 0 ∷ 32 ∷ zeros 6
  pub first_addition : take 24 (drop 64 two_measured) ≡ codes "EADD" ++ zeros 4 ++ zeros 8 ++ 5 ∷ 2 ∷ zeros 6
  pub first_extension : take 16 (drop 128 two_measured) ≡ codes "EEXTEND" ++ zeros 1 ++ zeros 8
  pub last_extension : take 16 (drop 4928 two_measured) ≡ codes "EEXTEND" ++ zeros 1 ++ 0 ∷ 15 ∷ zeros 6
  pub second_addition : take 24 (drop 5248 two_measured) ≡ codes "EADD" ++ zeros 4 ++ 0 ∷ 16 ∷ zeros 6 ++ 0 ∷ 1 ∷ zeros 6

-- A file that is there is read once, also where the read fails; one that is absent is not read.
pub record ReadsCounted : Type 0 where
  pub both_there : reads_after 7 (LengthWas (codes "a") (Some 3) ∷ Gave (codes "a") 0 PAGE (codes "abc") ∷ LengthWas (codes "b") (Some 0) ∷ Gave (codes "b") 9 PAGE [] ∷ []) ≡ 9
  pub second_absent : reads_after 7 (LengthWas (codes "a") (Some 3) ∷ Gave (codes "a") 0 PAGE (codes "abc") ∷ LengthWas (codes "b") None ∷ []) ≡ 8
  pub read_failed : reads_after 7 (LengthWas (codes "a") (Some 3) ∷ []) ≡ 8
  pub nothing_asked : reads_after 7 [] ≡ 7
