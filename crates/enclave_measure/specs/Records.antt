-- What an enclave's measurement is taken of: the bytes that ECREATE, EADD and EEXTEND add to it (Intel 64 and IA-32
-- Architectures Software Developer's Manual, volume 3D, SGX instruction references). Numbers have their lowest byte
-- first.
use Rattle.std.specs.Prelude.{ℕ, zero, suc, ◌+◌, ◌*◌, ◌-◌, Bool, if◌then◌else◌, List, [], ◌∷◌, ◌++◌, length, take, drop, replicate, get_or, codes}
use Rattle.byteorder.specs.Endian.{little_bytes}
use Rattle.sha2.specs.Sha256.{sha256}
use Rattle.enclave_measure.specs.declared.page.Permissions.{Permissions}
use Rattle.enclave_measure.specs.declared.page.PageType.{PageType}
use Rattle.enclave_measure.specs.declared.page.PageType.TheVariants as types
use Rattle.enclave_measure.specs.declared.page.Page.{Page}
use Rattle.enclave_measure.specs.Pages.{PAGE, Listed}

abbrev pub zeros : ℕ → List ℕ
zeros count = replicate count 0

-- ECREATE: its name, the pages of a state save area's frame, the enclave's size, and zeros up to 64 bytes
abbrev pub creation : ℕ → ℕ → List ℕ
creation size ssa = codes "ECREATE" ++ (zeros 1 ++ (little_bytes 4 ssa ++ (little_bytes 8 size ++ zeros 44)))

abbrev pub bit : ℕ → Bool → ℕ
bit value set = if set then value else 0

abbrev pub type_number : PageType → ℕ
type_number types.Tcs = 1
type_number types.Reg = 2

-- SECINFO.FLAGS: R, W and X in the bits 0, 1 and 2, and the page type in the bits 8 to 15
unfoldable pub flags : Permissions → PageType → ℕ
flags permissions page_type = bit 1 permissions.read + bit 2 permissions.write + bit 4 permissions.execute + 256 * type_number page_type

-- EADD: its name, the page's offset, and the first 48 bytes of SECINFO, which are FLAGS and zeros
abbrev pub addition : Page → List ℕ
addition page = codes "EADD" ++ (zeros 4 ++ (little_bytes 8 page.offset ++ (little_bytes 8 (flags page.permissions page.page_type) ++ zeros 40)))

-- the bytes that one EEXTEND measures
abbrev pub CHUNK : ℕ
CHUNK = 256

-- EEXTEND: its name, the chunk's offset, zeros up to 64 bytes, and the chunk
abbrev pub extension : ℕ → List ℕ → List ℕ
extension offset chunk = codes "EEXTEND" ++ (zeros 1 ++ (little_bytes 8 offset ++ (zeros 48 ++ chunk)))

-- the first chunks of a page at an offset, one after another
abbrev pub extensions : ℕ → ℕ → List ℕ → List ℕ
extensions zero offset bytes = []
extensions (suc count) offset bytes = extensions count offset bytes ++ extension (offset + CHUNK * count) (take CHUNK (drop (CHUNK * count) bytes))

-- a page is added, and then, where it is measured, all of it is
abbrev pub page_records : Page → List ℕ → List ℕ
page_records page bytes = addition page ++ (if page.measured then extensions 16 page.offset bytes else [])

-- the pages in order, with the bytes of each
abbrev pub records : List Page → List (List ℕ) → List ℕ
records [] contents = []
records (page ∷ pages) contents = page_records page (get_or contents 0 []) ++ records pages (drop 1 contents)

-- all that is measured
abbrev pub measured_bytes : Listed → List (List ℕ) → List ℕ
measured_bytes layout contents = creation layout.size layout.ssa ++ records layout.pages contents

-- MRENCLAVE
abbrev pub measurement : Listed → List (List ℕ) → List ℕ
measurement layout contents = sha256 (measured_bytes layout contents)

-- the bytes of a page, and zeros past them
abbrev pub padded : List ℕ → List ℕ
padded bytes = bytes ++ zeros (PAGE - length bytes)
