-- A layout of two pages, read.
use Rattle.std.proofs.Common.{◌≡◌, ℕ, ◌%◌, List, [], ◌∷◌, ◌++◌, refl, sym, arith, codes}
use Rattle.std.proofs.lemmas.Fmt.{decimal_digit}
use Rattle.pf_io.specs.Numbers.{Spells}
use Rattle.enclave_measure.specs.declared.fault.LayoutFault.TheVariants as faults
use Rattle.enclave_measure.specs.Hexadecimal.{IsHex, is_hex_digit, digit_value}
use Rattle.enclave_measure.specs.Pages.{AreEnclaveWords, ArePageWords, IsSize}
use Rattle.enclave_measure.specs.Lines.{words_of}
use Rattle.enclave_measure.specs.Layouts.{Whole, NoPage, Outside, Again, ListPages}
use Rattle.enclave_measure.specs.Examples.{TwoPagesRead, PagePastTheEnd, OffsetRepeated, code_page, thread_page}

hex_0 : IsHex (codes "0x0") 0
unfolding is_hex_digit digit_value
hex_0 = record { digits = codes "0"; are_digits = record { some = omega arith; few = omega arith; no_zero = λ z. refl; each = refl }; spelled = refl; value = refl }

hex_1000 : IsHex (codes "0x1000") 4096
unfolding is_hex_digit digit_value
hex_1000 = record { digits = codes "1000"; are_digits = record { some = omega arith; few = omega arith; no_zero = λ z. absurd (omega (arith, z)); each = refl }; spelled = refl; value = refl }

hex_2000 : IsHex (codes "0x2000") 8192
unfolding is_hex_digit digit_value
hex_2000 = record { digits = codes "2000"; are_digits = record { some = omega arith; few = omega arith; no_zero = λ z. absurd (omega (arith, z)); each = refl }; spelled = refl; value = refl }

one : Spells (codes "1") 1
one = record { digits = sym (decimal_digit 1 (omega arith)); fits = omega arith }

enclave : AreEnclaveWords (words_of (codes "enclave 0x2000 1")) 8192 1
enclave = record { size_word = codes "0x2000"; ssa_word = codes "1"; form = refl; size_is = hex_2000; ssa_is = one; ssa_fits = omega arith }

size : IsSize 8192
unfolding lib.Count.ones
size = record { power = refl; not_small = omega arith; not_large = omega arith }

code : ArePageWords (words_of (codes "page 0x0 r-x reg measured zero")) code_page
code = record {
  offset_word = codes "0x0";
  access_word = codes "r-x";
  kind_word = codes "reg";
  extent_word = codes "measured";
  source_words = codes "zero" ∷ [];
  form = refl;
  fields = record { offset_is = hex_0; permissions_is = refl; type_is = refl; measured_is = refl; allowed = record { aligned = refl; read_too = λ w. refl; none_of_tcs = λ t. absurd (cc) } };
  source = refl;
}

thread : (word : List ℕ) (offset : ℕ) → words_of (codes "page " ++ word ++ codes " --- tcs bare zero") ≡ codes "page" ∷ word ∷ codes "---" ∷ codes "tcs" ∷ codes "bare" ∷ codes "zero" ∷ [] → IsHex word offset → offset % 4096 ≡ 0
    → ArePageWords (words_of (codes "page " ++ word ++ codes " --- tcs bare zero")) (thread_page offset)
thread word offset form is aligned = record {
  offset_word = word;
  access_word = codes "---";
  kind_word = codes "tcs";
  extent_word = codes "bare";
  source_words = codes "zero" ∷ [];
  form = form;
  fields = record { offset_is = is; permissions_is = refl; type_is = refl; measured_is = refl; allowed = record { aligned = aligned; read_too = λ w. absurd (cc); none_of_tcs = λ t. refl } };
  source = refl;
}

-- the first page alone
code_alone : ListPages 8192 ((2, codes "page 0x0 r-x reg measured zero") ∷ []) (code_page ∷ [])
code_alone = record { spelled = (code, tt); inside = (omega arith, tt); apart = (refl, tt) }

pub two_read : TwoPagesRead
two_read = Whole (1, codes "enclave 0x2000 1") ((2, codes "page 0x0 r-x reg measured zero") ∷ (3, codes "page 0x1000 --- tcs bare zero") ∷ []) 8192 1 (code_page ∷ thread_page 4096 ∷ []) refl enclave size
    (record { spelled = (code, (thread (codes "0x1000") 4096 refl hex_1000 refl, tt)); inside = (omega arith, (omega arith, tt)); apart = (refl, (refl, tt)) }) refl

pub two_past : PagePastTheEnd
two_past = NoPage (1, codes "enclave 0x2000 1") ((2, codes "page 0x0 r-x reg measured zero") ∷ (3, codes "page 0x2000 --- tcs bare zero") ∷ []) 8192 1 (faults.OutOfRange 3) refl enclave size
    (record { front = (2, codes "page 0x0 r-x reg measured zero") ∷ []; line = (3, codes "page 0x2000 --- tcs bare zero"); others = []; pages = code_page ∷ []; whole = refl; listed = code_alone; refused = Outside (thread_page 8192) (thread (codes "0x2000") 8192 refl hex_2000 refl) (omega arith) refl }) refl

pub two_repeated : OffsetRepeated
two_repeated = NoPage (1, codes "enclave 0x2000 1") ((2, codes "page 0x0 r-x reg measured zero") ∷ (3, codes "page 0x0 --- tcs bare zero") ∷ []) 8192 1 (faults.Repeated 3) refl enclave size
    (record { front = (2, codes "page 0x0 r-x reg measured zero") ∷ []; line = (3, codes "page 0x0 --- tcs bare zero"); others = []; pages = code_page ∷ []; whole = refl; listed = code_alone; refused = Again (thread_page 0) (thread (codes "0x0") 0 refl hex_0 refl) (omega arith) refl refl }) refl
