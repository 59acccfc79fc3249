-- Bytes that are read one part after the other.
use Rattle.std.proofs.Common.{ℕ, ◌+◌, List, ◌++◌, take, drop, sym, ◌∙◌, ap, arith}
use Rattle.std.proofs.lemmas.List.{take-append-drop, drop-drop, drop_all}
use Rattle.pf_io.specs.Host.{ReadsFrom}
use Rattle.pf_io.specs.Streams.{GivesFirst}

-- the bytes from a place on, of which n were read
pub gives_first : (place n : ℕ) (bytes buffer : List ℕ) → ReadsFrom place n buffer bytes → GivesFirst n buffer (drop place bytes) (drop (place + n) bytes)
gives_first place n bytes buffer reads = record {
  first = sym (take-append-drop n (drop place bytes))
      ∙ ap (λ (l : List ℕ). l ++ drop n (drop place bytes)) (sym reads.filled)
      ∙ ap (λ (l : List ℕ). take n buffer ++ l) (drop-drop n place bytes ∙ ap (λ (k : ℕ). drop k bytes) (omega arith));
  ended = λ none room. drop_all place bytes (omega (arith, reads.count));
}
