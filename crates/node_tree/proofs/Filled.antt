-- A buffer that is filled with the bytes of a content.
use Rattle.std.proofs.Common.{◌≡◌, inl, inr, ℕ, ◌+◌, ◌-◌, ◌/◌, ◌%◌, ◌<◌, ◌≤◌, min, List, length, slice_index, refl, ap, ap₂, ◌∙◌, sym, arith, ltb}
use Rattle.std.proofs.lemmas.Bool.{cases_lt, cond-true, cond-false, lt-ltb, le-ltb}
use Rattle.std.proofs.lemmas.List.{ext_get_or}
use Rattle.std.proofs.lemmas.List.FromFn.{length-map-range_with_len, get_or-map-range_with_len}
use Rattle.node_layout.specs.Places.{data_place}
use Rattle.node_tree.specs.Content.{byte_of, bytes_of}
use Rattle.node_tree.specs.Touched.{Meets}
use Rattle.node_tree.specs.Copying.{Copies}

-- the first of a buffer's bytes are those of the content, and what is left stands in data nodes
pub record FilledTo (first : List ℕ) (plain : ℕ → List ℕ) (at done : ℕ) (buffer : List ℕ) : Type 0 where
  pub within : done ≤ length buffer
  pub past : done < length buffer → 3072 ≤ at + done
  pub filled : (i : ℕ) → i < done → slice_index buffer i ≡ byte_of first plain (at + i)

module _ (first : List ℕ) (plain : ℕ → List ℕ) (at : ℕ) where
  first_byte : (i : ℕ) → i < 3072 → byte_of first plain i ≡ slice_index first i
  first_byte i lt = cond-true (ltb i 3072) _ _ (lt-ltb i 3072 lt)

  data_byte : (i d r : ℕ) (text : List ℕ) → 3072 ≤ i → (i - 3072) / 4096 ≡ d → (i - 3072) % 4096 ≡ r → plain (data_place d) ≡ text → byte_of first plain i ≡ slice_index text r
  data_byte i d r text le node place is =
      cond-false (ltb i 3072) _ _ (le-ltb i 3072 le) ∙ ap₂ (λ (e s : ℕ). slice_index (plain (data_place e)) s) node place ∙ ap (λ (t : List ℕ). slice_index t r) is

  pub filled_first : (n : ℕ) (old new : List ℕ) → length first ≡ 3072 → n ≡ min (length old - 0) (length first - min at 3072) → Copies first (min at 3072) n 0 old new → FilledTo first plain at n new
  filled_first n old new long count copies =
      let same = copies.same_length in record {
        within = omega arith;
        past = λ lt. omega arith;
        filled = λ i lt. ap (λ (k : ℕ). slice_index new k) (let e : i ≡ 0 + i = omega arith in e) ∙ copies.copied i lt ∙ ap (λ (j : ℕ). slice_index first j) (let e : min at 3072 + i ≡ at + i = omega arith in e) ∙ sym (first_byte (at + i) (omega arith));
      }

  pub filled_more : (done n : ℕ) (text old new : List ℕ) → FilledTo first plain at done old → done < length old → length text ≡ 4096 → plain (data_place ((at + done - 3072) / 4096)) ≡ text
      → n ≡ min (length old - done) (length text - (at + done - 3072) % 4096) → Copies text ((at + done - 3072) % 4096) n done old new → FilledTo first plain at (done + n) new
  filled_more done n text old new so_far more long is count copies =
      let same = copies.same_length in
      let past = so_far.past more in record {
        within = omega arith;
        past = λ lt. omega arith;
        filled = λ i lt. elim (cases_lt i done) [
          | inl below ↦ copies.before i below ∙ so_far.filled i below
          | inr above ↦
              let j = i - done in
              let there : done + j ≡ i = omega arith in
              let at_j : (at + done - 3072) % 4096 + j ≡ (at + i - 3072) % 4096 = omega arith in
              let node : (at + i - 3072) / 4096 ≡ (at + done - 3072) / 4096 = omega arith in
              ap (λ (k : ℕ). slice_index new k) (sym there) ∙ copies.copied j (omega arith) ∙ ap (λ (k : ℕ). slice_index text k) at_j
              ∙ sym (data_byte (at + i) ((at + done - 3072) / 4096) ((at + i - 3072) % 4096) text (omega arith) node refl is)
        ];
      }

  pub filled_all : (done : ℕ) (buffer : List ℕ) (n : ℕ) → FilledTo first plain at done buffer → length buffer ≤ done → length buffer ≡ n → buffer ≡ bytes_of first plain at n
  filled_all done buffer n so_far all long =
      let within = so_far.within in
      let len = length-map-range_with_len (byte_of first plain) at n in
      ext_get_or 0 buffer (bytes_of first plain at n) (long ∙ sym len)
      (λ i lt. so_far.filled i (omega arith) ∙ sym (get_or-map-range_with_len (byte_of first plain) at n i (at + i) 0 (omega arith) refl))

-- the data node of a byte within a range meets it
pub meets_byte : (at n i : ℕ) → i < n → 3072 ≤ at + i → Meets at (at + n) ((at + i - 3072) / 4096)
meets_byte at n i lt le = record { some = omega arith; begins = omega arith; ends = omega arith }
