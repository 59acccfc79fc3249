use Rattle.std.proofs.Common.{◌≡◌, ℕ, ap, ap₂, ◌∙◌, sym, arith, bit_or, bit_xor, slice_index, below_more, List}
use Rattle.std.specs.Int.Bits.{or_add_and, and_le_l, and_le_r, xor_assoc, xor_self, xor_zero_r, xor_zero_l}
use Rattle.std.proofs.lemmas.Bool.{eqb-true, eq-eqb}
use Rattle.std.proofs.lemmas.List.{ext_get_or}
use Rattle.aes_gcm.proofs.gcm.same_tag.Goals as goal

or-zero : (a b : ℕ) → bit_or a b ≡ 0 → (a ≡ 0) × (b ≡ 0)
or-zero a b h = (omega (arith, or_add_and a b, and_le_l a b, and_le_r a b), omega (arith, or_add_and a b, and_le_l a b, and_le_r a b))

xor-zero : (a b : ℕ) → bit_xor a b ≡ 0 → a ≡ b
xor-zero a b h = sym (xor_zero_r a) ∙ ap (bit_xor a) (sym (xor_self b)) ∙ sym (xor_assoc a b b) ∙ ap (λ t. bit_xor t b) h ∙ xor_zero_l b

pub loop-k-preserved : goal.loop-k-preserved
loop-k-preserved c =
    let k = c.loop-k.k in
    let a : ℕ = slice_index c.args.tag.now k in
    let b : ℕ = slice_index c.args.other.now k in
    let d : ℕ = c.loop-k.difference in
    record {
      alike = λ e. below_more _ _ (c.loop-k.invariant.alike (or-zero d (bit_xor a b) e).0) (xor-zero a b (or-zero d (bit_xor a b) e).1);
      none = λ all.
          let now : a ≡ b = all k (omega arith) in
          let before : d ≡ 0 = c.loop-k.invariant.none (λ j h. all j (omega arith)) in
          ap₂ bit_or before (ap (λ a. bit_xor a b) now ∙ xor_self b);
    }

pub returns : goal.returns
returns c =
    let a : List ℕ = c.args.tag.now in
    let b : List ℕ = c.args.other.now in
    let d : ℕ = c.loop-k.difference in (
      λ e. ext_get_or 0 a b (omega arith) (λ j h. c.loop-k.invariant.alike (eqb-true d 0 e) j (omega arith)),
      λ e. eq-eqb d 0 (c.loop-k.invariant.none (λ j h. ap (λ xs. slice_index xs j) e)),
    )
