use Rattle.std.proofs.Common.{rules, ◌≡◌, refl, sym, ap, ◌∙◌, arith, take, drop, w64}
use Rattle.std.specs.Int.{from_le_bytes}
use Rattle.std.proofs.lemmas.Nat.{le_bytes_8}
use Rattle.node_layout.specs.Metadata.{IsMetaText}
use Rattle.node_layout.proofs.Texts.{IsMetaText-from_fields, path-from_text, size-from_text, piece-fits}
use Rattle.node_layout.proofs.metadata.MetaSecret.read.Goals as goal

pub returns-in_default-clause-accepted : goal.returns-in_default-clause-accepted
returns-in_default-clause-accepted c = (
  (λ e. cc),
  λ h.
      let text = h.1.1.1.1.1 in
      c.in_default.ensures.is_field.1 (h.0, text.path_is, c.array_at.ensures ∙ path-from_text c.args.part.now _ _ _ _ _ text),
)

pub returns-then-size-gt-MAX_SIZE-clause-accepted : goal.returns-then-size-gt-MAX_SIZE-clause-accepted
returns-then-size-gt-MAX_SIZE-clause-accepted c = (
  (λ e. cc),
  λ h.
      let text = h.1.1.1.1.1 in
      let le = text.not_large in
      let same : c.from_le_bytes-size.result ≡ h.1.0 = c.from_le_bytes-size.ensures ∙ (ap (from_le_bytes w64) c.array_at-2.ensures ∙ size-from_text c.args.part.now _ _ _ _ _ text) in
      absurd (omega arith),
)

-- the text of the fields that were read
text_of : (c : goal.After-array_at-5) → IsMetaText c.args.part.now c.in-Some.path c.from_le_bytes-size.result c.array_at-3.result c.array_at-4.result c.array_at-5.result
text_of c =
    let field = sym c.array_at.ensures ∙ c.in-Some.ensures.stored in
    let number = le_bytes_8 (take 8 (drop 768 c.args.part.now)) c.from_le_bytes-size.result (search rules) (piece-fits 768 8 c.args.part.now c.fits-part) (c.from_le_bytes-size.ensures ∙ ap (from_le_bytes w64) c.array_at-2.ensures) in
    let text = IsMetaText-from_fields c.args.part.now c.in-Some.path c.from_le_bytes-size.result c.told-part c.in-Some.ensures.is_path field number c.if-size-gt-MAX_SIZE.false in
    rw (c.array_at-3.ensures, c.array_at-4.ensures, c.array_at-5.ensures) text

pub returns-clause-accepted : goal.returns-clause-accepted
returns-clause-accepted c = ((λ e. (_, (_, (_, (_, (_, text_of c)))))), λ h. refl)

pub returns-clause-fields : goal.returns-clause-fields
returns-clause-fields c = text_of c
