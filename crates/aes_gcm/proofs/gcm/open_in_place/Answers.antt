use Rattle.std.proofs.Common.{◌≡◌, ap, ◌∙◌, sym, true, refl, is_some}
use Rattle.aes_gcm.proofs.Sealed.{opens_where_same, same_where_opens}
use Rattle.aes_gcm.proofs.gcm.open_in_place.Goals as goal

pub returns-then-not-same_tag-clause-opened : goal.returns-then-not-same_tag-clause-opened
returns-then-not-same_tag-clause-opened c = (
  λ e. cc,
  λ h.
      let same : c.same_tag.result ≡ true =
      c.same_tag.ensures.1 (same_where_opens c.args.key.now c.args.aad.now c.args.text.now c.args.tag.now h ∙ sym c.tag_of-expected.ensures) in
      cc c.if-not-same_tag.true,
)

pub returns-clause-plain : goal.returns-clause-plain
returns-clause-plain c e =
    opens_where_same c.args.key.now c.args.aad.now c.args.text.now c.args.tag.now c.add_key_stream.new.text
    (c.same_tag.ensures.0 c.if-not-same_tag.false ∙ c.tag_of-expected.ensures) c.add_key_stream.ensures

pub returns-clause-opened : goal.returns-clause-opened
returns-clause-opened c = (λ e. ap is_some (returns-clause-plain c e), λ h. refl)
