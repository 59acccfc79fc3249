use Rattle.std.proofs.Common.{◌≡◌, ◌∙◌, refl, ℕ, List, [], take, drop, Option, Some, None, IsSome, true, false}
use Rattle.std.proofs.lemmas.Bool.{false≢true}
use Rattle.aes_gcm.specs.Gcm.{opens}
use Rattle.cmac_kdf.specs.MetadataKey.{metadata_key}
use Rattle.node_layout.specs.Metadata.{meta_opens}
use Rattle.node_layout.proofs.opening.open_meta.Goals as goal

-- what is opened, from its parts
opened_is : (user node nonce derived key tag part : List ℕ) → nonce ≡ take 32 (drop 10 node) → derived ≡ metadata_key user nonce → key ≡ derived → tag ≡ take 16 (drop 42 node) → part ≡ take 3880 (drop 59 node) → meta_opens user node ≡ opens key [] part tag
unfolding meta_opens
opened_is user node nonce derived key tag part a b d e f = cc

none_from_not_some : (o : Option (List ℕ)) → (IsSome o → false ≡ true) → o ≡ None
none_from_not_some (Some x) h = absurd (false≢true (h refl))
none_from_not_some None h = refl

pub returns-then-not-open_in_place-clause-refused : goal.returns-then-not-open_in_place-clause-refused
returns-then-not-open_in_place-clause-refused c =
    let is = opened_is c.args.user.now c.args.node.now c.array_at-nonce.result c.metadata_key-derived.result c.new-key.result c.array_at-tag.result c.array_at-part.result c.array_at-nonce.ensures c.metadata_key-derived.ensures c.new-key.ensures c.array_at-tag.ensures c.array_at-part.ensures in
    is ∙ none_from_not_some _ c.if-not-open_in_place.ensures.opened.1

pub returns-in-Ok-clause-opened : goal.returns-in-Ok-clause-opened
returns-in-Ok-clause-opened c =
    let is = opened_is c.args.user.now c.args.node.now c.array_at-nonce.result c.metadata_key-derived.result c.new-key.result c.array_at-tag.result c.array_at-part.result c.array_at-nonce.ensures c.metadata_key-derived.ensures c.new-key.ensures c.array_at-tag.ensures c.array_at-part.ensures in
    (c.open_in_place.new.text, is ∙ c.if-not-open_in_place.ensures.plain refl, c.in-Ok.ensures.fields)

pub returns-in-Err-clause-refused : goal.returns-in-Err-clause-refused
returns-in-Err-clause-refused c =
    let is = opened_is c.args.user.now c.args.node.now c.array_at-nonce.result c.metadata_key-derived.result c.new-key.result c.array_at-tag.result c.array_at-part.result c.array_at-nonce.ensures c.metadata_key-derived.ensures c.new-key.ensures c.array_at-tag.ensures c.array_at-part.ensures in
    (c.open_in_place.new.text, is ∙ c.if-not-open_in_place.ensures.plain refl, λ t. let e = c.in-Err.ensures.accepted.1 t in cc)
