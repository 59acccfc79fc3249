use Rattle.std.proofs.Common.{◌∙◌, ◌++◌, ap, string_bytes}
use Rattle.manifest_model.proofs.Steps.{key_text, item_text}
use Rattle.manifest_model.proofs.places.Place.+text.Goals as goal

pub returns-in_ok-push_str-in-Key-2 : goal.returns-in_ok-push_str-in-Key-2
returns-in_ok-push_str-in-Key-2 t c =
    key_text c.args.self.now c.in-Key.outer c.in-Key.key _ _ _ c.in-Key.is c.in_ok-text-in-Key.ensures c.in_ok-push_str-in-Key.ensures.bytes c.in_ok-push_str-in-Key-2.ensures.bytes

pub returns-in_ok-push_str-in-Item-3 : goal.returns-in_ok-push_str-in-Item-3
returns-in_ok-push_str-in-Item-3 t c =
    item_text c.args.self.now c.in-Item.outer c.in-Item.k _ _ _ _ _ c.in-Item.is c.in_ok-text-in-Item.ensures c.in_ok-number-in-Item.ensures.ok c.in_ok-push_str-in-Item.ensures.bytes
    (c.in_ok-push_str-in-Item-2.ensures.bytes ∙ ap (λ n. string_bytes c.push_str-in-Item.new.self ++ n) c.as_str.ensures.value) c.in_ok-push_str-in-Item-3.ensures.bytes
