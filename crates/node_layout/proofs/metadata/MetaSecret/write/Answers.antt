use Rattle.std.proofs.Common.{◌∙◌, refl, sym, arith}
use Rattle.std.proofs.lemmas.List.{take_all}
use Rattle.node_layout.proofs.Rows.{grown}
use Rattle.node_layout.proofs.metadata.MetaSecret.write.Goals as goal

pub returns-clause-text : goal.returns-clause-text
returns-clause-text c =
    let path = c.put_array.ensures.front ∙ c.field.ensures.padded in
    let size = grown path c.put_array-2.ensures.front c.to_le_bytes.ensures in
    let root_key = grown size c.put_array-3.ensures.front refl in
    let root_tag = grown root_key c.put_array-4.ensures.front refl in
    sym (take_all 3880 c.put_array-5.new.bytes (omega arith)) ∙ grown root_tag c.put_array-5.ensures.front refl

pub returns-clause-read_again : goal.returns-clause-read_again
returns-clause-read_again c le = record {
  path_is = c.field.ensures.is_path;
  not_large = le;
  root_key_length = omega arith;
  root_tag_length = omega arith;
  first_length = omega arith;
  text_is = returns-clause-text c;
}
