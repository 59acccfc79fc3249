use Rattle.std.proofs.Common.{◌≡◌, ◌∙◌, Some, None, sym, ap, string_bytes, length, arith}
use Rattle.std.proofs.lemmas.Map.Text.{btree_map_updates_text}
use Rattle.std.specs.BTreeMap.{get_by_text}
use Rattle.manifest_model.specs.Indexing.{clash, entry_sum, place_of}
use Rattle.manifest_model.proofs.Checking.{refuses}
use Rattle.manifest_model.proofs.Indexed.{within, sum_at, in_place, no_entry, place_last}
use Rattle.manifest_model.proofs.trusting.add.Goals as goal

pub index-requires : goal.index-requires
index-requires c =
    let got : get_by_text c.args.index.now c.args.item.name ≡ Some c.in-Some.at = rw c.as_str.ensures at (sym c.get.ensures.value ∙ sym c.copied.ensures ∙ c.in-Some.is) in
    omega (arith, within c.args.item.name c.args.entries.now.items c.in-Some.at (sym (c.requires c.args.item.name) ∙ got))

pub index_mut-requires : goal.index_mut-requires
index_mut-requires c =
    let got : get_by_text c.args.index.now c.args.item.name ≡ Some c.in-Some.at = rw c.as_str.ensures at (sym c.get.ensures.value ∙ sym c.copied.ensures ∙ c.in-Some.is) in
    omega (arith, within c.args.item.name c.args.entries.now.items c.in-Some.at (sym (c.requires c.args.item.name) ∙ got))

pub returns-in_err-sum-in-Some : goal.returns-in_err-sum-in-Some
returns-in_err-sum-in-Some c =
    let got : get_by_text c.args.index.now c.args.item.name ≡ Some c.in-Some.at = rw c.as_str.ensures at (sym c.get.ensures.value ∙ sym c.copied.ensures ∙ c.in-Some.is) in
    let of_entry : c.index.result.now.sum ≡ entry_sum c.args.item.name c.args.entries.now.items =
    ap (λ e. e.sum) c.index.ensures ∙ sum_at c.args.item.name c.args.entries.now.items c.in-Some.at c.index.result.now (sym (c.requires c.args.item.name) ∙ got) in
    refuses _ (clash (entry_sum c.args.item.name c.args.entries.now.items) c.args.item) c.from_residual.result c.in_err-sum-in-Some.field-0.0 c.from_residual.ensures.1 (sym (ap (λ s. clash s c.args.item) of_entry) ∙ c.in_err-sum-in-Some.ensures)

pub returns-in_ok-sum-in-Some : goal.returns-in_ok-sum-in-Some
returns-in_ok-sum-in-Some c =
    let got : get_by_text c.args.index.now c.args.item.name ≡ Some c.in-Some.at = rw c.as_str.ensures at (sym c.get.ensures.value ∙ sym c.copied.ensures ∙ c.in-Some.is) in
    let (none, whole, places) = in_place c.args.item c.args.entries.now.items c.in-Some.at c.index.result.now c.index_mut.result.now c.in_ok-sum-in-Some.sum (sym (c.requires c.args.item.name) ∙ got) c.index.ensures c.index_mut.ensures.value c.in_ok-sum-in-Some.ensures.0 c.in_ok-sum-in-Some.ensures.1 in
    (none, whole, λ q. c.requires q ∙ sym (places q))

pub returns-in_ok-push-in-None : goal.returns-in_ok-push-in-None
returns-in_ok-push-in-None c =
    let got : get_by_text c.args.index.now c.args.item.name ≡ None = rw c.as_str.ensures at (sym c.get.ensures.value ∙ sym c.copied.ensures ∙ c.in-None.is) in
    let absent : place_of c.args.item.name c.args.entries.now.items ≡ None = sym (c.requires c.args.item.name) ∙ got in
    let (no_sum, last) = no_entry c.args.item c.args.entries.now.items absent in
    let key : string_bytes c.in_ok-name-in-None.name ≡ c.args.item.name = c.in_ok-name-in-None.ensures.ok ∙ c.as_str-in-None.ensures in
    let len : c.len.result ≡ length c.args.entries.now.items = omega (arith, c.len.ensures) in (
      ap (λ s. clash s c.args.item) no_sum,
      c.in_ok-push-in-None.ensures.items ∙ sym last,
      λ q. rw key at (btree_map_updates_text (string_bytes c.in_ok-name-in-None.name) c.args.index.now c.insert.new.self _ c.in_ok-insert-in-None.ensures.updates q)
          ∙ rw (len, c.requires q) (sym (place_last c.args.item c.args.entries.now.items absent q)) ∙ sym (ap (place_of q) c.in_ok-push-in-None.ensures.items),
    )
