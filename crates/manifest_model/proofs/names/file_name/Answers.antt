use Rattle.std.proofs.Common.{◌≡◌, ◌++◌, drop, ap, arith, codes, get_or}
use Rattle.std.proofs.lemmas.Grind.{common_steps}
use Rattle.std.proofs.lemmas.Bool.Decides.{Decides-eqb}
use Rattle.std.proofs.lemmas.Slice.Eq.{starts_is}
use Rattle.std.proofs.lemmas.Str.{IsCharBoundary-after_ascii}
use Rattle.manifest_model.specs.Names.{file_name}
use Rattle.manifest_model.proofs.names.file_name.Goals as goal

pub range_from-requires : goal.range_from-requires
range_from-requires c =
    let same : c.args.uri.now ≡ codes "file:" ++ drop 5 c.args.uri.now = (starts_is Decides-eqb c.args.uri.now (codes "file:") c.starts_with.result (rw c.as_bytes.ensures.value at c.starts_with.ensures.value)).0 c.if-starts_with.true in
    let colon : get_or c.args.uri.now 4 0 ≡ 58 = ap (λ bytes. get_or bytes 4 0) same in
    λ _. IsCharBoundary-after_ascii c.args.uri.now 4 c.utf8.uri (omega (arith, c.starts_with.ensures.bound c.if-starts_with.true, c.as_bytes.ensures.len)) (omega (arith, colon))

pub returns-then-starts_with : goal.returns-then-starts_with
unfolding file_name
returns-then-starts_with c = grind (arith, common_steps)

pub returns-else-starts_with : goal.returns-else-starts_with
unfolding file_name
returns-else-starts_with c = grind (arith, common_steps)
