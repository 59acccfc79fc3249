use Rattle.std.proofs.lemmas.Slice.Eq.{ends_is}
use Rattle.std.proofs.lemmas.Bool.Decides.{Decides-eqb}
use Rattle.pf_io.proofs.names.ends_in.Goals as goal

pub returns : goal.returns
returns c =
    let ends = ends_is Decides-eqb c.args.part.now c.args.end.now c.ends_with.result c.ends_with.ensures.value in
    (λ is. record { front = _; whole = ends.0 is }, λ ends_in. ends.1 ends_in.front ends_in.whole)
