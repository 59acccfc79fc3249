use Rattle.std.proofs.Common.{inr, refl}
use Rattle.std.proofs.lemmas.Option.{MatchOption-at_some}
use Rattle.enclave_measure.specs.Layouts.{NoSize}
use Rattle.enclave_measure.proofs.layout.take_enclave.Goals as goal

pub returns-then-not-is_size : goal.returns-then-not-is_size
returns-then-not-is_size c = inr (NoSize c.in-Some.size c.in-Some.ssa (MatchOption-at_some _ _ _ c.in-Some.is c.in_ok-size.ensures) (λ good. absurd (let e = c.if-not-is_size.ensures.1 good in cc)) refl)
