use Rattle.std.proofs.Common.{inr, refl, arith}
use Rattle.std.proofs.lemmas.Option.{MatchOption-at_some}
use Rattle.enclave_measure.specs.Layouts.{Outside}
use Rattle.enclave_measure.proofs.layout.take_page.Goals as goal

pub returns-then-page-size : goal.returns-then-page-size
returns-then-page-size c = inr (λ earlier. Outside c.in-Some.page (MatchOption-at_some _ _ _ c.in-Some.is c.in_ok-page.ensures) (omega (arith, c.if-page-size.true, c.requires.not_small)) refl)
