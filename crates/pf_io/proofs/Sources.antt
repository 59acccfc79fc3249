-- What a reader is known to have left, over several reads.
use Rattle.std.proofs.Common.{◌∙◌, sym, refl, List, ℕ, Option, Some, None}
use Rattle.std.specs.Io.KnownBytes.{Keeps, Consumes}

pub keeps_same : (o : Option (List ℕ)) → Keeps o o
keeps_same None = tt
keeps_same (Some xs) = refl

pub keeps_then : (o p q : Option (List ℕ)) → Keeps o p → Keeps p q → Keeps o q
keeps_then None p q first second = tt
keeps_then (Some xs) None q first second = absurd first
keeps_then (Some xs) (Some ys) None first second = absurd second
keeps_then (Some xs) (Some ys) (Some zs) first second = second ∙ first

pub keeps_consumes : (o p q : Option (List ℕ)) (bs : List ℕ) → Keeps o p → Consumes p q bs → Consumes o q bs
keeps_consumes None p q bs first second = tt
keeps_consumes (Some xs) None q bs first second = absurd first
keeps_consumes (Some xs) (Some ys) None bs first second = absurd second
keeps_consumes (Some xs) (Some ys) (Some zs) bs first second = sym first ∙ second
