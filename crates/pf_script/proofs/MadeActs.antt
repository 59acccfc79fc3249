-- The acts of a line are of its kind.
use Rattle.std.proofs.Common.{inl, inr, ⊎_elim, List, [], ◌∷◌, ◌++◌, refl, sym, subst}
use Rattle.std.proofs.lemmas.List.Elements.{Contains-append_cases}
use Rattle.std.specs.Prelude.{Contains}
use Rattle.node_tree.specs.Sheet.{Sheet}
use Rattle.pf_io.specs.Disk.{Name}
use Rattle.pf_script.specs.BookActs.{Deed, Act, Names, Among}
use Rattle.pf_script.specs.BookTurns.{IsFlushOf, MadeBy}
use Rattle.pf_script.specs.Script.{OwnSeat, Seat, Own}
use Rattle.pf_script.specs.Turns.{flushes}
use Rattle.pf_script.specs.declared.line.ScriptLine.{ScriptLine}
use Rattle.pf_script.proofs.Seats.{not_in_none, only_one}

-- each of some acts is so
abbrev pub EachIs : (Deed → Type 0) → List Act → Type 0
EachIs Of acts = (act : Act) → Contains acts act → Of act.deed

-- a line that may flush its seat
abbrev pub MayFlush : ScriptLine → Type 0
MayFlush line = (seat : Seat) (deed : Deed) → IsFlushOf seat deed → MadeBy line seat deed

pub none_is : (Of : Deed → Type 0) → EachIs Of []
none_is Of act has = absurd (not_in_none act has)

pub one_is : (Of : Deed → Type 0) (one : Act) → Of one.deed → EachIs Of (one ∷ [])
one_is Of one is act has = subst (λ (x : Act). Of x.deed) (sym (only_one one act has)) is

-- some acts, and then others
pub is_on : (Of : Deed → Type 0) (acts more : List Act) → EachIs Of acts → EachIs Of more → EachIs Of (acts ++ more)
is_on Of acts more each too act has = ⊎_elim (λ here. each act here) (λ there. too act there) (Contains-append_cases acts more act has)

-- flushes of a seat
pub are_flushes : (own : OwnSeat) (sheets : List Sheet) → EachIs (IsFlushOf (Own own)) (flushes own sheets)
are_flushes own [] = none_is (IsFlushOf (Own own))
are_flushes own (sheet ∷ sheets) = is_on (IsFlushOf (Own own)) (flushes own (sheet ∷ [])) (flushes own sheets) (one_is (IsFlushOf (Own own)) _ refl) (are_flushes own sheets)

-- the names of an act are among those of all
pub among_of : (acts : List Act) (act : Act) (n : Name) → Contains acts act → Names act.deed n → Among acts n
among_of [] act n has is = absurd (not_in_none act has)
among_of (one ∷ acts) act n has is =
    ⊎_elim (λ here. inl (subst (λ (x : Act). Names x.deed n) (only_one one act here) is)) (λ there. inr (among_of acts act n there is)) (Contains-append_cases (one ∷ []) acts act has)
