-- Answers of the host as events.
use Rattle.std.proofs.Common.{◌≡◌, List, [], ◌∷◌, ◌++◌, refl, subst, ap, sym}
use Rattle.std.proofs.lemmas.List.{map-append}
use Rattle.pf_io.specs.Host.{Answer, HostState}
use Rattle.pf_tool.specs.World.{World, with_host}
use Rattle.pf_tool.specs.Events.{Answers, answers_in, words_in, pieces_in}
use Rattle.pf_tool.specs.Happened.{HostPassed, Passed}
use Rattle.pf_tool.specs.InputFiles.{asked}
use Rattle.pf_tool.proofs.Composing.{passed_host}

pub asked_answers : (these : List Answer) → answers_in (asked these) ≡ these
asked_answers [] = refl
asked_answers (answer ∷ these) = ap (λ (l : List Answer). answer ∷ l) (asked_answers these)

pub asked_words : (these : List Answer) → words_in (asked these) ≡ []
asked_words [] = refl
asked_words (answer ∷ these) = asked_words these

pub asked_pieces : (these : List Answer) → pieces_in (asked these) ≡ []
asked_pieces [] = refl
asked_pieces (answer ∷ these) = asked_pieces these

pub asked_then : (these those : List Answer) → asked (these ++ those) ≡ asked these ++ asked those
asked_then these those = map-append Answers these those

-- calls of the host alone
pub passed_asked : (these : List Answer) (world : World) (old new : HostState) → HostPassed these old new → Passed (asked these) (with_host world old) (with_host world new)
passed_asked these world old new passed =
    passed_host (asked these) world old new (asked_words these) (asked_pieces these) (subst (λ (l : List Answer). HostPassed l old new) (sym (asked_answers these)) passed)
