-- The same answers lead two openings to one end.
use Rattle.std.proofs.Common.{◌≡◌, ℕ, List, [], ◌∷◌, length, refl, ap, ap₂, ◌∙◌, sym, arith, subst, Option, Some, None, IfSome, Result, Ok}
use Rattle.std.proofs.lemmas.Option.{same_Some, none-some}
use Rattle.node_layout.specs.Faults.{IsSomeMetaText}
use Rattle.node_layout.specs.Opening.{OpensTo, IsOpenFault}
use Rattle.node_layout.specs.declared.damage.Kind.{Kind}
use Rattle.node_layout.specs.declared.damage.Kind.TheVariants as kinds
use Rattle.node_layout.specs.declared.metadata.MetaSecret.{MetaSecret}
use Rattle.node_layout.proofs.Secrets.{opens_to_one}
use Rattle.pf_io.specs.Host.{Name, Answer, LengthWas}
use Rattle.pf_session.specs.State.{SessionState}
use Rattle.pf_session.specs.Opening.{node_answers, IsOpenable, BlockRefused, not_protected, node_short, update_pending, other_version, SecretRefused, not_opened, other_path, IsAccepted, damaged_zero, opened_session, misnamed, absent, block_refused, secret_refused, accepted, OneOpening}
use Rattle.pf_session.specs.declared.open_fault.OpenFault.{OpenFault}
use Rattle.pf_session.specs.declared.open_fault.OpenFault.TheVariants as faults
use Rattle.pf_session.proofs.OpenStanding.{failed, not_block}

one_refusal : (block : List ℕ) (fault other : OpenFault) → BlockRefused block fault → BlockRefused block other → fault ≡ other
one_refusal block f g (not_protected few a is) (not_protected few' a' is') = is ∙ sym is'
one_refusal block f g (not_protected few a is) (node_short a' b' is') = absurd (a a')
one_refusal block f g (not_protected few a is) (update_pending a' b' c' is') = absurd (a a')
one_refusal block f g (not_protected few a is) (other_version m n b' c' d' is') = absurd (a d'.0)
one_refusal block f g (node_short a b is) (not_protected few' a' is') = absurd (a' a)
one_refusal block f g (node_short a b is) (node_short a' b' is') = is ∙ sym is'
one_refusal block f g (node_short a b is) (update_pending a' b' c' is') = absurd (omega (arith, b, b'))
one_refusal block f g (node_short a b is) (other_version m n b' c' d' is') = absurd (omega (arith, b, b'))
one_refusal block f g (update_pending a b c is) (not_protected few' a' is') = absurd (a' a)
one_refusal block f g (update_pending a b c is) (node_short a' b' is') = absurd (omega (arith, b, b'))
one_refusal block f g (update_pending a b c is) (update_pending a' b' c' is') = is ∙ sym is'
one_refusal block f g (update_pending a b c is) (other_version m n b' c' d' is') = absurd (c c')
one_refusal block f g (other_version m n b c d is) (not_protected few' a' is') = absurd (a' d.0)
one_refusal block f g (other_version m n b c d is) (node_short a' b' is') = absurd (omega (arith, b, b'))
one_refusal block f g (other_version m n b c d is) (update_pending a' b' c' is') = absurd (c' c)
one_refusal block f g (other_version m n b c d is) (other_version m' n' b' c' d' is') = is ∙ ap₂ (λ (x y : ℕ). faults.BadVersion x y) (d.1 ∙ sym d'.1) (d.2 ∙ sym d'.2) ∙ sym is'

one_kind : (key block : List ℕ) (kind other : Kind) → IsOpenFault key block kind → IsOpenFault key block other → kind ≡ other
one_kind key block kinds.Short kind w v = absurd w
one_kind key block kinds.Tag kinds.Short w v = absurd v
one_kind key block kinds.Tag kinds.Tag w v = refl
one_kind key block kinds.Tag kinds.Text w v = absurd (none-some v.0 (sym w ∙ v.1))
one_kind key block kinds.Tag kinds.Log w v = absurd v
one_kind key block kinds.Text kinds.Short w v = absurd v
one_kind key block kinds.Text kinds.Tag w v = absurd (none-some w.0 (sym v ∙ w.1))
one_kind key block kinds.Text kinds.Text w v = refl
one_kind key block kinds.Text kinds.Log w v = absurd v
one_kind key block kinds.Log kind w v = absurd w

no_fault : (key block : List ℕ) (secret : MetaSecret) (kind : Kind) → OpensTo key block secret → IsOpenFault key block kind → ⊥
no_fault key block secret kinds.Short opened w = w
no_fault key block secret kinds.Tag opened w = none-some opened.0 (sym w ∙ opened.1)
no_fault key block secret kinds.Text opened w = w.2 (subst IsSomeMetaText (same_Some opened.0 w.0 (sym opened.1 ∙ w.1)) (_, (_, (_, (_, (_, opened.2))))))
no_fault key block secret kinds.Log opened w = w

one_path : (key block : List ℕ) (secret other : MetaSecret) → OpensTo key block secret → OpensTo key block other → secret.path ≡ other.path
one_path key block secret other opened opened' = ap (λ (m : MetaSecret). m.path) (opens_to_one key block secret other opened opened')

one_secret_refusal : (key : List ℕ) (path : Option (List ℕ)) (block : List ℕ) (fault other : OpenFault) → SecretRefused key path block fault → SecretRefused key path block other → fault ≡ other
one_secret_refusal key path block f g (not_opened kind why is) (not_opened kind' why' is') = is ∙ ap damaged_zero (one_kind key block kind kind' why why') ∙ sym is'
one_secret_refusal key path block f g (not_opened kind why is) (other_path secret given opened given_is other is') = absurd (no_fault key block secret kind opened why)
one_secret_refusal key path block f g (other_path secret given opened given_is other is) (not_opened kind why is') = absurd (no_fault key block secret kind opened why)
one_secret_refusal key path block f g (other_path secret given opened given_is other is) (other_path secret' given' opened' given_is' other' is') =
    is ∙ ap (λ (p : List ℕ). faults.WrongPath p) (one_path key block secret secret' opened opened') ∙ sym is'

wrong_path : (path : Option (List ℕ)) (given stored : List ℕ) → path ≡ Some given → (given ≡ stored → ⊥) → IfSome path (λ g. g ≡ stored) → ⊥
wrong_path (Some other) given stored same ne is = ne (same_Some given other (sym same) ∙ is)
wrong_path None given stored same ne is = none-some given same

not_both : (key : List ℕ) (path : Option (List ℕ)) (block : List ℕ) (secret : MetaSecret) → IsAccepted key path block secret → (fault : OpenFault) → SecretRefused key path block fault → ⊥
not_both key path block secret agrees fault (not_opened kind why is) = no_fault key block secret kind agrees.opened why
not_both key path block secret agrees fault (other_path secret' given opened given_is other is) =
    wrong_path path given secret.path given_is (λ same. other (same ∙ one_path key block secret secret' agrees.opened opened)) agrees.path_is

other_length : (name : Name) (size : ℕ) (block : List ℕ) (these : List Answer) → these ≡ LengthWas name None ∷ [] → these ≡ node_answers name size block → ⊥
other_length name size block these is is' = omega (arith, ap (λ (l : List Answer). length l) is, ap (λ (l : List Answer). length l) is')

same_block : (name : Name) (size size' : ℕ) (block block' : List ℕ) (these : List Answer) → these ≡ node_answers name size block → these ≡ node_answers name size' block' → block' ≡ block
same_block name size size' block block' these is is' = by_list (sym is' ∙ is) where
  by_list : node_answers name size' block' ≡ node_answers name size block → block' ≡ block
  by_list same = cc

pub one_opening : OneOpening
one_opening key name path these r o (misnamed bad none is) (misnamed bad' none' is') = is ∙ sym is'
one_opening key name path these r o (misnamed bad none is) (absent good are is') = absurd (bad good)
one_opening key name path these r o (misnamed bad none is) (block_refused size' block' fault' good are' why' is') = absurd (bad good)
one_opening key name path these r o (misnamed bad none is) (secret_refused size' block' fault' good are' ready' why' is') = absurd (bad good)
one_opening key name path these r o (misnamed bad none is) (accepted size' block' secret' good are' ready' why' is') = absurd (bad good)
one_opening key name path these r o (absent good are is) (misnamed bad none is') = absurd (bad good)
one_opening key name path these r o (absent good are is) (absent good' are' is') = is ∙ sym is'
one_opening key name path these r o (absent good are is) (block_refused size' block' fault' good' are' why' is') = absurd (other_length name size' block' these are are')
one_opening key name path these r o (absent good are is) (secret_refused size' block' fault' good' are' ready' why' is') = absurd (other_length name size' block' these are are')
one_opening key name path these r o (absent good are is) (accepted size' block' secret' good' are' ready' why' is') = absurd (other_length name size' block' these are are')
one_opening key name path these r o (block_refused size block fault good are why is) (misnamed bad none is') = absurd (bad good)
one_opening key name path these r o (block_refused size block fault good are why is) (absent good' are' is') = absurd (other_length name size block these are' are)
one_opening key name path these r o (block_refused size block fault good are why is) (block_refused size' block' fault' good' are' why' is') =
    is ∙ ap failed (one_refusal block fault fault' why (subst (λ (b : List ℕ). BlockRefused b fault') (same_block name size size' block block' these are are') why')) ∙ sym is'
one_opening key name path these r o (block_refused size block fault good are why is) (secret_refused size' block' fault' good' are' ready' why' is') =
    absurd (not_block block (subst IsOpenable (same_block name size size' block block' these are are') ready') fault why)
one_opening key name path these r o (block_refused size block fault good are why is) (accepted size' block' secret' good' are' ready' why' is') =
    absurd (not_block block (subst IsOpenable (same_block name size size' block block' these are are') ready') fault why)
one_opening key name path these r o (secret_refused size block fault good are ready why is) (misnamed bad none is') = absurd (bad good)
one_opening key name path these r o (secret_refused size block fault good are ready why is) (absent good' are' is') = absurd (other_length name size block these are' are)
one_opening key name path these r o (secret_refused size block fault good are ready why is) (block_refused size' block' fault' good' are' why' is') =
    absurd (not_block block ready fault' (subst (λ (b : List ℕ). BlockRefused b fault') (same_block name size size' block block' these are are') why'))
one_opening key name path these r o (secret_refused size block fault good are ready why is) (secret_refused size' block' fault' good' are' ready' why' is') =
    is ∙ ap failed (one_secret_refusal key path block fault fault' why (subst (λ (b : List ℕ). SecretRefused key path b fault') (same_block name size size' block block' these are are') why')) ∙ sym is'
one_opening key name path these r o (secret_refused size block fault good are ready why is) (accepted size' block' secret' good' are' ready' why' is') =
    absurd (not_both key path block secret' (subst (λ (b : List ℕ). IsAccepted key path b secret') (same_block name size size' block block' these are are') why') fault why)
one_opening key name path these r o (accepted size block secret good are ready why is) (misnamed bad none is') = absurd (bad good)
one_opening key name path these r o (accepted size block secret good are ready why is) (absent good' are' is') = absurd (other_length name size block these are' are)
one_opening key name path these r o (accepted size block secret good are ready why is) (block_refused size' block' fault' good' are' why' is') =
    absurd (not_block block ready fault' (subst (λ (b : List ℕ). BlockRefused b fault') (same_block name size size' block block' these are are') why'))
one_opening key name path these r o (accepted size block secret good are ready why is) (secret_refused size' block' fault' good' are' ready' why' is') =
    absurd (not_both key path block secret why fault' (subst (λ (b : List ℕ). SecretRefused key path b fault') (same_block name size size' block block' these are are') why'))
one_opening key name path these r o (accepted size block secret good are ready why is) (accepted size' block' secret' good' are' ready' why' is') =
    let same = same_block name size size' block block' these are are' in
    let why_here = subst (λ (b : List ℕ). IsAccepted key path b secret') same why' in
    let one = opens_to_one key block secret secret' why.opened why_here.opened in
    is ∙ ap₂ (λ (b : List ℕ) (m : MetaSecret). let x : Result SessionState OpenFault = Ok (opened_session key name b m) in x) (sym same) one ∙ sym is'
