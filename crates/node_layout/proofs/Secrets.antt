-- A text is one of one secret, and a node opens to one.
use Rattle.std.proofs.Common.{◌≡◌, ℕ, List}
use Rattle.node_layout.specs.declared.metadata.MetaSecret.{MetaSecret}
use Rattle.node_layout.specs.Metadata.{IsMetaText}
use Rattle.node_layout.specs.Opening.{OpensTo}
use Rattle.node_layout.proofs.Texts.{fields_same}

made_same : (make : List ℕ → ℕ → List ℕ → List ℕ → List ℕ → MetaSecret) (a : List ℕ) (b : ℕ) (c d e f : List ℕ) (g : ℕ) (h i j : List ℕ) → a ≡ f → b ≡ g → c ≡ h → d ≡ i → e ≡ j → make a b c d e ≡ make f g h i j
made_same make a b c d e f g h i j p q r s t = cc

pub one_secret : (text : List ℕ) (secret other : MetaSecret) → IsMetaText text secret.path secret.size secret.root_key secret.root_tag secret.first → IsMetaText text other.path other.size other.root_key other.root_tag other.first → secret ≡ other
one_secret text secret other h k =
    let same = fields_same text secret.path secret.size secret.root_key secret.root_tag secret.first other.path other.size other.root_key other.root_tag other.first h k in
    let make : List ℕ → ℕ → List ℕ → List ℕ → List ℕ → MetaSecret = λ path size root_key root_tag first. record { path = path; size = size; root_key = root_key; root_tag = root_tag; first = first } in
    made_same make secret.path secret.size secret.root_key secret.root_tag secret.first other.path other.size other.root_key other.root_tag other.first same.0 same.1 same.2 same.3 same.4

of_same_text : (text same : List ℕ) (secret other : MetaSecret) → text ≡ same → IsMetaText text secret.path secret.size secret.root_key secret.root_tag secret.first → IsMetaText same other.path other.size other.root_key other.root_tag other.first → secret ≡ other
of_same_text text same secret other e h k = one_secret text secret other h (rw e k)

pub opens_to_one : (user node : List ℕ) (secret other : MetaSecret) → OpensTo user node secret → OpensTo user node other → secret ≡ other
opens_to_one user node secret other h k =
    let text : List ℕ = h.0 in
    let same : List ℕ = k.0 in
    let there : text ≡ same = cc (h.1, k.1) in
    of_same_text text same secret other there h.2 k.2
