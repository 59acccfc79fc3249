-- What the opening of a metadata node answers.
use Rattle.std.specs.Prelude.{◌≡◌, ℕ, List, Some, None}
use Rattle.node_layout.specs.declared.damage.Kind.{Kind}
use Rattle.node_layout.specs.declared.damage.Kind.TheVariants.{Short, Tag, Text, Log}
use Rattle.node_layout.specs.declared.metadata.MetaSecret.{MetaSecret}
use Rattle.node_layout.specs.Metadata.{IsMetaText, meta_opens}
use Rattle.node_layout.specs.Faults.{IsSomeMetaText}

-- the node opens under the user's key to the text of these fields
abbrev pub OpensTo : List ℕ → List ℕ → MetaSecret → Type 0
OpensTo user node secret =
    (text : List ℕ) × (meta_opens user node ≡ Some text) × IsMetaText text secret.path secret.size secret.root_key secret.root_tag secret.first

-- it does not open, or it opens to a text of no fields
abbrev pub IsOpenFault : List ℕ → List ℕ → Kind → Type 0
IsOpenFault user node Short = ⊥
IsOpenFault user node Tag = meta_opens user node ≡ None
IsOpenFault user node Text = (text : List ℕ) × (meta_opens user node ≡ Some text) × ¬ (IsSomeMetaText text)
IsOpenFault user node Log = ⊥
