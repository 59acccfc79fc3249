-- A file comes to one list of pieces and one ending.
use Rattle.std.proofs.Common.{◌≡◌, ⊎_elim, ℕ, List, [], refl, ap, ◌∙◌, sym, subst, arith, Option, Some}
use Rattle.std.specs.List.{AllByRecursion}
use Rattle.node_layout.specs.Faults.{IsPlainFault}
use Rattle.node_layout.specs.Metadata.{IsMetaText, IsPlain, meta_opens}
use Rattle.node_layout.specs.Opening.{OpensTo, IsOpenFault}
use Rattle.node_layout.specs.declared.damage.Damage.{Damage}
use Rattle.node_layout.specs.declared.damage.Kind.{Kind}
use Rattle.node_layout.specs.declared.damage.Kind.TheVariants as kinds
use Rattle.node_layout.specs.declared.metadata.MetaSecret.{MetaSecret}
use Rattle.node_layout.specs.declared.metadata.PlainFault.TheVariants as plain_faults
use Rattle.node_tree.specs.Opened.{block_of}
use Rattle.node_tree.proofs.Pieces.{one_pieces}
use Rattle.pf_io.specs.Host.{Name, Files, contents}
use Rattle.pf_io.specs.Answered.{IsAnswerOf}
use Rattle.pf_tool.specs.Events.{answers_in}
use Rattle.pf_tool.specs.Endings.{Ending, Damaged, Refused, BadVersion}
use Rattle.pf_session.specs.Opening.{IsOpenable}
use Rattle.pf_tool.specs.Decrypting.{NodeRefused, not_protected, node_short, node_pending, node_version, node_damaged, end_of, ComesTo, node_refused, pieces_read, last_events, piece_events}
use Rattle.pf_tool.proofs.Following.{follow}

fault_one : (user node : List ℕ) (a b : Kind) → IsOpenFault user node a → IsOpenFault user node b → a ≡ b
fault_one user node kinds.Short b is also = absurd is
fault_one user node kinds.Log b is also = absurd is
fault_one user node kinds.Tag kinds.Tag is also = refl
fault_one user node kinds.Tag kinds.Text is also =
    let opens : meta_opens user node ≡ Some also.0 = also.1 in
    absurd (cc)
fault_one user node kinds.Tag kinds.Short is also = absurd also
fault_one user node kinds.Tag kinds.Log is also = absurd also
fault_one user node kinds.Text kinds.Tag is also =
    let opens : meta_opens user node ≡ Some is.0 = is.1 in
    absurd (cc)
fault_one user node kinds.Text kinds.Text is also = refl
fault_one user node kinds.Text kinds.Short is also = absurd also
fault_one user node kinds.Text kinds.Log is also = absurd also

-- a node that opens has no fault
pub fault_not_open : (user node : List ℕ) (kind : Kind) (secret : MetaSecret) → IsOpenFault user node kind → OpensTo user node secret → ⊥
fault_not_open user node kinds.Short secret is opens = is
fault_not_open user node kinds.Log secret is opens = is
fault_not_open user node kinds.Tag secret is opens =
    let there : meta_opens user node ≡ Some opens.0 = opens.1 in
    absurd (cc)
fault_not_open user node kinds.Text secret is opens =
    let there : meta_opens user node ≡ Some opens.0 = opens.1 in
    let other : meta_opens user node ≡ Some is.0 = is.1 in
    let same : opens.0 ≡ is.0 = cc in
    is.2 (secret.path, (secret.size, (secret.root_key, (secret.root_tag, (secret.first, subst (λ (t : List ℕ). IsMetaText t secret.path secret.size secret.root_key secret.root_tag secret.first) same opens.2)))))

version_apart : {A : Type 0} (node : List ℕ) (major minor : ℕ) → IsPlainFault node (plain_faults.BadVersion major minor) → IsPlain node → A
version_apart node major minor version plain = absurd (⊎_elim (λ other. other (version.1 ∙ plain.major)) (λ other. other (version.2 ∙ plain.minor)) version.3)

refused_one : (user node : List ℕ) (e f : Ending) → NodeRefused user node e → NodeRefused user node f → e ≡ f
refused_one user node e f (not_protected other is) (not_protected other2 is2) = is ∙ sym is2
refused_one user node e f (not_protected other is) (node_short magic short is2) = absurd (other magic)
refused_one user node e f (not_protected other is) (node_pending magic long flag is2) = absurd (other magic)
refused_one user node e f (not_protected other is) (node_version major minor long flag version is2) = absurd (other version.0)
refused_one user node e f (not_protected other is) (node_damaged kind whole fault is2) = absurd (other whole.plain.magic_is)
refused_one user node e f (node_short magic short is) (not_protected other is2) = absurd (other magic)
refused_one user node e f (node_short magic short is) (node_short magic2 short2 is2) = is ∙ sym is2
refused_one user node e f (node_short magic short is) (node_pending magic2 long flag is2) = absurd (omega (arith, short, long))
refused_one user node e f (node_short magic short is) (node_version major minor long flag version is2) = absurd (omega (arith, short, long))
refused_one user node e f (node_short magic short is) (node_damaged kind whole fault is2) = absurd (omega (arith, short, whole.whole))
refused_one user node e f (node_pending magic long flag is) (not_protected other is2) = absurd (other magic)
refused_one user node e f (node_pending magic long flag is) (node_short magic2 short is2) = absurd (omega (arith, short, long))
refused_one user node e f (node_pending magic long flag is) (node_pending magic2 long2 flag2 is2) = is ∙ sym is2
refused_one user node e f (node_pending magic long flag is) (node_version major minor long2 none version is2) = absurd (flag none)
refused_one user node e f (node_pending magic long flag is) (node_damaged kind whole fault is2) = absurd (flag whole.flag)
refused_one user node e f (node_version major minor long none version is) (not_protected other is2) = absurd (other version.0)
refused_one user node e f (node_version major minor long none version is) (node_short magic short is2) = absurd (omega (arith, short, long))
refused_one user node e f (node_version major minor long none version is) (node_pending magic long2 flag is2) = absurd (flag none)
refused_one user node e f (node_version major minor long none version is) (node_version major2 minor2 long2 none2 version2 is2) =
    is ∙ ap (λ (n : ℕ). Refused (BadVersion n minor)) (version.1 ∙ sym version2.1) ∙ ap (λ (n : ℕ). Refused (BadVersion major2 n)) (version.2 ∙ sym version2.2) ∙ sym is2
refused_one user node e f (node_version major minor long none version is) (node_damaged kind whole fault is2) = version_apart node major minor version whole.plain
refused_one user node e f (node_damaged kind whole fault is) (not_protected other is2) = absurd (other whole.plain.magic_is)
refused_one user node e f (node_damaged kind whole fault is) (node_short magic short is2) = absurd (omega (arith, short, whole.whole))
refused_one user node e f (node_damaged kind whole fault is) (node_pending magic long flag is2) = absurd (flag whole.flag)
refused_one user node e f (node_damaged kind whole fault is) (node_version major minor long none version is2) = version_apart node major minor version whole.plain
refused_one user node e f (node_damaged kind whole fault is) (node_damaged other whole2 fault2 is2) = is ∙ ap (λ (k : Kind). Damaged 0 k) (fault_one user node kind other fault fault2) ∙ sym is2

pub not_refused : (user node : List ℕ) (e : Ending) (secret : MetaSecret) → IsOpenable node → OpensTo user node secret → NodeRefused user node e → ⊥
not_refused user node e secret whole opens (not_protected other is) = other whole.plain.magic_is
not_refused user node e secret whole opens (node_short magic short is) = omega (arith, short, whole.whole)
not_refused user node e secret whole opens (node_pending magic long flag is) = flag whole.flag
not_refused user node e secret whole opens (node_version major minor long none version is) = version_apart node major minor version whole.plain
not_refused user node e secret whole opens (node_damaged kind whole2 fault is) = fault_not_open user node kind secret fault opens

pub comes_one : (user file : List ℕ) (pieces others : List (List ℕ)) (ending other : Ending) → ComesTo user file pieces ending → ComesTo user file others other → (pieces ≡ others) × (ending ≡ other)
comes_one user file pieces others ending other (node_refused refused none) (node_refused refused2 none2) = (none ∙ sym none2, refused_one user (block_of file 0) ending other refused refused2)
comes_one user file pieces others ending other (node_refused refused none) (pieces_read end whole are is) = absurd (not_refused user (block_of file 0) ending are.secret whole are.opens_to refused)
comes_one user file pieces others ending other (pieces_read end whole are is) (node_refused refused none) = absurd (not_refused user (block_of file 0) other are.secret whole are.opens_to refused)
comes_one user file pieces others ending other (pieces_read end whole are is) (pieces_read end2 whole2 are2 is2) =
    let same = one_pieces user file pieces others end end2 are are2 in
    (same.0, is ∙ ap (λ (e : Option Damage). end_of e) same.1 ∙ sym is2)

-- nothing more is asked where node 0 is refused
pub refused_last : (user node : List ℕ) (ending : Ending) → NodeRefused user node ending → (input : Name) (file : List ℕ) → last_events input file 0 ending ≡ []
refused_last user node ending (not_protected other is) input file = ap (λ (e : Ending). last_events input file 0 e) is
refused_last user node ending (node_short magic short is) input file = ap (λ (e : Ending). last_events input file 0 e) is
refused_last user node ending (node_pending magic long flag is) input file = ap (λ (e : Ending). last_events input file 0 e) is
refused_last user node ending (node_version major minor long none version is) input file = ap (λ (e : Ending). last_events input file 0 e) is
refused_last user node ending (node_damaged kind whole fault is) input file = ap (λ (e : Ending). last_events input file 0 e) is

pub refused_events : (user file : List ℕ) (pieces : List (List ℕ)) (ending : Ending) → NodeRefused user (block_of file 0) ending → pieces ≡ [] → (input : Name) (other : List ℕ) → piece_events input other 0 pieces ending ≡ []
refused_events user file pieces ending refused none input other = ap (λ (ps : List (List ℕ)). piece_events input other 0 ps ending) none ∙ refused_last user (block_of file 0) ending refused input other

-- a file whose answers are those of another comes to what the other does
pub follow_file : (user : List ℕ) (input : Name) (files : Files) (file : List ℕ) (pieces : List (List ℕ)) (ending : Ending) → ComesTo user file pieces ending → block_of file 0 ≡ block_of (contents (files input)) 0
    → AllByRecursion (IsAnswerOf files) (answers_in (piece_events input file 0 pieces ending))
    → ComesTo user (contents (files input)) pieces ending × (piece_events input file 0 pieces ending ≡ piece_events input (contents (files input)) 0 pieces ending)
follow_file user input files file pieces ending (node_refused refused none) first all = (
  node_refused (subst (λ (b : List ℕ). NodeRefused user b ending) first refused) none,
  refused_events user file pieces ending refused none input file ∙ sym (refused_events user file pieces ending refused none input (contents (files input))),
)
follow_file user input files file pieces ending (pieces_read end whole are is) first all =
    let all_here = subst (λ (e : Ending). AllByRecursion (IsAnswerOf files) (answers_in (piece_events input file 0 pieces e))) is all in
    let rest = follow input files file are.secret 0 pieces end (λ some k lt. let e : k ≡ 0 = omega arith in subst (λ (j : ℕ). block_of file j ≡ block_of (contents (files input)) j) (sym e) first) are.pieces_are all_here in (
      pieces_read end (subst IsOpenable first whole) (record { secret = are.secret; opens_to = subst (λ (b : List ℕ). OpensTo user b are.secret) first are.opens_to; pieces_are = rest.0 }) is,
      ap (λ (e : Ending). piece_events input file 0 pieces e) is ∙ rest.1 ∙ sym (ap (λ (e : Ending). piece_events input (contents (files input)) 0 pieces e) is),
    )
