-- Where nothing is forged, an opening meets no text that is no metadata.
use Rattle.std.proofs.Common.{◌≡◌, ◌≢◌, ℕ, List, [], length, sym, ap, subst, Option, Result}
use Rattle.std.specs.Prelude.{Contains}
use Rattle.node_layout.specs.Faults.{IsSomeMetaText}
use Rattle.node_layout.specs.Opening.{IsOpenFault}
use Rattle.node_layout.specs.declared.damage.Kind.{Kind}
use Rattle.node_layout.specs.declared.damage.Kind.TheVariants as kinds
use Rattle.node_tree.specs.Content.{first_text}
use Rattle.node_tree.specs.Sheet.{Sheet, root_of}
use Rattle.node_tree.specs.Unforged.{Unforged, WasGiven}
use Rattle.node_tree.proofs.Standing.{meta_is_text}
use Rattle.pf_io.specs.Host.{Name, Answer, Gave, HostState}
use Rattle.pf_io.proofs.Telling.{told_by, told_none}
use Rattle.pf_session.specs.State.{SessionState}
use Rattle.pf_session.specs.Opening.{node_answers, IsOpenable, BlockRefused, not_protected, node_short, update_pending, other_version, SecretRefused, not_opened, other_path, damaged_zero, OpenEnds, misnamed, absent, block_refused, secret_refused, accepted, Opens, by_answers, length_failed, read_failed, no_names}
use Rattle.pf_session.specs.Carries.{IsNoText, OpensNoText}
use Rattle.pf_session.specs.declared.open_fault.OpenFault.{OpenFault}
use Rattle.pf_session.specs.declared.open_fault.OpenFault.TheVariants as faults
use Rattle.pf_session.proofs.Backed.{block_given}
use Rattle.pf_session.proofs.OpenStanding.{failed}

no_text_by : (result : Result SessionState OpenFault) (fault : OpenFault) → result ≡ failed fault → IsNoText (failed fault) → IsNoText result
no_text_by result fault is no_text = subst (λ (r : Result SessionState OpenFault). IsNoText r) (sym is) no_text

of_fault : (fault other : OpenFault) → fault ≡ other → IsNoText (failed other) → IsNoText (failed fault)
of_fault fault other is no_text = subst (λ (f : OpenFault). IsNoText (failed f)) (sym is) no_text

of_kind : (kind : Kind) → kind ≢ kinds.Text → IsNoText (failed (damaged_zero kind))
of_kind kind other = other

of_block : (block : List ℕ) (fault : OpenFault) → BlockRefused block fault → IsNoText (failed fault)
of_block block fault (not_protected few other is) = of_fault fault faults.NotProtected is tt
of_block block fault (node_short there short is) = of_fault fault (damaged_zero kinds.Short) is (of_kind kinds.Short (λ same. absurd (cc)))
of_block block fault (update_pending there whole flag is) = of_fault fault faults.Unbuilt is tt
of_block block fault (other_version major minor whole flag other is) = of_fault fault (faults.BadVersion major minor) is tt

module _ (key : List ℕ) (sheets : List Sheet) (these : List Answer) (unforged : Unforged key sheets these) where
  opens_to_some : (block : List ℕ) → WasGiven these block → IsOpenFault key block kinds.Text → ⊥
  opens_to_some block given (some, opened, none) =
      let there = unforged.metadata block some given opened in
      let sheet = there.0 in
      let is = meta_is_text sheet (unforged.linked sheet there.1) in
      none (subst (λ (t : List ℕ). IsSomeMetaText t) (sym there.3) (sheet.path, (length sheet.content, ((root_of sheet.nodes).0, ((root_of sheet.nodes).1, (first_text sheet.content, is))))))

  of_secret : (name : Name) (size : ℕ) (path : Option (List ℕ)) (block : List ℕ) (fault : OpenFault) → these ≡ node_answers name size block → IsOpenable block → SecretRefused key path block fault → IsNoText (failed fault)
  of_secret name size path block fault is openable (other_path secret given opened path_is other fault_is) = of_fault fault (faults.WrongPath secret.path) fault_is tt
  of_secret name size path block fault is openable (not_opened kind opens fault_is) =
      of_fault fault (damaged_zero kind) fault_is
      (of_kind kind (λ same.
      opens_to_some block (record { name = name; place = 0; room = 4096; there = subst (λ (l : List Answer). Contains l (Gave name 0 4096 block)) (sym is) (block_given name size block); whole = openable.whole })
      (subst (λ (k : Kind). IsOpenFault key block k) same opens)))

  of_ends : (name : Name) (path : Option (List ℕ)) (result : Result SessionState OpenFault) → OpenEnds key name path these result → IsNoText result
  of_ends name path result (misnamed bad none is) = no_text_by result faults.BadName is tt
  of_ends name path result (absent good is_none is) = no_text_by result faults.NotFound is tt
  of_ends name path result (block_refused size block fault good are refused is) = no_text_by result fault is (of_block block fault refused)
  of_ends name path result (secret_refused size block fault good are openable refused is) = no_text_by result fault is (of_secret name size path block fault are openable refused)
  of_ends name path result (accepted size block secret good are openable is_accepted is) = subst (λ (r : Result SessionState OpenFault). IsNoText r) (sym is) tt

module _ (key : List ℕ) (name : Name) (path : Option (List ℕ)) (before after : HostState) (result : Result SessionState OpenFault) where
  abbrev Holds : List Answer → Type 0
  Holds these = (sheets : List Sheet) → Unforged key sheets these → IsNoText result

  pub no_text : Opens key name path before after result → OpensNoText key result before after
  no_text (by_answers these asked ends) = told_by Holds these before after asked.answered.told (λ sheets unforged. of_ends key sheets these unforged name path result ends)
  no_text (length_failed good asked is) = told_by Holds _ before after asked.answered.told (λ sheets unforged. no_text_by result faults.Host is tt)
  no_text (read_failed size good asked is) = told_by Holds _ before after asked.answered.told (λ sheets unforged. no_text_by result faults.Host is tt)
  no_text (no_names good still is) = told_by Holds [] before after (told_none before after (ap (λ (s : HostState). s.given) still)) (λ sheets unforged. no_text_by result faults.Memory is tt)
