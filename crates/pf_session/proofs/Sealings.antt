-- The sealing of a session, from the writing of its version.
use Rattle.std.proofs.Common.{◌≡◌, ℕ, true, false, List, length, refl, ap, ◌∙◌, sym, subst, None, Ok, Err}
use Rattle.std.proofs.lemmas.Bool.{false≢true}
use Rattle.pf_io.specs.Host.{HostState}
use Rattle.node_layout.specs.Metadata.{IsPath}
use Rattle.node_tree.specs.Existing.{AreKeys}
use Rattle.node_tree.specs.Next.{NextSheet, KeepsShape, IsSealedAs, IsSettled}
use Rattle.node_tree.specs.Sheet.{Sheet, IsLinked}
use Rattle.node_tree.specs.State.{TreeState, IsSound}
use Rattle.node_tree.specs.Stepping.{BacksWith}
use Rattle.node_tree.proofs.Following.{next_exists}
use Rattle.pf_session.specs.State.{SessionState}
use Rattle.pf_session.specs.Backing.{IsBacked}
use Rattle.pf_session.specs.Sealing.{HasNext}
use Rattle.pf_session.specs.Making.{KeptAtDamage}
use Rattle.pf_session.specs.Flushing.{SealsEach, KeepsName, SealedAll, SealGoes, node_short, call_failed, flushed}
use Rattle.pf_session.specs.Versions.{VersionGoes, SealsOns}
use Rattle.pf_session.specs.declared.fault.FlushFault.{FlushFault}
use Rattle.pf_session.specs.declared.fault.FlushFault.TheVariants as faults

module _ (s : SessionState) (nonce : List ℕ) (keys : List (List ℕ)) (before after : HostState) (path_is : IsPath s.path) (nonce_length : length nonce ≡ 32) (sound : IsSound s.tree) (are_keys : AreKeys (length s.tree.dirty) keys) where
  next_of : (sheet : Sheet) → IsLinked sheet → IsBacked sheet s → (next : Sheet) × NextSheet sheet s.tree s.path nonce keys next
  next_of sheet linked backed = next_exists sheet s.tree s.path nonce keys linked backed.backs sound (record { path_is = path_is; nonce_length = nonce_length; not_large = sound.small }) are_keys

  has_next : (sheet : Sheet) (linked : IsLinked sheet) (backed : IsBacked sheet s) → HasNext sheet s.tree s.path nonce keys (next_of sheet linked backed).0
  has_next sheet linked backed = record { linked = linked; backs = backed.backs; is_next = (next_of sheet linked backed).1 }

  failed_each : (fault : FlushFault) (u : SessionState) → SealsOns (Err fault) nonce keys s before after → SealsEach false nonce keys s u before after
  failed_each fault u seals sheet linked backed =
      let next = next_of sheet linked backed in
      let on = seals sheet next.0 (has_next sheet linked backed) in
      record { next = next.0; is_next = next.1; on_next = λ done. absurd (false≢true done); named = on.named; stands = λ done. absurd (false≢true done) }

  pub seal_fails : (fault : FlushFault) (t u : SessionState) → t ≡ record s { tree = t.tree } → u ≡ record t { broken = true } → KeepsShape s.tree t.tree → KeptAtDamage (Err fault) s.tree t.tree → VersionGoes (Err fault) nonce keys s t.tree before after → KeepsName s before after
      → SealsOns (Err fault) nonce keys s before after → SealGoes (Err fault) nonce keys s u before after
  seal_fails faults.Words t u rest is shape kept goes keeps seals = absurd goes
  seal_fails (faults.Damaged damage) t u rest is shape kept goes keeps seals =
      let same : t ≡ s = rest ∙ ap (λ (x : TreeState). let y : SessionState = record s { tree = x } in y) kept in
      node_short damage goes.0 goes.1 (failed_each (faults.Damaged damage) u seals) (is ∙ ap (λ (x : SessionState). let y : SessionState = record x { broken = true } in y) same) refl
  seal_fails faults.Host t u rest is shape kept goes keeps seals =
      let whole : u ≡ record s { tree = t.tree; broken = true } = is ∙ ap (λ (x : SessionState). let y : SessionState = record x { broken = true } in y) rest in
      let same : u.tree ≡ t.tree = ap (λ (x : SessionState). x.tree) is in
      call_failed (subst (λ (x : TreeState). VersionGoes (Err faults.Host) nonce keys s x before after) (sym same) goes) keeps (failed_each faults.Host u seals) (subst (λ (x : TreeState). KeepsShape s.tree x) (sym same) shape)
      (whole ∙ ap (λ (x : TreeState). let y : SessionState = record s { tree = x; broken = true } in y) (sym same)) refl

  pub seal_done : (t u : SessionState) (mid tree : TreeState) → t ≡ record s { tree = t.tree } → t.tree ≡ mid → u ≡ record t { nonce = nonce; drawn = None; tree = tree; changed = false } → VersionGoes (Ok tt) nonce keys s mid before after → KeepsName s before after
      → SealedAll nonce keys s mid → SealsOns (Ok tt) nonce keys s before after → IsSettled mid tree → ((next : Sheet) → IsSealedAs next mid → BacksWith next tree next.content) → SealGoes (Ok tt) nonce keys s u before after
  seal_done t u mid tree rest mid_is is goes keeps sealed seals settled backed =
      let whole : u ≡ record s { nonce = nonce; drawn = None; tree = tree; changed = false } = is ∙ ap (λ (x : SessionState). let y : SessionState = record x { nonce = nonce; drawn = None; tree = tree; changed = false } in y) rest in
      let same : u.tree ≡ tree = ap (λ (x : SessionState). x.tree) is in
      let each : SealsEach true nonce keys s (record s { nonce = nonce; drawn = None; tree = tree; changed = false }) before after = λ sheet linked back.
      let next = next_of sheet linked back in
      let has = has_next sheet linked back in
      let on = seals sheet next.0 has in
      let b = backed next.0 (sealed sheet next.0 has) in
      record {
        next = next.0;
        is_next = next.1;
        on_next = λ done. record { backed = record { path_is = sym next.1.path_is; nonce_is = sym next.1.nonce_is; backs = b.backs }; now_is = b.content_is };
        named = on.named;
        stands = on.stands;
      } in
      flushed mid goes keeps (subst (λ (x : TreeState). IsSettled mid x) (sym same) settled) (subst (λ (x : SessionState). SealsEach true nonce keys s x before after) (sym whole) each)
      (whole ∙ ap (λ (x : TreeState). let y : SessionState = record s { nonce = nonce; drawn = None; tree = x; changed = false } in y) (sym same)) refl
