-- What is taken from a table, check by check.
use Rattle.std.proofs.Common.{◌≡◌, ◌∙◌, codes, Option, Some, None, sym, ap}
use Rattle.std.specs.Option.{option_or}
use Rattle.toml.specs.Data.{Members, as_table, get_member}
use Rattle.manifest_model.specs.declared.fault.ManifestFault.{ManifestFault}
use Rattle.manifest_model.specs.Fields.{wants}
use Rattle.manifest_model.specs.Walk.{walk_table}
use Rattle.manifest_model.specs.Listed.{sgx, fs, policy_refusal, trusted_refusal, allowed_refusal, mounting_refusal, keying_refusal, refusal}
use Rattle.manifest_model.proofs.Checking.{first, behind, or_none}

-- the walk and the forms of both sections refuse nothing, and these are the sections
pub record Formed (ms s f : Members) : Type 0 where
  pub walked : walk_table ms ≡ None
  pub sgx_form : wants as_table (codes "sgx") (get_member (codes "sgx") ms) ≡ None
  pub fs_form : wants as_table (codes "fs") (get_member (codes "fs") ms) ≡ None
  pub is_sgx : s ≡ sgx ms
  pub is_fs : f ≡ fs ms

pub policy_stops : {ms s f : Members} (fault : ManifestFault) → Formed ms s f → policy_refusal s ≡ Some fault → refusal ms ≡ Some fault
unfolding refusal
policy_stops fault formed policy = behind _ _ _ formed.walked (behind _ _ _ formed.sgx_form (behind _ _ _ formed.fs_form (first _ _ fault (ap policy_refusal (sym formed.is_sgx) ∙ policy))))

pub trusted_stops : {ms s f : Members} (fault : ManifestFault) → Formed ms s f → policy_refusal s ≡ None → trusted_refusal s ≡ Some fault → refusal ms ≡ Some fault
unfolding refusal
trusted_stops fault formed policy trusted =
    behind _ _ _ formed.walked (behind _ _ _ formed.sgx_form (behind _ _ _ formed.fs_form (behind _ _ _ (ap policy_refusal (sym formed.is_sgx) ∙ policy) (first _ _ fault (ap trusted_refusal (sym formed.is_sgx) ∙ trusted)))))

-- nothing is refused down to the allowed files
pub record Allowed (ms s f : Members) : Type 0 where
  pub formed : Formed ms s f
  pub policy : policy_refusal s ≡ None
  pub trusted : trusted_refusal s ≡ None

allowed_decide : {ms s f : Members} (o : Option ManifestFault) → Allowed ms s f → option_or (allowed_refusal s) (option_or (mounting_refusal f) (option_or (keying_refusal f) None)) ≡ o → refusal ms ≡ o
unfolding refusal
allowed_decide o before e =
    behind _ _ _ before.formed.walked (behind _ _ _ before.formed.sgx_form (behind _ _ _ before.formed.fs_form (behind _ _ _ (ap policy_refusal (sym before.formed.is_sgx) ∙ before.policy)
    (behind _ _ _ (ap trusted_refusal (sym before.formed.is_sgx) ∙ before.trusted) (rw (before.formed.is_sgx, before.formed.is_fs) at e)))))

pub allowed_stops : {ms s f : Members} (fault : ManifestFault) → Allowed ms s f → allowed_refusal s ≡ Some fault → refusal ms ≡ Some fault
allowed_stops fault before allowed = allowed_decide _ before (first _ _ fault allowed)

pub mounts_stop : {ms s f : Members} (fault : ManifestFault) → Allowed ms s f → allowed_refusal s ≡ None → mounting_refusal f ≡ Some fault → refusal ms ≡ Some fault
mounts_stop fault before allowed mounts = allowed_decide _ before (behind _ _ _ allowed (first _ _ fault mounts))

pub keys_decide : {ms s f : Members} (o : Option ManifestFault) → Allowed ms s f → allowed_refusal s ≡ None → mounting_refusal f ≡ None → keying_refusal f ≡ o → refusal ms ≡ o
keys_decide o before allowed mounts keys = allowed_decide _ before (behind _ _ _ allowed (behind _ _ _ mounts (or_none _ ∙ keys)))
