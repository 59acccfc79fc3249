-- The clauses of a run of `encrypt`.
use Rattle.std.proofs.Common.{◌≡◌, ◌≢◌, ◌⊎◌, inl, inr, ⊎_elim, ℕ, ◌≤◌, List, [], refl, ap, subst, ◌∙◌, arith, Result, Ok, Err}
use Rattle.pf_io.specs.Counts.{counted}
use Rattle.pf_io.specs.Disk.{Name}
use Rattle.pf_io.specs.Host.{HostState}
use Rattle.pf_io.specs.Streams.{SinkState}
use Rattle.pf_io.specs.Unchanged.{KeepsDisk}
use Rattle.pf_io.specs.Words.{WordsState}
use Rattle.pf_io.proofs.Writing.{once_after}
use Rattle.pf_tool.specs.World.{World, with_log, with_host, with_random}
use Rattle.pf_tool.specs.Endings.{stop_line, stop_status}
use Rattle.pf_tool.specs.Faults.{fault_line, fault_status}
use Rattle.pf_tool.specs.Encrypting.{EncryptRefused, InputFound}
use Rattle.pf_tool.specs.Outcomes.{Falls, Concludes}
use Rattle.pf_tool.specs.Reports.{WroteAll, Reported}
use Rattle.pf_tool.specs.Requests.{Encrypt}
use Rattle.pf_tool.specs.Runs.{RunsByEvents, CausedOnce}
use Rattle.pf_tool.specs.SealingInput.{SealsInput}
use Rattle.pf_tool.specs.declared.fault.Fault.{Fault}
use Rattle.pf_tool.specs.declared.fault.Fault.TheVariants as faults
use Rattle.pf_tool.specs.declared.why.Why.{Why}
use Rattle.pf_tool.specs.declared.why.Why.TheVariants as whys
use Rattle.pf_tool.proofs.Stopping.{not_done}
use Rattle.pf_tool.proofs.RunStops.{reported_said, reports_of, wrote_nothing}
use Rattle.pf_tool.proofs.SealCounts.{CountsFault, CountsRefusal}
use Rattle.pf_tool.proofs.SealSummary.{Large, CountsEnd, Sealing, sealing}

-- a run that made nothing
pub made_nothing : (key input output : Name) (old new : World) (status : ℕ) (fault : Fault) → Falls (EncryptRefused key input output) (λ _ _. KeepsDisk) fault old (with_log new old.log) → Concludes {T = Unit {0}} (Err fault) old.log new.log status
    → RunsByEvents (Encrypt key input output) old new status
made_nothing key input output old new status fault falls said = record {
  stop = falls.stop;
  outcome = falls.outcome;
  reports = reports_of falls.stop old.log new.log status (λ is. not_done fault (falls.is_fault.ends ∙ ap stop_status is))
      (subst (λ (n : ℕ). Reported (stop_line falls.stop) n old.log new.log status) falls.is_fault.ends (subst (λ (l : List ℕ). Reported l (fault_status fault) old.log new.log status) falls.is_fault.says said));
}

abbrev pub end_status : Result (Unit {0}) Fault → ℕ
end_status (Ok done) = 0
end_status (Err fault) = fault_status fault

abbrev pub end_line : Result (Unit {0}) Fault → List ℕ
end_line (Ok done) = []
end_line (Err fault) = fault_line fault

-- what was said, or the log failed
pub end_said : (ended : Result (Unit {0}) Fault) (old new : SinkState) (status : ℕ) → Concludes ended old new status → ((status ≡ end_status ended) × WroteAll (end_line ended) old new) ⊎ ((status ≡ 7) × (new.faults ≡ counted old.faults))
end_said (Ok done) old new status concludes = inl (concludes.0, wrote_nothing old new concludes.1)
end_said (Err fault) old new status concludes = reported_said (fault_line fault) (fault_status fault) old new status concludes

refusal_calm : (why : Why) (a b : HostState) (r s : WordsState) → CountsRefusal why a b r s → (b.faults ≡ a.faults) × (s.faults ≡ r.faults) × (why ≡ whys.TooLarge)
refusal_calm whys.TooLarge a b r s counts = (counts.0, counts.1, refl)
refusal_calm whys.BadName a b r s counts = absurd counts
refusal_calm (whys.NotFound name) a b r s counts = absurd counts
refusal_calm (whys.KeyFile number) a b r s counts = absurd counts
refusal_calm whys.NotProtected a b r s counts = absurd counts
refusal_calm (whys.BadVersion major minor) a b r s counts = absurd counts
refusal_calm whys.NotUtf8 a b r s counts = absurd counts
refusal_calm (whys.BadTemplate fault) a b r s counts = absurd counts
refusal_calm (whys.BadManifest fault) a b r s counts = absurd counts
refusal_calm (whys.BadLayout fault) a b r s counts = absurd counts
refusal_calm (whys.Absent name) a b r s counts = absurd counts
refusal_calm whys.Unbuilt a b r s counts = absurd counts

-- how a sealing ends, by what is counted
pub data SealEnd (ended : Result (Unit {0}) Fault) (a b : HostState) (r s : WordsState) : Type 0 where
  was_done : ended ≡ Ok tt → b.faults ≡ a.faults → s.faults ≡ r.faults → SealEnd ended a b r s
  was_large : ended ≡ Large → b.faults ≡ a.faults → s.faults ≡ r.faults → SealEnd ended a b r s
  was_starved : ended ≡ Err faults.Memory → b.faults ≡ a.faults → s.faults ≡ r.faults → SealEnd ended a b r s
  host_failed : ended ≡ Err faults.Host → b.faults ≡ counted a.faults → s.faults ≡ r.faults → SealEnd ended a b r s
  no_word : ended ≡ Err faults.Random → b.faults ≡ a.faults → s.faults ≡ counted r.faults → SealEnd ended a b r s

fault_end : (fault : Fault) (a b : HostState) (r s : WordsState) → CountsFault fault a b r s → SealEnd (Err fault) a b r s
fault_end faults.NoCommand a b r s counts = absurd counts
fault_end (faults.Refused why) a b r s counts = let c = refusal_calm why a b r s counts in was_large (ap (λ (w : Why). Err (faults.Refused w)) c.2) c.0 c.1
fault_end (faults.Damaged damage) a b r s counts = absurd counts
fault_end faults.Host a b r s counts = host_failed refl counts.0 counts.1
fault_end faults.Stream a b r s counts = absurd counts
fault_end faults.Memory a b r s counts = was_starved refl counts.0 counts.1
fault_end faults.Random a b r s counts = no_word refl counts.0 counts.1

pub seal_end : (ended : Result (Unit {0}) Fault) (a b : HostState) (r s : WordsState) → CountsEnd ended a b r s → SealEnd ended a b r s
seal_end (Ok done) a b r s counts = was_done refl counts.0 counts.1
seal_end (Err fault) a b r s counts = fault_end fault a b r s counts

module _ (key input output : Name) (old new : World) (status : ℕ) (ended : Result (Unit {0}) Fault) (concludes : Concludes ended old.log new.log status) (user : List ℕ) (mid : World) (found : InputFound key input output user old mid)
    (seals : SealsInput user input output ended mid.host new.host mid.random new.random) (rest : with_log new old.log ≡ with_random (with_host mid new.host) new.random) where
  pub sealing_of : Sealing user input output ended mid.host new.host mid.random new.random
  sealing_of = sealing user input output found.is_input.no_side_file mid.host new.host mid.random new.random ended seals

  said : ((status ≡ end_status ended) × WroteAll (end_line ended) old.log new.log) ⊎ ((status ≡ 7) × (new.log.faults ≡ counted old.log.faults))
  said = end_said ended old.log new.log status concludes

  pub out_kept : new.out ≡ old.out
  out_kept = ap (λ (w : World). w.out) rest ∙ found.passed.out.untouched refl

  host_calm : mid.host.faults ≡ old.host.faults
  host_calm = found.passed.host.calm

  random_calm : mid.random.faults ≡ old.random.faults
  random_calm = found.passed.random.calm

  status_is : (n : ℕ) → (status ≡ 7 → ⊥) → end_status ended ≡ n → status ≡ n
  status_is n other is = ⊎_elim (λ both. both.0 ∙ is) (λ both. absurd (other both.0)) said

  -- the status by the ending, where the log did not fail
  by_end : (n : ℕ) → end_status ended ≡ n → (status ≡ n) ⊎ (status ≡ 7)
  by_end n is = ⊎_elim (λ both. inl (both.0 ∙ is)) (λ both. inr both.0) said

  log_once : (status ≢ end_status ended) → new.log.faults ≡ counted old.log.faults
  log_once other = ⊎_elim (λ both. absurd (other both.0)) (λ both. both.1) said

  log_calm : (status ≡ 7 → ⊥) → new.log.faults ≡ old.log.faults
  log_calm other = ⊎_elim (λ both. both.1.calm) (λ both. absurd (other both.0)) said

  status_known : (n : ℕ) → end_status ended ≡ n → (status ≡ n) ⊎ ((status ≡ 7) × (new.log.faults ≡ counted old.log.faults))
  status_known n is = ⊎_elim (λ both. inl (both.0 ∙ is)) (λ both. inr both) said

  calm_causes : (n : ℕ) → (n ≤ 3) ⊎ (n ≡ 5) → end_status ended ≡ n → new.host.faults ≡ mid.host.faults → new.random.faults ≡ mid.random.faults → CausedOnce old new status
  calm_causes n low is host random =
      let known = status_known n is in
      let not_four : (m : ℕ) → status ≡ m → (m ≡ 4) ⊎ (m ≡ 6) → ⊥ = λ m at which. ⊎_elim (λ s. ⊎_elim (λ f. ⊎_elim (λ le. omega (arith, s, at, f, le)) (λ five. omega (arith, s, at, f, five)) low) (λ x. ⊎_elim (λ le. omega (arith, s, at, x, le)) (λ five. omega (arith, s, at, x, five)) low) which) (λ seven. ⊎_elim (λ f. omega (arith, seven.0, at, f)) (λ x. omega (arith, seven.0, at, x)) which) known in
      record {
        host_fault = λ four. absurd (not_four 4 four (inl refl));
        random_fault = λ six. absurd (not_four 6 six (inr refl));
        stream_fault = λ seven. inr (⊎_elim (λ s. absurd (⊎_elim (λ le. omega (arith, s, seven, le)) (λ five. omega (arith, s, seven, five)) low)) (λ both. both.1) known);
        calm = λ small. record {
          host = host ∙ host_calm;
          out = ap (λ (o : SinkState). o.faults) out_kept;
          log = log_calm (λ seven. ⊎_elim (λ le. omega (arith, le, seven)) (λ five. omega (arith, five, seven)) small);
          random = random ∙ random_calm;
        };
        most = ⊎_elim (λ s. ⊎_elim (λ le. omega (arith, s, le)) (λ five. omega (arith, s, five)) low) (λ both. omega (arith, both.0)) known;
      }

  causes_by : SealEnd ended mid.host new.host mid.random new.random → CausedOnce old new status
  causes_by (was_done is host random) = calm_causes 0 (inl (omega arith)) (ap end_status is) host random
  causes_by (was_large is host random) = calm_causes 3 (inl (omega arith)) (ap end_status is) host random
  causes_by (was_starved is host random) = calm_causes 5 (inr refl) (ap end_status is) host random
  causes_by (host_failed is host random) =
      let known = status_known 4 (ap end_status is) in
      record {
        host_fault = λ four. once_after old.host.faults mid.host.faults new.host.faults host_calm host;
        random_fault = λ six. absurd (⊎_elim (λ s. omega (arith, s, six)) (λ both. omega (arith, both.0, six)) known);
        stream_fault = λ seven. inr (⊎_elim (λ s. absurd (omega (arith, s, seven))) (λ both. both.1) known);
        calm = λ small. absurd (⊎_elim (λ s. ⊎_elim (λ le. omega (arith, s, le)) (λ five. omega (arith, s, five)) small) (λ both. ⊎_elim (λ le. omega (arith, both.0, le)) (λ five. omega (arith, both.0, five)) small) known);
        most = ⊎_elim (λ s. omega (arith, s)) (λ both. omega (arith, both.0)) known;
      }
  causes_by (no_word is host random) =
      let known = status_known 6 (ap end_status is) in
      record {
        host_fault = λ four. absurd (⊎_elim (λ s. omega (arith, s, four)) (λ both. omega (arith, both.0, four)) known);
        random_fault = λ six. once_after old.random.faults mid.random.faults new.random.faults random_calm random;
        stream_fault = λ seven. inr (⊎_elim (λ s. absurd (omega (arith, s, seven))) (λ both. both.1) known);
        calm = λ small. absurd (⊎_elim (λ s. ⊎_elim (λ le. omega (arith, s, le)) (λ five. omega (arith, s, five)) small) (λ both. ⊎_elim (λ le. omega (arith, both.0, le)) (λ five. omega (arith, both.0, five)) small) known);
        most = ⊎_elim (λ s. omega (arith, s)) (λ both. omega (arith, both.0)) known;
      }

  pub found_causes : CausedOnce old new status
  found_causes = causes_by (seal_end ended mid.host new.host mid.random new.random sealing_of.counts)

  not_status : (n : ℕ) → (n ≡ 1) ⊎ (n ≡ 2) → SealEnd ended mid.host new.host mid.random new.random → status ≢ n
  not_status n which (was_done is host random) at = ⊎_elim (λ s. ⊎_elim (λ o. omega (arith, s, at, o)) (λ o. omega (arith, s, at, o)) which) (λ both. ⊎_elim (λ o. omega (arith, both.0, at, o)) (λ o. omega (arith, both.0, at, o)) which) (status_known 0 (ap end_status is))
  not_status n which (was_large is host random) at = ⊎_elim (λ s. ⊎_elim (λ o. omega (arith, s, at, o)) (λ o. omega (arith, s, at, o)) which) (λ both. ⊎_elim (λ o. omega (arith, both.0, at, o)) (λ o. omega (arith, both.0, at, o)) which) (status_known 3 (ap end_status is))
  not_status n which (was_starved is host random) at = ⊎_elim (λ s. ⊎_elim (λ o. omega (arith, s, at, o)) (λ o. omega (arith, s, at, o)) which) (λ both. ⊎_elim (λ o. omega (arith, both.0, at, o)) (λ o. omega (arith, both.0, at, o)) which) (status_known 5 (ap end_status is))
  not_status n which (host_failed is host random) at = ⊎_elim (λ s. ⊎_elim (λ o. omega (arith, s, at, o)) (λ o. omega (arith, s, at, o)) which) (λ both. ⊎_elim (λ o. omega (arith, both.0, at, o)) (λ o. omega (arith, both.0, at, o)) which) (status_known 4 (ap end_status is))
  not_status n which (no_word is host random) at = ⊎_elim (λ s. ⊎_elim (λ o. omega (arith, s, at, o)) (λ o. omega (arith, s, at, o)) which) (λ both. ⊎_elim (λ o. omega (arith, both.0, at, o)) (λ o. omega (arith, both.0, at, o)) which) (status_known 6 (ap end_status is))

  pub found_not_one : status ≢ 1
  found_not_one = not_status 1 (inl refl) (seal_end ended mid.host new.host mid.random new.random sealing_of.counts)

  pub found_not_two : status ≢ 2
  found_not_two = not_status 2 (inr refl) (seal_end ended mid.host new.host mid.random new.random sealing_of.counts)
