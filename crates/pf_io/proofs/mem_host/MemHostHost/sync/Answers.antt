use Rattle.std.proofs.Common.{refl}
use Rattle.pf_io.proofs.Calling.{fault_call, made_call}
use Rattle.pf_io.proofs.Faulted.{nothing_done, changes_nothing, syncs_nothing}
use Rattle.pf_io.proofs.Recorded.{carried, told_recorded}
use Rattle.pf_io.proofs.Stepping.{sync_step}
use Rattle.pf_io.proofs.mem_host.MemHostHost.sync.Goals as goal

pub returns-clause-told : goal.returns-clause-told
returns-clause-told c = told_recorded c.count_starved.result _ _ _ _ _ refl refl (carried c.count_starved.result c.sync-outcome.result _ _ _ _ c.sync-outcome.ensures.records c.count_starved.ensures.value c.count_starved.ensures.error)

pub returns-clause-disk : goal.returns-clause-disk
returns-clause-disk c = sync_step c.count_starved.result _ _ _ (carried c.count_starved.result c.sync-outcome.result _ _ _ _ c.sync-outcome.ensures.records c.count_starved.ensures.value c.count_starved.ensures.error)

pub invariant_of-self : goal.invariant_of-self
invariant_of-self c = record { stores = c.args.self.now.stores }

pub returns-then-is_to_fail-clause-cause : goal.returns-then-is_to_fail-clause-cause
returns-then-is_to_fail-clause-cause c = record { later = c.raise.ensures.later; still = tt; once = c.raise.ensures.counted }

pub returns-then-is_to_fail-clause-counts : goal.returns-then-is_to_fail-clause-counts
returns-then-is_to_fail-clause-counts c = record { reads = refl; writes = refl; widest = refl }

pub returns-then-is_to_fail-clause-told : goal.returns-then-is_to_fail-clause-told
returns-then-is_to_fail-clause-told c = refl

pub returns-then-is_to_fail-clause-disk : goal.returns-then-is_to_fail-clause-disk
returns-then-is_to_fail-clause-disk c = nothing_done _ _ (changes_nothing _ _ _ (syncs_nothing _))

pub returns-then-is_to_fail-clause-records : goal.returns-then-is_to_fail-clause-records
returns-then-is_to_fail-clause-records c = refl

pub returns-then-is_to_fail-clause-call : goal.returns-then-is_to_fail-clause-call
returns-then-is_to_fail-clause-call c = fault_call (record {}) c.is_to_fail.result c.deref.result.now c.is_to_fail.ensures.fails c.deref.ensures.value c.if-is_to_fail.true c.is_to_fail.ensures.counts refl refl refl

pub sync-outcome-requires : goal.sync-outcome-requires
sync-outcome-requires c = c.args.self.now.stores

pub invariant_of-self-2 : goal.invariant_of-self-2
invariant_of-self-2 c = record { stores = c.sync-outcome.ensures.stores }

pub returns-clause-cause : goal.returns-clause-cause
returns-clause-cause c = c.count_starved.ensures.cause

pub returns-clause-counts : goal.returns-clause-counts
returns-clause-counts c = record { reads = refl; writes = refl; widest = refl }

pub returns-clause-records : goal.returns-clause-records
returns-clause-records c = carried c.count_starved.result c.sync-outcome.result _ _ _ _ c.sync-outcome.ensures.records c.count_starved.ensures.value c.count_starved.ensures.error

pub returns-clause-call : goal.returns-clause-call
returns-clause-call c = made_call c.count_starved.result c.is_to_fail.result c.deref.result.now c.is_to_fail.ensures.fails c.deref.ensures.value c.if-is_to_fail.false c.is_to_fail.ensures.counts refl refl c.count_starved.ensures.starves
