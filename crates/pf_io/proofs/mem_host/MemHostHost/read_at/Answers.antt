use Rattle.std.proofs.Common.{refl, sym, ap, Some}
use Rattle.pf_io.specs.Disk.{reading}
use Rattle.pf_io.specs.Host.{KeepsRest}
use Rattle.pf_io.specs.Memory.{memory_of}
use Rattle.pf_io.specs.Replay.{Trace, disk_of}
use Rattle.pf_io.proofs.Calling.{fault_call, made_call, not_to_fail, value_carried, stores_in, bytes_carried}
use Rattle.pf_io.proofs.Faulted.{nothing_done}
use Rattle.pf_io.proofs.Recorded.{carried, told_recorded, keeps_recorded}
use Rattle.pf_io.proofs.Stepping.{stays_step}
use Rattle.pf_io.proofs.mem_host.MemHostHost.read_at.Goals as goal

pub returns-clause-told : goal.returns-clause-told
returns-clause-told c = told_recorded c.count_starved.result _ _ _ _ _ refl refl (carried c.count_starved.result c.give-outcome.result _ _ _ _ c.give-outcome.ensures.records c.count_starved.ensures.value c.count_starved.ensures.error)

pub returns-clause-files : goal.returns-clause-files
returns-clause-files c = ap (λ (t : Trace). Some (reading (disk_of t))) (keeps_recorded c.count_starved.result _ _ _ (carried c.count_starved.result c.give-outcome.result _ _ _ _ c.give-outcome.ensures.records c.count_starved.ensures.value c.count_starved.ensures.error) (λ value t. refl))

pub returns-clause-disk : goal.returns-clause-disk
returns-clause-disk c = stays_step c.count_starved.result _ _ _ (carried c.count_starved.result c.give-outcome.result _ _ _ _ c.give-outcome.ensures.records c.count_starved.ensures.value c.count_starved.ensures.error) (λ value t. refl)

pub invariant_of-self : goal.invariant_of-self
invariant_of-self c = record { stores = c.args.self.now.stores }

pub returns-then-is_to_fail-clause-rest : goal.returns-then-is_to_fail-clause-rest
returns-then-is_to_fail-clause-rest c = tt

pub returns-then-is_to_fail-clause-cause : goal.returns-then-is_to_fail-clause-cause
returns-then-is_to_fail-clause-cause c = record { later = c.raise-then-is_to_fail.ensures.later; still = tt; once = c.raise-then-is_to_fail.ensures.counted }

pub returns-then-is_to_fail-clause-counts : goal.returns-then-is_to_fail-clause-counts
returns-then-is_to_fail-clause-counts c = record { reads = c.raise.ensures.counted; writes = refl; widest = c.max-self.ensures }

pub returns-then-is_to_fail-clause-told : goal.returns-then-is_to_fail-clause-told
returns-then-is_to_fail-clause-told c = refl

pub returns-then-is_to_fail-clause-files : goal.returns-then-is_to_fail-clause-files
returns-then-is_to_fail-clause-files c = refl

pub returns-then-is_to_fail-clause-honest : goal.returns-then-is_to_fail-clause-honest
returns-then-is_to_fail-clause-honest c = tt

pub returns-then-is_to_fail-clause-disk : goal.returns-then-is_to_fail-clause-disk
returns-then-is_to_fail-clause-disk c = nothing_done _ _ refl

pub returns-then-is_to_fail-clause-records : goal.returns-then-is_to_fail-clause-records
returns-then-is_to_fail-clause-records c = refl

pub returns-then-is_to_fail-clause-untouched : goal.returns-then-is_to_fail-clause-untouched
returns-then-is_to_fail-clause-untouched c = λ to_fail. refl

pub returns-then-is_to_fail-clause-call : goal.returns-then-is_to_fail-clause-call
returns-then-is_to_fail-clause-call c = fault_call (record {}) c.is_to_fail.result c.deref.result.now c.is_to_fail.ensures.fails c.deref.ensures.value c.if-is_to_fail.true c.is_to_fail.ensures.counts refl refl refl

pub give-outcome-requires : goal.give-outcome-requires
give-outcome-requires c = stores_in c.args.self.now.files.items c.deref-2.result.now c.args.self.now.told.items c.deref-2.ensures.value c.args.self.now.stores

pub invariant_of-self-2 : goal.invariant_of-self-2
invariant_of-self-2 c = record { stores = stores_in c.deref-2.result.now c.args.self.now.files.items c.give-outcome.new.told.items (sym c.deref-2.ensures.value) c.give-outcome.ensures.stores }

pub returns-clause-cause : goal.returns-clause-cause
returns-clause-cause c = c.count_starved.ensures.cause

pub returns-clause-counts : goal.returns-clause-counts
returns-clause-counts c = record { reads = c.raise.ensures.counted; writes = refl; widest = c.max-self.ensures }

pub returns-clause-rest : goal.returns-clause-rest
returns-clause-rest c = value_carried (λ n. KeepsRest n c.args.to.now c.give-outcome.new.to) (λ n. KeepsRest n c.args.to.now c.give-outcome.new.to) c.count_starved.result c.give-outcome.result c.give-outcome.ensures.rest c.count_starved.ensures.value (λ n rest. rest)

pub returns-clause-honest : goal.returns-clause-honest
returns-clause-honest c = bytes_carried c.count_starved.result c.give-outcome.result c.args.self.now.files.items c.deref-2.result.now c.args.self.now.told.items c.args.name.now c.args.at c.give-outcome.new.to c.deref-2.ensures.value c.args.self.now.stores c.give-outcome.ensures.reads c.count_starved.ensures.value

pub returns-clause-untouched : goal.returns-clause-untouched
returns-clause-untouched c = λ to_fail. absurd (not_to_fail c.is_to_fail.result c.deref.result.now (memory_of c.args.self.now) c.is_to_fail.ensures.fails c.deref.ensures.value c.if-is_to_fail.false to_fail)

pub returns-clause-records : goal.returns-clause-records
returns-clause-records c = carried c.count_starved.result c.give-outcome.result _ _ _ _ c.give-outcome.ensures.records c.count_starved.ensures.value c.count_starved.ensures.error

pub returns-clause-call : goal.returns-clause-call
returns-clause-call c = made_call c.count_starved.result c.is_to_fail.result c.deref.result.now c.is_to_fail.ensures.fails c.deref.ensures.value c.if-is_to_fail.false c.is_to_fail.ensures.counts refl refl c.count_starved.ensures.starves
