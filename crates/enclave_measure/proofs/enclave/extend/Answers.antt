use Rattle.std.proofs.Common.{◌≡◌, ◌+◌, ◌-◌, ◌*◌, ℕ, take, drop, ap, arith}
use Rattle.sha2.specs.Hashers.{Holds256}
use Rattle.enclave_measure.proofs.Asked.{extended_more}
use Rattle.enclave_measure.proofs.enclave.extend.Goals as goal

pub loop-i-preserved : goal.loop-i-preserved
loop-i-preserved c = λ message holds.
    extended_more c.loop-i.i c.args.offset c.args.bytes.now c.extension_head.result _ (Holds256 c.loop-i.hasher) (Holds256 c.update.new.self) (Holds256 c.update-in-loop-i.new.self) c.extension_head.ensures
    (ap (λ (k : ℕ). take k (drop (256 * c.loop-i.i) c.args.bytes.now)) (let e : 256 * c.loop-i.i + 256 - 256 * c.loop-i.i ≡ 256 = omega arith in e))
    c.update.ensures c.update-in-loop-i.ensures message (c.loop-i.invariant message holds)
