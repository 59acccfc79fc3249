use Rattle.std.proofs.Common.{◌≡◌, ◌<◌, ◌^◌, take}
use Rattle.enclave_measure.specs.Hexadecimal.{hex_value}
use Rattle.enclave_measure.proofs.hexadecimal.hex_value.Given as goal

abbrev pub invariant-loop-digit : goal.invariant-loop-digit
invariant-loop-digit l = (l.number ≡ hex_value (take l.digit-index l.digits)) × (l.number < 16 ^ l.digit-index)
