use Rattle.std.proofs.Common.{length}
use Rattle.enclave_measure.proofs.Listing.{Collects}
use Rattle.enclave_measure.proofs.layout.read_pages.Given as goal

abbrev pub invariant-loop-line : goal.invariant-loop-line
invariant-loop-line l = Collects l.size l.text l.before l.rest l.number l.pages.items l.offsets

abbrev pub decreases-loop-line : goal.decreases-loop-line
decreases-loop-line l = length l.rest
