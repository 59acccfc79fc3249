use Rattle.std.proofs.Common.{take, Ok}
use Rattle.sha2.specs.Hashers.{Holds256}
use Rattle.enclave_measure.specs.Hashing.{Asking, PagesHashed}
use Rattle.enclave_measure.proofs.enclave.hash_pages.Given as goal

abbrev pub invariant-loop-place : goal.invariant-loop-place
invariant-loop-place g l =
    let state = g.H.Host.state in
    record {
      asked : Asking {T = Unit {0}} (Ok tt) (state l.fn.host) (state l.host);
      hashed : PagesHashed (take l.place l.pages) (Holds256 l.fn.hasher) (Holds256 l.hasher) (state l.fn.host) (state l.host);
    }
