use Rattle.std.proofs.Common.{◌≡◌, [], drop}
use Rattle.pf_io.specs.Replay.{answers_of}
use Rattle.pf_io.specs.Storage.{look, events_of, StoresAfter, IsTorn}
use Rattle.pf_io.proofs.mem_calls.put_torn.Given as goal

abbrev pub invariant-loop-k : goal.invariant-loop-k
invariant-loop-k l = record {
  stores : StoresAfter l.files.items l.told.items;
  no_answers : answers_of (events_of l.told.items) ≡ [];
  torn : IsTorn l.tear (look (drop l.k l.old)) (events_of l.told.items);
}
