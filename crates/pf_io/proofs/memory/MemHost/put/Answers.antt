use Rattle.std.proofs.Common.{◌≡◌, [], ◌∷◌, ◌++◌, List, ℕ, refl, subst}
use Rattle.pf_io.specs.Replay.{Put}
use Rattle.pf_io.specs.Storage.{events_of}
use Rattle.pf_io.proofs.Stepping.{put_there, put_others}
use Rattle.pf_io.proofs.memory.MemHost.put.Goals as goal

pub returns-clause-ok : goal.returns-clause-ok
returns-clause-ok c =
    let old = events_of c.args.self.now.told.items in
    let new = events_of c.put.new.told.items in
    let records : new ≡ old ++ Put c.args.name.now c.args.bytes.now ∷ [] = subst (λ (n : List ℕ). new ≡ old ++ Put n c.args.bytes.now ∷ []) c.as_bytes.ensures.value c.in_ok-put.ensures.records in
    record {
      there = put_there c.args.name.now c.args.bytes.now old new records;
      others = put_others c.args.name.now c.args.bytes.now old new records;
      event = records;
      rest = refl;
    }
