use Rattle.std.proofs.Common.{◌≡◌, ap, subst, ◌+◌, List, ℕ, drop}
use Rattle.pf_io.specs.Host.{ReadsFrom}
use Rattle.pf_io.specs.Streams.{GivesFirst}
use Rattle.pf_io.specs.Buffers.{MemSourceState}
use Rattle.pf_io.proofs.Reading.{gives_first}
use Rattle.pf_io.proofs.buffers.MemSourceSource.read.Goals as goal

pub returns-clause-left : goal.returns-clause-left
returns-clause-left c =
    let inside = c.self.inside in
    let left_is : drop inside.place inside.bytes ≡ c.args.self.now.left = ap (λ (s : MemSourceState). s.left) c.self.view_is in
    let reads = subst (λ (b : List ℕ). ReadsFrom inside.place c.copy_from-n.result c.copy_from-n.new.to b) c.as_slice.ensures c.copy_from-n.ensures.reads in
    subst (λ (l : List ℕ). GivesFirst c.copy_from-n.result c.copy_from-n.new.to l (drop (inside.place + c.copy_from-n.result) inside.bytes)) left_is
    (gives_first inside.place c.copy_from-n.result inside.bytes c.copy_from-n.new.to reads)
