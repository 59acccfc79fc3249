use Rattle.std.proofs.Common.{◌≡◌, Result, List, ℕ, ◌++◌, subst, sym}
use Rattle.std.specs.Prelude.{codes}
use Rattle.std.specs.Fmt.{decimal}
use Rattle.std.proofs.lemmas.List.{append-nil}
use Rattle.enclave_measure.specs.declared.fault.LayoutFault.{LayoutFault}
use Rattle.pf_io.specs.Streams.{SinkState}
use Rattle.pf_tool.specs.Endings.{line, layout_text}
use Rattle.pf_tool.specs.Reports.{Written}
use Rattle.pf_tool.proofs.text_refusals.say_layout.Goals as goal

-- the line of a refusal that it is known to be
said_of : {T E : Type 0} (r : Result T E) (fault known : LayoutFault) (old new : SinkState) → fault ≡ known → Written r (line (layout_text known)) old new → Written r (line (layout_text fault)) old new
said_of r fault known old new is written = subst (λ (f : LayoutFault). Written r (line (layout_text f)) old new) (sym is) written

pub returns-in-BadLine : goal.returns-in-BadLine
returns-in-BadLine g c =
    let old = g.L.Sink.state c.args.log.now in
    let new = g.L.Sink.state c.write_number.new.log in
    said_of c.write_number.result _ _ old new c.in-BadLine.is
    (subst (λ (l : List ℕ). Written c.write_number.result (line l) old new) (append-nil (codes "refused layout line " ++ decimal c.in-BadLine.line)) c.write_number.ensures)

pub returns-in-BadSize : goal.returns-in-BadSize
returns-in-BadSize g c = said_of c.write_number-in-BadSize.result _ _ (g.L.Sink.state c.args.log.now) (g.L.Sink.state c.write_number-in-BadSize.new.log) c.in-BadSize.is c.write_number-in-BadSize.ensures

pub returns-in-OutOfRange : goal.returns-in-OutOfRange
returns-in-OutOfRange g c = said_of c.write_number-in-OutOfRange.result _ _ (g.L.Sink.state c.args.log.now) (g.L.Sink.state c.write_number-in-OutOfRange.new.log) c.in-OutOfRange.is c.write_number-in-OutOfRange.ensures

pub returns-in-Repeated : goal.returns-in-Repeated
returns-in-Repeated g c = said_of c.write_number-in-Repeated.result _ _ (g.L.Sink.state c.args.log.now) (g.L.Sink.state c.write_number-in-Repeated.new.log) c.in-Repeated.is c.write_number-in-Repeated.ensures
