use Rattle.std.proofs.Common.{◌≡◌, Result, subst, sym, ◌++◌, List, ℕ}
use Rattle.std.specs.Prelude.{codes}
use Rattle.std.specs.Fmt.{decimal}
use Rattle.std.proofs.lemmas.List.{append-nil}
use Rattle.pf_io.specs.Streams.{SinkState}
use Rattle.pf_tool.specs.Endings.{line, refusal_text}
use Rattle.pf_tool.specs.Faults.{refusal_of}
use Rattle.pf_tool.specs.Reports.{Written}
use Rattle.pf_tool.specs.declared.why.Why.{Why}
use Rattle.pf_tool.proofs.why.Why.say.Goals as goal

-- the line of a refusal that it is known to be
said_of : {T E : Type 0} (r : Result T E) (why known : Why) (old new : SinkState) → why ≡ known → Written r (line (refusal_text (refusal_of known))) old new → Written r (line (refusal_text (refusal_of why))) old new
said_of r why known old new is written = subst (λ (w : Why). Written r (line (refusal_text (refusal_of w))) old new) (sym is) written

pub returns-in-NotFound : goal.returns-in-NotFound
returns-in-NotFound g c = said_of c.write_name.result _ _ (g.L.Sink.state c.args.log.now) (g.L.Sink.state c.write_name.new.log) c.in-NotFound.is c.write_name.ensures

pub returns-in-KeyFile : goal.returns-in-KeyFile
returns-in-KeyFile g c =
    let old = g.L.Sink.state c.args.log.now in
    let new = g.L.Sink.state c.write_number.new.log in
    said_of c.write_number.result _ _ old new c.in-KeyFile.is
    (subst (λ (l : List ℕ). Written c.write_number.result (line l) old new) (append-nil (codes "refused key file " ++ decimal c.in-KeyFile.number)) c.write_number.ensures)

pub returns-in-NotProtected : goal.returns-in-NotProtected
returns-in-NotProtected g c = said_of c.write_text-in-NotProtected.result _ _ (g.L.Sink.state c.args.log.now) (g.L.Sink.state c.write_text-in-NotProtected.new.log) c.in-NotProtected.is c.write_text-in-NotProtected.ensures

pub returns-in-Unbuilt : goal.returns-in-Unbuilt
returns-in-Unbuilt g c = said_of c.write_text-in-Unbuilt.result _ _ (g.L.Sink.state c.args.log.now) (g.L.Sink.state c.write_text-in-Unbuilt.new.log) c.in-Unbuilt.is c.write_text-in-Unbuilt.ensures

pub returns-in-TooLarge : goal.returns-in-TooLarge
returns-in-TooLarge g c = said_of c.write_text-in-TooLarge.result _ _ (g.L.Sink.state c.args.log.now) (g.L.Sink.state c.write_text-in-TooLarge.new.log) c.in-TooLarge.is c.write_text-in-TooLarge.ensures

pub returns-in-NotUtf8 : goal.returns-in-NotUtf8
returns-in-NotUtf8 g c = said_of c.write_text-in-NotUtf8.result _ _ (g.L.Sink.state c.args.log.now) (g.L.Sink.state c.write_text-in-NotUtf8.new.log) c.in-NotUtf8.is c.write_text-in-NotUtf8.ensures

pub returns-in-Absent : goal.returns-in-Absent
returns-in-Absent g c =
    let old = g.L.Sink.state c.args.log.now in
    let new = g.L.Sink.state c.write_name-in-Absent.new.log in
    said_of c.write_name-in-Absent.result _ _ old new c.in-Absent.is
    (subst (λ (n : List ℕ). Written c.write_name-in-Absent.result (line (codes "refused not found " ++ n)) old new) c.as_str.ensures c.write_name-in-Absent.ensures)
