use Rattle.std.proofs.Common.{◌≡◌, Result, List, ℕ, ◌++◌, subst, sym}
use Rattle.std.specs.Prelude.{codes}
use Rattle.std.specs.Fmt.{decimal}
use Rattle.std.proofs.lemmas.List.{append-nil}
use Rattle.pf_io.specs.Streams.{SinkState}
use Rattle.pf_tool.specs.Endings.{line, template_text}
use Rattle.pf_tool.specs.Reports.{Written}
use Rattle.template_text.specs.declared.fault.RenderFault.{RenderFault}
use Rattle.pf_tool.proofs.text_refusals.say_template.Goals as goal

-- the line of a refusal that it is known to be
said_of : {T E : Type 0} (r : Result T E) (fault known : RenderFault) (old new : SinkState) → fault ≡ known → Written r (line (template_text known)) old new → Written r (line (template_text fault)) old new
said_of r fault known old new is written = subst (λ (f : RenderFault). Written r (line (template_text f)) old new) (sym is) written

pub returns-in-Unclosed : goal.returns-in-Unclosed
returns-in-Unclosed g c =
    let old = g.L.Sink.state c.args.log.now in
    let new = g.L.Sink.state c.write_number.new.log in
    said_of c.write_number.result _ _ old new c.in-Unclosed.is
    (subst (λ (l : List ℕ). Written c.write_number.result (line l) old new) (append-nil (codes "refused template unclosed at " ++ decimal c.in-Unclosed.at)) c.write_number.ensures)

pub returns-in-BadName : goal.returns-in-BadName
returns-in-BadName g c =
    let old = g.L.Sink.state c.args.log.now in
    let new = g.L.Sink.state c.write_number-in-BadName.new.log in
    said_of c.write_number-in-BadName.result _ _ old new c.in-BadName.is
    (subst (λ (l : List ℕ). Written c.write_number-in-BadName.result (line l) old new) (append-nil (codes "refused template name at " ++ decimal c.in-BadName.at)) c.write_number-in-BadName.ensures)

pub returns-in-Statement : goal.returns-in-Statement
returns-in-Statement g c =
    let old = g.L.Sink.state c.args.log.now in
    let new = g.L.Sink.state c.write_number-in-Statement.new.log in
    said_of c.write_number-in-Statement.result _ _ old new c.in-Statement.is
    (subst (λ (l : List ℕ). Written c.write_number-in-Statement.result (line l) old new) (append-nil (codes "refused template statement at " ++ decimal c.in-Statement.at)) c.write_number-in-Statement.ensures)

pub returns-in-TooLong : goal.returns-in-TooLong
returns-in-TooLong g c =
    let old = g.L.Sink.state c.args.log.now in
    let new = g.L.Sink.state c.write_number-in-TooLong.new.log in
    said_of c.write_number-in-TooLong.result _ _ old new c.in-TooLong.is
    (subst (λ (l : List ℕ). Written c.write_number-in-TooLong.result (line l) old new) (append-nil (codes "refused template too long at " ++ decimal c.in-TooLong.at)) c.write_number-in-TooLong.ensures)

pub returns-in-Unknown : goal.returns-in-Unknown
returns-in-Unknown g c =
    let old = g.L.Sink.state c.args.log.now in
    let new = g.L.Sink.state c.write_name_number.new.log in
    said_of c.write_name_number.result _ _ old new c.in-Unknown.is
    (subst (λ (n : List ℕ). Written c.write_name_number.result (line (codes "refused template unknown " ++ n ++ codes " at " ++ decimal c.in-Unknown.at)) old new) c.as_str.ensures c.write_name_number.ensures)
