use Rattle.std.proofs.Common.{◌≡◌, Result, List, ℕ, ◌++◌, subst, sym}
use Rattle.std.specs.Prelude.{codes}
use Rattle.pf_io.specs.Streams.{SinkState}
use Rattle.pf_tool.specs.Endings.{line, manifest_text}
use Rattle.pf_tool.specs.Reports.{Written}
use Rattle.manifest_model.specs.declared.fault.ManifestFault.{ManifestFault}
use Rattle.pf_tool.proofs.text_refusals.say_manifest.Goals as goal

-- the line of a refusal that it is known to be
said_of : {T E : Type 0} (r : Result T E) (fault known : ManifestFault) (old new : SinkState) → fault ≡ known → Written r (line (manifest_text known)) old new → Written r (line (manifest_text fault)) old new
said_of r fault known old new is written = subst (λ (f : ManifestFault). Written r (line (manifest_text f)) old new) (sym is) written

pub returns-in-BadField : goal.returns-in-BadField
returns-in-BadField g c =
    let old = g.L.Sink.state c.args.log.now in
    let new = g.L.Sink.state c.write_name.new.log in
    said_of c.write_name.result _ _ old new c.in-BadField.is
    (subst (λ (n : List ℕ). Written c.write_name.result (line (codes "refused manifest field " ++ n)) old new) c.as_str.ensures c.write_name.ensures)

pub returns-in-BadUri : goal.returns-in-BadUri
returns-in-BadUri g c =
    let old = g.L.Sink.state c.args.log.now in
    let new = g.L.Sink.state c.write_name-in-BadUri.new.log in
    said_of c.write_name-in-BadUri.result _ _ old new c.in-BadUri.is
    (subst (λ (n : List ℕ). Written c.write_name-in-BadUri.result (line (codes "refused manifest uri " ++ n)) old new) c.as_str-in-BadUri.ensures c.write_name-in-BadUri.ensures)

pub returns-in-BadSum : goal.returns-in-BadSum
returns-in-BadSum g c =
    let old = g.L.Sink.state c.args.log.now in
    let new = g.L.Sink.state c.write_name-in-BadSum.new.log in
    said_of c.write_name-in-BadSum.result _ _ old new c.in-BadSum.is
    (subst (λ (n : List ℕ). Written c.write_name-in-BadSum.result (line (codes "refused manifest sum " ++ n)) old new) c.as_str-in-BadSum.ensures c.write_name-in-BadSum.ensures)

pub returns-in-TwoSums : goal.returns-in-TwoSums
returns-in-TwoSums g c =
    let old = g.L.Sink.state c.args.log.now in
    let new = g.L.Sink.state c.write_name-in-TwoSums.new.log in
    said_of c.write_name-in-TwoSums.result _ _ old new c.in-TwoSums.is
    (subst (λ (n : List ℕ). Written c.write_name-in-TwoSums.result (line (codes "refused manifest two sums " ++ n)) old new) c.as_str-in-TwoSums.ensures c.write_name-in-TwoSums.ensures)

pub returns-in-BadKey : goal.returns-in-BadKey
returns-in-BadKey g c =
    let old = g.L.Sink.state c.args.log.now in
    let new = g.L.Sink.state c.write_name-in-BadKey.new.log in
    said_of c.write_name-in-BadKey.result _ _ old new c.in-BadKey.is
    (subst (λ (n : List ℕ). Written c.write_name-in-BadKey.result (line (codes "refused manifest key " ++ n)) old new) c.as_str-in-BadKey.ensures c.write_name-in-BadKey.ensures)

pub returns-in-BadPolicy : goal.returns-in-BadPolicy
returns-in-BadPolicy g c =
    let old = g.L.Sink.state c.args.log.now in
    let new = g.L.Sink.state c.write_name-in-BadPolicy.new.log in
    said_of c.write_name-in-BadPolicy.result _ _ old new c.in-BadPolicy.is
    (subst (λ (n : List ℕ). Written c.write_name-in-BadPolicy.result (line (codes "refused manifest policy " ++ n)) old new) c.as_str-in-BadPolicy.ensures c.write_name-in-BadPolicy.ensures)

pub returns-in-NotToml : goal.returns-in-NotToml
returns-in-NotToml g c = said_of c.write_text.result _ _ (g.L.Sink.state c.args.log.now) (g.L.Sink.state c.write_text.new.log) c.in-NotToml.is c.write_text.ensures
