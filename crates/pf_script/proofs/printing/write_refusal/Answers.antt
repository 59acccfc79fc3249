use Rattle.std.proofs.Common.{◌++◌, List, ℕ, subst, codes}
use Rattle.pf_io.specs.Writing.{Written}
use Rattle.pf_script.specs.Replies.{ended}
use Rattle.pf_script.proofs.printing.write_refusal.Goals as goal

pub returns-in-SeatBusy : goal.returns-in-SeatBusy
returns-in-SeatBusy g c =
    rw c.in-SeatBusy.is c.write_line.ensures

pub returns-in-SeatEmpty : goal.returns-in-SeatEmpty
returns-in-SeatEmpty g c =
    rw c.in-SeatEmpty.is c.write_line-in-SeatEmpty.ensures

pub returns-in-NameBusy : goal.returns-in-NameBusy
returns-in-NameBusy g c =
    rw c.in-NameBusy.is c.write_line-in-NameBusy.ensures

pub returns-in-NotProtected : goal.returns-in-NotProtected
returns-in-NotProtected g c =
    rw c.in-NotProtected.is c.write_line-in-NotProtected.ensures

pub returns-in-ReadOnly : goal.returns-in-ReadOnly
returns-in-ReadOnly g c =
    rw c.in-ReadOnly.is c.write_line-in-ReadOnly.ensures

pub returns-in-Broken : goal.returns-in-Broken
returns-in-Broken g c =
    rw c.in-Broken.is c.write_line-in-Broken.ensures

pub returns-in-Exists : goal.returns-in-Exists
returns-in-Exists g c =
    let r = c.write_name.result in
    let old = g.K.Sink.state c.args.out.now in
    let new = g.K.Sink.state c.write_name.new.out in
    rw c.in-Exists.is (subst (λ (t : List ℕ). Written r (ended (codes "refused exists " ++ t)) old new) c.as_str.ensures c.write_name.ensures)

pub returns-in-NotFound : goal.returns-in-NotFound
returns-in-NotFound g c =
    let r = c.write_name-in-NotFound.result in
    let old = g.K.Sink.state c.args.out.now in
    let new = g.K.Sink.state c.write_name-in-NotFound.new.out in
    rw c.in-NotFound.is (subst (λ (t : List ℕ). Written r (ended (codes "refused not found " ++ t)) old new) c.as_str-in-NotFound.ensures c.write_name-in-NotFound.ensures)

pub returns-in-WrongPath : goal.returns-in-WrongPath
returns-in-WrongPath g c =
    let r = c.write_name-in-WrongPath.result in
    let old = g.K.Sink.state c.args.out.now in
    let new = g.K.Sink.state c.write_name-in-WrongPath.new.out in
    rw c.in-WrongPath.is (subst (λ (t : List ℕ). Written r (ended (codes "refused wrong path " ++ t)) old new) c.as_str-in-WrongPath.ensures.same c.write_name-in-WrongPath.ensures)

pub returns-in-Denied : goal.returns-in-Denied
returns-in-Denied g c =
    let r = c.write_name-in-Denied.result in
    let old = g.K.Sink.state c.args.out.now in
    let new = g.K.Sink.state c.write_name-in-Denied.new.out in
    rw c.in-Denied.is (subst (λ (t : List ℕ). Written r (ended (codes "refused denied " ++ t)) old new) c.as_str-in-Denied.ensures c.write_name-in-Denied.ensures)

pub returns-in-WrongSum : goal.returns-in-WrongSum
returns-in-WrongSum g c =
    rw c.in-WrongSum.is c.write_digits.ensures

pub returns-in-Unbuilt : goal.returns-in-Unbuilt
returns-in-Unbuilt g c =
    rw c.in-Unbuilt.is c.write_line-in-Unbuilt.ensures
