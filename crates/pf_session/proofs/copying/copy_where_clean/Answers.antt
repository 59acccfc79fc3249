use Rattle.std.proofs.Common.{ℕ, List, ◌∙◌, sym, subst}
use Rattle.node_tree.proofs.United.{is_in, not_in}
use Rattle.pf_io.specs.Host.{Both}
use Rattle.pf_io.specs.Moments.{Ran}
use Rattle.pf_session.specs.Copying.{CopyGoes, CopyLeaves, Copied, CopiesInto}
use Rattle.pf_session.specs.Sealing.{LeavesOthers}
use Rattle.pf_session.proofs.Copied.{copied_none}
use Rattle.pf_session.proofs.Copies.{copies_none}
use Rattle.pf_session.proofs.Disks.{alone_none, ends_weaker}
use Rattle.pf_session.proofs.Lists.{clean_none, clean_alone}
use Rattle.pf_session.proofs.copying.copy_where_clean.Goals as goal

pub returns-then-contains-clause-goes : goal.returns-then-contains-clause-goes
returns-then-contains-clause-goes g c =
    let s = g.H.Host.state c.args.host.now in
    let none = clean_none c.args.dirty.now c.args.number (is_in c.args.dirty.now c.args.number (sym c.contains.ensures.value ∙ c.if-contains.true)) in
    subst (λ (l : List ℕ). Copied c.args.from.now c.args.to.now l s s) (sym none) (copied_none c.args.from.now c.args.to.now s)

pub returns-then-contains-clause-disk : goal.returns-then-contains-clause-disk
returns-then-contains-clause-disk g c =
    let s = g.H.Host.state c.args.host.now in
    let none = clean_none c.args.dirty.now c.args.number (is_in c.args.dirty.now c.args.number (sym c.contains.ensures.value ∙ c.if-contains.true)) in
    subst (λ (l : List ℕ). Both s.honest s.honest (Ran (LeavesOthers c.args.to.now) (CopiesInto c.args.from.now c.args.to.now l))) (sym none)
    (ends_weaker (LeavesOthers c.args.to.now) _ _ s.honest s.honest (alone_none c.args.to.now s.honest) (copies_none c.args.from.now c.args.to.now))

pub returns-clause-goes : goal.returns-clause-goes
returns-clause-goes g c =
    let alone = clean_alone c.args.dirty.now c.args.number (not_in c.args.dirty.now c.args.number (sym c.contains.ensures.value ∙ c.if-contains.false)) in
    subst (λ (l : List ℕ). CopyGoes c.copy_node.result c.args.from.now c.args.to.now l (g.H.Host.state c.args.host.now) (g.H.Host.state c.copy_node.new.host)) (sym alone) c.copy_node.ensures.goes

pub returns-clause-disk : goal.returns-clause-disk
returns-clause-disk g c =
    let alone = clean_alone c.args.dirty.now c.args.number (not_in c.args.dirty.now c.args.number (sym c.contains.ensures.value ∙ c.if-contains.false)) in
    subst (λ (l : List ℕ). Both (g.H.Host.state c.args.host.now).honest (g.H.Host.state c.copy_node.new.host).honest (Ran (LeavesOthers c.args.to.now) (CopyLeaves c.copy_node.result c.args.from.now c.args.to.now l))) (sym alone) c.copy_node.ensures.disk
