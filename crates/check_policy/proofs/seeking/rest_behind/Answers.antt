use Rattle.std.proofs.Common.{◌∙◌, ap, sym, ◌++◌}
use Rattle.manifest_model.specs.Names.{normal_parts}
use Rattle.check_policy.proofs.Parting.{normal_parts_are, leaves_of_text, no_text_no_begin, no_edge_no_begin}
use Rattle.check_policy.proofs.seeking.rest_behind.Goals as goal

pub returns-in_err-rest : goal.returns-in_err-rest
returns-in_err-rest c =
    rw c.from_residual.ensures (no_text_no_begin (normal_parts c.args.place.now) (normal_parts c.args.path.now) (λ r e. c.in_err-rest.ensures.cases r (c.trail.ensures ∙ e ∙ ap (λ t. t ++ r) (sym c.trail-2.ensures))))

pub returns-then-is_edge : goal.returns-then-is_edge
returns-then-is_edge c =
    let cut = c.in_ok-rest.ensures.cases in
    leaves_of_text (normal_parts c.args.place.now) (normal_parts c.args.path.now) c.in_ok-rest.rest.now
    (normal_parts_are c.args.place.now) (normal_parts_are c.args.path.now) (sym c.is_edge.ensures ∙ c.if-is_edge.true)
    (sym c.trail.ensures ∙ cut.1.1 ∙ (λ i. c.trail-2.ensures i ++ sym cut.2 i))

pub returns-else-is_edge : goal.returns-else-is_edge
returns-else-is_edge c =
    let cut = c.in_ok-rest.ensures.cases in
    no_edge_no_begin (normal_parts c.args.place.now) (normal_parts c.args.path.now) c.in_ok-rest.rest.now
    (sym c.trail.ensures ∙ cut.1.1 ∙ (λ i. c.trail-2.ensures i ++ sym cut.2 i)) (sym c.is_edge.ensures ∙ c.if-is_edge.false)
