use Rattle.std.proofs.Common.{◌≡◌, ◌∙◌, ◌⊎◌, ◌-◌, ℕ, inl, inr, Result, length, [], List, Err, Ok, rules, ap, sym, subst, string_bytes, refl}
use mathlib.Core.Path.{fun_ext}
use Rattle.std.proofs.lemmas.Bool.{eqb-true}
use Rattle.std.proofs.lemmas.List.{nil_from_length}
use Rattle.std.proofs.lemmas.Result.{err_from_is_err_and}
use Rattle.template_text.specs.Indexes.{value_in}
use Rattle.template_text.specs.Pieces.{part_of, Stops}
use Rattle.template_text.specs.Rendering.{Values, RendersTo}
use Rattle.template_text.specs.declared.fault.RenderFault.{RenderFault}
use Rattle.template_text.specs.declared.fault.RenderFault.TheVariants as faults
use Rattle.template_text.proofs.Lexing.{shorter_rest}
use Rattle.template_text.proofs.Rendered.{HasWritten, rest_within, added_more, whole_rendered, stopped}
use Rattle.template_text.proofs.Deciding.{one_outcome}
use Rattle.template_text.proofs.rendering.render.Goals as goal
use Rattle.template_text.proofs.rendering.render.Goals.{After-write_part, After-from}

pub overflow_sub-at : goal.overflow_sub-at
overflow_sub-at c = rest_within (value_in c.in_ok-index.index) c.args.text.now c.loop-rest.rest.now (string_bytes c.loop-rest.rendered) c.loop-rest.invariant.so_far

pub loop-rest-smaller : goal.loop-rest-smaller
loop-rest-smaller c = shorter_rest c.loop-rest.rest.now c.first_piece.result.1.now (part_of c.first_piece.result.0) c.first_piece.ensures.spelled c.first_piece.ensures.placed

pub loop-rest-preserved : goal.loop-rest-preserved
loop-rest-preserved c = record {
  text = search rules;
  so_far = added_more (value_in c.in_ok-index.index) c.args.text.now c.loop-rest.rest.now (string_bytes c.loop-rest.rendered) (string_bytes c.write_part.new.text) c.first_piece.result.1.now (part_of c.first_piece.result.0) c.loop-rest.invariant.so_far c.first_piece.ensures.spelled c.first_piece.ensures.placed c.in_ok-write_part.ensures;
}

stop_of : (c : After-write_part) (fault : RenderFault) → Stops (value_in c.in_ok-index.index) (length c.args.text.now - length c.loop-rest.rest.now) (part_of c.first_piece.result.0) (string_bytes c.loop-rest.rendered) fault → (fault ≡ faults.Memory) ⊎ RendersTo c.args.text.now c.args.values.now (Err fault)
stop_of c fault stops =
    stopped (value_in c.in_ok-index.index) c.args.values.now c.args.text.now c.loop-rest.rest.now (string_bytes c.loop-rest.rendered) c.first_piece.result.1.now (part_of c.first_piece.result.0) _ fault (fun_ext c.in_ok-index.ensures)
    c.loop-rest.invariant.so_far c.first_piece.ensures.spelled c.first_piece.ensures.placed refl stops

-- want of memory, or the outcome
settled : (text : List ℕ) (values : Values) (result : Result (List ℕ) RenderFault) (fault : RenderFault) → result ≡ Err fault → (fault ≡ faults.Memory) ⊎ RendersTo text values (Err fault) → (result ≡ Err faults.Memory) ⊎ RendersTo text values result
settled text values result fault is (inl memory) = inl (is ∙ ap (λ f. Err f) memory)
settled text values result fault is (inr renders) = inr (subst (RendersTo text values) (sym is) renders)

-- and then no other one
no_other : (text : List ℕ) (values : Values) (result : Result (List ℕ) RenderFault) → (result ≡ Err faults.Memory) ⊎ RendersTo text values result → (outcome : Result (List ℕ) RenderFault) → RendersTo text values outcome → (result ≡ Err faults.Memory) ⊎ (result ≡ outcome)
no_other text values result (inl memory) outcome renders = inl memory
no_other text values result (inr this) outcome renders = inr (one_outcome text values result outcome this renders)

pub returns-in_err-write_part-clause-outcome : goal.returns-in_err-write_part-clause-outcome
returns-in_err-write_part-clause-outcome c =
    let p = err_from_is_err_and c.from_residual-in_err-write_part.result c.from_residual-in_err-write_part.ensures.1 in
    settled c.args.text.now c.args.values.now c.from_residual-in_err-write_part.result c.in_err-write_part.field-0.0 (p.1 ∙ ap (λ f. Err f) p.2) (stop_of (goal.at.returns-in_err-write_part-clause-outcome c).After-write_part c.in_err-write_part.field-0.0 c.in_err-write_part.ensures)

pub returns-in_err-write_part-clause-no_other : goal.returns-in_err-write_part-clause-no_other
returns-in_err-write_part-clause-no_other c = no_other c.args.text.now c.args.values.now c.from_residual-in_err-write_part.result (returns-in_err-write_part-clause-outcome c)

whole : (c : After-from) → RendersTo c.args.text.now c.args.values.now (Ok c.from.result)
whole c =
    let ended : c.loop-rest.rest.now ≡ [] = nil_from_length c.loop-rest.rest.now (eqb-true _ 0 (sym c.is_empty.ensures ∙ c.loop-rest-test.false)) in
    whole_rendered (value_in c.in_ok-index.index) c.args.values.now c.args.text.now (string_bytes c.loop-rest.rendered) c.from.result (fun_ext c.in_ok-index.ensures)
    (subst (λ r. HasWritten (value_in c.in_ok-index.index) c.args.text.now r (string_bytes c.loop-rest.rendered)) ended c.loop-rest.invariant.so_far) c.from.ensures

pub returns-clause-outcome : goal.returns-clause-outcome
returns-clause-outcome c = inr (whole (goal.at.returns-clause-outcome c).After-from)

pub returns-clause-no_other : goal.returns-clause-no_other
returns-clause-no_other c = λ outcome renders. inr (one_outcome c.args.text.now c.args.values.now (Ok c.from.result) outcome (whole (goal.at.returns-clause-no_other c).After-from) renders)
