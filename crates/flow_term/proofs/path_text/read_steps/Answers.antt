use Rattle.std.proofs.Common.{ℕ, List, [], ◌∷◌, ◌++◌, sym, subst, ◌∙◌}
use Rattle.flow_term.proofs.StepTexts.{Leaves, front_more, is_empty, leaves_more, leaves_nothing, no_step, not_empty}
use Rattle.flow_term.proofs.path_text.read_steps.Goals as goal

pub returns-in_default-clause-only : goal.returns-in_default-clause-only
returns-in_default-clause-only c = λ first path small text.
    no_step c.loop-rest.steps.items c.loop-rest.rest.now (first ∷ path) c.first_step.result (not_empty c.loop-rest.rest.now c.is_empty.result c.is_empty.ensures c.loop-rest-test.true)
    c.first_step.ensures.only c.in_default.not-Some (c.loop-rest.invariant.begins (first ∷ path) small text)

pub loop-rest-preserved : goal.loop-rest-preserved
loop-rest-preserved c = record {
  front = rw (c.in_ok-push_step.ensures, c.behind-rest.ensures)
      (front_more c.loop-rest.steps.items c.loop-rest.rest.now c.args.bytes.now c.in-Some.step c.in-Some.len c.loop-rest.invariant.front c.in-Some.ensures.found.0);
  begins = λ path small text. subst (λ (xs : List ℕ). Leaves xs c.behind-rest.result.now path) (sym c.in_ok-push_step.ensures)
      (subst (λ (xs : List ℕ). Leaves (c.loop-rest.steps.items ++ c.in-Some.step ∷ []) xs path) (sym c.behind-rest.ensures)
      (leaves_more c.loop-rest.steps.items c.loop-rest.rest.now path c.first_step.result c.in-Some.step c.in-Some.len
      (not_empty c.loop-rest.rest.now c.is_empty.result c.is_empty.ensures c.loop-rest-test.true) c.first_step.ensures.only c.in-Some.is (c.loop-rest.invariant.begins path small text)));
}

pub returns-clause-only : goal.returns-clause-only
returns-clause-only c = λ first path small text.
    c.from_vec.ensures
    ∙ sym (leaves_nothing c.loop-rest.steps.items c.loop-rest.rest.now (first ∷ path) (is_empty c.loop-rest.rest.now c.is_empty.result c.is_empty.ensures c.loop-rest-test.false)
    (c.loop-rest.invariant.begins (first ∷ path) small text))
