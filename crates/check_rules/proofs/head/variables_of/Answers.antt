use Rattle.std.proofs.Common.{◌≡◌, ◌++◌, ◌∙◌, ap, map}
use Rattle.flow_term.proofs.Outcomes.{if_ok}
use Rattle.flow_syntax.specs.Binders.{bound_in}
use Rattle.check_rules.specs.inner.Tables.{first_position, known_bound, known_by}
use Rattle.check_rules.proofs.head.variables_of.Goals as goal

pub returns : goal.returns
returns c =
    let same : map known_by c.as_slice.result.now ≡ map known_bound (bound_in c.args.pattern.now) =
    ap (map known_by) c.as_slice.ensures.value ∙ c.in_ok-push_variables.ensures ∙ ap (λ xs. map known_by xs ++ map known_bound (bound_in c.args.pattern.now)) c.new-bindings.ensures.items in
    if_ok c.first_of_each.result c.first_of_each.ensures (λ table h x. h x ∙ ap (first_position x) same)
