use Rattle.std.proofs.Common.{ap, subst, sym, map, List}
use Rattle.check_base.proofs.GathersLaws.{Found}
use Rattle.check_base.specs.Earliest.{Gathers}
use Rattle.flow_syntax.specs.ExprFaults.{IsFaultyExpression}
use Rattle.flow_syntax.specs.ExprTypes.{wholes_of}
use Rattle.flow_syntax.specs.Types.{typing_of, Typing}
use Rattle.expr_typing.specs.Listing.{AreListed}
use Rattle.check_exprs.proofs.Occurrences.{all_gathered, all_listed}
use Rattle.check_exprs.proofs.rules.check_expressions.Goals as goal

pub returns-clause-gathers : goal.returns-clause-gathers
returns-clause-gathers c =
    subst (λ (f : Found). Gathers f c.check_messages.new.notes.earliest (IsFaultyExpression c.args.spec.now)) c.replace.ensures.value
    (all_gathered c.args.spec.now _ _ c.as_slice.ensures c.as_slice-2.ensures c.in_ok-check_rules.ensures.gathers c.in_ok-check_messages.ensures.gathers)

pub returns-clause-lists : goal.returns-clause-lists
returns-clause-lists c =
    subst (λ (ts : List Typing). AreListed c.args.spec.now (wholes_of c.args.spec.now) ts) (ap (map typing_of) (sym c.from_vec.ensures))
    (all_listed c.args.spec.now _ _ (ap (map typing_of) c.new-2.ensures.items) c.as_slice.ensures c.as_slice-2.ensures c.in_ok-check_rules.ensures.lists c.in_ok-check_messages.ensures.lists)
