use Rattle.std.proofs.Common.{ap, sym, ◌∙◌}
use Rattle.std.proofs.lemmas.Option.{same_Some}
use Rattle.flow_syntax.specs.DeclFaults.{trigger_direction}
use Rattle.check_decls.proofs.direction.is_turned.Goals as goal

pub returns-in-Some : goal.returns-in-Some
returns-in-Some c = (
  λ h. record {
    first = c.in-Some.first.now;
    is_first = sym c.in-Some.ensures;
    other = λ e. c.is_other.ensures.0 h (c.trigger_direction.ensures ∙ e ∙ sym c.trigger_direction-in-Some.ensures);
  },
  λ turned. c.is_other.ensures.1 (λ e. turned.other (
      sym c.trigger_direction.ensures ∙ e ∙ c.trigger_direction-in-Some.ensures ∙ ap (λ r. trigger_direction r.trigger) (same_Some c.in-Some.first.now turned.first (c.in-Some.ensures ∙ turned.is_first)))),
)
