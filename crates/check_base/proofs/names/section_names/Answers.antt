use Rattle.std.proofs.Common.{ap, ◌∙◌}
use Rattle.std.specs.List.{position_from}
use Rattle.check_base.specs.Names.{is_called}
use Rattle.check_base.proofs.names.section_names.Goals as goal

pub returns : goal.returns
returns c = record {
  enums = λ x. c.in_ok-enums.ensures x ∙ ap (position_from (λ d. is_called x d.name) 0) c.as_slice.ensures;
  lattices = λ x. c.in_ok-lattices.ensures x ∙ ap (position_from (λ d. is_called x d.name) 0) c.as_slice-2.ensures;
  functions = λ x. c.in_ok-functions.ensures x ∙ ap (position_from (λ d. is_called x d.name) 0) c.as_slice-3.ensures;
  properties = λ x. c.in_ok-properties.ensures x ∙ ap (position_from (λ d. is_called x d.name) 0) c.as_slice-4.ensures;
  rules = λ x. c.in_ok-rules.ensures x ∙ ap (position_from (λ d. is_called x d.property) 0) c.as_slice-5.ensures;
}
