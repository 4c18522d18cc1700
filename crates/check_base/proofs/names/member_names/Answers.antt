use Rattle.std.proofs.Common.{ap, map, ◌∙◌}
use Rattle.std.specs.List.{list_any, position_from}
use Rattle.check_base.specs.Names.{element_named, is_called}
use Rattle.check_base.proofs.names.member_names.Goals as goal

pub returns : goal.returns
returns c = record {
  items = λ x. c.in_ok-items.ensures x ∙ ap (position_from (λ d. list_any (is_called x) d.items) 0) c.as_slice.ensures;
  elements = λ x. c.in_ok-elements.ensures x ∙ ap (position_from (λ d. list_any (is_called x) d.elements) 0) c.as_slice-2.ensures;
  elements_of = λ x. c.in_ok-elements_of.ensures x ∙ ap (map (λ lattice. element_named lattice x)) c.as_slice-3.ensures;
}
