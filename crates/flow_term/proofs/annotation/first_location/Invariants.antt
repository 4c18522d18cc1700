use Rattle.std.proofs.Common.{◌≡◌, drop}
use Rattle.std.specs.Prelude.{filter_map}
use Rattle.flow_term.specs.Annotations.{first_of_list, location_in, term_layer}
use Rattle.flow_term.proofs.annotation.first_location.Given as goal

-- none of those before it has one
abbrev pub invariant-loop-annotation : goal.invariant-loop-annotation
invariant-loop-annotation l = first_of_list (filter_map (λ a. location_in (term_layer a)) l.annotations) ≡ first_of_list (filter_map (λ a. location_in (term_layer a)) (drop l.annotation-index l.annotations))
