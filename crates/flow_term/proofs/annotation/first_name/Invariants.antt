use Rattle.std.proofs.Common.{◌≡◌, drop}
use Rattle.std.specs.Prelude.{filter_map}
use Rattle.flow_term.specs.Annotations.{first_of_list, name_in, term_layer}
use Rattle.flow_term.proofs.annotation.first_name.Given as goal

-- none of those before it has one
abbrev pub invariant-loop-annotation : goal.invariant-loop-annotation
invariant-loop-annotation l = first_of_list (filter_map (λ a. name_in (term_layer a)) l.annotations) ≡ first_of_list (filter_map (λ a. name_in (term_layer a)) (drop l.annotation-index l.annotations))
