-- What a pattern binds, by one layer of it.
use Rattle.std.proofs.Common.{◌≡◌, ℕ, List, ap, ◌∙◌}
use Rattle.flow_term.specs.declared.term.Term.{Term}
use Rattle.flow_syntax.specs.declared.pattern.Pattern.{Pattern, Pattern-F, out-Pattern, fold_out-Pattern}
use Rattle.flow_syntax.specs.declared.pattern.PatternKind.{PatternKind, PatternKind-F, fold-PatternKind, fold_out-PatternKind, map-PatternKind}
use Rattle.flow_syntax.specs.Matching.{PatternLayer, pattern_layer}
use Rattle.flow_match.specs.Bindings.{Binding, bindings_at, binding_layer}

abbrev outer_step : Pattern-F Binding Binding → Binding
outer_step p = p.kind

abbrev kind_binding : PatternKind → Binding
kind_binding = fold-PatternKind Binding Binding binding_layer outer_step

-- a layer with what its parts bind
abbrev pub parts_bound : PatternLayer → PatternKind-F Binding Binding
parts_bound = map-PatternKind PatternKind Pattern Binding Binding kind_binding bindings_at

-- what a pattern binds, by its layer
pub bindings_out : (p : Pattern) (t : Term) (path : List ℕ) → bindings_at p t path ≡ binding_layer (parts_bound (pattern_layer p)) t path
bindings_out p t path = ap (λ (b : Binding). b t path)
    (fold_out-Pattern Binding Binding binding_layer outer_step p ∙ fold_out-PatternKind Binding Binding binding_layer outer_step (out-Pattern p).kind)
