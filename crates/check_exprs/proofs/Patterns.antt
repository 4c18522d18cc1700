-- The variables of patterns by their layers.
use Rattle.std.proofs.Common.{◌≡◌, ℕ, List, [], ◌∷◌, ◌++◌, map, refl, sym, ap, ◌∙◌, inl, inr}
use Rattle.std.specs.Prelude.{◌⊎◌}
use Rattle.std.proofs.lemmas.List.{append_assoc, map-append}
use Rattle.std.specs.List.{flat_map}
use Rattle.flow_syntax.specs.declared.pattern.Pattern.{Pattern, out-Pattern, fold_out-Pattern}
use Rattle.flow_syntax.specs.declared.pattern.PatternKind.{PatternKind, out-PatternKind, roll-PatternKind, out-roll-PatternKind, fold-PatternKind, fold_out-PatternKind, map-PatternKind}
use Rattle.flow_syntax.specs.declared.pattern.PatternKind.TheVariants as patterns
use Rattle.flow_syntax.specs.declared.pattern.PatternKind.TheOpen.{PatternKind-F}
use Rattle.flow_syntax.specs.Binders.{Bound, bound_in, bound_layer, variable_of}
use Rattle.flow_syntax.specs.Matching.{PatternLayer, pattern_layer}
use Rattle.flow_syntax.specs.Scopes.{Variable}
use Rattle.flow_syntax.specs.Types.{name_sort, pos_sort, str_sort, int_sort}
use Rattle.check_exprs.specs.inner.Variables.{bound_to}

-- a layer with the variables of its parts
abbrev bounds_of : PatternLayer → PatternKind-F (ℕ → List Bound) (List Bound)
bounds_of = map-PatternKind PatternKind Pattern (ℕ → List Bound) (List Bound) (fold-PatternKind (ℕ → List Bound) (List Bound) bound_layer (λ p. p.kind p.place)) bound_in

bound_in_out : (p : Pattern) → bound_in p ≡ bound_layer (bounds_of (pattern_layer p)) (out-Pattern p).place
bound_in_out p =
    fold_out-Pattern (ℕ → List Bound) (List Bound) bound_layer (λ p. p.kind p.place) p
    ∙ ap (λ (f : ℕ → List Bound). f (out-Pattern p).place) (fold_out-PatternKind (ℕ → List Bound) (List Bound) bound_layer (λ p. p.kind p.place) (out-Pattern p).kind)

abbrev pub variables_in : List Pattern → List Variable
variables_in ps = map variable_of (flat_map bound_in ps)

-- the variables of a pattern by its layer
abbrev pub variables_layer : PatternLayer → List Variable
variables_layer (PatternKind-F.Var x) = bound_to x pos_sort ∷ []
variables_layer (PatternKind-F.NameVar x) = bound_to x name_sort ∷ []
variables_layer (PatternKind-F.StrVar x) = bound_to x str_sort ∷ []
variables_layer (PatternKind-F.IntVar x) = bound_to x int_sort ∷ []
variables_layer (PatternKind-F.Held x inner) = bound_to x pos_sort ∷ map variable_of (bound_in inner)
variables_layer (PatternKind-F.Apply c parts) = variables_in parts
variables_layer (PatternKind-F.Tuple parts) = variables_in parts
variables_layer (PatternKind-F.Items parts) = variables_in parts
variables_layer layer = []

flat_again : {X Y : Type 0} (f : X → List Y) (xs : List X) → flat_map (λ (ys : List Y). ys) (map f xs) ≡ flat_map f xs
flat_again f [] = refl
flat_again f (x ∷ xs) = ap (λ ys. f x ++ ys) (flat_again f xs)

by_layer : (layer : PatternLayer) (at : ℕ) → map variable_of (bound_layer (bounds_of layer) at) ≡ variables_layer layer
by_layer (PatternKind-F.Apply c parts) at = ap (map variable_of) (flat_again bound_in parts)
by_layer (PatternKind-F.Tuple parts) at = ap (map variable_of) (flat_again bound_in parts)
by_layer (PatternKind-F.Items parts) at = ap (map variable_of) (flat_again bound_in parts)
by_layer layer at = refl

pub variables_out : (p : Pattern) → map variable_of (bound_in p) ≡ variables_layer (pattern_layer p)
variables_out p = ap (map variable_of) (bound_in_out p) ∙ by_layer (pattern_layer p) (out-Pattern p).place

layer_of_apply : (c : List ℕ) (parts : List Pattern) → out-PatternKind (patterns.Apply c parts) ≡ PatternKind-F.Apply c parts
unfolding roll-PatternKind out-PatternKind denote.Hole.Carrier.roll
layer_of_apply c parts = out-roll-PatternKind (PatternKind-F.Apply c parts)

layer_of_tuple : (parts : List Pattern) → out-PatternKind (patterns.Tuple parts) ≡ PatternKind-F.Tuple parts
unfolding roll-PatternKind out-PatternKind denote.Hole.Carrier.roll
layer_of_tuple parts = out-roll-PatternKind (PatternKind-F.Tuple parts)

layer_of_items : (parts : List Pattern) → out-PatternKind (patterns.Items parts) ≡ PatternKind-F.Items parts
unfolding roll-PatternKind out-PatternKind denote.Hole.Carrier.roll
layer_of_items parts = out-roll-PatternKind (PatternKind-F.Items parts)

-- the variables of a pattern that has parts
pub variables_of_parts : (p : Pattern) (parts : List Pattern)
    → ((c : List ℕ) × ((out-Pattern p).kind ≡ patterns.Apply c parts)) ⊎ (((out-Pattern p).kind ≡ patterns.Tuple parts) ⊎ ((out-Pattern p).kind ≡ patterns.Items parts)) → map variable_of (bound_in p) ≡ variables_in parts
variables_of_parts p parts (inl h) = variables_out p ∙ ap variables_layer (ap out-PatternKind h.1 ∙ layer_of_apply h.0 parts)
variables_of_parts p parts (inr (inl h)) = variables_out p ∙ ap variables_layer (ap out-PatternKind h ∙ layer_of_tuple parts)
variables_of_parts p parts (inr (inr h)) = variables_out p ∙ ap variables_layer (ap out-PatternKind h ∙ layer_of_items parts)

-- one pattern more
pub variables_append : (ps qs : List Pattern) → variables_in (ps ++ qs) ≡ variables_in ps ++ variables_in qs
variables_append [] qs = refl
variables_append (p ∷ ps) qs =
    map-append variable_of (bound_in p) (flat_map bound_in (ps ++ qs)) ∙ ap (λ ys. map variable_of (bound_in p) ++ ys) (variables_append ps qs)
    ∙ sym (append_assoc (map variable_of (bound_in p)) (variables_in ps) (variables_in qs)) ∙ ap (λ ys. ys ++ variables_in qs) (sym (map-append variable_of (bound_in p) (flat_map bound_in ps)))
