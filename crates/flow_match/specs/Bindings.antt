-- What the variables of a pattern stand for at a position.
use Rattle.std.specs.Prelude.{◌≡◌, ℕ, ◌+◌, Bool, true, false, List, [], ◌∷◌, ◌++◌, map, Option, Some, None, cond, bytes_eq}
use Rattle.std.specs.List.{AllZip}
use Rattle.std.specs.Option.{option_map, option_map_or, option_and_then}
use Rattle.std.specs.Ordering.{int_eq}
use Rattle.flow_term.specs.declared.elem.Elem.{Elem}
use Rattle.flow_term.specs.declared.elem.Elem.TheVariants as elem
use Rattle.flow_term.specs.declared.term.Term.{Term}
use Rattle.flow_term.specs.declared.value.Bound.{Bound}
use Rattle.flow_term.specs.Annotations.{name_of, number_in, term_layer, text_in}
use Rattle.flow_term.specs.Trees.{At, children}
use Rattle.flow_syntax.specs.declared.pattern.Pattern.{Pattern, fold-Pattern}
use Rattle.flow_syntax.specs.declared.pattern.PatternKind.TheOpen.{PatternKind-F}
use Rattle.flow_syntax.specs.Binders as binders
use Rattle.value_domains.specs.Values.{IsOfSort}
use Rattle.flow_syntax.specs.Matching.{is_apply, is_list, is_tuple}

-- what a pattern binds at a term that stands at a path, where it matches
abbrev pub Binding : Type 0
Binding = Term → List ℕ → Option (List Bound)

abbrev pub bound : List ℕ → Elem → List Bound
bound x e = record { name = x; value = e } ∷ []

-- no variables, where the test holds
abbrev pub if_holds : Bool → Option (List Bound)
if_holds true = Some []
if_holds false = None

-- the variables of the one and then those of the other, where both match
abbrev pub then_bound : Option (List Bound) → Option (List Bound) → Option (List Bound)
then_bound (Some bs) (Some cs) = Some (bs ++ cs)
then_bound _ _ = None

-- as many terms as patterns, each at its child number from here on, and each pattern matches its term
abbrev pub bind_each : List Binding → List Term → List ℕ → ℕ → Option (List Bound)
bind_each [] [] path n = Some []
bind_each [] (t ∷ ts) path n = None
bind_each (b ∷ bs) [] path n = None
bind_each (b ∷ bs) (t ∷ ts) path n = then_bound (b t (path ++ n ∷ [])) (bind_each bs ts path (n + 1))

-- one layer of a pattern, from what its parts bind
abbrev pub binding_layer : PatternKind-F Binding Binding → Binding
binding_layer PatternKind-F.Wild t path = Some []
binding_layer (PatternKind-F.Var x) t path = Some (bound x (elem.Pos path))
binding_layer (PatternKind-F.NameVar x) t path = option_map (λ n. bound x (elem.Name n)) (name_of t)
binding_layer (PatternKind-F.StrVar x) t path = option_map (λ s. bound x (elem.Str s)) (text_in (term_layer t))
binding_layer (PatternKind-F.IntVar x) t path = option_map (λ n. bound x (elem.Int n)) (number_in (term_layer t))
binding_layer (PatternKind-F.IntLit n) t path = if_holds (option_map_or (int_eq n) (number_in (term_layer t)) false)
binding_layer (PatternKind-F.StrLit s) t path = if_holds (option_map_or (bytes_eq s) (text_in (term_layer t)) false)
binding_layer (PatternKind-F.Apply name parts) t path = cond (is_apply name (term_layer t)) (bind_each parts (children t) path 0) None
binding_layer (PatternKind-F.Tuple parts) t path = cond (is_tuple (term_layer t)) (bind_each parts (children t) path 0) None
binding_layer (PatternKind-F.Items parts) t path = cond (is_list (term_layer t)) (bind_each parts (children t) path 0) None
binding_layer (PatternKind-F.Held x p) t path = option_map (λ bs. record { name = x; value = elem.Pos path } ∷ bs) (p t path)

-- what a pattern binds at a term that stands at a path: nothing where it doesn't match
abbrev pub bindings_at : Pattern → Binding
bindings_at = fold-Pattern Binding Binding binding_layer (λ p. p.kind)

-- what patterns bind at terms of which each is the child of its number, from n on, of the term at the path
abbrev pub bind_all : List Pattern → List Term → List ℕ → ℕ → Option (List Bound)
bind_all ps ts path n = bind_each (map bindings_at ps) ts path n

-- what a pattern binds at a position of a tree
abbrev pub match_in : Pattern → Term → List ℕ → Option (List Bound)
match_in p tree path = option_and_then (λ t. bindings_at p t path) (At tree path)

-- a variable stands for an element of its sort
abbrev pub BindsAs : binders.Bound → Bound → Type 0
BindsAs v b = (v.name ≡ b.name) × IsOfSort v.sort b.value

-- these are the variables, in their order
abbrev pub BindAll : List binders.Bound → List Bound → Type 0
BindAll = AllZip BindsAs
