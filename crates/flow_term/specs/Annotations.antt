-- What the annotations of a term say of it.
use Rattle.std.specs.Prelude.{ℕ, ℤ, ◌||◌, List, [], ◌∷◌, Option, Some, None, filter_map, bytes_eq, codes, option_and_then, option_map, if◌then◌else◌}
use Rattle.flow_term.specs.declared.term.Term.{Term, out-Term}
use Rattle.flow_term.specs.declared.term.Kind.{Kind, out-Kind}
use Rattle.flow_term.specs.declared.term.Kind.TheOpen.{Kind-F}

-- one layer of a term
abbrev pub TermLayer : Type 0
TermLayer = Kind-F Kind Term

abbrev pub term_layer : Term → TermLayer
term_layer t = out-Kind (out-Term t).kind

-- the text of a string
abbrev pub text_in : TermLayer → Option (List ℕ)
text_in (Kind-F.Str text) = Some text
text_in _ = None

-- the number of an integer
abbrev pub number_in : TermLayer → Option ℤ
number_in (Kind-F.Int n) = Some n
number_in _ = None

-- the text, where there is one term and it is a string
abbrev pub sole_text : List Term → Option (List ℕ)
sole_text [] = None
sole_text (t ∷ []) = text_in (term_layer t)
sole_text (t ∷ u ∷ ts) = None

-- the name in `Decl("k")` or `Ref("k")`
abbrev pub name_in : TermLayer → Option (List ℕ)
name_in (Kind-F.Apply name args) = if bytes_eq name (codes "Decl") || bytes_eq name (codes "Ref") then sole_text args else None
name_in _ = None

-- the numbers, where there are two terms and both are integers
abbrev pub two_numbers : List Term → Option (ℤ × ℤ)
two_numbers (a ∷ b ∷ []) = option_and_then (λ m. option_map (λ n. (m, n)) (number_in (term_layer b))) (number_in (term_layer a))
two_numbers _ = None

-- the line and the column in `At(line,column)`
abbrev pub location_in : TermLayer → Option (ℤ × ℤ)
location_in (Kind-F.Apply name args) = if bytes_eq name (codes "At") then two_numbers args else None
location_in _ = None

-- the first of a list
abbrev pub first_of_list : {X : Type 0} → List X → Option X
first_of_list [] = None
first_of_list (x ∷ xs) = Some x

-- the resolved name of a term: that in the first annotation that has one
abbrev pub name_of : Term → Option (List ℕ)
name_of t = first_of_list (filter_map (λ a. name_in (term_layer a)) (out-Term t).annos)

-- the location of a term: that in the first annotation that has one
abbrev pub location_of : Term → Option (ℤ × ℤ)
location_of t = first_of_list (filter_map (λ a. location_in (term_layer a)) (out-Term t).annos)
