-- Whether a pattern matches a term, by the kind of the pattern.
use Rattle.std.specs.Prelude.{ℕ, Bool, true, false, ◌&&◌, List, [], ◌∷◌, is_some, bytes_eq, map}
use Rattle.std.specs.Option.{option_map_or}
use Rattle.std.specs.Ordering.{int_eq}
use Rattle.flow_term.specs.declared.term.Term.{Term}
use Rattle.flow_term.specs.declared.term.Kind.TheOpen.{Kind-F}
use Rattle.flow_term.specs.Annotations.{TermLayer, name_of, number_in, term_layer, text_in}
use Rattle.flow_term.specs.Trees.{children}
use Rattle.flow_syntax.specs.declared.pattern.Pattern.{Pattern, out-Pattern, fold-Pattern}
use Rattle.flow_syntax.specs.declared.pattern.PatternKind.{PatternKind, out-PatternKind}
use Rattle.flow_syntax.specs.declared.pattern.PatternKind.TheOpen.{PatternKind-F}

-- one layer of a pattern
abbrev pub PatternLayer : Type 0
PatternLayer = PatternKind-F PatternKind Pattern

abbrev pub pattern_layer : Pattern → PatternLayer
pattern_layer p = out-PatternKind (out-Pattern p).kind

abbrev pub is_apply : List ℕ → TermLayer → Bool
is_apply name (Kind-F.Apply other args) = bytes_eq name other
is_apply name _ = false

abbrev pub is_tuple : TermLayer → Bool
is_tuple (Kind-F.Tuple parts) = true
is_tuple _ = false

abbrev pub is_list : TermLayer → Bool
is_list (Kind-F.Items items) = true
is_list _ = false

-- a test of terms
abbrev pub Matcher : Type 0
Matcher = Term → Bool

-- as many terms as tests, and each passes its own
abbrev pub fit : List Matcher → List Term → Bool
fit [] [] = true
fit [] (t ∷ ts) = false
fit (m ∷ ms) [] = false
fit (m ∷ ms) (t ∷ ts) = m t && fit ms ts

-- one layer of a pattern, whose parts are tests
abbrev pub match_layer : PatternKind-F Matcher Matcher → Matcher
match_layer PatternKind-F.Wild t = true
match_layer (PatternKind-F.Var x) t = true
match_layer (PatternKind-F.NameVar x) t = is_some (name_of t)
match_layer (PatternKind-F.StrVar x) t = is_some (text_in (term_layer t))
match_layer (PatternKind-F.IntVar x) t = is_some (number_in (term_layer t))
match_layer (PatternKind-F.IntLit n) t = option_map_or (int_eq n) (number_in (term_layer t)) false
match_layer (PatternKind-F.StrLit s) t = option_map_or (bytes_eq s) (text_in (term_layer t)) false
match_layer (PatternKind-F.Apply name parts) t = is_apply name (term_layer t) && fit parts (children t)
match_layer (PatternKind-F.Tuple parts) t = is_tuple (term_layer t) && fit parts (children t)
match_layer (PatternKind-F.Items parts) t = is_list (term_layer t) && fit parts (children t)
match_layer (PatternKind-F.Held x p) t = p t

-- whether the pattern matches the term
abbrev pub matches : Pattern → Term → Bool
matches = fold-Pattern Matcher Matcher match_layer (λ p. p.kind)

-- as many terms as patterns, and each pattern matches its term
abbrev pub fit_all : List Pattern → List Term → Bool
fit_all ps ts = fit (map matches ps) ts
