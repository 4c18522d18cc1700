-- Readings of what stands in several productions, as the value that it makes.
use Rattle.std.specs.Prelude.{ℕ, List, [], ◌∷◌, map}
use Rattle.flow_syntax.specs.declared.signature.TreeSort.{TreeSort}
use Rattle.flow_syntax.specs.declared.spec.Named.{Named}
use Rattle.flow_syntax.specs.declared.token.Token.{Token}
use Rattle.flow_syntax.specs.declared.types.ElemSort.{ElemSort}
use Rattle.flow_syntax.specs.declared.types.LatticeType.{LatticeType}
use Rattle.grammar_theory.specs.Reading.{Outcome}
use Rattle.grammar_theory.specs.Texts.{Optional, Many, Symbol}
use Rattle.spec_grammar.specs.Parts.{any_of, identifier, identifiers, constructor_name, several, in_round, in_braces, named, all_named, listed, listed_in, inside}
use Rattle.spec_grammar.specs.Reading.{reads_as, reads_part}
use Rattle.spec_grammar.specs.Symbols.{Nonterminal, ValueOf, ATreeSort}
use Rattle.spec_grammar.specs.Tables.{function_arguments, arguments_named}
use Rattle.spec_grammar.specs.Signatures.{plain_sort}
use Rattle.spec_grammar.specs.Types.{pair_of, plain_elem_sort, set_type, set_type_of}
use Rattle.spec_grammar.specs.declared.kind.Kind.{Kind}
use Rattle.spec_grammar.specs.declared.kind.Kind.TheVariants as kinds

-- ID
abbrev pub reads_name : ℕ → List Token → Outcome Token Named
reads_name l ts = reads_as l identifier named ts

-- cname
abbrev pub reads_constructor_name : ℕ → List Token → Outcome Token Named
reads_constructor_name l ts = reads_as l constructor_name named ts

-- ID { ID }
abbrev pub reads_names : ℕ → List Token → Outcome Token (List Named)
reads_names l ts = reads_as l identifiers all_named ts

-- ID { "|" ID }
abbrev pub reads_items : ℕ → List Token → Outcome Token (List Named)
reads_items l ts = reads_as l (several kinds.Bar identifier) (λ x. map named (listed x)) ts

-- "{" ID { ID } "}"
abbrev pub reads_names_in_braces : ℕ → List Token → Outcome Token (List Named)
reads_names_in_braces l ts = reads_as l (in_braces identifiers) (λ x. all_named (inside x)) ts

-- ID [ "," ID ]
abbrev pub reads_one_or_two : ℕ → List Token → Outcome Token (List Named)
reads_one_or_two l ts = reads_as l function_arguments arguments_named ts

-- "(" ID [ "," ID ] ")"
abbrev pub reads_arguments : ℕ → List Token → Outcome Token (List Named)
reads_arguments l ts = reads_as l (in_round function_arguments) (λ x. arguments_named (inside x)) ts

-- tsort { separator tsort }
abbrev pub reads_sorts : ℕ → Kind → List Token → Outcome Token (List TreeSort)
reads_sorts l separator ts = reads_as l (several separator (Symbol ATreeSort)) listed ts

-- [ tsort { "*" tsort } ]
abbrev pub reads_argument_sorts : ℕ → List Token → Outcome Token (List TreeSort)
reads_argument_sorts l ts = reads_as l (Optional (several kinds.Star (Symbol ATreeSort))) listed_in ts

-- { i }
abbrev pub reads_each : ℕ → (i : Nonterminal) → List Token → Outcome Token (List (ValueOf i))
reads_each l i ts = reads_part l (Many (Symbol i)) ts

-- "(" i ")"
abbrev pub reads_in_round : ℕ → (i : Nonterminal) → List Token → Outcome Token (ValueOf i)
reads_in_round l i ts = reads_as l (in_round (Symbol i)) inside ts

-- ID | "str" | "int" | "any"
abbrev pub reads_plain_tree_sort : ℕ → List Token → Outcome Token TreeSort
reads_plain_tree_sort l ts = reads_as l (any_of (kinds.Identifier ∷ kinds.Str ∷ kinds.Int ∷ kinds.Any ∷ [])) plain_sort ts

-- "name" | "pos" | "str" | "int" | ID
abbrev pub reads_plain_elem_sort : ℕ → List Token → Outcome Token ElemSort
reads_plain_elem_sort l ts = reads_as l (any_of (kinds.Name ∷ kinds.Pos ∷ kinds.Str ∷ kinds.Int ∷ kinds.Identifier ∷ [])) plain_elem_sort ts

-- ( "MaySet" | "MustSet" | "Flat" ) "(" elem ")"
abbrev pub reads_set_type : ℕ → List Token → Outcome Token LatticeType
reads_set_type l ts = reads_as l set_type (λ x. set_type_of x.0 (inside x.1)) ts

-- "(" i "," j ")"
abbrev pub reads_pair : ℕ → (i j : Nonterminal) → List Token → Outcome Token (ValueOf i × ValueOf j)
reads_pair l i j ts = reads_as l (in_round (pair_of i j)) (λ x. ((inside x).0, (inside x).1.1)) ts
