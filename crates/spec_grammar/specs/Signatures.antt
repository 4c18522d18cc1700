-- signature = "signature" "start" ID { constructor }
-- constructor = cname ":" [ tsort { "*" tsort } ] "->" ID
-- tsort = ID | "str" | "int" | "any" | "list" "(" tsort ")" | "(" tsort { "," tsort } ")"
use Rattle.std.specs.Prelude.{[], ◌∷◌, if◌then◌else◌}
use Rattle.std.proofs.Common.{inl, inr}
use Rattle.flow_syntax.specs.declared.signature.Constructor.{Constructor}
use Rattle.flow_syntax.specs.declared.signature.Signature.{Signature}
use Rattle.flow_syntax.specs.declared.signature.TreeSort.{TreeSort}
use Rattle.flow_syntax.specs.declared.signature.TreeSort.TheVariants as sorts
use Rattle.flow_syntax.specs.declared.token.Token.{Token}
use Rattle.grammar_theory.specs.Texts.{Part, Then, Or, Optional, Many, Symbol, PartValue}
use Rattle.spec_grammar.specs.Kinds.{is_a}
use Rattle.spec_grammar.specs.Parts.{the, any_of, identifier, constructor_name, several, in_round, named, listed, listed_in, inside}
use Rattle.spec_grammar.specs.Symbols.{Nonterminal, ValueOf, AConstructor, ATreeSort}
use Rattle.spec_grammar.specs.declared.kind.Kind.TheVariants as kinds

-- "signature" "start" ID { constructor }
abbrev pub signature_rule : Part Nonterminal
signature_rule = Then (the kinds.Signature) (Then (the kinds.Start) (Then identifier (Many (Symbol AConstructor))))

abbrev pub make_signature : PartValue Token ValueOf signature_rule → Signature
make_signature x = record { start = named x.1.1.0; constructors = x.1.1.1 }

-- cname ":" [ tsort { "*" tsort } ] "->" ID
abbrev pub constructor_rule : Part Nonterminal
constructor_rule = Then constructor_name (Then (the kinds.Colon) (Then (Optional (several kinds.Star (Symbol ATreeSort))) (Then (the kinds.Arrow) identifier)))

abbrev pub make_constructor : PartValue Token ValueOf constructor_rule → Constructor
make_constructor x = record { name = named x.0; args = listed_in x.1.1.0; result = named x.1.1.1.1 }

-- ( ID | "str" | "int" | "any" ) | "list" "(" tsort ")" | "(" tsort { "," tsort } ")"
abbrev pub tree_sort_rule : Part Nonterminal
tree_sort_rule = Or (any_of (kinds.Identifier ∷ kinds.Str ∷ kinds.Int ∷ kinds.Any ∷ [])) (Or (Then (the kinds.List) (in_round (Symbol ATreeSort))) (in_round (several kinds.Comma (Symbol ATreeSort))))

abbrev pub plain_sort : Token → TreeSort
plain_sort token = if is_a kinds.Identifier token then sorts.Sort (named token) else (if is_a kinds.Str token then sorts.Str else (if is_a kinds.Int token then sorts.Int else sorts.Any))

abbrev pub make_tree_sort : PartValue Token ValueOf tree_sort_rule → TreeSort
make_tree_sort (inl token) = plain_sort token
make_tree_sort (inr (inl x)) = sorts.Items (inside x.1)
make_tree_sort (inr (inr x)) = sorts.Tuple (listed (inside x))
