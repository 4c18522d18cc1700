-- What the functions of the parser of expressions read, where that is no symbol of the grammar.
use Rattle.std.specs.Prelude.{List, [], ◌∷◌, ◌++◌, Some}
use Rattle.std.proofs.Common.{inl}
use Rattle.flow_syntax.specs.declared.expr.Expr.{Expr}
use Rattle.flow_syntax.specs.declared.expr.ExprKind.{ExprKind}
use Rattle.flow_syntax.specs.declared.token.Token.{Token}
use Rattle.grammar_theory.specs.Texts.{Part, PartValue, Nested, Symbol, Then}
use Rattle.spec_grammar.specs.Expressions.{operators_of}
use Rattle.spec_grammar.specs.Parts.{Listing, any_of, listed, the}
use Rattle.spec_grammar.specs.Primaries.{comprehension, keys_of, map_entry, set_of_parts, values_of}
use Rattle.spec_grammar.specs.Symbols.{Nonterminal, ValueOf, AnOperand}
use Rattle.spec_grammar.specs.declared.kind.Kind.TheVariants as kinds
use Rattle.spec_grammar.specs.declared.level.BinaryLevel.{BinaryLevel}

-- the keys and the values of a map's entries
abbrev pub keys_and_values : Listing (Expr × (Token × Expr)) → List Expr × List Expr
keys_and_values x = (keys_of (listed x), values_of (listed x))

-- "," map_entry
abbrev pub further_entry : Part Nonterminal
further_entry = Then (the kinds.Comma) map_entry

-- keys and values with those of one more entry
abbrev pub with_entry : List Expr × List Expr → PartValue Token ValueOf map_entry → List Expr × List Expr
with_entry a x = (a.0 ++ x.0 ∷ [], a.1 ++ x.1.1 ∷ [])

abbrev pub with_further_entry : List Expr × List Expr → PartValue Token ValueOf further_entry → List Expr × List Expr
with_further_entry a x = with_entry a x.1

-- the comprehension of an element
abbrev pub chosen : Expr → PartValue Token ValueOf comprehension → ExprKind
chosen e x = set_of_parts (e, Some (inl x))

-- an operator of a level and its right operand
abbrev pub operator_and_operand : BinaryLevel → Part Nonterminal
operator_and_operand level = Then (any_of (operators_of level)) (Nested (Symbol (AnOperand level)))
