-- prim = INT | STR | "true" | "false" | "bottom" | "top" | "unreached" | ID
--      | ID "(" ( "prev" | "next" | "this" ) ")" | ID "(" expr [ "," expr ] ")"
--      | "flat" "(" expr ")" | "fst" "(" expr ")" | "snd" "(" expr ")"
--      | "(" expr ")" | "(" expr "," expr ")" | "{" [ expr { "," expr } ] "}"
--      | "{" expr "for" ID "in" e1 [ "if" expr ] "}" | "[" [ expr "|->" expr { "," expr "|->" expr } ] "]"
--
-- So that one token decides, what may follow an identifier, a bracket or an expression in braces is split off from it.
use Rattle.std.specs.Prelude.{ℕ, true, false, List, [], ◌∷◌, map, Option, Some, None, if◌then◌else◌}
use Rattle.std.proofs.Common.{inl, inr}
use Rattle.flow_syntax.specs.declared.expr.Expr.{Expr, out-Expr}
use Rattle.flow_syntax.specs.declared.expr.ExprKind.{ExprKind}
use Rattle.flow_syntax.specs.declared.expr.ExprKind.TheVariants as exprs
use Rattle.flow_syntax.specs.declared.expr.Side.{Side}
use Rattle.flow_syntax.specs.declared.expr.Side.TheVariants as sides
use Rattle.flow_syntax.specs.declared.token.Token.{Token}
use Rattle.grammar_theory.specs.Texts.{Part, Then, Or, Optional, Symbol, PartValue}
use Rattle.spec_grammar.specs.Expressions.{expr_at, expr_after, one_or_two, first_and_second}
use Rattle.spec_grammar.specs.Kinds.{is_a, is_kind, kind_of}
use Rattle.spec_grammar.specs.Parts.{the, any_of, identifier, several, in_round, in_square, in_braces, text_of, number_of, listed, behind_in, listed_in, inside}
use Rattle.spec_grammar.specs.Rules.{condition}
use Rattle.spec_grammar.specs.Symbols.{Nonterminal, ValueOf, AnExpr, ALevel, ANamedExpr, AParenthesis, ABrace, AMap}
use Rattle.spec_grammar.specs.declared.level.BinaryLevel.TheVariants.{Disjunction}
use Rattle.spec_grammar.specs.declared.kind.Kind.{Kind}
use Rattle.spec_grammar.specs.declared.kind.Kind.TheVariants as kinds

-- ** one token

abbrev pub literals : List Kind
literals = kinds.Number ∷ kinds.Quoted ∷ kinds.True ∷ kinds.False ∷ kinds.Bottom ∷ kinds.Top ∷ kinds.Unreached ∷ []

abbrev pub literal_of : Token → ExprKind
literal_of token = if is_a kinds.Number token then exprs.Int (number_of token) else (if is_a kinds.Quoted token then exprs.Str (text_of token)
    else (if is_a kinds.True token then exprs.Truth true else (if is_a kinds.False token then exprs.Truth false
    else (if is_a kinds.Bottom token then exprs.Bottom else (if is_a kinds.Top token then exprs.Top else exprs.Unreached)))))

-- ** flat, fst and snd

-- ( "flat" | "fst" | "snd" ) "(" expr ")"
abbrev pub applied_words : List Kind
applied_words = kinds.MakeFlat ∷ kinds.Fst ∷ kinds.Snd ∷ []

abbrev pub applied : Part Nonterminal
applied = Then (any_of applied_words) (in_round (Symbol AnExpr))

abbrev pub applied_to : ℕ → Expr → ExprKind
applied_to kind e = if is_kind kinds.MakeFlat kind then exprs.MakeFlat e else (if is_kind kinds.Fst kind then exprs.Fst e else exprs.Snd e)

abbrev pub make_applied : PartValue Token ValueOf applied → Expr
make_applied x = expr_at x.0.place (applied_to (kind_of x.0) (inside x.1))

-- ** names, reads and calls

abbrev pub sides_of_node : List Kind
sides_of_node = kinds.Prev ∷ kinds.Next ∷ kinds.This ∷ []

-- ( "prev" | "next" | "this" ) | expr [ "," expr ]
abbrev pub call_parts : Part Nonterminal
call_parts = Or (any_of sides_of_node) (one_or_two kinds.Comma)

-- ID [ "(" call_parts ")" ]
abbrev pub named_expr_rule : Part Nonterminal
named_expr_rule = Then identifier (Optional (in_round call_parts))

abbrev pub side_of : ℕ → Side
side_of kind = if is_kind kinds.Prev kind then sides.Prev else (if is_kind kinds.Next kind then sides.Next else sides.This)

abbrev pub arguments_of : Expr × Option Expr → List Expr
arguments_of (a, None) = a ∷ []
arguments_of (a, Some b) = a ∷ b ∷ []

abbrev pub called : List ℕ → PartValue Token ValueOf call_parts → ExprKind
called text (inl word) = exprs.Read text (side_of (kind_of word))
called text (inr x) = exprs.Call text (arguments_of (first_and_second x))

abbrev pub name_or_call : List ℕ → Option (PartValue Token ValueOf (in_round call_parts)) → ExprKind
name_or_call text None = exprs.Ident text
name_or_call text (Some x) = called text (inside x)

abbrev pub make_named_expr : PartValue Token ValueOf named_expr_rule → Expr
make_named_expr x = expr_at x.0.place (name_or_call (text_of x.0) x.1)

-- ** parentheses

-- "(" expr [ "," expr ] ")"
abbrev pub parenthesis_rule : Part Nonterminal
parenthesis_rule = in_round (one_or_two kinds.Comma)

-- the inner expression with the place of the parenthesis, or a pair
abbrev pub parenthesised : Expr × Option Expr → ExprKind
parenthesised (e, None) = (out-Expr e).kind
parenthesised (a, Some b) = exprs.Both a b

abbrev pub make_parenthesis : PartValue Token ValueOf parenthesis_rule → Expr
make_parenthesis x = expr_at x.0.place (parenthesised (first_and_second (inside x)))

-- ** braces

-- "for" ID "in" e1 [ "if" expr ]
abbrev pub comprehension : Part Nonterminal
comprehension = Then (the kinds.For) (Then identifier (Then (the kinds.In) (Then (Symbol (ALevel Disjunction)) condition)))

-- "," expr { "," expr }
abbrev pub further_elements : Part Nonterminal
further_elements = Then (the kinds.Comma) (several kinds.Comma (Symbol AnExpr))

-- expr [ comprehension | further_elements ]
abbrev pub brace_parts : Part Nonterminal
brace_parts = Then (Symbol AnExpr) (Optional (Or comprehension further_elements))

-- "{" [ brace_parts ] "}"
abbrev pub brace_rule : Part Nonterminal
brace_rule = in_braces (Optional brace_parts)

abbrev pub set_of_parts : PartValue Token ValueOf brace_parts → ExprKind
set_of_parts (e, None) = exprs.SetOf (e ∷ [])
set_of_parts (e, Some (inl x)) = exprs.Choose e (text_of x.1.0) x.1.1.1.0 (behind_in x.1.1.1.1)
set_of_parts (e, Some (inr x)) = exprs.SetOf (e ∷ listed x.1)

abbrev pub set_in : Option (PartValue Token ValueOf brace_parts) → ExprKind
set_in None = exprs.SetOf []
set_in (Some x) = set_of_parts x

abbrev pub make_brace : PartValue Token ValueOf brace_rule → Expr
make_brace x = expr_at x.0.place (set_in (inside x))

-- ** maps

-- expr "|->" expr
abbrev pub map_entry : Part Nonterminal
map_entry = Then (Symbol AnExpr) (expr_after kinds.MapsTo)

-- "[" [ map_entry { "," map_entry } ] "]"
abbrev pub map_rule : Part Nonterminal
map_rule = in_square (Optional (several kinds.Comma map_entry))

abbrev pub keys_of : List (Expr × (Token × Expr)) → List Expr
keys_of entries = map (λ x. x.0) entries

abbrev pub values_of : List (Expr × (Token × Expr)) → List Expr
values_of entries = map (λ x. x.1.1) entries

abbrev pub make_map : PartValue Token ValueOf map_rule → Expr
make_map x = expr_at x.0.place (exprs.MapOf (keys_of (listed_in (inside x))) (values_of (listed_in (inside x))))

-- ** all of them

-- literal | applied | ID .. | "(" .. ")" | "{" .. "}" | "[" .. "]"
abbrev pub primary_rule : Part Nonterminal
primary_rule = Or (any_of literals) (Or applied (Or (Symbol ANamedExpr) (Or (Symbol AParenthesis) (Or (Symbol ABrace) (Symbol AMap)))))

abbrev pub make_primary : PartValue Token ValueOf primary_rule → Expr
make_primary (inl token) = expr_at token.place (literal_of token)
make_primary (inr (inl x)) = make_applied x
make_primary (inr (inr (inl e))) = e
make_primary (inr (inr (inr (inl e)))) = e
make_primary (inr (inr (inr (inr (inl e))))) = e
make_primary (inr (inr (inr (inr (inr e))))) = e
