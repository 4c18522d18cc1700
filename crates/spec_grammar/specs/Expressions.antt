-- expr = "if" expr "then" expr "else" expr | "bind" ID "=" expr "yield" expr | e1
-- e1 = e2 { "or" e2 }
-- e2 = e3 { "and" e3 }
-- e3 = "not" e3 | e4
-- e4 = e5 [ ( "==" | "!=" | "<" | "<=" | "in" ) e5 ]
-- e5 = e6 { ( "join" | "union" | "inter" | "minus" ) e6 }
-- e6 = e7 { ( "+" | "-" ) e7 }
-- e7 = e8 { "*" e8 }
-- e8 = "-" e8 | e9
-- e9 = prim { "[" expr [ ":=" expr ] "]" }
--
-- The levels e1, e2, e5, e6 and e7 are one family; e3 is `ANegation`, e4 `AComparison`, e8 `AnOpposite`, e9 `ALookup`.
--
-- Nesting: an operator of a chain is as deep as the number of operators before it says, so turn i of the chain, counted from 0, has
-- its operator i deeper than the chain. Its right operand stands behind that operator too, so it is one deeper than it. A suffix in
-- square brackets stands behind those before it, and its bracket counts from the opening token to the closing one. `if`, `bind`, `not`
-- and `-` count from their own token to the end of what they begin.
use Rattle.std.specs.Prelude.{ℕ, List, [], ◌∷◌, fold, Option, Some, None, if◌then◌else◌}
use Rattle.std.proofs.Common.{inl, inr}
use Rattle.flow_syntax.specs.declared.expr.ArithOp.TheVariants as arith_ops
use Rattle.flow_syntax.specs.declared.expr.CompareOp.TheVariants as compare_ops
use Rattle.flow_syntax.specs.declared.expr.Expr.{Expr, out-Expr, roll-Expr}
use Rattle.flow_syntax.specs.declared.expr.ExprKind.{ExprKind}
use Rattle.flow_syntax.specs.declared.expr.ExprKind.TheVariants as exprs
use Rattle.flow_syntax.specs.declared.expr.SetOp.TheVariants as set_ops
use Rattle.flow_syntax.specs.declared.token.Token.{Token}
use Rattle.grammar_theory.specs.Texts.{Part, Then, Or, Optional, Chain, Nested, Symbol, PartValue}
use Rattle.spec_grammar.specs.Kinds.{is_kind, kind_of}
use Rattle.spec_grammar.specs.Parts.{the, any_of, identifier, in_square, text_of, behind_in, inside}
use Rattle.spec_grammar.specs.Symbols.{Nonterminal, ValueOf, AnExpr, ALevel, AnOperand, ANegation, AComparison, AnOpposite, ALookup, ASuffix, APrimary}
use Rattle.spec_grammar.specs.declared.level.BinaryLevel.{BinaryLevel}
use Rattle.spec_grammar.specs.declared.level.BinaryLevel.TheVariants.{Disjunction, Conjunction, SetOperation, Sum, Product}
use Rattle.spec_grammar.specs.declared.kind.Kind.{Kind}
use Rattle.spec_grammar.specs.declared.kind.Kind.TheVariants as kinds

abbrev pub expr_at : ℕ → ExprKind → Expr
expr_at place kind = roll-Expr (record { place = place; kind = kind })

-- an expression has the place of its first token, so one that begins with another has its place
abbrev pub place_of : Expr → ℕ
place_of e = (out-Expr e).place

-- ** expr

-- a word, and the expression behind it
abbrev pub expr_after : Kind → Part Nonterminal
expr_after word = Then (the word) (Symbol AnExpr)

-- "if" expr "then" expr "else" expr
abbrev pub conditional : Part Nonterminal
conditional = Then (expr_after kinds.If) (Then (expr_after kinds.Then) (expr_after kinds.Else))

abbrev pub make_conditional : PartValue Token ValueOf conditional → Expr
make_conditional x = expr_at x.0.0.place (exprs.If x.0.1 x.1.0.1 x.1.1.1)

-- "bind" ID "=" expr "yield" expr
abbrev pub binding : Part Nonterminal
binding = Then (the kinds.Bind) (Then identifier (Then (expr_after kinds.Is) (expr_after kinds.Yield)))

abbrev pub make_binding : PartValue Token ValueOf binding → Expr
make_binding x = expr_at x.0.place (exprs.Bind (text_of x.1.0) x.1.1.0.1 x.1.1.1.1)

-- conditional | binding | e1
abbrev pub expr_rule : Part Nonterminal
expr_rule = Or (Nested conditional) (Or (Nested binding) (Symbol (ALevel Disjunction)))

abbrev pub make_expr : PartValue Token ValueOf expr_rule → Expr
make_expr (inl x) = make_conditional x
make_expr (inr (inl x)) = make_binding x
make_expr (inr (inr e)) = e

-- ** binary operators

-- the symbol that stands between the operators of a level
abbrev pub operand_of : BinaryLevel → Nonterminal
operand_of Disjunction = ALevel Conjunction
operand_of Conjunction = ANegation
operand_of SetOperation = ALevel Sum
operand_of Sum = ALevel Product
operand_of Product = AnOpposite

abbrev pub operand_rule : BinaryLevel → Part Nonterminal
operand_rule level = Symbol (operand_of level)

abbrev pub make_operand : (level : BinaryLevel) → PartValue Token ValueOf (operand_rule level) → Expr
make_operand Disjunction e = e
make_operand Conjunction e = e
make_operand SetOperation e = e
make_operand Sum e = e
make_operand Product e = e

abbrev pub operators_of : BinaryLevel → List Kind
operators_of Disjunction = kinds.Or ∷ []
operators_of Conjunction = kinds.And ∷ []
operators_of SetOperation = kinds.Join ∷ kinds.Union ∷ kinds.Inter ∷ kinds.Minus ∷ []
operators_of Sum = kinds.Plus ∷ kinds.Dash ∷ []
operators_of Product = kinds.Star ∷ []

-- operators with their right operands
abbrev pub operations : BinaryLevel → Part Nonterminal
operations level = Chain (Then (any_of (operators_of level)) (Nested (Symbol (AnOperand level))))

-- operand { operator operand }
abbrev pub level_rule : BinaryLevel → Part Nonterminal
level_rule level = Then (Symbol (AnOperand level)) (operations level)

-- what an operator of a kind makes of its operands
abbrev pub operation : ℕ → Expr → Expr → ExprKind
operation kind a b = if is_kind kinds.Or kind then exprs.Or a b else (if is_kind kinds.And kind then exprs.And a b
    else (if is_kind kinds.Equal kind then exprs.Compare compare_ops.Eq a b else (if is_kind kinds.Unequal kind then exprs.Compare compare_ops.Ne a b
    else (if is_kind kinds.Below kind then exprs.Compare compare_ops.Lt a b else (if is_kind kinds.AtMost kind then exprs.Compare compare_ops.Le a b
    else (if is_kind kinds.In kind then exprs.Member a b
    else (if is_kind kinds.Join kind then exprs.Set2 set_ops.Join a b else (if is_kind kinds.Union kind then exprs.Set2 set_ops.Union a b
    else (if is_kind kinds.Inter kind then exprs.Set2 set_ops.Inter a b else (if is_kind kinds.Minus kind then exprs.Set2 set_ops.Minus a b
    else (if is_kind kinds.Plus kind then exprs.Arith arith_ops.Add a b else (if is_kind kinds.Dash kind then exprs.Arith arith_ops.Sub a b
    else exprs.Arith arith_ops.Mul a b))))))))))))

-- an operand with an operator and its right operand
abbrev pub combined : Expr → Token × Expr → Expr
combined a (operator, b) = expr_at (place_of a) (operation (kind_of operator) a b)

-- chains of operators group to the left
abbrev pub make_level : (level : BinaryLevel) → PartValue Token ValueOf (level_rule level) → Expr
make_level level x = fold combined x.0 x.1

-- ** not and comparisons

-- "not" e3
abbrev pub negated : Part Nonterminal
negated = Then (the kinds.Not) (Symbol ANegation)

abbrev pub make_negated : PartValue Token ValueOf negated → Expr
make_negated x = expr_at x.0.place (exprs.Not x.1)

-- negated | e4
abbrev pub negation_rule : Part Nonterminal
negation_rule = Or (Nested negated) (Symbol AComparison)

abbrev pub make_negation : PartValue Token ValueOf negation_rule → Expr
make_negation (inl x) = make_negated x
make_negation (inr e) = e

abbrev pub comparisons : List Kind
comparisons = kinds.Equal ∷ kinds.Unequal ∷ kinds.Below ∷ kinds.AtMost ∷ kinds.In ∷ []

-- [ comparison e5 ]
abbrev pub compared : Part Nonterminal
compared = Optional (Then (any_of comparisons) (Nested (Symbol (ALevel SetOperation))))

-- e5 [ comparison e5 ]
abbrev pub comparison_rule : Part Nonterminal
comparison_rule = Then (Symbol (ALevel SetOperation)) compared

abbrev pub comparison_of : Expr → Option (Token × Expr) → Expr
comparison_of e None = e
comparison_of e (Some x) = combined e x

abbrev pub make_comparison : PartValue Token ValueOf comparison_rule → Expr
make_comparison x = comparison_of x.0 x.1

-- ** the sign and look-ups

-- "-" e8
abbrev pub signed : Part Nonterminal
signed = Then (the kinds.Dash) (Symbol AnOpposite)

abbrev pub make_signed : PartValue Token ValueOf signed → Expr
make_signed x = expr_at x.0.place (exprs.Minus x.1)

-- signed | e9
abbrev pub opposite_rule : Part Nonterminal
opposite_rule = Or (Nested signed) (Symbol ALookup)

abbrev pub make_opposite : PartValue Token ValueOf opposite_rule → Expr
make_opposite (inl x) = make_signed x
make_opposite (inr e) = e

-- expr [ separator expr ]
abbrev pub one_or_two : Kind → Part Nonterminal
one_or_two separator = Then (Symbol AnExpr) (Optional (expr_after separator))

abbrev pub first_and_second : Expr × Option (Token × Expr) → Expr × Option Expr
first_and_second x = (x.0, behind_in x.1)

-- "[" expr [ ":=" expr ] "]"
abbrev pub suffix_rule : Part Nonterminal
suffix_rule = in_square (one_or_two kinds.Becomes)

abbrev pub make_suffix : PartValue Token ValueOf suffix_rule → Expr × Option Expr
make_suffix x = first_and_second (inside x)

-- { suffix }
abbrev pub suffixes : Part Nonterminal
suffixes = Chain (Symbol ASuffix)

-- prim { suffix }
abbrev pub lookup_rule : Part Nonterminal
lookup_rule = Then (Symbol APrimary) suffixes

-- the value at a key, or the map with the value at a key replaced
abbrev pub suffixed : Expr → Expr × Option Expr → Expr
suffixed e (key, None) = expr_at (place_of e) (exprs.Look e key)
suffixed e (key, Some value) = expr_at (place_of e) (exprs.Update e key value)

abbrev pub make_lookup : PartValue Token ValueOf lookup_rule → Expr
make_lookup x = fold suffixed x.0 x.1
