-- What a walk over expressions beside the types of their parts finds.
use Rattle.std.specs.Prelude.{◌≡◌, ⊤, ℕ, Bool, true, false, List, [], ◌∷◌, map, drop, Option}
use Rattle.std.specs.List.{flat_map}
use Rattle.flow_syntax.specs.declared.expr.Expr.{Expr, out-Expr}
use Rattle.flow_syntax.specs.declared.expr.ExprKind.TheVariants as exprs
use Rattle.flow_syntax.specs.declared.property.Mode.{Mode}
use Rattle.flow_syntax.specs.declared.property.PropRule.{PropRule}
use Rattle.flow_syntax.specs.declared.tables.TableDecl.{TableDecl}
use Rattle.flow_syntax.specs.declared.types.ExprType.{ExprType}
use Rattle.flow_syntax.specs.Expressions.{preorder, all_of_option}
use Rattle.flow_syntax.specs.Types.{Typing, lattice, must, typing_of}
use Rattle.expr_meaning.specs.Modes.{mode_of, all_combined}
use Rattle.expr_meaning.specs.Ranges.{Range, range_of}

-- each of the expressions has the range of the type beside it
abbrev pub AgreeWith : List TableDecl → (Expr → Range) → List Expr → List ExprType → Type 0
AgreeWith declared range [] ts = ⊤
AgreeWith declared range (e ∷ es) (t ∷ ts) = (range e ≡ range_of declared (typing_of t)) × AgreeWith declared range es ts
AgreeWith declared range (e ∷ es) [] = ⊥

-- the types behind those of the expressions
abbrev pub behind : List Expr → List ExprType → List ExprType
behind [] ts = ts
behind (e ∷ es) ts = behind es (drop 1 ts)

abbrev pub is_must_type : Typing → Bool
is_must_type (lattice (must s)) = true
is_must_type t = false

-- whether the first of the types is one of must sets
abbrev pub begins_with_must : List ExprType → Bool
begins_with_must [] = false
begins_with_must (t ∷ ts) = is_must_type (typing_of t)

-- the mode of an expression, and the types behind those of its parts, wherever these agree
abbrev pub IsWalked : Expr → List ExprType → Mode → List ExprType → Type 0
IsWalked e ts m rest = (declared : List TableDecl) (range : Expr → Range) → AgreeWith declared range (preorder e) ts → (mode_of range e ≡ m) × (behind (preorder e) ts ≡ rest)

-- the combination of the modes of expressions
abbrev pub AllWalked : List Expr → List ExprType → Mode → List ExprType → Type 0
AllWalked es ts m rest = (declared : List TableDecl) (range : Expr → Range) → AgreeWith declared range (flat_map preorder es) ts
    → (all_combined (map (mode_of range) es) ≡ m) × (behind (flat_map preorder es) ts ≡ rest)

-- the mode of an expression, if there is one
abbrev pub IfWalked : Option Expr → List ExprType → Mode → List ExprType → Type 0
IfWalked o = AllWalked (all_of_option o)

-- the expressions of the bodies of rules
abbrev pub bodies_in : List PropRule → List Expr
bodies_in rules = flat_map (λ rule. preorder rule.body) rules

-- An expression is a map of keys and values.
pub record IsMapOf (e : Expr) : Type 0 where
  pub keys : List Expr
  pub values : List Expr
  pub is : (out-Expr e).kind ≡ exprs.MapOf keys values

-- An expression asks whether an element is in a set.
pub record IsMember (e : Expr) : Type 0 where
  pub element : Expr
  pub set : Expr
  pub is : (out-Expr e).kind ≡ exprs.Member element set

-- An expression is a set that is chosen from another one.
pub record IsChoose (e : Expr) : Type 0 where
  pub element : Expr
  pub name : List ℕ
  pub set : Expr
  pub condition : Option Expr
  pub is : (out-Expr e).kind ≡ exprs.Choose element name set condition
