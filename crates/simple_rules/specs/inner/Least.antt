-- The least of some numbers, and the places of what isn't taken yet.
use Rattle.std.specs.Prelude.{◌≡◌, ℕ, ◌≤◌, min, List, Option, Some, None, Contains}
use Rattle.flow_syntax.specs.declared.expr.Expr.{Expr, out-Expr}
use Rattle.flow_syntax.specs.declared.property.PropRule.{PropRule}
use Rattle.flow_syntax.specs.declared.tables.FunctionDecl.{FunctionDecl}
use Rattle.flow_syntax.specs.declared.tables.TableDecl.{TableDecl}
use Rattle.simple_rules.specs.Simple.{IsSimple}

-- A number is the least of these, or there are none.
abbrev pub IsLeast : (ℕ → Type 0) → Option ℕ → Type 0
IsLeast P None = (n : ℕ) → ¬ P n
IsLeast P (Some least) = P least × ((n : ℕ) → P n → least ≤ n)

-- the lesser of two numbers, or the one that is there
abbrev pub lesser_of : Option ℕ → Option ℕ → Option ℕ
lesser_of None b = b
lesser_of (Some m) None = Some m
lesser_of (Some m) (Some n) = Some (min m n)

-- One of the items has the number.
pub record SomeHas {T : Type 0} (P : T → ℕ → Type 0) (items : List T) (n : ℕ) : Type 0 where
  pub item : T
  pub among : Contains items item
  pub has : P item n

-- The name of a lattice stands at the place.
abbrev pub IsAtLattice : TableDecl → ℕ → Type 0
IsAtLattice l place = place ≡ l.name.place

-- The name of a function stands at the place.
abbrev pub IsAtFunction : FunctionDecl → ℕ → Type 0
IsAtFunction f place = place ≡ f.name.place

-- An expression isn't simple, and stands at the place.
abbrev pub IsAtOther : Expr → ℕ → Type 0
IsAtOther e place = (¬ IsSimple e) × (place ≡ (out-Expr e).place)

-- The body of a rule is such an expression.
abbrev pub IsAtOtherBody : PropRule → ℕ → Type 0
IsAtOtherBody rule place = IsAtOther rule.body place
