-- The names that a rule or a message binds, in the order of the text.
use Rattle.std.specs.Prelude.{ℕ, List, [], ◌∷◌, ◌++◌, Option, Some, None}
use Rattle.std.specs.List.{flat_map}
use Rattle.flow_syntax.specs.declared.expr.Expr.{Expr, fold-Expr}
use Rattle.flow_syntax.specs.declared.expr.ExprKind.TheOpen.{ExprKind-F}
use Rattle.flow_syntax.specs.declared.pattern.Pattern.{Pattern, fold-Pattern}
use Rattle.flow_syntax.specs.declared.pattern.PatternKind.TheOpen.{PatternKind-F}
use Rattle.flow_syntax.specs.Types.{Sort, name_sort, pos_sort, str_sort, int_sort}
use Rattle.flow_syntax.specs.Scopes.{Variable}

-- a name that is bound: at the place of the pattern or expression that binds it
pub record Binder : Type 0 where
  pub name : List ℕ
  pub place : ℕ

abbrev pub binder : List ℕ → ℕ → Binder
binder x at = record { name = x; place = at }

-- PATTERNS

-- a variable of a pattern
pub record Bound : Type 0 where
  pub name : List ℕ
  pub place : ℕ
  pub sort : Sort

abbrev pub bound : List ℕ → Sort → ℕ → Bound
bound x s at = record { name = x; place = at; sort = s }

-- the variables of a pattern whose parts have these, where the pattern stands at a place
abbrev pub bound_layer : PatternKind-F (ℕ → List Bound) (List Bound) → ℕ → List Bound
bound_layer (PatternKind-F.Var x) at = bound x pos_sort at ∷ []
bound_layer (PatternKind-F.NameVar x) at = bound x name_sort at ∷ []
bound_layer (PatternKind-F.StrVar x) at = bound x str_sort at ∷ []
bound_layer (PatternKind-F.IntVar x) at = bound x int_sort at ∷ []
bound_layer (PatternKind-F.Held x inner) at = bound x pos_sort at ∷ inner
bound_layer (PatternKind-F.Apply c parts) at = flat_map (λ p. p) parts
bound_layer (PatternKind-F.Tuple parts) at = flat_map (λ p. p) parts
bound_layer (PatternKind-F.Items parts) at = flat_map (λ p. p) parts
bound_layer layer at = []

-- the variables of a pattern, in the order of the text
abbrev pub bound_in : Pattern → List Bound
bound_in = fold-Pattern (ℕ → List Bound) (List Bound) bound_layer (λ p. p.kind p.place)

abbrev pub binder_of : Bound → Binder
binder_of b = binder b.name b.place

abbrev pub variable_of : Bound → Variable
variable_of b = record { name = b.name; sort = Some b.sort }

-- EXPRESSIONS

abbrev pub if_any : Option (List Binder) → List Binder
if_any None = []
if_any (Some bs) = bs

-- the names of keys and values in turn
abbrev pub in_turn : List (List Binder) → List (List Binder) → List Binder
in_turn [] vs = flat_map (λ v. v) vs
in_turn (k ∷ ks) [] = k ++ in_turn ks []
in_turn (k ∷ ks) (v ∷ vs) = k ++ v ++ in_turn ks vs

-- the names that an expression binds whose parts bind these, where it stands at a place
abbrev pub binder_layer : ExprKind-F (ℕ → List Binder) (List Binder) → ℕ → List Binder
binder_layer (ExprKind-F.Call f args) at = flat_map (λ a. a) args
binder_layer (ExprKind-F.MakeFlat e) at = e
binder_layer (ExprKind-F.Fst a) at = a
binder_layer (ExprKind-F.Snd a) at = a
binder_layer (ExprKind-F.Both a b) at = a ++ b
binder_layer (ExprKind-F.SetOf es) at = flat_map (λ e. e) es
binder_layer (ExprKind-F.Choose e x s c) at = e ++ binder x at ∷ s ++ if_any c
binder_layer (ExprKind-F.MapOf ks vs) at = in_turn ks vs
binder_layer (ExprKind-F.Look m k) at = m ++ k
binder_layer (ExprKind-F.Update m k v) at = m ++ k ++ v
binder_layer (ExprKind-F.Set2 op a b) at = a ++ b
binder_layer (ExprKind-F.Arith op a b) at = a ++ b
binder_layer (ExprKind-F.Minus a) at = a
binder_layer (ExprKind-F.Compare op a b) at = a ++ b
binder_layer (ExprKind-F.Member e s) at = e ++ s
binder_layer (ExprKind-F.And a b) at = a ++ b
binder_layer (ExprKind-F.Or a b) at = a ++ b
binder_layer (ExprKind-F.Not a) at = a
binder_layer (ExprKind-F.Bind x a b) at = binder x at ∷ a ++ b
binder_layer (ExprKind-F.If c a b) at = c ++ a ++ b
binder_layer layer at = []

-- the names that an expression binds, in the order of the text
abbrev pub binders_in : Expr → List Binder
binders_in = fold-Expr (ℕ → List Binder) (List Binder) binder_layer (λ e. e.kind e.place)
