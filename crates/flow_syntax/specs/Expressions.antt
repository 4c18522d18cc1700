-- The expressions of a specification: its rules' bodies and its messages' conditions, and all their parts.
use Rattle.std.specs.Prelude.{List, [], ◌∷◌, ◌++◌, Option, Some, None}
use Rattle.std.specs.List.{flat_map}
use Rattle.flow_syntax.specs.declared.expr.Expr.{Expr, out-Expr}
use Rattle.flow_syntax.specs.declared.expr.ExprKind.{ExprKind, out-ExprKind}
use Rattle.flow_syntax.specs.declared.expr.ExprKind.TheOpen.{ExprKind-F}
use Rattle.flow_syntax.specs.declared.message.Message.{Message}
use Rattle.flow_syntax.specs.declared.spec.Spec.{Spec}
use Rattle.flow_syntax.specs.Parts.{by_parts}

-- one layer of an expression
abbrev pub ExprLayer : Type 0
ExprLayer = ExprKind-F ExprKind Expr

abbrev pub expr_layer : Expr → ExprLayer
expr_layer e = out-ExprKind (out-Expr e).kind

abbrev pub all_of_option : {X : Type 0} → Option X → List X
all_of_option None = []
all_of_option (Some x) = x ∷ []

-- the parts of an expression, as they stand in its layer
abbrev pub parts_in : {K E : Type 0} → ExprKind-F K E → List E
parts_in (ExprKind-F.Int n) = []
parts_in (ExprKind-F.Str s) = []
parts_in (ExprKind-F.Truth b) = []
parts_in ExprKind-F.Bottom = []
parts_in ExprKind-F.Top = []
parts_in ExprKind-F.Unreached = []
parts_in (ExprKind-F.Ident x) = []
parts_in (ExprKind-F.Read p side) = []
parts_in (ExprKind-F.Call f arguments) = arguments
parts_in (ExprKind-F.MakeFlat a) = a ∷ []
parts_in (ExprKind-F.Fst a) = a ∷ []
parts_in (ExprKind-F.Snd a) = a ∷ []
parts_in (ExprKind-F.Both a b) = a ∷ b ∷ []
parts_in (ExprKind-F.SetOf elements) = elements
parts_in (ExprKind-F.Choose element x set condition) = element ∷ set ∷ all_of_option condition
parts_in (ExprKind-F.MapOf keys values) = keys ++ values
parts_in (ExprKind-F.Look map key) = map ∷ key ∷ []
parts_in (ExprKind-F.Update map key value) = map ∷ key ∷ value ∷ []
parts_in (ExprKind-F.Set2 operation a b) = a ∷ b ∷ []
parts_in (ExprKind-F.Arith operation a b) = a ∷ b ∷ []
parts_in (ExprKind-F.Minus a) = a ∷ []
parts_in (ExprKind-F.Compare operation a b) = a ∷ b ∷ []
parts_in (ExprKind-F.Member element set) = element ∷ set ∷ []
parts_in (ExprKind-F.And a b) = a ∷ b ∷ []
parts_in (ExprKind-F.Or a b) = a ∷ b ∷ []
parts_in (ExprKind-F.Not a) = a ∷ []
parts_in (ExprKind-F.Bind x a b) = a ∷ b ∷ []
parts_in (ExprKind-F.If condition a b) = condition ∷ a ∷ b ∷ []

-- the parts of an expression
abbrev pub parts_of : Expr → List Expr
parts_of e = parts_in (expr_layer e)

-- an expression and all its parts, an outer one before its parts
abbrev pub preorder : Expr → List Expr
preorder = by_parts (λ e layer. e ∷ flat_map (λ p. p.given) (parts_in layer))

-- the expression that a message has, if it has a condition
abbrev pub expressions_of_message : Message → List Expr
expressions_of_message message = flat_map preorder (all_of_option message.condition)

-- all expressions of a specification, an outer one before its parts, the rules' before the messages'
abbrev pub expressions_of : Spec → List Expr
expressions_of spec = flat_map (λ rule. preorder rule.body) spec.rules ++ flat_map expressions_of_message spec.messages
