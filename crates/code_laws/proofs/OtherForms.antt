-- Forms that don't give what is asked: no typed expression of such a form has that kind, so whatever code is made of it will do.
use Rattle.std.proofs.Common.{◌≡◌, ℕ, Bool, true, false, List, sym, ◌∙◌}
use Rattle.flow_syntax.specs.declared.expr.Expr.{Expr}
use Rattle.flow_syntax.specs.declared.expr.ExprKind.TheOpen.{ExprKind-F}
use Rattle.flow_syntax.specs.declared.spec.Spec.{Spec}
use Rattle.flow_syntax.specs.declared.types.ExprType.{ExprType}
use Rattle.flow_syntax.specs.Expressions.{ExprLayer, expr_layer}
use Rattle.lattice_any.specs.declared.tables.DeclaredTable.{DeclaredTable}
use Rattle.expr_meaning.specs.Meaning.{Meaning, Usable}
use Rattle.expr_meaning.specs.Ranges.{Range}
use Rattle.expr_meaning.specs.Typing.{HasForm, Variable, held}
use Rattle.expr_meaning.proofs.TypedParts.{inner_typed}
use Rattle.eval_code.specs.Senses.{Given}
use Rattle.code_laws.specs.inner.Compiled.{Kind, HasKind, a_value, an_element, a_truth, IsCompiled}
use Rattle.std.proofs.lemmas.Bool.{true≢false}
use Rattle.code_laws.proofs.RangeFacts.{values≢elements, values≢truths, elements≢truths}

-- whether a form can give a value, an element, a truth
abbrev pub can_give : Kind → ExprLayer → Bool
can_give a_value (ExprKind-F.Int n) = false
can_give a_value (ExprKind-F.Str x) = false
can_give a_value (ExprKind-F.Truth b) = false
can_give a_value (ExprKind-F.Arith o a b) = false
can_give a_value (ExprKind-F.Minus a) = false
can_give a_value (ExprKind-F.Compare o a b) = false
can_give a_value (ExprKind-F.Member a b) = false
can_give a_value (ExprKind-F.And a b) = false
can_give a_value (ExprKind-F.Or a b) = false
can_give a_value (ExprKind-F.Not a) = false
can_give a_value layer = true
can_give an_element (ExprKind-F.Truth b) = false
can_give an_element ExprKind-F.Bottom = false
can_give an_element ExprKind-F.Top = false
can_give an_element ExprKind-F.Unreached = false
can_give an_element (ExprKind-F.Read p side) = false
can_give an_element (ExprKind-F.Call f args) = false
can_give an_element (ExprKind-F.MakeFlat a) = false
can_give an_element (ExprKind-F.SetOf es) = false
can_give an_element (ExprKind-F.Choose a x b c) = false
can_give an_element (ExprKind-F.MapOf ks ws) = false
can_give an_element (ExprKind-F.Look m k) = false
can_give an_element (ExprKind-F.Update m k w) = false
can_give an_element (ExprKind-F.Set2 o a b) = false
can_give an_element (ExprKind-F.Bind x a b) = false
can_give an_element (ExprKind-F.Compare o a b) = false
can_give an_element (ExprKind-F.Member a b) = false
can_give an_element (ExprKind-F.And a b) = false
can_give an_element (ExprKind-F.Or a b) = false
can_give an_element (ExprKind-F.Not a) = false
can_give an_element layer = true
can_give a_truth (ExprKind-F.Int n) = false
can_give a_truth (ExprKind-F.Str x) = false
can_give a_truth ExprKind-F.Bottom = false
can_give a_truth ExprKind-F.Top = false
can_give a_truth ExprKind-F.Unreached = false
can_give a_truth (ExprKind-F.Read p side) = false
can_give a_truth (ExprKind-F.Call f args) = false
can_give a_truth (ExprKind-F.MakeFlat a) = false
can_give a_truth (ExprKind-F.SetOf es) = false
can_give a_truth (ExprKind-F.Choose a x b c) = false
can_give a_truth (ExprKind-F.MapOf ks ws) = false
can_give a_truth (ExprKind-F.Look m k) = false
can_give a_truth (ExprKind-F.Update m k w) = false
can_give a_truth (ExprKind-F.Set2 o a b) = false
can_give a_truth (ExprKind-F.Bind x a b) = false
can_give a_truth (ExprKind-F.Arith o a b) = false
can_give a_truth (ExprKind-F.Minus a) = false
can_give a_truth layer = true

module _ (spec : Spec) (usable : Usable) (range : Expr → Range) (vs : List Variable) (own : Range) where
  no_value : (layer : ExprLayer) → HasForm spec usable range vs own layer → HasKind a_value own → can_give a_value layer ≡ false → ⊥
  no_value (ExprKind-F.Int n) h has never = values≢elements has.0 _ (sym has.1 ∙ h)
  no_value (ExprKind-F.Str x) h has never = values≢elements has.0 _ (sym has.1 ∙ h)
  no_value (ExprKind-F.Truth b) h has never = values≢truths has.0 (sym has.1 ∙ h)
  no_value (ExprKind-F.Arith o a b) h has never = values≢elements has.0 _ (sym has.1 ∙ h.0)
  no_value (ExprKind-F.Minus a) h has never = values≢elements has.0 _ (sym has.1 ∙ h.0)
  no_value (ExprKind-F.Compare o a b) h has never = values≢truths has.0 (sym has.1 ∙ h.1)
  no_value (ExprKind-F.Member a b) h has never = values≢truths has.0 (sym has.1 ∙ h.2)
  no_value (ExprKind-F.And a b) h has never = values≢truths has.0 (sym has.1 ∙ h.0)
  no_value (ExprKind-F.Or a b) h has never = values≢truths has.0 (sym has.1 ∙ h.0)
  no_value (ExprKind-F.Not a) h has never = values≢truths has.0 (sym has.1 ∙ h.0)
  no_value _ h has never = true≢false never

  no_element : (layer : ExprLayer) → HasForm spec usable range vs own layer → HasKind an_element own → can_give an_element layer ≡ false → ⊥
  no_element (ExprKind-F.Truth b) h has never = elements≢truths has.0 (sym has.1 ∙ h)
  no_element ExprKind-F.Bottom h has never = values≢elements _ has.0 (sym h.1 ∙ has.1)
  no_element ExprKind-F.Top h has never = values≢elements _ has.0 (sym h.1 ∙ has.1)
  no_element ExprKind-F.Unreached h has never = values≢elements _ has.0 (sym h.1 ∙ has.1)
  no_element (ExprKind-F.Read p side) h has never = values≢elements _ has.0 (sym h.0 ∙ has.1)
  no_element (ExprKind-F.Call f args) h has never = values≢elements _ has.0 (sym h.2 ∙ has.1)
  no_element (ExprKind-F.MakeFlat a) h has never = values≢elements _ has.0 (sym h.1 ∙ has.1)
  no_element (ExprKind-F.SetOf es) h has never = values≢elements _ has.0 (sym h.2 ∙ has.1)
  no_element (ExprKind-F.Choose a x b c) h has never = values≢elements _ has.0 (sym h.3 ∙ has.1)
  no_element (ExprKind-F.MapOf ks ws) h has never = values≢elements _ has.0 (sym h.2 ∙ has.1)
  no_element (ExprKind-F.Look m k) h has never = values≢elements _ has.0 (sym h.2 ∙ has.1)
  no_element (ExprKind-F.Update m k w) h has never = values≢elements _ has.0 (sym h.2 ∙ has.1)
  no_element (ExprKind-F.Set2 o a b) h has never = values≢elements _ has.0 (sym h.2 ∙ has.1)
  no_element (ExprKind-F.Bind x a b) h has never = values≢elements _ has.0 (sym h.2 ∙ has.1)
  no_element (ExprKind-F.Compare o a b) h has never = elements≢truths has.0 (sym has.1 ∙ h.1)
  no_element (ExprKind-F.Member a b) h has never = elements≢truths has.0 (sym has.1 ∙ h.2)
  no_element (ExprKind-F.And a b) h has never = elements≢truths has.0 (sym has.1 ∙ h.0)
  no_element (ExprKind-F.Or a b) h has never = elements≢truths has.0 (sym has.1 ∙ h.0)
  no_element (ExprKind-F.Not a) h has never = elements≢truths has.0 (sym has.1 ∙ h.0)
  no_element _ h has never = true≢false never

  no_truth : (layer : ExprLayer) → HasForm spec usable range vs own layer → HasKind a_truth own → can_give a_truth layer ≡ false → ⊥
  no_truth (ExprKind-F.Int n) h has never = elements≢truths _ (sym h ∙ has)
  no_truth (ExprKind-F.Str x) h has never = elements≢truths _ (sym h ∙ has)
  no_truth ExprKind-F.Bottom h has never = values≢truths _ (sym h.1 ∙ has)
  no_truth ExprKind-F.Top h has never = values≢truths _ (sym h.1 ∙ has)
  no_truth ExprKind-F.Unreached h has never = values≢truths _ (sym h.1 ∙ has)
  no_truth (ExprKind-F.Read p side) h has never = values≢truths _ (sym h.0 ∙ has)
  no_truth (ExprKind-F.Call f args) h has never = values≢truths _ (sym h.2 ∙ has)
  no_truth (ExprKind-F.MakeFlat a) h has never = values≢truths _ (sym h.1 ∙ has)
  no_truth (ExprKind-F.SetOf es) h has never = values≢truths _ (sym h.2 ∙ has)
  no_truth (ExprKind-F.Choose a x b c) h has never = values≢truths _ (sym h.3 ∙ has)
  no_truth (ExprKind-F.MapOf ks ws) h has never = values≢truths _ (sym h.2 ∙ has)
  no_truth (ExprKind-F.Look m k) h has never = values≢truths _ (sym h.2 ∙ has)
  no_truth (ExprKind-F.Update m k w) h has never = values≢truths _ (sym h.2 ∙ has)
  no_truth (ExprKind-F.Set2 o a b) h has never = values≢truths _ (sym h.2 ∙ has)
  no_truth (ExprKind-F.Bind x a b) h has never = values≢truths _ (sym h.2 ∙ has)
  no_truth (ExprKind-F.Arith o a b) h has never = elements≢truths _ (sym h.0 ∙ has)
  no_truth (ExprKind-F.Minus a) h has never = elements≢truths _ (sym h.0 ∙ has)
  no_truth _ h has never = true≢false never

-- so any code will do
module _ {spec : Spec} {tables : List DeclaredTable} (names : List (List ℕ)) (e : Expr) (ts rest : List ExprType) (g : Given Meaning) where
  pub any_value : can_give a_value (expr_layer e) ≡ false → IsCompiled spec tables names a_value e ts g rest
  any_value never = record { found = λ s vs typed agree has. absurd (no_value spec s.usable s.range vs (s.range e) (expr_layer e) (inner_typed (held vs e) typed).0 has never) }

  pub any_element : can_give an_element (expr_layer e) ≡ false → IsCompiled spec tables names an_element e ts g rest
  any_element never = record { found = λ s vs typed agree has. absurd (no_element spec s.usable s.range vs (s.range e) (expr_layer e) (inner_typed (held vs e) typed).0 has never) }

  pub any_truth : can_give a_truth (expr_layer e) ≡ false → IsCompiled spec tables names a_truth e ts g rest
  any_truth never = record { found = λ s vs typed agree has. absurd (no_truth spec s.usable s.range vs (s.range e) (expr_layer e) (inner_typed (held vs e) typed).0 has never) }
