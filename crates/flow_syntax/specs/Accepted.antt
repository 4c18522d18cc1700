-- What each accepted specification has, beside no fault.
use Rattle.std.specs.Prelude.{◌≡◌, ℕ, ◌≤◌, Bool, true, false, IsTrue, List, length, Contains}
use Rattle.flow_term.specs.Orders.{EachOnce}
use Rattle.flow_syntax.specs.declared.expr.Expr.{Expr}
use Rattle.flow_syntax.specs.declared.expr.ExprKind.TheOpen.{ExprKind-F}
use Rattle.flow_syntax.specs.declared.pattern.PatternKind.TheOpen.{PatternKind-F}
use Rattle.flow_syntax.specs.declared.property.PropDecl.{PropDecl}
use Rattle.flow_syntax.specs.declared.rule.FlowRule.{FlowRule}
use Rattle.flow_syntax.specs.declared.spec.Named.{Named}
use Rattle.flow_syntax.specs.declared.spec.Spec.{Spec}
use Rattle.flow_syntax.specs.declared.tables.EnumDecl.{EnumDecl}
use Rattle.flow_syntax.specs.declared.tables.FunctionDecl.{FunctionDecl}
use Rattle.flow_syntax.specs.declared.tables.TableDecl.{TableDecl}
use Rattle.flow_syntax.specs.declared.token.Token.{Token}
use Rattle.flow_syntax.specs.declared.token.TokenKind.TheVariants as kinds
use Rattle.flow_syntax.specs.Control.{HasLongChains}
use Rattle.flow_syntax.specs.Expressions.{ExprLayer, expr_layer, expressions_of}
use Rattle.flow_syntax.specs.Matching.{PatternLayer, pattern_layer}
use Rattle.flow_syntax.specs.Tokens.{IsName, reserved_words}

-- whether a pattern is an application
abbrev pub is_application : PatternLayer → Bool
is_application (PatternKind-F.Apply name parts) = true
is_application _ = false

-- The head of each rule is an application.
abbrev pub HasAppliedHeads : Spec → Type 0
HasAppliedHeads spec = (rule : FlowRule) → Contains spec.control rule → IsTrue (is_application (pattern_layer rule.head))

-- Each function has one or two arguments.
abbrev pub HasSmallFunctions : Spec → Type 0
HasSmallFunctions spec = (f : FunctionDecl) → Contains spec.functions f → (1 ≤ length f.args) × (length f.args ≤ 2)

-- a map of keys has as many values
abbrev pub IsEvenMap : ExprLayer → Type 0
IsEvenMap (ExprKind-F.MapOf keys values) = length keys ≡ length values
IsEvenMap _ = Unit {0}

-- Each map that is written out has as many values as keys.
abbrev pub HasEvenMaps : Spec → Type 0
HasEvenMaps spec = (e : Expr) → Contains (expressions_of spec) e → IsEvenMap (expr_layer e)

-- No two expressions are equal, places included.
abbrev pub HasDistinctExpressions : Spec → Type 0
HasDistinctExpressions spec = EachOnce (expressions_of spec)

-- What holds of the form of each specification that the grammar has, whatever its names and types say.
pub record IsWellFormed (spec : Spec) : Type 0 where
  pub applied_heads : HasAppliedHeads spec
  pub long_chains : HasLongChains spec
  pub small_functions : HasSmallFunctions spec
  pub even_maps : HasEvenMaps spec
  pub distinct : HasDistinctExpressions spec

-- A text is an identifier: a name that is no reserved word.
abbrev pub IsIdentifier : List ℕ → Type 0
IsIdentifier text = IsName text × ¬ Contains reserved_words text

-- Each property's name, item of an enum and element of a lattice is an identifier.
pub record HasIdentifiers (spec : Spec) : Type 0 where
  pub properties : (p : PropDecl) → Contains spec.properties p → IsIdentifier p.name.text
  pub items : (e : EnumDecl) (item : Named) → Contains spec.enums e → Contains e.items item → IsIdentifier item.text
  pub elements : (l : TableDecl) (element : Named) → Contains spec.lattices l → Contains l.elements element → IsIdentifier element.text

-- Each token that is an identifier has the text of one.
abbrev pub HasIdentifierTokens : List Token → Type 0
HasIdentifierTokens tokens = (token : Token) (text : List ℕ) → Contains tokens token → token.kind ≡ kinds.Ident text → IsIdentifier text
