-- The named symbols of the grammar, and the type of what each is read as.
use Rattle.std.specs.Prelude.{List, Option}
use Rattle.flow_syntax.specs.declared.expr.Expr.{Expr}
use Rattle.flow_syntax.specs.declared.message.Message.{Message}
use Rattle.flow_syntax.specs.declared.pattern.Pattern.{Pattern}
use Rattle.flow_syntax.specs.declared.property.PropDecl.{PropDecl}
use Rattle.flow_syntax.specs.declared.property.PropRule.{PropRule}
use Rattle.flow_syntax.specs.declared.property.Trigger.{Trigger}
use Rattle.flow_syntax.specs.declared.rule.Chain.{Chain}
use Rattle.flow_syntax.specs.declared.rule.FlowRule.{FlowRule}
use Rattle.flow_syntax.specs.declared.rule.Item.{Item}
use Rattle.flow_syntax.specs.declared.signature.Constructor.{Constructor}
use Rattle.flow_syntax.specs.declared.signature.Signature.{Signature}
use Rattle.flow_syntax.specs.declared.signature.TreeSort.{TreeSort}
use Rattle.flow_syntax.specs.declared.spec.Spec.{Spec}
use Rattle.flow_syntax.specs.declared.tables.EnumDecl.{EnumDecl}
use Rattle.flow_syntax.specs.declared.tables.FunctionDecl.{FunctionDecl}
use Rattle.flow_syntax.specs.declared.tables.TableDecl.{TableDecl}
use Rattle.flow_syntax.specs.declared.types.ElemSort.{ElemSort}
use Rattle.flow_syntax.specs.declared.types.LatticeType.{LatticeType}
use Rattle.spec_grammar.specs.declared.level.BinaryLevel.{BinaryLevel}

-- The named symbols, in the order of the files that have their productions.
pub data Nonterminal : Type 0 where
  -- Whole.antt
  Whole : Nonterminal
  -- Signatures.antt
  ASignature : Nonterminal
  AConstructor : Nonterminal
  ATreeSort : Nonterminal
  -- Tables.antt
  AnEnum : Nonterminal
  ATable : Nonterminal
  AFunction : Nonterminal
  -- Control.antt
  AControlRule : Nonterminal
  AHead : Nonterminal
  AChain : Nonterminal
  AnItem : Nonterminal
  -- Types.antt
  AProperty : Nonterminal
  AType : Nonterminal
  AnElemSort : Nonterminal
  -- Rules.antt
  ARule : Nonterminal
  ATrigger : Nonterminal
  AMessage : Nonterminal
  -- Patterns.antt
  APattern : Nonterminal
  AFirmPattern : Nonterminal
  AnUnnamedPattern : Nonterminal
  PatternArguments : Nonterminal
  -- Expressions.antt
  AnExpr : Nonterminal
  ALevel : BinaryLevel → Nonterminal
  AnOperand : BinaryLevel → Nonterminal
  ANegation : Nonterminal
  AComparison : Nonterminal
  AnOpposite : Nonterminal
  ALookup : Nonterminal
  ASuffix : Nonterminal
  -- Primaries.antt
  APrimary : Nonterminal
  ANamedExpr : Nonterminal
  AParenthesis : Nonterminal
  ABrace : Nonterminal
  AMap : Nonterminal

abbrev pub ValueOf : Nonterminal → Type 0
ValueOf Whole = Spec
ValueOf ASignature = Signature
ValueOf AConstructor = Constructor
ValueOf ATreeSort = TreeSort
ValueOf AnEnum = EnumDecl
ValueOf ATable = TableDecl
ValueOf AFunction = FunctionDecl
ValueOf AControlRule = FlowRule
ValueOf AHead = Pattern
ValueOf AChain = Chain
ValueOf AnItem = Item
ValueOf AProperty = PropDecl
ValueOf AType = LatticeType
ValueOf AnElemSort = ElemSort
ValueOf ARule = PropRule
ValueOf ATrigger = Trigger
ValueOf AMessage = Message
ValueOf APattern = Pattern
ValueOf AFirmPattern = Pattern
ValueOf AnUnnamedPattern = Pattern
ValueOf PatternArguments = List Pattern
ValueOf AnExpr = Expr
ValueOf (ALevel level) = Expr
ValueOf (AnOperand level) = Expr
ValueOf ANegation = Expr
ValueOf AComparison = Expr
ValueOf AnOpposite = Expr
ValueOf ALookup = Expr
ValueOf ASuffix = Expr × Option Expr
ValueOf APrimary = Expr
ValueOf ANamedExpr = Expr
ValueOf AParenthesis = Expr
ValueOf ABrace = Expr
ValueOf AMap = Expr
