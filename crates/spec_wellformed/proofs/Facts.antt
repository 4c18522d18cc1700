-- What each symbol's texts have.
use Rattle.std.proofs.Common.{◌≡◌, ℕ, ◌≤◌, List, ◌∷◌, length}
use Rattle.std.specs.Prelude.{Contains, IsTrue}
use Rattle.flow_syntax.specs.Accepted.{IsIdentifier, is_application, IsWellFormed, HasIdentifiers}
use Rattle.flow_syntax.specs.Expressions.{preorder, all_of_option, expressions_of_message}
use Rattle.flow_syntax.specs.Matching.{pattern_layer}
use Rattle.flow_syntax.specs.declared.rule.Chain.{Chain}
use Rattle.flow_syntax.specs.declared.spec.Named.{Named}
use Rattle.flow_syntax.specs.declared.token.Token.{Token}
use Rattle.flow_syntax.specs.declared.token.TokenKind.TheVariants as tokens
use Rattle.grammar_theory.specs.Texts.{Part, PartValue}
use Rattle.spec_wellformed.proofs.Attributes.{PartFact}
use Rattle.spec_wellformed.proofs.Ranges.{AreWithin, all_of}
use Rattle.spec_grammar.specs.Kinds.{kind_of}
use Rattle.spec_grammar.specs.Symbols.{Nonterminal, ValueOf, Whole, ASignature, AConstructor, ATreeSort, AnEnum, ATable, AFunction, AControlRule, AHead, AChain, AnItem, AProperty, AType, AnElemSort, ARule, ATrigger, AMessage, APattern, AFirmPattern, AnUnnamedPattern, PatternArguments, AnExpr, ALevel, AnOperand, ANegation, AComparison, AnOpposite, ALookup, ASuffix, APrimary, ANamedExpr, AParenthesis, ABrace, AMap}

abbrev pub token_place : Token → ℕ
token_place t = t.place

-- If the tokens that are identifiers are known to have the texts of identifiers, this one has.
abbrev pub IsNamed : Type 0 → Token → Type 0
IsNamed ids t = ids → (text : List ℕ) → t.kind ≡ tokens.Ident text → IsIdentifier text

-- each name is an identifier, if the tokens are known to be
abbrev pub AreIdentifiers : Type 0 → List Named → Type 0
AreIdentifiers ids names = ids → (name : Named) → Contains names name → IsIdentifier name.text

-- what holds of what a symbol is read as, where its tokens stand in a range of places
abbrev pub Meets : Type 0 → (i : Nonterminal) → ℕ → ℕ → ValueOf i → Type 0
Meets ids Whole lo hi spec = IsWellFormed spec × (ids → HasIdentifiers spec)
Meets ids ASignature lo hi v = Unit {0}
Meets ids AConstructor lo hi v = Unit {0}
Meets ids ATreeSort lo hi v = Unit {0}
Meets ids AnEnum lo hi e = AreIdentifiers ids e.items
Meets ids ATable lo hi l = AreIdentifiers ids l.elements
Meets ids AFunction lo hi f = (1 ≤ length f.args) × (length f.args ≤ 2)
Meets ids AControlRule lo hi rule = IsTrue (is_application (pattern_layer rule.head)) × ((chain : Chain) → Contains rule.chains chain → 2 ≤ length chain.items)
Meets ids AHead lo hi p = IsTrue (is_application (pattern_layer p))
Meets ids AChain lo hi chain = 2 ≤ length chain.items
Meets ids AnItem lo hi v = Unit {0}
Meets ids AProperty lo hi p = ids → IsIdentifier p.name.text
Meets ids AType lo hi v = Unit {0}
Meets ids AnElemSort lo hi v = Unit {0}
Meets ids ARule lo hi rule = AreWithin lo hi (preorder rule.body)
Meets ids ATrigger lo hi v = Unit {0}
Meets ids AMessage lo hi message = AreWithin lo hi (expressions_of_message message)
Meets ids APattern lo hi v = Unit {0}
Meets ids AFirmPattern lo hi v = Unit {0}
Meets ids AnUnnamedPattern lo hi v = Unit {0}
Meets ids PatternArguments lo hi v = Unit {0}
Meets ids AnExpr lo hi e = AreWithin lo hi (preorder e)
Meets ids (ALevel level) lo hi e = AreWithin lo hi (preorder e)
Meets ids (AnOperand level) lo hi e = AreWithin lo hi (preorder e)
Meets ids ANegation lo hi e = AreWithin lo hi (preorder e)
Meets ids AComparison lo hi e = AreWithin lo hi (preorder e)
Meets ids AnOpposite lo hi e = AreWithin lo hi (preorder e)
Meets ids ALookup lo hi e = AreWithin lo hi (preorder e)
Meets ids ASuffix lo hi x = AreWithin lo hi (all_of (x.0 ∷ all_of_option x.1))
Meets ids APrimary lo hi e = AreWithin lo hi (preorder e)
Meets ids ANamedExpr lo hi e = AreWithin lo hi (preorder e)
Meets ids AParenthesis lo hi e = AreWithin lo hi (preorder e)
Meets ids ABrace lo hi e = AreWithin lo hi (preorder e)
Meets ids AMap lo hi e = AreWithin lo hi (preorder e)

-- what holds of what a part of a production is read as
abbrev pub Fact : Type 0 → (p : Part Nonterminal) → ℕ → ℕ → PartValue Token ValueOf p → Type 0
Fact ids p lo hi x = PartFact kind_of token_place (IsNamed ids) (Meets ids) p lo hi x
