-- Which specifications and trees are accepted, and for which cause others are refused.
use Rattle.std.specs.Prelude.{◌≡◌, ℕ, List, ◌++◌, Option, codes, decimal}
use Rattle.flow_term.specs.declared.term.Term.{Term}
use Rattle.flow_term.specs.Paths.{path_text}
use Rattle.aterm_text.specs.declared.refusal.TermFaultKind.{TermFaultKind}
use Rattle.aterm_text.specs.declared.refusal.TermFaultKind.TheVariants as terms
use Rattle.aterm_text.specs.Faults.{TermFaulty}
use Rattle.aterm_text.specs.Grammar.{TermText}
use Rattle.grammar_theory.specs.Faults.{IsText}
use Rattle.grammar_theory.specs.declared.Cause.{Cause}
use Rattle.grammar_theory.specs.declared.Cause.TheVariants as syntax
use Rattle.spec_grammar.specs.Symbols.{Whole}
use Rattle.spec_grammar.specs.Syntax.{spec_syntax, nesting_limit}
use Rattle.flow_syntax.specs.declared.fault.SpecFaultKind.{SpecFaultKind}
use Rattle.flow_syntax.specs.declared.fault.SpecFaultKind.TheVariants as sorts
use Rattle.flow_syntax.specs.declared.lexer.refusal.LexFaultKind.{LexFaultKind}
use Rattle.flow_syntax.specs.declared.lexer.refusal.LexFaultKind.TheVariants as lexical
use Rattle.flow_syntax.specs.declared.signature.Signature.{Signature}
use Rattle.flow_syntax.specs.declared.spec.Spec.{Spec}
use Rattle.flow_syntax.specs.declared.token.Token.{Token}
use Rattle.flow_syntax.specs.Faults.{HasNoFault}
use Rattle.flow_syntax.specs.TokenFaults.{LexFaulty}
use Rattle.flow_syntax.specs.Tokens.{TokenText}
use Rattle.flow_parse.specs.Faults.{IsFaultAt}
use Rattle.flow_sorts.specs.First.{IsFirstFault}
use Rattle.simple_rules.specs.Simple.{IsNotYet, IsFirstNotYet}
use Rattle.tree_fitting.specs.Least.{IsLeastMisfit}

-- CAUSES

-- a cause, and where it stands
abbrev pub at_place : List ℕ → ℕ → List ℕ
at_place cause place = cause ++ codes " at " ++ decimal place

-- the names of the faults of a specification's tokens
abbrev pub lexical_name : LexFaultKind → List ℕ
lexical_name lexical.NotUtf8 = codes "NotUtf8"
lexical_name lexical.BadCharacter = codes "BadCharacter"
lexical_name lexical.BadEscape = codes "BadEscape"
lexical_name lexical.Unclosed = codes "Unclosed"
lexical_name lexical.IntRange = codes "IntRange"

-- of its syntax
abbrev pub syntax_name : Cause → List ℕ
syntax_name syntax.Unexpected = codes "syntax fault"
syntax_name syntax.TooDeep = codes "too deep"

-- of what it says
abbrev pub sort_name : SpecFaultKind → List ℕ
sort_name sorts.Unknown = codes "Unknown"
sort_name sorts.Duplicate = codes "Duplicate"
sort_name sorts.Arity = codes "Arity"
sort_name sorts.Sort = codes "Sort"
sort_name sorts.Unbound = codes "Unbound"
sort_name sorts.MixedDirection = codes "MixedDirection"
sort_name sorts.WrongEnd = codes "WrongEnd"
sort_name sorts.MixedItem = codes "MixedItem"
sort_name sorts.Nested = codes "Nested"
sort_name sorts.Depth = codes "Depth"

-- the names of the faults of a tree's text
abbrev pub term_name : TermFaultKind → List ℕ
term_name terms.NotUtf8 = codes "NotUtf8"
term_name terms.Unexpected = codes "Unexpected"
term_name terms.Shared = codes "Shared"
term_name terms.Placeholder = codes "Placeholder"
term_name terms.Real = codes "Real"
term_name terms.Blob = codes "Blob"
term_name terms.BadEscape = codes "BadEscape"
term_name terms.IntRange = codes "IntRange"
term_name terms.TooDeep = codes "TooDeep"
term_name terms.TooMany = codes "TooMany"

-- SPECIFICATIONS

-- A specification is taken: it has no fault, and nothing in it is what isn't taken yet.
pub record IsTaken (spec : Spec) : Type 0 where
  pub faultless : HasNoFault spec
  pub simple : (place : ℕ) → ¬ IsNotYet spec place

-- A specification is refused for this cause: for its first fault, else for the first of what isn't taken yet.
pub data IsRefusedFor (spec : Spec) (cause : List ℕ) : Type 0 where
  faulty : (place : ℕ) (kind : SpecFaultKind) → IsFirstFault spec place kind → cause ≡ at_place (sort_name kind) place → IsRefusedFor spec cause
  not_yet : (place : ℕ) → HasNoFault spec → IsFirstNotYet spec place → cause ≡ at_place (codes "not yet") place → IsRefusedFor spec cause

-- Tokens are a specification that is taken.
pub record AreSpecification (tokens : List Token) (spec : Spec) : Type 0 where
  pub text : IsText spec_syntax nesting_limit Whole tokens spec
  pub taken : IsTaken spec

-- Tokens are refused for this cause: for their first fault, or their specification is.
pub data AreRefusedFor (tokens : List Token) (cause : List ℕ) : Type 0 where
  ill_formed : (place : ℕ) (why : Cause) → IsFaultAt tokens place why → cause ≡ at_place (syntax_name why) place → AreRefusedFor tokens cause
  refused : (spec : Spec) → IsText spec_syntax nesting_limit Whole tokens spec → IsRefusedFor spec cause → AreRefusedFor tokens cause

-- Bytes are a specification that is taken.
pub record SpecificationText (bytes : List ℕ) (spec : Spec) : Type 0 where
  pub tokens : List Token
  pub lexed : TokenText bytes tokens
  pub parsed : AreSpecification tokens spec

-- Bytes are no such specification, for this cause: for the first fault of their tokens, or the tokens are refused.
pub data IsNoSpecification (bytes cause : List ℕ) : Type 0 where
  no_tokens : (offset : ℕ) (kind : LexFaultKind) → LexFaulty bytes offset kind → cause ≡ at_place (lexical_name kind) offset → IsNoSpecification bytes cause
  refused_tokens : (tokens : List Token) → TokenText bytes tokens → AreRefusedFor tokens cause → IsNoSpecification bytes cause

-- TREES

-- Bytes are no tree that fits the signature, for this cause: for the first fault of their text, or for the least position that doesn't fit.
pub data IsNoTree (signature : Option Signature) (bytes cause : List ℕ) : Type 0 where
  no_term : (offset : ℕ) (kind : TermFaultKind) → TermFaulty bytes offset kind → cause ≡ at_place (term_name kind) offset → IsNoTree signature bytes cause
  ill_sorted : (tree : Term) (path : List ℕ) → TermText bytes tree → IsLeastMisfit signature tree path → cause ≡ codes "ill-sorted at " ++ path_text path → IsNoTree signature bytes cause
