-- What each specification has that has a text.
use Rattle.std.specs.Prelude.{List}
use Rattle.flow_syntax.specs.Accepted.{IsWellFormed, HasIdentifiers, HasIdentifierTokens}
use Rattle.flow_syntax.specs.Tokens.{HasRisingPlaces}
use Rattle.flow_syntax.specs.declared.spec.Spec.{Spec}
use Rattle.flow_syntax.specs.declared.token.Token.{Token}
use Rattle.grammar_theory.specs.Faults.{IsText}
use Rattle.spec_grammar.specs.Symbols.{Whole}
use Rattle.spec_grammar.specs.Syntax.{spec_syntax, nesting_limit}

-- A specification that is the text of tokens whose places rise is well formed, and where the tokens that are identifiers have the
-- texts of identifiers, its properties, items and elements are called by identifiers.
abbrev pub TextsAreWellFormed : Type 0
TextsAreWellFormed = (tokens : List Token) (spec : Spec) → IsText spec_syntax nesting_limit Whole tokens spec → HasRisingPlaces tokens → IsWellFormed spec × (HasIdentifierTokens tokens → HasIdentifiers spec)
