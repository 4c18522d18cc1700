-- What holds of the grammar of specifications.
use Rattle.std.specs.Prelude.{◌≡◌, ◌↔◌, List, Ok, Err}
use Rattle.flow_syntax.specs.declared.spec.Spec.{Spec}
use Rattle.flow_syntax.specs.declared.token.Token.{Token}
use Rattle.grammar_theory.specs.Beginnings.{BeginsByCases}
use Rattle.grammar_theory.specs.Faults.{Begins, IsText, IsFirstFault}
use Rattle.grammar_theory.specs.declared.Cause.{Cause}
use Rattle.spec_grammar.specs.Reading.{reads_all}
use Rattle.spec_grammar.specs.Symbols.{Nonterminal, Whole}
use Rattle.spec_grammar.specs.Syntax.{spec_syntax, nesting_limit}

-- Some text of a symbol begins with the tokens exactly where they begin it by cases of the productions.
abbrev pub BeginningsAreByCases : Type 0
BeginningsAreByCases = (i : Nonterminal) (ts : List Token) → Begins spec_syntax i ts ↔ BeginsByCases spec_syntax i ts

-- One token of choice reads the specifications: it answers one exactly where the tokens are a text of it, and otherwise the
-- first fault. So the tokens are a text of at most one specification.
pub record IsReadByOneToken : Type 0 where
  pub value : (ts : List Token) (spec : Spec) → reads_all ts ≡ Ok spec ↔ IsText spec_syntax nesting_limit Whole ts spec
  pub fault : (ts : List Token) (cause : Cause) (rest : List Token) → reads_all ts ≡ Err (cause, rest) ↔ IsFirstFault spec_syntax nesting_limit Whole ts cause rest
