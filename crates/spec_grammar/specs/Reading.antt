-- Reading by the grammar with one token of choice: what a reader's functions compute.
use Rattle.std.specs.Prelude.{ℕ, List, Result, Ok}
use Rattle.flow_syntax.specs.declared.spec.Spec.{Spec}
use Rattle.flow_syntax.specs.declared.token.Token.{Token}
use Rattle.grammar_theory.specs.Reading.{Outcome, ◌>>=◌, read_part, read_symbol, read_whole, turn_count}
use Rattle.grammar_theory.specs.Texts.{Part, PartValue}
use Rattle.grammar_theory.specs.declared.Cause.{Cause}
use Rattle.spec_grammar.specs.Choice.{begins, rank_count}
use Rattle.spec_grammar.specs.Kinds.{kind_of}
use Rattle.spec_grammar.specs.Symbols.{Nonterminal, ValueOf, Whole}
use Rattle.spec_grammar.specs.Syntax.{spec_syntax, nesting_limit}

-- reading a symbol at a nesting
unfoldable pub reads : ℕ → (i : Nonterminal) → List Token → Outcome Token (ValueOf i)
reads l i ts = read_symbol spec_syntax begins nesting_limit (turn_count nesting_limit rank_count) l i ts

-- reading a part of a production at a nesting
abbrev pub reads_part : ℕ → (p : Part Nonterminal) → List Token → Outcome Token (PartValue Token ValueOf p)
reads_part l p ts = read_part kind_of begins nesting_limit reads l p ts

-- reading a part of a production, and what is made of its value
abbrev pub reads_as : {Y : Type 0} → ℕ → (p : Part Nonterminal) → (PartValue Token ValueOf p → Y) → List Token → Outcome Token Y
reads_as l p f ts = reads_part l p ts >>= λ x. Ok (f x.0, x.1)

-- reading all of the tokens
unfoldable pub reads_all : List Token → Result Spec (Cause × List Token)
reads_all ts = read_whole spec_syntax begins rank_count nesting_limit Whole ts
