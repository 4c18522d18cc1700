-- Declarations of one kind: what the grammar calls them, and how they are read.
use Rattle.std.specs.Prelude.{ℕ, List}
use Rattle.flow_syntax.specs.declared.token.Token.{Token}
use Rattle.grammar_theory.specs.Reading.{Outcome}
use Rattle.grammar_theory.specs.Texts.{Optional}
use Rattle.spec_grammar.proofs.Turns.{more_of}
use Rattle.spec_grammar.specs.Choice.{begins}
use Rattle.spec_grammar.specs.Reading.{reads, reads_as}
use Rattle.spec_grammar.specs.Symbols.{Nonterminal, ValueOf}
use Rattle.spec_grammar.specs.Whole.{section, section_of}
use Rattle.spec_grammar.specs.declared.kind.Kind.{Kind}

-- the symbol whose values these declarations are
pub data SymbolOf : Type 0 → Type 1 where
  the_symbol : (i : Nonterminal) → SymbolOf (ValueOf i)

-- the kinds of token with which one begins
abbrev pub begins_as : {X : Type 0} → SymbolOf X → List ℕ
begins_as (the_symbol i) = begins i

-- reading one
abbrev pub reads_one : {X : Type 0} → SymbolOf X → List Token → Outcome Token X
reads_one (the_symbol i) ts = reads 0 i ts

-- the declarations so far, and those that are still to be read
abbrev pub reads_further : {X : Type 0} → SymbolOf X → List X → List Token → Outcome Token (List X)
reads_further (the_symbol i) vs ts = more_of 0 i vs ts

-- a section of them
abbrev pub reads_section : {X : Type 0} → SymbolOf X → Kind → List Token → Outcome Token (List X)
reads_section (the_symbol i) word ts = reads_as 0 (section word i) (λ x. x.1) ts

-- a section of them that may be left out
abbrev pub reads_optional_section : {X : Type 0} → SymbolOf X → Kind → List Token → Outcome Token (List X)
reads_optional_section (the_symbol i) word ts = reads_as 0 (Optional (section word i)) section_of ts
