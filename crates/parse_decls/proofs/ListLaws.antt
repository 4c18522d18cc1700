-- Lists of names, turn by turn: those so far, and those that are still to be read.
use Rattle.std.proofs.Common.{◌≡◌, ℕ, true, List, [], ◌∷◌, ◌++◌, refl, ◌∙◌}
use Rattle.flow_syntax.specs.declared.spec.Named.{Named}
use Rattle.flow_syntax.specs.declared.token.Token.{Token}
use Rattle.grammar_theory.specs.Reading.{Outcome, ◌>>=◌}
use Rattle.spec_grammar.proofs.Turns.{starts}
use Rattle.spec_grammar.proofs.Unrolled.{bind_bind, reads_more, many_turn}
use Rattle.spec_grammar.specs.Parts.{identifier, named}
use Rattle.spec_grammar.specs.declared.kind.Kind.TheVariants as kinds
use Rattle.parse_decls.specs.inner.Pieces.{reads_name}

-- ID
abbrev pub more_names : ℕ → List Named → List Token → Outcome Token (List Named)
more_names l names ts = reads_more l identifier named names ts

pub names_turn : (l : ℕ) (names : List Named) (ts : List Token) → starts (kinds.Identifier ∷ []) ts ≡ true → more_names l names ts ≡ (reads_name l ts >>= λ x. more_names l (names ++ x.0 ∷ []) x.1)
names_turn l names ts h = many_turn identifier refl refl refl named l names ts h ∙ simp bind_bind
