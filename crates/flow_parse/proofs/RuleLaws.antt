-- Rules and messages, part by part.
use Rattle.std.proofs.Common.{◌≡◌, true, List, [], ◌∷◌, ◌++◌, Ok, refl, ◌∙◌, arith}
use Rattle.flow_syntax.specs.declared.message.Part.{Part as MessagePart}
use Rattle.flow_syntax.specs.declared.token.Token.{Token}
use Rattle.grammar_theory.specs.Reading.{Outcome, ◌>>=◌}
use Rattle.grammar_theory.specs.Texts.{Symbol}
use Rattle.spec_grammar.proofs.Listings.{more_listed, listed_at, listed_turn}
use Rattle.spec_grammar.proofs.Turns.{starts}
use Rattle.spec_grammar.proofs.Unrolled.{reads_at, one_at, one_of_at, bind_bind}
use Rattle.spec_grammar.specs.Expressions.{expr_after}
use Rattle.spec_grammar.specs.Parts.{any_of, identifier, named, behind_in, in_round, inside}
use Rattle.spec_grammar.specs.Reading.{reads, reads_as}
use Rattle.spec_grammar.specs.Rules.{condition, level_of, message_parts, part_of}
use Rattle.spec_grammar.specs.Symbols.{AMessage, APattern, ARule, ATrigger}
use Rattle.spec_grammar.specs.declared.kind.Kind.{Kind}
use Rattle.spec_grammar.specs.declared.kind.Kind.TheVariants as kinds
use Rattle.flow_parse.specs.inner.Parts.{parts_of}

pub rule_at : (ts : List Token)
    → reads 0 ARule ts ≡ (reads_as 0 identifier named ts >>= λ n. reads_as 0 (in_round (Symbol ATrigger)) inside n.1 >>= λ t. reads_as 0 (expr_after kinds.Is) (λ x. x.1) t.1
    >>= λ b. Ok (record { property = n.0; trigger = t.0; body = b.0 }, b.1))
rule_at ts = reads_at 0 ARule ts (omega arith) ∙ simp bind_bind

pub message_at : (ts : List Token)
    → reads 0 AMessage ts ≡ (one_of_at 0 (kinds.Error ∷ kinds.Warning ∷ kinds.Note ∷ []) ts >>= λ w. reads_as 0 message_parts parts_of w.1 >>= λ x. one_at 0 kinds.On x.1
    >>= λ o. reads 0 APattern o.1 >>= λ p. reads_as 0 condition behind_in p.1 >>= λ c. Ok (record { place = w.0.place; level = level_of w.0; parts = x.0; pattern = p.0; condition = c.0 }, c.1))
message_at ts = reads_at 0 AMessage ts (omega arith) ∙ simp bind_bind

-- ** the parts of a message

abbrev pub words : List Kind
words = kinds.Quoted ∷ kinds.Identifier ∷ []

-- the parts so far, and those that are still to be read
abbrev pub more_parts : List MessagePart → List Token → Outcome Token (List MessagePart)
more_parts parts ts = more_listed 0 kinds.Comma (any_of words) part_of parts ts

pub parts_at : (ts : List Token) → reads_as 0 message_parts parts_of ts ≡ (one_of_at 0 words ts >>= λ t. more_parts (part_of t.0 ∷ []) t.1)
parts_at ts = listed_at 0 kinds.Comma (any_of words) part_of ts ∙ simp bind_bind

pub parts_turn : (parts : List MessagePart) (ts : List Token) → starts (kinds.Comma ∷ []) ts ≡ true
    → more_parts parts ts ≡ (one_at 0 kinds.Comma ts >>= λ c. one_of_at 0 words c.1 >>= λ t. more_parts (parts ++ part_of t.0 ∷ []) t.1)
parts_turn parts ts h = listed_turn 0 kinds.Comma (any_of words) refl refl part_of parts ts h ∙ simp bind_bind
