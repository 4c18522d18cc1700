-- A section of declarations: its word, and then its declarations turn by turn.
use Rattle.std.proofs.Common.{◌≡◌, ◌<◌, true, false, List, [], ◌∷◌, ◌++◌, length, Ok, Err, refl, sym, ap}
use Rattle.std.proofs.lemmas.List.{map-id}
use Rattle.flow_syntax.specs.declared.token.Token.{Token}
use Rattle.grammar_theory.specs.Reading.{Outcome, ◌>>=◌, starts_with}
use Rattle.grammar_theory.specs.Texts.{Many, Symbol}
use Rattle.spec_grammar.proofs.Turns.{each_turn, each_end, starts}
use Rattle.spec_grammar.proofs.Unrolled.{one_at, bind_bind, added, reads_take}
use Rattle.spec_grammar.specs.Kinds.{kind_of}
use Rattle.spec_grammar.specs.Reading.{reads_part}
use Rattle.spec_grammar.specs.declared.kind.Kind.{Kind}
use Rattle.flow_parse.specs.Declarations.{SymbolOf, the_symbol, begins_as, reads_one, reads_further, reads_section, reads_optional_section}

pub one_takes : {X : Type 0} (d : SymbolOf X) (ts : List Token) (v : X) (rest : List Token) → reads_one d ts ≡ Ok (v, rest) → length rest < length ts
one_takes (the_symbol i) ts v rest e = reads_take 0 i ts v rest e

pub further_turn : {X : Type 0} (d : SymbolOf X) (vs : List X) (ts : List Token) → starts_with kind_of (begins_as d) ts ≡ true → reads_further d vs ts ≡ (reads_one d ts >>= λ x. reads_further d (vs ++ x.0 ∷ []) x.1)
further_turn (the_symbol i) vs ts h = each_turn 0 i vs ts h

pub further_end : {X : Type 0} (d : SymbolOf X) (vs : List X) (ts : List Token) → starts_with kind_of (begins_as d) ts ≡ false → reads_further d vs ts ≡ Ok (vs, ts)
further_end (the_symbol i) vs ts h = each_end 0 i vs ts h

abbrev with_word : {X : Type 0} → Token → List X × List Token → Outcome Token (Token × List X)
with_word word x = Ok ((word, x.0), x.1)

abbrev without_word : {X : Type 0} → (Token × List X) × List Token → Outcome Token (List X)
without_word x = Ok (x.0.1, x.1)

all_behind : {X : Type 0} (word : Token) (o : Outcome Token (List X)) → ((o >>= with_word word) >>= without_word) ≡ (o >>= added (λ v. v) [])
all_behind word (Ok x) = ap (λ vs. Ok (vs, x.1)) (sym (map-id x.0))
all_behind word (Err e) = refl

all_behind_word : {X : Type 0} (o : Outcome Token Token) (m : List Token → Outcome Token (List X))
    → ((o >>= λ w. m w.1 >>= with_word w.0) >>= without_word) ≡ (o >>= λ w. m w.1 >>= added (λ v. v) [])
all_behind_word (Ok w) m = all_behind w.0 (m w.1)
all_behind_word (Err e) m = refl

pub section_at : {X : Type 0} (d : SymbolOf X) (word : Kind) (ts : List Token) → reads_section d word ts ≡ (one_at 0 word ts >>= λ w. reads_further d [] w.1)
section_at (the_symbol i) word ts = all_behind_word (one_at 0 word ts) (reads_part 0 (Many (Symbol i)))

pub section_there : {X : Type 0} (d : SymbolOf X) (word : Kind) (ts : List Token) → starts (word ∷ []) ts ≡ true → reads_optional_section d word ts ≡ reads_section d word ts
section_there (the_symbol i) word ts h = rw h (simp bind_bind)

pub section_left_out : {X : Type 0} (d : SymbolOf X) (word : Kind) (ts : List Token) → starts (word ∷ []) ts ≡ false → reads_optional_section d word ts ≡ Ok ([], ts)
section_left_out (the_symbol i) word ts h = rw h refl
