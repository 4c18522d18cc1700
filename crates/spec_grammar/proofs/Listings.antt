-- One thing or more with a separator between each two, turn by turn: what is made of those so far, and those that are still to be read.
use Rattle.std.proofs.Common.{◌≡◌, ℕ, true, false, List, [], ◌∷◌, ◌++◌, refl, ◌∙◌}
use Rattle.std.specs.Prelude.{map}
use Rattle.flow_syntax.specs.declared.token.Token.{Token}
use Rattle.grammar_theory.specs.Choice.{is_decided, is_inside}
use Rattle.grammar_theory.specs.Reading.{Outcome, ◌>>=◌}
use Rattle.grammar_theory.specs.Texts.{Part, PartValue, Then}
use Rattle.spec_grammar.proofs.Turns.{starts}
use Rattle.spec_grammar.proofs.Unrolled.{one_at, bind_bind, reads_more, many_turn}
use Rattle.spec_grammar.specs.Choice.{begins, continues}
use Rattle.spec_grammar.specs.Kinds.{kind_count}
use Rattle.spec_grammar.specs.Parts.{the, behind, listed, several}
use Rattle.spec_grammar.specs.Reading.{reads_as}
use Rattle.spec_grammar.specs.Symbols.{Nonterminal, ValueOf}
use Rattle.spec_grammar.specs.declared.kind.Kind.{Kind}

abbrev pub more_listed : {Y : Type 0} → ℕ → Kind → (p : Part Nonterminal) → (PartValue Token ValueOf p → Y) → List Y → List Token → Outcome Token (List Y)
more_listed l separator p f ys ts = reads_more l (Then (the separator) p) (λ x. f x.1) ys ts

map_behind : {X Y : Type 0} (f : X → Y) (xs : List (Token × X)) → map f (behind xs) ≡ map (λ x. f x.1) xs
map_behind f [] = refl
map_behind f (x ∷ xs) = rw (map_behind f xs) refl

pub listed_at : {Y : Type 0} (l : ℕ) (separator : Kind) (p : Part Nonterminal) (f : PartValue Token ValueOf p → Y) (ts : List Token)
    → reads_as l (several separator p) (λ x. map f (listed x)) ts ≡ (reads_as l p f ts >>= λ x. more_listed l separator p f (x.0 ∷ []) x.1)
listed_at l separator p f ts = simp (bind_bind, map_behind)

pub listed_turn : {Y : Type 0} (l : ℕ) (separator : Kind) (p : Part Nonterminal) → is_decided kind_count begins continues (Then (the separator) p) ≡ true → is_inside (λ j. true) false (Then (the separator) p) ≡ true
    → (f : PartValue Token ValueOf p → Y) (ys : List Y) (ts : List Token) → starts (separator ∷ []) ts ≡ true
    → more_listed l separator p f ys ts ≡ (one_at l separator ts >>= λ s. reads_as l p f s.1 >>= λ x. more_listed l separator p f (ys ++ x.0 ∷ []) x.1)
listed_turn l separator p d i f ys ts h = many_turn (Then (the separator) p) d i refl (λ x. f x.1) l ys ts h ∙ simp bind_bind
