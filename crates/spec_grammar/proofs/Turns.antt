-- The first token, and lists of a symbol's values turn by turn: those so far, and those that are still to be read.
use Rattle.std.proofs.Common.{◌≡◌, ℕ, ◌<◌, ◌||◌, Bool, true, false, List, [], ◌∷◌, ◌++◌, length, Ok, refl, ◌∙◌, arith}
use Rattle.std.specs.Prelude.{◌==◌, map, nat_lt}
use Rattle.std.proofs.lemmas.Bool.Decides.{nat_tests}
use Rattle.flow_syntax.specs.declared.token.Token.{Token}
use Rattle.grammar_theory.specs.Choice.{are_apart, is_decided}
use Rattle.grammar_theory.specs.Reading.{Outcome, ◌>>=◌, starts_with}
use Rattle.grammar_theory.specs.Texts.{Symbol}
use Rattle.spec_grammar.proofs.Unrolled.{one_at, one_take, bind_bind, reads_more, reads_take, many_turn, many_end}
use Rattle.spec_grammar.specs.Choice.{begins, continues}
use Rattle.spec_grammar.specs.Kinds.{code_of, kind_of, kind_count}
use Rattle.spec_grammar.specs.Parts.{second, symbol_after}
use Rattle.spec_grammar.specs.Reading.{reads}
use Rattle.spec_grammar.specs.Symbols.{Nonterminal, ValueOf}
use Rattle.spec_grammar.specs.declared.kind.Kind.{Kind}

-- whether the first token is of one of these kinds
abbrev pub starts : List Kind → List Token → Bool
starts ks ts = starts_with kind_of (map code_of ks) ts

-- the first token is of one of two kinds
pub starts_with_two : (a b : Kind) (ts : List Token) → starts (a ∷ b ∷ []) ts ≡ (starts (a ∷ []) ts || starts (b ∷ []) ts)
starts_with_two a b [] = refl
starts_with_two a b (t ∷ ts) = either (kind_of t == code_of a) (kind_of t == code_of b)
  where
    either : (x y : Bool) → (x || (y || false)) ≡ ((x || false) || (y || false))
    either true y = refl
    either false y = refl

-- ** a list of a symbol's values

abbrev pub itself : (i : Nonterminal) → ValueOf i → ValueOf i
itself i v = v

abbrev pub more_of : ℕ → (i : Nonterminal) → List (ValueOf i) → List Token → Outcome Token (List (ValueOf i))
more_of l i vs ts = reads_more l (Symbol i) (itself i) vs ts

pub each_turn : (l : ℕ) (i : Nonterminal) (vs : List (ValueOf i)) (ts : List Token) → starts_with kind_of (begins i) ts ≡ true → more_of l i vs ts ≡ (reads l i ts >>= λ x. more_of l i (vs ++ x.0 ∷ []) x.1)
each_turn l i vs ts h = many_turn (Symbol i) refl refl refl (itself i) l vs ts h

pub each_end : (l : ℕ) (i : Nonterminal) (vs : List (ValueOf i)) (ts : List Token) → starts_with kind_of (begins i) ts ≡ false → more_of l i vs ts ≡ Ok (vs, ts)
each_end l i vs ts h = many_end (Symbol i) (itself i) l vs ts h

-- ** each behind a separator

abbrev pub more_after : ℕ → Kind → (i : Nonterminal) → List (ValueOf i) → List Token → Outcome Token (List (ValueOf i))
more_after l separator i vs ts = reads_more l (symbol_after separator i) second vs ts

apart_from_none : (xs : List ℕ) → are_apart xs [] ≡ true
apart_from_none [] = refl
apart_from_none (x ∷ xs) = apart_from_none xs

separator_decides : (separator : Kind) (i : Nonterminal) → code_of separator < kind_count → is_decided kind_count begins continues (symbol_after separator i) ≡ true
separator_decides separator i h = let e : nat_lt (code_of separator) 83 ≡ true = grind (arith, nat_tests) in rw (e, apart_from_none (begins i)) refl

pub after_turn : (l : ℕ) (separator : Kind) (i : Nonterminal) (vs : List (ValueOf i)) (ts : List Token) → code_of separator < kind_count → starts (separator ∷ []) ts ≡ true
    → more_after l separator i vs ts ≡ (one_at l separator ts >>= λ s. reads l i s.1 >>= λ x. more_after l separator i (vs ++ x.0 ∷ []) x.1)
after_turn l separator i vs ts k h = many_turn (symbol_after separator i) (separator_decides separator i k) refl refl second l vs ts h ∙ simp bind_bind

-- each takes tokens
pub after_take : (l : ℕ) (separator : Kind) (i : Nonterminal) (ts : List Token) (t : Token) (us : List Token) (v : ValueOf i) (rest : List Token) → one_at l separator ts ≡ Ok (t, us) → reads l i us ≡ Ok (v, rest) → length rest < length ts
after_take l separator i ts t us v rest e h =
    let a = one_take l (code_of separator ∷ []) ts t us e in
    let b = reads_take l i us v rest h in
    omega arith
