-- Each symbol is read by its production, and each list and chain turn by turn.
use Rattle.std.proofs.Common.{◌≡◌, ℕ, suc, ◌+◌, ◌<◌, ◌≤◌, true, false, List, [], ◌∷◌, ◌++◌, length, Result, Ok, Err, refl, sym, ap, ◌∙◌, add-one, append_assoc, append-nil, arith}
use Rattle.std.specs.Prelude.{nat_le, map, fold}
use Rattle.flow_syntax.specs.declared.token.Token.{Token}
use Rattle.grammar_theory.proofs.Composition.{repeat_end, ok_one}
use Rattle.grammar_theory.proofs.SymbolLemmas.{unroll, unroll_deep, turn_law, symbol_takes}
use Rattle.grammar_theory.specs.Choice.{first_kinds, is_decided, is_inside, may_be_empty}
use Rattle.grammar_theory.specs.Reading.{Outcome, ◌>>=◌, starts_with, read_one, too_deep}
use Rattle.grammar_theory.specs.Texts.{member, Part, PartValue, Many, Chain}
use Rattle.spec_grammar.proofs.Checks.{checks}
use Rattle.spec_grammar.specs.Choice.{begins, continues}
use Rattle.spec_grammar.specs.Kinds.{code_of, kind_of, kind_count}
use Rattle.spec_grammar.specs.Reading.{reads, reads_part}
use Rattle.spec_grammar.specs.Symbols.{Nonterminal, ValueOf}
use Rattle.spec_grammar.specs.Syntax.{rule, make, spec_syntax}
use Rattle.spec_grammar.specs.declared.kind.Kind.{Kind}

-- a symbol is read by its production
pub reads_at : (l : ℕ) (i : Nonterminal) (ts : List Token) → l ≤ 256 → reads l i ts ≡ (reads_part l (rule i) ts >>= λ x. Ok (make i x.0, x.1))
unfolding reads checks
reads_at l i ts h = unroll spec_syntax begins continues checks 256 l i h ts

-- and at once too deep where it is nested too deep
pub reads_deep : (l : ℕ) (i : Nonterminal) (ts : List Token) → 256 < l → reads l i ts ≡ too_deep kind_of (begins i) ts
unfolding reads checks
reads_deep l i ts h = unroll_deep spec_syntax begins continues checks 256 l i h ts

-- each symbol takes a token
pub reads_take : (l : ℕ) (i : Nonterminal) (ts : List Token) (v : ValueOf i) (rest : List Token) → reads l i ts ≡ Ok (v, rest) → length rest < length ts
unfolding reads checks
reads_take l i ts v rest e = symbol_takes spec_syntax begins continues checks 256 l i ts v rest e

-- a token of one kind, and of one of some kinds
abbrev pub one_at : ℕ → Kind → List Token → Outcome Token Token
one_at l kind ts = read_one kind_of 256 l (code_of kind ∷ []) ts

abbrev pub one_of_at : ℕ → List Kind → List Token → Outcome Token Token
one_of_at l ks ts = read_one kind_of 256 l (map code_of ks) ts

pub one_take : (l : ℕ) (ks : List ℕ) (ts : List Token) (t : Token) (rest : List Token) → read_one kind_of 256 l ks ts ≡ Ok (t, rest) → length rest < length ts
one_take l ks [] t rest e = absurd cc
one_take l ks (s ∷ ts) t rest e = let p = ok_one (member (kind_of s) ks) (nat_le l 256) s t ts rest e in rw p.3 (omega arith)

pub bind_bind : {A B D E : Type 0} (o : Result A E) (f : A → Result B E) (g : B → Result D E) → ((o >>= f) >>= g) ≡ (o >>= λ x. f x >>= g)
bind_bind (Ok x) f g = refl
bind_bind (Err d) f g = refl

pub bind_on : {A B E : Type 0} (o : Result A E) (f g : A → Result B E) → ((x : A) → f x ≡ g x) → (o >>= f) ≡ (o >>= g)
bind_on (Ok x) f g h = h x
bind_on (Err d) f g h = refl

-- what is read as it is
pub bind_same : {A T : Type 0} → (o : Outcome T A) → (o >>= λ x. Ok (x.0, x.1)) ≡ o
bind_same (Ok x) = refl
bind_same (Err e) = refl

-- a value comes from the values of the parts
pub bind_ok : {A B E : Type 0} (o : Result A E) (f : A → Result B E) (y : B) → (o >>= f) ≡ Ok y → (x : A) × (o ≡ Ok x) × (f x ≡ Ok y)
bind_ok (Ok x) f y h = (x, refl, h)
bind_ok (Err e) f y h = absurd cc

-- ** lists: the items so far, and those that are still to be read

abbrev pub added : {X Y : Type 0} → (X → Y) → List Y → List X × List Token → Outcome Token (List Y)
added f ys x = Ok (ys ++ map f x.0, x.1)

abbrev pub reads_more : {Y : Type 0} → ℕ → (p : Part Nonterminal) → (PartValue Token ValueOf p → Y) → List Y → List Token → Outcome Token (List Y)
reads_more l p f ys ts = reads_part l (Many p) ts >>= added f ys

pub many_turn : {Y : Type 0} (p : Part Nonterminal) → is_decided kind_count begins continues p ≡ true → is_inside (λ j. true) false p ≡ true → may_be_empty p ≡ false
    → (f : PartValue Token ValueOf p → Y) (l : ℕ) (ys : List Y) (ts : List Token) → starts_with kind_of (first_kinds begins p) ts ≡ true
    → reads_more l p f ys ts ≡ (reads_part l p ts >>= λ x. reads_more l p f (ys ++ f x.0 ∷ []) x.1)
unfolding reads checks
many_turn {Y = Y} p d i full f l ys ts h = ap (λ o. o >>= added f ys) (turn_law spec_syntax begins continues checks 256 p d i full (λ n. n) l ts h)
    ∙ bind_bind (reads_part l p ts) _ _ ∙ bind_on (reads_part l p ts) _ _ (λ x. bind_bind (reads_part l (Many p) x.1) _ _
    ∙ bind_on (reads_part l (Many p) x.1) _ _ (λ y. ap (λ (zs : List Y). Ok (zs, y.1)) (sym (append_assoc ys (f x.0 ∷ []) (map f y.0)))))

pub many_end : {Y : Type 0} (p : Part Nonterminal) (f : PartValue Token ValueOf p → Y) (l : ℕ) (ys : List Y) (ts : List Token) → starts_with kind_of (first_kinds begins p) ts ≡ false → reads_more l p f ys ts ≡ Ok (ys, ts)
many_end p f l ys ts h = ap (λ o. o >>= added f ys) (repeat_end kind_of (first_kinds begins p) (λ n. n) (λ n. reads_part n p) (length ts) l ts h) ∙ ap (λ zs. Ok (zs, ts)) (append-nil ys)

-- ** folds over lists and chains: what is made of the items so far, and those that are still to be read

abbrev pub folded : {X A : Type 0} → (A → X → A) → A → List X × List Token → Outcome Token A
folded g a x = Ok (fold g a x.0, x.1)

abbrev pub reads_fold : {A : Type 0} → ℕ → (p : Part Nonterminal) → (A → PartValue Token ValueOf p → A) → A → List Token → Outcome Token A
reads_fold l p g a ts = reads_part l (Many p) ts >>= folded g a

pub fold_turn : {A : Type 0} (p : Part Nonterminal) → is_decided kind_count begins continues p ≡ true → is_inside (λ j. true) false p ≡ true → may_be_empty p ≡ false
    → (g : A → PartValue Token ValueOf p → A) (l : ℕ) (a : A) (ts : List Token) → starts_with kind_of (first_kinds begins p) ts ≡ true
    → reads_fold l p g a ts ≡ (reads_part l p ts >>= λ x. reads_fold l p g (g a x.0) x.1)
unfolding reads checks
fold_turn p d i full g l a ts h = ap (λ o. o >>= folded g a) (turn_law spec_syntax begins continues checks 256 p d i full (λ n. n) l ts h)
    ∙ bind_bind (reads_part l p ts) _ _ ∙ bind_on (reads_part l p ts) _ _ (λ x. bind_bind (reads_part l (Many p) x.1) _ _)

-- each turn of a chain is one deeper
abbrev pub reads_chain : {A : Type 0} → ℕ → (p : Part Nonterminal) → (A → PartValue Token ValueOf p → A) → A → List Token → Outcome Token A
reads_chain l p g a ts = reads_part l (Chain p) ts >>= folded g a

pub chain_turn : {A : Type 0} (p : Part Nonterminal) → is_decided kind_count begins continues p ≡ true → is_inside (λ j. true) false p ≡ true → may_be_empty p ≡ false
    → (g : A → PartValue Token ValueOf p → A) (l : ℕ) (a : A) (ts : List Token) → starts_with kind_of (first_kinds begins p) ts ≡ true
    → reads_chain l p g a ts ≡ (reads_part l p ts >>= λ x. reads_chain (l + 1) p g (g a x.0) x.1)
unfolding reads checks
chain_turn p d i full g l a ts h = rw add-one (ap (λ o. o >>= folded g a) (turn_law spec_syntax begins continues checks 256 p d i full suc l ts h)
    ∙ bind_bind (reads_part l p ts) _ _ ∙ bind_on (reads_part l p ts) _ _ (λ x. bind_bind (reads_part (suc l) (Chain p) x.1) _ _))

pub chain_end : {A : Type 0} (p : Part Nonterminal) (g : A → PartValue Token ValueOf p → A) (l : ℕ) (a : A) (ts : List Token) → starts_with kind_of (first_kinds begins p) ts ≡ false → reads_chain l p g a ts ≡ Ok (a, ts)
chain_end p g l a ts h = ap (λ o. o >>= folded g a) (repeat_end kind_of (first_kinds begins p) suc (λ n. reads_part n p) (length ts) l ts h)
