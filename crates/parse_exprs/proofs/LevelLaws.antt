-- How expressions of each level are read, branch by branch.
use Rattle.std.proofs.Common.{◌≡◌, ℕ, ◌+◌, ◌≤◌, Option, true, false, List, [], ◌∷◌, Ok, Err, refl, sym, ◌∙◌, add-one}
use Rattle.flow_syntax.specs.declared.expr.Expr.{Expr}
use Rattle.flow_syntax.specs.declared.token.Token.{Token}
use Rattle.grammar_theory.specs.Choice.{first_kinds, is_decided}
use Rattle.grammar_theory.specs.Reading.{Outcome, ◌>>=◌, starts_with}
use Rattle.grammar_theory.specs.Texts.{Then, Optional, Symbol}
use Rattle.grammar_theory.specs.declared.Cause.{Cause}
use Rattle.spec_grammar.proofs.Unrolled.{reads_at, one_at, one_of_at, bind_bind, bind_same, reads_chain, chain_turn, chain_end}
use Rattle.spec_grammar.specs.Choice.{begins, continues}
use Rattle.spec_grammar.specs.Expressions.{expr_after, conditional, make_conditional, binding, make_binding, operators_of, combined, make_negated, comparisons, make_signed, one_or_two, first_and_second, suffixed}
use Rattle.spec_grammar.specs.Kinds.{kind_count, kind_of}
use Rattle.spec_grammar.specs.Parts.{the, behind_in}
use Rattle.spec_grammar.specs.Reading.{reads, reads_as, reads_part}
use Rattle.spec_grammar.specs.Symbols.{AnExpr, ALevel, AnOperand, ANegation, AComparison, AnOpposite, ALookup, ASuffix, APrimary}
use Rattle.spec_grammar.specs.declared.kind.Kind.{Kind}
use Rattle.spec_grammar.specs.declared.kind.Kind.TheVariants as kinds
use Rattle.spec_grammar.specs.declared.level.BinaryLevel.{BinaryLevel}
use Rattle.spec_grammar.specs.declared.level.BinaryLevel.TheVariants.{Disjunction, Conjunction, SetOperation, Sum, Product}
use Rattle.parse_exprs.specs.inner.Entries.{operator_and_operand}
use Rattle.spec_grammar.proofs.Turns.{starts}

-- ** an expression

pub expr_conditional : (l : ℕ) (ts : List Token) → l ≤ 256 → starts (kinds.If ∷ []) ts ≡ true → reads l AnExpr ts ≡ reads_as (l + 1) conditional make_conditional ts
expr_conditional l ts h b = rw add-one (reads_at l AnExpr ts h ∙ rw b (simp bind_bind))

pub expr_binding : (l : ℕ) (ts : List Token) → l ≤ 256 → starts (kinds.If ∷ []) ts ≡ false → starts (kinds.Bind ∷ []) ts ≡ true → reads l AnExpr ts ≡ reads_as (l + 1) binding make_binding ts
expr_binding l ts h b d = rw add-one (reads_at l AnExpr ts h ∙ rw (b, d) (simp bind_bind))

pub expr_level : (l : ℕ) (ts : List Token) → l ≤ 256 → starts (kinds.If ∷ []) ts ≡ false → starts (kinds.Bind ∷ []) ts ≡ false → reads l AnExpr ts ≡ reads l (ALevel Disjunction) ts
expr_level l ts h b d = reads_at l AnExpr ts h ∙ rw (b, d) (simp bind_bind (bind_same (reads l (ALevel Disjunction) ts)))

-- ** a level: an operand, and operators with their right operands

operator_decided : (level : BinaryLevel) → is_decided kind_count begins continues (operator_and_operand level) ≡ true
operator_decided Disjunction = refl
operator_decided Conjunction = refl
operator_decided SetOperation = refl
operator_decided Sum = refl
operator_decided Product = refl

first_operators : (level : BinaryLevel) (ts : List Token) → starts_with kind_of (first_kinds begins (operator_and_operand level)) ts ≡ starts (operators_of level) ts
first_operators Disjunction ts = refl
first_operators Conjunction ts = refl
first_operators SetOperation ts = refl
first_operators Sum ts = refl
first_operators Product ts = refl

abbrev pub reads_operators : ℕ → BinaryLevel → Expr → List Token → Outcome Token Expr
reads_operators l level e ts = reads_chain l (operator_and_operand level) combined e ts

pub level_at : (l : ℕ) (level : BinaryLevel) (ts : List Token) → l ≤ 256 → reads l (ALevel level) ts ≡ (reads l (AnOperand level) ts >>= λ x. reads_operators l level x.0 x.1)
level_at l level ts h = reads_at l (ALevel level) ts h ∙ simp bind_bind

pub operated_at : (l : ℕ) (level : BinaryLevel) (e : Expr) (ts : List Token)
    → reads_as l (operator_and_operand level) (combined e) ts ≡ (one_of_at l (operators_of level) ts >>= λ t. reads (l + 1) (AnOperand level) t.1 >>= λ x. Ok (combined e (t.0, x.0), x.1))
operated_at l level e ts = rw add-one (simp bind_bind)

pub operator_turn : (l : ℕ) (level : BinaryLevel) (e : Expr) (ts : List Token) → starts (operators_of level) ts ≡ true
    → reads_operators l level e ts ≡ (reads_as l (operator_and_operand level) (combined e) ts >>= λ x. reads_operators (l + 1) level x.0 x.1)
operator_turn l level e ts h = chain_turn (operator_and_operand level) (operator_decided level) refl refl combined l e ts (first_operators level ts ∙ h) ∙ sym (bind_bind (reads_part l (operator_and_operand level) ts) _ _)

pub operator_end : (l : ℕ) (level : BinaryLevel) (e : Expr) (ts : List Token) → starts (operators_of level) ts ≡ false → reads_operators l level e ts ≡ Ok (e, ts)
operator_end l level e ts h = chain_end (operator_and_operand level) combined l e ts (first_operators level ts ∙ h)

pub disjunction_operand : (l : ℕ) (ts : List Token) → l ≤ 256 → reads l (AnOperand Disjunction) ts ≡ reads l (ALevel Conjunction) ts
disjunction_operand l ts h = reads_at l (AnOperand Disjunction) ts h ∙ bind_same (reads l (ALevel Conjunction) ts)

pub conjunction_operand : (l : ℕ) (ts : List Token) → l ≤ 256 → reads l (AnOperand Conjunction) ts ≡ reads l ANegation ts
conjunction_operand l ts h = reads_at l (AnOperand Conjunction) ts h ∙ bind_same (reads l ANegation ts)

pub set_operation_operand : (l : ℕ) (ts : List Token) → l ≤ 256 → reads l (AnOperand SetOperation) ts ≡ reads l (ALevel Sum) ts
set_operation_operand l ts h = reads_at l (AnOperand SetOperation) ts h ∙ bind_same (reads l (ALevel Sum) ts)

pub sum_operand : (l : ℕ) (ts : List Token) → l ≤ 256 → reads l (AnOperand Sum) ts ≡ reads l (ALevel Product) ts
sum_operand l ts h = reads_at l (AnOperand Sum) ts h ∙ bind_same (reads l (ALevel Product) ts)

pub product_operand : (l : ℕ) (ts : List Token) → l ≤ 256 → reads l (AnOperand Product) ts ≡ reads l AnOpposite ts
product_operand l ts h = reads_at l (AnOperand Product) ts h ∙ bind_same (reads l AnOpposite ts)

-- ** `not`, comparisons and the sign

pub negation_not : (l : ℕ) (ts : List Token) → l ≤ 256 → starts (kinds.Not ∷ []) ts ≡ true → reads l ANegation ts ≡ (one_at (l + 1) kinds.Not ts >>= λ t. reads (l + 1) ANegation t.1 >>= λ e. Ok (make_negated (t.0, e.0), e.1))
negation_not l ts h b = rw add-one (reads_at l ANegation ts h ∙ rw b (simp bind_bind))

pub negation_none : (l : ℕ) (ts : List Token) → l ≤ 256 → starts (kinds.Not ∷ []) ts ≡ false → reads l ANegation ts ≡ reads l AComparison ts
negation_none l ts h b = reads_at l ANegation ts h ∙ rw b (simp bind_bind (bind_same (reads l AComparison ts)))

pub comparison_alone : (l : ℕ) (ts : List Token) (e : Expr) (us : List Token) → l ≤ 256 → reads l (ALevel SetOperation) ts ≡ Ok (e, us) → starts comparisons us ≡ false → reads l AComparison ts ≡ Ok (e, us)
comparison_alone l ts e us h o b = reads_at l AComparison ts h ∙ rw (o, b) refl

pub comparison_two : (l : ℕ) (ts : List Token) (e : Expr) (us : List Token) → l ≤ 256 → reads l (ALevel SetOperation) ts ≡ Ok (e, us) → starts comparisons us ≡ true
    → reads l AComparison ts ≡ (one_of_at l comparisons us >>= λ t. reads (l + 1) (ALevel SetOperation) t.1 >>= λ x. Ok (combined e (t.0, x.0), x.1))
comparison_two l ts e us h o b = rw add-one (reads_at l AComparison ts h ∙ rw (o, b) (simp bind_bind))

pub comparison_fails : (l : ℕ) (ts : List Token) (d : Cause × List Token) → l ≤ 256 → reads l (ALevel SetOperation) ts ≡ Err d → reads l AComparison ts ≡ Err d
comparison_fails l ts d h o = reads_at l AComparison ts h ∙ rw o refl

pub opposite_signed : (l : ℕ) (ts : List Token) → l ≤ 256 → starts (kinds.Dash ∷ []) ts ≡ true → reads l AnOpposite ts ≡ (one_at (l + 1) kinds.Dash ts >>= λ t. reads (l + 1) AnOpposite t.1 >>= λ e. Ok (make_signed (t.0, e.0), e.1))
opposite_signed l ts h b = rw add-one (reads_at l AnOpposite ts h ∙ rw b (simp bind_bind))

pub opposite_none : (l : ℕ) (ts : List Token) → l ≤ 256 → starts (kinds.Dash ∷ []) ts ≡ false → reads l AnOpposite ts ≡ reads l ALookup ts
opposite_none l ts h b = reads_at l AnOpposite ts h ∙ rw b (simp bind_bind (bind_same (reads l ALookup ts)))

-- ** look-ups and updates

-- an expression and perhaps one behind a separator, up to the end of their bracket
abbrev pub reads_bracketed : ℕ → Kind → Kind → List Token → Outcome Token (Expr × Option Expr)
reads_bracketed l separator closing ts = reads_as l (Then (one_or_two separator) (the closing)) (λ x. first_and_second x.0) ts

pub bracketed_at : (l : ℕ) (separator closing : Kind) (ts : List Token)
    → reads_bracketed l separator closing ts ≡ (reads l AnExpr ts >>= λ e. reads_as l (Optional (expr_after separator)) behind_in e.1 >>= λ o. one_at l closing o.1 >>= λ u. Ok ((e.0, o.0), u.1))
bracketed_at l separator closing ts = simp bind_bind

abbrev pub reads_suffixes : ℕ → Expr → List Token → Outcome Token Expr
reads_suffixes l e ts = reads_chain l (Symbol ASuffix) suffixed e ts

pub lookup_at : (l : ℕ) (ts : List Token) → l ≤ 256 → reads l ALookup ts ≡ (reads l APrimary ts >>= λ x. reads_suffixes l x.0 x.1)
lookup_at l ts h = reads_at l ALookup ts h ∙ simp bind_bind

pub suffix_turn : (l : ℕ) (e : Expr) (ts : List Token) → starts (kinds.OpenSquare ∷ []) ts ≡ true
    → reads_suffixes l e ts ≡ (reads_as l (Symbol ASuffix) (suffixed e) ts >>= λ x. reads_suffixes (l + 1) x.0 x.1)
suffix_turn l e ts b = chain_turn (Symbol ASuffix) refl refl refl suffixed l e ts b ∙ sym (bind_bind (reads l ASuffix ts) _ _)

pub suffix_at : (l : ℕ) (e : Expr) (ts : List Token) → l ≤ 256
    → reads_as l (Symbol ASuffix) (suffixed e) ts ≡ (one_at (l + 1) kinds.OpenSquare ts >>= λ t. reads_bracketed (l + 1) kinds.Becomes kinds.CloseSquare t.1 >>= λ x. Ok (suffixed e x.0, x.1))
suffix_at l e ts h = rw (add-one, reads_at l ASuffix ts h) (simp bind_bind)

pub suffix_end : (l : ℕ) (e : Expr) (ts : List Token) → starts (kinds.OpenSquare ∷ []) ts ≡ false → reads_suffixes l e ts ≡ Ok (e, ts)
suffix_end l e ts b = chain_end (Symbol ASuffix) suffixed l e ts b
