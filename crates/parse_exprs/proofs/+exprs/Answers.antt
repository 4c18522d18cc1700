use Rattle.std.proofs.Common.{◌∷◌, [], arith, rules, refl, sym, ◌∙◌}
use Rattle.std.proofs.lemmas.Result.{err_from_is_err_and}
use Rattle.spec_grammar.proofs.Turns.{after_take, after_turn}
use Rattle.spec_grammar.proofs.Unrolled.{one_take}
use Rattle.spec_grammar.specs.Kinds.{code_of}
use Rattle.spec_grammar.specs.Reading.{reads}
use Rattle.spec_grammar.specs.Symbols.{AnExpr, ALevel, AnOperand, ANegation, AComparison, AnOpposite, ALookup, APrimary}
use Rattle.spec_grammar.specs.declared.kind.Kind.TheVariants as kinds
use Rattle.spec_grammar.specs.declared.level.BinaryLevel.TheVariants as levels
use Rattle.spec_grammar.proofs.GivesLemmas.{fails_by, deep_fails}
use Rattle.parse_exprs.proofs.LevelLaws.{expr_conditional, expr_binding, expr_level, level_at, operated_at, operator_turn, operator_end, disjunction_operand, conjunction_operand, set_operation_operand, sum_operand, product_operand, bracketed_at, negation_not, negation_none, comparison_alone, comparison_two, comparison_fails, opposite_signed, opposite_none, lookup_at, suffix_at, suffix_turn, suffix_end}
use Rattle.parse_exprs.proofs.PrimaryLaws.{primary_literal, primary_applied, primary_named, primary_parenthesis, primary_brace, primary_map, applied_at, named_called, called_arguments, one_argument, two_arguments, parenthesis_at, parenthesis_alone, parenthesis_pair, pair_at, brace_some, elements_chosen, elements_listed, comprehension_at, map_some, entries_at, entries_turn, entry_take}
use Rattle.parse_exprs.proofs.+exprs.Goals as goal

-- ** `expr`

pub exprs::expr-returns-then-nesting-gt-LIMIT : goal.exprs::expr-returns-then-nesting-gt-LIMIT
exprs::expr-returns-then-nesting-gt-LIMIT t c = deep_fails c.too_deep.result c.args.nesting AnExpr c.args.cursor.tokens.now c.if-nesting-gt-LIMIT.true c.too_deep.ensures

pub exprs::expr-returns-then-begins : goal.exprs::expr-returns-then-begins
exprs::expr-returns-then-begins t c = rw (expr_conditional c.args.nesting c.args.cursor.tokens.now (omega arith) (sym c.if-begins.ensures)) c.conditional.ensures

pub exprs::expr-returns-then-begins-2 : goal.exprs::expr-returns-then-begins-2
exprs::expr-returns-then-begins-2 t c = rw (expr_binding c.args.nesting c.args.cursor.tokens.now (omega arith) (sym c.if-begins.ensures) (sym c.if-begins-2.ensures)) c.binding.ensures

pub exprs::expr-returns : goal.exprs::expr-returns
exprs::expr-returns t c = rw (expr_level c.args.nesting c.args.cursor.tokens.now (omega arith) (sym c.if-begins.ensures) (sym c.if-begins-2.ensures)) c.level_of.ensures

-- ** `level_of`

pub exprs::level_of-returns-then-nesting-gt-LIMIT : goal.exprs::level_of-returns-then-nesting-gt-LIMIT
exprs::level_of-returns-then-nesting-gt-LIMIT t c = deep_fails c.too_deep.result c.args.nesting (ALevel c.args.level) c.args.cursor.tokens.now c.if-nesting-gt-LIMIT.true (rw c.level_beginnings.ensures at c.too_deep.ensures)

pub exprs::level_of-returns-in_err-left : goal.exprs::level_of-returns-in_err-left
exprs::level_of-returns-in_err-left t c = rw (level_at c.args.nesting c.args.level c.args.cursor.tokens.now (omega arith)) (search rules)

pub exprs::level_of-loop-operators-init : goal.exprs::level_of-loop-operators-init
exprs::level_of-loop-operators-init t c = record { least = omega arith; deep = omega arith; reads = sym (level_at c.args.nesting c.args.level c.args.cursor.tokens.now (omega arith) ∙ rw c.in_ok-left.ensures refl) }

pub exprs::level_of-returns-in_err-whole : goal.exprs::level_of-returns-in_err-whole
exprs::level_of-returns-in_err-whole t c = rw (sym c.loop-operators.invariant.reads, operator_turn c.loop-operators.deeper c.args.level c.loop-operators.left c.loop-operators.rest.tokens.now (sym (rw c.operators_of-operators.ensures at c.loop-operators-test.ensures))) (search rules)

pub exprs::level_of-loop-operators-preserved : goal.exprs::level_of-loop-operators-preserved
exprs::level_of-loop-operators-preserved t c = record { least = omega arith; deep = omega (arith, c.in_ok-whole.ensures.fits); reads = sym (operator_turn c.loop-operators.deeper c.args.level c.loop-operators.left c.loop-operators.rest.tokens.now (sym (rw c.operators_of-operators.ensures at c.loop-operators-test.ensures)) ∙ rw c.in_ok-whole.ensures.reads refl) ∙ c.loop-operators.invariant.reads }

pub exprs::level_of-returns : goal.exprs::level_of-returns
exprs::level_of-returns t c = sym c.loop-operators.invariant.reads ∙ operator_end c.loop-operators.deeper c.args.level c.loop-operators.left c.loop-operators.rest.tokens.now (sym (rw c.operators_of-operators.ensures at c.loop-operators-test.ensures))

-- ** `operated`

pub exprs::operated-returns-in_err-right-clause-reads : goal.exprs::operated-returns-in_err-right-clause-reads
exprs::operated-returns-in_err-right-clause-reads t c = rw (operated_at c.args.nesting c.args.level c.args.left c.args.cursor.tokens.now) (search rules)

pub exprs::operated-returns-clause-reads : goal.exprs::operated-returns-clause-reads
exprs::operated-returns-clause-reads t c = rw (operated_at c.args.nesting c.args.level c.args.left c.args.cursor.tokens.now) (search rules)

-- ** `operand`

pub exprs::operand-returns-then-nesting-gt-LIMIT : goal.exprs::operand-returns-then-nesting-gt-LIMIT
exprs::operand-returns-then-nesting-gt-LIMIT t c = deep_fails c.too_deep.result c.args.nesting (AnOperand c.args.level) c.args.cursor.tokens.now c.if-nesting-gt-LIMIT.true (rw c.level_beginnings.ensures at c.too_deep.ensures)

pub exprs::operand-returns-in-Disjunction : goal.exprs::operand-returns-in-Disjunction
exprs::operand-returns-in-Disjunction t c = rw (c.in-Disjunction.is, disjunction_operand c.args.nesting c.args.cursor.tokens.now (omega arith)) c.level_of.ensures

pub exprs::operand-returns-in-Conjunction : goal.exprs::operand-returns-in-Conjunction
exprs::operand-returns-in-Conjunction t c = rw (c.in-Conjunction.is, conjunction_operand c.args.nesting c.args.cursor.tokens.now (omega arith)) c.negation.ensures

pub exprs::operand-returns-in-SetOperation : goal.exprs::operand-returns-in-SetOperation
exprs::operand-returns-in-SetOperation t c = rw (c.in-SetOperation.is, set_operation_operand c.args.nesting c.args.cursor.tokens.now (omega arith)) c.level_of-in-SetOperation.ensures

pub exprs::operand-returns-in-Sum : goal.exprs::operand-returns-in-Sum
exprs::operand-returns-in-Sum t c = rw (c.in-Sum.is, sum_operand c.args.nesting c.args.cursor.tokens.now (omega arith)) c.level_of-in-Sum.ensures

pub exprs::operand-returns-in-Product : goal.exprs::operand-returns-in-Product
exprs::operand-returns-in-Product t c = rw (c.in-Product.is, product_operand c.args.nesting c.args.cursor.tokens.now (omega arith)) c.opposite.ensures

-- ** `negation`

pub exprs::negation-returns-then-nesting-gt-LIMIT : goal.exprs::negation-returns-then-nesting-gt-LIMIT
exprs::negation-returns-then-nesting-gt-LIMIT t c = deep_fails c.too_deep.result c.args.nesting ANegation c.args.cursor.tokens.now c.if-nesting-gt-LIMIT.true (rw c.negation_beginnings.ensures at c.too_deep.ensures)

pub exprs::negation-returns-in_err-word : goal.exprs::negation-returns-in_err-word
exprs::negation-returns-in_err-word t c = rw (negation_not c.args.nesting c.args.cursor.tokens.now (omega arith) (sym c.if-begins.ensures)) (search rules)

pub exprs::negation-returns-in_err-e : goal.exprs::negation-returns-in_err-e
exprs::negation-returns-in_err-e t c = rw (negation_not c.args.nesting c.args.cursor.tokens.now (omega arith) (sym c.if-begins.ensures)) (search rules)

pub exprs::negation-returns-then-begins : goal.exprs::negation-returns-then-begins
exprs::negation-returns-then-begins t c = rw (negation_not c.args.nesting c.args.cursor.tokens.now (omega arith) (sym c.if-begins.ensures)) (search rules)

pub exprs::negation-returns : goal.exprs::negation-returns
exprs::negation-returns t c = rw (negation_none c.args.nesting c.args.cursor.tokens.now (omega arith) (sym c.if-begins.ensures)) c.comparison.ensures

-- ** `comparison`

pub exprs::comparison-returns-then-nesting-gt-LIMIT : goal.exprs::comparison-returns-then-nesting-gt-LIMIT
exprs::comparison-returns-then-nesting-gt-LIMIT t c = deep_fails c.too_deep.result c.args.nesting AComparison c.args.cursor.tokens.now c.if-nesting-gt-LIMIT.true (rw c.opposite_beginnings.ensures at c.too_deep.ensures)

pub exprs::comparison-returns-in_err-left : goal.exprs::comparison-returns-in_err-left
exprs::comparison-returns-in_err-left t c = let p = err_from_is_err_and c.from_residual.result c.from_residual.ensures.1 in rw (p.1, p.2) (fails_by _ (reads c.args.nesting (ALevel levels.SetOperation) c.args.cursor.tokens.now) (reads c.args.nesting AComparison c.args.cursor.tokens.now) (λ e h. comparison_fails c.args.nesting c.args.cursor.tokens.now e (omega arith) h) c.in_err-left.ensures)

pub exprs::comparison-returns-then-not-begins_any : goal.exprs::comparison-returns-then-not-begins_any
exprs::comparison-returns-then-not-begins_any t c = comparison_alone c.args.nesting c.args.cursor.tokens.now c.in_ok-left.left c.in_ok-left.rest.tokens.now (omega arith) c.in_ok-left.ensures (sym c.if-not-begins_any.ensures)

pub exprs::comparison-returns-in_err-operator : goal.exprs::comparison-returns-in_err-operator
exprs::comparison-returns-in_err-operator t c = rw (comparison_two c.args.nesting c.args.cursor.tokens.now c.in_ok-left.left c.in_ok-left.rest.tokens.now (omega arith) c.in_ok-left.ensures (sym c.if-not-begins_any.ensures)) (search rules)

pub exprs::comparison-returns-in_err-right : goal.exprs::comparison-returns-in_err-right
exprs::comparison-returns-in_err-right t c = rw (comparison_two c.args.nesting c.args.cursor.tokens.now c.in_ok-left.left c.in_ok-left.rest.tokens.now (omega arith) c.in_ok-left.ensures (sym c.if-not-begins_any.ensures)) (search rules)

pub exprs::comparison-returns : goal.exprs::comparison-returns
exprs::comparison-returns t c = rw (comparison_two c.args.nesting c.args.cursor.tokens.now c.in_ok-left.left c.in_ok-left.rest.tokens.now (omega arith) c.in_ok-left.ensures (sym c.if-not-begins_any.ensures)) (search rules)

-- ** `opposite`

pub exprs::opposite-returns-then-nesting-gt-LIMIT : goal.exprs::opposite-returns-then-nesting-gt-LIMIT
exprs::opposite-returns-then-nesting-gt-LIMIT t c = deep_fails c.too_deep.result c.args.nesting AnOpposite c.args.cursor.tokens.now c.if-nesting-gt-LIMIT.true (rw c.opposite_beginnings.ensures at c.too_deep.ensures)

pub exprs::opposite-returns-in_err-sign : goal.exprs::opposite-returns-in_err-sign
exprs::opposite-returns-in_err-sign t c = rw (opposite_signed c.args.nesting c.args.cursor.tokens.now (omega arith) (sym c.if-begins.ensures)) (search rules)

pub exprs::opposite-returns-in_err-e : goal.exprs::opposite-returns-in_err-e
exprs::opposite-returns-in_err-e t c = rw (opposite_signed c.args.nesting c.args.cursor.tokens.now (omega arith) (sym c.if-begins.ensures)) (search rules)

pub exprs::opposite-returns-then-begins : goal.exprs::opposite-returns-then-begins
exprs::opposite-returns-then-begins t c = rw (opposite_signed c.args.nesting c.args.cursor.tokens.now (omega arith) (sym c.if-begins.ensures)) (search rules)

pub exprs::opposite-returns : goal.exprs::opposite-returns
exprs::opposite-returns t c = rw (opposite_none c.args.nesting c.args.cursor.tokens.now (omega arith) (sym c.if-begins.ensures)) c.lookup.ensures

-- ** `lookup`

pub exprs::lookup-returns-then-nesting-gt-LIMIT : goal.exprs::lookup-returns-then-nesting-gt-LIMIT
exprs::lookup-returns-then-nesting-gt-LIMIT t c = deep_fails c.too_deep.result c.args.nesting ALookup c.args.cursor.tokens.now c.if-nesting-gt-LIMIT.true (rw c.primary_beginnings.ensures at c.too_deep.ensures)

pub exprs::lookup-returns-in_err-whole : goal.exprs::lookup-returns-in_err-whole
exprs::lookup-returns-in_err-whole t c = rw (lookup_at c.args.nesting c.args.cursor.tokens.now (omega arith)) (search rules)

pub exprs::lookup-loop-alloc-init : goal.exprs::lookup-loop-alloc-init
exprs::lookup-loop-alloc-init t c = record { least = omega arith; deep = omega arith; reads = sym (lookup_at c.args.nesting c.args.cursor.tokens.now (omega arith) ∙ rw c.in_ok-whole.ensures refl) }

pub exprs::lookup-returns-in_err-next : goal.exprs::lookup-returns-in_err-next
exprs::lookup-returns-in_err-next t c = rw (sym c.loop-alloc.invariant.reads, suffix_turn c.loop-alloc.deeper c.loop-alloc.whole c.loop-alloc.rest.tokens.now (sym c.loop-alloc-test.ensures)) (search rules)

pub exprs::lookup-loop-alloc-preserved : goal.exprs::lookup-loop-alloc-preserved
exprs::lookup-loop-alloc-preserved t c = record { least = omega arith; deep = omega (arith, c.in_ok-next.ensures.fits); reads = sym (suffix_turn c.loop-alloc.deeper c.loop-alloc.whole c.loop-alloc.rest.tokens.now (sym c.loop-alloc-test.ensures) ∙ rw c.in_ok-next.ensures.reads refl) ∙ c.loop-alloc.invariant.reads }

pub exprs::lookup-returns : goal.exprs::lookup-returns
exprs::lookup-returns t c = sym c.loop-alloc.invariant.reads ∙ suffix_end c.loop-alloc.deeper c.loop-alloc.whole c.loop-alloc.rest.tokens.now (sym c.loop-alloc-test.ensures)

-- ** `suffix`

pub exprs::suffix-returns-in_err-rest : goal.exprs::suffix-returns-in_err-rest
exprs::suffix-returns-in_err-rest t c = rw (suffix_at c.args.nesting c.args.e c.args.cursor.tokens.now (omega arith)) (search rules)

pub exprs::suffix-returns-in_err-key : goal.exprs::suffix-returns-in_err-key
exprs::suffix-returns-in_err-key t c = rw (suffix_at c.args.nesting c.args.e c.args.cursor.tokens.now (omega arith)) (search rules)

pub exprs::suffix-returns : goal.exprs::suffix-returns
exprs::suffix-returns t c = rw (suffix_at c.args.nesting c.args.e c.args.cursor.tokens.now (omega arith)) (search rules)

-- ** `bracketed`

pub exprs::bracketed-returns-in_err-value : goal.exprs::bracketed-returns-in_err-value
exprs::bracketed-returns-in_err-value t c = rw (bracketed_at c.args.nesting kinds.Becomes kinds.CloseSquare c.args.cursor.tokens.now) (search rules)

pub exprs::bracketed-returns-in_err-rest : goal.exprs::bracketed-returns-in_err-rest
exprs::bracketed-returns-in_err-rest t c = rw (bracketed_at c.args.nesting kinds.Becomes kinds.CloseSquare c.args.cursor.tokens.now) (search rules)

pub exprs::bracketed-returns : goal.exprs::bracketed-returns
exprs::bracketed-returns t c = rw (bracketed_at c.args.nesting kinds.Becomes kinds.CloseSquare c.args.cursor.tokens.now) (search rules)

-- ** `primary`

pub primaries::primary-returns-then-nesting-gt-LIMIT : goal.primaries::primary-returns-then-nesting-gt-LIMIT
primaries::primary-returns-then-nesting-gt-LIMIT t c = deep_fails c.too_deep.result c.args.nesting APrimary c.args.cursor.tokens.now c.if-nesting-gt-LIMIT.true (rw c.primary_beginnings.ensures at c.too_deep.ensures)

pub primaries::primary-returns-then-begins_any : goal.primaries::primary-returns-then-begins_any
primaries::primary-returns-then-begins_any t c = rw (primary_literal c.args.nesting c.args.cursor.tokens.now (omega arith) (sym c.if-begins_any.ensures)) c.literal.ensures

pub primaries::primary-returns-then-begins_any-2 : goal.primaries::primary-returns-then-begins_any-2
primaries::primary-returns-then-begins_any-2 t c = rw (primary_applied c.args.nesting c.args.cursor.tokens.now (omega arith) (sym c.if-begins_any.ensures) (sym c.if-begins_any-2.ensures)) c.applied.ensures

pub primaries::primary-returns-then-begins : goal.primaries::primary-returns-then-begins
primaries::primary-returns-then-begins t c = rw (primary_named c.args.nesting c.args.cursor.tokens.now (omega arith) (sym c.if-begins_any.ensures) (sym c.if-begins_any-2.ensures) (sym c.if-begins.ensures)) c.named.ensures

pub primaries::primary-returns-then-begins-2 : goal.primaries::primary-returns-then-begins-2
primaries::primary-returns-then-begins-2 t c = rw (primary_parenthesis c.args.nesting c.args.cursor.tokens.now (omega arith) (sym c.if-begins_any.ensures) (sym c.if-begins_any-2.ensures) (sym c.if-begins.ensures) (sym c.if-begins-2.ensures)) c.parenthesis.ensures

pub primaries::primary-returns-then-begins-3 : goal.primaries::primary-returns-then-begins-3
primaries::primary-returns-then-begins-3 t c = rw (primary_brace c.args.nesting c.args.cursor.tokens.now (omega arith) (sym c.if-begins_any.ensures) (sym c.if-begins_any-2.ensures) (sym c.if-begins.ensures) (sym c.if-begins-2.ensures) (sym c.if-begins-3.ensures)) c.brace.ensures

pub primaries::primary-returns : goal.primaries::primary-returns
primaries::primary-returns t c = rw (primary_map c.args.nesting c.args.cursor.tokens.now (omega arith) (sym c.if-begins_any.ensures) (sym c.if-begins_any-2.ensures) (sym c.if-begins.ensures) (sym c.if-begins-2.ensures) (sym c.if-begins-3.ensures)) c.map.ensures

-- ** `applied`

pub primaries::applied-returns-in_err-e : goal.primaries::applied-returns-in_err-e
primaries::applied-returns-in_err-e t c = rw (applied_at c.args.nesting c.args.cursor.tokens.now) (search rules)

pub primaries::applied-returns : goal.primaries::applied-returns
primaries::applied-returns t c = rw (applied_at c.args.nesting c.args.cursor.tokens.now) (search rules)

-- ** `named`

pub primaries::named-returns-in_err-kind : goal.primaries::named-returns-in_err-kind
primaries::named-returns-in_err-kind t c = rw (named_called c.args.nesting c.args.cursor.tokens.now c.in_ok-token.token.now c.in_ok-token.rest.tokens.now c.in_ok-token.ensures.reads (sym c.if-not-begins.ensures)) (search rules)

pub primaries::named-returns : goal.primaries::named-returns
primaries::named-returns t c = rw (named_called c.args.nesting c.args.cursor.tokens.now c.in_ok-token.token.now c.in_ok-token.rest.tokens.now c.in_ok-token.ensures.reads (sym c.if-not-begins.ensures)) (search rules)

-- ** `called`

pub primaries::called-returns-in_err-values : goal.primaries::called-returns-in_err-values
primaries::called-returns-in_err-values t c = rw (called_arguments c.args.nesting c.args.text c.args.cursor.tokens.now c.in_ok-rest.field-0-0.now c.in_ok-rest.rest.tokens.now c.in_ok-rest.ensures.reads (sym c.if-begins_any.ensures)) (search rules)

pub primaries::called-returns : goal.primaries::called-returns
primaries::called-returns t c = rw (called_arguments c.args.nesting c.args.text c.args.cursor.tokens.now c.in_ok-rest.field-0-0.now c.in_ok-rest.rest.tokens.now c.in_ok-rest.ensures.reads (sym c.if-begins_any.ensures)) (search rules)

-- ** `arguments`

pub primaries::arguments-returns-in_err-rest : goal.primaries::arguments-returns-in_err-rest
primaries::arguments-returns-in_err-rest t c = rw (one_argument c.args.nesting c.args.cursor.tokens.now c.in_ok-first.first c.in_ok-first.rest.tokens.now c.in_ok-first.ensures (sym c.if-not-begins.ensures)) (search rules)

pub primaries::arguments-returns-then-not-begins : goal.primaries::arguments-returns-then-not-begins
primaries::arguments-returns-then-not-begins t c = rw (one_argument c.args.nesting c.args.cursor.tokens.now c.in_ok-first.first c.in_ok-first.rest.tokens.now c.in_ok-first.ensures (sym c.if-not-begins.ensures)) (search rules)

pub primaries::arguments-returns-in_err-second : goal.primaries::arguments-returns-in_err-second
primaries::arguments-returns-in_err-second t c = rw (two_arguments c.args.nesting c.args.cursor.tokens.now c.in_ok-first.first c.in_ok-first.rest.tokens.now c.in_ok-first.ensures (sym c.if-not-begins.ensures)) (search rules)

pub primaries::arguments-returns-in_err-rest-2 : goal.primaries::arguments-returns-in_err-rest-2
primaries::arguments-returns-in_err-rest-2 t c = rw (two_arguments c.args.nesting c.args.cursor.tokens.now c.in_ok-first.first c.in_ok-first.rest.tokens.now c.in_ok-first.ensures (sym c.if-not-begins.ensures)) (search rules)

pub primaries::arguments-returns : goal.primaries::arguments-returns
primaries::arguments-returns t c = rw (two_arguments c.args.nesting c.args.cursor.tokens.now c.in_ok-first.first c.in_ok-first.rest.tokens.now c.in_ok-first.ensures (sym c.if-not-begins.ensures), c.in_ok-push.ensures.ok) (search rules)

-- ** `parenthesis`

pub primaries::parenthesis-returns-in_err-first : goal.primaries::parenthesis-returns-in_err-first
primaries::parenthesis-returns-in_err-first t c = rw (parenthesis_at c.args.nesting c.args.cursor.tokens.now) (search rules)

pub primaries::parenthesis-returns-then-begins : goal.primaries::parenthesis-returns-then-begins
primaries::parenthesis-returns-then-begins t c = rw (parenthesis_pair c.args.nesting c.args.cursor.tokens.now c.in_ok-bracket.bracket.now c.in_ok-bracket.rest.tokens.now c.in_ok-first.first c.in_ok-first.rest.tokens.now c.in_ok-bracket.ensures.reads c.in_ok-first.ensures (sym c.if-begins.ensures)) c.pair.ensures

pub primaries::parenthesis-returns : goal.primaries::parenthesis-returns
primaries::parenthesis-returns t c = rw (parenthesis_alone c.args.nesting c.args.cursor.tokens.now c.in_ok-bracket.bracket.now c.in_ok-bracket.rest.tokens.now c.in_ok-first.first c.in_ok-first.rest.tokens.now c.in_ok-bracket.ensures.reads c.in_ok-first.ensures (sym c.if-begins.ensures)) c.closed.ensures

-- ** `pair`

pub primaries::pair-returns-in_err-second : goal.primaries::pair-returns-in_err-second
primaries::pair-returns-in_err-second t c = rw (pair_at c.args.nesting c.args.place c.args.first c.args.cursor.tokens.now) (search rules)

pub primaries::pair-returns-in_err-rest : goal.primaries::pair-returns-in_err-rest
primaries::pair-returns-in_err-rest t c = rw (pair_at c.args.nesting c.args.place c.args.first c.args.cursor.tokens.now) (search rules)

pub primaries::pair-returns : goal.primaries::pair-returns
primaries::pair-returns t c = rw (pair_at c.args.nesting c.args.place c.args.first c.args.cursor.tokens.now) (search rules)

-- ** `brace`

pub primaries::brace-returns-in_err-kind : goal.primaries::brace-returns-in_err-kind
primaries::brace-returns-in_err-kind t c = rw (brace_some c.args.nesting c.args.cursor.tokens.now c.in_ok-opening.opening.now c.in_ok-opening.rest.tokens.now c.in_ok-opening.ensures.reads (sym c.if-not-begins_any.ensures)) (search rules)

pub primaries::brace-returns : goal.primaries::brace-returns
primaries::brace-returns t c = rw (brace_some c.args.nesting c.args.cursor.tokens.now c.in_ok-opening.opening.now c.in_ok-opening.rest.tokens.now c.in_ok-opening.ensures.reads (sym c.if-not-begins_any.ensures)) (search rules)

-- ** `elements`

pub primaries::elements-returns-then-begins : goal.primaries::elements-returns-then-begins
primaries::elements-returns-then-begins t c = rw (elements_chosen c.args.nesting c.args.cursor.tokens.now c.in_ok-first.first c.in_ok-first.rest.tokens.now c.in_ok-first.ensures (sym c.if-begins.ensures)) c.comprehension.ensures

pub primaries::elements-returns-in_err-elements-2 : goal.primaries::elements-returns-in_err-elements-2
primaries::elements-returns-in_err-elements-2 t c = rw (elements_listed c.args.nesting c.args.cursor.tokens.now c.in_ok-first.first c.in_ok-first.rest.tokens.now c.in_ok-first.ensures (sym c.if-begins.ensures)) (search rules)

pub primaries::elements-returns : goal.primaries::elements-returns
primaries::elements-returns t c = rw (elements_listed c.args.nesting c.args.cursor.tokens.now c.in_ok-first.first c.in_ok-first.rest.tokens.now c.in_ok-first.ensures (sym c.if-begins.ensures)) (search rules)

-- ** `further`

pub primaries::further-loop-alloc-smaller : goal.primaries::further-loop-alloc-smaller
primaries::further-loop-alloc-smaller t c = after_take c.args.nesting kinds.Comma AnExpr c.loop-alloc.rest.tokens.now c.in_ok-after.field-0-0.now c.in_ok-after.after.tokens.now c.in_ok-element.element c.in_ok-element.after.tokens.now c.in_ok-after.ensures.reads c.in_ok-element.ensures

pub primaries::further-loop-alloc-preserved : goal.primaries::further-loop-alloc-preserved
primaries::further-loop-alloc-preserved t c = rw c.in_ok-push.ensures.ok (sym (after_turn c.args.nesting kinds.Comma AnExpr c.loop-alloc.elements c.loop-alloc.rest.tokens.now (omega arith) (sym c.loop-alloc-test.ensures) ∙ rw (c.in_ok-after.ensures.reads, c.in_ok-element.ensures) refl) ∙ c.loop-alloc.invariant)

-- ** `comprehension`

pub primaries::comprehension-returns-in_err-rest : goal.primaries::comprehension-returns-in_err-rest
primaries::comprehension-returns-in_err-rest t c = rw (comprehension_at c.args.nesting c.args.element c.args.cursor.tokens.now) (search rules)

pub primaries::comprehension-returns-in_err-name : goal.primaries::comprehension-returns-in_err-name
primaries::comprehension-returns-in_err-name t c = rw (comprehension_at c.args.nesting c.args.element c.args.cursor.tokens.now) (search rules)

pub primaries::comprehension-returns-in_err-rest-2 : goal.primaries::comprehension-returns-in_err-rest-2
primaries::comprehension-returns-in_err-rest-2 t c = rw (comprehension_at c.args.nesting c.args.element c.args.cursor.tokens.now) (search rules)

pub primaries::comprehension-returns-in_err-set : goal.primaries::comprehension-returns-in_err-set
primaries::comprehension-returns-in_err-set t c = rw (comprehension_at c.args.nesting c.args.element c.args.cursor.tokens.now) (search rules)

pub primaries::comprehension-returns-in_err-holds : goal.primaries::comprehension-returns-in_err-holds
primaries::comprehension-returns-in_err-holds t c = rw (comprehension_at c.args.nesting c.args.element c.args.cursor.tokens.now) (search rules)

pub primaries::comprehension-returns : goal.primaries::comprehension-returns
primaries::comprehension-returns t c = rw (comprehension_at c.args.nesting c.args.element c.args.cursor.tokens.now) (search rules)

-- ** `map`

pub primaries::map-returns-in_err-keys : goal.primaries::map-returns-in_err-keys
primaries::map-returns-in_err-keys t c = rw (map_some c.args.nesting c.args.cursor.tokens.now c.in_ok-opening.opening.now c.in_ok-opening.rest.tokens.now c.in_ok-opening.ensures.reads (sym c.if-not-begins_any.ensures)) (search rules)

pub primaries::map-returns-in_err-rest-2 : goal.primaries::map-returns-in_err-rest-2
primaries::map-returns-in_err-rest-2 t c = rw (map_some c.args.nesting c.args.cursor.tokens.now c.in_ok-opening.opening.now c.in_ok-opening.rest.tokens.now c.in_ok-opening.ensures.reads (sym c.if-not-begins_any.ensures)) (search rules)

pub primaries::map-returns : goal.primaries::map-returns
primaries::map-returns t c = rw (map_some c.args.nesting c.args.cursor.tokens.now c.in_ok-opening.opening.now c.in_ok-opening.rest.tokens.now c.in_ok-opening.ensures.reads (sym c.if-not-begins_any.ensures)) (search rules)

-- ** `entries`

pub primaries::entries-returns-in_err-first : goal.primaries::entries-returns-in_err-first
primaries::entries-returns-in_err-first t c = rw (entries_at c.args.nesting c.args.cursor.tokens.now) (search rules)

pub primaries::entries-returns : goal.primaries::entries-returns
primaries::entries-returns t c = rw (entries_at c.args.nesting c.args.cursor.tokens.now) (search rules)

-- ** `further_entries`

pub primaries::further_entries-loop-alloc-smaller : goal.primaries::further_entries-loop-alloc-smaller
primaries::further_entries-loop-alloc-smaller t c = let a = entry_take c.args.nesting c.loop-alloc.entries c.in_ok-after.after.tokens.now c.in_ok-longer.longer c.in_ok-longer.after.tokens.now c.in_ok-longer.ensures in let b = one_take c.args.nesting (code_of kinds.Comma ∷ []) c.loop-alloc.rest.tokens.now c.in_ok-after.field-0-0.now c.in_ok-after.after.tokens.now c.in_ok-after.ensures.reads in omega arith

pub primaries::further_entries-loop-alloc-preserved : goal.primaries::further_entries-loop-alloc-preserved
primaries::further_entries-loop-alloc-preserved t c = sym (entries_turn c.args.nesting c.loop-alloc.entries c.loop-alloc.rest.tokens.now (sym c.loop-alloc-test.ensures) ∙ rw (c.in_ok-after.ensures.reads, c.in_ok-longer.ensures) refl) ∙ c.loop-alloc.invariant
