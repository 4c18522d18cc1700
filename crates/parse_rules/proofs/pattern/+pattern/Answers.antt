use Rattle.std.proofs.Common.{◌≡◌, ◌+◌, arith, refl, sym, ◌∙◌, pos, ◌<◌}
use Rattle.std.proofs.lemmas.Result.{err_from_is_err_and}
use Rattle.spec_grammar.proofs.Turns.{after_take, after_turn}
use Rattle.spec_grammar.proofs.Unrolled.{one_at}
use Rattle.spec_grammar.specs.Symbols.{APattern, AFirmPattern, AnUnnamedPattern, PatternArguments}
use Rattle.spec_grammar.specs.Reading.{reads, reads_as}
use Rattle.spec_grammar.specs.declared.kind.Kind.TheVariants as kinds
use Rattle.spec_grammar.proofs.GivesLemmas.{fails_by, deep_fails}
use Rattle.parse_rules.proofs.PatternLaws.{pattern_wild, pattern_named, pattern_unnamed, firm_application, firm_unnamed, unnamed_sorted, unnamed_number, unnamed_negative, unnamed_quoted, unnamed_tuple, unnamed_items, arguments_at, bracketed_at, held_at, one_kind, number_is_positive, number_back}
use Rattle.parse_rules.specs.inner.Parts.{bracketed, placed}
use Rattle.parse_rules.proofs.pattern.+pattern.Goals as goal

-- ** `read_pattern`

pub read_pattern-returns-then-nesting-gt-LIMIT : goal.read_pattern-returns-then-nesting-gt-LIMIT
read_pattern-returns-then-nesting-gt-LIMIT t c = deep_fails c.too_deep.result c.args.nesting APattern c.args.cursor.tokens.now c.if-nesting-gt-LIMIT.true c.too_deep.ensures

pub read_pattern-returns-then-begins : goal.read_pattern-returns-then-begins
read_pattern-returns-then-begins t c =
    rw (pattern_wild c.args.nesting c.args.cursor.tokens.now (omega arith) (sym c.if-begins.ensures), c.in_ok-token.ensures.reads, c.pattern_at.ensures) refl

pub read_pattern-returns-then-begins-2 : goal.read_pattern-returns-then-begins-2
read_pattern-returns-then-begins-2 t c =
    rw (pattern_named c.args.nesting c.args.cursor.tokens.now (omega arith) (sym c.if-begins.ensures) (sym c.if-begins-2.ensures)) c.read_identifier_pattern.ensures

pub read_pattern-returns : goal.read_pattern-returns
read_pattern-returns t c =
    rw (pattern_unnamed c.args.nesting c.args.cursor.tokens.now (omega arith) (sym c.if-begins.ensures) (sym c.if-begins-2.ensures)) c.read_unnamed_pattern.ensures

-- ** `read_identifier_pattern`

pub read_identifier_pattern-returns-then-begins-2 : goal.read_identifier_pattern-returns-then-begins-2
read_identifier_pattern-returns-then-begins-2 t c =
    held_at c.args.nesting c.args.cursor.tokens.now c.in_ok-name.name.now c.in_ok-name.rest.tokens.now c.in_ok-name.ensures.reads (sym c.if-begins.ensures) (sym c.if-begins-2.ensures)
    ∙ rw (c.in_ok-rest.ensures.reads, c.in_ok-held.ensures, c.pattern_at-then-begins-2.ensures, c.in_ok-held-2.ensures, c.in_ok-text.ensures) refl

-- ** `read_firm_pattern`

pub read_firm_pattern-returns-then-nesting-gt-LIMIT : goal.read_firm_pattern-returns-then-nesting-gt-LIMIT
read_firm_pattern-returns-then-nesting-gt-LIMIT t c = deep_fails c.too_deep.result c.args.nesting AFirmPattern c.args.cursor.tokens.now c.if-nesting-gt-LIMIT.true (rw c.firm_pattern_beginnings.ensures at c.too_deep.ensures)

pub read_firm_pattern-returns-then-begins : goal.read_firm_pattern-returns-then-begins
read_firm_pattern-returns-then-begins t c =
    rw (firm_application c.args.nesting c.args.cursor.tokens.now (omega arith) (sym c.if-begins.ensures)) c.read_application.ensures

pub read_firm_pattern-returns : goal.read_firm_pattern-returns
read_firm_pattern-returns t c =
    rw (firm_unnamed c.args.nesting c.args.cursor.tokens.now (omega arith) (sym c.if-begins.ensures)) c.read_unnamed_pattern.ensures

-- ** `read_unnamed_pattern`

pub read_unnamed_pattern-returns-then-nesting-gt-LIMIT : goal.read_unnamed_pattern-returns-then-nesting-gt-LIMIT
read_unnamed_pattern-returns-then-nesting-gt-LIMIT t c = deep_fails c.too_deep.result c.args.nesting AnUnnamedPattern c.args.cursor.tokens.now c.if-nesting-gt-LIMIT.true (rw c.unnamed_pattern_beginnings.ensures at c.too_deep.ensures)

pub read_unnamed_pattern-returns-then-begins_any : goal.read_unnamed_pattern-returns-then-begins_any
read_unnamed_pattern-returns-then-begins_any t c =
    rw (unnamed_sorted c.args.nesting c.args.cursor.tokens.now (omega arith) (sym c.if-begins_any.ensures)) c.read_sorted_variable.ensures

pub read_unnamed_pattern-returns-then-begins : goal.read_unnamed_pattern-returns-then-begins
read_unnamed_pattern-returns-then-begins t c =
    let k = one_kind c.args.nesting kinds.Number c.args.cursor.tokens.now c.in_ok-token.token.now c.in_ok-token.rest.tokens.now c.in_ok-token.ensures.reads in
    let n = number_is_positive c.in_ok-token.token.now k in
    let e : c.number_of.result ≡ pos n.0 = c.number_of.ensures ∙ n.1 in
    let h : n.0 < 9223372036854775808 = rw e at c.number_of.type_inv in
    rw (unnamed_number c.args.nesting c.args.cursor.tokens.now (omega arith) (sym c.if-begins_any.ensures) (sym c.if-begins.ensures), c.in_ok-token.ensures.reads, c.pattern_at.ensures, e, number_back n.0 h, n.1) refl

pub read_unnamed_pattern-returns-then-begins-2 : goal.read_unnamed_pattern-returns-then-begins-2
read_unnamed_pattern-returns-then-begins-2 t c =
    rw (unnamed_negative c.args.nesting c.args.cursor.tokens.now (omega arith) (sym c.if-begins_any.ensures) (sym c.if-begins.ensures) (sym c.if-begins-2.ensures)) c.read_negative_number.ensures

pub read_unnamed_pattern-returns-then-begins-3 : goal.read_unnamed_pattern-returns-then-begins-3
read_unnamed_pattern-returns-then-begins-3 t c =
    rw (unnamed_quoted c.args.nesting c.args.cursor.tokens.now (omega arith) (sym c.if-begins_any.ensures) (sym c.if-begins.ensures) (sym c.if-begins-2.ensures) (sym c.if-begins-3.ensures)) c.read_quoted_pattern.ensures

pub read_unnamed_pattern-returns-in_err-place : goal.read_unnamed_pattern-returns-in_err-place
read_unnamed_pattern-returns-in_err-place t c =
    let p = err_from_is_err_and c.from_residual-in_err-place.result c.from_residual-in_err-place.ensures.1 in
    rw (p.1, p.2) (fails_by _ (reads_as c.args.nesting (bracketed kinds.OpenRound kinds.CloseRound) placed c.args.cursor.tokens.now) (reads c.args.nesting AnUnnamedPattern c.args.cursor.tokens.now)
    (λ e h. rw (unnamed_tuple c.args.nesting c.args.cursor.tokens.now (omega arith) (sym c.if-begins_any.ensures) (sym c.if-begins.ensures) (sym c.if-begins-2.ensures) (sym c.if-begins-3.ensures) (sym c.if-begins-4.ensures), h) refl) c.in_err-place.ensures)

pub read_unnamed_pattern-returns-then-begins-4 : goal.read_unnamed_pattern-returns-then-begins-4
read_unnamed_pattern-returns-then-begins-4 t c =
    rw (unnamed_tuple c.args.nesting c.args.cursor.tokens.now (omega arith) (sym c.if-begins_any.ensures) (sym c.if-begins.ensures) (sym c.if-begins-2.ensures) (sym c.if-begins-3.ensures) (sym c.if-begins-4.ensures), c.in_ok-place.ensures) refl

pub read_unnamed_pattern-returns-in_err-place-2 : goal.read_unnamed_pattern-returns-in_err-place-2
read_unnamed_pattern-returns-in_err-place-2 t c =
    let p = err_from_is_err_and c.from_residual-in_err-place-2.result c.from_residual-in_err-place-2.ensures.1 in
    rw (p.1, p.2) (fails_by _ (reads_as c.args.nesting (bracketed kinds.OpenSquare kinds.CloseSquare) placed c.args.cursor.tokens.now) (reads c.args.nesting AnUnnamedPattern c.args.cursor.tokens.now)
    (λ e h. rw (unnamed_items c.args.nesting c.args.cursor.tokens.now (omega arith) (sym c.if-begins_any.ensures) (sym c.if-begins.ensures) (sym c.if-begins-2.ensures) (sym c.if-begins-3.ensures) (sym c.if-begins-4.ensures), h) refl) c.in_err-place-2.ensures)

pub read_unnamed_pattern-returns : goal.read_unnamed_pattern-returns
read_unnamed_pattern-returns t c =
    rw (unnamed_items c.args.nesting c.args.cursor.tokens.now (omega arith) (sym c.if-begins_any.ensures) (sym c.if-begins.ensures) (sym c.if-begins-2.ensures) (sym c.if-begins-3.ensures) (sym c.if-begins-4.ensures), c.in_ok-place-2.ensures) refl

-- ** `read_arguments`

pub read_arguments-returns-then-nesting-gt-LIMIT : goal.read_arguments-returns-then-nesting-gt-LIMIT
read_arguments-returns-then-nesting-gt-LIMIT t c = deep_fails c.too_deep.result c.args.nesting PatternArguments c.args.cursor.tokens.now c.if-nesting-gt-LIMIT.true c.too_deep.ensures

pub read_arguments-returns-in_err-parts : goal.read_arguments-returns-in_err-parts
read_arguments-returns-in_err-parts t c =
    let p = err_from_is_err_and c.from_residual.result c.from_residual.ensures.1 in
    rw (p.1, p.2) (fails_by _ (reads_as c.args.nesting (bracketed kinds.OpenRound kinds.CloseRound) placed c.args.cursor.tokens.now) (reads c.args.nesting PatternArguments c.args.cursor.tokens.now)
    (λ e h. rw (arguments_at c.args.nesting c.args.cursor.tokens.now (omega arith), h) refl) c.in_err-parts.ensures)

pub read_arguments-returns : goal.read_arguments-returns
read_arguments-returns t c = rw (arguments_at c.args.nesting c.args.cursor.tokens.now (omega arith), c.in_ok-parts.ensures) refl

-- ** `read_bracketed`

pub read_bracketed-returns-in_err-rest : goal.read_bracketed-returns-in_err-rest
read_bracketed-returns-in_err-rest t c =
    let p = err_from_is_err_and c.from_residual-in_err-rest.result c.from_residual-in_err-rest.ensures.1 in
    rw (p.1, p.2) (fails_by _ (one_at (c.args.nesting + 1) c.args.closing c.in_ok-patterns.rest.tokens.now) (reads_as c.args.nesting (bracketed c.args.opening c.args.closing) placed c.args.cursor.tokens.now)
    (λ e h. bracketed_at c.args.opening c.args.closing c.args.nesting c.args.cursor.tokens.now ∙ rw (c.in_ok-bracket.ensures.reads, c.in_ok-patterns.ensures, h) refl) c.in_err-rest.ensures.reads)

-- ** `read_more_patterns`

pub read_more_patterns-loop-alloc-smaller : goal.read_more_patterns-loop-alloc-smaller
read_more_patterns-loop-alloc-smaller t c = after_take c.args.nesting kinds.Comma APattern c.loop-alloc.rest.tokens.now c.in_ok-after.field-0-0.now c.in_ok-after.after.tokens.now c.in_ok-next.next c.in_ok-next.after.tokens.now c.in_ok-after.ensures.reads c.in_ok-next.ensures

pub read_more_patterns-loop-alloc-preserved : goal.read_more_patterns-loop-alloc-preserved
read_more_patterns-loop-alloc-preserved t c =
    rw c.in_ok-push.ensures.ok (sym (after_turn c.args.nesting kinds.Comma APattern c.loop-alloc.patterns c.loop-alloc.rest.tokens.now (omega arith) (sym c.loop-alloc-test.ensures) ∙ rw (c.in_ok-after.ensures.reads, c.in_ok-next.ensures) refl) ∙ c.loop-alloc.invariant)
