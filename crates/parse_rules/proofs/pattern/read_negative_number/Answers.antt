use Rattle.std.proofs.Common.{◌≡◌, ◌+◌, ◌<◌, refl, ◌∙◌, pos}
use Rattle.spec_grammar.specs.declared.kind.Kind.TheVariants as kinds
use Rattle.parse_rules.proofs.PatternLaws.{one_kind, number_is_positive, number_back, negated_fits, negated_back, negative_at}
use Rattle.parse_rules.proofs.pattern.read_negative_number.Goals as goal

pub overflow_sub-number_of : goal.overflow_sub-number_of
overflow_sub-number_of c =
    let k = one_kind (c.args.nesting + 1) kinds.Number c.in_ok-sign.rest.tokens.now c.in_ok-token.token.now c.in_ok-token.rest.tokens.now c.in_ok-token.ensures.reads in
    let n = number_is_positive c.in_ok-token.token.now k in
    let e : c.number_of.result ≡ pos n.0 = c.number_of.ensures ∙ n.1 in
    let h : n.0 < 9223372036854775808 = rw e at c.number_of.type_inv in
    rw (e, number_back n.0 h) (negated_fits n.0 h)

pub returns : goal.returns
returns c =
    let k = one_kind (c.args.nesting + 1) kinds.Number c.in_ok-sign.rest.tokens.now c.in_ok-token.token.now c.in_ok-token.rest.tokens.now c.in_ok-token.ensures.reads in
    let n = number_is_positive c.in_ok-token.token.now k in
    let e : c.number_of.result ≡ pos n.0 = c.number_of.ensures ∙ n.1 in
    let h : n.0 < 9223372036854775808 = rw e at c.number_of.type_inv in
    negative_at c.args.nesting c.args.cursor.tokens.now
    ∙ rw (c.in_ok-sign.ensures.reads, c.in_ok-token.ensures.reads, c.pattern_at.ensures, e, number_back n.0 h, negated_back n.0 h, n.1) refl
