use Rattle.std.proofs.Common.{rules, sym, ap, ◌∙◌}
use Rattle.spec_grammar.specs.Reading.{reads}
use Rattle.spec_grammar.specs.Symbols.{Whole}
use Rattle.flow_parse.proofs.WholeLaws.{all_at, all_read, more_left}
use Rattle.flow_parse.proofs.parser.read_all.Goals as goal

pub returns-in_err-spec : goal.returns-in_err-spec
returns-in_err-spec c = rw (all_at c.args.tokens.now, sym c.new.ensures) (search rules)

pub returns-then-is_empty : goal.returns-then-is_empty
returns-then-is_empty c =
    all_read c.args.tokens.now c.in_ok-spec.spec c.in_ok-spec.rest.tokens.now c.is_empty.result (ap (reads 0 Whole) (sym c.new.ensures) ∙ c.in_ok-spec.ensures) c.is_empty.ensures c.if-is_empty.true

pub returns : goal.returns
returns c =
    more_left c.args.tokens.now c.in_ok-spec.spec c.in_ok-spec.rest.tokens.now c.is_empty.result (ap (reads 0 Whole) (sym c.new.ensures) ∙ c.in_ok-spec.ensures) c.is_empty.ensures c.if-is_empty.false
