use Rattle.std.proofs.Common.{arith}
use Rattle.value_text.specs.inner.Reading.{elem_below}
use Rattle.value_text.proofs.Tokens.{not_zero}
use Rattle.value_text.proofs.ValueTexts.{set_found, set_refused}
use Rattle.value_text.proofs.values.read_set.Goals as goal

pub returns-then-not-elems_rise-clause-read : goal.returns-then-not-elems_rise-clause-read
returns-then-not-elems_rise-clause-read c = set_refused c.args.nesting (elem_below c.args.nesting) _ _ _ _ _ (not_zero c.args.nesting (omega (arith, c.if-nesting-eq0.false))) c.in_ok-elems.ensures.read c.as_slice.ensures c.elems_rise.ensures c.if-not-elems_rise.true

pub returns-clause-read : goal.returns-clause-read
returns-clause-read c = set_found c.args.nesting (elem_below c.args.nesting) _ _ _ _ _ (not_zero c.args.nesting (omega (arith, c.if-nesting-eq0.false))) c.in_ok-elems.ensures.read c.as_slice.ensures c.elems_rise.ensures c.if-not-elems_rise.false
