use Rattle.std.proofs.Common.{arith, sym}
use Rattle.spec_grammar.specs.Symbols.{ATrigger}
use Rattle.spec_grammar.proofs.GivesLemmas.{deep_fails}
use Rattle.parse_rules.proofs.RuleLaws.{trigger_forward, trigger_other}
use Rattle.parse_rules.proofs.trigger.read_trigger.Goals as goal

pub returns-then-nesting-gt-LIMIT : goal.returns-then-nesting-gt-LIMIT
returns-then-nesting-gt-LIMIT c = deep_fails c.too_deep.result c.args.nesting ATrigger c.args.cursor.tokens.now c.if-nesting-gt-LIMIT.true c.too_deep.ensures

pub returns-then-begins : goal.returns-then-begins
returns-then-begins c = rw (trigger_forward c.args.nesting c.args.cursor.tokens.now (omega arith) (sym c.if-begins.ensures)) c.read_forward_trigger.ensures

pub returns : goal.returns
returns c = rw (trigger_other c.args.nesting c.args.cursor.tokens.now (omega arith) (sym c.if-begins.ensures)) c.read_other_trigger.ensures
