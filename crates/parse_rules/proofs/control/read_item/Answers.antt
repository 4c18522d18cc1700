use Rattle.std.proofs.Common.{arith, sym}
use Rattle.spec_grammar.specs.Symbols.{AnItem}
use Rattle.spec_grammar.proofs.GivesLemmas.{deep_fails}
use Rattle.parse_rules.proofs.RuleLaws.{item_plain, item_node}
use Rattle.parse_rules.proofs.control.read_item.Goals as goal

pub returns-then-nesting-gt-LIMIT : goal.returns-then-nesting-gt-LIMIT
returns-then-nesting-gt-LIMIT c = deep_fails c.too_deep.result c.args.nesting AnItem c.args.cursor.tokens.now c.if-nesting-gt-LIMIT.true c.too_deep.ensures

pub returns-then-begins_any : goal.returns-then-begins_any
returns-then-begins_any c = rw (item_plain c.args.nesting c.args.cursor.tokens.now (omega arith) (sym c.if-begins_any.ensures)) c.read_plain_item.ensures

pub returns : goal.returns
returns c = rw (item_node c.args.nesting c.args.cursor.tokens.now (omega arith) (sym c.if-begins_any.ensures)) c.read_node_item.ensures
