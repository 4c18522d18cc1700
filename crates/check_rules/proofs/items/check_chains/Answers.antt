use Rattle.std.proofs.Common.{List, arith, length, subst}
use Rattle.check_base.specs.Earliest.{Gathers, SomeHas}
use Rattle.check_base.proofs.GathersLaws.{Gathers-all, Gathers-read, Gathers-start}
use Rattle.flow_syntax.specs.declared.rule.Item.{Item}
use Rattle.check_rules.specs.Faults.{IsFaultyItem}
use Rattle.check_rules.proofs.items.check_chains.Goals as goal

pub loop-chain-init : goal.loop-chain-init
loop-chain-init c = Gathers-start c.args.chains.now c.args.earliest.now

pub loop-chain-preserved : goal.loop-chain-preserved
loop-chain-preserved c = Gathers-read c.args.chains.now c.loop-chain.chain-index c.chain-item.result c.loop-chain-test.true c.chain-item.is c.loop-chain.invariant
    (subst (λ (its : List Item). Gathers c.loop-chain.earliest c.check_items.new.earliest (SomeHas (IsFaultyItem c.args.rule.now (length its)) its)) c.as_slice.ensures c.check_items.ensures)

pub returns : goal.returns
returns c = Gathers-all c.args.chains.now _ (omega arith) c.loop-chain.invariant
