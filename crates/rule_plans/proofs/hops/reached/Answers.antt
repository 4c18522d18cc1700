use Rattle.std.proofs.Common.{◌≤◌, ◌+◌, length, arith}
use Rattle.rule_plans.specs.Hops.{IsInnerStop, IsHop}
use Rattle.flow_links.proofs.Searches.{search_begins, search_ends, search_goes_on}
use Rattle.flow_links.proofs.SetLemmas.{Gains-all}
use Rattle.rule_plans.proofs.Hopping.{few_found}
use Rattle.rule_plans.proofs.hops.reached.Goals as goal

pub loop-next-init : goal.loop-next-init
loop-next-init c = search_begins IsInnerStop (IsHop c.args.steps.now c.args.passes.now) c.args.from c.new-found.result.keys c.add_next.new.found.keys c.new-found.ensures.empty c.in_ok-add_next.ensures.gains

pub loop-next-smaller : goal.loop-next-smaller
loop-next-smaller c =
    let few : length c.loop-next.found.keys ≤ length c.args.steps.now + length c.args.passes.now =
    few_found c.args.steps.now c.args.passes.now c.args.from c.loop-next.found.keys c.loop-next.next c.loop-next.invariant c.len.ensures.unique in
    omega (arith, few, c.len.ensures.len)

pub loop-next-preserved : goal.loop-next-preserved
loop-next-preserved c =
    search_goes_on IsInnerStop (IsHop c.args.steps.now c.args.passes.now) c.args.from c.loop-next.found.keys c.expand.new.found.keys c.loop-next.next c.stop_at-stop.result c.loop-next.invariant
    (omega (arith, c.len.ensures.len))
    c.stop_at-stop.ensures
    c.in_ok-expand.ensures.gains c.in_ok-expand.ensures.order

pub returns : goal.returns
returns c = Gains-all (search_ends IsInnerStop (IsHop c.args.steps.now c.args.passes.now) c.args.from c.loop-next.found.keys c.loop-next.next c.loop-next.invariant (omega (arith, c.len.ensures.len)))
