use Rattle.std.proofs.Common.{◌≡◌, ◌<◌, ◌≤◌, ℕ, List, Some, length, get_or, ap, subst, arith}
use Rattle.std.specs.Prelude.{Contains, slice_get}
use Rattle.std.proofs.lemmas.List.Elements.{Contains-get_or}
use Rattle.std.proofs.lemmas.Option.{slice_get-get_or}
use Rattle.flow_links.specs.inner.Gains.{Gains}
use Rattle.flow_links.specs.inner.Reach.{IsArrow, IsInnerAt}
use Rattle.flow_links.proofs.ReachLemmas.{few_found, found_within}
use Rattle.flow_links.proofs.Searches.{search_begins, search_ends, search_goes_on}
use Rattle.flow_links.proofs.reach.reached.Goals as goal

pub loop-next-init : goal.loop-next-init
loop-next-init c = search_begins (IsInnerAt c.args.graph.now.points.keys) (IsArrow c.args.graph.now.successors.items) c.args.from c.new-found.result.keys c.add_all.new.found.keys c.new-found.ensures.empty
    (subst (λ (xs : List ℕ). Gains c.new-found.result.keys c.add_all.new.found.keys (Contains xs)) c.successors_of.ensures c.in_ok-add_all.ensures.gains)

pub expand-requires-clause-within : goal.expand-requires-clause-within
expand-requires-clause-within c =
    let m : ℕ = get_or c.as_slice.result.now c.loop-next.next 0 in
    let there : c.loop-next.next < length c.as_slice.result.now = omega (arith, c.len.ensures.len, ap length c.as_slice.ensures.keys) in
    found_within c.args.graph.now.points.keys c.args.graph.now.successors.items c.args.from c.requires.within m
    (c.loop-next.invariant.sound m (subst (λ (ks : List ℕ). Contains ks m) c.as_slice.ensures.keys (Contains-get_or c.as_slice.result.now c.loop-next.next 0 there)))

pub loop-next-smaller : goal.loop-next-smaller
loop-next-smaller c =
    let few : length c.loop-next.found.keys ≤ length c.args.graph.now.points.keys =
    few_found c.args.graph.now.points.keys c.args.graph.now.successors.items c.args.from c.requires.within c.loop-next.found.keys c.loop-next.next c.loop-next.invariant c.len.ensures.unique in
    omega (arith, few, c.len.ensures.len)

pub loop-next-preserved : goal.loop-next-preserved
loop-next-preserved c =
    let m : ℕ = get_or c.as_slice.result.now c.loop-next.next 0 in
    let there : c.loop-next.next < length c.as_slice.result.now = omega (arith, c.len.ensures.len, ap length c.as_slice.ensures.keys) in
    search_goes_on (IsInnerAt c.args.graph.now.points.keys) (IsArrow c.args.graph.now.successors.items) c.args.from c.loop-next.found.keys c.expand.new.found.keys c.loop-next.next m c.loop-next.invariant
    (omega (arith, c.len.ensures.len))
    (subst (λ (ks : List ℕ). slice_get ks c.loop-next.next ≡ Some m) c.as_slice.ensures.keys (slice_get-get_or c.as_slice.result.now c.loop-next.next 0 there))
    c.in_ok-expand.ensures.gains c.in_ok-expand.ensures.order

pub returns : goal.returns
returns c = search_ends (IsInnerAt c.args.graph.now.points.keys) (IsArrow c.args.graph.now.successors.items) c.args.from c.loop-next.found.keys c.loop-next.next c.loop-next.invariant (omega (arith, c.len.ensures.len))
