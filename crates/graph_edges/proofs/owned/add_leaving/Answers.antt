use Rattle.std.proofs.Common.{List, sym, subst, arith}
use Rattle.flow_term.proofs.Outcomes.{on_ok}
use Rattle.flow_links.specs.inner.Gains.{Gains}
use Rattle.flow_links.proofs.SetLemmas.{Gains-none, Gains-same}
use Rattle.path_tree.specs.Shapes.{children_of}
use Rattle.rule_plans.specs.declared.stop.Stop.{Stop}
use Rattle.rule_plans.specs.Hops.{AreReached}
use Rattle.graph_shape.specs.declared.outer.Side.TheVariants.{Last}
use Rattle.graph_shape.specs.Outer.{IsOpenedAt}
use Rattle.graph_edges.proofs.Listing.{all_in, leaving_pairs, no_leaving, none_in}
use Rattle.graph_edges.proofs.owned.add_leaving.Goals as goal

pub returns-then-len-eq0 : goal.returns-then-len-eq0
returns-then-len-eq0 c =
    Gains-none c.args.out.now (no_leaving c.args.plans.now c.args.steps.now c.args.bits.now (children_of c.args.shape.now) c.args.path.now c.args.from
    (none_in c.add_at.new.out c.new-sources.result (omega (arith, c.if-len-eq0.true, c.len.ensures)) c.new-sources.ensures
    (subst (λ (u : Stop). Gains c.new-sources.result c.add_at.new.out (IsOpenedAt c.args.plans.now.back Last (children_of c.args.shape.now) c.args.path.now u)) c.mirrored.ensures c.in_ok-add_at.ensures)))

pub returns : goal.returns
returns c = on_ok c.add_pairs.result c.add_pairs.ensures (λ g. Gains-same g
    (leaving_pairs c.args.plans.now c.args.steps.now c.args.bits.now (children_of c.args.shape.now) c.args.path.now c.args.from c.as_slice-2.result.now c.as_slice-3.result.now c.as_slice.result.now
    (all_in c.as_slice-2.result.now c.add_at.new.out c.new-sources.result c.as_slice-2.ensures c.new-sources.ensures
    (subst (λ (u : Stop). Gains c.new-sources.result c.add_at.new.out (IsOpenedAt c.args.plans.now.back Last (children_of c.args.shape.now) c.args.path.now u)) c.mirrored.ensures c.in_ok-add_at.ensures))
    (all_in c.as_slice-3.result.now c.add_opened.new.out c.new-targets.result c.as_slice-3.ensures c.new-targets.ensures c.in_ok-add_opened.ensures)
    (subst (λ (ks : List Stop). AreReached c.args.steps.now c.args.bits.now c.args.from ks) (sym c.as_slice.ensures.keys) c.in_ok-found.ensures)))
