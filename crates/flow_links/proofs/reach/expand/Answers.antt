use Rattle.std.proofs.Common.{◌≡◌, ℕ, List, sym, subst, ◌∙◌, true≢false}
use Rattle.std.specs.Prelude.{Contains}
use Rattle.std.proofs.lemmas.Option.{same_Some}
use Rattle.flow_term.specs.declared.graph.Point.{Point}
use Rattle.flow_syntax.specs.Graph.{IsInner}
use Rattle.flow_links.proofs.SetLemmas.{Gains-none, Gains-same}
use Rattle.flow_links.proofs.reach.expand.Goals as goal

pub returns-in_ok-add_all-clause-gains : goal.returns-in_ok-add_all-clause-gains
returns-in_ok-add_all-clause-gains c = Gains-same c.in_ok-add_all.ensures.gains (λ k. (
  λ h. (record { p = c.point.result.now; at = c.point.ensures; inner = c.is_inner.ensures.0 c.if-is_inner.true }, subst (λ (xs : List ℕ). Contains xs k) c.successors_of.ensures h),
  λ h. subst (λ (xs : List ℕ). Contains xs k) (sym c.successors_of.ensures) h.1,
))

pub returns-else-is_inner-clause-gains : goal.returns-else-is_inner-clause-gains
returns-else-is_inner-clause-gains c = Gains-none c.args.found.now.keys (λ k h.
    let one : h.0.p ≡ c.point.result.now = same_Some h.0.p c.point.result.now (sym h.0.at ∙ c.point.ensures) in
    true≢false (sym (c.is_inner.ensures.1 (subst (λ (p : Point). IsInner p) one h.0.inner)) ∙ c.if-is_inner.false))
