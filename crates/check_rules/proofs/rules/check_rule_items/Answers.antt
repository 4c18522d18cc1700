use Rattle.std.proofs.Common.{List, subst}
use Rattle.flow_term.proofs.Outcomes.{on_ok}
use Rattle.check_base.specs.Earliest.{Gathers, SomeHas}
use Rattle.check_base.proofs.GathersLaws.{Gathers-then}
use Rattle.flow_syntax.specs.declared.rule.Chain.{Chain}
use Rattle.check_rules.specs.Faults.{IsFaultyChain}
use Rattle.check_rules.proofs.rules.check_rule_items.Goals as goal

pub returns : goal.returns
returns c = on_ok c.check_mixed.result c.check_mixed.ensures (λ mixed.
    Gathers-then (subst (λ (chains : List Chain). Gathers c.args.earliest.now c.check_chains.new.earliest (SomeHas (λ k. IsFaultyChain c.args.rule.now) chains)) c.as_slice.ensures c.check_chains.ensures) mixed)
