use Rattle.std.proofs.Common.{◌≡◌, ◌+◌, ◌++◌, ◌∷◌, [], List, length, take, sym, ap, ◌∙◌, subst}
use Rattle.std.proofs.lemmas.List.{take_more}
use Rattle.flow_syntax.specs.declared.rule.Chain.{Chain}
use Rattle.flow_syntax.specs.declared.rule.Item.{Item}
use Rattle.flow_links.specs.inner.Gains.{Gains}
use Rattle.flow_links.proofs.SetLemmas.{Gains-then, Gains-same}
use Rattle.graph_shape.specs.inner.Planned.{ChainSteps, PairSteps}
use Rattle.graph_shape.proofs.Planned.{chains_push}
use Rattle.graph_shape.proofs.planning.add_chains.Goals as goal

pub loop-chain-preserved : goal.loop-chain-preserved
loop-chain-preserved c =
    let longer : take (c.loop-chain.chain-index + 1) c.args.chains.now ≡ take c.loop-chain.chain-index c.args.chains.now ++ c.chain-item.result ∷ [] =
    take_more c.args.chains.now c.loop-chain.chain-index c.chain-item.result c.loop-chain-test.true
    ∙ ap (λ (y : Chain). take c.loop-chain.chain-index c.args.chains.now ++ y ∷ []) (sym c.chain-item.is) in
    subst (λ (cs : List Chain). Gains c.args.out.now c.add_chain.new.out (ChainSteps c.args.rule.now cs)) (sym longer)
    (Gains-same
    (Gains-then c.loop-chain.invariant
    (subst (λ (xs : List Item). Gains c.loop-chain.out c.add_chain.new.out (PairSteps c.args.rule.now xs (length xs))) c.as_slice.ensures c.in_ok-add_chain.ensures))
    (chains_push c.args.rule.now (take c.loop-chain.chain-index c.args.chains.now) c.chain-item.result))
