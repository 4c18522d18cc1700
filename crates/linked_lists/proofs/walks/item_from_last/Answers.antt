use Rattle.std.proofs.Common.{◌≡◌, ◌∙◌, ◌+◌, ◌-◌, ap, arith, refl, length, slice_index, slice_index_or, Some}
use Rattle.linked_lists.specs.Chains.{listed, unlinked}
use Rattle.linked_lists.proofs.WalkLemmas.{before_there, last_there}
use Rattle.linked_lists.proofs.walks.item_from_last.Goals as goal

pub unwrap-item-requires : goal.unwrap-item-requires
unwrap-item-requires c =
    let there : c.any_link_of.result.back ≡ Some (slice_index (listed c.args.heads.now c.args.links.now c.args.list) (length (listed c.args.heads.now c.args.links.now c.args.list) - 1 - 0)) =
    ap (λ l. l.back) c.any_link_of.ensures ∙ last_there _ _ c.args.list _ c.requires.chains (omega (arith, c.requires.behind)) (omega arith) in
    rw there refl

pub loop-step-init : goal.loop-step-init
loop-step-init c =
    let there : c.any_link_of.result.back ≡ Some (slice_index (listed c.args.heads.now c.args.links.now c.args.list) (length (listed c.args.heads.now c.args.links.now c.args.list) - 1 - 0)) =
    ap (λ l. l.back) c.any_link_of.ensures ∙ last_there _ _ c.args.list _ c.requires.chains (omega (arith, c.requires.behind)) (omega arith) in
    cc (there, c.unwrap-item.ensures)

pub unwrap-item-requires-in-loop-step : goal.unwrap-item-requires-in-loop-step
unwrap-item-requires-in-loop-step c =
    let there : c.any_link_of-in-loop-step.result.back
    ≡ Some (slice_index (listed c.args.heads.now c.args.links.now c.args.list) (length (listed c.args.heads.now c.args.links.now c.args.list) - 1 - (c.loop-step._step + 1))) =
    ap (λ l. l.back) c.any_link_of-in-loop-step.ensures ∙ ap (λ x. (slice_index_or c.args.links.now x unlinked).back) c.loop-step.invariant
    ∙ before_there _ _ c.args.list (length (listed c.args.heads.now c.args.links.now c.args.list) - 1 - (c.loop-step._step + 1)) (length (listed c.args.heads.now c.args.links.now c.args.list) - 1 - c.loop-step._step)
    c.requires.chains (omega (arith, c.requires.behind, c.loop-step-test.true)) (omega (arith, c.requires.behind, c.loop-step-test.true)) in
    rw there refl

pub loop-step-preserved : goal.loop-step-preserved
loop-step-preserved c =
    let there : c.any_link_of-in-loop-step.result.back
    ≡ Some (slice_index (listed c.args.heads.now c.args.links.now c.args.list) (length (listed c.args.heads.now c.args.links.now c.args.list) - 1 - (c.loop-step._step + 1))) =
    ap (λ l. l.back) c.any_link_of-in-loop-step.ensures ∙ ap (λ x. (slice_index_or c.args.links.now x unlinked).back) c.loop-step.invariant
    ∙ before_there _ _ c.args.list (length (listed c.args.heads.now c.args.links.now c.args.list) - 1 - (c.loop-step._step + 1)) (length (listed c.args.heads.now c.args.links.now c.args.list) - 1 - c.loop-step._step)
    c.requires.chains (omega (arith, c.requires.behind, c.loop-step-test.true)) (omega (arith, c.requires.behind, c.loop-step-test.true)) in
    cc (there, c.unwrap-item-in-loop-step.ensures)
