use Rattle.std.proofs.Common.{◌≡◌, ◌∙◌, ◌+◌, ap, arith, refl, slice_index, slice_index_or, Some}
use Rattle.linked_lists.specs.Chains.{listed, unlinked}
use Rattle.linked_lists.proofs.WalkLemmas.{behind_there, first_there}
use Rattle.linked_lists.proofs.walks.item_from_first.Goals as goal

pub unwrap-item-requires : goal.unwrap-item-requires
unwrap-item-requires c =
    let there : c.any_link_of.result.forth ≡ Some (slice_index (listed c.args.heads.now c.args.links.now c.args.list) 0) = ap (λ l. l.forth) c.any_link_of.ensures ∙ first_there _ _ c.args.list c.requires.chains (omega (arith, c.requires.place)) in
    rw there refl

pub loop-step-init : goal.loop-step-init
loop-step-init c =
    let there : c.any_link_of.result.forth ≡ Some (slice_index (listed c.args.heads.now c.args.links.now c.args.list) 0) = ap (λ l. l.forth) c.any_link_of.ensures ∙ first_there _ _ c.args.list c.requires.chains (omega (arith, c.requires.place)) in
    cc (there, c.unwrap-item.ensures)

pub unwrap-item-requires-in-loop-step : goal.unwrap-item-requires-in-loop-step
unwrap-item-requires-in-loop-step c =
    let there : c.any_link_of-in-loop-step.result.forth ≡ Some (slice_index (listed c.args.heads.now c.args.links.now c.args.list) (c.loop-step._step + 1)) =
    ap (λ l. l.forth) c.any_link_of-in-loop-step.ensures ∙ ap (λ x. (slice_index_or c.args.links.now x unlinked).forth) c.loop-step.invariant
    ∙ behind_there _ _ c.args.list c.loop-step._step c.requires.chains (omega (arith, c.requires.place, c.loop-step-test.true)) in
    rw there refl

pub loop-step-preserved : goal.loop-step-preserved
loop-step-preserved c =
    let there : c.any_link_of-in-loop-step.result.forth ≡ Some (slice_index (listed c.args.heads.now c.args.links.now c.args.list) (c.loop-step._step + 1)) =
    ap (λ l. l.forth) c.any_link_of-in-loop-step.ensures ∙ ap (λ x. (slice_index_or c.args.links.now x unlinked).forth) c.loop-step.invariant
    ∙ behind_there _ _ c.args.list c.loop-step._step c.requires.chains (omega (arith, c.requires.place, c.loop-step-test.true)) in
    cc (there, c.unwrap-item-in-loop-step.ensures)
