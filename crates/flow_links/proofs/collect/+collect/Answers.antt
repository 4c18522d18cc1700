use Rattle.std.proofs.Common.{◌≡◌, ℕ, ◌<◌, length, List, Some, refl, sym, ap, ◌∙◌, subst, arith}
use Rattle.flow_term.specs.declared.term.Term.{Term}
use Rattle.std.specs.Prelude.{slice_get}
use Rattle.std.specs.Option.{option_copied}
use Rattle.std.proofs.lemmas.Option.{slice_get_read}
use Rattle.flow_term.specs.Trees.{term_size}
use Rattle.flow_syntax.specs.Graph.{LinksAt}
use Rattle.flow_links.specs.Below.{Adds}
use Rattle.flow_links.proofs.BelowLemmas.{Adds-then, Adds-same, below_next, children_next}
use Rattle.flow_links.proofs.SizeLemmas.{child_smaller, few_children, small_head}
use Rattle.flow_term.proofs.Outcomes.{on_ok}
use Rattle.flow_links.proofs.collect.+collect.Goals as goal

pub add_below-returns-clause-links : goal.add_below-returns-clause-links
add_below-returns-clause-links t c = on_ok c.add_children.result c.add_children.ensures.links (λ inside.
    Adds-same (Adds-then
    (subst (λ (p : List ℕ). Adds c.args.out.now c.add_here.new.out (LinksAt (option_copied c.matching_rule-matching.result) c.args.entered c.args.term.now p)) c.deref.ensures.value c.in_ok-add_here.ensures)
    inside)
    (below_next c.args.rules.now.spec.now.spec c.args.entered c.args.term.now c.args.path.now.items (option_copied c.matching_rule-matching.result) c.in_ok-marks.marks.items c.as_slice.result.now
    c.matching_rule-matching.ensures c.as_slice.ensures.value c.in_ok-marks.ensures))

pub add_below-add_here-requires-clause-head : goal.add_below-add_here-requires-clause-head
add_below-add_here-requires-clause-head t c = λ rule is. small_head c.args.rules.now.spec.now.spec c.args.term.now c.requires rule (sym c.matching_rule-matching.ensures ∙ is)

pub add_children-add_child-requires : goal.add_children-add_child-requires
add_children-add_child-requires t c =
    let smaller : term_size c.child-item.result < term_size c.args.term.now =
    child_smaller c.args.term.now c.children-child-items.result.now c.loop-child.child-index c.child-item.result c.children-child-items.ensures c.loop-child-test.true c.child-item.is in
    omega arith

pub add_children-overflow_add-n : goal.add_children-overflow_add-n
add_children-overflow_add-n t c = omega (arith, few_children c.args.term.now, ap length c.children-child-items.ensures)

pub add_children-loop-child-preserved : goal.add_children-loop-child-preserved
add_children-loop-child-preserved t c = record {
  counted = omega arith;
  same = c.in_ok-add_child.ensures.path ∙ c.loop-child.invariant.same;
  added = Adds-same (Adds-then c.loop-child.invariant.added c.in_ok-add_child.ensures.links)
      (children_next c.args.rules.now.spec.now.spec c.args.marks.now c.args.term.now c.args.path.now.items c.loop-child.path.items c.loop-child.child-index c.loop-child.n c.is_marked.result c.child-item.result
      c.loop-child.invariant.counted c.is_marked.ensures c.loop-child.invariant.same
      (subst (λ (xs : List Term). slice_get xs c.loop-child.child-index ≡ Some c.child-item.result) c.children-child-items.ensures
      (slice_get_read c.children-child-items.result.now (length c.children-child-items.result.now) c.loop-child.child-index c.child-item.result refl c.loop-child-test.true c.child-item.is)));
}

pub add_children-is_marked-requires : goal.add_children-is_marked-requires
add_children-is_marked-requires t c = omega (arith, ap length c.children-child-items.ensures, c.requires.marks)
