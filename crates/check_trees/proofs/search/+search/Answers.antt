use Rattle.std.proofs.Common.{◌≡◌, ◌<◌, Some, IfOk, length, sum_by, refl, sym, ap, subst, ◌∙◌, arith}
use Rattle.std.specs.Prelude.{slice_get}
use Rattle.std.specs.Option.{option_copied}
use Rattle.std.proofs.lemmas.Option.{slice_get_read}
use Rattle.flow_term.specs.Trees.{term_size}
use Rattle.flow_term.proofs.Outcomes.{if_ok}
use Rattle.flow_syntax.specs.declared.signature.TreeSort.{TreeSort}
use Rattle.tree_fitting.specs.Fits.{MisfitsBelow}
use Rattle.tree_fitting.proofs.ChildLemmas.{none_more}
use Rattle.check_trees.specs.inner.Searching.{IsFound, list_sort, tuple_sort}
use Rattle.check_trees.proofs.FormLemmas.{apply_smaller, any_found, apply_found, as_many_sorts, integer_found, list_found, no_apply, no_list, no_tuple, other_constructor, other_length, string_found, tuple_found}
use Rattle.check_trees.proofs.CountLemmas.{count_le}
use Rattle.check_trees.proofs.SearchLemmas.{found_in_child, found_none}
use Rattle.check_trees.proofs.search.+search.Goals as goal

pub misfit-returns-in-Any : goal.misfit-returns-in-Any
misfit-returns-in-Any t c = any_found c.args.constructors.now c.args.term.now c.args.sort.now c.in-Any.is

pub misfit-returns-in-Str : goal.misfit-returns-in-Str
misfit-returns-in-Str t c = string_found c.args.constructors.now c.args.term.now c.args.sort.now c.is_string.result c.here_unless.result c.in-Str.is c.is_string.ensures c.here_unless.ensures

pub misfit-returns-in-Int : goal.misfit-returns-in-Int
misfit-returns-in-Int t c = integer_found c.args.constructors.now c.args.term.now c.args.sort.now c.is_integer.result c.here_unless-in-Int.result c.in-Int.is c.is_integer.ensures c.here_unless-in-Int.ensures

pub misfit-returns-in-Sort : goal.misfit-returns-in-Sort
misfit-returns-in-Sort t c = subst (λ (s : TreeSort). IfOk c.misfit_of_sort.result (IsFound (MisfitsBelow c.args.constructors.now s c.args.term.now))) (sym c.in-Sort.is) c.misfit_of_sort.ensures

pub misfit-returns-in-Items : goal.misfit-returns-in-Items
misfit-returns-in-Items t c =
    subst (λ (s : TreeSort). IfOk c.misfit_of_list.result (IsFound (MisfitsBelow c.args.constructors.now s c.args.term.now))) (ap list_sort c.get.ensures ∙ sym c.in-Items.is) c.misfit_of_list.ensures

pub misfit-returns-in-Tuple : goal.misfit-returns-in-Tuple
misfit-returns-in-Tuple t c =
    subst (λ (s : TreeSort). IfOk c.misfit_of_tuple.result (IsFound (MisfitsBelow c.args.constructors.now s c.args.term.now))) (ap tuple_sort c.as_slice.ensures ∙ sym c.in-Tuple.is) c.misfit_of_tuple.ensures

pub misfit_in_items-overflow_cast-n : goal.misfit_in_items-overflow_cast-n
misfit_in_items-overflow_cast-n t c = omega (arith, count_le c.args.items.now, c.requires.small)

pub misfit_in_items-returns-in-Some : goal.misfit_in_items-returns-in-Some
misfit_in_items-returns-in-Some t c =
    found_in_child c.args.constructors.now (λ n. Some c.args.sort.now) c.args.items.now c.loop-n.n c.index-items-n.result c.args.sort.now
    (slice_get_read c.args.items.now (length c.args.items.now) c.loop-n.n c.index-items-n.result refl c.loop-n-test.true c.index-items-n.is) refl
    c.in-Some.trail c.push.new.self c.in_ok-push.ensures.ok c.loop-n.invariant
    (subst (IsFound (MisfitsBelow c.args.constructors.now c.args.sort.now c.index-items-n.result)) c.in-Some.is c.in_ok-trail.ensures)

pub misfit_in_items-loop-n-preserved : goal.misfit_in_items-loop-n-preserved
misfit_in_items-loop-n-preserved t c =
    none_more c.args.constructors.now (λ n. Some c.args.sort.now) c.args.items.now c.loop-n.n c.index-items-n.result c.args.sort.now
    (slice_get_read c.args.items.now (length c.args.items.now) c.loop-n.n c.index-items-n.result refl c.loop-n-test.true c.index-items-n.is) refl c.loop-n.invariant
    (subst (IsFound (MisfitsBelow c.args.constructors.now c.args.sort.now c.index-items-n.result)) c.in_default.is c.in_ok-trail.ensures)

pub misfit_in_items-returns : goal.misfit_in_items-returns
misfit_in_items-returns t c = found_none c.args.constructors.now (λ n. Some c.args.sort.now) c.args.items.now c.loop-n.n c.loop-n-test.false c.loop-n.invariant

pub misfit_in_parts-overflow_cast-n : goal.misfit_in_parts-overflow_cast-n
misfit_in_parts-overflow_cast-n t c = omega (arith, count_le c.args.parts.now, c.requires.small)

pub misfit_in_parts-returns-in-Some : goal.misfit_in_parts-returns-in-Some
misfit_in_parts-returns-in-Some t c =
    found_in_child c.args.constructors.now (slice_get c.args.sorts.now) c.args.parts.now c.loop-n.n c.index-parts-n.result c.index-sorts-n.result
    (slice_get_read c.args.parts.now (length c.args.parts.now) c.loop-n.n c.index-parts-n.result refl c.loop-n-test.true c.index-parts-n.is)
    (slice_get_read c.args.sorts.now (length c.args.parts.now) c.loop-n.n c.index-sorts-n.result (sym c.requires.as_many) c.loop-n-test.true c.index-sorts-n.is)
    c.in-Some.trail c.push.new.self c.in_ok-push.ensures.ok c.loop-n.invariant
    (subst (IsFound (MisfitsBelow c.args.constructors.now c.index-sorts-n.result c.index-parts-n.result)) c.in-Some.is c.in_ok-trail.ensures)

pub misfit_in_parts-loop-n-preserved : goal.misfit_in_parts-loop-n-preserved
misfit_in_parts-loop-n-preserved t c =
    none_more c.args.constructors.now (slice_get c.args.sorts.now) c.args.parts.now c.loop-n.n c.index-parts-n.result c.index-sorts-n.result
    (slice_get_read c.args.parts.now (length c.args.parts.now) c.loop-n.n c.index-parts-n.result refl c.loop-n-test.true c.index-parts-n.is)
    (slice_get_read c.args.sorts.now (length c.args.parts.now) c.loop-n.n c.index-sorts-n.result (sym c.requires.as_many) c.loop-n-test.true c.index-sorts-n.is)
    c.loop-n.invariant
    (subst (IsFound (MisfitsBelow c.args.constructors.now c.index-sorts-n.result c.index-parts-n.result)) c.in_default.is c.in_ok-trail.ensures)

pub misfit_in_parts-returns : goal.misfit_in_parts-returns
misfit_in_parts-returns t c = found_none c.args.constructors.now (slice_get c.args.sorts.now) c.args.parts.now c.loop-n.n c.loop-n-test.false c.loop-n.invariant

pub misfit_of_list-returns-in-Items : goal.misfit_of_list-returns-in-Items
misfit_of_list-returns-in-Items t c = if_ok c.misfit_in_items.result c.misfit_in_items.ensures (list_found c.args.constructors.now c.args.term.now c.args.sort.now c.in-Items.items c.as_slice.result.now c.in-Items.is c.as_slice.ensures)

pub misfit_of_list-returns-in_default : goal.misfit_of_list-returns-in_default
misfit_of_list-returns-in_default t c = no_list c.args.constructors.now c.args.term.now c.args.sort.now c.in_default.not-Items c.new.result c.new.ensures

pub misfit_of_sort-returns-in_default : goal.misfit_of_sort-returns-in_default
misfit_of_sort-returns-in_default t c = no_apply c.args.constructors.now c.args.term.now c.args.sort.now c.in_default.not-Apply c.new.result c.new.ensures

pub misfit_of_sort-returns-in-None : goal.misfit_of_sort-returns-in-None
misfit_of_sort-returns-in-None t c =
    other_constructor c.args.constructors.now c.args.term.now c.args.sort.now c.in-Apply.name c.in-Apply.args c.len.result c.in-Apply.is c.len.ensures
    (sym c.argument_sorts.ensures ∙ ap option_copied c.in-None.is) c.new-in-None.result c.new-in-None.ensures

pub misfit_of_sort-misfit_in_parts-requires : goal.misfit_of_sort-misfit_in_parts-requires
misfit_of_sort-misfit_in_parts-requires t c =
    let less : sum_by term_size c.as_slice.result.now < term_size c.args.term.now = apply_smaller c.args.term.now c.in-Apply.name c.in-Apply.args c.as_slice.result.now c.in-Apply.is c.as_slice.ensures in
    let many : length c.in-Some.sorts.now ≡ length c.as_slice.result.now =
    as_many_sorts c.args.constructors.now c.args.sort.now.text c.in-Apply.name c.len.result c.in-Some.sorts.now (sym c.argument_sorts.ensures ∙ ap option_copied c.in-Some.is)
    ∙ c.len.ensures ∙ ap length (sym c.as_slice.ensures) in
    (omega arith, (c.requires.indexed, (many, omega arith)))

pub misfit_of_sort-returns-in-Some : goal.misfit_of_sort-returns-in-Some
misfit_of_sort-returns-in-Some t c = if_ok c.misfit_in_parts.result c.misfit_in_parts.ensures
    (apply_found c.args.constructors.now c.args.term.now c.args.sort.now c.in-Apply.name c.in-Apply.args c.as_slice.result.now c.len.result c.in-Some.sorts.now c.in-Apply.is c.as_slice.ensures c.len.ensures
    (sym c.argument_sorts.ensures ∙ ap option_copied c.in-Some.is))

pub misfit_of_tuple-returns-in_default : goal.misfit_of_tuple-returns-in_default
misfit_of_tuple-returns-in_default t c = no_tuple c.args.constructors.now c.args.term.now c.args.sorts.now c.in_default.not-Tuple c.new.result c.new.ensures

pub misfit_of_tuple-returns-then-sorts-len : goal.misfit_of_tuple-returns-then-sorts-len
misfit_of_tuple-returns-then-sorts-len t c = other_length c.args.constructors.now c.args.term.now c.args.sorts.now c.in-Tuple.parts c.in-Tuple.is (λ e. c.if-sorts-len.true (e ∙ sym c.len.ensures)) c.new-then-sorts-len.result c.new-then-sorts-len.ensures

pub misfit_of_tuple-returns : goal.misfit_of_tuple-returns
misfit_of_tuple-returns t c = if_ok c.misfit_in_parts.result c.misfit_in_parts.ensures
    (tuple_found c.args.constructors.now c.args.term.now c.args.sorts.now c.in-Tuple.parts c.as_slice.result.now c.in-Tuple.is c.as_slice.ensures (c.if-sorts-len.false ∙ c.len.ensures))
