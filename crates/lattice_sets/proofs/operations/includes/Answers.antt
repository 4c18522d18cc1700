use Rattle.std.proofs.Common.{sym, ◌∙◌}
use Rattle.lattice_sets.proofs.Merges.{rising_rest, includes_less, includes_equal, includes_greater, includes_none, includes_ended, includes_answer}
use Rattle.lattice_sets.specs.SetLaws.{flip_greater}
use Rattle.lattice_sets.proofs.operations.includes.Goals as goal

pub loop-y-preserved-in-Less : goal.loop-y-preserved-in-Less
loop-y-preserved-in-Less g c =
    let m = c.loop-y.invariant in
    let o = g.met.E.Ord.total in
    let a = c.in-Some-split_first.ensures.cases.0 in
    let b = c.in-Some.ensures.cases.0 in
    record {
      set = rising_rest _ o _ _ _ a m.set;
      items = m.items;
      answer = sym (includes_less _ o _ _ _ _ _ _ a b m.items (sym c.in-Less.ensures)) ∙ m.answer;
    }

pub loop-y-preserved : goal.loop-y-preserved
loop-y-preserved g c =
    let m = c.loop-y.invariant in
    let o = g.met.E.Ord.total in
    let a = c.in-Some-split_first.ensures.cases.0 in
    let b = c.in-Some.ensures.cases.0 in
    record {
      set = rising_rest _ o _ _ _ a m.set;
      items = rising_rest _ o _ _ _ b m.items;
      answer = sym (includes_equal _ o _ _ _ _ _ _ a b m.items (g.met.E.Element.exact _ _ (sym c.in-Equal.ensures))) ∙ m.answer;
    }

pub returns-in-Greater : goal.returns-in-Greater
returns-in-Greater g c =
    let m = c.loop-y.invariant in
    let o = g.met.E.Ord.total in
    let a = c.in-Some-split_first.ensures.cases.0 in
    let b = c.in-Some.ensures.cases.0 in
    includes_answer _ o g.met.E.Element.exact _ _ _ (sym (includes_greater _ o _ _ _ _ _ _ a b m.set (flip_greater _ o _ _ (sym c.in-Greater.ensures))) ∙ m.answer)

pub returns-in_default-split_first : goal.returns-in_default-split_first
returns-in_default-split_first g c =
    let m = c.loop-y.invariant in
    let o = g.met.E.Ord.total in
    includes_answer _ o g.met.E.Element.exact _ _ _ (sym (includes_none _ o _ _ _ _ c.in_default-split_first.ensures.cases c.in-Some.ensures.cases.0) ∙ m.answer)

pub returns : goal.returns
returns g c =
    let m = c.loop-y.invariant in
    let o = g.met.E.Ord.total in
    includes_answer _ o g.met.E.Element.exact _ _ _ (sym (includes_ended _ o _ _ c.in_default.ensures.cases) ∙ m.answer)
