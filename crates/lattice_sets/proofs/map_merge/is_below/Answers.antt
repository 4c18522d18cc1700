use Rattle.std.proofs.Common.{sym}
use Rattle.std.proofs.lemmas.Bool.{both_ways}
use Rattle.lattice_sets.proofs.MapMerges.{first_kept, rest_map, not_below_less, not_below_equal, not_below_ended, below_equal, below_greater, below_ended, answer_no, answer_yes, iff_then}
use Rattle.lattice_sets.specs.SetLaws.{flip_greater}
use Rattle.lattice_sets.proofs.map_merge.is_below.Goals as goal

pub returns-in_default-split_first : goal.returns-in_default-split_first
returns-in_default-split_first g c = answer_no c.loop-x.invariant.answer (not_below_ended _ g.met.K.Ord.total g.met.K.Element.exact _ _ _ _ _ c.in-Some.ensures.cases.0 c.in_default-split_first.ensures.cases)

pub returns-in-Less : goal.returns-in-Less
returns-in-Less g c =
    let m = c.loop-x.invariant in
    answer_no m.answer (not_below_less _ g.met.K.Ord.total g.met.K.Element.exact _ _ _ _ _ _ _ c.in-Some.ensures.cases.0 c.in-Some-split_first.ensures.cases.0 m.right.rising (sym c.in-Less.ensures))

pub leq-requires-clause-left : goal.leq-requires-clause-left
leq-requires-clause-left g c = first_kept (g.L.Lattice.valid c.args.values.now) (g.L.Lattice.least c.args.values.now) _ _ _ c.in-Some.ensures.cases.0 c.loop-x.invariant.left.kept

pub leq-requires-clause-right : goal.leq-requires-clause-right
leq-requires-clause-right g c = first_kept (g.L.Lattice.valid c.args.values.now) (g.L.Lattice.least c.args.values.now) _ _ _ c.in-Some-split_first.ensures.cases.0 c.loop-x.invariant.right.kept

pub returns-then-not-leq : goal.returns-then-not-leq
returns-then-not-leq g c =
    let m = c.loop-x.invariant in
    answer_no m.answer (not_below_equal _ g.met.K.Ord.total g.met.K.Element.exact _ _ _ _ _ _ _ c.in-Some.ensures.cases.0 c.in-Some-split_first.ensures.cases.0 m.right.rising (g.met.K.Element.exact _ _ (sym c.in-Equal.ensures)) (λ j. both_ways _ c.if-not-leq.true (c.leq.ensures.1 j)))

pub loop-x-preserved-in-Equal : goal.loop-x-preserved-in-Equal
loop-x-preserved-in-Equal g c =
    let m = c.loop-x.invariant in
    let o = g.met.K.Ord.total in
    let a = c.in-Some.ensures.cases.0 in
    let b = c.in-Some-split_first.ensures.cases.0 in
    record {
      left = rest_map _ _ _ o _ _ _ a m.left;
      right = rest_map _ _ _ o _ _ _ b m.right;
      answer = iff_then (below_equal _ o g.met.K.Element.exact _ _ _ _ _ _ _ a b m.right.rising (g.met.K.Element.exact _ _ (sym c.in-Equal.ensures)) (c.leq.ensures.0 c.if-not-leq.false)) m.answer;
    }

pub loop-x-preserved : goal.loop-x-preserved
loop-x-preserved g c =
    let m = c.loop-x.invariant in
    let o = g.met.K.Ord.total in
    let a = c.in-Some.ensures.cases.0 in
    let b = c.in-Some-split_first.ensures.cases.0 in
    record {
      left = m.left;
      right = rest_map _ _ _ o _ _ _ b m.right;
      answer = iff_then (below_greater _ o g.met.K.Element.exact _ _ _ _ _ _ _ a b m.left.rising m.right.rising (flip_greater _ o _ _ (sym c.in-Greater.ensures))) m.answer;
    }

pub returns : goal.returns
returns g c =
    let m = c.loop-x.invariant in
    answer_yes m.answer (below_ended _ g.met.K.Ord.total g.met.K.Element.exact _ _ _ m.right.rising c.in_default.ensures.cases)
