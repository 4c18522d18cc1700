use Rattle.std.proofs.Common.{◌≡◌, ◌++◌, sym, ap, ◌∙◌, subst}
use Rattle.lattice_sets.proofs.Merges.{union_less, union_equal, union_greater, union_left_ended, union_right_ended, rising_rest, moved, finished}
use Rattle.lattice_sets.specs.SetLaws.{flip_greater, union_is_union}
use Rattle.lattice_sets.specs.Sets.{IsUnion, union_of}
use Rattle.lattice_sets.proofs.operations.union.Goals as goal
use Rattle.lattice_sets.proofs.operations.union.Goals.{in_default, in_default-2}

pub loop-x-preserved-in_ok-push_copy-in-Less : goal.loop-x-preserved-in_ok-push_copy-in-Less
loop-x-preserved-in_ok-push_copy-in-Less g c =
    let m = c.loop-x.invariant in
    let s = c.in-Some-Some in
    let o = g.met.E.Ord.total in
    record {
      left = rising_rest _ o _ _ _ s.ensures.cases.0 m.left;
      right = m.right;
      whole = moved _ _ _ _ _ _ c.in_ok-push_copy-in-Less.ensures (union_less _ o _ _ _ _ _ _ s.ensures.cases.0 s.ensures'.cases.0 m.right (sym c.in-Less.ensures)) m.whole;
    }

pub loop-x-preserved-in_ok-push_copy-in-Equal : goal.loop-x-preserved-in_ok-push_copy-in-Equal
loop-x-preserved-in_ok-push_copy-in-Equal g c =
    let m = c.loop-x.invariant in
    let s = c.in-Some-Some in
    let o = g.met.E.Ord.total in
    record {
      left = rising_rest _ o _ _ _ s.ensures.cases.0 m.left;
      right = rising_rest _ o _ _ _ s.ensures'.cases.0 m.right;
      whole = moved _ _ _ _ _ _ c.in_ok-push_copy-in-Equal.ensures (union_equal _ o _ _ _ _ _ _ s.ensures.cases.0 s.ensures'.cases.0 m.right (g.met.E.Element.exact _ _ (sym c.in-Equal.ensures))) m.whole;
    }

pub loop-x-preserved : goal.loop-x-preserved
loop-x-preserved g c =
    let m = c.loop-x.invariant in
    let s = c.in-Some-Some in
    let o = g.met.E.Ord.total in
    record {
      left = m.left;
      right = rising_rest _ o _ _ _ s.ensures'.cases.0 m.right;
      whole = moved _ _ _ _ _ _ c.in_ok-push_copy-in-Greater.ensures (union_greater _ o _ _ _ _ _ _ s.ensures.cases.0 s.ensures'.cases.0 m.right (flip_greater _ o _ _ (sym c.in-Greater.ensures))) m.whole;
    }

pub returns : goal.returns
returns g c =
    let m = c.loop-x.invariant in
    let o = g.met.E.Ord.total in
    let all : c.push_copies-2.new.list ≡ (c.loop-x.list ++ c.loop-x.left.now) ++ c.loop-x.right.now = c.in_ok-push_copies-2.ensures ∙ ap (λ l. l ++ c.loop-x.right.now) c.in_ok-push_copies.ensures in
    let is : c.push_copies-2.new.list ≡ union_of g.E.Ord.cmp c.args.a.now c.args.b.now = elim c.match-split_first.branch [
      | in_default w ↦ finished _ _ _ _ _ _ (union_right_ended _ o _ _ w.in_default.ensures'.cases) m.whole all
      | in_default-2 w ↦ finished _ _ _ _ _ _ (union_left_ended _ o _ _ m.right w.in_default.ensures.cases) m.whole all
    ] in
    subst (IsUnion g.E.Ord.cmp c.args.a.now c.args.b.now) (sym is) (union_is_union _ o g.met.E.Element.exact _ _ c.requires.left)
