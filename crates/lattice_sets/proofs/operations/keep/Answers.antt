use Rattle.std.proofs.Common.{◌≡◌, [], sym, ◌∙◌}
use Rattle.std.specs.Prelude.{if◌then◌else◌}
use Rattle.lattice_sets.proofs.Merges.{kept_of, kept_is, kept_less, kept_equal, kept_greater, kept_left_ended, kept_right_ended, kept_held, kept_lacking, rising_rest, taken_if, passed}
use Rattle.lattice_sets.specs.SetLaws.{flip_greater}
use Rattle.lattice_sets.proofs.operations.keep.Goals as goal
use Rattle.lattice_sets.proofs.operations.keep.Goals.{in_default, in_default-2}

pub loop-x-preserved-in_ok-push_if-in-Less : goal.loop-x-preserved-in_ok-push_if-in-Less
loop-x-preserved-in_ok-push_if-in-Less g c =
    let m = c.loop-x.invariant in
    let s = c.in-Some-Some in
    let o = g.met.E.Ord.total in
    record {
      left = rising_rest _ o _ _ _ s.ensures.cases.0 m.left;
      right = m.right;
      whole = taken_if _ _ _ _ _ _ _ c.in_ok-push_if-in-Less.ensures (kept_less _ o _ _ _ _ _ _ _ s.ensures.cases.0 s.ensures'.cases.0 m.right (sym c.in-Less.ensures)) m.whole;
    }

pub loop-x-preserved-in_ok-push_if-in-Equal : goal.loop-x-preserved-in_ok-push_if-in-Equal
loop-x-preserved-in_ok-push_if-in-Equal g c =
    let m = c.loop-x.invariant in
    let s = c.in-Some-Some in
    let o = g.met.E.Ord.total in
    record {
      left = rising_rest _ o _ _ _ s.ensures.cases.0 m.left;
      right = rising_rest _ o _ _ _ s.ensures'.cases.0 m.right;
      whole = taken_if _ _ _ _ _ _ _ c.in_ok-push_if-in-Equal.ensures (kept_equal _ o _ _ _ _ _ _ _ s.ensures.cases.0 s.ensures'.cases.0 m.left (g.met.E.Element.exact _ _ (sym c.in-Equal.ensures))) m.whole;
    }

pub loop-x-preserved : goal.loop-x-preserved
loop-x-preserved g c =
    let m = c.loop-x.invariant in
    let s = c.in-Some-Some in
    let o = g.met.E.Ord.total in
    record {
      left = m.left;
      right = rising_rest _ o _ _ _ s.ensures'.cases.0 m.right;
      whole = passed _ _ _ _ (kept_greater _ o _ _ _ _ _ _ _ s.ensures.cases.0 s.ensures'.cases.0 m.left (flip_greater _ o _ _ (sym c.in-Greater.ensures))) m.whole;
    }

pub returns-then-held : goal.returns-then-held
returns-then-held g c =
    let o = g.met.E.Ord.total in
    let ended : kept_of g.E.Ord.cmp c.args.held c.loop-x.left.now c.loop-x.right.now ≡ (if c.args.held then [] else c.loop-x.left.now) = elim c.match-split_first.branch [
      | in_default w ↦ kept_right_ended _ o _ _ _ w.in_default.ensures'.cases
      | in_default-2 w ↦ kept_left_ended _ o _ _ _ w.in_default.ensures.cases
    ] in
    kept_held _ o _ _ _ _ _ c.if-held.true ended c.loop-x.invariant.whole ∙ kept_is g.E.Ord.cmp c.args.held c.args.a.now c.args.b.now

pub returns : goal.returns
returns g c =
    let o = g.met.E.Ord.total in
    let ended : kept_of g.E.Ord.cmp c.args.held c.loop-x.left.now c.loop-x.right.now ≡ (if c.args.held then [] else c.loop-x.left.now) = elim c.match-split_first.branch [
      | in_default w ↦ kept_right_ended _ o _ _ _ w.in_default.ensures'.cases
      | in_default-2 w ↦ kept_left_ended _ o _ _ _ w.in_default.ensures.cases
    ] in
    kept_lacking _ o _ _ _ _ _ _ c.if-held.false ended c.loop-x.invariant.whole c.in_ok-push_copies.ensures ∙ kept_is g.E.Ord.cmp c.args.held c.args.a.now c.args.b.now
