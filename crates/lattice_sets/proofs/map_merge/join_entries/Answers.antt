use Rattle.std.proofs.Common.{◌≡◌, ◌++◌, sym, ap, ◌∙◌}
use Rattle.lattice_sets.proofs.MapMerges.{join_less, join_equal, join_greater, join_left_ended, join_right_ended, first_kept, rest_map}
use Rattle.lattice_sets.proofs.Merges.{moved, finished}
use Rattle.lattice_sets.specs.SetLaws.{flip_greater}
use Rattle.lattice_sets.proofs.map_merge.join_entries.Goals as goal
use Rattle.lattice_sets.proofs.map_merge.join_entries.Goals.{in_default, in_default-2}

pub push_entry-requires : goal.push_entry-requires
push_entry-requires g c = first_kept (g.L.Lattice.valid c.args.values.now) (g.L.Lattice.least c.args.values.now) _ _ _ c.in-Some-Some.ensures.cases.0 c.loop-x.invariant.left.kept

pub push_joined-requires-clause-left : goal.push_joined-requires-clause-left
push_joined-requires-clause-left g c = first_kept (g.L.Lattice.valid c.args.values.now) (g.L.Lattice.least c.args.values.now) _ _ _ c.in-Some-Some.ensures.cases.0 c.loop-x.invariant.left.kept

pub push_joined-requires-clause-right : goal.push_joined-requires-clause-right
push_joined-requires-clause-right g c = first_kept (g.L.Lattice.valid c.args.values.now) (g.L.Lattice.least c.args.values.now) _ _ _ c.in-Some-Some.ensures'.cases.0 c.loop-x.invariant.right.kept

pub push_entry-requires-in-Greater : goal.push_entry-requires-in-Greater
push_entry-requires-in-Greater g c = first_kept (g.L.Lattice.valid c.args.values.now) (g.L.Lattice.least c.args.values.now) _ _ _ c.in-Some-Some.ensures'.cases.0 c.loop-x.invariant.right.kept

pub loop-x-preserved-in_ok-push_entry-in-Less : goal.loop-x-preserved-in_ok-push_entry-in-Less
loop-x-preserved-in_ok-push_entry-in-Less g c =
    let m = c.loop-x.invariant in
    let s = c.in-Some-Some in
    let o = g.met.K.Ord.total in
    record {
      left = rest_map _ _ _ o _ _ _ s.ensures.cases.0 m.left;
      right = m.right;
      whole = moved _ _ _ _ _ _ c.in_ok-push_entry-in-Less.ensures (join_less _ o g.met.K.Element.exact _ _ _ _ _ _ _ s.ensures.cases.0 s.ensures'.cases.0 m.right.rising (sym c.in-Less.ensures)) m.whole;
    }

pub loop-x-preserved-in_ok-push_joined-in-Equal : goal.loop-x-preserved-in_ok-push_joined-in-Equal
loop-x-preserved-in_ok-push_joined-in-Equal g c =
    let m = c.loop-x.invariant in
    let s = c.in-Some-Some in
    let o = g.met.K.Ord.total in
    record {
      left = rest_map _ _ _ o _ _ _ s.ensures.cases.0 m.left;
      right = rest_map _ _ _ o _ _ _ s.ensures'.cases.0 m.right;
      whole = moved _ _ _ _ _ _ c.in_ok-push_joined-in-Equal.ensures (join_equal _ o g.met.K.Element.exact _ _ _ _ _ _ _ s.ensures.cases.0 s.ensures'.cases.0 m.right.rising (g.met.K.Element.exact _ _ (sym c.in-Equal.ensures))) m.whole;
    }

pub loop-x-preserved : goal.loop-x-preserved
loop-x-preserved g c =
    let m = c.loop-x.invariant in
    let s = c.in-Some-Some in
    let o = g.met.K.Ord.total in
    record {
      left = m.left;
      right = rest_map _ _ _ o _ _ _ s.ensures'.cases.0 m.right;
      whole = moved _ _ _ _ _ _ c.in_ok-push_entry-in-Greater.ensures (join_greater _ o g.met.K.Element.exact _ _ _ _ _ _ _ s.ensures.cases.0 s.ensures'.cases.0 m.left.rising m.right.rising (flip_greater _ o _ _ (sym c.in-Greater.ensures))) m.whole;
    }

pub returns : goal.returns
returns g c =
    let m = c.loop-x.invariant in
    let o = g.met.K.Ord.total in
    let all : c.push_entries-2.new.list ≡ (c.loop-x.list ++ c.loop-x.left.now) ++ c.loop-x.right.now = c.in_ok-push_entries-2.ensures ∙ ap (λ l. l ++ c.loop-x.right.now) c.in_ok-push_entries.ensures in
    elim c.match-split_first.branch [
      | in_default w ↦ finished _ _ _ _ _ _ (join_right_ended _ o g.met.K.Element.exact _ _ _ w.in_default.ensures'.cases) m.whole all
      | in_default-2 w ↦ finished _ _ _ _ _ _ (join_left_ended _ o g.met.K.Element.exact _ _ _ m.right.rising w.in_default.ensures.cases) m.whole all
    ]
