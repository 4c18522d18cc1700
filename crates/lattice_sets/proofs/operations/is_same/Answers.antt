use Rattle.std.proofs.lemmas.Slice.Eq.{slice_eq-Decides}
use Rattle.lattice_sets.specs.SetLaws.{equal_decides}
use Rattle.lattice_sets.proofs.operations.is_same.Goals as goal

pub returns : goal.returns
returns g c = slice_eq-Decides (equal_decides g.E.Ord.cmp g.met.E.Ord.total g.met.E.Element.exact g.E.PartialEq.eq g.met.E.Ord.matches_eq) _ _ _ c.eq.ensures
