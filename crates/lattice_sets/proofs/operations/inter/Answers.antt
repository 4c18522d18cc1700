use Rattle.std.proofs.Common.{sym, subst}
use Rattle.std.proofs.lemmas.Result.{IfOk-weaker}
use Rattle.lattice_sets.specs.SetLaws.{intersection_is_intersection}
use Rattle.lattice_sets.specs.Sets.{IsIntersection}
use Rattle.lattice_sets.proofs.operations.inter.Goals as goal

pub returns : goal.returns
returns g c = IfOk-weaker _ _ _ (λ list is. subst (IsIntersection g.E.Ord.cmp c.args.a.now c.args.b.now) (sym is) (intersection_is_intersection _ g.met.E.Ord.total g.met.E.Element.exact _ _ c.requires.left)) c.keep.ensures
