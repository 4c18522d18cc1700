use Rattle.std.proofs.Common.{sym, subst}
use Rattle.std.proofs.lemmas.Result.{IfOk-weaker}
use Rattle.lattice_sets.specs.SetLaws.{difference_is_difference}
use Rattle.lattice_sets.specs.Sets.{IsDifference}
use Rattle.lattice_sets.proofs.operations.minus.Goals as goal

pub returns : goal.returns
returns g c = IfOk-weaker _ _ _ (λ list is. subst (IsDifference g.E.Ord.cmp c.args.a.now c.args.b.now) (sym is) (difference_is_difference _ g.met.E.Ord.total g.met.E.Element.exact _ _ c.requires.left)) c.keep.ensures
