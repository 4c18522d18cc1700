use Rattle.std.proofs.lemmas.Slice.Eq.{slice_eq-Decides}
use Rattle.flow_term.specs.contracts.elem.ElemOrd.TheImpl as order
use Rattle.flow_term.specs.contracts.elem.ElemOrd.TheImpl.Laws as laws
use Rattle.flow_term.specs.contracts.elem.ElemPartialEq.TheImpl as equality
use Rattle.flow_term.specs.ElementsLaws.{same_elements}
use Rattle.lattice_sets.specs.SetLaws.{equal_decides}
use Rattle.lattice_any.proofs.same.are_same_elems.Goals as goal

pub returns : goal.returns
returns c = slice_eq-Decides (equal_decides order.ghosts.cmp laws.total-law same_elements equality.ghosts.eq laws.matches_eq-law) _ _ _ c.eq.ensures
