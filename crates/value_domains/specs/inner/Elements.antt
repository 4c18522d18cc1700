-- The order of elements is total, and elements that tie are the same.
use Rattle.std.proofs.Common.{◌≡◌, ◌∙◌, subst}
use Rattle.std.specs.Cmp.{IsTotalOrder}
use Rattle.std.specs.declared.cmp.Ordering.TheVariants.{Equal}
use Rattle.flow_term.specs.contracts.elem.ElemOrd.TheImpl as order
use Rattle.flow_term.specs.contracts.elem.ElemOrd.TheImpl.Laws as laws
use Rattle.flow_term.specs.declared.elem.Elem.{Elem}
use Rattle.flow_term.specs.Elements.{elem_cmp}
use Rattle.flow_term.specs.ElementsLaws.{elements_ordered, same_elements}

-- the derived comparison of elements is that of the specification
pub derived_order : order.ghosts.cmp ≡ elem_cmp
derived_order = λ i x y. elements_ordered x y i

pub elem_total : IsTotalOrder elem_cmp
elem_total = subst IsTotalOrder derived_order laws.total-law

pub elem_exact : (x y : Elem) → elem_cmp x y ≡ Equal → x ≡ y
elem_exact x y e = same_elements x y (elements_ordered x y ∙ e)
