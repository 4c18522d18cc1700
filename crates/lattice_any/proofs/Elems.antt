-- What the operations on sets promise under the derived order of elements, said under the order of the specification.
use Rattle.std.proofs.Common.{◌≡◌, List, sym, ap, subst, IfOk}
use Rattle.std.specs.Prelude.{Result, Ok, Err}
use Rattle.std.specs.Ordering.{is_eq, eq_by_cmp}
use Rattle.flow_term.specs.ElementsLaws.{elements_ordered}
use Rattle.std.specs.List.Sorted.{IsStrictlySortedBy}
use Rattle.flow_term.specs.declared.elem.Elem.{Elem}
use Rattle.flow_term.specs.contracts.elem.ElemOrd.TheImpl as order
use Rattle.flow_term.specs.Elements.{elem_cmp}
use Rattle.lattice_sets.specs.Sets.{IsUnion, IsIntersection}
use Rattle.lattice_sets.specs.SetLaws.{union_unique, intersection_unique}
use Rattle.value_domains.specs.inner.Elements.{derived_order, elem_total, elem_exact}
use Rattle.value_domains.specs.Values.{union_of, intersection_of}

pub derived_rising : (xs : List Elem) → IsStrictlySortedBy elem_cmp xs → IsStrictlySortedBy order.ghosts.cmp xs
derived_rising xs h = subst (λ R. IsStrictlySortedBy R xs) (sym derived_order) h

pub union_is : (xs ys zs : List Elem) → IsStrictlySortedBy elem_cmp xs → IsUnion order.ghosts.cmp xs ys zs → zs ≡ union_of xs ys
union_is xs ys zs h u = union_unique elem_cmp elem_total elem_exact xs ys zs h (subst (λ R. IsUnion R xs ys zs) derived_order u)

pub intersection_is : (xs ys zs : List Elem) → IsStrictlySortedBy elem_cmp xs → IsIntersection order.ghosts.cmp xs ys zs → zs ≡ intersection_of xs ys
intersection_is xs ys zs h u = intersection_unique elem_cmp elem_total elem_exact xs ys zs h (subst (λ R. IsIntersection R xs ys zs) derived_order u)

-- what holds of an answer's value, where it follows from what is known of it
pub ok_weaker : {A E : Type 0} (P Q : A → Type 0) (r : Result A E) → ((x : A) → P x → Q x) → IfOk r P → IfOk r Q
ok_weaker P Q (Ok x) f h = f x h
ok_weaker P Q (Err e) f h = tt

pub same_is : (x y : Elem) → is_eq (order.ghosts.cmp x y) ≡ eq_by_cmp elem_cmp x y
same_is x y = ap is_eq (elements_ordered x y)
