-- What the operations on sets promise under the derived order of elements, said under the order of the specification.
use Rattle.std.proofs.Common.{◌≡◌, Bool, true, List, sym, ap, ◌∙◌, subst, inl, inr}
use Rattle.std.specs.Prelude.{Contains, ◌↔◌}
use Rattle.std.specs.BTreeSet.{insert_key}
use Rattle.std.specs.List.Sorted.{IsStrictlySortedBy}
use Rattle.std.specs.Ordering.{eq_by_cmp}
use Rattle.std.proofs.lemmas.Bool.{or_cases, or_left, or_right}
use Rattle.flow_term.specs.declared.elem.Elem.{Elem}
use Rattle.flow_term.specs.contracts.elem.ElemOrd.TheImpl as order
use Rattle.flow_term.specs.Elements.{elem_cmp}
use Rattle.lattice_sets.specs.Sets.{IsDifference, IsInserted}
use Rattle.lattice_sets.specs.SetLaws.{same_items, same_test, same_tied, ties_itself, has_contained, contains_had, has_insert, rising_insert, difference_is_difference}
use Rattle.value_domains.specs.inner.Elements.{derived_order, elem_total, elem_exact}
use Rattle.value_domains.specs.Values.{has_elem}
use Rattle.expr_meaning.specs.Meaning.{difference_of}

pub difference_is : (xs ys zs : List Elem) → IsStrictlySortedBy elem_cmp xs → IsDifference order.ghosts.cmp xs ys zs → zs ≡ difference_of xs ys
difference_is xs ys zs h d =
    let u : IsDifference elem_cmp xs ys zs = subst (λ R. IsDifference R xs ys zs) derived_order d in
    let v = difference_is_difference elem_cmp elem_total elem_exact xs ys h in
    same_items elem_cmp elem_total elem_exact zs (difference_of xs ys) u.rising v.rising
    (λ q. same_test elem_cmp elem_total elem_exact (has_elem zs q) (has_elem (difference_of xs ys) q)
    (λ e. has_contained elem_cmp elem_total elem_exact (difference_of xs ys) q ((v.items q).1 ((u.items q).0 (contains_had elem_cmp elem_total elem_exact zs q e))))
    (λ e. has_contained elem_cmp elem_total elem_exact zs q ((u.items q).1 ((v.items q).0 (contains_had elem_cmp elem_total elem_exact (difference_of xs ys) q e)))))

inserted : (x : Elem) (old new : List Elem) → IsStrictlySortedBy elem_cmp old → IsInserted elem_cmp x old new → new ≡ insert_key elem_cmp old x
inserted x old new h u =
    same_items elem_cmp elem_total elem_exact new (insert_key elem_cmp old x) u.rising (rising_insert elem_cmp elem_total x old h)
    (λ q. same_test elem_cmp elem_total elem_exact (has_elem new q) (has_elem (insert_key elem_cmp old x) q)
    (λ e. has_insert elem_cmp elem_total elem_exact x old q ∙ elim ((u.items q).0 (contains_had elem_cmp elem_total elem_exact new q e)) [
      | inl a ↦ or_right (eq_by_cmp elem_cmp q x) (has_elem old q) (has_contained elem_cmp elem_total elem_exact old q a)
      | inr b ↦ or_left (eq_by_cmp elem_cmp q x) (has_elem old q) (ap (eq_by_cmp elem_cmp q) (sym b) ∙ ties_itself elem_cmp elem_total elem_exact q)
    ])
    (λ e. has_contained elem_cmp elem_total elem_exact new q ((u.items q).1 (elim (or_cases (eq_by_cmp elem_cmp q x) (has_elem old q) (sym (has_insert elem_cmp elem_total elem_exact x old q) ∙ e)) [
      | inl a ↦ inr (same_tied elem_cmp elem_total elem_exact q x a)
      | inr b ↦ inl (contains_had elem_cmp elem_total elem_exact old q b)
    ]))))

pub inserted_is : (x : Elem) (old new : List Elem) → IsStrictlySortedBy order.ghosts.cmp old → IsInserted order.ghosts.cmp x old new → new ≡ insert_key elem_cmp old x
inserted_is x old new h u = inserted x old new (subst (λ R. IsStrictlySortedBy R old) derived_order h) (subst (λ R. IsInserted R x old new) derived_order u)

pub has_is : (xs : List Elem) (x : Elem) (r : Bool) → (r ≡ true) ↔ Contains xs x → r ≡ has_elem xs x
has_is xs x r h =
    same_test elem_cmp elem_total elem_exact r (has_elem xs x) (λ e. has_contained elem_cmp elem_total elem_exact xs x (h.0 e)) (λ e. h.1 (contains_had elem_cmp elem_total elem_exact xs x e))
