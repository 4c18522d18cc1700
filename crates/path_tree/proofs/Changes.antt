-- Parts that are changed more than once.
use Rattle.std.proofs.Common.{◌≡◌, ◌<◌, ℕ, zero, suc, List, [], ◌∷◌, length, Option, Some, None, refl, sym, ap, ◌∙◌, arith}
use Rattle.std.specs.Prelude.{option_and_then, option_map, slice_get, slice_set, unwrap_or}
use Rattle.std.proofs.lemmas.List.{set-set}
use Rattle.std.proofs.lemmas.Option.{same_Some}
use Rattle.path_tree.specs.declared.tree.PathTree.{PathTree, PathTree-F, out-PathTree, roll-PathTree, out-roll-PathTree}
use Rattle.path_tree.specs.Shapes.{ChangePart, ChildrenAt, ItemAt, PartAt, PutChildren, child_count_at, children_of, with_children}

module _ {T : Type 0} where
  get_set_same : (xs : List (PathTree T)) (n : ℕ) (x y : PathTree T) → slice_get xs n ≡ Some x → slice_get (slice_set xs n y) n ≡ Some y
  get_set_same [] n x y h = cc
  get_set_same (z ∷ xs) zero x y h = refl
  get_set_same (z ∷ xs) (suc n) x y h = get_set_same xs n x y h

  -- the tree with other children
  children_with : (s : PathTree T) (xs : List (PathTree T)) → children_of (with_children s xs) ≡ xs
  children_with s xs = ap (λ (r : PathTree-F T (PathTree T)). r.children) (out-roll-PathTree T (record (out-PathTree T s) { children = xs }))

  children_twice : (s : PathTree T) (xs ys : List (PathTree T)) → with_children (with_children s xs) ys ≡ with_children s ys
  children_twice s xs ys = ap (λ (r : PathTree-F T (PathTree T)). roll-PathTree T (record r { children = ys })) (out-roll-PathTree T (record (out-PathTree T s) { children = xs }))

  -- the children that were put are there
  put_there : (path : List ℕ) (s : PathTree T) (xs items : List (PathTree T)) → ChildrenAt s path ≡ Some items → ChildrenAt (PutChildren s path xs) path ≡ Some xs
  put_there [] s xs items h = ap Some (children_with s xs)
  put_there (n ∷ path) s xs items h = by_child (λ c. put_there path c xs items) (slice_get (children_of s) n) refl h
    where
      by_child : ((c : PathTree T) → ChildrenAt c path ≡ Some items → ChildrenAt (PutChildren c path xs) path ≡ Some xs) → (o : Option (PathTree T)) → slice_get (children_of s) n ≡ o
          → option_map children_of (option_and_then (λ c. PartAt c path) o) ≡ Some items
          → ChildrenAt (unwrap_or (option_map (λ c. with_children s (slice_set (children_of s) n (PutChildren c path xs))) (slice_get (children_of s) n)) s) (n ∷ path) ≡ Some xs
      by_child inner None is h = cc
      by_child inner (Some c) is h =
          ap (λ (o : Option (PathTree T)). ChildrenAt (unwrap_or (option_map (λ c. with_children s (slice_set (children_of s) n (PutChildren c path xs))) o) s) (n ∷ path)) is
          ∙ ap (λ ts. option_map children_of (option_and_then (λ c. PartAt c path) (slice_get ts n))) (children_with s (slice_set (children_of s) n (PutChildren c path xs)))
          ∙ ap (λ o. option_map children_of (option_and_then (λ c. PartAt c path) o)) (get_set_same (children_of s) n c (PutChildren c path xs) is)
          ∙ inner c h

  -- children that are put twice
  put_twice : (path : List ℕ) (s : PathTree T) (xs ys : List (PathTree T)) → PutChildren (PutChildren s path xs) path ys ≡ PutChildren s path ys
  put_twice [] s xs ys = children_twice s xs ys
  put_twice (n ∷ path) s xs ys = by_child (λ c. put_twice path c xs ys) (slice_get (children_of s) n) refl
    where
      at : (List (PathTree T)) → PathTree T → Option (PathTree T) → PathTree T
      at zs v o = unwrap_or (option_map (λ c. with_children v (slice_set (children_of v) n (PutChildren c path zs))) o) v

      by_child : ((c : PathTree T) → PutChildren (PutChildren c path xs) path ys ≡ PutChildren c path ys) → (o : Option (PathTree T)) → slice_get (children_of s) n ≡ o
          → PutChildren (PutChildren s (n ∷ path) xs) (n ∷ path) ys ≡ PutChildren s (n ∷ path) ys
      by_child inner None is = ap (λ (o : Option (PathTree T)). PutChildren (unwrap_or (option_map (λ c. with_children s (slice_set (children_of s) n (PutChildren c path xs))) o) s) (n ∷ path) ys) is
      by_child inner (Some c) is =
          let us : List (PathTree T) = slice_set (children_of s) n (PutChildren c path xs) in
          let v : PathTree T = with_children s us in
          let made : PutChildren s (n ∷ path) xs ≡ v = ap (λ (o : Option (PathTree T)). unwrap_or (option_map (λ c. with_children s (slice_set (children_of s) n (PutChildren c path xs))) o) s) is in
          let there : slice_get (children_of v) n ≡ Some (PutChildren c path xs) = ap (λ ts. slice_get ts n) (children_with s us) ∙ get_set_same (children_of s) n c (PutChildren c path xs) is in
          ap (λ (w : PathTree T). PutChildren w (n ∷ path) ys) made
          ∙ ap (λ (o : Option (PathTree T)). unwrap_or (option_map (λ c. with_children v (slice_set (children_of v) n (PutChildren c path ys))) o) v) there
          ∙ ap (λ (u : PathTree T). with_children v (slice_set (children_of v) n u)) (inner c)
          ∙ ap (λ ts. with_children v (slice_set ts n (PutChildren c path ys))) (children_with s us)
          ∙ ap (with_children v) (set-set (children_of s) n (PutChildren c path xs) (PutChildren c path ys))
          ∙ children_twice s us (slice_set (children_of s) n (PutChildren c path ys))
          ∙ sym (ap (λ (o : Option (PathTree T)). unwrap_or (option_map (λ c. with_children s (slice_set (children_of s) n (PutChildren c path ys))) o) s) is)

  -- what is put is a change of what is there
  put_change : (f : List (PathTree T) → List (PathTree T)) (path : List ℕ) (s : PathTree T) (items : List (PathTree T)) → ChildrenAt s path ≡ Some items
      → PutChildren s path (f items) ≡ ChangePart s path (λ part. with_children part (f (children_of part)))
  put_change f [] s items h = ap (λ xs. with_children s (f xs)) (sym (same_Some (children_of s) items h))
  put_change f (n ∷ path) s items h = by_child (λ c. put_change f path c items) (slice_get (children_of s) n) h
    where
      by_child : ((c : PathTree T) → ChildrenAt c path ≡ Some items → PutChildren c path (f items) ≡ ChangePart c path (λ part. with_children part (f (children_of part)))) → (o : Option (PathTree T))
          → option_map children_of (option_and_then (λ c. PartAt c path) o) ≡ Some items
          → unwrap_or (option_map (λ c. with_children s (slice_set (children_of s) n (PutChildren c path (f items)))) o) s ≡ unwrap_or (option_map (λ c. with_children s (slice_set (children_of s) n (ChangePart c path (λ part. with_children part (f (children_of part)))))) o) s
      by_child inner None h = refl
      by_child inner (Some c) h = ap (λ (u : PathTree T). with_children s (slice_set (children_of s) n u)) (inner c h)

  -- a position stays one
  pub stays_position : (path : List ℕ) (s s1 : PathTree T) (xs items : List (PathTree T)) → ChildrenAt s path ≡ Some items → s1 ≡ PutChildren s path xs → ChildrenAt s1 path ≡ None → ⊥
  stays_position path s s1 xs items there made gone = let e : Some xs ≡ None = sym (put_there path s xs items there) ∙ ap (λ v. ChildrenAt v path) (sym made) ∙ gone in cc

  -- children that are taken out, changed and put back
  pub taken_and_put : (f : List (PathTree T) → List (PathTree T)) (path : List ℕ) (s s1 s2 : PathTree T) (xs items ys : List (PathTree T)) → ChildrenAt s path ≡ Some items
      → s1 ≡ PutChildren s path xs → ys ≡ f items → s2 ≡ PutChildren s1 path ys → s2 ≡ ChangePart s path (λ part. with_children part (f (children_of part)))
  taken_and_put f path s s1 s2 xs items ys there made is put =
      put ∙ ap (λ v. PutChildren v path ys) made ∙ put_twice path s xs ys ∙ ap (PutChildren s path) is ∙ put_change f path s items there

  -- a child of the part at the path
  pub item_at : (path : List ℕ) (s : PathTree T) (items : List (PathTree T)) (at : ℕ) → ChildrenAt s path ≡ Some items → ItemAt s path at ≡ slice_get items at
  item_at path s items at h = by_part (PartAt s path) h
    where
      by_part : (o : Option (PathTree T)) → option_map children_of o ≡ Some items → option_and_then (λ part. slice_get (children_of part) at) o ≡ slice_get items at
      by_part None h = cc
      by_part (Some part) h = ap (λ xs. slice_get xs at) (same_Some (children_of part) items h)

  -- a number below the count is that of a child
  pub below_count : (path : List ℕ) (s : PathTree T) (items : List (PathTree T)) (count at : ℕ) → ChildrenAt s path ≡ Some items → child_count_at s path ≡ Some count → at < count → at < length items
  below_count path s items count at h n less = by_part (PartAt s path) h n
    where
      by_part : (o : Option (PathTree T)) → option_map children_of o ≡ Some items → option_map (λ part. length (children_of part)) o ≡ Some count → at < length items
      by_part None h n = cc
      by_part (Some part) h n = omega (arith, less, ap length (same_Some (children_of part) items h), same_Some (length (children_of part)) count n)
