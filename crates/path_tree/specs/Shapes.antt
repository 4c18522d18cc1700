-- Trees with a value at each position.
use Rattle.std.specs.Prelude.{ℕ, List, [], ◌∷◌, Option, Some, insert, length, remove, slice_get, slice_set, option_map, option_and_then, unwrap_or}
use Rattle.path_tree.specs.declared.tree.PathTree.{PathTree, out-PathTree, roll-PathTree}

module _ {T : Type 0} where
  -- the value at the root, and the children
  abbrev pub value_of : PathTree T → T
  value_of s = (out-PathTree T s).value

  abbrev pub children_of : PathTree T → List (PathTree T)
  children_of s = (out-PathTree T s).children

  -- the tree with another value at its root, or with other children
  abbrev pub with_value : PathTree T → T → PathTree T
  with_value s v = roll-PathTree T (record (out-PathTree T s) { value = v })

  abbrev pub with_children : PathTree T → List (PathTree T) → PathTree T
  with_children s new = roll-PathTree T (record (out-PathTree T s) { children = new })

  -- the part that the child numbers lead to, if there is one
  abbrev pub PartAt : PathTree T → List ℕ → Option (PathTree T)
  PartAt s [] = Some s
  PartAt s (n ∷ path) = option_and_then (λ child. PartAt child path) (slice_get (children_of s) n)

  -- the value at the path, the children there, and how many there are
  abbrev pub ValueAt : PathTree T → List ℕ → Option T
  ValueAt s path = option_map value_of (PartAt s path)

  abbrev pub ChildrenAt : PathTree T → List ℕ → Option (List (PathTree T))
  ChildrenAt s path = option_map children_of (PartAt s path)

  abbrev pub child_count_at : PathTree T → List ℕ → Option ℕ
  child_count_at s path = option_map (λ part. length (children_of part)) (PartAt s path)

  -- the child with this number of the part at the path
  abbrev pub ItemAt : PathTree T → List ℕ → ℕ → Option (PathTree T)
  ItemAt s path at = option_and_then (λ part. slice_get (children_of part) at) (PartAt s path)

  -- the tree in which the part at the path is changed, and all else is as before
  abbrev pub ChangePart : PathTree T → List ℕ → (PathTree T → PathTree T) → PathTree T
  ChangePart s [] change = change s
  ChangePart s (n ∷ path) change = unwrap_or (option_map (λ child. with_children s (slice_set (children_of s) n (ChangePart child path change))) (slice_get (children_of s) n)) s

  -- the tree in which the whole part at the path is the new one
  abbrev pub PutPart : PathTree T → List ℕ → PathTree T → PathTree T
  PutPart s path new = ChangePart s path (λ part. new)

  -- the tree in which the value at the path is the new one
  abbrev pub PutValue : PathTree T → List ℕ → T → PathTree T
  PutValue s path v = ChangePart s path (λ part. with_value part v)

  -- the tree in which the part at the path has other children
  abbrev pub PutChildren : PathTree T → List ℕ → List (PathTree T) → PathTree T
  PutChildren s path new = ChangePart s path (λ part. with_children part new)

  -- the tree in which the part at the path has a new child with this number, and the children from there on follow it
  abbrev pub InsertItem : PathTree T → List ℕ → ℕ → PathTree T → PathTree T
  InsertItem s path at new = ChangePart s path (λ part. with_children part (insert (children_of part) at new))

  -- the tree in which the part at the path lacks the child with this number
  abbrev pub RemoveItem : PathTree T → List ℕ → ℕ → PathTree T
  RemoveItem s path at = ChangePart s path (λ part. with_children part (remove (children_of part) at))
