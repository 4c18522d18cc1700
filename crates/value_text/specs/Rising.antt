-- How a rise of elements is tested.
use Rattle.std.specs.Prelude.{Bool, true, ◌&&◌, List, [], ◌∷◌}
use Rattle.std.specs.Ordering.{is_lt}
use Rattle.flow_term.specs.declared.elem.Elem.{Elem}
use Rattle.flow_term.specs.Elements.{elem_cmp}

-- x is below the first of the list, if there is one
abbrev pub is_below_first : Elem → List Elem → Bool
is_below_first x [] = true
is_below_first x (y ∷ ys) = is_lt (elem_cmp x y)

-- each is below the next
abbrev pub rises : List Elem → Bool
rises [] = true
rises (x ∷ xs) = is_below_first x xs && rises xs
