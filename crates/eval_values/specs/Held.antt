-- Values and elements that are lent or made.
use Rattle.flow_term.specs.declared.elem.Elem.{Elem}
use Rattle.flow_term.specs.declared.value.Value.{Value}
use Rattle.eval_values.specs.declared.held.Held.{Held}
use Rattle.eval_values.specs.declared.held.Held.TheVariants as held
use Rattle.eval_values.specs.declared.held.HeldElem.{HeldElem}
use Rattle.eval_values.specs.declared.held.HeldElem.TheVariants as held_elem

-- the value that is held
abbrev pub value_of : Held → Value
value_of (held.Lent v) = v.now
value_of (held.Made v) = v

-- the element that is held
abbrev pub elem_of : HeldElem → Elem
elem_of (held_elem.Lent e) = e.now
elem_of (held_elem.Made e) = e
