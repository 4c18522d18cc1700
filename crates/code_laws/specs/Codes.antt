-- When code is that of an expression.
use Rattle.std.specs.Prelude.{◌≡◌, ℕ, List, map, slice_get, Option, option_map}
use Rattle.flow_term.specs.declared.elem.Elem.{Elem}
use Rattle.flow_term.specs.declared.value.Bound.{Bound}
use Rattle.expr_meaning.specs.Meaning.{Meaning, a_value, an_element, a_truth, Sense, Situation, Usable}
use Rattle.expr_meaning.specs.Typing.{Suits, Variable}
use Rattle.eval_code.specs.declared.code.ElemCode.{ElemCode}
use Rattle.eval_code.specs.declared.code.TruthCode.{TruthCode}
use Rattle.eval_code.specs.declared.code.ValueCode.{ValueCode}
use Rattle.eval_code.specs.Needs.{Slots, IsMet}
use Rattle.eval_code.specs.Senses.{Given, given_one, given_value, given_elem, given_truth}

-- the element of the binding with this number, if there is one
abbrev pub bound_elem : List Bound → ℕ → Option Elem
bound_elem bindings n = option_map (λ b. b.value) (slice_get bindings n)

-- where code is run in a situation: each slot holds the element of the binding with its number
abbrev pub slots_at : Usable → Situation → Slots
slots_at usable at = record { elems = bound_elem at.bindings; has = usable.has; reads = at.reads }

-- the names that are bound, in their order
abbrev pub names_of : List Bound → List (List ℕ)
names_of bindings = map (λ b. b.name) bindings

-- What is given is what is meant, and what its run needs is there: in each situation in which the variables are bound and values can be read, where
-- these are the names that are bound, in this order.
pub record GivesMeant (usable : Usable) (variables : List Variable) (names : List (List ℕ)) (given : Given Meaning) (sense : Sense) : Type 0 where
  pub gives : (at : Situation) → Suits usable variables at → names_of at.bindings ≡ names → given.sense (slots_at usable at) ≡ sense at
  pub needs : (at : Situation) → Suits usable variables at → names_of at.bindings ≡ names → IsMet (given.demand (slots_at usable at))

-- what code gives, as a meaning
abbrev pub value_meant : ValueCode → Given Meaning
value_meant code = given_one a_value (given_value code)

abbrev pub elem_meant : ElemCode → Given Meaning
elem_meant code = given_one an_element (given_elem code)

abbrev pub truth_meant : TruthCode → Given Meaning
truth_meant code = given_one a_truth (given_truth code)
