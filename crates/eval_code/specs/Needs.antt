-- Where code is run, and the facts that a run stands on.
use Rattle.std.specs.Prelude.{ℕ, ◌==◌, Bool, true, false, cond, IsTrue, ⊤, List, [], ◌∷◌, Option, Some, None, unwrap_or}
use Rattle.std.specs.List.Sorted.{IsStrictlySortedBy}
use Rattle.flow_term.specs.declared.elem.Elem.{Elem, Elem-F}
use Rattle.flow_term.specs.declared.elem.Elem.TheVariants as elem
use Rattle.flow_term.specs.declared.value.Value.{Value, Value-F, out-Value}
use Rattle.flow_term.specs.Elements.{elem_cmp}
use Rattle.flow_syntax.specs.declared.expr.Side.{Side}
use Rattle.value_domains.specs.Values.{ValueLayer, elems_in}
use Rattle.value_domains.specs.Domains.{Domain, IsValueOf}

-- what the slots hold, and which properties, by their numbers, can be read at which sides, with their values there
pub record Slots : Type 0 where
  pub elems : ℕ → Option Elem
  pub has : ℕ → Side → Bool
  pub reads : ℕ → Side → Value

-- the slots, where one holds this element
abbrev pub with_slot : Slots → ℕ → Elem → Slots
with_slot at n x = record at { elems = λ m. cond (m == n) (Some x) (at.elems m) }

-- what a slot holds
abbrev pub slot_of : Slots → ℕ → Elem
slot_of at n = unwrap_or (at.elems n) (elem.Name [])

-- facts that a run stands on
pub data Demand : Type 0 where
  nothing : Demand
  both : Demand → Demand → Demand
  holds : Bool → Demand
  rises : List Elem → Demand
  fits : Domain → Value → Demand

abbrev pub IsMet : Demand → Type 0
IsMet nothing = ⊤
IsMet (both a b) = IsMet a × IsMet b
IsMet (holds b) = IsTrue b
IsMet (rises xs) = IsStrictlySortedBy elem_cmp xs
IsMet (fits d v) = IsValueOf d v

-- all of these
abbrev pub all_of : List Demand → Demand
all_of [] = nothing
all_of (d ∷ ds) = both d (all_of ds)

abbrev pub is_there : {X : Type 0} → Option X → Bool
is_there (Some x) = true
is_there None = false

abbrev pub is_pair : ValueLayer → Bool
is_pair (Value-F.Pair a b) = true
is_pair _ = false

abbrev pub is_elem_pair : Elem-F Elem → Bool
is_elem_pair (Elem-F.Pair a b) = true
is_elem_pair _ = false

-- the elements of a set
abbrev pub elems_of : Value → List Elem
elems_of v = elems_in (out-Value v)
