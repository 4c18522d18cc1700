-- What code gives, and what a run of it needs.
use Rattle.std.specs.Prelude.{ℕ, ◌+◌, ◌*◌, Bool, not, ◌&&◌, ◌||◌, cond, List, [], ◌∷◌, length, map, get_or}
use Rattle.std.specs.Int.{int_wrapping_neg}
use mir.Syntax.{w64}
use Rattle.flow_term.specs.declared.elem.Elem.{Elem, out-Elem}
use Rattle.flow_term.specs.declared.elem.Elem.TheVariants as elem
use Rattle.flow_term.specs.declared.value.Value.{Value, Value-F, out-Value}
use Rattle.flow_term.specs.declared.value.Value.TheVariants as value
use Rattle.value_domains.specs.Values.{ValueLayer, union_of, intersection_of, map_in, left_in, right_in, entries_of, value_or}
use Rattle.value_domains.specs.Domains.{Domain, joined_of, place_in, item_in}
use Rattle.lattice_any.specs.Types.{domain_of_any}
use Rattle.expr_meaning.specs.Meaning.{set_of, difference_of, on_set, on_sets, is_member, chosen, updated, map_of, first_part, second_part, bind_value, int_in, arith_value, compared}
use Rattle.eval_code.specs.declared.code.Half.{Half}
use Rattle.eval_code.specs.declared.code.Half.TheVariants as half
use Rattle.eval_code.specs.declared.code.Combination.{Combination}
use Rattle.eval_code.specs.declared.code.Combination.TheVariants as combination
use Rattle.eval_code.specs.declared.code.CallTable.{CallTable}
use Rattle.eval_code.specs.declared.code.Choice.{Choice, Choice-F, fold-Choice}
use Rattle.eval_code.specs.declared.code.ElemCode.{ElemCode, ElemCode-F, fold-ElemCode}
use Rattle.eval_code.specs.declared.code.EntryCode.{EntryCode, EntryCode-F, fold-EntryCode}
use Rattle.eval_code.specs.declared.code.TruthCode.{TruthCode, TruthCode-F, fold-TruthCode}
use Rattle.eval_code.specs.declared.code.ValueCode.{ValueCode, ValueCode-F, fold-ValueCode}
use Rattle.eval_code.specs.Needs.{Slots, with_slot, slot_of, Demand, nothing, both, holds, rises, fits, all_of, is_there, is_pair, is_elem_pair, elems_of}

-- what code gives, and what its run needs
pub record Given (X : Type 0) : Type 0 where
  pub sense : Slots → X
  pub demand : Slots → Demand

-- what is made of what two codes give, each of which is run
abbrev pub given_two : {X Y Z : Type 0} → (X → Y → Z) → Given X → Given Y → Given Z
given_two f a b = record { sense = λ at. f (a.sense at) (b.sense at); demand = λ at. both (a.demand at) (b.demand at) }

-- what is made of what one code gives
abbrev pub given_one : {X Y : Type 0} → (X → Y) → Given X → Given Y
given_one f a = record { sense = λ at. f (a.sense at); demand = a.demand }

-- what the run of a code needs, and what is needed of what it gives
abbrev pub asking : {X : Type 0} → (X → Demand) → Given X → Given X
asking ask a = record { sense = a.sense; demand = λ at. both (a.demand at) (ask (a.sense at)) }

-- what is given, where nothing is needed
abbrev pub given_here : {X : Type 0} → X → Given X
given_here x = record { sense = λ at. x; demand = λ at. nothing }

-- one of two, as a condition holds
abbrev pub given_if : {X : Type 0} → Given Bool → Given X → Given X → Given X
given_if c a b = record { sense = λ at. cond (c.sense at) (a.sense at) (b.sense at); demand = λ at. both (c.demand at) (both (a.demand at) (b.demand at)) }

-- what codes give in turn
abbrev pub given_all : {X : Type 0} → List (Given X) → Given (List X)
given_all cs = record { sense = λ at. map (λ c. c.sense at) cs; demand = λ at. all_of (map (λ c. c.demand at) cs) }

-- PARTS, SETS AND MAPS

abbrev pub half_of : Half → Value → Value
half_of half.First v = left_in (out-Value v)
half_of half.Second v = right_in (out-Value v)

abbrev pub elem_half : Half → Elem → Elem
elem_half half.First e = first_part (out-Elem e)
elem_half half.Second e = second_part (out-Elem e)

abbrev pub elems_combined : Combination → List Elem → List Elem → List Elem
elems_combined combination.Union a b = union_of a b
elems_combined combination.Inter a b = intersection_of a b
elems_combined combination.Minus a b = difference_of a b

abbrev pub combined : Combination → Value → Value → Value
combined o a b = on_sets (elems_combined o) (out-Value a) (out-Value b)

abbrev pub without : Value → Elem → Value
without s e = on_set (λ xs. difference_of xs (e ∷ [])) (out-Value s)

abbrev pub looked_up : Value → Value → Elem → Value
looked_up least m k = value_or least (map_in (out-Value m)) k

abbrev pub updated_map : Domain → Value → Elem × Value → Value
updated_map d m e = value.Map (entries_of (updated d (map_in (out-Value m)) e.0 e.1))

abbrev pub made_map : Domain → List (Elem × Value) → Value
made_map d es = value.Map (entries_of (map_of d [] es))

-- a value at a key fits
abbrev pub fits_at : Domain → Elem × Value → Demand
fits_at d e = fits d e.1

abbrev pub all_fit : Domain → List (Elem × Value) → Demand
all_fit d es = all_of (map (fits_at d) es)

-- FUNCTIONS OF LISTED ELEMENTS

-- the number of a tuple of elements of these lattices, where the last one changes fastest
abbrev pub row_number : ℕ → List (List (List ℕ)) → List Value → ℕ
row_number n (names ∷ lattices) (v ∷ vs) = row_number (n * length names + place_in names (item_in (out-Value v))) lattices vs
row_number n _ _ = n

abbrev pub called : CallTable → List Value → Value
called t vs = value.Item (get_or t.results (row_number 0 t.lattices vs) [])

-- COMPREHENSIONS AND BINDINGS

-- what is made of an element that the slot holds, and whether it is taken
abbrev pub elem_at : ℕ → Given Elem → Slots → Elem → Elem
elem_at n e at x = e.sense (with_slot at n x)

abbrev pub holds_at : ℕ → Given Bool → Slots → Elem → Bool
holds_at n c at x = c.sense (with_slot at n x)

abbrev pub taking_demand : ℕ → Given Bool → Given Elem → Slots → Elem → Demand
taking_demand n c e at x = both (c.demand (with_slot at n x)) (e.demand (with_slot at n x))

abbrev pub given_choice : Given Value → ℕ → Given Bool → Given Elem → Given Value
given_choice from n c e = record {
  sense = λ at. on_set (chosen (elem_at n e at) (holds_at n c at)) (out-Value (from.sense at));
  demand = λ at. both (from.demand at) (all_of (map (taking_demand n c e at) (elems_of (from.sense at))));
}

-- the demand of a part for the element of a flat value
abbrev pub bind_demand : (Elem → Demand) → ValueLayer → Demand
bind_demand f (Value-F.Flat e) = f e
bind_demand f layer = nothing

abbrev pub given_bind : Given Value → ℕ → Given Value → Given Value
given_bind a n b = record {
  sense = λ at. bind_value (λ x. b.sense (with_slot at n x)) (out-Value (a.sense at));
  demand = λ at. both (a.demand at) (bind_demand (λ x. b.demand (with_slot at n x)) (out-Value (a.sense at)));
}

-- THE SENSE, by recursion over the code

abbrev pub value_layer : ValueCode-F (Given Elem) (Given Bool) (Given Value) (Given Value) (Given (Elem × Value)) → Given Value
value_layer (ValueCode-F.«ValueCode::Constant» v) = given_here v
value_layer (ValueCode-F.Read p side) = record { sense = λ at. at.reads p side; demand = λ at. holds (at.has p side) }
value_layer (ValueCode-F.Flat e) = given_one value.Flat e
value_layer (ValueCode-F.«ValueCode::Pair» a b) = given_two value.Pair a b
value_layer (ValueCode-F.«ValueCode::Part» h a) = given_one (half_of h) (asking (λ v. holds (is_pair (out-Value v))) a)
value_layer (ValueCode-F.Set es) = given_one (λ xs. value.Set (set_of xs)) (given_all es)
value_layer (ValueCode-F.Combine o a b) = given_two (combined o) (asking (λ v. rises (elems_of v)) a) (asking (λ v. rises (elems_of v)) b)
value_layer (ValueCode-F.Without a e) = given_two without a e
value_layer (ValueCode-F.Join l a b) = given_two (joined_of (domain_of_any l)) (asking (fits (domain_of_any l)) a) (asking (fits (domain_of_any l)) b)
value_layer (ValueCode-F.«ValueCode::If» c a b) = given_if c a b
value_layer (ValueCode-F.Choose c) = c
value_layer (ValueCode-F.Bind a n b) = given_bind a n b
value_layer (ValueCode-F.Look least m k) = given_two (looked_up least) m k
value_layer (ValueCode-F.Update l m k v) = given_two (updated_map (domain_of_any l)) m (given_two (λ k v. (k, v)) k (asking (fits (domain_of_any l)) v))
value_layer (ValueCode-F.Map l es) = given_one (made_map (domain_of_any l)) (asking (all_fit (domain_of_any l)) (given_all es))
value_layer (ValueCode-F.Call t vs) = given_one (called t) (given_all vs)

abbrev pub elem_layer : ElemCode-F (Given Elem) (Given Bool) (Given Value) (Given Value) (Given (Elem × Value)) → Given Elem
elem_layer (ElemCode-F.«ElemCode::Constant» e) = given_here e
elem_layer (ElemCode-F.Slot n) = record { sense = λ at. slot_of at n; demand = λ at. holds (is_there (at.elems n)) }
elem_layer (ElemCode-F.«ElemCode::Pair» a b) = given_two elem.Pair a b
elem_layer (ElemCode-F.«ElemCode::Part» h a) = given_one (elem_half h) (asking (λ e. holds (is_elem_pair (out-Elem e))) a)
elem_layer (ElemCode-F.Arith o a b) = given_two (λ x y. elem.Int (arith_value o (int_in (out-Elem x)) (int_in (out-Elem y)))) a b
elem_layer (ElemCode-F.Negated a) = given_one (λ x. elem.Int (int_wrapping_neg w64 (int_in (out-Elem x)))) a
elem_layer (ElemCode-F.«ElemCode::If» c a b) = given_if c a b

abbrev pub truth_layer : TruthCode-F (Given Elem) (Given Bool) (Given Value) (Given Value) (Given (Elem × Value)) → Given Bool
truth_layer (TruthCode-F.«TruthCode::Constant» b) = given_here b
truth_layer (TruthCode-F.Compare o a b) = given_two (compared o) a b
truth_layer (TruthCode-F.Member e s) = given_two (λ x v. is_member x (out-Value v)) e (asking (λ v. rises (elems_of v)) s)
truth_layer (TruthCode-F.And a b) = given_two (λ x y. x && y) a b
truth_layer (TruthCode-F.Or a b) = given_two (λ x y. x || y) a b
truth_layer (TruthCode-F.Not a) = given_one not a
truth_layer (TruthCode-F.«TruthCode::If» c a b) = given_if c a b

abbrev pub choice_layer : Choice-F (Given Elem) (Given Bool) (Given Value) (Given Value) (Given (Elem × Value)) → Given Value
choice_layer c = given_choice c.from c.slot c.condition c.elem

abbrev pub entry_layer : EntryCode-F (Given Elem) (Given Bool) (Given Value) (Given Value) (Given (Elem × Value)) → Given (Elem × Value)
entry_layer e = given_two (λ k v. (k, v)) e.key e.value

abbrev pub given_value : ValueCode → Given Value
given_value = fold-ValueCode (Given Elem) (Given Bool) (Given Value) (Given Value) (Given (Elem × Value)) elem_layer truth_layer value_layer choice_layer entry_layer

abbrev pub given_elem : ElemCode → Given Elem
given_elem = fold-ElemCode (Given Elem) (Given Bool) (Given Value) (Given Value) (Given (Elem × Value)) elem_layer truth_layer value_layer choice_layer entry_layer

abbrev pub given_truth : TruthCode → Given Bool
given_truth = fold-TruthCode (Given Elem) (Given Bool) (Given Value) (Given Value) (Given (Elem × Value)) elem_layer truth_layer value_layer choice_layer entry_layer

abbrev pub given_chosen : Choice → Given Value
given_chosen = fold-Choice (Given Elem) (Given Bool) (Given Value) (Given Value) (Given (Elem × Value)) elem_layer truth_layer value_layer choice_layer entry_layer

abbrev pub given_entry : EntryCode → Given (Elem × Value)
given_entry = fold-EntryCode (Given Elem) (Given Bool) (Given Value) (Given Value) (Given (Elem × Value)) elem_layer truth_layer value_layer choice_layer entry_layer
