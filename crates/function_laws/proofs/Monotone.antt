-- Calls by the numbers of their arguments.
use Rattle.std.proofs.Common.{◌≡◌, ◌↔◌, ℕ, zero, suc, ◌+◌, ◌*◌, ◌<◌, List, [], ◌∷◌, length, map, get_or, Some, arith, refl, sym, ap, ◌∙◌, subst, inl, inr}
use Rattle.std.specs.Prelude.{◌⊎◌, IsTrue}
use mathlib.Core.Logic.{⊎_elim}
use Rattle.std.proofs.Math.Nat.{mul_comm}
use Rattle.std.proofs.lemmas.List.{length-map, get_or-map}
use Rattle.std.proofs.lemmas.List.Elements.{Contains-get_or, All-get_or}
use Rattle.std.proofs.lemmas.Nat.{mul-add-lt}
use Rattle.flow_term.specs.Orders.{EachOnce}
use Rattle.flow_term.specs.declared.value.Value.{Value, Value-F, out-Value}
use Rattle.flow_term.specs.declared.value.Value.TheVariants as value
use Rattle.flow_syntax.specs.declared.spec.Named.{Named}
use Rattle.flow_syntax.specs.declared.spec.Spec.{Spec}
use Rattle.flow_syntax.specs.declared.tables.FunctionDecl.{FunctionDecl}
use Rattle.value_domains.specs.Values.{ValueLayer}
use Rattle.value_domains.specs.Domains.{Table, IsListed, IsValueOf, IsBelowIn, listed, has_element, item_in, one_element, place_in, table_join, table_named, texts_of}
use Rattle.table_laws.specs.FunctionTables.{FunctionTable, IsTotal, result_of}
use Rattle.table_laws.specs.FunctionTables as numbers
use Rattle.table_laws.specs.JoinTables.{IsComplete, IsElement, IsBelow, join_of, numbered}
use Rattle.table_laws.specs.inner.Numbers.{listed_in, place_at, place_back, place_below, place_listed, numbered_join, numbered_apart, joined_listed}
use Rattle.expr_meaning.specs.Functions.{AreBelow, AreElements, GivesElements}
use Rattle.expr_meaning.specs.Functions as meaning
use Rattle.expr_meaning.specs.Meaning.{call_value, tuple_number}
use Rattle.function_laws.specs.Laws.{GivesByNumbers, HasDistinctElements, IsWellDeclared, MonotoneByNumbers, MonotoneInNumbers, first_lattice, left, numbered_function, right, second_lattice, to}

-- ELEMENTS

abbrev IsName : Table → List ℕ → Type 0
IsName t x = IsTrue (has_element t x)

named_of : (t : Table) (l : ValueLayer) → IsListed t l → IsName t (item_in l)
named_of t (Value-F.Item x) h = h
named_of t _ h = absurd h

abbrev place : Table → Value → ℕ
place t v = place_in t.elements (item_in (out-Value v))

-- one element is below another exactly where its number is
below_names : (t : Table) → IsComplete (numbered t) → (x y : List ℕ) → IsName t x → IsName t y → IsBelow (numbered t) (place_in t.elements x) (place_in t.elements y) ↔ (table_join t x y ≡ y)
below_names t complete x y h k = (
  λ b. numbered_apart t complete (table_join t x y) y (joined_listed t complete x y h k) k (numbered_join t complete x y h k ∙ b),
  λ e. sym (numbered_join t complete x y h k) ∙ ap (place_in t.elements) e,
)

item_opened : (x : List ℕ) → item_in (out-Value (value.Item x)) ≡ x
item_opened x = ap item_in (value.outs-Item x)

place_of_row : (a b m n : ℕ) → a < m → b < n → a * n + b < m * n
place_of_row a b m n h k = subst (λ s. a * n + b < s) (mul_comm n m) (mul-add-lt a n b m h k)

-- RESULTS

module _ (l r t : Table) (results : List (List ℕ)) (complete : IsComplete (numbered t)) (total : IsTotal (record { left = numbered l; right = numbered r; to = numbered t; results = map (place_in t.elements) results })) where
  abbrev function : FunctionTable
  function = record { left = numbered l; right = numbered r; to = numbered t; results = map (place_in t.elements) results }

  -- the name of the result for two arguments by their numbers
  abbrev result_name : ℕ → ℕ → List ℕ
  result_name a b = get_or results (a * length r.elements + b) []

  result_number : (a b : ℕ) → a < length l.elements → b < length r.elements → place_in t.elements (result_name a b) ≡ result_of function a b
  result_number a b h k =
      let within : a * length r.elements + b < length l.elements * length r.elements = place_of_row a b (length l.elements) (length r.elements) h k in
      sym (get_or-map (place_in t.elements) results (a * length r.elements + b) [] 0 (omega (arith, within, total.size, length-map results (place_in t.elements))))

  result_element : (a b : ℕ) → a < length l.elements → b < length r.elements → IsName t (result_name a b)
  result_element a b h k =
      let within : a * length r.elements + b < length l.elements * length r.elements = place_of_row a b (length l.elements) (length r.elements) h k in
      place_listed t.elements (result_name a b)
      (subst (λ n. n < length t.elements) (sym (result_number a b h k)) (All-get_or (IsElement (numbered t)) function.results (a * length r.elements + b) 0 (omega (arith, within, total.size)) total.entries))

  -- the results for two arguments are below each other as their numbers are
  results_below : (a b c d : ℕ) → a < length l.elements → b < length r.elements → c < length l.elements → d < length r.elements
      → IsBelow (numbered t) (result_of function a b) (result_of function c d) ↔ (table_join t (result_name a b) (result_name c d) ≡ result_name c d)
  results_below a b c d ha hb hc hd =
      subst (λ n. IsBelow (numbered t) n (result_of function c d) ↔ (table_join t (result_name a b) (result_name c d) ≡ result_name c d)) (result_number a b ha hb)
      (subst (λ n. IsBelow (numbered t) (place_in t.elements (result_name a b)) n ↔ (table_join t (result_name a b) (result_name c d) ≡ result_name c d)) (result_number c d hc hd)
      (below_names t complete (result_name a b) (result_name c d) (result_element a b ha hb) (result_element c d hc hd)))

-- ARGUMENTS

module _ (spec : Spec) where
  abbrev table_of_name : Named → Table
  table_of_name n = table_named spec.lattices n.text

  abbrev first : List Named → Table
  first args = first_lattice spec.lattices args

  abbrev second : List Named → Table
  second args = second_lattice spec.lattices args

  -- arguments have numbers, and their tuple the place of these
  record Placed (args : List Named) (vs : List Value) : Type 0 where
    pub a : ℕ
    pub b : ℕ
    pub a_in : a < length (first args).elements
    pub b_in : b < length (second args).elements
    pub number : tuple_number spec 0 args vs ≡ a * length (second args).elements + b

  abbrev AreFew : List Named → Type 0
  AreFew args = (length args ≡ 1) ⊎ (length args ≡ 2)

  not_none : AreFew [] → ⊥
  not_none few = ⊎_elim (λ (e : 0 ≡ 1). omega (arith, e)) (λ (e : 0 ≡ 2). omega (arith, e)) few

  not_more : (n : ℕ) → (suc (suc (suc n)) ≡ 1) ⊎ (suc (suc (suc n)) ≡ 2) → ⊥
  not_more n few = ⊎_elim (λ (e : suc (suc (suc n)) ≡ 1). omega (arith, e)) (λ (e : suc (suc (suc n)) ≡ 2). omega (arith, e)) few

  value_within : (t : Table) (v : Value) → IsValueOf (listed t) v → place t v < length t.elements
  value_within t v h = place_below t.elements (item_in (out-Value v)) (named_of t (out-Value v) h)

  one_placed : (n : Named) (v : Value) → IsValueOf (listed (table_of_name n)) v → Placed (n ∷ []) (v ∷ [])
  one_placed n v h = record { a = place (table_of_name n) v; b = 0; a_in = value_within (table_of_name n) v h; b_in = omega arith; number = omega arith }

  two_placed : (n m : Named) (v w : Value) → IsValueOf (listed (table_of_name n)) v → IsValueOf (listed (table_of_name m)) w → Placed (n ∷ m ∷ []) (v ∷ w ∷ [])
  two_placed n m v w h k = record {
    a = place (table_of_name n) v;
    b = place (table_of_name m) w;
    a_in = value_within (table_of_name n) v h;
    b_in = value_within (table_of_name m) w k;
    number = let front : 0 * length (table_of_name n).elements + place (table_of_name n) v ≡ place (table_of_name n) v = omega arith in ap (λ i. i * length (table_of_name m).elements + place (table_of_name m) w) front;
  }

  placed : (args : List Named) (vs : List Value) → AreFew args → AreElements spec args vs → Placed args vs
  placed [] vs few h = absurd (not_none few)
  placed (n ∷ []) [] few h = absurd h
  placed (n ∷ []) (v ∷ []) few h = one_placed n v h.0
  placed (n ∷ []) (v ∷ w ∷ vs) few h = absurd h.1
  placed (n ∷ m ∷ []) [] few h = absurd h
  placed (n ∷ m ∷ []) (v ∷ []) few h = absurd h.1
  placed (n ∷ m ∷ []) (v ∷ w ∷ []) few h = two_placed n m v w h.0 h.1.0
  placed (n ∷ m ∷ []) (v ∷ w ∷ u ∷ vs) few h = absurd h.1.1
  placed (n ∷ m ∷ k ∷ args) vs few h = absurd (not_more (length args) few)

  -- arguments that are below others, with the numbers of both
  record BothPlaced (args : List Named) (vs ws : List Value) : Type 0 where
    pub low : Placed args vs
    pub high : Placed args ws
    pub left : IsBelow (numbered (first args)) low.a high.a
    pub right : IsBelow (numbered (second args)) low.b high.b

  value_below : (t : Table) → IsComplete (numbered t) → (v w : Value) → IsValueOf (listed t) v → IsValueOf (listed t) w → IsBelowIn (listed t) v w → IsBelow (numbered t) (place t v) (place t w)
  value_below t complete v w h k b = (below_names t complete (item_in (out-Value v)) (item_in (out-Value w)) (named_of t (out-Value v) h) (named_of t (out-Value w) k)).1 b

  both_placed : (args : List Named) (vs ws : List Value) → AreFew args → IsComplete (numbered (first args)) → IsComplete (numbered (second args)) → AreBelow spec args vs ws → BothPlaced args vs ws
  unfolding one_placed two_placed
  both_placed [] vs ws few cl cr h = absurd (not_none few)
  both_placed (n ∷ []) (v ∷ []) (w ∷ []) few cl cr h =
      record { low = one_placed n v h.0; high = one_placed n w h.1; left = value_below (table_of_name n) cl v w h.0 h.1 h.2; right = refl }
  both_placed (n ∷ m ∷ []) (v ∷ x ∷ []) (w ∷ y ∷ []) few cl cr h =
      record {
        low = two_placed n m v x h.0 h.3.0;
        high = two_placed n m w y h.1 h.3.1;
        left = value_below (table_of_name n) cl v w h.0 h.1 h.2;
        right = value_below (table_of_name m) cr x y h.3.0 h.3.1 h.3.2;
      }
  both_placed (n ∷ m ∷ k ∷ args) vs ws few cl cr h = absurd (not_more (length args) few)
  both_placed (n ∷ []) [] ws few cl cr h = absurd h
  both_placed (n ∷ []) (v ∷ []) [] few cl cr h = absurd h
  both_placed (n ∷ []) (v ∷ []) (w ∷ y ∷ ws) few cl cr h = absurd h.3
  both_placed (n ∷ []) (v ∷ x ∷ vs) [] few cl cr h = absurd h
  both_placed (n ∷ []) (v ∷ x ∷ vs) (w ∷ ws) few cl cr h = absurd h.3
  both_placed (n ∷ m ∷ []) [] ws few cl cr h = absurd h
  both_placed (n ∷ m ∷ []) (v ∷ vs) [] few cl cr h = absurd h
  both_placed (n ∷ m ∷ []) (v ∷ []) (w ∷ ws) few cl cr h = absurd h.3
  both_placed (n ∷ m ∷ []) (v ∷ x ∷ []) (w ∷ []) few cl cr h = absurd h.3
  both_placed (n ∷ m ∷ []) (v ∷ x ∷ []) (w ∷ y ∷ z ∷ ws) few cl cr h = absurd h.3.3
  both_placed (n ∷ m ∷ []) (v ∷ x ∷ u ∷ vs) (w ∷ []) few cl cr h = absurd h.3
  both_placed (n ∷ m ∷ []) (v ∷ x ∷ u ∷ vs) (w ∷ y ∷ ws) few cl cr h = absurd h.3.3

  -- elements as values

  abbrev at : Table → ℕ → Value
  at t i = value.Item (get_or t.elements i [])

  at_place : (t : Table) (i : ℕ) → EachOnce t.elements → i < length t.elements → place t (at t i) ≡ i
  at_place t i once h = ap (place_in t.elements) (item_opened (get_or t.elements i [])) ∙ place_at t.elements i [] once h

  at_value : (t : Table) (i : ℕ) → i < length t.elements → IsValueOf (listed t) (at t i)
  at_value t i h = subst (IsListed t) (sym (value.outs-Item (get_or t.elements i []))) (listed_in t.elements (get_or t.elements i []) (Contains-get_or t.elements i [] h))

  at_below : (t : Table) (i j : ℕ) → IsComplete (numbered t) → EachOnce t.elements → i < length t.elements → j < length t.elements → IsBelow (numbered t) i j → IsBelowIn (listed t) (at t i) (at t j)
  at_below t i j complete once h k b =
      (below_names t complete (item_in (out-Value (at t i))) (item_in (out-Value (at t j))) (named_of t (out-Value (at t i)) (at_value t i h)) (named_of t (out-Value (at t j)) (at_value t j k))).0
      (subst (λ n. IsBelow (numbered t) n (place t (at t j))) (sym (at_place t i once h)) (subst (IsBelow (numbered t) i) (sym (at_place t j once k)) b))

  abbrev chosen : List Named → ℕ → ℕ → List Value
  chosen (n ∷ m ∷ args) a b = at (table_of_name n) a ∷ at (table_of_name m) b ∷ []
  chosen (n ∷ []) a b = at (table_of_name n) a ∷ []
  chosen [] a b = []

  chosen_number : (args : List Named) (a b : ℕ) → AreFew args → EachOnce (first args).elements → EachOnce (second args).elements → a < length (first args).elements → b < length (second args).elements
      → tuple_number spec 0 args (chosen args a b) ≡ a * length (second args).elements + b
  chosen_number [] a b few once twice h k = absurd (not_none few)
  chosen_number (n ∷ []) a b few once twice h k = omega (arith, at_place (table_of_name n) a once h, k)
  chosen_number (n ∷ m ∷ []) a b few once twice h k =
      let front : 0 * length (table_of_name n).elements + place (table_of_name n) (at (table_of_name n) a) ≡ a = omega (arith, at_place (table_of_name n) a once h) in
      λ i. front i * length (table_of_name m).elements + at_place (table_of_name m) b twice k i
  chosen_number (n ∷ m ∷ l ∷ args) a b few once twice h k = absurd (not_more (length args) few)

  chosen_below : (args : List Named) (a b c d : ℕ) → AreFew args → IsComplete (numbered (first args)) → IsComplete (numbered (second args)) → EachOnce (first args).elements → EachOnce (second args).elements
      → a < length (first args).elements → b < length (second args).elements → c < length (first args).elements → d < length (second args).elements
      → IsBelow (numbered (first args)) a c → IsBelow (numbered (second args)) b d → AreBelow spec args (chosen args a b) (chosen args c d)
  chosen_below [] a b c d few cl cr once twice ha hb hc hd below_a below_b = absurd (not_none few)
  chosen_below (n ∷ []) a b c d few cl cr once twice ha hb hc hd below_a below_b =
      (at_value (table_of_name n) a ha, at_value (table_of_name n) c hc, at_below (table_of_name n) a c cl once ha hc below_a, tt)
  chosen_below (n ∷ m ∷ []) a b c d few cl cr once twice ha hb hc hd below_a below_b = (
    at_value (table_of_name n) a ha,
    at_value (table_of_name n) c hc,
    at_below (table_of_name n) a c cl once ha hc below_a,
    (at_value (table_of_name m) b hb, at_value (table_of_name m) d hd, at_below (table_of_name m) b d cr twice hb hd below_b, tt),
  )
  chosen_below (n ∷ m ∷ l ∷ args) a b c d few cl cr once twice ha hb hc hd below_a below_b = absurd (not_more (length args) few)

  -- THE LAWS

  module _ (f : FunctionDecl) (well : IsWellDeclared spec f) where
    abbrev name_at : (vs : List Value) → Placed f.args vs → List ℕ
    name_at vs p = result_name (left spec f) (right spec f) (to spec f) (texts_of f.table) well.result well.total p.a p.b

    called : (vs : List Value) (p : Placed f.args vs) → item_in (out-Value (call_value spec (Some f) vs)) ≡ name_at vs p
    called vs p = item_opened (get_or (texts_of f.table) (tuple_number spec 0 f.args vs) []) ∙ ap (λ i. get_or (texts_of f.table) i []) p.number

    element : (vs : List Value) (p : Placed f.args vs) → IsName (to spec f) (name_at vs p)
    element vs p = result_element (left spec f) (right spec f) (to spec f) (texts_of f.table) well.result well.total p.a p.b p.a_in p.b_in

    gives_elements : GivesElements spec f
    gives_elements vs are =
        let p = placed f.args vs well.few are in
        subst (IsListed (to spec f)) (sym (value.outs-Item (get_or (texts_of f.table) (tuple_number spec 0 f.args vs) [])))
        (subst (IsName (to spec f)) (sym (ap (λ i. get_or (texts_of f.table) i []) p.number)) (element vs p))

    is_monotone : numbers.IsMonotone (numbered_function spec f) → meaning.IsMonotone spec f
    is_monotone rises vs ws below =
        let p = both_placed f.args vs ws well.few well.first well.second below in
        let results = (results_below (left spec f) (right spec f) (to spec f) (texts_of f.table) well.result well.total p.low.a p.low.b p.high.a p.high.b p.low.a_in p.low.b_in p.high.a_in p.high.b_in).0
        (rises p.low.a p.low.b p.high.a p.high.b p.low.a_in p.low.b_in p.high.a_in p.high.b_in p.left p.right) in
        (λ i. table_join (to spec f) (called vs p.low i) (called ws p.high i)) ∙ results ∙ sym (called ws p.high)

    has_monotone_numbers : HasDistinctElements spec f → meaning.IsMonotone spec f → numbers.IsMonotone (numbered_function spec f)
    has_monotone_numbers once rises a b c d ha hb hc hd l r =
        let vs = chosen f.args a b in
        let ws = chosen f.args c d in
        let low : Placed f.args vs = record { a = a; b = b; a_in = ha; b_in = hb; number = chosen_number f.args a b well.few once.first once.second ha hb } in
        let high : Placed f.args ws = record { a = c; b = d; a_in = hc; b_in = hd; number = chosen_number f.args c d well.few once.first once.second hc hd } in
        (results_below (left spec f) (right spec f) (to spec f) (texts_of f.table) well.result well.total a b c d ha hb hc hd).1
        ((λ i. table_join (to spec f) (sym (called vs low) i) (sym (called ws high) i)) ∙ rises vs ws (chosen_below f.args a b c d well.few well.first well.second once.first once.second ha hb hc hd l r) ∙ called ws high)

pub by_numbers : MonotoneByNumbers
by_numbers spec f well rises = is_monotone spec f well rises

pub gives : GivesByNumbers
gives spec f well = gives_elements spec f well

pub in_numbers : MonotoneInNumbers
in_numbers spec f well once rises = has_monotone_numbers spec f well once rises
