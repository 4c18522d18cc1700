-- Where a specification has no fault, each argument that an item names is one that the head of its rule binds.
use Rattle.std.proofs.Common.{◌≡◌, ◌≢◌, ℕ, zero, suc, ◌+◌, ◌<◌, Bool, true, false, List, [], ◌∷◌, Option, Some, None, map, find, cond, refl, sym, ap, subst, ◌∙◌, inl, inr, arith}
use Rattle.std.specs.Prelude.{Contains, IsTrue, slice_get, bytes_eq, option_map, ◌⊎◌}
use Rattle.std.specs.List.{flat_map, position_from}
use Rattle.std.proofs.lemmas.Bool.{cases_order}
use Rattle.std.proofs.lemmas.List.Elements.{Contains-append_left, Contains-append_right}
use Rattle.std.proofs.lemmas.Option.{same_Some, slice_get-map}
use Rattle.std.proofs.lemmas.Slice.Eq.{bytes_eq-Decides}
use Rattle.flow_syntax.proofs.Listed.{Contains_here}
use Rattle.flow_syntax.specs.declared.fault.SpecFaultKind.TheVariants as kinds
use Rattle.flow_syntax.specs.declared.pattern.Pattern.{Pattern, out-Pattern, fold_out-Pattern}
use Rattle.flow_syntax.specs.declared.pattern.PatternKind.{PatternKind, PatternKind-F, fold-PatternKind, fold_out-PatternKind, map-PatternKind}
use Rattle.flow_syntax.specs.declared.rule.Chain.{Chain}
use Rattle.flow_syntax.specs.declared.rule.FlowRule.{FlowRule}
use Rattle.flow_syntax.specs.declared.rule.Item.{Item}
use Rattle.flow_syntax.specs.declared.rule.ItemKind.{ItemKind}
use Rattle.flow_syntax.specs.declared.rule.ItemKind.TheVariants as item
use Rattle.flow_syntax.specs.declared.spec.Spec.{Spec}
use Rattle.flow_syntax.specs.Accepted.{HasAppliedHeads, is_application}
use Rattle.flow_syntax.specs.Binders.{Bound, bound, bound_in, bound_layer, binder_of}
use Rattle.flow_syntax.specs.Control.{HasBoundItems, IsUnboundItem, argument, arguments_in, is_variable_in}
use Rattle.flow_syntax.specs.Faults.{HasNoFault, rule, variable}
use Rattle.flow_syntax.specs.Matching.{PatternLayer, pattern_layer}
use Rattle.flow_syntax.specs.RuleFaults.{arguments, binds_itself, head_variable, is_direct, named_by, misnamed_item, IsMisnamedItem}
use Rattle.flow_syntax.specs.Types.{Sort, name_sort, pos_sort, str_sort, int_sort, enum_sort, pair_sort}
use Rattle.flow_syntax.proofs.Listed.{any_at, at_in, in_at}
use Rattle.flow_syntax.specs.VariableFaults.{again, head_variable as rebound_variable}

-- ** the variables of a pattern, by its layer

-- a layer with the variables of its parts
abbrev pub bounds_of : PatternLayer → PatternKind-F (ℕ → List Bound) (List Bound)
bounds_of = map-PatternKind PatternKind Pattern (ℕ → List Bound) (List Bound) (fold-PatternKind (ℕ → List Bound) (List Bound) bound_layer (λ p. p.kind p.place)) bound_in

pub bound_in_out : (p : Pattern) → bound_in p ≡ bound_layer (bounds_of (pattern_layer p)) (out-Pattern p).place
bound_in_out p =
    fold_out-Pattern (ℕ → List Bound) (List Bound) bound_layer (λ p. p.kind p.place) p
    ∙ ap (λ (f : ℕ → List Bound). f (out-Pattern p).place) (fold_out-PatternKind (ℕ → List Bound) (List Bound) bound_layer (λ p. p.kind p.place) (out-Pattern p).kind)

-- ** items of lists

-- an item of a part is one of the whole
among_parts : (p : Pattern) (b : Bound) (ps : List Pattern) → Contains ps p → Contains (bound_in p) b → Contains (flat_map (λ bs. bs) (map bound_in ps)) b
among_parts p b [] h hb = absurd (let less : h.0 < 0 = h.1 in omega (arith, less))
among_parts p b (q ∷ ps) (zero, less, is) hb = Contains-append_left (bound_in q) (flat_map (λ bs. bs) (map bound_in ps)) b (subst (λ (r : Pattern). Contains (bound_in r) b) (sym is) hb)
among_parts p b (q ∷ ps) (suc k, less, is) hb = Contains-append_right (bound_in q) (flat_map (λ bs. bs) (map bound_in ps)) b (among_parts p b ps (k, omega (arith, less), is) hb)

-- what a test finds stands at a number, and nothing before it passes
record IsFirst {X : Type 0} (test : X → Bool) (xs : List X) (x : X) : Type 0 where
  at : ℕ
  is : slice_get xs at ≡ Some x
  passes : test x ≡ true
  first : (k : ℕ) (y : X) → k < at → slice_get xs k ≡ Some y → test y ≡ false

first_found : {X : Type 0} (test : X → Bool) (xs : List X) (x : X) → find test xs ≡ Some x → IsFirst test xs x
first_found {X} test [] x h = cc
first_found {X} test (y ∷ ys) x h = go (test y) refl h (first_found test ys x)
  where
    later : (r : IsFirst test ys x) → test y ≡ false → (k : ℕ) (z : X) → k < suc r.at → slice_get (y ∷ ys) k ≡ Some z → test z ≡ false
    later r fails zero z less i = subst (λ (w : X). test w ≡ false) (same_Some y z i) fails
    later r fails (suc k) z less i = r.first k z (omega (arith, less)) i

    go : (b : Bool) → test y ≡ b → cond b (Some y) (find test ys) ≡ Some x → (find test ys ≡ Some x → IsFirst test ys x) → IsFirst test (y ∷ ys) x
    go true passes e more = let same = same_Some y x e in
        record { at = 0; is = e; passes = subst (λ (w : X). test w ≡ true) same passes; first = λ k z less i. absurd (omega (arith, less)) }
    go false fails e more = let r = more e in record { at = suc r.at; is = r.is; passes = r.passes; first = later r fails }

-- where no item has a number by a test, none passes
none_passes : {X : Type 0} (test : X → Bool) (n : ℕ) (xs : List X) (x : X) → position_from test n xs ≡ None → Contains xs x → test x ≡ true → ⊥
none_passes {X} test n [] x h among passes = absurd (let less : among.0 < 0 = among.1 in omega (arith, less))
none_passes {X} test n (y ∷ ys) x h among passes = go (test y) refl h among (λ none later. none_passes test (n + 1) ys x none later passes)
  where
    go : (b : Bool) → test y ≡ b → cond b (Some n) (position_from test (n + 1) ys) ≡ None → Contains (y ∷ ys) x → (position_from test (n + 1) ys ≡ None → Contains ys x → ⊥) → ⊥
    go true e f c more = let g : Some n ≡ None = f in cc
    go false e f (zero, less, is) more = let g : test x ≡ false = subst (λ (w : X). test w ≡ false) is e in cc
    go false e f (suc k, less, is) more = more f (k, omega (arith, less), is)

-- ** the variables of a rule's head

-- the variables of an argument are among those of the head
among_head : (r : FlowRule) (p : Pattern) (b : Bound) → IsTrue (is_application (pattern_layer r.head)) → Contains (arguments r) p → Contains (bound_in p) b → Contains (bound_in r.head) b
among_head r p b applied among hb = subst (λ (bs : List Bound). Contains bs b) (sym (bound_in_out r.head)) (of_layer (pattern_layer r.head) (out-Pattern r.head).place applied among)
  where
    of_layer : (layer : PatternLayer) (n : ℕ) → IsTrue (is_application layer) → Contains (arguments_in layer) p → Contains (bound_layer (bounds_of layer) n) b
    of_layer (PatternKind-F.Apply name parts) n t c = among_parts p b parts c hb
    of_layer _ n t c = cc

-- a variable of a pattern that isn't a position
record OtherVariable (x : List ℕ) (bs : List Bound) : Type 0 where
  b : Bound
  among : Contains bs b
  name : x ≡ b.name
  other : b.sort ≢ pos_sort

-- what a pattern itself binds is a position, or it isn't
own_variable : (x : List ℕ) (p : Pattern) → binds_itself x (pattern_layer p) ≡ true → IsTrue (is_variable_in x (pattern_layer p)) ⊎ OtherVariable x (bound_in p)
own_variable x p h = subst (λ (bs : List Bound). IsTrue (is_variable_in x (pattern_layer p)) ⊎ OtherVariable x bs) (sym (bound_in_out p)) (of_layer (pattern_layer p) h)
  where
    n : ℕ
    n = (out-Pattern p).place

    of_sort : (y : List ℕ) (s : Sort) → bytes_eq x y ≡ true → s ≢ pos_sort → OtherVariable x (bound y s n ∷ [])
    of_sort y s e other = record { b = bound y s n; among = Contains_here (bound y s n) []; name = (bytes_eq-Decides x y).0 e; other = other }

    of_layer : (layer : PatternLayer) → binds_itself x layer ≡ true → IsTrue (is_variable_in x layer) ⊎ OtherVariable x (bound_layer (bounds_of layer) n)
    of_layer (PatternKind-F.Var y) e = inl e
    of_layer (PatternKind-F.Held y q) e = inl e
    of_layer (PatternKind-F.NameVar y) e = inr (of_sort y name_sort e (λ same. cc))
    of_layer (PatternKind-F.StrVar y) e = inr (of_sort y str_sort e (λ same. cc))
    of_layer (PatternKind-F.IntVar y) e = inr (of_sort y int_sort e (λ same. cc))
    of_layer _ e = cc

-- a sort is that of positions, or it isn't
position_or_other : (s : Sort) → (s ≡ pos_sort) ⊎ (s ≢ pos_sort)
position_or_other pos_sort = inl refl
position_or_other name_sort = inr (λ e. cc)
position_or_other str_sort = inr (λ e. cc)
position_or_other int_sort = inr (λ e. cc)
position_or_other (enum_sort x) = inr (λ e. cc)
position_or_other (pair_sort a b) = inr (λ e. cc)

-- ** items

module _ (spec : Spec) (faultless : HasNoFault spec) (applied : HasAppliedHeads spec) (r : FlowRule) (of_spec : Contains spec.control r) where
  -- no name is bound twice, first as a position
  no_second : (x : List ℕ) (b : Bound) → head_variable r x ≡ Some b → b.sort ≡ pos_sort → OtherVariable x (bound_in r.head) → ⊥
  no_second x b found is_pos o = by_numbers (first_found (λ c. bytes_eq x c.name) (bound_in r.head) b found) (in_at (bound_in r.head) o.b o.among)
    where
      by_numbers : IsFirst (λ (c : Bound). bytes_eq x c.name) (bound_in r.head) b → (k : ℕ) × (slice_get (bound_in r.head) k ≡ Some o.b) → ⊥
      by_numbers f (k, is) = elim (cases_order k f.at) [
        | inr (inl less) ↦ (let e : bytes_eq x o.b.name ≡ false = f.first k o.b less is in let t : bytes_eq x o.b.name ≡ true = (bytes_eq-Decides x o.b.name).1 o.name in cc)
        | inl same ↦ o.other (sym (ap (λ (c : Bound). c.sort) (same_Some b o.b (sym f.is ∙ ap (slice_get (bound_in r.head)) (sym same) ∙ is))) ∙ is_pos)
        | inr (inr more) ↦ faultless o.b.place kinds.Duplicate (variable (rebound_variable r of_spec (again f.at k (binder_of b) (binder_of o.b)
            (slice_get-map binder_of (bound_in r.head) f.at ∙ ap (option_map binder_of) f.is) (slice_get-map binder_of (bound_in r.head) k ∙ ap (option_map binder_of) is)
            more (sym ((bytes_eq-Decides x b.name).0 f.passes) ∙ o.name) refl)))
      ]

  module _ (chain : Chain) (of_rule : Contains r.chains chain) (it : Item) (of_chain : Contains chain.items it) (x : List ℕ) (named : named_by it.kind ≡ Some x) where
    -- a wrong name would be a fault
    not_misnamed : (o : Option Bound) → head_variable r x ≡ o → argument r x ≡ None → ⊥
    not_misnamed None e none = faultless it.place kinds.Unbound (rule (misnamed_item r chain it x kinds.Unbound of_spec of_rule of_chain named (subst (λ (o : Option Bound). IsMisnamedItem r x o kinds.Unbound) (sym e) tt) refl))
    not_misnamed (Some b) e none = elim (position_or_other b.sort) [
      | inr other ↦ faultless it.place kinds.Sort (rule (misnamed_item r chain it x kinds.Sort of_spec of_rule of_chain named (subst (λ (o : Option Bound). IsMisnamedItem r x o kinds.Sort) (sym e) other) refl))
      | inl is_pos ↦ by_direct (is_direct r x) refl is_pos
    ]
      where
        by_argument : b.sort ≡ pos_sort → (p : Pattern) → Contains (arguments r) p → binds_itself x (pattern_layer p) ≡ true → ⊥
        by_argument is_pos p among passes = elim (own_variable x p passes) [
          | inl own ↦ none_passes (λ (q : Pattern). is_variable_in x (pattern_layer q)) 0 (arguments r) p none among own
          | inr o ↦ no_second x b e is_pos (record { b = o.b; among = among_head r p o.b (applied r of_spec) among o.among; name = o.name; other = o.other })
        ]

        by_direct : (d : Bool) → is_direct r x ≡ d → b.sort ≡ pos_sort → ⊥
        by_direct true direct is_pos = let a = any_at (λ (p : Pattern). binds_itself x (pattern_layer p)) (arguments r) direct in by_argument is_pos a.1 (at_in (arguments r) a.0 a.1 a.2) a.3
        by_direct false nested is_pos = faultless it.place kinds.Nested (rule (misnamed_item r chain it x kinds.Nested of_spec of_rule of_chain named (subst (λ (o : Option Bound). IsMisnamedItem r x o kinds.Nested) (sym e) nested) refl))

-- where a specification has no fault, each argument that an item names is one that the head binds
pub bound_items : (spec : Spec) → HasNoFault spec → HasAppliedHeads spec → HasBoundItems spec
bound_items spec faultless applied r of_spec chain of_rule it of_chain h = by_kind it.kind refl h
  where
    by_kind : (kind : ItemKind) → it.kind ≡ kind → IsUnboundItem r kind → ⊥
    by_kind (item.Whole x) e none = not_misnamed spec faultless applied r of_spec chain of_rule it of_chain x (ap named_by e) (head_variable r x) refl none
    by_kind (item.Single x) e none = not_misnamed spec faultless applied r of_spec chain of_rule it of_chain x (ap named_by e) (head_variable r x) refl none
    by_kind _ e none = absurd none
