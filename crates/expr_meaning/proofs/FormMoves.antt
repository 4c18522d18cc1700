-- Each form of expression follows its parts by its mode.
use Rattle.std.proofs.Common.{◌≡◌, Bool, true, false, cond, List, refl, sym, ap, subst, ◌∙◌}
use Rattle.flow_term.specs.declared.elem.Elem.{Elem}
use Rattle.flow_term.specs.declared.value.Value.{Value, out-Value}
use Rattle.flow_term.specs.declared.value.Value.TheVariants as value
use Rattle.flow_syntax.specs.declared.expr.SetOp.{SetOp}
use Rattle.flow_syntax.specs.declared.expr.SetOp.TheVariants as op
use Rattle.flow_syntax.specs.declared.property.Mode.{Mode}
use Rattle.flow_syntax.specs.declared.property.Mode.TheVariants as mode
use Rattle.flow_syntax.specs.Types.{Sort}
use Rattle.value_domains.specs.Values.{union_of, intersection_of, elems_in, map_in, value_or, entries_of, Includes}
use Rattle.value_domains.specs.Lawful.{IsLawful}
use Rattle.expr_meaning.specs.Ranges.{Range, values, elements, truths, domain_in}
use Rattle.value_domains.specs.Domains.{Domain, may, must, map_to, IsValueOf, least_of, joined_of, IsBelowIn}
use Rattle.expr_meaning.specs.Meaning.{Meaning, a_value, a_truth, value_in, elem_in, truth_in, operation, difference_of, on_sets, is_member, updated}
use Rattle.expr_meaning.specs.Modes.{combined, turned, needs, is_must}
use Rattle.expr_meaning.specs.Monotone.{Moves, IsBelowAs}
use Rattle.expr_meaning.specs.Typing.{IsIn, IsOperand, IsSets, of_may, of_must}
use Rattle.expr_meaning.proofs.Moving.{combine, turn, raise, need}
use Rattle.expr_meaning.proofs.SetForms.{union_grows, intersection_grows, difference_grows, must_operation, must_member, may_elems, may_is_member, to_has, minus_layers}
use Rattle.expr_meaning.proofs.ValueForms.{order_of, join_rises, update_rises, map_back, guard_rises}

-- what is known of a part: how it moves between two situations, and that it is in its range in both
pub record Part (r : Range) (m : Mode) (x y : Meaning) : Type 0 where
  pub moves : Moves m (IsBelowAs r) x y
  pub low : IsIn r x
  pub high : IsIn r y

pub value_fact : (d : Domain) (x : Meaning) → IsIn (values d) x → IsValueOf d (value_in x)
value_fact d (a_value v) h = h
value_fact d _ h = absurd h

-- how the values in two meanings move
pub value_moves : (d : Domain) (m : Mode) (x y : Meaning) → Moves m (IsBelowAs (values d)) x y → Moves m (IsBelowIn d) (value_in x) (value_in y)
value_moves d mode.Fixed x y h = ap value_in h
value_moves d mode.Up x y h = h
value_moves d mode.Down x y h = h
value_moves d mode.Mixed x y h = tt

pub value_back : (d : Domain) (m : Mode) (v w : Value) → Moves m (IsBelowIn d) v w → Moves m (IsBelowAs (values d)) (a_value v) (a_value w)
value_back d mode.Fixed v w h = ap a_value h
value_back d mode.Up v w h = h
value_back d mode.Down v w h = h
value_back d mode.Mixed v w h = tt

abbrev pub Implies : Bool → Bool → Type 0
Implies a b = a ≡ true → b ≡ true

pub truth_moves : (m : Mode) (x y : Meaning) → Moves m (IsBelowAs truths) x y → Moves m Implies (truth_in x) (truth_in y)
truth_moves mode.Fixed x y h = ap truth_in h
truth_moves mode.Up x y h = h
truth_moves mode.Down x y h = h
truth_moves mode.Mixed x y h = tt

pub truth_back : (m : Mode) (a b : Bool) → Moves m Implies a b → Moves m (IsBelowAs truths) (a_truth a) (a_truth b)
truth_back mode.Fixed a b h = ap a_truth h
truth_back mode.Up a b h = h
truth_back mode.Down a b h = h
truth_back mode.Mixed a b h = tt

-- OPERATIONS ON TWO VALUES OF A DOMAIN

module _ (d : Domain) (lawful : IsLawful d) (a1 a2 b1 b2 : Value) (va1 : IsValueOf d a1) (va2 : IsValueOf d a2) (vb1 : IsValueOf d b1) (vb2 : IsValueOf d b2) (m n : Mode)
    (ma : Moves m (IsBelowIn d) a1 a2) (mb : Moves n (IsBelowIn d) b1 b2) where
  pub both_move : (f : Value → Value → Value)
      → ((x1 x2 y1 y2 : Value) → IsValueOf d x1 → IsValueOf d x2 → IsValueOf d y1 → IsValueOf d y2 → IsBelowIn d x1 x2 → IsBelowIn d y1 y2 → IsBelowIn d (f x1 y1) (f x2 y2))
      → Moves (combined m n) (IsBelowIn d) (f a1 b1) (f a2 b2)
  both_move f rises =
      combine (IsBelowIn d) (IsBelowIn d) (IsBelowIn d) a1 a2 b1 b2 (f a1 b1) (f a2 b2) ((order_of d lawful).reflexive a1 va1) ((order_of d lawful).reflexive b1 vb1)
      (rises a1 a2 b1 b2 va1 va2 vb1 vb2) (rises a2 a1 b2 b1 va2 va1 vb2 vb1) (λ h k i. f (h i) (k i)) m n ma mb

  pub join_moves : Moves (combined m n) (IsBelowIn d) (joined_of d a1 b1) (joined_of d a2 b2)
  join_moves = both_move (joined_of d) (join_rises d lawful)

-- an operation that grows with both sets
may_rises : (sort : Sort) (f : List Elem → List Elem → List Elem) → ((a1 a2 b1 b2 : List Elem) → Includes a1 a2 → Includes b1 b2 → Includes (f a1 b1) (f a2 b2))
    → (x1 x2 y1 y2 : Value) → IsValueOf (may sort) x1 → IsValueOf (may sort) x2 → IsValueOf (may sort) y1 → IsValueOf (may sort) y2
    → IsBelowIn (may sort) x1 x2 → IsBelowIn (may sort) y1 y2 → IsBelowIn (may sort) (on_sets f (out-Value x1) (out-Value y1)) (on_sets f (out-Value x2) (out-Value y2))
may_rises sort f grows x1 x2 y1 y2 vx1 vx2 vy1 vy2 h k =
    subst (λ xs. Includes xs (elems_in (out-Value (on_sets f (out-Value x1) (out-Value y1))))) (sym (may_elems f sort (out-Value x2) (out-Value y2) vx2 vy2))
    (subst (Includes (f (elems_in (out-Value x2)) (elems_in (out-Value y2)))) (sym (may_elems f sort (out-Value x1) (out-Value y1) vx1 vy1)) (grows _ _ _ _ h k))

must_rises : (sort : Sort) (f : List Elem → List Elem → List Elem) → ((a1 a2 b1 b2 : List Elem) → Includes a1 a2 → Includes b1 b2 → Includes (f a1 b1) (f a2 b2))
    → (x1 x2 y1 y2 : Value) → IsValueOf (must sort) x1 → IsValueOf (must sort) x2 → IsValueOf (must sort) y1 → IsValueOf (must sort) y2
    → IsBelowIn (must sort) x1 x2 → IsBelowIn (must sort) y1 y2 → IsBelowIn (must sort) (on_sets f (out-Value x1) (out-Value y1)) (on_sets f (out-Value x2) (out-Value y2))
must_rises sort f grows x1 x2 y1 y2 vx1 vx2 vy1 vy2 h k = must_operation f grows (out-Value x1) (out-Value x2) (out-Value y1) (out-Value y2) h k

-- a difference of may sets falls where the second rises
may_minus : (sort : Sort) (x1 x2 y1 y2 : Value) → IsValueOf (may sort) x1 → IsValueOf (may sort) x2 → IsValueOf (may sort) y1 → IsValueOf (may sort) y2
    → IsBelowIn (may sort) x1 x2 → IsBelowIn (may sort) y2 y1 → IsBelowIn (may sort) (on_sets difference_of (out-Value x1) (out-Value y1)) (on_sets difference_of (out-Value x2) (out-Value y2))
may_minus sort x1 x2 y1 y2 vx1 vx2 vy1 vy2 h k =
    subst (λ xs. Includes xs (elems_in (out-Value (on_sets difference_of (out-Value x1) (out-Value y1))))) (sym (may_elems difference_of sort (out-Value x2) (out-Value y2) vx2 vy2))
    (subst (Includes (difference_of (elems_in (out-Value x2)) (elems_in (out-Value y2)))) (sym (may_elems difference_of sort (out-Value x1) (out-Value y1) vx1 vy1))
    (difference_grows (elems_in (out-Value x2)) (elems_in (out-Value x1)) (elems_in (out-Value y2)) (elems_in (out-Value y1)) h k))

-- the mode of an operation on values of a domain
abbrev pub operation_mode : SetOp → Domain → Mode → Mode → Mode
operation_mode op.Minus d m n = cond (is_must d) (needs n m) (combined m (turned n))
operation_mode o d m n = combined m n

module _ (sort : Sort) (a1 a2 b1 b2 : Value) where
  pub may_moves : IsValueOf (may sort) a1 → IsValueOf (may sort) a2 → IsValueOf (may sort) b1 → IsValueOf (may sort) b2 → (m n : Mode) → Moves m (IsBelowIn (may sort)) a1 a2 → Moves n (IsBelowIn (may sort)) b1 b2
      → (o : SetOp) → Moves (operation_mode o (may sort) m n) (IsBelowIn (may sort)) (operation o (may sort) a1 b1) (operation o (may sort) a2 b2)
  may_moves va1 va2 vb1 vb2 m n ma mb op.Join = join_moves (may sort) tt a1 a2 b1 b2 va1 va2 vb1 vb2 m n ma mb
  may_moves va1 va2 vb1 vb2 m n ma mb op.Union = both_move (may sort) tt a1 a2 b1 b2 va1 va2 vb1 vb2 m n ma mb (λ x y. on_sets union_of (out-Value x) (out-Value y)) (may_rises sort union_of union_grows)
  may_moves va1 va2 vb1 vb2 m n ma mb op.Inter = both_move (may sort) tt a1 a2 b1 b2 va1 va2 vb1 vb2 m n ma mb (λ x y. on_sets intersection_of (out-Value x) (out-Value y)) (may_rises sort intersection_of intersection_grows)
  may_moves va1 va2 vb1 vb2 m n ma mb op.Minus =
      combine (IsBelowIn (may sort)) (λ x y. IsBelowIn (may sort) y x) (IsBelowIn (may sort)) a1 a2 b1 b2 (operation op.Minus (may sort) a1 b1) (operation op.Minus (may sort) a2 b2)
      (λ x c. c) (λ x c. c) (may_minus sort a1 a2 b1 b2 va1 va2 vb1 vb2) (may_minus sort a2 a1 b2 b1 va2 va1 vb2 vb1)
      (λ h k i. operation op.Minus (may sort) (h i) (k i)) m (turned n) ma
      (turn (IsBelowIn (may sort)) (λ x y. IsBelowIn (may sort) y x) b1 b2 b1 b2 (λ h. h) (λ h. h) (λ h. h) n mb)

  pub must_moves : IsValueOf (must sort) a1 → IsValueOf (must sort) a2 → IsValueOf (must sort) b1 → IsValueOf (must sort) b2 → (m n : Mode) → Moves m (IsBelowIn (must sort)) a1 a2 → Moves n (IsBelowIn (must sort)) b1 b2
      → (o : SetOp) → Moves (operation_mode o (must sort) m n) (IsBelowIn (must sort)) (operation o (must sort) a1 b1) (operation o (must sort) a2 b2)
  must_moves va1 va2 vb1 vb2 m n ma mb op.Join = join_moves (must sort) tt a1 a2 b1 b2 va1 va2 vb1 vb2 m n ma mb
  must_moves va1 va2 vb1 vb2 m n ma mb op.Union = both_move (must sort) tt a1 a2 b1 b2 va1 va2 vb1 vb2 m n ma mb (λ x y. on_sets union_of (out-Value x) (out-Value y)) (must_rises sort union_of union_grows)
  must_moves va1 va2 vb1 vb2 m n ma mb op.Inter = both_move (must sort) tt a1 a2 b1 b2 va1 va2 vb1 vb2 m n ma mb (λ x y. on_sets intersection_of (out-Value x) (out-Value y)) (must_rises sort intersection_of intersection_grows)
  must_moves va1 va2 vb1 vb2 m n ma mb op.Minus =
      need (IsBelowIn (must sort)) (IsBelowIn (must sort)) b1 b2 (operation op.Minus (must sort) a1 b1) (operation op.Minus (must sort) a2 b2) m
      (λ e. subst (λ b. Moves m (IsBelowIn (must sort)) (operation op.Minus (must sort) a1 b1) (operation op.Minus (must sort) a2 b)) e
      (raise (IsBelowIn (must sort)) (IsBelowIn (must sort)) a1 a2 (operation op.Minus (must sort) a1 b1) (operation op.Minus (must sort) a2 b1)
      (minus_rises a1 a2) (minus_rises a2 a1) (λ h i. operation op.Minus (must sort) (h i) b1) m ma)) n mb
    where
      minus_rises : (x y : Value) → IsBelowIn (must sort) x y → IsBelowIn (must sort) (operation op.Minus (must sort) x b1) (operation op.Minus (must sort) y b1)
      minus_rises x y h = minus_layers (out-Value x) (out-Value y) (out-Value b1) h

-- the operations on the sets of a domain
sets_move : (d : Domain) → IsSets d → (a1 a2 b1 b2 : Value) → IsValueOf d a1 → IsValueOf d a2 → IsValueOf d b1 → IsValueOf d b2 → (m n : Mode) → Moves m (IsBelowIn d) a1 a2 → Moves n (IsBelowIn d) b1 b2
    → (o : SetOp) → Moves (operation_mode o d m n) (IsBelowIn d) (operation o d a1 b1) (operation o d a2 b2)
sets_move _ (of_may s) a1 a2 b1 b2 va1 va2 vb1 vb2 m n ma mb o = may_moves s a1 a2 b1 b2 va1 va2 vb1 vb2 m n ma mb o
sets_move _ (of_must s) a1 a2 b1 b2 va1 va2 vb1 vb2 m n ma mb o = must_moves s a1 a2 b1 b2 va1 va2 vb1 vb2 m n ma mb o

-- OPERATIONS ON SETS, AND JOINS

pub operation_moves : (o : SetOp) (d : Domain) → IsLawful d → IsOperand o d → (m n : Mode) (a1 a2 b1 b2 : Meaning) → Part (values d) m a1 a2 → Part (values d) n b1 b2
    → Moves (operation_mode o d m n) (IsBelowAs (values d)) (a_value (operation o d (value_in a1) (value_in b1))) (a_value (operation o d (value_in a2) (value_in b2)))
operation_moves o d lawful operand m n a1 a2 b1 b2 a b =
    value_back d (operation_mode o d m n) (operation o d (value_in a1) (value_in b1)) (operation o d (value_in a2) (value_in b2))
    (by o operand)
  where
    in_sets : (o : SetOp) → IsSets d → Moves (operation_mode o d m n) (IsBelowIn d) (operation o d (value_in a1) (value_in b1)) (operation o d (value_in a2) (value_in b2))
    in_sets o sets = sets_move d sets (value_in a1) (value_in a2) (value_in b1) (value_in b2) (value_fact d a1 a.low) (value_fact d a2 a.high) (value_fact d b1 b.low) (value_fact d b2 b.high) m n
        (value_moves d m a1 a2 a.moves) (value_moves d n b1 b2 b.moves) o

    by : (o : SetOp) → IsOperand o d → Moves (operation_mode o d m n) (IsBelowIn d) (operation o d (value_in a1) (value_in b1)) (operation o d (value_in a2) (value_in b2))
    by op.Join h = join_moves d lawful (value_in a1) (value_in a2) (value_in b1) (value_in b2) (value_fact d a1 a.low) (value_fact d a2 a.high) (value_fact d b1 b.low) (value_fact d b2 b.high) m n
        (value_moves d m a1 a2 a.moves) (value_moves d n b1 b2 b.moves)
    by op.Union h = in_sets op.Union h
    by op.Inter h = in_sets op.Inter h
    by op.Minus h = in_sets op.Minus h

-- ELEMENTS AND TRUTHS

pub elem_moves : (s : Sort) (m : Mode) (x y : Meaning) → Moves m (IsBelowAs (elements s)) x y → Moves m (λ (a b : Elem). a ≡ b) (elem_in x) (elem_in y)
elem_moves s mode.Fixed x y h = ap elem_in h
elem_moves s mode.Up x y h = ap elem_in h
elem_moves s mode.Down x y h = ap elem_in h
elem_moves s mode.Mixed x y h = tt

may_member_rises : (t : Sort) (e : Elem) (v1 v2 : Value) → IsValueOf (may t) v1 → IsValueOf (may t) v2 → IsBelowIn (may t) v1 v2 → Implies (is_member e (out-Value v1)) (is_member e (out-Value v2))
may_member_rises t e v1 v2 valid1 valid2 h k =
    may_is_member e t (out-Value v2) valid2 ∙ to_has (elems_in (out-Value v2)) (elems_in (out-Value v1)) h e (sym (may_is_member e t (out-Value v1) valid1) ∙ k)

pub member_moves : (d : Domain) → IsSets d → (e1 e2 : Elem) (v1 v2 : Value) → IsValueOf d v1 → IsValueOf d v2 → (me ms : Mode) → Moves me (λ (a b : Elem). a ≡ b) e1 e2 → Moves ms (IsBelowIn d) v1 v2
    → Moves (needs me (cond (is_must d) (turned ms) ms)) Implies (is_member e1 (out-Value v1)) (is_member e2 (out-Value v2))
member_moves _ (of_may t) e1 e2 v1 v2 valid1 valid2 me ms he hs =
    need (λ (a b : Elem). a ≡ b) Implies e1 e2 (is_member e1 (out-Value v1)) (is_member e2 (out-Value v2)) ms
    (λ same. raise (IsBelowIn (may t)) Implies v1 v2 (is_member e1 (out-Value v1)) (is_member e2 (out-Value v2))
    (λ h. subst (λ e. Implies (is_member e1 (out-Value v1)) (is_member e (out-Value v2))) same (may_member_rises t e1 v1 v2 valid1 valid2 h))
    (λ h. subst (λ e. Implies (is_member e (out-Value v2)) (is_member e1 (out-Value v1))) same (may_member_rises t e1 v2 v1 valid2 valid1 h))
    (λ h i. is_member (same i) (out-Value (h i))) ms hs) me he
member_moves _ (of_must t) e1 e2 v1 v2 valid1 valid2 me ms he hs =
    need (λ (a b : Elem). a ≡ b) Implies e1 e2 (is_member e1 (out-Value v1)) (is_member e2 (out-Value v2)) (turned ms)
    (λ same. turn (IsBelowIn (must t)) Implies v1 v2 (is_member e1 (out-Value v1)) (is_member e2 (out-Value v2))
    (λ h. subst (λ e. Implies (is_member e (out-Value v2)) (is_member e1 (out-Value v1))) same (must_member e1 (out-Value v1) (out-Value v2) h))
    (λ h. subst (λ e. Implies (is_member e1 (out-Value v1)) (is_member e (out-Value v2))) same (must_member e1 (out-Value v2) (out-Value v1) h))
    (λ h i. is_member (same i) (out-Value (h i))) ms hs) me he

-- MAPS

pub look_moves : (s : Sort) (d : Domain) (k1 k2 : Elem) (v1 v2 : Value) (mk mm : Mode) → Moves mk (λ (a b : Elem). a ≡ b) k1 k2 → Moves mm (IsBelowIn (map_to s d)) v1 v2
    → Moves (needs mk mm) (IsBelowIn d) (value_or (least_of d) (map_in (out-Value v1)) k1) (value_or (least_of d) (map_in (out-Value v2)) k2)
look_moves s d k1 k2 v1 v2 mk mm hk hm =
    need (λ (a b : Elem). a ≡ b) (IsBelowIn d) k1 k2 (value_or (least_of d) (map_in (out-Value v1)) k1) (value_or (least_of d) (map_in (out-Value v2)) k2) mm
    (λ same. raise (IsBelowIn (map_to s d)) (IsBelowIn d) v1 v2 (value_or (least_of d) (map_in (out-Value v1)) k1) (value_or (least_of d) (map_in (out-Value v2)) k2)
    (λ h. subst (λ k. IsBelowIn d (value_or (least_of d) (map_in (out-Value v1)) k1) (value_or (least_of d) (map_in (out-Value v2)) k)) same (h k1))
    (λ h. subst (λ k. IsBelowIn d (value_or (least_of d) (map_in (out-Value v2)) k) (value_or (least_of d) (map_in (out-Value v1)) k1)) same (h k1))
    (λ h i. value_or (least_of d) (map_in (out-Value (h i))) (same i)) mm hm) mk hk

-- a map with a key's value replaced
abbrev pub put : Domain → Value → Elem → Value → Value
put d m k v = value.Map (entries_of (updated d (map_in (out-Value m)) k v))

put_rises : (s : Sort) (d : Domain) (k : Elem) (m1 m2 v1 v2 : Value) → IsValueOf d v1 → IsValueOf d v2 → IsBelowIn (map_to s d) m1 m2 → IsBelowIn d v1 v2 → IsBelowIn (map_to s d) (put d m1 k v1) (put d m2 k v2)
put_rises s d k m1 m2 v1 v2 valid1 valid2 h below q =
    subst (λ x. IsBelowIn d (value_or (least_of d) x q) (value_or (least_of d) (map_in (out-Value (put d m2 k v2))) q)) (sym (map_back (updated d (map_in (out-Value m1)) k v1)))
    (subst (λ y. IsBelowIn d (value_or (least_of d) (updated d (map_in (out-Value m1)) k v1) q) (value_or (least_of d) y q)) (sym (map_back (updated d (map_in (out-Value m2)) k v2)))
    (update_rises d (map_in (out-Value m1)) (map_in (out-Value m2)) k v1 v2 valid1 valid2 h below q))

pub update_moves : (s : Sort) (d : Domain) → IsLawful d → (k1 k2 : Elem) (m1 m2 v1 v2 : Value) → IsValueOf (map_to s d) m1 → IsValueOf d v1 → IsValueOf d v2 → (mk mm mv : Mode)
    → Moves mk (λ (a b : Elem). a ≡ b) k1 k2 → Moves mm (IsBelowIn (map_to s d)) m1 m2 → Moves mv (IsBelowIn d) v1 v2 → Moves (needs mk (combined mm mv)) (IsBelowIn (map_to s d)) (put d m1 k1 v1) (put d m2 k2 v2)
update_moves s d lawful k1 k2 m1 m2 v1 v2 valid_map valid1 valid2 mk mm mv hk hm hv =
    need (λ (a b : Elem). a ≡ b) (IsBelowIn (map_to s d)) k1 k2 (put d m1 k1 v1) (put d m2 k2 v2) (combined mm mv)
    (λ same. combine (IsBelowIn (map_to s d)) (IsBelowIn d) (IsBelowIn (map_to s d)) m1 m2 v1 v2 (put d m1 k1 v1) (put d m2 k2 v2) (λ q. (order_of (map_to s d) lawful).reflexive m1 valid_map q) ((order_of d lawful).reflexive v1 valid1)
    (λ h k. subst (λ x. IsBelowIn (map_to s d) (put d m1 k1 v1) (put d m2 x v2)) same (put_rises s d k1 m1 m2 v1 v2 valid1 valid2 h k))
    (λ h k. subst (λ x. IsBelowIn (map_to s d) (put d m2 x v2) (put d m1 k1 v1)) same (put_rises s d k1 m2 m1 v2 v1 valid2 valid1 h k))
    (λ h k i. put d (h i) (same i) (k i)) mm mv hm hv) mk hk

-- CONDITIONS

-- each meaning in a range is below itself
pub itself_as : (r : Range) → IsLawful (domain_in r) → (x : Meaning) → IsIn r x → IsBelowAs r x x
itself_as (values d) lawful x h = (order_of d lawful).reflexive (value_in x) (value_fact d x h)
itself_as (elements s) lawful x h = refl
itself_as truths lawful x h = λ e. e

abbrev chosen_by : Bool → Meaning → Meaning → Meaning
chosen_by t a b = cond t a b

branch_below : (r : Range) (t : Bool) (a1 a2 b1 b2 : Meaning) → IsBelowAs r a1 a2 → IsBelowAs r b1 b2 → IsBelowAs r (chosen_by t a1 b1) (chosen_by t a2 b2)
branch_below r true a1 a2 b1 b2 h k = h
branch_below r false a1 a2 b1 b2 h k = k

pub branch_moves : (r : Range) → IsLawful (domain_in r) → (c1 c2 a1 a2 b1 b2 : Meaning) → IsIn r a1 → IsIn r b1 → (mc ma mb : Mode) → Moves mc (IsBelowAs truths) c1 c2 → Moves ma (IsBelowAs r) a1 a2 → Moves mb (IsBelowAs r) b1 b2
    → Moves (needs mc (combined ma mb)) (IsBelowAs r) (cond (truth_in c1) a1 b1) (cond (truth_in c2) a2 b2)
branch_moves r lawful c1 c2 a1 a2 b1 b2 va vb mc ma mb hc ha hb =
    need (IsBelowAs truths) (IsBelowAs r) c1 c2 (cond (truth_in c1) a1 b1) (cond (truth_in c2) a2 b2) (combined ma mb)
    (λ same. combine (IsBelowAs r) (IsBelowAs r) (IsBelowAs r) a1 a2 b1 b2 (cond (truth_in c1) a1 b1) (cond (truth_in c2) a2 b2) (itself_as r lawful a1 va) (itself_as r lawful b1 vb)
    (λ h k. subst (λ c. IsBelowAs r (cond (truth_in c1) a1 b1) (cond (truth_in c) a2 b2)) same (branch_below r (truth_in c1) a1 a2 b1 b2 h k))
    (λ h k. subst (λ c. IsBelowAs r (cond (truth_in c) a2 b2) (cond (truth_in c1) a1 b1)) same (branch_below r (truth_in c1) a2 a1 b2 b1 h k))
    (λ h k i. cond (truth_in (same i)) (h i) (k i)) ma mb ha hb) mc hc

value_of_cond : (t : Bool) (a : Meaning) (v : Value) → value_in (cond t a (a_value v)) ≡ cond t (value_in a) v
value_of_cond true a v = refl
value_of_cond false a v = refl

guard_below : (d : Domain) → IsLawful d → (c1 c2 a1 a2 : Meaning) → IsIn (values d) a2 → IsBelowAs truths c1 c2 → IsBelowAs (values d) a1 a2
    → IsBelowAs (values d) (cond (truth_in c1) a1 (a_value (least_of d))) (cond (truth_in c2) a2 (a_value (least_of d)))
guard_below d lawful c1 c2 a1 a2 valid h k =
    subst (λ v. IsBelowIn d v (value_in (cond (truth_in c2) a2 (a_value (least_of d))))) (sym (value_of_cond (truth_in c1) a1 (least_of d)))
    (subst (IsBelowIn d (cond (truth_in c1) (value_in a1) (least_of d))) (sym (value_of_cond (truth_in c2) a2 (least_of d)))
    (guard_rises d lawful (truth_in c1) (truth_in c2) (value_in a1) (value_in a2) (value_fact d a2 valid) h k))

pub guard_moves : (d : Domain) → IsLawful d → (c1 c2 a1 a2 : Meaning) → IsIn (values d) a1 → IsIn (values d) a2 → (mc ma : Mode) → Moves mc (IsBelowAs truths) c1 c2 → Moves ma (IsBelowAs (values d)) a1 a2
    → Moves (combined mc ma) (IsBelowAs (values d)) (cond (truth_in c1) a1 (a_value (least_of d))) (cond (truth_in c2) a2 (a_value (least_of d)))
guard_moves d lawful c1 c2 a1 a2 valid1 valid2 mc ma hc ha =
    combine (IsBelowAs truths) (IsBelowAs (values d)) (IsBelowAs (values d)) c1 c2 a1 a2 (cond (truth_in c1) a1 (a_value (least_of d))) (cond (truth_in c2) a2 (a_value (least_of d)))
    (λ e. e) (itself_as (values d) lawful a1 valid1) (guard_below d lawful c1 c2 a1 a2 valid2) (guard_below d lawful c2 c1 a2 a1 valid1) (λ h k i. cond (truth_in (h i)) (k i) (a_value (least_of d))) mc ma hc ha
