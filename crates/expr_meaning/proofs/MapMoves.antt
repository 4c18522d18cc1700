-- Maps of keys and values follow the values.
use Rattle.std.proofs.Common.{◌≡◌, Bool, true, false, cond, List, [], ◌∷◌, Option, Some, None, refl, sym, ap, subst, ◌∙◌}
use Rattle.std.specs.Prelude.{unwrap_or, ⊤}
use Rattle.std.specs.Ordering.{eq_by_cmp}
use Rattle.std.specs.BTreeMap.{insert_entry}
use Rattle.flow_term.specs.declared.elem.Elem.{Elem}
use Rattle.flow_term.specs.declared.value.Value.{Value, out-Value}
use Rattle.flow_term.specs.declared.value.Value.TheVariants as value
use Rattle.flow_term.specs.Elements.{elem_cmp}
use Rattle.flow_syntax.specs.declared.property.Mode.{Mode}
use Rattle.flow_syntax.specs.declared.property.Mode.TheVariants as mode
use Rattle.flow_syntax.specs.Types.{Sort}
use Rattle.value_domains.specs.Values.{map_in, value_at, value_or, joined_to, entries_of}
use Rattle.lattice_sets.specs.MapLaws.{value_insert}
use Rattle.lattice_sets.specs.SetLaws.{same_tied}
use Rattle.value_domains.specs.inner.Elements.{elem_total, elem_exact}
use Rattle.value_domains.specs.Lawful.{IsLawful}
use Rattle.value_domains.specs.inner.DomainLaws.{domain_laws}
use Rattle.value_domains.specs.Domains.{Domain, map_to, IsValueOf, least_of, joined_of, IsBelowIn}
use Rattle.expr_meaning.specs.Meaning.{is_least, joined_in, map_of, key_values}
use Rattle.expr_meaning.specs.Modes.{needs}
use Rattle.expr_meaning.specs.Monotone.{Moves}
use Rattle.expr_meaning.proofs.ValueForms.{order_of, join_rises, is_least_right, MapBelow, map_back}

-- each value of a map is one of the domain, and an absent key stands for the least
abbrev pub PointsIn : Domain → List (Elem × Value) → Type 0
PointsIn d m = (q : Elem) → IsValueOf d (value_or (least_of d) m q)

module _ (d : Domain) (lawful : IsLawful d) where
  joined_least : (u : Value) → IsValueOf d u → joined_of d u (least_of d) ≡ u
  joined_least u h = let l = domain_laws d lawful in l.commutative u (least_of d) h l.least_valid ∙ l.neutral u h

  -- the value at a key after another is joined in
  pub value_joined : (m : List (Elem × Value)) (k : Elem) (v : Value) → PointsIn d m → IsValueOf d v → (q : Elem)
      → value_or (least_of d) (joined_in d m k v) q ≡ cond (eq_by_cmp elem_cmp q k) (joined_of d (value_or (least_of d) m k) v) (value_or (least_of d) m q)
  value_joined m k v points valid q = by (is_least d v) refl
    where
      stays : (b : Bool) → eq_by_cmp elem_cmp q k ≡ b → v ≡ least_of d → value_or (least_of d) m q ≡ cond b (joined_of d (value_or (least_of d) m k) v) (value_or (least_of d) m q)
      stays true e is = ap (value_or (least_of d) m) (same_tied elem_cmp elem_total elem_exact q k e) ∙ sym (ap (joined_of d (value_or (least_of d) m k)) is ∙ joined_least (value_or (least_of d) m k) (points k))
      stays false e is = refl

      with_entry : (o : Option Value) → joined_to (joined_of d) o v ≡ joined_of d (unwrap_or o (least_of d)) v
      with_entry None = sym ((domain_laws d lawful).neutral v valid)
      with_entry (Some u) = refl

      put_in : (b : Bool) → unwrap_or (cond b (Some (joined_to (joined_of d) (value_at m k) v)) (value_at m q)) (least_of d) ≡ cond b (joined_of d (value_or (least_of d) m k) v) (value_or (least_of d) m q)
      put_in true = with_entry (value_at m k)
      put_in false = refl

      by : (b : Bool) → is_least d v ≡ b → value_or (least_of d) (cond b m (insert_entry elem_cmp m k (joined_to (joined_of d) (value_at m k) v))) q ≡ cond (eq_by_cmp elem_cmp q k) (joined_of d (value_or (least_of d) m k) v) (value_or (least_of d) m q)
      by true e = stays (eq_by_cmp elem_cmp q k) refl (is_least_right d v valid e)
      by false e = ap (λ o. unwrap_or o (least_of d)) (value_insert elem_cmp elem_total elem_exact k (joined_to (joined_of d) (value_at m k) v) m q) ∙ put_in (eq_by_cmp elem_cmp q k)

  points_joined : (m : List (Elem × Value)) (k : Elem) (v : Value) → PointsIn d m → IsValueOf d v → PointsIn d (joined_in d m k v)
  points_joined m k v points valid q = subst (IsValueOf d) (sym (value_joined m k v points valid q)) (by (eq_by_cmp elem_cmp q k))
    where
      by : (b : Bool) → IsValueOf d (cond b (joined_of d (value_or (least_of d) m k) v) (value_or (least_of d) m q))
      by true = (domain_laws d lawful).joined_valid (value_or (least_of d) m k) v (points k) valid
      by false = points q

  joined_below : (m1 m2 : List (Elem × Value)) (k : Elem) (v1 v2 : Value) → PointsIn d m1 → PointsIn d m2 → IsValueOf d v1 → IsValueOf d v2 → MapBelow d m1 m2 → IsBelowIn d v1 v2 → MapBelow d (joined_in d m1 k v1) (joined_in d m2 k v2)
  joined_below m1 m2 k v1 v2 p1 p2 valid1 valid2 h below q =
      subst (λ x. IsBelowIn d x (value_or (least_of d) (joined_in d m2 k v2) q)) (sym (value_joined m1 k v1 p1 valid1 q))
      (subst (IsBelowIn d (cond (eq_by_cmp elem_cmp q k) (joined_of d (value_or (least_of d) m1 k) v1) (value_or (least_of d) m1 q))) (sym (value_joined m2 k v2 p2 valid2 q)) (by (eq_by_cmp elem_cmp q k)))
    where
      by : (b : Bool) → IsBelowIn d (cond b (joined_of d (value_or (least_of d) m1 k) v1) (value_or (least_of d) m1 q)) (cond b (joined_of d (value_or (least_of d) m2 k) v2) (value_or (least_of d) m2 q))
      by true = join_rises d lawful (value_or (least_of d) m1 k) (value_or (least_of d) m2 k) v1 v2 (p1 k) (p2 k) valid1 valid2 (h k) below
      by false = h q

  -- values of the domain, each below the one at its place
  abbrev pub AllBelow : List Value → List Value → Type 0
  AllBelow [] [] = ⊤
  AllBelow (v ∷ vs) (w ∷ ws) = IsValueOf d v × IsValueOf d w × IsBelowIn d v w × AllBelow vs ws
  AllBelow _ _ = ⊥

  pub map_rises : (ks : List Elem) (vs ws : List Value) (m1 m2 : List (Elem × Value)) → PointsIn d m1 → PointsIn d m2 → MapBelow d m1 m2 → AllBelow vs ws → MapBelow d (map_of d m1 (key_values ks vs)) (map_of d m2 (key_values ks ws))
  map_rises [] vs ws m1 m2 p1 p2 h below = h
  map_rises (k ∷ ks) [] [] m1 m2 p1 p2 h below = h
  map_rises (k ∷ ks) (v ∷ vs) (w ∷ ws) m1 m2 p1 p2 h below =
      map_rises ks vs ws (joined_in d m1 k v) (joined_in d m2 k w) (points_joined m1 k v p1 below.0) (points_joined m2 k w p2 below.1) (joined_below m1 m2 k v w p1 p2 below.0 below.1 h below.2) below.3
  map_rises (k ∷ ks) [] (w ∷ ws) m1 m2 p1 p2 h below = absurd below
  map_rises (k ∷ ks) (v ∷ vs) [] m1 m2 p1 p2 h below = absurd below

  -- the value of a map of keys and values
  abbrev pub map_value : List Elem → List Value → Value
  map_value ks vs = value.Map (entries_of (map_of d [] (key_values ks vs)))

  pub made_rises : (s : Sort) (ks : List Elem) (vs ws : List Value) → AllBelow vs ws → IsBelowIn (map_to s d) (map_value ks vs) (map_value ks ws)
  made_rises s ks vs ws below q =
      subst (λ x. IsBelowIn d (value_or (least_of d) x q) (value_or (least_of d) (map_in (out-Value (map_value ks ws))) q)) (sym (map_back (map_of d [] (key_values ks vs))))
      (subst (λ y. IsBelowIn d (value_or (least_of d) (map_of d [] (key_values ks vs)) q) (value_or (least_of d) y q)) (sym (map_back (map_of d [] (key_values ks ws))))
      (map_rises ks vs ws [] [] (λ q. (domain_laws d lawful).least_valid) (λ q. (domain_laws d lawful).least_valid) (λ q. (order_of d lawful).reflexive (least_of d) (domain_laws d lawful).least_valid) below q))

pub list_needed : {C : Type 0} (Q : C → C → Type 0) (c1 c2 : C) (m n : Mode) → (m ≡ mode.Fixed → Moves n Q c1 c2) → Moves (needs m n) Q c1 c2
list_needed Q c1 c2 mode.Fixed n f = f refl
list_needed Q c1 c2 mode.Up n f = tt
list_needed Q c1 c2 mode.Down n f = tt
list_needed Q c1 c2 mode.Mixed n f = tt
