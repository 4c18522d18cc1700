-- The laws of maps, over the laws of their values.
use Rattle.std.proofs.Common.{◌≡◌, ◌↔◌, Bool, true, false, cond, ◌&&◌, T, List, [], ◌∷◌, Option, Some, None, refl, sym, ap, ◌∙◌, subst}
use Rattle.std.specs.Prelude.{⊤, unwrap_or, All}
use Rattle.std.specs.declared.cmp.Ordering.{Ordering}
use Rattle.std.specs.declared.cmp.Ordering.TheVariants.{Less, Equal, Greater}
use Rattle.std.specs.Ordering.{eq_by_cmp, is_eq, is_lt, match_ordering}
use Rattle.std.specs.FinMap.Entries.{find, is_sorted, below_all, same_entries}
use Rattle.std.specs.Cmp.{IsTotalOrder, tied_itself}
use Rattle.std.specs.List.Sorted.{IsStrictlySortedBy}
use Rattle.std.specs.Map.{keys_of, values_of}
use Rattle.std.specs.BTreeSet.{insert_key}
use Rattle.std.specs.BTreeMap.{insert_entry}
use Rattle.std.proofs.lemmas.List.Elements.{All-nil, All-head, All-tail}
use Rattle.std.proofs.lemmas.Map.Views.{All-values-insert_entry}
use Rattle.lattice_base.specs.Laws.{JoinLaws, OrderLaw}
use Rattle.lattice_sets.specs.Maps.{IsMap, IsBelowMap, IsPointwise, joined_to, map_join, value_at, value_or}
use Rattle.lattice_sets.specs.SetLaws.{greater≢equal, Above, same_tied, rising_insert, rising_nothing}

-- a value that may be absent is kept where it is valid and isn't the least
abbrev pub IsKept : {V : Type 0} → (V → Type 0) → V → Option V → Type 0
IsKept Valid least None = ⊤
IsKept Valid least (Some v) = Valid v × (v ≡ least → ⊥)

-- the join of two values that may be absent
abbrev pub option_join : {V : Type 0} → (V → V → V) → Option V → Option V → Option V
option_join joined None b = b
option_join joined (Some v) None = Some v
option_join joined (Some v) (Some w) = Some (joined v w)

same_value : {V : Type 0} (v w : V) → Some v ≡ Some w → v ≡ w
same_value v w e = cc

some≢none : {V : Type 0} (v : V) → Some v ≡ None → ⊥
some≢none v e = cc

module _ {V : Type 0} (Valid : V → Type 0) (least : V) (joined : V → V → V) (laws : JoinLaws Valid least joined) where
  -- what is joined to the least value stays
  joined_least : (v : V) → Valid v → joined v least ≡ v
  joined_least v valid = laws.commutative v least valid laws.least_valid ∙ laws.neutral v valid

  -- a join is the least value only where both are
  least_part : (v w : V) → Valid v → Valid w → joined v w ≡ least → v ≡ least
  least_part v w a b e =
      sym (joined_least v a) ∙ ap (joined v) (sym e) ∙ sym (laws.associative v v w a a b) ∙ ap (λ x. joined x w) (laws.idempotent v a) ∙ e

  pub kept_join : (a b : Option V) → IsKept Valid least a → IsKept Valid least b → IsKept Valid least (option_join joined a b)
  kept_join None b ka kb = kb
  kept_join (Some v) None ka kb = ka
  kept_join (Some v) (Some w) ka kb = (laws.joined_valid v w ka.0 kb.0, λ e. ka.1 (least_part v w ka.0 kb.0 e))

  option_itself : (a : Option V) → IsKept Valid least a → option_join joined a a ≡ a
  option_itself None ka = refl
  option_itself (Some v) ka = ap Some (laws.idempotent v ka.0)

  option_commutes : (a b : Option V) → IsKept Valid least a → IsKept Valid least b → option_join joined a b ≡ option_join joined b a
  option_commutes None None ka kb = refl
  option_commutes None (Some w) ka kb = refl
  option_commutes (Some v) None ka kb = refl
  option_commutes (Some v) (Some w) ka kb = ap Some (laws.commutative v w ka.0 kb.0)

  option_associates : (a b c : Option V) → IsKept Valid least a → IsKept Valid least b → IsKept Valid least c → option_join joined (option_join joined a b) c ≡ option_join joined a (option_join joined b c)
  option_associates None b c ka kb kc = refl
  option_associates (Some v) None c ka kb kc = refl
  option_associates (Some v) (Some w) None ka kb kc = refl
  option_associates (Some v) (Some w) (Some x) ka kb kc = ap Some (laws.associative v w x ka.0 kb.0 kc.0)

  -- an absent value joins as the least one
  pub option_pointwise : (a b : Option V) → IsKept Valid least a → IsKept Valid least b → unwrap_or (option_join joined a b) least ≡ joined (unwrap_or a least) (unwrap_or b least)
  option_pointwise None None ka kb = sym (laws.idempotent least laws.least_valid)
  option_pointwise None (Some w) ka kb = sym (laws.neutral w kb.0)
  option_pointwise (Some v) None ka kb = sym (joined_least v ka.0)
  option_pointwise (Some v) (Some w) ka kb = refl

  module _ (Below : V → V → Type 0) (order : OrderLaw Valid joined Below) where
    option_order : (a b : Option V) → IsKept Valid least a → IsKept Valid least b → Below (unwrap_or a least) (unwrap_or b least) ↔ (option_join joined a b ≡ b)
    option_order None None ka kb = (λ h. refl, λ e. (order least least laws.least_valid laws.least_valid).1 (laws.neutral least laws.least_valid))
    option_order None (Some w) ka kb = (λ h. refl, λ e. (order least w laws.least_valid kb.0).1 (laws.neutral w kb.0))
    option_order (Some v) None ka kb = (
      λ h. absurd (ka.1 (sym (joined_least v ka.0) ∙ (order v least ka.0 laws.least_valid).0 h)),
      λ e. absurd (some≢none v e),
    )
    option_order (Some v) (Some w) ka kb = (λ h. ap Some ((order v w ka.0 kb.0).0 h), λ e. (order v w ka.0 kb.0).1 (same_value (joined v w) w e))

-- the entry of an absent value, and of one that is there
joined_option : {V : Type 0} (joined : V → V → V) (a : Option V) (w : V) → Some (joined_to joined a w) ≡ option_join joined a (Some w)
joined_option joined None w = refl
joined_option joined (Some v) w = refl

option_none : {V : Type 0} (joined : V → V → V) (a : Option V) → option_join joined a None ≡ a
option_none joined None = refl
option_none joined (Some v) = refl

shadowed : {A : Type 0} (b : Bool) (x y z : A) → cond b x z ≡ cond b x (cond b y z)
shadowed true x y z = refl
shadowed false x y z = refl

swapped : {A : Type 0} (a b : Bool) (x y z : A) → (a ≡ true → b ≡ true → ⊥) → cond a x (cond b y z) ≡ cond b y (cond a x z)
swapped true true x y z apart = absurd (apart refl refl)
swapped true false x y z apart = refl
swapped false b x y z apart = refl

both_hold : (a b : Bool) → T a → T b → T (a && b)
both_hold true b h k = k
both_hold false b h k = absurd h

module _ {K V : Type 0} (R : K → K → Ordering) (o : IsTotalOrder R) (exact : (x y : K) → R x y ≡ Equal → x ≡ y) where
  pub keys_insert : (k : K) (v : V) (es : List (K × V)) → keys_of (insert_entry R es k v) ≡ insert_key R (keys_of es) k
  keys_insert k v [] = refl
  keys_insert k v (e ∷ es) =
      elim (R k e.0) as (λ r. keys_of (match_ordering r ((k, v) ∷ e ∷ es) ((e.0, v) ∷ es) (e ∷ insert_entry R es k v)) ≡ match_ordering r (k ∷ e.0 ∷ keys_of es) (e.0 ∷ keys_of es) (e.0 ∷ insert_key R (keys_of es) k)) [
        | Less ↦ refl
        | Equal ↦ refl
        | Greater ↦ ap (λ ks. e.0 ∷ ks) (keys_insert k v es)
      ]

  pub rising_entry : (k : K) (v : V) (es : List (K × V)) → IsStrictlySortedBy R (keys_of es) → IsStrictlySortedBy R (keys_of (insert_entry R es k v))
  rising_entry k v es h = subst (IsStrictlySortedBy R) (sym (keys_insert k v es)) (rising_insert R o k (keys_of es) h)

  pub value_insert : (k : K) (v : V) (es : List (K × V)) (q : K) → value_at R (insert_entry R es k v) q ≡ cond (eq_by_cmp R q k) (Some v) (value_at R es q)
  value_insert k v [] q = refl
  value_insert k v (e ∷ es) q =
      elim (R k e.0) as (λ r. R k e.0 ≡ r → value_at R (match_ordering r ((k, v) ∷ e ∷ es) ((e.0, v) ∷ es) (e ∷ insert_entry R es k v)) q ≡ cond (eq_by_cmp R q k) (Some v) (cond (eq_by_cmp R q e.0) (Some e.1) (value_at R es q))) [
        | Less ↦ λ p. refl
        | Equal ↦ λ p. shadowed (eq_by_cmp R q e.0) (Some v) (Some e.1) (value_at R es q) ∙ ap (λ z. cond (eq_by_cmp R q z) (Some v) (cond (eq_by_cmp R q e.0) (Some e.1) (value_at R es q))) (sym (exact k e.0 p))
        | Greater ↦ λ p. ap (λ z. cond (eq_by_cmp R q e.0) (Some e.1) z) (value_insert k v es q) ∙ swapped (eq_by_cmp R q e.0) (eq_by_cmp R q k) (Some e.1) (Some v) (value_at R es q)
            (λ a b. greater≢equal (sym p ∙ ap (R k) (sym (same_tied R o exact q e.0 a) ∙ same_tied R o exact q k b) ∙ tied_itself o k))
      ] refl

  -- a key below all others is absent
  pub value_below : (q : K) (es : List (K × V)) → Above R q (keys_of es) → value_at R es q ≡ None
  value_below q [] h = refl
  value_below q (e ∷ es) h = ap (λ r. cond (is_eq r) (Some e.1) (value_at R es q)) h.0 ∙ value_below q es h.1

  -- -- std's look-up in a list of entries, and its test of their order

  find_is : (q : K) (es : List (K × V)) → find R q es ≡ value_at R es q
  find_is q [] = refl
  find_is q (e ∷ es) = ap (λ z. cond (eq_by_cmp R q e.0) (Some e.1) z) (find_is q es)

  all_below : (k : K) (es : List (K × V)) → Above R k (keys_of es) → T (below_all R k es)
  all_below k [] h = tt
  all_below k (e ∷ es) h = both_hold (is_lt (R k e.0)) (below_all R k es) (subst (λ r. T (is_lt r)) (sym h.0) tt) (all_below k es h.1)

  entries_sorted : (es : List (K × V)) → IsStrictlySortedBy R (keys_of es) → T (is_sorted R es)
  unfolding IsStrictlySortedBy
  entries_sorted [] h = tt
  entries_sorted (e ∷ es) h = both_hold (below_all R e.0 es) (is_sorted R es) (all_below e.0 es h.0) (entries_sorted es h.1)

  -- maps with the same value at each key are equal
  pub same_maps : (a b : List (K × V)) → IsStrictlySortedBy R (keys_of a) → IsStrictlySortedBy R (keys_of b) → ((q : K) → value_at R a q ≡ value_at R b q) → a ≡ b
  same_maps a b ra rb same = same_entries R o exact a b (entries_sorted a ra) (entries_sorted b rb) (λ q. find_is q a ∙ same q ∙ sym (find_is q b))

  module _ (joined : V → V → V) where
    pub rising_join : (a b : List (K × V)) → IsStrictlySortedBy R (keys_of a) → IsStrictlySortedBy R (keys_of (map_join R joined a b))
    rising_join a [] h = h
    rising_join a (e ∷ es) h = rising_join (insert_entry R a e.0 (joined_to joined (value_at R a e.0) e.1)) es (rising_entry e.0 (joined_to joined (value_at R a e.0) e.1) a h)

    pub value_join : (a b : List (K × V)) → IsStrictlySortedBy R (keys_of b) → (q : K) → value_at R (map_join R joined a b) q ≡ option_join joined (value_at R a q) (value_at R b q)
    unfolding IsStrictlySortedBy
    value_join a [] h q = sym (option_none joined (value_at R a q))
    value_join a (e ∷ es) h q =
        let w = joined_to joined (value_at R a e.0) e.1 in
        value_join (insert_entry R a e.0 w) es h.1 q ∙ ap (λ z. option_join joined z (value_at R es q)) (value_insert e.0 w a q)
        ∙ elim (eq_by_cmp R q e.0) as (λ t. eq_by_cmp R q e.0 ≡ t → option_join joined (cond t (Some w) (value_at R a q)) (value_at R es q) ≡ option_join joined (value_at R a q) (cond t (Some e.1) (value_at R es q))) [
          | true ↦ λ t.
              let same : q ≡ e.0 = same_tied R o exact q e.0 t in
              ap (option_join joined (Some w)) (ap (value_at R es) same ∙ value_below e.0 es h.0) ∙ joined_option joined (value_at R a e.0) e.1 ∙ ap (λ z. option_join joined (value_at R a z) (Some e.1)) (sym same)
          | false ↦ λ t. refl
        ] refl

module _ {K V : Type 0} (R : K → K → Ordering) (o : IsTotalOrder R) (exact : (x y : K) → R x y ≡ Equal → x ≡ y) (Valid : V → Type 0) (least : V) (joined : V → V → V) (laws : JoinLaws Valid least joined) where
  pub kept_value : (m : List (K × V)) → All (λ v. Valid v × (v ≡ least → ⊥)) (values_of m) → (q : K) → IsKept Valid least (value_at R m q)
  kept_value [] h q = tt
  kept_value (e ∷ es) h q =
      elim (eq_by_cmp R q e.0) as (λ t. IsKept Valid least (cond t (Some e.1) (value_at R es q))) [
        | true ↦ All-head (λ v. Valid v × (v ≡ least → ⊥)) e.1 (values_of es) h
        | false ↦ kept_value es (All-tail (λ v. Valid v × (v ≡ least → ⊥)) e.1 (values_of es) h) q
      ]

  kept_joined : (a b : List (K × V)) → All (λ v. Valid v × (v ≡ least → ⊥)) (values_of a) → All (λ v. Valid v × (v ≡ least → ⊥)) (values_of b) → All (λ v. Valid v × (v ≡ least → ⊥)) (values_of (map_join R joined a b))
  kept_joined a [] ha hb = ha
  kept_joined a (e ∷ es) ha hb =
      let w = joined_to joined (value_at R a e.0) e.1 in
      let kept : IsKept Valid least (Some w) = subst (IsKept Valid least) (sym (joined_option joined (value_at R a e.0) e.1))
      (kept_join Valid least joined laws (value_at R a e.0) (Some e.1) (kept_value a ha e.0) (All-head (λ v. Valid v × (v ≡ least → ⊥)) e.1 (values_of es) hb)) in
      kept_joined (insert_entry R a e.0 w) es (All-values-insert_entry R e.0 w (λ v. Valid v × (v ≡ least → ⊥)) a ha kept) (All-tail (λ v. Valid v × (v ≡ least → ⊥)) e.1 (values_of es) hb)

  pub map_joined : (a b : List (K × V)) → IsMap R Valid least a → IsMap R Valid least b → IsMap R Valid least (map_join R joined a b)
  map_joined a b ma mb = record { rising = rising_join R o exact joined a b ma.rising; kept = kept_joined a b ma.kept mb.kept }

  pub map_laws : JoinLaws {V = List (K × V)} (IsMap R Valid least) [] (map_join R joined)
  map_laws = record {
    least_valid = record { rising = rising_nothing R o; kept = All-nil (λ v. Valid v × (v ≡ least → ⊥)) };
    joined_valid = map_joined;
    idempotent = λ a ma. same_maps R o exact (map_join R joined a a) a (rising_join R o exact joined a a ma.rising) ma.rising
        (λ q. value_join R o exact joined a a ma.rising q ∙ option_itself Valid least joined laws (value_at R a q) (kept_value a ma.kept q));
    commutative = λ a b ma mb. same_maps R o exact (map_join R joined a b) (map_join R joined b a) (rising_join R o exact joined a b ma.rising) (rising_join R o exact joined b a mb.rising)
        (λ q. value_join R o exact joined a b mb.rising q ∙ option_commutes Valid least joined laws (value_at R a q) (value_at R b q) (kept_value a ma.kept q) (kept_value b mb.kept q)
        ∙ sym (value_join R o exact joined b a ma.rising q));
    associative = λ a b c ma mb mc.
        let bc = map_joined b c mb mc in
        same_maps R o exact (map_join R joined (map_join R joined a b) c) (map_join R joined a (map_join R joined b c))
        (rising_join R o exact joined (map_join R joined a b) c (rising_join R o exact joined a b ma.rising)) (rising_join R o exact joined a (map_join R joined b c) ma.rising)
        (λ q. value_join R o exact joined (map_join R joined a b) c mc.rising q ∙ ap (λ z. option_join joined z (value_at R c q)) (value_join R o exact joined a b mb.rising q)
        ∙ option_associates Valid least joined laws (value_at R a q) (value_at R b q) (value_at R c q) (kept_value a ma.kept q) (kept_value b mb.kept q) (kept_value c mc.kept q)
        ∙ ap (option_join joined (value_at R a q)) (sym (value_join R o exact joined b c mc.rising q)) ∙ sym (value_join R o exact joined a (map_join R joined b c) bc.rising q));
    neutral = λ a ma. same_maps R o exact (map_join R joined [] a) a (rising_join R o exact joined [] a (rising_nothing R o)) ma.rising (λ q. value_join R o exact joined [] a ma.rising q);
  }

  pub map_pointwise : IsPointwise R Valid least joined (map_join R joined)
  map_pointwise a b ma mb q = ap (λ z. unwrap_or z least) (value_join R o exact joined a b mb.rising q) ∙ option_pointwise Valid least joined laws (value_at R a q) (value_at R b q) (kept_value a ma.kept q) (kept_value b mb.kept q)

  module _ (Below : V → V → Type 0) (order : OrderLaw Valid joined Below) where
    at_key : (a b : List (K × V)) → IsMap R Valid least a → IsMap R Valid least b → (q : K) → Below (value_or R least a q) (value_or R least b q) ↔ (option_join joined (value_at R a q) (value_at R b q) ≡ value_at R b q)
    at_key a b ma mb q = option_order Valid least joined laws Below order (value_at R a q) (value_at R b q) (kept_value a ma.kept q) (kept_value b mb.kept q)

    -- the order at each key is the order by the join
    pub map_order : OrderLaw {V = List (K × V)} (IsMap R Valid least) (map_join R joined) (IsBelowMap R least Below)
    map_order a b ma mb = (
      λ h. same_maps R o exact (map_join R joined a b) b (rising_join R o exact joined a b ma.rising) mb.rising (λ q. value_join R o exact joined a b mb.rising q ∙ (at_key a b ma mb q).0 (h q)),
      λ e q. (at_key a b ma mb q).1 (sym (value_join R o exact joined a b mb.rising q) ∙ ap (λ m. value_at R m q) e),
    )
