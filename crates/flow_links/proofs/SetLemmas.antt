-- What an ordered set gains by an insertion.
use Rattle.std.proofs.Common.{◌≡◌, ◌<◌, Bool, true, false, cond, List, [], ◌∷◌, arith, refl, sym, ap, ◌∙◌, inl, inr, true≢false}
use Rattle.std.specs.Prelude.{◌⊎◌, ◌↔◌, Contains}
use Rattle.std.specs.List.{AllByRecursion}
use Rattle.std.specs.List.Sorted.{IsStrictlySortedBy}
use Rattle.flow_links.specs.inner.Gains.{Gains}
use Rattle.std.specs.Ordering.{is_eq}
use Rattle.std.specs.Cmp.{IsTotalOrder, Equal-is, tied_itself}
use Rattle.std.specs.declared.cmp.Ordering.{Ordering}
use Rattle.std.specs.declared.cmp.Ordering.TheVariants.{Less, Equal}
use Rattle.std.specs.BTreeSet.{BTreeSet, contains, Updates}
use Rattle.std.proofs.lemmas.Map.Views.{btree_set_contains_iff}

gains_at : {K : Type 0} {R : K → K → Ordering} → IsTotalOrder R → ((x y : K) → R x y ≡ Equal → x ≡ y) → (old new : BTreeSet K) (key : K) → Updates R old new key true
    → (x : K) → Contains new.keys x ↔ (Contains old.keys x ⊎ (x ≡ key))
gains_at {K} {R} total exact old new key updates x = (
  λ h. forth (is_eq (R key x)) refl (sym (updates.0 x) ∙ (btree_set_contains_iff total exact new x).1 h),
  λ h. (btree_set_contains_iff total exact new x).0 (updates.0 x ∙ back (is_eq (R key x)) refl h),
)
  where
    forth : (b : Bool) → is_eq (R key x) ≡ b → cond b true (contains R old x) ≡ true → Contains old.keys x ⊎ (x ≡ key)
    forth true e h = inr (sym (exact key x ((Equal-is (R key x)).0 e)))
    forth false e h = inl ((btree_set_contains_iff total exact old x).0 h)

    back : (b : Bool) → is_eq (R key x) ≡ b → Contains old.keys x ⊎ (x ≡ key) → cond b true (contains R old x) ≡ true
    back true e h = refl
    back false e (inl before) = (btree_set_contains_iff total exact old x).1 before
    back false e (inr same) = absurd (true≢false (sym (ap is_eq (tied_itself total key)) ∙ ap (λ (y : K). is_eq (R key y)) (sym same) ∙ e))

all_below : {X : Type 0} (R S : X → X → Ordering) → ((x y : X) → R x y ≡ S x y) → (x : X) (ys : List X) → AllByRecursion (λ y. R x y ≡ Less) ys → AllByRecursion (λ y. S x y ≡ Less) ys
all_below R S agree x [] h = tt
all_below R S agree x (y ∷ ys) h = (sym (agree x y) ∙ h.0, all_below R S agree x ys h.1)

pub set_gains : {K : Type 0} {R : K → K → Ordering} → IsTotalOrder R → ((x y : K) → R x y ≡ Equal → x ≡ y) → (old new : BTreeSet K) (key : K) → Updates R old new key true
    → Gains old.keys new.keys (λ x. x ≡ key)
set_gains total exact old new key updates = record { each = gains_at total exact old new key updates }

-- one addition after another
pub Gains-then : {T : Type 0} {old mid new : List T} {P Q : T → Type 0} → Gains old mid P → Gains mid new Q → Gains old new (λ x. P x ⊎ Q x)
Gains-then p q = record {
  each = λ x. (
    λ h. elim ((q.each x).0 h) [ inl in_mid ↦ elim ((p.each x).0 in_mid) [ inl before ↦ inl before | inr hp ↦ inr (inl hp) ] | inr hq ↦ inr (inr hq) ],
    λ h. elim h [ inl before ↦ (q.each x).1 (inl ((p.each x).1 (inl before))) | inr either ↦ elim either [ inl hp ↦ (q.each x).1 (inl ((p.each x).1 (inr hp))) | inr hq ↦ (q.each x).1 (inr hq) ] ],
  );
}

-- the same, said in another way
pub Gains-same : {T : Type 0} {old new : List T} {P Q : T → Type 0} → Gains old new P → ((x : T) → P x ↔ Q x) → Gains old new Q
Gains-same p same = record {
  each = λ x. (
    λ h. elim ((p.each x).0 h) [ inl before ↦ inl before | inr hp ↦ inr ((same x).0 hp) ],
    λ h. elim h [ inl before ↦ (p.each x).1 (inl before) | inr hq ↦ (p.each x).1 (inr ((same x).1 hq)) ],
  );
}

-- nothing is gained where nothing is to be
pub Gains-none : {T : Type 0} {P : T → Type 0} (xs : List T) → ((x : T) → ¬ P x) → Gains xs xs P
Gains-none xs none = record { each = λ x. (λ h. inl h, λ h. elim h [ inl before ↦ before | inr p ↦ absurd (none x p) ]) }

pub none_in_nil : {X : Type 0} (x : X) → ¬ Contains [] x
none_in_nil x h = let f : h.0 < 0 = h.1 in absurd (omega arith)

-- what is gained from nothing
pub Gains-all : {T : Type 0} {new : List T} {P : T → Type 0} → Gains [] new P → (x : T) → Contains new x ↔ P x
Gains-all p x = (λ h. elim ((p.each x).0 h) [ inl before ↦ absurd (none_in_nil x before) | inr hp ↦ hp ], λ h. (p.each x).1 (inr h))

-- two orders that agree sort alike
pub sorted_alike : {X : Type 0} (R S : X → X → Ordering) → ((x y : X) → R x y ≡ S x y) → (xs : List X) → IsStrictlySortedBy R xs → IsStrictlySortedBy S xs
unfolding IsStrictlySortedBy
sorted_alike R S agree [] h = tt
sorted_alike R S agree (x ∷ xs) h = (all_below R S agree x xs h.0, sorted_alike R S agree xs h.1)
