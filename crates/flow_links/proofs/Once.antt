-- A list gains a link that it lacks.
use Rattle.std.proofs.Common.{◌≡◌, ◌<◌, Bool, true, false, ◌||◌, List, [], ◌∷◌, ◌++◌, refl, sym, ap, subst, ◌∙◌, inl, inr, arith, true≢false}
use Rattle.std.specs.Prelude.{◌⊎◌, Contains}
use Rattle.std.specs.List.{list_any, AllByRecursion, IsDistinct}
use Rattle.indexmap.specs.IndexSet.{insert_key}
use Rattle.std.proofs.lemmas.List.Elements.{Contains-push, Contains-push_cases, Contains-append_left, Contains-append_right, Contains-append_cases}
use Rattle.flow_term.specs.declared.graph.Point.{Point}
use Rattle.flow_term.specs.declared.graph.Link.{Link}
use Rattle.flow_term.specs.Orders.{EachOnce}
use Rattle.flow_term.proofs.Same.{link_same, link_itself}
use Rattle.flow_links.specs.Below.{link, Adds, is_same_link}

none_in_nil : {X : Type 0} (x : X) → ¬ Contains [] x
none_in_nil x h = let f : h.0 < 0 = h.1 in absurd (omega arith)

either_true : (a b : Bool) → (a || b) ≡ true → (a ≡ true) ⊎ (b ≡ true)
either_true true b h = inl refl
either_true false b h = inr h

pub found : (xs : List Link) (x : Link) → list_any (is_same_link x) xs ≡ true → Contains xs x
found [] x h = cc
found (y ∷ xs) x h = elim (either_true (is_same_link x y) (list_any (is_same_link x) xs) h) [
  | inl here ↦ Contains-append_left (y ∷ []) xs x (subst (λ (z : Link). Contains (y ∷ []) z) (sym (link_same x y here)) (Contains-push [] y))
  | inr there ↦ Contains-append_right (y ∷ []) xs x (found xs x there)
]

-- what stands in a list is found there
any_cons : (a b : Bool) → (a ≡ true) ⊎ (b ≡ true) → (a || b) ≡ true
any_cons true b h = refl
any_cons false b (inl h) = cc
any_cons false b (inr h) = h

pub seen : (xs : List Link) (x : Link) → Contains xs x → list_any (is_same_link x) xs ≡ true
seen [] x h = absurd (none_in_nil x h)
seen (y ∷ xs) x h = any_cons (is_same_link x y) (list_any (is_same_link x) xs) (elim (Contains-append_cases (y ∷ []) xs x h) [
  | inl here ↦ elim (Contains-push_cases [] y x here) [ inl nil ↦ absurd (none_in_nil x nil) | inr same ↦ inl (subst (λ (z : Link). is_same_link x z ≡ true) (sym same) (link_itself x)) ]
  | inr there ↦ inr (seen xs x there)
])

-- a link is that of its ends
link_of : (x : Link) (a b : Point) → a ≡ x.from → b ≡ x.to → x ≡ link a b
link_of x a b p q = subst (λ (c : Point). x ≡ link c b) (sym p) (subst (λ (c : Point). x ≡ link x.from c) (sym q) refl)

-- a link that is there is no addition
pub Adds-nothing : (xs : List Link) (x : Link) → list_any (is_same_link x) xs ≡ true → Adds xs xs (λ a b. (a ≡ x.from) × (b ≡ x.to))
Adds-nothing xs x h = record {
  each = λ a b. (λ k. inl k, λ k. elim k [ inl before ↦ before | inr is ↦ subst (λ (z : Link). Contains xs z) (link_of x a b is.0 is.1) (found xs x h) ]);
}

pub Adds-one : (xs : List Link) (x : Link) → list_any (is_same_link x) xs ≡ false → Adds xs (xs ++ x ∷ []) (λ a b. (a ≡ x.from) × (b ≡ x.to))
Adds-one xs x h = record {
  each = λ a b. (
    λ k. elim (Contains-push_cases xs x (link a b) k) [ inl before ↦ inl before | inr is ↦ inr (sym (ap (λ (z : Link). z.from) is), sym (ap (λ (z : Link). z.to) is)) ],
    λ k. elim k [ inl before ↦ Contains-append_left xs (x ∷ []) (link a b) before | inr is ↦ subst (λ (z : Link). Contains (xs ++ x ∷ []) z) (link_of x a b is.0 is.1) (Contains-push xs x) ],
  );
}

-- what a set of links gains
pub Adds-insert : (xs : List Link) (x : Link) → Adds xs (insert_key is_same_link xs x) (λ a b. (a ≡ x.from) × (b ≡ x.to))
Adds-insert xs x = by (list_any (is_same_link x) xs) refl
  where
    by : (b : Bool) → list_any (is_same_link x) xs ≡ b → Adds xs (insert_key is_same_link xs x) (λ a b. (a ≡ x.from) × (b ≡ x.to))
    by true h = rw h (Adds-nothing xs x h)
    by false h = rw h (Adds-one xs x h)

-- none of these is the link
none_found : (xs : List Link) (x : Link) → AllByRecursion (λ y. is_same_link x y ≡ false) xs → list_any (is_same_link x) xs ≡ false
none_found [] x h = refl
none_found (y ∷ xs) x h = ap (λ b. b || list_any (is_same_link x) xs) h.0 ∙ none_found xs x h.1

-- links that `==` tells apart stand once each
pub once_distinct : (xs : List Link) → IsDistinct is_same_link xs → EachOnce xs
unfolding IsDistinct
once_distinct [] h = tt
once_distinct (x ∷ xs) h = ((λ inside. true≢false (sym (seen xs x inside) ∙ none_found xs x h.0)), once_distinct xs h.1)
