-- What a replacement leaves at positions that are not at or below it.
use Rattle.std.proofs.Common.{◌≡◌, ◌⊎◌, ℕ, Bool, List, [], ◌∷◌, ◌++◌, Option, Some, None, refl, sym, ap, subst, ◌∙◌, inl, inr}
use Rattle.std.specs.Option.{option_map_or}
use Rattle.std.specs.Prelude.{false, option_and_then, slice_get}
use Rattle.std.proofs.lemmas.Bool.{cases_eq}
use Rattle.std.proofs.lemmas.Option.{same_Some}
use Rattle.flow_term.specs.declared.term.Term.{Term}
use Rattle.flow_term.specs.Trees.{At, Put, children}
use Rattle.flow_syntax.specs.declared.spec.Spec.{Spec}
use Rattle.flow_syntax.specs.Control.{entered_below, enters_child, rule_for}
use Rattle.graph_laws.specs.Replacements.{AreAsunder, RulesStay}
use Rattle.graph_laws.specs.Laws.{PositionsStayElsewhere, ReplacementsInParts}
use Rattle.graph_laws.proofs.Ancestors.{entered_same}
use Rattle.graph_laws.proofs.Replaced.{Replaced, put_at}
use Rattle.graph_laws.proofs.Upwards.{put_child, put_differs}

-- the term at a position is the same in both trees, and it is entered in both or in neither
abbrev IsSameAt : Spec → Bool → Term → Term → List ℕ → Type 0
IsSameAt spec entered t t' q = (At t' q ≡ At t q) × (entered_below spec entered t' q ≡ entered_below spec entered t q)

module _ (spec : Spec) (new : Term) where
  -- A position that is neither above nor below a replacement has the term that it had, and is entered as it was.
  pub same_elsewhere : (p q : List ℕ) (entered : Bool) (t : Term) → AreAsunder p q → RulesStay spec new t p → IsSameAt spec entered t (Put t p new) q
  same_elsewhere [] q entered t apart stay = absurd apart
  same_elsewhere (m ∷ p) [] entered t apart stay = absurd apart
  same_elsewhere (m ∷ p) (n ∷ q) entered t apart stay = by_child (λ e c a s. same_elsewhere p q e c a s) (slice_get (children t) m) refl stay.0
    where
      by_child : ((e : Bool) (c : Term) → AreAsunder p q → RulesStay spec new c p → IsSameAt spec e c (Put c p new) q) → (o : Option Term) → slice_get (children t) m ≡ o
          → rule_for spec (Put t (m ∷ p) new) ≡ rule_for spec t → IsSameAt spec entered t (Put t (m ∷ p) new) (n ∷ q)
      by_child inner None is rule = subst (λ (v : Term). IsSameAt spec entered t v (n ∷ q)) (sym (put_at t m p new None is)) (refl, refl)
      by_child inner (Some c) is rule =
          let d = put_differs spec new t c m p is rule in
          let flag : enters_child (rule_for spec (Put t (m ∷ p) new)) entered (Put t (m ∷ p) new) n ≡ enters_child (rule_for spec t) entered t n = entered_same spec entered t (Put t (m ∷ p) new) [] m d n in
          elim apart [
            | inl other ↦ (
              ap (option_and_then (λ (v : Term). At v q)) (d.others n other),
              ap (λ (o : Option Term). option_map_or (λ v. entered_below spec (enters_child (rule_for spec (Put t (m ∷ p) new)) entered (Put t (m ∷ p) new) n) v q) o false) (d.others n other)
                  ∙ ap (λ (e : Bool). option_map_or (λ v. entered_below spec e v q) (slice_get (children t) n) false) flag,
            )
            | inr same ↦
                let there : slice_get (children t) n ≡ Some c = ap (slice_get (children t)) same.0 ∙ is in
                let now : slice_get (children (Put t (m ∷ p) new)) n ≡ Some (Put c p new) = ap (slice_get (children (Put t (m ∷ p) new))) same.0 ∙ put_child new t c m p is in
                let below_same = inner (enters_child (rule_for spec t) entered t n) c same.1 (stay.1 c is) in (
                  ap (option_and_then (λ (v : Term). At v q)) now ∙ below_same.0 ∙ sym (ap (option_and_then (λ (v : Term). At v q)) there),
                  ap (λ (o : Option Term). option_map_or (λ v. entered_below spec (enters_child (rule_for spec (Put t (m ∷ p) new)) entered (Put t (m ∷ p) new) n) v q) o false) now
                      ∙ ap (λ (e : Bool). entered_below spec e (Put c p new) q) flag ∙ below_same.1
                      ∙ sym (ap (λ (o : Option Term). option_map_or (λ v. entered_below spec (enters_child (rule_for spec t) entered t n) v q) o false) there),
                )
          ]

pub stays_elsewhere : PositionsStayElsewhere
stays_elsewhere spec tree new p q apart stay = same_elsewhere spec new p q false tree apart stay

-- ** a position above the replacement

-- a term below a term
pub at_append : (q r : List ℕ) (t v : Term) → At t q ≡ Some v → At t (q ++ r) ≡ At v r
at_append [] r t v at = ap (λ (u : Term). At u r) (same_Some t v at)
at_append (n ∷ q) r t v at = by_child (λ c a. at_append q r c v a) (slice_get (children t) n) at
  where
    by_child : ((c : Term) → At c q ≡ Some v → At c (q ++ r) ≡ At v r) → (o : Option Term) → option_and_then (λ c. At c q) o ≡ Some v → option_and_then (λ c. At c (q ++ r)) o ≡ At v r
    by_child inner None at = cc
    by_child inner (Some c) at = inner c at

-- a position on the way to another one
pub at_front : (q r : List ℕ) (t u : Term) → At t (q ++ r) ≡ Some u → (v : Term) × (At t q ≡ Some v)
at_front [] r t u at = (t, refl)
at_front (n ∷ q) r t u at = by_child (λ c a. at_front q r c u a) (slice_get (children t) n) at
  where
    by_child : ((c : Term) → At c (q ++ r) ≡ Some u → (v : Term) × (At c q ≡ Some v)) → (o : Option Term) → option_and_then (λ c. At c (q ++ r)) o ≡ Some u → (v : Term) × (option_and_then (λ c. At c q) o ≡ Some v)
    by_child inner None at = cc
    by_child inner (Some c) at = inner c at

module _ (spec : Spec) (new : Term) where
  pub rules_below : (q r : List ℕ) (t v : Term) → At t q ≡ Some v → RulesStay spec new t (q ++ r) → RulesStay spec new v r
  rules_below [] r t v at stay = subst (λ (u : Term). RulesStay spec new u r) (same_Some t v at) stay
  rules_below (n ∷ q) r t v at stay = by_child (λ c a s. rules_below q r c v a s) (slice_get (children t) n) refl at
    where
      by_child : ((c : Term) → At c q ≡ Some v → RulesStay spec new c (q ++ r) → RulesStay spec new v r) → (o : Option Term) → slice_get (children t) n ≡ o → option_and_then (λ c. At c q) o ≡ Some v → RulesStay spec new v r
      by_child inner None is at = cc
      by_child inner (Some c) is at = inner c at (stay.1 c is)

  pub entered_append : (q r : List ℕ) (entered : Bool) (t v : Term) → At t q ≡ Some v → entered_below spec entered t (q ++ r) ≡ entered_below spec (entered_below spec entered t q) v r
  entered_append [] r entered t v at = ap (λ (u : Term). entered_below spec entered u r) (same_Some t v at)
  entered_append (n ∷ q) r entered t v at = by_child (λ e c a. entered_append q r e c v a) (slice_get (children t) n) at
    where
      e : Bool
      e = enters_child (rule_for spec t) entered t n

      by_child : ((e : Bool) (c : Term) → At c q ≡ Some v → entered_below spec e c (q ++ r) ≡ entered_below spec (entered_below spec e c q) v r) → (o : Option Term) → option_and_then (λ c. At c q) o ≡ Some v
          → option_map_or (λ c. entered_below spec e c (q ++ r)) o false ≡ entered_below spec (option_map_or (λ c. entered_below spec e c q) o false) v r
      by_child inner None at = cc
      by_child inner (Some c) at = inner e c at

  -- the term above a replacement has it too
  pub put_above : (q r : List ℕ) (t v : Term) → At t q ≡ Some v → At (Put t (q ++ r) new) q ≡ Some (Put v r new)
  put_above [] r t v at = ap (λ (u : Term). Some (Put u r new)) (same_Some t v at)
  put_above (n ∷ q) r t v at = by_child (λ c a. put_above q r c v a) (slice_get (children t) n) refl at
    where
      by_child : ((c : Term) → At c q ≡ Some v → At (Put c (q ++ r) new) q ≡ Some (Put v r new)) → (o : Option Term) → slice_get (children t) n ≡ o → option_and_then (λ c. At c q) o ≡ Some v
          → At (Put t (n ∷ q ++ r) new) (n ∷ q) ≡ Some (Put v r new)
      by_child inner None is at = cc
      by_child inner (Some c) is at = ap (option_and_then (λ (u : Term). At u q)) (put_child new t c n (q ++ r) is) ∙ inner c at

  -- and is entered as it was
  pub entered_above : (q r : List ℕ) (entered : Bool) (t v : Term) → At t q ≡ Some v → RulesStay spec new t (q ++ r) → entered_below spec entered (Put t (q ++ r) new) q ≡ entered_below spec entered t q
  entered_above [] r entered t v at stay = refl
  entered_above (n ∷ q) r entered t v at stay = by_child (λ e c a s. entered_above q r e c v a s) (slice_get (children t) n) refl at
    where
      by_child : ((e : Bool) (c : Term) → At c q ≡ Some v → RulesStay spec new c (q ++ r) → entered_below spec e (Put c (q ++ r) new) q ≡ entered_below spec e c q) → (o : Option Term) → slice_get (children t) n ≡ o → option_and_then (λ c. At c q) o ≡ Some v
          → entered_below spec entered (Put t (n ∷ q ++ r) new) (n ∷ q) ≡ entered_below spec entered t (n ∷ q)
      by_child inner None is at = cc
      by_child inner (Some c) is at =
          let t' : Term = Put t (n ∷ q ++ r) new in
          let flag : enters_child (rule_for spec t') entered t' n ≡ enters_child (rule_for spec t) entered t n = entered_same spec entered t t' [] n (put_differs spec new t c n (q ++ r) is stay.0) n in
          ap (λ (o : Option Term). option_map_or (λ v. entered_below spec (enters_child (rule_for spec t') entered t' n) v q) o false) (put_child new t c n (q ++ r) is)
          ∙ ap (λ (e : Bool). entered_below spec e (Put c (q ++ r) new) q) flag ∙ inner (enters_child (rule_for spec t) entered t n) c at (stay.1 c is)
          ∙ sym (ap (λ (o : Option Term). option_map_or (λ v. entered_below spec (enters_child (rule_for spec t) entered t n) v q) o false) is)

-- a replacement below a position is one of its term
pub put_parts : ReplacementsInParts
put_parts [] r t v new at = ap (λ (u : Term). Put u r new) (same_Some t v at)
put_parts (n ∷ q) r t v new at = by_child (λ c a. put_parts q r c v new a) (slice_get (children t) n) refl at
  where
    by_child : ((c : Term) → At c q ≡ Some v → Put c (q ++ r) new ≡ Put c q (Put v r new)) → (o : Option Term) → slice_get (children t) n ≡ o → option_and_then (λ c. At c q) o ≡ Some v
        → Put t (n ∷ q ++ r) new ≡ Put t (n ∷ q) (Put v r new)
    by_child inner None is at = cc
    by_child inner (Some c) is at =
        put_at t n (q ++ r) new (Some c) is ∙ ap (λ (u : Term). Replaced t n u) (inner c at) ∙ sym (put_at t n q (Put v r new) (Some c) is)

-- ** where a position stands

-- a path begins with another, or is above it, or neither
pub begins : (p q : List ℕ) → ((rest : List ℕ) × (q ≡ p ++ rest)) ⊎ (((n : ℕ) × (rest : List ℕ) × (p ≡ q ++ n ∷ rest)) ⊎ AreAsunder p q)
begins [] q = inl (q, refl)
begins (m ∷ p) [] = inr (inl (m, p, refl))
begins (m ∷ p) (n ∷ q) = elim (cases_eq n m) [
  | inr other ↦ inr (inr (inl other))
  | inl same ↦ elim (begins p q) [
    | inl front ↦ inl (front.0, ap (λ (k : ℕ). k ∷ q) same ∙ ap (λ ks. m ∷ ks) front.1)
    | inr either ↦ elim either [
      | inl above ↦ inr (inl (above.0, above.1, ap (λ (k : ℕ). k ∷ p) (sym same) ∙ ap (λ ks. n ∷ ks) above.2))
      | inr apart ↦ inr (inr (inr (same, apart)))
    ]
  ]
]
