-- The rules of a property among those that match at a position.
use Rattle.std.proofs.Common.{◌≡◌, ℕ, zero, suc, ◌+◌, ◌<◌, Bool, true, false, ◌&&◌, cond, List, [], ◌∷◌, ◌++◌, map, Option, Some, None, length, get_or, take, refl, sym, ap, ◌∙◌, arith, inl, inr, eq-eqb, find, bytes_eq}
use Rattle.std.specs.Prelude.{Contains, ◌==◌, slice_get, option_map, option_and_then}
use Rattle.std.specs.Option.{option_or, option_to_list}
use Rattle.std.proofs.lemmas.Bool.{and_from, false_from_ne_true}
use Rattle.std.proofs.lemmas.List.{take_more}
use Rattle.std.proofs.lemmas.Option.{same_Some}
use Rattle.std.proofs.lemmas.Slice.Eq.{bytes_eq-Decides}
use Rattle.flow_term.specs.declared.graph.Edge.{Edge}
use Rattle.flow_term.specs.declared.graph.Node.{Node}
use Rattle.flow_term.specs.declared.graph.NodeKind.{NodeKind}
use Rattle.flow_term.specs.declared.graph.NodeKind.TheVariants as kind
use Rattle.flow_term.specs.declared.term.Term.{Term}
use Rattle.flow_term.specs.declared.value.Bound.{Bound}
use Rattle.flow_term.specs.Trees.{At}
use Rattle.flow_syntax.specs.declared.property.PropDecl.{PropDecl}
use Rattle.flow_syntax.specs.declared.property.PropRule.{PropRule}
use Rattle.flow_syntax.specs.declared.spec.Spec.{Spec}
use Rattle.flow_syntax.specs.ExprFaults.{trigger_pattern}
use Rattle.flow_match.specs.declared.matched.Matched.{Matched}
use Rattle.flow_match.specs.declared.matched.RuleHit.{RuleHit}
use Rattle.flow_match.specs.Bindings.{bindings_at}
use Rattle.flow_match.specs.Matched.{as_list, first_hit, first_some, hit_by, hit_of, hits_from, hits_of, is_rule_of, matched, matched_in}
use Rattle.value_domains.specs.Domains.{place_in}
use Rattle.expr_meaning.specs.Meaning.{property_number}
use Rattle.tree_constraints.specs.declared.constraint.Origin.TheVariants as origin
use Rattle.tree_constraints.specs.Constraints.{hit_at, ordinary_hit, unknown_at}
use Rattle.tree_constraints.proofs.Lists.{at_head, cons_cases, in_tail, none_in_nil}
use Rattle.tree_listing.specs.declared.property.Property.{Property}
use Rattle.tree_listing.specs.Given.{AreProperties}
use Rattle.tree_listing.specs.Listing.{begins_at, boundary_at, constraint_by, listed_at, listed_at_node, origins}
use Rattle.tree_build.specs.inner.Hits.{boundary_by, is_hit_of, listed_at_each, listed_by, ordinary_in, same_truth}

-- WHAT A PROPERTY'S HITS ARE

record IsOf (property : ℕ) (boundary : Bool) (h : RuleHit) : Type 0 where
  pub property_is : h.property ≡ property
  pub boundary_is : h.boundary ≡ boundary

mapped_is : (property : ℕ) (boundary : Bool) (n : ℕ) (o : Option (List Bound)) (h : RuleHit) → option_map (hit_of property boundary n) o ≡ Some h → IsOf property boundary h
mapped_is property boundary n (Some bs) h e =
    let same : hit_of property boundary n bs ≡ h = same_Some (hit_of property boundary n bs) h e in
    record { property_is = ap (λ (g : RuleHit). g.property) (sym same); boundary_is = ap (λ (g : RuleHit). g.boundary) (sym same) }
mapped_is property boundary n None h e = cc

given_is : (property : ℕ) (boundary : Bool) (n : ℕ) (b : Bool) (o : Option (List Bound)) (h : RuleHit) → cond b (option_map (hit_of property boundary n) o) None ≡ Some h → IsOf property boundary h
given_is property boundary n true o h e = mapped_is property boundary n o h e
given_is property boundary n false o h e = cc

some_of : {X Y : Type 0} (P : Y → Type 0) (f : ℕ → X → Option Y) → ((n : ℕ) (x : X) (y : Y) → f n x ≡ Some y → P y) → (n : ℕ) (xs : List X) (y : Y) → first_some f n xs ≡ Some y → P y
some_of P f each n [] y e = cc
some_of {X = X} {Y = Y} P f each n (x ∷ xs) y e = by (f n x) refl e (some_of P f each (n + 1) xs y)
  where
    by : (o : Option Y) → f n x ≡ o → option_or o (first_some f (n + 1) xs) ≡ Some y → (first_some f (n + 1) xs ≡ Some y → P y) → P y
    by (Some z) is k later = each n x y (is ∙ k)
    by None is k later = later k

first_is : (property : ℕ) (name : List ℕ) (boundary : Bool) (t : Term) (path : List ℕ) (rules : List PropRule) (h : RuleHit) → first_hit property name boundary t path rules ≡ Some h → IsOf property boundary h
first_is property name boundary t path rules h e =
    some_of (IsOf property boundary) (hit_by property name boundary t path)
    (λ n rule y k. given_is property boundary n (is_rule_of name boundary rule) (bindings_at (trigger_pattern rule.trigger) t path) y k) 0 rules h e

-- LOOKING FOR ONE

find_append : {X : Type 0} (p : X → Bool) (xs ys : List X) → find p (xs ++ ys) ≡ option_or (find p xs) (find p ys)
find_append p [] ys = refl
find_append {X = X} p (x ∷ xs) ys = by (p x) (find_append p xs ys)
  where
    by : (b : Bool) → find p (xs ++ ys) ≡ option_or (find p xs) (find p ys) → cond b (Some x) (find p (xs ++ ys)) ≡ option_or (cond b (Some x) (find p xs)) (find p ys)
    by true later = refl
    by false later = later

-- the first that passes, behind some that don't
pub first_here : {X : Type 0} (p : X → Bool) (xs : List X) (i : ℕ) (x : X) → i < length xs → x ≡ get_or xs i x → find p (take i xs) ≡ None → p x ≡ true → Some x ≡ find p xs
first_here p [] i x within is none h = absurd (omega (arith, within))
first_here p (y ∷ xs) zero x within is none h = ap Some is ∙ sym (ap (λ b. cond b (Some y) (find p xs)) (ap p (sym is) ∙ h))
first_here {X = X} p (y ∷ xs) (suc i) x within is none h = by (p y) none (first_here p xs i x (omega (arith, within)) is)
  where
    by : (b : Bool) → cond b (Some y) (find p (take i xs)) ≡ None → (find p (take i xs) ≡ None → p x ≡ true → Some x ≡ find p xs) → Some x ≡ cond b (Some y) (find p xs)
    by true e later = cc
    by false e later = later e h

pub none_more : {X : Type 0} (p : X → Bool) (xs : List X) (i : ℕ) (x : X) → i < length xs → x ≡ get_or xs i x → find p (take i xs) ≡ None → p x ≡ false → find p (take (i + 1) xs) ≡ None
none_more p xs i x within is none h =
    ap (find p) (take_more xs i x within) ∙ find_append p (take i xs) (get_or xs i x ∷ []) ∙ ap (λ o. option_or o (find p (get_or xs i x ∷ []))) none
    ∙ ap (λ b. cond b (Some (get_or xs i x)) None) (ap p (sym is) ∙ h)

find_all : {X : Type 0} (p : X → Bool) (x : X) → p x ≡ true → find p (x ∷ []) ≡ Some x
find_all p x e = ap (λ b. cond b (Some x) None) e

find_no : {X : Type 0} (p : X → Bool) (x : X) → p x ≡ false → find p (x ∷ []) ≡ None
find_no p x e = ap (λ b. cond b (Some x) None) e

-- of the hit that is looked for, and of another
found_one : (o : Option RuleHit) (n : ℕ) (b : Bool) → ((h : RuleHit) → o ≡ Some h → IsOf n b h) → find (is_hit_of n b) (as_list o) ≡ o
found_one None n b is = refl
found_one (Some h) n b is =
    let one = is h refl in
    find_all (is_hit_of n b) h (and_from (h.property == n) (same_truth h.boundary b) (eq-eqb h.property n one.property_is) (itself h.boundary b one.boundary_is))
  where
    itself : (a c : Bool) → a ≡ c → same_truth a c ≡ true
    itself true true e = refl
    itself false false e = refl
    itself true false e = cc
    itself false true e = cc

other_kind : (a b c : Bool) → a ≡ c → (c ≡ b → ⊥) → same_truth a b ≡ false
other_kind true true c e apart = absurd (apart (sym e))
other_kind false false c e apart = absurd (apart (sym e))
other_kind true false c e apart = refl
other_kind false true c e apart = refl

and_false : (a b : Bool) → b ≡ false → (a && b) ≡ false
and_false true b e = e
and_false false b e = refl

found_none : (o : Option RuleHit) (n m : ℕ) (b c : Bool) → ((h : RuleHit) → o ≡ Some h → IsOf m c h) → (c ≡ b → ⊥) → find (is_hit_of n b) (as_list o) ≡ None
found_none None n m b c is apart = refl
found_none (Some h) n m b c is apart = find_no (is_hit_of n b) h (and_false (h.property == n) (same_truth h.boundary b) (other_kind h.boundary b c (is h refl).boundary_is apart))

found_elsewhere : (o : Option RuleHit) (n m : ℕ) (b c : Bool) → ((h : RuleHit) → o ≡ Some h → IsOf m c h) → (m ≡ n → ⊥) → find (is_hit_of n b) (as_list o) ≡ None
found_elsewhere None n m b c is apart = refl
found_elsewhere (Some h) n m b c is apart =
    let other : (h.property == n) ≡ false = false_from_ne_true (h.property == n) (λ e. apart (sym (is h refl).property_is ∙ (grind (arith, e)))) in
    find_no (is_hit_of n b) h (ap (λ t. t && same_truth h.boundary b) other)

or_none : {X : Type 0} (o : Option X) → option_or o None ≡ o
or_none (Some x) = refl
or_none None = refl

module _ (rules : List PropRule) (t : Term) (path : List ℕ) where
  abbrev first : ℕ → PropDecl → Bool → Option RuleHit
  first n p b = first_hit n p.name.text b t path rules

  is_first : (n : ℕ) (p : PropDecl) (b : Bool) (h : RuleHit) → first n p b ≡ Some h → IsOf n b h
  is_first n p b h e = first_is n p.name.text b t path rules h e

  own_hits : (n : ℕ) (p : PropDecl) (b : Bool) → find (is_hit_of n b) (hits_of rules t path n p) ≡ first n p b
  own_hits n p false =
      find_append (is_hit_of n false) (as_list (first n p false)) (as_list (first n p true))
      ∙ (λ i. option_or (found_one (first n p false) n false (is_first n p false) i) (found_none (first n p true) n n false true (is_first n p true) (λ e. let no : true ≡ false = e in cc) i)) ∙ or_none (first n p false)
  own_hits n p true =
      find_append (is_hit_of n true) (as_list (first n p false)) (as_list (first n p true))
      ∙ (λ i. option_or (found_none (first n p false) n n true false (is_first n p false) (λ e. let no : false ≡ true = e in cc) i) (found_one (first n p true) n true (is_first n p true) i))

  other_hits : (n m : ℕ) (p : PropDecl) (b : Bool) → (m ≡ n → ⊥) → find (is_hit_of n b) (hits_of rules t path m p) ≡ None
  other_hits n m p b apart =
      find_append (is_hit_of n b) (as_list (first m p false)) (as_list (first m p true))
      ∙ (λ i. option_or (found_elsewhere (first m p false) n m b false (is_first m p false) apart i) (found_elsewhere (first m p true) n m b true (is_first m p true) apart i))

  later_hits : (n m : ℕ) (ps : List PropDecl) (b : Bool) → ((k : ℕ) → m + k ≡ n → ⊥) → find (is_hit_of n b) (hits_from rules t path m ps) ≡ None
  later_hits n m [] b apart = refl
  later_hits n m (p ∷ ps) b apart =
      find_append (is_hit_of n b) (hits_of rules t path m p) (hits_from rules t path (m + 1) ps)
      ∙ (λ i. option_or (other_hits n m p b (λ e. apart 0 (omega (arith, e))) i) (later_hits n (m + 1) ps b (λ k e. apart (suc k) (omega (arith, e))) i))

  found_hit : (n : ℕ) (ps : List PropDecl) (i : ℕ) (p : PropDecl) (b : Bool) → slice_get ps i ≡ Some p → find (is_hit_of (n + i) b) (hits_from rules t path n ps) ≡ first (n + i) p b
  found_hit n [] i p b at = cc
  found_hit n (q ∷ ps) zero p b at =
      let same : q ≡ p = same_Some q p at in
      let number : n + 0 ≡ n = omega arith in
      find_append (is_hit_of (n + 0) b) (hits_of rules t path n q) (hits_from rules t path (n + 1) ps)
      ∙ (λ i. option_or (find (is_hit_of (number i) b) (hits_of rules t path n q)) (later_hits (n + 0) (n + 1) ps b (λ k e. let no : n + 1 + k ≡ n + 0 = e in absurd (omega (arith, no))) i))
      ∙ or_none (find (is_hit_of n b) (hits_of rules t path n q)) ∙ own_hits n q b ∙ ap (λ (m : ℕ). first m q b) (sym number) ∙ ap (λ (r : PropDecl). first (n + 0) r b) same
  found_hit n (q ∷ ps) (suc i) p b at =
      let number : n + 1 + i ≡ n + suc i = omega arith in
      find_append (is_hit_of (n + suc i) b) (hits_of rules t path n q) (hits_from rules t path (n + 1) ps)
      ∙ ap (λ o. option_or o (find (is_hit_of (n + suc i) b) (hits_from rules t path (n + 1) ps))) (other_hits (n + suc i) n q b (λ e. let no : n ≡ n + suc i = e in absurd (omega (arith, no))))
      ∙ ap (λ m. find (is_hit_of m b) (hits_from rules t path (n + 1) ps)) (sym number) ∙ found_hit (n + 1) ps i p b at ∙ ap (λ m. first m p b) number

-- THE PROPERTY OF A NAME

-- the first that is declared with a name
not_head : (c d : PropDecl) (ds : List PropDecl) (x : List ℕ) → Contains (c ∷ ds) d → d.name.text ≡ x → bytes_eq x c.name.text ≡ false → Contains ds d
not_head c d ds x h e other = elim (cons_cases c ds d h) [
  | inl same ↦ let is_it : bytes_eq x c.name.text ≡ true = (bytes_eq-Decides x c.name.text).1 (sym e ∙ ap (λ (r : PropDecl). r.name.text) (sym same)) in let clash : true ≡ false = sym is_it ∙ other in cc
  | inr k ↦ k
]

place_found : (ds : List PropDecl) (x : List ℕ) (d : PropDecl) → Contains ds d → d.name.text ≡ x → (q : PropDecl) × (slice_get ds (place_in (map (λ d. d.name.text) ds) x) ≡ Some q) × (q.name.text ≡ x)
place_found [] x d h e = absurd (none_in_nil d h)
place_found (c ∷ ds) x d h e = by (bytes_eq x c.name.text) refl (λ other. place_found ds x d (not_head c d ds x h e other) e)
  where
    by : (b : Bool) → bytes_eq x c.name.text ≡ b → (bytes_eq x c.name.text ≡ false → (q : PropDecl) × (slice_get ds (place_in (map (λ d. d.name.text) ds) x) ≡ Some q) × (q.name.text ≡ x))
        → (q : PropDecl) × (slice_get (c ∷ ds) (elim b as (λ b. ℕ) [ true ↦ 0 | false ↦ place_in (map (λ d. d.name.text) ds) x + 1 ]) ≡ Some q) × (q.name.text ≡ x)
    by true is later = (c, refl, sym ((bytes_eq-Decides x c.name.text).0 is))
    by false is later =
        let r = later is in
        let next : place_in (map (λ (d : PropDecl). d.name.text) ds) x + 1 ≡ suc (place_in (map (λ (d : PropDecl). d.name.text) ds) x) = omega arith in
        (r.0, ap (slice_get (c ∷ ds)) next ∙ r.1, r.2)

module _ (spec : Spec) (tree : Term) (n : Node) where
  -- what is found among the hits of a position is what matches there
  module _ (t : Term) (at : At tree n.path ≡ Some t) where
    hit_found : (p : Property) (d : PropDecl) → Contains spec.properties d → d.name.text ≡ p.name → (b : Bool)
        → find (is_hit_of (property_number spec p.name) b) (matched spec t n.path).hits ≡ hit_at spec tree b (unknown_at n p.name)
    hit_found p d among named b =
        let number = property_number spec p.name in
        let place = place_found spec.properties p.name d among named in
        let same : 0 + number ≡ number = omega arith in
        ap (λ (m : ℕ). find (is_hit_of m b) (matched spec t n.path).hits) (sym same) ∙ found_hit spec.rules t n.path 0 spec.properties number place.0 b place.1
        ∙ ap (λ (m : ℕ). first_hit m place.0.name.text b t n.path spec.rules) same
        ∙ ap (λ (x : List ℕ). first_hit number x b t n.path spec.rules) place.2
        ∙ sym (ap (option_and_then (λ (t : Term). first_hit number p.name b t n.path spec.rules)) at)

    boundary_found : (p : Property) (d : PropDecl) → Contains spec.properties d → d.name.text ≡ p.name → boundary_by (matched spec t n.path).hits (property_number spec p.name) n p ≡ boundary_at spec tree n p
    boundary_found p d among named =
        ap (λ (o : Option RuleHit). cond (begins_at p.direction n.kind) (option_to_list (option_map (λ hit. constraint_by (Some hit) (unknown_at n p.name) origin.Boundary) o)) []) (hit_found p d among named true)

    ordinary_found : (p : Property) (d : PropDecl) → Contains spec.properties d → d.name.text ≡ p.name → (k : NodeKind) → ordinary_in (matched spec t n.path).hits (property_number spec p.name) k ≡ ordinary_hit spec tree (unknown_at n p.name) k
    ordinary_found p d among named kind.Node = hit_found p d among named false
    ordinary_found p d among named kind.Start = refl
    ordinary_found p d among named kind.End = refl

    listed_found : (edges : List Edge) (p : Property) (d : PropDecl) → Contains spec.properties d → d.name.text ≡ p.name → listed_by (matched spec t n.path).hits (property_number spec p.name) edges n p ≡ listed_at spec tree edges n p
    listed_found edges p d among named =
        λ i. boundary_found p d among named i ++ map (λ o. constraint_by (ordinary_found p d among named n.kind i) (unknown_at n p.name) (origin.Along o)) (origins p.direction edges n)

    each_found : (edges : List Edge) (ps : List Property) → ((p : Property) → Contains ps p → (d : PropDecl) × Contains spec.properties d × (d.name.text ≡ p.name))
        → listed_at_each (matched spec t n.path).hits (map (λ (p : Property). property_number spec p.name) ps) ps edges n ≡ listed_at_node spec tree ps edges n
    each_found edges [] each = refl
    each_found edges (p ∷ ps) each =
        let one = each p (at_head p ps) in
        λ i. listed_found edges p one.0 one.1 one.2 i ++ each_found edges ps (λ q h. each q (in_tail p ps q h)) i

  -- the rules that match at a node list the constraints that aim at it
  pub node_listed : (hits : List RuleHit) (m : Matched) → Some m ≡ matched_in spec tree n.path → hits ≡ m.hits → (edges : List Edge) (ps : List Property) → AreProperties spec ps
      → (numbers : List ℕ) → numbers ≡ map (λ (p : Property). property_number spec p.name) ps → listed_at_each hits numbers ps edges n ≡ listed_at_node spec tree ps edges n
  node_listed hits m is same edges ps are numbers count = by (At tree n.path) refl is
    where
      by : (o : Option Term) → At tree n.path ≡ o → Some m ≡ option_map (λ t. matched spec t n.path) o → listed_at_each hits numbers ps edges n ≡ listed_at_node spec tree ps edges n
      by (Some t) at e =
          let found : m ≡ matched spec t n.path = same_Some m (matched spec t n.path) e in
          (λ i. listed_at_each (same i) (count i) ps edges n) ∙ ap (λ (k : Matched). listed_at_each k.hits (map (λ (p : Property). property_number spec p.name) ps) ps edges n) found
          ∙ each_found t at edges ps (λ p h. let decl = are.declared p h in (decl.0, decl.1, ap (λ (q : Property). q.name) decl.2))
      by None at e = cc
