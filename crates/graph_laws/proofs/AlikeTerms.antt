-- What is replaced deeper than a pattern may look doesn't change whether it matches.
use Rattle.std.proofs.Common.{◌≡◌, ℕ, zero, suc, ◌+◌, ◌<◌, Bool, false, ◌&&◌, ◌||◌, cond, find, List, [], ◌∷◌, map, length, Option, Some, None, is_some, refl, sym, ap, subst, ◌∙◌, arith, nat_lt}
use Rattle.std.specs.Prelude.{Contains, filter_map, slice_get, slice_set, bytes_eq}
use Rattle.std.specs.List.{AllZip, list_any}
use Rattle.std.specs.Option.{option_map_or}
use Rattle.std.specs.Ordering.{int_eq}
use Rattle.std.proofs.lemmas.Bool.{or_parts, both_ways}
use Rattle.std.proofs.lemmas.Bool.Decides.{nat_tests}
use Rattle.std.proofs.lemmas.Option.{same_Some}
use Rattle.flow_term.specs.declared.term.Term.{Term}
use Rattle.flow_term.specs.declared.term.Kind.{Kind-F}
use Rattle.flow_term.specs.Annotations.{TermLayer, first_of_list, term_layer, name_in, number_in, text_in}
use Rattle.flow_term.specs.Trees.{Put, children, with_parts}
use Rattle.flow_syntax.specs.declared.pattern.Pattern.{Pattern, out-Pattern, fold-Pattern, fold_out-Pattern}
use Rattle.flow_syntax.specs.declared.pattern.PatternKind.{PatternKind, PatternKind-F, fold-PatternKind, fold_out-PatternKind, map-PatternKind}
use Rattle.flow_syntax.specs.declared.rule.FlowRule.{FlowRule}
use Rattle.flow_syntax.specs.Matching.{PatternLayer, fit, is_apply, is_list, is_tuple, match_layer, matches, pattern_layer}
use Rattle.flow_syntax.specs.RuleFaults.{looks_deep, pattern_limit}
use Rattle.flow_syntax.proofs.Listed.{Contains_behind, Contains_here}
use Rattle.flow_syntax.proofs.Matches.{matches_out, tests_of}
use Rattle.graph_laws.specs.Alike.{AreAlike}
use Rattle.graph_laws.specs.Laws.{AlikeTermsMatchAlike, FarRulesStay, ReplacementsLeaveAlike}
use Rattle.flow_syntax.proofs.PatternDepths.{deep_layer, looks_deep_out}
use Rattle.graph_laws.proofs.Replaced.{Replaced, annos_with, children_replaced, layer_with, list_with, put_at}

-- ** a replacement leaves alike what is above it

zip_refl : {X : Type 0} (R : X → X → Type 0) → ((x : X) → R x x) → (xs : List X) → AllZip R xs xs
zip_refl R r [] = tt
zip_refl R r (x ∷ xs) = (r x, zip_refl R r xs)

zip_set : {X : Type 0} (R : X → X → Type 0) → ((x : X) → R x x) → (xs : List X) (n : ℕ) (x y : X) → slice_get xs n ≡ Some x → R x y → AllZip R xs (slice_set xs n y)
zip_set R r [] n x y h m = cc
zip_set {X = X} R r (z ∷ xs) zero x y h m = (subst (λ (v : X). R v y) (same_Some x z (sym h)) m, zip_refl R r xs)
zip_set R r (z ∷ xs) (suc n) x y h m = (r z, zip_set R r xs n x y h m)

alike_refl : (n : ℕ) (t : Term) → AreAlike n t t
alike_refl zero t = tt
alike_refl (suc n) t = (refl, refl, zip_refl (AreAlike n) (alike_refl n) (children t))

form_with : (y : TermLayer) (us : List Term) → with_parts (with_parts y us) [] ≡ with_parts y []
form_with (Kind-F.Apply name args) us = refl
form_with (Kind-F.Tuple items) us = refl
form_with (Kind-F.Items items) us = refl
form_with (Kind-F.Int k) us = refl
form_with (Kind-F.Str text) us = refl

pub replaced_alike : ReplacementsLeaveAlike
replaced_alike t [] new = tt
replaced_alike t (n ∷ rest) new = by_child (λ c. replaced_alike c rest new) (slice_get (children t) n) refl
  where
    by_child : ((c : Term) → AreAlike (length rest) c (Put c rest new)) → (o : Option Term) → slice_get (children t) n ≡ o → AreAlike (suc (length rest)) t (Put t (n ∷ rest) new)
    by_child inner None is = subst (λ (v : Term). AreAlike (suc (length rest)) t v) (sym (put_at t n rest new None is)) (alike_refl (suc (length rest)) t)
    by_child inner (Some c) is =
        let us : List Term = slice_set (children t) n (Put c rest new) in
        let alike : AreAlike (suc (length rest)) t (Replaced t n (Put c rest new)) = (
          annos_with t us,
          ap (λ (y : TermLayer). with_parts y []) (layer_with t us) ∙ form_with (term_layer t) us,
          subst (λ (vs : List Term). AllZip (AreAlike (length rest)) (children t) vs) (sym (children_replaced t n (Put c rest new)))
              (zip_set (AreAlike (length rest)) (alike_refl (length rest)) (children t) n c (Put c rest new) is (inner c)),
        ) in
        subst (λ (v : Term). AreAlike (suc (length rest)) t v) (sym (put_at t n rest new (Some c) is)) alike

-- ** what patterns tell apart

-- what a layer is, its parts aside
pub apply_with : (name : List ℕ) (y : TermLayer) (us : List Term) → is_apply name (with_parts y us) ≡ is_apply name y
apply_with name (Kind-F.Apply other args) us = refl
apply_with name (Kind-F.Tuple items) us = refl
apply_with name (Kind-F.Items items) us = refl
apply_with name (Kind-F.Int k) us = refl
apply_with name (Kind-F.Str text) us = refl

pub tuple_with : (y : TermLayer) (us : List Term) → is_tuple (with_parts y us) ≡ is_tuple y
tuple_with (Kind-F.Apply other args) us = refl
tuple_with (Kind-F.Tuple items) us = refl
tuple_with (Kind-F.Items items) us = refl
tuple_with (Kind-F.Int k) us = refl
tuple_with (Kind-F.Str text) us = refl

pub text_with : (y : TermLayer) (us : List Term) → text_in (with_parts y us) ≡ text_in y
text_with (Kind-F.Apply other args) us = refl
text_with (Kind-F.Tuple items) us = refl
text_with (Kind-F.Items items) us = refl
text_with (Kind-F.Int k) us = refl
text_with (Kind-F.Str text) us = refl

pub number_with : (y : TermLayer) (us : List Term) → number_in (with_parts y us) ≡ number_in y
number_with (Kind-F.Apply other args) us = refl
number_with (Kind-F.Tuple items) us = refl
number_with (Kind-F.Items items) us = refl
number_with (Kind-F.Int k) us = refl
number_with (Kind-F.Str text) us = refl

-- how many names hold one another at the root of a pattern
abbrev pub holds_layer : PatternKind-F ℕ ℕ → ℕ
holds_layer (PatternKind-F.Held x p) = suc p
holds_layer layer = 0

abbrev pub holds : Pattern → ℕ
holds = fold-Pattern ℕ ℕ holds_layer (λ p. p.kind)

abbrev pub held_in : PatternLayer → PatternKind-F ℕ ℕ
held_in = map-PatternKind PatternKind Pattern ℕ ℕ (fold-PatternKind ℕ ℕ holds_layer (λ p. p.kind)) holds

pub holds_out : (p : Pattern) → holds p ≡ holds_layer (held_in (pattern_layer p))
holds_out p = fold_out-Pattern ℕ ℕ holds_layer (λ p. p.kind) p ∙ fold_out-PatternKind ℕ ℕ holds_layer (λ p. p.kind) (out-Pattern p).kind

-- a level is above 8 and isn't
pub too_deep : (level : ℕ) → 8 < level → (b : Bool) → (nat_lt pattern_limit level || b) ≡ false → ⊥
too_deep level above b h = both_ways (nat_lt pattern_limit level) (or_parts (nat_lt pattern_limit level) b h).0 (grind (arith, nat_tests))

-- what doesn't look too deep, on a level that is too deep, doesn't look
blind : (x : PatternLayer) (level : ℕ) (t u : Term) → deep_layer x level ≡ false → 8 < level → match_layer (tests_of x) u ≡ match_layer (tests_of x) t
blind PatternKind-F.Wild level t u flat above = refl
blind (PatternKind-F.Var x) level t u flat above = refl
blind (PatternKind-F.NameVar x) level t u flat above = absurd (both_ways (nat_lt pattern_limit level) flat (grind (arith, nat_tests)))
blind (PatternKind-F.StrVar x) level t u flat above = absurd (both_ways (nat_lt pattern_limit level) flat (grind (arith, nat_tests)))
blind (PatternKind-F.IntVar x) level t u flat above = absurd (both_ways (nat_lt pattern_limit level) flat (grind (arith, nat_tests)))
blind (PatternKind-F.IntLit n) level t u flat above = absurd (both_ways (nat_lt pattern_limit level) flat (grind (arith, nat_tests)))
blind (PatternKind-F.StrLit s) level t u flat above = absurd (both_ways (nat_lt pattern_limit level) flat (grind (arith, nat_tests)))
blind (PatternKind-F.Apply name ps) level t u flat above = absurd (too_deep level above _ flat)
blind (PatternKind-F.Tuple ps) level t u flat above = absurd (too_deep level above _ flat)
blind (PatternKind-F.Items ps) level t u flat above = absurd (too_deep level above _ flat)
blind (PatternKind-F.Held x p) level t u flat above = absurd (too_deep level above _ flat)

-- no pattern tells terms apart that are alike on so many levels
abbrev AreOne : ℕ → Type 0
AreOne n = (p : Pattern) (level : ℕ) (t u : Term) → looks_deep p level ≡ false → 8 < level + n → AreAlike n t u → matches p u ≡ matches p t

-- nor do patterns of children
fits : (n : ℕ) → AreOne n → (ps : List Pattern) (level : ℕ) (ts us : List Term) → AllZip (AreAlike n) ts us → list_any (λ p. looks_deep p (level + 1)) ps ≡ false → 8 < level + suc n → fit (map matches ps) us ≡ fit (map matches ps) ts
fits n below [] level [] [] alike flat above = refl
fits n below [] level [] (u ∷ us) alike flat above = absurd alike
fits n below [] level (t ∷ ts) [] alike flat above = absurd alike
fits n below [] level (t ∷ ts) (u ∷ us) alike flat above = refl
fits n below (p ∷ ps) level [] [] alike flat above = refl
fits n below (p ∷ ps) level [] (u ∷ us) alike flat above = absurd alike
fits n below (p ∷ ps) level (t ∷ ts) [] alike flat above = absurd alike
fits n below (p ∷ ps) level (t ∷ ts) (u ∷ us) alike flat above =
    let parts = or_parts (looks_deep p (level + 1)) (list_any (λ q. looks_deep q (level + 1)) ps) flat in
    ap (λ (b : Bool). b && fit (map matches ps) us) (below p (level + 1) t u parts.0 (omega (arith, above)) alike.0)
    ∙ ap (λ (b : Bool). matches p t && b) (fits n below ps level ts us alike.1 parts.1 above)

-- what doesn't see the parts of a layer is one of both
pub form_same : (n : ℕ) (t u : Term) → AreAlike (suc n) t u → {A : Type 0} (f : TermLayer → A) → ((y : TermLayer) (us : List Term) → f (with_parts y us) ≡ f y) → f (term_layer u) ≡ f (term_layer t)
form_same n t u alike f blind_to = sym (blind_to (term_layer u) []) ∙ ap f alike.1 ∙ blind_to (term_layer t) []

module _ (n : ℕ) (below : AreOne n) (t u : Term) (alike : AreAlike (suc n) t u) where
  at_layer : (fuel : ℕ) → ((p : Pattern) (level : ℕ) → holds p < fuel → looks_deep p level ≡ false → 8 < level + suc n → matches p u ≡ matches p t)
      → (x : PatternLayer) (level : ℕ) → holds_layer (held_in x) < suc fuel → deep_layer x level ≡ false → 8 < level + suc n → match_layer (tests_of x) u ≡ match_layer (tests_of x) t
  at_layer fuel held PatternKind-F.Wild level few flat above = refl
  at_layer fuel held (PatternKind-F.Var x) level few flat above = refl
  at_layer fuel held (PatternKind-F.NameVar x) level few flat above = ap (λ (as' : List Term). is_some (first_of_list (filter_map (λ a. name_in (term_layer a)) as'))) alike.0
  at_layer fuel held (PatternKind-F.StrVar x) level few flat above = ap is_some (form_same n t u alike text_in text_with)
  at_layer fuel held (PatternKind-F.IntVar x) level few flat above = ap is_some (form_same n t u alike number_in number_with)
  at_layer fuel held (PatternKind-F.IntLit m) level few flat above = ap (λ o. option_map_or (int_eq m) o false) (form_same n t u alike number_in number_with)
  at_layer fuel held (PatternKind-F.StrLit s) level few flat above = ap (λ o. option_map_or (bytes_eq s) o false) (form_same n t u alike text_in text_with)
  at_layer fuel held (PatternKind-F.Apply name ps) level few flat above =
      ap (λ b. b && fit (map matches ps) (children u)) (form_same n t u alike (is_apply name) (apply_with name))
      ∙ ap (λ b. is_apply name (term_layer t) && b) (fits n below ps level (children t) (children u) alike.2 (or_parts (nat_lt pattern_limit level) _ flat).1 above)
  at_layer fuel held (PatternKind-F.Tuple ps) level few flat above =
      ap (λ b. b && fit (map matches ps) (children u)) (form_same n t u alike is_tuple tuple_with)
      ∙ ap (λ b. is_tuple (term_layer t) && b) (fits n below ps level (children t) (children u) alike.2 (or_parts (nat_lt pattern_limit level) _ flat).1 above)
  at_layer fuel held (PatternKind-F.Items ps) level few flat above =
      ap (λ b. b && fit (map matches ps) (children u)) (form_same n t u alike is_list list_with)
      ∙ ap (λ b. is_list (term_layer t) && b) (fits n below ps level (children t) (children u) alike.2 (or_parts (nat_lt pattern_limit level) _ flat).1 above)
  at_layer fuel held (PatternKind-F.Held x p) level few flat above = held p level (omega (arith, few)) (or_parts (nat_lt pattern_limit level) _ flat).1 above

  for_fuel : (fuel : ℕ) (p : Pattern) (level : ℕ) → holds p < fuel → looks_deep p level ≡ false → 8 < level + suc n → matches p u ≡ matches p t
  for_fuel zero p level few flat above = absurd (omega arith)
  for_fuel (suc fuel) p level few flat above =
      matches_out p u ∙ at_layer fuel (for_fuel fuel) (pattern_layer p) level (omega (arith, holds_out p, few)) (sym (looks_deep_out p level) ∙ flat) above ∙ sym (matches_out p t)

are_one : (n : ℕ) → AreOne n
are_one zero p level t u flat above alike = matches_out p u ∙ blind (pattern_layer p) level t u (sym (looks_deep_out p level) ∙ flat) (omega arith) ∙ sym (matches_out p t)
are_one (suc n) p level t u flat above alike = for_fuel n (are_one n) t u alike (suc (holds p)) p level (omega arith) flat above

pub match_alike : AlikeTermsMatchAlike
match_alike p level n t u flat above alike = are_one n p level t u flat above alike

-- ** the matching rule

find_same : (p q : FlowRule → Bool) (xs : List FlowRule) → ((x : FlowRule) → Contains xs x → p x ≡ q x) → find p xs ≡ find q xs
find_same p q [] same = refl
find_same p q (y ∷ ys) same =
    ap (λ b. cond b (Some y) (find p ys)) (same y (Contains_here y ys))
    ∙ ap (λ o. cond (q y) (Some y) o) (find_same p q ys (λ x h. same x (Contains_behind y ys x h)))

pub far_rules : FarRulesStay
far_rules spec shallow t new path far =
    find_same (λ r. matches r.head (Put t path new)) (λ r. matches r.head t) spec.control
    (λ r h. match_alike r.head 0 (length path) t (Put t path new) (shallow r h) (omega (arith, far)) (replaced_alike t path new))
