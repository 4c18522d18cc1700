-- Patterns by their layers.
use Rattle.std.proofs.Common.{◌≡◌, ℕ, ◌+◌, ◌≤◌, arith, inl, inr, nat_lt, ◌||◌, Bool, true, false, List, [], ◌∷◌, ◌++◌, map, refl, sym, ap, ◌∙◌}
use Rattle.std.specs.Prelude.{◌⊎◌}
use Rattle.std.proofs.lemmas.Bool.Decides.{nat_tests}
use Rattle.std.proofs.lemmas.List.{append_assoc, map-append}
use Rattle.std.specs.List.{flat_map, list_any}
use Rattle.flow_syntax.specs.declared.pattern.Pattern.{Pattern, out-Pattern}
use Rattle.flow_syntax.specs.declared.pattern.PatternKind.{out-PatternKind, roll-PatternKind, out-roll-PatternKind}
use Rattle.flow_syntax.specs.declared.pattern.PatternKind.TheVariants as patterns
use Rattle.flow_syntax.specs.declared.pattern.PatternKind.TheOpen.{PatternKind-F}
use Rattle.flow_syntax.proofs.BoundItems.{bounds_of, bound_in_out}
use Rattle.flow_syntax.proofs.PatternDepths.{deep_layer, looks_deep_out}
use Rattle.flow_syntax.specs.Binders.{Binder, binder, bound_in, bound_layer}
use Rattle.flow_syntax.specs.Matching.{PatternLayer, pattern_layer}
use Rattle.flow_syntax.specs.RuleFaults.{looks_deep, pattern_limit}
use Rattle.check_rules.specs.inner.Tables.{known_bound}

-- the layers of forms

pub layer_of_apply : (c : List ℕ) (parts : List Pattern) → out-PatternKind (patterns.Apply c parts) ≡ PatternKind-F.Apply c parts
unfolding roll-PatternKind out-PatternKind denote.Hole.Carrier.roll
layer_of_apply c parts = out-roll-PatternKind (PatternKind-F.Apply c parts)

pub layer_of_tuple : (parts : List Pattern) → out-PatternKind (patterns.Tuple parts) ≡ PatternKind-F.Tuple parts
unfolding roll-PatternKind out-PatternKind denote.Hole.Carrier.roll
layer_of_tuple parts = out-roll-PatternKind (PatternKind-F.Tuple parts)

pub layer_of_items : (parts : List Pattern) → out-PatternKind (patterns.Items parts) ≡ PatternKind-F.Items parts
unfolding roll-PatternKind out-PatternKind denote.Hole.Carrier.roll
layer_of_items parts = out-roll-PatternKind (PatternKind-F.Items parts)

pub layer_of_held : (x : List ℕ) (p : Pattern) → out-PatternKind (patterns.Held x p) ≡ PatternKind-F.Held x p
unfolding roll-PatternKind out-PatternKind denote.Hole.Carrier.roll
layer_of_held x p = out-roll-PatternKind (PatternKind-F.Held x p)

-- what is known of the variables of a pattern
abbrev pub known_in : Pattern → List (Binder × Bool)
known_in p = map known_bound (bound_in p)

-- the same by a layer
abbrev pub known_in_layer : PatternLayer → ℕ → List (Binder × Bool)
known_in_layer (PatternKind-F.Var x) at = (binder x at, true) ∷ []
known_in_layer (PatternKind-F.NameVar x) at = (binder x at, false) ∷ []
known_in_layer (PatternKind-F.StrVar x) at = (binder x at, false) ∷ []
known_in_layer (PatternKind-F.IntVar x) at = (binder x at, false) ∷ []
known_in_layer (PatternKind-F.Held x inner) at = (binder x at, true) ∷ known_in inner
known_in_layer (PatternKind-F.Apply c parts) at = map known_bound (flat_map bound_in parts)
known_in_layer (PatternKind-F.Tuple parts) at = map known_bound (flat_map bound_in parts)
known_in_layer (PatternKind-F.Items parts) at = map known_bound (flat_map bound_in parts)
known_in_layer layer at = []

pub flat_again : {X Y : Type 0} (f : X → List Y) (xs : List X) → flat_map (λ (ys : List Y). ys) (map f xs) ≡ flat_map f xs
flat_again f [] = refl
flat_again f (x ∷ xs) = ap (λ ys. f x ++ ys) (flat_again f xs)

known_by_layer : (layer : PatternLayer) (at : ℕ) → map known_bound (bound_layer (bounds_of layer) at) ≡ known_in_layer layer at
known_by_layer PatternKind-F.Wild at = refl
known_by_layer (PatternKind-F.Var x) at = refl
known_by_layer (PatternKind-F.NameVar x) at = refl
known_by_layer (PatternKind-F.StrVar x) at = refl
known_by_layer (PatternKind-F.IntVar x) at = refl
known_by_layer (PatternKind-F.IntLit n) at = refl
known_by_layer (PatternKind-F.StrLit s) at = refl
known_by_layer (PatternKind-F.Held x inner) at = refl
known_by_layer (PatternKind-F.Apply c parts) at = ap (map known_bound) (flat_again bound_in parts)
known_by_layer (PatternKind-F.Tuple parts) at = ap (map known_bound) (flat_again bound_in parts)
known_by_layer (PatternKind-F.Items parts) at = ap (map known_bound) (flat_again bound_in parts)

pub known_in_out : (p : Pattern) → map known_bound (bound_in p) ≡ known_in_layer (pattern_layer p) (out-Pattern p).place
known_in_out p = ap (map known_bound) (bound_in_out p) ∙ known_by_layer (pattern_layer p) (out-Pattern p).place

-- one pattern more
pub known_flat_append : (ps qs : List Pattern) → map known_bound (flat_map bound_in (ps ++ qs)) ≡ map known_bound (flat_map bound_in ps) ++ map known_bound (flat_map bound_in qs)
known_flat_append [] qs = refl
known_flat_append (p ∷ ps) qs =
    map-append known_bound (bound_in p) (flat_map bound_in (ps ++ qs)) ∙ ap (λ ys. known_in p ++ ys) (known_flat_append ps qs)
    ∙ sym (append_assoc (known_in p) (map known_bound (flat_map bound_in ps)) (map known_bound (flat_map bound_in qs))) ∙ ap (λ ys. ys ++ map known_bound (flat_map bound_in qs)) (sym (map-append known_bound (bound_in p) (flat_map bound_in ps)))

-- WHAT FORMS BIND

known_where : (p : Pattern) (layer : PatternLayer) → pattern_layer p ≡ layer → known_in p ≡ known_in_layer layer (out-Pattern p).place
known_where p layer is = known_in_out p ∙ ap (λ y. known_in_layer y (out-Pattern p).place) is

pub known_apply : (p : Pattern) (c : List ℕ) (parts ps : List Pattern) → (out-Pattern p).kind ≡ patterns.Apply c parts → ps ≡ parts → known_in p ≡ map known_bound (flat_map bound_in ps)
known_apply p c parts ps is same = known_where p (PatternKind-F.Apply c parts) (ap out-PatternKind is ∙ layer_of_apply c parts) ∙ ap (λ qs. map known_bound (flat_map bound_in qs)) (sym same)

pub known_list : (p : Pattern) (parts ps : List Pattern) → ((out-Pattern p).kind ≡ patterns.Tuple parts) ⊎ ((out-Pattern p).kind ≡ patterns.Items parts) → ps ≡ parts → known_in p ≡ map known_bound (flat_map bound_in ps)
known_list p parts ps (inl is) same = known_where p (PatternKind-F.Tuple parts) (ap out-PatternKind is ∙ layer_of_tuple parts) ∙ ap (λ qs. map known_bound (flat_map bound_in qs)) (sym same)
known_list p parts ps (inr is) same = known_where p (PatternKind-F.Items parts) (ap out-PatternKind is ∙ layer_of_items parts) ∙ ap (λ qs. map known_bound (flat_map bound_in qs)) (sym same)

pub known_held : (p : Pattern) (x : List ℕ) (inner q : Pattern) → (out-Pattern p).kind ≡ patterns.Held x inner → q ≡ inner → known_in p ≡ (binder x (out-Pattern p).place, true) ∷ known_in q
known_held p x inner q is same = known_where p (PatternKind-F.Held x inner) (ap out-PatternKind is ∙ layer_of_held x inner) ∙ ap (λ r. (binder x (out-Pattern p).place, true) ∷ known_in r) (sym same)

-- DEPTH

deep_parts : (p : Pattern) (layer : PatternLayer) (parts ps : List Pattern) (level : ℕ) (b : Bool) → pattern_layer p ≡ layer → deep_layer layer level ≡ (nat_lt pattern_limit level || list_any (λ q. looks_deep q (level + 1)) parts) → ps ≡ parts
    → level ≤ 8 → b ≡ list_any (λ q. looks_deep q (level + 1)) ps → b ≡ looks_deep p level
deep_parts p layer parts ps level b is deep same within made =
    let shallow : nat_lt pattern_limit level ≡ false = grind (arith, nat_tests) in
    made ∙ ap (list_any (λ q. looks_deep q (level + 1))) same ∙ ap (λ t. t || list_any (λ q. looks_deep q (level + 1)) parts) (sym shallow) ∙ sym (looks_deep_out p level ∙ ap (λ y. deep_layer y level) is ∙ deep)

pub deep_apply : (p : Pattern) (c : List ℕ) (parts ps : List Pattern) (level : ℕ) (b : Bool) → (out-Pattern p).kind ≡ patterns.Apply c parts → ps ≡ parts → level ≤ 8 → b ≡ list_any (λ q. looks_deep q (level + 1)) ps → b ≡ looks_deep p level
deep_apply p c parts ps level b is same within made = deep_parts p (PatternKind-F.Apply c parts) parts ps level b (ap out-PatternKind is ∙ layer_of_apply c parts) refl same within made

pub deep_tuple : (p : Pattern) (parts ps : List Pattern) (level : ℕ) (b : Bool) → (out-Pattern p).kind ≡ patterns.Tuple parts → ps ≡ parts → level ≤ 8 → b ≡ list_any (λ q. looks_deep q (level + 1)) ps → b ≡ looks_deep p level
deep_tuple p parts ps level b is same within made = deep_parts p (PatternKind-F.Tuple parts) parts ps level b (ap out-PatternKind is ∙ layer_of_tuple parts) refl same within made

pub deep_items : (p : Pattern) (parts ps : List Pattern) (level : ℕ) (b : Bool) → (out-Pattern p).kind ≡ patterns.Items parts → ps ≡ parts → level ≤ 8 → b ≡ list_any (λ q. looks_deep q (level + 1)) ps → b ≡ looks_deep p level
deep_items p parts ps level b is same within made = deep_parts p (PatternKind-F.Items parts) parts ps level b (ap out-PatternKind is ∙ layer_of_items parts) refl same within made
