-- The derived order of elements is that of the specification, and elements that tie are the same.
use Rattle.std.proofs.Common.{◌≡◌, refl, sym, ap, ◌∙◌, subst}
use Rattle.std.specs.Ordering.{ordering_then}
use Rattle.std.specs.declared.cmp.Ordering.{Ordering}
use Rattle.std.specs.declared.cmp.Ordering.TheVariants.{Less, Equal, Greater}
use Rattle.std.proofs.lemmas.Map.Lookups.{exact_signed, exact_bytes}
use denote.Hole.Compared.{Rel, compared, compared_is}
use denote.Hole.Carrier.{Values}
use Rattle.flow_term.specs.declared.elem.Elem.{Elem, Elem-F, out-Elem, roll-Elem, out-roll-Elem, roll-out-Elem, fold-roll-Elem, map-Elem, ind-Elem}
use Rattle.flow_term.specs.declared.elem.Elem.TheBlock as block
use Rattle.flow_term.specs.contracts.elem.ElemOrd.TheImpl as order
use Rattle.flow_term.specs.contracts.elem.ElemOrd.TheImpl.Laws as laws
use Rattle.flow_term.specs.Elements.{layer_cmp, elem_cmp}

abbrev everywhere : Rel block.the_members (Values block.the_members block.the_sigs block.the_carrier) block.the_depth Ordering
everywhere = compared block.the_members (Values block.the_members block.the_sigs block.the_carrier) block.the_depth Ordering Equal order.the_step

abbrev derived : Elem → Elem → Ordering
derived = order.ghosts.cmp

-- what the derived comparison does at one layer
at_layer : (x y : Elem-F Elem) → order.the_step everywhere block.member-Elem (roll-Elem x) (roll-Elem y) ≡ layer_cmp derived x y
at_layer (Elem-F.Name a) (Elem-F.Name c) = simp out-roll-Elem
at_layer (Elem-F.Str a) (Elem-F.Str c) = simp out-roll-Elem
at_layer (Elem-F.Pos a) (Elem-F.Pos c) = simp out-roll-Elem
at_layer (Elem-F.Item a) (Elem-F.Item c) = simp out-roll-Elem
at_layer (Elem-F.Int a) (Elem-F.Int c) = simp out-roll-Elem
at_layer (Elem-F.Pair a b) (Elem-F.Pair c d) = simp out-roll-Elem
at_layer _ _ = simp out-roll-Elem

-- the derived comparison, one layer down
by_layers : (x y : Elem-F Elem) → derived (roll-Elem x) (roll-Elem y) ≡ layer_cmp derived x y
by_layers x y = compared_is _ _ _ _ _ order.the_step laws.local block.member-Elem (roll-Elem x) (roll-Elem y) ∙ at_layer x y

-- parts that are looked at through a function
layer_cmp-map : {A B C : Type 0} (f : A → B) (R : B → C → Ordering) (x : Elem-F A) (y : Elem-F C) → layer_cmp R (map-Elem A B f x) y ≡ layer_cmp (λ a. R (f a)) x y
layer_cmp-map f R (Elem-F.Name a) (Elem-F.Name c) = refl
layer_cmp-map f R (Elem-F.Str a) (Elem-F.Str c) = refl
layer_cmp-map f R (Elem-F.Pos a) (Elem-F.Pos c) = refl
layer_cmp-map f R (Elem-F.Item a) (Elem-F.Item c) = refl
layer_cmp-map f R (Elem-F.Int a) (Elem-F.Int c) = refl
layer_cmp-map f R (Elem-F.Pair a b) (Elem-F.Pair c d) = refl
layer_cmp-map f R _ _ = refl

abbrev IsOrdered : Elem → Type 0
IsOrdered x = (y : Elem) → derived x y ≡ elem_cmp x y

abbrev apply : (Elem → Ordering) → Elem → Ordering
apply part_cmp part = part_cmp part

-- a layer is compared alike where its parts are
layers_agree : (x : Elem-F ((a : Elem) × IsOrdered a)) (y : Elem-F Elem)
    → layer_cmp derived (map-Elem ((a : Elem) × IsOrdered a) Elem (λ a. a.0) x) y ≡ layer_cmp apply (map-Elem Elem (Elem → Ordering) elem_cmp (map-Elem ((a : Elem) × IsOrdered a) Elem (λ a. a.0) x)) y
layers_agree x y =
    layer_cmp-map (λ (a : (a : Elem) × IsOrdered a). a.0) derived x y ∙ (λ i. layer_cmp (λ (a : (a : Elem) × IsOrdered a) b. a.1 b i) x y)
    ∙ sym (layer_cmp-map (λ (a : (a : Elem) × IsOrdered a). a.0) elem_cmp x y) ∙ sym (layer_cmp-map elem_cmp apply (map-Elem ((a : Elem) × IsOrdered a) Elem (λ a. a.0) x) y)

ordered_layer : (x : Elem-F ((a : Elem) × IsOrdered a)) → IsOrdered (roll-Elem (map-Elem ((a : Elem) × IsOrdered a) Elem (λ a. a.0) x))
ordered_layer x y =
    let layer : Elem-F Elem = map-Elem ((a : Elem) × IsOrdered a) Elem (λ a. a.0) x in
    ap (derived (roll-Elem layer)) (sym (roll-out-Elem y)) ∙ by_layers layer (out-Elem y) ∙ layers_agree x (out-Elem y)
    ∙ sym (ap (λ (f : Elem → Ordering). f y) (fold-roll-Elem (Elem → Ordering) (λ one other. layer_cmp apply one (out-Elem other)) layer))

-- the derived order is that of the specification
pub elements_ordered : (x y : Elem) → derived x y ≡ elem_cmp x y
elements_ordered = ind-Elem IsOrdered (λ x y e. subst (λ d. IsOrdered (roll-Elem d)) e (ordered_layer y))

abbrev IsTold : Elem → Type 0
IsTold x = (y : Elem) → derived x y ≡ Equal → x ≡ y

both_equal : (r s : Ordering) → ordering_then r s ≡ Equal → (r ≡ Equal) × (s ≡ Equal)
both_equal Less s e = cc
both_equal Equal s e = (refl, e)
both_equal Greater s e = cc

same_pair : (a b c d : Elem) → a ≡ c → b ≡ d → Elem-F.Pair a b ≡ Elem-F.Pair c d
same_pair a b c d e f = cc

same_layers : (x : Elem-F ((a : Elem) × IsTold a)) (y : Elem-F Elem) → layer_cmp (λ a. derived a.0) x y ≡ Equal → map-Elem ((a : Elem) × IsTold a) Elem (λ a. a.0) x ≡ y
same_layers (Elem-F.Name a) (Elem-F.Name c) e = ap Elem-F.Name (exact_bytes a c e)
same_layers (Elem-F.Str a) (Elem-F.Str c) e = ap Elem-F.Str (exact_bytes a c e)
same_layers (Elem-F.Pos a) (Elem-F.Pos c) e = ap Elem-F.Pos (exact_bytes a c e)
same_layers (Elem-F.Item a) (Elem-F.Item c) e = ap Elem-F.Item (exact_bytes a c e)
same_layers (Elem-F.Int a) (Elem-F.Int c) e = ap Elem-F.Int (exact_signed a c e)
same_layers (Elem-F.Pair a b) (Elem-F.Pair c d) e = let parts = both_equal (derived a.0 c) (derived b.0 d) e in same_pair a.0 b.0 c d (a.1 c parts.0) (b.1 d parts.1)
same_layers _ _ e = cc

told_layer : (x : Elem-F ((a : Elem) × IsTold a)) → IsTold (roll-Elem (map-Elem ((a : Elem) × IsTold a) Elem (λ a. a.0) x))
told_layer x y e =
    let layer : Elem-F Elem = map-Elem ((a : Elem) × IsTold a) Elem (λ a. a.0) x in
    let same : layer_cmp (λ (a : (a : Elem) × IsTold a). derived a.0) x (out-Elem y) ≡ Equal =
    sym (layer_cmp-map (λ (a : (a : Elem) × IsTold a). a.0) derived x (out-Elem y)) ∙ sym (by_layers layer (out-Elem y)) ∙ ap (derived (roll-Elem layer)) (roll-out-Elem y) ∙ e in
    ap roll-Elem (same_layers x (out-Elem y) same) ∙ roll-out-Elem y

-- elements that tie are the same
pub same_elements : (x y : Elem) → derived x y ≡ Equal → x ≡ y
same_elements = ind-Elem IsTold (λ x y e. subst (λ d. IsTold (roll-Elem d)) e (told_layer y))
