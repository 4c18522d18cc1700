-- The join of two flat values by what the two are.
use Rattle.std.proofs.Common.{◌≡◌, Bool, true, false, cond, refl, sym, ap, ◌∙◌}
use Rattle.std.specs.Ordering.{eq_by_cmp}
use Rattle.flow_term.specs.declared.elem.Elem.{Elem}
use Rattle.flow_term.specs.declared.value.Value.{Value, Value-F, out-Value, roll-Value, roll-out-Value}
use Rattle.flow_term.specs.declared.value.Value.TheVariants as value
use Rattle.flow_term.specs.Elements.{elem_cmp}
use Rattle.value_domains.specs.Values.{ValueLayer, flat_join}

-- a value with a layer
pub layer_of : (v : Value) (l : ValueLayer) → out-Value v ≡ l → v ≡ roll-Value l
layer_of v l e = sym (roll-out-Value v) ∙ ap roll-Value e

abbrev one_or_top : Bool → Elem → Value
one_or_top same x = roll-Value (cond same (Value-F.Flat x) Value-F.Top)

two_flats : (a b : Value) (x y : Elem) → a ≡ value.Flat x → b ≡ value.Flat y → roll-Value (flat_join (out-Value a) (out-Value b)) ≡ one_or_top (eq_by_cmp elem_cmp x y) x
two_flats a b x y e f =
    ap (λ l. roll-Value (flat_join l (out-Value b))) (ap out-Value e ∙ value.outs-Flat x)
    ∙ ap (λ l. roll-Value (flat_join (Value-F.Flat x) l)) (ap out-Value f ∙ value.outs-Flat y)

pub flat_apart : (a b : Value) (x y : Elem) → a ≡ value.Flat x → b ≡ value.Flat y → eq_by_cmp elem_cmp x y ≡ false → value.Top ≡ roll-Value (flat_join (out-Value a) (out-Value b))
flat_apart a b x y e f h = sym (two_flats a b x y e f ∙ ap (λ t. one_or_top t x) h ∙ value.rolls-Top)

top_layers : (x y : ValueLayer) → (x ≡ Value-F.Bottom → ⊥) → (y ≡ Value-F.Bottom → ⊥) → ((u w : Elem) → x ≡ Value-F.Flat u → y ≡ Value-F.Flat w → ⊥) → flat_join x y ≡ Value-F.Top
top_layers Value-F.Bottom y nx ny nf = absurd (nx refl)
top_layers (Value-F.Flat u) Value-F.Bottom nx ny nf = absurd (ny refl)
top_layers (Value-F.Flat u) (Value-F.Flat w) nx ny nf = absurd (nf u w refl refl)
top_layers (Value-F.Flat u) _ nx ny nf = refl
top_layers _ Value-F.Bottom nx ny nf = absurd (ny refl)
top_layers _ _ nx ny nf = refl

pub flat_top : (a b : Value) → (a ≡ value.Bottom → ⊥) → (b ≡ value.Bottom → ⊥) → ((u w : Elem) → a ≡ value.Flat u → b ≡ value.Flat w → ⊥) → value.Top ≡ roll-Value (flat_join (out-Value a) (out-Value b))
flat_top a b na nb nf =
    sym (ap roll-Value (top_layers (out-Value a) (out-Value b)
    (λ e. na (layer_of a Value-F.Bottom e ∙ value.rolls-Bottom)) (λ e. nb (layer_of b Value-F.Bottom e ∙ value.rolls-Bottom))
    (λ u w e f. nf u w (layer_of a (Value-F.Flat u) e ∙ value.rolls-Flat u) (layer_of b (Value-F.Flat w) f ∙ value.rolls-Flat w))) ∙ value.rolls-Top)

pub flat≢bottom : (v : Value) (x : Elem) → v ≡ value.Flat x → v ≡ value.Bottom → ⊥
flat≢bottom v x e f = cc
