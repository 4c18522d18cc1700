-- What a step gives of an expression, by one layer; and induction on the parts.
use Rattle.std.proofs.Common.{◌≡◌, List, [], ◌∷◌, map, Some, None, refl, sym, ap, subst, ◌∙◌}
use Rattle.std.specs.List.{AllByRecursion}
use Rattle.std.proofs.lemmas.List.{map-append}
use Rattle.flow_syntax.specs.declared.expr.Expr.{Expr, roll-Expr, out-Expr, out-roll-Expr, fold-Expr, ind-Expr, fold_out-Expr, fold-roll-Expr}
use Rattle.flow_syntax.specs.declared.expr.ExprKind.{ExprKind, roll-ExprKind, out-ExprKind, out-roll-ExprKind, fold-ExprKind, map-ExprKind, fold_out-ExprKind, fold-roll-ExprKind}
use Rattle.flow_syntax.specs.declared.expr.ExprKind.TheOpen.{ExprKind-F}
use Rattle.flow_syntax.specs.Expressions.{ExprLayer, expr_layer, parts_in, parts_of}
use Rattle.flow_syntax.specs.Parts.{Part, part, PartLayer, Step, KindPart, kind_step, whole_step, by_parts}

-- LAYERS

map_map : {A B C : Type 0} (f : B → C) (g : A → B) (xs : List A) → map f (map g xs) ≡ map (λ x. f (g x)) xs
map_map f g [] = refl
map_map f g (x ∷ xs) = ap (λ ys. f (g x) ∷ ys) (map_map f g xs)

map_twice : {A B C D E F : Type 0} (f : C → E) (g : D → F) (h : A → C) (k : B → D) (x : ExprKind-F A B)
    → map-ExprKind C D E F f g (map-ExprKind A B C D h k x) ≡ map-ExprKind A B E F (λ a. f (h a)) (λ b. g (k b)) x
map_twice f g h k (ExprKind-F.Call c es) = ap (ExprKind-F.Call c) (map_map g k es)
map_twice f g h k (ExprKind-F.SetOf es) = ap ExprKind-F.SetOf (map_map g k es)
map_twice f g h k (ExprKind-F.MapOf es vs) = λ i. ExprKind-F.MapOf (map_map g k es i) (map_map g k vs i)
map_twice f g h k (ExprKind-F.Choose e x s None) = refl
map_twice f g h k (ExprKind-F.Choose e x s (Some c)) = refl
map_twice f g h k _ = refl

-- a layer, with what is given of each part
abbrev pub given_layer : {M : Type 0} → (Expr → M) → ExprLayer → PartLayer M
given_layer {M} f layer = map-ExprKind ExprKind Expr ExprKind (Part M) (λ k. k) (λ e. part e (f e)) layer

-- the parts of such a layer, with what is given of them
pub given_parts : {M : Type 0} (f : Expr → M) (layer : ExprLayer) → parts_in (given_layer f layer) ≡ map (λ e. part e (f e)) (parts_in layer)
given_parts f (ExprKind-F.Choose e x s None) = refl
given_parts f (ExprKind-F.Choose e x s (Some c)) = refl
given_parts f (ExprKind-F.MapOf ks vs) = sym (map-append (λ e. part e (f e)) ks vs)
given_parts f _ = refl

module _ {M : Type 0} (step : Step M) where
  abbrev walk : Expr → Part M
  walk = fold-Expr (KindPart M) (Part M) kind_step (whole_step step)

  abbrev kind_walk : ExprKind → KindPart M
  kind_walk = fold-ExprKind (KindPart M) (Part M) kind_step (whole_step step)

  abbrev IsKept : Expr → Type 0
  IsKept e = (walk e).expr ≡ e

  abbrev IsKeptKind : ExprKind → Type 0
  IsKeptKind k = (kind_walk k).0 ≡ k

  kept_kind : (y : ExprKind-F ((k : ExprKind) × IsKeptKind k) ((e : Expr) × IsKept e)) → IsKeptKind (roll-ExprKind (map-ExprKind _ _ ExprKind Expr (λ k. k.0) (λ e. e.0) y))
  kept_kind y =
      ap (λ (w : KindPart M). w.0) (fold-roll-ExprKind (KindPart M) (Part M) kind_step (whole_step step) (map-ExprKind _ _ ExprKind Expr (λ k. k.0) (λ e. e.0) y))
      ∙ ap roll-ExprKind (map_twice (λ (k : KindPart M). k.0) (λ (e : Part M). e.expr) kind_walk walk (map-ExprKind _ _ ExprKind Expr (λ k. k.0) (λ e. e.0) y)
      ∙ map_twice (λ (k : ExprKind). (kind_walk k).0) (λ (e : Expr). (walk e).expr) (λ (k : (k : ExprKind) × IsKeptKind k). k.0) (λ (e : (e : Expr) × IsKept e). e.0) y
      ∙ (λ i. map-ExprKind ((k : ExprKind) × IsKeptKind k) ((e : Expr) × IsKept e) ExprKind Expr (λ k. k.1 i) (λ e. e.1 i) y))

  kept_placed : (n : _) (k : ExprKind) → IsKeptKind k → IsKept (roll-Expr (record { place = n; kind = k }))
  kept_placed n k h =
      ap (λ (w : Part M). w.expr) (fold-roll-Expr (KindPart M) (Part M) kind_step (whole_step step) (record { place = n; kind = k }))
      ∙ ap (λ (j : ExprKind). roll-Expr (record { place = n; kind = j })) h

  -- the walk hands an expression on as it is
  kept : (e : Expr) → IsKept e
  kept = ind-Expr IsKeptKind IsKept (λ x y e. subst (λ d. IsKeptKind (roll-ExprKind d)) e (kept_kind y)) (λ x y e. subst (λ d. IsKept (roll-Expr d)) e (kept_placed y.place y.kind.0 y.kind.1))

  walk_is : (e : Expr) → walk e ≡ part e (by_parts step e)
  walk_is e = λ i. record { expr = kept e i; given = by_parts step e }

  layer_is : (layer : ExprLayer) → map-ExprKind (KindPart M) (Part M) ExprKind (Part M) (λ k. k.0) (λ e. e) (map-ExprKind ExprKind Expr (KindPart M) (Part M) kind_walk walk layer)
      ≡ map-ExprKind ExprKind Expr ExprKind (Part M) (λ k. (kind_walk k).0) (λ e. part e (by_parts step e)) layer
  layer_is layer =
      map_twice (λ (k : KindPart M). k.0) (λ (e : Part M). e) kind_walk walk layer
      ∙ (λ i. map-ExprKind ExprKind Expr ExprKind (Part M) (λ k. (kind_walk k).0) (λ e. walk_is e i) layer)

  -- no kind stands in a layer by itself
  same_layer : (f g : ExprKind → ExprKind) (h : Expr → Part M) (layer : ExprLayer) → map-ExprKind ExprKind Expr ExprKind (Part M) f h layer ≡ map-ExprKind ExprKind Expr ExprKind (Part M) g h layer
  same_layer f g h _ = refl

  whole_walk : (e : Expr) → walk e ≡ whole_step step (record { place = (out-Expr e).place; kind = kind_walk (out-Expr e).kind })
  whole_walk e = fold_out-Expr (KindPart M) (Part M) kind_step (whole_step step) e

  kind_layer : (e : Expr) → (kind_walk (out-Expr e).kind).1 ≡ given_layer (by_parts step) (expr_layer e)
  kind_layer e =
      ap (λ (w : KindPart M). w.1) (fold_out-ExprKind (KindPart M) (Part M) kind_step (whole_step step) (out-Expr e).kind)
      ∙ layer_is (expr_layer e) ∙ same_layer (λ k. (kind_walk k).0) (λ k. k) (λ e. part e (by_parts step e)) (expr_layer e)

  -- what is given of an expression is what the step gives from it and from what is given of its parts
  pub by_parts_out : (e : Expr) → by_parts step e ≡ step e (given_layer (by_parts step) (expr_layer e))
  by_parts_out e =
      let head : roll-Expr (record { place = (out-Expr e).place; kind = (kind_walk (out-Expr e).kind).0 }) ≡ e = sym (ap (λ (w : Part M). w.expr) (whole_walk e)) ∙ kept e in
      ap (λ (w : Part M). w.given) (whole_walk e) ∙ (λ i. step (head i) (kind_layer e i))

-- INDUCTION

module _ (P : Expr → Type 0) (step : (e : Expr) → AllByRecursion P (parts_of e) → P e) where
  abbrev AllParts : ExprKind → Type 0
  AllParts k = AllByRecursion P (parts_in (out-ExprKind k))

  abbrev Proved : Type 0
  Proved = (e : Expr) × P e

  each_proved : (es : List Proved) → AllByRecursion P (map (λ (e : Proved). e.0) es)
  each_proved [] = tt
  each_proved (e ∷ es) = (e.1, each_proved es)

  parts_map : {K : Type 0} (f : K → ExprKind) (y : ExprKind-F K Proved) → parts_in (map-ExprKind K Proved ExprKind Expr f (λ e. e.0) y) ≡ map (λ (e : Proved). e.0) (parts_in y)
  parts_map f (ExprKind-F.Choose e x s None) = refl
  parts_map f (ExprKind-F.Choose e x s (Some c)) = refl
  parts_map f (ExprKind-F.MapOf ks vs) = sym (map-append (λ (e : Proved). e.0) ks vs)
  parts_map f _ = refl

  kind_proved : (y : ExprKind-F ((k : ExprKind) × AllParts k) Proved) → AllParts (roll-ExprKind (map-ExprKind _ _ ExprKind Expr (λ k. k.0) (λ e. e.0) y))
  kind_proved y =
      subst (λ layer. AllByRecursion P (parts_in layer)) (sym (out-roll-ExprKind (map-ExprKind _ _ ExprKind Expr (λ k. k.0) (λ e. e.0) y)))
      (subst (AllByRecursion P) (sym (parts_map (λ (k : (k : ExprKind) × AllParts k). k.0) y)) (each_proved (parts_in y)))

  placed_proved : (n : _) (k : ExprKind) → AllParts k → P (roll-Expr (record { place = n; kind = k }))
  placed_proved n k h = step (roll-Expr (record { place = n; kind = k })) (subst AllParts (sym (ap (λ e. e.kind) (out-roll-Expr (record { place = n; kind = k })))) h)

  -- what holds of each expression of whose parts it holds holds of all
  pub by_induction : (e : Expr) → P e
  by_induction = ind-Expr AllParts P (λ x y e. subst (λ d. AllParts (roll-ExprKind d)) e (kind_proved y)) (λ x y e. subst (λ d. P (roll-Expr d)) e (placed_proved y.place y.kind.0 y.kind.1))
