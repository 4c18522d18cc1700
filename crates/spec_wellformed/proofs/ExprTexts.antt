-- What each text of an expression has: its parts stand in its range, each once.
use Rattle.std.proofs.Common.{◌≡◌, ℕ, ◌<◌, ◌≤◌, Bool, true, false, List, [], ◌∷◌, ◌++◌, Option, Some, None, refl, sym, ap, subst, ◌∙◌, inl, inr, arith}
use Rattle.std.specs.Prelude.{if◌then◌else◌}
use Rattle.std.specs.List.{fold}
use Rattle.std.proofs.lemmas.List.{length-map}
use Rattle.std.proofs.lemmas.Grind.{flat_map-append}
use Rattle.flow_syntax.proofs.ExprLayers.{layer_of_int, layer_of_str, layer_of_truth, layer_of_bottom, layer_of_top, layer_of_unreached, layer_of_ident, layer_of_read, layer_of_call, layer_of_make_flat, layer_of_fst, layer_of_snd, layer_of_both, layer_of_set_of, layer_of_choose, layer_of_map_of, layer_of_look, layer_of_update, layer_of_set2, layer_of_arith, layer_of_minus, layer_of_compare, layer_of_member, layer_of_and, layer_of_or, layer_of_not, layer_of_bind, layer_of_if}
use Rattle.flow_syntax.specs.Accepted.{IsEvenMap}
use Rattle.flow_syntax.specs.Expressions.{ExprLayer, parts_in, parts_of, preorder, all_of_option}
use Rattle.flow_syntax.specs.declared.expr.ArithOp.TheVariants as arith_ops
use Rattle.flow_syntax.specs.declared.expr.CompareOp.TheVariants as compare_ops
use Rattle.flow_syntax.specs.declared.expr.Expr.{Expr, out-Expr}
use Rattle.flow_syntax.specs.declared.expr.ExprKind.{ExprKind, out-ExprKind}
use Rattle.flow_syntax.specs.declared.expr.ExprKind.TheVariants as exprs
use Rattle.flow_syntax.specs.declared.expr.SetOp.TheVariants as set_ops
use Rattle.flow_syntax.specs.declared.token.Token.{Token}
use Rattle.grammar_theory.specs.Texts.{PartValue, Symbol, Then}
use Rattle.spec_wellformed.proofs.Attributes.{TurnFacts}
use Rattle.spec_wellformed.proofs.Facts.{Fact}
use Rattle.spec_wellformed.proofs.Ranges.{AreWithin, all_of, whole_within, parts_within, place_within, itself, none_within, widen, both_within, last_within, cons_within, interleaved}
use Rattle.spec_grammar.specs.Expressions.{expr_at, place_of, expr_rule, make_expr, operand_rule, make_operand, operators_of, level_rule, make_level, operation, combined, negation_rule, make_negation, comparison_rule, make_comparison, opposite_rule, make_opposite, suffix_rule, make_suffix, lookup_rule, make_lookup, suffixed}
use Rattle.spec_grammar.specs.Kinds.{is_a, is_kind, kind_of}
use Rattle.spec_grammar.specs.Parts.{the, any_of, behind, text_of, number_of}
use Rattle.spec_grammar.specs.Primaries.{literal_of, applied_to, side_of, named_expr_rule, make_named_expr, parenthesis_rule, make_parenthesis, brace_rule, make_brace, map_entry, keys_of, values_of, map_rule, make_map, primary_rule, make_primary}
use Rattle.spec_grammar.specs.Symbols.{ValueOf, AnExpr, AnOperand}
use Rattle.spec_grammar.specs.declared.level.BinaryLevel.{BinaryLevel}
use Rattle.spec_grammar.specs.declared.level.BinaryLevel.TheVariants as levels
use Rattle.spec_grammar.specs.declared.kind.Kind.TheVariants as kinds

-- ** forms and their parts

-- A form of expression has these parts, and isn't an uneven map.
abbrev HasParts : ExprKind → List Expr → Type 0
HasParts k es = (parts_in (out-ExprKind k) ≡ es) × IsEvenMap (out-ExprKind k)

layered : (k : ExprKind) (x : ExprLayer) → out-ExprKind k ≡ x → IsEvenMap x → HasParts k (parts_in x)
layered k x e even = (ap parts_in e, subst IsEvenMap (sym e) even)

chosen : (b : Bool) (j k : ExprKind) (es : List Expr) → HasParts j es → HasParts k es → HasParts (if b then j else k) es
chosen true j k es f g = f
chosen false j k es f g = g

made : (lo hi p : ℕ) (k : ExprKind) (es : List Expr) → HasParts k es → lo ≤ p → p < hi → AreWithin lo hi (all_of es) → AreWithin lo hi (preorder (expr_at p k))
made lo hi p k es h below above w = whole_within lo hi (expr_at p k) below above h.1 (subst (λ (xs : List Expr). AreWithin lo hi (all_of xs)) (sym h.0) w)

operation_parts : (kind : ℕ) (a b : Expr) → HasParts (operation kind a b) (a ∷ b ∷ [])
operation_parts kind a b =
    chosen (is_kind kinds.Or kind) _ _ _ (layered _ _ (layer_of_or a b) tt) (chosen (is_kind kinds.And kind) _ _ _ (layered _ _ (layer_of_and a b) tt)
    (chosen (is_kind kinds.Equal kind) _ _ _ (layered _ _ (layer_of_compare compare_ops.Eq a b) tt) (chosen (is_kind kinds.Unequal kind) _ _ _ (layered _ _ (layer_of_compare compare_ops.Ne a b) tt)
    (chosen (is_kind kinds.Below kind) _ _ _ (layered _ _ (layer_of_compare compare_ops.Lt a b) tt) (chosen (is_kind kinds.AtMost kind) _ _ _ (layered _ _ (layer_of_compare compare_ops.Le a b) tt)
    (chosen (is_kind kinds.In kind) _ _ _ (layered _ _ (layer_of_member a b) tt)
    (chosen (is_kind kinds.Join kind) _ _ _ (layered _ _ (layer_of_set2 set_ops.Join a b) tt) (chosen (is_kind kinds.Union kind) _ _ _ (layered _ _ (layer_of_set2 set_ops.Union a b) tt)
    (chosen (is_kind kinds.Inter kind) _ _ _ (layered _ _ (layer_of_set2 set_ops.Inter a b) tt) (chosen (is_kind kinds.Minus kind) _ _ _ (layered _ _ (layer_of_set2 set_ops.Minus a b) tt)
    (chosen (is_kind kinds.Plus kind) _ _ _ (layered _ _ (layer_of_arith arith_ops.Add a b) tt) (chosen (is_kind kinds.Dash kind) _ _ _ (layered _ _ (layer_of_arith arith_ops.Sub a b) tt)
    (layered _ _ (layer_of_arith arith_ops.Mul a b) tt)))))))))))))

literal_parts : (t : Token) → HasParts (literal_of t) []
literal_parts t =
    chosen (is_a kinds.Number t) _ _ _ (layered _ _ (layer_of_int (number_of t)) tt) (chosen (is_a kinds.Quoted t) _ _ _ (layered _ _ (layer_of_str (text_of t)) tt)
    (chosen (is_a kinds.True t) _ _ _ (layered _ _ (layer_of_truth true) tt) (chosen (is_a kinds.False t) _ _ _ (layered _ _ (layer_of_truth false) tt)
    (chosen (is_a kinds.Bottom t) _ _ _ (layered _ _ layer_of_bottom tt) (chosen (is_a kinds.Top t) _ _ _ (layered _ _ layer_of_top tt) (layered _ _ layer_of_unreached tt))))))

applied_parts : (kind : ℕ) (a : Expr) → HasParts (applied_to kind a) (a ∷ [])
applied_parts kind a = chosen (is_kind kinds.MakeFlat kind) _ _ _ (layered _ _ (layer_of_make_flat a) tt) (chosen (is_kind kinds.Fst kind) _ _ _ (layered _ _ (layer_of_fst a) tt) (layered _ _ (layer_of_snd a) tt))

-- two expressions, the second behind the first, as the parts of one that begins with the first
combined_within : (lo mid n hi : ℕ) (a b : Expr) (t : Token) → lo ≤ mid → mid ≤ n → n ≤ hi → AreWithin lo mid (preorder a) → AreWithin n hi (preorder b) → AreWithin lo hi (preorder (combined a (t, b)))
combined_within lo mid n hi a b t x y z v w =
    let p = place_within lo mid a v in
    made lo hi (place_of a) (operation (kind_of t) a b) (a ∷ b ∷ []) (operation_parts (kind_of t) a b) p.0 (omega (arith, p.1, y, z))
    (cons_within lo hi lo mid n a (b ∷ []) (omega arith) y (omega (arith, x, y)) z v (last_within n hi n hi b (omega arith) (omega arith) w z))

module _ (ids : Type 0) where
  -- ** expr

  pub expr_step : (lo hi : ℕ) (x : PartValue Token ValueOf expr_rule) → Fact ids expr_rule lo hi x → AreWithin lo hi (preorder (make_expr x))
  expr_step lo hi (inl x) (m2, b2, a2, (m1, b1, a1, f, c), (m4, b4, a4, (m3, b3, a3, g, a), (m5, b5, a5, h, b))) =
      made lo hi x.0.0.place (exprs.If x.0.1 x.1.0.1 x.1.1.1) (x.0.1 ∷ x.1.0.1 ∷ x.1.1.1 ∷ []) (layered _ _ (layer_of_if x.0.1 x.1.0.1 x.1.1.1) tt) f.0 (omega (arith, f.1, a1, a2))
      (cons_within lo hi m1 m2 m3 x.0.1 (x.1.0.1 ∷ x.1.1.1 ∷ []) b1 b3 (omega (arith, b2, b3)) (omega (arith, a3, a4)) c
      (cons_within m3 hi m3 m4 m5 x.1.0.1 (x.1.1.1 ∷ []) (omega arith) b5 (omega (arith, a3, b5)) a5 a (last_within m5 hi m5 hi x.1.1.1 (omega arith) (omega arith) b a5)))
  expr_step lo hi (inr (inl x)) (m1, b1, a1, f, (m2, b2, a2, n, (m4, b4, a4, (m3, b3, a3, g, a), (m5, b5, a5, h, b)))) =
      made lo hi x.0.place (exprs.Bind (text_of x.1.0) x.1.1.0.1 x.1.1.1.1) (x.1.1.0.1 ∷ x.1.1.1.1 ∷ []) (layered _ _ (layer_of_bind (text_of x.1.0) x.1.1.0.1 x.1.1.1.1) tt) f.0 (omega (arith, f.1, a1))
      (cons_within lo hi m3 m4 m5 x.1.1.0.1 (x.1.1.1.1 ∷ []) (omega (arith, b1, b2, b3)) b5 (omega (arith, b1, b2, b4, b5)) a5 a (last_within m5 hi m5 hi x.1.1.1.1 (omega arith) (omega arith) b a5))
  expr_step lo hi (inr (inr e)) w = w

  -- ** chains

  grouped_within : (level : BinaryLevel) (lo mid hi : ℕ) (e : Expr) (xs : List (Token × Expr)) → lo ≤ mid → AreWithin lo mid (preorder e)
      → TurnFacts (Fact ids (Then (any_of (operators_of level)) (Symbol (AnOperand level)))) mid hi xs → AreWithin lo hi (preorder (fold combined e xs))
  grouped_within level lo mid hi e [] up w f = widen lo mid lo hi (preorder e) (omega arith) f w
  grouped_within level lo mid hi e (x ∷ xs) up w (n, b, a, (m, c, d, t, v), later) =
      grouped_within level lo n hi (combined e x) xs (omega (arith, up, b)) (combined_within lo mid m n e x.1 x.0 up c d w v) later

  pub level_step : (level : BinaryLevel) (lo hi : ℕ) (x : PartValue Token ValueOf (level_rule level)) → Fact ids (level_rule level) lo hi x → AreWithin lo hi (preorder (make_level level x))
  level_step level lo hi x (mid, b, a, w, f) = grouped_within level lo mid hi x.0 x.1 b w f

  pub operand_step : (level : BinaryLevel) (lo hi : ℕ) (x : PartValue Token ValueOf (operand_rule level)) → Fact ids (operand_rule level) lo hi x → AreWithin lo hi (preorder (make_operand level x))
  operand_step levels.Disjunction lo hi x w = w
  operand_step levels.Conjunction lo hi x w = w
  operand_step levels.SetOperation lo hi x w = w
  operand_step levels.Sum lo hi x w = w
  operand_step levels.Product lo hi x w = w

  -- ** not, comparisons and the sign

  pub negation_step : (lo hi : ℕ) (x : PartValue Token ValueOf negation_rule) → Fact ids negation_rule lo hi x → AreWithin lo hi (preorder (make_negation x))
  negation_step lo hi (inl x) (m, b, a, f, w) = made lo hi x.0.place (exprs.Not x.1) (x.1 ∷ []) (layered _ _ (layer_of_not x.1) tt) f.0 (omega (arith, f.1, a)) (last_within lo hi m hi x.1 b (omega arith) w (omega (arith, b, a)))
  negation_step lo hi (inr e) w = w

  pub comparison_step : (lo hi : ℕ) (x : PartValue Token ValueOf comparison_rule) → Fact ids comparison_rule lo hi x → AreWithin lo hi (preorder (make_comparison x))
  comparison_step lo hi (e, None) (mid, b, a, w, f) = widen lo mid lo hi (preorder e) (omega arith) a w
  comparison_step lo hi (e, Some x) (mid, b, a, w, (m, c, d, t, v)) = combined_within lo mid m hi e x.1 x.0 b c d w v

  pub opposite_step : (lo hi : ℕ) (x : PartValue Token ValueOf opposite_rule) → Fact ids opposite_rule lo hi x → AreWithin lo hi (preorder (make_opposite x))
  opposite_step lo hi (inl x) (m, b, a, f, w) = made lo hi x.0.place (exprs.Minus x.1) (x.1 ∷ []) (layered _ _ (layer_of_minus x.1) tt) f.0 (omega (arith, f.1, a)) (last_within lo hi m hi x.1 b (omega arith) w (omega (arith, b, a)))
  opposite_step lo hi (inr e) w = w

  -- ** look-ups

  pub suffix_step : (lo hi : ℕ) (x : PartValue Token ValueOf suffix_rule) → Fact ids suffix_rule lo hi x → AreWithin lo hi (all_of ((make_suffix x).0 ∷ all_of_option (make_suffix x).1))
  suffix_step lo hi (o, ((k, None), c)) (m1, b1, a1, f, (m2, b2, a2, (m3, b3, a3, w, z), g)) = last_within lo hi m1 m3 k b1 (omega (arith, a2, a3)) w (omega (arith, b1, a1))
  suffix_step lo hi (o, ((k, Some v), c)) (m1, b1, a1, f, (m2, b2, a2, (m3, b3, a3, w, (m4, b4, a4, t, u)), g)) =
      cons_within lo hi m1 m3 m4 k (v.1 ∷ []) b1 b4 (omega (arith, b1, b3, b4)) (omega (arith, a4, a2)) w (last_within m4 hi m4 m2 v.1 (omega arith) a2 u (omega (arith, a4, a2)))

  suffixed_within : (lo mid hi : ℕ) (e : Expr) (x : Expr × Option Expr) → lo ≤ mid → mid ≤ hi → AreWithin lo mid (preorder e) → AreWithin mid hi (all_of (x.0 ∷ all_of_option x.1)) → AreWithin lo hi (preorder (suffixed e x))
  suffixed_within lo mid hi e (k, None) up down w v =
      let p = place_within lo mid e w in
      made lo hi (place_of e) (exprs.Look e k) (e ∷ k ∷ []) (layered _ _ (layer_of_look e k) tt) p.0 (omega (arith, p.1, down)) (both_within lo mid hi (preorder e) (all_of (k ∷ [])) up down w v)
  suffixed_within lo mid hi e (k, Some u) up down w v =
      let p = place_within lo mid e w in
      made lo hi (place_of e) (exprs.Update e k u) (e ∷ k ∷ u ∷ []) (layered _ _ (layer_of_update e k u) tt) p.0 (omega (arith, p.1, down)) (both_within lo mid hi (preorder e) (all_of (k ∷ u ∷ [])) up down w v)

  all_suffixed_within : (lo mid hi : ℕ) (e : Expr) (xs : List (Expr × Option Expr)) → lo ≤ mid → AreWithin lo mid (preorder e)
      → TurnFacts (λ l h (x : Expr × Option Expr). AreWithin l h (all_of (x.0 ∷ all_of_option x.1))) mid hi xs → AreWithin lo hi (preorder (fold suffixed e xs))
  all_suffixed_within lo mid hi e [] up w f = widen lo mid lo hi (preorder e) (omega arith) f w
  all_suffixed_within lo mid hi e (x ∷ xs) up w (n, b, a, v, later) = all_suffixed_within lo n hi (suffixed e x) xs (omega (arith, up, b)) (suffixed_within lo mid n e x up b w v) later

  pub lookup_step : (lo hi : ℕ) (x : PartValue Token ValueOf lookup_rule) → Fact ids lookup_rule lo hi x → AreWithin lo hi (preorder (make_lookup x))
  lookup_step lo hi x (mid, b, a, w, f) = all_suffixed_within lo mid hi x.0 x.1 b w f

  -- ** names, reads and calls

  pub named_expr_step : (lo hi : ℕ) (x : PartValue Token ValueOf named_expr_rule) → Fact ids named_expr_rule lo hi x → AreWithin lo hi (preorder (make_named_expr x))
  named_expr_step lo hi (t, None) (m, b, a, f, z) = made lo hi t.place (exprs.Ident (text_of t)) [] (layered _ _ (layer_of_ident (text_of t)) tt) f.0 (omega (arith, f.1, a)) (none_within lo hi)
  named_expr_step lo hi (t, Some (o, (inl w, c))) (m, b, a, f, z) =
      made lo hi t.place (exprs.Read (text_of t) (side_of (kind_of w))) [] (layered _ _ (layer_of_read (text_of t) (side_of (kind_of w))) tt) f.0 (omega (arith, f.1, a)) (none_within lo hi)
  named_expr_step lo hi (t, Some (o, (inr (e, None), c))) (m, b, a, f, (m1, b1, a1, g, (m2, b2, a2, (m3, b3, a3, w, y), h))) =
      made lo hi t.place (exprs.Call (text_of t) (e ∷ [])) (e ∷ []) (layered _ _ (layer_of_call (text_of t) (e ∷ [])) tt) f.0 (omega (arith, f.1, a))
      (last_within lo hi m1 m3 e (omega (arith, b, b1)) (omega (arith, a3, a2)) w (omega (arith, b, a)))
  named_expr_step lo hi (t, Some (o, (inr (e, Some d), c))) (m, b, a, f, (m1, b1, a1, g, (m2, b2, a2, (m3, b3, a3, w, (m4, b4, a4, s, v)), h))) =
      made lo hi t.place (exprs.Call (text_of t) (e ∷ d.1 ∷ [])) (e ∷ d.1 ∷ []) (layered _ _ (layer_of_call (text_of t) (e ∷ d.1 ∷ [])) tt) f.0 (omega (arith, f.1, a))
      (cons_within lo hi m1 m3 m4 e (d.1 ∷ []) (omega (arith, b, b1)) b4 (omega (arith, b, b1, b3, b4)) (omega (arith, a4, a2)) w (last_within m4 hi m4 m2 d.1 (omega arith) a2 v (omega (arith, a4, a2))))

  -- ** parentheses

  pub parenthesis_step : (lo hi : ℕ) (x : PartValue Token ValueOf parenthesis_rule) → Fact ids parenthesis_rule lo hi x → AreWithin lo hi (preorder (make_parenthesis x))
  parenthesis_step lo hi (o, ((e, None), c)) (m1, b1, a1, f, (m2, b2, a2, (m3, b3, a3, w, z), g)) =
      made lo hi o.place (out-Expr e).kind (parts_of e) (refl, w.even e (itself e)) f.0 (omega (arith, f.1, a1)) (widen m1 m3 lo hi (all_of (parts_of e)) b1 (omega (arith, a3, a2)) (parts_within m1 m3 e w))
  parenthesis_step lo hi (o, ((e, Some d), c)) (m1, b1, a1, f, (m2, b2, a2, (m3, b3, a3, w, (m4, b4, a4, s, v)), g)) =
      made lo hi o.place (exprs.Both e d.1) (e ∷ d.1 ∷ []) (layered _ _ (layer_of_both e d.1) tt) f.0 (omega (arith, f.1, a1))
      (cons_within lo hi m1 m3 m4 e (d.1 ∷ []) b1 b4 (omega (arith, b1, b3, b4)) (omega (arith, a4, a2)) w (last_within m4 hi m4 m2 d.1 (omega arith) a2 v (omega (arith, a4, a2))))

  -- ** braces

  behind_within : (lo hi : ℕ) (xs : List (Token × Expr)) → TurnFacts (Fact ids (Then (the kinds.Comma) (Symbol AnExpr))) lo hi xs → AreWithin lo hi (all_of (behind xs))
  behind_within lo hi [] f = none_within lo hi
  behind_within lo hi (x ∷ xs) (n, b, a, (m, c, d, t, w), later) = cons_within lo hi m n n x.1 (behind xs) c (omega arith) b a w (behind_within n hi xs later)

  pub brace_step : (lo hi : ℕ) (x : PartValue Token ValueOf brace_rule) → Fact ids brace_rule lo hi x → AreWithin lo hi (preorder (make_brace x))
  brace_step lo hi (o, (None, c)) (m1, b1, a1, f, z) = made lo hi o.place (exprs.SetOf []) [] (layered _ _ (layer_of_set_of []) tt) f.0 (omega (arith, f.1, a1)) (none_within lo hi)
  brace_step lo hi (o, (Some (e, None), c)) (m1, b1, a1, f, (m2, b2, a2, (m3, b3, a3, w, z), g)) =
      made lo hi o.place (exprs.SetOf (e ∷ [])) (e ∷ []) (layered _ _ (layer_of_set_of (e ∷ [])) tt) f.0 (omega (arith, f.1, a1)) (last_within lo hi m1 m3 e b1 (omega (arith, a3, a2)) w (omega (arith, b1, a1)))
  brace_step lo hi (o, (Some (e, Some (inl (fr, (id, (inn, (s, None)))))), c)) (m1, b1, a1, f, (m2, b2, a2, (m3, b3, a3, w, (m4, b4, a4, r, (m5, b5, a5, i, (m6, b6, a6, n, (m7, b7, a7, v, z))))), g)) =
      made lo hi o.place (exprs.Choose e (text_of id) s None) (e ∷ s ∷ []) (layered _ _ (layer_of_choose e (text_of id) s None) tt) f.0 (omega (arith, f.1, a1))
      (cons_within lo hi m1 m3 m6 e (s ∷ []) b1 (omega (arith, b4, b5, b6)) (omega (arith, b1, b3, b4, b5, b6)) (omega (arith, a6, a2)) w (last_within m6 hi m6 m7 s (omega arith) (omega (arith, a7, a2)) v (omega (arith, a6, a2))))
  brace_step lo hi (o, (Some (e, Some (inl (fr, (id, (inn, (s, Some d)))))), c)) (m1, b1, a1, f, (m2, b2, a2, (m3, b3, a3, w, (m4, b4, a4, r, (m5, b5, a5, i, (m6, b6, a6, n, (m7, b7, a7, v, (m8, b8, a8, y, u)))))), g)) =
      made lo hi o.place (exprs.Choose e (text_of id) s (Some d.1)) (e ∷ s ∷ d.1 ∷ []) (layered _ _ (layer_of_choose e (text_of id) s (Some d.1)) tt) f.0 (omega (arith, f.1, a1))
      (cons_within lo hi m1 m3 m6 e (s ∷ d.1 ∷ []) b1 (omega (arith, b4, b5, b6)) (omega (arith, b1, b3, b4, b5, b6)) (omega (arith, a6, a2)) w
      (cons_within m6 hi m6 m7 m8 s (d.1 ∷ []) (omega arith) b8 (omega (arith, b7, b8)) (omega (arith, a8, a2)) v (last_within m8 hi m8 m2 d.1 (omega arith) a2 u (omega (arith, a8, a2)))))
  brace_step lo hi (o, (Some (e, Some (inr (k, (d, ds)))), c)) (m1, b1, a1, f, (m2, b2, a2, (m3, b3, a3, w, (m4, b4, a4, t, (m5, b5, a5, v, later))), g)) =
      made lo hi o.place (exprs.SetOf (e ∷ d ∷ behind ds)) (e ∷ d ∷ behind ds) (layered _ _ (layer_of_set_of (e ∷ d ∷ behind ds)) tt) f.0 (omega (arith, f.1, a1))
      (widen lo m2 lo hi (all_of (e ∷ d ∷ behind ds)) (omega arith) a2
      (cons_within lo m2 m1 m3 m4 e (d ∷ behind ds) b1 b4 (omega (arith, b1, b3, b4)) a4 w (cons_within m4 m2 m4 m5 m5 d (behind ds) (omega arith) (omega arith) b5 a5 v (behind_within m5 m2 ds later))))

  -- ** maps

  entry_within : (lo hi : ℕ) (x : Expr × (Token × Expr)) → Fact ids map_entry lo hi x → AreWithin lo hi (preorder x.0 ++ preorder x.1.1)
  entry_within lo hi x (m, b, a, w, (n, c, d, t, v)) = both_within lo n hi (preorder x.0) (preorder x.1.1) (omega (arith, b, c)) d (widen lo m lo n (preorder x.0) (omega arith) c w) v

  entries_within : (lo hi : ℕ) (xs : List (Token × (Expr × (Token × Expr)))) → TurnFacts (Fact ids (Then (the kinds.Comma) map_entry)) lo hi xs
      → AreWithin lo hi (all_of (keys_of (behind xs)) ++ all_of (values_of (behind xs)))
  entries_within lo hi [] f = none_within lo hi
  entries_within lo hi (x ∷ xs) (n, b, a, (m, c, d, t, e), later) =
      interleaved lo n hi (preorder x.1.0) (preorder x.1.1.1) (all_of (keys_of (behind xs))) (all_of (values_of (behind xs))) b a
      (widen m n lo n (preorder x.1.0 ++ preorder x.1.1.1) c (omega arith) (entry_within m n x.1 e)) (entries_within n hi xs later)

  map_parts : (es : List (Expr × (Token × Expr))) → HasParts (exprs.MapOf (keys_of es) (values_of es)) (keys_of es ++ values_of es)
  map_parts es = layered _ _ (layer_of_map_of (keys_of es) (values_of es)) (length-map es (λ (x : Expr × (Token × Expr)). x.0) ∙ sym (length-map es (λ (x : Expr × (Token × Expr)). x.1.1)))

  map_within : (lo hi p : ℕ) (es : List (Expr × (Token × Expr))) → lo ≤ p → p < hi → AreWithin lo hi (all_of (keys_of es) ++ all_of (values_of es)) → AreWithin lo hi (preorder (expr_at p (exprs.MapOf (keys_of es) (values_of es))))
  map_within lo hi p es below above w = made lo hi p (exprs.MapOf (keys_of es) (values_of es)) (keys_of es ++ values_of es) (map_parts es) below above
      (subst (AreWithin lo hi) (sym (flat_map-append preorder (keys_of es) (values_of es))) w)

  pub map_step : (lo hi : ℕ) (x : PartValue Token ValueOf map_rule) → Fact ids map_rule lo hi x → AreWithin lo hi (preorder (make_map x))
  map_step lo hi (o, (None, c)) (m1, b1, a1, f, z) = map_within lo hi o.place [] f.0 (omega (arith, f.1, a1)) (none_within lo hi)
  map_step lo hi (o, (Some (e, es), c)) (m1, b1, a1, f, (m2, b2, a2, (m3, b3, a3, w, later), g)) =
      map_within lo hi o.place (e ∷ behind es) f.0 (omega (arith, f.1, a1))
      (widen m1 m2 lo hi (all_of (keys_of (e ∷ behind es)) ++ all_of (values_of (e ∷ behind es))) b1 a2
      (interleaved m1 m3 m2 (preorder e.0) (preorder e.1.1) (all_of (keys_of (behind es))) (all_of (values_of (behind es))) b3 a3 (entry_within m1 m3 e w) (entries_within m3 m2 es later)))

  -- ** all of them

  pub primary_step : (lo hi : ℕ) (x : PartValue Token ValueOf primary_rule) → Fact ids primary_rule lo hi x → AreWithin lo hi (preorder (make_primary x))
  primary_step lo hi (inl t) f = made lo hi t.place (literal_of t) [] (literal_parts t) f.0 f.1 (none_within lo hi)
  primary_step lo hi (inr (inl (t, (o, (e, c))))) (m, b, a, f, (m1, b1, a1, g, (m2, b2, a2, w, h))) =
      made lo hi t.place (applied_to (kind_of t) e) (e ∷ []) (applied_parts (kind_of t) e) f.0 (omega (arith, f.1, a)) (last_within lo hi m1 m2 e (omega (arith, b, b1)) a2 w (omega (arith, b, a)))
  primary_step lo hi (inr (inr (inl e))) w = w
  primary_step lo hi (inr (inr (inr (inl e)))) w = w
  primary_step lo hi (inr (inr (inr (inr (inl e))))) w = w
  primary_step lo hi (inr (inr (inr (inr (inr e))))) w = w
