-- The list of a specification's expressions has the parts of each, and each expression that stands at a place.
use Rattle.std.proofs.Common.{zero, suc, List, [], ◌∷◌, ◌++◌, arith, sym, subst, inl, inr}
use Rattle.std.specs.Prelude.{Contains}
use Rattle.std.specs.List.{AllByRecursion, flat_map}
use Rattle.std.proofs.lemmas.List.Elements.{Contains-append_left, Contains-append_right, Contains-append_cases}
use Rattle.flow_syntax.specs.declared.expr.Expr.{Expr}
use Rattle.flow_syntax.specs.declared.spec.Spec.{Spec}
use Rattle.flow_syntax.specs.Expressions.{expr_layer, parts_of as exprs_of, preorder, all_of_option, expressions_of, expressions_of_message}
use Rattle.flow_syntax.specs.Occurrences.{Occurrence, parts_of}
use Rattle.flow_syntax.specs.ExprTypes.{wholes_of}
use Rattle.flow_syntax.specs.Types.{Typing}
use Rattle.flow_syntax.proofs.Listed.{in_at, Contains_here, Contains_behind}
use Rattle.flow_syntax.proofs.Parts.{by_induction}
use Rattle.flow_syntax.proofs.Preorders.{preorder_out}
use Rattle.expr_typing.specs.Listing.{AreOccurrences, nowhere, there}
use Rattle.expr_typing.proofs.Order.{exprs_parts, types_in_order}
use Rattle.expr_meaning.specs.Making.{HasParts}
use Rattle.typed_bodies.specs.Accepted.{IsTypedBy}
use Rattle.typed_bodies.specs.Anywhere.{IsOccurrenceIn, whole, part}
use Rattle.typed_bodies.proofs.Bodies.{in_map, in_flat}

-- LISTS THAT HAVE THE PARTS OF EACH

parts_append : (xs ys : List Expr) → HasParts xs → HasParts ys → HasParts (xs ++ ys)
parts_append xs ys h k e p among inside = elim (Contains-append_cases xs ys e among) [
  | inl left ↦ Contains-append_left xs ys p (h e p left inside)
  | inr right ↦ Contains-append_right xs ys p (k e p right inside)
]

nothing_has_parts : HasParts []
nothing_has_parts e p (k, l, i) inside = absurd (omega (arith, l))

parts_flat : {X : Type 0} (f : X → List Expr) → ((x : X) → HasParts (f x)) → (xs : List X) → HasParts (flat_map f xs)
parts_flat f each [] = nothing_has_parts
parts_flat f each (x ∷ xs) = parts_append (f x) (flat_map f xs) (each x) (parts_flat f each xs)

part_flat : (es : List Expr) (e : Expr) → Contains es e → Contains (flat_map preorder es) e
part_flat es e among =
    let k = in_at es e among in
    in_flat preorder es k.0 e e k.1 (subst (λ (zs : List Expr). Contains zs e) (sym (preorder_out e)) (Contains_here e (flat_map preorder (exprs_of e))))

each_flat : (es : List Expr) → AllByRecursion (λ e. HasParts (preorder e)) es → HasParts (flat_map preorder es)
each_flat [] h = nothing_has_parts
each_flat (e ∷ es) h = parts_append (preorder e) (flat_map preorder es) h.0 (each_flat es h.1)

preorder_step : (e : Expr) → AllByRecursion (λ e. HasParts (preorder e)) (exprs_of e) → HasParts (preorder e)
preorder_step e parts = subst HasParts (sym (preorder_out e)) by
  where
    by : HasParts (e ∷ flat_map preorder (exprs_of e))
    by x p (zero, l, i) inside = Contains_behind e (flat_map preorder (exprs_of e)) p (part_flat (exprs_of e) p (subst (λ (y : Expr). Contains (exprs_of y) p) (sym i) inside))
    by x p (suc k, l, i) inside = Contains_behind e (flat_map preorder (exprs_of e)) p (each_flat (exprs_of e) parts x p (k, omega arith, i) inside)

preorder_parts : (e : Expr) → HasParts (preorder e)
preorder_parts = by_induction (λ e. HasParts (preorder e)) preorder_step

-- the expressions of a specification have the parts of each
pub expressions_parts : (spec : Spec) → HasParts (expressions_of spec)
expressions_parts spec =
    parts_append (flat_map (λ rule. preorder rule.body) spec.rules) (flat_map expressions_of_message spec.messages)
    (parts_flat (λ rule. preorder rule.body) (λ rule. preorder_parts rule.body) spec.rules)
    (parts_flat expressions_of_message (λ m. parts_flat preorder preorder_parts (all_of_option m.condition)) spec.messages)

-- PLACES

module _ (spec : Spec) where
  in_occurrences : (ps occurrences : List Occurrence) → AreOccurrences spec ps occurrences → (q : Occurrence) → Contains ps q → Contains occurrences q
  in_occurrences _ _ nowhere q among = among
  in_occurrences _ _ (there p ps inner others d e) q (zero, l, i) = subst (λ (y : Occurrence). Contains (p ∷ inner ++ others) y) i (Contains_here p (inner ++ others))
  in_occurrences _ _ (there p ps inner others d e) q (suc k, l, i) = Contains_behind p (inner ++ others) q (Contains-append_right inner others q (in_occurrences ps others e q (k, omega arith, i)))

  -- an expression that stands at a place is one of the specification's
  pub place_listed : (types : List Typing) → IsTypedBy spec types → (q : Occurrence) → IsOccurrenceIn spec q → Contains (expressions_of spec) q.expr
  place_listed types typed _ (whole q among) =
      let order = (types_in_order spec types).0 typed.are in
      subst (λ (es : List Expr). Contains es q.expr) order.stand (in_map (λ (p : Occurrence). p.expr) order.occurrences q (in_occurrences (wholes_of spec) order.occurrences order.all q among))
  place_listed types typed _ (part p q stands among) =
      expressions_parts spec p.expr q.expr (place_listed types typed p stands)
      (subst (λ (es : List Expr). Contains es q.expr) (exprs_parts spec p.scope p.expected (expr_layer p.expr)) (in_map (λ (r : Occurrence). r.expr) (parts_of spec p) q among))
