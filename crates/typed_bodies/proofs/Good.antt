-- The bodies and conditions of an accepted specification.
use Rattle.std.proofs.Common.{◌≡◌, List, [], ◌∷◌, length, arith, Option, Some, None, refl, sym, ap, subst, ◌∙◌}
use Rattle.std.specs.Prelude.{Contains}
use Rattle.std.specs.List.{AllZip}
use Rattle.std.proofs.lemmas.List.{length-map}
use Rattle.flow_syntax.specs.declared.expr.Expr.{Expr}
use Rattle.flow_syntax.specs.declared.message.Message.{Message}
use Rattle.flow_syntax.specs.declared.property.PropDecl.{PropDecl}
use Rattle.flow_syntax.specs.declared.property.PropRule.{PropRule}
use Rattle.flow_syntax.specs.declared.spec.Spec.{Spec}
use Rattle.flow_syntax.specs.Binders.{bound_in}
use Rattle.flow_syntax.specs.DeclFaults.{unknown, property}
use Rattle.flow_syntax.specs.Expressions.{expressions_of}
use Rattle.flow_syntax.specs.ExprFaults.{expected_body, trigger_pattern, trigger_scope, message_scope}
use Rattle.flow_syntax.specs.Faults.{declaration}
use Rattle.flow_syntax.specs.Inferred.{is, property_named, property_inferred}
use Rattle.flow_syntax.specs.Types.{Typing}
use Rattle.flow_syntax.specs.Expected.{known}
use Rattle.expr_typing.proofs.Order.{types_in_order}
use Rattle.expr_meaning.specs.Ranges.{Range, values}
use Rattle.expr_meaning.specs.SpecRanges.{Agrees, can_read_in, usable_in, variables_of, ranges_of, type_beside}
use Rattle.expr_meaning.specs.Laws.{HasTables}
use Rattle.expr_meaning.specs.Meaning.{meaning}
use Rattle.expr_meaning.specs.Modes.{mode_of}
use Rattle.expr_meaning.specs.Monotone.{FollowsBy}
use Rattle.expr_meaning.specs.Typing.{IsIn}
use Rattle.expr_meaning.proofs.Bound.{bound_in_order}
use Rattle.expr_meaning.proofs.Laws.{meanings_in_range, modes_right}
use Rattle.expr_meaning.proofs.Ranges.{ranges_agree}
use Rattle.typed_bodies.specs.Accepted.{IsTypedBy, HasLawfulTables, rule_domain, CanApply, CanReport, IsGoodBody, IsGoodCondition, BodiesAreGood, ConditionsAreGood, MatchesBind}
use Rattle.typed_bodies.proofs.Bodies.{body_typed, body_range, condition_typed, condition_range}
use Rattle.typed_bodies.proofs.Forms.{property_right}
use Rattle.typed_bodies.proofs.Functions.{functions_give}
use Rattle.typed_bodies.proofs.Tables.{range_lawful}

zip_length : {X Y : Type 0} (P : X → Y → Type 0) (xs : List X) (ys : List Y) → AllZip P xs ys → length xs ≡ length ys
zip_length P [] [] h = refl
zip_length P [] (y ∷ ys) h = absurd h
zip_length P (x ∷ xs) [] h = absurd h
zip_length P (x ∷ xs) (y ∷ ys) h = let k = zip_length P xs ys h.1 in omega (arith, k)

module _ (spec : Spec) (types : List Typing) (typed : IsTypedBy spec types) where
  -- the ranges of the types are those of the expressions
  pub agree : Agrees spec types (ranges_of spec types)
  agree =
      let order = (types_in_order spec types).0 typed.are in
      ranges_agree spec types typed.distinct (sym (zip_length _ order.occurrences types order.have) ∙ sym (length-map order.occurrences (λ p. p.expr)) ∙ ap length order.stand)

  pub tables : HasLawfulTables spec → HasTables spec (ranges_of spec types)
  tables lawful = record { lawful = λ e. range_lawful spec lawful.lattices (type_beside (expressions_of spec) types e); results = functions_give spec typed.faultless; monotone = lawful.monotone }

  told_body : (o : Option PropDecl) (t : Typing) → property_inferred o ≡ is t → expected_body o ≡ known t
  told_body (Some p) t e = cc
  told_body None t e = cc

  pub body_in : (rule : PropRule) → Contains spec.rules rule → ranges_of spec types rule.body ≡ values (rule_domain spec rule)
  body_in rule among =
      property_right spec (ranges_of spec types) (can_read_in spec (trigger_scope rule.trigger)) (ranges_of spec types rule.body) rule.property.text (property_named spec rule.property.text) refl
      (λ e. typed.faultless _ _ (declaration (unknown rule.property (property rule among e) refl)))
      (λ t e. body_range spec types (ranges_of spec types) typed.faultless typed.are agree rule among t (told_body (property_named spec rule.property.text) t e))

  module _ (lawful : HasLawfulTables spec) where
    body_good : (rule : PropRule) → Contains spec.rules rule → IsGoodBody spec types rule
    body_good rule among =
        let range = ranges_of spec types in
        let usable = usable_in spec (trigger_scope rule.trigger) in
        let variables = variables_of (trigger_pattern rule.trigger) in
        let shown = body_typed spec types range typed.faultless typed.are agree rule among in
        record {
          value = λ at can. subst (λ (r : Range). IsIn r (meaning spec range rule.body at)) (body_in rule among) (meanings_in_range spec usable range (tables lawful) variables rule.body shown at can);
          follows = subst (λ (r : Range). FollowsBy usable (CanApply spec rule) r (meaning spec range rule.body) (mode_of range rule.body)) (body_in rule among) (modes_right spec usable range (tables lawful) variables rule.body shown);
        }

    condition_good : (m : Message) (e : Expr) → Contains spec.messages m → m.condition ≡ Some e → IsGoodCondition spec types m e
    condition_good m e among is_some =
        let range = ranges_of spec types in
        let usable = usable_in spec (message_scope m) in
        let variables = variables_of m.pattern in
        let shown = condition_typed spec types range typed.faultless typed.are agree m e among is_some in
        let is_truth = condition_range spec types range typed.faultless typed.are agree m e among is_some in
        record {
          truth = λ at can. subst (λ (r : Range). IsIn r (meaning spec range e at)) is_truth (meanings_in_range spec usable range (tables lawful) variables e shown at can);
          follows = subst (λ (r : Range). FollowsBy usable (CanReport spec m) r (meaning spec range e) (mode_of range e)) is_truth (modes_right spec usable range (tables lawful) variables e shown);
        }

pub bodies_good : BodiesAreGood
bodies_good spec types typed lawful rule among = body_good spec types typed lawful rule among

pub conditions_good : ConditionsAreGood
conditions_good spec types typed lawful m e among is_some = condition_good spec types typed lawful m e among is_some

pub matches_bind : MatchesBind
matches_bind p bs h x = bound_in_order (λ v. record { name = v.name; sort = v.sort }) (bound_in p) bs h x
