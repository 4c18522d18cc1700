-- The code of look-ups and updates of maps.
use Rattle.std.proofs.Common.{◌≡◌, ℕ, List, [], drop, slice_get, Option, refl, sym, ap, ◌∙◌}
use Rattle.flow_term.specs.declared.value.Value.{Value, out-Value}
use Rattle.flow_term.specs.declared.value.Value.TheVariants as value
use Rattle.flow_syntax.specs.declared.expr.Expr.{Expr, out-Expr}
use Rattle.flow_syntax.specs.declared.expr.ExprKind.{out-ExprKind}
use Rattle.flow_syntax.specs.declared.expr.ExprKind.TheOpen.{ExprKind-F}
use Rattle.flow_syntax.specs.declared.expr.ExprKind.TheVariants as exprs
use Rattle.flow_syntax.specs.declared.spec.Spec.{Spec}
use Rattle.flow_syntax.specs.declared.types.ExprType.{ExprType}
use Rattle.value_domains.specs.Domains.{Domain, least_of}
use Rattle.lattice_any.specs.declared.any.AnyL.{AnyL}
use Rattle.lattice_any.specs.declared.tables.DeclaredTable.{DeclaredTable}
use Rattle.lattice_any.specs.Types.{domain_of_any}
use Rattle.expr_meaning.specs.Meaning as meant
use Rattle.eval_code.specs.declared.code.ElemCode.{ElemCode}
use Rattle.eval_code.specs.declared.code.ValueCode.{ValueCode}
use Rattle.eval_code.specs.declared.code.ValueCode.TheVariants as value_code
use Rattle.code_laws.specs.inner.Compiled.{a_value, an_element, HasDomain, HasValues, IsValueCode, IsElemCode}
use Rattle.flow_syntax.proofs.ExprLayers.{layer_of_look, layer_of_update}
use Rattle.value_domains.specs.Values.{map_in, entries_of, value_or}
use Rattle.expr_meaning.specs.Ranges.{values, domain_in}
use Rattle.expr_meaning.specs.Meaning.{value_in, elem_in, updated, values_in}
use Rattle.expr_meaning.proofs.TypedParts.{rest_typed}
use Rattle.code_laws.proofs.Given.{value_look, value_update}
use Rattle.code_laws.proofs.RangeFacts.{value_range}
use Rattle.code_laws.proofs.OwnTypes.{own_domain, own_values}
use Rattle.code_laws.proofs.ValueForms.{by_given}
use Rattle.code_laws.proofs.Walks.{M, is_sound, two_parts, three_parts}

module _ {spec : Spec} {tables : List DeclaredTable} (names : List (List ℕ)) (e : Expr) (ts : List ExprType) where
  pub look_code : (m k : Expr) (v : Value) (d : Domain) (o : Option ExprType) (first mid rest : List ExprType) (p : ValueCode) (q : ElemCode) → (out-Expr e).kind ≡ exprs.Look m k → first ≡ drop 1 ts → o ≡ slice_get ts 0
      → v ≡ least_of d → HasDomain tables o d → IsValueCode spec tables names m first p mid → IsElemCode spec tables names k mid q rest → IsValueCode spec tables names e ts (value_code.Look v p q) rest
  look_code m k v d o first mid rest p q is moved own least has_domain cm ck =
      by_given names e ts _ rest _ (value_look v p q)
      (two_parts names a_value e (ExprKind-F.Look m k) _ a_value an_element m k ts first mid rest _ _ (ap out-ExprKind is ∙ layer_of_look m k) refl (λ s vs. refl) moved cm ck
      (λ s vs inside has. ((_, inside.form.3), (inside.form.0, inside.form.4)))
      (λ s vs inside has typed gm gk.
      let is_least = least ∙ ap least_of (own_domain s (s.range e) ts o has.0 d inside.beside own has.1 has_domain ∙ sym (ap domain_in has.1)) in
      record {
        gives = λ at suits bound. (λ i. meant.a_value (value_or (is_least i) (map_in (out-Value (value_in (gm.gives at suits bound i)))) (elem_in (gk.gives at suits bound i))));
        needs = λ at suits bound. (gm.needs at suits bound, gk.needs at suits bound);
      }))

  pub update_code : (m k w : Expr) (l : AnyL) (o : Option ExprType) (first second third rest : List ExprType) (p : ValueCode) (q : ElemCode) (r : ValueCode) → (out-Expr e).kind ≡ exprs.Update m k w → first ≡ drop 1 ts → o ≡ slice_get ts 0
      → HasValues tables o (domain_of_any l) → IsValueCode spec tables names m first p second → IsElemCode spec tables names k second q third → IsValueCode spec tables names w third r rest
      → IsValueCode spec tables names e ts (value_code.Update l p q r) rest
  update_code m k w l o first second third rest p q r is moved own has_values cm ck cw =
      by_given names e ts _ rest _ (value_update l p q r)
      (three_parts names a_value e (ExprKind-F.Update m k w) _ a_value an_element a_value m k w ts first second third rest _ _ _ (ap out-ExprKind is ∙ layer_of_update m k w) refl (λ s vs. refl) moved cm ck cw
      (λ s vs inside has. ((_, inside.form.3), ((inside.form.0, inside.form.4), (inside.form.1, inside.form.5))))
      (λ s vs inside has typed gm gk gw.
      let same = own_values s (s.range e) ts o inside.form.0 inside.form.1 (domain_of_any l) inside.beside own inside.form.2 has_values in
      let is_values = same ∙ sym (ap (λ r. values_in (domain_in r)) inside.form.2) in
      record {
        gives = λ at suits bound. (λ i. meant.a_value (value.Map (entries_of (updated (is_values i) (map_in (out-Value (value_in (gm.gives at suits bound i)))) (elem_in (gk.gives at suits bound i)) (value_in (gw.gives at suits bound i))))));
        needs = λ at suits bound.
            let fits = value_range _ _ (s.range w) (M s w at) (inside.form.5 ∙ ap values (sym same)) (gw.gives at suits bound) (is_sound s vs w [] (rest_typed _ _ (rest_typed _ _ typed)) at suits) in
            (gm.needs at suits bound, (gk.needs at suits bound, (gw.needs at suits bound, fits)));
      }))
