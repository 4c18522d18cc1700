-- The code of each form of set without a binder.
use Rattle.std.proofs.Common.{◌≡◌, ℕ, List, [], ◌∷◌, map, drop, refl, sym, ap, subst, ◌∙◌}
use Rattle.flow_term.specs.declared.elem.Elem.{Elem}
use Rattle.flow_term.specs.declared.value.Value.{Value, Value-F, out-Value}
use Rattle.flow_term.specs.declared.value.Value.TheVariants as value
use Rattle.flow_syntax.specs.declared.expr.Expr.{Expr, out-Expr}
use Rattle.flow_syntax.specs.declared.expr.ExprKind.{out-ExprKind}
use Rattle.flow_syntax.specs.declared.expr.ExprKind.TheOpen.{ExprKind-F}
use Rattle.flow_syntax.specs.declared.expr.ExprKind.TheVariants as exprs
use Rattle.flow_syntax.specs.declared.expr.SetOp.TheVariants as op
use Rattle.flow_syntax.specs.declared.spec.Spec.{Spec}
use Rattle.flow_syntax.specs.declared.types.ExprType.{ExprType}
use Rattle.value_domains.specs.Domains.{Domain}
use Rattle.lattice_any.specs.declared.tables.DeclaredTable.{DeclaredTable}
use Rattle.expr_meaning.specs.Meaning as meant
use Rattle.eval_code.specs.declared.code.ElemCode.{ElemCode}
use Rattle.eval_code.specs.declared.code.ValueCode.{ValueCode}
use Rattle.eval_code.specs.declared.code.ValueCode.TheVariants as value_code
use Rattle.eval_code.specs.Senses.{Given, given_one}
use Rattle.code_laws.specs.inner.Compiled.{a_value, an_element, IsCompiled, IsValueCode, IsElemCode}
use Rattle.flow_syntax.specs.declared.expr.SetOp.{SetOp}
use Rattle.flow_syntax.proofs.ExprLayers.{layer_of_set2, layer_of_set_of}
use Rattle.value_domains.specs.Values.{ValueLayer}
use Rattle.expr_meaning.specs.Ranges.{elements, domain_in}
use Rattle.expr_meaning.specs.Meaning.{value_in, elem_in, set_of, difference_of, on_set, on_sets, operation, elems_given, Situation}
use Rattle.expr_meaning.specs.Typing.{IsOperand, IsSets, sort_in}
use Rattle.expr_meaning.proofs.TypedParts.{rest_typed}
use Rattle.eval_code.specs.declared.code.Combination.{Combination}
use Rattle.eval_code.specs.declared.code.Combination.TheVariants as combination
use Rattle.eval_code.specs.Senses.{combined, without, given_elem, given_all}
use Rattle.code_laws.specs.Codes.{elem_meant}
use Rattle.code_laws.specs.inner.Compiled.{AreElemCodes}
use Rattle.code_laws.proofs.CodeLists.{elems_same, elems_met, has_kinds, one_code}
use Rattle.code_laws.proofs.Given.{value_set, value_combine, value_without}
use Rattle.code_laws.proofs.RangeFacts.{value_range, sets_rise}
use Rattle.code_laws.proofs.ValueForms.{by_given}
use Rattle.code_laws.proofs.Walks.{M, whole, is_sound, two_parts}

-- the operation on sets of a combination
abbrev pub set_op : Combination → SetOp
set_op combination.Union = op.Union
set_op combination.Inter = op.Inter
set_op combination.Minus = op.Minus

is_operation : (c : Combination) (d : Domain) (v w : Value) → combined c v w ≡ operation (set_op c) d v w
is_operation combination.Union d v w = refl
is_operation combination.Inter d v w = refl
is_operation combination.Minus d v w = refl

-- a difference from a set of one element
one_gone : (l : ValueLayer) (x : Elem) → on_set (λ xs. difference_of xs (x ∷ [])) l ≡ on_sets difference_of l (Value-F.Set (x ∷ []))
one_gone Value-F.Unreached x = refl
one_gone _ x = refl

is_difference : (v : Value) (x : Elem) (d : Domain) → without v x ≡ operation op.Minus d v (value.Set (set_of (x ∷ [])))
is_difference v x d = one_gone (out-Value v) x ∙ ap (on_sets difference_of (out-Value v)) (sym (value.outs-Set (x ∷ [])))

module _ {spec : Spec} {tables : List DeclaredTable} (names : List (List ℕ)) (e : Expr) (ts : List ExprType) where
  pub set_code : (es : List Expr) (first rest : List ExprType) (cs : List ElemCode) → (out-Expr e).kind ≡ exprs.SetOf es → first ≡ drop 1 ts → AreElemCodes spec tables names es first cs rest
      → IsValueCode spec tables names e ts (value_code.Set cs) rest
  set_code es first rest cs is moved all =
      by_given names e ts _ rest _ (value_set cs)
      (whole names a_value e (ExprKind-F.SetOf es) ts rest _ (ap out-ExprKind is ∙ layer_of_set_of es)
      (λ s vs inside has.
      let found = (subst (λ us. AreElemCodes spec tables names es us cs rest) moved all).found s vs inside.typed inside.agree (has_kinds (λ e. s.range e ≡ elements (sort_in inside.form.0)) _ (λ e h. (_, h)) es inside.form.3) in (
        record {
          gives = λ at suits bound. ap (λ xs. meant.a_value (value.Set (set_of xs))) (elems_same names s vs at suits bound es cs found.0);
          needs = λ at suits bound. elems_met names s vs at suits bound es cs found.0;
        },
        found.1,
      )))

module _ {spec : Spec} {tables : List DeclaredTable} (names : List (List ℕ)) (e : Expr) (ts : List ExprType) where
  pub combine_code : (c : Combination) (a b : Expr) (first mid rest : List ExprType) (p q : ValueCode) → (out-Expr e).kind ≡ exprs.Set2 (set_op c) a b → first ≡ drop 1 ts
      → IsValueCode spec tables names a first p mid → IsValueCode spec tables names b mid q rest → IsValueCode spec tables names e ts (value_code.Combine c p q) rest
  combine_code c a b first mid rest p q is moved ca cb =
      by_given names e ts _ rest _ (value_combine c p q)
      (two_parts names a_value e (ExprKind-F.Set2 (set_op c) a b) _ a_value a_value a b ts first mid rest _ _ (ap out-ExprKind is ∙ layer_of_set2 (set_op c) a b) refl (λ s vs. refl) moved ca cb
      (λ s vs inside has. ((inside.form.0, inside.form.3), (inside.form.0, inside.form.4)))
      (λ s vs inside has typed ga gb.
      let sets = are_sets c inside.form.0 inside.form.1 in
      record {
        gives = λ at suits bound. ap meant.a_value (is_operation c (domain_in (s.range e)) _ _) ∙ (λ i. meant.a_value (operation (set_op c) (domain_in (s.range e)) (value_in (ga.gives at suits bound i)) (value_in (gb.gives at suits bound i))));
        needs = λ at suits bound. (
          (ga.needs at suits bound, sets_rise inside.form.0 sets _ (value_range _ _ (s.range a) (M s a at) inside.form.3 (ga.gives at suits bound) (is_sound s vs a _ typed at suits))),
          (gb.needs at suits bound, sets_rise inside.form.0 sets _ (value_range _ _ (s.range b) (M s b at) inside.form.4 (gb.gives at suits bound) (is_sound s vs b [] (rest_typed _ _ typed) at suits))),
        );
      }))
    where
      are_sets : (c : Combination) (d : Domain) → IsOperand (set_op c) d → IsSets d
      are_sets combination.Union d h = h
      are_sets combination.Inter d h = h
      are_sets combination.Minus d h = h

  -- a difference from a set of one element, which is not made
  pub without_code : (a b x : Expr) (first mid inner rest : List ExprType) (p : ValueCode) (q : ElemCode) → (out-Expr e).kind ≡ exprs.Set2 op.Minus a b → (out-Expr b).kind ≡ exprs.SetOf (x ∷ []) → first ≡ drop 1 ts
      → IsValueCode spec tables names a first p mid → inner ≡ drop 1 mid → IsElemCode spec tables names x inner q rest → IsValueCode spec tables names e ts (value_code.Without p q) rest
  without_code a b x first mid inner rest p q is is_one moved ca passed cx =
      by_given names e ts _ rest _ (value_without p q)
      (two_parts names a_value e (ExprKind-F.Set2 op.Minus a b) _ a_value a_value a b ts first mid rest _ _ (ap out-ExprKind is ∙ layer_of_set2 op.Minus a b) refl (λ s vs. refl) moved ca one
      (λ s vs inside has. ((inside.form.0, inside.form.3), (inside.form.0, inside.form.4)))
      (λ s vs inside has typed ga gb. record {
        gives = λ at suits bound. ap meant.a_value (is_difference _ _ (domain_in (s.range e))) ∙ (λ i. meant.a_value (operation op.Minus (domain_in (s.range e)) (value_in (ga.gives at suits bound i)) (value_in (gb.gives at suits bound i))));
        needs = λ at suits bound. (ga.needs at suits bound, (gb.needs at suits bound).0);
      }))
    where
      one : IsCompiled spec tables names a_value b mid (given_one meant.a_value (given_one (λ xs. value.Set (set_of xs)) (given_all (map given_elem (q ∷ []))))) rest
      one = subst (λ (g : Given Value). IsCompiled spec tables names a_value b mid (given_one meant.a_value g) rest) (value_set (q ∷ [])) (set_code names b mid (x ∷ []) inner rest (q ∷ []) is_one passed (one_code names an_element x inner rest (elem_meant q) cx))
