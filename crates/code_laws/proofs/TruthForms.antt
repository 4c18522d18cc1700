-- The code of each form of truth.
use Rattle.std.proofs.Common.{◌≡◌, ℕ, cond, Bool, not, ◌&&◌, ◌||◌, List, [], drop, refl, sym, ap, subst, ◌∙◌}
use Rattle.flow_term.specs.declared.value.Value.{out-Value}
use Rattle.flow_syntax.specs.declared.expr.CompareOp.{CompareOp}
use Rattle.flow_syntax.specs.declared.expr.Expr.{Expr, out-Expr}
use Rattle.flow_syntax.specs.declared.expr.ExprKind.{out-ExprKind}
use Rattle.flow_syntax.specs.declared.expr.ExprKind.TheOpen.{ExprKind-F}
use Rattle.flow_syntax.specs.declared.expr.ExprKind.TheVariants as exprs
use Rattle.flow_syntax.specs.declared.spec.Spec.{Spec}
use Rattle.flow_syntax.specs.declared.types.ExprType.{ExprType}
use Rattle.flow_syntax.proofs.ExprLayers.{layer_of_truth, layer_of_compare, layer_of_member, layer_of_and, layer_of_or, layer_of_not, layer_of_if}
use Rattle.lattice_any.specs.declared.tables.DeclaredTable.{DeclaredTable}
use Rattle.expr_meaning.specs.Meaning as meant
use Rattle.expr_meaning.specs.Meaning.{truth_in, elem_in, value_in, is_member, compared}
use Rattle.expr_meaning.proofs.TypedParts.{rest_typed}
use Rattle.eval_code.specs.declared.code.ElemCode.{ElemCode}
use Rattle.eval_code.specs.declared.code.TruthCode.{TruthCode}
use Rattle.eval_code.specs.declared.code.TruthCode.TheVariants as truth_code
use Rattle.eval_code.specs.declared.code.ValueCode.{ValueCode}
use Rattle.eval_code.specs.Senses.{Given, given_one, given_truth}
use Rattle.code_laws.specs.inner.Compiled.{a_value, an_element, a_truth, IsCompiled, IsValueCode, IsElemCode, IsTruthCode}
use Rattle.code_laws.proofs.Given.{truth_constant, truth_compare, truth_member, truth_and, truth_or, truth_not, truth_if}
use Rattle.code_laws.proofs.RangeFacts.{sets_rise, value_range, truth_branch}
use Rattle.code_laws.proofs.Walks.{M, is_sound, no_parts, one_part, two_parts, three_parts}

module _ {spec : Spec} {tables : List DeclaredTable} (names : List (List ℕ)) (e : Expr) (ts : List ExprType) where
  pub by_given : (code : TruthCode) (rest : List ExprType) (g : Given Bool) → given_truth code ≡ g → IsCompiled spec tables names a_truth e ts (given_one meant.a_truth g) rest → IsTruthCode spec tables names e ts code rest
  by_given code rest g is h = subst (λ (g : Given Bool). IsCompiled spec tables names a_truth e ts (given_one meant.a_truth g) rest) (sym is) h

  pub truth_literal : (b : Bool) (rest : List ExprType) → (out-Expr e).kind ≡ exprs.Truth b → rest ≡ drop 1 ts → IsTruthCode spec tables names e ts (truth_code.Constant b) rest
  truth_literal b rest is moved =
      by_given _ rest _ (truth_constant b)
      (no_parts names a_truth e (ExprKind-F.Truth b) _ ts rest (ap out-ExprKind is ∙ layer_of_truth b) refl moved (λ s vs inside has. record { gives = λ at suits bound. refl; needs = λ at suits bound. tt }))

  pub not_code : (a : Expr) (first rest : List ExprType) (p : TruthCode) → (out-Expr e).kind ≡ exprs.Not a → first ≡ drop 1 ts → IsTruthCode spec tables names a first p rest → IsTruthCode spec tables names e ts (truth_code.Not p) rest
  not_code a first rest p is moved ca =
      by_given _ rest _ (truth_not p)
      (one_part names a_truth e (ExprKind-F.Not a) _ a_truth a ts first rest _ (ap out-ExprKind is ∙ layer_of_not a) refl (λ s vs. refl) moved ca (λ s vs inside has. inside.form.1)
      (λ s vs inside has typed ga. record { gives = λ at suits bound. ap (λ m. meant.a_truth (not (truth_in m))) (ga.gives at suits bound); needs = ga.needs }))

  pub and_code : (a b : Expr) (first mid rest : List ExprType) (p q : TruthCode) → (out-Expr e).kind ≡ exprs.And a b → first ≡ drop 1 ts → IsTruthCode spec tables names a first p mid → IsTruthCode spec tables names b mid q rest
      → IsTruthCode spec tables names e ts (truth_code.And p q) rest
  and_code a b first mid rest p q is moved ca cb =
      by_given _ rest _ (truth_and p q)
      (two_parts names a_truth e (ExprKind-F.And a b) _ a_truth a_truth a b ts first mid rest _ _ (ap out-ExprKind is ∙ layer_of_and a b) refl (λ s vs. refl) moved ca cb (λ s vs inside has. (inside.form.1, inside.form.2))
      (λ s vs inside has typed ga gb. record {
        gives = λ at suits bound. (λ i. meant.a_truth (truth_in (ga.gives at suits bound i) && truth_in (gb.gives at suits bound i)));
        needs = λ at suits bound. (ga.needs at suits bound, gb.needs at suits bound);
      }))

  pub or_code : (a b : Expr) (first mid rest : List ExprType) (p q : TruthCode) → (out-Expr e).kind ≡ exprs.Or a b → first ≡ drop 1 ts → IsTruthCode spec tables names a first p mid → IsTruthCode spec tables names b mid q rest
      → IsTruthCode spec tables names e ts (truth_code.Or p q) rest
  or_code a b first mid rest p q is moved ca cb =
      by_given _ rest _ (truth_or p q)
      (two_parts names a_truth e (ExprKind-F.Or a b) _ a_truth a_truth a b ts first mid rest _ _ (ap out-ExprKind is ∙ layer_of_or a b) refl (λ s vs. refl) moved ca cb (λ s vs inside has. (inside.form.1, inside.form.2))
      (λ s vs inside has typed ga gb. record {
        gives = λ at suits bound. (λ i. meant.a_truth (truth_in (ga.gives at suits bound i) || truth_in (gb.gives at suits bound i)));
        needs = λ at suits bound. (ga.needs at suits bound, gb.needs at suits bound);
      }))

  pub compare_code : (o : CompareOp) (a b : Expr) (first mid rest : List ExprType) (p q : ElemCode) → (out-Expr e).kind ≡ exprs.Compare o a b → first ≡ drop 1 ts → IsElemCode spec tables names a first p mid → IsElemCode spec tables names b mid q rest
      → IsTruthCode spec tables names e ts (truth_code.Compare o p q) rest
  compare_code o a b first mid rest p q is moved ca cb =
      by_given _ rest _ (truth_compare o p q)
      (two_parts names a_truth e (ExprKind-F.Compare o a b) _ an_element an_element a b ts first mid rest _ _ (ap out-ExprKind is ∙ layer_of_compare o a b) refl (λ s vs. refl) moved ca cb
      (λ s vs inside has. ((inside.form.0, inside.form.2), (inside.form.0, inside.form.3)))
      (λ s vs inside has typed ga gb. record {
        gives = λ at suits bound. (λ i. meant.a_truth (compared o (elem_in (ga.gives at suits bound i)) (elem_in (gb.gives at suits bound i))));
        needs = λ at suits bound. (ga.needs at suits bound, gb.needs at suits bound);
      }))

  pub member_code : (a b : Expr) (first mid rest : List ExprType) (p : ElemCode) (q : ValueCode) → (out-Expr e).kind ≡ exprs.Member a b → first ≡ drop 1 ts → IsElemCode spec tables names a first p mid → IsValueCode spec tables names b mid q rest
      → IsTruthCode spec tables names e ts (truth_code.Member p q) rest
  member_code a b first mid rest p q is moved ca cb =
      by_given _ rest _ (truth_member p q)
      (two_parts names a_truth e (ExprKind-F.Member a b) _ an_element a_value a b ts first mid rest _ _ (ap out-ExprKind is ∙ layer_of_member a b) refl (λ s vs. refl) moved ca cb
      (λ s vs inside has. ((_, inside.form.4), (inside.form.0, inside.form.3)))
      (λ s vs inside has typed ga gb. record {
        gives = λ at suits bound. (λ i. meant.a_truth (is_member (elem_in (ga.gives at suits bound i)) (out-Value (value_in (gb.gives at suits bound i)))));
        needs = λ at suits bound.
            (ga.needs at suits bound, (gb.needs at suits bound, sets_rise inside.form.0 inside.form.1 _ (value_range inside.form.0 _ (s.range b) (M s b at) inside.form.3 (gb.gives at suits bound) (is_sound s vs b [] (rest_typed _ _ typed) at suits))));
      }))

  pub truth_if_code : (c a b : Expr) (first second third rest : List ExprType) (o p q : TruthCode) → (out-Expr e).kind ≡ exprs.If c a b → first ≡ drop 1 ts → IsTruthCode spec tables names c first o second → IsTruthCode spec tables names a second p third
      → IsTruthCode spec tables names b third q rest → IsTruthCode spec tables names e ts (truth_code.If o p q) rest
  truth_if_code c a b first second third rest o p q is moved cc ca cb =
      by_given _ rest _ (truth_if o p q)
      (three_parts names a_truth e (ExprKind-F.If c a b) _ a_truth a_truth a_truth c a b ts first second third rest _ _ _ (ap out-ExprKind is ∙ layer_of_if c a b) refl (λ s vs. refl) moved cc ca cb
      (λ s vs inside has. (inside.form.0, (inside.form.1 ∙ has, inside.form.2 ∙ has)))
      (λ s vs inside has typed gc ga gb. record {
        gives = λ at suits bound. truth_branch _ _ _ ∙ (λ i. cond (truth_in (gc.gives at suits bound i)) (ga.gives at suits bound i) (gb.gives at suits bound i));
        needs = λ at suits bound. (gc.needs at suits bound, (ga.needs at suits bound, gb.needs at suits bound));
      }))
