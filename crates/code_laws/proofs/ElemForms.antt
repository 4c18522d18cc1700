-- The code of each form of element.
use Rattle.std.proofs.Common.{◌≡◌, ℕ, cond, List, [], drop, refl, sym, ap, subst, ◌∙◌}
use Rattle.std.specs.Prelude.{ℤ}
use Rattle.std.specs.Int.{int_wrapping_neg}
use mir.Syntax.{w64}
use Rattle.flow_term.specs.declared.elem.Elem.{Elem}
use Rattle.flow_term.specs.declared.elem.Elem.TheVariants as elem
use Rattle.flow_syntax.specs.declared.expr.ArithOp.{ArithOp}
use Rattle.flow_syntax.specs.declared.expr.Expr.{Expr, out-Expr}
use Rattle.flow_syntax.specs.declared.expr.ExprKind.{out-ExprKind}
use Rattle.flow_syntax.specs.declared.expr.ExprKind.TheOpen.{ExprKind-F}
use Rattle.flow_syntax.specs.declared.expr.ExprKind.TheVariants as exprs
use Rattle.flow_syntax.specs.declared.spec.Spec.{Spec}
use Rattle.flow_syntax.specs.declared.types.ExprType.{ExprType}
use Rattle.flow_syntax.specs.Types.{int_sort}
use Rattle.flow_syntax.proofs.ExprLayers.{layer_of_int, layer_of_str, layer_of_fst, layer_of_snd, layer_of_both, layer_of_arith, layer_of_minus, layer_of_if}
use Rattle.lattice_any.specs.declared.tables.DeclaredTable.{DeclaredTable}
use Rattle.expr_meaning.specs.Meaning as meant
use Rattle.expr_meaning.specs.Meaning.{truth_in, elem_in, first_of, second_of, pair_meaning, number_in, arith_value}
use Rattle.eval_code.specs.declared.code.ElemCode.{ElemCode}
use Rattle.eval_code.specs.declared.code.ElemCode.TheVariants as elem_code
use Rattle.eval_code.specs.declared.code.Half.TheVariants as half
use Rattle.eval_code.specs.declared.code.TruthCode.{TruthCode}
use Rattle.eval_code.specs.Senses.{Given, given_one, given_elem}
use Rattle.code_laws.specs.inner.Compiled.{an_element, a_truth, IsCompiled, IsElemCode, IsTruthCode}
use Rattle.code_laws.proofs.Given.{elem_constant, elem_pair, elem_part, elem_arith, elem_negated, elem_if}
use Rattle.code_laws.proofs.RangeFacts.{first_element, second_element, pair_elements, elem_range, is_element_pair, elem_branch}
use Rattle.code_laws.proofs.Walks.{M, is_sound, no_parts, one_part, two_parts, three_parts}

module _ {spec : Spec} {tables : List DeclaredTable} (names : List (List ℕ)) (e : Expr) (ts : List ExprType) where
  pub by_given : (code : ElemCode) (rest : List ExprType) (g : Given Elem) → given_elem code ≡ g → IsCompiled spec tables names an_element e ts (given_one meant.an_element g) rest → IsElemCode spec tables names e ts code rest
  by_given code rest g is h = subst (λ (g : Given Elem). IsCompiled spec tables names an_element e ts (given_one meant.an_element g) rest) (sym is) h

  pub int_code : (n : ℤ) (rest : List ExprType) → (out-Expr e).kind ≡ exprs.Int n → rest ≡ drop 1 ts → IsElemCode spec tables names e ts (elem_code.Constant (elem.Int n)) rest
  int_code n rest is moved =
      by_given _ rest _ (elem_constant (elem.Int n))
      (no_parts names an_element e (ExprKind-F.Int n) _ ts rest (ap out-ExprKind is ∙ layer_of_int n) refl moved (λ s vs inside has. record { gives = λ at suits bound. refl; needs = λ at suits bound. tt }))

  pub str_code : (x : List ℕ) (rest : List ExprType) → (out-Expr e).kind ≡ exprs.Str x → rest ≡ drop 1 ts → IsElemCode spec tables names e ts (elem_code.Constant (elem.Str x)) rest
  str_code x rest is moved =
      by_given _ rest _ (elem_constant (elem.Str x))
      (no_parts names an_element e (ExprKind-F.Str x) _ ts rest (ap out-ExprKind is ∙ layer_of_str x) refl moved (λ s vs inside has. record { gives = λ at suits bound. refl; needs = λ at suits bound. tt }))

  pub first_elem_code : (a : Expr) (first rest : List ExprType) (p : ElemCode) → (out-Expr e).kind ≡ exprs.Fst a → first ≡ drop 1 ts → IsElemCode spec tables names a first p rest → IsElemCode spec tables names e ts (elem_code.Part half.First p) rest
  first_elem_code a first rest p is moved ca =
      by_given _ rest _ (elem_part half.First p)
      (one_part names an_element e (ExprKind-F.Fst a) _ an_element a ts first rest _ (ap out-ExprKind is ∙ layer_of_fst a) refl (λ s vs. refl) moved ca
      (λ s vs inside has. (_, (first_element _ _ inside.form has).2))
      (λ s vs inside has typed ga.
      let pair = first_element _ _ inside.form has in
      record {
        gives = λ at suits bound. ap first_of (ga.gives at suits bound);
        needs = λ at suits bound. (ga.needs at suits bound, is_element_pair pair.0 pair.1 _ (elem_range _ _ (s.range a) (M s a at) pair.2 (ga.gives at suits bound) (is_sound s vs a [] typed at suits)));
      }))

  pub second_elem_code : (a : Expr) (first rest : List ExprType) (p : ElemCode) → (out-Expr e).kind ≡ exprs.Snd a → first ≡ drop 1 ts → IsElemCode spec tables names a first p rest → IsElemCode spec tables names e ts (elem_code.Part half.Second p) rest
  second_elem_code a first rest p is moved ca =
      by_given _ rest _ (elem_part half.Second p)
      (one_part names an_element e (ExprKind-F.Snd a) _ an_element a ts first rest _ (ap out-ExprKind is ∙ layer_of_snd a) refl (λ s vs. refl) moved ca
      (λ s vs inside has. (_, (second_element _ _ inside.form has).2))
      (λ s vs inside has typed ga.
      let pair = second_element _ _ inside.form has in
      record {
        gives = λ at suits bound. ap second_of (ga.gives at suits bound);
        needs = λ at suits bound. (ga.needs at suits bound, is_element_pair pair.0 pair.1 _ (elem_range _ _ (s.range a) (M s a at) pair.2 (ga.gives at suits bound) (is_sound s vs a [] typed at suits)));
      }))

  pub elem_pair_code : (a b : Expr) (first mid rest : List ExprType) (p q : ElemCode) → (out-Expr e).kind ≡ exprs.Both a b → first ≡ drop 1 ts → IsElemCode spec tables names a first p mid → IsElemCode spec tables names b mid q rest
      → IsElemCode spec tables names e ts (elem_code.Pair p q) rest
  elem_pair_code a b first mid rest p q is moved ca cb =
      by_given _ rest _ (elem_pair p q)
      (two_parts names an_element e (ExprKind-F.Both a b) _ an_element an_element a b ts first mid rest _ _ (ap out-ExprKind is ∙ layer_of_both a b) refl (λ s vs. refl) moved ca cb
      (λ s vs inside has. pair_elements _ _ _ inside.form has)
      (λ s vs inside has typed ga gb. record {
        gives = λ at suits bound. (λ i. pair_meaning (ga.gives at suits bound i) (gb.gives at suits bound i));
        needs = λ at suits bound. (ga.needs at suits bound, gb.needs at suits bound);
      }))

  pub arith_code : (o : ArithOp) (a b : Expr) (first mid rest : List ExprType) (p q : ElemCode) → (out-Expr e).kind ≡ exprs.Arith o a b → first ≡ drop 1 ts → IsElemCode spec tables names a first p mid → IsElemCode spec tables names b mid q rest
      → IsElemCode spec tables names e ts (elem_code.Arith o p q) rest
  arith_code o a b first mid rest p q is moved ca cb =
      by_given _ rest _ (elem_arith o p q)
      (two_parts names an_element e (ExprKind-F.Arith o a b) _ an_element an_element a b ts first mid rest _ _ (ap out-ExprKind is ∙ layer_of_arith o a b) refl (λ s vs. refl) moved ca cb
      (λ s vs inside has. ((int_sort, inside.form.1), (int_sort, inside.form.2)))
      (λ s vs inside has typed ga gb. record {
        gives = λ at suits bound. (λ i. meant.an_element (elem.Int (arith_value o (number_in (ga.gives at suits bound i)) (number_in (gb.gives at suits bound i)))));
        needs = λ at suits bound. (ga.needs at suits bound, gb.needs at suits bound);
      }))

  pub negated_code : (a : Expr) (first rest : List ExprType) (p : ElemCode) → (out-Expr e).kind ≡ exprs.Minus a → first ≡ drop 1 ts → IsElemCode spec tables names a first p rest → IsElemCode spec tables names e ts (elem_code.Negated p) rest
  negated_code a first rest p is moved ca =
      by_given _ rest _ (elem_negated p)
      (one_part names an_element e (ExprKind-F.Minus a) _ an_element a ts first rest _ (ap out-ExprKind is ∙ layer_of_minus a) refl (λ s vs. refl) moved ca
      (λ s vs inside has. (int_sort, inside.form.1))
      (λ s vs inside has typed ga. record { gives = λ at suits bound. ap (λ m. meant.an_element (elem.Int (int_wrapping_neg w64 (number_in m)))) (ga.gives at suits bound); needs = ga.needs }))

  pub elem_if_code : (c a b : Expr) (first second third rest : List ExprType) (o : TruthCode) (p q : ElemCode) → (out-Expr e).kind ≡ exprs.If c a b → first ≡ drop 1 ts → IsTruthCode spec tables names c first o second
      → IsElemCode spec tables names a second p third → IsElemCode spec tables names b third q rest → IsElemCode spec tables names e ts (elem_code.If o p q) rest
  elem_if_code c a b first second third rest o p q is moved cc ca cb =
      by_given _ rest _ (elem_if o p q)
      (three_parts names an_element e (ExprKind-F.If c a b) _ a_truth an_element an_element c a b ts first second third rest _ _ _ (ap out-ExprKind is ∙ layer_of_if c a b) refl (λ s vs. refl) moved cc ca cb
      (λ s vs inside has. (inside.form.0, ((has.0, inside.form.1 ∙ has.1), (has.0, inside.form.2 ∙ has.1))))
      (λ s vs inside has typed gc ga gb. record {
        gives = λ at suits bound. elem_branch _ _ _ ∙ (λ i. cond (truth_in (gc.gives at suits bound i)) (ga.gives at suits bound i) (gb.gives at suits bound i));
        needs = λ at suits bound. (gc.needs at suits bound, (ga.needs at suits bound, gb.needs at suits bound));
      }))
