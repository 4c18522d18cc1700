-- The code of names and reads.
use Rattle.std.proofs.Common.{◌≡◌, ℕ, suc, ◌+◌, ◌<◌, ◌^◌, Bool, true, false, cond, List, [], ◌∷◌, length, drop, Option, Some, None, arith, refl, sym, ap, subst, ◌∙◌, bytes_eq}
use Rattle.std.specs.Prelude.{IsTrue, unwrap_or}
use Rattle.std.specs.List.{position_from}
use Rattle.flow_term.specs.declared.elem.Elem.TheVariants as elem
use Rattle.flow_term.specs.declared.value.Bound.{Bound}
use Rattle.flow_term.specs.declared.value.Value.TheVariants as value
use Rattle.flow_syntax.specs.declared.expr.Expr.{Expr, out-Expr}
use Rattle.flow_syntax.specs.declared.expr.ExprKind.{out-ExprKind}
use Rattle.flow_syntax.specs.declared.expr.ExprKind.TheOpen.{ExprKind-F}
use Rattle.flow_syntax.specs.declared.expr.ExprKind.TheVariants as exprs
use Rattle.flow_syntax.specs.declared.expr.Side.{Side}
use Rattle.flow_syntax.specs.declared.spec.Spec.{Spec}
use Rattle.flow_syntax.specs.declared.tables.EnumDecl.{EnumDecl}
use Rattle.flow_syntax.specs.declared.types.ExprType.{ExprType}
use Rattle.flow_syntax.specs.Inferred.{enum_with}
use Rattle.flow_syntax.specs.Types.{enum_sort}
use Rattle.flow_syntax.proofs.ExprLayers.{layer_of_ident, layer_of_read}
use Rattle.lattice_any.specs.declared.tables.DeclaredTable.{DeclaredTable}
use Rattle.expr_meaning.specs.Meaning as meant
use Rattle.expr_meaning.specs.Meaning.{name_meaning, constant_meaning, bound_to, property_number}
use Rattle.expr_meaning.specs.Ranges.{Range}
use Rattle.expr_meaning.specs.Typing.{IsNamed, IsBoundAs, Variable, variable_of, listed_in}
use Rattle.eval_code.specs.declared.code.ElemCode.TheVariants as elem_code
use Rattle.eval_code.specs.declared.code.ValueCode.TheVariants as value_code
use Rattle.eval_code.specs.Needs.{is_there}
use Rattle.code_laws.specs.Codes.{bound_elem, names_of}
use Rattle.code_laws.specs.inner.Compiled.{HasKind, a_value, an_element, slot_number, IsValueCode, IsElemCode}
use Rattle.code_laws.proofs.ElemForms as elems
use Rattle.code_laws.proofs.Given.{elem_constant, elem_slot, value_constant, value_read}
use Rattle.code_laws.proofs.RangeFacts.{values≢elements}
use Rattle.code_laws.proofs.ValueForms as forms
use Rattle.code_laws.proofs.Walks.{no_parts}

-- LOOK-UPS

-- the number of a name, where the first has the number i
numbered_from : (i : ℕ) (bs : List Bound) (x : List ℕ) (n : ℕ) → position_from (bytes_eq x) i (names_of bs) ≡ Some n → (k : ℕ) × (b : Bound) × (n ≡ i + k) × (bound_to bs x ≡ Some b) × (bound_elem bs k ≡ Some b.value)
numbered_from i [] x n e = absurd cc
numbered_from i (b ∷ bs) x n e = by (bytes_eq x b.name) (numbered_from (i + 1) bs x n) e
  where
    by : (t : Bool) → (position_from (bytes_eq x) (i + 1) (names_of bs) ≡ Some n → (k : ℕ) × (c : Bound) × (n ≡ i + 1 + k) × (bound_to bs x ≡ Some c) × (bound_elem bs k ≡ Some c.value))
        → cond t (Some i) (position_from (bytes_eq x) (i + 1) (names_of bs)) ≡ Some n
        → (k : ℕ) × (c : Bound) × (n ≡ i + k) × (cond t (Some b) (bound_to bs x) ≡ Some c) × (bound_elem (b ∷ bs) k ≡ Some c.value)
    by true later e = let first : n ≡ i = ap (λ o. unwrap_or o n) (sym e) in (0, b, first ∙ omega arith, refl, refl)
    by false later e = let found = later e in (suc found.0, found.1, found.2 ∙ omega arith, found.3, found.4)

numbered : (bs : List Bound) (x : List ℕ) (n : ℕ) → slot_number (names_of bs) x ≡ Some n → (b : Bound) × (bound_to bs x ≡ Some b) × (bound_elem bs n ≡ Some b.value)
numbered bs x n e =
    let found = numbered_from 0 bs x n e in
    let same : n ≡ found.0 = let h = found.2 in omega (arith, h) in
    (found.1, found.3, ap (bound_elem bs) same ∙ found.4)

unnumbered_from : (i : ℕ) (bs : List Bound) (x : List ℕ) → position_from (bytes_eq x) i (names_of bs) ≡ None → bound_to bs x ≡ None
unnumbered_from i [] x e = refl
unnumbered_from i (b ∷ bs) x e = by (bytes_eq x b.name) (unnumbered_from (i + 1) bs x) e
  where
    by : (t : Bool) → (position_from (bytes_eq x) (i + 1) (names_of bs) ≡ None → bound_to bs x ≡ None) → cond t (Some i) (position_from (bytes_eq x) (i + 1) (names_of bs)) ≡ None → cond t (Some b) (bound_to bs x) ≡ None
    by true later e = absurd cc
    by false later e = later e

-- CONSTANTS

item_of : (spec : Spec) (v : Option Variable) (o : Option EnumDecl) (own : Range) (x : List ℕ) → IsBoundAs v None → IsNamed spec v o own x → HasKind an_element own → constant_meaning o x ≡ meant.an_element (elem.Item x)
item_of spec (Some v) o own x h k has = absurd h
item_of spec None (Some d) own x h k has = refl
item_of spec None None own x h k has = absurd (values≢elements (listed_in spec k.0) has.0 (sym k.1 ∙ has.1))

element_of : (spec : Spec) (v : Option Variable) (b : Option Bound) (o : Option EnumDecl) (own : Range) (x : List ℕ) → IsBoundAs v b → IsNamed spec v o own x → HasKind a_value own
    → (b ≡ None) × (constant_meaning o x ≡ meant.a_value (value.Item x))
element_of spec (Some v) b o own x h k has = absurd (values≢elements has.0 v.sort (sym has.1 ∙ k))
element_of spec None (Some b) o own x h k has = absurd h
element_of spec None None (Some d) own x h k has = absurd (values≢elements has.0 (enum_sort d.name.text) (sym has.1 ∙ k))
element_of spec None None None own x h k has = (refl, refl)

-- THE FORMS

module _ {spec : Spec} {tables : List DeclaredTable} (names : List (List ℕ)) (e : Expr) (ts : List ExprType) where
  pub slot_code : (x : List ℕ) (n : ℕ) (rest : List ExprType) → (out-Expr e).kind ≡ exprs.Ident x → rest ≡ drop 1 ts → slot_number names x ≡ Some n → IsElemCode spec tables names e ts (elem_code.Slot n) rest
  slot_code x n rest is moved number =
      elems.by_given names e ts _ rest _ (elem_slot n)
      (no_parts names an_element e (ExprKind-F.Ident x) _ ts rest (ap out-ExprKind is ∙ layer_of_ident x) refl moved
      (λ s vs inside has. record {
        gives = λ at suits bound.
            let found = numbered at.bindings x n (ap (λ ns. slot_number ns x) bound ∙ number) in
            ap (λ o. meant.an_element (unwrap_or o (elem.Name []))) found.2 ∙ sym (ap (λ o. name_meaning spec o x) found.1);
        needs = λ at suits bound. ap is_there (numbered at.bindings x n (ap (λ ns. slot_number ns x) bound ∙ number)).2;
      }))

  pub item_code : (x : List ℕ) (rest : List ExprType) → (out-Expr e).kind ≡ exprs.Ident x → rest ≡ drop 1 ts → slot_number names x ≡ None → IsElemCode spec tables names e ts (elem_code.Constant (elem.Item x)) rest
  item_code x rest is moved number =
      elems.by_given names e ts _ rest _ (elem_constant (elem.Item x))
      (no_parts names an_element e (ExprKind-F.Ident x) _ ts rest (ap out-ExprKind is ∙ layer_of_ident x) refl moved
      (λ s vs inside has. record {
        gives = λ at suits bound.
            let free = unnumbered_from 0 at.bindings x (ap (λ ns. slot_number ns x) bound ∙ number) in
            sym (ap (λ o. name_meaning spec o x) free ∙ item_of spec (variable_of vs x) (enum_with spec x) (s.range e) x (subst (IsBoundAs (variable_of vs x)) free (suits.bound x inside.form.1)) inside.form.0 has);
        needs = λ at suits bound. tt;
      }))

  pub element_code : (x : List ℕ) (rest : List ExprType) → (out-Expr e).kind ≡ exprs.Ident x → rest ≡ drop 1 ts → IsValueCode spec tables names e ts (value_code.Constant (value.Item x)) rest
  element_code x rest is moved =
      forms.by_given names e ts _ rest _ (value_constant (value.Item x))
      (no_parts names a_value e (ExprKind-F.Ident x) _ ts rest (ap out-ExprKind is ∙ layer_of_ident x) refl moved
      (λ s vs inside has. record {
        gives = λ at suits bound.
            let found = element_of spec (variable_of vs x) (bound_to at.bindings x) (enum_with spec x) (s.range e) x (suits.bound x inside.form.1) inside.form.0 has in
            sym (ap (λ o. name_meaning spec o x) found.0 ∙ found.1);
        needs = λ at suits bound. tt;
      }))

  pub read_code : (p : List ℕ) (side : Side) (n : ℕ) (rest : List ExprType) → (out-Expr e).kind ≡ exprs.Read p side → rest ≡ drop 1 ts → (length spec.properties < 2 ^ 32 → n ≡ property_number spec p)
      → IsValueCode spec tables names e ts (value_code.Read n side) rest
  read_code p side n rest is moved number =
      forms.by_given names e ts _ rest _ (value_read n side)
      (no_parts names a_value e (ExprKind-F.Read p side) _ ts rest (ap out-ExprKind is ∙ layer_of_read p side) refl moved
      (λ s vs inside has. record {
        gives = λ at suits bound. ap (λ m. meant.a_value (at.reads m side)) (number s.few);
        needs = λ at suits bound. subst (λ m. IsTrue (s.usable.has m side)) (sym (number s.few)) inside.form.1;
      }))
