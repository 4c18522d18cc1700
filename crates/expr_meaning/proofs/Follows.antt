-- An expression follows what it reads by its mode: the induction.
use Rattle.std.proofs.Common.{◌≡◌, ℕ, Bool, true, false, cond, not, ◌&&◌, ◌||◌, List, [], ◌∷◌, ◌++◌, map, Some, None, refl, sym, ap, subst, ◌∙◌}
use Rattle.std.specs.List.{AllByRecursion}
use Rattle.std.proofs.lemmas.Bool.{true≢false}
use Rattle.flow_term.specs.declared.elem.Elem.{Elem}
use Rattle.flow_term.specs.declared.value.Bound.{Bound}
use Rattle.flow_term.specs.declared.value.Value.TheVariants as value
use Rattle.flow_syntax.specs.declared.expr.Expr.{Expr}
use Rattle.flow_syntax.specs.declared.expr.ExprKind.TheOpen.{ExprKind-F}
use Rattle.flow_syntax.specs.declared.expr.SetOp.{SetOp}
use Rattle.flow_syntax.specs.declared.expr.SetOp.TheVariants as op
use Rattle.flow_syntax.specs.declared.property.Mode.{Mode}
use Rattle.flow_syntax.specs.declared.property.Mode.TheVariants as mode
use Rattle.flow_syntax.specs.declared.spec.Named.{Named}
use Rattle.flow_syntax.specs.declared.spec.Spec.{Spec}
use Rattle.flow_syntax.specs.declared.tables.FunctionDecl.{FunctionDecl}
use Rattle.flow_syntax.specs.Inferred.{function_named}
use Rattle.flow_term.specs.declared.elem.Elem.TheVariants as elem
use Rattle.std.specs.Int.{int_wrapping_neg}
use mir.Syntax.{w64}
use Rattle.flow_syntax.specs.Expressions.{ExprLayer, expr_layer, parts_in, parts_of}
use Rattle.value_domains.specs.Values.{IsOfSort}
use Rattle.flow_syntax.specs.Types.{Sort}
use Rattle.value_domains.specs.Lawful.{IsLawful}
use Rattle.expr_meaning.specs.Ranges.{Range, values, elements, truths, domain_in}
use Rattle.value_domains.specs.Domains.{Domain, flat, map_to, IsValueOf, IsBelowIn, least_of}
use Rattle.expr_meaning.specs.Meaning.{elems_given, values_given, set_of, arith_value, number_in, call_value, Meaning, an_element, a_value, a_truth, value_in, elem_in, truth_in, Situation, Usable, Sense, with_bound, meaning, form_meaning, name_meaning, bound_to, compared}
use Rattle.expr_meaning.specs.Modes.{all_combined, modes_of, mode_of, form_mode, combined, turned, needs, is_must, is_bottom_word}
use Rattle.expr_meaning.specs.Monotone.{Moves, IsBelowAs, IsLower}
use Rattle.expr_meaning.specs.Typing.{listed_in, HaveArguments, IsIn, Variable, held, and_variable, Suits, sort_in, elements_of, IsOperand, HasForm, held_parts, AreTyped}
use Rattle.expr_meaning.proofs.Bound.{suits_more}
use Rattle.expr_meaning.proofs.TypedParts.{first_typed, rest_typed, inner_typed, split_typed, split_all}
use Rattle.flow_syntax.proofs.Parts.{given_layer, by_parts_out, by_induction}
use Rattle.expr_meaning.proofs.Moving.{combine, turn, raise, need}
use Rattle.expr_meaning.proofs.ValueForms.{order_of, and_rises, or_rises, not_falls}
use Rattle.expr_meaning.proofs.FormMoves.{Part, value_fact, value_moves, value_back, truth_moves, truth_back, elem_moves, Implies, operation_moves, operation_mode, member_moves, look_moves, update_moves, branch_moves, guard_moves}
use Rattle.expr_meaning.specs.Functions.{AreBelow, IsMonotone}
use Rattle.flow_syntax.specs.Parts.{part}
use Rattle.expr_meaning.proofs.MapMoves.{AllBelow, map_value, made_rises, list_needed}
use Rattle.expr_meaning.proofs.PartMoves.{first_moves, second_moves, pair_moves, both_fixed, fixed_needed}
use Rattle.expr_meaning.proofs.BinderMoves.{Sorted, choose_moves, bind_moves}

module _ (spec : Spec) (usable : Usable) (range : Expr → Range) where
  abbrev Typed : List Variable → Expr → Type 0
  Typed vs e = AreTyped spec usable range (held vs e ∷ [])

  abbrev M : Expr → Sense
  M = meaning spec range

  abbrev K : Expr → Mode
  K = mode_of range

  -- two situations that suit the variables, the first lower
  pub record Between (vs : List Variable) (low high : Situation) : Type 0 where
    pub suits_low : Suits usable vs low
    pub suits_high : Suits usable vs high
    pub lower : IsLower usable low high

  -- an expression follows by its mode, wherever it is typed
  abbrev pub Follows : Expr → Type 0
  Follows e = (vs : List Variable) → Typed vs e → (low high : Situation) → Between vs low high → Moves (K e) (IsBelowAs (range e)) (M e low) (M e high)

  -- SITUATIONS WITH ONE MORE VARIABLE

  lower_more : (low high : Situation) (x : List ℕ) (e : Elem) → IsLower usable low high → IsLower usable (with_bound low x e) (with_bound high x e)
  lower_more low high x e h = record { bindings = ap (λ (bs : List Bound). bs ++ record { name = x; value = e } ∷ []) h.bindings; reads = h.reads }

  between_more : (vs : List Variable) (low high : Situation) (x : List ℕ) (s : Sort) → Between vs low high → (e : Sorted s) → Between (and_variable vs x s) (with_bound low x e.0) (with_bound high x e.0)
  between_more vs low high x s b e = record {
    suits_low = suits_more usable vs low x s e.0 b.suits_low e.1;
    suits_high = suits_more usable vs high x s e.0 b.suits_high e.1;
    lower = lower_more low high x e.0 b.lower;
  }

  -- THE FORMS

  module _ (monotone : (x : List ℕ) (f : FunctionDecl) → function_named spec x ≡ Some f → IsMonotone spec f) (lawful : (e : Expr) → IsLawful (domain_in (range e))) (sound : (vs : List Variable) (e : Expr) → Typed vs e → (at : Situation) → Suits usable vs at → IsIn (range e) (M e at)) where
    -- what is known of a part
    fact : (vs : List Variable) (e : Expr) → Typed vs e → Follows e → (low high : Situation) → Between vs low high → Part (range e) (K e) (M e low) (M e high)
    fact vs e typed follows low high b = record { moves = follows vs typed low high b; low = sound vs e typed low b.suits_low; high = sound vs e typed high b.suits_high }

    at_range : (r : Range) (m : Mode) (x y : Meaning) (s : Range) → r ≡ s → Part r m x y → Part s m x y
    at_range r m x y s e p = subst (λ t. Part t m x y) e p

    -- a form follows by its mode, at a range of its own
    abbrev Goal : Situation → Situation → ExprLayer → Range → Type 0
    Goal low high layer r = Moves (form_mode range (domain_in r) (given_layer K layer)) (IsBelowAs r) (form_meaning spec (domain_in r) (given_layer M layer) low) (form_meaning spec (domain_in r) (given_layer M layer) high)

    -- a form is in its range
    abbrev IsMade : Situation → ExprLayer → Range → Type 0
    IsMade at layer r = IsIn r (form_meaning spec (domain_in r) (given_layer M layer) at)

    bottom_layer : (layer : ExprLayer) → is_bottom_word layer ≡ true → layer ≡ ExprKind-F.Bottom
    bottom_layer ExprKind-F.Bottom h = refl
    bottom_layer _ h = absurd (true≢false (sym h))

    bottom_means : (e : Expr) → expr_layer e ≡ ExprKind-F.Bottom → (at : Situation) → M e at ≡ a_value (least_of (domain_in (range e)))
    bottom_means e h at =
        ap (λ (s : Sense). s at) (by_parts_out (λ e layer. form_meaning spec (domain_in (range e)) layer) e)
        ∙ ap (λ (l : ExprLayer). form_meaning spec (domain_in (range e)) (given_layer M l) at) h

    bottom_range : (e : Expr) (vs : List Variable) → Typed vs e → expr_layer e ≡ ExprKind-F.Bottom → (d : Domain) × (range e ≡ values d)
    bottom_range e vs typed h = subst (HasForm spec usable range vs (range e)) h (inner_typed (held vs e) typed).0

    module _ (vs : List Variable) (low high : Situation) (b : Between vs low high) where
      guarded : (own : Range) (c a e : Expr) → Typed vs c → Typed vs a → Typed vs e → Follows c → Follows a → range c ≡ truths → range a ≡ own → range e ≡ own → expr_layer e ≡ ExprKind-F.Bottom
          → Moves (combined (K c) (K a)) (IsBelowAs own) (cond (truth_in (M c low)) (M a low) (M e low)) (cond (truth_in (M c high)) (M a high) (M e high))
      guarded own c a e tc ta te fc fa is_truths is_a is_e word =
          let known = bottom_range e vs te word in
          let d = known.0 in
          let is_own : values d ≡ own = sym known.1 ∙ is_e in
          let pc = at_range (range c) (K c) (M c low) (M c high) truths is_truths (fact vs c tc fc low high b) in
          let pa = at_range (range a) (K a) (M a low) (M a high) (values d) (is_a ∙ sym is_own) (fact vs a ta fa low high b) in
          let lawful_d : IsLawful d = subst (λ r. IsLawful (domain_in r)) known.1 (lawful e) in
          let least : (at : Situation) → a_value (least_of d) ≡ M e at = λ at. sym (bottom_means e word at ∙ ap (λ r. a_value (least_of (domain_in r))) known.1) in
          subst (λ r. Moves (combined (K c) (K a)) (IsBelowAs r) (cond (truth_in (M c low)) (M a low) (M e low)) (cond (truth_in (M c high)) (M a high) (M e high))) is_own
          (subst (λ z. Moves (combined (K c) (K a)) (IsBelowAs (values d)) (cond (truth_in (M c low)) (M a low) z) (cond (truth_in (M c high)) (M a high) (M e high))) (least low)
          (subst (λ z. Moves (combined (K c) (K a)) (IsBelowAs (values d)) (cond (truth_in (M c low)) (M a low) (a_value (least_of d))) (cond (truth_in (M c high)) (M a high) z)) (least high)
          (guard_moves d lawful_d (M c low) (M c high) (M a low) (M a high) pa.low pa.high (K c) (K a) pc.moves pa.moves)))

      branches : (own : Range) (c a e : Expr) → IsLawful (domain_in own) → Typed vs c → Typed vs a → Typed vs e → Follows c → Follows a → Follows e → range c ≡ truths → range a ≡ own → range e ≡ own
          → (w : Bool) → is_bottom_word (expr_layer e) ≡ w
          → Moves (cond w (combined (K c) (K a)) (needs (K c) (combined (K a) (K e)))) (IsBelowAs own) (cond (truth_in (M c low)) (M a low) (M e low)) (cond (truth_in (M c high)) (M a high) (M e high))
      branches own c a e lawful_own tc ta te fc fa fe is_truths is_a is_e true word = guarded own c a e tc ta te fc fa is_truths is_a is_e (bottom_layer (expr_layer e) word)
      branches own c a e lawful_own tc ta te fc fa fe is_truths is_a is_e false word =
          let pc = at_range (range c) (K c) (M c low) (M c high) truths is_truths (fact vs c tc fc low high b) in
          let pa = at_range (range a) (K a) (M a low) (M a high) own is_a (fact vs a ta fa low high b) in
          let pe = at_range (range e) (K e) (M e low) (M e high) own is_e (fact vs e te fe low high b) in
          branch_moves own lawful_own (M c low) (M c high) (M a low) (M a high) (M e low) (M e high) pa.low pe.low (K c) (K a) (K e) pc.moves pa.moves pe.moves

      two : (o : SetOp) (own : Range) (d : Domain) (a c : Expr) → IsLawful (domain_in own) → IsOperand o d → own ≡ values d → range a ≡ values d → range c ≡ values d → Typed vs a → Typed vs c → Follows a → Follows c
          → Moves (operation_mode o d (K a) (K c)) (IsBelowAs (values d)) (form_meaning spec d (given_layer M (ExprKind-F.Set2 o a c)) low) (form_meaning spec d (given_layer M (ExprKind-F.Set2 o a c)) high)
      two o own d a c lawful_own operand is_own is_a is_c ta tc fa fc =
          operation_moves o d (subst (λ r. IsLawful (domain_in r)) is_own lawful_own) operand (K a) (K c) (M a low) (M a high) (M c low) (M c high)
          (at_range (range a) (K a) (M a low) (M a high) (values d) is_a (fact vs a ta fa low high b)) (at_range (range c) (K c) (M c low) (M c high) (values d) is_c (fact vs c tc fc low high b))

      truth_of : (e : Expr) → range e ≡ truths → Typed vs e → Follows e → Moves (K e) Implies (truth_in (M e low)) (truth_in (M e high))
      truth_of e is_truths typed follows = truth_moves (K e) (M e low) (M e high) (at_range (range e) (K e) (M e low) (M e high) truths is_truths (fact vs e typed follows low high b)).moves

      elem_of : (e : Expr) (s : Sort) → range e ≡ elements s → Typed vs e → Follows e → Moves (K e) (λ (x y : Elem). x ≡ y) (elem_in (M e low)) (elem_in (M e high))
      elem_of e s is_elements typed follows = elem_moves s (K e) (M e low) (M e high) (at_range (range e) (K e) (M e low) (M e high) (elements s) is_elements (fact vs e typed follows low high b)).moves

      value_of : (e : Expr) (d : Domain) → range e ≡ values d → Typed vs e → Follows e → Moves (K e) (IsBelowIn d) (value_in (M e low)) (value_in (M e high)) × IsValueOf d (value_in (M e low)) × IsValueOf d (value_in (M e high))
      value_of e d is_values typed follows =
          let p = at_range (range e) (K e) (M e low) (M e high) (values d) is_values (fact vs e typed follows low high b) in
          (value_moves d (K e) (M e low) (M e high) p.moves, value_fact d (M e low) p.low, value_fact d (M e high) p.high)

    -- the elements of parts that are all fixed
    same_elems : (vs : List Variable) (low high : Situation) → Between vs low high → (es : List Expr) → AreTyped spec usable range (map (held vs) es) → AllByRecursion Follows es
        → all_combined (modes_of (map (λ e. part e (K e)) es)) ≡ mode.Fixed → elems_given low (map (λ e. part e (M e)) es) ≡ elems_given high (map (λ e. part e (M e)) es)
    same_elems vs low high b [] typed parts h = refl
    same_elems vs low high b (e ∷ es) typed parts h =
        let fixed = both_fixed (K e) (all_combined (modes_of (map (λ e. part e (K e)) es))) h in
        let here : M e low ≡ M e high = subst (λ m. Moves m (IsBelowAs (range e)) (M e low) (M e high)) fixed.0 (parts.0 vs (first_typed _ _ typed) low high b) in
        λ i. elem_in (here i) ∷ same_elems vs low high b es (rest_typed _ _ typed) parts.1 fixed.1 i

    -- arguments are below themselves
    arguments_itself : (vs : List Variable) (at : Situation) → Suits usable vs at → (ns : List Named) (es : List Expr) → HaveArguments spec range ns es → AreTyped spec usable range (map (held vs) es)
        → AreBelow spec ns (values_given at (map (λ e. part e (M e)) es)) (values_given at (map (λ e. part e (M e)) es))
    arguments_itself vs at suits [] [] have typed = tt
    arguments_itself vs at suits (n ∷ ns) (e ∷ es) have typed =
        let d = listed_in spec n in
        let valid : IsValueOf d (value_in (M e at)) = value_fact d (M e at) (subst (λ r. IsIn r (M e at)) have.0 (sound vs e (first_typed _ _ typed) at suits)) in
        let lawful_d : IsLawful d = subst (λ r. IsLawful (domain_in r)) have.0 (lawful e) in
        (valid, valid, (order_of d lawful_d).reflexive (value_in (M e at)) valid, arguments_itself vs at suits ns es have.1 (rest_typed _ _ typed))
    arguments_itself vs at suits [] (e ∷ es) have typed = absurd have
    arguments_itself vs at suits (n ∷ ns) [] have typed = absurd have

    -- the values of arguments, each of its declared lattice
    arguments_move : (vs : List Variable) (low high : Situation) → Between vs low high → (ns : List Named) (es : List Expr) → HaveArguments spec range ns es → AreTyped spec usable range (map (held vs) es) → AllByRecursion Follows es
        → Moves (all_combined (modes_of (map (λ e. part e (K e)) es))) (AreBelow spec ns) (values_given low (map (λ e. part e (M e)) es)) (values_given high (map (λ e. part e (M e)) es))
    arguments_move vs low high b [] [] have typed parts = refl
    arguments_move vs low high b (n ∷ ns) (e ∷ es) have typed parts =
        let d = listed_in spec n in
        let p = value_of vs low high b e d have.0 (first_typed _ _ typed) parts.0 in
        let lawful_d : IsLawful d = subst (λ r. IsLawful (domain_in r)) have.0 (lawful e) in
        let v1 = value_in (M e low) in let v2 = value_in (M e high) in
        let vs1 = values_given low (map (λ e. part e (M e)) es) in let vs2 = values_given high (map (λ e. part e (M e)) es) in
        combine (IsBelowIn d) (AreBelow spec ns) (AreBelow spec (n ∷ ns)) v1 v2 vs1 vs2 (v1 ∷ vs1) (v2 ∷ vs2) ((order_of d lawful_d).reflexive v1 p.1) (arguments_itself vs low b.suits_low ns es have.1 (rest_typed _ _ typed))
        (λ h k. (p.1, p.2, h, k)) (λ h k. (p.2, p.1, h, k)) (λ h k i. h i ∷ k i) (K e) (all_combined (modes_of (map (λ e. part e (K e)) es))) p.0 (arguments_move vs low high b ns es have.1 (rest_typed _ _ typed) parts.1)
    arguments_move vs low high b [] (e ∷ es) have typed parts = absurd have
    arguments_move vs low high b (n ∷ ns) [] have typed parts = absurd have

    -- the values of parts of one domain
    values_itself : (vs : List Variable) (at : Situation) → Suits usable vs at → (d : Domain) (lawful_d : IsLawful d) (es : List Expr) → AllByRecursion (λ e. range e ≡ values d) es → AreTyped spec usable range (map (held vs) es)
        → AllBelow d lawful_d (values_given at (map (λ e. part e (M e)) es)) (values_given at (map (λ e. part e (M e)) es))
    values_itself vs at suits d lawful_d [] are typed = tt
    values_itself vs at suits d lawful_d (e ∷ es) are typed =
        let valid : IsValueOf d (value_in (M e at)) = value_fact d (M e at) (subst (λ r. IsIn r (M e at)) are.0 (sound vs e (first_typed _ _ typed) at suits)) in
        (valid, valid, (order_of d lawful_d).reflexive (value_in (M e at)) valid, values_itself vs at suits d lawful_d es are.1 (rest_typed _ _ typed))

    values_move : (vs : List Variable) (low high : Situation) → Between vs low high → (d : Domain) (lawful_d : IsLawful d) (es : List Expr) → AllByRecursion (λ e. range e ≡ values d) es → AreTyped spec usable range (map (held vs) es) → AllByRecursion Follows es
        → Moves (all_combined (modes_of (map (λ e. part e (K e)) es))) (AllBelow d lawful_d) (values_given low (map (λ e. part e (M e)) es)) (values_given high (map (λ e. part e (M e)) es))
    values_move vs low high b d lawful_d [] are typed parts = refl
    values_move vs low high b d lawful_d (e ∷ es) are typed parts =
        let p = value_of vs low high b e d are.0 (first_typed _ _ typed) parts.0 in
        let v1 = value_in (M e low) in let v2 = value_in (M e high) in
        let vs1 = values_given low (map (λ e. part e (M e)) es) in let vs2 = values_given high (map (λ e. part e (M e)) es) in
        combine (IsBelowIn d) (AllBelow d lawful_d) (AllBelow d lawful_d) v1 v2 vs1 vs2 (v1 ∷ vs1) (v2 ∷ vs2) ((order_of d lawful_d).reflexive v1 p.1) (values_itself vs low b.suits_low d lawful_d es are.1 (rest_typed _ _ typed))
        (λ h k. (p.1, p.2, h, k)) (λ h k. (p.2, p.1, h, k)) (λ h k i. h i ∷ k i) (K e) (all_combined (modes_of (map (λ e. part e (K e)) es))) p.0 (values_move vs low high b d lawful_d es are.1 (rest_typed _ _ typed) parts.1)

    by_form : (vs : List Variable) (low high : Situation) → Between vs low high → (own : Range) (layer : ExprLayer) → IsLawful (domain_in own) → HasForm spec usable range vs own layer → AreTyped spec usable range (held_parts range vs layer)
        → AllByRecursion Follows (parts_in layer) → IsMade low layer own → IsMade high layer own → Goal low high layer own
    by_form vs low high b own (ExprKind-F.Int n) lawful_own form typed parts made1 made2 = refl
    by_form vs low high b own (ExprKind-F.Str s) lawful_own form typed parts made1 made2 = refl
    by_form vs low high b own (ExprKind-F.Truth t) lawful_own form typed parts made1 made2 = refl
    by_form vs low high b own ExprKind-F.Bottom lawful_own form typed parts made1 made2 = refl
    by_form vs low high b own ExprKind-F.Top lawful_own form typed parts made1 made2 = refl
    by_form vs low high b own ExprKind-F.Unreached lawful_own form typed parts made1 made2 = refl
    by_form vs low high b own (ExprKind-F.Ident x) lawful_own form typed parts made1 made2 = ap (λ bs. name_meaning spec (bound_to bs x) x) b.lower.bindings
    by_form vs low high b own (ExprKind-F.Read p side) lawful_own form typed parts made1 made2 = subst (λ r. Goal low high (ExprKind-F.Read p side) r) (sym form.0) (b.lower.reads _ side form.1)
    by_form vs low high b own (ExprKind-F.MakeFlat e) lawful_own form typed parts made1 made2 =
        need (IsBelowAs (range e)) (IsBelowAs own) (M e low) (M e high) (a_value (value.Flat (elem_in (M e low)))) (a_value (value.Flat (elem_in (M e high)))) mode.Fixed
        (λ h. ap (λ m. a_value (value.Flat (elem_in m))) h) (K e) (parts.0 vs typed low high b)
    by_form vs low high b own (ExprKind-F.Look m k) lawful_own (s, d, is_own, is_m, is_k) typed parts made1 made2 =
        let tm = first_typed _ _ typed in let tk = rest_typed _ _ typed in
        subst (λ r. Goal low high (ExprKind-F.Look m k) r) (sym is_own)
        (value_back d (needs (K k) (K m)) _ _ (look_moves s d (elem_in (M k low)) (elem_in (M k high)) (value_in (M m low)) (value_in (M m high)) (K k) (K m) (elem_of vs low high b k s is_k tk parts.1.0) (value_of vs low high b m (map_to s d) is_m tm parts.0).0))
    by_form vs low high b own (ExprKind-F.Update m k v) lawful_own (s, d, is_own, is_m, is_k, is_v) typed parts made1 made2 =
        let tm = first_typed _ _ typed in let others = rest_typed _ _ typed in let tk = first_typed _ _ others in let tv = rest_typed _ _ others in
        let pm = value_of vs low high b m (map_to s d) is_m tm parts.0 in let pv = value_of vs low high b v d is_v tv parts.1.1.0 in
        subst (λ r. Goal low high (ExprKind-F.Update m k v) r) (sym is_own)
        (value_back (map_to s d) (needs (K k) (combined (K m) (K v))) _ _
        (update_moves s d (subst (λ r. IsLawful (domain_in r)) is_v (lawful v)) (elem_in (M k low)) (elem_in (M k high)) (value_in (M m low)) (value_in (M m high)) (value_in (M v low)) (value_in (M v high))
        pm.1 pv.1 pv.2 (K k) (K m) (K v) (elem_of vs low high b k s is_k tk parts.1.0) pm.0 pv.0))
    by_form vs low high b own (ExprKind-F.Set2 op.Join a c) lawful_own (d, operand, is_own, is_a, is_c) typed parts made1 made2 =
        subst (λ r. Goal low high (ExprKind-F.Set2 op.Join a c) r) (sym is_own) (two vs low high b op.Join own d a c lawful_own operand is_own is_a is_c (first_typed _ _ typed) (rest_typed _ _ typed) parts.0 parts.1.0)
    by_form vs low high b own (ExprKind-F.Set2 op.Union a c) lawful_own (d, operand, is_own, is_a, is_c) typed parts made1 made2 =
        subst (λ r. Goal low high (ExprKind-F.Set2 op.Union a c) r) (sym is_own) (two vs low high b op.Union own d a c lawful_own operand is_own is_a is_c (first_typed _ _ typed) (rest_typed _ _ typed) parts.0 parts.1.0)
    by_form vs low high b own (ExprKind-F.Set2 op.Inter a c) lawful_own (d, operand, is_own, is_a, is_c) typed parts made1 made2 =
        subst (λ r. Goal low high (ExprKind-F.Set2 op.Inter a c) r) (sym is_own) (two vs low high b op.Inter own d a c lawful_own operand is_own is_a is_c (first_typed _ _ typed) (rest_typed _ _ typed) parts.0 parts.1.0)
    by_form vs low high b own (ExprKind-F.Set2 op.Minus a c) lawful_own (d, operand, is_own, is_a, is_c) typed parts made1 made2 =
        subst (λ r. Goal low high (ExprKind-F.Set2 op.Minus a c) r) (sym is_own) (two vs low high b op.Minus own d a c lawful_own operand is_own is_a is_c (first_typed _ _ typed) (rest_typed _ _ typed) parts.0 parts.1.0)
    by_form vs low high b own (ExprKind-F.Compare o a c) lawful_own form typed parts made1 made2 =
        need (IsBelowAs (range a)) (IsBelowAs own) (M a low) (M a high) (a_truth (compared o (elem_in (M a low)) (elem_in (M c low)))) (a_truth (compared o (elem_in (M a high)) (elem_in (M c high)))) (needs (K c) mode.Fixed)
        (λ h. need (IsBelowAs (range c)) (IsBelowAs own) (M c low) (M c high) (a_truth (compared o (elem_in (M a low)) (elem_in (M c low)))) (a_truth (compared o (elem_in (M a high)) (elem_in (M c high)))) mode.Fixed
        (λ k i. a_truth (compared o (elem_in (h i)) (elem_in (k i)))) (K c) (parts.1.0 vs (rest_typed _ _ typed) low high b))
        (K a) (parts.0 vs (first_typed _ _ typed) low high b)
    by_form vs low high b own (ExprKind-F.Member e from) lawful_own (d, sets, is_own, is_from, is_e) typed parts made1 made2 =
        let te = first_typed _ _ typed in let tf = rest_typed _ _ typed in
        let pf = value_of vs low high b from d is_from tf parts.1.0 in
        subst (λ r. Goal low high (ExprKind-F.Member e from) r) (sym is_own)
        (subst (λ r. Moves (needs (K e) (cond (is_must (domain_in r)) (turned (K from)) (K from))) (IsBelowAs truths) (form_meaning spec (domain_in truths) (given_layer M (ExprKind-F.Member e from)) low) (form_meaning spec (domain_in truths) (given_layer M (ExprKind-F.Member e from)) high)) (sym is_from)
        (truth_back (needs (K e) (cond (is_must d) (turned (K from)) (K from))) _ _
        (member_moves d sets (elem_in (M e low)) (elem_in (M e high)) (value_in (M from low)) (value_in (M from high)) pf.1 pf.2 (K e) (K from) (elem_of vs low high b e (sort_in d) is_e te parts.0) pf.0)))
    by_form vs low high b own (ExprKind-F.And a c) lawful_own (is_own, is_a, is_c) typed parts made1 made2 =
        subst (λ r. Goal low high (ExprKind-F.And a c) r) (sym is_own)
        (truth_back (combined (K a) (K c)) _ _ (combine Implies Implies Implies (truth_in (M a low)) (truth_in (M a high)) (truth_in (M c low)) (truth_in (M c high)) _ _ (λ e. e) (λ e. e)
        (and_rises (truth_in (M a low)) (truth_in (M a high)) (truth_in (M c low)) (truth_in (M c high))) (and_rises (truth_in (M a high)) (truth_in (M a low)) (truth_in (M c high)) (truth_in (M c low))) (λ h k i. h i && k i)
        (K a) (K c) (truth_of vs low high b a is_a (first_typed _ _ typed) parts.0) (truth_of vs low high b c is_c (rest_typed _ _ typed) parts.1.0)))
    by_form vs low high b own (ExprKind-F.Or a c) lawful_own (is_own, is_a, is_c) typed parts made1 made2 =
        subst (λ r. Goal low high (ExprKind-F.Or a c) r) (sym is_own)
        (truth_back (combined (K a) (K c)) _ _ (combine Implies Implies Implies (truth_in (M a low)) (truth_in (M a high)) (truth_in (M c low)) (truth_in (M c high)) _ _ (λ e. e) (λ e. e)
        (or_rises (truth_in (M a low)) (truth_in (M a high)) (truth_in (M c low)) (truth_in (M c high))) (or_rises (truth_in (M a high)) (truth_in (M a low)) (truth_in (M c high)) (truth_in (M c low))) (λ h k i. h i || k i)
        (K a) (K c) (truth_of vs low high b a is_a (first_typed _ _ typed) parts.0) (truth_of vs low high b c is_c (rest_typed _ _ typed) parts.1.0)))
    by_form vs low high b own (ExprKind-F.Not a) lawful_own (is_own, is_a) typed parts made1 made2 =
        subst (λ r. Goal low high (ExprKind-F.Not a) r) (sym is_own)
        (truth_back (turned (K a)) _ _ (turn Implies Implies (truth_in (M a low)) (truth_in (M a high)) _ _ (not_falls (truth_in (M a low)) (truth_in (M a high))) (not_falls (truth_in (M a high)) (truth_in (M a low))) (λ h i. not (h i))
        (K a) (truth_of vs low high b a is_a typed parts.0)))
    by_form vs low high b own (ExprKind-F.If c a e) lawful_own (is_c, is_a, is_e) typed parts made1 made2 =
        let others = rest_typed _ _ typed in
        branches vs low high b own c a e lawful_own (first_typed _ _ typed) (first_typed _ _ others) (rest_typed _ _ others) parts.0 parts.1.0 parts.1.1.0 is_c is_a is_e (is_bottom_word (expr_layer e)) refl
    by_form vs low high b own (ExprKind-F.Bind x a e) lawful_own (s, t, is_own, is_a, is_e) typed parts made1 made2 =
        let ta = first_typed _ _ typed in let te = rest_typed _ _ typed in
        let same : s ≡ elements_of (range a) = sym (ap elements_of is_a) in
        let is_flat : range a ≡ values (flat (elements_of (range a))) = is_a ∙ ap (λ s. values (flat s)) same in
        let pa = value_of vs low high b a (flat (elements_of (range a))) is_flat ta parts.0 in
        let inner = λ (v : Sorted (elements_of (range a))).
        value_of (and_variable vs x (elements_of (range a))) (with_bound low x v.0) (with_bound high x v.0) (between_more vs low high x (elements_of (range a)) b v) e (flat t) is_e te parts.1.0 in
        subst (λ r. Goal low high (ExprKind-F.Bind x a e) r) (sym is_own)
        (value_back (flat t) (combined (K a) (K e)) _ _
        (bind_moves (elements_of (range a)) t (λ v. value_in (M e (with_bound low x v))) (λ v. value_in (M e (with_bound high x v))) (value_in (M a low)) (value_in (M a high)) pa.1 pa.2
        (subst (λ r. IsMade low (ExprKind-F.Bind x a e) r) is_own made1) (subst (λ r. IsMade high (ExprKind-F.Bind x a e) r) is_own made2) (λ v. (inner v).1) (K a) (K e) pa.0 (λ v. (inner v).0)))
    by_form vs low high b own (ExprKind-F.Choose e x from None) lawful_own (d, u, alike, is_own, is_from, is_e, is_c) typed parts made1 made2 =
        let te = first_typed _ _ typed in let tf = rest_typed _ _ typed in
        let pf = value_of vs low high b from u is_from tf parts.1.0 in
        let among = λ (v : Sorted (sort_in u)). between_more vs low high x (elements_of (range from)) b (v.0, subst (λ s. IsOfSort s v.0) (sym (ap elements_of is_from)) v.1) in
        subst (λ r. Goal low high (ExprKind-F.Choose e x from None) r) (sym is_own)
        (value_back d (needs (K e) (combined (K from) (cond (is_must d) (turned mode.Fixed) mode.Fixed))) _ _
        (choose_moves d u alike (λ v. elem_in (M e (with_bound low x v))) (λ v. elem_in (M e (with_bound high x v))) (λ v. true) (λ v. true) (value_in (M from low)) (value_in (M from high)) pf.1 pf.2
        (subst (λ r. IsMade low (ExprKind-F.Choose e x from None) r) is_own made1) (subst (λ r. IsMade high (ExprKind-F.Choose e x from None) r) is_own made2) (K e) (K from) mode.Fixed
        (λ v. elem_of (and_variable vs x (elements_of (range from))) (with_bound low x v.0) (with_bound high x v.0) (among v) e (sort_in d) is_e te parts.0) pf.0 (λ v. refl)))
    by_form vs low high b own (ExprKind-F.Choose e x from (Some c)) lawful_own (d, u, alike, is_own, is_from, is_e, is_c) typed parts made1 made2 =
        let te = first_typed _ _ typed in let others = rest_typed _ _ typed in let tf = first_typed _ _ others in let tc = rest_typed _ _ others in
        let pf = value_of vs low high b from u is_from tf parts.1.0 in
        let among = λ (v : Sorted (sort_in u)). between_more vs low high x (elements_of (range from)) b (v.0, subst (λ s. IsOfSort s v.0) (sym (ap elements_of is_from)) v.1) in
        subst (λ r. Goal low high (ExprKind-F.Choose e x from (Some c)) r) (sym is_own)
        (value_back d (needs (K e) (combined (K from) (cond (is_must d) (turned (K c)) (K c)))) _ _
        (choose_moves d u alike (λ v. elem_in (M e (with_bound low x v))) (λ v. elem_in (M e (with_bound high x v))) (λ v. truth_in (M c (with_bound low x v))) (λ v. truth_in (M c (with_bound high x v)))
        (value_in (M from low)) (value_in (M from high)) pf.1 pf.2
        (subst (λ r. IsMade low (ExprKind-F.Choose e x from (Some c)) r) is_own made1) (subst (λ r. IsMade high (ExprKind-F.Choose e x from (Some c)) r) is_own made2) (K e) (K from) (K c)
        (λ v. elem_of (and_variable vs x (elements_of (range from))) (with_bound low x v.0) (with_bound high x v.0) (among v) e (sort_in d) is_e te parts.0) pf.0
        (λ v. truth_of (and_variable vs x (elements_of (range from))) (with_bound low x v.0) (with_bound high x v.0) (among v) c is_c tc parts.1.1.0)))
    by_form vs low high b own (ExprKind-F.Fst a) lawful_own form typed parts made1 made2 =
        let p = fact vs a typed parts.0 low high b in first_moves own (range a) form (K a) (M a low) (M a high) p.low p.high p.moves
    by_form vs low high b own (ExprKind-F.Snd a) lawful_own form typed parts made1 made2 =
        let p = fact vs a typed parts.0 low high b in second_moves own (range a) form (K a) (M a low) (M a high) p.low p.high p.moves
    by_form vs low high b own (ExprKind-F.Both a c) lawful_own form typed parts made1 made2 =
        let p = fact vs a (first_typed _ _ typed) parts.0 low high b in let q = fact vs c (rest_typed _ _ typed) parts.1.0 low high b in
        pair_moves own (range a) (range c) form (lawful a) (lawful c) (K a) (K c) (M a low) (M a high) (M c low) (M c high) p.low p.high q.low p.moves q.moves
    by_form vs low high b own (ExprKind-F.SetOf es) lawful_own form typed parts made1 made2 =
        fixed_needed (IsBelowAs own) _ _ (all_combined (modes_of (map (λ e. part e (K e)) es)))
        (λ h. ap (λ xs. a_value (value.Set (set_of xs))) (same_elems vs low high b es typed parts h))
    by_form vs low high b own (ExprKind-F.Arith o a c) lawful_own form typed parts made1 made2 =
        need (IsBelowAs (range a)) (IsBelowAs own) (M a low) (M a high) _ _ (needs (K c) mode.Fixed)
        (λ h. need (IsBelowAs (range c)) (IsBelowAs own) (M c low) (M c high) _ _ mode.Fixed
        (λ k i. an_element (elem.Int (arith_value o (number_in (h i)) (number_in (k i))))) (K c) (parts.1.0 vs (rest_typed _ _ typed) low high b))
        (K a) (parts.0 vs (first_typed _ _ typed) low high b)
    by_form vs low high b own (ExprKind-F.Minus a) lawful_own form typed parts made1 made2 =
        need (IsBelowAs (range a)) (IsBelowAs own) (M a low) (M a high) _ _ mode.Fixed (ap (λ m. an_element (elem.Int (int_wrapping_neg w64 (number_in m))))) (K a) (parts.0 vs typed low high b)
    by_form vs low high b own (ExprKind-F.Call f args) lawful_own (d, named, is_own, have) typed parts made1 made2 =
        subst (λ r. Goal low high (ExprKind-F.Call f args) r) (sym is_own)
        (value_back (listed_in spec d.result) (all_combined (modes_of (map (λ e. part e (K e)) args))) _ _
        (raise (AreBelow spec d.args) (IsBelowIn (listed_in spec d.result)) _ _ _ _
        (λ h. subst (λ o. IsBelowIn (listed_in spec d.result) (call_value spec o (values_given low (map (λ e. part e (M e)) args))) (call_value spec o (values_given high (map (λ e. part e (M e)) args)))) (sym named) (monotone f d named _ _ h))
        (λ h. subst (λ o. IsBelowIn (listed_in spec d.result) (call_value spec o (values_given high (map (λ e. part e (M e)) args))) (call_value spec o (values_given low (map (λ e. part e (M e)) args)))) (sym named) (monotone f d named _ _ h))
        (ap (call_value spec (function_named spec f)))
        (all_combined (modes_of (map (λ e. part e (K e)) args))) (arguments_move vs low high b d.args args have typed parts)))
    by_form vs low high b own (ExprKind-F.MapOf ks ws) lawful_own (s, d, is_own, are_keys, are_values) typed parts made1 made2 =
        let typed_parts = split_typed (map (held vs) ks) (map (held vs) ws) typed in
        let known_parts = split_all Follows ks ws parts in
        let lawful_d : IsLawful d = subst (λ r. IsLawful (domain_in r)) is_own lawful_own in
        subst (λ r. Goal low high (ExprKind-F.MapOf ks ws) r) (sym is_own)
        (value_back (map_to s d) (needs (all_combined (modes_of (map (λ e. part e (K e)) ks))) (all_combined (modes_of (map (λ e. part e (K e)) ws)))) _ _
        (list_needed (IsBelowIn (map_to s d)) _ _ (all_combined (modes_of (map (λ e. part e (K e)) ks))) (all_combined (modes_of (map (λ e. part e (K e)) ws)))
        (λ fixed.
        let same : elems_given low (map (λ e. part e (M e)) ks) ≡ elems_given high (map (λ e. part e (M e)) ks) = same_elems vs low high b ks typed_parts.0 known_parts.0 fixed in
        let vs1 = values_given low (map (λ e. part e (M e)) ws) in let vs2 = values_given high (map (λ e. part e (M e)) ws) in
        let ks1 = elems_given low (map (λ e. part e (M e)) ks) in
        subst (λ ks2. Moves (all_combined (modes_of (map (λ e. part e (K e)) ws))) (IsBelowIn (map_to s d)) (map_value d lawful_d ks1 vs1) (map_value d lawful_d ks2 vs2)) same
        (raise (AllBelow d lawful_d) (IsBelowIn (map_to s d)) vs1 vs2 (map_value d lawful_d ks1 vs1) (map_value d lawful_d ks1 vs2) (made_rises d lawful_d s ks1 vs1 vs2) (made_rises d lawful_d s ks1 vs2 vs1)
        (ap (map_value d lawful_d ks1)) (all_combined (modes_of (map (λ e. part e (K e)) ws))) (values_move vs low high b d lawful_d ws are_values typed_parts.1 known_parts.1)))))

    -- what is known of the parts is known of the whole
    by_its_parts : (e : Expr) → AllByRecursion Follows (parts_of e) → Follows e
    by_its_parts e parts vs typed low high b =
        let inner = inner_typed (held vs e) typed in
        let is_mode : K e ≡ form_mode range (domain_in (range e)) (given_layer K (expr_layer e)) = by_parts_out (λ e layer. form_mode range (domain_in (range e)) layer) e in
        let is_sense : M e ≡ form_meaning spec (domain_in (range e)) (given_layer M (expr_layer e)) = by_parts_out (λ e layer. form_meaning spec (domain_in (range e)) layer) e in
        let made : (at : Situation) → Suits usable vs at → IsMade at (expr_layer e) (range e) = λ at suits. subst (λ (s : Sense). IsIn (range e) (s at)) is_sense (sound vs e typed at suits) in
        subst (λ m. Moves m (IsBelowAs (range e)) (M e low) (M e high)) (sym is_mode)
        (subst (λ (s : Sense). Moves (form_mode range (domain_in (range e)) (given_layer K (expr_layer e))) (IsBelowAs (range e)) (s low) (s high)) (sym is_sense)
        (by_form vs low high b (range e) (expr_layer e) (lawful e) inner.0 inner.1 parts (made low b.suits_low) (made high b.suits_high)))

    -- each expression follows what it reads by its mode
    pub all_follow : (e : Expr) → Follows e
    all_follow = by_induction Follows by_its_parts
