-- Each form without faults has the ranges that its row asks, where each part has the range of the type that it has.
use Rattle.std.proofs.Common.{◌≡◌, ℕ, Bool, true, false, List, [], ◌∷◌, ◌++◌, cond, length, map, arith, Option, Some, None, refl, sym, ap, subst, ◌∙◌, inr, find, bytes_eq}
use Rattle.std.specs.Prelude.{◌==◌, IsTrue}
use Rattle.std.specs.List.{AllByRecursion}
use Rattle.std.specs.Option.{option_map}
use Rattle.std.proofs.lemmas.Bool.{true≢false}
use Rattle.std.proofs.lemmas.Bool.Decides.{Decides-eqb}
use Rattle.flow_syntax.specs.declared.expr.CompareOp.TheVariants as compare
use Rattle.flow_syntax.specs.declared.expr.Expr.{Expr}
use Rattle.flow_syntax.specs.declared.expr.ExprKind.TheOpen.{ExprKind-F}
use Rattle.flow_syntax.specs.declared.expr.SetOp.{SetOp}
use Rattle.flow_syntax.specs.declared.expr.SetOp.TheVariants as op
use Rattle.flow_syntax.specs.declared.expr.Side.{Side}
use Rattle.flow_syntax.specs.declared.fault.SpecFaultKind.{SpecFaultKind}
use Rattle.flow_syntax.specs.declared.fault.SpecFaultKind.TheVariants as kinds
use Rattle.flow_syntax.specs.declared.property.PropDecl.{PropDecl}
use Rattle.flow_syntax.specs.declared.spec.Named.{Named}
use Rattle.flow_syntax.specs.declared.spec.Spec.{Spec}
use Rattle.flow_syntax.specs.declared.tables.FunctionDecl.{FunctionDecl}
use Rattle.flow_syntax.specs.declared.tables.TableDecl.{TableDecl}
use Rattle.flow_syntax.specs.Expressions.{ExprLayer}
use Rattle.flow_syntax.specs.ExprFaults.{IsMiscounted, IsMisnamed}
use Rattle.flow_syntax.specs.Occurrences.{Occurrence, occurrence, parts_in, form_shape, arguments, declared_arguments, optional, expected_truth, chosen_sort, compared_left}
use Rattle.flow_syntax.specs.Scopes.{Scope, can_read, variable_named, with_variable}
use Rattle.flow_syntax.specs.Inferred.{Inferred, is, not_inferable, faulty, inferred, inferred_parts, form_inferred, function_named, property_named, property_inferred, result_inferred, constant_named, name_inferred, lattice_with, enum_with, first_of, second_of, set_sort, flat_sort, key_sort, value_of, only, always_inferred, operands}
use Rattle.flow_syntax.specs.Types.{Sort, int_sort, str_sort, pair_sort, Typing, lattice, element, truth, lattice_of, may, must, flat, map_to, pair_of, table, Shape, anything, any_element, any_lattice, any_set, any_may, any_must, any_flat, any_map, any_pair, has_shape}
use Rattle.flow_syntax.specs.Expected.{Expected, known, unconstrained, if_inferred_in, IsMismatch, expected_element, expected_source, expected_flat, expected_key, expected_value, expected_first, expected_second, expected_same, expected_left, expected_right, expected_map, expected_updated_key, expected_updated_value, same_type_as, known_sort}
use Rattle.expr_typing.proofs.Clean.{passed}
use Rattle.expr_typing.proofs.Shown.{HasSort, IsSorted, IsSound, inferred_part}
use Rattle.expr_typing.proofs.Typed.{IsTyped, not_inferable_part, only_inferred, always_inferred_of, inferred_typed}
use Rattle.expr_meaning.specs.Ranges.{Range, values, elements, truths, range_of}
use Rattle.value_domains.specs.Domains.{Domain, domain_of, listed, has_element, table_named}
use Rattle.value_domains.specs.Domains as dom
use Rattle.expr_meaning.specs.SpecRanges.{domains_of, property_domain}
use Rattle.expr_meaning.specs.Meaning.{Usable, property_number}
use Rattle.expr_meaning.specs.Typing.{Variable, IsFirst, IsSecond, IsPair, of_values, of_elements, IsSets, of_may, of_must, AreAlike, both_may, both_must, sort_in, IsOperand, IsTruth, listed_in, HaveArguments, HasForm}
use Rattle.expr_meaning.proofs.TypedParts.{split_all}
use Rattle.typed_bodies.proofs.Names.{in_scope, variable_found, name_right, property_at}
use Rattle.expr_typing.proofs.Single.{pair_parts}

-- the types of a group, by their forms
is_element : (t : Typing) → has_shape any_element t ≡ true → (s : Sort) × (t ≡ element s)
is_element (element s) h = (s, refl)
is_element t h = absurd (true≢false (sym h))

pub is_may : (t : Typing) → has_shape any_may t ≡ true → (s : Sort) × (t ≡ lattice (may s))
is_may (lattice (may s)) h = (s, refl)
is_may t h = absurd (true≢false (sym h))

pub is_must : (t : Typing) → has_shape any_must t ≡ true → (s : Sort) × (t ≡ lattice (must s))
is_must (lattice (must s)) h = (s, refl)
is_must t h = absurd (true≢false (sym h))

pub is_flat : (t : Typing) → has_shape any_flat t ≡ true → (s : Sort) × (t ≡ lattice (flat s))
is_flat (lattice (flat s)) h = (s, refl)
is_flat t h = absurd (true≢false (sym h))

is_map : (t : Typing) → has_shape any_map t ≡ true → (s : Sort) × (l : _) × (t ≡ lattice (map_to s l))
is_map (lattice (map_to s l)) h = (s, l, refl)
is_map t h = absurd (true≢false (sym h))

-- what an expected type is of which the type is known
left_is : (shape : Shape) (t : Typing) → ¬ (has_shape shape t ≡ false) → expected_left shape (known t) ≡ known t
left_is shape t h = ap (λ b. cond b (known t) (if_inferred_in shape)) (passed (has_shape shape t) h)

right_is : (shape : Shape) (t : Typing) (u : Inferred) → ¬ (has_shape shape t ≡ false) → expected_right shape (known t) u ≡ known t
right_is shape t u h = ap (λ b. cond b (known t) unconstrained) (passed (has_shape shape t) h)

same_is : (shape : Shape) (t : Typing) → ¬ (has_shape shape t ≡ false) → expected_same shape (known t) ≡ known t
same_is shape t h = ap (λ b. cond b (known t) unconstrained) (passed (has_shape shape t) h)

like_is : (shape : Shape) (t : Typing) → has_shape shape t ≡ true → same_type_as shape (is t) ≡ known t
like_is shape t h = ap (λ b. cond b (known t) unconstrained) h

pair_at : (own p q r v w : Range) → own ≡ r → p ≡ v → q ≡ w → IsPair r v w → IsPair own p q
pair_at own p q r v w e f g h = subst (λ (x : Range × (Range × Range)). IsPair x.0 x.1.0 x.1.1) (λ i. (sym e i, (sym f i, sym g i))) h

sorted_all : (vs : List Variable) → AllByRecursion HasSort (map in_scope vs)
sorted_all [] = tt
sorted_all (v ∷ vs) = ((v.sort, refl), sorted_all vs)

module _ (spec : Spec) (range : Expr → Range) (has : ℕ → Side → Bool) where
  abbrev pub R : Typing → Range
  R t = range_of spec.lattices t

  -- what can be used
  abbrev pub usable : Usable
  usable = record { domain = domains_of spec; has = has; names = λ x. true }

  -- this is the range of the type that is expected, and of the one that is inferred
  pub record IsRangeOf (w : Expected) (u : Inferred) (own : Range) : Type 0 where
    pub from_expected : (t : Typing) → w ≡ known t → own ≡ R t
    pub from_inferred : (t : Typing) → u ≡ is t → own ≡ R t

  -- an expression has the range of its type
  abbrev pub IsRanged : Occurrence → Type 0
  IsRanged q = IsRangeOf q.expected (inferred spec q.scope q.expr) (range q.expr)

  -- these are the variables of a scope, and the sides at which can be read there
  pub record StandsIn (s : Scope) (vs : List Variable) : Type 0 where
    pub variables : s.variables ≡ map in_scope vs
    pub sides : (x : List ℕ) (d : PropDecl) (side : Side) → property_named spec x ≡ Some d → can_read s side ≡ true → IsTrue (has (property_number spec x) side)

  pub sorted_scope : (s : Scope) (vs : List Variable) → StandsIn s vs → IsSorted s
  sorted_scope s vs stands = subst (AllByRecursion HasSort) (sym stands.variables) (sorted_all vs)

  -- -- forms of which nothing is inferred

  a_lattice : (own : Range) (t : Typing) → ¬ (has_shape any_lattice t ≡ false) → own ≡ R t → (d : Domain) × (own ≡ values d)
  a_lattice own (lattice l) h e = (domain_of spec.lattices l, e)
  a_lattice own t h e = absurd (h refl)

  a_flat : (own : Range) (t : Typing) → ¬ (has_shape any_flat t ≡ false) → own ≡ R t → (s : Sort) × (own ≡ values (dom.flat s))
  a_flat own (lattice (flat s)) h e = (s, e)
  a_flat own t h e = absurd (h refl)

  a_must : (own : Range) (t : Typing) → ¬ (has_shape any_must t ≡ false) → own ≡ R t → (s : Sort) × (own ≡ values (dom.must s))
  a_must own (lattice (must s)) h e = (s, e)
  a_must own t h e = absurd (h refl)

  flat_right : (own : Range) (s : Scope) (e : Expr) (t : Typing) → ¬ (has_shape any_flat t ≡ false) → IsRangeOf (known t) not_inferable own → IsRanged (occurrence s (expected_flat (known t)) e) → (k : Sort) × (own ≡ values (dom.flat k)) × (range e ≡ elements k)
  flat_right own s e (lattice (flat k)) h r part = (k, r.from_expected _ refl, part.from_expected (element k) refl)
  flat_right own s e t h r part = absurd (h refl)

  each_right : (s : Scope) (w : Expected) (t : Typing) → w ≡ known t → (es : List Expr) → AllByRecursion IsRanged (map (occurrence s w) es) → AllByRecursion (λ e. range e ≡ R t) es
  each_right s w t k [] h = tt
  each_right s w t k (e ∷ es) h = (h.0.from_expected t k, each_right s w t k es h.1)

  set_right : (own : Range) (s : Scope) (es : List Expr) (t : Typing) → ¬ (has_shape any_set t ≡ false) → IsRangeOf (known t) not_inferable own → AllByRecursion IsRanged (map (occurrence s (expected_element (known t))) es)
      → (d : Domain) × IsSets d × (own ≡ values d) × AllByRecursion (λ e. range e ≡ elements (sort_in d)) es
  set_right own s es (lattice (may k)) h r parts = (dom.may k, of_may k, r.from_expected _ refl, each_right s (known (element k)) (element k) refl es parts)
  set_right own s es (lattice (must k)) h r parts = (dom.must k, of_must k, r.from_expected _ refl, each_right s (known (element k)) (element k) refl es parts)
  set_right own s es t h r parts = absurd (h refl)

  map_right : (own : Range) (s : Scope) (ks vs : List Expr) (t : Typing) → ¬ (has_shape any_map t ≡ false) → IsRangeOf (known t) not_inferable own
      → AllByRecursion IsRanged (map (occurrence s (expected_key (known t))) ks ++ map (occurrence s (expected_value (known t))) vs)
      → (k : Sort) × (d : Domain) × (own ≡ values (dom.map_to k d)) × AllByRecursion (λ e. range e ≡ elements k) ks × AllByRecursion (λ e. range e ≡ values d) vs
  map_right own s ks vs (lattice (map_to k l)) h r parts =
      let both = split_all IsRanged (map (occurrence s (known (element k))) ks) (map (occurrence s (known (lattice l))) vs) parts in
      (k, domain_of spec.lattices l, r.from_expected _ refl, each_right s (known (element k)) (element k) refl ks both.0, each_right s (known (lattice l)) (lattice l) refl vs both.1)
  map_right own s ks vs t h r parts = absurd (h refl)

  condition_right : (s : Scope) (c : Option Expr) → AllByRecursion IsRanged (optional s expected_truth c) → IsTruth range c
  condition_right s None h = tt
  condition_right s (Some c) h = h.0.from_expected truth refl

  choose_right : (own : Range) (s here : Scope) → IsSorted s → (e from : Expr) (c : Option Expr) (t : Typing) → ¬ (has_shape any_set t ≡ false) → IsRangeOf (known t) not_inferable own → IsSound spec (occurrence s (expected_source (known t)) from)
      → IsRanged (occurrence here (expected_element (known t)) e) → IsRanged (occurrence s (expected_source (known t)) from) → AllByRecursion IsRanged (optional here expected_truth c)
      → (d : Domain) × (u : Domain) × AreAlike d u × (own ≡ values d) × (range from ≡ values u) × (range e ≡ elements (sort_in d)) × IsTruth range c
  choose_right own s here sorted e from c (lattice (may k)) h r sound re rf rc =
      let t = inferred_part spec s any_may from sound sorted in let m = is_may t.0 t.2 in
      (dom.may k, dom.may m.0, both_may k m.0, r.from_expected _ refl, rf.from_inferred (lattice (may m.0)) (t.1 ∙ ap is m.1), re.from_expected (element k) refl, condition_right here c rc)
  choose_right own s here sorted e from c (lattice (must k)) h r sound re rf rc =
      let t = inferred_part spec s any_must from sound sorted in let m = is_must t.0 t.2 in
      (dom.must k, dom.must m.0, both_must k m.0, r.from_expected _ refl, rf.from_inferred (lattice (must m.0)) (t.1 ∙ ap is m.1), re.from_expected (element k) refl, condition_right here c rc)
  choose_right own s here sorted e from c t h r sound re rf rc = absurd (h refl)

  bind_right : (own : Range) (here : Scope) (b : Expr) (t : Typing) → ¬ (has_shape any_flat t ≡ false) → IsRangeOf (known t) not_inferable own → IsRanged (occurrence here (expected_same any_flat (known t)) b) → (k : Sort) × (own ≡ values (dom.flat k)) × (range b ≡ values (dom.flat k))
  bind_right own here b (lattice (flat k)) h r part = (k, r.from_expected _ refl, part.from_expected (lattice (flat k)) refl)
  bind_right own here b t h r part = absurd (h refl)

  branch_right : (own : Range) (s : Scope) (a b : Expr) (t : Typing) → ¬ (has_shape anything t ≡ false) → IsRangeOf (known t) not_inferable own → IsRanged (occurrence s (expected_same anything (known t)) a) → IsRanged (occurrence s (expected_same anything (known t)) b)
      → (range a ≡ own) × (range b ≡ own)
  branch_right own s a b t h r ra rb = (ra.from_expected t (same_is anything t h) ∙ sym (r.from_expected t refl), rb.from_expected t (same_is anything t h) ∙ sym (r.from_expected t refl))

  -- -- forms of which something is inferred

  pub property_right : (own : Range) (p : List ℕ) (o : Option PropDecl) → property_named spec p ≡ o → ¬ (o ≡ None) → ((t : Typing) → property_inferred o ≡ is t → own ≡ R t) → own ≡ values (domains_of spec (property_number spec p))
  property_right own p (Some d) e n infers = infers (lattice (lattice_of d.lattice)) refl ∙ ap (λ (o : Option PropDecl). values (property_domain spec.lattices o)) (sym (property_at spec.properties p d e))
  property_right own p None e n infers = absurd (n refl)

  side_right : (s : Scope) (vs : List Variable) → StandsIn s vs → (p : List ℕ) (side : Side) (o : Option PropDecl) → property_named spec p ≡ o → ¬ (o ≡ None) → can_read s side ≡ true → IsTrue (has (property_number spec p) side)
  side_right s vs st p side (Some d) e n can = st.sides p d side e can
  side_right s vs st p side None e n can = absurd (n refl)

  arguments_right : (s : Scope) (names : List Named) (es : List Expr) → length names ≡ length es → AllByRecursion IsRanged (arguments s names es) → HaveArguments spec range names es
  arguments_right s [] [] same h = tt
  arguments_right s (n ∷ names) [] same h = absurd (no same)
    where
      no : length (n ∷ names) ≡ 0 → ⊥
      no k = omega (arith, k)
  arguments_right s [] (e ∷ es) same h = absurd (no same)
    where
      no : 0 ≡ length (e ∷ es) → ⊥
      no k = omega (arith, k)
  arguments_right s (n ∷ names) (e ∷ es) same h = (h.0.from_expected _ refl, arguments_right s names es (omega (arith, same)) h.1)

  call_right : (own : Range) (s : Scope) (f : List ℕ) (args : List Expr) (o : Option FunctionDecl) → function_named spec f ≡ o → ¬ (o ≡ None) → ¬ IsMiscounted o args → ((t : Typing) → result_inferred o ≡ is t → own ≡ R t)
      → AllByRecursion IsRanged (arguments s (declared_arguments o) args)
      → (d : FunctionDecl) × (function_named spec f ≡ Some d) × (own ≡ values (listed_in spec d.result)) × HaveArguments spec range d.args args
  call_right own s f args (Some d) e n c infers parts = (
    d,
    e,
    infers (lattice (table d.result.text)) refl,
    arguments_right s d.args args ((Decides-eqb (length d.args) (length args)).0 (passed (length d.args == length args) (λ e. c (λ same. true≢false (sym ((Decides-eqb (length d.args) (length args)).1 same) ∙ e))))) parts,
  )
  call_right own s f args None e n c infers parts = absurd (n refl)

  first_right : (own : Range) (a : Expr) (u : Inferred) (t : Typing) → u ≡ is t → has_shape any_pair t ≡ true → ((x : Typing) → first_of u ≡ is x → own ≡ R x) → range a ≡ R t → IsFirst own (range a)
  first_right own a u (element (pair_sort x y)) e h infers is_a = subst (λ r. IsFirst r (range a)) (sym (infers (element x) (ap first_of e))) (subst (λ r. IsFirst (elements x) r) (sym is_a) (of_elements x y))
  first_right own a u (lattice (pair_of x y)) e h infers is_a =
      subst (λ r. IsFirst r (range a)) (sym (infers (lattice x) (ap first_of e))) (subst (λ r. IsFirst (values (domain_of spec.lattices x)) r) (sym is_a) (of_values (domain_of spec.lattices x) (domain_of spec.lattices y)))
  first_right own a u t e h infers is_a = absurd (true≢false (sym h))

  second_right : (own : Range) (a : Expr) (u : Inferred) (t : Typing) → u ≡ is t → has_shape any_pair t ≡ true → ((x : Typing) → second_of u ≡ is x → own ≡ R x) → range a ≡ R t → IsSecond own (range a)
  second_right own a u (element (pair_sort x y)) e h infers is_a = subst (λ r. IsSecond r (range a)) (sym (infers (element y) (ap second_of e))) (subst (λ r. IsSecond (elements y) r) (sym is_a) (of_elements x y))
  second_right own a u (lattice (pair_of x y)) e h infers is_a =
      subst (λ r. IsSecond r (range a)) (sym (infers (lattice y) (ap second_of e))) (subst (λ r. IsSecond (values (domain_of spec.lattices y)) r) (sym is_a) (of_values (domain_of spec.lattices x) (domain_of spec.lattices y)))
  second_right own a u t e h infers is_a = absurd (true≢false (sym h))

  both_known : (own : Range) (s : Scope) (a b : Expr) (t : Typing) → ¬ (has_shape any_pair t ≡ false) → own ≡ R t → IsRanged (occurrence s (expected_first (known t)) a) → IsRanged (occurrence s (expected_second (known t)) b) → IsPair own (range a) (range b)
  both_known own s a b (element (pair_sort x y)) h e ra rb = pair_at _ _ _ _ _ _ e (ra.from_expected (element x) refl) (rb.from_expected (element y) refl) (of_elements x y)
  both_known own s a b (lattice (pair_of x y)) h e ra rb = pair_at _ _ _ _ _ _ e (ra.from_expected (lattice x) refl) (rb.from_expected (lattice y) refl) (of_values (domain_of spec.lattices x) (domain_of spec.lattices y))
  both_known own s a b t h e ra rb = absurd (h refl)

  update_known : (own : Range) (s : Scope) (m k v : Expr) (u : Inferred) (t : Typing) → ¬ (has_shape any_map t ≡ false) → own ≡ R t → IsRanged (occurrence s (expected_map (known t)) m) → IsRanged (occurrence s (expected_updated_key (known t) u) k) → IsRanged (occurrence s (expected_updated_value (known t) u) v)
      → (x : Sort) × (d : Domain) × (own ≡ values (dom.map_to x d)) × (range m ≡ values (dom.map_to x d)) × (range k ≡ elements x) × (range v ≡ values d)
  update_known own s m k v u (lattice (map_to x l)) h e rm rk rv = (x, domain_of spec.lattices l, e, rm.from_expected (lattice (map_to x l)) refl, rk.from_expected (element x) refl, rv.from_expected (lattice l) refl)
  update_known own s m k v u t h e rm rk rv = absurd (h refl)

  update_inferred : (own : Range) (s : Scope) (m k v : Expr) (x y z : Expected) (t : Typing) → inferred spec s m ≡ is t → has_shape any_map t ≡ true → y ≡ known_sort (key_sort (inferred spec s m)) → z ≡ same_type_as any_lattice (value_of (inferred spec s m))
      → ((u : Typing) → always_inferred (only any_map (inferred spec s m)) ≡ is u → own ≡ R u) → IsRanged (occurrence s x m) → IsRanged (occurrence s y k) → IsRanged (occurrence s z v)
      → (x : Sort) × (d : Domain) × (own ≡ values (dom.map_to x d)) × (range m ≡ values (dom.map_to x d)) × (range k ≡ elements x) × (range v ≡ values d)
  update_inferred own s m k v x y z t is_t inside is_y is_z infers rm rk rv =
      let q = is_map t inside in
      let e = is_t ∙ ap is q.2 in (
        q.0,
        domain_of spec.lattices q.1,
        infers (lattice (map_to q.0 q.1)) (ap (λ u. always_inferred (only any_map u)) e),
        rm.from_inferred (lattice (map_to q.0 q.1)) e,
        rk.from_expected (element q.0) (is_y ∙ ap (λ u. known_sort (key_sort u)) e),
        rv.from_expected (lattice q.1) (is_z ∙ ap (λ u. same_type_as any_lattice (value_of u)) e),
      )

  pub sets_of : (t : Typing) → has_shape any_set t ≡ true → (d : Domain) × IsSets d × (R t ≡ values d) × (set_sort (is t) ≡ Some (sort_in d))
  sets_of (lattice (may s)) h = (dom.may s, of_may s, refl, refl)
  sets_of (lattice (must s)) h = (dom.must s, of_must s, refl, refl)
  sets_of t h = absurd (true≢false (sym h))

  operand_of : (o : SetOp) (t : Typing) → has_shape (operands o) t ≡ true → (d : Domain) × IsOperand o d × (R t ≡ values d)
  operand_of op.Join (lattice l) h = (domain_of spec.lattices l, tt, refl)
  operand_of op.Join t h = absurd (true≢false (sym h))
  operand_of o t h = let q = sets_of t h in (q.0, q.1, q.2)

  compared_right_as : (own : Range) (s : Scope) (a b : Expr) → IsSorted s → IsSound spec (occurrence s (compared_left compare.Eq) a) → IsRanged (occurrence s (compared_left compare.Eq) a) → IsRanged (occurrence s (same_type_as any_element (inferred spec s a)) b)
      → own ≡ truths → (k : Sort) × (own ≡ truths) × (range a ≡ elements k) × (range b ≡ elements k)
  compared_right_as own s a b sorted sound ra rb e =
      let t = inferred_part spec s any_element a sound sorted in
      let q = is_element t.0 t.2 in
      (q.0, e, ra.from_inferred (element q.0) (t.1 ∙ ap is q.1), rb.from_expected (element q.0) (ap (same_type_as any_element) t.1 ∙ like_is any_element t.0 t.2 ∙ ap known q.1))

  -- the row of each form
  pub form_right : (s : Scope) (vs : List Variable) → StandsIn s vs → ((x : List ℕ) (d : TableDecl) → lattice_with spec x ≡ Some d → IsTrue (has_element (table_named spec.lattices d.name.text) x))
      → (w : Expected) (layer : ExprLayer) (own : Range) → IsRangeOf w (form_inferred spec s (inferred_parts spec s layer)) own → IsTyped w (form_inferred spec s (inferred_parts spec s layer)) → ¬ IsMismatch w (form_shape layer) (form_inferred spec s (inferred_parts spec s layer))
      → ((kind : SpecFaultKind) → ¬ IsMisnamed spec s layer kind) → AllByRecursion (IsSound spec) (parts_in spec s w layer) → AllByRecursion IsRanged (parts_in spec s w layer) → HasForm spec usable range vs own layer
  form_right s vs st li w (ExprKind-F.Int n) own r typed right names sound parts = r.from_inferred (element int_sort) refl
  form_right s vs st li w (ExprKind-F.Str x) own r typed right names sound parts = r.from_inferred (element str_sort) refl
  form_right s vs st li w (ExprKind-F.Truth b) own r typed right names sound parts = r.from_inferred truth refl
  form_right s vs st li w ExprKind-F.Bottom own r typed right names sound parts = not_inferable_part (λ v. IsRangeOf v not_inferable own → (d : Domain) × (own ≡ values d)) any_lattice (λ t h k. a_lattice own t h (k.from_expected t refl)) w typed right r
  form_right s vs st li w ExprKind-F.Top own r typed right names sound parts = not_inferable_part (λ v. IsRangeOf v not_inferable own → (k : Sort) × (own ≡ values (dom.flat k))) any_flat (λ t h k. a_flat own t h (k.from_expected t refl)) w typed right r
  form_right s vs st li w ExprKind-F.Unreached own r typed right names sound parts = not_inferable_part (λ v. IsRangeOf v not_inferable own → (k : Sort) × (own ≡ values (dom.must k))) any_must (λ t h k. a_must own t h (k.from_expected t refl)) w typed right r
  form_right s vs st li w (ExprKind-F.Ident x) own r typed right names sound parts =
      let e : variable_named s x ≡ option_map in_scope (find (λ v. bytes_eq x v.name) vs) = ap (find (λ v. bytes_eq x v.name)) st.variables ∙ variable_found x vs in
      (name_right spec x own (find (λ v. bytes_eq x v.name) vs) (enum_with spec x) (lattice_with spec x) (λ t k. r.from_inferred t (ap (λ o. name_inferred o (constant_named spec x)) e ∙ k)) (λ h. names kinds.Unbound (e ∙ h.0, h.1)) (li x), refl)
  form_right s vs st li w (ExprKind-F.Read p side) own r typed right names sound parts =
      (property_right own p (property_named spec p) refl (names kinds.Unknown) r.from_inferred, side_right s vs st p side (property_named spec p) refl (names kinds.Unknown) (passed (can_read s side) (names kinds.Unbound)))
  form_right s vs st li w (ExprKind-F.Call f args) own r typed right names sound parts = call_right own s f args (function_named spec f) refl (names kinds.Unknown) (names kinds.Arity) r.from_inferred parts
  form_right s vs st li w (ExprKind-F.MakeFlat e) own r typed right names sound parts =
      not_inferable_part (λ v. IsRangeOf v not_inferable own → IsRanged (occurrence s (expected_flat v) e) → (k : Sort) × (own ≡ values (dom.flat k)) × (range e ≡ elements k)) any_flat (flat_right own s e) w typed right r parts.0
  form_right s vs st li w (ExprKind-F.Fst a) own r typed right names sound parts =
      let t = inferred_part spec s any_pair a sound.0 (sorted_scope s vs st) in first_right own a (inferred spec s a) t.0 t.1 t.2 r.from_inferred (parts.0.from_inferred t.0 t.1)
  form_right s vs st li w (ExprKind-F.Snd a) own r typed right names sound parts =
      let t = inferred_part spec s any_pair a sound.0 (sorted_scope s vs st) in second_right own a (inferred spec s a) t.0 t.1 t.2 r.from_inferred (parts.0.from_inferred t.0 t.1)
  form_right s vs st li (known t) (ExprKind-F.Both a b) own r typed right names sound parts = both_known own s a b t (λ e. right (inr e)) (r.from_expected t refl) parts.0 parts.1.0
  form_right s vs st li w (ExprKind-F.Both a b) own r typed right names sound parts =
      let h = inferred_typed w _ (λ t e. cc) typed in
      let p = pair_parts (inferred spec s a) (inferred spec s b) h.0 h.1 in
      pair_at _ _ _ _ _ _ (r.from_inferred h.0 h.1 ∙ ap R p.4) (parts.0.from_inferred (element p.0) p.2) (parts.1.0.from_inferred (element p.1) p.3) (of_elements p.0 p.1)
  form_right s vs st li w (ExprKind-F.SetOf es) own r typed right names sound parts =
      not_inferable_part (λ v. IsRangeOf v not_inferable own → AllByRecursion IsRanged (map (occurrence s (expected_element v)) es) → (d : Domain) × IsSets d × (own ≡ values d) × AllByRecursion (λ e. range e ≡ elements (sort_in d)) es) any_set (set_right own s es) w typed right r parts
  form_right s vs st li w (ExprKind-F.Choose e x from c) own r typed right names sound parts =
      let here = with_variable s x (chosen_sort w (inferred spec s from)) in
      not_inferable_part (λ v. IsRangeOf v not_inferable own → IsSound spec (occurrence s (expected_source v) from) → IsRanged (occurrence here (expected_element v) e) → IsRanged (occurrence s (expected_source v) from) → AllByRecursion IsRanged (optional here expected_truth c)
      → (d : Domain) × (u : Domain) × AreAlike d u × (own ≡ values d) × (range from ≡ values u) × (range e ≡ elements (sort_in d)) × IsTruth range c) any_set
      (choose_right own s here (sorted_scope s vs st) e from c) w typed right r sound.1.0 parts.0 parts.1.0 parts.1.1
  form_right s vs st li w (ExprKind-F.MapOf ks ws) own r typed right names sound parts =
      not_inferable_part (λ v. IsRangeOf v not_inferable own → AllByRecursion IsRanged (map (occurrence s (expected_key v)) ks ++ map (occurrence s (expected_value v)) ws)
      → (k : Sort) × (d : Domain) × (own ≡ values (dom.map_to k d)) × AllByRecursion (λ e. range e ≡ elements k) ks × AllByRecursion (λ e. range e ≡ values d) ws) any_map (map_right own s ks ws) w typed right r parts
  form_right s vs st li w (ExprKind-F.Look m k) own r typed right names sound parts =
      let t = inferred_part spec s any_map m sound.0 (sorted_scope s vs st) in
      let q = is_map t.0 t.2 in
      let e = t.1 ∙ ap is q.2 in
      (q.0, domain_of spec.lattices q.1, r.from_inferred (lattice q.1) (ap value_of e), parts.0.from_inferred (lattice (map_to q.0 q.1)) e, parts.1.0.from_expected (element q.0) (ap (λ u. known_sort (key_sort u)) e))
  form_right s vs st li (known t) (ExprKind-F.Update m k v) own r typed right names sound parts = update_known own s m k v (inferred spec s m) t (λ e. right (inr e)) (r.from_expected t refl) parts.0 parts.1.0 parts.1.1.0
  form_right s vs st li w (ExprKind-F.Update m k v) own r typed right names sound parts =
      let h = only_inferred any_map (inferred spec s m) (always_inferred_of (only any_map (inferred spec s m)) (inferred_typed w _ (λ t e. cc) typed)) in
      update_inferred own s m k v _ _ _ h.0 h.1 h.2 refl refl r.from_inferred parts.0 parts.1.0 parts.1.1.0
  form_right s vs st li (known t) (ExprKind-F.Set2 o a b) own r typed right names sound parts =
      let q = operand_of o t (passed (has_shape (operands o) t) (λ e. right (inr e))) in
      (q.0, q.1, r.from_expected t refl ∙ q.2, parts.0.from_expected t (left_is (operands o) t (λ e. right (inr e))) ∙ q.2, parts.1.0.from_expected t (right_is (operands o) t (inferred spec s a) (λ e. right (inr e))) ∙ q.2)
  form_right s vs st li w (ExprKind-F.Set2 o a b) own r typed right names sound parts =
      let h = only_inferred (operands o) (inferred spec s a) (inferred_typed w _ (λ t e. cc) typed) in
      let q = operand_of o h.0 h.2 in
      (q.0, q.1, r.from_inferred h.0 (ap (only (operands o)) h.1 ∙ ap (λ b. cond b (is h.0) faulty) h.2) ∙ q.2, parts.0.from_inferred h.0 h.1 ∙ q.2, parts.1.0.from_expected h.0 (ap (same_type_as (operands o)) h.1 ∙ like_is (operands o) h.0 h.2) ∙ q.2)
  form_right s vs st li w (ExprKind-F.Arith o a b) own r typed right names sound parts = (r.from_inferred (element int_sort) refl, parts.0.from_expected _ refl, parts.1.0.from_expected _ refl)
  form_right s vs st li w (ExprKind-F.Minus a) own r typed right names sound parts = (r.from_inferred (element int_sort) refl, parts.0.from_expected _ refl)
  form_right s vs st li w (ExprKind-F.Compare compare.Eq a b) own r typed right names sound parts = compared_right_as own s a b (sorted_scope s vs st) sound.0 parts.0 parts.1.0 (r.from_inferred truth refl)
  form_right s vs st li w (ExprKind-F.Compare compare.Ne a b) own r typed right names sound parts = compared_right_as own s a b (sorted_scope s vs st) sound.0 parts.0 parts.1.0 (r.from_inferred truth refl)
  form_right s vs st li w (ExprKind-F.Compare compare.Lt a b) own r typed right names sound parts = (int_sort, r.from_inferred truth refl, parts.0.from_expected _ refl, parts.1.0.from_expected _ refl)
  form_right s vs st li w (ExprKind-F.Compare compare.Le a b) own r typed right names sound parts = (int_sort, r.from_inferred truth refl, parts.0.from_expected _ refl, parts.1.0.from_expected _ refl)
  form_right s vs st li w (ExprKind-F.Member e set) own r typed right names sound parts =
      let t = inferred_part spec s any_set set sound.1.0 (sorted_scope s vs st) in
      let q = sets_of t.0 t.2 in
      (q.0, q.1, r.from_inferred truth refl, parts.1.0.from_inferred t.0 t.1 ∙ q.2, parts.0.from_expected (element (sort_in q.0)) (ap (λ u. known_sort (set_sort u)) t.1 ∙ ap known_sort q.3))
  form_right s vs st li w (ExprKind-F.And a b) own r typed right names sound parts = (r.from_inferred truth refl, parts.0.from_expected truth refl, parts.1.0.from_expected truth refl)
  form_right s vs st li w (ExprKind-F.Or a b) own r typed right names sound parts = (r.from_inferred truth refl, parts.0.from_expected truth refl, parts.1.0.from_expected truth refl)
  form_right s vs st li w (ExprKind-F.Not a) own r typed right names sound parts = (r.from_inferred truth refl, parts.0.from_expected truth refl)
  form_right s vs st li w (ExprKind-F.Bind x a b) own r typed right names sound parts =
      let here = with_variable s x (flat_sort (inferred spec s a)) in
      let t = inferred_part spec s any_flat a sound.0 (sorted_scope s vs st) in
      let q = is_flat t.0 t.2 in
      let k = not_inferable_part (λ v. IsRangeOf v not_inferable own → IsRanged (occurrence here (expected_same any_flat v) b) → (k : Sort) × (own ≡ values (dom.flat k)) × (range b ≡ values (dom.flat k))) any_flat (bind_right own here b) w typed right r parts.1.0 in
      (q.0, k.0, k.1, parts.0.from_inferred (lattice (flat q.0)) (t.1 ∙ ap is q.1), k.2)
  form_right s vs st li w (ExprKind-F.If c a b) own r typed right names sound parts =
      let h = not_inferable_part (λ v. IsRangeOf v not_inferable own → IsRanged (occurrence s (expected_same anything v) a) → IsRanged (occurrence s (expected_same anything v) b) → (range a ≡ own) × (range b ≡ own)) anything (branch_right own s a b) w typed right r parts.1.0 parts.1.1.0 in
      (parts.0.from_expected truth refl, h.0, h.1)
