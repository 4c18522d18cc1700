-- The parts of an expression without faults that has a type have types too.
use Rattle.std.proofs.Common.{◌≡◌, ℕ, Bool, true, false, List, [], ◌∷◌, cond, length, map, arith, Option, Some, None, refl, sym, ap, ◌∙◌, inr}
use Rattle.std.specs.Prelude.{◌==◌}
use Rattle.std.specs.List.{AllByRecursion}
use Rattle.std.proofs.lemmas.Bool.{true≢false}
use Rattle.std.proofs.lemmas.Bool.Decides.{Decides-eqb}
use Rattle.flow_syntax.specs.declared.expr.CompareOp.{CompareOp}
use Rattle.flow_syntax.specs.declared.expr.CompareOp.TheVariants as compare
use Rattle.flow_syntax.specs.declared.expr.Expr.{Expr}
use Rattle.flow_syntax.specs.declared.expr.ExprKind.TheOpen.{ExprKind-F}
use Rattle.flow_syntax.specs.declared.fault.SpecFaultKind.{SpecFaultKind}
use Rattle.flow_syntax.specs.declared.fault.SpecFaultKind.TheVariants as kinds
use Rattle.flow_syntax.specs.declared.spec.Named.{Named}
use Rattle.flow_syntax.specs.declared.spec.Spec.{Spec}
use Rattle.flow_syntax.specs.declared.tables.FunctionDecl.{FunctionDecl}
use Rattle.flow_syntax.specs.Expressions.{ExprLayer}
use Rattle.flow_syntax.specs.ExprFaults.{IsMiscounted, IsMisnamed}
use Rattle.flow_syntax.specs.Occurrences.{Occurrence, occurrence, parts_in, form_shape, arguments, declared_arguments, optional, expected_truth, chosen_sort, compared_left, compared_right}
use Rattle.flow_syntax.specs.Scopes.{Scope, with_variable}
use Rattle.flow_syntax.specs.Inferred.{Inferred, is, not_inferable, faulty, inferred, inferred_parts, form_inferred, function_named, set_sort, flat_sort, key_sort, value_of, pair_inferred, only, always_inferred, operands}
use Rattle.flow_syntax.specs.Types.{Sort, pair_sort, Typing, lattice, element, truth, may, must, flat, map_to, pair_of, Shape, anything, any_element, any_lattice, any_set, any_may, any_must, any_flat, any_map, any_pair, has_shape}
use Rattle.flow_syntax.specs.Expected.{Expected, known, inferred_in, own_choice, if_inferred_in, unconstrained, IsMismatch, expected_element, expected_source, expected_flat, expected_key, expected_value, expected_first, expected_second, expected_same, expected_left, expected_right, same_type_as, known_sort}
use Rattle.expr_typing.proofs.Clean.{all_append, passed}
use Rattle.expr_typing.proofs.Shown.{HasSort, IsSorted, IsSound, inferred_part}

-- An expression has a type: the one that is expected of it, or the one that is inferred.
pub data IsTyped (w : Expected) (u : Inferred) : Type 0 where
  by_expected : (t : Typing) → w ≡ known t → IsTyped w u
  by_inferred : (t : Typing) → u ≡ is t → IsTyped w u

-- It is known which type is expected.
abbrev pub IsKnown : Expected → Type 0
IsKnown w = (t : Typing) × (w ≡ known t)

-- WHAT ISN'T INFERRED IS EXPECTED

not_typed : (w : Expected) → ((t : Typing) → ¬ (w ≡ known t)) → ¬ IsTyped w not_inferable
not_typed w h (by_expected t e) = h t e
not_typed w h (by_inferred t e) = cc

-- a form with types of a group, of which nothing is inferred
pub not_inferable_part : (P : Expected → Type 0) (form : Shape) → ((t : Typing) → ¬ (has_shape form t ≡ false) → P (known t)) → (w : Expected) → IsTyped w not_inferable → ¬ IsMismatch w form not_inferable → P w
not_inferable_part P form h (known t) typed fits = h t (λ e. fits (inr e))
not_inferable_part P form h (inferred_in shape) typed fits = absurd (not_typed (inferred_in shape) (λ t e. cc) typed)
not_inferable_part P form h (own_choice shape) typed fits = absurd (not_typed (own_choice shape) (λ t e. cc) typed)
not_inferable_part P form h (if_inferred_in shape) typed fits = absurd (not_typed (if_inferred_in shape) (λ t e. cc) typed)

element_known : (t : Typing) → ¬ (has_shape any_set t ≡ false) → IsKnown (expected_element (known t))
element_known (lattice (may s)) h = (element s, refl)
element_known (lattice (must s)) h = (element s, refl)
element_known t h = absurd (h refl)

flat_known : (t : Typing) → ¬ (has_shape any_flat t ≡ false) → IsKnown (expected_flat (known t))
flat_known (lattice (flat s)) h = (element s, refl)
flat_known t h = absurd (h refl)

key_known : (t : Typing) → ¬ (has_shape any_map t ≡ false) → IsKnown (expected_key (known t))
key_known (lattice (map_to k l)) h = (element k, refl)
key_known t h = absurd (h refl)

value_known : (t : Typing) → ¬ (has_shape any_map t ≡ false) → IsKnown (expected_value (known t))
value_known (lattice (map_to k l)) h = (lattice l, refl)
value_known t h = absurd (h refl)

first_known : (t : Typing) → ¬ (has_shape any_pair t ≡ false) → IsKnown (expected_first (known t))
first_known (element (pair_sort a b)) h = (element a, refl)
first_known (lattice (pair_of a b)) h = (lattice a, refl)
first_known t h = absurd (h refl)

second_known : (t : Typing) → ¬ (has_shape any_pair t ≡ false) → IsKnown (expected_second (known t))
second_known (element (pair_sort a b)) h = (element b, refl)
second_known (lattice (pair_of a b)) h = (lattice b, refl)
second_known t h = absurd (h refl)

-- the type of the whole is expected, which is in the group
pub same_known : (shape : Shape) (t : Typing) → ¬ (has_shape shape t ≡ false) → IsKnown (expected_same shape (known t))
same_known shape t h = (t, ap (λ b. cond b (known t) unconstrained) (passed (has_shape shape t) h))

pub left_same : (shape : Shape) (t : Typing) → ¬ (has_shape shape t ≡ false) → expected_left shape (known t) ≡ known t
left_same shape t h = ap (λ b. cond b (known t) (if_inferred_in shape)) (passed (has_shape shape t) h)

pub left_known : (shape : Shape) (t : Typing) → ¬ (has_shape shape t ≡ false) → IsKnown (expected_left shape (known t))
left_known shape t h = (t, left_same shape t h)

pub right_known : (shape : Shape) (t : Typing) (u : Inferred) → ¬ (has_shape shape t ≡ false) → IsKnown (expected_right shape (known t) u)
right_known shape t u h = (t, ap (λ b. cond b (known t) unconstrained) (passed (has_shape shape t) h))

any_known : (t : Typing) → IsKnown (expected_same anything (known t))
any_known (lattice l) = (lattice l, refl)
any_known (element s) = (element s, refl)
any_known truth = (truth, refl)

-- WHAT IS INFERRED OF A WHOLE IS INFERRED OF ITS PARTS

-- what is inferred of an expression is a type
abbrev pub IsInferred : Inferred → Type 0
IsInferred u = (t : Typing) × (u ≡ is t)

-- a typing that a test for a group lets pass
pub same_type_known : (shape : Shape) (t : Typing) → has_shape shape t ≡ true → IsKnown (same_type_as shape (is t))
same_type_known shape t inside = (t, ap (λ b. cond b (known t) unconstrained) inside)

pub sort_of_set : (t : Typing) → has_shape any_set t ≡ true → (s : Sort) × (set_sort (is t) ≡ Some s)
sort_of_set (lattice (may s)) h = (s, refl)
sort_of_set (lattice (must s)) h = (s, refl)
sort_of_set t h = absurd (true≢false (sym h))

pub sort_of_may : (t : Typing) → has_shape any_may t ≡ true → (s : Sort) × (set_sort (is t) ≡ Some s)
sort_of_may (lattice (may s)) h = (s, refl)
sort_of_may t h = absurd (true≢false (sym h))

pub sort_of_must : (t : Typing) → has_shape any_must t ≡ true → (s : Sort) × (set_sort (is t) ≡ Some s)
sort_of_must (lattice (must s)) h = (s, refl)
sort_of_must t h = absurd (true≢false (sym h))

pub sort_of_flat : (t : Typing) → has_shape any_flat t ≡ true → (s : Sort) × (flat_sort (is t) ≡ Some s)
sort_of_flat (lattice (flat s)) h = (s, refl)
sort_of_flat t h = absurd (true≢false (sym h))

pub sort_of_key : (t : Typing) → has_shape any_map t ≡ true → (s : Sort) × (key_sort (is t) ≡ Some s)
sort_of_key (lattice (map_to k l)) h = (k, refl)
sort_of_key t h = absurd (true≢false (sym h))

value_like : (t : Typing) → has_shape any_map t ≡ true → IsKnown (same_type_as any_lattice (value_of (is t)))
value_like (lattice (map_to k l)) h = (lattice l, refl)
value_like t h = absurd (true≢false (sym h))

pair_of_inferred : (t u : Inferred) → IsInferred (pair_inferred t u) → IsInferred t × IsInferred u
pair_of_inferred (is (element a)) (is (element b)) h = ((element a, refl), (element b, refl))
pair_of_inferred faulty u h = absurd (no h.1)
  where
    no : faulty ≡ is h.0 → ⊥
    no e = cc
pair_of_inferred t faulty h = absurd (no h.1)
  where
    no : faulty ≡ is h.0 → ⊥
    no e = cc
pair_of_inferred t u h = absurd (no h.1)
  where
    no : not_inferable ≡ is h.0 → ⊥
    no e = cc

-- a type that is inferred of a part and let pass
pub only_inferred : (shape : Shape) (u : Inferred) → IsInferred (only shape u) → (t : Typing) × (u ≡ is t) × (has_shape shape t ≡ true)
only_inferred shape (is t) h = by (has_shape shape t) refl h.1
  where
    by : (b : Bool) → has_shape shape t ≡ b → cond b (is t) faulty ≡ is h.0 → (x : Typing) × (is t ≡ is x) × (has_shape shape x ≡ true)
    by true e k = (t, refl, e)
    by false e k = absurd (no k)
      where
        no : faulty ≡ is h.0 → ⊥
        no d = cc
only_inferred shape not_inferable h = absurd (no h.1)
  where
    no : not_inferable ≡ is h.0 → ⊥
    no e = cc
only_inferred shape faulty h = absurd (no h.1)
  where
    no : faulty ≡ is h.0 → ⊥
    no e = cc

-- the type that is let pass is the one that is inferred of the part
pub only_is : (shape : Shape) (u : Inferred) (x : Typing) → only shape u ≡ is x → u ≡ is x
only_is shape (is t) x e = by (has_shape shape t) e
  where
    by : (b : Bool) → cond b (is t) faulty ≡ is x → is t ≡ is x
    by true k = k
    by false k = absurd (no k)
      where
        no : faulty ≡ is x → ⊥
        no d = cc
only_is shape not_inferable x e = e
only_is shape faulty x e = e

pub always_is : (u : Inferred) (x : Typing) → always_inferred u ≡ is x → u ≡ is x
always_is (is t) x e = e
always_is not_inferable x e = absurd (no e)
  where
    no : faulty ≡ is x → ⊥
    no d = cc
always_is faulty x e = e

pub always_inferred_of : (u : Inferred) → IsInferred (always_inferred u) → IsInferred u
always_inferred_of u h = (h.0, always_is u h.0 h.1)

-- where it isn't known which type is expected, it is inferred
pub inferred_typed : (w : Expected) (u : Inferred) → ((t : Typing) → ¬ (w ≡ known t)) → IsTyped w u → IsInferred u
inferred_typed w u h (by_expected t e) = absurd (h t e)
inferred_typed w u h (by_inferred t e) = (t, e)

-- THE PARTS

module _ (spec : Spec) where
  -- A part stands where the sorts of all variables are known, and has a type.
  abbrev pub IsTypedPart : Occurrence → Type 0
  IsTypedPart q = IsSorted q.scope × IsTyped q.expected (inferred spec q.scope q.expr)

  module _ (s : Scope) (sorted : IsSorted s) where
    expected_type : (w : Expected) (e : Expr) → IsKnown w → IsTypedPart (occurrence s w e)
    expected_type w e h = (sorted, by_expected h.0 h.1)

    part_inferred : (w : Expected) (e : Expr) → IsInferred (inferred spec s e) → IsTypedPart (occurrence s w e)
    part_inferred w e h = (sorted, by_inferred h.0 h.1)

    must_inferred : (shape : Shape) (e : Expr) → IsSound spec (occurrence s (inferred_in shape) e) → IsTypedPart (occurrence s (inferred_in shape) e)
    must_inferred shape e h = let t = inferred_part spec s shape e h sorted in (sorted, by_inferred t.0 t.1)

    each_expected : (w : Expected) (es : List Expr) → IsKnown w → AllByRecursion IsTypedPart (map (occurrence s w) es)
    each_expected w [] h = tt
    each_expected w (e ∷ es) h = (expected_type w e h, each_expected w es h)

    arguments_expected : (names : List Named) (es : List Expr) → (length names ≡ length es) → AllByRecursion IsTypedPart (arguments s names es)
    arguments_expected [] [] h = tt
    arguments_expected (n ∷ names) [] h = tt
    arguments_expected [] (e ∷ es) h = absurd (no h)
      where
        no : 0 ≡ length (e ∷ es) → ⊥
        no k = omega (arith, k)
    arguments_expected (n ∷ names) (e ∷ es) h = (expected_type _ e (_, refl), arguments_expected names es (omega (arith, h)))

  inside : (s : Scope) (x : List ℕ) (o : Option Sort) → IsSorted s → (k : Sort) × (o ≡ Some k) → IsSorted (with_variable s x o)
  inside s x o sorted h = all_append HasSort s.variables _ sorted (h, tt)

  call_parts : (s : Scope) → IsSorted s → (o : Option FunctionDecl) (args : List Expr) → ¬ (o ≡ None) → ¬ IsMiscounted o args → AllByRecursion IsTypedPart (arguments s (declared_arguments o) args)
  call_parts s sorted None args h k = absurd (h refl)
  call_parts s sorted (Some f) args h k =
      arguments_expected s sorted f.args args ((Decides-eqb (length f.args) (length args)).0 (passed (length f.args == length args) (λ e. k (λ same. true≢false (sym ((Decides-eqb (length f.args) (length args)).1 same) ∙ e)))))

  key_of : (u : Inferred) → (k : Sort) × (key_sort u ≡ Some k) → IsKnown (known_sort (key_sort u))
  key_of u h = (element h.0, ap known_sort h.1)

  member_of : (u : Inferred) → (k : Sort) × (set_sort u ≡ Some k) → IsKnown (known_sort (set_sort u))
  member_of u h = (element h.0, ap known_sort h.1)

  -- the set from which another is made
  source_part : (s : Scope) → IsSorted s → (from : Expr) (t : Typing) → ¬ (has_shape any_set t ≡ false) → IsSound spec (occurrence s (expected_source (known t)) from)
      → ((k : Sort) × (chosen_sort (known t) (inferred spec s from) ≡ Some k)) × IsTypedPart (occurrence s (expected_source (known t)) from)
  source_part s sorted from (lattice (may k)) h sound =
      let t = inferred_part spec s any_may from sound sorted in let k = sort_of_may t.0 t.2 in ((k.0, ap (chosen_sort (known (lattice (may k.0)))) t.1 ∙ ap (λ b. set_sort (cond b (is t.0) faulty)) t.2 ∙ k.1), part_inferred s sorted _ from (t.0, t.1))
  source_part s sorted from (lattice (must k)) h sound =
      let t = inferred_part spec s any_must from sound sorted in let k = sort_of_must t.0 t.2 in ((k.0, ap (chosen_sort (known (lattice (must k.0)))) t.1 ∙ ap (λ b. set_sort (cond b (is t.0) faulty)) t.2 ∙ k.1), part_inferred s sorted _ from (t.0, t.1))
  source_part s sorted from t h sound = absurd (h refl)

  condition_part : (s : Scope) → IsSorted s → (c : Option Expr) → AllByRecursion IsTypedPart (optional s expected_truth c)
  condition_part s sorted None = tt
  condition_part s sorted (Some c) = (expected_type s sorted expected_truth c (truth, refl), tt)

  -- the key and the new value of a map that is updated, of which a type is inferred
  updated_parts : (s : Scope) → IsSorted s → (m k v : Expr) (x y z : Expected) → (t : Typing) → inferred spec s m ≡ is t → has_shape any_map t ≡ true → y ≡ known_sort (key_sort (inferred spec s m)) → z ≡ same_type_as any_lattice (value_of (inferred spec s m))
      → AllByRecursion IsTypedPart (occurrence s x m ∷ occurrence s y k ∷ occurrence s z v ∷ [])
  updated_parts s sorted m k v x y z t is_t is_map is_y is_z =
      let key = key_of (inferred spec s m) (let q = sort_of_key t is_map in (q.0, ap key_sort is_t ∙ q.1)) in
      let value = value_like t is_map in
      (part_inferred s sorted x m (t, is_t), (expected_type s sorted y k (key.0, is_y ∙ key.1), (expected_type s sorted z v (value.0, is_z ∙ ap (λ u. same_type_as any_lattice (value_of u)) is_t ∙ value.1), tt)))

  compared_parts : (s : Scope) → IsSorted s → (op : CompareOp) (a b : Expr) → IsSound spec (occurrence s (compared_left op) a) → AllByRecursion IsTypedPart (occurrence s (compared_left op) a ∷ occurrence s (compared_right op (inferred spec s a)) b ∷ [])
  compared_parts s sorted compare.Eq a b sound =
      let t = inferred_part spec s any_element a sound sorted in let k = same_type_known any_element t.0 t.2 in (part_inferred s sorted _ a (t.0, t.1), (expected_type s sorted _ b (k.0, ap (same_type_as any_element) t.1 ∙ k.1), tt))
  compared_parts s sorted compare.Ne a b sound =
      let t = inferred_part spec s any_element a sound sorted in let k = same_type_known any_element t.0 t.2 in (part_inferred s sorted _ a (t.0, t.1), (expected_type s sorted _ b (k.0, ap (same_type_as any_element) t.1 ∙ k.1), tt))
  compared_parts s sorted compare.Lt a b sound = (expected_type s sorted _ a (_, refl), (expected_type s sorted _ b (_, refl), tt))
  compared_parts s sorted compare.Le a b sound = (expected_type s sorted _ a (_, refl), (expected_type s sorted _ b (_, refl), tt))

  -- the parts of a form that has a type and no faults
  pub typed_parts : (s : Scope) → IsSorted s → (w : Expected) (layer : ExprLayer) → IsTyped w (form_inferred spec s (inferred_parts spec s layer)) → ¬ IsMismatch w (form_shape layer) (form_inferred spec s (inferred_parts spec s layer))
      → ((kind : SpecFaultKind) → ¬ IsMisnamed spec s layer kind) → AllByRecursion (IsSound spec) (parts_in spec s w layer) → AllByRecursion IsTypedPart (parts_in spec s w layer)
  typed_parts s sorted w (ExprKind-F.Call f args) typed fits names sound = call_parts s sorted (function_named spec f) args (names kinds.Unknown) (names kinds.Arity)
  typed_parts s sorted w (ExprKind-F.MakeFlat e) typed fits names sound = (expected_type s sorted _ e (not_inferable_part (λ x. IsKnown (expected_flat x)) any_flat flat_known w typed fits), tt)
  typed_parts s sorted w (ExprKind-F.Fst a) typed fits names sound = (must_inferred s sorted any_pair a sound.0, tt)
  typed_parts s sorted w (ExprKind-F.Snd a) typed fits names sound = (must_inferred s sorted any_pair a sound.0, tt)
  typed_parts s sorted (known t) (ExprKind-F.Both a b) typed fits names sound = (expected_type s sorted _ a (first_known t (λ e. fits (inr e))), (expected_type s sorted _ b (second_known t (λ e. fits (inr e))), tt))
  typed_parts s sorted w (ExprKind-F.Both a b) typed fits names sound =
      let h = pair_of_inferred (inferred spec s a) (inferred spec s b) (inferred_typed w _ (λ t e. cc) typed) in (part_inferred s sorted _ a h.0, (part_inferred s sorted _ b h.1, tt))
  typed_parts s sorted w (ExprKind-F.SetOf es) typed fits names sound = each_expected s sorted _ es (not_inferable_part (λ x. IsKnown (expected_element x)) any_set element_known w typed fits)
  typed_parts s sorted w (ExprKind-F.Choose e x from c) typed fits names sound =
      let source = not_inferable_part (λ v. IsSound spec (occurrence s (expected_source v) from) → ((k : Sort) × (chosen_sort v (inferred spec s from) ≡ Some k)) × IsTypedPart (occurrence s (expected_source v) from)) any_set (source_part s sorted from) w typed fits sound.1.0 in
      let here = inside s x (chosen_sort w (inferred spec s from)) sorted source.0 in
      (expected_type _ here _ e (not_inferable_part (λ v. IsKnown (expected_element v)) any_set element_known w typed fits), (source.1, condition_part _ here c))
  typed_parts s sorted w (ExprKind-F.MapOf ks vs) typed fits names sound =
      all_append IsTypedPart (map (occurrence s (expected_key w)) ks) (map (occurrence s (expected_value w)) vs) (each_expected s sorted _ ks (not_inferable_part (λ x. IsKnown (expected_key x)) any_map key_known w typed fits))
      (each_expected s sorted _ vs (not_inferable_part (λ x. IsKnown (expected_value x)) any_map value_known w typed fits))
  typed_parts s sorted w (ExprKind-F.Look m k) typed fits names sound =
      let t = inferred_part spec s any_map m sound.0 sorted in (part_inferred s sorted _ m (t.0, t.1), (expected_type s sorted _ k (key_of (inferred spec s m) (let q = sort_of_key t.0 t.2 in (q.0, ap key_sort t.1 ∙ q.1))), tt))
  typed_parts s sorted (known t) (ExprKind-F.Update m k v) typed fits names sound =
      (expected_type s sorted _ m (left_known any_map t (λ e. fits (inr e))), (expected_type s sorted _ k (key_known t (λ e. fits (inr e))), (expected_type s sorted _ v (value_known t (λ e. fits (inr e))), tt)))
  typed_parts s sorted w (ExprKind-F.Update m k v) typed fits names sound =
      let h = only_inferred any_map (inferred spec s m) (always_inferred_of (only any_map (inferred spec s m)) (inferred_typed w _ (λ t e. cc) typed)) in updated_parts s sorted m k v _ _ _ h.0 h.1 h.2 refl refl
  typed_parts s sorted (known t) (ExprKind-F.Set2 o a b) typed fits names sound =
      (expected_type s sorted _ a (left_known (operands o) t (λ e. fits (inr e))), (expected_type s sorted _ b (right_known (operands o) t (inferred spec s a) (λ e. fits (inr e))), tt))
  typed_parts s sorted w (ExprKind-F.Set2 o a b) typed fits names sound =
      let h = only_inferred (operands o) (inferred spec s a) (inferred_typed w _ (λ t e. cc) typed) in let k = same_type_known (operands o) h.0 h.2 in
      (part_inferred s sorted _ a (h.0, h.1), (expected_type s sorted _ b (k.0, ap (same_type_as (operands o)) h.1 ∙ k.1), tt))
  typed_parts s sorted w (ExprKind-F.Arith o a b) typed fits names sound = (expected_type s sorted _ a (_, refl), (expected_type s sorted _ b (_, refl), tt))
  typed_parts s sorted w (ExprKind-F.Minus a) typed fits names sound = (expected_type s sorted _ a (_, refl), tt)
  typed_parts s sorted w (ExprKind-F.Compare op a b) typed fits names sound = compared_parts s sorted op a b sound.0
  typed_parts s sorted w (ExprKind-F.Member e set) typed fits names sound =
      let t = inferred_part spec s any_set set sound.1.0 sorted in (expected_type s sorted _ e (member_of (inferred spec s set) (let q = sort_of_set t.0 t.2 in (q.0, ap set_sort t.1 ∙ q.1))), (part_inferred s sorted _ set (t.0, t.1), tt))
  typed_parts s sorted w (ExprKind-F.And a b) typed fits names sound = (expected_type s sorted _ a (_, refl), (expected_type s sorted _ b (_, refl), tt))
  typed_parts s sorted w (ExprKind-F.Or a b) typed fits names sound = (expected_type s sorted _ a (_, refl), (expected_type s sorted _ b (_, refl), tt))
  typed_parts s sorted w (ExprKind-F.Not a) typed fits names sound = (expected_type s sorted _ a (_, refl), tt)
  typed_parts s sorted w (ExprKind-F.Bind x a b) typed fits names sound =
      let t = inferred_part spec s any_flat a sound.0 sorted in
      let here = inside s x (flat_sort (inferred spec s a)) sorted (let q = sort_of_flat t.0 t.2 in (q.0, ap flat_sort t.1 ∙ q.1)) in
      (part_inferred s sorted _ a (t.0, t.1), (expected_type _ here _ b (not_inferable_part (λ v. IsKnown (expected_same any_flat v)) any_flat (same_known any_flat) w typed fits), tt))
  typed_parts s sorted w (ExprKind-F.If c a b) typed fits names sound =
      let h = not_inferable_part (λ v. IsKnown (expected_same anything v)) anything (λ t k. any_known t) w typed fits in (expected_type s sorted _ c (_, refl), (expected_type s sorted _ a h, (expected_type s sorted _ b h, tt)))
  typed_parts s sorted w layer typed fits names sound = tt
