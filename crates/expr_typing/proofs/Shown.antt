-- Of an expression without faults whose type must be inferred, or of which the type of the whole is inferred, what is inferred isn't lost by a fault.
use Rattle.std.proofs.Common.{◌≡◌, ℕ, Bool, true, false, List, [], ◌∷◌, cond, Option, Some, None, refl, sym, ap, subst, ◌∙◌, inl, inr, bytes_eq}
use Rattle.std.specs.Prelude.{◌⊎◌, find, Contains}
use Rattle.std.specs.List.{AllByRecursion}
use Rattle.std.proofs.lemmas.Bool.{true≢false}
use Rattle.flow_syntax.specs.declared.expr.ExprKind.TheOpen.{ExprKind-F}
use Rattle.flow_syntax.specs.declared.fault.SpecFaultKind.{SpecFaultKind}
use Rattle.flow_syntax.specs.declared.fault.SpecFaultKind.TheVariants as kinds
use Rattle.flow_syntax.specs.declared.expr.Expr.{Expr}
use Rattle.flow_syntax.specs.declared.property.PropDecl.{PropDecl}
use Rattle.flow_syntax.specs.declared.spec.Spec.{Spec}
use Rattle.flow_syntax.specs.declared.tables.FunctionDecl.{FunctionDecl}
use Rattle.flow_syntax.specs.Expressions.{ExprLayer, expr_layer}
use Rattle.flow_syntax.specs.ExprFaults.{IsMisnamed}
use Rattle.flow_syntax.specs.Occurrences.{Occurrence, occurrence, parts_in, parts_of, form_shape}
use Rattle.flow_syntax.specs.Scopes.{Scope, Variable, variable_named}
use Rattle.flow_syntax.specs.Inferred.{Inferred, is, not_inferable, faulty, inferred, inferred_parts, form_inferred, property_named, function_named, constant_named, name_inferred, property_inferred, result_inferred, first_of, second_of, value_of, pair_inferred, only, always_inferred, operands}
use Rattle.flow_syntax.specs.Types.{Sort, Typing, lattice, element, pair_sort, pair_of, map_to, Shape, any_pair, any_map, has_shape}
use Rattle.flow_syntax.proofs.Listed.{Contains_here, Contains_behind}
use Rattle.flow_syntax.specs.Expected.{Expected, known, inferred_in, own_choice, if_inferred_in, IsMismatch, IsOutside}
use Rattle.expr_typing.specs.Listing.{AreListed, none, next}
use Rattle.expr_typing.proofs.Clean.{IsClean, inferred_own, fits, names_right, part_clean, passed}

-- SCOPES

abbrev pub HasSort : Variable → Type 0
HasSort v = (s : Sort) × (v.sort ≡ Some s)

-- The sort of each variable in scope is known.
abbrev pub IsSorted : Scope → Type 0
IsSorted s = AllByRecursion HasSort s.variables

abbrev HasSortIfFound : Option Variable → Type 0
HasSortIfFound None = Unit {0}
HasSortIfFound (Some v) = HasSort v

found_sorted : (x : List ℕ) (vs : List Variable) → AllByRecursion HasSort vs → HasSortIfFound (find (λ v. bytes_eq x v.name) vs)
found_sorted x [] h = tt
found_sorted x (v ∷ vs) h = by (bytes_eq x v.name) (found_sorted x vs h.1)
  where
    by : (b : Bool) → HasSortIfFound (find (λ u. bytes_eq x u.name) vs) → HasSortIfFound (cond b (Some v) (find (λ u. bytes_eq x u.name) vs))
    by true rest = h.0
    by false rest = rest

-- WHAT IS EXPECTED

-- The type must be inferred, or that of a whole of which the expression is a part.
abbrev pub IsAsked : Expected → Type 0
IsAsked (inferred_in shape) = Unit {0}
IsAsked (own_choice shape) = Unit {0}
IsAsked w = ⊥

module _ (spec : Spec) where
  -- A part has no fault of its type, and what is inferred of it isn't lost where it is asked for.
  pub record IsSound (q : Occurrence) : Type 0 where
    pub right : ¬ IsMismatch q.expected (form_shape (expr_layer q.expr)) (inferred spec q.scope q.expr)
    pub shown : IsAsked q.expected → IsSorted q.scope → ¬ (inferred spec q.scope q.expr ≡ faulty)

  inferred_inside : (shape : Shape) (u : Inferred) → ¬ (IsOutside shape u ⊎ (u ≡ not_inferable)) → ¬ (u ≡ faulty) → (t : Typing) × (u ≡ is t) × (has_shape shape t ≡ true)
  inferred_inside shape (is t) f h = (t, refl, passed (has_shape shape t) (λ e. f (inl e)))
  inferred_inside shape not_inferable f h = absurd (f (inr refl))
  inferred_inside shape faulty f h = absurd (h refl)

  -- the type of a part that must be inferred, which is in the group
  pub inferred_part : (s : Scope) (shape : Shape) (e : Expr) → IsSound (occurrence s (inferred_in shape) e) → IsSorted s → (t : Typing) × (inferred spec s e ≡ is t) × (has_shape shape t ≡ true)
  inferred_part s shape e h sorted = inferred_inside shape (inferred spec s e) h.right (h.shown tt sorted)

  name_shown : (o : Option Variable) (c : Option Typing) → HasSortIfFound o → ¬ ((o ≡ None) × (c ≡ None)) → ¬ (name_inferred o c ≡ faulty)
  name_shown (Some v) c h n e = is_shown (ap (λ o. name_inferred (Some (record v { sort = o })) c) (sym h.1) ∙ e)
    where
      is_shown : is (element h.0) ≡ faulty → ⊥
      is_shown d = cc
  name_shown None (Some t) h n e = cc
  name_shown None None h n e = absurd (n (refl, refl))

  property_shown : (o : Option PropDecl) → ¬ (o ≡ None) → ¬ (property_inferred o ≡ faulty)
  property_shown (Some p) n e = cc
  property_shown None n e = absurd (n refl)

  result_shown : (o : Option FunctionDecl) → ¬ (o ≡ None) → ¬ (result_inferred o ≡ faulty)
  result_shown (Some f) n e = cc
  result_shown None n e = absurd (n refl)

  first_shown : (t : Typing) → has_shape any_pair t ≡ true → ¬ (first_of (is t) ≡ faulty)
  first_shown (lattice (pair_of a b)) h e = cc
  first_shown (element (pair_sort a b)) h e = cc
  first_shown t h e = absurd (true≢false (sym h))

  second_shown : (t : Typing) → has_shape any_pair t ≡ true → ¬ (second_of (is t) ≡ faulty)
  second_shown (lattice (pair_of a b)) h e = cc
  second_shown (element (pair_sort a b)) h e = cc
  second_shown t h e = absurd (true≢false (sym h))

  value_shown : (t : Typing) → has_shape any_map t ≡ true → ¬ (value_of (is t) ≡ faulty)
  value_shown (lattice (map_to k l)) h e = cc
  value_shown t h e = absurd (true≢false (sym h))

  pair_shown : (t u : Inferred) → ¬ (t ≡ faulty) → ¬ (u ≡ faulty) → ¬ (pair_inferred t u ≡ faulty)
  pair_shown faulty u h k e = h refl
  pair_shown t faulty h k e = k refl
  pair_shown (is (element a)) (is (element b)) h k e = cc
  pair_shown t u h k e = cc

  only_shown : (shape : Shape) (u : Inferred) → ¬ IsOutside shape u → ¬ (u ≡ faulty) → ¬ (only shape u ≡ faulty)
  only_shown shape (is t) f h e = by (has_shape shape t) f e
    where
      by : (b : Bool) → ¬ (b ≡ false) → ¬ (cond b (is t) faulty ≡ faulty)
      by true f e = cc
      by false f e = f refl
  only_shown shape not_inferable f h e = cc
  only_shown shape faulty f h e = h refl

  update_shown : (u : Inferred) (t : Typing) → u ≡ is t → has_shape any_map t ≡ true → ¬ (always_inferred (only any_map u) ≡ faulty)
  update_shown u t is_t inside e = no (sym (ap (λ x. always_inferred (only any_map x)) is_t ∙ ap (λ b. always_inferred (cond b (is t) faulty)) inside) ∙ e)
    where
      no : is t ≡ faulty → ⊥
      no d = cc

  -- what a form gives that is asked for
  asked_shown : (s : Scope) (w : Expected) (layer : ExprLayer) → IsAsked w → IsSorted s → ((kind : SpecFaultKind) → ¬ IsMisnamed spec s layer kind) → AllByRecursion IsSound (parts_in spec s w layer)
      → ¬ (form_inferred spec s (inferred_parts spec s layer) ≡ faulty)
  asked_shown s w (ExprKind-F.Ident x) a sorted n ps e = name_shown (variable_named s x) (constant_named spec x) (found_sorted x s.variables sorted) (n kinds.Unbound) e
  asked_shown s w (ExprKind-F.Read p side) a sorted n ps e = property_shown (property_named spec p) (n kinds.Unknown) e
  asked_shown s w (ExprKind-F.Call f args) a sorted n ps e = result_shown (function_named spec f) (n kinds.Unknown) e
  asked_shown s w (ExprKind-F.Fst x) a sorted n ps e = let t = inferred_part s any_pair x ps.0 sorted in first_shown t.0 t.2 (ap first_of (sym t.1) ∙ e)
  asked_shown s w (ExprKind-F.Snd x) a sorted n ps e = let t = inferred_part s any_pair x ps.0 sorted in second_shown t.0 t.2 (ap second_of (sym t.1) ∙ e)
  asked_shown s w (ExprKind-F.Look m k) a sorted n ps e = let t = inferred_part s any_map m ps.0 sorted in value_shown t.0 t.2 (ap value_of (sym t.1) ∙ e)
  asked_shown s (inferred_in shape) (ExprKind-F.Both x y) a sorted n ps e = pair_shown (inferred spec s x) (inferred spec s y) (ps.0.shown tt sorted) (ps.1.0.shown tt sorted) e
  asked_shown s (own_choice shape) (ExprKind-F.Both x y) a sorted n ps e = pair_shown (inferred spec s x) (inferred spec s y) (ps.0.shown tt sorted) (ps.1.0.shown tt sorted) e
  asked_shown s (inferred_in shape) (ExprKind-F.Set2 o x y) a sorted n ps e = only_shown (operands o) (inferred spec s x) ps.0.right (ps.0.shown tt sorted) e
  asked_shown s (own_choice shape) (ExprKind-F.Set2 o x y) a sorted n ps e = only_shown (operands o) (inferred spec s x) ps.0.right (ps.0.shown tt sorted) e
  asked_shown s (inferred_in shape) (ExprKind-F.Update m k v) a sorted n ps e = let t = inferred_part s any_map m ps.0 sorted in update_shown (inferred spec s m) t.0 t.1 t.2 e
  asked_shown s (own_choice shape) (ExprKind-F.Update m k v) a sorted n ps e = let t = inferred_part s any_map m ps.0 sorted in update_shown (inferred spec s m) t.0 t.1 t.2 e
  asked_shown s (known t) (ExprKind-F.Both x y) a sorted n ps e = absurd a
  asked_shown s (if_inferred_in shape) (ExprKind-F.Both x y) a sorted n ps e = absurd a
  asked_shown s (known t) (ExprKind-F.Set2 o x y) a sorted n ps e = absurd a
  asked_shown s (if_inferred_in shape) (ExprKind-F.Set2 o x y) a sorted n ps e = absurd a
  asked_shown s (known t) (ExprKind-F.Update m k v) a sorted n ps e = absurd a
  asked_shown s (if_inferred_in shape) (ExprKind-F.Update m k v) a sorted n ps e = absurd a
  asked_shown s w layer a sorted n ps e = cc

  -- An expression is sound where it has no faults.
  abbrev IsSoundIfClean : Occurrence → Type 0
  IsSoundIfClean q = IsClean spec q → IsSound q

  sound_parts : (ps : List Occurrence) → AllByRecursion IsSoundIfClean ps → ((q : Occurrence) → Contains ps q → IsClean spec q) → AllByRecursion IsSound ps
  sound_parts [] h clean = tt
  sound_parts (p ∷ ps) h clean = (h.0 (clean p (Contains_here p ps)), sound_parts ps h.1 (λ q among. clean q (Contains_behind p ps q among)))

  sound_whole : (p : Occurrence) → AllByRecursion IsSoundIfClean (parts_of spec p) → IsSoundIfClean p
  sound_whole p parts clean = record {
    right = subst (λ (u : Inferred). ¬ IsMismatch p.expected (form_shape (expr_layer p.expr)) u) (sym (inferred_own spec p clean)) (fits spec p clean);
    shown = λ asked sorted e. asked_shown p.scope p.expected (expr_layer p.expr) asked sorted (names_right spec p clean) (sound_parts (parts_of spec p) parts (λ q. part_clean spec p q clean)) (sym (inferred_own spec p clean) ∙ e);
  }

  -- listed expressions are sound where they have no faults
  pub all_sound : (ps : List Occurrence) (ts : List Typing) → AreListed spec ps ts → AllByRecursion IsSoundIfClean ps
  all_sound _ _ none = tt
  all_sound _ _ (next p ps inside others d e) = (sound_whole p (all_sound (parts_of spec p) inside d), all_sound ps others e)

  pub parts_sound : (p : Occurrence) (ts : List Typing) → AreListed spec (parts_of spec p) ts → IsClean spec p → AllByRecursion IsSound (parts_of spec p)
  parts_sound p ts d clean = sound_parts (parts_of spec p) (all_sound (parts_of spec p) ts d) (λ q. part_clean spec p q clean)
