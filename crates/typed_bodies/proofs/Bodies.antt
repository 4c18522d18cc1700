-- In a specification without faults the bodies of rules and the conditions of messages are typed.
use Rattle.std.proofs.Common.{◌≡◌, ℕ, zero, suc, Bool, true, List, [], ◌∷◌, ◌++◌, map, Option, Some, refl, sym, ap, subst, ◌∙◌}
use Rattle.std.specs.Prelude.{Contains, slice_get, IsTrue, nat_lt, length}
use Rattle.std.specs.List.{AllByRecursion, AllZip, flat_map}
use Rattle.std.specs.Option.{option_map}
use Rattle.std.proofs.lemmas.List.Elements.{Contains-append_left, Contains-append_right}
use Rattle.std.proofs.lemmas.Bool.{and_from}
use Rattle.std.proofs.lemmas.Bool.Decides.{Decides-ltb}
use Rattle.std.proofs.lemmas.Option.{slice_get-map, slice_get_within}
use Rattle.flow_syntax.specs.declared.expr.Expr.{Expr}
use Rattle.flow_syntax.specs.declared.expr.Side.{Side}
use Rattle.flow_syntax.specs.declared.message.Message.{Message}
use Rattle.flow_syntax.specs.declared.property.PropDecl.{PropDecl}
use Rattle.flow_syntax.specs.declared.property.PropRule.{PropRule}
use Rattle.flow_syntax.specs.declared.property.Trigger.{Trigger}
use Rattle.flow_syntax.specs.declared.property.Trigger.TheVariants as trigger
use Rattle.flow_syntax.specs.declared.spec.Spec.{Spec}
use Rattle.flow_syntax.specs.Binders.{Bound, bound_in, variable_of}
use Rattle.flow_syntax.specs.ExprFaults.{body_of, expected_body, trigger_pattern, trigger_scope, message_scope}
use Rattle.flow_syntax.specs.Occurrences.{Occurrence, occurrence, optional, expected_truth}
use Rattle.flow_syntax.specs.ExprTypes.{HasType, AreTypes, wholes_of}
use Rattle.flow_syntax.specs.Faults.{HasNoFault}
use Rattle.flow_syntax.specs.Scopes.{Scope, can_read}
use Rattle.flow_syntax.specs.Inferred.{property_named}
use Rattle.flow_syntax.specs.Expected.{known}
use Rattle.flow_syntax.specs.Types.{Typing, truth}
use Rattle.flow_syntax.proofs.Listed.{at_in, in_at, Contains_here}
use Rattle.expr_typing.specs.Listing.{AreOccurrences, nowhere, there}
use Rattle.expr_typing.proofs.Clean.{all_append, at_each}
use Rattle.expr_typing.proofs.Laws.{IsGood, good_body, good_condition}
use Rattle.expr_typing.proofs.Order.{types_in_order}
use Rattle.expr_meaning.specs.Ranges.{Range, truths, range_of}
use Rattle.expr_meaning.specs.SpecRanges.{Agrees, can_read_in, usable_in, variables_of}
use Rattle.typed_bodies.specs.Bodies.{BodiesAreTyped, ConditionsAreTyped}
use Rattle.expr_meaning.specs.Meaning.{property_number}
use Rattle.expr_meaning.specs.Typing.{Held, held, AreTyped}
use Rattle.typed_bodies.proofs.Forms.{StandsIn, usable}
use Rattle.expr_meaning.proofs.TypedParts.{split_all}
use Rattle.typed_bodies.proofs.Names.{in_scope, element_listed, property_at}
use Rattle.typed_bodies.proofs.Occurrences.{Stands, HasRange, ranged_of, heads, all_typed}

pub in_map : {X Y : Type 0} (f : X → Y) (xs : List X) (x : X) → Contains xs x → Contains (map f xs) (f x)
in_map f xs x c = let k = in_at xs x c in at_in (map f xs) k.0 (f x) (slice_get-map f xs k.0 ∙ ap (option_map f) k.1)

pub in_flat : {X Y : Type 0} (f : X → List Y) (xs : List X) (k : ℕ) (x : X) (y : Y) → slice_get xs k ≡ Some x → Contains (f x) y → Contains (flat_map f xs) y
in_flat f [] k x y e h = absurd (no e)
  where
    no : slice_get [] k ≡ Some x → ⊥
    no i = cc
in_flat f (z ∷ xs) zero x y e h = let same : z ≡ x = cc in Contains-append_left (f z) (flat_map f xs) y (subst (λ u. Contains (f u) y) (sym same) h)
in_flat f (z ∷ xs) (suc k) x y e h = Contains-append_right (f z) (flat_map f xs) y (in_flat f xs k x y e h)

same_variables : (bs : List Bound) → map variable_of bs ≡ map in_scope (map (λ b. record { name = b.name; sort = b.sort }) bs)
same_variables [] = refl
same_variables (b ∷ bs) = ap (λ vs. variable_of b ∷ vs) (same_variables bs)

module _ (spec : Spec) where
  -- a declared property can be read in a scope at the sides that it has
  pub can_read_there : (s : Scope) (x : List ℕ) (d : PropDecl) (side : Side) → property_named spec x ≡ Some d → can_read s side ≡ true → IsTrue (can_read_in spec s (property_number spec x) side)
  can_read_there s x d side e h =
      and_from (nat_lt (property_number spec x) (length spec.properties)) (can_read s side) ((Decides-ltb (property_number spec x) (length spec.properties)).1 (slice_get_within spec.properties (property_number spec x) d (property_at spec.properties x d e))) h

  -- the places of one whole expression and all its parts, at which something holds
  pub record HoldsWithin (P : Occurrence → Type 0) (q : Occurrence) : Type 0 where
    pub occurrences : List Occurrence
    pub are : AreOccurrences spec (q ∷ []) occurrences
    pub hold : AllByRecursion P occurrences

  pub within : (P : Occurrence → Type 0) (ps occurrences : List Occurrence) → AreOccurrences spec ps occurrences → AllByRecursion P occurrences → AllByRecursion (HoldsWithin P) ps
  within P _ _ nowhere h = tt
  within P _ _ (there p ps inner others d e) h =
      let rest = split_all P inner others h.1 in
      (record { occurrences = p ∷ inner ++ []; are = there p [] inner [] d nowhere; hold = (h.0, all_append P inner [] rest.0 tt) }, within P ps others e rest.1)

  module _ (range : Expr → Range) (has : ℕ → Side → Bool) where
    ranged_occurrences : (qs : List Occurrence) (ts : List Typing) → AllZip (HasType spec) qs ts → AllZip (λ e t. range e ≡ range_of spec.lattices t) (map (λ q. q.expr) qs) ts → AllByRecursion (HasRange spec range has) qs
    ranged_occurrences [] [] have agree = tt
    ranged_occurrences [] (t ∷ ts) have agree = absurd have
    ranged_occurrences (q ∷ qs) [] have agree = absurd have
    ranged_occurrences (q ∷ qs) (t ∷ ts) have agree = ((t, have.0, agree.0), ranged_occurrences qs ts have.1 agree.1)

  module _ (types : List Typing) (range : Expr → Range) (faultless : HasNoFault spec) (are : AreTypes spec types) (agree : Agrees spec types range) where
    pub whole_ranged : (has : ℕ → Side → Bool) (q : Occurrence) → Contains (wholes_of spec) q → HoldsWithin (HasRange spec range has) q
    whole_ranged has q among =
        let order = (types_in_order spec types).0 are in
        let ranged = ranged_occurrences range has order.occurrences types order.have (subst (λ (es : List Expr). AllZip (λ e t. range e ≡ range_of spec.lattices t) es types) (sym order.stand) agree) in
        at_each (HoldsWithin (HasRange spec range has)) (wholes_of spec) q (within (HasRange spec range has) (wholes_of spec) order.occurrences order.all ranged) among

    -- a whole expression has the range of the type that is expected of it
    whole_range : (q : Occurrence) → Contains (wholes_of spec) q → IsGood spec q → (t : Typing) → q.expected ≡ known t → range q.expr ≡ range_of spec.lattices t
    whole_range q among good t e =
        let has = can_read_in spec q.scope in
        let here = whole_ranged has q among in
        (ranged_of spec range has q good.0 (heads spec range has (HasRange spec range has) (q ∷ []) here.occurrences here.are here.hold).0).from_expected t e

    -- a whole expression is typed where it stands
    whole_typed : (has : ℕ → Side → Bool) (q : Occurrence) → Contains (wholes_of spec) q → IsGood spec q → (h : Held) → Stands spec range has q h → AreTyped spec (usable spec range has) range (h ∷ [])
    whole_typed has q among good h stands =
        let here = whole_ranged has q among in
        all_typed spec range has (element_listed spec faultless) (q ∷ []) here.occurrences here.are here.hold (good, tt) (h ∷ []) (stands, tt)

    rule_stands : (t : Trigger) → StandsIn spec range (can_read_in spec (trigger_scope t)) (trigger_scope t) (variables_of (trigger_pattern t))
    rule_stands (trigger.Forward p) = record { variables = same_variables (bound_in p); sides = can_read_there (trigger_scope (trigger.Forward p)) }
    rule_stands (trigger.Backward p) = record { variables = same_variables (bound_in p); sides = can_read_there (trigger_scope (trigger.Backward p)) }
    rule_stands (trigger.AtStart p) = record { variables = same_variables (bound_in p); sides = can_read_there (trigger_scope (trigger.AtStart p)) }
    rule_stands (trigger.AtEnd p) = record { variables = same_variables (bound_in p); sides = can_read_there (trigger_scope (trigger.AtEnd p)) }

    body_among : (rule : PropRule) → Contains spec.rules rule → Contains (wholes_of spec) (body_of spec rule)
    body_among rule among =
        Contains-append_left (map (body_of spec) spec.rules) (flat_map (λ m. optional (message_scope m) expected_truth m.condition) spec.messages) (body_of spec rule) (in_map (body_of spec) spec.rules rule among)

    pub body_range : (rule : PropRule) → Contains spec.rules rule → (t : Typing) → expected_body (property_named spec rule.property.text) ≡ known t → range rule.body ≡ range_of spec.lattices t
    body_range rule among t e = whole_range (body_of spec rule) (body_among rule among) (good_body spec faultless rule among) t e

    pub body_typed : (rule : PropRule) → Contains spec.rules rule → AreTyped spec (usable_in spec (trigger_scope rule.trigger)) range (held (variables_of (trigger_pattern rule.trigger)) rule.body ∷ [])
    body_typed rule among =
        whole_typed (can_read_in spec (trigger_scope rule.trigger)) (body_of spec rule) (body_among rule among) (good_body spec faultless rule among) (held (variables_of (trigger_pattern rule.trigger)) rule.body) (record { expr = refl; scope = rule_stands rule.trigger })

    condition_among : (m : Message) (e : Expr) → Contains spec.messages m → m.condition ≡ Some e → Contains (wholes_of spec) (occurrence (message_scope m) expected_truth e)
    condition_among m e among is_some =
        let q = occurrence (message_scope m) expected_truth e in
        let k = in_at spec.messages m among in
        Contains-append_right (map (body_of spec) spec.rules) (flat_map (λ m. optional (message_scope m) expected_truth m.condition) spec.messages) q
        (in_flat (λ m. optional (message_scope m) expected_truth m.condition) spec.messages k.0 m q k.1 (subst (λ (c : Option Expr). Contains (optional (message_scope m) expected_truth c) q) (sym is_some) (Contains_here q [])))

    condition_clean : (m : Message) (e : Expr) → Contains spec.messages m → m.condition ≡ Some e → IsGood spec (occurrence (message_scope m) expected_truth e)
    condition_clean m e among is_some = (subst (λ (c : Option Expr). AllByRecursion (IsGood spec) (optional (message_scope m) expected_truth c)) is_some (good_condition spec faultless m among)).0

    pub condition_range : (m : Message) (e : Expr) → Contains spec.messages m → m.condition ≡ Some e → range e ≡ truths
    condition_range m e among is_some = whole_range (occurrence (message_scope m) expected_truth e) (condition_among m e among is_some) (condition_clean m e among is_some) truth refl

    pub condition_typed : (m : Message) (e : Expr) → Contains spec.messages m → m.condition ≡ Some e → AreTyped spec (usable_in spec (message_scope m)) range (held (variables_of m.pattern) e ∷ [])
    condition_typed m e among is_some =
        whole_typed (can_read_in spec (message_scope m)) (occurrence (message_scope m) expected_truth e) (condition_among m e among is_some) (condition_clean m e among is_some)
        (held (variables_of m.pattern) e) (record { expr = refl; scope = record { variables = same_variables (bound_in m.pattern); sides = can_read_there (message_scope m) } })

pub bodies_typed : BodiesAreTyped
bodies_typed spec types range faultless are agree rule among = body_typed spec types range faultless are agree rule among

pub conditions_typed : ConditionsAreTyped
conditions_typed spec types range faultless are agree m e among is_some = condition_typed spec types range faultless are agree m e among is_some
