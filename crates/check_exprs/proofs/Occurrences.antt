-- The expressions of a specification in their places.
use Rattle.std.proofs.Common.{◌≡◌, ℕ, ◌+◌, ◌<◌, List, length, get_or, take, map, [], ◌∷◌, ◌++◌, Option, Some, None, refl, sym, ap, subst, ◌∙◌, inl, inr, arith}
use Rattle.std.specs.Prelude.{◌⊎◌, slice_get, Contains}
use Rattle.std.specs.Borrow.{Bor}
use Rattle.std.proofs.lemmas.Option.{slice_get_read, slice_get_within, get_or_from_slice_get, same_Some}
use Rattle.std.proofs.lemmas.List.{append-nil, map-append, take_more}
use Rattle.std.proofs.lemmas.Grind.{flat_map-append}
use Rattle.flow_syntax.specs.declared.expr.Expr.{Expr}
use Rattle.flow_syntax.specs.declared.fault.SpecFaultKind.{SpecFaultKind}
use Rattle.flow_syntax.specs.declared.message.Message.{Message}
use Rattle.flow_syntax.specs.declared.property.PropRule.{PropRule}
use Rattle.flow_syntax.specs.declared.spec.Spec.{Spec}
use Rattle.flow_syntax.specs.ExprFaults.{FaultsWithin, IsFaultyExpression, body, condition, body_of, message_scope}
use Rattle.flow_syntax.specs.Occurrences.{Occurrence, optional, occurrence, expected_truth}
use Rattle.flow_syntax.specs.ExprTypes.{wholes_of}
use Rattle.flow_syntax.specs.Scopes.{Scope}
use Rattle.flow_syntax.specs.Types.{Typing}
use Rattle.flow_syntax.specs.Expected.{Expected}
use Rattle.expr_typing.specs.Listing.{AreListed, Lists}
use Rattle.check_base.specs.Earliest.{Gathers, FirstHave, SomeHas}
use Rattle.check_base.proofs.GathersLaws.{Found, Gathers-next, Gathers-none, Gathers-same, Gathers-then}
use Rattle.check_exprs.specs.declared.notes.Notes.{Notes}
use Rattle.check_exprs.specs.inner.Noted.{IsNoted, conditions_of}
use Rattle.check_exprs.proofs.Listed.{Lists-none, Lists-then, from_nothing}
use Rattle.check_exprs.specs.declared.scope.Scope.{the_lemmas}
use Rattle.check_exprs.specs.declared.scope.Scope.TheVariants as scopes
use Rattle.check_exprs.specs.declared.scope.Whole.{Whole}
use Rattle.check_exprs.specs.inner.Own.{ConditionHas, WholeHas}
use Rattle.check_exprs.specs.inner.Scoping.{scope_of, whole_scope}

-- one item more of a list
pub gathers_more : {T : Type 0} {P : ℕ → T → ℕ → SpecFaultKind → Type 0} (xs : List T) (n : ℕ) (x : T) {old mid new : Found} → n < length xs → x ≡ get_or xs n x → Gathers old mid (FirstHave P n xs) → Gathers mid new (P n x)
    → Gathers old new (FirstHave P (n + 1) xs)
gathers_more xs n x within is before here = Gathers-next xs n x (slice_get_read xs (length xs) n x refl within is) before here

pub scope_of_outer : (w : Bor Whole) → scope_of (scopes.Outer w) ≡ whole_scope w.now
scope_of_outer w = grind (arith, the_lemmas)

-- what is noted of an expression, in another scope and with another expected type of the same meaning
pub placed : {spec : Spec} {o n : Notes} (s s' : Scope) (w w' : Expected) (e : Expr) → s ≡ s' → w ≡ w' → IsNoted spec (occurrence s w e) o n → IsNoted spec (occurrence s' w' e) o n
placed {spec} {o} {n} s s' w w' e scoped expected_type g =
    subst (λ (y : Expected). IsNoted spec (occurrence s' y e) o n) expected_type (subst (λ (y : Scope). IsNoted spec (occurrence y w e) o n) scoped g)

-- a message without a condition
pub no_condition : (spec : Spec) (m : Message) (o : Found) → m.condition ≡ None → Gathers o o (ConditionHas spec m)
no_condition spec m o none = Gathers-none o (λ at kind h. differ h.expr (sym none ∙ h.is))
  where
    differ : (e : Expr) → None ≡ Some e → ⊥
    differ e same = cc

-- the types of no condition
pub no_condition_listed : (spec : Spec) (m : Message) (o : List Typing) → m.condition ≡ None → Lists spec (optional (message_scope m) expected_truth m.condition) o o
no_condition_listed spec m o none = subst (λ (c : Option Expr). Lists spec (optional (message_scope m) expected_truth c) o o) (sym none) (Lists-none spec o)

-- the types of a condition
pub condition_listed : (spec : Spec) (m : Message) (e : Expr) {o n : List Typing} → m.condition ≡ Some e → Lists spec (occurrence (message_scope m) expected_truth e ∷ []) o n → Lists spec (optional (message_scope m) expected_truth m.condition) o n
condition_listed spec m e {o} {n} is g = subst (λ (c : Option Expr). Lists spec (optional (message_scope m) expected_truth c) o n) (sym is) g

-- the types of one rule more
pub rules_listed : (spec : Spec) (rules : List PropRule) (i : ℕ) (rule : PropRule) {o m n : List Typing} → i < length rules → rule ≡ get_or rules i rule → Lists spec (map (body_of spec) (take i rules)) o m
    → Lists spec (body_of spec rule ∷ []) m n → Lists spec (map (body_of spec) (take (i + 1) rules)) o n
rules_listed spec rules i rule {o} {m} {n} within is g h =
    let made : map (body_of spec) (take (i + 1) rules) ≡ map (body_of spec) (take i rules) ++ body_of spec rule ∷ [] =
    ap (map (body_of spec)) (take_more rules i rule within ∙ ap (λ (x : PropRule). take i rules ++ x ∷ []) (sym is)) ∙ map-append (body_of spec) (take i rules) (rule ∷ []) in
    subst (λ (ps : List Occurrence). Lists spec ps o n) (sym made) (Lists-then spec (map (body_of spec) (take i rules)) (body_of spec rule ∷ []) g h)

-- the types of one message more
pub messages_listed : (spec : Spec) (ms : List Message) (i : ℕ) (msg : Message) {o m n : List Typing} → i < length ms → msg ≡ get_or ms i msg → Lists spec (conditions_of (take i ms)) o m
    → Lists spec (optional (message_scope msg) expected_truth msg.condition) m n → Lists spec (conditions_of (take (i + 1) ms)) o n
messages_listed spec ms i msg {o} {m} {n} within is g h =
    let made : conditions_of (take (i + 1) ms) ≡ conditions_of (take i ms) ++ optional (message_scope msg) expected_truth msg.condition =
    ap conditions_of (take_more ms i msg within ∙ ap (λ (x : Message). take i ms ++ x ∷ []) (sym is)) ∙ flat_map-append (λ y. optional (message_scope y) expected_truth y.condition) (take i ms) (msg ∷ [])
    ∙ ap (λ (ps : List Occurrence). conditions_of (take i ms) ++ ps) (append-nil (optional (message_scope msg) expected_truth msg.condition)) in
    subst (λ (ps : List Occurrence). Lists spec ps o n) (sym made) (Lists-then spec (conditions_of (take i ms)) (optional (message_scope msg) expected_truth msg.condition) g h)

-- the types of the rules' bodies and then those of the messages' conditions
pub all_listed : (spec : Spec) (rules : List PropRule) (messages : List Message) {o m n : List Typing} → o ≡ [] → rules ≡ spec.rules → messages ≡ spec.messages → Lists spec (map (body_of spec) rules) o m
    → Lists spec (conditions_of messages) m n → AreListed spec (wholes_of spec) n
all_listed spec rules messages {o} {m} {n} nothing first second g h =
    from_nothing spec (wholes_of spec) nothing
    (Lists-then spec (map (body_of spec) spec.rules) (conditions_of spec.messages) (subst (λ (rs : List PropRule). Lists spec (map (body_of spec) rs) o m) first g)
    (subst (λ (ms : List Message). Lists spec (conditions_of ms) m n) second h))

-- a message with a condition
pub condition_gathered : (spec : Spec) (m : Message) (e : Expr) {o n : Found} → m.condition ≡ Some e → Gathers o n (WholeHas spec (occurrence (message_scope m) expected_truth e)) → Gathers o n (ConditionHas spec m)
condition_gathered spec m e is g = Gathers-same g (λ at kind. (
  λ h. record { expr = e; is = is; has = h },
  λ h. subst (λ (x : Expr). FaultsWithin spec at kind (occurrence (message_scope m) expected_truth x)) (same_Some h.expr e (sym h.is ∙ is)) h.has,
))

among : {T : Type 0} (xs : List T) (k : ℕ) (x : T) → slice_get xs k ≡ Some x → Contains xs x
among xs k x is = (k, slice_get_within xs k x is, get_or_from_slice_get xs k x x is)

at_index : {T : Type 0} (xs : List T) (x : T) → (h : Contains xs x) → slice_get xs h.0 ≡ Some x
at_index xs x h = slice_get_read xs (length xs) h.0 x refl h.1 (sym h.2)

module _ (spec : Spec) (at : ℕ) (kind : SpecFaultKind) where
  abbrev Parts : Type 0
  Parts = SomeHas (λ k (rule : PropRule). WholeHas spec (body_of spec rule)) spec.rules at kind ⊎ SomeHas (λ k (m : Message). ConditionHas spec m) spec.messages at kind

  faulty_forth : Parts → IsFaultyExpression spec at kind
  faulty_forth (inl h) = body h.item kind (among spec.rules h.at h.item h.is) h.has
  faulty_forth (inr h) = condition h.item h.has.expr kind (among spec.messages h.at h.item h.is) h.has.is h.has.has

  faulty_back : IsFaultyExpression spec at kind → Parts
  faulty_back (body rule k h has) = inl (record { at = h.0; item = rule; is = at_index spec.rules rule h; has = has })
  faulty_back (condition m e k h is has) = inr (record { at = h.0; item = m; is = at_index spec.messages m h; has = record { expr = e; is = is; has = has } })

-- the faults of the rules and then those of the messages
pub all_gathered : (spec : Spec) (rules : List PropRule) (messages : List Message) {o m n : Found} → rules ≡ spec.rules → messages ≡ spec.messages
    → Gathers o m (SomeHas (λ k (rule : PropRule). WholeHas spec (body_of spec rule)) rules) → Gathers m n (SomeHas (λ k (message : Message). ConditionHas spec message) messages) → Gathers o n (IsFaultyExpression spec)
all_gathered spec rules messages {o} {m} {n} first second g h =
    Gathers-same
    (Gathers-then (subst (λ (rs : List PropRule). Gathers o m (SomeHas (λ k (rule : PropRule). WholeHas spec (body_of spec rule)) rs)) first g)
    (subst (λ (ms : List Message). Gathers m n (SomeHas (λ k (message : Message). ConditionHas spec message) ms)) second h))
    (λ at kind. (faulty_forth spec at kind, faulty_back spec at kind))
