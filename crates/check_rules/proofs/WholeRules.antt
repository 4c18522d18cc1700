-- The faults of control rules and patterns, from those of their parts.
use Rattle.std.proofs.Common.{◌≡◌, ℕ, List, ◌++◌, length, map, Option, Some, None, refl, sym, ap, subst, ◌∙◌, inl, inr}
use Rattle.std.specs.Prelude.{Contains, slice_get}
use Rattle.std.specs.Option.{option_map}
use Rattle.std.proofs.lemmas.List.Elements.{Contains-append_left, Contains-append_right, Contains-append_cases}
use Rattle.std.proofs.lemmas.Option.{same_Some, slice_get-map}
use Rattle.check_base.specs.Earliest.{Either, Gathers, SomeHas}
use Rattle.check_base.proofs.GathersLaws.{Found, Gathers-same, Gathers-then}
use Rattle.flow_syntax.specs.declared.fault.SpecFaultKind.{SpecFaultKind}
use Rattle.flow_syntax.specs.declared.fault.SpecFaultKind.TheVariants as kinds
use Rattle.flow_syntax.specs.declared.message.Message.{Message}
use Rattle.flow_syntax.specs.declared.pattern.Pattern.{Pattern}
use Rattle.flow_syntax.specs.declared.property.PropRule.{PropRule}
use Rattle.flow_syntax.specs.declared.rule.FlowRule.{FlowRule}
use Rattle.flow_syntax.specs.declared.spec.Spec.{Spec}
use Rattle.flow_syntax.specs.ExprFaults.{trigger_pattern}
use Rattle.flow_syntax.specs.RuleFaults.{IsFaultyRule, misapplied, misnamed_item, mixed_item, pattern_depth, patterns_of, wrong_end}
use Rattle.flow_syntax.proofs.Listed.{at_in, in_at}
use Rattle.check_rules.specs.Faults.{HasFaultyItem, HasFaultyMessage, HasFaultyTrigger, IsFaultyControl, IsFaultyItem, IsFaultyPattern}
use Rattle.check_rules.proofs.ItemLemmas.{is_misplaced_at, misplaced_is}

-- what a list's item makes
mapped_in : {A B : Type 0} (f : A → B) (xs : List A) (k : ℕ) (x : A) → slice_get xs k ≡ Some x → Contains (map f xs) (f x)
mapped_in f xs k x e = at_in (map f xs) k (f x) (slice_get-map f xs k ∙ ap (option_map f) e)

in_mapped : {A B : Type 0} (f : A → B) (xs : List A) (y : B) → Contains (map f xs) y → (k : ℕ) × (x : A) × (slice_get xs k ≡ Some x) × (f x ≡ y)
in_mapped f xs y c = let k = in_at (map f xs) y c in by k.0 (slice_get xs k.0) refl (sym (slice_get-map f xs k.0) ∙ k.1)
  where
    by : (k : ℕ) (o : Option _) → slice_get xs k ≡ o → option_map f o ≡ Some y → (k : ℕ) × (x : _) × (slice_get xs k ≡ Some x) × (f x ≡ y)
    by k None e h = cc
    by k (Some x) e h = (k, x, e, same_Some (f x) y h)

module _ (spec : Spec) (place : ℕ) (kind : SpecFaultKind) where
  pattern_fault : (p : Pattern) → Contains (patterns_of spec) p → IsFaultyPattern spec p place kind → IsFaultyRule spec place kind
  pattern_fault p c (inl h) = misapplied h.signature p h.q kind h.declared c h.within h.misapplied h.stands
  pattern_fault p c (inr h) = subst (IsFaultyRule spec place) (sym h.2) (pattern_depth p c h.0 h.1)

  of_head : (k : ℕ) (rule : FlowRule) → slice_get spec.control k ≡ Some rule → Contains (patterns_of spec) rule.head
  of_head k rule e =
      Contains-append_left (map (λ (r : FlowRule). r.head) spec.control ++ map (λ (r : PropRule). trigger_pattern r.trigger) spec.rules) (map (λ (m : Message). m.pattern) spec.messages) rule.head
      (Contains-append_left (map (λ (r : FlowRule). r.head) spec.control) (map (λ (r : PropRule). trigger_pattern r.trigger) spec.rules) rule.head (mapped_in (λ (r : FlowRule). r.head) spec.control k rule e))

  of_trigger : (k : ℕ) (rule : PropRule) → slice_get spec.rules k ≡ Some rule → Contains (patterns_of spec) (trigger_pattern rule.trigger)
  of_trigger k rule e =
      Contains-append_left (map (λ (r : FlowRule). r.head) spec.control ++ map (λ (r : PropRule). trigger_pattern r.trigger) spec.rules) (map (λ (m : Message). m.pattern) spec.messages) (trigger_pattern rule.trigger)
      (Contains-append_right (map (λ (r : FlowRule). r.head) spec.control) (map (λ (r : PropRule). trigger_pattern r.trigger) spec.rules) (trigger_pattern rule.trigger)
      (mapped_in (λ (r : PropRule). trigger_pattern r.trigger) spec.rules k rule e))

  of_message : (k : ℕ) (m : Message) → slice_get spec.messages k ≡ Some m → Contains (patterns_of spec) m.pattern
  of_message k m e =
      Contains-append_right (map (λ (r : FlowRule). r.head) spec.control ++ map (λ (r : PropRule). trigger_pattern r.trigger) spec.rules) (map (λ (n : Message). n.pattern) spec.messages) m.pattern
      (mapped_in (λ (n : Message). n.pattern) spec.messages k m e)

  item_fault : (k : ℕ) (rule : FlowRule) → slice_get spec.control k ≡ Some rule → HasFaultyItem rule place kind → IsFaultyRule spec place kind
  item_fault k rule e (inl h) = of_item (at_in spec.control k rule e) (at_in rule.chains h.at h.item h.is) h.has.has
    where
      of_item : Contains spec.control rule → Contains rule.chains h.item → IsFaultyItem rule (length h.item.items) h.has.at h.has.item place kind → IsFaultyRule spec place kind
      of_item r c (inl m) = misnamed_item rule h.item h.has.item m.x kind r c (at_in h.item.items h.has.at h.has.item h.has.is) m.names m.misnamed m.stands
      of_item r c (inr m) = subst (IsFaultyRule spec place) (sym m.2) (wrong_end rule h.item h.has.at h.has.item r c h.has.is (misplaced_is rule.root (length h.item.items) h.has.at h.has.item.kind m.0) m.1)
  item_fault k rule e (inr h) =
      subst (IsFaultyRule spec place) (sym h.stands.1) (mixed_item rule h.earlier h.later h.a h.b h.x (at_in spec.control k rule e) h.first h.second h.before h.is_argument h.mixed h.stands.0)

  -- the faults of all parts
  abbrev Parts : Type 0
  Parts = Either (Either (SomeHas (λ k. IsFaultyControl spec) spec.control) (SomeHas (λ k. HasFaultyTrigger spec) spec.rules)) (SomeHas (λ k. HasFaultyMessage spec) spec.messages) place kind

  whole_of : Parts → IsFaultyRule spec place kind
  whole_of (inl (inl h)) = elim h.has [ inl p ↦ pattern_fault h.item.head (of_head h.at h.item h.is) p | inr i ↦ item_fault h.at h.item h.is i ]
  whole_of (inl (inr h)) = pattern_fault (trigger_pattern h.item.trigger) (of_trigger h.at h.item h.is) h.has
  whole_of (inr h) = pattern_fault h.item.pattern (of_message h.at h.item h.is) h.has

  of_pattern : (p : Pattern) → Contains (patterns_of spec) p → IsFaultyPattern spec p place kind → Parts
  of_pattern p c f = elim (Contains-append_cases (map (λ (r : FlowRule). r.head) spec.control ++ map (λ (r : PropRule). trigger_pattern r.trigger) spec.rules) (map (λ (m : Message). m.pattern) spec.messages) p c) [
    | inl d ↦ elim (Contains-append_cases (map (λ (r : FlowRule). r.head) spec.control) (map (λ (r : PropRule). trigger_pattern r.trigger) spec.rules) p d) [
      | inl h ↦ (let x = in_mapped (λ (r : FlowRule). r.head) spec.control p h in
          inl (inl (record { at = x.0; item = x.1; is = x.2; has = inl (subst (λ (q : Pattern). IsFaultyPattern spec q place kind) (sym x.3) f) })))
      | inr h ↦ (let x = in_mapped (λ (r : PropRule). trigger_pattern r.trigger) spec.rules p h in
          inl (inr (record { at = x.0; item = x.1; is = x.2; has = subst (λ (q : Pattern). IsFaultyPattern spec q place kind) (sym x.3) f })))
    ]
    | inr h ↦ (let x = in_mapped (λ (m : Message). m.pattern) spec.messages p h in inr (record { at = x.0; item = x.1; is = x.2; has = subst (λ (q : Pattern). IsFaultyPattern spec q place kind) (sym x.3) f }))
  ]

  of_rule : (rule : FlowRule) → Contains spec.control rule → HasFaultyItem rule place kind → Parts
  of_rule rule r h = let k = in_at spec.control rule r in inl (inl (record { at = k.0; item = rule; is = k.1; has = inr h }))

parts_of_whole : (spec : Spec) (place : ℕ) (kind : SpecFaultKind) → IsFaultyRule spec place kind → Parts spec place kind
parts_of_whole spec place _ (misapplied signature p q kind d c w m e) = of_pattern spec place kind p c (inl (record { signature = signature; q = q; declared = d; within = w; misapplied = m; stands = e }))
parts_of_whole spec place _ (pattern_depth p c d e) = of_pattern spec place kinds.Depth p c (inr (d, e, refl))
parts_of_whole spec place _ (misnamed_item rule chain it x kind r c i n m e) =
    let j = in_at rule.chains chain c in
    let k = in_at chain.items it i in
    of_rule spec place kind rule r (inl (record { at = j.0; item = chain; is = j.1; has = record { at = k.0; item = it; is = k.1; has = inl (record { x = x; names = n; misnamed = m; stands = e }) } }))
parts_of_whole spec place _ (wrong_end rule chain at it r c g m e) =
    let j = in_at rule.chains chain c in
    of_rule spec place kinds.WrongEnd rule r (inl (record { at = j.0; item = chain; is = j.1; has = record { at = at; item = it; is = g; has = inr (is_misplaced_at rule.root (length chain.items) at it.kind m, e, refl) } }))
parts_of_whole spec place _ (mixed_item rule j k a b x r f g l s m e) =
    of_rule spec place kinds.MixedItem rule r (inr (record { earlier = j; later = k; a = a; b = b; x = x; first = f; second = g; before = l; is_argument = s; mixed = m; stands = (e, refl) }))

-- what is gathered of all parts is gathered of the whole
pub gathers_rules : (spec : Spec) (control : List FlowRule) (rules : List PropRule) (messages : List Message) {old one two new : Found} → control ≡ spec.control → rules ≡ spec.rules → messages ≡ spec.messages
    → Gathers old one (SomeHas (λ k. IsFaultyControl spec) control) → Gathers one two (SomeHas (λ k. HasFaultyTrigger spec) rules) → Gathers two new (SomeHas (λ k. HasFaultyMessage spec) messages)
    → Gathers old new (IsFaultyRule spec)
gathers_rules spec control rules messages {old} {one} {two} {new} c r m a b d = Gathers-same
    (Gathers-then
    (Gathers-then
    (subst (λ (xs : List FlowRule). Gathers old one (SomeHas (λ k. IsFaultyControl spec) xs)) c a)
    (subst (λ (xs : List PropRule). Gathers one two (SomeHas (λ k. HasFaultyTrigger spec) xs)) r b))
    (subst (λ (xs : List Message). Gathers two new (SomeHas (λ k. HasFaultyMessage spec) xs)) m d))
    (λ place kind. (λ h. whole_of spec place kind h, λ h. parts_of_whole spec place kind h))
