-- The faults of variables, from those of rules and messages.
use Rattle.std.proofs.Common.{◌≡◌, ℕ, List, refl, sym, subst, inl, inr}
use Rattle.check_base.specs.Earliest.{Either, Gathers, SomeHas}
use Rattle.check_base.proofs.GathersLaws.{Found, Gathers-same, Gathers-then}
use Rattle.flow_syntax.specs.declared.fault.SpecFaultKind.{SpecFaultKind}
use Rattle.flow_syntax.specs.declared.message.Message.{Message}
use Rattle.flow_syntax.specs.declared.property.PropRule.{PropRule}
use Rattle.flow_syntax.specs.declared.rule.FlowRule.{FlowRule}
use Rattle.flow_syntax.specs.declared.spec.Spec.{Spec}
use Rattle.flow_syntax.specs.Binders.{Binder}
use Rattle.flow_syntax.specs.VariableFaults.{IsFaultyVariable, binders_of_head, binders_of_message, binders_of_rule, head_variable, message_part, message_variable, rule_variable}
use Rattle.flow_syntax.proofs.Listed.{at_in, in_at}
use Rattle.check_rules.specs.Faults.{HasLoosePart, RebindsIn}

abbrev Rebinding : {T : Type 0} → Spec → (T → List Binder) → List T → ℕ → SpecFaultKind → Type 0
Rebinding spec binders = SomeHas (λ k whole. RebindsIn spec (binders whole))

abbrev Parts : Spec → ℕ → SpecFaultKind → Type 0
Parts spec =
    Either (Either (Either (Rebinding spec binders_of_head spec.control) (Rebinding spec binders_of_rule spec.rules)) (Rebinding spec binders_of_message spec.messages)) (SomeHas (λ k. HasLoosePart) spec.messages)

module _ (spec : Spec) (place : ℕ) (kind : SpecFaultKind) where
  whole_of : Parts spec place kind → IsFaultyVariable spec place kind
  whole_of (inl (inl (inl h))) = subst (IsFaultyVariable spec place) (sym h.has.1) (head_variable h.item (at_in spec.control h.at h.item h.is) h.has.0)
  whole_of (inl (inl (inr h))) = subst (IsFaultyVariable spec place) (sym h.has.1) (rule_variable h.item (at_in spec.rules h.at h.item h.is) h.has.0)
  whole_of (inl (inr h)) = subst (IsFaultyVariable spec place) (sym h.has.1) (message_variable h.item (at_in spec.messages h.at h.item h.is) h.has.0)
  whole_of (inr h) = subst (IsFaultyVariable spec place) (sym h.has.stands) (message_part h.item h.has.loose_part (at_in spec.messages h.at h.item h.is) h.has.among h.has.loose)

parts_of_whole : (spec : Spec) (place : ℕ) (kind : SpecFaultKind) → IsFaultyVariable spec place kind → Parts spec place kind
parts_of_whole spec place _ (head_variable rule c h) = let k = in_at spec.control rule c in inl (inl (inl (record { at = k.0; item = rule; is = k.1; has = (h, refl) })))
parts_of_whole spec place _ (rule_variable rule c h) = let k = in_at spec.rules rule c in inl (inl (inr (record { at = k.0; item = rule; is = k.1; has = (h, refl) })))
parts_of_whole spec place _ (message_variable m c h) = let k = in_at spec.messages m c in inl (inr (record { at = k.0; item = m; is = k.1; has = (h, refl) }))
parts_of_whole spec place _ (message_part m p c among h) =
    let k = in_at spec.messages m c in inr (record { at = k.0; item = m; is = k.1; has = record { loose_part = p; among = among; loose = h; stands = refl } })

-- what is gathered of all parts is gathered of the whole
pub gathers_variables : (spec : Spec) (control : List FlowRule) (rules : List PropRule) (bound messages : List Message) {old one two three new : Found} → control ≡ spec.control → rules ≡ spec.rules → bound ≡ spec.messages
    → messages ≡ spec.messages → Gathers old one (Rebinding spec binders_of_head control) → Gathers one two (Rebinding spec binders_of_rule rules) → Gathers two three (Rebinding spec binders_of_message bound)
    → Gathers three new (SomeHas (λ k. HasLoosePart) messages) → Gathers old new (IsFaultyVariable spec)
gathers_variables spec control rules bound messages {old} {one} {two} {three} {new} c r b m f g h k = Gathers-same
    (Gathers-then
    (Gathers-then
    (Gathers-then
    (subst (λ (xs : List FlowRule). Gathers old one (Rebinding spec binders_of_head xs)) c f)
    (subst (λ (xs : List PropRule). Gathers one two (Rebinding spec binders_of_rule xs)) r g))
    (subst (λ (xs : List Message). Gathers two three (Rebinding spec binders_of_message xs)) b h))
    (subst (λ (xs : List Message). Gathers three new (SomeHas (λ k. HasLoosePart) xs)) m k))
    (λ place kind. (λ h. whole_of spec place kind h, λ h. parts_of_whole spec place kind h))
