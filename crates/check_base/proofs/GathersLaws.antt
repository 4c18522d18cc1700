-- What is gathered in turn, from nothing, from lists and from other names of the same faults.
use Rattle.std.proofs.Common.{◌≡◌, ℕ, ◌+◌, ◌<◌, ◌≤◌, List, length, get_or, Option, Some, None, refl, sym, ap, subst, ◌∙◌, inl, inr, arith}
use Rattle.std.specs.Prelude.{◌⊎◌, ◌↔◌, slice_get, IsSomeAnd}
use Rattle.std.proofs.Math.Nat.{eq-or-lt_of_le}
use Rattle.std.proofs.lemmas.Option.{slice_get_read, slice_get_within, same_Some}
use Rattle.flow_syntax.specs.declared.fault.SpecFaultKind.{SpecFaultKind}
use Rattle.check_base.specs.Earliest.{Gathers, IsNoLater, FirstHave, SomeHas, NoFault, Either}

abbrev pub Found : Type 0
Found = Option (ℕ × SpecFaultKind)

itself : (fault : ℕ × SpecFaultKind) → IsNoLater fault fault
itself fault = inr (refl, omega arith)

no_later_in_turn : (a b c : ℕ × SpecFaultKind) → IsNoLater a b → IsNoLater b c → IsNoLater a c
no_later_in_turn a b c (inl p) (inl q) = inl (omega arith)
no_later_in_turn a b c (inl p) (inr q) = inl (omega (arith, q.0))
no_later_in_turn a b c (inr p) (inl q) = inl (omega (arith, p.0))
no_later_in_turn a b c (inr p) (inr q) = inr (p.0 ∙ q.0, omega (arith, p.1, q.1))

met_itself : (new : Found) (fault : ℕ × SpecFaultKind) → new ≡ Some fault → IsSomeAnd new (λ found. IsNoLater found fault)
met_itself None fault h = cc
met_itself (Some found) fault h = subst (λ (f : ℕ × SpecFaultKind). IsNoLater found f) (same_Some found fault h) (itself found)

-- no later than something that new is no later than
carried : (mid new : Found) (fault : ℕ × SpecFaultKind) → ((f : ℕ × SpecFaultKind) → mid ≡ Some f → IsSomeAnd new (λ found. IsNoLater found f)) → IsSomeAnd mid (λ found. IsNoLater found fault)
    → IsSomeAnd new (λ found. IsNoLater found fault)
carried None new fault kept h = absurd h
carried (Some f) new fault kept h = onward new (kept f refl)
  where
    onward : (o : Found) → IsSomeAnd o (λ found. IsNoLater found f) → IsSomeAnd o (λ found. IsNoLater found fault)
    onward None g = g
    onward (Some found) g = no_later_in_turn found f fault g h

-- nothing is gathered
pub Gathers-nothing : (old : Found) → Gathers old old NoFault
Gathers-nothing old = record {
  known = λ place kind h. inl h;
  kept = λ fault h. met_itself old fault h;
  each = λ place kind h. absurd h;
}

module _ {old mid new : Found} {P Q : ℕ → SpecFaultKind → Type 0} where
  -- one after the other
  pub Gathers-then : Gathers old mid P → Gathers mid new Q → Gathers old new (Either P Q)
  Gathers-then p q = record {
    known = λ place kind h. elim (q.known place kind h) [
      | inl in_mid ↦ elim (p.known place kind in_mid) [ inl in_old ↦ inl in_old | inr hp ↦ inr (inl hp) ]
      | inr hq ↦ inr (inr hq)
    ];
    kept = λ fault h. carried mid new fault q.kept (p.kept fault h);
    each = λ place kind h. elim h [ inl hp ↦ carried mid new (place, kind) q.kept (p.each place kind hp) | inr hq ↦ q.each place kind hq ];
  }

module _ {old new : Found} {P Q : ℕ → SpecFaultKind → Type 0} where
  -- the same, said in another way
  pub Gathers-same : Gathers old new P → ((place : ℕ) (kind : SpecFaultKind) → P place kind ↔ Q place kind) → Gathers old new Q
  Gathers-same p same = record {
    known = λ place kind h. elim (p.known place kind h) [ inl in_old ↦ inl in_old | inr hp ↦ inr ((same place kind).0 hp) ];
    kept = p.kept;
    each = λ place kind h. p.each place kind ((same place kind).1 h);
  }

-- nothing is gathered where nothing is a fault
pub Gathers-none : (old : Found) {P : ℕ → SpecFaultKind → Type 0} → ((place : ℕ) (kind : SpecFaultKind) → ¬ P place kind) → Gathers old old P
Gathers-none old none = Gathers-same (Gathers-nothing old) (λ place kind. (λ h. absurd h, λ h. none place kind h))

module _ {T : Type 0} {P : ℕ → T → ℕ → SpecFaultKind → Type 0} (xs : List T) where
  -- nothing of none of a list
  pub Gathers-start : (old : Found) → Gathers old old (FirstHave P 0 xs)
  Gathers-start old = Gathers-none old (λ place kind h. let before : h.at < 0 = h.before in absurd (omega arith))

  module _ {old mid new : Found} where
    -- one item more of a list
    pub Gathers-next : (n : ℕ) (x : T) → slice_get xs n ≡ Some x → Gathers old mid (FirstHave P n xs) → Gathers mid new (P n x) → Gathers old new (FirstHave P (n + 1) xs)
    Gathers-next n x is before here = Gathers-same (Gathers-then before here) (λ place kind. (forth place kind, back place kind))
      where
        forth : (place : ℕ) (kind : SpecFaultKind) → FirstHave P n xs place kind ⊎ P n x place kind → FirstHave P (n + 1) xs place kind
        forth place kind (inl h) = record { at = h.at; item = h.item; before = (let b : h.at < n = h.before in omega arith); is = h.is; has = h.has }
        forth place kind (inr h) = record { at = n; item = x; before = omega arith; is = is; has = h }

        by : (place : ℕ) (kind : SpecFaultKind) (k : ℕ) (y : T) → (k ≡ n) ⊎ (k < n) → slice_get xs k ≡ Some y → P k y place kind → FirstHave P n xs place kind ⊎ P n x place kind
        by place kind k y (inr less) at has = inl (record { at = k; item = y; before = less; is = at; has = has })
        by place kind k y (inl same) at has =
            let one : y ≡ x = same_Some y x (sym at ∙ ap (slice_get xs) same ∙ is) in
            inr (subst (λ (z : T). P n z place kind) one (subst (λ (m : ℕ). P m y place kind) same has))

        back : (place : ℕ) (kind : SpecFaultKind) → FirstHave P (n + 1) xs place kind → FirstHave P n xs place kind ⊎ P n x place kind
        back place kind h = by place kind h.at h.item (eq-or-lt_of_le (let b : h.at < n + 1 = h.before in omega arith)) h.is h.has

    -- the same of the item that was read at a number
    pub Gathers-read : (n : ℕ) (x : T) → n < length xs → x ≡ get_or xs n x → Gathers old mid (FirstHave P n xs) → Gathers mid new (P n x) → Gathers old new (FirstHave P (n + 1) xs)
    Gathers-read n x within is = Gathers-next n x (slice_get_read xs (length xs) n x refl within is)

  module _ {old new : Found} where
    -- all of a list
    pub Gathers-all : (n : ℕ) → length xs ≤ n → Gathers old new (FirstHave P n xs) → Gathers old new (SomeHas P xs)
    Gathers-all n all g = Gathers-same g (λ place kind. (
      λ h. record { at = h.at; item = h.item; is = h.is; has = h.has },
      λ h. record { at = h.at; item = h.item; before = (let w : h.at < length xs = slice_get_within xs h.at h.item h.is in omega arith); is = h.is; has = h.has },
    ))
