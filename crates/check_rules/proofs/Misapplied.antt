-- Applications in patterns, by the parts of the patterns and by the signature.
use Rattle.std.proofs.Common.{◌≡◌, ℕ, Bool, true, false, List, [], ◌∷◌, length, Option, Some, None, is_some, bytes_eq, refl, sym, ap, subst, ◌∙◌, inl, inr, true≢false, zero, suc, arith}
use Rattle.std.specs.Prelude.{◌⊎◌, ◌↔◌, ◌==◌, ◌&&◌, ◌||◌, slice_get, if◌then◌else◌}
use Rattle.std.specs.List.{list_any}
use Rattle.std.specs.Option.{option_map_or}
use Rattle.std.proofs.lemmas.Option.{same_Some, slice_get_within}
use Rattle.check_base.specs.Earliest.{Either, Gathers, SomeHas}
use Rattle.check_base.proofs.GathersLaws.{Found, Gathers-same, Gathers-then, Gathers-none}
use Rattle.flow_syntax.specs.declared.fault.SpecFaultKind.{SpecFaultKind}
use Rattle.flow_syntax.specs.declared.fault.SpecFaultKind.TheVariants as kinds
use Rattle.flow_syntax.specs.declared.pattern.Pattern.{Pattern, out-Pattern}
use Rattle.flow_syntax.specs.declared.pattern.PatternKind.{out-PatternKind}
use Rattle.flow_syntax.specs.declared.pattern.PatternKind.TheVariants as patterns
use Rattle.flow_syntax.specs.declared.pattern.PatternKind.TheOpen.{PatternKind-F}
use Rattle.flow_syntax.specs.declared.signature.Signature.{Signature}
use Rattle.flow_syntax.specs.declared.spec.Spec.{Spec}
use Rattle.flow_syntax.specs.Matching.{PatternLayer, pattern_layer}
use Rattle.flow_syntax.specs.RuleFaults.{IsMisapplied, IsWithin, is_constructor, is_constructor_with, part, pattern_parts, whole}
use Rattle.flow_syntax.proofs.Listed.{at_in, in_at}
use Rattle.check_rules.specs.Faults.{IsMisappliedIn, IsMisappliedItself, IsMisappliedWithin, MisappliedAs}
use Rattle.check_rules.proofs.PatternLayers.{layer_of_apply, layer_of_held, layer_of_items, layer_of_tuple}
use Rattle.check_base.specs.declared.names.Names.{Names}
use Rattle.flow_syntax.specs.DeclFaults.{constructors}
use Rattle.check_base.specs.Names.{is_called}
use Rattle.check_base.specs.Tables.{AreNames, constructor_in, is_constructor_in}
use Rattle.check_base.proofs.TableLemmas.{is_some-position_from}

-- BY PARTS

-- the faults of a layer itself and of its parts
abbrev pub ByParts : Names → PatternLayer → ℕ → ℕ → SpecFaultKind → Type 0
ByParts names layer at = Either (IsMisappliedItself names layer at) (SomeHas (λ k. IsMisappliedWithin names) (pattern_parts layer))

within_parts : (names : Names) (place : ℕ) (kind : SpecFaultKind) (q p : Pattern) → IsWithin q p → IsMisappliedItself names (pattern_layer q) (out-Pattern q).place place kind → ByParts names (pattern_layer p) (out-Pattern p).place place kind
within_parts names place kind q _ whole m = inl m
within_parts names place kind q _ (part p r c w) m =
    let k = in_at (pattern_parts (pattern_layer p)) r c in
    inr (record { at = k.0; item = r; is = k.1; has = record { q = q; within = w; misapplied = m } })

parts_within : (names : Names) (place : ℕ) (kind : SpecFaultKind) (p : Pattern) → ByParts names (pattern_layer p) (out-Pattern p).place place kind → IsMisappliedWithin names p place kind
parts_within names place kind p (inl m) = record { q = p; within = whole; misapplied = m }
parts_within names place kind p (inr h) = record { q = h.has.q; within = part p h.item (at_in (pattern_parts (pattern_layer p)) h.at h.item h.is) h.has.within; misapplied = h.has.misapplied }

module _ (names : Names) (p : Pattern) {old new : Found} where
  by_layer : (layer : PatternLayer) → pattern_layer p ≡ layer → Gathers old new (ByParts names layer (out-Pattern p).place) → Gathers old new (IsMisappliedWithin names p)
  by_layer layer e g = Gathers-same g (λ place kind. (
    λ h. parts_within names place kind p (subst (λ (y : PatternLayer). ByParts names y (out-Pattern p).place place kind) (sym e) h),
    λ h. subst (λ (y : PatternLayer). ByParts names y (out-Pattern p).place place kind) e (within_parts names place kind h.q p h.within h.misapplied),
  ))

  -- of a list's items alone
  parts_alone : (layer : PatternLayer) (parts ps : List Pattern) → pattern_layer p ≡ layer → IsMisappliedItself names layer (out-Pattern p).place ≡ (λ place kind. ⊥) → pattern_parts layer ≡ parts → ps ≡ parts
      → Gathers old new (SomeHas (λ k. IsMisappliedWithin names) ps) → Gathers old new (IsMisappliedWithin names p)
  parts_alone layer parts ps e itself are same g = by_layer layer e (Gathers-same g (λ place kind. (
    λ h. inr (subst (λ (xs : List Pattern). SomeHas (λ k. IsMisappliedWithin names) xs place kind) (same ∙ sym are) h),
    λ h. elim h [
      | inl m ↦ absurd (subst (λ (F : ℕ → SpecFaultKind → Type 0). F place kind) itself m)
      | inr m ↦ subst (λ (xs : List Pattern). SomeHas (λ k. IsMisappliedWithin names) xs place kind) (are ∙ sym same) m
    ],
  )))

  pub of_list : (parts ps : List Pattern) → ((out-Pattern p).kind ≡ patterns.Tuple parts) ⊎ ((out-Pattern p).kind ≡ patterns.Items parts) → ps ≡ parts
      → Gathers old new (SomeHas (λ k. IsMisappliedWithin names) ps) → Gathers old new (IsMisappliedWithin names p)
  of_list parts ps (inl is) same g = parts_alone (PatternKind-F.Tuple parts) parts ps (ap out-PatternKind is ∙ layer_of_tuple parts) refl refl same g
  of_list parts ps (inr is) same g = parts_alone (PatternKind-F.Items parts) parts ps (ap out-PatternKind is ∙ layer_of_items parts) refl refl same g

  pub of_held : (x : List ℕ) (inner q : Pattern) → (out-Pattern p).kind ≡ patterns.Held x inner → q ≡ inner → Gathers old new (IsMisappliedWithin names q) → Gathers old new (IsMisappliedWithin names p)
  of_held x inner q is same g = parts_alone (PatternKind-F.Held x inner) (q ∷ []) (q ∷ []) (ap out-PatternKind is ∙ layer_of_held x inner) refl (ap (λ r. r ∷ []) (sym same)) refl
      (Gathers-same g (λ place kind. (λ h. record { at = 0; item = q; is = refl; has = h }, λ h. alone place kind h)))
    where
      one_at : (k : ℕ) (r : Pattern) → slice_get (q ∷ []) k ≡ Some r → r ≡ q
      one_at zero r e = sym (same_Some q r e)
      one_at (suc k) r e = absurd (omega (arith, slice_get_within (q ∷ []) (suc k) r e))

      alone : (place : ℕ) (kind : SpecFaultKind) → SomeHas (λ k. IsMisappliedWithin names) (q ∷ []) place kind → IsMisappliedWithin names q place kind
      alone place kind h = subst (λ (r : Pattern). IsMisappliedWithin names r place kind) (one_at h.at h.item h.is) h.has

module _ (names : Names) (p : Pattern) {old mid new : Found} where
  pub of_apply : (c : List ℕ) (parts ps : List Pattern) (n : ℕ) → (out-Pattern p).kind ≡ patterns.Apply c parts → n ≡ length parts → ps ≡ parts → Gathers old mid (MisappliedAs names c n (out-Pattern p).place)
      → Gathers mid new (SomeHas (λ k. IsMisappliedWithin names) ps) → Gathers old new (IsMisappliedWithin names p)
  of_apply c parts ps n is count same g h = by_layer names p (PatternKind-F.Apply c parts) (ap out-PatternKind is ∙ layer_of_apply c parts)
      (Gathers-then (subst (λ (m : ℕ). Gathers old mid (MisappliedAs names c m (out-Pattern p).place)) count g) (subst (λ (xs : List Pattern). Gathers mid new (SomeHas (λ k. IsMisappliedWithin names) xs)) same h))

-- BY THE SIGNATURE

none_of_both : {T : Type 0} (a b : T → Bool) (xs : List T) → list_any a xs ≡ false → list_any (λ x. a x && b x) xs ≡ false
none_of_both a b [] h = refl
none_of_both a b (x ∷ xs) h = by (a x) (λ k. none_of_both a b xs k) h
  where
    by : (t : Bool) → (list_any a xs ≡ false → list_any (λ y. a y && b y) xs ≡ false) → (t || list_any a xs) ≡ false → ((t && b x) || list_any (λ y. a y && b y) xs) ≡ false
    by true rest k = absurd (true≢false k)
    by false rest k = rest k

some_of : {A : Type 0} (o : Option A) → is_some o ≡ true → (a : A) × (o ≡ Some a)
some_of None h = absurd (true≢false (sym h))
some_of (Some a) h = (a, refl)

module _ (spec : Spec) (names : Names) (right : AreNames spec names) (s : Signature) (declared : spec.signature ≡ Some s) where
  known : (x : List ℕ) → is_constructor_in names x ≡ is_constructor s x
  known x = right.constructor_names x ∙ ap (λ o. list_any (λ c. is_called x c.name) (option_map_or (λ (t : Signature). t.constructors) o [])) declared

  fits : (x : List ℕ) (n : ℕ) → is_some (constructor_in names x n) ≡ is_constructor_with s x n
  fits x n =
      ap is_some (right.constructors x n) ∙ is_some-position_from (λ c. is_called x c.name && (n == length c.args)) 0 (constructors spec)
      ∙ ap (λ o. list_any (λ c. is_called x c.name && (n == length c.args)) (option_map_or (λ (t : Signature). t.constructors) o [])) declared

  kind_of : (c : List ℕ) (parts : List Pattern) (b : Bool) (kind : SpecFaultKind) → is_constructor s c ≡ b → is_constructor_with s c (length parts) ≡ false → kind ≡ (if b then kinds.Arity else kinds.Unknown)
      → IsMisapplied s (PatternKind-F.Apply c parts) kind
  kind_of c parts true kind e f same = subst (IsMisapplied s (PatternKind-F.Apply c parts)) (sym same) (e, f)
  kind_of c parts false kind e f same = subst (IsMisapplied s (PatternKind-F.Apply c parts)) (sym same) e

  of_kind : (c : List ℕ) (parts : List Pattern) (kind : SpecFaultKind) → IsMisapplied s (PatternKind-F.Apply c parts) kind → (is_constructor_with s c (length parts) ≡ false) × (kind ≡ (if is_constructor s c then kinds.Arity else kinds.Unknown))
  of_kind c parts kinds.Unknown h = (none_of_both (λ d. bytes_eq c d.name.text) (λ d. length parts == length d.args) s.constructors h, sym (ap (λ b. if b then kinds.Arity else kinds.Unknown) h))
  of_kind c parts kinds.Arity h = (h.1, sym (ap (λ b. if b then kinds.Arity else kinds.Unknown) h.0))
  of_kind c parts _ h = absurd h

  itself : (layer : PatternLayer) (at place : ℕ) (kind : SpecFaultKind) → IsMisappliedItself names layer at place kind → IsMisapplied s layer kind × (place ≡ at)
  itself (PatternKind-F.Apply c parts) at place kind h = (
    kind_of c parts (is_constructor s c) kind refl (sym (fits c (length parts)) ∙ h.0) (h.1.1 ∙ ap (λ b. if b then kinds.Arity else kinds.Unknown) (known c)),
    h.1.0,
  )
  itself _ at place kind h = absurd h

  by_itself : (layer : PatternLayer) (at place : ℕ) (kind : SpecFaultKind) → IsMisapplied s layer kind → place ≡ at → IsMisappliedItself names layer at place kind
  by_itself (PatternKind-F.Apply c parts) at place kind h e =
      let o = of_kind c parts kind h in
      (fits c (length parts) ∙ o.0, (e, o.1 ∙ sym (ap (λ b. if b then kinds.Arity else kinds.Unknown) (known c))))
  by_itself _ at place kind h e = absurd h

  by_signature : (p : Pattern) (place : ℕ) (kind : SpecFaultKind) → IsMisappliedWithin names p place kind ↔ IsMisappliedIn spec p place kind
  by_signature p place kind = (forth, back)
    where
      forth : IsMisappliedWithin names p place kind → IsMisappliedIn spec p place kind
      forth h = let m = itself (pattern_layer h.q) (out-Pattern h.q).place place kind h.misapplied in
          record { signature = s; q = h.q; declared = declared; within = h.within; misapplied = m.0; stands = m.1 }

      same : (t : Signature) → spec.signature ≡ Some t → t ≡ s
      same t e = let h : Some t ≡ Some s = sym e ∙ declared in cc

      back : IsMisappliedIn spec p place kind → IsMisappliedWithin names p place kind
      back h = record {
        q = h.q;
        within = h.within;
        misapplied = by_itself (pattern_layer h.q) (out-Pattern h.q).place place kind (subst (λ (t : Signature). IsMisapplied t (pattern_layer h.q) kind) (same h.signature h.declared) h.misapplied) h.stands;
      }

-- with a signature
pub gathers_signed : (spec : Spec) (names : Names) (p : Pattern) {old new : Found} → AreNames spec names → is_some spec.signature ≡ true → Gathers old new (IsMisappliedWithin names p) → Gathers old new (IsMisappliedIn spec p)
gathers_signed spec names p right signed g = let s = some_of spec.signature signed in Gathers-same g (by_signature spec names right s.0 s.1 p)

-- without one
pub gathers_unsigned : (spec : Spec) (p : Pattern) (old : Found) → is_some spec.signature ≡ false → Gathers old old (IsMisappliedIn spec p)
gathers_unsigned spec p old none = Gathers-none old (λ place kind h. true≢false (ap is_some (sym h.declared) ∙ none))
