-- The faults of all sections, and the names that are declared again, are the faults of declarations.
use Rattle.std.proofs.Common.{◌≡◌, ℕ, zero, suc, false, List, [], ◌∷◌, Option, Some, None, Contains, is_some, refl, sym, ap, subst, ◌∙◌, inl, inr, true≢false}
use Rattle.std.specs.Prelude.{◌⊎◌, slice_get, option_and_then}
use Rattle.std.specs.List.{flat_map}
use Rattle.std.specs.Option.{option_map_or}
use Rattle.std.proofs.lemmas.List.Elements.{Contains-append_left, Contains-append_right, Contains-append_cases}
use Rattle.flow_syntax.specs.declared.fault.SpecFaultKind.{SpecFaultKind}
use Rattle.flow_syntax.specs.declared.fault.SpecFaultKind.TheVariants as kinds
use Rattle.flow_syntax.specs.declared.signature.Signature.{Signature}
use Rattle.flow_syntax.specs.declared.spec.Named.{Named}
use Rattle.flow_syntax.specs.declared.spec.Spec.{Spec}
use Rattle.flow_syntax.specs.declared.tables.FunctionDecl.{FunctionDecl}
use Rattle.flow_syntax.specs.declared.tables.TableDecl.{TableDecl}
use Rattle.flow_syntax.specs.DeclFaults as decl
use Rattle.flow_syntax.specs.DeclFaults.{IsFaultyDeclaration, IsUnknown, constructors, sort_names}
use Rattle.flow_syntax.proofs.Listed.{at_in, in_at}
use Rattle.check_base.specs.Earliest.{Gathers, SomeHas}
use Rattle.check_base.proofs.GathersLaws.{Found, Gathers-same, Gathers-then}
use Rattle.check_base.proofs.ListLaws.{in_none}
use Rattle.check_base.specs.declared.names.Names.{Names}
use Rattle.check_base.specs.Tables.{AreNames, lattice_in}
use Rattle.check_base.proofs.TableLemmas.{none_from_is_some}
use Rattle.check_base.proofs.Finding.{found_lattice, is_some-element_of, is_some-enum, is_some-lattice, is_some-property, is_sort-signature}
use Rattle.check_decls.specs.declared.unknown.Space.TheVariants as space
use Rattle.check_decls.specs.inner.Noting.{AreUndeclared, OneHas, knows}
use Rattle.check_decls.specs.inner.Repeating.{RepeatedFaults}
use Rattle.check_decls.specs.inner.Sections.{ConstructorFaults, EntryFaults, FunctionFaults, LatticeFaults, PropertyFaults, RuleFaults, SectionFaults}

-- an item of what the items of a list stand for
flat_in : {X Y : Type 0} (f : X → List Y) (xs : List X) (x : X) (y : Y) → Contains xs x → Contains (f x) y → Contains (flat_map f xs) y
flat_in f xs x y among h = let k = in_at xs x among in go xs k.0 k.1
  where
    go : (zs : List _) (k : ℕ) → slice_get zs k ≡ Some x → Contains (flat_map f zs) y
    go [] k e = cc
    go (z ∷ zs) zero e = let same : z ≡ x = cc in Contains-append_left (f z) (flat_map f zs) y (subst (λ w. Contains (f w) y) (sym same) h)
    go (z ∷ zs) (suc k) e = Contains-append_right (f z) (flat_map f zs) y (go zs k e)

in_flat : {X Y : Type 0} (f : X → List Y) (xs : List X) (y : Y) → Contains (flat_map f xs) y → (x : X) × Contains xs x × Contains (f x) y
in_flat f [] y h = absurd (in_none y h)
in_flat f (x ∷ xs) y h = elim (Contains-append_cases (f x) (flat_map f xs) y h) [
  | inl here ↦ (x, at_in (x ∷ xs) 0 x refl, here)
  | inr later ↦ (let rest = in_flat f xs y later in (rest.0, Contains-append_right (x ∷ []) xs rest.0 rest.1, rest.2))
]

module _ (spec : Spec) (names : Names) (are : AreNames spec names) where
  -- WHAT ISN'T KNOWN ISN'T DECLARED

  no_enum : (x : List ℕ) → knows names space.Enums x ≡ false → decl.enum_named spec x ≡ None
  no_enum x h = none_from_is_some (decl.enum_named spec x) (is_some-enum spec names are x ∙ h)

  enum_unknown : (x : List ℕ) → decl.enum_named spec x ≡ None → knows names space.Enums x ≡ false
  enum_unknown x e = sym (is_some-enum spec names are x) ∙ ap is_some e

  no_lattice : (x : List ℕ) → knows names space.Lattices x ≡ false → decl.lattice_named spec x ≡ None
  no_lattice x h = none_from_is_some (decl.lattice_named spec x) (is_some-lattice spec names are x ∙ h)

  lattice_unknown : (x : List ℕ) → decl.lattice_named spec x ≡ None → knows names space.Lattices x ≡ false
  lattice_unknown x e = sym (is_some-lattice spec names are x) ∙ ap is_some e

  -- the number of a lattice that is declared
  lattice_number : (x : List ℕ) (l : TableDecl) → decl.lattice_named spec x ≡ Some l → (n : ℕ) × (lattice_in names x ≡ Some n) × (slice_get spec.lattices n ≡ Some l)
  lattice_number x l e = by (lattice_in names x) refl
    where
      by : (o : Option ℕ) → lattice_in names x ≡ o → (n : ℕ) × (lattice_in names x ≡ Some n) × (slice_get spec.lattices n ≡ Some l)
      by None h = absurd (true≢false (ap is_some (sym e) ∙ is_some-lattice spec names are x ∙ ap is_some h))
      by (Some n) h = (n, h, ap (option_and_then (slice_get spec.lattices)) (sym h) ∙ sym (found_lattice spec names are x) ∙ e)

  -- the lattice with a number that is answered
  numbered_lattice : (x : List ℕ) (n : ℕ) → lattice_in names x ≡ Some n → (l : TableDecl) × (decl.lattice_named spec x ≡ Some l) × (slice_get spec.lattices n ≡ Some l)
  numbered_lattice x n e = by (slice_get spec.lattices n) refl
    where
      found : decl.lattice_named spec x ≡ slice_get spec.lattices n
      found = found_lattice spec names are x ∙ ap (option_and_then (slice_get spec.lattices)) e

      by : (o : Option TableDecl) → slice_get spec.lattices n ≡ o → (l : TableDecl) × (decl.lattice_named spec x ≡ Some l) × (slice_get spec.lattices n ≡ Some l)
      by None h = absurd (true≢false (sym (is_some-lattice spec names are x ∙ ap is_some e) ∙ ap is_some (found ∙ h)))
      by (Some l) h = (l, found ∙ h, h)

  module _ (place : ℕ) (kind : SpecFaultKind) where
    abbrev Faulty : Type 0
    Faulty = IsFaultyDeclaration spec place kind

    in_kind : (k : SpecFaultKind) → kind ≡ k → IsFaultyDeclaration spec place k → Faulty
    in_kind k e h = subst (λ (j : SpecFaultKind). IsFaultyDeclaration spec place j) (sym e) h

    signature_forth : OneHas (ConstructorFaults names) (constructors spec) place kind → Faulty
    signature_forth h = by spec.signature refl h.among
      where
        by : (o : Option Signature) → spec.signature ≡ o → Contains (option_map_or (λ s. s.constructors) o []) h.item → Faulty
        by None is among = absurd (in_none h.item among)
        by (Some signature) is among =
            let n = h.has.item in
            let s = in_flat sort_names h.item.args n h.has.among in
            in_kind kinds.Unknown h.has.has.2
            (decl.unknown n (decl.tree_sort signature h.item s.0 n is among s.1 s.2 (sym (is_sort-signature spec names are n.text signature is) ∙ h.has.has.0)) h.has.has.1)

    lattices_forth : SomeHas (LatticeFaults names) spec.lattices place kind → Faulty
    lattices_forth h = by h.has
      where
        among : Contains spec.lattices h.item
        among = at_in spec.lattices h.at h.item h.is

        by : LatticeFaults names h.at h.item place kind → Faulty
        by (inl (inl (sized, at, of))) = in_kind kinds.Arity of (decl.lattice_arity h.item among sized at)
        by (inl (inr (free, at, of))) =
            in_kind kinds.Unknown of (decl.unknown h.item.bottom (decl.bottom h.item among (sym (is_some-element_of spec names are h.item.bottom.text h.at h.item h.is) ∙ free)) at)
        by (inr o) =
            in_kind kinds.Unknown o.has.2 (decl.unknown o.item (decl.join_entry h.item o.item among o.among (sym (is_some-element_of spec names are o.item.text h.at h.item h.is) ∙ o.has.0)) o.has.1)

    entries_forth : (f : FunctionDecl) → Contains spec.functions f → (o : Option ℕ) → lattice_in names f.result.text ≡ o → EntryFaults names o f.table place kind → Faulty
    entries_forth f among None e h = absurd h
    entries_forth f among (Some n) e h =
        let l = numbered_lattice f.result.text n e in
        in_kind kinds.Unknown h.has.2
        (decl.unknown h.item (decl.function_entry f l.0 h.item among l.1 h.among (sym (is_some-element_of spec names are h.item.text n l.0 l.2) ∙ h.has.0)) h.has.1)

    functions_forth : OneHas (FunctionFaults spec names) spec.functions place kind → Faulty
    functions_forth h = by h.has
      where
        by : FunctionFaults spec names h.item place kind → Faulty
        by (inl (inl (inl o))) = in_kind kinds.Unknown o.has.2 (decl.unknown o.item (decl.argument h.item o.item h.among o.among (no_lattice o.item.text o.has.0)) o.has.1)
        by (inl (inl (inr (free, at, of)))) = in_kind kinds.Unknown of (decl.unknown h.item.result (decl.result h.item h.among (no_lattice h.item.result.text free)) at)
        by (inl (inr o)) = entries_forth h.item h.among (lattice_in names h.item.result.text) refl o
        by (inr (sized, at, of)) = in_kind kinds.Arity of (decl.function_arity h.item h.among sized at)

    properties_forth : OneHas (PropertyFaults names) spec.properties place kind → Faulty
    properties_forth h = by h.has
      where
        by : PropertyFaults names h.item place kind → Faulty
        by (inl (inl (inl o))) = in_kind kinds.Unknown o.has.2 (decl.unknown o.item (decl.enum_of_type h.item o.item h.among o.among (no_enum o.item.text o.has.0)) o.has.1)
        by (inl (inl (inr o))) = in_kind kinds.Unknown o.has.2 (decl.unknown o.item (decl.lattice_of_type h.item o.item h.among o.among (no_lattice o.item.text o.has.0)) o.has.1)
        by (inl (inr (loose, at, of))) = in_kind kinds.Sort of (decl.loose_int h.item h.among loose at)
        by (inr (deep, at, of)) = in_kind kinds.Depth of (decl.deep_type h.item h.among deep at)

    rules_forth : OneHas (RuleFaults spec names) spec.rules place kind → Faulty
    rules_forth h = by h.has
      where
        by : RuleFaults spec names h.item place kind → Faulty
        by (inl (free, at, of)) =
            in_kind kinds.Unknown of (decl.unknown h.item.property (decl.property h.item h.among (none_from_is_some _ (is_some-property spec names are h.item.property.text ∙ free))) at)
        by (inr (turned, at, of)) = in_kind kinds.MixedDirection of (decl.mixed_direction h.item h.among turned at)

    forth : SectionFaults spec names place kind ⊎ RepeatedFaults spec place kind → Faulty
    forth (inl (inl (inl (inl (inl h))))) = signature_forth h
    forth (inl (inl (inl (inl (inr h))))) = lattices_forth h
    forth (inl (inl (inl (inr h)))) = functions_forth h
    forth (inl (inl (inr h))) = properties_forth h
    forth (inl (inr h)) = rules_forth h
    forth (inr h) = in_kind kinds.Duplicate h.of (decl.duplicate h.name h.again h.at)

  module _ (place : ℕ) where
    unknown_back : (n : Named) → IsUnknown spec n → place ≡ n.place → SectionFaults spec names place kinds.Unknown
    unknown_back n (decl.tree_sort signature c s m is among args inside free) at =
        let known : knows names space.Sorts n.text ≡ false = is_sort-signature spec names are n.text signature is ∙ free in
        let within : Contains (constructors spec) c = subst (λ (o : Option Signature). Contains (option_map_or (λ t. t.constructors) o []) c) (sym is) among in
        inl (inl (inl (inl (record { item = c; among = within; has = record { item = n; among = flat_in sort_names c.args s n args inside; has = (known, at, refl) } }))))
    unknown_back n (decl.enum_of_type p m among inside free) at =
        inl (inr (record { item = p; among = among; has = inl (inl (inl (record { item = n; among = inside; has = (enum_unknown n.text free, at, refl) }))) }))
    unknown_back n (decl.lattice_of_type p m among inside free) at =
        inl (inr (record { item = p; among = among; has = inl (inl (inr (record { item = n; among = inside; has = (lattice_unknown n.text free, at, refl) }))) }))
    unknown_back n (decl.argument f m among inside free) at =
        inl (inl (inr (record { item = f; among = among; has = inl (inl (inl (record { item = n; among = inside; has = (lattice_unknown n.text free, at, refl) }))) })))
    unknown_back n (decl.result f among free) at = inl (inl (inr (record { item = f; among = among; has = inl (inl (inr (lattice_unknown f.result.text free, at, refl))) })))
    unknown_back n (decl.bottom l among free) at =
        let k = in_at spec.lattices l among in
        inl (inl (inl (inr (record { at = k.0; item = l; is = k.1; has = inl (inr (is_some-element_of spec names are l.bottom.text k.0 l k.1 ∙ free, at, refl)) }))))
    unknown_back n (decl.join_entry l m among inside free) at =
        let k = in_at spec.lattices l among in
        inl (inl (inl (inr (record { at = k.0; item = l; is = k.1; has = inr (record { item = n; among = inside; has = (is_some-element_of spec names are n.text k.0 l k.1 ∙ free, at, refl) }) }))))
    unknown_back n (decl.function_entry f l m among is inside free) at =
        let k = lattice_number f.result.text l is in
        let free_there : AreUndeclared (knows names (space.Elements k.0)) f.table place kinds.Unknown =
        record { item = n; among = inside; has = (is_some-element_of spec names are n.text k.0 l k.2 ∙ free, at, refl) } in
        inl (inl (inr (record { item = f; among = among; has = inl (inr (subst (λ (o : Option ℕ). EntryFaults names o f.table place kinds.Unknown) (sym k.1) free_there)) })))
    unknown_back n (decl.property r among free) at =
        inr (record { item = r; among = among; has = inl (sym (is_some-property spec names are r.property.text) ∙ ap is_some free, at, refl) })

    back : (kind : SpecFaultKind) → IsFaultyDeclaration spec place kind → SectionFaults spec names place kind ⊎ RepeatedFaults spec place kind
    back kind (decl.unknown n u at) = inl (unknown_back n u at)
    back kind (decl.duplicate n again at) = inr (record { name = n; again = again; at = at; of = refl })
    back kind (decl.lattice_arity l among sized at) =
        let k = in_at spec.lattices l among in
        inl (inl (inl (inl (inr (record { at = k.0; item = l; is = k.1; has = inl (inl (sized, at, refl)) })))))
    back kind (decl.function_arity f among sized at) = inl (inl (inl (inr (record { item = f; among = among; has = inr (sized, at, refl) }))))
    back kind (decl.loose_int p among loose at) = inl (inl (inr (record { item = p; among = among; has = inl (inr (loose, at, refl)) })))
    back kind (decl.mixed_direction r among turned at) = inl (inr (record { item = r; among = among; has = inr (turned, at, refl) }))
    back kind (decl.deep_type p among deep at) = inl (inl (inr (record { item = p; among = among; has = inr (deep, at, refl) })))

  pub whole_faults : {old mid new : Found} → Gathers old mid (SectionFaults spec names) → Gathers mid new (RepeatedFaults spec) → Gathers old new (IsFaultyDeclaration spec)
  whole_faults sections repeated = Gathers-same (Gathers-then sections repeated) (λ place kind. (forth place kind, back place kind))
