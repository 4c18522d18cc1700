-- Names that are bound before, or that are those of items or elements, and parts of messages that aren't bound.
use Rattle.std.proofs.Common.{IsTrue, ◌≡◌, ℕ, Bool, true, false, not, cond, ◌||◌, List, [], ◌∷◌, ◌++◌, map, take, find, Option, Some, None, is_some, bytes_eq, refl, sym, ap, ◌∙◌, inl, inr, true≢false}
use Rattle.std.specs.List.{list_any}
use Rattle.std.proofs.lemmas.Bool.{or_cases, or_left, or_right}
use Rattle.std.proofs.lemmas.List.{map-append}
use Rattle.std.proofs.lemmas.Slice.Eq.{bytes_eq-Decides}
use Rattle.check_base.specs.Earliest.{Gathers, SomeHas, IsFaultWhere}
use Rattle.check_base.proofs.GathersLaws.{Found, Gathers-same}
use Rattle.flow_syntax.specs.declared.fault.SpecFaultKind.{SpecFaultKind}
use Rattle.flow_syntax.specs.declared.fault.SpecFaultKind.TheVariants as kinds
use Rattle.flow_syntax.specs.declared.message.Message.{Message}
use Rattle.flow_syntax.specs.declared.message.Part.{Part}
use Rattle.flow_syntax.specs.declared.message.Part.TheVariants as part
use Rattle.flow_syntax.specs.declared.spec.Spec.{Spec}
use Rattle.flow_syntax.specs.declared.tables.EnumDecl.{EnumDecl}
use Rattle.flow_syntax.specs.declared.tables.TableDecl.{TableDecl}
use Rattle.flow_syntax.specs.Binders.{Binder, Bound, binder_of, bound_in, variable_of}
use Rattle.flow_syntax.specs.ExprFaults.{message_scope}
use Rattle.flow_syntax.specs.Scopes.{variable_named}
use Rattle.flow_syntax.specs.Inferred.{constant_named, constant_typing, enum_with, is_among, lattice_with}
use Rattle.flow_syntax.specs.VariableFaults.{IsLoosePart, IsRebound, again, constant}
use Rattle.flow_syntax.proofs.Listed.{any_at, at_any, at_in, in_at}
use Rattle.check_rules.specs.declared.bindings.Binding.{Binding}
use Rattle.check_rules.specs.Faults.{HasLoosePart, IsRepeatedIn, RebindsIn}
use Rattle.check_rules.specs.inner.Tables.{binder_by, is_constant_in, known_binder, known_bound, known_by}
use Rattle.check_base.proofs.Firsts.{among_first, first_among}
use Rattle.check_base.specs.declared.names.Names.{Names}
use Rattle.check_base.specs.Names.{is_called}
use Rattle.check_base.specs.Tables.{AreNames, lattice_of_element_in}
use Rattle.check_base.proofs.TableLemmas.{is_some-position_from}

-- ITEMS AND ELEMENTS

found_any : {X : Type 0} (test : X → Bool) (xs : List X) → is_some (find test xs) ≡ list_any test xs
found_any test [] = refl
found_any test (x ∷ xs) = by (test x) (found_any test xs)
  where
    by : (b : Bool) → is_some (find test xs) ≡ list_any test xs → is_some (cond b (Some x) (find test xs)) ≡ (b || list_any test xs)
    by true rest = refl
    by false rest = rest

typed : (e : Option EnumDecl) (l : Option TableDecl) → is_some (constant_typing e l) ≡ (is_some e || is_some l)
typed (Some e) l = refl
typed None (Some l) = refl
typed None None = refl

module _ (spec : Spec) (names : Names) (right : AreNames spec names) where
  constant_is : (x : List ℕ) → is_constant_in names x ≡ is_some (constant_named spec x)
  constant_is x =
      let items = ap is_some (right.items x) ∙ is_some-position_from (λ d. list_any (is_called x) d.items) 0 spec.enums ∙ sym (found_any (λ (e : EnumDecl). is_among x e.items) spec.enums) in
      let elements = ap is_some (right.elements x) ∙ is_some-position_from (λ d. list_any (is_called x) d.elements) 0 spec.lattices ∙ sym (found_any (λ (l : TableDecl). is_among x l.elements) spec.lattices) in
      ap (λ (b : Bool). b || is_some (lattice_of_element_in names x)) items ∙ ap (λ (b : Bool). is_some (enum_with spec x) || b) elements ∙ sym (typed (enum_with spec x) (lattice_with spec x))

  -- REPEATED NAMES

  repeats : (bs : List Binder) (place : ℕ) (kind : SpecFaultKind) → SomeHas (IsRepeatedIn names bs) bs place kind → RebindsIn spec bs place kind
  repeats bs place kind h = elim (or_cases (list_any (λ (a : Binder). bytes_eq h.item.name a.name) (take h.at bs)) (is_constant_in names h.item.name) h.has.0) [
    | inl early ↦ (
        let a = any_at (λ (a : Binder). bytes_eq h.item.name a.name) (take h.at bs) early in
        let before = among_first bs h.at a.0 a.1 a.2 in
        (again a.0 h.at a.1 h.item before.1 h.is before.0 (sym ((bytes_eq-Decides h.item.name a.1.name).0 a.3)) h.has.1, h.has.2))
    | inr known ↦ (constant h.item (at_in bs h.at h.item h.is) (sym (constant_is h.item.name) ∙ known) h.has.1, h.has.2)
  ]

  rebinds : (bs : List Binder) (place : ℕ) (kind : SpecFaultKind) → IsRebound spec bs place → kind ≡ kinds.Duplicate → SomeHas (IsRepeatedIn names bs) bs place kind
  rebinds bs place kind (again j k a b first second before same stands) is = record {
    at = k;
    item = b;
    is = second;
    has = (
      or_left (list_any (λ (c : Binder). bytes_eq b.name c.name) (take k bs)) (is_constant_in names b.name)
          (at_any (λ (c : Binder). bytes_eq b.name c.name) (take k bs) j a (first_among bs k j a before first) ((bytes_eq-Decides b.name a.name).1 (sym same))),
      stands,
      is,
    );
  }
  rebinds bs place kind (constant b among known stands) is =
      let k = in_at bs b among in
      record {
        at = k.0;
        item = b;
        is = k.1;
        has = (or_right (list_any (λ (c : Binder). bytes_eq b.name c.name) (take k.0 bs)) (is_constant_in names b.name) (constant_is b.name ∙ known), stands, is);
      }

  pub gathers_rebound : (bs : List Binder) {old new : Found} → Gathers old new (SomeHas (IsRepeatedIn names bs) bs) → Gathers old new (RebindsIn spec bs)
  gathers_rebound bs g = Gathers-same g (λ place kind. (λ h. repeats bs place kind h, λ h. rebinds bs place kind h.0 h.1))

-- WHAT IS BOUND

pub binders_known : (xs : List Binding) → map binder_by xs ≡ map (λ (k : Binder × Bool). k.0) (map known_by xs)
binders_known [] = refl
binders_known (x ∷ xs) = ap (λ ys. binder_by x ∷ ys) (binders_known xs)

bounds_known : (bs : List Bound) → map (λ (k : Binder × Bool). k.0) (map known_bound bs) ≡ map binder_of bs
bounds_known [] = refl
bounds_known (b ∷ bs) = ap (λ ys. binder_of b ∷ ys) (bounds_known bs)

names_known : (bs : List Binder) → map (λ (k : Binder × Bool). k.0) (map known_binder bs) ≡ bs
names_known [] = refl
names_known (b ∷ bs) = ap (λ ys. b ∷ ys) (names_known bs)

-- the names that a pattern binds
pub of_pattern : (xs : List Binding) (bs : List Bound) → map known_by xs ≡ map known_bound bs → map binder_by xs ≡ map binder_of bs
of_pattern xs bs e = binders_known xs ∙ ap (map (λ (k : Binder × Bool). k.0)) e ∙ bounds_known bs

-- and an expression behind it
pub of_both : (xs : List Binding) (bs : List Bound) (cs : List Binder) → map known_by xs ≡ map known_bound bs ++ map known_binder cs → map binder_by xs ≡ map binder_of bs ++ cs
of_both xs bs cs e =
    binders_known xs ∙ ap (map (λ (k : Binder × Bool). k.0)) e ∙ map-append (λ (k : Binder × Bool). k.0) (map known_bound bs) (map known_binder cs)
    ∙ ap (λ ys. ys ++ map (λ (k : Binder × Bool). k.0) (map known_binder cs)) (bounds_known bs) ∙ ap (λ ys. map binder_of bs ++ ys) (names_known cs)

-- PARTS OF MESSAGES

variables_found : (x : List ℕ) (bs : List Bound) → is_some (find (λ v. bytes_eq x v.name) (map variable_of bs)) ≡ list_any (λ (b : Binder). bytes_eq x b.name) (map binder_of bs)
variables_found x [] = refl
variables_found x (b ∷ bs) = by (bytes_eq x b.name) (variables_found x bs)
  where
    by : (t : Bool) → is_some (find (λ v. bytes_eq x v.name) (map variable_of bs)) ≡ list_any (λ (c : Binder). bytes_eq x c.name) (map binder_of bs)
        → is_some (cond t (Some (variable_of b)) (find (λ v. bytes_eq x v.name) (map variable_of bs))) ≡ (t || list_any (λ (c : Binder). bytes_eq x c.name) (map binder_of bs))
    by true rest = refl
    by false rest = rest

none_is : {A : Type 0} (o : Option A) → not (is_some o) ≡ true → o ≡ None
none_is None h = refl
none_is (Some a) h = absurd (true≢false (sym h))

-- what is told of a part, where these are the names that the pattern binds
abbrev pub LooseBy : (List ℕ → Bool) → Part → ℕ → SpecFaultKind → Type 0
LooseBy has (part.Words text) place kind = ⊥
LooseBy has (part.Bound named) place kind = IsFaultWhere (IsTrue (not (has named.text))) named.place kinds.Unbound place kind

module _ (m : Message) (has : List ℕ → Bool) (right : (x : List ℕ) → has x ≡ list_any (λ (b : Binder). bytes_eq x b.name) (map binder_of (bound_in m.pattern))) where
  bound_is : (x : List ℕ) → has x ≡ is_some (variable_named (message_scope m) x)
  bound_is x = right x ∙ sym (variables_found x (bound_in m.pattern))

  loose_part : (p : Part) (place : ℕ) (kind : SpecFaultKind) → LooseBy has p place kind → IsLoosePart m p place × (kind ≡ kinds.Unbound)
  loose_part (part.Words text) place kind h = absurd h
  loose_part (part.Bound named) place kind h = ((none_is _ (ap not (sym (bound_is named.text)) ∙ h.0), h.1), h.2)

  part_loose : (p : Part) (place : ℕ) (kind : SpecFaultKind) → IsLoosePart m p place → kind ≡ kinds.Unbound → LooseBy has p place kind
  part_loose (part.Words text) place kind h e = absurd h
  part_loose (part.Bound named) place kind h e = (ap not (bound_is named.text ∙ ap is_some h.0), h.1, e)

  pub gathers_loose : {old new : Found} → Gathers old new (SomeHas (λ k. LooseBy has) m.parts) → Gathers old new (HasLoosePart m)
  gathers_loose g = Gathers-same g (λ place kind. (forth place kind, back place kind))
    where
      forth : (place : ℕ) (kind : SpecFaultKind) → SomeHas (λ k. LooseBy has) m.parts place kind → HasLoosePart m place kind
      forth place kind h = let l = loose_part h.item place kind h.has in record { loose_part = h.item; among = at_in m.parts h.at h.item h.is; loose = l.0; stands = l.1 }

      back : (place : ℕ) (kind : SpecFaultKind) → HasLoosePart m place kind → SomeHas (λ k. LooseBy has) m.parts place kind
      back place kind h = let k = in_at m.parts h.loose_part h.among in record { at = k.0; item = h.loose_part; is = k.1; has = part_loose h.loose_part place kind h.loose h.stands }
